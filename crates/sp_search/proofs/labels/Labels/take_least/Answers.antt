use Rattle.std.proofs.Common.{◌≡◌, List, set, refl, sym, ap, subst, ◌∙◌, heap_items}
use Rattle.sp_search.specs.declared.labels.Label.{Label}
use Rattle.sp_search.specs.declared.labels.Label.TheVariants.{Queued, Taken}
use Rattle.sp_search.specs.Labels.{label_at, AreSmall, IsLeast}
use Rattle.sp_search.proofs.Heaps.{take_out, is_least, pass_by}
use Rattle.sp_search.proofs.labels.Labels.take_least.Goals as goal

pub is_label-requires-clause-small : goal.is_label-requires-clause-small
is_label-requires-clause-small c =
    let P : List Label → Type 0 = λ l. AreSmall l in
    subst P (sym (c.as_slice.ensures.value ∙ c.loop-least.invariant.1)) c.requires.small

pub invariant_of-self : goal.invariant_of-self
invariant_of-self c =
    let h = c.loop-least.invariant.0 in
    let P : List Label → Type 0 = λ l. label_at l c.in-Some.least.node ≡ Queued c.in-Some.least.dist in
    take_out (heap_items c.loop-least.self-inside.heap) (heap_items c.pop.new.self) c.loop-least.self-inside.entries.items c.in-Some.least h c.in-Some.ensures.permutation
    (c.in-Some.ensures.heap_order h.order).0 (subst P c.as_slice.ensures.value c.if-is_label.ensures) _ refl

pub returns-then-is_label : goal.returns-then-is_label
returns-then-is_label c =
    let h = c.loop-least.invariant.0 in
    let e = c.loop-least.invariant.1 in
    let o = c.in-Some.ensures.heap_order h.order in
    let P : List Label → Type 0 = λ l. label_at l c.in-Some.least.node ≡ Queued c.in-Some.least.dist in
    let R : List Label → Type 0 = λ l. IsLeast l c.in-Some.least in (
      ap (λ (l : List Label). set l c.in-Some.least.node Taken) e,
      subst R e (is_least (heap_items c.loop-least.self-inside.heap) (heap_items c.pop.new.self) c.loop-least.self-inside.entries.items c.in-Some.least h c.in-Some.ensures.permutation
          o.0 (subst P c.as_slice.ensures.value c.if-is_label.ensures) o.1),
    )

pub loop-least-preserved : goal.loop-least-preserved
loop-least-preserved c =
    let h = c.loop-least.invariant.0 in
    let P : List Label → Type 0 = λ l. label_at l c.in-Some.least.node ≡ Queued c.in-Some.least.dist → ⊥ in (
      pass_by (heap_items c.loop-least.self-inside.heap) (heap_items c.pop.new.self) c.loop-least.self-inside.entries.items c.in-Some.least h c.in-Some.ensures.permutation
          (c.in-Some.ensures.heap_order h.order).0 (subst P c.as_slice.ensures.value c.if-is_label.ensures),
      c.loop-least.invariant.1,
    )
