-- The object comes into a free place.
use Rattle.std.proofs.Common.{◌≡◌, ◌≢◌, None, refl, sym, ap, subst, ◌∙◌, inl, inr}
use Rattle.std.specs.FinMap as finmap
use Rattle.script_text.specs.declared.form.Kinds.TheVariants.{Any}
use Rattle.object_store.specs.declared.objects.TheConstants.{OBJECT_LIMIT}
use Rattle.object_store.specs.declared.slots.Named.{Named}
use Rattle.object_store.specs.State.{ObjectState}
use Rattle.object_store.specs.Views.{has_object}
use Rattle.object_store.specs.Inner.{seen}
use Rattle.object_store.specs.Slots.{found}
use Rattle.object_store.specs.Kept.{Places, state_of, IsKept}
use Rattle.object_store.proofs.Makes.{kept_put, made_state, none_named, count_is}
use Rattle.object_store.proofs.Looks.{come_full}
use Rattle.object_store.proofs.objects.Objects.come_in.Goals as goal
use Rattle.object_store.proofs.objects.Objects.come_in.Goals.{in-Ok-put, in-Err}

pub returns-then-count-eq-OBJECT_LIMIT-clause-gives : goal.returns-then-count-eq-OBJECT_LIMIT-clause-gives
returns-then-count-eq-OBJECT_LIMIT-clause-gives c =
    let a = c.self.inside in
    let full : finmap.len c.args.self.now.objects ≡ OBJECT_LIMIT =
    ap (λ (s : ObjectState). finmap.len s.objects) (sym c.self.view_is)
    ∙ count_is a.slots.items c.as_slice.result.now a.cells c.self.invariant c.as_slice.ensures.value ∙ sym c.count.ensures ∙ c.if-count-eq-OBJECT_LIMIT.true in
    inr (sym (come_full c.args.name.now (seen c.args.object) c.args.self.now full))

abbrev none_there : (c : goal.Joined-put) → found c.in-Ok.name c.self.inside.slots.items ≡ None
none_there c =
    let a = c.self.inside in
    ap (λ x. found x a.slots.items) c.in-Ok.ensures
    ∙ none_named a.slots.items a.cells c.args.name.now (ap (λ (s : ObjectState). has_object s Any c.args.name.now) c.self.view_is ∙ c.requires.there)

pub invariant_of-self : goal.invariant_of-self
invariant_of-self c =
    let a = c.self.inside in
    let n : Named = record { name = c.in-Ok.name; object = c.args.object } in
    elim c.match-put.branch [
      | in-Ok-put w ↦ kept_put a.slots.items c.put.new.slots.items n w.in-Ok-put.ensures.ok (none_there c) a.cells c.requires.bare c.requires.start c.self.invariant
      | in-Err w ↦ subst (λ (ps : Places). IsKept ps a.cells) (sym w.in-Err.ensures.err) c.self.invariant
    ]

pub returns-clause-gives : goal.returns-clause-gives
returns-clause-gives c =
    let a = c.self.inside in
    let n : Named = record { name = c.in-Ok.name; object = c.args.object } in
    let few : finmap.len c.args.self.now.objects ≢ OBJECT_LIMIT = λ full.
    c.if-count-eq-OBJECT_LIMIT.false (c.count.ensures
    ∙ sym (count_is a.slots.items c.as_slice.result.now a.cells c.self.invariant c.as_slice.ensures.value)
    ∙ ap (λ (s : ObjectState). finmap.len s.objects) c.self.view_is ∙ full) in
    elim c.match-put.branch [
      | in-Ok-put w ↦ inr (made_state a.slots.items c.put.new.slots.items a.cells n c.args.name.now c.args.self.now c.match-put.result w.in-Ok-put.ensures.ok (none_there c) c.in-Ok.ensures c.self.view_is few w.result-is)
      | in-Err w ↦ inl (record { may = refl; answer = w.result-is; state = ap (λ (ps : Places). state_of ps a.cells) w.in-Err.ensures.err ∙ c.self.view_is })
    ]
