use Rattle.std.proofs.Common.{◌<◌, List, length, refl, sym, subst, w64, to_z, of_z, heap_items}
use Rattle.sp_search.specs.declared.labels.Label.{Label}
use Rattle.sp_search.specs.declared.labels.Labels.TheInside.{Inside}
use Rattle.sp_search.specs.Waiting.{AreWaiting}
use Rattle.sp_search.proofs.Heaps.{one_waits}
use Rattle.sp_search.proofs.labels.Labels.lower.Goals as goal
use Rattle.sp_search.proofs.labels.Labels.lower.Goals.{in-Unseen, in-Queued, in-Taken}

pub invariant_of-self-then-falls : goal.invariant_of-self-then-falls
invariant_of-self-then-falls c =
    let P : Inside → Type 0 = λ x. AreWaiting (heap_items x.heap) x.entries.items × (c.args.node < length x.entries.items) in
    let R : List Label → Type 0 = λ xs. c.args.node < length xs in
    let start : P c.self.inside = (c.self.invariant, subst R (sym c.self.view_is) c.requires) in
    let now : P c.match-index.self-inside = elim c.match-index.branch [
      | in-Unseen w ↦ subst P (sym w.self-inside-is) start
      | in-Queued w ↦ subst P (sym w.self-inside-is) start
      | in-Taken w ↦ subst P (sym w.self-inside-is) start
    ] in
    one_waits (heap_items c.match-index.self-inside.heap) (heap_items c.push.new.self) c.match-index.self-inside.entries.items c.args.node (to_z w64 (of_z w64 c.args.dist))
    now.0 now.1 c.in_ok-push.ensures.permutation c.in_ok-push.ensures.heap_order _ refl
