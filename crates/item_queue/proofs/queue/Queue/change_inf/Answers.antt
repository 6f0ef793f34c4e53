-- The entry keeps its handle and its priority.
use Rattle.std.proofs.Common.{sym, ap, ◌∙◌, subst}
use Rattle.std.proofs.lemmas.Result.{err_from_is_err_and}
use Rattle.item_queue.specs.Contents.{Queued, Lacks, ChangesInformation}
use Rattle.item_queue.specs.Heap.{priced_of}
use Rattle.item_queue.specs.IsQueue.{seen}
use Rattle.item_queue.proofs.Informed.{informed, informed_queue, informed_seen}
use Rattle.item_queue.proofs.Items.{get_items}
use Rattle.item_queue.proofs.queue.Queue.change_inf.Goals as goal

pub returns-in_err-entry : goal.returns-in_err-entry
returns-in_err-entry g c =
    let s = c.args.it.serial in let h = c.in_err-entry.ensures.value in
    let lacks = subst (λ (q : Queued g.row.I.Denot). Lacks q s c.in_err-entry.field-0.0) c.self.view_is (get_items c.self.inside.pool.live s ∙ ap priced_of h.0, h.1) in
    let p = err_from_is_err_and c.from_residual.result c.from_residual.ensures.1 in rw (p.1, p.2) (lacks, c.self.view_is)

pub invariant_of-self-2 : goal.invariant_of-self-2
invariant_of-self-2 g c = informed_queue c.self.inside c.self.invariant c.args.it.serial c.in_ok-entry.entry.now c.replace.new.dest c.in_ok-entry.ensures.value.0

pub returns : goal.returns
returns g c =
    let X = g.row.I.Denot in let p = c.self.inside in let s = c.args.it.serial in let e = c.in_ok-entry.entry.now in let x = c.replace.new.dest in
    let done = informed_seen p c.self.invariant s e x c.in_ok-entry.ensures.value.0 in
    subst (λ y. ChangesInformation c.args.self.now (seen (informed p s e x)) s c.replace.result y) c.replace.ensures.after
    (subst (λ old. ChangesInformation c.args.self.now (seen (informed p s e x)) s old x) (sym c.replace.ensures.value)
    (subst (λ (o : Queued X). ChangesInformation o (seen (informed p s e x)) s e.inf x) c.self.view_is done))
