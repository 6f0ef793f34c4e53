-- The pool has the value under the serial.
use Rattle.std.proofs.Common.{subst}
use Rattle.item_list.specs.Items.{Items, AreItems, Holds, Lacks}
use Rattle.item_list.proofs.Exits.{err_out}
use Rattle.item_list.proofs.Steps.{is_whole, holds, lacks}
use Rattle.item_list.proofs.chain.Chain.contents.Goals as goal

pub returns-clause-answer : goal.returns-clause-answer
returns-clause-answer g c =
    let a = c.self.inside in
    subst (λ (l : Items g.row.E.Denot). Holds l c.args.it.serial c.in_ok-node.node.now.value) c.self.view_is (holds a.rings a.head a.nodes c.self.invariant c.args.it.serial c.in_ok-node.node.now c.in_ok-node.ensures.0)

pub returns-in_err-node-clause-answer : goal.returns-in_err-node-clause-answer
returns-in_err-node-clause-answer g c =
    let a = c.self.inside in
    let why = c.in_err-node.field-0.0 in
    err_out c.from_residual.result (λ v. Holds c.args.self.now c.args.it.serial v.now) (Lacks c.args.self.now c.args.it.serial) why c.from_residual.ensures.1
    (subst (λ (l : Items g.row.E.Denot). Lacks l c.args.it.serial why) c.self.view_is (lacks a.rings a.head a.nodes c.self.invariant c.args.it.serial why c.in_err-node.ensures))

pub returns-clause-whole : goal.returns-clause-whole
returns-clause-whole g c =
    let a = c.self.inside in
    subst (λ (l : Items g.row.E.Denot). AreItems l) c.self.view_is (is_whole a.rings a.head a.nodes c.self.invariant)

pub returns-in_err-node-clause-whole : goal.returns-in_err-node-clause-whole
returns-in_err-node-clause-whole g c =
    let a = c.self.inside in
    subst (λ (l : Items g.row.E.Denot). AreItems l) c.self.view_is (is_whole a.rings a.head a.nodes c.self.invariant)
