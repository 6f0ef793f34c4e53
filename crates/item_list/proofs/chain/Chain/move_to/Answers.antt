-- The member is taken out of its ring and linked in again.
use Rattle.std.proofs.Common.{◌≡◌, refl, subst}
use Rattle.item_list.specs.Items.{Items, AreItems, Lacks}
use Rattle.item_list.specs.Sides.{MovesTo}
use Rattle.item_list.specs.Kept.{items_of}
use Rattle.item_list.proofs.Exits.{err_out}
use Rattle.item_list.proofs.Steps.{is_whole, holds, lacks, is_linked, moves_to, head_stays}
use Rattle.item_list.proofs.chain.Chain.move_to.Goals as goal

pub head_of-ring-requires : goal.head_of-ring-requires
head_of-ring-requires g c =
    let a = c.self.inside in
    is_linked a.rings a.head a.nodes c.self.invariant c.args.it.serial c.in_ok-node.node.now c.in_ok-node.ensures.0

pub link_at-requires-clause-head : goal.link_at-requires-clause-head
link_at-requires-clause-head g c =
    let a = c.self.inside in
    head_stays a.rings c.unlink.new.self c.unlink.new.self a.head a.nodes c.self.invariant c.args.it.serial c.in_ok-node.node.now c.in_ok-node.ensures.0 c.head_of-ring.result c.head_of-ring.ensures.head c.unlink.ensures.rings c.unlink.ensures.tags refl c.unlink.ensures.apart

pub invariant_of-self : goal.invariant_of-self
invariant_of-self g c =
    let a = c.self.inside in
    (moves_to a.rings c.unlink.new.self c.link_at.new.rings a.head a.nodes c.self.invariant c.args.it.serial c.in_ok-node.node.now c.in_ok-node.ensures.0 c.head_of-ring.result c.head_of-ring.ensures.head c.unlink.ensures.rings c.unlink.ensures.tags c.link_at.ensures.tags c.link_at.ensures.apart c.args.side c.link_at.ensures.rings).0

pub returns-clause-answer : goal.returns-clause-answer
returns-clause-answer g c =
    let a = c.self.inside in
    subst (λ (l : Items g.row.E.Denot). MovesTo c.args.side l (items_of c.link_at.new.rings a.head a.nodes) c.args.it.serial) c.self.view_is (
      c.in_ok-node.node.now.value,
      (
        holds a.rings a.head a.nodes c.self.invariant c.args.it.serial c.in_ok-node.node.now c.in_ok-node.ensures.0,
        (moves_to a.rings c.unlink.new.self c.link_at.new.rings a.head a.nodes c.self.invariant c.args.it.serial c.in_ok-node.node.now c.in_ok-node.ensures.0 c.head_of-ring.result c.head_of-ring.ensures.head c.unlink.ensures.rings c.unlink.ensures.tags c.link_at.ensures.tags c.link_at.ensures.apart c.args.side c.link_at.ensures.rings).1,
      ),
    )

pub returns-in_err-node-clause-answer : goal.returns-in_err-node-clause-answer
returns-in_err-node-clause-answer g c =
    let a = c.self.inside in
    let why = c.in_err-node.field-0.0 in
    err_out c.from_residual.result (λ _. MovesTo c.args.side c.args.self.now c.args.self.now c.args.it.serial) (λ e. Lacks c.args.self.now c.args.it.serial e × (c.args.self.now ≡ c.args.self.now)) why c.from_residual.ensures.1
    (subst (λ (l : Items g.row.E.Denot). Lacks l c.args.it.serial why) c.self.view_is (lacks a.rings a.head a.nodes c.self.invariant c.args.it.serial why c.in_err-node.ensures), refl)

pub returns-clause-whole : goal.returns-clause-whole
returns-clause-whole g c =
    let a = c.self.inside in
    subst (λ (l : Items g.row.E.Denot). AreItems l) c.self.view_is (is_whole a.rings a.head a.nodes c.self.invariant)

pub returns-in_err-node-clause-whole : goal.returns-in_err-node-clause-whole
returns-in_err-node-clause-whole g c =
    let a = c.self.inside in
    subst (λ (l : Items g.row.E.Denot). AreItems l) c.self.view_is (is_whole a.rings a.head a.nodes c.self.invariant)
