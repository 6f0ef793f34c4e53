-- The member beside it has the serial beside it for its tag.
use Rattle.std.proofs.Common.{Some, None, refl, subst}
use Rattle.item_list.specs.Items.{Items, Lacks}
use Rattle.item_list.specs.Sides.{IsBeside}
use Rattle.item_list.proofs.Exits.{err_out}
use Rattle.item_list.proofs.Neighbours.{near_named, near_is, near_is_none}
use Rattle.item_list.proofs.Steps.{holds, lacks, is_linked}
use Rattle.item_list.proofs.chain.Chain.item_beside.Goals as goal

pub member_beside-requires : goal.member_beside-requires
member_beside-requires g c =
    let a = c.self.inside in
    is_linked a.rings a.head a.nodes c.self.invariant c.args.it.serial c.in_ok-node.node.now c.in_ok-node.ensures.0

pub item_at-requires : goal.item_at-requires
item_at-requires g c =
    let a = c.self.inside in
    near_named c.args.side a.rings a.head a.nodes c.self.invariant c.args.it.serial c.in_ok-node.node.now c.in_ok-node.ensures.0 (Some c.in-Some.near) c.in-Some.ensures c.in-Some.near refl

pub returns-in-Some : goal.returns-in-Some
returns-in-Some g c =
    let a = c.self.inside in
    subst (λ (l : Items g.row.E.Denot). IsBeside c.args.side l c.args.it.serial (Some c.item_at.result)) c.self.view_is (
      (c.in_ok-node.node.now.value, holds a.rings a.head a.nodes c.self.invariant c.args.it.serial c.in_ok-node.node.now c.in_ok-node.ensures.0),
      λ before behind has. near_is c.args.side a.rings a.head a.nodes c.self.invariant c.args.it.serial c.in_ok-node.node.now c.in_ok-node.ensures.0 before behind has (Some c.in-Some.near) c.in-Some.ensures c.in-Some.near c.item_at.result.serial refl c.item_at.ensures,
    )

pub returns-in-None : goal.returns-in-None
returns-in-None g c =
    let a = c.self.inside in
    subst (λ (l : Items g.row.E.Denot). IsBeside c.args.side l c.args.it.serial None) c.self.view_is (
      (c.in_ok-node.node.now.value, holds a.rings a.head a.nodes c.self.invariant c.args.it.serial c.in_ok-node.node.now c.in_ok-node.ensures.0),
      λ before behind has. near_is_none c.args.side a.rings a.head a.nodes c.self.invariant c.args.it.serial c.in_ok-node.node.now c.in_ok-node.ensures.0 before behind has None c.in-None.ensures refl,
    )

pub returns-in_err-node : goal.returns-in_err-node
returns-in_err-node g c =
    let a = c.self.inside in
    let why = c.in_err-node.field-0.0 in
    err_out c.from_residual.result (IsBeside c.args.side c.args.self.now c.args.it.serial) (Lacks c.args.self.now c.args.it.serial) why c.from_residual.ensures.1
    (subst (λ (l : Items g.row.E.Denot). Lacks l c.args.it.serial why) c.self.view_is (lacks a.rings a.head a.nodes c.self.invariant c.args.it.serial why c.in_err-node.ensures))
