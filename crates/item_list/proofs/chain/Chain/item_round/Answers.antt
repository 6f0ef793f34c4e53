-- The member beside it, round the ends, has the serial beside it for its tag.
use Rattle.std.proofs.Common.{subst}
use Rattle.item_list.specs.Items.{Items, Lacks}
use Rattle.item_list.specs.Sides.{IsCyclicBeside}
use Rattle.item_list.proofs.Exits.{err_out}
use Rattle.item_list.proofs.Neighbours.{round_named, round_is}
use Rattle.item_list.proofs.Steps.{holds, lacks, is_linked}
use Rattle.item_list.proofs.chain.Chain.item_round.Goals as goal

pub member_round-near-requires : goal.member_round-near-requires
member_round-near-requires g c =
    let a = c.self.inside in
    is_linked a.rings a.head a.nodes c.self.invariant c.args.it.serial c.in_ok-node.node.now c.in_ok-node.ensures.0

pub item_at-requires : goal.item_at-requires
item_at-requires g c =
    let a = c.self.inside in
    round_named c.args.side a.rings a.head a.nodes c.self.invariant c.args.it.serial c.in_ok-node.node.now c.in_ok-node.ensures.0 c.member_round-near.result c.member_round-near.ensures

pub returns : goal.returns
returns g c =
    let a = c.self.inside in
    subst (λ (l : Items g.row.E.Denot). IsCyclicBeside c.args.side l c.args.it.serial c.item_at.result) c.self.view_is (
      (c.in_ok-node.node.now.value, holds a.rings a.head a.nodes c.self.invariant c.args.it.serial c.in_ok-node.node.now c.in_ok-node.ensures.0),
      λ before behind has. round_is c.args.side a.rings a.head a.nodes c.self.invariant c.args.it.serial c.in_ok-node.node.now c.in_ok-node.ensures.0 before behind has c.member_round-near.result c.item_at.result.serial c.member_round-near.ensures c.item_at.ensures,
    )

pub returns-in_err-node : goal.returns-in_err-node
returns-in_err-node g c =
    let a = c.self.inside in
    let why = c.in_err-node.field-0.0 in
    err_out c.from_residual.result (IsCyclicBeside c.args.side c.args.self.now c.args.it.serial) (Lacks c.args.self.now c.args.it.serial) why c.from_residual.ensures.1
    (subst (λ (l : Items g.row.E.Denot). Lacks l c.args.it.serial why) c.self.view_is (lacks a.rings a.head a.nodes c.self.invariant c.args.it.serial why c.in_err-node.ensures))
