-- The node and its member go together.
use Rattle.std.proofs.Common.{◌≡◌, ap, sym, subst, ◌∙◌}
use Rattle.std.specs.FinMap as map
use Rattle.item_list.specs.Items.{Items, AreItems, Holds, Lacks, Removes, items, pairs_without}
use Rattle.item_list.specs.Kept.{items_of, IsKept}
use Rattle.item_list.proofs.Exits.{err_out}
use Rattle.item_list.proofs.Steps.{is_whole, holds, lacks, is_linked, kept_left, items_left}
use Rattle.item_list.proofs.chain.Chain.del_item.Goals as goal

pub unlink-requires : goal.unlink-requires
unlink-requires g c =
    let a = c.self.inside in
    is_linked a.rings a.head a.nodes c.self.invariant c.args.it.serial c.in_ok-node.node c.in_ok-node.ensures.held.0

pub invariant_of-self-2 : goal.invariant_of-self-2
invariant_of-self-2 g c =
    let a = c.self.inside in
    kept_left a.rings c.drop_member.new.self a.head a.nodes c.remove.new.self c.self.invariant c.args.it.serial c.in_ok-node.node c.in_ok-node.ensures.held.0
    (λ h l. c.drop_member.ensures.same.0 ∙ c.unlink.ensures.rings h l)
    (c.drop_member.ensures.tags ∙ ap (λ r. map.remove r c.in_ok-node.node.member) c.unlink.ensures.tags) c.drop_member.ensures.apart c.in_ok-node.ensures.live c.in_ok-node.ensures.made

pub invariant_of-self : goal.invariant_of-self
invariant_of-self g c = subst (IsKept c.self.inside.rings c.self.inside.head) (sym c.in_err-node.ensures.1) c.self.invariant

pub returns-clause-answer : goal.returns-clause-answer
returns-clause-answer g c =
    let a = c.self.inside in (
      subst (λ (l : Items g.row.E.Denot). Holds l c.args.it.serial c.in_ok-node.node.value) c.self.view_is (holds a.rings a.head a.nodes c.self.invariant c.args.it.serial c.in_ok-node.node c.in_ok-node.ensures.held.0),
      items_left a.rings c.drop_member.new.self a.head a.nodes c.remove.new.self c.self.invariant c.args.it.serial c.in_ok-node.node c.in_ok-node.ensures.held.0
          (λ h l. c.drop_member.ensures.same.0 ∙ c.unlink.ensures.rings h l)
          (c.drop_member.ensures.tags ∙ ap (λ r. map.remove r c.in_ok-node.node.member) c.unlink.ensures.tags) c.drop_member.ensures.apart c.in_ok-node.ensures.live c.in_ok-node.ensures.made
          ∙ ap (λ (l : Items g.row.E.Denot). items (pairs_without c.args.it.serial l.pairs) l.made) c.self.view_is,
    )

pub returns-in_err-node-clause-answer : goal.returns-in_err-node-clause-answer
returns-in_err-node-clause-answer g c =
    let a = c.self.inside in
    let why = c.in_err-node.field-0.0 in
    let l = items_of a.rings a.head c.remove.new.self in
    err_out c.from_residual.result (Removes c.args.self.now l c.args.it.serial) (λ e. Lacks c.args.self.now c.args.it.serial e × (l ≡ c.args.self.now)) why c.from_residual.ensures.1
    (subst (λ (o : Items g.row.E.Denot). Lacks o c.args.it.serial why) c.self.view_is (lacks a.rings a.head a.nodes c.self.invariant c.args.it.serial why c.in_err-node.ensures.0), ap (items_of a.rings a.head) c.in_err-node.ensures.1 ∙ c.self.view_is)

pub returns-clause-whole : goal.returns-clause-whole
returns-clause-whole g c =
    let a = c.self.inside in
    subst (λ (l : Items g.row.E.Denot). AreItems l) c.self.view_is (is_whole a.rings a.head a.nodes c.self.invariant)

pub returns-in_err-node-clause-whole : goal.returns-in_err-node-clause-whole
returns-in_err-node-clause-whole g c =
    let a = c.self.inside in
    subst (λ (l : Items g.row.E.Denot). AreItems l) c.self.view_is (is_whole a.rings a.head a.nodes c.self.invariant)
