-- The new member is linked beside the item's.
use Rattle.std.proofs.Common.{◌≡◌, ◌+◌, refl, subst, ◌∙◌}
use Rattle.item_list.specs.Items.{Items, AreItems, Enters, HasItem, Lacks, ReturnsBeside, beside_of}
use Rattle.item_list.specs.Kept.{items_of}
use Rattle.item_list.specs.Sides.{pairs_beside}
use Rattle.item_list.proofs.Exits.{err_out}
use Rattle.item_list.proofs.Enters.{beside_linked, enters_beside, beside_returns, kept_out, items_out}
use Rattle.item_list.proofs.Steps.{is_whole, holds, lacks}
use Rattle.item_list.proofs.chain.Chain.put_beside.Goals as goal

pub returns-in-Err-clause-err : goal.returns-in-Err-clause-err
returns-in-Err-clause-err g c =
    let a = c.self.inside in
    ((refl, subst (λ (l : Items g.row.E.Denot). Lacks l c.args.at.serial c.in-Err.why) c.self.view_is (lacks a.rings a.head a.nodes c.self.invariant c.args.at.serial c.in-Err.why c.in-Err.ensures)), refl)

pub link_beside-requires-clause-at : goal.link_beside-requires-clause-at
link_beside-requires-clause-at g c =
    let a = c.self.inside in
    (c.in_ok-_ring._ring, beside_linked a.rings c.enter.new.rings c.enter.new.rings a.head c.enter.new.head a.nodes c.enter.new.nodes c.in_ok-_ring._ring c.in_ok-_ring.member c.in_ok-_ring.item c.args.v c.self.invariant c.in_ok-_ring.ensures.ok refl c.in_ok-_ring.ensures.ok.makes.apart c.args.at.serial c.in-Ok.node.now c.in-Ok.ensures.0)

pub invariant_of-self-2 : goal.invariant_of-self-2
invariant_of-self-2 g c =
    let a = c.self.inside in
    (enters_beside a.rings c.enter.new.rings c.link_beside.new.rings a.head c.enter.new.head a.nodes c.enter.new.nodes c.in_ok-_ring._ring c.in_ok-_ring.member c.in_ok-_ring.item c.args.v c.self.invariant c.in_ok-_ring.ensures.ok c.link_beside.ensures.tags c.link_beside.ensures.apart c.args.at.serial c.in-Ok.node.now c.in-Ok.ensures.0 c.args.side c.link_beside.ensures.rings).0

pub invariant_of-self : goal.invariant_of-self
invariant_of-self g c =
    let a = c.self.inside in
    kept_out a.rings c.enter.new.rings a.head c.enter.new.head a.nodes c.enter.new.nodes c.args.v c.in_err-_ring.field-0.0 c.self.invariant c.in_err-_ring.ensures.err

pub returns-clause-ok : goal.returns-clause-ok
returns-clause-ok g c =
    let a = c.self.inside in
    subst (λ (l : Items g.row.E.Denot). HasItem l c.args.at.serial × Enters l (items_of c.link_beside.new.rings c.enter.new.head c.enter.new.nodes) c.in_ok-_ring.item (pairs_beside c.args.side c.args.at.serial (l.made + 1, c.args.v) l.pairs)) c.self.view_is
    ((c.in-Ok.node.now.value, holds a.rings a.head a.nodes c.self.invariant c.args.at.serial c.in-Ok.node.now c.in-Ok.ensures.0), (enters_beside a.rings c.enter.new.rings c.link_beside.new.rings a.head c.enter.new.head a.nodes c.enter.new.nodes c.in_ok-_ring._ring c.in_ok-_ring.member c.in_ok-_ring.item c.args.v c.self.invariant c.in_ok-_ring.ensures.ok c.link_beside.ensures.tags c.link_beside.ensures.apart c.args.at.serial c.in-Ok.node.now c.in-Ok.ensures.0 c.args.side c.link_beside.ensures.rings).1)

pub returns-in_err-_ring-clause-err : goal.returns-in_err-_ring-clause-err
returns-in_err-_ring-clause-err g c =
    let a = c.self.inside in
    let why = c.in_err-_ring.field-0.0 in
    let l = items_of c.enter.new.rings c.enter.new.head c.enter.new.nodes in
    let has : HasItem (items_of a.rings a.head a.nodes) c.args.at.serial = (c.in-Ok.node.now.value, holds a.rings a.head a.nodes c.self.invariant c.args.at.serial c.in-Ok.node.now c.in-Ok.ensures.0) in
    err_out c.from_residual.result (λ _. Unit {0}) (λ e. ReturnsBeside c.args.self.now c.args.at.serial c.args.v e × (l ≡ c.args.self.now)) (beside_of why) c.from_residual.ensures.1 (
      subst (λ (o : Items g.row.E.Denot). ReturnsBeside o c.args.at.serial c.args.v (beside_of why)) c.self.view_is
          (beside_returns (items_of a.rings a.head a.nodes) c.args.at.serial c.args.v why has c.in_err-_ring.ensures.err.returns),
      items_out a.rings c.enter.new.rings a.head c.enter.new.head a.nodes c.enter.new.nodes c.args.v why c.self.invariant c.in_err-_ring.ensures.err ∙ c.self.view_is,
    )

pub returns-in-Err-clause-whole : goal.returns-in-Err-clause-whole
returns-in-Err-clause-whole g c =
    let a = c.self.inside in
    subst (λ (l : Items g.row.E.Denot). AreItems l) c.self.view_is (is_whole a.rings a.head a.nodes c.self.invariant)

pub returns-clause-whole : goal.returns-clause-whole
returns-clause-whole g c =
    let a = c.self.inside in
    subst (λ (l : Items g.row.E.Denot). AreItems l) c.self.view_is (is_whole a.rings a.head a.nodes c.self.invariant)

pub returns-in_err-_ring-clause-whole : goal.returns-in_err-_ring-clause-whole
returns-in_err-_ring-clause-whole g c =
    let a = c.self.inside in
    subst (λ (l : Items g.row.E.Denot). AreItems l) c.self.view_is (is_whole a.rings a.head a.nodes c.self.invariant)
