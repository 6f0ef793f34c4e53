-- The node keeps its member, and has the new value.
use Rattle.std.proofs.Common.{◌≡◌, refl, sym, ap, subst, ◌∙◌}
use Rattle.std.specs.FinMap as map
use Rattle.item_pool.specs.Contents.{contents}
use Rattle.item_list.specs.Items.{Items, AreItems, items, Holds, Lacks, Assigns, pairs_with}
use Rattle.item_list.specs.Kept.{items_of, node}
use Rattle.item_list.proofs.Exits.{err_out}
use Rattle.item_list.proofs.Steps.{is_whole, holds, lacks, kept_given, items_given}
use Rattle.item_list.proofs.chain.Chain.assign.Goals as goal

pub invariant_of-self : goal.invariant_of-self
invariant_of-self g c = c.self.invariant

pub returns-in_err-node-clause-answer : goal.returns-in_err-node-clause-answer
returns-in_err-node-clause-answer g c =
    let a = c.self.inside in
    let why = c.in_err-node.field-0.0 in
    let l = items_of a.rings a.head a.nodes in
    err_out c.from_residual.result (λ old. Assigns c.args.self.now l c.args.it.serial old c.args.v) (λ e. Lacks c.args.self.now c.args.it.serial e × (l ≡ c.args.self.now)) why c.from_residual.ensures.1
    (subst (λ (o : Items g.row.E.Denot). Lacks o c.args.it.serial why) c.self.view_is (lacks a.rings a.head a.nodes c.self.invariant c.args.it.serial why c.in_err-node.ensures.value), c.self.view_is)

pub invariant_of-self-2 : goal.invariant_of-self-2
invariant_of-self-2 g c =
    let a = c.self.inside in
    kept_given a.rings a.head a.nodes (contents (map.insert a.nodes.live c.args.it.serial (node c.replace.new.dest c.in_ok-node.node.now.member)) a.nodes.made a.nodes.spare) c.self.invariant c.args.it.serial c.in_ok-node.node.now c.in_ok-node.ensures.value.0 c.replace.new.dest refl refl

pub returns-clause-answer : goal.returns-clause-answer
returns-clause-answer g c =
    let a = c.self.inside in (
      subst (λ (l : Items g.row.E.Denot). Holds l c.args.it.serial c.replace.result) c.self.view_is
          (subst (λ (x : g.row.E.Denot). Holds (items_of a.rings a.head a.nodes) c.args.it.serial x) (sym c.replace.ensures.value) (holds a.rings a.head a.nodes c.self.invariant c.args.it.serial c.in_ok-node.node.now c.in_ok-node.ensures.value.0)),
      items_given a.rings a.head a.nodes (contents (map.insert a.nodes.live c.args.it.serial (node c.replace.new.dest c.in_ok-node.node.now.member)) a.nodes.made a.nodes.spare) c.self.invariant c.args.it.serial c.in_ok-node.node.now c.in_ok-node.ensures.value.0 c.replace.new.dest refl refl
          ∙ ap (λ (x : g.row.E.Denot). items (pairs_with c.args.it.serial x (items_of a.rings a.head a.nodes).pairs) a.nodes.made) c.replace.ensures.after
          ∙ ap (λ (l : Items g.row.E.Denot). items (pairs_with c.args.it.serial c.args.v l.pairs) l.made) c.self.view_is,
    )

pub returns-clause-whole : goal.returns-clause-whole
returns-clause-whole g c =
    let a = c.self.inside in
    subst (λ (l : Items g.row.E.Denot). AreItems l) c.self.view_is (is_whole a.rings a.head a.nodes c.self.invariant)

pub returns-in_err-node-clause-whole : goal.returns-in_err-node-clause-whole
returns-in_err-node-clause-whole g c =
    let a = c.self.inside in
    subst (λ (l : Items g.row.E.Denot). AreItems l) c.self.view_is (is_whole a.rings a.head a.nodes c.self.invariant)
