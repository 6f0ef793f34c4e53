-- A back dart leaves its list for the end of the other.
use Rattle.std.proofs.Common.{◌≡◌, true, sym, ap, subst, ◌∙◌}
use Rattle.graph_state.specs.Turned.{is_back}
use Rattle.graph_lists.specs.Named.{pushed, unlinked, Leaves}
use Rattle.graph_core.specs.Gathers.{GoesIf}
use Rattle.graph_core.proofs.graph.kinds.gather_one.Goals as goal

pub element_at-x-requires : goal.element_at-x-requires
element_at-x-requires c =
    let h = c.requires.member in
    (h.0, (h.1.0, (h.1.1, c.requires.tokens h.0 h.1.0)))

pub returns-then-is_back-clause-named : goal.returns-then-is_back-clause-named
returns-then-is_back-clause-named c x has member =
    let n = c.args.lists.now.named in
    let to = c.args.to in
    let y = c.element_at-x.result.0 in
    let same = (c.element_at-x.ensures x has member (c.requires.tokens x has)).0 in
    let back : is_back x ≡ true = sym (ap is_back same) ∙ sym c.is_back.ensures ∙ c.if-is_back.true in
    subst (λ b. GoesIf b n c.push_back.new.self.named to x) (sym back) (
      c.push_back.ensures.named ∙ ap (pushed to y) c.unlink.ensures.named ∙ ap (λ x. pushed to x (unlinked x n)) same,
      subst (λ x. Leaves n (unlinked x n) x) same (subst (λ u. Leaves n u y) c.unlink.ensures.named c.unlink.ensures.leaves),
    )
