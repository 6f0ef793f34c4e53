use Rattle.std.proofs.Common.{◌≡◌, ℕ, ◌+◌, ◌<◌, ◌≤◌, List, Option, Some, None, refl, sym, ap, subst, ◌∙◌, arith}
use Rattle.std.proofs.lemmas.Bool.Decides.{nat_tests}
use Rattle.std.specs.Prelude.{IfSome, nat_lt, true, false}
use Rattle.graph_state.specs.State.{GraphState}
use Rattle.graph_state.specs.Names.{Has}
use Rattle.graph_state.specs.Edits.{with_edge, paired}
use Rattle.graph_state.specs.Reversals.{AreOpposite}
use Rattle.graph_core.specs.Replaces.{LeadsBack}
use Rattle.graph_core.proofs.Replaces.{back_runs, here_runs, opposite, alone, first, second}
use Rattle.graph_core.proofs.graph.Graph.add_edge.Goals as goal

-- the new edge runs between the nodes of those places
new_is : (s t : GraphState) (label : List ℕ) (a b p q : ℕ) → t ≡ with_edge p q label s → p ≡ a → q ≡ b → t ≡ with_edge a b label s
new_is s t label a b p q is from to = is ∙ ap (λ p. with_edge p q label s) from ∙ ap (λ q. with_edge a q label s) to

lower : (number made : ℕ) (serial : ℕ) → number < serial → serial ≡ made + 1 → number < made + 1
lower number made serial low is = omega (arith, low, is)

is_less : (a b : ℕ) → a < b → nat_lt a b ≡ true
is_less a b low = grind (arith, nat_tests)

is_not_less : (a b c : ℕ) → c ≤ a → c ≡ b → nat_lt a b ≡ false
is_not_less a b c high is = grind (arith, nat_tests)

none_is : (o : Option ℕ) → ((r : ℕ) → o ≡ Some r → ⊥) → o ≡ None
none_is None none = refl
none_is (Some r) none = absurd (none r refl)

pub unreachable-requires-in_default-edge_item : goal.unreachable-requires-in_default-edge_item
unreachable-requires-in_default-edge_item c =
    let s = c.args.self.now in
    let e = c.args.edge in
    let f = c.args.edges in
    let r = c.in-Some.place in
    let new = new_is s c.new_edge.new.self e.label (c.args.nodes + e.from + 1) (c.args.nodes + e.to + 1) c.in-Ok-Ok.from.0.serial c.in-Ok-Ok.to.0.serial c.in-Ok.ensures.state c.in-Ok-Ok.ensures.item.0 c.in-Ok-Ok.ensures'.item.0 in
    let back = subst (λ rev. IfSome rev (LeadsBack s c.args.nodes f e)) c.in-Some.is c.requires.back in
    let low = lower (f + r + 1) s.made_edges c.in-Ok.new.0.serial c.if-number-new.true c.in-Ok.ensures.item in
    c.in_default-edge_item.ensures.item.0 (subst (λ (t : GraphState). Has (f + r + 1) t.edges) (sym new) (back_runs s c.args.nodes f e r back low).there)

pub pair-requires-clause-first : goal.pair-requires-clause-first
pair-requires-clause-first c =
    let s = c.args.self.now in
    let e = c.args.edge in
    let f = c.args.edges in
    let r = c.in-Some.place in
    let new = new_is s c.new_edge.new.self e.label (c.args.nodes + e.from + 1) (c.args.nodes + e.to + 1) c.in-Ok-Ok.from.0.serial c.in-Ok-Ok.to.0.serial c.in-Ok.ensures.state c.in-Ok-Ok.ensures.item.0 c.in-Ok-Ok.ensures'.item.0 in
    let back = subst (λ rev. IfSome rev (LeadsBack s c.args.nodes f e)) c.in-Some.is c.requires.back in
    let low = lower (f + r + 1) s.made_edges c.in-Ok.new.0.serial c.if-number-new.true c.in-Ok.ensures.item in
    subst (λ (t : GraphState). Has c.in-Ok.new.0.serial t.edges) (sym new)
    (subst (λ n. Has n (with_edge (c.args.nodes + e.from + 1) (c.args.nodes + e.to + 1) e.label s).edges) (sym c.in-Ok.ensures.item) (here_runs s c.args.nodes f e r back low).there)

pub pair-requires-clause-opposite : goal.pair-requires-clause-opposite
pair-requires-clause-opposite c =
    let s = c.args.self.now in
    let e = c.args.edge in
    let f = c.args.edges in
    let r = c.in-Some.place in
    let new = new_is s c.new_edge.new.self e.label (c.args.nodes + e.from + 1) (c.args.nodes + e.to + 1) c.in-Ok-Ok.from.0.serial c.in-Ok-Ok.to.0.serial c.in-Ok.ensures.state c.in-Ok-Ok.ensures.item.0 c.in-Ok-Ok.ensures'.item.0 in
    let back = subst (λ rev. IfSome rev (LeadsBack s c.args.nodes f e)) c.in-Some.is c.requires.back in
    let low = lower (f + r + 1) s.made_edges c.in-Ok.new.0.serial c.if-number-new.true c.in-Ok.ensures.item in
    subst (λ (t : GraphState). AreOpposite t c.in-Ok.new.0.serial c.in-Ok-edge_item.back.0.serial) (sym new)
    (subst (λ n. AreOpposite (with_edge (c.args.nodes + e.from + 1) (c.args.nodes + e.to + 1) e.label s) n c.in-Ok-edge_item.back.0.serial) (sym c.in-Ok.ensures.item)
    (subst (λ n. AreOpposite (with_edge (c.args.nodes + e.from + 1) (c.args.nodes + e.to + 1) e.label s) (s.made_edges + 1) n) (sym c.in-Ok-edge_item.ensures.item.0) (opposite s c.args.nodes f e r back low)))

pub returns-in-Ok-edge_item : goal.returns-in-Ok-edge_item
returns-in-Ok-edge_item c =
    let s = c.args.self.now in
    let e = c.args.edge in
    let f = c.args.edges in
    let r = c.in-Some.place in
    let new = new_is s c.new_edge.new.self e.label (c.args.nodes + e.from + 1) (c.args.nodes + e.to + 1) c.in-Ok-Ok.from.0.serial c.in-Ok-Ok.to.0.serial c.in-Ok.ensures.state c.in-Ok-Ok.ensures.item.0 c.in-Ok-Ok.ensures'.item.0 in
    let low = lower (f + r + 1) s.made_edges c.in-Ok.new.0.serial c.if-number-new.true c.in-Ok.ensures.item in
    c.pair.ensures ∙ ap (λ n. paired n c.in-Ok-edge_item.back.0.serial c.new_edge.new.self) c.in-Ok.ensures.item
    ∙ ap (λ n. paired (s.made_edges + 1) n c.new_edge.new.self) c.in-Ok-edge_item.ensures.item.0
    ∙ ap (paired (s.made_edges + 1) (f + r + 1)) new
    ∙ sym (second s c.args.nodes f e r c.in-Some.is (is_less (f + r + 1) (s.made_edges + 1) low))

pub returns-else-number-new : goal.returns-else-number-new
returns-else-number-new c =
    let s = c.args.self.now in
    let e = c.args.edge in
    let f = c.args.edges in
    let r = c.in-Some.place in
    let new = new_is s c.new_edge.new.self e.label (c.args.nodes + e.from + 1) (c.args.nodes + e.to + 1) c.in-Ok-Ok.from.0.serial c.in-Ok-Ok.to.0.serial c.in-Ok.ensures.state c.in-Ok-Ok.ensures.item.0 c.in-Ok-Ok.ensures'.item.0 in
    new ∙ sym (first s c.args.nodes f e r c.in-Some.is (is_not_less (f + r + 1) (s.made_edges + 1) c.in-Ok.new.0.serial c.if-number-new.false c.in-Ok.ensures.item))

pub returns-in_default-rev : goal.returns-in_default-rev
returns-in_default-rev c =
    let s = c.args.self.now in
    let e = c.args.edge in
    let new = new_is s c.new_edge.new.self e.label (c.args.nodes + e.from + 1) (c.args.nodes + e.to + 1) c.in-Ok-Ok.from.0.serial c.in-Ok-Ok.to.0.serial c.in-Ok.ensures.state c.in-Ok-Ok.ensures.item.0 c.in-Ok-Ok.ensures'.item.0 in
    new ∙ sym (alone s c.args.nodes c.args.edges e (none_is e.rev c.in_default-rev.not-Some))
