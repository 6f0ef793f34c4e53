-- What a right answer numbers has a name.
use Rattle.std.proofs.Common.{◌≡◌, ℕ, zero, suc, ◌<◌, List, [], ◌∷◌, length, get_or, subst, sym, ap, ◌∙◌, arith}
use Rattle.std.specs.List.{All}
use Rattle.graph_defs.specs.declared.net.Net.{Net}
use Rattle.graph_defs.specs.declared.answer.Reach.{Reach}
use Rattle.graph_defs.specs.declared.answer.Reach.TheVariants.{Walk, Closed}
use Rattle.graph_defs.specs.Net.{target}
use Rattle.graph_defs.specs.Walk.{IsWalk, IsReach}
use Rattle.reply_text.specs.declared.reply.Answer.TheVariants as answers
use Rattle.reply_text.specs.declared.reply.Named.{Named}
use Rattle.reply_text.specs.Text.{IsReachNamed, IsAnswerNamed}
use Rattle.graph_state.specs.Names.{Has}
use Rattle.graph_state.specs.State.{shows_edge}
use Rattle.graph_state.proofs.Has.{has_filter}
use Rattle.hide_restore.specs.declared.shown.Shown.{Shown}
use Rattle.hide_restore.specs.Net.{numbers_of_edges}
use Rattle.console_state.specs.State.{State}
use Rattle.console_state.specs.Told.{IsNamedSo}
use Rattle.console_state.specs.Views.{node_names, edge_names}
use Rattle.console_state.proofs.Reaches.{net_nodes, net_arcs}
use Rattle.kept_answers.specs.Shown.{IsShown}

-- what holds of the first and of all others
cons_all : (limit arc : ℕ) (arcs : List ℕ) → arc < limit → All (λ a. a < limit) arcs
    → (k : ℕ) (d : ℕ) → k < length (arc ∷ arcs) → get_or (arc ∷ arcs) k d < limit
cons_all limit arc arcs first others zero d within = first
cons_all limit arc arcs first others (suc k) d within = others k d (omega arith)

-- the arcs of a walk are arcs of the net
walk_within : (net : Net) (v w : ℕ) (arcs : List ℕ) → IsWalk net v w arcs
    → All (λ arc. arc < length net.arcs) arcs
walk_within net v w [] walk = λ k d within. absurd (omega arith)
walk_within net v w (arc ∷ arcs) walk =
    cons_all (length net.arcs) arc arcs walk.0 (walk_within net (target net arc) w arcs walk.2)

-- a right answer to `reach` numbers what has a name, where each node and each arc of the net has one
reach-named : (net : Net) (nodes edges : List ℕ) (v w : ℕ) (answer : Reach)
    → length nodes ≡ net.n → length edges ≡ length net.arcs → IsReach net v w answer
    → IsReachNamed nodes edges answer
reach-named net nodes edges v w (Walk arcs) n m walk = let P : ℕ → Type 0 = λ n. All (λ arc. arc < n) arcs in
    subst P (sym m) (walk_within net v w arcs walk)
reach-named net nodes edges v w (Closed set) n m closed = let P : ℕ → Type 0 = λ n. All (λ node. node < n) set in
    subst P (sym n) closed.cut.nodes.among

module _ (s : State) (shown : Shown) (is : IsShown s.graph shown) where
  pub nodes_named : length (node_names s) ≡ shown.net.n
  nodes_named = sym (ap (λ (net : Net). net.n) is.net ∙ net_nodes s.graph)

  pub edges_named : length (edge_names s) ≡ length shown.net.arcs
  edges_named = sym (ap (λ (net : Net). length net.arcs) is.net ∙ net_arcs s.graph)

  -- the visible edges are edges of the graph
  pub shown-live : (n : ℕ) → Has n (numbers_of_edges shown.edges) → Has n s.graph.edges
  shown-live n i = (has_filter (shows_edge s.graph) n s.graph.edges (subst (Has n) is.edges i)).0

  pub reach-told : (v w : ℕ) (answer : Reach) (named : Named) → IsNamedSo s (answers.Reach answer) named
      → IsReach shown.net v w answer → IsAnswerNamed named.nodes named.edges named.answer
  reach-told v w answer named so right =
      rw (so.nodes, so.edges, so.answer) (reach-named shown.net (node_names s) (edge_names s) v w answer nodes_named edges_named right)
