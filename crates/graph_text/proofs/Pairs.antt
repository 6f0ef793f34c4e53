-- Edges with their lines: one more, those from a place on, and the graph that they make.
use Rattle.std.proofs.Common.{◌≡◌, ℕ, ◌+◌, ◌<◌, Bool, true, List, [], ◌∷◌, ◌++◌, length, get_or, drop, Option, Result, Ok, refl, sym, ap, ◌∙◌, arith}
use Rattle.std.proofs.lemmas.List.{drop_more}
use Rattle.graph_defs.specs.declared.plain.PlainEdge.{PlainEdge}
use Rattle.graph_text.specs.declared.fault.Fault.{Fault}
use Rattle.graph_defs.specs.Plain.{is_paired, is_void}
use Rattle.graph_text.specs.Gives.{placed}
use Rattle.graph_text.specs.Lines.{Unread}
use Rattle.graph_text.specs.Reading.{◌>>=◌, Placed, Head, node_in, many_of, head_of, edges_of, end_of, edges_in, unpaired_from, all_paired, graph_of}

-- one edge more
pub placed-push : (edges : List PlainEdge) (lines : List ℕ) (edge : PlainEdge) (line : ℕ)
    → length edges ≡ length lines
    → placed (edges ++ edge ∷ []) (lines ++ line ∷ [])
    ≡ placed edges lines ++ record { line = line; edge = edge } ∷ []
placed-push [] [] edge line e = refl
placed-push [] (l ∷ ls) edge line e = absurd (omega arith)
placed-push (x ∷ xs) [] edge line e = absurd (omega arith)
placed-push (x ∷ xs) (l ∷ ls) edge line e =
    ap (λ (ps : List Placed). record { line = l; edge = x } ∷ ps)
    (placed-push xs ls edge line (omega arith))

-- the edges among them
pub edges_in-placed : (edges : List PlainEdge) (lines : List ℕ) → length edges ≡ length lines
    → edges_in (placed edges lines) ≡ edges
edges_in-placed [] lines e = refl
edges_in-placed (x ∷ xs) [] e = absurd (omega arith)
edges_in-placed (x ∷ xs) (l ∷ ls) e =
    ap (λ (es : List PlainEdge). x ∷ es) (edges_in-placed xs ls (omega arith))

-- those from a place on
abbrev pub from_place : List PlainEdge → List ℕ → ℕ → Option ℕ
from_place edges lines i = unpaired_from edges i (placed (drop i edges) (drop i lines))

-- an edge whose reversal is its own
pub paired-more : (edges : List PlainEdge) (lines : List ℕ) (i : ℕ) (edge : PlainEdge)
    → length edges ≡ length lines → i < length edges → edge ≡ get_or edges i edge
    → is_paired edges i edge ≡ true
    → from_place edges lines (i + 1) ≡ from_place edges lines i
paired-more edges lines i edge e h here is =
    let at : drop i edges ≡ edge ∷ drop (i + 1) edges =
    drop_more edges i edge h ∙ ap (λ (x : PlainEdge). x ∷ drop (i + 1) edges) (sym here) in
    let line : drop i lines ≡ get_or lines i 0 ∷ drop (i + 1) lines =
    drop_more lines i 0 (omega arith) in
    rw (at, line, is) refl

-- what comes of the parts of a graph, once its lines are read
pub graph-parts : (u : Unread) (head : Head) (nodes_left : Unread) (nodes : List (List ℕ))
    (edges_left : Unread) (edges : List PlainEdge) (lines : List ℕ) (left : Unread)
    (node_void edge_void : Bool) (paired : Result Bool Fault)
    → length edges ≡ length lines → node_void ≡ is_void head.node_type
    → edge_void ≡ is_void head.edge_type → head_of u ≡ Ok (head, nodes_left)
    → many_of (node_in node_void) head.nodes nodes_left ≡ Ok (nodes, edges_left)
    → edges_of head.nodes edge_void edges_left ≡ Ok (placed edges lines, left)
    → end_of left ≡ Ok true → all_paired (unpaired_from edges 0 (placed edges lines)) ≡ paired
    → graph_of u ≡ (paired >>= λ p. Ok (record {
      directed = head.directed;
      node_type = head.node_type;
      edge_type = head.edge_type;
      nodes = nodes;
      edges = edges;
    }))
unfolding graph_of
graph-parts u head nodes_left nodes edges_left edges lines left node_void edge_void paired
    e nv ev a b c d p =
    let nodes_are : many_of (node_in (is_void head.node_type)) head.nodes nodes_left
    ≡ Ok (nodes, edges_left) = rw nv at b in
    let edges_are : edges_of head.nodes (is_void head.edge_type) edges_left
    ≡ Ok (placed edges lines, left) = rw ev at c in
    rw (a, nodes_are, edges_are, d, edges_in-placed edges lines e, p) refl
