-- A text that stands for a graph is read as it.
use Rattle.std.proofs.Common.{◌≡◌, ℕ, suc, ◌+◌, ◌-◌, ◌<◌, ◌≤◌, Bool, true, false, ◌==◌, not, nat_eq, nat_lt, nat_le, List, [], ◌∷◌, ◌++◌, length, map, codes, Option, Some, None, IfSome, Result, Ok, refl, sym, ap, ◌∙◌, arith}
use Rattle.std.specs.Char.{is_ascii_digit}
use Rattle.std.specs.List.{starts_with, list_all, AllByRecursion, AllZip}
use Rattle.std.proofs.lemmas.Bool.{le-ltb, le-leb}
use Rattle.std.proofs.lemmas.Bool.Decides.{nat_tests}
use Rattle.std.proofs.lemmas.List.{append-nil, map-id}
use Rattle.leda_base.specs.Decimal.{is_digits, natural_of}
use Rattle.graph_defs.specs.declared.plain.PlainEdge.{PlainEdge}
use Rattle.graph_defs.specs.declared.plain.PlainGraph.{PlainGraph}
use Rattle.graph_defs.specs.Plain.{is_void, is_paired, are_paired, IsLabelOf, IsPlainEdge, IsPlainGraph}
use Rattle.graph_text.specs.declared.fault.Fault.{Fault}
use Rattle.graph_text.specs.Lines.{Unread, all_of}
use Rattle.graph_text.specs.Parts.{field, behind, number_in}
use Rattle.graph_text.specs.Reading.{Head, Sizes, Placed, count_in, label_in, node_in, end_in, reversal_in, place_of, edge_in, nodes_behind, way_of, head_of, edges_of, edges_in, unpaired_from, graph_of, reading_of}
use Rattle.graph_text.specs.Text.{AreDirection, IsEdgeLine, HasLines, GraphText}
use Rattle.graph_text.specs.Written.{direction_text, label_text, reversal_number}
use Rattle.graph_text.proofs.Fields.{is_solid, split-again}
use Rattle.graph_text.proofs.Labels.{label-again}
use Rattle.graph_text.proofs.Numbers.{number-digits, digits-solid, digits-begin}
use Rattle.graph_text.proofs.Steps.{Holds, line-goes, end-goes, Reading, ManyGo, many-go}
use Rattle.graph_text.proofs.Passes.{first_true, second_true}

-- ---- what comes before the nodes

no-minus : (bytes : List ℕ) → is_digits bytes ≡ true
    → starts_with nat_eq bytes (codes "-") ≡ false
no-minus [] h = absurd cc
no-minus (c ∷ cs) h =
    let all : list_all is_ascii_digit (c ∷ cs) ≡ true =
    second_true (not (length (c ∷ cs) == 0)) (list_all is_ascii_digit (c ∷ cs)) h in
    let digit : is_ascii_digit c ≡ true = first_true _ _ all in
    let other : nat_eq 45 c ≡ false = grind (arith, nat_tests) in rw other refl

count-reads : (most number n : ℕ) (bytes : List ℕ) → natural_of bytes ≡ Some n → n ≤ most
    → count_in most (record { number = number; bytes = bytes }) ≡ Ok n
count-reads most number n bytes e h =
    let small : nat_lt most n ≡ false = le-ltb most n h in rw (e, small) refl

-- the direction and the number of nodes are there, with these lines behind them
record GoesOn {A : Type 0} (read : Result (A × Unread) Fault) (x : A) (words : List (List ℕ))
    : Type 0 where
  left : Unread
  is : read ≡ Ok (x, left)
  holds : Holds left words

way-goes : (u : Unread) (directed : Bool) (direction : List (List ℕ)) (nodes : List ℕ) (n : ℕ)
    (words : List (List ℕ)) → Holds u (direction ++ (nodes ∷ words))
    → AreDirection directed direction → natural_of nodes ≡ Some n → n ≤ 100000
    → GoesOn (way_of u) (record { directed = directed; nodes = n }) words
unfolding way_of nodes_behind
way-goes u directed [] nodes n words h is e few =
    let one = line-goes u nodes words h in
    let plain : starts_with nat_eq nodes (codes "-") ≡ false =
    no-minus nodes (number-digits nodes n e) in
    let small : nat_lt 100000 n ≡ false = le-ltb 100000 n few in
    record { left = one.left; is = rw (one.is, plain, e, small, is) refl; holds = one.holds }
way-goes u true (line ∷ []) nodes n words h is e few =
    let moved : Holds u (direction_text true ∷ (nodes ∷ words)) = rw is at h in
    let one = line-goes u (direction_text true) (nodes ∷ words) moved in
    let two = line-goes one.left nodes words one.holds in
    let small : nat_lt 100000 n ≡ false = le-ltb 100000 n few in
    record { left = two.left; is = rw (one.is, two.is, e, small) refl; holds = two.holds }
way-goes u false (line ∷ []) nodes n words h is e few =
    let moved : Holds u (direction_text false ∷ (nodes ∷ words)) = rw is at h in
    let one = line-goes u (direction_text false) (nodes ∷ words) moved in
    let two = line-goes one.left nodes words one.holds in
    let small : nat_lt 100000 n ≡ false = le-ltb 100000 n few in
    record { left = two.left; is = rw (one.is, two.is, e, small) refl; holds = two.holds }
way-goes u directed (line ∷ other ∷ lines) nodes n words h is e few = absurd is

head-goes : (u : Unread) (head : Head) (direction : List (List ℕ)) (nodes : List ℕ)
    (words : List (List ℕ))
    → Holds u (codes "LEDA.GRAPH" ∷ head.node_type ∷ head.edge_type
    ∷ (direction ++ (nodes ∷ words)))
    → AreDirection head.directed direction → natural_of nodes ≡ Some head.nodes
    → head.nodes ≤ 100000 → length head.node_type ≤ 255 → length head.edge_type ≤ 255
    → GoesOn (head_of u) head words
unfolding head_of
head-goes u head direction nodes words h is e few short shorter =
    let behind : List (List ℕ) = direction ++ (nodes ∷ words) in
    let one = line-goes u (codes "LEDA.GRAPH") (head.node_type ∷ head.edge_type ∷ behind) h in
    let two = line-goes one.left head.node_type (head.edge_type ∷ behind) one.holds in
    let three = line-goes two.left head.edge_type behind two.holds in
    let way = way-goes three.left head.directed direction nodes head.nodes words three.holds
    is e few in
    let small : nat_lt 255 (length head.node_type) ≡ false = le-ltb 255 _ short in
    let smaller : nat_lt 255 (length head.edge_type) ≡ false = le-ltb 255 _ shorter in
    record {
      left = way.left;
      is = rw (one.is, two.is, small, three.is, smaller, way.is) refl;
      holds = way.holds;
    }

-- ---- nodes

label-reads : (void : Bool) (label : List ℕ) (line : ℕ) → IsLabelOf void label
    → label_in void line (label_text label) ≡ Ok label
unfolding label_in
label-reads true label line h =
    let small : nat_lt 60000 (length label) ≡ false = le-ltb 60000 _ h.short in
    let none : length label ≡ 0 = h.empty in
    let empty : (length label == 0) ≡ true = grind (arith, nat_tests) in
    rw (label-again label, small, empty) refl
label-reads false label line h =
    let small : nat_lt 60000 (length label) ≡ false = le-ltb 60000 _ h.short in
    rw (label-again label, small) refl

nodes-read : (void : Bool) (labels : List (List ℕ)) → AllByRecursion (IsLabelOf void) labels
    → AllZip (Reading (node_in void) (λ label. label)) (map label_text labels) labels
nodes-read void [] h = tt
nodes-read void (label ∷ labels) h =
    (λ number. (label, label-reads void label number h.0, refl), nodes-read void labels h.1)

-- ---- edges

number-within : (low high n : ℕ) (bytes : List ℕ) → natural_of bytes ≡ Some n → low ≤ n
    → n ≤ high → number_in low high bytes ≡ Some n
number-within low high n bytes e h i =
    let from : nat_le low n ≡ true = le-leb low n h in
    let to : nat_le n high ≡ true = le-leb n high i in rw (e, from, to) refl

end-reads : (nodes line place : ℕ) (bytes : List ℕ) → natural_of bytes ≡ Some (place + 1)
    → place < nodes → end_in nodes line bytes ≡ Ok place
unfolding end_in
end-reads nodes line place bytes e h =
    let one : place + 1 - 1 ≡ place = omega arith in
    rw (number-within 1 nodes (place + 1) bytes e (omega arith) (omega arith)) (ap Ok one)

place-again : (rev : Option ℕ) → place_of (reversal_number rev) ≡ rev
place-again None = refl
place-again (Some k) = let one : k + 1 ≡ suc k = omega arith in rw one refl

within-reversal : (edges : ℕ) (rev : Option ℕ) → IfSome rev (λ r. r < edges)
    → reversal_number rev ≤ edges
within-reversal edges None h = omega arith
within-reversal edges (Some k) h = omega arith

reversal-reads : (edges line : ℕ) (rev : Option ℕ) (bytes : List ℕ)
    → natural_of bytes ≡ Some (reversal_number rev) → IfSome rev (λ r. r < edges)
    → reversal_in edges line bytes ≡ Ok rev
unfolding reversal_in
reversal-reads edges line rev bytes e h =
    rw (number-within 0 edges (reversal_number rev) bytes e (omega arith)
    (within-reversal edges rev h)) (ap Ok (place-again rev))

-- digits, as a field
solid : (bytes : List ℕ) (n : ℕ) → natural_of bytes ≡ Some n → is_solid bytes ≡ true
solid bytes n e =
    digits-solid bytes (second_true (not (length bytes == 0)) _ (number-digits bytes n e))

edge-reads : (sizes : Sizes) (line : List ℕ) (edge : PlainEdge) (number : ℕ) → IsEdgeLine line edge
    → IsPlainEdge sizes.nodes sizes.edges sizes.void edge
    → edge_in sizes (record { number = number; bytes = line })
    ≡ Ok (record { line = number; edge = edge })
unfolding edge_in
edge-reads sizes line edge number l h =
    let label : List ℕ = label_text edge.label in
    let third : List ℕ = l.rev ++ (l.third ++ label) in
    let second : List ℕ = l.to ++ (l.second ++ third) in
    let a = split-again l.from l.first second (solid l.from _ l.from_is) l.first_is.some
    l.first_is.each (digits-begin l.to (l.second ++ third) (number-digits l.to _ l.to_is)) in
    let b = split-again l.to l.second third (solid l.to _ l.to_is) l.second_is.some
    l.second_is.each (digits-begin l.rev (l.third ++ label) (number-digits l.rev _ l.rev_is)) in
    let c = split-again l.rev l.third label (solid l.rev _ l.rev_is) l.third_is.some
    l.third_is.each refl in
    let one : field line ≡ l.from = ap field l.is ∙ a.0 in
    let behind_one : behind line ≡ second = ap behind l.is ∙ a.1 in
    let two : field (behind line) ≡ l.to = ap field behind_one ∙ b.0 in
    let behind_two : behind (behind line) ≡ third = ap behind behind_one ∙ b.1 in
    let three : field (behind (behind line)) ≡ l.rev = ap field behind_two ∙ c.0 in
    let rest : behind (behind (behind line)) ≡ label = ap behind behind_two ∙ c.1 in
    let from : end_in sizes.nodes number (field line) ≡ Ok edge.from =
    ap (end_in sizes.nodes number) one ∙ end-reads sizes.nodes number edge.from l.from l.from_is
    h.from in
    let to : end_in sizes.nodes number (field (behind line)) ≡ Ok edge.to =
    ap (end_in sizes.nodes number) two ∙ end-reads sizes.nodes number edge.to l.to l.to_is h.to in
    let rev : reversal_in sizes.edges number (field (behind (behind line))) ≡ Ok edge.rev =
    ap (reversal_in sizes.edges number) three
    ∙ reversal-reads sizes.edges number edge.rev l.rev l.rev_is h.rev in
    let read : label_in sizes.void number (behind (behind (behind line))) ≡ Ok edge.label =
    ap (label_in sizes.void number) rest ∙ label-reads sizes.void edge.label number h.label in
    rw (from, to, rev, read) refl

edges-read : (sizes : Sizes) (lines : List (List ℕ)) (edges : List PlainEdge)
    → AllZip IsEdgeLine lines edges
    → AllByRecursion (IsPlainEdge sizes.nodes sizes.edges sizes.void) edges
    → AllZip (Reading (edge_in sizes) (λ p. p.edge)) lines edges
edges-read sizes [] [] l h = tt
edges-read sizes [] (e ∷ es) l h = absurd l
edges-read sizes (w ∷ ws) [] l h = absurd l
edges-read sizes (w ∷ ws) (e ∷ es) l h = (
  λ number. (record { line = number; edge = e }, edge-reads sizes w e number l.0 h.0, refl),
  edges-read sizes ws es l.1 h.1,
)

edges-go : (u : Unread) (nodes : ℕ) (void : Bool) (count : List ℕ) (lines : List (List ℕ))
    (edges : List PlainEdge) → Holds u (count ∷ (lines ++ []))
    → natural_of count ≡ Some (length edges) → length edges ≤ 400000
    → AllZip IsEdgeLine lines edges
    → AllByRecursion (IsPlainEdge nodes (length edges) void) edges
    → ManyGo (λ p. p.edge) (edges_of nodes void u) edges []
unfolding edges_of
edges-go u nodes void count lines edges h e few l is =
    let one = line-goes u count (lines ++ []) h in
    let small : nat_lt 400000 (length edges) ≡ false = le-ltb 400000 _ few in
    let sizes : Sizes = record { nodes = nodes; edges = length edges; void = void } in
    let many = many-go (edge_in sizes) (λ p. p.edge) lines edges [] one.left
    (edges-read sizes lines edges l is) one.holds in
    record {
      found = many.found;
      left = many.left;
      is = rw (one.is, e, small) many.is;
      are = many.are;
      holds = many.holds;
    }

-- ---- the graph

none-unpaired : (edges : List PlainEdge) (i : ℕ) (placed : List Placed)
    → are_paired edges i (edges_in placed) ≡ true → unpaired_from edges i placed ≡ None
none-unpaired edges i [] h = refl
none-unpaired edges i (p ∷ ps) h =
    let here : is_paired edges i p.edge ≡ true = first_true _ _ h in
    rw here (none-unpaired edges (i + 1) ps (second_true _ _ h))

graph-goes : (u : Unread) (g : PlainGraph) (words : List (List ℕ)) → HasLines words g
    → Holds u words → IsPlainGraph g → graph_of u ≡ Ok g
unfolding graph_of
graph-goes u g words l h valid =
    let behind_nodes : List (List ℕ) = l.edges ∷ l.edge_lines in
    let lines : Holds u (codes "LEDA.GRAPH" ∷ g.node_type ∷ g.edge_type
    ∷ (l.direction ++ (l.nodes ∷ (map label_text g.nodes ++ behind_nodes)))) =
    record { short = h.short; words_are = h.words_are ∙ l.are } in
    let head : Head = record {
      directed = g.directed;
      node_type = g.node_type;
      edge_type = g.edge_type;
      nodes = length g.nodes;
    } in
    let first = head-goes u head l.direction l.nodes (map label_text g.nodes ++ behind_nodes) lines
    l.direction_is l.nodes_is valid.few_nodes valid.node_type.short valid.edge_type.short in
    let nodes = many-go (node_in (is_void g.node_type)) (λ label. label) (map label_text g.nodes)
    g.nodes behind_nodes first.left (nodes-read (is_void g.node_type) g.nodes valid.nodes)
    first.holds in
    let same_nodes : nodes.found ≡ g.nodes = sym (map-id nodes.found) ∙ nodes.are in
    let end_holds : Holds nodes.left (l.edges ∷ (l.edge_lines ++ [])) = record {
      short = nodes.holds.short;
      words_are = nodes.holds.words_are
          ∙ ap (λ (ws : List (List ℕ)). l.edges ∷ ws) (sym (append-nil l.edge_lines));
    } in
    let edges = edges-go nodes.left (length g.nodes) (is_void g.edge_type) l.edges l.edge_lines
    g.edges end_holds l.edges_is valid.few_edges l.each_edge valid.edges in
    let end = end-goes edges.left edges.holds in
    let paired : unpaired_from (edges_in edges.found) 0 edges.found ≡ None =
    rw edges.are (none-unpaired g.edges 0 edges.found (rw edges.are valid.pairs)) in
    rw (first.is, nodes.is, edges.is, end, paired, same_nodes, edges.are) refl

pub text-reads : (text : List ℕ) (g : PlainGraph) → GraphText text g → reading_of text ≡ Ok g
unfolding reading_of
text-reads text g h =
    graph-goes (all_of text) g _ h.lines (record { short = h.short; words_are = refl }) h.valid
