-- The text that is written for a graph stands for it.
use Rattle.std.proofs.Common.{◌≡◌, ℕ, ◌+◌, ◌-◌, ◌<◌, ◌≤◌, ◌^◌, Bool, true, false, ◌==◌, not, List, [], ◌∷◌, ◌++◌, length, get_or, map, codes, Option, Some, None, IfSome, refl, sym, ap, subst, ◌∙◌, append_assoc, arith, length-append}
use Rattle.std.specs.Char.{is_ascii_digit}
use Rattle.std.specs.Fmt.{decimal}
use Rattle.std.specs.List.{list_all, AllByRecursion, AllZip}
use Rattle.std.proofs.lemmas.Bool.Decides.{nat_tests}
use Rattle.std.proofs.lemmas.Fmt.{length-decimal-le}
use Rattle.std.proofs.lemmas.List.{get_or_push}
use Rattle.std.proofs.lemmas.List.Folds.{list_all-append}
use Rattle.std.proofs.lemmas.List.Sums.{AllPass-from_list_all}
use Rattle.leda_base.specs.Decimal.{is_digits}
use Rattle.graph_defs.specs.declared.plain.PlainEdge.{PlainEdge}
use Rattle.graph_defs.specs.declared.plain.PlainGraph.{PlainGraph}
use Rattle.leda_base.specs.Bytes.{is_blank, is_one_line}
use Rattle.graph_defs.specs.Plain.{IsTypeName, IsLabelOf, IsPlainEdge, IsPlainGraph}
use Rattle.graph_text.specs.Lines.{lines_of}
use Rattle.graph_text.specs.Text.{kept, AreShort, AreBlanks, IsEdgeLine, GraphText}
use Rattle.graph_text.specs.Written.{direction_text, label_text, reversal_number, edge_text, written, ended_lines, text_of}
use Rattle.graph_text.proofs.Lines.{lines-ended}
use Rattle.graph_text.proofs.Numbers.{number-again, number-digits, digits-one_line}
use Rattle.graph_text.proofs.Standing.{Stands, kept-stands}
use Rattle.graph_text.proofs.Passes.{second_true}

-- lines with their ends are cut into the lines
lines-again : (lines : List (List ℕ)) → AllByRecursion Stands lines
    → lines_of (ended_lines lines) ≡ lines
lines-again [] h = refl
lines-again (l ∷ ls) h =
    ap lines_of (append_assoc l (10 ∷ []) (ended_lines ls))
    ∙ lines-ended l (ended_lines ls) h.0.one_line
    ∙ ap (λ (ws : List (List ℕ)). l ∷ ws) (lines-again ls h.1)

-- ---- numbers

digit-stands : (c : ℕ) → is_ascii_digit c ≡ true
    → (is_blank c ≡ false) × ((c == 35) ≡ false)
digit-stands c e = (grind (arith, nat_tests), grind (arith, nat_tests))

digits-some : (ds : List ℕ) → is_digits ds ≡ true → 1 ≤ length ds
digits-some [] h = absurd cc
digits-some (c ∷ cs) h = omega arith

pub digits-stand : (ds : List ℕ) → is_digits ds ≡ true → Stands ds
digits-stand ds h =
    let all : list_all is_ascii_digit ds ≡ true = second_true (not (length ds == 0)) _ h in
    let some : 1 ≤ length ds = digits-some ds h in
    let each = AllPass-from_list_all is_ascii_digit ds all in
    let first = digit-stands (get_or ds 0 0) (each 0 0 (omega arith)) in
    let last = digit-stands (get_or ds (length ds - 1) 0) (each (length ds - 1) 0 (omega arith)) in
    record {
      some = some;
      one_line = digits-one_line ds all;
      first = first.0;
      last = last.0;
      mark = first.1;
    }

decimal-digits : (n : ℕ) → n < 2 ^ 64 → is_digits (decimal n) ≡ true
decimal-digits n h = number-digits (decimal n) n (number-again n h)

-- ---- labels

last-of : (front : List ℕ) (x : ℕ)
    → get_or (front ++ x ∷ []) (length (front ++ x ∷ []) - 1) 0 ≡ x
last-of front x =
    get_or_push front x 0 (length (front ++ x ∷ []) - 1)
    (omega (arith, length-append front (x ∷ [])))

-- bytes that end with a label stand if they begin so
labelled-stands : (front label : List ℕ) → is_one_line front ≡ true → is_one_line label ≡ true
    → is_blank (get_or (front ++ label_text label) 0 0) ≡ false
    → (get_or (front ++ label_text label) 0 0 == 35) ≡ false
    → Stands (front ++ label_text label)
labelled-stands front label one line first mark =
    let closed : is_one_line (label ++ codes "}|") ≡ true =
    list_all-append (λ b. not (b == 10)) label (codes "}|") ∙ rw line refl in
    let whole : is_one_line (front ++ label_text label) ≡ true =
    list_all-append (λ b. not (b == 10)) front (label_text label) ∙ rw (one, closed) refl in
    let cut : front ++ label_text label
    ≡ (front ++ (codes "|{" ++ label ++ codes "}")) ++ 124 ∷ [] =
    ap (λ (w : List ℕ). front ++ w) (sym (append_assoc (codes "|{" ++ label) (codes "}")
    (124 ∷ [])))
    ∙ sym (append_assoc front (codes "|{" ++ label ++ codes "}") (124 ∷ [])) in
    let end : get_or (front ++ label_text label) (length (front ++ label_text label) - 1) 0 ≡ 124 =
    ap (λ (w : List ℕ). get_or w (length w - 1) 0) cut
    ∙ last-of (front ++ (codes "|{" ++ label ++ codes "}")) 124 in
    record {
      some = omega (arith, length-append front (label_text label));
      one_line = whole;
      first = first;
      last = rw end refl;
      mark = mark;
    }

label-stands : (label : List ℕ) → is_one_line label ≡ true → Stands (label_text label)
label-stands label h = labelled-stands [] label refl h refl refl

labels-stand : (void : Bool) (labels : List (List ℕ)) → AllByRecursion (IsLabelOf void) labels
    → AllByRecursion Stands (map label_text labels)
labels-stand void [] h = tt
labels-stand void (l ∷ ls) h = (label-stands l h.0.one_line, labels-stand void ls h.1)

length-label : (label : List ℕ) → length (label_text label) ≡ length label + 4
length-label label = omega (arith, length-append label (codes "}|"))

labels-short : (void : Bool) (labels : List (List ℕ)) → AllByRecursion (IsLabelOf void) labels
    → AreShort (map label_text labels)
labels-short void [] h = tt
labels-short void (l ∷ ls) h = (
  omega (arith, length-label l, h.0.short),
  labels-short void ls h.1,
)

-- ---- edges

-- the three numbers of an edge, with a blank behind each
fields_text : PlainEdge → List ℕ
fields_text edge =
    decimal (edge.from + 1) ++ (codes " " ++ (decimal (edge.to + 1) ++ (codes " "
    ++ (decimal (reversal_number edge.rev) ++ codes " "))))

edge-front : (edge : PlainEdge) → edge_text edge ≡ fields_text edge ++ label_text edge.label
unfolding fields_text
edge-front edge = simp append_assoc

edge-parts : (edge : PlainEdge) → edge_text edge
    ≡ decimal (edge.from + 1) ++ (codes " " ++ (decimal (edge.to + 1) ++ (codes " "
    ++ (decimal (reversal_number edge.rev) ++ (codes " " ++ label_text edge.label)))))
edge-parts edge = simp append_assoc

-- how large the numbers of an edge are
record IsSmall (edge : PlainEdge) : Type 0 where
  from : edge.from + 1 ≤ 400000
  to : edge.to + 1 ≤ 400000
  rev : reversal_number edge.rev ≤ 400000

small-reversal : (edges : ℕ) (rev : Option ℕ) → edges ≤ 400000 → IfSome rev (λ r. r < edges)
    → reversal_number rev ≤ 400000
small-reversal edges None few h = omega arith
small-reversal edges (Some k) few h = omega arith

small-edge : (nodes edges : ℕ) (void : Bool) (edge : PlainEdge) → nodes ≤ 100000
    → edges ≤ 400000 → IsPlainEdge nodes edges void edge → IsSmall edge
small-edge nodes edges void edge few fewer h = record {
  from = omega (arith, h.from);
  to = omega (arith, h.to);
  rev = small-reversal edges edge.rev fewer h.rev;
}

blank : AreBlanks (codes " ")
blank = record { some = omega arith; each = refl }

edge-line : (edge : PlainEdge) → IsSmall edge → IsEdgeLine (edge_text edge) edge
edge-line edge h = record {
  from = decimal (edge.from + 1);
  first = codes " ";
  to = decimal (edge.to + 1);
  second = codes " ";
  rev = decimal (reversal_number edge.rev);
  third = codes " ";
  is = edge-parts edge;
  from_is = number-again (edge.from + 1) (omega (arith, h.from));
  to_is = number-again (edge.to + 1) (omega (arith, h.to));
  rev_is = number-again (reversal_number edge.rev) (omega (arith, h.rev));
  first_is = blank;
  second_is = blank;
  third_is = blank;
}

number-length : (n : ℕ) → n ≤ 400000 → length (decimal n) ≤ 6
number-length n h = length-decimal-le 6 n (omega arith) (omega arith) (omega arith)

edge-short : (edge : PlainEdge) → IsSmall edge → length edge.label ≤ 60000
    → length (edge_text edge) ≤ 65536
edge-short edge h short =
    let label : List ℕ = label_text edge.label in
    let third : List ℕ = decimal (reversal_number edge.rev) ++ (codes " " ++ label) in
    let second : List ℕ = decimal (edge.to + 1) ++ (codes " " ++ third) in
    let size : length (edge_text edge)
    ≡ length (decimal (edge.from + 1) ++ (codes " " ++ second)) = ap length (edge-parts edge) in
    omega (
      arith,
      size,
      number-length (edge.from + 1) h.from,
      number-length (edge.to + 1) h.to,
      number-length (reversal_number edge.rev) h.rev,
      length-append (decimal (edge.from + 1)) (codes " " ++ second),
      length-append (decimal (edge.to + 1)) (codes " " ++ third),
      length-append (decimal (reversal_number edge.rev)) (codes " " ++ label),
      length-label edge.label,
    )

-- the first byte of bytes that begin with others
first-of : (front more : List ℕ) → 1 ≤ length front → get_or (front ++ more) 0 0 ≡ get_or front 0 0
first-of [] more h = absurd (omega arith)
first-of (c ∷ cs) more h = refl

join : (front more : List ℕ) → is_one_line front ≡ true → is_one_line more ≡ true
    → is_one_line (front ++ more) ≡ true
join front more h i = list_all-append (λ b. not (b == 10)) front more ∙ rw (h, i) refl

edge-stands : (edge : PlainEdge) → IsSmall edge → is_one_line edge.label ≡ true
    → Stands (edge_text edge)
unfolding fields_text
edge-stands edge h line =
    let from : Stands (decimal (edge.from + 1)) =
    digits-stand _ (decimal-digits (edge.from + 1) (omega (arith, h.from))) in
    let to : Stands (decimal (edge.to + 1)) =
    digits-stand _ (decimal-digits (edge.to + 1) (omega (arith, h.to))) in
    let rev : Stands (decimal (reversal_number edge.rev)) =
    digits-stand _ (decimal-digits (reversal_number edge.rev) (omega (arith, h.rev))) in
    let third : is_one_line (decimal (reversal_number edge.rev) ++ codes " ") ≡ true =
    join (decimal (reversal_number edge.rev)) (codes " ") rev.one_line refl in
    let second = join (decimal (edge.to + 1))
    (codes " " ++ (decimal (reversal_number edge.rev) ++ codes " ")) to.one_line third in
    let first : is_one_line (fields_text edge) ≡ true = join (decimal (edge.from + 1))
    (codes " " ++ (decimal (edge.to + 1) ++ (codes " " ++ (decimal (reversal_number edge.rev)
    ++ codes " ")))) from.one_line second in
    let begins : get_or (fields_text edge ++ label_text edge.label) 0 0
    ≡ get_or (decimal (edge.from + 1)) 0 0 =
    ap (λ (w : List ℕ). get_or w 0 0) (append_assoc (decimal (edge.from + 1)) _
    (label_text edge.label))
    ∙ first-of (decimal (edge.from + 1)) _ from.some in
    rw (edge-front edge) (labelled-stands (fields_text edge) edge.label first line
    (rw begins from.first) (rw begins from.mark))

-- the lines of edges
record EdgesAgain (edges : List PlainEdge) : Type 0 where
  stand : AllByRecursion Stands (map edge_text edges)
  short : AreShort (map edge_text edges)
  each : AllZip IsEdgeLine (map edge_text edges) edges

edges-again : (nodes count : ℕ) (void : Bool) (edges : List PlainEdge) → nodes ≤ 100000
    → count ≤ 400000 → AllByRecursion (IsPlainEdge nodes count void) edges → EdgesAgain edges
edges-again nodes count void [] few fewer h = record { stand = tt; short = tt; each = tt }
edges-again nodes count void (e ∷ es) few fewer h =
    let small = small-edge nodes count void e few fewer h.0 in
    let others = edges-again nodes count void es few fewer h.1 in
    record {
      stand = (edge-stands e small h.0.label.one_line, others.stand);
      short = (edge-short e small h.0.label.short, others.short);
      each = (edge-line e small, others.each);
    }

-- ---- the text

type-stands : (name : List ℕ) → IsTypeName name → Stands name
type-stands name h = record {
  some = h.some;
  one_line = h.one_line;
  first = h.first;
  last = h.last;
  mark = h.mark;
}

direction-stands : (directed : Bool) → Stands (direction_text directed)
    × (length (direction_text directed) ≤ 65536)
direction-stands true = (
  record { some = omega arith; one_line = refl; first = refl; last = refl; mark = refl },
  omega arith,
)
direction-stands false = (
  record { some = omega arith; one_line = refl; first = refl; last = refl; mark = refl },
  omega arith,
)

name-stands : Stands (codes "LEDA.GRAPH")
name-stands =
    record { some = omega arith; one_line = refl; first = refl; last = refl; mark = refl }

each-join : (P : List ℕ → Type 0) (front behind : List (List ℕ)) → AllByRecursion P front
    → AllByRecursion P behind → AllByRecursion P (front ++ behind)
each-join P [] behind h i = i
each-join P (w ∷ ws) behind h i = (h.0, each-join P ws behind h.1 i)

pub text-again : (g : PlainGraph) → IsPlainGraph g → GraphText (text_of g) g
text-again g h =
    let edges = edges-again (length g.nodes) (length g.edges) _ g.edges h.few_nodes h.few_edges
    h.edges in
    let nodes : length g.nodes ≤ 100000 = h.few_nodes in
    let few : length g.edges ≤ 400000 = h.few_edges in
    let way = direction-stands g.directed in
    let nodes_digits = decimal-digits (length g.nodes) (omega arith) in
    let edges_digits = decimal-digits (length g.edges) (omega arith) in
    let nodes_length = number-length (length g.nodes) (omega arith) in
    let edges_length = number-length (length g.edges) few in
    let behind : List (List ℕ) = decimal (length g.edges) ∷ map edge_text g.edges in
    let stand_nodes : AllByRecursion Stands (map label_text g.nodes ++ behind) =
    each-join Stands (map label_text g.nodes) behind (labels-stand _ g.nodes h.nodes)
    (digits-stand (decimal (length g.edges)) edges_digits, edges.stand) in
    let stand : AllByRecursion Stands (written g) = (
      name-stands,
      (
        type-stands g.node_type h.node_type,
        (
          type-stands g.edge_type h.edge_type,
          (way.0, (digits-stand (decimal (length g.nodes)) nodes_digits, stand_nodes)),
        ),
      ),
    ) in
    let short_nodes : AreShort (map label_text g.nodes ++ behind) =
    each-join (λ line. length line ≤ 65536) (map label_text g.nodes) behind
    (labels-short _ g.nodes h.nodes) (omega (arith, edges_length), edges.short) in
    let short : AreShort (written g) = (
      omega arith,
      (
        omega (arith, h.node_type.short),
        (
          omega (arith, h.edge_type.short),
          (way.1, (omega (arith, nodes_length), short_nodes)),
        ),
      ),
    ) in
    let cut : lines_of (text_of g) ≡ written g = lines-again (written g) stand in
    record {
      short = subst (λ (lines : List (List ℕ)). AreShort lines) (sym cut) short;
      lines = record {
        direction = direction_text g.directed ∷ [];
        nodes = decimal (length g.nodes);
        edges = decimal (length g.edges);
        edge_lines = map edge_text g.edges;
        are = ap kept cut ∙ kept-stands (written g) stand;
        direction_is = refl;
        nodes_is = number-again (length g.nodes) (omega arith);
        edges_is = number-again (length g.edges) (omega arith);
        each_edge = edges.each;
      };
      valid = h;
    }
