-- What is read of a text is a graph that it stands for.
use Rattle.std.proofs.Common.{◌≡◌, ℕ, zero, suc, ◌+◌, ◌-◌, ◌<◌, ◌≤◌, Bool, true, false, ◌&&◌, ◌==◌, not, nat_eq, nat_lt, nat_le, List, [], ◌∷◌, ◌++◌, length, map, cond, codes, bytes_eq, Option, Some, None, IfSome, Result, Ok, Err, refl, sym, ap, subst, ◌∙◌, append_assoc, arith}
use Rattle.std.specs.Bool.{OnTrue}
use Rattle.std.specs.List.{starts_with, onto_first, AllByRecursion, AllZip}
use Rattle.std.proofs.lemmas.Bool.{ltb-false, leb-true, eqb-true}
use Rattle.std.proofs.lemmas.List.{append-nil, map-id}
use Rattle.std.proofs.lemmas.List.Folds.{list_all-append}
use Rattle.std.proofs.lemmas.Option.{cond_some}
use Rattle.std.proofs.lemmas.Slice.Eq.{bytes_eq-Decides}
use Rattle.leda_base.specs.Decimal.{natural_of}
use Rattle.graph_defs.specs.declared.plain.PlainEdge.{PlainEdge}
use Rattle.graph_defs.specs.declared.plain.PlainGraph.{PlainGraph}
use Rattle.graph_defs.specs.declared.plain.TextKind.{TextKind}
use Rattle.graph_defs.specs.declared.plain.TextKind.TheVariants as kinds
use Rattle.leda_base.specs.Bytes.{is_one_line}
use Rattle.graph_defs.specs.Plain.{is_void, is_paired, are_paired, IsTypeName, IsLabelOf, IsPlainEdge}
use Rattle.graph_text.specs.declared.fault.Fault.{Fault}
use Rattle.graph_text.specs.Lines.{Line, Unread, all_of, lines_of}
use Rattle.graph_text.specs.Parts.{field, behind, within, number_in, label_of}
use Rattle.graph_text.specs.Reading.{◌>>=◌, Head, Way, Sizes, Placed, fault_at, or_fault, line_of, end_of, header_in, type_in, direction_in, count_within, count_in, label_within, label_in, node_in, end_in, reversal_in, place_of, edge_in, many_of, nodes_behind, way_of, head_of, edges_of, edges_in, unpaired_from, all_paired, graph_of, reading_of}
use Rattle.graph_text.specs.Text.{AreDirection, IsEdgeLine, GraphText}
use Rattle.graph_text.specs.Written.{direction_text, label_text, reversal_number}
use Rattle.graph_text.proofs.Fields.{gap, Splits, splits}
use Rattle.graph_text.proofs.Labels.{label-is}
use Rattle.graph_text.proofs.Standing.{Stands, stands-kept}
use Rattle.graph_text.proofs.Steps.{Holds, Took, Took-then, took-line, took-end}
use Rattle.graph_text.proofs.Passes.{ok_is, first_true, second_true}

-- a step that met no fault
bind_ok : {A B : Type 0} (r : Result A Fault) (f : A → Result B Fault) (y : B) → (r >>= f) ≡ Ok y
    → (x : A) × (r ≡ Ok x) × (f x ≡ Ok y)
bind_ok (Ok x) f y e = (x, refl, e)
bind_ok (Err d) f y e = absurd cc

-- a test that met no fault
guard_ok : {A : Type 0} (b : Bool) (d : Fault) (x y : A) → cond b (Err d) (Ok x) ≡ Ok y
    → (b ≡ false) × (x ≡ y)
guard_ok true d x y e = absurd cc
guard_ok false d x y e = (refl, cc)

-- what there had to be
or_fault-ok : {A : Type 0} (why : TextKind) (line : ℕ) (found : Option A) (x : A)
    → or_fault why line found ≡ Ok x → found ≡ Some x
or_fault-ok why line None x e = absurd cc
or_fault-ok why line (Some y) x e = ap Some (ok_is y x e)

-- ---- numbers and labels

within-some : (low high : ℕ) (found : Option ℕ) (n : ℕ) → within low high found ≡ Some n
    → (found ≡ Some n) × (low ≤ n) × (n ≤ high)
within-some low high None n e = absurd cc
within-some low high (Some m) n e =
    let t = cond_some (nat_le low m && nat_le m high) m n e in
    let from : low ≤ m = leb-true low m (first_true (nat_le low m) (nat_le m high) t.0) in
    let to : m ≤ high = leb-true m high (second_true (nat_le low m) (nat_le m high) t.0) in
    let same : m ≡ n = t.1 in
    (ap Some same, omega arith, omega arith)

end-took : (nodes line place : ℕ) (bytes : List ℕ) → end_in nodes line bytes ≡ Ok place
    → (natural_of bytes ≡ Some (place + 1)) × (place < nodes)
unfolding end_in
end-took nodes line place bytes e =
    let a = bind_ok (or_fault kinds.Ends line (number_in 1 nodes bytes)) (λ n. Ok (n - 1)) place
    e in
    let found = within-some 1 nodes (natural_of bytes) a.0
    (or_fault-ok kinds.Ends line (number_in 1 nodes bytes) a.0 a.1) in
    let less : a.0 - 1 ≡ place = ok_is (a.0 - 1) place a.2 in
    let from : 1 ≤ a.0 = found.1 in
    let to : a.0 ≤ nodes = found.2 in
    let same : a.0 ≡ place + 1 = omega arith in
    (found.0 ∙ ap Some same, omega arith)

reversal-took : (edges line : ℕ) (rev : Option ℕ) (bytes : List ℕ)
    → reversal_in edges line bytes ≡ Ok rev
    → (natural_of bytes ≡ Some (reversal_number rev)) × IfSome rev (λ r. r < edges)
unfolding reversal_in
reversal-took edges line rev bytes e =
    let a = bind_ok (or_fault kinds.Reversal line (number_in 0 edges bytes))
    (λ n. Ok (place_of n)) rev e in
    let found = within-some 0 edges (natural_of bytes) a.0
    (or_fault-ok kinds.Reversal line (number_in 0 edges bytes) a.0 a.1) in
    by_number a.0 found.0 found.2 (ok_is (place_of a.0) rev a.2)
  where
    by_number : (n : ℕ) → natural_of bytes ≡ Some n → n ≤ edges → place_of n ≡ rev
        → (natural_of bytes ≡ Some (reversal_number rev)) × IfSome rev (λ r. r < edges)
    by_number zero is few same = rw (← same) (is, tt)
    by_number (suc k) is few same =
        let one : suc k ≡ k + 1 = omega arith in
        rw (← same) (is ∙ ap Some one, omega arith)

-- the line of a node, as it was read
pub record LabelTook (void : Bool) (word label : List ℕ) : Type 0 where
  pub is : word ≡ label_text label
  pub short : length label ≤ 60000
  pub empty : OnTrue void (length label ≡ 0)

label-fits : (void : Bool) (line : ℕ) (found label : List ℕ)
    → label_within void line found ≡ Ok label
    → (found ≡ label) × (length label ≤ 60000) × OnTrue void (length label ≡ 0)
label-fits void line found label e =
    by_length (nat_lt 60000 (length found)) refl e
  where
    by_empty : (v empty : Bool) → (length found == 0) ≡ empty
        → cond (v && not empty) (Err (fault_at kinds.Label line)) (Ok found) ≡ Ok label
        → (found ≡ label) × OnTrue v (length label ≡ 0)
    by_empty true true is h =
        let same : found ≡ label = ok_is found label h in
        (same, rw (← same) (eqb-true (length found) 0 is))
    by_empty true false is h = absurd cc
    by_empty false empty is h = (ok_is found label h, tt)

    by_length : (long : Bool) → nat_lt 60000 (length found) ≡ long
        → cond long (Err (fault_at kinds.Limit line))
        (cond (void && not (length found == 0)) (Err (fault_at kinds.Label line)) (Ok found))
        ≡ Ok label
        → (found ≡ label) × (length label ≤ 60000) × OnTrue void (length label ≡ 0)
    by_length true is h = absurd cc
    by_length false is h =
        let rest = by_empty void (length found == 0) refl h in
        (rest.0, rw (← rest.0) (ltb-false 60000 (length found) is), rest.1)

label-took : (void : Bool) (line : ℕ) (bytes label : List ℕ) → label_in void line bytes ≡ Ok label
    → LabelTook void bytes label
unfolding label_in
label-took void line bytes label e =
    let a = bind_ok (or_fault kinds.Label line (label_of bytes)) (label_within void line) label e in
    let found : label_of bytes ≡ Some a.0 =
    or_fault-ok kinds.Label line (label_of bytes) a.0 a.1 in
    let fits = label-fits void line a.0 label a.2 in
    record {
      is = label-is bytes a.0 found ∙ ap label_text fits.0;
      short = fits.1;
      empty = fits.2;
    }

-- ---- edges

-- the line of an edge, as it was read
pub record EdgeTook (sizes : Sizes) (word : List ℕ) (edge : PlainEdge) : Type 0 where
  pub line : IsEdgeLine word edge
  pub from : edge.from < sizes.nodes
  pub to : edge.to < sizes.nodes
  pub rev : IfSome edge.rev (λ r. r < sizes.edges)
  pub short : length edge.label ≤ 60000
  pub empty : OnTrue sizes.void (length edge.label ≡ 0)

some-number : (bytes : List ℕ) (n : ℕ) → natural_of bytes ≡ Some n → 1 ≤ length bytes
some-number [] n e = absurd cc
some-number (b ∷ bs) n e = omega arith

some-field : (bytes : List ℕ) → 1 ≤ length (field bytes) → 1 ≤ length bytes
some-field [] h = absurd (omega arith)
some-field (b ∷ bs) h = omega arith

-- a field that is a number stands in bytes that are there
some-front : (bytes : List ℕ) (n : ℕ) → natural_of (field bytes) ≡ Some n → 1 ≤ length bytes
some-front bytes n e = some-field bytes (some-number (field bytes) n e)

edge-is : (word : List ℕ) (edge : PlainEdge)
    → natural_of (field word) ≡ Some (edge.from + 1)
    → natural_of (field (behind word)) ≡ Some (edge.to + 1)
    → natural_of (field (behind (behind word))) ≡ Some (reversal_number edge.rev)
    → behind (behind (behind word)) ≡ label_text edge.label
    → IsEdgeLine word edge
edge-is word edge from to rev label =
    let one : List ℕ = behind word in
    let two : List ℕ = behind one in
    let three : List ℕ = behind two in
    let size : length three ≡ length (label_text edge.label) = ap length label in
    let a : Splits word = splits word (some-front one _ to) in
    let b : Splits one = splits one (some-front two _ rev) in
    let c : Splits two = splits two (omega arith) in
    let third : two ≡ field two ++ (gap two ++ label_text edge.label) =
    c.parts ∙ ap (λ (w : List ℕ). field two ++ (gap two ++ w)) label in
    let second : one
    ≡ field one ++ (gap one ++ (field two ++ (gap two ++ label_text edge.label))) =
    b.parts ∙ ap (λ (w : List ℕ). field one ++ (gap one ++ w)) third in
    record {
      from = field word;
      first = gap word;
      to = field one;
      second = gap one;
      rev = field two;
      third = gap two;
      is = a.parts ∙ ap (λ (w : List ℕ). field word ++ (gap word ++ w)) second;
      from_is = from;
      to_is = to;
      rev_is = rev;
      first_is = record { some = a.some; each = a.each };
      second_is = record { some = b.some; each = b.each };
      third_is = record { some = c.some; each = c.each };
    }

edge-took : (sizes : Sizes) (line : Line) (placed : Placed) → edge_in sizes line ≡ Ok placed
    → EdgeTook sizes line.bytes placed.edge
unfolding edge_in
edge-took sizes line placed e =
    let a = bind_ok (end_in sizes.nodes line.number (field line.bytes)) _ placed e in
    let b = bind_ok (end_in sizes.nodes line.number (field (behind line.bytes))) _ placed a.2 in
    let c = bind_ok (reversal_in sizes.edges line.number (field (behind (behind line.bytes)))) _
    placed b.2 in
    let d = bind_ok (label_in sizes.void line.number (behind (behind (behind line.bytes)))) _
    placed c.2 in
    let from = end-took sizes.nodes line.number a.0 (field line.bytes) a.1 in
    let to = end-took sizes.nodes line.number b.0 (field (behind line.bytes)) b.1 in
    let rev = reversal-took sizes.edges line.number c.0 (field (behind (behind line.bytes)))
    c.1 in
    let label = label-took sizes.void line.number (behind (behind (behind line.bytes))) d.0
    d.1 in
    let edge : PlainEdge = record { from = a.0; to = b.0; rev = c.0; label = d.0 } in
    let made : record { line = line.number; edge = edge } ≡ placed =
    ok_is (record { line = line.number; edge = edge }) placed d.2 in
    let is : EdgeTook sizes line.bytes edge = record {
      line = edge-is line.bytes edge from.0 to.0 rev.0 label.is;
      from = from.1;
      to = to.1;
      rev = rev.1;
      short = label.short;
      empty = label.empty;
    } in
    subst (λ (p : Placed). EdgeTook sizes line.bytes p.edge) made is

-- ---- many lines

pub record ManyTook {B : Type 0} (P : List ℕ → B → Type 0) (u : Unread) (items : List B)
    (count : ℕ) (left : Unread) : Type 0 where
  pub words : List (List ℕ)
  pub took : Took u words left
  pub each : AllZip P words items
  pub count_is : length items ≡ count

many-took : {A B : Type 0} (P : List ℕ → B → Type 0) (read : Line → Result A Fault)
    (view : A → B) → ((line : Line) (a : A) → read line ≡ Ok a → P line.bytes (view a))
    → (count : ℕ) (u : Unread) (items : List A) (left : Unread)
    → many_of read count u ≡ Ok (items, left) → ManyTook P u (map view items) count left
unfolding many_of
many-took {A = A} P read view each zero u items left e =
    let same = ok_is ([], u) (items, left) e in
    let none : [] ≡ items = ap (λ (p : List A × Unread). p.0) same in
    let all : u ≡ left = ap (λ (p : List A × Unread). p.1) same in
    rw (← none, ← all) (record {
      words = [];
      took = record { short = λ h. h; words_are = refl };
      each = tt;
      count_is = refl;
    })
many-took {A = A} P read view each (suc n) u items left e =
    let a = bind_ok (line_of u) _ (items, left) e in
    let b = bind_ok (read a.0.0) _ (items, left) a.2 in
    let c = bind_ok (many_of read n a.0.1) _ (items, left) b.2 in
    let others = many-took P read view each n a.0.1 c.0.0 c.0.1 c.1 in
    let same = ok_is (b.0 ∷ c.0.0, c.0.1) (items, left) c.2 in
    subst (λ (p : List A × Unread). ManyTook P u (map view p.0) (suc n) p.1) same (record {
      words = a.0.0.bytes ∷ others.words;
      took = Took-then u (a.0.0.bytes ∷ []) a.0.1 others.words c.0.1 (took-line u a.0.0 a.0.1 a.1)
          others.took;
      each = (each a.0.0 b.0 b.1, others.each);
      count_is = ap suc others.count_is;
    })

-- ---- what comes before the nodes

count-took : (most : ℕ) (line : Line) (n : ℕ) → count_in most line ≡ Ok n
    → (natural_of line.bytes ≡ Some n) × (n ≤ most)
count-took most line n e = by_number (natural_of line.bytes) e
  where
    by_number : (found : Option ℕ) → count_within most line.number found ≡ Ok n
        → (found ≡ Some n) × (n ≤ most)
    by_number None h = absurd cc
    by_number (Some m) h =
        let g = guard_ok (nat_lt most m) (fault_at kinds.Limit line.number) m n h in
        let few : m ≤ most = ltb-false most m g.0 in
        let same : m ≡ n = g.1 in
        (ap Some same, omega arith)

direction-took : (line : Line) (directed : Bool) → direction_in line ≡ Ok (Some directed)
    → line.bytes ≡ direction_text directed
direction-took line directed e =
    by_tests (starts_with nat_eq line.bytes (codes "-")) (bytes_eq line.bytes (codes "-1"))
    (bytes_eq line.bytes (codes "-2")) refl refl e
  where
    by_tests : (minus one two : Bool) → bytes_eq line.bytes (codes "-1") ≡ one
        → bytes_eq line.bytes (codes "-2") ≡ two
        → cond (not minus) (Ok None) (cond one (Ok (Some true)) (cond two (Ok (Some false))
        (Err (fault_at kinds.Kind line.number)))) ≡ Ok (Some directed)
        → line.bytes ≡ direction_text directed
    by_tests false one two is also h = absurd cc
    by_tests true true two is also h =
        let same : true ≡ directed = cc in
        rw (← same) ((bytes_eq-Decides line.bytes (codes "-1")).0 is)
    by_tests true false true is also h =
        let same : false ≡ directed = cc in
        rw (← same) ((bytes_eq-Decides line.bytes (codes "-2")).0 also)
    by_tests true false false is also h = absurd cc

pub record WayTook (u : Unread) (way : Way) (left : Unread) : Type 0 where
  pub direction : List (List ℕ)
  pub nodes : List ℕ
  pub took : Took u (direction ++ (nodes ∷ [])) left
  pub direction_is : AreDirection way.directed direction
  pub nodes_is : natural_of nodes ≡ Some way.nodes
  pub few : way.nodes ≤ 100000

nodes-took : (u : Unread) (found : Option Bool) (line : Line) (middle : Unread) (way : Way)
    (left : Unread) → Took u (line.bytes ∷ []) middle → direction_in line ≡ Ok found
    → nodes_behind found line middle ≡ Ok (way, left) → WayTook u way left
unfolding nodes_behind
nodes-took u None line middle way left took is e =
    let a = bind_ok (count_in 100000 line) _ (way, left) e in
    let count = count-took 100000 line a.0 a.1 in
    let same = ok_is (record { directed = true; nodes = a.0 }, middle) (way, left) a.2 in
    subst (λ (p : Way × Unread). WayTook u p.0 p.1) same (record {
      direction = [];
      nodes = line.bytes;
      took = took;
      direction_is = refl;
      nodes_is = count.0;
      few = count.1;
    })
nodes-took u (Some directed) line middle way left took is e =
    let a = bind_ok (line_of middle) _ (way, left) e in
    let b = bind_ok (count_in 100000 a.0.0) _ (way, left) a.2 in
    let count = count-took 100000 a.0.0 b.0 b.1 in
    let same = ok_is (record { directed = directed; nodes = b.0 }, a.0.1) (way, left) b.2 in
    subst (λ (p : Way × Unread). WayTook u p.0 p.1) same (record {
      direction = line.bytes ∷ [];
      nodes = a.0.0.bytes;
      took = Took-then u (line.bytes ∷ []) middle (a.0.0.bytes ∷ []) a.0.1 took
          (took-line middle a.0.0 a.0.1 a.1);
      direction_is = direction-took line directed is;
      nodes_is = count.0;
      few = count.1;
    })

way-took : (u : Unread) (way : Way) (left : Unread) → way_of u ≡ Ok (way, left)
    → WayTook u way left
unfolding way_of
way-took u way left e =
    let a = bind_ok (line_of u) _ (way, left) e in
    let b = bind_ok (direction_in a.0.0) _ (way, left) a.2 in
    nodes-took u b.0 a.0.0 a.0.1 way left (took-line u a.0.0 a.0.1 a.1) b.1 b.2

header-took : (line : Line) (is : Bool) → header_in line ≡ Ok is
    → line.bytes ≡ codes "LEDA.GRAPH"
header-took line is e = by_test (bytes_eq line.bytes (codes "LEDA.GRAPH")) refl e
  where
    by_test : (v : Bool) → bytes_eq line.bytes (codes "LEDA.GRAPH") ≡ v
        → cond v (Ok true) (Err (fault_at kinds.Header line.number)) ≡ Ok is
        → line.bytes ≡ codes "LEDA.GRAPH"
    by_test true t h = (bytes_eq-Decides line.bytes (codes "LEDA.GRAPH")).0 t
    by_test false t h = absurd cc

type-took : (line : Line) (name : List ℕ) → type_in line ≡ Ok name
    → (line.bytes ≡ name) × (length name ≤ 255)
type-took line name e =
    let g = guard_ok (nat_lt 255 (length line.bytes)) (fault_at kinds.Limit line.number)
    line.bytes name e in
    let short : length line.bytes ≤ 255 = ltb-false 255 (length line.bytes) g.0 in
    (g.1, rw (← g.1) short)

pub record HeadTook (u : Unread) (head : Head) (left : Unread) : Type 0 where
  pub direction : List (List ℕ)
  pub nodes : List ℕ
  pub took : Took u (codes "LEDA.GRAPH" ∷ head.node_type ∷ head.edge_type
      ∷ (direction ++ (nodes ∷ []))) left
  pub direction_is : AreDirection head.directed direction
  pub nodes_is : natural_of nodes ≡ Some head.nodes
  pub few : head.nodes ≤ 100000
  pub short : length head.node_type ≤ 255
  pub shorter : length head.edge_type ≤ 255

head-took : (u : Unread) (head : Head) (left : Unread) → head_of u ≡ Ok (head, left)
    → HeadTook u head left
unfolding head_of
head-took u head left e =
    let a = bind_ok (line_of u) _ (head, left) e in
    let named = bind_ok (header_in a.0.0) _ (head, left) a.2 in
    let b = bind_ok (line_of a.0.1) _ (head, left) named.2 in
    let first = bind_ok (type_in b.0.0) _ (head, left) b.2 in
    let c = bind_ok (line_of b.0.1) _ (head, left) first.2 in
    let second = bind_ok (type_in c.0.0) _ (head, left) c.2 in
    let d = bind_ok (way_of c.0.1) _ (head, left) second.2 in
    let way = way-took c.0.1 d.0.0 d.0.1 d.1 in
    let one : Took u (codes "LEDA.GRAPH" ∷ []) a.0.1 =
    rw (header-took a.0.0 named.0 named.1) at (took-line u a.0.0 a.0.1 a.1) in
    let node_type = type-took b.0.0 first.0 first.1 in
    let edge_type = type-took c.0.0 second.0 second.1 in
    let two : Took a.0.1 (first.0 ∷ []) b.0.1 =
    rw node_type.0 at (took-line a.0.1 b.0.0 b.0.1 b.1) in
    let three : Took b.0.1 (second.0 ∷ []) c.0.1 =
    rw edge_type.0 at (took-line b.0.1 c.0.0 c.0.1 c.1) in
    let end : Took b.0.1 (second.0 ∷ (way.direction ++ (way.nodes ∷ []))) d.0.1 =
    Took-then b.0.1 (second.0 ∷ []) c.0.1 (way.direction ++ (way.nodes ∷ [])) d.0.1 three
    way.took in
    let middle : Took a.0.1 (first.0 ∷ second.0 ∷ (way.direction ++ (way.nodes ∷ []))) d.0.1 =
    Took-then a.0.1 (first.0 ∷ []) b.0.1 (second.0 ∷ (way.direction ++ (way.nodes ∷ []))) d.0.1
    two end in
    let made : Head = record {
      directed = d.0.0.directed;
      node_type = first.0;
      edge_type = second.0;
      nodes = d.0.0.nodes;
    } in
    let same = ok_is (made, d.0.1) (head, left) d.2 in
    subst (λ (p : Head × Unread). HeadTook u p.0 p.1) same (record {
      direction = way.direction;
      nodes = way.nodes;
      took = Took-then u (codes "LEDA.GRAPH" ∷ []) a.0.1
          (first.0 ∷ second.0 ∷ (way.direction ++ (way.nodes ∷ []))) d.0.1 one middle;
      direction_is = way.direction_is;
      nodes_is = way.nodes_is;
      few = way.few;
      short = node_type.1;
      shorter = edge_type.1;
    })

-- ---- the edges, and that they are paired

pub record EdgesTook (u : Unread) (nodes : ℕ) (void : Bool) (edges : List PlainEdge)
    (left : Unread) : Type 0 where
  pub count : List ℕ
  pub words : List (List ℕ)
  pub took : Took u (count ∷ words) left
  pub count_is : natural_of count ≡ Some (length edges)
  pub few : length edges ≤ 400000
  pub each : AllZip
      (EdgeTook (record { nodes = nodes; edges = length edges; void = void })) words edges

edges-took : (u : Unread) (nodes : ℕ) (void : Bool) (placed : List Placed) (left : Unread)
    → edges_of nodes void u ≡ Ok (placed, left)
    → EdgesTook u nodes void (edges_in placed) left
unfolding edges_of
edges-took u nodes void placed left e =
    let a = bind_ok (line_of u) _ (placed, left) e in
    let b = bind_ok (count_in 400000 a.0.0) _ (placed, left) a.2 in
    let count = count-took 400000 a.0.0 b.0 b.1 in
    let sizes : ℕ → Sizes = λ m. record { nodes = nodes; edges = m; void = void } in
    let many : ManyTook (EdgeTook (sizes b.0)) a.0.1 (edges_in placed) b.0 left =
    many-took (EdgeTook (sizes b.0)) (edge_in (sizes b.0)) (λ p. p.edge) (edge-took (sizes b.0)) b.0
    a.0.1 placed left b.2 in
    let size : length (edges_in placed) ≡ b.0 = many.count_is in
    record {
      count = a.0.0.bytes;
      words = many.words;
      took = Took-then u (a.0.0.bytes ∷ []) a.0.1 many.words left (took-line u a.0.0 a.0.1 a.1)
          many.took;
      count_is = count.0 ∙ ap Some (sym size);
      few = rw size count.1;
      each = subst (λ (m : ℕ). AllZip (EdgeTook (sizes m)) many.words (edges_in placed)) (sym size)
          many.each;
    }

all-paired : (edges : List PlainEdge) (i : ℕ) (placed : List Placed)
    → unpaired_from edges i placed ≡ None → are_paired edges i (edges_in placed) ≡ true
all-paired edges i [] h = refl
all-paired edges i (p ∷ ps) h =
    by_test (is_paired edges i p.edge) h (all-paired edges (i + 1) ps)
  where
    by_test : (v : Bool)
        → cond v (unpaired_from edges (i + 1) ps) (Some p.line) ≡ None
        → (unpaired_from edges (i + 1) ps ≡ None
        → are_paired edges (i + 1) (edges_in ps) ≡ true)
        → (v && are_paired edges (i + 1) (edges_in ps)) ≡ true
    by_test true h later = later h
    by_test false h later = absurd cc

paired-took : (found : Option ℕ) (is : Bool) → all_paired found ≡ Ok is → found ≡ None
paired-took None is e = refl
paired-took (Some line) is e = absurd cc

-- ---- the graph

-- the lines that count stand for the graph, but that labels and types may be of several lines
pub record GraphTook (u : Unread) (g : PlainGraph) : Type 0 where
  pub direction : List (List ℕ)
  pub nodes : List ℕ
  pub edges : List ℕ
  pub edge_lines : List (List ℕ)
  pub holds : Holds u (codes "LEDA.GRAPH" ∷ g.node_type ∷ g.edge_type
      ∷ (direction ++ (nodes ∷ (map label_text g.nodes ++ (edges ∷ edge_lines)))))
  pub direction_is : AreDirection g.directed direction
  pub nodes_is : natural_of nodes ≡ Some (length g.nodes)
  pub edges_is : natural_of edges ≡ Some (length g.edges)
  pub few_nodes : length g.nodes ≤ 100000
  pub few_edges : length g.edges ≤ 400000
  pub short : length g.node_type ≤ 255
  pub shorter : length g.edge_type ≤ 255
  pub each_node : AllZip (LabelTook (is_void g.node_type)) (map label_text g.nodes) g.nodes
  pub each_edge : AllZip (EdgeTook (record {
    nodes = length g.nodes;
    edges = length g.edges;
    void = is_void g.edge_type;
  })) edge_lines g.edges
  pub pairs : are_paired g.edges 0 g.edges ≡ true

-- lines of labels are the texts of the labels
labels-are : (void : Bool) (words labels : List (List ℕ)) → AllZip (LabelTook void) words labels
    → words ≡ map label_text labels
labels-are void [] [] h = refl
labels-are void [] (l ∷ ls) h = absurd h
labels-are void (w ∷ ws) [] h = absurd h
labels-are void (w ∷ ws) (l ∷ ls) h =
    rw (h.0.is, labels-are void ws ls h.1) refl

graph-took : (u : Unread) (g : PlainGraph) → graph_of u ≡ Ok g → GraphTook u g
unfolding graph_of
graph-took u g e =
    let a = bind_ok (head_of u) _ g e in
    let b = bind_ok (many_of (node_in (is_void a.0.0.node_type)) a.0.0.nodes a.0.1) _ g a.2 in
    let c = bind_ok (edges_of a.0.0.nodes (is_void a.0.0.edge_type) b.0.1) _ g b.2 in
    let d = bind_ok (end_of c.0.1) _ g c.2 in
    let p = bind_ok (all_paired (unpaired_from (edges_in c.0.0) 0 c.0.0)) _ g d.2 in
    let head = head-took u a.0.0 a.0.1 a.1 in
    let void : Bool = is_void a.0.0.node_type in
    let labels : ManyTook (LabelTook void) a.0.1 (map (λ label. label) b.0.0) a.0.0.nodes b.0.1 =
    many-took (LabelTook void) (node_in void) (λ label. label)
    (λ line label is. label-took void line.number line.bytes label is) a.0.0.nodes a.0.1 b.0.0
    b.0.1 b.1 in
    let edges = edges-took b.0.1 a.0.0.nodes (is_void a.0.0.edge_type) c.0.0 c.0.1 c.1 in
    let end : Holds c.0.1 [] = took-end c.0.1 d.0 d.1 in
    let same_labels : map (λ label. label) b.0.0 ≡ b.0.0 = map-id b.0.0 in
    let each : AllZip (LabelTook void) labels.words b.0.0 = rw same_labels at labels.each in
    let words_are : labels.words ≡ map label_text b.0.0 = labels-are void labels.words b.0.0 each in
    let count : length b.0.0 ≡ a.0.0.nodes = rw same_labels at labels.count_is in
    let front : List (List ℕ) = codes "LEDA.GRAPH" ∷ a.0.0.node_type ∷ a.0.0.edge_type
    ∷ (head.direction ++ (head.nodes ∷ [])) in
    let behind : Took b.0.1 (edges.count ∷ edges.words) c.0.1 = edges.took in
    let middle : Took a.0.1 (map label_text b.0.0 ++ (edges.count ∷ edges.words)) c.0.1 =
    Took-then a.0.1 (map label_text b.0.0) b.0.1 (edges.count ∷ edges.words) c.0.1
    (rw words_are at labels.took) behind in
    let all : Took u (front ++ (map label_text b.0.0 ++ (edges.count ∷ edges.words))) c.0.1 =
    Took-then u front a.0.1 (map label_text b.0.0 ++ (edges.count ∷ edges.words)) c.0.1
    head.took middle in
    let made : PlainGraph = record {
      directed = a.0.0.directed;
      node_type = a.0.0.node_type;
      edge_type = a.0.0.edge_type;
      nodes = b.0.0;
      edges = edges_in c.0.0;
    } in
    let is : GraphTook u made = record {
      direction = head.direction;
      nodes = head.nodes;
      edges = edges.count;
      edge_lines = edges.words;
      holds = record {
        short = all.short end.short;
        words_are = all.words_are ∙ rw end.words_are (regrouped head.direction head.nodes
            (map label_text b.0.0 ++ (edges.count ∷ edges.words)) a.0.0.node_type a.0.0.edge_type);
      };
      direction_is = head.direction_is;
      nodes_is = head.nodes_is ∙ ap Some (sym count);
      edges_is = edges.count_is;
      few_nodes = rw count head.few;
      few_edges = edges.few;
      short = head.short;
      shorter = head.shorter;
      each_node = rw (← words_are) each;
      each_edge = rw count edges.each;
      pairs = all-paired (edges_in c.0.0) 0 c.0.0 (paired-took _ p.0 p.1);
    } in
    subst (λ (h : PlainGraph). GraphTook u h) (ok_is made g p.2) is
  where
    regrouped : (direction : List (List ℕ)) (nodes : List ℕ) (later : List (List ℕ))
        (one two : List ℕ)
        → (codes "LEDA.GRAPH" ∷ one ∷ two ∷ (direction ++ (nodes ∷ []))) ++ later ++ []
        ≡ codes "LEDA.GRAPH" ∷ one ∷ two ∷ (direction ++ (nodes ∷ later))
    regrouped direction nodes later one two =
        append-nil _
        ∙ ap (λ (ws : List (List ℕ)). codes "LEDA.GRAPH" ∷ one ∷ two ∷ ws)
        (append_assoc direction (nodes ∷ []) later)

-- ---- one line each

one_line-label : (label : List ℕ) → is_one_line (label_text label) ≡ true
    → is_one_line label ≡ true
one_line-label label h =
    let all : is_one_line (label ++ codes "}|") ≡ true = h in
    first_true (is_one_line label) (is_one_line (codes "}|"))
    (sym (list_all-append (λ b. not (b == 10)) label (codes "}|")) ∙ all)

-- the end of bytes of one line
one_line-end : (front end : List ℕ) → is_one_line (front ++ end) ≡ true
    → is_one_line end ≡ true
one_line-end front end h =
    second_true (is_one_line front) (is_one_line end)
    (sym (list_all-append (λ b. not (b == 10)) front end) ∙ h)

labels-fit : (void : Bool) (labels : List (List ℕ))
    → AllByRecursion Stands (map label_text labels)
    → AllZip (LabelTook void) (map label_text labels) labels
    → AllByRecursion (IsLabelOf void) labels
labels-fit void [] h each = tt
labels-fit void (l ∷ ls) h each = (
  record {
    short = each.0.short;
    one_line = one_line-label l h.0.one_line;
    empty = each.0.empty;
  },
  labels-fit void ls h.1 each.1,
)

one_line-edge : (word : List ℕ) (edge : PlainEdge) → IsEdgeLine word edge
    → is_one_line word ≡ true → is_one_line edge.label ≡ true
one_line-edge word edge l h =
    let label : List ℕ = label_text edge.label in
    let all : is_one_line (l.from ++ (l.first ++ (l.to ++ (l.second ++ (l.rev ++ (l.third
    ++ label)))))) ≡ true = rw l.is at h in
    one_line-label edge.label (one_line-end l.third label (one_line-end l.rev (l.third ++ label)
    (one_line-end l.second (l.rev ++ (l.third ++ label)) (one_line-end l.to
    (l.second ++ (l.rev ++ (l.third ++ label))) (one_line-end l.first
    (l.to ++ (l.second ++ (l.rev ++ (l.third ++ label)))) (one_line-end l.from
    (l.first ++ (l.to ++ (l.second ++ (l.rev ++ (l.third ++ label))))) all))))))

edges-fit : (sizes : Sizes) (words : List (List ℕ)) (edges : List PlainEdge)
    → AllByRecursion Stands words → AllZip (EdgeTook sizes) words edges
    → AllByRecursion (IsPlainEdge sizes.nodes sizes.edges sizes.void) edges
edges-fit sizes words [] h each = tt
edges-fit sizes [] (e ∷ es) h each = absurd each
edges-fit sizes (w ∷ ws) (e ∷ es) h each = (
  record {
    from = each.0.from;
    to = each.0.to;
    rev = each.0.rev;
    label = record {
      short = each.0.short;
      one_line = one_line-edge w e each.0.line h.0.one_line;
      empty = each.0.empty;
    };
  },
  edges-fit sizes ws es h.1 each.1,
)

edge-lines : (sizes : Sizes) (words : List (List ℕ)) (edges : List PlainEdge)
    → AllZip (EdgeTook sizes) words edges → AllZip IsEdgeLine words edges
edge-lines sizes [] [] each = tt
edge-lines sizes [] (e ∷ es) each = absurd each
edge-lines sizes (w ∷ ws) [] each = absurd each
edge-lines sizes (w ∷ ws) (e ∷ es) each = (each.0.line, edge-lines sizes ws es each.1)

-- what holds of each line of a front and of what comes behind it
each-behind : (P : List ℕ → Type 0) (front behind : List (List ℕ))
    → AllByRecursion P (front ++ behind) → AllByRecursion P behind
each-behind P [] behind h = h
each-behind P (w ∷ ws) behind h = each-behind P ws behind h.1

each-front : (P : List ℕ → Type 0) (front behind : List (List ℕ))
    → AllByRecursion P (front ++ behind) → AllByRecursion P front
each-front P [] behind h = tt
each-front P (w ∷ ws) behind h = (h.0, each-front P ws behind h.1)

type-fits : (name : List ℕ) → Stands name → length name ≤ 255 → IsTypeName name
type-fits name h short = record {
  some = h.some;
  short = short;
  one_line = h.one_line;
  first = h.first;
  last = h.last;
  mark = h.mark;
}

-- ---- the text

-- a line with one byte more in front
each-onto : (b : ℕ) (lines : List (List ℕ)) → (b == 10) ≡ false
    → AllByRecursion (λ line. is_one_line line ≡ true) lines
    → AllByRecursion (λ line. is_one_line line ≡ true) (onto_first b lines)
each-onto b [] e h = (rw e refl, tt)
each-onto b (l ∷ ls) e h = (rw e h.0, h.1)

lines-one : (text : List ℕ) → AllByRecursion (λ line. is_one_line line ≡ true) (lines_of text)
lines-one [] = tt
lines-one (b ∷ bs) = by_test (b == 10) refl (lines-one bs)
  where
    by_test : (v : Bool) → (b == 10) ≡ v
        → AllByRecursion (λ line. is_one_line line ≡ true) (lines_of bs)
        → AllByRecursion (λ line. is_one_line line ≡ true)
        (cond v ([] ∷ lines_of bs) (onto_first b (lines_of bs)))
    by_test true e later = (refl, later)
    by_test false e later = each-onto b (lines_of bs) e later

pub text-took : (text : List ℕ) (g : PlainGraph) → reading_of text ≡ Ok g → GraphText text g
unfolding reading_of
text-took text g e =
    let t = graph-took (all_of text) g e in
    let behind_edges : List (List ℕ) = t.edges ∷ t.edge_lines in
    let behind_nodes : List (List ℕ) = t.nodes ∷ (map label_text g.nodes ++ behind_edges) in
    let words : List (List ℕ) = codes "LEDA.GRAPH" ∷ g.node_type ∷ g.edge_type
    ∷ (t.direction ++ behind_nodes) in
    let stand : AllByRecursion Stands words =
    rw t.holds.words_are at (stands-kept (lines_of text) (lines-one text)) in
    let later : AllByRecursion Stands behind_nodes =
    each-behind Stands t.direction behind_nodes stand.1.1.1 in
    let sizes : Sizes = record {
      nodes = length g.nodes;
      edges = length g.edges;
      void = is_void g.edge_type;
    } in
    let last : AllByRecursion Stands behind_edges =
    each-behind Stands (map label_text g.nodes) behind_edges later.1 in
    record {
      short = t.holds.short;
      lines = record {
        direction = t.direction;
        nodes = t.nodes;
        edges = t.edges;
        edge_lines = t.edge_lines;
        are = t.holds.words_are;
        direction_is = t.direction_is;
        nodes_is = t.nodes_is;
        edges_is = t.edges_is;
        each_edge = edge-lines sizes t.edge_lines g.edges t.each_edge;
      };
      valid = record {
        node_type = type-fits g.node_type stand.1.0 t.short;
        edge_type = type-fits g.edge_type stand.1.1.0 t.shorter;
        few_nodes = t.few_nodes;
        few_edges = t.few_edges;
        nodes = labels-fit (is_void g.node_type) g.nodes
            (each-front Stands (map label_text g.nodes) behind_edges later.1) t.each_node;
        edges = edges-fit sizes t.edge_lines g.edges last.1 t.each_edge;
        pairs = t.pairs;
      };
    }
