-- The plain graph of a well-formed state is valid.
use Rattle.std.proofs.Common.{◌≡◌, ℕ, suc, ◌+◌, ◌<◌, ◌≤◌, ◌==◌, Bool, true, false, cond, not, ◌&&◌, List, [], ◌∷◌, ◌++◌, map, length, Option, Some, None, option_map, unwrap_or, get_or, refl, sym, ap, subst, ◌∙◌, inl, inr, arith}
use Rattle.std.specs.Prelude.{slice_get, codes, IfSome}
use Rattle.std.specs.Bool.{OnTrue}
use Rattle.std.specs.List.{list_all, AllByRecursion}
use Rattle.std.specs.Option.{option_map_or}
use Rattle.std.specs.FinMap as map_of
use Rattle.std.proofs.lemmas.List.{length-map}
use Rattle.graph_defs.specs.declared.plain.PlainEdge.{PlainEdge}
use Rattle.leda_base.specs.Bytes.{is_one_line}
use Rattle.graph_defs.specs.Plain.{IsTypeName, is_void, IsLabelOf, is_number, leads_back, may_have, is_paired, are_paired, IsPlainEdge, IsPlainGraph}
use Rattle.graph_state.specs.State.{GraphState, source, target, node_label, edge_label, visible_nodes}
use Rattle.graph_state.specs.Names.{Has, IsOnce}
use Rattle.graph_state.specs.Formed.{IsFormed, IsKeptType, IsLabel}
use Rattle.graph_state.specs.Reversals.{if_shown, visible_reversal}
use Rattle.graph_state.proofs.Has.{not_both, has_right, has_mapped}
use Rattle.graph_state.proofs.Same.{nat_tells, same_is, same_not}
use Rattle.hide_restore.specs.Net.{place_of}
use Rattle.hide_restore.specs.Canon.{ordered_edges, plain_edge, is_empty, file_type, plain_nodes, plain_edges, plain_of}
use Rattle.hide_restore.proofs.Numbers.{place_here}
use Rattle.hide_restore.proofs.Visible.{nodes_few, ends_seen}
use Rattle.hide_restore.proofs.Ordered.{if_shows, edges_visible, visible_ordered, edges_differ, ordered_few}

both : (a b : Bool) → (a && b) ≡ true → (a ≡ true) × (b ≡ true)
both true b e = (refl, e)
both false b e = cc

both_are : (a b : Bool) → a ≡ true → b ≡ true → (a && b) ≡ true
both_are true b a-is b-is = b-is
both_are false b a-is b-is = cc

-- labels
one_line : (bytes : List ℕ) → (Has 10 bytes → ⊥) → is_one_line bytes ≡ true
one_line [] out = refl
one_line (b ∷ bs) out = elim (nat_tells b 10) [
  | inl y ↦ absurd (out (inl (sym y.1)))
  | inr n ↦ both_are (not (b == 10)) (is_one_line bs) (ap not n.0) (one_line bs (λ i. out (inr i)))
]

label_valid : (void : Bool) (label : List ℕ) → IsLabel label → OnTrue void (length label ≡ 0) → IsLabelOf void label
label_valid void label is empty = record { short = is.few; one_line = one_line label is.line; empty = empty }

kept_label : (o : Option (List ℕ)) → ((label : List ℕ) → o ≡ Some label → IsLabel label) → IsLabel (unwrap_or o [])
kept_label None all = record { few = omega arith; line = λ i. i }
kept_label (Some label) all = all label refl

is_zero : (label : List ℕ) → is_empty label ≡ true → length label ≡ 0
is_zero label e = elim (nat_tells (length label) 0) [ inl y ↦ y.1 | inr n ↦ absurd (not_both e n.0) ]

-- each of the labels is empty, or it doesn't matter
all_empty : (void : Bool) (label : List ℕ) (rest : Bool) → OnTrue void ((is_empty label && rest) ≡ true) → OnTrue void (length label ≡ 0) × OnTrue void (rest ≡ true)
all_empty true label rest e = let b = both (is_empty label) rest e in (is_zero label b.0, b.1)
all_empty false label rest e = (tt, tt)

labels_valid : (void : Bool) (labels : List (List ℕ)) → ((label : List ℕ) → Has label labels → IsLabel label) → OnTrue void (list_all is_empty labels ≡ true) → AllByRecursion (IsLabelOf void) labels
labels_valid void [] all empty = tt
labels_valid void (label ∷ labels) all empty =
    let e = all_empty void label (list_all is_empty labels) empty in
    (label_valid void label (all label (inl refl)) e.0, labels_valid void labels (λ l i. all l (inr i)) e.1)

-- types
named : (bare : Bool) → IsTypeName (cond bare (codes "void") (codes "string"))
named true = record { some = omega arith; short = omega arith; one_line = refl; first = refl; last = refl; mark = refl }
named false = record { some = omega arith; short = omega arith; one_line = refl; first = refl; last = refl; mark = refl }

pub stays : (bare : Bool) (name : List ℕ) → IsTypeName name → file_type bare name ≡ name
stays bare name is = elim (nat_tells (length name) 0) [
  | inl y ↦ let some = is.some in absurd (omega (arith, y.1, some))
  | inr n ↦ ap (λ b. cond b (cond bare (codes "void") (codes "string")) name) n.0
]

type_named : (bare : Bool) (name : List ℕ) → IsKeptType name → IsTypeName (file_type bare name)
type_named bare name (inl is) = subst (λ name. IsTypeName (file_type bare name)) (sym is) (named bare)
type_named bare name (inr k) = subst IsTypeName (sym (stays bare name k.0)) k.0

bare_of : (bare : Bool) → is_void (cond bare (codes "void") (codes "string")) ≡ true → bare ≡ true
bare_of true void = refl
bare_of false void = cc

-- under `void` no label has bytes
void_bare : (bare : Bool) (name : List ℕ) → IsKeptType name → is_void (file_type bare name) ≡ true → bare ≡ true
void_bare bare name (inl is) void = bare_of bare (subst (λ name. is_void (file_type bare name) ≡ true) is void)
void_bare bare name (inr k) void = absurd (not_both (ap is_void (sym (stays bare name k.0)) ∙ void) k.1)

on_true : (b : Bool) (P : Type 0) → (b ≡ true → P) → OnTrue b P
on_true true P all = all refl
on_true false P all = tt

-- places
got : {X : Type 0} (g : ℕ → X) (v : ℕ) (xs : List ℕ) → Has v xs → slice_get (map g xs) (place_of v xs) ≡ Some (g v)
got g v [] i = absurd i
got g v (x ∷ xs) i = elim (nat_tells x v) [
  | inl y ↦ subst (λ b. slice_get (map g (x ∷ xs)) (cond b 0 (place_of v xs + 1)) ≡ Some (g v)) (sym y.0) (ap (λ x. Some (g x)) y.1)
  | inr n ↦
      let one : suc (place_of v xs) ≡ place_of v xs + 1 = omega arith in
      subst (λ b. slice_get (map g (x ∷ xs)) (cond b 0 (place_of v xs + 1)) ≡ Some (g v)) (sym n.0)
      (subst (λ k. slice_get (map g (x ∷ xs)) k ≡ Some (g v)) one (got g v xs (elim i [ inl e ↦ absurd (n.1 (sym e)) | inr j ↦ j ])))
]

pub place_behind : (v : ℕ) (xs rest : List ℕ) → (Has v xs → ⊥) → place_of v (xs ++ v ∷ rest) ≡ length xs
place_behind v [] rest out = ap (λ b. cond b 0 (place_of v rest + 1)) (same_is ◌==◌ nat_tells v v refl)
place_behind v (x ∷ xs) rest out =
    ap (λ b. cond b 0 (place_of v (xs ++ v ∷ rest) + 1)) (same_not ◌==◌ nat_tells x v (λ e. out (inl (sym e))))
    ∙ ap (λ n. n + 1) (place_behind v xs rest (λ i. out (inr i))) ∙ (omega arith)

pub once_apart : (v : ℕ) (xs rest : List ℕ) → IsOnce (xs ++ v ∷ rest) → Has v xs → ⊥
once_apart v [] rest o i = i
once_apart v (x ∷ xs) rest o (inl e) = o.0 (has_right x xs (v ∷ rest) (inl (sym e)))
once_apart v (x ∷ xs) rest o (inr i) = once_apart v xs rest o.1 i

pub push_seam : (ys zs : List ℕ) (x : ℕ) → (ys ++ x ∷ []) ++ zs ≡ ys ++ x ∷ zs
push_seam [] zs x = refl
push_seam (y ∷ ys) zs x = ap (λ us. y ∷ us) (push_seam ys zs x)

pub length_one : (ys : List ℕ) (x : ℕ) → length (ys ++ x ∷ []) ≡ length ys + 1
length_one [] x = omega arith
length_one (y ∷ ys) x = let r = length_one ys x in omega (arith, r)

module _ (s : GraphState) (f : IsFormed s) where
  abbrev es : List ℕ
  es = ordered_edges s

  abbrev plain : ℕ → PlainEdge
  plain e = plain_edge s es e

  -- the reversal of one of the edges is one of them, another one, and leads back
  pub record IsPartner (e g : ℕ) : Type 0 where
    pub there : Has g es
    pub apart : e ≡ g → ⊥
    pub back : visible_reversal s g ≡ Some e
    pub opposite : (source s e ≡ target s g) × (target s e ≡ source s g)

  partner : (e g : ℕ) → Has e es → visible_reversal s e ≡ Some g → IsPartner e g
  partner e g i is =
      let r = if_shows s (map_of.get s.reversals e) g is in
      let p = f.reversals e g r.0 in
      let q = f.reversals g e p.both in
      record {
        there = visible_ordered s f g (q.listed, r.1, tt);
        apart = p.apart;
        back = ap (if_shown s) p.both ∙ ap (λ b. cond b (Some e) None) (edges_visible s f e i).1;
        opposite = p.opposite;
      }

  leads : (e g i : ℕ) → place_of e es ≡ i → IsPartner e g → leads_back i (plain e) (plain g) ≡ true
  leads e g i at p =
      let number : is_number (plain g).rev i ≡ true = ap (λ o. is_number (option_map (λ f. place_of f es) o) i) p.back ∙ same_is ◌==◌ nat_tells (place_of e es) i at in
      let from : ((plain g).from == (plain e).to) ≡ true = same_is ◌==◌ nat_tells (plain g).from (plain e).to (ap (λ v. place_of v (visible_nodes s)) (sym p.opposite.1)) in
      let to : ((plain g).to == (plain e).from) ≡ true = same_is ◌==◌ nat_tells (plain g).to (plain e).from (ap (λ v. place_of v (visible_nodes s)) (sym p.opposite.0)) in
      both_are (is_number (plain g).rev i) ((plain g).from == (plain e).to && (plain g).to == (plain e).from) number
      (both_are ((plain g).from == (plain e).to) ((plain g).to == (plain e).from) from to)

  places_apart : (e g : ℕ) → Has e es → Has g es → (e ≡ g → ⊥) → place_of g es ≡ place_of e es → ⊥
  places_apart e g i j apart same = apart (sym (place_here e es i).1 ∙ ap (λ k. get_or es k 0) (sym same) ∙ (place_here g es j).1)

  may : (e i : ℕ) → Has e es → place_of e es ≡ i → (o : Option ℕ) → visible_reversal s e ≡ o → may_have (map plain es) i (plain e) (option_map (λ f. place_of f es) o) ≡ true
  may e i there at None is = refl
  may e i there at (Some g) is =
      let p = partner e g there is in
      both_are (not (place_of g es == i)) (option_map_or (leads_back i (plain e)) (slice_get (map plain es) (place_of g es)) false)
      (ap not (same_not ◌==◌ nat_tells (place_of g es) i (λ same. places_apart e g there p.there p.apart (same ∙ sym at))))
      (ap (λ o. option_map_or (leads_back i (plain e)) o false) (got plain g es p.there) ∙ leads e g i at p)

  pairs_from : (ys xs : List ℕ) (i : ℕ) → length ys ≡ i → es ≡ ys ++ xs → are_paired (map plain es) i (map plain xs) ≡ true
  pairs_from ys [] i long cut = refl
  pairs_from ys (e ∷ xs) i long cut =
      let there : Has e es = subst (Has e) (sym cut) (has_right e ys (e ∷ xs) (inl refl)) in
      let at : place_of e es ≡ i = ap (place_of e) cut ∙ place_behind e ys xs (once_apart e ys xs (subst IsOnce cut (edges_differ s f))) ∙ long in
      both_are (is_paired (map plain es) i (plain e)) (are_paired (map plain es) (i + 1) (map plain xs)) (may e i there at (visible_reversal s e) refl)
      (pairs_from (ys ++ e ∷ []) xs (i + 1) (length_one ys e ∙ ap (λ n. n + 1) long) (cut ∙ sym (push_seam ys xs e)))

  rev_below : (e : ℕ) → Has e es → (o : Option ℕ) → visible_reversal s e ≡ o → IfSome (option_map (λ f. place_of f es) o) (λ r. r < length (map plain es))
  rev_below e i None is = tt
  rev_below e i (Some g) is = subst (λ n. place_of g es < n) (sym (length-map es plain)) (place_here g es (partner e g i is).there).0

  edge_valid : (void : Bool) (e : ℕ) → Has e es → OnTrue void (length (edge_label s e) ≡ 0) → IsPlainEdge (length (plain_nodes s)) (length (map plain es)) void (plain e)
  edge_valid void e i empty =
      let ends = ends_seen s f e (edges_visible s f e i) in
      let long = length-map (visible_nodes s) (node_label s) in
      record {
        from = subst (λ n. place_of (source s e) (visible_nodes s) < n) (sym long) (place_here (source s e) (visible_nodes s) ends.0).0;
        to = subst (λ n. place_of (target s e) (visible_nodes s) < n) (sym long) (place_here (target s e) (visible_nodes s) ends.1).0;
        rev = rev_below e i (visible_reversal s e) refl;
        label = label_valid void (edge_label s e) (kept_label (map_of.get s.edge_labels e) (λ label is. f.edge_labels e label is)) empty;
      }

  edges_valid : (void : Bool) (xs : List ℕ) → ((e : ℕ) → Has e xs → Has e es) → OnTrue void (list_all (λ (e : PlainEdge). is_empty e.label) (map plain xs) ≡ true)
      → AllByRecursion (IsPlainEdge (length (plain_nodes s)) (length (map plain es)) void) (map plain xs)
  edges_valid void [] all empty = tt
  edges_valid void (e ∷ xs) all empty =
      let h = all_empty void (edge_label s e) (list_all (λ (e : PlainEdge). is_empty e.label) (map plain xs)) empty in
      (edge_valid void e (all e (inl refl)) h.0, edges_valid void xs (λ e i. all e (inr i)) h.1)

  node_labels : (label : List ℕ) → Has label (plain_nodes s) → IsLabel label
  node_labels label i =
      let m = has_mapped (node_label s) label (visible_nodes s) i in
      subst IsLabel (sym m.1.1) (kept_label (map_of.get s.node_labels m.0) (λ label is. f.node_labels m.0 label is))

  -- the law
  pub plain_valid : IsPlainGraph (plain_of s)
  unfolding plain_of
  plain_valid =
      let bare_nodes = list_all is_empty (plain_nodes s) in
      let bare_edges = list_all (λ (e : PlainEdge). is_empty e.label) (plain_edges s) in
      record {
        node_type = type_named bare_nodes s.node_type f.types.0;
        edge_type = type_named bare_edges s.edge_type f.types.1;
        few_nodes = subst (λ n. n ≤ 100000) (sym (length-map (visible_nodes s) (node_label s))) (nodes_few s f);
        few_edges = subst (λ n. n ≤ 400000) (sym (length-map es plain)) (ordered_few s f);
        nodes = labels_valid (is_void (file_type bare_nodes s.node_type)) (plain_nodes s) node_labels
            (on_true (is_void (file_type bare_nodes s.node_type)) (bare_nodes ≡ true) (void_bare bare_nodes s.node_type f.types.0));
        edges = edges_valid (is_void (file_type bare_edges s.edge_type)) es (λ e i. i)
            (on_true (is_void (file_type bare_edges s.edge_type)) (bare_edges ≡ true) (void_bare bare_edges s.edge_type f.types.1));
        pairs = pairs_from [] es 0 refl refl;
      }
