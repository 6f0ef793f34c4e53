-- What contracting a blossom gives: a view of the net, a stem at the hub.
use Rattle.std.proofs.Common.{◌≡◌, ◌⊎◌, inl, inr, ℕ, ◌<◌, ◌≤◌, Bool, true, false, not, ◌&&◌, eqb, List, [], ◌∷◌, length, map, get_or, refl, sym, ◌∙◌, ap, subst, arith}
use Rattle.std.proofs.lemmas.Bool.{true≢false, cases_eq, eq-eqb, eqb-true}
use Rattle.std.proofs.lemmas.Bool.Decides.{nat_tests}
use Rattle.std.proofs.lemmas.List.{get_or-map, length-map}
use Rattle.std.specs.List.{filter}
use Rattle.graph_defs.specs.declared.net.Net.{Net}
use Rattle.graph_defs.specs.Count.{times}
use Rattle.graph_defs.specs.Net.{Ends, EndsBelow, IsValid, source, target}
use Rattle.graph_defs.specs.Matching.{is_end, degree, IsMatching}
use Rattle.graph_defs.proofs.Counts.{times_same, times_other}
use Rattle.match_core.specs.Path.{Joins, IsEvenPath, IsSimple, IsBlossom, HasStem}
use Rattle.blossom_lift.specs.Contraction.{inside, rank, image_of, image_ends, is_inner, IsContracted}
use Rattle.blossom_lift.proofs.Ranks.{bool_cases, rank_below, rank_less, image_in, image_out, standing}
use Rattle.blossom_lift.proofs.Degrees.{end_cases, All_at, All_from, bit_le, filter_has}
use Rattle.blossom_lift.proofs.Views.{IsMet, IsView, joins_below, joins_end, inner_both, img_apart, small_degree}
use Rattle.blossom_lift.proofs.Paths.{HasMate, odd_mate, odd_from_below}

-- ---- inside
pub inside_has : (nodes : List ℕ) (v : ℕ) → inside nodes v ≡ true → 1 ≤ times v nodes
inside_has nodes v t = grind (arith, nat_tests)

pub has_inside : (nodes : List ℕ) (v : ℕ) → 1 ≤ times v nodes → inside nodes v ≡ true
has_inside nodes v t = elim (bool_cases (inside nodes v)) [
  | inl y ↦ y
  | inr f ↦ (let z : times v nodes ≡ 0 = grind (arith, nat_tests) in absurd (omega arith))
]

pub not_inside : (nodes : List ℕ) (v : ℕ) → inside nodes v ≡ false → times v nodes ≡ 0
not_inside nodes v f = grind (arith, nat_tests)

pub joins_sides : (net : Net) (p : ℕ → Bool) (e a b : ℕ) → Joins net e a b → p a ≡ true → p b ≡ true → is_inner p net e ≡ true
joins_sides net p e a b j s t = elim j.ends [
  | inl q ↦ inner_both net p e (ap p q.0 ∙ s) (ap p q.1 ∙ t)
  | inr q ↦ inner_both net p e (ap p q.0 ∙ t) (ap p q.1 ∙ s)
]

pub joins_only : (net : Net) (e a b v : ℕ) → Joins net e a b → is_end net v e ≡ true → (v ≡ a) ⊎ (v ≡ b)
joins_only net e a b v j t = elim (end_cases net v e t) [
  | inl s ↦ elim j.ends [ inl q ↦ inl (sym s ∙ q.0) | inr q ↦ inr (sym s ∙ q.0) ]
  | inr s ↦ elim j.ends [ inl q ↦ inr (sym s ∙ q.1) | inr q ↦ inl (sym s ∙ q.1) ]
]

-- ---- the blossom's own edges
met_by : (net : Net) (m : List ℕ) (base : ℕ) (rest : List ℕ) (v : ℕ) → IsSimple (base ∷ rest) → 1 ≤ times v rest → HasMate net m rest v → IsMet net m (inside (base ∷ rest)) base v
met_by net m base rest v s t h =
    let o = h.among in
    let iv = has_inside (base ∷ rest) v (omega arith) in
    let io = has_inside (base ∷ rest) h.other (omega arith) in
    let b = s base in
    let k = times_same base base rest refl in
    let off : (u : ℕ) → 1 ≤ times u rest → base ≡ u → ⊥ = λ u g e. (let q : times base rest ≡ times u rest = ap (λ (w : ℕ). times w rest) e in absurd (omega arith)) in
    record {
      edge = h.edge;
      has = h.has;
      near = joins_end net h.edge v h.other h.joins;
      inner = joins_sides net (inside (base ∷ rest)) h.edge v h.other h.joins iv io;
      off = elim (bool_cases (is_end net base h.edge)) [
        | inr f ↦ f
        | inl y ↦ elim (joins_only net h.edge v h.other base h.joins y) [ inl e ↦ absurd (off v t e) | inr e ↦ absurd (off h.other o e) ]
      ];
    }

pub blossom_met : (net : Net) (m path : List ℕ) (base : ℕ) (rest : List ℕ) → IsBlossom net m path base rest → (v : ℕ) → inside (base ∷ rest) v ≡ true → (v ≡ base → ⊥) → IsMet net m (inside (base ∷ rest)) base v
blossom_met net m path base rest b v t ne =
    let h = inside_has (base ∷ rest) v t in
    let o = times_other v base rest ne in
    let k : 1 ≤ times v rest = omega arith in
    met_by net m base rest v b.simple k (odd_mate net m path base rest base v b.round k)

-- ---- the view
pub base_inside : (base : ℕ) (rest : List ℕ) → inside (base ∷ rest) base ≡ true
base_inside base rest = has_inside (base ∷ rest) base (let t = times_same base base rest refl in omega arith)

pub back_of : (p : ℕ → Bool) (n base : ℕ) → base < n → p base ≡ true → ℕ → ℕ
back_of p n base b t x = (standing p n base x b t).0

pub view_of : (net small : Net) (edges left path : List ℕ) (base : ℕ) (rest : List ℕ) → IsValid net → IsMatching net edges → (b : IsBlossom net edges path base rest)
    → IsContracted net edges (inside (base ∷ rest)) small left → (l : base < net.n)
    → IsView net edges (inside (base ∷ rest)) base small left (image_of (inside (base ∷ rest)) net.n) (back_of (inside (base ∷ rest)) net.n base l (base_inside base rest)) (rank (inside (base ∷ rest)) net.n)
unfolding back_of
view_of net small edges left path base rest valid m b c l =
    let p : ℕ → Bool = inside (base ∷ rest) in
    let t = base_inside base rest in
    let f : Ends → Ends = image_ends p net.n in
    record {
      ends = valid.ends;
      matching = m;
      base_in = t;
      base_below = l;
      met = blossom_met net edges path base rest b;
      size = c.nodes;
      long = ap length c.arcs ∙ length-map net.arcs f;
      sources = λ e k. ap (λ (arcs : List Ends). (get_or arcs e (0, 0)).0) c.arcs ∙ ap (λ (arc : Ends). arc.0) (get_or-map f net.arcs e (0, 0) (0, 0) k);
      targets = λ e k. ap (λ (arcs : List Ends). (get_or arcs e (0, 0)).1) c.arcs ∙ ap (λ (arc : Ends). arc.1) (get_or-map f net.arcs e (0, 0) (0, 0) k);
      left_is = c.matching;
      img_in = λ v s. image_in p net.n v s;
      img_out = λ v k s. (let e = image_out p net.n v s in let r = rank_below p v net.n k s in omega arith);
      back_below = λ x. (standing p net.n base x l t).1.below;
      back_sole = λ x. (standing p net.n base x l t).1.sole;
      img_back = λ x. (standing p net.n base x l t).1.image;
      back_img = λ v k s. sym ((standing p net.n base (image_of p net.n v) l t).1.only v k s refl);
    }

pub base_below : (net : Net) (edges path : List ℕ) (base : ℕ) (rest : List ℕ) → IsValid net → IsBlossom net edges path base rest → base < net.n
base_below net edges path base rest valid b = odd_from_below net edges path base rest base valid.ends b.round

-- ---- the smaller net is valid
pub small_valid : (net small : Net) (edges left : List ℕ) (p : ℕ → Bool) (base : ℕ) → IsValid net → IsContracted net edges p small left → base < net.n → p base ≡ true → IsValid small
small_valid net small edges left p base valid c l t =
    let f : Ends → Ends = image_ends p net.n in
    let r = rank_less p base net.n l t in
    let n = c.nodes in
    let k = valid.limits.nodes in
    let q = valid.limits.arcs in
    let g = length-map net.arcs f in
    let a : length small.arcs ≡ length (map f net.arcs) = ap length c.arcs in
    let below : (v : ℕ) → v < net.n → image_of p net.n v < small.n = λ v h. elim (bool_cases (p v)) [
      | inl y ↦ (let e = image_in p net.n v y in omega arith)
      | inr z ↦ (let e = image_out p net.n v z in let b = rank_below p v net.n h z in omega arith)
    ] in
    let all : EndsBelow small.n (map f net.arcs) = λ i d h.
    subst (λ (arc : Ends). (arc.0 < small.n) × (arc.1 < small.n)) (sym (get_or-map f net.arcs i (0, 0) d (omega arith)))
    (below (get_or net.arcs i (0, 0)).0 (valid.ends i (0, 0) (omega arith)).0, below (get_or net.arcs i (0, 0)).1 (valid.ends i (0, 0) (omega arith)).1) in
    record {
      ends = subst (λ (arcs : List Ends). EndsBelow small.n arcs) (sym c.arcs) all;
      limits = record { nodes = omega arith; arcs = omega arith };
    }

-- ---- the stem at the hub
pub even_below : (net : Net) (m : List ℕ) (es : List ℕ) (a : ℕ) (vs : List ℕ) (w v : ℕ) → EndsBelow net.n net.arcs → IsEvenPath net m a es vs w → 1 ≤ times v vs → v < net.n
even_below net m [] a [] w v h p t = absurd (omega arith)
even_below net m [] a (d ∷ vs) w v h p t = absurd p
even_below net m (e ∷ []) a vs w v h p t = absurd p
even_below net m (e ∷ f ∷ es) a [] w v h p t = absurd p
even_below net m (e ∷ f ∷ es) a (d ∷ []) w v h p t = absurd p
even_below net m (e ∷ f ∷ es) a (d ∷ g ∷ vs) w v h p t = elim (cases_eq v d) [
  | inl s ↦ (let b : d < net.n = (joins_below net e a d h p.0).1 in omega arith)
  | inr ne ↦ elim (cases_eq v g) [
    | inl s ↦ (let b : g < net.n = (joins_below net f d g h p.1).1 in omega arith)
    | inr nf ↦ (let o = times_other v d (g ∷ vs) ne in let q = times_other v g vs nf in even_below net m es g vs w v h p.3 (omega arith))
  ]
]

img_joins : (net : Net) (edges : List ℕ) (p : ℕ → Bool) (base : ℕ) (small : Net) (left : List ℕ) (img back : ℕ → ℕ) (hub e a b : ℕ) → IsView net edges p base small left img back hub
    → Joins net e a b → (p a ≡ true → a ≡ base) → (p b ≡ true → b ≡ base) → Joins small e (img a) (img b)
img_joins net edges p base small left img back hub e a b v j sa sb =
    let l = joins_below net e a b v.ends j in
    let k = j.among in
    let n = v.long in
    record {
      among = omega arith;
      apart = img_apart net edges p base small left img back hub a b v l.0 l.1 j.apart (λ ta tb. j.apart (sa ta ∙ sym (sb tb)));
      ends = elim j.ends [
        | inl q ↦ inl (v.sources e j.among ∙ ap img q.0, v.targets e j.among ∙ ap img q.1)
        | inr q ↦ inr (v.sources e j.among ∙ ap img q.0, v.targets e j.among ∙ ap img q.1)
      ];
    }

both_first : (a b : Bool) → (a && b) ≡ true → a ≡ true
both_first true b t = refl
both_first false b t = absurd (true≢false (sym t))

both_second : (a b : Bool) → (a && b) ≡ true → b ≡ true
both_second true b t = t
both_second false b t = absurd (true≢false (sym t))

open_left : (net : Net) (edges : List ℕ) (p : ℕ → Bool) (base e a b : ℕ) → 1 ≤ times e edges → Joins net e a b → (p a ≡ true → a ≡ base) → (p b ≡ true → b ≡ base)
    → 1 ≤ times e (filter (λ arc. not (is_inner p net arc)) edges)
open_left net edges p base e a b h j sa sb = filter_has (λ arc. not (is_inner p net arc)) e edges h (elim (bool_cases (is_inner p net e)) [
  | inr f ↦ ap not f
  | inl y ↦ elim j.ends [
    | inl q ↦ absurd (j.apart (sa (ap p (sym q.0) ∙ both_first (p (source net e)) (p (target net e)) y) ∙ sym (sb (ap p (sym q.1) ∙ both_second (p (source net e)) (p (target net e)) y))))
    | inr q ↦ absurd (j.apart (sa (ap p (sym q.1) ∙ both_second (p (source net e)) (p (target net e)) y) ∙ sym (sb (ap p (sym q.0) ∙ both_first (p (source net e)) (p (target net e)) y))))
  ]
])

stem_even : (net : Net) (edges : List ℕ) (p : ℕ → Bool) (base : ℕ) (small : Net) (left : List ℕ) (img back : ℕ → ℕ) (hub : ℕ) → IsView net edges p base small left img back hub
    → (es : List ℕ) (a : ℕ) (vs : List ℕ) (w : ℕ) → IsEvenPath net edges a es vs w → ((u : ℕ) → 1 ≤ times u (a ∷ vs) → p u ≡ true → u ≡ base) → IsEvenPath small left (img a) es (map img vs) (img w)
stem_even net edges p base small left img back hub v [] a [] w q s = ap img q
stem_even net edges p base small left img back hub v [] a (d ∷ vs) w q s = absurd q
stem_even net edges p base small left img back hub v (e ∷ []) a vs w q s = absurd q
stem_even net edges p base small left img back hub v (e ∷ f ∷ es) a [] w q s = absurd q
stem_even net edges p base small left img back hub v (e ∷ f ∷ es) a (d ∷ []) w q s = absurd q
stem_even net edges p base small left img back hub v (e ∷ f ∷ es) a (d ∷ g ∷ vs) w q s =
    let sa = s a (let t = times_same a a (d ∷ g ∷ vs) refl in omega arith) in
    let sd = s d (let t = times_same d d (g ∷ vs) refl in omega arith) in
    let sg = s g (let t = times_same g g vs refl in omega arith) in (
      img_joins net edges p base small left img back hub e a d v q.0 sa sd,
      img_joins net edges p base small left img back hub f d g v q.1 sd sg,
      subst (λ (xs : List ℕ). 1 ≤ times f xs) (sym v.left_is) (open_left net edges p base f d g q.2 q.1 sd sg),
      stem_even net edges p base small left img back hub v es g vs w q.3 (λ u t. s u (omega arith)),
    )

times_img : (net : Net) (edges : List ℕ) (p : ℕ → Bool) (base : ℕ) (small : Net) (left : List ℕ) (img back : ℕ → ℕ) (hub x : ℕ) → IsView net edges p base small left img back hub
    → (vs : List ℕ) → ((u : ℕ) → 1 ≤ times u vs → (u < net.n) × (p u ≡ true → u ≡ base)) → times x (map img vs) ≤ times (back x) vs
times_img net edges p base small left img back hub x v [] s = omega arith
times_img net edges p base small left img back hub x v (u ∷ vs) s =
    let i = times_img net edges p base small left img back hub x v vs (λ w t. s w (omega arith)) in
    let h = s u (let t = times_same u u vs refl in omega arith) in
    let b = bit_le (eqb x (img u)) (eqb (back x) u) (λ t. eq-eqb (back x) u (ap back (eqb-true x (img u) t) ∙ v.back_img u h.0 h.1)) in
    omega arith

pub stem_image : (net : Net) (edges : List ℕ) (p : ℕ → Bool) (base : ℕ) (small : Net) (left : List ℕ) (img back : ℕ → ℕ) (hub : ℕ) → IsView net edges p base small left img back hub
    → HasStem net edges p base → HasStem small left (inside []) hub
stem_image net edges p base small left img back hub v h =
    let sole : (u : ℕ) → 1 ≤ times u (h.from ∷ h.nodes) → p u ≡ true → u ≡ base = λ u t. All_at (λ node. p node ≡ true → node ≡ base) (h.from ∷ h.nodes) u h.away t in
    let low : (u : ℕ) → 1 ≤ times u (h.from ∷ h.nodes) → u < net.n = λ u t. elim (cases_eq u h.from) [
      | inl e ↦ (let l = h.below in omega arith)
      | inr ne ↦ (let o = times_other u h.from h.nodes ne in even_below net edges h.path h.from h.nodes base u v.ends h.stem.even (omega arith))
    ] in
    let first : 1 ≤ times h.from (h.from ∷ h.nodes) = (let t = times_same h.from h.from h.nodes refl in omega arith) in
    let d = small_degree net edges p base small left img back hub (img h.from) v in
    let b = v.back_img h.from h.below (sole h.from first) in
    let g : degree net (back (img h.from)) edges ≡ degree net h.from edges = ap (λ (w : ℕ). degree net w edges) b in
    let free = h.stem.free in
    let top = v.size in
    let e = stem_even net edges p base small left img back hub v h.path h.from h.nodes base h.stem.even sole in
    record {
      from = img h.from;
      path = h.path;
      nodes = map img h.nodes;
      below = elim (bool_cases (p h.from)) [
        | inl y ↦ (let i = v.img_in h.from y in omega arith)
        | inr f ↦ (let o = v.img_out h.from h.below f in omega arith)
      ];
      stem = record {
        free = omega arith;
        even = subst (λ (w : ℕ). IsEvenPath small left (img h.from) h.path (map img h.nodes) w) (v.img_in base v.base_in) e;
        simple = λ x. (let t = times_img net edges p base small left img back hub x v (h.from ∷ h.nodes) (λ u k. (low u k, sole u k)) in let s = h.stem.simple (back x) in omega arith);
      };
      away = All_from (λ node. inside [] node ≡ true → node ≡ hub) (img h.from ∷ map img h.nodes) (λ x t y. absurd (true≢false (sym y)));
    }
