-- A contracted net beside the net it comes from, by the image of each node and the node that stands
-- for each image.
use Rattle.std.proofs.Common.{◌≡◌, ◌≢◌, inl, inr, ℕ, ◌+◌, ◌<◌, ◌≤◌, Bool, true, false, not, ◌&&◌, List, length, refl, sym, ◌∙◌, ap, subst, arith}
use Rattle.std.proofs.lemmas.Bool.{true≢false, cases_eq}
use Rattle.std.specs.List.{filter}
use Rattle.graph_defs.specs.declared.net.Net.{Net}
use Rattle.graph_defs.specs.Count.{times}
use Rattle.graph_defs.specs.Net.{EndsBelow, source, target}
use Rattle.graph_defs.specs.Matching.{is_end, degree, IsMatching}
use Rattle.match_core.specs.Path.{IsFree, Joins}
use Rattle.blossom_lift.specs.Contraction.{is_inner}
use Rattle.blossom_lift.proofs.Ranks.{bool_cases}
use Rattle.blossom_lift.proofs.Degrees.{end_cases, source_end, target_end, All_at, All_from, one_edge_at, degree_le, times_filter, filter_passed, degree_filter, degree_kept}

-- each node inside but the base has its edge of the matching inside, and not at the base
pub record IsMet (net : Net) (edges : List ℕ) (p : ℕ → Bool) (base v : ℕ) : Type 0 where
  pub edge : ℕ
  pub has : 1 ≤ times edge edges
  pub near : is_end net v edge ≡ true
  pub inner : is_inner p net edge ≡ true
  pub off : is_end net base edge ≡ false

pub AreMet : Net → List ℕ → (ℕ → Bool) → ℕ → Type 0
AreMet net edges p base = (v : ℕ) → p v ≡ true → (v ≡ base → ⊥) → IsMet net edges p base v

pub record IsView (net : Net) (edges : List ℕ) (p : ℕ → Bool) (base : ℕ) (small : Net) (left : List ℕ) (img back : ℕ → ℕ) (hub : ℕ) : Type 0 where
  pub ends : EndsBelow net.n net.arcs
  pub matching : IsMatching net edges
  pub base_in : p base ≡ true
  pub base_below : base < net.n
  pub met : (v : ℕ) → p v ≡ true → (v ≡ base → ⊥) → IsMet net edges p base v
  pub size : small.n ≡ hub + 1
  pub long : length small.arcs ≡ length net.arcs
  pub sources : (e : ℕ) → e < length net.arcs → source small e ≡ img (source net e)
  pub targets : (e : ℕ) → e < length net.arcs → target small e ≡ img (target net e)
  pub left_is : left ≡ filter (λ arc. not (is_inner p net arc)) edges
  pub img_in : (v : ℕ) → p v ≡ true → img v ≡ hub
  pub img_out : (v : ℕ) → v < net.n → p v ≡ false → img v < hub
  pub back_below : (x : ℕ) → back x < net.n
  pub back_sole : (x : ℕ) → p (back x) ≡ true → back x ≡ base
  pub img_back : (x : ℕ) → x ≤ hub → img (back x) ≡ x
  pub back_img : (v : ℕ) → v < net.n → (p v ≡ true → v ≡ base) → back (img v) ≡ v

-- ---- tests
and_true : (a b : Bool) → a ≡ true → b ≡ true → (a && b) ≡ true
and_true true b s t = t
and_true false b s t = absurd (true≢false (sym s))

and_left : (a b : Bool) → (a && b) ≡ true → a ≡ true
and_left true b t = refl
and_left false b t = absurd (true≢false (sym t))

and_right : (a b : Bool) → (a && b) ≡ true → b ≡ true
and_right true b t = t
and_right false b t = absurd (true≢false (sym t))

not_true : (a : Bool) → not a ≡ true → a ≡ false
not_true true t = absurd (true≢false (sym t))
not_true false t = refl

not_false : (a : Bool) → a ≡ false → not a ≡ true
not_false true t = absurd (true≢false t)
not_false false t = refl

pub inner_both : (net : Net) (p : ℕ → Bool) (e : ℕ) → p (source net e) ≡ true → p (target net e) ≡ true → is_inner p net e ≡ true
inner_both net p e s t = and_true (p (source net e)) (p (target net e)) s t

-- ---- ends
pub ends_below : (net : Net) (e : ℕ) → EndsBelow net.n net.arcs → e < length net.arcs → (source net e < net.n) × (target net e < net.n)
ends_below net e h l = h e (0, 0) l

pub joins_below : (net : Net) (e a b : ℕ) → EndsBelow net.n net.arcs → Joins net e a b → (a < net.n) × (b < net.n)
joins_below net e a b h j =
    let r = ends_below net e h j.among in
    let s : source net e < net.n = r.0 in
    let t : target net e < net.n = r.1 in
    elim j.ends [
      | inl q ↦ (let u : source net e ≡ a = q.0 in let w : target net e ≡ b = q.1 in (omega arith, omega arith))
      | inr q ↦ (let u : source net e ≡ b = q.0 in let w : target net e ≡ a = q.1 in (omega arith, omega arith))
    ]

pub joins_turned : (net : Net) (e a b : ℕ) → Joins net e a b → Joins net e b a
joins_turned net e a b j = record {
  among = j.among;
  apart = λ s. j.apart (sym s);
  ends = elim j.ends [ inl q ↦ inr q | inr q ↦ inl q ];
}

pub joins_end : (net : Net) (e a b : ℕ) → Joins net e a b → is_end net a e ≡ true
joins_end net e a b j = elim j.ends [ inl q ↦ source_end net a e q.0 | inr q ↦ target_end net a e q.1 ]

-- an edge with an end at v joins v and another node
pub record HasOther (net : Net) (v e : ℕ) : Type 0 where
  pub other : ℕ
  pub joins : Joins net e v other

pub other_end : (net : Net) (v e : ℕ) → e < length net.arcs → (source net e ≡ target net e → ⊥) → is_end net v e ≡ true → HasOther net v e
other_end net v e l ne t = elim (end_cases net v e t) [
  | inl s ↦ record { other = target net e; joins = record { among = l; apart = λ (q : v ≡ target net e). ne (s ∙ q); ends = inl (s, refl) } }
  | inr s ↦ record { other = source net e; joins = record { among = l; apart = λ (q : v ≡ source net e). ne (sym q ∙ sym s); ends = inr (refl, s) } }
]

-- ---- edges of the matching at the blossom
joins_inner : (net : Net) (p : ℕ → Bool) (e a b : ℕ) → Joins net e a b → is_inner p net e ≡ true → p b ≡ true
joins_inner net p e a b j t = elim j.ends [
  | inl q ↦ ap p (sym q.1) ∙ and_right (p (source net e)) (p (target net e)) t
  | inr q ↦ ap p (sym q.0) ∙ and_left (p (source net e)) (p (target net e)) t
]

pub base_outer : (net : Net) (edges : List ℕ) (p : ℕ → Bool) (base e : ℕ) → IsMatching net edges → AreMet net edges p base → 1 ≤ times e edges → is_end net base e ≡ true → is_inner p net e ≡ false
unfolding AreMet
base_outer net edges p base e m met h t = elim (bool_cases (is_inner p net e)) [
  | inr f ↦ f
  | inl y ↦ (let o = other_end net base e (All_at (λ edge. edge < length net.arcs) edges e m.among h) (All_at (λ edge. source net edge ≢ target net edge) edges e m.loops h) t in
      let i = met o.other (joins_inner net p e base o.other o.joins y) (λ s. o.joins.apart (sym s)) in
      let s = one_edge_at net o.other e i.edge edges m h i.has (joins_end net e o.other base (joins_turned net e base o.other o.joins)) i.near in
      absurd (true≢false (sym t ∙ ap (is_end net base) s ∙ i.off)))
]

pub matched_sole : (net : Net) (edges : List ℕ) (p : ℕ → Bool) (base v e : ℕ) → IsMatching net edges → AreMet net edges p base
    → 1 ≤ times e (filter (λ arc. not (is_inner p net arc)) edges) → is_end net v e ≡ true → p v ≡ true → v ≡ base
unfolding AreMet
matched_sole net edges p base v e m met h t y = elim (cases_eq v base) [
  | inl s ↦ s
  | inr ne ↦ (let q : ℕ → Bool = λ arc. not (is_inner p net arc) in
      let i = met v y ne in
      let k = times_filter q e edges in
      let s = one_edge_at net v e i.edge edges m (omega arith) i.has t i.near in
      let o = not_true (is_inner p net e) (filter_passed q e edges h) in
      absurd (true≢false (sym i.inner ∙ ap (is_inner p net) (sym s) ∙ o)))
]

-- ---- images
pub img_apart : (net : Net) (edges : List ℕ) (p : ℕ → Bool) (base : ℕ) (small : Net) (left : List ℕ) (img back : ℕ → ℕ) (hub a b : ℕ) → IsView net edges p base small left img back hub
    → a < net.n → b < net.n → (a ≡ b → ⊥) → (p a ≡ true → p b ≡ true → ⊥) → img a ≡ img b → ⊥
img_apart net edges p base small left img back hub a b v la lb ne most s = elim (bool_cases (p a)) [
  | inl ta ↦ elim (bool_cases (p b)) [
    | inl tb ↦ most ta tb
    | inr fb ↦ (let i = v.img_in a ta in let o = v.img_out b lb fb in absurd (omega arith))
  ]
  | inr fa ↦ elim (bool_cases (p b)) [
    | inl tb ↦ (let i = v.img_in b tb in let o = v.img_out a la fa in absurd (omega arith))
    | inr fb ↦ ne (sym (v.back_img a la (λ t. absurd (true≢false (sym t ∙ fa)))) ∙ ap back s ∙ v.back_img b lb (λ t. absurd (true≢false (sym t ∙ fb))))
  ]
]

-- an edge of the smaller net joins images
pub record Spans (net : Net) (img : ℕ → ℕ) (e x y : ℕ) : Type 0 where
  pub from : ℕ
  pub to : ℕ
  pub joins : Joins net e from to
  pub from_img : img from ≡ x
  pub to_img : img to ≡ y

pub spans : (net : Net) (edges : List ℕ) (p : ℕ → Bool) (base : ℕ) (small : Net) (left : List ℕ) (img back : ℕ → ℕ) (hub e x y : ℕ) → IsView net edges p base small left img back hub
    → Joins small e x y → Spans net img e x y
spans net edges p base small left img back hub e x y v j =
    let l : e < length net.arcs = (let k = j.among in let o = v.long in omega arith) in
    let s = v.sources e l in
    let t = v.targets e l in
    elim j.ends [
      | inl q ↦ record {
        from = source net e;
        to = target net e;
        from_img = sym s ∙ q.0;
        to_img = sym t ∙ q.1;
        joins = record { among = l; apart = λ (d : source net e ≡ target net e). j.apart (sym q.0 ∙ s ∙ ap img d ∙ sym t ∙ q.1); ends = inl (refl, refl) };
      }
      | inr q ↦ record {
        from = target net e;
        to = source net e;
        from_img = sym t ∙ q.1;
        to_img = sym s ∙ q.0;
        joins = record { among = l; apart = λ (d : target net e ≡ source net e). j.apart (sym q.1 ∙ t ∙ ap img d ∙ sym s ∙ q.0); ends = inr (refl, refl) };
      }
    ]

pub stands : (net : Net) (edges : List ℕ) (p : ℕ → Bool) (base : ℕ) (small : Net) (left : List ℕ) (img back : ℕ → ℕ) (hub u x : ℕ) → IsView net edges p base small left img back hub
    → u < net.n → img u ≡ x → (x ≡ hub → ⊥) → u ≡ back x
stands net edges p base small left img back hub u x v l e ne = elim (bool_cases (p u)) [
  | inl t ↦ absurd (ne (sym e ∙ v.img_in u t))
  | inr f ↦ sym (v.back_img u l (λ t. absurd (true≢false (sym t ∙ f)))) ∙ ap back e
]

-- an edge from x to a node other than the hub, back in the larger net
pub record HasFirst (net : Net) (img back : ℕ → ℕ) (e x y : ℕ) : Type 0 where
  pub from : ℕ
  pub below : from < net.n
  pub image : img from ≡ x
  pub joins : Joins net e from (back y)

pub first_joins : (net : Net) (edges : List ℕ) (p : ℕ → Bool) (base : ℕ) (small : Net) (left : List ℕ) (img back : ℕ → ℕ) (hub e x y : ℕ) → IsView net edges p base small left img back hub
    → Joins small e x y → (y ≡ hub → ⊥) → HasFirst net img back e x y
first_joins net edges p base small left img back hub e x y v j ne =
    let s = spans net edges p base small left img back hub e x y v j in
    let b = joins_below net e s.from s.to v.ends s.joins in
    record {
      from = s.from;
      below = b.0;
      image = s.from_img;
      joins = subst (λ (w : ℕ). Joins net e s.from w) (stands net edges p base small left img back hub s.to y v b.1 s.to_img ne) s.joins;
    }

pub outer_joins : (net : Net) (edges : List ℕ) (p : ℕ → Bool) (base : ℕ) (small : Net) (left : List ℕ) (img back : ℕ → ℕ) (hub e x y : ℕ) → IsView net edges p base small left img back hub
    → Joins small e x y → (x ≡ hub → ⊥) → (y ≡ hub → ⊥) → Joins net e (back x) (back y)
outer_joins net edges p base small left img back hub e x y v j nx ny =
    let s = first_joins net edges p base small left img back hub e x y v j ny in
    subst (λ (w : ℕ). Joins net e w (back y)) (stands net edges p base small left img back hub s.from x v s.below s.image nx) s.joins

-- an edge of the matching ends at the base where it ends at the hub
pub matched_joins : (net : Net) (edges : List ℕ) (p : ℕ → Bool) (base : ℕ) (small : Net) (left : List ℕ) (img back : ℕ → ℕ) (hub f x y : ℕ) → IsView net edges p base small left img back hub
    → 1 ≤ times f left → Joins small f x y → Joins net f (back x) (back y)
unfolding AreMet
matched_joins net edges p base small left img back hub f x y v h j =
    let s = spans net edges p base small left img back hub f x y v j in
    let b = joins_below net f s.from s.to v.ends s.joins in
    let k : 1 ≤ times f (filter (λ arc. not (is_inner p net arc)) edges) = subst (λ (es : List ℕ). 1 ≤ times f es) v.left_is h in
    let from : back x ≡ s.from = ap back (sym s.from_img) ∙ v.back_img s.from b.0 (matched_sole net edges p base s.from f v.matching v.met k (joins_end net f s.from s.to s.joins)) in
    let to : back y ≡ s.to = ap back (sym s.to_img) ∙ v.back_img s.to b.1 (matched_sole net edges p base s.to f v.matching v.met k (joins_end net f s.to s.from (joins_turned net f s.from s.to s.joins))) in
    subst (λ (w : ℕ). Joins net f (back x) w) (sym to) (subst (λ (w : ℕ). Joins net f w s.to) (sym from) s.joins)

pub left_in : (net : Net) (edges : List ℕ) (p : ℕ → Bool) (base : ℕ) (small : Net) (left : List ℕ) (img back : ℕ → ℕ) (hub f : ℕ) → IsView net edges p base small left img back hub
    → 1 ≤ times f left → 1 ≤ times f edges
left_in net edges p base small left img back hub f v h =
    let k : 1 ≤ times f (filter (λ arc. not (is_inner p net arc)) edges) = subst (λ (es : List ℕ). 1 ≤ times f es) v.left_is h in
    let t = times_filter (λ arc. not (is_inner p net arc)) f edges in
    omega arith

-- ---- degrees in both nets
edge_below : (net : Net) (edges : List ℕ) (e : ℕ) → IsMatching net edges → 1 ≤ times e edges → e < length net.arcs
edge_below net edges e m h = All_at (λ edge. edge < length net.arcs) edges e m.among h

pub small_end : (net : Net) (edges : List ℕ) (p : ℕ → Bool) (base : ℕ) (small : Net) (left : List ℕ) (img back : ℕ → ℕ) (hub u e : ℕ) → IsView net edges p base small left img back hub
    → 1 ≤ times e left → is_end small u e ≡ true → is_end net (back u) e ≡ true
unfolding AreMet
small_end net edges p base small left img back hub u e v h t =
    let k : 1 ≤ times e (filter (λ arc. not (is_inner p net arc)) edges) = subst (λ (es : List ℕ). 1 ≤ times e es) v.left_is h in
    let l = edge_below net edges e v.matching (left_in net edges p base small left img back hub e v h) in
    let b = ends_below net e v.ends l in
    elim (end_cases small u e t) [
      | inl s ↦ source_end net (back u) e (sym (v.back_img (source net e) b.0 (matched_sole net edges p base (source net e) e v.matching v.met k (source_end net (source net e) e refl))) ∙ ap back (sym (v.sources e l) ∙ s))
      | inr s ↦ target_end net (back u) e (sym (v.back_img (target net e) b.1 (matched_sole net edges p base (target net e) e v.matching v.met k (target_end net (target net e) e refl))) ∙ ap back (sym (v.targets e l) ∙ s))
    ]

pub small_degree : (net : Net) (edges : List ℕ) (p : ℕ → Bool) (base : ℕ) (small : Net) (left : List ℕ) (img back : ℕ → ℕ) (hub x : ℕ) → IsView net edges p base small left img back hub
    → degree small x left ≤ degree net (back x) edges
small_degree net edges p base small left img back hub x v =
    let d = degree_le small net x (back x) left (λ e h t. small_end net edges p base small left img back hub x e v h t) in
    let f = degree_filter net (back x) (λ arc. not (is_inner p net arc)) edges in
    let s : degree net (back x) left ≡ degree net (back x) (filter (λ arc. not (is_inner p net arc)) edges) = ap (degree net (back x)) v.left_is in
    omega arith

-- no edge of the matching inside ends at a node that stands for itself
sole_open : (net : Net) (edges : List ℕ) (p : ℕ → Bool) (base u e : ℕ) → IsMatching net edges → AreMet net edges p base → (p u ≡ true → u ≡ base) → 1 ≤ times e edges → is_end net u e ≡ true
    → is_inner p net e ≡ false
sole_open net edges p base u e m met sole h t = elim (bool_cases (is_inner p net e)) [
  | inr f ↦ f
  | inl y ↦ (let i : p u ≡ true = elim (end_cases net u e t) [
    | inl s ↦ ap p (sym s) ∙ and_left (p (source net e)) (p (target net e)) y
    | inr s ↦ ap p (sym s) ∙ and_right (p (source net e)) (p (target net e)) y
  ] in
      base_outer net edges p base e m met h (subst (λ (w : ℕ). is_end net w e ≡ true) (sole i) t))
]

pub large_end : (net : Net) (edges : List ℕ) (p : ℕ → Bool) (base : ℕ) (small : Net) (left : List ℕ) (img back : ℕ → ℕ) (hub u e : ℕ) → IsView net edges p base small left img back hub
    → 1 ≤ times e left → is_end net u e ≡ true → is_end small (img u) e ≡ true
large_end net edges p base small left img back hub u e v h t =
    let l = edge_below net edges e v.matching (left_in net edges p base small left img back hub e v h) in
    elim (end_cases net u e t) [
      | inl s ↦ source_end small (img u) e (v.sources e l ∙ ap img s)
      | inr s ↦ target_end small (img u) e (v.targets e l ∙ ap img s)
    ]

pub large_degree : (net : Net) (edges : List ℕ) (p : ℕ → Bool) (base : ℕ) (small : Net) (left : List ℕ) (img back : ℕ → ℕ) (hub u : ℕ) → IsView net edges p base small left img back hub
    → (p u ≡ true → u ≡ base) → degree net u edges ≤ degree small (img u) left
unfolding AreMet
large_degree net edges p base small left img back hub u v sole =
    let q : ℕ → Bool = λ arc. not (is_inner p net arc) in
    let k = degree_kept net u q edges (λ e h t. not_false (is_inner p net e) (sole_open net edges p base u e v.matching v.met sole h t)) in
    let s : degree net u left ≡ degree net u (filter q edges) = ap (degree net u) v.left_is in
    let d = degree_le net small u (img u) left (λ e h t. large_end net edges p base small left img back hub u e v h t) in
    omega arith

pub free_back : (net : Net) (edges : List ℕ) (p : ℕ → Bool) (base : ℕ) (small : Net) (left : List ℕ) (img back : ℕ → ℕ) (hub x : ℕ) → IsView net edges p base small left img back hub
    → x ≤ hub → IsFree small left x → IsFree net edges (back x)
free_back net edges p base small left img back hub x v l f =
    let d = large_degree net edges p base small left img back hub (back x) v (v.back_sole x) in
    let s : degree small (img (back x)) left ≡ degree small x left = ap (λ (w : ℕ). degree small w left) (v.img_back x l) in
    omega arith

-- ---- what is left of the matching is one
not_both : (a b : Bool) → (a && b) ≡ false → a ≡ true → b ≡ true → ⊥
not_both true b f s t = true≢false (sym t ∙ f)
not_both false b f s t = true≢false (sym s)

pub small_matching : (net : Net) (edges : List ℕ) (p : ℕ → Bool) (base : ℕ) (small : Net) (left : List ℕ) (img back : ℕ → ℕ) (hub : ℕ) → IsView net edges p base small left img back hub
    → IsMatching small left
small_matching net edges p base small left img back hub v = record {
  among = All_from (λ edge. edge < length small.arcs) left (λ e h.
      let l = edge_below net edges e v.matching (left_in net edges p base small left img back hub e v h) in let o = v.long in omega arith);
  loops = All_from (λ edge. source small edge ≢ target small edge) left (λ e h.
      let i = left_in net edges p base small left img back hub e v h in
      let l = edge_below net edges e v.matching i in
      let b = ends_below net e v.ends l in
      let k : 1 ≤ times e (filter (λ arc. not (is_inner p net arc)) edges) = subst (λ (es : List ℕ). 1 ≤ times e es) v.left_is h in
      let o = not_true (is_inner p net e) (filter_passed (λ arc. not (is_inner p net arc)) e edges k) in
      λ s. img_apart net edges p base small left img back hub (source net e) (target net e) v b.0 b.1
      (All_at (λ edge. source net edge ≢ target net edge) edges e v.matching.loops i)
      (not_both (p (source net e)) (p (target net e)) o)
      (sym (v.sources e l) ∙ s ∙ v.targets e l));
  apart = λ x. let d = small_degree net edges p base small left img back hub x v in let a = v.matching.apart (back x) in omega arith;
}
