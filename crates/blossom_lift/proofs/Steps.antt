-- The steps of the passes, and what they come to.
use Rattle.std.proofs.Common.{◌≡◌, ◌⊎◌, inl, inr, ℕ, zero, suc, ◌+◌, ◌<◌, ◌≤◌, Bool, true, false, not, ◌&&◌, cond, eqb, ltb, List, [], ◌∷◌, ◌++◌, length, map, take, drop, get_or, set, reverse, refl, sym, ◌∙◌, ap, subst, All, get_or-set_same, get_or-set_other, length-set, arith}
use Rattle.std.proofs.lemmas.Bool.{cases_eq, eq-eqb, ne_eqb}
use Rattle.std.proofs.lemmas.List.{length-map, get_or-map}
use Rattle.std.proofs.lemmas.List.FromFn.{map-range_with_len_more, get_or-map-range_with_len, length-map-range_with_len}
use Rattle.std.specs.List.{filter, range_with_len}
use Rattle.graph_defs.specs.declared.net.Net.{Net}
use Rattle.graph_defs.specs.Count.{times}
use Rattle.graph_defs.specs.Net.{Ends, EndsBelow, IsValid, source, target}
use Rattle.graph_defs.specs.Matching.{IsMatching, IsOddSetCover}
use Rattle.graph_defs.proofs.Counts.{times_more, times_other, times_has, has_times}
use Rattle.match_core.specs.declared.matching.Blossom.{Blossom}
use Rattle.match_core.specs.Path.{IsOddPath, IsBlossom, IsAugmenting, HasStem}
use Rattle.blossom_lift.specs.declared.level.Level.{Level}
use Rattle.blossom_lift.specs.Contraction.{inside, rank, image_of, image_ends, is_inner, IsContracted, IsLevelOf, IsCycle, IsLevel, IsLiftedCover}
use Rattle.blossom_lift.specs.Passes.{marked, AreMarks, read_ends, IsHubAt, way_to, IsEndPlace, IsWithWay, IsFitLabel, label_of}
use Rattle.blossom_lift.proofs.Ranks.{bool_cases, rank_below, image_in, image_out}
use Rattle.blossom_lift.proofs.Degrees.{end_cases, source_end, target_end, All_at, All_from, times_head}
use Rattle.blossom_lift.proofs.Views.{IsView, ends_below, small_matching}
use Rattle.blossom_lift.proofs.Paths.{odd_lengths, odd_below}
use Rattle.blossom_lift.proofs.Contracting.{inside_has, has_inside, not_inside, base_inside, back_of, base_below, view_of, small_valid, stem_image}
use Rattle.blossom_lift.proofs.Places.{IsSpot, spot, spot_arc, augmenting_turned, all_off, way, lifted_off, lifted_at}
use Rattle.blossom_lift.proofs.LiftedCovers.{AreLifted, lifted_covers, cover_lifted_size, not_all_used}

-- ---- marks
pub marks_more : (numbers : List ℕ) (n k : ℕ) (marks after : List Bool) → AreMarks (take k numbers) n marks → k < length numbers → after ≡ set marks (get_or numbers k 0) true → AreMarks (take (k + 1) numbers) n after
marks_more numbers n k marks after m l e =
    let x : ℕ = get_or numbers k 0 in
    subst (AreMarks (take (k + 1) numbers) n) (sym e) (record {
      long = length-set marks x true ∙ m.long;
      each = λ v h. (let t = times_more v numbers k l in
          let g = m.long in
          elim (cases_eq x v) [
            | inl s ↦ (let b = eq-eqb v x (sym s) in
                let c : cond {A = ℕ} (eqb v x) 1 0 ≡ 1 = ap (λ (z : Bool). cond {A = ℕ} z 1 0) b in
                subst (λ (w : ℕ). get_or (set marks x true) w false ≡ inside (take (k + 1) numbers) v) s
                (get_or-set_same marks x true false (omega arith) ∙ sym (has_inside (take (k + 1) numbers) v (omega arith))))
            | inr ne ↦ (let b = ne_eqb v x (λ q. ne (sym q)) in
                let c : cond {A = ℕ} (eqb v x) 1 0 ≡ 0 = ap (λ (z : Bool). cond {A = ℕ} z 1 0) b in
                let s : times v (take k numbers) ≡ times v (take (k + 1) numbers) = omega arith in
                get_or-set_other marks x v true false (λ q. ne (sym q)) ∙ m.each v h ∙ ap (ltb 0) s)
          ]);
    })

pub some_unmarked : (labels : List ℕ) (marks slice : List Bool) → AreMarks labels (length labels + 3) marks → slice ≡ marks
    → ((place : ℕ) → 2 ≤ place → place < length slice → marked slice place ≡ true) → ⊥
some_unmarked labels marks slice m e h = not_all_used labels (λ label low high.
    let l = m.long in
    let s : length slice ≡ length marks = ap length e in
    let t : marked slice label ≡ true = h label low (omega arith) in
    inside_has labels label (sym (m.each label high) ∙ ap (λ (s : List Bool). marked s label) (sym e) ∙ t))

pub unmarked_unused : (labels : List ℕ) (marks slice : List Bool) (label : ℕ) → AreMarks labels (length labels + 3) marks → slice ≡ marks → label < length slice → marked slice label ≡ false → times label labels ≡ 0
unmarked_unused labels marks slice label m e l f =
    let g = m.long in
    let s : length slice ≡ length marks = ap length e in
    not_inside labels label (sym (m.each label (omega arith)) ∙ ap (λ (s : List Bool). marked s label) (sym e) ∙ f)

-- ---- numbers in the smaller net
pub rank_more : (p : ℕ → Bool) (k : ℕ) → rank p (k + 1) ≡ rank p k + cond (p k) 0 1
rank_more p k =
    let e : suc k ≡ k + 1 = omega arith in
    subst (λ (j : ℕ). rank p j ≡ rank p k + cond (p k) 0 1) e refl

pub images_more : (marks : List Bool) (k hub next x : ℕ) (images after : List ℕ) → hub ≡ rank (marked marks) (length marks) → next ≡ rank (marked marks) k → x ≡ cond (get_or marks k false) hub next
    → images ≡ map (image_of (marked marks) (length marks)) (range_with_len 0 k) → after ≡ images ++ x ∷ []
    → after ≡ map (image_of (marked marks) (length marks)) (range_with_len 0 (k + 1))
images_more marks k hub next x images after h n v i a =
    let e : x ≡ image_of (marked marks) (length marks) k = v ∙ ap (λ (y : ℕ). cond (get_or marks k false) y next) h ∙ ap (λ (y : ℕ). cond (get_or marks k false) (rank (marked marks) (length marks)) y) n in
    a ∙ ap (λ (ys : List ℕ). ys ++ x ∷ []) i ∙ ap (λ (y : ℕ). map (image_of (marked marks) (length marks)) (range_with_len 0 k) ++ y ∷ []) e
    ∙ sym (map-range_with_len_more (image_of (marked marks) (length marks)) 0 k k (omega arith))

rank_agree : (p q : ℕ → Bool) (n : ℕ) → ((v : ℕ) → v < n → p v ≡ q v) → rank p n ≡ rank q n
rank_agree p q zero h = refl
rank_agree p q (suc n) h =
    let i = rank_agree p q n (λ v l. h v (omega arith)) in
    let e : cond {A = ℕ} (p n) 0 1 ≡ cond {A = ℕ} (q n) 0 1 = ap (λ (b : Bool). cond {A = ℕ} b 0 1) (h n (omega arith)) in
    omega arith

image_agree : (p q : ℕ → Bool) (n v : ℕ) → ((v : ℕ) → v < n → p v ≡ q v) → v < n → image_of p n v ≡ image_of q n v
image_agree p q n v h l =
    ap (λ (x : ℕ). cond (p v) x (rank p v)) (rank_agree p q n h) ∙ ap (λ (x : ℕ). cond (p v) (rank q n) x) (rank_agree p q v (λ u k. h u (omega arith)))
    ∙ ap (λ (b : Bool). cond b (rank q n) (rank q v)) (h v l)

map_range_agree : (f g : ℕ → ℕ) (n : ℕ) → ((v : ℕ) → v < n → f v ≡ g v) → map f (range_with_len 0 n) ≡ map g (range_with_len 0 n)
map_range_agree f g zero h = refl
map_range_agree f g (suc n) h =
    let e : n + 1 ≡ suc n = omega arith in
    let i = map_range_agree f g n (λ v l. h v (omega arith)) in
    subst (λ (k : ℕ). map f (range_with_len 0 k) ≡ map g (range_with_len 0 k)) e
    (map-range_with_len_more f 0 n n (omega arith) ∙ ap (λ (ys : List ℕ). ys ++ f n ∷ []) i ∙ ap (λ (y : ℕ). map g (range_with_len 0 n) ++ y ∷ []) (h n (omega arith))
    ∙ sym (map-range_with_len_more g 0 n n (omega arith)))

map_same : (f g : Ends → Ends) (arcs : List Ends) → ((i : ℕ) → i < length arcs → f (get_or arcs i (0, 0)) ≡ g (get_or arcs i (0, 0))) → map f arcs ≡ map g arcs
map_same f g [] h = refl
map_same f g (a ∷ arcs) h =
    let i = map_same f g arcs (λ i l. h (suc i) (omega arith)) in
    ap (λ (x : Ends). x ∷ map f arcs) (h 0 (omega arith)) ∙ ap (λ (xs : List Ends). g a ∷ xs) i

filter_same : (p q : ℕ → Bool) (xs : List ℕ) → ((x : ℕ) → 1 ≤ times x xs → p x ≡ q x) → filter p xs ≡ filter q xs
filter_same p q [] h = refl
filter_same p q (x ∷ xs) h =
    let i = filter_same p q xs (λ y t. h y (omega arith)) in
    ap (λ (b : Bool). cond b (x ∷ filter p xs) (filter p xs)) (h x (times_head x xs)) ∙ ap (λ (ys : List ℕ). cond (q x) (x ∷ ys) ys) i

pub images_long : (f : ℕ → ℕ) (n : ℕ) (image : List ℕ) → image ≡ map f (range_with_len 0 n) → length image ≡ n
images_long f n image e = ap length e ∙ length-map-range_with_len f 0 n

image_at : (f : ℕ → ℕ) (n : ℕ) (image : List ℕ) (v : ℕ) → image ≡ map f (range_with_len 0 n) → v < n → get_or image v 0 ≡ f v
image_at f n image v e l = ap (λ (xs : List ℕ). get_or xs v 0) e ∙ get_or-map-range_with_len f 0 n v v 0 l (omega arith)

-- every arc's ends are below the number of images
pub ends_imaged : (net : Net) (marks slice : List Bool) (f : ℕ → ℕ) (image images : List ℕ) (arcs : List Ends) (nodes : List ℕ) → IsValid net → AreMarks nodes net.n marks → slice ≡ marks
    → image ≡ map f (range_with_len 0 (length slice)) → images ≡ image → arcs ≡ net.arcs → EndsBelow (length images) arcs
ends_imaged net marks slice f image images arcs nodes valid m s i e a =
    let n : net.n ≡ length images = sym (m.long) ∙ ap length (sym s) ∙ sym (images_long f (length slice) image i) ∙ ap length (sym e) in
    subst (EndsBelow (length images)) (sym a) (subst (λ (k : ℕ). EndsBelow k net.arcs) n valid.ends)

pub ends_marked : (net : Net) (marks slice : List Bool) (nodes : List ℕ) → IsValid net → AreMarks nodes net.n marks → slice ≡ marks → EndsBelow (length slice) net.arcs
ends_marked net marks slice nodes valid m s = subst (λ (k : ℕ). EndsBelow k net.arcs) (sym m.long ∙ ap length (sym s)) valid.ends

-- ---- the level that the passes make
pub level_made : (net : Net) (edges : List ℕ) (b : Blossom) (marks : List Bool) (hub : ℕ) (image left : List ℕ) (arcs : List Ends) (level : Level) → IsValid net → IsMatching net edges → AreMarks b.nodes net.n marks
    → hub ≡ rank (marked marks) (length marks) → image ≡ map (image_of (marked marks) (length marks)) (range_with_len 0 (length marks))
    → arcs ≡ map (read_ends image) net.arcs → left ≡ filter (λ arc. not (is_inner (marked marks) net arc)) edges
    → level.net.n ≡ hub + 1 → level.net.arcs ≡ arcs → level.matching.edges ≡ left → level.image ≡ image → level.hub ≡ hub → IsLevelOf net edges b level
level_made net edges b marks hub image left arcs level valid m k h i a l ln la lm li lh =
    let p : ℕ → Bool = marked marks in
    let q : ℕ → Bool = inside b.nodes in
    let n : ℕ = net.n in
    let r : hub ≡ rank q n = h ∙ ap (rank p) k.long ∙ rank_agree p q n k.each in
    let im : image ≡ map (image_of q n) (range_with_len 0 n) =
    i ∙ ap (λ (j : ℕ). map (image_of p j) (range_with_len 0 j)) k.long ∙ map_range_agree (image_of p n) (image_of q n) n (λ v c. image_agree p q n v k.each c) in
    let ar : arcs ≡ map (image_ends q n) net.arcs = a ∙ map_same (read_ends image) (image_ends q n) net.arcs (λ j c.
    let e = valid.ends j (0, 0) c in
    let arc : Ends = get_or net.arcs j (0, 0) in
    ap (λ (x : ℕ). (x, get_or image arc.1 0)) (image_at (image_of q n) n image arc.0 im e.0) ∙ ap (λ (x : ℕ). (image_of q n arc.0, x)) (image_at (image_of q n) n image arc.1 im e.1)) in
    let le : left ≡ filter (λ arc. not (is_inner q net arc)) edges = l ∙ filter_same (λ arc. not (is_inner p net arc)) (λ arc. not (is_inner q net arc)) edges (λ e t.
    let d = ends_below net e valid.ends (All_at (λ edge. edge < length net.arcs) edges e m.among t) in
    ap (λ (x : Bool). not (x && p (target net e))) (k.each (source net e) d.0) ∙ ap (λ (x : Bool). not (q (source net e) && x)) (k.each (target net e) d.1)) in
    record {
      contracted = record { nodes = ln ∙ ap (λ (x : ℕ). x + 1) r; arcs = la ∙ ar; matching = lm ∙ le };
      images = li ∙ im;
      last = lh ∙ r;
    }

-- ---- what contracting gives, by the blossom's list of nodes
pub contracted_valid : (net small : Net) (edges left nodes path : List ℕ) → IsValid net → IsCycle net edges nodes path → IsContracted net edges (inside nodes) small left → IsValid small
contracted_valid net small edges left [] path valid c k = absurd c
contracted_valid net small edges left (base ∷ rest) path valid c k = small_valid net small edges left (inside (base ∷ rest)) base valid k (base_below net edges path base rest valid c) (base_inside base rest)

pub contracted_matching : (net small : Net) (edges left nodes path : List ℕ) → IsValid net → IsMatching net edges → IsCycle net edges nodes path → IsContracted net edges (inside nodes) small left → IsMatching small left
contracted_matching net small edges left [] path valid m c k = absurd c
contracted_matching net small edges left (base ∷ rest) path valid m c k =
    let l = base_below net edges path base rest valid c in
    let p : ℕ → Bool = inside (base ∷ rest) in
    small_matching net edges p base small left (image_of p net.n) (back_of p net.n base l (base_inside base rest)) (rank p net.n) (view_of net small edges left path base rest valid m c k l)

pub contracted_stem : (net small : Net) (edges left nodes path : List ℕ) (hub : ℕ) → IsValid net → IsMatching net edges → IsCycle net edges nodes path → IsContracted net edges (inside nodes) small left
    → HasStem net edges (inside nodes) (get_or nodes 0 0) → hub ≡ rank (inside nodes) net.n → HasStem small left (inside []) hub
contracted_stem net small edges left [] path hub valid m c k s h = absurd c
contracted_stem net small edges left (base ∷ rest) path hub valid m c k s h =
    let l = base_below net edges path base rest valid c in
    let p : ℕ → Bool = inside (base ∷ rest) in
    subst (HasStem small left (inside [])) (sym h)
    (stem_image net edges p base small left (image_of p net.n) (back_of p net.n base l (base_inside base rest)) (rank p net.n) (view_of net small edges left path base rest valid m c k l) s)

-- ---- lifting a path
odd_among : (net : Net) (m : List ℕ) (es : List ℕ) (a : ℕ) (vs : List ℕ) (w e : ℕ) → IsOddPath net m a es vs w → 1 ≤ times e es → e < length net.arcs
odd_among net m [] a vs w e p t = absurd p
odd_among net m (x ∷ []) a [] w e p t = elim (cases_eq e x) [
  | inl s ↦ (let k = p.among in omega arith)
  | inr ne ↦ (let o = times_other e x [] ne in absurd (omega arith))
]
odd_among net m (x ∷ []) a (u ∷ vs) w e p t = absurd p
odd_among net m (x ∷ y ∷ es) a [] w e p t = absurd p
odd_among net m (x ∷ y ∷ es) a (d ∷ []) w e p t = absurd p
odd_among net m (x ∷ y ∷ es) a (d ∷ g ∷ vs) w e p t = elim (cases_eq e x) [
  | inl s ↦ (let k = p.0.among in omega arith)
  | inr ne ↦ elim (cases_eq e y) [
    | inl s ↦ (let k = p.1.among in omega arith)
    | inr nf ↦ (let o = times_other e x (y ∷ es) ne in let q = times_other e y es nf in odd_among net m es g vs w e p.3 (omega arith))
  ]
]

pub path_among : (net : Net) (m path : List ℕ) → IsAugmenting net m path → All (λ arc. arc < length net.arcs) path
path_among net m path a = All_from (λ arc. arc < length net.arcs) path (λ e t. odd_among net m path a.from a.nodes a.to e a.odd t)

pub turned_among : (net : Net) (m path turned : List ℕ) → IsAugmenting net m path → turned ≡ reverse path → All (λ arc. arc < length net.arcs) turned
turned_among net m path turned a e = subst (All (λ arc. arc < length net.arcs)) (sym e) (path_among net m (reverse path) (augmenting_turned net m path a))

-- what the way through the blossom is put in at
pub record IsOpening (net : Net) (nodes edges path : List ℕ) (place : ℕ) : Type 0 where
  pub within : place < length path
  pub among : get_or path place 0 < length net.arcs
  pub long : length edges ≡ length nodes
  pub at : ℕ
  pub end_place : IsEndPlace nodes (source net (get_or path place 0)) (target net (get_or path place 0)) at

place_of : (nodes : List ℕ) (v from to : ℕ) → 1 ≤ times v nodes → (v ≡ from) ⊎ (v ≡ to) → (at : ℕ) × IsEndPlace nodes from to at
place_of nodes v from to t e =
    let h = times_has v nodes t in
    (h.0, record { within = h.1; ends = elim e [ inl s ↦ inl (h.2 ∙ s) | inr s ↦ inr (h.2 ∙ s) ] })

img_inside : (net : Net) (edges : List ℕ) (p : ℕ → Bool) (base : ℕ) (small : Net) (left : List ℕ) (img back : ℕ → ℕ) (hub u : ℕ) → IsView net edges p base small left img back hub → u < net.n → img u ≡ hub → p u ≡ true
img_inside net edges p base small left img back hub u v l e = elim (bool_cases (p u)) [
  | inl t ↦ t
  | inr f ↦ (let o = v.img_out u l f in absurd (omega arith))
]

open_at : (net small : Net) (edges left path : List ℕ) (base : ℕ) (rest : List ℕ) (round : List ℕ) (img back : ℕ → ℕ) (hub place : ℕ) → IsView net edges (inside (base ∷ rest)) base small left img back hub
    → IsBlossom net edges round base rest → IsSpot small left path hub place → IsOpening net (base ∷ rest) round path place
open_at net small edges left path base rest round img back hub place v b s =
    let h = spot_arc small left path hub place s in
    let e : ℕ = get_or path place 0 in
    let w : place < length path = h.0 in
    let among = odd_among small left path s.from s.nodes s.to e s.odd (has_times e path place h.0 refl) in
    let long = v.long in
    let l : e < length net.arcs = omega arith in
    let d = ends_below net e v.ends l in
    let n = odd_lengths net edges round base rest base b.round in
    let n1 : length rest ≡ n.0 + n.0 = n.1 in
    let n2 : length round ≡ n.0 + n.0 + 1 = n.2 in
    let r : (at : ℕ) × IsEndPlace (base ∷ rest) (source net e) (target net e) at = elim (end_cases small hub e h.1) [
      | inl q ↦ place_of (base ∷ rest) (source net e) (source net e) (target net e) (inside_has (base ∷ rest) (source net e) (img_inside net edges (inside (base ∷ rest)) base small left img back hub (source net e) v d.0 (sym (v.sources e l) ∙ q))) (inl refl)
      | inr q ↦ place_of (base ∷ rest) (target net e) (source net e) (target net e) (inside_has (base ∷ rest) (target net e) (img_inside net edges (inside (base ∷ rest)) base small left img back hub (target net e) v d.1 (sym (v.targets e l) ∙ q))) (inr refl)
    ] in
    record { within = w; among = l; long = omega arith; at = r.0; end_place = r.1 }

longer_at : (net small : Net) (edges left path : List ℕ) (base : ℕ) (rest : List ℕ) (round : List ℕ) (img back : ℕ → ℕ) (hub place at : ℕ) → IsView net edges (inside (base ∷ rest)) base small left img back hub
    → IsValid small → IsBlossom net edges round base rest → IsSpot small left path hub place → IsEndPlace (base ∷ rest) (source net (get_or path place 0)) (target net (get_or path place 0)) at
    → IsAugmenting net edges (take place path ++ (way_to round at ++ drop place path))
longer_at net small edges left path base rest round img back hub place at v valid b s e =
    let w = e.within in
    lifted_at net edges (inside (base ∷ rest)) base small left img back hub v valid.ends path (way_to round at) place rest (get_or (base ∷ rest) at 0) s b.simple
    (λ u f. let n = not_inside (base ∷ rest) u f in omega arith)
    (elim e.ends [ inl q ↦ source_end net (get_or (base ∷ rest) at 0) (get_or path place 0) (sym q) | inr q ↦ target_end net (get_or (base ∷ rest) at 0) (get_or path place 0) (sym q) ])
    (has_inside (base ∷ rest) (get_or (base ∷ rest) at 0) (has_times (get_or (base ∷ rest) at 0) (base ∷ rest) at e.within refl))
    (way net edges round base rest at b (omega arith))

-- ---- by the blossom's list of nodes
pub opening : (net small : Net) (edges left nodes round path : List ℕ) (hub place : ℕ) → IsValid net → IsMatching net edges → IsCycle net edges nodes round → IsContracted net edges (inside nodes) small left
    → hub ≡ rank (inside nodes) net.n → IsAugmenting small left path → IsHubAt small hub path place → IsOpening net nodes round path place
opening net small edges left [] round path hub place valid m c k h a i = absurd c
opening net small edges left (base ∷ rest) round path hub place valid m c k h a i =
    let l = base_below net edges round base rest valid c in
    let p : ℕ → Bool = inside (base ∷ rest) in
    let v = view_of net small edges left round base rest valid m c k l in
    open_at net small edges left path base rest round (image_of p net.n) (back_of p net.n base l (base_inside base rest)) (rank p net.n) place v c
    (spot small left path (rank p net.n) place a (subst (λ (x : ℕ). IsHubAt small x path place) h i))

pub longer_with : (net small : Net) (edges left nodes round path : List ℕ) (hub place : ℕ) (b : Blossom) (longer : List ℕ) → IsValid net → IsMatching net edges → IsCycle net edges nodes round → IsContracted net edges (inside nodes) small left
    → hub ≡ rank (inside nodes) net.n → IsAugmenting small left path → IsHubAt small hub path place → b.nodes ≡ nodes → b.edges ≡ round → IsWithWay net b path place longer → IsAugmenting net edges longer
longer_with net small edges left [] round path hub place b longer valid m c k h a i bn be w = absurd c
longer_with net small edges left (base ∷ rest) round path hub place b longer valid m c k h a i bn be w =
    let l = base_below net edges round base rest valid c in
    let p : ℕ → Bool = inside (base ∷ rest) in
    let v = view_of net small edges left round base rest valid m c k l in
    let sv = contracted_valid net small edges left (base ∷ rest) round valid c k in
    let e : IsEndPlace (base ∷ rest) (source net (get_or path place 0)) (target net (get_or path place 0)) w.at =
    subst (λ (ns : List ℕ). IsEndPlace ns (source net (get_or path place 0)) (target net (get_or path place 0)) w.at) bn w.end_place in
    let r = longer_at net small edges left path base rest round (image_of p net.n) (back_of p net.n base l (base_inside base rest)) (rank p net.n) place w.at v sv c
    (spot small left path (rank p net.n) place a (subst (λ (x : ℕ). IsHubAt small x path place) h i)) e in
    subst (IsAugmenting net edges) (sym (w.whole ∙ ap (λ (es : List ℕ). take place path ++ (way_to es w.at ++ drop place path)) be)) r

pub longer_same : (net small : Net) (edges left nodes round path turned : List ℕ) (hub : ℕ) → IsValid net → IsMatching net edges → IsCycle net edges nodes round → IsContracted net edges (inside nodes) small left
    → hub ≡ rank (inside nodes) net.n → IsAugmenting small left path → turned ≡ reverse path → ((place : ℕ) → IsHubAt small hub path place → ⊥) → ((place : ℕ) → IsHubAt small hub turned place → ⊥)
    → IsAugmenting net edges path
longer_same net small edges left [] round path turned hub valid m c k h a t none back = absurd c
longer_same net small edges left (base ∷ rest) round path turned hub valid m c k h a t none back =
    let l = base_below net edges round base rest valid c in
    let p : ℕ → Bool = inside (base ∷ rest) in
    let v = view_of net small edges left round base rest valid m c k l in
    let sv = contracted_valid net small edges left (base ∷ rest) round valid c k in
    let off = all_off small left path hub a none (subst (λ (es : List ℕ). (place : ℕ) → IsHubAt small hub es place → ⊥) t back) in
    lifted_off net edges p base small left (image_of p net.n) (back_of p net.n base l (base_inside base rest)) (rank p net.n) v sv.ends path a (λ y q e. off y q (e ∙ sym h))

-- ---- lifting a cover
pub images_below : (net small : Net) (edges left nodes path image : List ℕ) (cover slice : List ℕ) → IsValid net → IsCycle net edges nodes path → IsContracted net edges (inside nodes) small left
    → image ≡ map (image_of (inside nodes) net.n) (range_with_len 0 net.n) → length cover ≡ small.n → slice ≡ image → All (λ x. x < length cover) slice
images_below net small edges left nodes path image cover slice valid c k i n s j d l =
    let p : ℕ → Bool = inside nodes in
    let len = images_long (image_of p net.n) net.n image i in
    let sl : length slice ≡ length image = ap length s in
    let b : j < net.n = omega arith in
    let g : get_or slice j d ≡ image_of p net.n j = ap (λ (xs : List ℕ). get_or xs j d) (s ∙ i) ∙ get_or-map-range_with_len (image_of p net.n) 0 net.n j j d b (omega arith) in
    let top = k.nodes in
    elim (bool_cases (p j)) [
      | inl t ↦ (let e = image_in p net.n j t in omega arith)
      | inr f ↦ (let e = image_out p net.n j f in let r = rank_below p j net.n b f in omega arith)
    ]

label_in : (cover : List ℕ) (p : ℕ → Bool) (n label v : ℕ) → v < n → label_of cover (rank p n) label (image_of p n v) ≡ cond (p v) label (get_or cover (rank p v) 0)
label_in cover p n label v l = elim (bool_cases (p v)) [
  | inl t ↦ ap (λ (b : Bool). cond b label (get_or cover (image_of p n v) 0)) (eq-eqb (image_of p n v) (rank p n) (image_in p n v t)) ∙ ap (λ (b : Bool). cond b label (get_or cover (rank p v) 0)) (sym t)
  | inr f ↦ (let e = image_out p n v f in let r = rank_below p v n l f in
      ap (λ (b : Bool). cond b label (get_or cover (image_of p n v) 0)) (ne_eqb (image_of p n v) (rank p n) (λ q. absurd (omega arith))) ∙ ap (λ (x : ℕ). get_or cover x 0) e
      ∙ ap (λ (b : Bool). cond b label (get_or cover (rank p v) 0)) (sym f))
]

are_lifted : (n : ℕ) (p : ℕ → Bool) (label : ℕ) (cover image large : List ℕ) → image ≡ map (image_of p n) (range_with_len 0 n) → large ≡ map (label_of cover (rank p n) label) image → AreLifted n p label cover large
are_lifted n p label cover image large i e =
    let f : ℕ → ℕ = label_of cover (rank p n) label in
    let len = images_long (image_of p n) n image i in
    record {
      long = ap length e ∙ length-map image f ∙ len;
      each = λ v l. ap (λ (xs : List ℕ). get_or xs v 0) e ∙ get_or-map f image v 0 0 (omega arith) ∙ ap f (image_at (image_of p n) n image v i l) ∙ label_in cover p n label v l;
    }

pub cover_made : (net : Net) (b : Blossom) (level : Level) (nodes path cover slice large : List ℕ) (label : ℕ) → IsValid net → (l : IsLevel net b level) → b.nodes ≡ nodes → IsCycle net l.edges nodes path → IsOddSetCover level.net cover
    → IsFitLabel cover level.hub label → slice ≡ level.image → large ≡ map (label_of cover level.hub label) slice → IsLiftedCover net b cover large
cover_made net b level [] path cover slice large label valid l bn c o f s e = absurd c
cover_made net b level (base ∷ rest) path cover slice large label valid l bn c o f s e =
    let p : ℕ → Bool = inside b.nodes in
    let k = l.level_of.contracted in
    let hub = l.level_of.last in
    let i : slice ≡ map (image_of p net.n) (range_with_len 0 net.n) = s ∙ l.level_of.images in
    let a = are_lifted net.n p label cover slice large i (e ∙ ap (λ (h : ℕ). map (label_of cover h label) slice) hub) in
    let f2 = subst (λ (h : ℕ). IsFitLabel cover h label) hub f in
    let n = odd_lengths net l.edges path base rest base c.round in
    let n1 : length rest ≡ n.0 + n.0 = n.1 in
    let len : length b.nodes ≡ n.0 + n.0 + 1 = ap length bn ∙ omega arith in
    let low : (v : ℕ) → 1 ≤ times v (base ∷ rest) → v < net.n = λ v t. elim (cases_eq v base) [
      | inl q ↦ (let h = base_below net l.edges path base rest valid c in omega arith)
      | inr ne ↦ (let t2 = times_other v base rest ne in odd_below net l.edges path base rest base v valid.ends c.round (omega arith))
    ] in
    record {
      covers_all = lifted_covers net level.net l.edges level.matching.edges p label cover large valid.ends k o a f2;
      size = cover_lifted_size b.nodes net.n label cover large n.0 (o.long ∙ k.nodes) a f2
          (λ v. subst (λ (ns : List ℕ). times v ns ≤ 1) (sym bn) (c.simple v))
          (λ v t. low v (subst (λ (ns : List ℕ). 1 ≤ times v ns) bn t)) len;
    }
