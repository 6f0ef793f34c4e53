-- The exchange of sums over nodes and arcs, and the laws of flows that follow from it.
use Rattle.std.proofs.Common.{◌≡◌, ◌⊎◌, inl, inr, ℕ, zero, suc, ◌+◌, ◌*◌, ◌<◌, ◌≤◌, ℤ, pos, negsuc, ◌+ℤ◌, ◌-ℤ◌, ◌*ℤ◌, ◌≤ℤ◌, ◌<ℤ◌, Bool, true, false, not, ◌&&◌, eqb, List, [], length, refl, sym, ◌∙◌, ap, arith}
use borrow.Author.Differences.{up, down, ints}
use Rattle.std.proofs.lemmas.Bool.{cases_eq, eq-eqb, ne_eqb}
use Rattle.std.proofs.lemmas.Int.{by_lt_z}
use Rattle.std.proofs.lemmas.Nat.{mul-le}
use Rattle.graph_defs.specs.declared.net.Net.{Net}
use Rattle.graph_defs.specs.Net.{IsValid, source, target}
use Rattle.graph_defs.specs.Set.{is_in, leaves, enters, IsCut}
use Rattle.graph_defs.specs.Sum.{sum_below, at, when}
use Rattle.graph_defs.specs.Flow.{share, outflow_below, outflow, IsFlow, capacity}
use Rattle.graph_defs.specs.Cost.{IsFeasible, cost_of, reduced, IsReduced, IsExcluding}
use Rattle.graph_defs.proofs.Sums.{sum_same, sum_le, sum_add, sum_sub, sum_zero, sum_only, mul_add, mul_sub, mul_comm}

-- ---- products with a bound
mul_up_pos : (k : ℕ) (a b : ℤ) → a ≤ℤ b → (pos k *ℤ a) ≤ℤ (pos k *ℤ b)
mul_up_pos k a b l =
    let s : up a + down b ≤ up b + down a = omega (arith, ints) in
    let m : k * (up a + down b) ≤ k * (up b + down a) = mul-le k (up a + down b) k (up b + down a) (omega arith) s in
    omega (arith, ints)

pub mul_up : (r a b : ℤ) → pos 0 ≤ℤ r → a ≤ℤ b → (r *ℤ a) ≤ℤ (r *ℤ b)
mul_up (pos k) a b h l = mul_up_pos k a b l
mul_up (negsuc k) a b h l = absurd (omega (arith, ints))

pub mul_down : (r a b : ℤ) → r ≤ℤ pos 0 → a ≤ℤ b → (r *ℤ b) ≤ℤ (r *ℤ a)
mul_down r a b h l =
    let m = mul_up (pos 0 -ℤ r) a b (omega (arith, ints)) l in
    let na : ((pos 0 -ℤ r) *ℤ a) ≡ (pos 0 -ℤ (r *ℤ a)) = mul_comm (pos 0 -ℤ r) a ∙ mul_sub a (pos 0) r ∙ (let z : (a *ℤ pos 0) ≡ pos 0 = omega (arith, ints) in let c = mul_comm a r in omega (arith, ints)) in
    let nb : ((pos 0 -ℤ r) *ℤ b) ≡ (pos 0 -ℤ (r *ℤ b)) = mul_comm (pos 0 -ℤ r) b ∙ mul_sub b (pos 0) r ∙ (let z : (b *ℤ pos 0) ≡ pos 0 = omega (arith, ints) in let c = mul_comm b r in omega (arith, ints)) in
    omega (arith, ints)

-- ---- one arc in a sum over nodes
pick_here : (w : ℕ → ℤ) (s : ℕ) (x : ℤ) → (w s *ℤ when (eqb s s) x) ≡ (w s *ℤ x)
pick_here w s x = ap (λ (b : Bool). w s *ℤ when b x) (eq-eqb s s refl)

pick_other : (w : ℕ → ℤ) (s v : ℕ) (x : ℤ) → (v ≡ s → ⊥) → (w v *ℤ when (eqb s v) x) ≡ pos 0
pick_other w s v x ne =
    let e : (w v *ℤ when (eqb s v) x) ≡ (w v *ℤ pos 0) = ap (λ (b : Bool). w v *ℤ when b x) (ne_eqb s v (λ (q : s ≡ v). ne (sym q))) in
    e ∙ omega (arith, ints)

pub pick : (w : ℕ → ℤ) (s n : ℕ) (x : ℤ) → s < n → sum_below (λ v. w v *ℤ when (eqb s v) x) n ≡ (w s *ℤ x)
pick w s n x l = sum_only (λ v. w v *ℤ when (eqb s v) x) n s l (λ i m ne. pick_other w s i x ne) ∙ pick_here w s x

one_arc : (w : ℕ → ℤ) (x : ℤ) (s t n : ℕ) → s < n → t < n
    → sum_below (λ v. w v *ℤ (when (eqb s v) x -ℤ when (eqb t v) x)) n ≡ (x *ℤ (w s -ℤ w t))
one_arc w x s t n ls lt =
    sum_same (λ v. w v *ℤ (when (eqb s v) x -ℤ when (eqb t v) x)) (λ v. (w v *ℤ when (eqb s v) x) -ℤ (w v *ℤ when (eqb t v) x)) n
    (λ v m. mul_sub (w v) (when (eqb s v) x) (when (eqb t v) x))
    ∙ sum_sub (λ v. w v *ℤ when (eqb s v) x) (λ v. w v *ℤ when (eqb t v) x) n
    ∙ (let p = pick w s n x ls in
    let q = pick w t n x lt in
    let m = mul_sub x (w s) (w t) in
    let a = mul_comm x (w s) in
    let b = mul_comm x (w t) in
    omega (arith, ints))

-- a sum of weights times outflows is a sum of flows times differences of weights
pub exchange : (net : Net) (w : ℕ → ℤ) (flow : List ℤ) (k : ℕ) → IsValid net → k ≤ length net.arcs
    → sum_below (λ v. w v *ℤ outflow_below net flow v k) net.n ≡ sum_below (λ a. at flow a *ℤ (w (source net a) -ℤ w (target net a))) k
exchange net w flow zero valid l = sum_zero (λ (v : ℕ). w v *ℤ pos 0) net.n (λ v m. omega (arith, ints))
exchange net w flow (suc k) valid l =
    let ends = valid.ends k (0, 0) (omega arith) in
    sum_same (λ (v : ℕ). w v *ℤ (outflow_below net flow v k +ℤ share net flow v k)) (λ (v : ℕ). (w v *ℤ outflow_below net flow v k) +ℤ (w v *ℤ share net flow v k)) net.n
    (λ v m. mul_add (w v) (outflow_below net flow v k) (share net flow v k))
    ∙ sum_add (λ (v : ℕ). w v *ℤ outflow_below net flow v k) (λ (v : ℕ). w v *ℤ share net flow v k) net.n
    ∙ ap (λ (x : ℤ). x +ℤ sum_below (λ v. w v *ℤ share net flow v k) net.n) (exchange net w flow k valid (omega arith))
    ∙ ap (λ (x : ℤ). sum_below (λ a. at flow a *ℤ (w (source net a) -ℤ w (target net a))) k +ℤ x)
    (one_arc w (at flow k) (source net k) (target net k) net.n ends.0 ends.1)

-- ---- no flow exceeds a cut
cut_weight : List ℕ → ℕ → ℤ
cut_weight set v = when (is_in set v) (pos 1)

cut_term : (a b : Bool) (f c : ℤ) → (pos 0 ≤ℤ f) × (f ≤ℤ c) → (f *ℤ (when a (pos 1) -ℤ when b (pos 1))) ≤ℤ when (a && not b) c
cut_term true true f c h = omega (arith, ints)
cut_term true false f c h = let u = h.1 in omega (arith, ints)
cut_term false true f c h = let l = h.0 in omega (arith, ints)
cut_term false false f c h = omega (arith, ints)

-- a weighted sum of outflows of a flow is that at its source, where the sink has no weight
st_cases : (net : Net) (s t v : ℕ) (w : ℕ → ℤ) (cap flow : List ℤ) → w t ≡ pos 0 → IsFlow net s t cap flow → v < net.n → (v ≡ s → ⊥)
    → (v ≡ t) ⊎ (v ≡ t → ⊥) → (w v *ℤ outflow net flow v) ≡ pos 0
st_cases net s t v w cap flow z f l ne (inl e) =
    let o : w v ≡ pos 0 = ap w e ∙ z in
    let p : (w v *ℤ outflow net flow v) ≡ (pos 0 *ℤ outflow net flow v) = ap (λ (x : ℤ). x *ℤ outflow net flow v) o in
    p ∙ omega (arith, ints)
st_cases net s t v w cap flow z f l ne (inr nt) =
    let p : (w v *ℤ outflow net flow v) ≡ (w v *ℤ pos 0) = ap (λ (x : ℤ). w v *ℤ x) (f.balance v l ne nt) in
    p ∙ omega (arith, ints)

st_sum : (net : Net) (s t : ℕ) (w : ℕ → ℤ) (cap flow : List ℤ) → s < net.n → w t ≡ pos 0 → IsFlow net s t cap flow
    → sum_below (λ v. w v *ℤ outflow net flow v) net.n ≡ (w s *ℤ outflow net flow s)
st_sum net s t w cap flow l z f =
    sum_only (λ v. w v *ℤ outflow net flow v) net.n s l (λ v m ne. st_cases net s t v w cap flow z f m ne (cases_eq v t))

pub set_bounds_flows : (net : Net) (s t : ℕ) (cap flow : List ℤ) (cut : List ℕ) → IsValid net → s < net.n → IsFlow net s t cap flow → is_in cut s ≡ true → is_in cut t ≡ false
    → outflow net flow s ≤ℤ capacity net cap (is_in cut)
unfolding cut_weight
set_bounds_flows net s t cap flow cut valid l f has lacks =
    let w : ℕ → ℤ = cut_weight cut in
    let one : cut_weight cut s ≡ pos 1 = ap (λ (b : Bool). when b (pos 1)) has in
    let none : cut_weight cut t ≡ pos 0 = ap (λ (b : Bool). when b (pos 1)) lacks in
    let sum = st_sum net s t w cap flow l none f in
    let x = exchange net w flow (length net.arcs) valid (omega arith) in
    let le = sum_le (λ a. at flow a *ℤ (w (source net a) -ℤ w (target net a))) (λ a. when (leaves net (is_in cut) a) (at cap a)) (length net.arcs)
    (λ a m. cut_term (is_in cut (source net a)) (is_in cut (target net a)) (at flow a) (at cap a) (f.bounds a m)) in
    let p : (cut_weight cut s *ℤ outflow net flow s) ≡ (pos 1 *ℤ outflow net flow s) = ap (λ (y : ℤ). y *ℤ outflow net flow s) one in
    omega (arith, ints)

pub cuts_bound_flows : (net : Net) (s t : ℕ) (cap flow : List ℤ) (cut : List ℕ) → IsValid net → s < net.n → IsFlow net s t cap flow → IsCut net.n s t cut
    → outflow net flow s ≤ℤ capacity net cap (is_in cut)
cuts_bound_flows net s t cap flow cut valid l f c = set_bounds_flows net s t cap flow cut valid l f c.has c.lacks

-- ---- reduced costs
reduced_split : (c p q f : ℤ) → ((c +ℤ p -ℤ q) *ℤ f) ≡ ((c *ℤ f) +ℤ (f *ℤ (p -ℤ q)))
reduced_split c p q f =
    let m = mul_comm (c +ℤ p -ℤ q) f in
    let s : (c +ℤ p -ℤ q) ≡ (c +ℤ (p -ℤ q)) = omega (arith, ints) in
    let e : (f *ℤ (c +ℤ p -ℤ q)) ≡ (f *ℤ (c +ℤ (p -ℤ q))) = ap (λ (x : ℤ). f *ℤ x) s in
    let a = mul_add f c (p -ℤ q) in
    let d = mul_comm f c in
    omega (arith, ints)

pub reduced_sum : (net : Net) (cost pot flow : List ℤ) → IsValid net
    → sum_below (λ a. reduced net cost pot a *ℤ at flow a) (length net.arcs) ≡ (cost_of net cost flow +ℤ sum_below (λ v. at pot v *ℤ outflow net flow v) net.n)
reduced_sum net cost pot flow valid =
    sum_same (λ a. reduced net cost pot a *ℤ at flow a) (λ a. (at cost a *ℤ at flow a) +ℤ (at flow a *ℤ (at pot (source net a) -ℤ at pot (target net a)))) (length net.arcs)
    (λ a m. reduced_split (at cost a) (at pot (source net a)) (at pot (target net a)) (at flow a))
    ∙ sum_add (λ a. at cost a *ℤ at flow a) (λ a. at flow a *ℤ (at pot (source net a) -ℤ at pot (target net a))) (length net.arcs)
    ∙ ap (λ (x : ℤ). cost_of net cost flow +ℤ x) (sym (exchange net (at pot) flow (length net.arcs) valid (omega arith)))

reduced_term : (r f g l h : ℤ) → (f <ℤ h → pos 0 ≤ℤ r) × (l <ℤ f → r ≤ℤ pos 0) → l ≤ℤ g → g ≤ℤ h → (r *ℤ f) ≤ℤ (r *ℤ g)
reduced_term r f g l h fits lo hi =
    by_lt_z f g (λ up_. mul_up r f g (fits.0 (omega (arith, ints))) (omega (arith, ints)))
    (λ le. by_lt_z g f (λ down_. mul_down r g f (fits.1 (omega (arith, ints))) (omega (arith, ints)))
    (λ ge. let e : f ≡ g = omega (arith, ints) in let p : (r *ℤ f) ≡ (r *ℤ g) = ap (λ (x : ℤ). r *ℤ x) e in omega (arith, ints)))

pub reduced_is_cheapest : (net : Net) (low high cost supply flow other pot : List ℤ) → IsValid net → IsFeasible net low high supply flow
    → IsReduced net low high cost flow pot → IsFeasible net low high supply other → cost_of net cost flow ≤ℤ cost_of net cost other
reduced_is_cheapest net low high cost supply flow other pot valid f r g =
    let a = reduced_sum net cost pot flow valid in
    let b = reduced_sum net cost pot other valid in
    let le = sum_le (λ a. reduced net cost pot a *ℤ at flow a) (λ a. reduced net cost pot a *ℤ at other a) (length net.arcs)
    (λ arc m. reduced_term (reduced net cost pot arc) (at flow arc) (at other arc) (at low arc) (at high arc) (r.arcs arc m) (g.bounds arc m).0 (g.bounds arc m).1) in
    let same = sum_same (λ v. at pot v *ℤ outflow net flow v) (λ v. at pot v *ℤ outflow net other v) net.n
    (λ v m. ap (λ (x : ℤ). at pot v *ℤ x) (f.balance v m ∙ sym (g.balance v m))) in
    omega (arith, ints)

-- the same among flows of one value, with the potentials shifted so that the sink's is 0
shifted_sum : (net : Net) (s t : ℕ) (cap cost pot flow : List ℤ) → IsValid net → s < net.n → IsFlow net s t cap flow
    → sum_below (λ a. reduced net cost pot a *ℤ at flow a) (length net.arcs) ≡ (cost_of net cost flow +ℤ ((at pot s -ℤ at pot t) *ℤ outflow net flow s))
shifted_sum net s t cap cost pot flow valid l f =
    let w : ℕ → ℤ = λ v. at pot v -ℤ at pot t in
    let z : (at pot t -ℤ at pot t) ≡ pos 0 = omega (arith, ints) in
    let x = exchange net w flow (length net.arcs) valid (omega arith) in
    let st = st_sum net s t w cap flow l z f in
    sum_same (λ a. reduced net cost pot a *ℤ at flow a) (λ a. (at cost a *ℤ at flow a) +ℤ (at flow a *ℤ (w (source net a) -ℤ w (target net a)))) (length net.arcs)
    (λ a m. reduced_split (at cost a) (at pot (source net a)) (at pot (target net a)) (at flow a)
    ∙ ap (λ (y : ℤ). (at cost a *ℤ at flow a) +ℤ (at flow a *ℤ y)) (let e : (at pot (source net a) -ℤ at pot (target net a)) ≡ (w (source net a) -ℤ w (target net a)) = omega (arith, ints) in e))
    ∙ sum_add (λ a. at cost a *ℤ at flow a) (λ a. at flow a *ℤ (w (source net a) -ℤ w (target net a))) (length net.arcs)
    ∙ ap (λ (y : ℤ). cost_of net cost flow +ℤ y) (sym x ∙ st)

pub reduced_is_cheapest_of_its_value : (net : Net) (s t : ℕ) (cap cost flow other pot : List ℤ) → IsValid net → s < net.n → IsFlow net s t cap flow
    → IsReduced net [] cap cost flow pot → IsFlow net s t cap other → outflow net flow s ≡ outflow net other s → cost_of net cost flow ≤ℤ cost_of net cost other
reduced_is_cheapest_of_its_value net s t cap cost flow other pot valid l f r g e =
    let a = shifted_sum net s t cap cost pot flow valid l f in
    let b = shifted_sum net s t cap cost pot other valid l g in
    let le = sum_le (λ a. reduced net cost pot a *ℤ at flow a) (λ a. reduced net cost pot a *ℤ at other a) (length net.arcs)
    (λ arc m. reduced_term (reduced net cost pot arc) (at flow arc) (at other arc) (pos 0) (at cap arc) (r.arcs arc m) (g.bounds arc m).0 (g.bounds arc m).1) in
    let same : ((at pot s -ℤ at pot t) *ℤ outflow net flow s) ≡ ((at pot s -ℤ at pot t) *ℤ outflow net other s) = ap (λ (x : ℤ). (at pot s -ℤ at pot t) *ℤ x) e in
    omega (arith, ints)

-- ---- a set with a surplus
set_term : (a b : Bool) (f l h : ℤ) → (l ≤ℤ f) × (f ≤ℤ h)
    → ((when (b && not a) l -ℤ when (a && not b) h) +ℤ (f *ℤ (when a (pos 1) -ℤ when b (pos 1)))) ≤ℤ pos 0
set_term true true f l h k = omega (arith, ints)
set_term true false f l h k = let u = k.1 in omega (arith, ints)
set_term false true f l h k = let d = k.0 in omega (arith, ints)
set_term false false f l h k = omega (arith, ints)

weigh : (b : Bool) (x : ℤ) → (when b (pos 1) *ℤ x) ≡ when b x
weigh true x = omega (arith, ints)
weigh false x = omega (arith, ints)

pub set_excludes_flows : (net : Net) (low high supply flow : List ℤ) (set : List ℕ) → IsValid net → IsExcluding net low high supply set → IsFeasible net low high supply flow → ⊥
unfolding cut_weight
set_excludes_flows net low high supply flow set valid x f =
    let w : ℕ → ℤ = cut_weight set in
    let g : ℕ → ℤ = λ arc. when (enters net (is_in set) arc) (at low arc) -ℤ when (leaves net (is_in set) arc) (at high arc) in
    let h : ℕ → ℤ = λ arc. at flow arc *ℤ (w (source net arc) -ℤ w (target net arc)) in
    let e = exchange net w flow (length net.arcs) valid (omega arith) in
    let s = sum_same (λ v. w v *ℤ outflow net flow v) (λ v. when (is_in set v) (at supply v)) net.n
    (λ v m. ap (λ (y : ℤ). w v *ℤ y) (f.balance v m) ∙ weigh (is_in set v) (at supply v)) in
    let a = sum_add g h (length net.arcs) in
    let le = sum_le (λ arc. g arc +ℤ h arc) (λ arc. pos 0) (length net.arcs)
    (λ arc m. set_term (is_in set (source net arc)) (is_in set (target net arc)) (at flow arc) (at low arc) (at high arc) (f.bounds arc m)) in
    let z = sum_zero (λ arc. pos 0) (length net.arcs) (λ i m. refl) in
    let o = x.over in
    absurd (omega (arith, ints))
