-- Numbers in lists.
use Rattle.std.proofs.Common.{◌≡◌, ℕ, suc, ◌+◌, ◌<◌, ◌≤◌, true, false, cond, ◌||◌, List, [], ◌∷◌, length, take, get_or, refl, sym, subst, inl, inr, arith, All}
use Rattle.std.specs.Prelude.{Option, None, MatchOption, Result, Ok, Err, IfOk}
use Rattle.std.proofs.lemmas.List.{take_more, take_all}
use Rattle.std.proofs.lemmas.List.Elements.{All-push}
use Rattle.graph_state.specs.Names.{Has, IsOnce}
use Rattle.graph_state.specs.State.{GraphState, shows_edge}
use Rattle.graph_state.specs.Formed.{IsFormed}
use Rattle.graph_state.proofs.Has.{once_filter}
use Rattle.graph_state.proofs.Removed.{edges_once}
use Rattle.graph_state.proofs.Same.{nat_tells}
use Rattle.hide_restore.specs.Net.{place_of, edge_numbers}
use Rattle.kept_answers.specs.Checked.{is_listed}

pub has_listed : (k : ℕ) (ks : List ℕ) → Has k ks → is_listed k ks ≡ true
has_listed k [] i = absurd i
has_listed k (j ∷ js) i = elim (nat_tells j k) [
  | inl y ↦ subst (λ b. (b || is_listed k js) ≡ true) (sym y.0) refl
  | inr n ↦ subst (λ b. (b || is_listed k js) ≡ true) (sym n.0) (elim i [ inl e ↦ absurd (n.1 (sym e)) | inr j ↦ has_listed k js j ])
]

pub unlisted : (k : ℕ) (ks : List ℕ) → (Has k ks → ⊥) → is_listed k ks ≡ false
unlisted k [] out = refl
unlisted k (j ∷ js) out = elim (nat_tells j k) [
  | inl y ↦ absurd (out (inl (sym y.1)))
  | inr n ↦ subst (λ b. (b || is_listed k js) ≡ false) (sym n.0) (unlisted k js (λ i. out (inr i)))
]

-- what isn't there has the place past the end
pub place_past : (k : ℕ) (ks : List ℕ) → (Has k ks → ⊥) → place_of k ks ≡ length ks
place_past k [] out = refl
place_past k (j ∷ js) out = elim (nat_tells j k) [
  | inl y ↦ absurd (out (inl (sym y.1)))
  | inr n ↦
      let later = place_past k js (λ i. out (inr i)) in
      subst (λ b. cond b 0 (place_of k js + 1) ≡ length (j ∷ js)) (sym n.0) (omega (arith, later))
]

-- what holds where nothing is found
pub none_found : {A : Type 0} (o : Option A) (N : Type 0) (P : A → Type 0) → o ≡ None → N → MatchOption o N P
none_found {A} o N P is n = subst (λ (o : Option A). MatchOption o N P) (sym is) n

-- what holds of each entry holds of what is there
pub all_has : (P : ℕ → Type 0) (ks : List ℕ) → All P ks → (k : ℕ) → Has k ks → P k
all_has P [] all k i = absurd i
all_has P (j ∷ js) all k (inl e) = subst P (sym e) (all 0 0 (omega arith))
all_has P (j ∷ js) all k (inr i) = all_has P js (λ place d lt. all (suc place) d (omega (arith, lt))) k i

-- what is at least each of the first numbers, and of one more, and of all
pub none_above_more : (xs : List ℕ) (i m n : ℕ) → i < length xs → All (λ x. x ≤ m) (take i xs) → m ≤ n → get_or xs i 0 ≤ n
    → All (λ x. x ≤ n) (take (i + 1) xs)
none_above_more xs i m n within all more here =
    subst (λ (ys : List ℕ). All (λ y. y ≤ n) ys) (sym (take_more xs i 0 within))
    (All-push (λ y. y ≤ n) (take i xs) (get_or xs i 0) (λ k d lt. let least = all k d lt in omega (arith, least, more)) here)

pub none_above : (xs : List ℕ) (i m : ℕ) → length xs ≤ i → All (λ x. x ≤ m) (take i xs) → All (λ x. x ≤ m) xs
none_above xs i m past all = subst (λ (ys : List ℕ). All (λ y. y ≤ m) ys) (take_all i xs past) all

-- no edge is visible twice
pub shown_once : (g : GraphState) → IsFormed g → IsOnce (edge_numbers g)
shown_once g f = once_filter (shows_edge g) g.edges (edges_once g f)

-- what holds of the reply that is given
pub as_given : {T E : Type 0} (P : T → Type 0) (reply : Result T E) (told : T) → IfOk reply (λ given. given ≡ told) → P told → IfOk reply P
as_given P (Ok given) told same holds = subst P (sym same) holds
as_given P (Err lack) told same holds = tt
