-- What is found first, going through a list.
use Rattle.std.proofs.Common.{◌≡◌, ℕ, zero, suc, ◌+◌, ◌<◌, ◌≤◌, Bool, true, cond, List, [], ◌∷◌, length, get_or, Iter, refl, sym, ap, subst, ◌∙◌, arith, All}
use Rattle.std.specs.Prelude.{Option, Some, None, IfSome, MatchOption, IsTrue, find, option_map}
use Rattle.std.specs.Option.{option_or, IsSomeAnd}
use Rattle.std.specs.Iterator.Runs.{Run, EveryRun, SomeRun, ItemsMapTo, AllItemsGive, IsFirstToGive}
use Rattle.std.specs.Fn.{Called}
use Rattle.std.specs.Slice.Iter.{iter_rest}
use denote.Param.Members.{Mut}
use denote.Ref.{Bor}
use Rattle.kept_answers.specs.Told.{first_in}

module _ {A X : Type 0} (look : A → Option X) where
  none_in : (xs : List A) → ((k : ℕ) (d : A) → k < length xs → look (get_or xs k d) ≡ None) → first_in look xs ≡ None
  none_in [] none = refl
  none_in (x ∷ xs) none =
      let later = none_in xs (λ k d within. none (suc k) d (omega (arith, within))) in
      ap (λ o. option_or o (first_in look xs)) (none 0 x (omega arith)) ∙ later

  found_in : (xs : List A) (y : X) (i : ℕ) → i < length xs → ((d : A) → look (get_or xs i d) ≡ Some y)
      → ((k : ℕ) (d : A) → k < i → look (get_or xs k d) ≡ None) → first_in look xs ≡ Some y
  found_in [] y i within here before = absurd (omega (arith, within))
  found_in (x ∷ xs) y zero within here before = ap (λ o. option_or o (first_in look xs)) (here x)
  found_in (x ∷ xs) y (suc i) within here before =
      let later = found_in xs y i (omega (arith, within)) here (λ k d less. before (suc k) d (omega (arith, less))) in
      ap (λ o. option_or o (first_in look xs)) (before 0 x (omega arith)) ∙ later

-- the item that is read at a place, and what holds of it
module _ {A B : Type 0} (v : A → B) (P : A → Type 0) where
  read_here : (o : Option A) (y : B) → option_map v o ≡ Some y → IfSome o P → (x : A) × (v x ≡ y) × P x
  read_here None y reads holds = absurd cc
  read_here (Some x) y reads holds = (x, cc, holds)

  read_there : (o : Option A) (y : B) → option_map v o ≡ Some y → IsSomeAnd o P → (x : A) × (v x ≡ y) × P x
  read_there None y reads holds = absurd holds
  read_there (Some x) y reads holds = (x, cc, holds)

-- what `find_map` finds in a slice, where the closure computes `look`
module _ {A X F : Type 0} (g : Mut F (Bor A × Unit {0}) (Option X)) (look : A → Option X) (f : F) where
  abbrev Computes : Type 0
  Computes = (x : Bor A) (r : Option X) (q : F) → Called g f (x, tt) r q → (q ≡ f) × (r ≡ look x.now)

  looked : Computes → (r : Option X) (y : A) → (x : Bor A) × (x.now ≡ y) × Called g f (x, tt) r f → look y ≡ r
  looked computes r y (x, is, called) = ap look (sym is) ∙ sym (computes x r f called).1

  abbrev Finds : {steps : Iter A → Option (Bor A) → Iter A → Type 0} → Option X → Run steps → Type 0
  Finds r p = MatchOption r (IsTrue p.whole × AllItemsGive p g f None) (λ y. (i : ℕ) × (i < p.len) × (p.len ≡ i + 1) × IsFirstToGive p g f (Some y) None i)

  found_by : {steps : Iter A → Option (Bor A) → Iter A → Type 0} (all : List A) (r : Option X) (p : Run steps) → Computes → ItemsMapTo p (λ x. x.now) all → Finds r p
      → r ≡ first_in look all
  found_by all None p computes reads found =
      let long : p.len ≡ length all = reads.1 found.0 in
      sym (none_in look all (λ k d within.
      looked computes None (get_or all k d) (read_here (λ (x : Bor A). x.now) (λ x. Called g f (x, tt) None f) (p.at k) (get_or all k d)
      (reads.2 k d (omega (arith, within, long))) (found.1 (λ a r q called. (computes a.0 r q called).0) k))))
  found_by all (Some y) p computes reads found =
      let i = found.0 in
      let gave = found.3 (λ a r q called. (computes a.0 r q called).0) in
      let most : p.len ≤ length all = reads.0 in
      let within : i < p.len = found.1 in
      sym (found_in look all y i (omega (arith, most, within))
      (λ d. looked computes (Some y) (get_or all i d) (read_there (λ (x : Bor A). x.now) (λ x. Called g f (x, tt) (Some y) f) (p.at i) (get_or all i d) (reads.2 i d within) gave.0))
      (λ k d less. looked computes None (get_or all k d) (read_there (λ (x : Bor A). x.now) (λ x. Called g f (x, tt) None f) (p.at k) (get_or all k d)
      (reads.2 k d (omega (arith, less, within))) (gave.1 k less))))

  pub first_from_find_map : {steps : Iter A → Option (Bor A) → Iter A → Type 0} (s : Iter A) (all : List A) (r : Option X) → SomeRun steps s (Finds r)
      → EveryRun steps (λ p. ItemsMapTo p (λ x. x.now) (iter_rest p.from)) → iter_rest s ≡ all
      → ((x : Bor A) (r : Option X) (q : F) → Called g f (x, tt) r q → (q ≡ f) × (r ≡ look x.now)) → r ≡ first_in look all
  first_from_find_map s all r found reads is computes =
      let p = found.0 in
      found_by all r p computes (subst (λ (ys : List A). ItemsMapTo p (λ x. x.now) ys) (ap iter_rest found.1 ∙ is) (reads p p.seen)) found.2

-- two tests that agree on each entry find the same
pub same_found : (p q : ℕ → Bool) (xs : List ℕ) → All (λ x. p x ≡ q x) xs → find p xs ≡ find q xs
same_found p q [] agree = refl
same_found p q (x ∷ xs) agree =
    let later = same_found p q xs (λ k d lt. agree (suc k) d (omega (arith, lt))) in
    subst (λ b. cond (p x) (Some x) (find p xs) ≡ cond b (Some x) (find q xs)) (agree 0 x (omega arith)) (ap (λ o. cond (p x) (Some x) o) later)
