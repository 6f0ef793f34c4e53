-- Tables of values, an element more at a time.
use Rattle.std.proofs.Common.{◌≡◌, ℕ, zero, suc, ◌+◌, ◌<◌, ◌⊎◌, inl, inr, List, [], ◌∷◌, ◌++◌, length, get_or, take, drop, Some, None, refl, sym, ap, subst, ◌∙◌, arith}
use Rattle.std.proofs.Common as list
use Rattle.std.specs.Prelude.{ℤ}
use Rattle.std.proofs.lemmas.List.{take_more}
use Rattle.std.specs.Ordering.{nat_cmp}
use Rattle.std.specs.FinMap as map
use Rattle.graph_state.specs.Names.{Has, IsOnce}
use Rattle.graph_state.proofs.Has.{has_left, has_right, has_last, map_join}
use Rattle.graph_state.proofs.Same.{nat_tells}
use Rattle.graph_state.proofs.Maps.{put_here, put_else}
use Rattle.node_maps.specs.Contents.{Values, IsTable}

table_none : (R : ℕ → ℤ → Type 0) → IsTable map.empty [] R
table_none R = record { each = λ n has. absurd has; others = λ n out. map.get-empty nat_cmp n }

pub table_first : {X : Type 0} (f : X → ℕ) (xs : List X) (values : Values) (R : ℕ → ℤ → Type 0) → values ≡ map.empty → IsTable values (list.map f (take 0 xs)) R
table_first f [] values R none = subst (λ m. IsTable m [] R) (sym none) (table_none R)
table_first f (x ∷ xs) values R none = subst (λ m. IsTable m [] R) (sym none) (table_none R)

module _ (values : Values) (live : List ℕ) (R : ℕ → ℤ → Type 0) (t : IsTable values live R) where
  -- an element more
  pub table_more : (n : ℕ) (x : ℤ) → R n x → IsTable (map.insert values n x) (live ++ n ∷ []) R
  table_more n x r = record {
    each = λ m has. elim (nat_tells m n) [
      | inl y ↦ (x, (put_here values n x m y.1, subst (λ k. R k x) (sym y.1) r))
      | inr o ↦
          let e = t.each m (elim (has_last m n live has) [ inl h ↦ h | inr i ↦ absurd (o.1 i) ]) in
          (e.0, (put_else values n x m o.1 ∙ e.1.0, e.1.1))
    ];
    others = λ m out. put_else values n x m (λ e. out (has_right m live (n ∷ []) (inl e))) ∙ t.others m (λ h. out (has_left m live (n ∷ []) h));
  }

  -- another value for an element
  pub table_set : (S : ℕ → ℤ → Type 0) (n : ℕ) (x : ℤ) → Has n live → S n x → ((m : ℕ) (y : ℤ) → (m ≡ n → ⊥) → R m y → S m y) → IsTable (map.insert values n x) live S
  table_set S n x has s keeps = record {
    each = λ m h. elim (nat_tells m n) [
      | inl y ↦ (x, (put_here values n x m y.1, subst (λ k. S k x) (sym y.1) s))
      | inr o ↦ let e = t.each m h in (e.0, (put_else values n x m o.1 ∙ e.1.0, keeps m e.0 o.1 e.1.1))
    ];
    others = λ m out. put_else values n x m (λ e. out (subst (λ k. Has k live) (sym e) has)) ∙ t.others m out;
  }

  pub table_as : (S : ℕ → ℤ → Type 0) → ((m : ℕ) (y : ℤ) → Has m live → R m y → S m y) → IsTable values live S
  table_as S keeps = record {
    each = λ m h. let e = t.each m h in (e.0, (e.1.0, keeps m e.0 h e.1.1));
    others = t.others;
  }

-- a list around the element at the place i
split : {X : Type 0} (xs : List X) (i : ℕ) (x : X) → i < length xs → x ≡ get_or xs i x → xs ≡ take i xs ++ x ∷ drop (suc i) xs
split [] i x lt e = absurd (omega (arith, lt))
split (y ∷ ys) zero x lt e = ap (λ z. z ∷ ys) (sym e)
split (y ∷ ys) (suc i) x lt e = ap (λ zs. y ∷ zs) (split ys i x (omega (arith, lt)) e)

once_apart : (ys zs : List ℕ) (n : ℕ) → IsOnce (ys ++ n ∷ zs) → Has n ys → ⊥
once_apart [] zs n o h = h
once_apart (y ∷ ys) zs n o (inl e) = o.0 (subst (λ k. Has k (ys ++ n ∷ zs)) e (has_right n ys (n ∷ zs) (inl refl)))
once_apart (y ∷ ys) zs n o (inr h) = once_apart ys zs n o.1 h

-- the numbers of the first i elements and of the one behind them
module _ {X : Type 0} (f : X → ℕ) (xs : List X) (i : ℕ) (x : X) (lt : i < length xs) (is : x ≡ get_or xs i x) where
  abbrev front : List ℕ
  front = list.map f (take i xs)

  pub numbers_next : list.map f (take (i + 1) xs) ≡ front ++ f x ∷ []
  numbers_next = ap (list.map f) (take_more xs i x lt ∙ ap (λ z. take i xs ++ z ∷ []) (sym is)) ∙ map_join f (take i xs) (x ∷ [])

  pub numbers_split : list.map f xs ≡ front ++ f x ∷ list.map f (drop (suc i) xs)
  numbers_split = ap (list.map f) (split xs i x lt is) ∙ map_join f (take i xs) (x ∷ drop (suc i) xs)

  pub number_has : Has (f x) (list.map f xs)
  number_has = subst (Has (f x)) (sym numbers_split) (has_right (f x) front (f x ∷ list.map f (drop (suc i) xs)) (inl refl))

  pub number_new : IsOnce (list.map f xs) → Has (f x) front → ⊥
  number_new once = once_apart front (list.map f (drop (suc i) xs)) (f x) (subst IsOnce numbers_split once)

  -- a row with the values of the first i elements takes in that of the next
  pub filled_more : (values rows : Values) (R : ℕ → ℤ → Type 0) (n : ℕ) (v : ℤ) → IsTable values front R → n ≡ f x → rows ≡ map.insert values n v → R (f x) v → IsTable rows (list.map f (take (i + 1) xs)) R
  filled_more values rows R n v t number made r =
      subst (λ l. IsTable rows l R) (sym numbers_next)
      (subst (λ m. IsTable m (front ++ f x ∷ []) R) (sym (made ∙ ap (λ k. map.insert values k v) number)) (table_more values front R t (f x) v r))

  -- a row in which the first i elements have the right values gets that of the next
  pub written_more : (values rows : Values) (S : ℕ → ℤ → Type 0) (n : ℕ) (v : ℤ)
      → IsTable values (list.map f xs) (λ m y. Has m front → S m y) → n ≡ f x → rows ≡ map.insert values n v → S (f x) v
      → IsTable rows (list.map f xs) (λ m y. Has m (list.map f (take (i + 1) xs)) → S m y)
  written_more values rows S n v t number made s =
      subst (λ m. IsTable m (list.map f xs) (λ m y. Has m (list.map f (take (i + 1) xs)) → S m y)) (sym (made ∙ ap (λ k. map.insert values k v) number))
      (table_set values (list.map f xs) (λ m y. Has m front → S m y) t (λ m y. Has m (list.map f (take (i + 1) xs)) → S m y) (f x) v number_has (λ h. s)
      (λ m y ne kept h. kept (elim (has_last m (f x) front (subst (Has m) numbers_next h)) [ inl a ↦ a | inr e ↦ absurd (ne e) ])))
