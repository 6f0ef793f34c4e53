-- The map of live values: what it has at a serial, and what a write to one cell does to it.
use Rattle.std.proofs.Common.{◌≡◌, ℕ, zero, suc, ◌+◌, ◌-◌, ◌<◌, ◌≤◌, ◌≢◌, Bool, true, false, cond, List, [], ◌∷◌, ◌++◌, length, set, Option, Some, None, refl, sym, ap, ◌∙◌, ⊎_elim, arith, eq-eqb, ne_eqb, is_some}
use Rattle.std.proofs.lemmas.Bool.{cases_eq}
use Rattle.std.specs.Cmp.{nat_cmp_total, unsigned_tied}
use Rattle.std.specs.Ordering.{nat_cmp, eq_by_cmp}
use Rattle.std.specs.FinMap as map
use Rattle.item_pool.specs.declared.block.Cell.{Cell}
use Rattle.item_pool.specs.CellsKept.{cell_at, entry, live_entries, live_of, IsLive, IsTable}

abbrev tied : ℕ → ℕ → Bool
tied = eq_by_cmp nat_cmp

tied_same : (s n : ℕ) → s ≡ n → tied s n ≡ true
tied_same s n e = unsigned_tied s n ∙ eq-eqb s n e

tied_not : (s n : ℕ) → s ≢ n → tied s n ≡ false
tied_not s n ne = unsigned_tied s n ∙ ne_eqb s n ne

module _ {X : Type 0} where
  -- what the entries have at a serial, when one more cell comes in front
  with_cell : (c : Cell X) (cells : List (Cell X)) (s : ℕ) (o : Option X) → c.value ≡ o → map.find nat_cmp s (live_entries (c ∷ cells)) ≡ map.find nat_cmp s (entry c.number o (live_entries cells))
  with_cell c cells s o e = ap (λ v. map.find nat_cmp s (entry c.number v (live_entries cells))) e

  first_live : (cells : List (Cell X)) (s : ℕ) (y : X) → map.find nat_cmp s (live_entries cells) ≡ Some y → (j : ℕ) × IsLive (cell_at cells) j s y
  first_live [] s y e = cc
  first_live (c ∷ cells) s y e =
      let rest = λ (f : map.find nat_cmp s (live_entries cells) ≡ Some y). let found = first_live cells s y f in
      let at : (j : ℕ) × IsLive (cell_at (c ∷ cells)) j s y = (suc found.0, found.1) in at in
      elim c.value as (λ o. c.value ≡ o → (j : ℕ) × IsLive (cell_at (c ∷ cells)) j s y) [
        | None ↦ λ is. rest (sym (with_cell c cells s None is) ∙ e)
        | Some x ↦ λ is. let f = sym (with_cell c cells s (Some x) is) ∙ e in
            ⊎_elim (λ same. let v : Some x ≡ Some y = ap (λ b. cond b (Some x) (map.find nat_cmp s (live_entries cells))) (sym (tied_same s c.number same)) ∙ f in
            let at : (j : ℕ) × IsLive (cell_at (c ∷ cells)) j s y = (0, (sym same, is ∙ v)) in at)
            (λ other. rest (ap (λ b. cond b (Some x) (map.find nat_cmp s (live_entries cells))) (sym (tied_not s c.number other)) ∙ f)) (cases_eq s c.number)
      ] refl

  none_live : (cells : List (Cell X)) (s : ℕ) → map.find nat_cmp s (live_entries cells) ≡ None → (i : ℕ) (x : X) → IsLive (cell_at cells) i s x → ⊥
  none_live [] s e i x live = let twice : None ≡ Some x = live.1 in cc
  none_live (c ∷ cells) s e zero x live =
      let f : cond (tied s c.number) (Some x) (map.find nat_cmp s (live_entries cells)) ≡ None = sym (with_cell c cells s (Some x) live.1) ∙ e in
      let twice : Some x ≡ None = ap (λ b. cond b (Some x) (map.find nat_cmp s (live_entries cells))) (sym (tied_same s c.number (sym live.0))) ∙ f in cc
  none_live (c ∷ cells) s e (suc i) x live =
      elim c.value as (λ o. c.value ≡ o → ⊥) [
        | None ↦ λ is. none_live cells s (sym (with_cell c cells s None is) ∙ e) i x live
        | Some z ↦ λ is. let f = sym (with_cell c cells s (Some z) is) ∙ e in
            ⊎_elim (λ same. let twice : Some z ≡ None = ap (λ b. cond b (Some z) (map.find nat_cmp s (live_entries cells))) (sym (tied_same s c.number same)) ∙ f in cc)
            (λ other. none_live cells s (ap (λ b. cond b (Some z) (map.find nat_cmp s (live_entries cells))) (sym (tied_not s c.number other)) ∙ f) i x live) (cases_eq s c.number)
      ] refl

  get_live : (cells : List (Cell X)) (s : ℕ) → map.get (live_of cells) s ≡ map.find nat_cmp s (live_entries cells)
  get_live cells s = map.get-from_entries nat_cmp_total (live_entries cells) s

  module _ (cells : List (Cell X)) (t : ℕ → Option ℕ) (made : ℕ) (table : IsTable (cell_at cells) t made) (s : ℕ) where
    pub seen_none : t s ≡ None → map.get (live_of cells) s ≡ None
    seen_none e = elim (map.find nat_cmp s (live_entries cells)) as (λ o. map.find nat_cmp s (live_entries cells) ≡ o → map.get (live_of cells) s ≡ None) [
      | None ↦ λ f. get_live cells s ∙ f
      | Some y ↦ λ f. let at = first_live cells s y f in let twice : None ≡ Some at.0 = sym e ∙ table.listed at.0 s y at.1 in cc
    ] refl

    pub seen_some : (i : ℕ) → t s ≡ Some i → map.get (live_of cells) s ≡ (cell_at cells i).value
    seen_some i e = let f = table.found s i e in elim (map.find nat_cmp s (live_entries cells)) as (λ o. map.find nat_cmp s (live_entries cells) ≡ o → map.get (live_of cells) s ≡ (cell_at cells i).value) [
      | None ↦ λ g. absurd (none_live cells s g i f.0 f.1)
      | Some y ↦ λ g. let at = first_live cells s y g in
          let same : Some at.0 ≡ Some i = sym (table.listed at.0 s y at.1) ∙ e in let q : at.0 ≡ i = cc in
          get_live cells s ∙ g ∙ sym at.1.1 ∙ ap (λ j. (cell_at cells j).value) q
    ] refl

    -- a live serial was made
    pub seen_given : (x : X) → map.get (live_of cells) s ≡ Some x → (0 < s) × (s ≤ made)
    seen_given x e = elim (t s) as (λ o. t s ≡ o → (0 < s) × (s ≤ made)) [
      | None ↦ λ f. let twice : None ≡ Some x = sym (seen_none f) ∙ e in cc
      | Some i ↦ λ f. table.given s i f
    ] refl

  pub seen_new : (cells : List (Cell X)) (t : ℕ → Option ℕ) (made : ℕ) → IsTable (cell_at cells) t made → (m : ℕ) → m ≡ made + 1 → map.get (live_of cells) m ≡ None
  seen_new cells t made table m next = elim (t m) as (λ o. t m ≡ o → map.get (live_of cells) m ≡ None) [
    | None ↦ λ e. seen_none cells t made table m e
    | Some i ↦ λ e. let low = table.given m i e in absurd (omega (arith, low.1))
  ] refl

  -- one cell was written, and the table may differ at the serial m alone
  module _ (cells more : List (Cell X)) (p : ℕ) (same : (i : ℕ) → i ≢ p → cell_at more i ≡ cell_at cells i) (t u : ℕ → Option ℕ) (made later : ℕ)
      (before : IsTable (cell_at cells) t made) (after : IsTable (cell_at more) u later) (m : ℕ) (others : (s : ℕ) → s ≢ m → u s ≡ t s) (off : (s i : ℕ) → s ≢ m → t s ≡ Some i → i ≢ p) where
    elsewhere : (s : ℕ) → s ≢ m → map.get (live_of more) s ≡ map.get (live_of cells) s
    elsewhere s ne = elim (t s) as (λ o. t s ≡ o → map.get (live_of more) s ≡ map.get (live_of cells) s) [
      | None ↦ λ e. seen_none more u later after s (others s ne ∙ e) ∙ sym (seen_none cells t made before s e)
      | Some i ↦ λ e. seen_some more u later after s i (others s ne ∙ e) ∙ ap (λ c. c.value) (same i (off s i ne e)) ∙ sym (seen_some cells t made before s i e)
    ] refl

    pub live_insert : (y : X) → u m ≡ Some p → (cell_at more p).value ≡ Some y → live_of more ≡ map.insert (live_of cells) m y
    live_insert y here value = map.same_map nat_cmp_total map.nat_cmp-IsAntisymmetric (live_of more) (map.insert (live_of cells) m y) (λ s.
        ⊎_elim
        (λ is. ap (λ k. map.get (live_of more) k) is ∙ seen_some more u later after m p here ∙ value ∙ sym (map.get-insert nat_cmp_total (live_of cells) m y s ∙ ap (λ b. cond b (Some y) (map.get (live_of cells) s)) (tied_same s m is)))
        (λ ne. elsewhere s ne ∙ sym (map.get-insert nat_cmp_total (live_of cells) m y s ∙ ap (λ b. cond b (Some y) (map.get (live_of cells) s)) (tied_not s m ne))) (cases_eq s m))

    pub live_remove : u m ≡ None → live_of more ≡ map.remove (live_of cells) m
    live_remove here = map.same_map nat_cmp_total map.nat_cmp-IsAntisymmetric (live_of more) (map.remove (live_of cells) m) (λ s.
        ⊎_elim
        (λ is. ap (λ k. map.get (live_of more) k) is ∙ seen_none more u later after m here ∙ sym (map.get-remove nat_cmp_total (live_of cells) m s ∙ ap (λ b. cond b None (map.get (live_of cells) s)) (tied_same s m is)))
        (λ ne. elsewhere s ne ∙ sym (map.get-remove nat_cmp_total (live_of cells) m s ∙ ap (λ b. cond b None (map.get (live_of cells) s)) (tied_not s m ne))) (cases_eq s m))

  -- free cells at the end add nothing
  pub live_append : (cells more : List (Cell X)) → ((k : ℕ) → (cell_at more k).value ≡ None) → live_entries (cells ++ more) ≡ live_entries cells
  live_append [] [] none = refl
  live_append [] (c ∷ more) none = ap (λ v. entry c.number v (live_entries more)) (none 0) ∙ live_append [] more (λ k. none (suc k))
  live_append (c ∷ cells) more none = ap (λ l. entry c.number c.value l) (live_append cells more none)

  pub len_insert : (m : map.FinMap nat_cmp X) (k : ℕ) (v : X) → map.get m k ≡ None → map.len (map.insert m k v) ≡ map.len m + 1
  len_insert m k v e = map.len-insert nat_cmp_total m k v ∙ ap (λ o. cond (is_some o) (map.len m) (map.len m + 1)) e

  pub len_same : (m : map.FinMap nat_cmp X) (k : ℕ) (u v : X) → map.get m k ≡ Some u → map.len (map.insert m k v) ≡ map.len m
  len_same m k u v e = map.len-insert nat_cmp_total m k v ∙ ap (λ o. cond (is_some o) (map.len m) (map.len m + 1)) e

  pub len_remove : (m : map.FinMap nat_cmp X) (k : ℕ) (v : X) → map.get m k ≡ Some v → map.len (map.remove m k) + 1 ≡ map.len m
  len_remove m k v e =
      let some : 0 < map.len m = ⊎_elim (λ zero. let twice : None ≡ Some v = sym (ap (λ n. map.get n k) (map.empty_of_len m zero) ∙ map.get-empty nat_cmp k) ∙ e in cc) (λ other. omega arith) (cases_eq (map.len m) 0) in
      let less : map.len (map.remove m k) ≡ map.len m - 1 = map.len-remove nat_cmp_total m k ∙ ap (λ o. cond (is_some o) (map.len m - 1) (map.len m)) e in omega arith

  -- a write to one place
  pub at_set : (cells : List (Cell X)) (p : ℕ) (c : Cell X) → p < length cells → cell_at (set cells p c) p ≡ c
  at_set [] p c h = absurd (omega arith)
  at_set (x ∷ cells) zero c h = refl
  at_set (x ∷ cells) (suc p) c h = at_set cells p c (omega arith)

  pub at_other : (cells : List (Cell X)) (p : ℕ) (c : Cell X) (i : ℕ) → i ≢ p → cell_at (set cells p c) i ≡ cell_at cells i
  at_other [] p c i ne = refl
  at_other (x ∷ cells) zero c zero ne = absurd (ne refl)
  at_other (x ∷ cells) zero c (suc i) ne = refl
  at_other (x ∷ cells) (suc p) c zero ne = refl
  at_other (x ∷ cells) (suc p) c (suc i) ne = at_other cells p c i (λ e. ne (ap suc e))
