-- What a row of entries says, and what a write makes of it.
use Rattle.std.proofs.Common.{◌≡◌, ℕ, zero, suc, ◌<◌, ◌≢◌, ◌⊎◌, inl, inr, cond, List, [], ◌∷◌, ◌++◌, length, get_or, set, replicate, Option, Some, None, IsSome, refl, sym, ap, subst, ◌∙◌, arith, get_or-set_same, get_or-set_other}
use Rattle.std.specs.Prelude.{ℤ}
use Rattle.std.proofs.lemmas.List.{get_or_read}
use Rattle.std.specs.Ordering.{nat_cmp}
use Rattle.std.specs.Cmp.{nat_cmp_total}
use Rattle.std.specs.FinMap as map
use Rattle.graph_state.proofs.Has.{some_or_none, some_same, none_some}
use Rattle.graph_state.proofs.Same.{nat_tells}
use Rattle.graph_state.proofs.Maps.{put_here, put_else}
use Rattle.node_maps.specs.declared.row.Entry.{Entry}
use Rattle.node_maps.specs.Contents.{Values}
use Rattle.node_maps.specs.PrivateRow.{no_entry, entry_at, number_at, values_of, AreApart}

abbrev value_at : List Entry → ℕ → ℤ
value_at es k = (entry_at es k).value

-- an entry with the number and the value
abbrev pub IsAt : List Entry → ℕ → ℕ → ℤ → Type 0
IsAt es k n x = (number_at es k ≡ n) × (value_at es k ≡ x)

-- where a number's value comes from
pub found : (es : List Entry) (n : ℕ) (x : ℤ) → map.get (values_of es) n ≡ Some x → (k : ℕ) × ((k < length es) × IsAt es k n x × (0 < n))
found [] n x g = absurd (none_some (sym (map.get-empty nat_cmp n) ∙ g))
found (e ∷ es) n x g =
    let later : map.get (values_of es) n ≡ Some x → (k : ℕ) × ((k < length (e ∷ es)) × IsAt (e ∷ es) k n x × (0 < n))
    = (λ h. let r = found es n x h in (suc r.0, (omega (arith, r.1.0), r.1.1, r.1.2))) in
    elim (nat_tells e.number 0) [
      | inl y ↦ later (sym (ap (λ b. map.get (cond b (values_of es) (map.insert (values_of es) e.number e.value)) n) y.0) ∙ g)
      | inr o ↦
          let h : map.get (map.insert (values_of es) e.number e.value) n ≡ Some x = sym (ap (λ b. map.get (cond b (values_of es) (map.insert (values_of es) e.number e.value)) n) o.0) ∙ g in
          elim (nat_tells n e.number) [
            | inl z ↦
                let ne = o.1 in
                (0, (omega arith, (sym z.1, some_same (sym (put_here (values_of es) e.number e.value n z.1) ∙ h)), omega (arith, ne, z.1)))
            | inr z ↦ later (sym (put_else (values_of es) e.number e.value n z.1) ∙ h)
          ]
    ]

-- a number that isn't 0 has a value
pub there : (es : List Entry) (k : ℕ) → 0 < number_at es k → (x : ℤ) × (map.get (values_of es) (number_at es k) ≡ Some x)
there [] k lt = absurd (omega (arith, lt))
there (e ∷ es) zero lt = elim (nat_tells e.number 0) [
  | inl y ↦ let same = y.1 in absurd (omega (arith, lt, same))
  | inr o ↦ (e.value, ap (λ b. map.get (cond b (values_of es) (map.insert (values_of es) e.number e.value)) e.number) o.0 ∙ put_here (values_of es) e.number e.value e.number refl)
]
there (e ∷ es) (suc k) lt =
    let n = number_at es k in
    let r = there es k lt in
    elim (nat_tells e.number 0) [
      | inl y ↦ (r.0, ap (λ b. map.get (cond b (values_of es) (map.insert (values_of es) e.number e.value)) n) y.0 ∙ r.1)
      | inr o ↦ elim (nat_tells n e.number) [
        | inl z ↦ (e.value, ap (λ b. map.get (cond b (values_of es) (map.insert (values_of es) e.number e.value)) n) o.0 ∙ put_here (values_of es) e.number e.value n z.1)
        | inr z ↦ (r.0, ap (λ b. map.get (cond b (values_of es) (map.insert (values_of es) e.number e.value)) n) o.0 ∙ put_else (values_of es) e.number e.value n z.1 ∙ r.1)
      ]
    ]

-- where numbers are apart, each has the value that stands beside it
pub read : (es : List Entry) → AreApart es → (k n : ℕ) → 0 < n → number_at es k ≡ n → map.get (values_of es) n ≡ Some (value_at es k)
read es apart k n lt is =
    let lk : 0 < number_at es k = subst (λ m. 0 < m) (sym is) lt in
    let r = there es k lk in
    let g : map.get (values_of es) n ≡ Some r.0 = ap (map.get (values_of es)) (sym is) ∙ r.1 in
    let f = found es n r.0 g in
    g ∙ ap Some (sym f.1.1.1 ∙ ap (value_at es) (sym (apart k f.0 lk (is ∙ sym f.1.1.0))))

pub absent : (es : List Entry) (n : ℕ) → ((k : ℕ) → k < length es → number_at es k ≢ n) → map.get (values_of es) n ≡ None
absent es n none = elim (some_or_none (map.get (values_of es) n)) [
  | inl e ↦ e
  | inr s ↦ let f = found es n s.0 s.1 in absurd (none f.0 f.1.0 f.1.1.0)
]

-- a number without a value stands nowhere
pub nowhere : (es : List Entry) (n : ℕ) → 0 < n → map.get (values_of es) n ≡ None → (k : ℕ) → number_at es k ≡ n → ⊥
nowhere es n lt none k is =
    let r = there es k (subst (λ m. 0 < m) (sym is) lt) in
    none_some (sym none ∙ ap (map.get (values_of es)) (sym is) ∙ r.1)

-- fs is es with the value x of n at the place i, which was vacant or had n, and n stands nowhere else
pub record IsWritten (es fs : List Entry) (i n : ℕ) (x : ℤ) : Type 0 where
  pub given : 0 < n
  pub here : IsAt fs i n x
  pub others : (k : ℕ) → (k ≡ i → ⊥) → entry_at fs k ≡ entry_at es k
  pub was : (number_at es i ≡ 0) ⊎ (number_at es i ≡ n)
  pub alone : (k : ℕ) → number_at es k ≡ n → k ≡ i

module _ (es fs : List Entry) (i n : ℕ) (x : ℤ) (apart : AreApart es) (w : IsWritten es fs i n x) where
  same_number : (k : ℕ) → (k ≡ i → ⊥) → number_at fs k ≡ number_at es k
  same_number k ne = ap (λ (e : Entry). e.number) (w.others k ne)

  pub written_apart : AreApart fs
  written_apart j k lt same = elim (nat_tells j i) [
    | inl a ↦ elim (nat_tells k i) [
      | inl b ↦ a.1 ∙ sym b.1
      | inr b ↦ a.1 ∙ sym (w.alone k (sym (same_number k b.1) ∙ sym same ∙ ap (number_at fs) a.1 ∙ w.here.0))
    ]
    | inr a ↦ elim (nat_tells k i) [
      | inl b ↦ w.alone j (sym (same_number j a.1) ∙ same ∙ ap (number_at fs) b.1 ∙ w.here.0) ∙ sym b.1
      | inr b ↦ apart j k (subst (λ m. 0 < m) (same_number j a.1) lt) (sym (same_number j a.1) ∙ same ∙ same_number k b.1)
    ]
  ]

  -- another number keeps its value
  other_kept : (q : ℕ) → (q ≡ n → ⊥) → map.get (values_of fs) q ≡ map.get (values_of es) q
  other_kept q ne = elim (some_or_none (map.get (values_of fs) q)) [
    | inl none ↦ elim (some_or_none (map.get (values_of es) q)) [
      | inl gone ↦ none ∙ sym gone
      | inr s ↦
          let f = found es q s.0 s.1 in
          let lt = f.1.2 in
          let apart_from : f.0 ≡ i → ⊥ = (λ e. elim w.was [
            | inl z ↦ let zero_is : q ≡ 0 = sym f.1.1.0 ∙ ap (number_at es) e ∙ z in omega (arith, zero_is, lt)
            | inr z ↦ ne (sym f.1.1.0 ∙ ap (number_at es) e ∙ z)
          ]) in
          absurd (nowhere fs q lt none f.0 (same_number f.0 apart_from ∙ f.1.1.0))
    ]
    | inr s ↦
        let f = found fs q s.0 s.1 in
        let apart_from : f.0 ≡ i → ⊥ = (λ e. ne (sym f.1.1.0 ∙ ap (number_at fs) e ∙ w.here.0)) in
        let here = read es apart f.0 q f.1.2 (sym (same_number f.0 apart_from) ∙ f.1.1.0) in
        s.1 ∙ ap Some (sym f.1.1.1 ∙ ap (λ (e : Entry). e.value) (w.others f.0 apart_from)) ∙ sym here
  ]

  pub written_values : values_of fs ≡ map.insert (values_of es) n x
  written_values = map.same_map nat_cmp_total map.nat_cmp-IsAntisymmetric (values_of fs) (map.insert (values_of es) n x) (λ q. elim (nat_tells q n) [
    | inl y ↦ ap (map.get (values_of fs)) y.1 ∙ read fs written_apart i n w.given w.here.0 ∙ ap Some w.here.1 ∙ sym (put_here (values_of es) n x q y.1)
    | inr o ↦ other_kept q o.1 ∙ sym (put_else (values_of es) n x q o.1)
  ])

module _ (es : List Entry) (n : ℕ) (x : ℤ) (lt : 0 < n) where
  -- a write into the row
  pub set_writes : (i : ℕ) (e : Entry) → i < length es → e.number ≡ n → e.value ≡ x → (number_at es i ≡ 0) ⊎ (number_at es i ≡ n) → ((k : ℕ) → number_at es k ≡ n → k ≡ i) → IsWritten es (set es i e) i n x
  set_writes i e within number value was alone =
      let here : entry_at (set es i e) i ≡ e = get_or-set_same es i e no_entry within in
      record {
        given = lt;
        here = (ap (λ (e : Entry). e.number) here ∙ number, ap (λ (e : Entry). e.value) here ∙ value);
        others = λ k ne. get_or-set_other es i k e no_entry ne;
        was = was;
        alone = alone;
      }

  -- one behind the row
  last_entry : (fs : List Entry) (e : Entry) → entry_at (fs ++ e ∷ []) (length fs) ≡ e
  last_entry [] e = refl
  last_entry (f ∷ fs) e = last_entry fs e

  other_entry : (fs : List Entry) (e : Entry) (k : ℕ) → (k ≡ length fs → ⊥) → entry_at (fs ++ e ∷ []) k ≡ entry_at fs k
  other_entry [] e zero ne = absurd (ne refl)
  other_entry [] e (suc k) ne = refl
  other_entry (f ∷ fs) e zero ne = refl
  other_entry (f ∷ fs) e (suc k) ne = other_entry fs e k (λ i. ne (ap suc i))

  past : (fs : List Entry) → number_at fs (length fs) ≡ 0
  past [] = refl
  past (f ∷ fs) = past fs

  pub push_writes : (e : Entry) → e.number ≡ n → e.value ≡ x → ((k : ℕ) → number_at es k ≡ n → ⊥) → IsWritten es (es ++ e ∷ []) (length es) n x
  push_writes e number value none = record {
    given = lt;
    here = (ap (λ (e : Entry). e.number) (last_entry es e) ∙ number, ap (λ (e : Entry). e.value) (last_entry es e) ∙ value);
    others = other_entry es e;
    was = inl (past es);
    alone = λ k is. absurd (none k is);
  }

-- a row of vacant entries
vacant_values : (c : ℕ) (e : Entry) → e.number ≡ 0 → values_of (replicate c e) ≡ map.empty
vacant_values zero e is = refl
vacant_values (suc c) e is = elim (nat_tells e.number 0) [
  | inl y ↦ ap (λ b. cond b (values_of (replicate c e)) (map.insert (values_of (replicate c e)) e.number e.value)) y.0 ∙ vacant_values c e is
  | inr o ↦ absurd (o.1 is)
]

-- a row that was filled with one vacant entry
pub vacant_row : (es : List Entry) (c : ℕ) (e : Entry) → es ≡ replicate c e → e.number ≡ 0 → values_of es ≡ map.empty
vacant_row es c e filled is = ap values_of filled ∙ vacant_values c e is

-- what reads and writes of a row say of its values
module _ (es : List Entry) (row : Values) (n : ℕ) (apart : AreApart es) (is : values_of es ≡ row) where
  pub read_row : (k : ℕ) → 0 < n → number_at es k ≡ n → Some (value_at es k) ≡ map.get row n
  read_row k lt at = sym (read es apart k n lt at) ∙ ap (λ r. map.get r n) is

  pub absent_row : ((k : ℕ) → k < length es → number_at es k ≢ n) → map.get row n ≡ None
  absent_row out = ap (λ r. map.get r n) (sym is) ∙ absent es n out

  pub written_row : (fs : List Entry) (i : ℕ) (x : ℤ) → IsWritten es fs i n x → values_of fs ≡ map.insert row n x
  written_row fs i x w = written_values es fs i n x apart w ∙ ap (λ r. map.insert r n x) is

  -- a new number takes a vacant place, or one behind the row
  pub fills : (i : ℕ) (e : Entry) (x : ℤ) → 0 < n → map.get row n ≡ None → e.number ≡ n → e.value ≡ x → i < length es → number_at es i ≡ 0 → IsWritten es (set es i e) i n x
  fills i e x lt fresh number value within vacant =
      set_writes es n x lt i e within number value (inl vacant) (λ k at. absurd (nowhere es n lt (ap (λ r. map.get r n) is ∙ fresh) k at))

  pub pushes : (e : Entry) (x : ℤ) → 0 < n → map.get row n ≡ None → e.number ≡ n → e.value ≡ x → IsWritten es (es ++ e ∷ []) (length es) n x
  pushes e x lt fresh number value = push_writes es n x lt e number value (nowhere es n lt (ap (λ r. map.get r n) is ∙ fresh))

  -- a number that stands in the row keeps its place
  pub resets : (i : ℕ) (e : Entry) (x : ℤ) → 0 < n → e.number ≡ n → e.value ≡ x → i < length es → number_at es i ≡ n → values_of (set es i e) ≡ map.insert row n x
  resets i e x lt number value within at =
      written_row (set es i e) i x (set_writes es n x lt i e within number value (inr at)
      (λ k there_too. apart k i (subst (λ m. 0 < m) (sym there_too) lt) (there_too ∙ sym at)))

-- what an index into the row gives
pub number_read : (es : List Entry) (i : ℕ) (r : Entry) → i < length es → r ≡ get_or es i r → r.number ≡ number_at es i
number_read es i r within is = ap (λ (e : Entry). e.number) (get_or_read es i r within is no_entry)

pub none_is : (o : Option ℤ) → o ≡ None → IsSome o → ⊥
none_is None e s = cc
none_is (Some x) e s = cc
