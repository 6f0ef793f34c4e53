-- The file of a name among entries, and entries of which one gets other bytes.
use Rattle.std.proofs.Common.{◌≡◌, ◌≢◌, ℕ, zero, suc, ◌<◌, Bool, true, false, List, [], ◌∷◌, ◌++◌, refl, sym, ◌∙◌, ap, ap₂, inl, inr, map, length, get_or, nat_lt, lt-ltb, arith}
use Rattle.std.specs.Prelude.{Option, None, Some, String, Vec, find, option_map}
use Rattle.std.specs.List.{position, position_or_len, slice_set}
use Rattle.std.specs.Str.{bytes_eq}
use Rattle.std.specs.String.{string_bytes}
use Rattle.std.proofs.lemmas.Bool.{cases_Bool, cases_lt, false_from_ne_true}
use Rattle.std.proofs.lemmas.List.Folds.{find_at}
use Rattle.std.proofs.lemmas.List.Quantifiers.{position-Some}
use Rattle.std.proofs.lemmas.Option.{slice_get_past}
use Rattle.std.proofs.lemmas.Slice.Eq.{bytes_eq-Decides}
use Rattle.leda_edge.specs.Files.{KeepsOthers}
use Rattle.leda_edge.specs.Memory.{Entry, entry_of, file_in, with_file}

-- names that are told apart
apart : (a b : List ℕ) → a ≢ b → bytes_eq a b ≡ false
apart a b h = false_from_ne_true (bytes_eq a b) (λ e. h ((bytes_eq-Decides a b).0 e))

same : (a : List ℕ) → bytes_eq a a ≡ true
same a = (bytes_eq-Decides a a).1 refl

-- the file that got other bytes has them
pub with_file-has : (name bytes : List ℕ) (entries : List Entry)
    → file_in (with_file name bytes entries) name ≡ Some bytes
with_file-has name bytes [] = rw (same name) refl
with_file-has name bytes (e ∷ es) = elim (cases_Bool (bytes_eq e.0 name)) [
  | inl hit ↦ rw hit (rw hit refl)
  | inr miss ↦ rw miss (rw miss (with_file-has name bytes es))
]

-- and all others are as they were
pub with_file-keeps : (name bytes : List ℕ) (entries : List Entry)
    → KeepsOthers (file_in entries) (file_in (with_file name bytes entries)) name
with_file-keeps name bytes [] = λ other differs.
    let miss : bytes_eq name other ≡ false = apart name other (λ e. differs (sym e)) in
    rw miss refl
with_file-keeps name bytes (e ∷ es) = λ other differs. elim (cases_Bool (bytes_eq e.0 name)) [
  | inl hit ↦
      let is : e.0 ≡ name = (bytes_eq-Decides e.0 name).0 hit in
      let miss : bytes_eq e.0 other ≡ false = apart e.0 other (λ h. differs (sym h ∙ is)) in
      rw hit (rw miss refl)
  | inr miss ↦ elim (cases_Bool (bytes_eq e.0 other)) [
    | inl here ↦ rw miss (rw here refl)
    | inr further ↦ rw miss (rw further (with_file-keeps name bytes es other differs))
  ]
]

module _ {Z Y : Type 0} where
  -- a file has the name
  abbrev pub has_name : List ℕ → String Z × Vec ℕ Y → Bool
  has_name name file = bytes_eq (string_bytes file.0) name

  -- the first file with the name is the first entry with it
  pub entry_found : (files : List (String Z × Vec ℕ Y)) (name : List ℕ)
      → file_in (map entry_of files) name
      ≡ option_map (λ file. file.1.items) (find (has_name name) files)
  entry_found [] name = refl
  entry_found (f ∷ fs) name = elim (cases_Bool (bytes_eq (string_bytes f.0) name)) [
    | inl hit ↦ rw hit refl
    | inr miss ↦ rw miss (entry_found fs name)
  ]

  -- the first element that passes stands where none before it does
  found_at : (p : String Z × Vec ℕ Y → Bool) (files : List (String Z × Vec ℕ Y)) (i : ℕ)
      (d : String Z × Vec ℕ Y) → i < length files → p (get_or files i d) ≡ true
      → ((k : ℕ) → k < i → p (get_or files k d) ≡ false) → find p files ≡ Some (get_or files i d)
  found_at p [] i d within hit before = absurd (omega arith)
  found_at p (f ∷ fs) zero d within hit before = rw hit refl
  found_at p (f ∷ fs) (suc i) d within hit before =
      let miss : p f ≡ false = before 0 (omega arith) in
      rw miss (found_at p fs i d (omega arith) hit (λ k below. before (suc k) (omega arith)))

  -- no element passes
  none_found : (p : String Z × Vec ℕ Y → Bool) (files : List (String Z × Vec ℕ Y))
      → position p files ≡ None → find p files ≡ None
  none_found p files e = elim (cases_lt (position_or_len p files) (length files)) [
    | inl below ↦
        let hit : nat_lt (position_or_len p files) (length files) ≡ true = lt-ltb (position_or_len p files) (length files) below in
        let there : position p files ≡ Some (position_or_len p files) = rw hit refl in
        let clash : None ≡ Some (position_or_len p files) = sym e ∙ there in
        cc
    | inr past ↦ find_at p files ∙ slice_get_past files (position_or_len p files) past
  ]

  -- the file at the place of a name
  pub file_at : (files : List (String Z × Vec ℕ Y)) (name : List ℕ) (i : ℕ)
      (d : String Z × Vec ℕ Y) → position (has_name name) files ≡ Some i
      → Some (get_or files i d).1.items ≡ file_in (map entry_of files) name
  file_at files name i d e =
      let at = position-Some (has_name name) files i d e in
      sym (entry_found files name
      ∙ ap (option_map (λ file. file.1.items)) (found_at (has_name name) files i d at.0 at.1 at.2))

  pub no_file : (files : List (String Z × Vec ℕ Y)) (name : List ℕ)
      → position (has_name name) files ≡ None → None ≡ file_in (map entry_of files) name
  no_file files name e = sym (entry_found files name
      ∙ ap (option_map (λ file. file.1.items)) (none_found (has_name name) files e))

  -- the file at a place gets other bytes
  set_file : (files : List (String Z × Vec ℕ Y)) (name bytes : List ℕ) (i : ℕ)
      (d new : String Z × Vec ℕ Y) → i < length files → has_name name (get_or files i d) ≡ true
      → ((k : ℕ) → k < i → has_name name (get_or files k d) ≡ false)
      → entry_of new ≡ ((string_bytes (get_or files i d).0), bytes)
      → map entry_of (slice_set files i new) ≡ with_file name bytes (map entry_of files)
  set_file [] name bytes i d new within hit before is = absurd (omega arith)
  set_file (f ∷ fs) name bytes zero d new within hit before is =
      rw hit (ap (λ e. e ∷ map entry_of fs) is)
  set_file (f ∷ fs) name bytes (suc i) d new within hit before is =
      let miss : has_name name f ≡ false = before 0 (omega arith) in
      rw miss (ap (λ es. entry_of f ∷ es) (set_file fs name bytes i d new (omega arith) hit
      (λ k below. before (suc k) (omega arith)) is))

  pub replaced : (files : List (String Z × Vec ℕ Y)) (name bytes : List ℕ) (i : ℕ)
      (d new : String Z × Vec ℕ Y) → position (has_name name) files ≡ Some i
      → entry_of new ≡ ((string_bytes (get_or files i d).0), bytes)
      → map entry_of (slice_set files i new) ≡ with_file name bytes (map entry_of files)
  replaced files name bytes i d new e is =
      let at = position-Some (has_name name) files i d e in
      set_file files name bytes i d new at.0 at.1 at.2 is

  -- a file of a new name comes behind the others
  new_file : (files : List (String Z × Vec ℕ Y)) (name bytes : List ℕ) (new : String Z × Vec ℕ Y)
      → find (has_name name) files ≡ None → entry_of new ≡ (name, bytes)
      → map entry_of (files ++ new ∷ []) ≡ with_file name bytes (map entry_of files)
  new_file [] name bytes new e is = ap (λ e. e ∷ []) is
  new_file (f ∷ fs) name bytes new e is = elim (cases_Bool (bytes_eq (string_bytes f.0) name)) [
    | inl hit ↦
        let there : find (has_name name) (f ∷ fs) ≡ Some f = rw hit refl in
        let clash : None ≡ Some f = sym e ∙ there in
        cc
    | inr miss ↦
        let later : find (has_name name) (f ∷ fs) ≡ find (has_name name) fs = rw miss refl in
        rw miss (ap (λ es. entry_of f ∷ es) (new_file fs name bytes new (sym later ∙ e) is))
  ]

  pub added : (files : List (String Z × Vec ℕ Y)) (name bytes : List ℕ)
      (new : String Z × Vec ℕ Y) → position (has_name name) files ≡ None
      → entry_of new ≡ (name, bytes)
      → map entry_of (files ++ new ∷ []) ≡ with_file name bytes (map entry_of files)
  added files name bytes new e is =
      new_file files name bytes new (none_found (has_name name) files e) is

-- saving is that the named file gets the bytes
pub saves : (old new : List Entry) (name bytes : List ℕ) → new ≡ with_file name bytes old
    → (file_in new name ≡ Some bytes) × KeepsOthers (file_in old) (file_in new) name
saves old new name bytes e =
    rw e (with_file-has name bytes old, with_file-keeps name bytes old)
