-- What contracts see of the rings: lists of members by heads. A token is a number.
use Rattle.std.specs.Prelude.{◌≡◌, ℕ, ◌⊎◌, true, cond, ◌==◌, List, [], ◌∷◌, ◌++◌, Option, Some, None, unwrap_or, refl}
use Rattle.std.specs.Coded.{Coded, code_by, coded×, coded_ℕ, coded_list}
use Rattle.std.specs.Ordering.{nat_cmp}
use Rattle.std.specs.FinMap as map

-- the rings by their heads, the loose members, the tag of each member that is there,
-- and how many heads and members can be made without refusal
pub record RingLists : Type 0 where
  pub rings : map.FinMap nat_cmp (List ℕ)
  pub loose : List ℕ
  pub tags : map.FinMap nat_cmp ℕ
  pub spare_heads : ℕ
  pub spare_members : ℕ

abbrev pub lists_code : Coded RingLists
lists_code = code_by (map.FinMap nat_cmp (List ℕ) × (List ℕ × (map.FinMap nat_cmp ℕ × (ℕ × ℕ))))
    (coded× (map.code coded_ℕ (coded_list coded_ℕ))
    (coded× (coded_list coded_ℕ) (coded× (map.code coded_ℕ coded_ℕ) (coded× coded_ℕ coded_ℕ))))
    (λ s. (s.rings, (s.loose, (s.tags, (s.spare_heads, s.spare_members)))))
    (λ p. record {
      rings = p.0;
      loose = p.1.0;
      tags = p.1.1.0;
      spare_heads = p.1.1.1.0;
      spare_members = p.1.1.1.1;
    })
    (λ _. refl)

-- m is in the list
abbrev pub IsIn : ℕ → List ℕ → Type 0
IsIn m [] = ⊥
IsIn m (x ∷ xs) = (m ≡ x) ⊎ IsIn m xs

-- no member stands twice in the list
abbrev pub IsDistinct : List ℕ → Type 0
IsDistinct [] = Unit {0}
IsDistinct (x ∷ xs) = (IsIn x xs → ⊥) × IsDistinct xs

-- the list without m
abbrev pub without : ℕ → List ℕ → List ℕ
without m [] = []
without m (x ∷ xs) = cond (x == m) (without m xs) (x ∷ without m xs)

-- the list with m right after `at`, or right before it
abbrev pub with_after : ℕ → ℕ → List ℕ → List ℕ
with_after at m [] = []
with_after at m (x ∷ xs) = cond (x == at) (x ∷ m ∷ xs) (x ∷ with_after at m xs)

abbrev pub with_before : ℕ → ℕ → List ℕ → List ℕ
with_before at m [] = []
with_before at m (x ∷ xs) = cond (x == at) (m ∷ x ∷ xs) (x ∷ with_before at m xs)

-- the ring of the head
abbrev pub list_in : map.FinMap nat_cmp (List ℕ) → ℕ → List ℕ
list_in rings h = unwrap_or (map.get rings h) []

abbrev pub ring : RingLists → ℕ → List ℕ
ring s h = list_in s.rings h

abbrev pub IsHead : RingLists → ℕ → Type 0
IsHead s h = map.contains_key s.rings h ≡ true

abbrev pub IsLoose : RingLists → ℕ → Type 0
IsLoose s m = IsIn m s.loose

-- the member is linked into the ring of the head
pub record IsLinkedIn (s : RingLists) (h m : ℕ) : Type 0 where
  pub head : IsHead s h
  pub member : IsIn m (ring s h)

abbrev pub IsLinked : RingLists → ℕ → Type 0
IsLinked s m = (h : ℕ) × IsLinkedIn s h m

-- what holds of all rings of one value
pub record AreApart (s : RingLists) : Type 0 where
  pub distinct : (h : ℕ) → IsHead s h → IsDistinct (ring s h)
  pub one_ring : (g h m : ℕ) → IsLinkedIn s g m → IsLinkedIn s h m → g ≡ h
  pub not_loose : (h m : ℕ) → IsLinkedIn s h m → IsLoose s m → ⊥
  pub tagged : (m : ℕ) → IsLinked s m ⊎ IsLoose s m → map.contains_key s.tags m ≡ true
  pub placed : (m : ℕ) → map.contains_key s.tags m ≡ true → IsLinked s m ⊎ IsLoose s m

-- the first of the list, and the last
abbrev pub front : List ℕ → Option ℕ
front [] = None
front (x ∷ xs) = Some x

abbrev pub back : List ℕ → Option ℕ
back [] = None
back (x ∷ []) = Some x
back (x ∷ y ∷ ys) = back (y ∷ ys)

-- the ring of h has m between the two lists
pub record StandsBetween (s : RingLists) (h m : ℕ) (before behind : List ℕ) : Type 0 where
  pub head : IsHead s h
  pub is : ring s h ≡ before ++ m ∷ behind

-- the number, and none where it is q
abbrev pub unless_equal : ℕ → ℕ → Option ℕ
unless_equal n q = cond (n == q) None (Some n)
