-- What a contract sees of a dictionary.
use Rattle.std.specs.Prelude.{◌≡◌, ℕ, ◌+◌, ◌<◌, ◌≤◌, ℤ, Some, None, refl, MatchOption}
use Rattle.std.specs.Coded.{Coded, code_by, coded×, coded_ℕ, coded_ℤ}
use Rattle.std.specs.Ordering.{int_cmp}
use Rattle.std.specs.FinMap as map
use Rattle.item_pool.specs.declared.pool.TheConstants.{MOST_SERIALS}
use Rattle.item_pool.specs.Contents.{WhyGone}
use Rattle.item_pool.specs.declared.pool.Gone.{Gone}
use Rattle.item_pool.specs.declared.pool.InsertRefusal.{InsertRefusal}
use Rattle.item_pool.specs.declared.pool.InsertRefusal.TheVariants.{NoMemory, Spent}

-- the list of the triples of key, item and information in the order of the keys, no two of which
-- are equal, and how many serials were made; an item stands as its serial
pub record Contents (X : Type 0) : Type 0 where
  pub triples : map.FinMap int_cmp (ℕ × X)
  pub made : ℕ

module _ {X : Type 0} where
  abbrev pub contents : map.FinMap int_cmp (ℕ × X) → ℕ → Contents X
  contents triples made = record { triples = triples; made = made }

  abbrev pub contents_code : Coded X → Coded (Contents X)
  contents_code c =
      code_by (map.FinMap int_cmp (ℕ × X) × ℕ)
      (coded× (map.code coded_ℤ (coded× coded_ℕ c)) coded_ℕ) (λ d. (d.triples, d.made))
      (λ t. contents t.0 t.1) (λ _. refl)

  -- the item s has the key k and the information x
  abbrev pub Holds : Contents X → ℕ → ℤ → X → Type 0
  Holds d s k x = map.get d.triples k ≡ Some (s, x)

  -- the item s has the key k
  abbrev pub HasKey : Contents X → ℕ → ℤ → Type 0
  HasKey d s k = (x : X) × Holds d s k x

  -- the item s has the information x
  abbrev pub HasInf : Contents X → ℕ → X → Type 0
  HasInf d s x = (k : ℤ) × Holds d s k x

  -- the key k is absent
  abbrev pub IsAbsent : Contents X → ℤ → Type 0
  IsAbsent d k = map.get d.triples k ≡ None

  -- no key has the item s
  abbrev pub HasNo : Contents X → ℕ → Type 0
  HasNo d s = (k : ℤ) (x : X) → Holds d s k x → ⊥

  -- no key has the item s: Dead from 1 to made, and Unknown at 0 and above made
  abbrev pub Lacks : Contents X → ℕ → Gone → Type 0
  Lacks d s why = HasNo d s × WhyGone d.made s why

  -- no key but k has the item s
  abbrev pub IsAlone : Contents X → ℕ → ℤ → Type 0
  IsAlone d s k = (j : ℤ) (y : X) → Holds d s j y → j ≡ k

  -- no two keys have one item
  abbrev pub AreApart : Contents X → Type 0
  AreApart d = (s : ℕ) (k : ℤ) (x : X) → Holds d s k x → IsAlone d s k

  -- each item was made
  abbrev pub IsWithin : Contents X → Type 0
  IsWithin d =
      ((s : ℕ) (k : ℤ) (x : X) → Holds d s k x → (0 < s) × (s ≤ d.made)) × (d.made ≤ MOST_SERIALS)

  -- d with x as the information of the item s, which has the key k and had the information old, is
  -- e
  pub record Changes (d e : Contents X) (s : ℕ) (k : ℤ) (x old : X) : Type 0 where
    pub held : Holds d s k old
    pub alone : IsAlone d s k
    pub after : e ≡ contents (map.insert d.triples k (s, x)) d.made

  -- d with the absent key k, x and the next serial s is e
  pub record Adds (d e : Contents X) (k : ℤ) (x : X) (s : ℕ) : Type 0 where
    pub absent : IsAbsent d k
    pub serial : s ≡ d.made + 1
    pub fresh : HasNo d s
    pub within : d.made < MOST_SERIALS
    pub after : e ≡ contents (map.insert d.triples k (s, x)) s

  -- a present key k keeps its item s and has x as its information, and an absent one comes in with
  -- the next serial
  abbrev pub Inserts : Contents X → Contents X → ℤ → X → ℕ → Type 0
  Inserts d e k x s =
      MatchOption (map.get d.triples k) (Adds d e k x s) (λ t. (s ≡ t.0) × Changes d e s k x t.1)

  -- x comes back: spent where each serial was made, and else for want of memory
  abbrev pub Returns : Contents X → X → InsertRefusal X → Type 0
  Returns d x (NoMemory y) = (y ≡ x) × (d.made < MOST_SERIALS)
  Returns d x (Spent y) = (y ≡ x) × (d.made ≡ MOST_SERIALS)

  -- the key k is absent, x comes back, and all is as before
  abbrev pub Refuses : Contents X → Contents X → ℤ → X → InsertRefusal X → Type 0
  Refuses d e k x why = IsAbsent d k × Returns d x why × (e ≡ d)

  -- d without the key k, which has the item s and the information x, is e
  pub record Removes (d e : Contents X) (s : ℕ) (k : ℤ) (x : X) : Type 0 where
    pub held : Holds d s k x
    pub alone : IsAlone d s k
    pub after : e ≡ contents (map.remove d.triples k) d.made
