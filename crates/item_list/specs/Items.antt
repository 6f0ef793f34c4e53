-- What a contract sees of a list of values by items.
use Rattle.std.specs.Prelude.{◌≡◌, ℕ, ◌+◌, ◌<◌, ◌≤◌, ◌==◌, cond, List, [], ◌∷◌, ◌++◌, Option, Some, None, refl}
use Rattle.std.specs.Coded.{Coded, code_by, coded×, coded_ℕ, coded_list}
use Rattle.item_pool.specs.declared.pool.TheConstants.{MOST_SERIALS}
use Rattle.item_pool.specs.Contents.{WhyGone}
use Rattle.item_pool.specs.declared.pool.Gone.{Gone}
use Rattle.item_pool.specs.declared.pool.Item.{Item}
use Rattle.item_pool.specs.declared.pool.InsertRefusal.{InsertRefusal}
use Rattle.item_pool.specs.declared.pool.InsertRefusal.TheVariants.{NoMemory, Spent}
use Rattle.item_list.specs.declared.node.BesideRefusal.{BesideRefusal}
use Rattle.item_list.specs.declared.node.BesideRefusal.TheVariants as beside
use Rattle.item_ring.specs.RingLists.{IsIn, IsDistinct, front, back}

-- the values in their order, each with its serial, and how many serials were made
pub record Items (X : Type 0) : Type 0 where
  pub pairs : List (ℕ × X)
  pub made : ℕ

-- the serial of an item that may be none
abbrev pub serial_of : Option Item → Option ℕ
serial_of None = None
serial_of (Some it) = Some it.serial

module _ {X : Type 0} where
  abbrev pub items : List (ℕ × X) → ℕ → Items X
  items pairs made = record { pairs = pairs; made = made }

  abbrev pub items_code : Coded X → Coded (Items X)
  items_code c =
      code_by (List (ℕ × X) × ℕ) (coded× (coded_list (coded× coded_ℕ c)) coded_ℕ)
      (λ l. (l.pairs, l.made)) (λ t. items t.0 t.1) (λ _. refl)

  abbrev pub serials : List (ℕ × X) → List ℕ
  serials [] = []
  serials (p ∷ ps) = p.0 ∷ serials ps

  -- the value of the serial s
  abbrev pub value_at : ℕ → List (ℕ × X) → Option X
  value_at s [] = None
  value_at s (p ∷ ps) = cond (p.0 == s) (Some p.1) (value_at s ps)

  -- the list without the serial s
  abbrev pub pairs_without : ℕ → List (ℕ × X) → List (ℕ × X)
  pairs_without s [] = []
  pairs_without s (p ∷ ps) = cond (p.0 == s) (pairs_without s ps) (p ∷ pairs_without s ps)

  -- the list with q right behind the serial s, or right before it
  abbrev pub pairs_behind : ℕ → ℕ × X → List (ℕ × X) → List (ℕ × X)
  pairs_behind s q [] = []
  pairs_behind s q (p ∷ ps) = cond (p.0 == s) (p ∷ q ∷ ps) (p ∷ pairs_behind s q ps)

  abbrev pub pairs_before : ℕ → ℕ × X → List (ℕ × X) → List (ℕ × X)
  pairs_before s q [] = []
  pairs_before s q (p ∷ ps) = cond (p.0 == s) (q ∷ p ∷ ps) (p ∷ pairs_before s q ps)

  -- the list with the value x at the serial s
  abbrev pub pairs_with : ℕ → X → List (ℕ × X) → List (ℕ × X)
  pairs_with s x [] = []
  pairs_with s x (p ∷ ps) = cond (p.0 == s) ((s, x) ∷ pairs_with s x ps) (p ∷ pairs_with s x ps)

  -- the serial s has the value x
  abbrev pub Holds : Items X → ℕ → X → Type 0
  Holds l s x = value_at s l.pairs ≡ Some x

  abbrev pub HasItem : Items X → ℕ → Type 0
  HasItem l s = (x : X) × Holds l s x

  -- the serial s isn't in the list: Dead from 1 to made, and Unknown at 0 and above made
  abbrev pub Lacks : Items X → ℕ → Gone → Type 0
  Lacks l s why = (value_at s l.pairs ≡ None) × WhyGone l.made s why

  -- serials are distinct, and each was made
  pub record AreItems (l : Items X) : Type 0 where
    pub distinct : IsDistinct (serials l.pairs)
    pub given : (s : ℕ) → IsIn s (serials l.pairs) → (0 < s) × (s ≤ l.made)
    pub most : l.made ≤ MOST_SERIALS

  -- the next serial names a new value, and the list is then the pairs
  pub record Enters (l t : Items X) (it : Item) (after : List (ℕ × X)) : Type 0 where
    pub serial : it.serial ≡ l.made + 1
    pub pairs : t.pairs ≡ after
    pub made : t.made ≡ l.made + 1
    pub within : l.made < MOST_SERIALS

  -- x comes back: spent where each serial was given, and else for want of memory
  abbrev pub Returns : Items X → X → InsertRefusal X → Type 0
  Returns l x (NoMemory y) = (y ≡ x) × (l.made < MOST_SERIALS)
  Returns l x (Spent y) = (y ≡ x) × (l.made ≡ MOST_SERIALS)

  abbrev pub ReturnsBeside : Items X → ℕ → X → BesideRefusal X → Type 0
  ReturnsBeside l s x (beside.Gone y why) = (y ≡ x) × Lacks l s why
  ReturnsBeside l s x (beside.NoMemory y) = (y ≡ x) × HasItem l s × (l.made < MOST_SERIALS)
  ReturnsBeside l s x (beside.Spent y) = (y ≡ x) × HasItem l s × (l.made ≡ MOST_SERIALS)

  -- the serial s, which has the value x, is gone
  abbrev pub Removes : Items X → Items X → ℕ → X → Type 0
  Removes l t s x = Holds l s x × (t ≡ items (pairs_without s l.pairs) l.made)

  -- the serial s has the value x in place of the old one
  abbrev pub Assigns : Items X → Items X → ℕ → X → X → Type 0
  Assigns l t s old x = Holds l s old × (t ≡ items (pairs_with s x l.pairs) l.made)

  abbrev pub beside_of : InsertRefusal X → BesideRefusal X
  beside_of (NoMemory y) = beside.NoMemory y
  beside_of (Spent y) = beside.Spent y

  -- the serial s is the first, and the last
  abbrev pub MovesToFront : Items X → Items X → ℕ → Type 0
  MovesToFront l t s =
      (x : X) × (Holds l s x × (t ≡ items ((s, x) ∷ pairs_without s l.pairs) l.made))

  abbrev pub MovesToRear : Items X → Items X → ℕ → Type 0
  MovesToRear l t s =
      (x : X) × (Holds l s x × (t ≡ items (pairs_without s l.pairs ++ (s, x) ∷ []) l.made))

  -- the list has s between the two lists of serials
  abbrev pub HasBetween : Items X → ℕ → List ℕ → List ℕ → Type 0
  HasBetween l s before behind = serials l.pairs ≡ before ++ s ∷ behind

  -- the item right behind the serial s, and none where s is the last
  abbrev pub IsBehind : Items X → ℕ → Option Item → Type 0
  IsBehind l s r =
      HasItem l s
      × ((before behind : List ℕ) → HasBetween l s before behind → serial_of r ≡ front behind)

  -- the item right before the serial s, and none where s is the first
  abbrev pub IsBefore : Items X → ℕ → Option Item → Type 0
  IsBefore l s r =
      HasItem l s
      × ((before behind : List ℕ) → HasBetween l s before behind → serial_of r ≡ back before)

  -- the same round the ends: behind the last stands the first
  abbrev pub IsCyclicBehind : Items X → ℕ → Item → Type 0
  IsCyclicBehind l s it =
      HasItem l s
      × ((before behind : List ℕ) → HasBetween l s before behind
      → Some it.serial ≡ front (behind ++ before ++ s ∷ []))

  abbrev pub IsCyclicBefore : Items X → ℕ → Item → Type 0
  IsCyclicBefore l s it =
      HasItem l s
      × ((before behind : List ℕ) → HasBetween l s before behind
      → Some it.serial ≡ back (s ∷ behind ++ before))
