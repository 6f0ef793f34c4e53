-- What a contract sees of a queue.
use Rattle.std.specs.Prelude.{◌≡◌, ℕ, ℤ, ◌+◌, ◌<◌, ◌≤◌, Some, None, refl}
use Rattle.std.specs.Coded.{Coded, code_by, coded×, coded_ℕ, coded_ℤ}
use Rattle.std.specs.Ordering.{nat_cmp}
use Rattle.std.specs.FinMap as map
use Rattle.item_pool.specs.declared.pool.TheConstants.{MOST_SERIALS}
use Rattle.item_pool.specs.declared.pool.Gone.{Gone}
use Rattle.item_pool.specs.declared.pool.Item.{Item}
use Rattle.item_pool.specs.declared.pool.InsertRefusal.{InsertRefusal}
use Rattle.item_pool.specs.declared.pool.InsertRefusal.TheVariants.{NoMemory, Spent}
use Rattle.item_pool.specs.Contents.{WhyGone}
use Rattle.item_queue.specs.Order.{AtMost}

-- the priority and the information of each item by its serial, how many serials were made, and how
-- many items can come in with no new memory
pub record Queued (X : Type 0) : Type 0 where
  pub live : map.FinMap nat_cmp (ℤ × X)
  pub made : ℕ
  pub spare : ℕ

module _ {X : Type 0} where
  abbrev pub queued : map.FinMap nat_cmp (ℤ × X) → ℕ → ℕ → Queued X
  queued live made spare = record { live = live; made = made; spare = spare }

  abbrev pub queued_code : Coded X → Coded (Queued X)
  queued_code c =
      code_by (map.FinMap nat_cmp (ℤ × X) × (ℕ × ℕ))
      (coded× (map.code coded_ℕ (coded× coded_ℤ c)) (coded× coded_ℕ coded_ℕ))
      (λ q. (q.live, (q.made, q.spare))) (λ t. queued t.0 t.1.0 t.1.1) (λ _. refl)

  -- the item with the serial s has the priority p and the information x
  abbrev pub Holds : Queued X → ℕ → ℤ → X → Type 0
  Holds q s p x = (map.get q.live s ≡ Some (p, x)) × (0 < s) × (s ≤ q.made)

  -- there is no item with the serial s: Dead from 1 to made, and Unknown at 0 and above made
  abbrev pub Lacks : Queued X → ℕ → Gone → Type 0
  Lacks q s why = (map.get q.live s ≡ None) × WhyGone q.made s why

  -- the item with the serial s has the least pair of priority and serial
  pub record IsLeast (q : Queued X) (s : ℕ) (p : ℤ) (x : X) : Type 0 where
    pub held : Holds q s p x
    pub least : (t : ℕ) (r : ℤ) (y : X) → map.get q.live t ≡ Some (r, y) → AtMost p s r t

  abbrev pub IsLeastItem : Queued X → ℕ → Type 0
  IsLeastItem q s = (p : ℤ) × (x : X) × IsLeast q s p x

  abbrev pub HoldsPriority : Queued X → ℕ → ℤ → Type 0
  HoldsPriority q s p = (x : X) × Holds q s p x

  abbrev pub HoldsInformation : Queued X → ℕ → X → Type 0
  HoldsInformation q s x = (p : ℤ) × Holds q s p x

  -- all as before, but that there may be more room
  abbrev pub IsAsBefore : Queued X → Queued X → Type 0
  IsAsBefore q r = (r.live ≡ q.live) × (r.made ≡ q.made) × (q.spare ≤ r.spare)

  -- q with an item more, which has the next serial, is r
  pub record Inserts (q r : Queued X) (it : Item) (p : ℤ) (x : X) : Type 0 where
    pub serial : it.serial ≡ q.made + 1
    pub fresh : map.get q.live (q.made + 1) ≡ None
    pub live : r.live ≡ map.insert q.live (q.made + 1) (p, x)
    pub made : r.made ≡ q.made + 1
    pub spare : q.spare ≤ r.spare + 1
    pub within : q.made < MOST_SERIALS

  -- x comes back: spent where each serial was given, and else for want of memory
  abbrev pub Returns : Queued X → X → InsertRefusal X → Type 0
  Returns q x (NoMemory y) = (y ≡ x) × (q.made < MOST_SERIALS) × (q.spare ≡ 0)
  Returns q x (Spent y) = (y ≡ x) × (q.made ≡ MOST_SERIALS)

  abbrev pub Refuses : Queued X → Queued X → X → InsertRefusal X → Type 0
  Refuses q r x why = Returns q x why × IsAsBefore q r

  -- q without the item with the serial s, which has the priority p and the information x, is r
  pub record Removes (q r : Queued X) (s : ℕ) (p : ℤ) (x : X) : Type 0 where
    pub held : Holds q s p x
    pub live : r.live ≡ map.remove q.live s
    pub made : r.made ≡ q.made
    pub spare : q.spare ≤ r.spare

  -- q with other priority or information at the serial s, which has (o, y), is r
  pub record Changes (q r : Queued X) (s : ℕ) (o : ℤ) (y : X) (p : ℤ) (x : X) : Type 0 where
    pub held : Holds q s o y
    pub live : r.live ≡ map.insert q.live s (p, x)
    pub made : r.made ≡ q.made
    pub spare : q.spare ≤ r.spare

  abbrev pub ChangesInformation : Queued X → Queued X → ℕ → X → X → Type 0
  ChangesInformation q r s y x = (p : ℤ) × Changes q r s p y p x

  abbrev pub RemovesItem : Queued X → Queued X → ℕ → X → Type 0
  RemovesItem q r s x = (p : ℤ) × Removes q r s p x
