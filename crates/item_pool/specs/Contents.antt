-- What a contract sees of a pool.
use Rattle.std.specs.Prelude.{◌≡◌, ℕ, ◌+◌, ◌<◌, ◌≤◌, ◌⊎◌, Some, None, refl}
use Rattle.std.specs.Coded.{Coded, code_by, coded×, coded_ℕ}
use Rattle.std.specs.Ordering.{nat_cmp}
use Rattle.std.specs.FinMap as map
use Rattle.item_pool.specs.declared.pool.TheConstants.{MOST_SERIALS}
use Rattle.item_pool.specs.declared.pool.Gone.{Gone}
use Rattle.item_pool.specs.declared.pool.Gone.TheVariants.{Dead, Unknown}
use Rattle.item_pool.specs.declared.pool.Item.{Item}
use Rattle.item_pool.specs.declared.pool.InsertRefusal.{InsertRefusal}
use Rattle.item_pool.specs.declared.pool.InsertRefusal.TheVariants.{NoMemory, Spent}

-- the live values by their serials, how many serials were made, and how many values can come in
-- with no new memory
pub record Contents (X : Type 0) : Type 0 where
  pub live : map.FinMap nat_cmp X
  pub made : ℕ
  pub spare : ℕ

-- why the serial s has no value, where the serials up to made were given
abbrev pub WhyGone : ℕ → ℕ → Gone → Type 0
WhyGone made s Dead = (0 < s) × (s ≤ made)
WhyGone made s Unknown = (s ≡ 0) ⊎ (made < s)

module _ {X : Type 0} where
  abbrev pub contents : map.FinMap nat_cmp X → ℕ → ℕ → Contents X
  contents live made spare = record { live = live; made = made; spare = spare }

  abbrev pub contents_code : Coded X → Coded (Contents X)
  contents_code c =
      code_by (map.FinMap nat_cmp X × (ℕ × ℕ))
      (coded× (map.code coded_ℕ c) (coded× coded_ℕ coded_ℕ)) (λ p. (p.live, (p.made, p.spare)))
      (λ t. contents t.0 t.1.0 t.1.1) (λ _. refl)

  -- the serial s is live, with the value x
  abbrev pub Holds : Contents X → ℕ → X → Type 0
  Holds p s x = (map.get p.live s ≡ Some x) × (0 < s) × (s ≤ p.made)

  -- the serial s is live
  abbrev pub HasLive : Contents X → ℕ → Type 0
  HasLive p s = (x : X) × Holds p s x

  -- the serial s isn't live: Dead from 1 to made, and Unknown at 0 and above made
  abbrev pub Lacks : Contents X → ℕ → Gone → Type 0
  Lacks p s why = (map.get p.live s ≡ None) × WhyGone p.made s why

  -- each live serial was made
  abbrev pub IsWithin : Contents X → Type 0
  IsWithin p =
      ((s : ℕ) (x : X) → map.get p.live s ≡ Some x → (0 < s) × (s ≤ p.made))
      × (p.made ≤ MOST_SERIALS)

  -- p with x under the next serial is q
  pub record Inserts (p q : Contents X) (it : Item) (x : X) : Type 0 where
    pub serial : it.serial ≡ p.made + 1
    pub fresh : map.get p.live (p.made + 1) ≡ None
    pub live : q.live ≡ map.insert p.live (p.made + 1) x
    pub made : q.made ≡ p.made + 1
    pub spare : p.spare ≤ q.spare + 1
    pub within : p.made < MOST_SERIALS

  -- x comes back: spent where each serial was given, and else for want of memory
  abbrev pub Returns : Contents X → X → InsertRefusal X → Type 0
  Returns p x (NoMemory y) = (y ≡ x) × (p.made < MOST_SERIALS) × (p.spare ≡ 0)
  Returns p x (Spent y) = (y ≡ x) × (p.made ≡ MOST_SERIALS)

  -- p is as it was, but that it may have more room
  abbrev pub IsAsBefore : Contents X → Contents X → Type 0
  IsAsBefore p q = (q.live ≡ p.live) × (q.made ≡ p.made) × (p.spare ≤ q.spare)

  abbrev pub Refuses : Contents X → Contents X → X → InsertRefusal X → Type 0
  Refuses p q x why = Returns p x why × IsAsBefore p q

  -- p without the serial s, which has the value x, is q
  pub record Removes (p q : Contents X) (s : ℕ) (x : X) : Type 0 where
    pub held : Holds p s x
    pub live : q.live ≡ map.remove p.live s
    pub made : q.made ≡ p.made
    pub spare : p.spare ≤ q.spare
