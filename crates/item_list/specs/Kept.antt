-- Private: how a ring of members and a pool of nodes stand for a chain.
use Rattle.std.specs.Prelude.{◌≡◌, ℕ, ◌+◌, ◌<◌, ◌≤◌, false, List, [], ◌∷◌, Option, Some, None, ◌⊎◌}
use Rattle.std.specs.Ordering.{nat_cmp}
use Rattle.std.specs.FinMap as map
use Rattle.item_pool.specs.declared.pool.TheConstants.{MOST_SERIALS}
use Rattle.item_pool.specs.Contents.{Contents, IsWithin, HasLive}
use Rattle.item_pool.specs.declared.pool.Item.{Item}
use Rattle.item_pool.specs.declared.pool.InsertRefusal.{InsertRefusal}
use Rattle.item_ring.specs.RingLists.{RingLists, IsIn, IsHead, IsLoose, AreApart, ring}
use Rattle.item_list.specs.declared.node.Node.{Node}
use Rattle.item_list.specs.Items.{Items, items, Returns}

-- the members in the ring of the head
abbrev pub members : RingLists → Option ℕ → List ℕ
members s None = []
members s (Some h) = ring s h

-- there is the head, or there is no ring
abbrev pub IsHeaded : RingLists → Option ℕ → Type 0
IsHeaded s None = s.rings ≡ map.empty
IsHeaded s (Some h) = IsHead s h

-- the head h is there, and its ring is what the members were
pub record Opens (s t : RingLists) (before after : Option ℕ) (h : ℕ) : Type 0 where
  pub head : after ≡ Some h
  pub headed : IsHead t h
  pub ring : ring t h ≡ members s before
  pub tags : t.tags ≡ s.tags
  pub apart : AreApart t

module _ {X : Type 0} where
  abbrev pub node : X → ℕ → Node X
  node x m = record { value = x; member = m }

  -- each member has the tag of its pair, whose node has the pair's value and that member
  abbrev pub IsListed : map.FinMap nat_cmp ℕ → map.FinMap nat_cmp (Node X) → List ℕ → List (ℕ × X)
      → Type 0
  IsListed tags live [] [] = Unit {0}
  IsListed tags live [] (p ∷ ps) = ⊥
  IsListed tags live (m ∷ ms) [] = ⊥
  IsListed tags live (m ∷ ms) (p ∷ ps) =
      (map.get tags m ≡ Some p.0) × (map.get live p.0 ≡ Some (node p.1 m))
      × IsListed tags live ms ps

  -- the pairs that the members stand for
  abbrev pub entry : ℕ → Option (Node X) → List (ℕ × X) → List (ℕ × X)
  entry s None ps = ps
  entry s (Some n) ps = (s, n.value) ∷ ps

  abbrev pub tagged : map.FinMap nat_cmp (Node X) → Option ℕ → List (ℕ × X) → List (ℕ × X)
  tagged live None ps = ps
  tagged live (Some s) ps = entry s (map.get live s) ps

  abbrev pub pairs_in : map.FinMap nat_cmp ℕ → map.FinMap nat_cmp (Node X) → List ℕ → List (ℕ × X)
  pairs_in tags live [] = []
  pairs_in tags live (m ∷ ms) = tagged live (map.get tags m) (pairs_in tags live ms)

  abbrev pub items_of : RingLists → Option ℕ → Contents (Node X) → Items X
  items_of s head nodes = items (pairs_in s.tags nodes.live (members s head)) nodes.made

  pub record IsKept (s : RingLists) (head : Option ℕ) (nodes : Contents (Node X)) : Type 0 where
    pub pairs : List (ℕ × X)
    pub listed : IsListed s.tags nodes.live (members s head) pairs
    pub found : (k : ℕ) (n : Node X) → map.get nodes.live k ≡ Some n
        → IsIn n.member (members s head) × (map.get s.tags n.member ≡ Some k)
    pub headed : IsHeaded s head
    pub apart : AreApart s
    pub within : IsWithin nodes
    pub few : map.len s.tags ≤ nodes.made

  -- the next serial has a node with x, whose member m is loose
  pub record Makes (s t : RingLists) (p q : Contents (Node X)) (m : ℕ) (it : Item)
      (x : X) : Type 0 where
    pub room : p.made < MOST_SERIALS
    pub serial : it.serial ≡ p.made + 1
    pub made : q.made ≡ p.made + 1
    pub live : q.live ≡ map.insert p.live (p.made + 1) (node x m)
    pub rings : t.rings ≡ s.rings
    pub tags : t.tags ≡ map.insert s.tags m (p.made + 1)
    pub fresh : map.contains_key s.tags m ≡ false
    pub loose : IsLoose t m
    pub apart : AreApart t

  -- for want of memory x comes back, and nothing that a list shows is changed
  abbrev pub Declines : RingLists → RingLists → Contents (Node X) → Contents (Node X) → X
      → InsertRefusal X → Type 0
  Declines s t p q x why =
      (t ≡ s) × (q.live ≡ p.live) × (q.made ≡ p.made) × Returns (items {X = X} [] p.made) x why

  -- the head is there, and then the node is made
  pub record Comes (s t : RingLists) (before after : Option ℕ) (p q : Contents (Node X)) (h m : ℕ)
      (it : Item) (x : X) : Type 0 where
    pub mid : RingLists
    pub opens : Opens s mid before after h
    pub makes : Makes mid t p q m it x

  pub record Declined (s t : RingLists) (before after : Option ℕ) (p q : Contents (Node X)) (x : X)
      (why : InsertRefusal X) : Type 0 where
    pub rings : ((t ≡ s) × (after ≡ before)) ⊎ ((h : ℕ) × Opens s t before after h)
    pub live : q.live ≡ p.live
    pub made : q.made ≡ p.made
    pub returns : Returns (items {X = X} [] p.made) x why

  -- the member has the serial of a node for its tag
  pub record IsNamed (s : RingLists) (p : Contents (Node X)) (m : ℕ) : Type 0 where
    pub serial : ℕ
    pub tag : map.get s.tags m ≡ Some serial
    pub live : HasLive p serial
