-- Private: which item is asked for by where it stands, by the serials that its container gave.
use Rattle.std.specs.Prelude.{◌≡◌, ℕ, ℤ, ◌<◌, true, List, [], ◌∷◌, ◌++◌, map, Option, Some, ⊤, option_map, MatchOption}
use Rattle.std.specs.FinMap as finmap
use Rattle.item_pool.specs.declared.pool.Item.{Item}
use Rattle.item_ring.specs.RingLists.{IsDistinct, front, back}
use Rattle.item_list.specs.Items.{Items, serials, serial_of, value_at, HasBetween}
use Rattle.item_dict.specs.Contents.{Contents as DictOf, HasKey, IsAbsent}
use Rattle.item_dict.specs.Order.{IsLeast, IsGreatest, IsNextAfter, IsNextBefore, IsLastUpTo, IsFirstFrom}
use Rattle.script_text.specs.declared.form.Kinds.{Kinds}
use Rattle.script_text.specs.declared.form.Kinds.TheVariants as kinds
use Rattle.object_store.specs.declared.near.Near.{Near}
use Rattle.object_store.specs.declared.near.Near.TheVariants.{First, Last, WithKey, Least, Behind, Before, RoundBehind, RoundBefore}
use Rattle.object_store.specs.declared.near.Neighbour.{Neighbour}
use Rattle.object_store.specs.declared.near.Neighbour.TheVariants.{Succ, Pred, CyclicSucc, CyclicPred}
use Rattle.object_store.specs.declared.near.Sought.{Sought}
use Rattle.object_store.specs.declared.near.Sought.TheVariants as sought
use Rattle.object_store.specs.declared.object.Entry.{Entry}
use Rattle.object_store.specs.declared.object.Object.{Object as Held}
use Rattle.object_store.specs.State.{Cell}
use Rattle.object_store.specs.Cells.{first_of, last_of, with_key, in_order}
use Rattle.object_store.specs.Commands.{number_of}
use Rattle.object_store.specs.Views.{is_of}
use Rattle.object_store.specs.Inner.{Inner, inner, kind_of, cell_in, cells_in}

abbrev pub near_sought : Sought → Near
near_sought sought.First = First
near_sought sought.Last = Last
near_sought (sought.WithKey k) = WithKey k
near_sought sought.Least = Least

abbrev pub near_of : Neighbour → Item → Near
near_of Succ it = Behind it
near_of Pred it = Before it
near_of CyclicSucc it = RoundBehind it
near_of CyclicPred it = RoundBefore it

-- the objects that have such a place: round its ends a list alone goes on
abbrev pub near_kinds : Near → Kinds
near_kinds First = kinds.ListOrDict
near_kinds Last = kinds.ListOrDict
near_kinds (WithKey k) = kinds.Dict
near_kinds Least = kinds.Queue
near_kinds (Behind it) = kinds.ListOrDict
near_kinds (Before it) = kinds.ListOrDict
near_kinds (RoundBehind it) = kinds.List
near_kinds (RoundBefore it) = kinds.List

-- the item is there
abbrev pub HasThere : Item → List Inner → Type 0
HasThere it xs = (c : Cell) × (value_at it.serial xs ≡ Some c)

abbrev pub IsPlaced : Near → List Inner → Type 0
IsPlaced First xs = ⊤
IsPlaced Last xs = ⊤
IsPlaced (WithKey k) xs = ⊤
IsPlaced Least xs = ⊤
IsPlaced (Behind it) xs = HasThere it xs
IsPlaced (Before it) xs = HasThere it xs
IsPlaced (RoundBehind it) xs = HasThere it xs
IsPlaced (RoundBefore it) xs = HasThere it xs

-- items of greater serials have greater numbers
abbrev pub IsRising : List Inner → Type 0
IsRising xs =
    (s t : ℕ) (c d : Cell) → value_at s xs ≡ Some c → value_at t xs ≡ Some d → s < t → c.0 < d.0

-- the object has what is asked for
pub record CanFind (near : Near) (o : Held) : Type 0 where
  pub placed : IsPlaced near (inner o)
  pub distinct : IsDistinct (serials (inner o))
  pub rising : IsRising (inner o)
  pub kind : is_of (near_kinds near) (kind_of o) ≡ true

-- the list has that item there
abbrev pub IsItem : Near → Items Entry → Option Item → Type 0
IsItem First l r = serial_of r ≡ front (serials l.pairs)
IsItem Last l r = serial_of r ≡ back (serials l.pairs)
IsItem (Behind it) l r =
    (bs rs : List ℕ) → HasBetween l it.serial bs rs → serial_of r ≡ front rs
IsItem (Before it) l r =
    (bs rs : List ℕ) → HasBetween l it.serial bs rs → serial_of r ≡ back bs
IsItem (RoundBehind it) l r =
    (bs rs : List ℕ) → HasBetween l it.serial bs rs
    → serial_of r ≡ front (rs ++ bs ++ it.serial ∷ [])
IsItem (RoundBefore it) l r =
    (bs rs : List ℕ) → HasBetween l it.serial bs rs → serial_of r ≡ back (it.serial ∷ rs ++ bs)
IsItem near l r = ⊥

-- the dictionary has that item there, in the order of the keys
abbrev pub IsKeyed : Near → DictOf Entry → Option Item → Type 0
IsKeyed First d r =
    MatchOption r (d.triples ≡ finmap.empty) (λ n. (k : ℤ) × IsLeast (HasKey d) n.serial k)
IsKeyed Last d r =
    MatchOption r (d.triples ≡ finmap.empty) (λ n. (k : ℤ) × IsGreatest (HasKey d) n.serial k)
IsKeyed (WithKey k) d r = MatchOption r (IsAbsent d k) (λ n. HasKey d n.serial k)
IsKeyed (Behind it) d r =
    (k : ℤ) × HasKey d it.serial k
    × MatchOption r (IsLastUpTo (HasKey d) k) (λ n. (j : ℤ) × IsNextAfter (HasKey d) k n.serial j)
IsKeyed (Before it) d r =
    (k : ℤ) × HasKey d it.serial k
    × MatchOption r (IsFirstFrom (HasKey d) k) (λ n.
    (j : ℤ) × IsNextBefore (HasKey d) k n.serial j)
IsKeyed near d r = ⊥

-- the number of the item of a serial
abbrev pub number_at : List Inner → ℕ → Option ℕ
number_at xs s = option_map (λ (c : Cell). c.0) (value_at s xs)

-- the object has the item of that number there
abbrev pub IsNumber : Near → Held → Option ℕ → Type 0
IsNumber First o r = r ≡ first_of (cells_in o)
IsNumber Last o r = r ≡ last_of (cells_in o)
IsNumber (WithKey k) o r = r ≡ number_of (with_key k (cells_in o))
IsNumber Least o r = r ≡ first_of (in_order (cells_in o))
IsNumber (Behind it) o r =
    (bs rs : List Inner) (c : Cell) → inner o ≡ bs ++ (it.serial, c) ∷ rs
    → r ≡ first_of (map cell_in rs)
IsNumber (Before it) o r =
    (bs rs : List Inner) (c : Cell) → inner o ≡ bs ++ (it.serial, c) ∷ rs
    → r ≡ last_of (map cell_in bs)
IsNumber (RoundBehind it) o r =
    (bs rs : List Inner) (c : Cell) → inner o ≡ bs ++ (it.serial, c) ∷ rs
    → r ≡ first_of (map cell_in (rs ++ bs ++ (it.serial, c) ∷ []))
IsNumber (RoundBefore it) o r =
    (bs rs : List Inner) (c : Cell) → inner o ≡ bs ++ (it.serial, c) ∷ rs
    → r ≡ last_of (map cell_in ((it.serial, c) ∷ rs ++ bs))
