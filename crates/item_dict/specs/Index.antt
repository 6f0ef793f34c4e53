-- Private: how the pool and the tree of a dictionary hold its contents.
use Rattle.std.specs.Prelude.{◌≡◌, ℕ, ℤ, List, [], ◌∷◌, Option, Some, None}
use Rattle.std.specs.Ordering.{nat_cmp, int_cmp}
use Rattle.std.specs.FinMap as map
use Rattle.std.specs.BTreeMap.{BTreeMap}
use Rattle.item_dict.specs.Contents.{Contents, contents}
use Rattle.item_dict.specs.declared.dict.Entry.{Entry}
use Rattle.item_dict.specs.declared.dict.Dict.TheInside.{Inside}

-- the serial of each key
abbrev pub serials_of : BTreeMap ℤ ℕ → map.FinMap int_cmp ℕ
serials_of tree = map.from_entries tree.entries

-- the tree has the key k with the serial s
abbrev pub IsNamed : BTreeMap ℤ ℕ → ℕ → ℤ → Type 0
IsNamed tree s k = map.get (serials_of tree) k ≡ Some s

module _ {X : Type 0} where
  abbrev pub pair : ℤ → X → Entry X
  pair k x = record { key = k; inf = x }

  -- the item and the information of a key, from the key's serial and that serial's entry
  abbrev pub with_inf : ℕ → Option (Entry X) → Option (ℕ × X)
  with_inf s None = None
  with_inf s (Some e) = Some (s, e.inf)

  abbrev pub found_in : map.FinMap nat_cmp (Entry X) → Option ℕ → Option (ℕ × X)
  found_in live None = None
  found_in live (Some s) = with_inf s (map.get live s)

  -- m with the triple of the key k, where there is one
  abbrev pub with_triple : map.FinMap int_cmp (ℕ × X) → ℤ → Option (ℕ × X)
      → map.FinMap int_cmp (ℕ × X)
  with_triple m k None = m
  with_triple m k (Some t) = map.insert m k t

  -- the triples of the keys, where f finds the item and the information of a key
  abbrev pub triples_by : (ℤ → Option (ℕ × X)) → List ℤ → map.FinMap int_cmp (ℕ × X)
  triples_by f [] = map.empty
  triples_by f (k ∷ ks) = with_triple (triples_by f ks) k (f k)

  -- the triples of the keys of the tree
  unfoldable pub triples_of : map.FinMap nat_cmp (Entry X) → map.FinMap int_cmp ℕ
      → map.FinMap int_cmp (ℕ × X)
  triples_of live serials = triples_by (λ k. found_in live (map.get serials k)) (map.keys serials)

  -- an entry with the key k lies under a serial exactly where k has that serial, so that no two
  -- entries have one key, and there are as many triples as entries
  pub record IsIndexed (live : map.FinMap nat_cmp (Entry X))
      (serials : map.FinMap int_cmp ℕ) : Type 0 where
    pub listed : (s : ℕ) (k : ℤ) (x : X) → map.get live s ≡ Some (pair k x)
        → map.get serials k ≡ Some s
    pub found : (k : ℤ) (s : ℕ) → map.get serials k ≡ Some s
        → (x : X) × (map.get live s ≡ Some (pair k x))
    pub counted : map.len live ≡ map.len (triples_of live serials)

  abbrev pub seen : Inside X → Contents X
  seen d = contents (triples_of d.pool.live (serials_of d.tree)) d.pool.made

  abbrev pub IsDict : Inside X → Type 0
  IsDict d = IsIndexed d.pool.live (serials_of d.tree)
