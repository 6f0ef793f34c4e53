-- A node is written to a slot, a slot is brought into use, and a block is added.
use Rattle.std.proofs.Common.{◌≡◌, ℕ, zero, suc, ◌-◌, ◌+◌, ◌*◌, ◌/◌, ◌%◌, ◌<◌, ◌≤◌, List, [], ◌∷◌, ◌++◌, length, get_or, set, Option, Some, None, replicate, refl, sym, ap, subst, ◌∙◌, inl, inr, arith}
use Rattle.std.proofs.Common.{length-append}
use lib.ListN.{length-set, length-replicate}
use Rattle.std.proofs.lemmas.List.{get_or-set_same, get_or-set_other, get_or_default, get_or_past, get_or_append_left, get_or-append_right}
use Rattle.std.proofs.lemmas.Bool.{cases_eq, cases_lt}
use Rattle.item_ring.specs.declared.block.TheConstants.{BLOCK}
use Rattle.item_ring.specs.declared.block.Cell.{Cell}
use Rattle.item_ring.specs.declared.block.Node.{Node}
use Rattle.item_ring.specs.declared.cells.Link.{Link}
use Rattle.item_ring.specs.Memory.{IsFilled}
use Rattle.item_ring.specs.NodeBlock.{NodeBlock, address_of}
use Rattle.item_ring.specs.Nodes.{Slots, no_block, node_at, address, cell_of, cell_at, LeadsTo, IsTied, Writes, Edits, AreNodes}

same_of_replicate : {X : Type 0} (d : X) (n i : ℕ) → get_or (replicate n d) i d ≡ d
same_of_replicate d zero i = refl
same_of_replicate d (suc n) zero = refl
same_of_replicate d (suc n) (suc i) = same_of_replicate d n i

none_in : (s : ℕ) → node_at [] s ≡ None
unfolding node_at
none_in s = refl

same_slot : (k s : ℕ) → k / BLOCK ≡ s / BLOCK → k % BLOCK ≡ s % BLOCK → k ≡ s
same_slot k s p q = omega arith

pub in_block : (s room n : ℕ) → s < room → room ≡ BLOCK * n → s / BLOCK < n
in_block s room n lt e = omega arith

pub place_below : (s : ℕ) → s % BLOCK < BLOCK
place_below s = omega arith

-- what reading a block of the slot tells
module _ (v : Slots) (are : AreNodes v) (s : ℕ) (lt : s < v.room) (row : NodeBlock) (found : row ≡ get_or v.blocks (s / BLOCK) row) where
  pub row_is : row ≡ get_or v.blocks (s / BLOCK) no_block
  row_is = found ∙ get_or_default v.blocks (s / BLOCK) row no_block (in_block s v.room (length v.blocks) lt are.sized)

  pub row_long : s % BLOCK < length row.slots
  row_long =
      let P : NodeBlock → Type 0 = λ r. s % BLOCK < length r.slots in
      let long = are.long (s / BLOCK) (in_block s v.room (length v.blocks) lt are.sized) in
      subst P (sym row_is) (subst (λ n. s % BLOCK < n) (sym long) (place_below s))

  pub address_is : address_of row (s % BLOCK) ≡ address v.blocks s
  unfolding address
  address_is = ap (λ r. address_of r (s % BLOCK)) row_is

  pub slot_is : get_or row.slots (s % BLOCK) None ≡ node_at v.blocks s
  unfolding node_at
  slot_is = ap (λ (r : NodeBlock). get_or r.slots (s % BLOCK) None) row_is

  pub is_filled : s < v.len → IsFilled row.slots (s % BLOCK)
  is_filled used = let h = are.filled s used in (h.node, slot_is ∙ h.is)

  pub reads : (n : Node) → s < v.len → get_or row.slots (s % BLOCK) None ≡ Some n → (node_at v.blocks s ≡ Some n) × IsTied v n
  reads n used e =
      let h = are.filled s used in
      let is : node_at v.blocks s ≡ Some n = sym slot_is ∙ e in
      let same : h.node ≡ n = ap (λ (o : Option Node). elim o [ None ↦ n | Some x ↦ x ]) (sym h.is ∙ is) in
      (is, subst (λ x. IsTied v x) same h.tied)

-- the blocks after a write to the slot s
module _ (blocks : List NodeBlock) (s : ℕ) (row new : NodeBlock) (n : Node) (lt : s / BLOCK < length blocks) (row_is : row ≡ get_or blocks (s / BLOCK) no_block)
    (long : s % BLOCK < length row.slots) (same_at : new.at ≡ row.at) (stored : new.slots ≡ set row.slots (s % BLOCK) (Some n)) where
  abbrev after : List NodeBlock
  after = set blocks (s / BLOCK) new

  written : get_or after (s / BLOCK) no_block ≡ new
  written = get_or-set_same blocks (s / BLOCK) new no_block lt

  others : (j : ℕ) → (j ≡ s / BLOCK → ⊥) → get_or after j no_block ≡ get_or blocks j no_block
  others j ne = get_or-set_other blocks (s / BLOCK) j new no_block ne

  pub wrote_here : node_at after s ≡ Some n
  unfolding node_at
  wrote_here =
      ap (λ (r : NodeBlock). get_or r.slots (s % BLOCK) None) written
      ∙ ap (λ (cs : List (Option Node)). get_or cs (s % BLOCK) None) stored
      ∙ get_or-set_same row.slots (s % BLOCK) (Some n) None long

  pub wrote_else : (k : ℕ) → (k ≡ s → ⊥) → node_at after k ≡ node_at blocks k
  unfolding node_at
  wrote_else k ne = elim (cases_eq (k / BLOCK) (s / BLOCK)) [
    | inl e ↦
        let place_differs : k % BLOCK ≡ s % BLOCK → ⊥ = λ p. ne (same_slot k s e p) in
        ap (λ j. get_or (get_or after j no_block).slots (k % BLOCK) None) e
        ∙ ap (λ (r : NodeBlock). get_or r.slots (k % BLOCK) None) written
        ∙ ap (λ (cs : List (Option Node)). get_or cs (k % BLOCK) None) stored
        ∙ get_or-set_other row.slots (s % BLOCK) (k % BLOCK) (Some n) None place_differs
        ∙ ap (λ (r : NodeBlock). get_or r.slots (k % BLOCK) None) row_is
        ∙ ap (λ j. get_or (get_or blocks j no_block).slots (k % BLOCK) None) (sym e)
    | inr ne' ↦ ap (λ (r : NodeBlock). get_or r.slots (k % BLOCK) None) (others (k / BLOCK) ne')
  ]

  pub wrote_stays : (k : ℕ) → address after k ≡ address blocks k
  unfolding address address_of
  wrote_stays k = elim (cases_eq (k / BLOCK) (s / BLOCK)) [
    | inl e ↦
        ap (λ j. address_of (get_or after j no_block) (k % BLOCK)) e
        ∙ ap (λ (r : NodeBlock). address_of r (k % BLOCK)) written
        ∙ ap (λ p. address_of (record { at = p; slots = [] }) (k % BLOCK)) same_at
        ∙ ap (λ (r : NodeBlock). address_of r (k % BLOCK)) row_is
        ∙ ap (λ j. address_of (get_or blocks j no_block) (k % BLOCK)) (sym e)
    | inr ne ↦ ap (λ (r : NodeBlock). address_of r (k % BLOCK)) (others (k / BLOCK) ne)
  ]

  pub wrote_long : ((i : ℕ) → i < length blocks → length (get_or blocks i no_block).slots ≡ BLOCK) → (i : ℕ) → i < length after → length (get_or after i no_block).slots ≡ BLOCK
  wrote_long all i lt' =
      let within : i < length blocks = subst (λ n. i < n) (length-set blocks (s / BLOCK) new) lt' in
      elim (cases_eq i (s / BLOCK)) [
        | inl e ↦
            ap (λ j. length (get_or after j no_block).slots) e
            ∙ ap (λ (r : NodeBlock). length r.slots) written
            ∙ ap length stored
            ∙ length-set row.slots (s % BLOCK) (Some n)
            ∙ ap (λ (r : NodeBlock). length r.slots) row_is
            ∙ all (s / BLOCK) lt
        | inr ne ↦ ap (λ (r : NodeBlock). length r.slots) (others i ne) ∙ all i within
      ]

-- a link keeps its meaning while addresses stay and no slot goes out of use
pub still_leads : (v w : Slots) (link : Link) (s : ℕ) → ((k : ℕ) → k < v.len → address w.blocks k ≡ address v.blocks k) → v.len ≤ w.len → LeadsTo v link s → LeadsTo w link s
still_leads v w link s stays le h = record { there = h.there ∙ sym (stays s h.within); within = omega (arith, h.within, le) }

pub still_tied : (v w : Slots) (n : Node) → ((k : ℕ) → k < v.len → address w.blocks k ≡ address v.blocks k) → v.len ≤ w.len → IsTied v n → IsTied w n
still_tied v w n stays le h = record { next = still_leads v w n.next n.cell.next stays le h.next; prev = still_leads v w n.prev n.cell.prev stays le h.prev }

module _ (v : Slots) (are : AreNodes v) (s : ℕ) (used : s < v.len) (row new : NodeBlock) (n : Node) (found : row ≡ get_or v.blocks (s / BLOCK) row)
    (same_at : new.at ≡ row.at) (stored : new.slots ≡ set row.slots (s % BLOCK) (Some n)) where
  abbrev w : Slots
  w = record v { blocks = set v.blocks (s / BLOCK) new }

  lt : s < v.room
  lt = omega (arith, are.within)

  inside : s / BLOCK < length v.blocks
  inside = in_block s v.room (length v.blocks) lt are.sized

  is : row ≡ get_or v.blocks (s / BLOCK) no_block
  is = row_is v are s lt row found

  long : s % BLOCK < length row.slots
  long = row_long v are s lt row found

  pub write_writes : Writes v w s n
  write_writes = record {
    len = refl;
    room = refl;
    here = wrote_here v.blocks s row new n inside is long same_at stored;
    elsewhere = wrote_else v.blocks s row new n inside is long same_at stored;
    stays = wrote_stays v.blocks s row new n inside is long same_at stored;
  }

  pub write_keeps : IsTied v n → AreNodes w
  write_keeps tied = record {
    long = wrote_long v.blocks s row new n inside is long same_at stored are.long;
    sized = are.sized ∙ ap (λ k. BLOCK * k) (sym (length-set v.blocks (s / BLOCK) new));
    within = are.within;
    filled = λ k lt'. elim (cases_eq k s) [
      | inl e ↦ record { node = n; is = ap (node_at w.blocks) e ∙ write_writes.here; tied = still_tied v w n (λ j _. write_writes.stays j) (omega arith) tied }
      | inr ne ↦
          let h = are.filled k lt' in
          record { node = h.node; is = write_writes.elsewhere k ne ∙ h.is; tied = still_tied v w h.node (λ j _. write_writes.stays j) (omega arith) h.tied }
    ];
    beyond = λ k past. write_writes.elsewhere k (λ e. absurd (omega arith)) ∙ are.beyond k past;
  }

pub below_room : (v : Slots) → AreNodes v → (s : ℕ) → s < v.len → s < v.room
below_room v are s used = omega (arith, are.within)

-- the slot after the last is brought into use
module _ (v : Slots) (are : AreNodes v) (lt : v.len < v.room) (row new : NodeBlock) (link : Link) (cell : Cell) (found : row ≡ get_or v.blocks (v.len / BLOCK) row)
    (leads : link.at ≡ address v.blocks v.len) (next_is : cell.next ≡ v.len) (prev_is : cell.prev ≡ v.len)
    (same_at : new.at ≡ row.at) (stored : new.slots ≡ set row.slots (v.len % BLOCK) (Some (record { next = link; prev = link; cell = cell }))) where
  abbrev n : Node
  n = record { next = link; prev = link; cell = cell }

  abbrev u : Slots
  u = record { blocks = set v.blocks (v.len / BLOCK) new; len = v.len + 1; room = v.room }

  first_in : v.len / BLOCK < length v.blocks
  first_in = in_block v.len v.room (length v.blocks) lt are.sized

  row_here : row ≡ get_or v.blocks (v.len / BLOCK) no_block
  row_here = row_is v are v.len lt row found

  wide : v.len % BLOCK < length row.slots
  wide = row_long v are v.len lt row found

  stay : (k : ℕ) → address u.blocks k ≡ address v.blocks k
  stay = wrote_stays v.blocks v.len row new n first_in row_here wide same_at stored

  elsewhere : (k : ℕ) → (k ≡ v.len → ⊥) → node_at u.blocks k ≡ node_at v.blocks k
  elsewhere = wrote_else v.blocks v.len row new n first_in row_here wide same_at stored

  here : node_at u.blocks v.len ≡ Some n
  here = wrote_here v.blocks v.len row new n first_in row_here wide same_at stored

  to_itself : (k : ℕ) → k ≡ v.len → LeadsTo u link k
  to_itself k e = record {
    there = leads ∙ sym (stay v.len) ∙ ap (address u.blocks) (sym e);
    within = omega (arith, e);
  }

  pub push_keeps : AreNodes u
  push_keeps = record {
    long = wrote_long v.blocks v.len row new n first_in row_here wide same_at stored are.long;
    sized = are.sized ∙ ap (λ k. BLOCK * k) (sym (length-set v.blocks (v.len / BLOCK) new));
    within = omega arith;
    filled = λ k lt'. elim (cases_eq k v.len) [
      | inl e ↦ record { node = n; is = ap (node_at u.blocks) e ∙ here; tied = record { next = to_itself cell.next next_is; prev = to_itself cell.prev prev_is } }
      | inr ne ↦
          let h = are.filled k (omega arith) in
          record { node = h.node; is = elsewhere k ne ∙ h.is; tied = still_tied v u h.node (λ j _. stay j) (omega arith) h.tied }
    ];
    beyond = λ k past. elsewhere k (λ e. absurd (omega arith)) ∙ are.beyond k (omega arith);
  }

  pub push_edits : Edits v u v.len cell
  unfolding cell_at
  push_edits = record { room = refl; here = ap cell_of here; elsewhere = λ k ne. ap cell_of (elsewhere k ne) }

-- a block of empty places is added
module _ (v : Slots) (are : AreNodes v) (r : NodeBlock) (count : ℕ) (is : count ≡ BLOCK) (empty : r.slots ≡ replicate count None) where
  abbrev more : List NodeBlock
  more = v.blocks ++ r ∷ []

  abbrev g : Slots
  g = record { blocks = more; len = v.len; room = v.room + BLOCK }

  none_past : (j i : ℕ) → get_or (get_or (r ∷ []) j no_block).slots i None ≡ None
  none_past zero i = ap (λ (cs : List (Option Node)). get_or cs i None) empty ∙ same_of_replicate None count i
  none_past (suc j) i = refl

  kept : (i : ℕ) → i < length v.blocks → get_or more i no_block ≡ get_or v.blocks i no_block
  kept i lt = get_or_append_left v.blocks (r ∷ []) no_block i lt

  pub grow_same : (k : ℕ) → node_at more k ≡ node_at v.blocks k
  unfolding node_at
  grow_same k = elim (cases_lt (k / BLOCK) (length v.blocks)) [
    | inl lt ↦ ap (λ (x : NodeBlock). get_or x.slots (k % BLOCK) None) (kept (k / BLOCK) lt)
    | inr le ↦
        ap (λ (x : NodeBlock). get_or x.slots (k % BLOCK) None) (get_or-append_right v.blocks (r ∷ []) (length v.blocks) (k / BLOCK) no_block refl le)
        ∙ none_past (k / BLOCK - length v.blocks) (k % BLOCK)
        ∙ sym (ap (λ (x : NodeBlock). get_or x.slots (k % BLOCK) None) (get_or_past v.blocks (k / BLOCK) no_block le))
  ]

  grow_stays : (k : ℕ) → k < v.len → address more k ≡ address v.blocks k
  unfolding address
  grow_stays k lt = ap (λ x. address_of x (k % BLOCK)) (kept (k / BLOCK) (in_block k v.room (length v.blocks) (omega (arith, are.within)) are.sized))

  one_more : length more ≡ length v.blocks + 1
  one_more = grind (arith, length-append)

  grow_long : (i : ℕ) → i < length more → length (get_or more i no_block).slots ≡ BLOCK
  grow_long i lt = elim (cases_lt i (length v.blocks)) [
    | inl inside ↦ ap (λ (x : NodeBlock). length x.slots) (kept i inside) ∙ are.long i inside
    | inr le ↦
        let last : i - length v.blocks ≡ 0 = omega (arith, one_more) in
        ap (λ (x : NodeBlock). length x.slots) (get_or-append_right v.blocks (r ∷ []) (length v.blocks) i no_block refl le)
        ∙ ap (λ j. length (get_or (r ∷ []) j no_block).slots) last
        ∙ ap length empty ∙ length-replicate count None ∙ is
  ]

  pub grow_keeps : AreNodes g
  grow_keeps = record {
    long = grow_long;
    sized = omega (arith, are.sized, one_more);
    within = omega (arith, are.within);
    filled = λ k lt. let h = are.filled k lt in record { node = h.node; is = grow_same k ∙ h.is; tied = still_tied v g h.node grow_stays (omega arith) h.tied };
    beyond = λ k past. grow_same k ∙ are.beyond k past;
  }

pub none_keeps : (blocks : List NodeBlock) → blocks ≡ [] → AreNodes (record { blocks = blocks; len = 0; room = 0 })
none_keeps blocks e =
    let P : List NodeBlock → Type 0 = λ xs. AreNodes (record { blocks = xs; len = 0; room = 0 }) in
    subst P (sym e) (record { long = λ i lt. absurd (omega arith); sized = refl; within = omega arith; filled = λ s lt. absurd (omega arith); beyond = λ s _. none_in s })
