-- What a chain of writes comes to, cell by cell.
use Rattle.std.proofs.Common.{◌≡◌, ℕ, Some, refl, sym, ap, ◌∙◌, inl, inr}
use Rattle.std.proofs.lemmas.Bool.{cases_eq}
use Rattle.item_ring.specs.declared.block.Cell.{Cell}
use Rattle.item_ring.specs.declared.block.Node.{Node}
use Rattle.item_ring.specs.declared.block.State.TheVariants.{Loose, Linked}
use Rattle.item_ring.specs.Nodes.{Slots, node_at, cell_of, cell_at, next_of, prev_of, Writes, Edits, Spliced, Unspliced}

pub cell_is : (v : Slots) (s : ℕ) (n : Node) → node_at v.blocks s ≡ Some n → cell_at v s ≡ n.cell
unfolding cell_at
cell_is v s n e = ap cell_of e

pub writes_edits : (v w : Slots) (s : ℕ) (n : Node) → Writes v w s n → Edits v w s n.cell
unfolding cell_at
writes_edits v w s n h = record { room = h.room; here = ap cell_of h.here; elsewhere = λ k ne. ap cell_of (h.elsewhere k ne) }

-- a field that the edit leaves as it is
pub same_field : {X : Type 0} (f : Cell → X) (v w : Slots) (s : ℕ) (c : Cell) → Edits v w s c → f c ≡ f (cell_at v s) → (k : ℕ) → f (cell_at w k) ≡ f (cell_at v k)
same_field f v w s c h e k = elim (cases_eq k s) [
  | inl is ↦ ap (λ j. f (cell_at w j)) is ∙ ap f h.here ∙ e ∙ ap (λ j. f (cell_at v j)) (sym is)
  | inr ne ↦ ap f (h.elsewhere k ne)
]

module _ (v v1 v2 w : Slots) (here m ring : ℕ) (before behind own n1 n2 n3 : Node) (apart : here ≡ m → ⊥) (ahead_apart : next_of v here ≡ m → ⊥)
    (read1 : node_at v.blocks here ≡ Some before) (w1 : Writes v v1 here n1) (is1 : n1.cell ≡ record before.cell { next = m })
    (read2 : node_at v1.blocks before.cell.next ≡ Some behind) (w2 : Writes v1 v2 before.cell.next n2) (is2 : n2.cell ≡ record behind.cell { prev = m })
    (read3 : node_at v2.blocks m ≡ Some own) (w3 : Writes v2 w m n3)
    (is3 : n3.cell ≡ record { next = before.cell.next; prev = here; ring = ring; value = own.cell.value; state = Linked }) where
  abbrev ahead : ℕ
  ahead = before.cell.next

  was1 : cell_at v here ≡ before.cell
  was1 = cell_is v here before read1

  was2 : cell_at v1 ahead ≡ behind.cell
  was2 = cell_is v1 ahead behind read2

  was3 : cell_at v2 m ≡ own.cell
  was3 = cell_is v2 m own read3

  e1 : Edits v v1 here n1.cell
  e1 = writes_edits v v1 here n1 w1

  e2 : Edits v1 v2 ahead n2.cell
  e2 = writes_edits v1 v2 ahead n2 w2

  e3 : Edits v2 w m n3.cell
  e3 = writes_edits v2 w m n3 w3

  ahead_is : next_of v here ≡ ahead
  ahead_is = ap (λ (c : Cell). c.next) was1

  module _ {X : Type 0} (f : Cell → X) where
    same1 : f (record before.cell { next = m }) ≡ f before.cell → (k : ℕ) → f (cell_at v1 k) ≡ f (cell_at v k)
    same1 e = same_field f v v1 here n1.cell e1 (ap f is1 ∙ e ∙ ap f (sym was1))

    same2 : f (record behind.cell { prev = m }) ≡ f behind.cell → (k : ℕ) → f (cell_at v2 k) ≡ f (cell_at v1 k)
    same2 e = same_field f v1 v2 ahead n2.cell e2 (ap f is2 ∙ e ∙ ap f (sym was2))

    other3 : (k : ℕ) → (k ≡ m → ⊥) → f (cell_at w k) ≡ f (cell_at v2 k)
    other3 k ne = ap f (e3.elsewhere k ne)

    new3 : f (cell_at w m) ≡ f (record { next = ahead; prev = here; ring = ring; value = own.cell.value; state = Linked })
    new3 = ap f e3.here ∙ ap f is3

  pub spliced : Spliced v w here m ring
  spliced = record {
    len = w3.len ∙ w2.len ∙ w1.len;
    room = w3.room ∙ w2.room ∙ w1.room;
    next_here = other3 (λ c. c.next) here apart ∙ same2 (λ c. c.next) refl here ∙ ap (λ (c : Cell). c.next) e1.here ∙ ap (λ (c : Cell). c.next) is1;
    next_new = new3 (λ c. c.next) ∙ sym ahead_is;
    next_else = λ k ne ne'. other3 (λ c. c.next) k ne' ∙ same2 (λ c. c.next) refl k ∙ ap (λ (c : Cell). c.next) (e1.elsewhere k ne);
    prev_new = new3 (λ c. c.prev);
    prev_ahead = ap (λ j. (cell_at w j).prev) ahead_is ∙ other3 (λ c. c.prev) ahead (λ e. ahead_apart (ahead_is ∙ e)) ∙ ap (λ (c : Cell). c.prev) e2.here ∙ ap (λ (c : Cell). c.prev) is2;
    prev_else = λ k ne ne'. other3 (λ c. c.prev) k ne ∙ ap (λ (c : Cell). c.prev) (e2.elsewhere k (λ e. ne' (e ∙ sym ahead_is))) ∙ same1 (λ c. c.prev) refl k;
    ring_new = new3 (λ c. c.ring);
    ring_else = λ k ne. other3 (λ c. c.ring) k ne ∙ same2 (λ c. c.ring) refl k ∙ same1 (λ c. c.ring) refl k;
    state_new = new3 (λ c. c.state);
    state_else = λ k ne. other3 (λ c. c.state) k ne ∙ same2 (λ c. c.state) refl k ∙ same1 (λ c. c.state) refl k;
    value_same = λ k. same_field (λ c. c.value) v2 w m n3.cell e3 (ap (λ (c : Cell). c.value) is3 ∙ ap (λ (c : Cell). c.value) (sym was3)) k ∙ same2 (λ c. c.value) refl k ∙ same1 (λ c. c.value) refl k;
  }

module _ (v v1 v2 w : Slots) (m : ℕ) (node before behind own n1 n2 n3 : Node)
    (read0 : node_at v.blocks m ≡ Some node)
    (read1 : node_at v.blocks node.cell.prev ≡ Some before) (w1 : Writes v v1 node.cell.prev n1) (is1 : n1.cell ≡ record before.cell { next = node.cell.next })
    (read2 : node_at v1.blocks node.cell.next ≡ Some behind) (w2 : Writes v1 v2 node.cell.next n2) (is2 : n2.cell ≡ record behind.cell { prev = node.cell.prev })
    (read3 : node_at v2.blocks m ≡ Some own) (w3 : Writes v2 w m n3) (is3 : n3.cell ≡ record own.cell { state = Loose }) where
  abbrev p : ℕ
  p = node.cell.prev

  abbrev q : ℕ
  q = node.cell.next

  p_is : prev_of v m ≡ p
  p_is = ap (λ (c : Cell). c.prev) (cell_is v m node read0)

  q_is : next_of v m ≡ q
  q_is = ap (λ (c : Cell). c.next) (cell_is v m node read0)

  d1 : Edits v v1 p n1.cell
  d1 = writes_edits v v1 p n1 w1

  d2 : Edits v1 v2 q n2.cell
  d2 = writes_edits v1 v2 q n2 w2

  d3 : Edits v2 w m n3.cell
  d3 = writes_edits v2 w m n3 w3

  module _ {X : Type 0} (f : Cell → X) where
    keep1 : f (record before.cell { next = q }) ≡ f before.cell → (k : ℕ) → f (cell_at v1 k) ≡ f (cell_at v k)
    keep1 e = same_field f v v1 p n1.cell d1 (ap f is1 ∙ e ∙ ap f (sym (cell_is v p before read1)))

    keep2 : f (record behind.cell { prev = p }) ≡ f behind.cell → (k : ℕ) → f (cell_at v2 k) ≡ f (cell_at v1 k)
    keep2 e = same_field f v1 v2 q n2.cell d2 (ap f is2 ∙ e ∙ ap f (sym (cell_is v1 q behind read2)))

    keep3 : f (record own.cell { state = Loose }) ≡ f own.cell → (k : ℕ) → f (cell_at w k) ≡ f (cell_at v2 k)
    keep3 e = same_field f v2 w m n3.cell d3 (ap f is3 ∙ e ∙ ap f (sym (cell_is v2 m own read3)))

  pub unspliced : Unspliced v w m
  unspliced = record {
    len = w3.len ∙ w2.len ∙ w1.len;
    room = w3.room ∙ w2.room ∙ w1.room;
    next_before = ap (λ j. (cell_at w j).next) p_is ∙ keep3 (λ c. c.next) refl p ∙ keep2 (λ c. c.next) refl p ∙ ap (λ (c : Cell). c.next) d1.here ∙ ap (λ (c : Cell). c.next) is1 ∙ sym q_is;
    next_else = λ k ne. keep3 (λ c. c.next) refl k ∙ keep2 (λ c. c.next) refl k ∙ ap (λ (c : Cell). c.next) (d1.elsewhere k (λ e. ne (e ∙ sym p_is)));
    prev_ahead = ap (λ j. (cell_at w j).prev) q_is ∙ keep3 (λ c. c.prev) refl q ∙ ap (λ (c : Cell). c.prev) d2.here ∙ ap (λ (c : Cell). c.prev) is2 ∙ sym p_is;
    prev_else = λ k ne. keep3 (λ c. c.prev) refl k ∙ ap (λ (c : Cell). c.prev) (d2.elsewhere k (λ e. ne (e ∙ sym q_is))) ∙ keep1 (λ c. c.prev) refl k;
    ring_same = λ k. keep3 (λ c. c.ring) refl k ∙ keep2 (λ c. c.ring) refl k ∙ keep1 (λ c. c.ring) refl k;
    state_new = ap (λ (c : Cell). c.state) d3.here ∙ ap (λ (c : Cell). c.state) is3;
    state_else = λ k ne. ap (λ (c : Cell). c.state) (d3.elsewhere k ne) ∙ keep2 (λ c. c.state) refl k ∙ keep1 (λ c. c.state) refl k;
    value_same = λ k. keep3 (λ c. c.value) refl k ∙ keep2 (λ c. c.value) refl k ∙ keep1 (λ c. c.value) refl k;
  }
