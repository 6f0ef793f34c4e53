-- A node that is in no ring changes what it serves for, and the rings hold again.
use Rattle.std.proofs.Common.{◌≡◌, ℕ, ◌-◌, ◌<◌, ◌≤◌, suc, cond, List, [], ◌∷◌, length, Some, None, is_some, unwrap_or, refl, sym, ap, subst, ◌∙◌, ◌⊎◌, inl, inr, arith}
use Rattle.std.proofs.lemmas.Bool.{cases_eq}
use Rattle.std.specs.FinMap as map
use Rattle.std.specs.FinMap.{get-empty, len-empty}
use Rattle.std.specs.Ordering.{nat_cmp}
use Rattle.item_ring.specs.declared.block.Cell.{Cell}
use Rattle.item_ring.specs.declared.block.State.{State}
use Rattle.item_ring.specs.declared.block.State.TheVariants.{Free, Loose, Linked, Head}
use Rattle.item_ring.specs.NodeBlock.{NodeBlock}
use Rattle.item_ring.specs.Nodes.{Slots, node_at, cell_of, cell_at, next_of, prev_of, ring_of, value_of, state_of, blank, Edits}
use Rattle.item_ring.specs.RingLists.{IsIn, list_in}
use Rattle.item_ring.specs.AreRings.{is_head, is_member, IsRing, AreRings, IsChain, IsFree, IsStocked, Claimed}
use Rattle.item_ring.specs.View.{View, nothing_seen}
use Rattle.item_ring.proofs.Apart.{head_free, linked_free, loose_free}
use Rattle.item_ring.proofs.Holds.{chain_same}
use Rattle.item_ring.proofs.Lists.{path_same}

pub free_linked : Free ≡ Linked → ⊥
free_linked e = cc

-- the cells of a ring are the same
pub ring_same : (v w : Slots) (k : ℕ) (xs : List ℕ) → ((j : ℕ) → IsIn j (k ∷ xs) → cell_at w j ≡ cell_at v j) → IsRing v k xs → IsRing w k xs
ring_same v w k xs same o =
    let next : (j : ℕ) → IsIn j (k ∷ xs) → next_of w j ≡ next_of v j = λ j i. ap (λ (c : Cell). c.next) (same j i) in
    let prev : (j : ℕ) → IsIn j (k ∷ xs) → prev_of w j ≡ prev_of v j = λ j i. ap (λ (c : Cell). c.prev) (same j i) in
    record {
      circle = path_same (next_of v) (prev_of v) (next_of w) (prev_of w) k k xs next (λ j i. prev j (inr i)) (prev k (inl refl)) o.circle;
      linked = λ j i. ap (λ (c : Cell). c.state) (same j (inr i)) ∙ o.linked j i;
      mine = λ j i. ap (λ (c : Cell). c.ring) (same j (inr i)) ∙ o.mine j i;
      distinct = o.distinct;
      counted = ap (λ (c : Cell). c.value) (same k (inl refl)) ∙ o.counted;
    }

-- the one cell that changes, and what is seen of it
pub record IsTurned (v w : Slots) (s s' : View) (j : ℕ) (c : Cell) : Type 0 where
  pub edit : Edits v w j c
  pub more : v.len ≤ w.len
  pub within : j < w.len
  pub not_linked : state_of v j ≡ Linked → ⊥
  pub no_link : c.state ≡ Linked → ⊥
  pub no_home : (k : ℕ) → state_of v k ≡ Linked → ring_of v k ≡ j → ⊥
  pub head_here : map.contains_key s'.rings j ≡ is_head c.state
  pub ring_else : (k : ℕ) → (k ≡ j → ⊥) → map.get s'.rings k ≡ map.get s.rings k
  pub ring_here : c.state ≡ Head → IsRing w j (list_in s'.rings j)
  pub loose_here : IsIn j s'.loose → c.state ≡ Loose
  pub found_here : c.state ≡ Loose → IsIn j s'.loose
  pub loose_else : (k : ℕ) → (k ≡ j → ⊥) → IsIn k s'.loose → IsIn k s.loose
  pub found_else : (k : ℕ) → (k ≡ j → ⊥) → IsIn k s.loose → IsIn k s'.loose
  pub tag_here : map.get s'.tags j ≡ cond (is_member c.state) (Some c.value) None
  pub tag_else : (k : ℕ) → (k ≡ j → ⊥) → map.get s'.tags k ≡ map.get s.tags k

module _ (v w : Slots) (s s' : View) (j : ℕ) (c : Cell) (are : AreRings v s) (t : IsTurned v w s s' j c) where
  state_here : state_of w j ≡ c.state
  state_here = ap (λ (x : Cell). x.state) t.edit.here

  state_else : (k : ℕ) → (k ≡ j → ⊥) → state_of w k ≡ state_of v k
  state_else k ne = ap (λ (x : Cell). x.state) (t.edit.elsewhere k ne)

  list_same : (k : ℕ) → (k ≡ j → ⊥) → list_in s'.rings k ≡ list_in s.rings k
  list_same k ne = ap (λ o. unwrap_or o []) (t.ring_else k ne)

  linked_else : (k : ℕ) → state_of w k ≡ Linked → k ≡ j → ⊥
  linked_else k e q = t.no_link (sym state_here ∙ ap (state_of w) (sym q) ∙ e)

  pub turned_rings : AreRings w s'
  turned_rings = record {
    heads = λ k. elim (cases_eq k j) [
      | inl e ↦ ap (λ i. map.contains_key s'.rings i) e ∙ t.head_here ∙ sym (ap is_head (ap (state_of w) e ∙ state_here))
      | inr ne ↦ ap is_some (t.ring_else k ne) ∙ are.heads k ∙ ap is_head (sym (state_else k ne))
    ];
    rings = λ k e. elim (cases_eq k j) [
      | inl q ↦ subst (λ i. IsRing w i (list_in s'.rings i)) (sym q) (t.ring_here (sym state_here ∙ ap (state_of w) (sym q) ∙ e))
      | inr ne ↦
          let old = are.rings k (sym (state_else k ne) ∙ e) in
          subst (IsRing w k) (sym (list_same k ne)) (ring_same v w k (list_in s.rings k) (λ i g. t.edit.elsewhere i (λ q. elim g [
            | inl is ↦ ne (sym is ∙ q)
            | inr m ↦ t.not_linked (ap (state_of v) (sym q) ∙ old.linked i m)
          ])) old)
    ];
    listed = λ k e.
        let ne = linked_else k e in
        let was = sym (state_else k ne) ∙ e in
        let old = are.listed k was in
        let same : ring_of w k ≡ ring_of v k = ap (λ (x : Cell). x.ring) (t.edit.elsewhere k ne) in
        let away : ring_of v k ≡ j → ⊥ = t.no_home k was in
        record {
          head = ap (state_of w) same ∙ state_else (ring_of v k) away ∙ old.head;
          member = subst (λ g. IsIn k (list_in s'.rings g)) (sym same) (subst (IsIn k) (sym (list_same (ring_of v k) away)) old.member);
        };
    loose = λ k i. elim (cases_eq k j) [
      | inl e ↦ ap (state_of w) e ∙ state_here ∙ t.loose_here (subst (λ g. IsIn g s'.loose) e i)
      | inr ne ↦ state_else k ne ∙ are.loose k (t.loose_else k ne i)
    ];
    found = λ k e. elim (cases_eq k j) [
      | inl q ↦ subst (λ g. IsIn g s'.loose) (sym q) (t.found_here (sym state_here ∙ ap (state_of w) (sym q) ∙ e))
      | inr ne ↦ t.found_else k ne (are.found k (sym (state_else k ne) ∙ e))
    ];
    used = λ k ne. elim (cases_eq k j) [
      | inl q ↦ subst (λ g. g < w.len) (sym q) t.within
      | inr other ↦ let old = are.used k (λ free. ne (state_else k other ∙ free)) in let more = t.more in omega (arith, old, more)
    ];
    tags = λ k. elim (cases_eq k j) [
      | inl q ↦
          ap (map.get s'.tags) q ∙ t.tag_here
          ∙ sym (ap (λ (x : Cell). cond (is_member x.state) (Some x.value) None) (ap (cell_at w) q ∙ t.edit.here))
      | inr ne ↦ t.tag_else k ne ∙ are.tags k ∙ sym (ap (λ (x : Cell). cond (is_member x.state) (Some x.value) None) (t.edit.elsewhere k ne))
    ];
  }

-- more room, and the same cells
pub grown_rings : (v w : Slots) (s : View) → AreRings v s → ((k : ℕ) → cell_at w k ≡ cell_at v k) → w.len ≡ v.len → AreRings w s
grown_rings v w s are same len =
    let state : (k : ℕ) → state_of w k ≡ state_of v k = λ k. ap (λ (c : Cell). c.state) (same k) in
    let ring : (k : ℕ) → ring_of w k ≡ ring_of v k = λ k. ap (λ (c : Cell). c.ring) (same k) in
    record {
      heads = λ k. are.heads k ∙ ap is_head (sym (state k));
      rings = λ k e. ring_same v w k (list_in s.rings k) (λ j _. same j) (are.rings k (sym (state k) ∙ e));
      listed = λ k e.
          let old = are.listed k (sym (state k) ∙ e) in
          record { head = ap (state_of w) (ring k) ∙ state (ring_of v k) ∙ old.head; member = subst (λ g. IsIn k (list_in s.rings g)) (sym (ring k)) old.member };
      loose = λ k i. state k ∙ are.loose k i;
      found = λ k e. are.found k (sym (state k) ∙ e);
      used = λ k ne. subst (λ n. k < n) (sym len) (are.used k (λ free. ne (state k ∙ free)));
      tags = λ k. are.tags k ∙ sym (ap (λ (c : Cell). cond (is_member c.state) (Some c.value) None) (same k));
    }

pub grown_free : (v w : Slots) (first free : ℕ) (js : List ℕ) → IsFree v first free js → ((k : ℕ) → cell_at w k ≡ cell_at v k) → w.len ≡ v.len → IsFree w first free js
grown_free v w first free js fr same len = record {
  chain = chain_same (next_of v) (next_of w) first js (λ j _. ap (λ (c : Cell). c.next) (same j)) fr.chain;
  free = λ j i. ap (λ (c : Cell). c.state) (same j) ∙ fr.free j i;
  used = λ j i. subst (λ n. j < n) (sym len) (fr.used j i);
  distinct = fr.distinct;
  counted = fr.counted;
}

-- the first of the chain
pub first_used : (v : Slots) (first free : ℕ) (js : List ℕ) → IsFree v first free js → (free ≡ 0 → ⊥) → first < v.len
first_used v first free [] fr ne = absurd (ne fr.counted)
first_used v first free (j ∷ js) fr ne = subst (λ k. k < v.len) (sym fr.chain.0) (fr.used j (inl refl))

pub claimed_pop : (v w : Slots) (first free next : ℕ) (js : List ℕ) (value : ℕ) (state : State) → IsFree v first free js → (free ≡ 0 → ⊥) → next ≡ next_of v first → w.len ≡ v.len → v.len ≤ v.room
    → Edits v w first (record { next = first; prev = first; ring = first; value = value; state = state }) → Claimed v w next free (free - 1) js first value state
claimed_pop v w first free next [] value state fr ne is len within ed = absurd (ne fr.counted)
claimed_pop v w first free next (j ∷ js) value state fr ne is len within ed =
    let apart : (k : ℕ) → IsIn k js → k ≡ first → ⊥ = λ k i e. fr.distinct.0 (subst (λ n. IsIn n js) (e ∙ fr.chain.0) i) in
    let counted : free ≡ suc (length js) = fr.counted in
    record {
      from = inl (inl fr.chain.0);
      used = subst (λ n. first < n) (sym len) (first_used v first free (j ∷ js) fr ne);
      edit = ed;
      chain = record {
        chain = chain_same (next_of v) (next_of w) next js (λ k i. ap (λ (c : Cell). c.next) (ed.elsewhere k (apart k i)))
            (subst (λ f. IsChain (next_of v) f js) (sym (is ∙ ap (next_of v) fr.chain.0)) fr.chain.1);
        free = λ k i. ap (λ (c : Cell). c.state) (ed.elsewhere k (apart k i)) ∙ fr.free k (inr i);
        used = λ k i. subst (λ n. k < n) (sym len) (fr.used k (inr i));
        distinct = fr.distinct.1;
        counted = omega (arith, counted);
      };
      total = omega (arith, counted, len);
      within = let room = ed.room in omega (arith, len, within, room);
    }

free_or_not : (t : State) → (t ≡ Free) ⊎ (t ≡ Free → ⊥)
free_or_not Free = inl refl
free_or_not Loose = inr loose_free
free_or_not Linked = inr linked_free
free_or_not Head = inr head_free

module _ (v w : Slots) (s s' : View) (first before free slot value : ℕ) (state : State) (are : AreRings v s) (fr : IsFree v first before s.free) where
  pub was_free : (next after : ℕ) → Claimed v w next before after s.free slot value state → state_of v slot ≡ Free
  was_free next after cl = elim cl.from [
    | inl i ↦ fr.free slot i
    | inr e ↦ elim (free_or_not (state_of v slot)) [
      | inl is ↦ is
      | inr ne ↦ let low = are.used slot ne in absurd (omega (arith, low, e))
    ]
  ]

pub holds_nothing : (v : Slots) (s : View) → v.blocks ≡ [] → v.len ≡ 0 → v.room ≡ 0 → s ≡ nothing_seen → AreRings v s × IsFree v 0 0 s.free × IsStocked v s 0 0 0
unfolding cell_at node_at
holds_nothing v s blocks len room is =
    let blank_at : (k : ℕ) → cell_at v k ≡ blank = λ k. ap (λ (r : List NodeBlock). cell_of (node_at r k)) blocks in
    let free_at : (k : ℕ) → state_of v k ≡ Free = λ k. ap (λ (c : Cell). c.state) (blank_at k) in
    let all : AreRings v nothing_seen = record {
      heads = λ h. ap is_some (get-empty nat_cmp h) ∙ sym (ap is_head (free_at h));
      rings = λ h e. absurd (head_free (sym e ∙ free_at h));
      listed = λ m e. absurd (linked_free (sym e ∙ free_at m));
      loose = λ m i. absurd i;
      found = λ m e. absurd (loose_free (sym e ∙ free_at m));
      used = λ j ne. absurd (ne (free_at j));
      tags = λ m. get-empty nat_cmp m ∙ sym (ap (λ t. cond (is_member t) (Some (value_of v m)) None) (free_at m));
    } in
    let none_free : IsFree v 0 0 [] = record { chain = tt; free = λ j i. absurd i; used = λ j i. absurd i; distinct = tt; counted = refl } in
    let no_heads = len-empty nat_cmp (List ℕ) in
    let no_tags = len-empty nat_cmp ℕ in
    let stock : IsStocked v nothing_seen 0 0 0 = record {
      total = omega (arith, no_heads, no_tags, len);
      reserved = omega (arith, len, room);
      within = omega (arith, len, room);
      small = omega (arith, room);
      few_heads = omega (arith, no_heads);
      few_members = omega (arith, no_tags);
    } in
    (subst (AreRings v) (sym is) all, subst (λ x. IsFree v 0 0 x.free) (sym is) none_free, subst (λ x. IsStocked v x 0 0 0) (sym is) stock)
