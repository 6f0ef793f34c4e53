-- All that `Rings` keeps holds again after a call.
use Rattle.std.proofs.Common.{◌≡◌, ℕ, ◌+◌, ◌<◌, ◌≤◌, ◌^◌, true, cond, List, [], ◌∷◌, ◌++◌, refl, sym, ap, subst, ◌∙◌, inl, inr, arith}
use Rattle.std.specs.FinMap as map
use Rattle.std.specs.FinMap.{FinMap, len-insert}
use Rattle.std.specs.Ordering.{nat_cmp}
use Rattle.std.specs.Cmp.{nat_cmp_total}
use Rattle.item_ring.specs.declared.block.State.TheVariants.{Free, Loose, Linked, Head}
use Rattle.item_ring.specs.Nodes.{Slots, cell_at, next_of, prev_of, value_of, state_of, Edits, Spliced, Unspliced}
use Rattle.item_ring.specs.RingLists.{IsIn, list_in, without}
use Rattle.item_ring.specs.AreRings.{IsRing, AreRings, IsChain, IsFree, IsStocked}
use Rattle.item_ring.specs.View.{View}
use Rattle.item_ring.specs.Turns.{linked_as, unlinked}
use Rattle.item_ring.proofs.Apart.{head_free, linked_free, loose_free, head_state, head_used, loose_used, linked_used, Belongs}
use Rattle.item_ring.proofs.Counts.{few}
use Rattle.item_ring.proofs.Links.{IsTiedIn, tied_in, links_keep, here_belongs, here_apart, ahead_apart}
use Rattle.item_ring.proofs.Lists.{last_of, in_put_new, without_cut}
use Rattle.item_ring.proofs.Unlinks.{IsTakenOut, taken_out, unlinks_keep, prev_of_belongs}

pub chain_same : (N N' : ℕ → ℕ) (first : ℕ) (js : List ℕ) → ((j : ℕ) → IsIn j js → N' j ≡ N j) → IsChain N first js → IsChain N' first js
chain_same N N' first [] same h = tt
chain_same N N' first (j ∷ js) same h = (h.0, chain_same N N' (N' j) js (λ k i. same k (inr i)) (subst (λ f. IsChain N f js) (sym (same j (inl refl))) h.1))

pub not_free : (v : Slots) (h j i : ℕ) → state_of v h ≡ Head → state_of v j ≡ Free → Belongs v h i → j ≡ i → ⊥
not_free v h j i hh jf (inl a) e = head_free (sym hh ∙ ap (state_of v) (sym a ∙ sym e) ∙ jf)
not_free v h j i hh jf (inr a) e = linked_free (sym a.0 ∙ ap (state_of v) (sym e) ∙ jf)

same_len : (m : FinMap nat_cmp (List ℕ)) (k : ℕ) (xs : List ℕ) → map.contains_key m k ≡ true → map.len (map.insert m k xs) ≡ map.len m
same_len m k xs e = len-insert nat_cmp_total m k xs ∙ ap (λ b. cond b (map.len m) (map.len m + 1)) e

-- what a call of `splice` needs, and that the count of the ring fits
pub record IsReady (v : Slots) (here m h : ℕ) : Type 0 where
  pub here_used : here < v.len
  pub new_used : m < v.len
  pub apart : here ≡ m → ⊥
  pub ahead : next_of v here ≡ m → ⊥
  pub fits : value_of v h + 1 < 2 ^ 32

module _ (v : Slots) (s : View) (first free spare_heads spare_members : ℕ) (are : AreRings v s) (fr : IsFree v first free s.free) (st : IsStocked v s free spare_heads spare_members)
    (h : ℕ) (key : map.contains_key s.rings h ≡ true) where
  abbrev hh : state_of v h ≡ Head
  hh = head_state v s are h key

  belongs_used : (i : ℕ) → Belongs v h i → i < v.len
  belongs_used i (inl e) = subst (λ k. k < v.len) (sym e) (head_used v s are h key)
  belongs_used i (inr a) = linked_used v s are i a.0

  pub ring_is : IsRing v h (list_in s.rings h)
  ring_is = are.rings h hh

  pub ring_few : value_of v h ≤ v.len
  ring_few = subst (λ n. n ≤ v.len) (sym ring_is.counted) (few (list_in s.rings h) v.len ring_is.distinct (λ q i. linked_used v s are q (ring_is.linked q i)))

  module _ (m : ℕ) (loose : IsIn m s.loose) (here : ℕ) (fore aft : List ℕ) (split : list_in s.rings h ≡ fore ++ aft) (at : here ≡ last_of h fore) where
    abbrev ml : state_of v m ≡ Loose
    ml = are.loose m loose

    pub ready : IsReady v here m h
    ready = record {
      here_used = belongs_used here (here_belongs v s here m h fore aft are hh ml split at);
      new_used = loose_used v s are m loose;
      apart = here_apart v s here m h fore aft are hh ml split at;
      ahead = ahead_apart v s here m h fore aft are hh ml split at;
      fits = omega (arith, ring_few, st.within, st.small);
    }

    module _ (u w : Slots) (count : ℕ) (sp : Spliced v u here m h) (len : w.len ≡ u.len) (ed : Edits u w h (record (cell_at u h) { value = count })) (counted : count ≡ value_of v h + 1)
        (xs : List ℕ) (is : fore ++ m ∷ aft ≡ xs) (s' : View) (turned : s' ≡ linked_as s h m xs) where
      tied : IsTiedIn v w here m h count
      tied = tied_in v u w here m h count sp len ed

      pub links_rings : AreRings w s'
      links_rings =
          let P : List ℕ → Type 0 = λ l. AreRings w (linked_as s h m l) in
          subst (AreRings w) (sym turned) (subst P is (links_keep v s here m h fore aft are hh ml split at w count tied counted))

      pub links_free : IsFree w first free s'.free
      links_free =
          let off_m : (j : ℕ) → IsIn j s.free → j ≡ m → ⊥ = λ j i e. loose_free (sym ml ∙ ap (state_of v) (sym e) ∙ fr.free j i) in
          let off_here : (j : ℕ) → IsIn j s.free → j ≡ here → ⊥ = λ j i. not_free v h j here hh (fr.free j i) (here_belongs v s here m h fore aft are hh ml split at) in
          let kept : IsFree w first free s.free = record {
            chain = chain_same (next_of v) (next_of w) first s.free (λ j i. tied.next_else j (off_here j i) (off_m j i)) fr.chain;
            free = λ j i. tied.state_else j (off_m j i) ∙ fr.free j i;
            used = λ j i. subst (λ n. j < n) (sym tied.len) (fr.used j i);
            distinct = fr.distinct;
            counted = fr.counted;
          } in
          subst (λ x. IsFree w first free x.free) (sym turned) kept

      pub links_stock : IsStocked w s' free spare_heads spare_members
      links_stock =
          let same = same_len s.rings h xs key in
          let kept : IsStocked w (linked_as s h m xs) free spare_heads spare_members = record {
            total = omega (arith, st.total, same, tied.len);
            reserved = omega (arith, st.reserved, tied.len, tied.room);
            within = omega (arith, st.within, tied.len, tied.room);
            small = omega (arith, st.small, tied.room);
            few_heads = omega (arith, st.few_heads, same);
            few_members = st.few_members;
          } in
          subst (λ x. IsStocked w x free spare_heads spare_members) (sym turned) kept

  module _ (m : ℕ) (fore aft : List ℕ) (split : list_in s.rings h ≡ fore ++ m ∷ aft) (u w : Slots) (count : ℕ) (un : Unspliced v u m) (len : w.len ≡ u.len)
      (ed : Edits u w h (record (cell_at u h) { value = count })) (counted : count + 1 ≡ value_of v h) (s' : View) (turned : s' ≡ unlinked s h m) where
    out : IsTakenOut v w m h count
    out = taken_out v u w m h count un len ed

    whole : IsRing v h (fore ++ m ∷ aft)
    whole = subst (λ l. IsRing v h l) split ring_is

    left_is : without m (list_in s.rings h) ≡ fore ++ aft
    left_is = ap (without m) split ∙ without_cut m fore aft whole.distinct

    pub out_rings : AreRings w s'
    out_rings =
        let P : List ℕ → Type 0 = λ l. AreRings w (record s { rings = map.insert s.rings h l; loose = m ∷ s.loose }) in
        subst (AreRings w) (sym turned) (subst P (sym left_is) (unlinks_keep v w s m h count fore aft are hh split out counted))

    m_linked : state_of v m ≡ Linked
    m_linked = whole.linked m (in_put_new m fore aft)

    prev_belongs : Belongs v h (prev_of v m)
    prev_belongs = prev_of_belongs v w s m h count fore aft are hh split out counted

    pub out_free : IsFree w first free s'.free
    out_free =
        let off_m : (j : ℕ) → IsIn j s.free → j ≡ m → ⊥ = λ j i e. linked_free (sym m_linked ∙ ap (state_of v) (sym e) ∙ fr.free j i) in
        let kept : IsFree w first free s.free = record {
          chain = chain_same (next_of v) (next_of w) first s.free (λ j i. out.next_else j (not_free v h j (prev_of v m) hh (fr.free j i) prev_belongs)) fr.chain;
          free = λ j i. out.state_else j (off_m j i) ∙ fr.free j i;
          used = λ j i. subst (λ n. j < n) (sym out.len) (fr.used j i);
          distinct = fr.distinct;
          counted = fr.counted;
        } in
        subst (λ x. IsFree w first free x.free) (sym turned) kept

    pub out_stock : IsStocked w s' free spare_heads spare_members
    out_stock =
        let same = same_len s.rings h (without m (list_in s.rings h)) key in
        let kept : IsStocked w (unlinked s h m) free spare_heads spare_members = record {
          total = omega (arith, st.total, same, out.len);
          reserved = omega (arith, st.reserved, out.len, out.room);
          within = omega (arith, st.within, out.len, out.room);
          small = omega (arith, st.small, out.room);
          few_heads = omega (arith, st.few_heads, same);
          few_members = st.few_members;
        } in
        subst (λ x. IsStocked w x free spare_heads spare_members) (sym turned) kept
