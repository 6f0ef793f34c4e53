-- Rings of one value have no node in common.
use Rattle.std.proofs.Common.{◌≡◌, ℕ, ◌<◌, true, cond, List, [], Some, None, is_some, unwrap_or, refl, sym, ap, subst, ◌∙◌, ◌⊎◌, inl, inr}
use Rattle.std.specs.FinMap as map
use Rattle.std.specs.FinMap.{FinMap}
use Rattle.std.specs.Ordering.{nat_cmp}
use Rattle.item_ring.specs.declared.block.State.{State}
use Rattle.item_ring.specs.declared.block.State.TheVariants.{Free, Loose, Linked, Head}
use Rattle.item_ring.specs.Nodes.{Slots, ring_of, value_of, state_of}
use Rattle.item_ring.specs.RingLists.{RingLists, IsIn, list_in, ring, IsHead, IsLinkedIn, IsLoose, AreApart}
use Rattle.item_ring.specs.AreRings.{is_head, is_member, IsRing, AreRings}
use Rattle.item_ring.specs.View.{View}
use Rattle.item_ring.proofs.Maps.{get_new, get_else}

pub head_loose : Head ≡ Loose → ⊥
head_loose e = cc

pub head_linked : Head ≡ Linked → ⊥
head_linked e = cc

pub linked_loose : Linked ≡ Loose → ⊥
linked_loose e = cc

pub head_free : Head ≡ Free → ⊥
head_free e = cc

pub linked_free : Linked ≡ Free → ⊥
linked_free e = cc

pub loose_free : Loose ≡ Free → ⊥
loose_free e = cc

pub is_a_head : (t : State) → is_head t ≡ true → t ≡ Head
is_a_head Head e = refl
is_a_head Free e = cc
is_a_head Loose e = cc
is_a_head Linked e = cc

pub is_a_member : (t : State) → is_member t ≡ true → (t ≡ Linked) ⊎ (t ≡ Loose)
is_a_member Linked e = inl refl
is_a_member Loose e = inr refl
is_a_member Free e = cc
is_a_member Head e = cc

pub list_new : (rings : FinMap nat_cmp (List ℕ)) (h : ℕ) (xs : List ℕ) → list_in (map.insert rings h xs) h ≡ xs
list_new rings h xs = ap (λ o. unwrap_or o []) (get_new rings h xs)

pub list_else : (rings : FinMap nat_cmp (List ℕ)) (h k : ℕ) (xs : List ℕ) → (k ≡ h → ⊥) → list_in (map.insert rings h xs) k ≡ list_in rings k
list_else rings h k xs ne = ap (λ o. unwrap_or o []) (get_else rings h xs k ne)

-- the node is the head, or linked into its ring
abbrev pub Belongs : Slots → ℕ → ℕ → Type 0
Belongs v h j = (j ≡ h) ⊎ ((state_of v j ≡ Linked) × (ring_of v j ≡ h))

pub strangers : (v : Slots) (h k i j : ℕ) → state_of v h ≡ Head → state_of v k ≡ Head → (k ≡ h → ⊥) → Belongs v h i → Belongs v k j → j ≡ i → ⊥
strangers v h k i j hh kh ne (inl a) (inl b) e = ne (sym b ∙ e ∙ a)
strangers v h k i j hh kh ne (inl a) (inr b) e = head_linked (sym hh ∙ ap (state_of v) (sym a ∙ sym e) ∙ b.0)
strangers v h k i j hh kh ne (inr a) (inl b) e = head_linked (sym kh ∙ ap (state_of v) (sym b ∙ e) ∙ a.0)
strangers v h k i j hh kh ne (inr a) (inr b) e = ne (sym b.1 ∙ ap (ring_of v) e ∙ a.1)

pub not_strange : (v : Slots) (h i m : ℕ) → state_of v h ≡ Head → state_of v m ≡ Loose → Belongs v h i → i ≡ m → ⊥
not_strange v h i m hh ml (inl a) e = head_loose (sym hh ∙ ap (state_of v) (sym a ∙ e) ∙ ml)
not_strange v h i m hh ml (inr a) e = linked_loose (sym a.0 ∙ ap (state_of v) e ∙ ml)

pub in_ring : (v : Slots) (h : ℕ) (xs : List ℕ) → IsRing v h xs → (j : ℕ) → IsIn j xs → Belongs v h j
in_ring v h xs r j i = inr (r.linked j i, r.mine j i)

module _ (v : Slots) (s : View) (are : AreRings v s) where
  pub head_state : (h : ℕ) → map.contains_key s.rings h ≡ true → state_of v h ≡ Head
  head_state h e = is_a_head (state_of v h) (sym (are.heads h) ∙ e)

  pub head_used : (h : ℕ) → map.contains_key s.rings h ≡ true → h < v.len
  head_used h e = are.used h (λ free. head_free (sym (head_state h e) ∙ free))

  pub loose_used : (m : ℕ) → IsIn m s.loose → m < v.len
  loose_used m i = are.used m (λ free. loose_free (sym (are.loose m i) ∙ free))

  pub linked_used : (m : ℕ) → state_of v m ≡ Linked → m < v.len
  linked_used m e = are.used m (λ free. linked_free (sym e ∙ free))

  some_of_tag : (t : State) (x : ℕ) → is_some (cond (is_member t) (Some x) None) ≡ is_member t
  some_of_tag Free x = refl
  some_of_tag Loose x = refl
  some_of_tag Linked x = refl
  some_of_tag Head x = refl

  pub tagged_is : (m : ℕ) → map.contains_key s.tags m ≡ is_member (state_of v m)
  tagged_is m = ap is_some (are.tags m) ∙ some_of_tag (state_of v m) (value_of v m)

  pub tag_is : (m : ℕ) → map.contains_key s.tags m ≡ true → map.get s.tags m ≡ Some (value_of v m)
  tag_is m e = are.tags m ∙ ap (λ b. cond b (Some (value_of v m)) None) (sym (tagged_is m) ∙ e)

  pub tagged_used : (m : ℕ) → map.contains_key s.tags m ≡ true → m < v.len
  tagged_used m e = elim (is_a_member (state_of v m) (sym (tagged_is m) ∙ e)) [
    | inl a ↦ linked_used m a
    | inr b ↦ are.used m (λ free. loose_free (sym b ∙ free))
  ]

  module _ (x : RingLists) (same : x.rings ≡ s.rings) (same_loose : x.loose ≡ s.loose) (same_tags : x.tags ≡ s.tags) where
    pub ring_at : (h : ℕ) → IsHead x h → IsRing v h (ring x h)
    ring_at h e = subst (λ r. IsRing v h (list_in r h)) (sym same) (are.rings h (head_state h (subst (λ r. map.contains_key r h ≡ true) same e)))

    pub linked_at : (h m : ℕ) → IsLinkedIn x h m → (state_of v m ≡ Linked) × (ring_of v m ≡ h)
    linked_at h m l = ((ring_at h l.head).linked m l.member, (ring_at h l.head).mine m l.member)

    loose_at : (m : ℕ) → IsLoose x m → state_of v m ≡ Loose
    loose_at m i = are.loose m (subst (IsIn m) same_loose i)

    contains_tag : (m : ℕ) → is_member (state_of v m) ≡ true → map.contains_key x.tags m ≡ true
    contains_tag m e = ap (λ t. map.contains_key t m) same_tags ∙ tagged_is m ∙ e

    pub placed_as_linked : (m : ℕ) → state_of v m ≡ Linked → IsLinkedIn x (ring_of v m) m
    placed_as_linked m e =
        let l = are.listed m e in
        record {
          head = ap (λ r. map.contains_key r (ring_of v m)) same ∙ are.heads (ring_of v m) ∙ ap is_head l.head;
          member = subst (λ r. IsIn m (list_in r (ring_of v m))) (sym same) l.member;
        }

    pub apart_all : AreApart x
    apart_all = record {
      distinct = λ h e. (ring_at h e).distinct;
      one_ring = λ g h m a b. sym (linked_at g m a).1 ∙ (linked_at h m b).1;
      not_loose = λ h m l i. linked_loose (sym (linked_at h m l).0 ∙ loose_at m i);
      tagged = λ m p. elim p [ inl l ↦ contains_tag m (ap is_member (linked_at l.0 m l.1).0) | inr i ↦ contains_tag m (ap is_member (loose_at m i)) ];
      placed = λ m e. elim (is_a_member (state_of v m) (sym (tagged_is m) ∙ sym (ap (λ t. map.contains_key t m) same_tags) ∙ e)) [
        | inl a ↦ inl (ring_of v m, placed_as_linked m a)
        | inr b ↦ inr (subst (IsIn m) (sym same_loose) (are.found m b))
      ];
    }
