-- Heads and members are made and ended, and all holds again.
use Rattle.std.proofs.Common.{◌≡◌, ℕ, ◌+◌, ◌-◌, ◌<◌, ◌≤◌, suc, true, false, cond, List, [], ◌∷◌, length, Some, None, is_some, refl, sym, ap, subst, ◌∙◌, inl, inr, arith, eqb}
use Rattle.std.proofs.lemmas.Bool.{cases_eq}
use Rattle.std.proofs.lemmas.Bool.Decides.{eqb_tells}
use Rattle.std.specs.FinMap as map
use Rattle.std.specs.FinMap.{FinMap, len-insert, len-remove, empty_of_len, get-empty}
use Rattle.std.specs.Ordering.{nat_cmp}
use Rattle.std.specs.Cmp.{nat_cmp_total}
use Rattle.item_ring.specs.declared.rings.TheConstants.{MOST_NODES}
use Rattle.item_ring.specs.declared.block.Cell.{Cell}
use Rattle.item_ring.specs.declared.block.State.{State}
use Rattle.item_ring.specs.declared.block.State.TheVariants.{Free, Loose, Linked, Head}
use Rattle.item_ring.specs.declared.rings.Rings.TheInside.{Inside}
use Rattle.leda_base.specs.declared.Seen.{Seen}
use Rattle.item_ring.specs.Nodes.{Slots, cell_at, next_of, ring_of, value_of, state_of, Edits}
use Rattle.item_ring.specs.RingLists.{IsIn, list_in}
use Rattle.item_ring.specs.AreRings.{is_head, is_member, tail, IsRing, AreRings, IsChain, IsFree, IsStocked, Claimed, most_slots}
use Rattle.item_ring.specs.RingsHold.{RingsHold}
use Rattle.item_ring.specs.View.{View}
use Rattle.item_ring.specs.Turns.{headed, membered, member_gone, head_gone}
use Rattle.item_ring.proofs.Apart.{head_free, loose_free, linked_loose, head_loose, head_linked, list_new, head_state, head_used, loose_used}
use Rattle.item_ring.proofs.Holds.{chain_same}
use Rattle.item_ring.proofs.Lists.{in_without, still_in}
use Rattle.item_ring.proofs.Maps.{get_new, get_else, get_gone, get_left}
use Rattle.item_ring.proofs.Stock.{IsTurned, turned_rings, grown_rings, grown_free, was_free, first_used, free_linked}

-- a map with a key is not empty
has_some : {X : Type 0} (m : FinMap nat_cmp X) (k : ℕ) → map.contains_key m k ≡ true → 0 < map.len m
has_some m k e = elim (cases_eq (map.len m) 0) [
  | inl none ↦ absurd (let no : false ≡ true = sym (ap is_some (ap (λ x. map.get x k) (empty_of_len m none) ∙ get-empty nat_cmp k)) ∙ e in let clash : false ≡ true → ⊥ = λ p. cc in clash no)
  | inr some ↦ omega (arith, some)
]

grown_stock : (v w : Slots) (s : View) (free sh sm : ℕ) → IsStocked v s free sh sm → w.len ≡ v.len → v.room ≤ w.room → (v.room ≤ most_slots → w.room ≤ most_slots) → IsStocked w s free sh sm
grown_stock v w s free sh sm st len more small = record {
  total = st.total ∙ sym len;
  reserved = let r = st.reserved in omega (arith, r, len, more);
  within = let r = st.within in omega (arith, r, len, more);
  small = small st.small;
  few_heads = st.few_heads;
  few_members = st.few_members;
}

-- the nodes have more room, and the same cells
pub record IsGrown (v w : Slots) : Type 0 where
  pub cells : (k : ℕ) → cell_at w k ≡ cell_at v k
  pub len : w.len ≡ v.len
  pub more : v.room ≤ w.room
  pub small : v.room ≤ most_slots → w.room ≤ most_slots

module _ (a : Inside) (inv : RingsHold a) (g : Slots) (gr : IsGrown a.nodes g) where
  abbrev s : View
  s = a.seen.view

  are : AreRings g s
  are = grown_rings a.nodes g s inv.rings gr.cells gr.len

  fr : IsFree g a.first_free a.free s.free
  fr = grown_free a.nodes g a.first_free a.free s.free inv.free gr.cells gr.len

  st : IsStocked g s a.free a.spare_heads a.spare_members
  st = grown_stock a.nodes g s a.free a.spare_heads a.spare_members inv.stock gr.len gr.more gr.small

  pub grown_holds : RingsHold (record a { nodes = g })
  grown_holds = record { rings = are; free = fr; stock = st }

  pub reserve_holds : (sh sm : ℕ) → map.len s.rings + sh ≤ MOST_NODES → map.len s.tags + sm ≤ MOST_NODES → (a.nodes.len - a.free) + sh + sm ≤ g.room → RingsHold (record a { nodes = g; spare_heads = sh; spare_members = sm })
  reserve_holds sh sm few_heads few_members fits = record {
    rings = are;
    free = fr;
    stock = record {
      total = st.total;
      reserved = let t = st.total in let l = gr.len in omega (arith, t, l, fits);
      within = st.within;
      small = st.small;
      few_heads = few_heads;
      few_members = few_members;
    };
  }

  module _ (w : Slots) (next after slot value : ℕ) (state : State) (cl : Claimed g w next a.free after s.free slot value state) where
    free_before : state_of g slot ≡ Free
    free_before = was_free g w s s a.first_free a.free a.free slot value state are fr next after cl

    longer : (js : List ℕ) → length js ≤ length (tail js) + 1
    longer [] = omega arith
    longer (j ∷ js) = omega arith

    more_used : g.len ≤ w.len
    more_used =
        let t = cl.total in let l = longer s.free in let n = fr.counted in let m = cl.chain.counted in
        omega (arith, t, l, n, m)

    no_home_here : (k : ℕ) → state_of g k ≡ Linked → ring_of g k ≡ slot → ⊥
    no_home_here k e q = head_free (sym (are.listed k e).head ∙ ap (state_of g) q ∙ free_before)

    no_head : map.contains_key s.rings slot ≡ false
    no_head = are.heads slot ∙ ap is_head free_before

    no_tag : map.get s.tags slot ≡ None
    no_tag = are.tags slot ∙ ap (λ t. cond (is_member t) (Some (value_of g slot)) None) free_before

  module _ (w : Slots) (next after slot left : ℕ) (cl : Claimed g w next a.free after s.free slot 0 Head) (seen : Seen View) (turned : seen.view ≡ headed s slot)
      (fits : left + a.spare_members + g.len + 1 ≤ a.free + g.room) (few : map.len s.rings + 1 + left ≤ MOST_NODES) where
    abbrev c : Cell
    c = record { next = slot; prev = slot; ring = slot; value = 0; state = Head }

    new_ring : IsRing w slot []
    new_ring = record {
      circle = (ap (λ (x : Cell). x.next) cl.edit.here, ap (λ (x : Cell). x.prev) cl.edit.here, tt);
      linked = λ m i. absurd i;
      mine = λ m i. absurd i;
      distinct = tt;
      counted = ap (λ (x : Cell). x.value) cl.edit.here;
    }

    head_turns : IsTurned g w s (headed s slot) slot c
    head_turns = record {
      edit = cl.edit;
      more = more_used w next after slot 0 Head cl;
      within = cl.used;
      not_linked = λ e. free_linked (sym (free_before w next after slot 0 Head cl) ∙ e);
      no_link = head_linked;
      no_home = no_home_here w next after slot 0 Head cl;
      head_here = ap is_some (get_new s.rings slot []);
      ring_else = λ k ne. get_else s.rings slot [] k ne;
      ring_here = λ _. subst (IsRing w slot) (sym (list_new s.rings slot [])) new_ring;
      loose_here = λ i. absurd (loose_free (sym (are.loose slot i) ∙ free_before w next after slot 0 Head cl));
      found_here = λ e. absurd (head_loose e);
      loose_else = λ k ne i. i;
      found_else = λ k ne i. i;
      tag_here = no_tag w next after slot 0 Head cl;
      tag_else = λ k ne. refl;
    }

    pub head_holds : RingsHold (record a { nodes = w; first_free = next; free = after; spare_heads = left; seen = seen })
    head_holds =
        let grows = len-insert nat_cmp_total s.rings slot [] ∙ ap (λ b. cond b (map.len s.rings) (map.len s.rings + 1)) (no_head w next after slot 0 Head cl) in
        let t = st.total in let n = cl.total in let r = cl.edit.room in
        let stock : IsStocked w (headed s slot) after left a.spare_members = record {
          total = omega (arith, grows, t, n);
          reserved = omega (arith, fits, n, r);
          within = cl.within;
          small = let small = st.small in omega (arith, small, r);
          few_heads = omega (arith, few, grows);
          few_members = st.few_members;
        } in
        record {
          rings = subst (AreRings w) (sym turned) (turned_rings g w s (headed s slot) slot c are head_turns);
          free = subst (λ x. IsFree w next after x.free) (sym turned) cl.chain;
          stock = subst (λ x. IsStocked w x after left a.spare_members) (sym turned) stock;
        }

  module _ (w : Slots) (next after slot left tag : ℕ) (cl : Claimed g w next a.free after s.free slot tag Loose) (seen : Seen View) (turned : seen.view ≡ membered s slot tag)
      (fits : a.spare_heads + left + g.len + 1 ≤ a.free + g.room) (few : map.len s.tags + 1 + left ≤ MOST_NODES) where
    abbrev d : Cell
    d = record { next = slot; prev = slot; ring = slot; value = tag; state = Loose }

    member_turns : IsTurned g w s (membered s slot tag) slot d
    member_turns = record {
      edit = cl.edit;
      more = more_used w next after slot tag Loose cl;
      within = cl.used;
      not_linked = λ e. free_linked (sym (free_before w next after slot tag Loose cl) ∙ e);
      no_link = λ e. linked_loose (sym e);
      no_home = no_home_here w next after slot tag Loose cl;
      head_here = no_head w next after slot tag Loose cl;
      ring_else = λ k ne. refl;
      ring_here = λ e. absurd (head_loose (sym e));
      loose_here = λ i. refl;
      found_here = λ e. inl refl;
      loose_else = λ k ne i. elim i [ inl e ↦ absurd (ne e) | inr j ↦ j ];
      found_else = λ k ne i. inr i;
      tag_here = get_new s.tags slot tag;
      tag_else = λ k ne. get_else s.tags slot tag k ne;
    }

    pub member_holds : RingsHold (record a { nodes = w; first_free = next; free = after; spare_members = left; seen = seen })
    member_holds =
        let grows = len-insert nat_cmp_total s.tags slot tag ∙ ap (λ b. cond b (map.len s.tags) (map.len s.tags + 1)) (ap is_some (no_tag w next after slot tag Loose cl)) in
        let t = st.total in let n = cl.total in let r = cl.edit.room in
        let stock : IsStocked w (membered s slot tag) after a.spare_heads left = record {
          total = omega (arith, grows, t, n);
          reserved = omega (arith, fits, n, r);
          within = cl.within;
          small = let small = st.small in omega (arith, small, r);
          few_heads = st.few_heads;
          few_members = omega (arith, few, grows);
        } in
        record {
          rings = subst (AreRings w) (sym turned) (turned_rings g w s (membered s slot tag) slot d are member_turns);
          free = subst (λ x. IsFree w next after x.free) (sym turned) cl.chain;
          stock = subst (λ x. IsStocked w x after a.spare_heads left) (sym turned) stock;
        }

-- a slot goes back to the chain
module _ (v w : Slots) (first free j next : ℕ) (js : List ℕ) (fr : IsFree v first free js) (busy : state_of v j ≡ Free → ⊥) (used : j < v.len) (len : w.len ≡ v.len)
    (is : next ≡ cond (eqb free 0) j first) (ed : Edits v w j (record { next = next; prev = j; ring = j; value = 0; state = Free })) where
  apart : (k : ℕ) → IsIn k js → k ≡ j → ⊥
  apart k i e = busy (ap (state_of v) (sym e) ∙ fr.free k i)

  behind : (ks : List ℕ) → IsFree v first free ks → ((k : ℕ) → IsIn k ks → k ≡ j → ⊥) → IsChain (next_of w) (next_of w j) ks
  behind [] f out = tt
  behind (k ∷ ks) f out =
      let some : free ≡ suc (length ks) = f.counted in
      let to : next ≡ first = elim (eqb_tells free 0) [ inl t ↦ absurd (let e = t.1 in omega (arith, some, e)) | inr n ↦ is ∙ ap (λ b. cond b j first) n.0 ] in
      subst (λ x. IsChain (next_of w) x (k ∷ ks)) (sym (ap (λ (x : Cell). x.next) ed.here ∙ to))
      (chain_same (next_of v) (next_of w) first (k ∷ ks) (λ i g. ap (λ (x : Cell). x.next) (ed.elsewhere i (out i g))) f.chain)

  pub released : IsFree w j (free + 1) (j ∷ js)
  released = record {
    chain = (refl, behind js fr apart);
    free = λ k i. elim i [
      | inl e ↦ ap (state_of w) e ∙ ap (λ (x : Cell). x.state) ed.here
      | inr g ↦ ap (λ (x : Cell). x.state) (ed.elsewhere k (apart k g)) ∙ fr.free k g
    ];
    used = λ k i. elim i [ inl e ↦ subst (λ n. n < w.len) (sym e) (subst (λ n. j < n) (sym len) used) | inr g ↦ subst (λ n. k < n) (sym len) (fr.used k g) ];
    distinct = ((λ i. apart j i refl), fr.distinct);
    counted = let n = fr.counted in omega (arith, n);
  }

pub next_used : (v : Slots) (first free j next : ℕ) (js : List ℕ) → IsFree v first free js → j < v.len → next ≡ cond (eqb free 0) j first → next < v.len
next_used v first free j next js fr used is = elim (eqb_tells free 0) [
  | inl t ↦ subst (λ n. n < v.len) (sym (is ∙ ap (λ b. cond b j first) t.0)) used
  | inr n ↦ subst (λ k. k < v.len) (sym (is ∙ ap (λ b. cond b j first) n.0)) (first_used v first free js fr n.1)
]

module _ (a : Inside) (inv : RingsHold a) (w : Slots) (len : w.len ≡ a.nodes.len) (j next : ℕ) (is : next ≡ cond (eqb a.free 0) j a.first_free)
    (ed : Edits a.nodes w j (record { next = next; prev = j; ring = j; value = 0; state = Free })) (seen : Seen View) where
  abbrev z : View
  z = a.seen.view

  abbrev gone : Cell
  gone = record { next = next; prev = j; ring = j; value = 0; state = Free }

  module _ (loose : IsIn j z.loose) (turned : seen.view ≡ member_gone z j) where
    jl : state_of a.nodes j ≡ Loose
    jl = inv.rings.loose j loose

    member_leaves : IsTurned a.nodes w z (member_gone z j) j gone
    member_leaves = record {
      edit = ed;
      more = omega (arith, len);
      within = subst (λ n. j < n) (sym len) (loose_used a.nodes z inv.rings j loose);
      not_linked = λ e. linked_loose (sym e ∙ jl);
      no_link = free_linked;
      no_home = λ k e q. head_loose (sym (inv.rings.listed k e).head ∙ ap (state_of a.nodes) q ∙ jl);
      head_here = inv.rings.heads j ∙ ap is_head jl;
      ring_else = λ k ne. refl;
      ring_here = λ e. absurd (head_free (sym e));
      loose_here = λ i. absurd ((in_without j j z.loose i).1 refl);
      found_here = λ e. absurd (loose_free (sym e));
      loose_else = λ k ne i. (in_without k j z.loose i).0;
      found_else = λ k ne i. still_in k j z.loose i ne;
      tag_here = get_gone z.tags j;
      tag_else = λ k ne. get_left z.tags j k ne;
    }

    pub member_drop : RingsHold (record a { nodes = w; first_free = j; free = a.free + 1; spare_members = a.spare_members + 1; seen = seen })
    member_drop =
        let some : map.contains_key z.tags j ≡ true = ap is_some (inv.rings.tags j ∙ ap (λ t. cond (is_member t) (Some (value_of a.nodes j)) None) jl) in
        let less = len-remove nat_cmp_total z.tags j ∙ ap (λ b. cond b (map.len z.tags - 1) (map.len z.tags)) some in
        let st = inv.stock in let t = st.total in let r = ed.room in let x = st.reserved in let y = st.within in let small = st.small in let m = st.few_members in
        let many : 0 < map.len z.tags = has_some z.tags j some in
        let stock : IsStocked w (member_gone z j) (a.free + 1) a.spare_heads (a.spare_members + 1) = record {
          total = omega (arith, less, many, t, len);
          reserved = omega (arith, x, len, r);
          within = omega (arith, y, len, r);
          small = omega (arith, small, r);
          few_heads = st.few_heads;
          few_members = omega (arith, less, many, m);
        } in
        record {
          rings = subst (AreRings w) (sym turned) (turned_rings a.nodes w z (member_gone z j) j gone inv.rings member_leaves);
          free = subst (λ x. IsFree w j (a.free + 1) x.free) (sym turned) (released a.nodes w a.first_free a.free j next z.free inv.free (λ e. loose_free (sym jl ∙ e)) (loose_used a.nodes z inv.rings j loose) len is ed);
          stock = subst (λ x. IsStocked w x (a.free + 1) a.spare_heads (a.spare_members + 1)) (sym turned) stock;
        }

  module _ (key : map.contains_key z.rings j ≡ true) (empty : list_in z.rings j ≡ []) (turned : seen.view ≡ head_gone z j) where
    jh : state_of a.nodes j ≡ Head
    jh = head_state a.nodes z inv.rings j key

    head_leaves : IsTurned a.nodes w z (head_gone z j) j gone
    head_leaves = record {
      edit = ed;
      more = omega (arith, len);
      within = subst (λ n. j < n) (sym len) (head_used a.nodes z inv.rings j key);
      not_linked = λ e. head_linked (sym jh ∙ e);
      no_link = free_linked;
      no_home = λ k e q. let i : IsIn k [] = subst (IsIn k) (ap (list_in z.rings) q ∙ empty) (inv.rings.listed k e).member in i;
      head_here = ap is_some (get_gone z.rings j);
      ring_else = λ k ne. get_left z.rings j k ne;
      ring_here = λ e. absurd (head_free (sym e));
      loose_here = λ i. absurd (head_loose (sym jh ∙ inv.rings.loose j i));
      found_here = λ e. absurd (loose_free (sym e));
      loose_else = λ k ne i. i;
      found_else = λ k ne i. i;
      tag_here = inv.rings.tags j ∙ ap (λ t. cond (is_member t) (Some (value_of a.nodes j)) None) jh;
      tag_else = λ k ne. refl;
    }

    pub head_drop : RingsHold (record a { nodes = w; first_free = j; free = a.free + 1; spare_heads = a.spare_heads + 1; seen = seen })
    head_drop =
        let less = len-remove nat_cmp_total z.rings j ∙ ap (λ b. cond b (map.len z.rings - 1) (map.len z.rings)) key in
        let st = inv.stock in let t = st.total in let r = ed.room in let x = st.reserved in let y = st.within in let small = st.small in let m = st.few_heads in
        let many : 0 < map.len z.rings = has_some z.rings j key in
        let stock : IsStocked w (head_gone z j) (a.free + 1) (a.spare_heads + 1) a.spare_members = record {
          total = omega (arith, less, many, t, len);
          reserved = omega (arith, x, len, r);
          within = omega (arith, y, len, r);
          small = omega (arith, small, r);
          few_heads = omega (arith, less, many, m);
          few_members = st.few_members;
        } in
        record {
          rings = subst (AreRings w) (sym turned) (turned_rings a.nodes w z (head_gone z j) j gone inv.rings head_leaves);
          free = subst (λ x. IsFree w j (a.free + 1) x.free) (sym turned) (released a.nodes w a.first_free a.free j next z.free inv.free (λ e. head_free (sym jh ∙ e)) (head_used a.nodes z inv.rings j key) len is ed);
          stock = subst (λ x. IsStocked w x (a.free + 1) (a.spare_heads + 1) a.spare_members) (sym turned) stock;
        }

-- where the last spare place is used, and where room was made
pub fits_one : (left spare other n used used' free room room' : ℕ) → left ≡ spare - 1 → (spare ≡ 0 → n - free + spare + other + 1 ≤ room') → n ≡ used → used' ≡ used → free ≤ used
    → spare + other + used ≤ free + room → room ≤ room' → left + other + used' + 1 ≤ free + room'
fits_one left spare other n used used' free room room' l grown is same low reserved more = elim (cases_eq spare 0) [
  | inl none ↦ let g = grown none in omega (arith, g, l, none, is, same, low)
  | inr some ↦ omega (arith, l, some, is, same, low, reserved, more)
]

pub fits_other : (left spare other n used used' free room room' : ℕ) → left ≡ spare - 1 → (spare ≡ 0 → n - free + other + spare + 1 ≤ room') → n ≡ used → used' ≡ used → free ≤ used
    → other + spare + used ≤ free + room → room ≤ room' → other + left + used' + 1 ≤ free + room'
fits_other left spare other n used used' free room room' l grown is same low reserved more = elim (cases_eq spare 0) [
  | inl none ↦ let g = grown none in omega (arith, g, l, none, is, same, low)
  | inr some ↦ omega (arith, l, some, is, same, low, reserved, more)
]

pub few_more : (count spare left : ℕ) → left ≡ spare - 1 → count < MOST_NODES → count + spare ≤ MOST_NODES → count + 1 + left ≤ MOST_NODES
few_more count spare left l low few = omega (arith, l, low, few)

pub free_low : (heads members free used : ℕ) → heads + members + free ≡ used → free ≤ used
free_low heads members free used e = omega (arith, e)
