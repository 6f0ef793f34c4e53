-- Where a call ties a member in, or takes it out.
use Rattle.std.proofs.Common.{◌≡◌, ℕ, ◌+◌, ◌<◌, arith, length, Bool, true, cond, List, [], ◌∷◌, ◌++◌, Option, Some, None, unwrap_or, refl, sym, ap, subst, ◌∙◌, inl, inr}
use Rattle.std.proofs.lemmas.Bool.Decides.{eqb_tells}
use Rattle.std.specs.Option.{ForSome}
use Rattle.std.specs.FinMap as map
use Rattle.item_ring.specs.declared.block.State.TheVariants.{Linked}
use Rattle.item_ring.specs.declared.rings.Rings.TheInside.{Inside}
use Rattle.leda_base.specs.declared.Seen.{Seen}
use Rattle.item_ring.specs.Nodes.{Slots, cell_at, ring_of, value_of, state_of, Edits, Spliced, Unspliced}
use Rattle.item_ring.specs.RingLists.{RingLists, IsIn, IsDistinct, IsHead, IsLoose, IsLinked, IsLinkedIn, AreApart, list_in, ring, with_after}
use Rattle.item_ring.specs.AreRings.{is_head, IsRing}
use Rattle.item_ring.specs.RingsHold.{RingsHold, lists_of}
use Rattle.item_ring.specs.Turns.{linked_as, tied, unlinked}
use Rattle.item_ring.specs.View.{View}
use Rattle.item_ring.proofs.Apart.{head_linked, head_state, linked_at, linked_used, apart_all}
use Rattle.item_ring.proofs.Holds.{IsReady, ready, ring_is, links_rings, links_free, links_stock, out_rings, out_free, out_stock}
use Rattle.item_ring.proofs.Lists.{last_of, last_push, IsCutAt, cut_at, appended, length_put, after_cut}

-- m goes right behind `here` into the ring of h
pub record Plan (a : Inside) (h m here : ℕ) : Type 0 where
  pub key : map.contains_key a.seen.view.rings h ≡ true
  pub loose : IsIn m a.seen.view.loose
  pub fore : List ℕ
  pub aft : List ℕ
  pub split : list_in a.seen.view.rings h ≡ fore ++ aft
  pub at : here ≡ last_of h fore
  pub is : linked_as a.seen.view h m (fore ++ m ∷ aft) ≡ tied a.seen.view h m here

module _ (a : Inside) (inv : RingsHold a) where
  module _ (h m here : ℕ) (key : map.contains_key a.seen.view.rings h ≡ true) (loose : IsIn m a.seen.view.loose) where
    abbrev ring_of_h : List ℕ
    ring_of_h = list_in a.seen.view.rings h

    abbrev goes : Bool → View
    goes b = linked_as a.seen.view h m (cond b (m ∷ ring_of_h) (with_after here m ring_of_h))

    is_ring : IsRing a.nodes h ring_of_h
    is_ring = ring_is a.nodes a.seen.view a.first_free a.free a.spare_heads a.spare_members inv.rings inv.free inv.stock h key

    plan_front : here ≡ h → Plan a h m here
    plan_front e = record {
      key = key;
      loose = loose;
      fore = [];
      aft = ring_of_h;
      split = refl;
      at = e;
      is = elim (eqb_tells here h) [ inl t ↦ ap goes (sym t.0) | inr f ↦ absurd (f.1 e) ];
    }

    plan_after : IsIn here ring_of_h → Plan a h m here
    plan_after i =
        let cut = cut_at here ring_of_h i in
        let whole = subst IsDistinct cut.is is_ring.distinct in
        let put = appended cut.before (here ∷ []) (m ∷ cut.behind) ∙ sym (ap (with_after here m) cut.is ∙ after_cut here m cut.before cut.behind whole) in
        let apart : here ≡ h → ⊥ = λ e. head_linked (sym (head_state a.nodes a.seen.view inv.rings h key) ∙ ap (state_of a.nodes) (sym e) ∙ is_ring.linked here i) in
        record {
          key = key;
          loose = loose;
          fore = cut.before ++ here ∷ [];
          aft = cut.behind;
          split = cut.is ∙ sym (appended cut.before (here ∷ []) cut.behind);
          at = sym (last_push h here cut.before);
          is = ap (linked_as a.seen.view h m) put ∙ elim (eqb_tells here h) [ inl t ↦ absurd (apart t.1) | inr f ↦ ap goes (sym f.0) ];
        }

    plan_behind : (behind : Option ℕ) → ForSome behind (λ at. IsIn at ring_of_h) → here ≡ unwrap_or behind h → Plan a h m here
    plan_behind None i e = plan_front e
    plan_behind (Some at) i e = plan_after (subst (λ k. IsIn k ring_of_h) (sym e) (i at refl))

  -- of what a call of `tie` is given
  pub plan_tie : (s : RingLists) → lists_of a ≡ s → (h m here h' m' : ℕ) (behind : Option ℕ) → h ≡ h' → m ≡ m' → here ≡ unwrap_or behind h'
      → IsHead s h' → IsLoose s m' → ForSome behind (λ at. IsIn at (ring s h')) → Plan a h m here
  plan_tie s seen h m here h' m' behind eh em e head member i =
      let key = subst (λ k. map.contains_key a.seen.view.rings k ≡ true) (sym eh) (subst (λ x. IsHead x h') (sym seen) head) in
      let loose = subst (λ k. IsIn k a.seen.view.loose) (sym em) (subst (λ x. IsLoose x m') (sym seen) member) in
      let there = subst (λ k. ForSome behind (λ at. IsIn at (list_in a.seen.view.rings k))) (sym eh) (subst (λ x. ForSome behind (λ at. IsIn at (ring x h'))) (sym seen) i) in
      plan_behind h m here key loose behind there (e ∙ ap (unwrap_or behind) (sym eh))

  module _ (at : ℕ) (linked : state_of a.nodes at ≡ Linked) where
    pub home_key : map.contains_key a.seen.view.rings (ring_of a.nodes at) ≡ true
    home_key = inv.rings.heads (ring_of a.nodes at) ∙ ap is_head (inv.rings.listed at linked).head

    pub at_used : at < a.nodes.len
    at_used = linked_used a.nodes a.seen.view inv.rings at linked

    module _ (h : ℕ) (home : h ≡ ring_of a.nodes at) where
      out_key : map.contains_key a.seen.view.rings h ≡ true
      out_key = subst (λ k. map.contains_key a.seen.view.rings k ≡ true) (sym home) home_key

      out_cut : IsCutAt at (list_in a.seen.view.rings h)
      out_cut = cut_at at (list_in a.seen.view.rings h) (subst (λ k. IsIn at (list_in a.seen.view.rings k)) (sym home) (inv.rings.listed at linked).member)

      pub out_counted : 0 < value_of a.nodes h
      out_counted =
          let r = ring_is a.nodes a.seen.view a.first_free a.free a.spare_heads a.spare_members inv.rings inv.free inv.stock h out_key in
          let long = length_put at out_cut.before out_cut.behind in
          let cut_long = ap length out_cut.is in
          omega (arith, r.counted, long, cut_long)

      pub out_holds : (u w : Slots) (count : ℕ) (un : Unspliced a.nodes u at) (len : w.len ≡ u.len) (ed : Edits u w h (record (cell_at u h) { value = count })) (counted : count + 1 ≡ value_of a.nodes h)
          (seen : Seen View) (turned : seen.view ≡ unlinked a.seen.view h at) → RingsHold (record a { nodes = w; seen = seen })
      out_holds u w count un len ed counted seen turned = record {
        rings = out_rings a.nodes a.seen.view a.first_free a.free a.spare_heads a.spare_members inv.rings inv.free inv.stock h out_key at out_cut.before out_cut.behind out_cut.is u w count un len ed counted seen.view turned;
        free = out_free a.nodes a.seen.view a.first_free a.free a.spare_heads a.spare_members inv.rings inv.free inv.stock h out_key at out_cut.before out_cut.behind out_cut.is u w count un len ed counted seen.view turned;
        stock = out_stock a.nodes a.seen.view a.first_free a.free a.spare_heads a.spare_members inv.rings inv.free inv.stock h out_key at out_cut.before out_cut.behind out_cut.is u w count un len ed counted seen.view turned;
      }

  -- what a caller knows of a linked member
  pub is_linked : (m : ℕ) → IsLinked (lists_of a) m → state_of a.nodes m ≡ Linked
  is_linked m l = (linked_at a.nodes a.seen.view inv.rings (lists_of a) refl refl refl l.0 m l.1).0

  pub home_is : (h m : ℕ) → IsLinkedIn (lists_of a) h m → ring_of a.nodes m ≡ h
  home_is h m l = (linked_at a.nodes a.seen.view inv.rings (lists_of a) refl refl refl h m l).1

pub apart_now : (a : Inside) → RingsHold a → AreApart (lists_of a)
apart_now a inv = apart_all a.nodes a.seen.view inv.rings (lists_of a) refl refl refl

module _ {a : Inside} (inv : RingsHold a) {h m here : ℕ} (p : Plan a h m here) where
  pub plan_ready : IsReady a.nodes here m h
  plan_ready = ready a.nodes a.seen.view a.first_free a.free a.spare_heads a.spare_members inv.rings inv.free inv.stock h p.key m p.loose here p.fore p.aft p.split p.at

  pub plan_holds : (u w : Slots) (count : ℕ) (sp : Spliced a.nodes u here m h) (len : w.len ≡ u.len) (ed : Edits u w h (record (cell_at u h) { value = count })) (counted : count ≡ value_of a.nodes h + 1)
      (seen : Seen View) (turned : seen.view ≡ tied a.seen.view h m here) → RingsHold (record a { nodes = w; seen = seen })
  plan_holds u w count sp len ed counted seen turned =
      let to = turned ∙ sym p.is in
      record {
        rings = links_rings a.nodes a.seen.view a.first_free a.free a.spare_heads a.spare_members inv.rings inv.free inv.stock h p.key m p.loose here p.fore p.aft p.split p.at u w count sp len ed counted (p.fore ++ m ∷ p.aft) refl seen.view to;
        free = links_free a.nodes a.seen.view a.first_free a.free a.spare_heads a.spare_members inv.rings inv.free inv.stock h p.key m p.loose here p.fore p.aft p.split p.at u w count sp len ed counted (p.fore ++ m ∷ p.aft) refl seen.view to;
        stock = links_stock a.nodes a.seen.view a.first_free a.free a.spare_heads a.spare_members inv.rings inv.free inv.stock h p.key m p.loose here p.fore p.aft p.split p.at u w count sp len ed counted (p.fore ++ m ∷ p.aft) refl seen.view to;
      }
