-- Which members stand in no ring, step by step.
use Rattle.std.proofs.Common.{◌≡◌, Bool, ◌∷◌, Some, sym, ap, subst, ◌∙◌, ◌⊎◌, inl, inr}
use Rattle.item_ring.specs.RingLists.{RingLists, IsIn, IsLoose}
use Rattle.item_ring.specs.RingLists as ring
use Rattle.item_ring.proofs.Lists.{still_in}
use Rattle.graph_state.specs.declared.name.Element.{Element}
use Rattle.graph_state.proofs.Has.{some_same}
use Rattle.graph_lists.specs.declared.token.Hook.{Hook}
use Rattle.graph_lists.specs.Named.{Named, hook_at, pick_member}
use Rattle.graph_lists.specs.Tied.{AreMembers, AreLoose}
use Rattle.graph_lists.proofs.Rows.{same_member}

module _ (v : Named) (r t : RingLists) (P Q : Bool → Element → Type 0) where
  pub loose_linked : (c : Bool) (x : Element) (w : Hook) → AreMembers v r → AreLoose v r P → hook_at v x ≡ Some w → t.loose ≡ ring.without (pick_member c w) r.loose
      → ((b : Bool) (y : Element) → Q b y → P b y × ((b ≡ c) × (y ≡ x) → ⊥)) → AreLoose v t Q
  loose_linked c x w are loose there e q b y u at has =
      let p = q b y has in
      subst (IsIn (pick_member b u)) (sym e) (still_in (pick_member b u) (pick_member c w) r.loose (loose b y u at p.0)
      (λ same. p.1 (same_member v r b c y x (pick_member b u) (pick_member c w) (are b y u at) (are c x w there) same)))

  pub loose_unlinked : (c : Bool) (x : Element) (w : Hook) → AreLoose v r P → hook_at v x ≡ Some w → t.loose ≡ pick_member c w ∷ r.loose
      → ((b : Bool) (y : Element) → Q b y → P b y ⊎ ((b ≡ c) × (y ≡ x))) → AreLoose v t Q
  loose_unlinked c x w loose there e q b y u at has =
      subst (IsIn (pick_member b u)) (sym e) (elim (q b y has) [
        | inl p ↦ inr (loose b y u at p)
        | inr s ↦ inl (ap (λ d. pick_member d u) s.0 ∙ ap (pick_member c) (some_same (sym at ∙ ap (hook_at v) s.1 ∙ there)))
      ])

  pub loose_as : AreLoose v r P → t.loose ≡ r.loose → ((b : Bool) (y : Element) → Q b y → P b y) → AreLoose v t Q
  loose_as loose e q b y u at has = subst (IsIn (pick_member b u)) (sym e) (loose b y u at (q b y has))
