-- A value comes in, or is turned away.
use Rattle.std.proofs.Common.{◌≡◌, ℕ, ◌+◌, ◌<◌, ◌≤◌, Bool, true, false, cond, List, [], Option, Some, None, is_some, refl, sym, ap, subst, ◌∙◌, ◌⊎◌, inl, inr, arith}
use Rattle.std.proofs.lemmas.Bool.Decides.{eqb_tells}
use Rattle.std.specs.Ordering.{nat_cmp}
use Rattle.std.specs.Cmp.{nat_cmp_total}
use Rattle.std.specs.FinMap as map
use Rattle.std.specs.FinMap.{FinMap, len-insert}
use Rattle.item_pool.specs.declared.pool.TheConstants.{MOST_SERIALS}
use Rattle.item_pool.specs.Contents.{Contents}
use Rattle.item_pool.specs.declared.pool.Item.{Item}
use Rattle.item_pool.specs.declared.pool.InsertRefusal.{InsertRefusal}
use Rattle.item_pool.specs.declared.pool.InsertRefusal.TheVariants.{NoMemory, Spent}
use Rattle.item_ring.specs.RingLists.{RingLists, IsIn, IsLinkedIn, AreApart, ring, list_in}
use Rattle.item_ring.proofs.Maps.{get_new, get_else}
use Rattle.item_list.specs.declared.node.Node.{Node}
use Rattle.item_list.specs.declared.side.Side.{Side}
use Rattle.item_list.specs.Sides.{with_at, with_beside, pairs_beside}
use Rattle.item_list.specs.Items.{Items, items, Enters, HasItem, Returns, ReturnsBeside, beside_of}
use Rattle.item_list.specs.Kept.{members, IsHeaded, Opens, node, IsListed, items_of, IsKept, Makes, Comes, Declined}
use Rattle.item_list.proofs.Pairs.{some_same, some_none, listed_same, IsPair, listed_at, listed_beside}
use Rattle.item_list.proofs.Beside.{in_at, at_in, in_beside, beside_in}
use Rattle.item_list.proofs.Steps.{members_new, headed_new, items_are, items_now}

missing : {Y : Type 0} (o : Option Y) → is_some o ≡ false → o ≡ None
missing None e = refl
missing (Some y) e = cc

module _ {X : Type 0} where
  -- there was a value that came in, and its member is linked
  module _ (s a b t : RingLists) (before after : Option ℕ) (p q : Contents (Node X)) (h m : ℕ) (it : Item) (x : X)
      (kept : IsKept s before p) (opens : Opens s a before after h) (makes : Makes a b p q m it x) (ys : List ℕ) (zs : List (ℕ × X)) where
    pub old_tags : (j k : ℕ) → map.get s.tags j ≡ Some k → map.get b.tags j ≡ Some k
    old_tags j k e =
        let f : map.get a.tags m ≡ None = missing (map.get a.tags m) makes.fresh in
        let ea : map.get a.tags j ≡ Some k = ap (λ (r : FinMap nat_cmp ℕ). map.get r j) opens.tags ∙ e in
        ap (λ (r : FinMap nat_cmp ℕ). map.get r j) makes.tags
        ∙ get_else a.tags m (p.made + 1) j (λ w. some_none k (sym ea ∙ ap (map.get a.tags) w ∙ f)) ∙ ea

    pub old_live : (j : ℕ) (n : Node X) → map.get p.live j ≡ Some n → map.get q.live j ≡ Some n
    old_live j n e =
        let w = kept.within.0 j n e in
        ap (λ (r : FinMap nat_cmp (Node X)). map.get r j) makes.live
        ∙ get_else p.live (p.made + 1) (node x m) j (λ f. let clash : ⊥ = omega (arith, w.1, f) in clash) ∙ e

    pub old_listed : IsListed b.tags q.live (members s before) kept.pairs
    old_listed = listed_same s.tags b.tags p.live q.live old_tags old_live (members s before) kept.pairs kept.listed

    pub new_pair : IsPair b.tags q.live m (p.made + 1) x
    new_pair = record {
      tag = ap (λ (r : FinMap nat_cmp ℕ). map.get r m) makes.tags ∙ get_new a.tags m (p.made + 1);
      node = ap (λ (r : FinMap nat_cmp (Node X)). map.get r (p.made + 1)) makes.live ∙ get_new p.live (p.made + 1) (node x m);
    }

    at_most : (v : Bool) (n k : ℕ) → k ≡ cond v n (n + 1) → k ≤ n + 1
    at_most true n k e = omega (arith, e)
    at_most false n k e = omega (arith, e)

    few_tags : map.len b.tags ≤ q.made
    few_tags =
        let e : map.len b.tags ≡ cond (map.contains_key a.tags m) (map.len a.tags) (map.len a.tags + 1) = ap map.len makes.tags ∙ len-insert nat_cmp_total a.tags m (p.made + 1) in
        let f = at_most (map.contains_key a.tags m) (map.len a.tags) (map.len b.tags) e in
        let g : map.len a.tags ≡ map.len s.tags = ap map.len opens.tags in
        omega (arith, f, g, kept.few, makes.made)

    given : (j : ℕ) (n : Node X) → map.get q.live j ≡ Some n → (0 < j) × (j ≤ q.made)
    given j n e = elim (eqb_tells j (p.made + 1)) [
      | inl w ↦ (omega (arith, w.1), omega (arith, w.1, makes.made))
      | inr w ↦
          let e0 : map.get p.live j ≡ Some n = sym (get_else p.live (p.made + 1) (node x m) j w.1) ∙ sym (ap (λ (r : FinMap nat_cmp (Node X)). map.get r j) makes.live) ∙ e in
          let g = kept.within.0 j n e0 in
          (g.0, omega (arith, g.1, makes.made))
    ]

    pub kept_in : t.rings ≡ map.insert b.rings h ys → t.tags ≡ b.tags → AreApart t → IsListed b.tags q.live ys zs
        → (olds : (j : ℕ) → IsIn j (members s before) → IsIn j ys) → IsIn m ys → IsKept t after q
    kept_in rings tags apart listed olds here = subst (λ o. IsKept t o q) (sym opens.head) (record {
      pairs = zs;
      listed = subst (λ (g : FinMap nat_cmp ℕ). IsListed g q.live (members t (Some h)) zs) (sym tags) (subst (λ ms. IsListed b.tags q.live ms zs) (sym (members_new t b.rings h ys rings)) listed);
      found = λ j n e. elim (eqb_tells j (p.made + 1)) [
        | inl w ↦
            let same : n ≡ node x m = some_same n (node x m) (sym e ∙ ap (map.get q.live) w.1 ∙ new_pair.node) in (
              subst (λ ms. IsIn n.member ms) (sym (members_new t b.rings h ys rings)) (subst (λ (o : Node X). IsIn o.member ys) (sym same) here),
              ap (λ (r : FinMap nat_cmp ℕ). map.get r n.member) tags ∙ ap (λ (o : Node X). map.get b.tags o.member) same ∙ new_pair.tag ∙ ap Some (sym w.1),
            )
        | inr w ↦
            let e0 : map.get p.live j ≡ Some n = sym (get_else p.live (p.made + 1) (node x m) j w.1) ∙ sym (ap (λ (r : FinMap nat_cmp (Node X)). map.get r j) makes.live) ∙ e in
            let f = kept.found j n e0 in (
              subst (λ ms. IsIn n.member ms) (sym (members_new t b.rings h ys rings)) (olds n.member f.0),
              ap (λ (r : FinMap nat_cmp ℕ). map.get r n.member) tags ∙ old_tags n.member j f.1,
            )
      ];
      headed = headed_new t b.rings h ys rings;
      apart = apart;
      within = (given, omega (arith, makes.made, makes.room));
      few = subst (λ (g : FinMap nat_cmp ℕ). map.len g ≤ q.made) (sym tags) few_tags;
    })

    pub items_in : t.rings ≡ map.insert b.rings h ys → t.tags ≡ b.tags → IsListed b.tags q.live ys zs → items_of t after q ≡ items zs (p.made + 1)
    items_in rings tags listed =
        ap (λ o. items_of t o q) opens.head
        ∙ items_now t (Some h) q zs (p.made + 1) (subst (λ (g : FinMap nat_cmp ℕ). IsListed g q.live (members t (Some h)) zs) (sym tags) (subst (λ ms. IsListed b.tags q.live ms zs) (sym (members_new t b.rings h ys rings)) listed)) makes.made

  -- a value that didn't come in leaves the list as it was
  module _ (s t : RingLists) (before after : Option ℕ) (p q : Contents (Node X)) (x : X) (why : InsertRefusal X) (kept : IsKept s before p) (refused : Declined s t before after p q x why) where
    members_same : (((t ≡ s) × (after ≡ before)) ⊎ ((h : ℕ) × Opens s t before after h)) → (members t after ≡ members s before) × (t.tags ≡ s.tags) × IsHeaded t after × AreApart t
    members_same (inl e) = (
      ap (λ (r : RingLists). members r after) e.0 ∙ ap (members s) e.1,
      ap (λ (r : RingLists). r.tags) e.0,
      subst (λ (r : RingLists). IsHeaded r after) (sym e.0) (subst (IsHeaded s) (sym e.1) kept.headed),
      subst AreApart (sym e.0) kept.apart,
    )
    members_same (inr e) = (ap (members t) e.1.head ∙ e.1.ring, e.1.tags, subst (IsHeaded t) (sym e.1.head) e.1.headed, e.1.apart)

    same : (members t after ≡ members s before) × (t.tags ≡ s.tags) × IsHeaded t after × AreApart t
    same = members_same refused.rings

    listed_now : IsListed t.tags q.live (members t after) kept.pairs
    listed_now =
        subst (λ ms. IsListed t.tags q.live ms kept.pairs) (sym same.0)
        (subst (λ (g : FinMap nat_cmp ℕ). IsListed g q.live (members s before) kept.pairs) (sym same.1)
        (subst (λ (l : FinMap nat_cmp (Node X)). IsListed s.tags l (members s before) kept.pairs) (sym refused.live) kept.listed))

    pub kept_out : IsKept t after q
    kept_out = record {
      pairs = kept.pairs;
      listed = listed_now;
      found = λ j n e.
          let f = kept.found j n (ap (λ (l : FinMap nat_cmp (Node X)). map.get l j) (sym refused.live) ∙ e) in
          (subst (IsIn n.member) (sym same.0) f.0, ap (λ (g : FinMap nat_cmp ℕ). map.get g n.member) same.1 ∙ f.1);
      headed = same.2;
      apart = same.3;
      within = (
        λ j n e. let w = kept.within.0 j n (ap (λ (l : FinMap nat_cmp (Node X)). map.get l j) (sym refused.live) ∙ e) in (w.0, subst (λ k. j ≤ k) (sym refused.made) w.1),
        subst (λ k. k ≤ MOST_SERIALS) (sym refused.made) kept.within.1,
      );
      few = subst (λ (g : FinMap nat_cmp ℕ). map.len g ≤ q.made) (sym same.1) (subst (λ k. map.len s.tags ≤ k) (sym refused.made) kept.few);
    }

    pub items_out : items_of t after q ≡ items_of s before p
    items_out = items_now t after q kept.pairs p.made listed_now refused.made ∙ sym (items_are s before p kept)

  -- a value that came in stands where its member was linked
  module _ (s b t : RingLists) (before after : Option ℕ) (p q : Contents (Node X)) (h m : ℕ) (it : Item) (x : X) (kept : IsKept s before p) (come : Comes s b before after p q h m it x)
      (tags : t.tags ≡ b.tags) (apart : AreApart t) where
    pub ring_is : ring b h ≡ members s before
    ring_is = ap (λ r. list_in r h) come.makes.rings ∙ come.opens.ring

    old : (items_of s before p).pairs ≡ kept.pairs
    old = ap (λ (l : Items X). l.pairs) (items_are s before p kept)

    in_ring : (ys : List ℕ) (zs us : List (ℕ × X)) → t.rings ≡ map.insert b.rings h ys → IsListed b.tags q.live ys zs → ((j : ℕ) → IsIn j (members s before) → IsIn j ys) → IsIn m ys → zs ≡ us
        → IsKept t after q × Enters (items_of s before p) (items_of t after q) it us
    in_ring ys zs us rings listed olds here e = (
      kept_in s come.mid b t before after p q h m it x kept come.opens come.makes ys zs rings tags apart listed olds here,
      record {
        serial = come.makes.serial;
        pairs = ap (λ (l : Items X). l.pairs) (items_in s come.mid b t before after p q h m it x kept come.opens come.makes ys zs rings tags listed) ∙ e;
        made = come.makes.made;
        within = come.makes.room;
      },
    )

    listed_old : IsListed b.tags q.live (members s before) kept.pairs
    listed_old = old_listed s come.mid b t before after p q h m it x kept come.opens come.makes [] []

    pair_new : IsPair b.tags q.live m (p.made + 1) x
    pair_new = new_pair s come.mid b t before after p q h m it x kept come.opens come.makes [] []

    pub enters_at : (side : Side) → t.rings ≡ map.insert b.rings h (with_at side m (ring b h)) → IsKept t after q × Enters (items_of s before p) (items_of t after q) it (with_at side (p.made + 1, x) (items_of s before p).pairs)
    enters_at side rings = in_ring (with_at side m (members s before)) (with_at side (p.made + 1, x) kept.pairs) (with_at side (p.made + 1, x) (items_of s before p).pairs)
        (rings ∙ ap (λ ms. map.insert b.rings h (with_at side m ms)) ring_is) (listed_at b.tags q.live m (p.made + 1) x pair_new side (members s before) kept.pairs listed_old)
        (λ j i. in_at side j m (members s before) i) (at_in side m (members s before)) (ap (with_at side (p.made + 1, x)) (sym old))

    module _ (k : ℕ) (n : Node X) (e : map.get p.live k ≡ Some n) where
      pub beside_linked : IsLinkedIn b h n.member
      beside_linked = record {
        head = ap (λ r. is_some (map.get r h)) come.makes.rings ∙ come.opens.headed;
        member = subst (IsIn n.member) (sym ring_is) (kept.found k n e).0;
      }

      pair_old : IsPair b.tags q.live n.member k n.value
      pair_old = record {
        tag = old_tags s come.mid b t before after p q h m it x kept come.opens come.makes [] [] n.member k (kept.found k n e).1;
        node = old_live s come.mid b t before after p q h m it x kept come.opens come.makes [] [] k n e;
      }

      pub enters_beside : (side : Side) → ((g : ℕ) → IsLinkedIn b g n.member → t.rings ≡ map.insert b.rings g (with_beside side n.member m (ring b g)))
          → IsKept t after q × Enters (items_of s before p) (items_of t after q) it (pairs_beside side k (p.made + 1, x) (items_of s before p).pairs)
      enters_beside side rings = in_ring (with_beside side n.member m (members s before)) (pairs_beside side k (p.made + 1, x) kept.pairs) (pairs_beside side k (p.made + 1, x) (items_of s before p).pairs)
          (rings h beside_linked ∙ ap (λ ms. map.insert b.rings h (with_beside side n.member m ms)) ring_is)
          (listed_beside b.tags q.live n.member k n.value pair_old side m (p.made + 1) x pair_new (members s before) kept.pairs listed_old)
          (λ j i. in_beside side j n.member m (members s before) i) (beside_in side n.member m (members s before) (kept.found k n e).0) (ap (pairs_beside side k (p.made + 1, x)) (sym old))

  pub beside_returns : (l : Items X) (s : ℕ) (x : X) (why : InsertRefusal X) → HasItem l s → Returns (items {X = X} [] l.made) x why → ReturnsBeside l s x (beside_of why)
  beside_returns l s x (NoMemory y) has r = (r.0, has, r.1)
  beside_returns l s x (Spent y) has r = (r.0, has, r.1)
