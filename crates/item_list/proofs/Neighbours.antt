-- What stands beside an item, and at the ends.
use Rattle.std.proofs.Common.{◌≡◌, ℕ, List, [], ◌∷◌, ◌++◌, Option, Some, None, refl, sym, ap, subst, ◌∙◌, inl, inr}
use Rattle.std.specs.FinMap as map
use Rattle.item_pool.specs.Contents.{Contents}
use Rattle.item_ring.specs.RingLists.{RingLists, IsIn, ring, StandsBetween}
use Rattle.item_ring.proofs.Lists.{in_left, in_right, in_either, cut_at}
use Rattle.item_list.specs.declared.node.Node.{Node}
use Rattle.item_list.specs.declared.side.Side.{Side}
use Rattle.item_list.specs.declared.side.Side.TheVariants.{Front, Rear}
use Rattle.item_list.specs.Sides.{end_of, near, near_round}
use Rattle.item_list.specs.Items.{serials, HasBetween}
use Rattle.item_list.specs.Kept.{members, IsHeaded, node, items_of, IsKept, IsNamed}
use Rattle.item_list.proofs.Pairs.{some_same, named_listed, Cut, cut, end_tag, end_none, end_in, near_tag, near_none, round_tag}
use Rattle.item_list.proofs.Steps.{linked, named, tagged_now}

one_of : (r m : ℕ) (cs : List ℕ) → IsIn r (m ∷ []) → IsIn r (m ∷ cs)
one_of r m cs (inl e) = inl e
one_of r m cs (inr f) = absurd f

-- what stands beside m is in the list, and so is what stands beside it round the ends
near_in : (side : Side) (r m : ℕ) (bs cs : List ℕ) → Some r ≡ near side bs cs → IsIn r (bs ++ m ∷ cs)
near_in Front r m bs cs e = in_left r bs (m ∷ cs) (end_in Rear bs r e)
near_in Rear r m bs cs e = in_right r bs (m ∷ cs) (inr (end_in Front cs r e))

round_in : (side : Side) (r m : ℕ) (bs cs : List ℕ) → Some r ≡ near_round side m bs cs → IsIn r (bs ++ m ∷ cs)
round_in Front r m bs cs e = elim (end_in Rear (m ∷ cs ++ bs) r e) [
  | inl w ↦ in_right r bs (m ∷ cs) (inl w)
  | inr i ↦ elim (in_either r cs bs i) [ inl a ↦ in_right r bs (m ∷ cs) (inr a) | inr b ↦ in_left r bs (m ∷ cs) b ]
]
round_in Rear r m bs cs e = elim (in_either r (cs ++ bs) (m ∷ []) (end_in Front (cs ++ bs ++ m ∷ []) r e)) [
  | inl a ↦ elim (in_either r cs bs a) [ inl b ↦ in_right r bs (m ∷ cs) (inr b) | inr d ↦ in_left r bs (m ∷ cs) d ]
  | inr b ↦ in_right r bs (m ∷ cs) (one_of r m cs b)
]

-- the member r is the one beside m, and the one beside it round the ends
abbrev pub LooksBeside : Side → RingLists → ℕ → Option ℕ → Type 0
LooksBeside side s m r = (h : ℕ) (bs cs : List ℕ) → StandsBetween s h m bs cs → r ≡ near side bs cs

abbrev pub LooksRound : Side → RingLists → ℕ → ℕ → Type 0
LooksRound side s m r = (h : ℕ) (bs cs : List ℕ) → StandsBetween s h m bs cs → Some r ≡ near_round side m bs cs

module _ {X : Type 0} (side : Side) (s : RingLists) (head : Option ℕ) (p : Contents (Node X)) (kept : IsKept s head p) where
  -- the end of the ring
  pub end_named : (h m : ℕ) → head ≡ Some h → Some m ≡ end_of side (ring s h) → IsNamed s p m
  end_named h m is e = named s head p kept m (end_in side (members s head) m (e ∙ ap (λ o. end_of side (members s o)) (sym is)))

  pub end_is : (h m k : ℕ) → head ≡ Some h → Some m ≡ end_of side (ring s h) → map.get s.tags m ≡ Some k → Some k ≡ end_of side (serials (items_of s head p).pairs)
  end_is h m k is e tag = end_tag side s.tags (members s head) (serials (items_of s head p).pairs) (tagged_now s head p kept) m k (e ∙ ap (λ o. end_of side (members s o)) (sym is)) tag

  pub end_is_none : (h : ℕ) → head ≡ Some h → None ≡ end_of side (ring s h) → None ≡ end_of side (serials (items_of s head p).pairs)
  end_is_none h is e = end_none side s.tags (members s head) (serials (items_of s head p).pairs) (tagged_now s head p kept) (e ∙ ap (λ o. end_of side (members s o)) (sym is))

  module _ (k : ℕ) (n : Node X) (e : map.get p.live k ≡ Some n) where
    -- a member beside another is in the ring
    inside : (r : ℕ) → ((h : ℕ) (bs cs : List ℕ) → StandsBetween s h n.member bs cs → IsIn r (bs ++ n.member ∷ cs)) → IsNamed s p r
    inside r stands =
        let l = linked s head p kept k n e in
        let c = cut_at n.member (ring s l.0) l.1.1.member in
        let i = stands l.0 c.before c.behind (record { head = l.1.1.head; is = c.is }) in
        named s head p kept r (subst (IsIn r) (ap (members s) (sym l.1.0)) (subst (IsIn r) (sym c.is) i))

    pub near_named : (r : Option ℕ) → LooksBeside side s n.member r → (m : ℕ) → r ≡ Some m → IsNamed s p m
    near_named r looks m is = inside m (λ h bs cs b. near_in side m n.member bs cs (sym is ∙ looks h bs cs b))

    pub round_named : (r : ℕ) → LooksRound side s n.member r → IsNamed s p r
    round_named r looks = inside r (λ h bs cs b. round_in side r n.member bs cs (looks h bs cs b))

    -- the neighbours of an item
    module _ (before behind : List ℕ) (has : HasBetween (items_of s head p) k before behind) where
      around : Cut s.tags (members s head) k before behind
      around = cut s.tags k before behind (members s head) (serials (items_of s head p).pairs) (tagged_now s head p kept) has

      mid_in : IsIn around.mid (members s head)
      mid_in = subst (IsIn around.mid) (sym around.is) (in_right around.mid around.front (around.mid ∷ around.rear) (inl refl))

      mid_is : around.mid ≡ n.member
      mid_is =
          let w = named_listed s.tags p.live around.mid (members s head) kept.pairs kept.listed mid_in in
          let j : w.0 ≡ k = some_same w.0 k (sym w.1.1.tag ∙ around.tag) in
          ap (λ (o : Node X). o.member) (some_same (node w.1.0 around.mid) n (sym w.1.1.node ∙ ap (map.get p.live) j ∙ e))

      stands : (h : ℕ) × StandsBetween s h n.member around.front around.rear
      stands = let l = linked s head p kept k n e in (
        l.0,
        record {
          head = subst (IsHeaded s) l.1.0 kept.headed;
          is = ap (members s) (sym l.1.0) ∙ around.is ∙ ap (λ m. around.front ++ m ∷ around.rear) mid_is;
        },
      )

      mid_tag : map.get s.tags n.member ≡ Some k
      mid_tag = ap (map.get s.tags) (sym mid_is) ∙ around.tag

      pub near_is : (r : Option ℕ) → LooksBeside side s n.member r → (m j : ℕ) → r ≡ Some m → map.get s.tags m ≡ Some j → Some j ≡ near side before behind
      near_is r looks m j is tag = near_tag side s.tags around.front around.rear before behind around.fronts around.rears m j (sym is ∙ looks stands.0 around.front around.rear stands.1) tag

      pub near_is_none : (r : Option ℕ) → LooksBeside side s n.member r → r ≡ None → None ≡ near side before behind
      near_is_none r looks is = near_none side s.tags around.front around.rear before behind around.fronts around.rears (sym is ∙ looks stands.0 around.front around.rear stands.1)

      pub round_is : (r j : ℕ) → LooksRound side s n.member r → map.get s.tags r ≡ Some j → Some j ≡ near_round side k before behind
      round_is r j looks tag = round_tag side s.tags around.front around.rear before behind around.fronts around.rears n.member k mid_tag r j (looks stands.0 around.front around.rear stands.1) tag
