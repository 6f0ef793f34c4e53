-- What each step leaves of a list.
use Rattle.std.proofs.Common.{◌≡◌, ℕ, ◌-◌, ◌<◌, ◌≤◌, Bool, true, false, cond, List, [], ◌∷◌, length, suc, Option, Some, None, is_some, refl, sym, ap, subst, ◌∙◌, ◌⊎◌, inl, inr, arith}
use Rattle.std.proofs.lemmas.Bool.Decides.{eqb_tells}
use Rattle.std.specs.Ordering.{nat_cmp}
use Rattle.std.specs.Cmp.{nat_cmp_total}
use Rattle.std.specs.FinMap as map
use Rattle.std.specs.FinMap.{FinMap, get-empty, len-empty, len-remove}
use Rattle.item_pool.specs.declared.pool.TheConstants.{MOST_SERIALS}
use Rattle.item_pool.specs.Contents.{Contents, contents, IsWithin}
use Rattle.item_pool.specs.Contents as pool
use Rattle.item_pool.specs.declared.pool.Gone.{Gone}
use Rattle.item_ring.specs.RingLists.{RingLists, IsIn, IsDistinct, IsHead, IsLinked, IsLinkedIn, AreApart, ring, list_in, without}
use Rattle.item_ring.proofs.Maps.{get_new, get_else, get_gone, get_left}
use Rattle.item_ring.proofs.Apart.{list_new}
use Rattle.item_ring.proofs.Lists.{still_in}
use Rattle.item_list.specs.declared.node.Node.{Node}
use Rattle.item_list.specs.declared.side.Side.{Side}
use Rattle.item_list.specs.Sides.{with_at}
use Rattle.item_list.specs.Items.{Items, items, serials, pairs_without, Holds, Lacks, pairs_with, AreItems}
use Rattle.item_list.specs.Kept.{members, IsHeaded, Opens, node, IsListed, items_of, IsKept, IsNamed}
use Rattle.item_list.proofs.Beside.{in_at, at_in}
use Rattle.item_list.proofs.Pairs.{some_same, some_none, pairs_are, IsPair, listed_without, listed_at, listed_with, value_there, value_gone, Tagged, tags_listed, named_listed}

-- the member of a live serial is linked into the ring of the head
linked_in : (s : RingLists) (head : Option ℕ) (m : ℕ) → IsHeaded s head → IsIn m (members s head) → (h : ℕ) × ((head ≡ Some h) × IsLinkedIn s h m)
linked_in s None m e i = absurd i
linked_in s (Some h) m e i = (h, (refl, record { head = e; member = i }))

-- the ring of the head is now the list ys
pub members_new : (t : RingLists) (rings : FinMap nat_cmp (List ℕ)) (h : ℕ) (ys : List ℕ) → t.rings ≡ map.insert rings h ys → members t (Some h) ≡ ys
members_new t rings h ys e = ap (λ r. list_in r h) e ∙ list_new rings h ys

pub headed_new : (t : RingLists) (rings : FinMap nat_cmp (List ℕ)) (h : ℕ) (ys : List ℕ) → t.rings ≡ map.insert rings h ys → IsHeaded t (Some h)
headed_new t rings h ys e = ap (λ r. is_some (map.get r h)) e ∙ ap is_some (get_new rings h ys)

is_none : (head : Option ℕ) → ((h : ℕ) → head ≡ Some h → ⊥) → head ≡ None
is_none None out = refl
is_none (Some h) out = absurd (out h refl)

pub empty_few : (s : RingLists) (head : Option ℕ) → IsHeaded s head → ((h : ℕ) → head ≡ Some h → ⊥) → map.len s.rings < MOST_SERIALS
empty_few s head e out =
    let f : s.rings ≡ map.empty = subst (IsHeaded s) (is_none head out) e in
    let z : map.len s.rings ≡ 0 = ap map.len f ∙ len-empty nat_cmp (List ℕ) in
    omega (arith, z)

pub opened : (s t : RingLists) (head : Option ℕ) (h : ℕ) → ((k : ℕ) → head ≡ Some k → ⊥) → t.rings ≡ map.insert s.rings h [] → t.tags ≡ s.tags → AreApart t → Opens s t head (Some h) h
opened s t head h out rings tags apart = record {
  head = refl;
  headed = headed_new t s.rings h [] rings;
  ring = members_new t s.rings h [] rings ∙ sym (ap (members s) (is_none head out));
  tags = tags;
  apart = apart;
}

members_apart : (s : RingLists) (head : Option ℕ) → IsHeaded s head → AreApart s → IsDistinct (members s head)
members_apart s None e a = tt
members_apart s (Some h) e a = a.distinct h e

module _ {X : Type 0} where
  pub items_are : (s : RingLists) (head : Option ℕ) (p : Contents (Node X)) (k : IsKept s head p) → items_of s head p ≡ items k.pairs p.made
  items_are s head p k = ap (λ ps. items ps p.made) (pairs_are s.tags p.live (members s head) k.pairs k.listed)

  pub items_now : (s : RingLists) (head : Option ℕ) (p : Contents (Node X)) (ps : List (ℕ × X)) (made : ℕ) → IsListed s.tags p.live (members s head) ps → p.made ≡ made → items_of s head p ≡ items ps made
  items_now s head p ps made l e = ap (λ qs. items qs p.made) (pairs_are s.tags p.live (members s head) ps l) ∙ ap (items ps) e

  -- the pair of a live serial
  pub pair_of : (s : RingLists) (head : Option ℕ) (p : Contents (Node X)) → IsKept s head p → (k : ℕ) (n : Node X) → map.get p.live k ≡ Some n → IsPair s.tags p.live n.member k n.value
  pair_of s head p kept k n e = record { tag = (kept.found k n e).1; node = e }

  pub holds : (s : RingLists) (head : Option ℕ) (p : Contents (Node X)) → IsKept s head p → (k : ℕ) (n : Node X) → map.get p.live k ≡ Some n → Holds (items_of s head p) k n.value
  holds s head p kept k n e =
      subst (λ l. Holds l k n.value) (sym (items_are s head p kept))
      (value_there s.tags p.live n.member k n.value (pair_of s head p kept k n e) (members s head) kept.pairs kept.listed (kept.found k n e).0)

  pub lacks : (s : RingLists) (head : Option ℕ) (p : Contents (Node X)) → IsKept s head p → (k : ℕ) (why : Gone) → pool.Lacks p k why → Lacks (items_of s head p) k why
  lacks s head p kept k why none =
      subst (λ l. Lacks l k why) (sym (items_are s head p kept)) (value_gone s.tags p.live k none.0 (members s head) kept.pairs kept.listed, none.1)

  pub linked : (s : RingLists) (head : Option ℕ) (p : Contents (Node X)) → IsKept s head p → (k : ℕ) (n : Node X) → map.get p.live k ≡ Some n → (h : ℕ) × ((head ≡ Some h) × IsLinkedIn s h n.member)
  linked s head p kept k n e = linked_in s head n.member kept.headed (kept.found k n e).0

  pub is_linked : (s : RingLists) (head : Option ℕ) (p : Contents (Node X)) → IsKept s head p → (k : ℕ) (n : Node X) → map.get p.live k ≡ Some n → IsLinked s n.member
  is_linked s head p kept k n e = let l = linked s head p kept k n e in (l.0, l.1.1)

  -- the value of a live serial goes out
  module _ (s t : RingLists) (head : Option ℕ) (p q : Contents (Node X)) (kept : IsKept s head p) (k : ℕ) (n : Node X) (e : map.get p.live k ≡ Some n)
      (rings : (h : ℕ) → IsLinkedIn s h n.member → t.rings ≡ map.insert s.rings h (without n.member (ring s h)))
      (tags : t.tags ≡ map.remove s.tags n.member) (apart : AreApart t) (live : q.live ≡ map.remove p.live k) (made : q.made ≡ p.made) where
    less : (v : Bool) (a b : ℕ) → b ≡ cond v (a - 1) a → b ≤ a
    less true a b w = omega (arith, w)
    less false a b w = omega (arith, w)

    members_left : members t head ≡ without n.member (members s head)
    members_left =
        let l = linked s head p kept k n e in
        ap (members t) l.1.0 ∙ members_new t s.rings l.0 (without n.member (ring s l.0)) (rings l.0 l.1.1) ∙ ap (λ o. without n.member (members s o)) (sym l.1.0)

    headed_left : IsHeaded t head
    headed_left =
        let l = linked s head p kept k n e in
        subst (IsHeaded t) (sym l.1.0) (headed_new t s.rings l.0 (without n.member (ring s l.0)) (rings l.0 l.1.1))

    tags_else : (j : ℕ) → (j ≡ n.member → ⊥) → map.get t.tags j ≡ map.get s.tags j
    tags_else j ne = ap (λ (r : FinMap nat_cmp ℕ). map.get r j) tags ∙ get_left s.tags n.member j ne

    live_else : (j : ℕ) → (j ≡ k → ⊥) → map.get q.live j ≡ map.get p.live j
    live_else j ne = ap (λ (r : FinMap nat_cmp (Node X)). map.get r j) live ∙ get_left p.live k j ne

    live_gone : map.get q.live k ≡ None
    live_gone = ap (λ (r : FinMap nat_cmp (Node X)). map.get r k) live ∙ get_gone p.live k

    listed_left : IsListed t.tags q.live (members t head) (pairs_without k kept.pairs)
    listed_left =
        subst (λ ms. IsListed t.tags q.live ms (pairs_without k kept.pairs)) (sym members_left)
        (listed_without s.tags t.tags p.live q.live n.member k n.value (pair_of s head p kept k n e) tags_else live_else (members s head) kept.pairs kept.listed)

    -- a serial that is still live is another one
    other : (j : ℕ) (o : Node X) → map.get q.live j ≡ Some o → (j ≡ k → ⊥)
    other j o f w = some_none o (sym f ∙ ap (map.get q.live) w ∙ live_gone)

    was : (j : ℕ) (o : Node X) → map.get q.live j ≡ Some o → map.get p.live j ≡ Some o
    was j o f = sym (live_else j (other j o f)) ∙ f

    elsewhere : (j : ℕ) (o : Node X) → map.get q.live j ≡ Some o → (o.member ≡ n.member → ⊥)
    elsewhere j o f w =
        let a = (kept.found j o (was j o f)).1 in
        let b = (kept.found k n e).1 in
        other j o f (some_same j k (sym a ∙ ap (map.get s.tags) w ∙ b))

    pub kept_left : IsKept t head q
    kept_left = record {
      pairs = pairs_without k kept.pairs;
      listed = listed_left;
      found = λ j o f.
          let a = kept.found j o (was j o f) in
          (subst (IsIn o.member) (sym members_left) (still_in o.member n.member (members s head) a.0 (elsewhere j o f)), tags_else o.member (elsewhere j o f) ∙ a.1);
      headed = headed_left;
      apart = apart;
      within = (
        λ j o f. let w = kept.within.0 j o (was j o f) in (w.0, subst (λ z. j ≤ z) (sym made) w.1),
        subst (λ z. z ≤ MOST_SERIALS) (sym made) kept.within.1,
      );
      few =
          let w = less (map.contains_key s.tags n.member) (map.len s.tags) (map.len t.tags) (ap map.len tags ∙ len-remove nat_cmp_total s.tags n.member) in
          omega (arith, w, kept.few, made);
    }

    pub items_left : items_of t head q ≡ items (pairs_without k (items_of s head p).pairs) (items_of s head p).made
    items_left =
        items_now t head q (pairs_without k kept.pairs) p.made listed_left made
        ∙ ap (λ (l : Items X). items (pairs_without k l.pairs) l.made) (sym (items_are s head p kept))

  -- the members stand in another order
  module _ (s t : RingLists) (head : Option ℕ) (p : Contents (Node X)) (kept : IsKept s head p) (rings : FinMap nat_cmp (List ℕ)) (h : ℕ) (ys : List ℕ) (zs : List (ℕ × X))
      (is : head ≡ Some h) (now : t.rings ≡ map.insert rings h ys) (tags : t.tags ≡ s.tags) (apart : AreApart t) (listed : IsListed s.tags p.live ys zs)
      (olds : (j : ℕ) → IsIn j (members s head) → IsIn j ys) where
    members_moved : members t head ≡ ys
    members_moved = ap (members t) is ∙ members_new t rings h ys now

    listed_moved : IsListed t.tags p.live (members t head) zs
    listed_moved = subst (λ ms. IsListed t.tags p.live ms zs) (sym members_moved) (subst (λ (g : FinMap nat_cmp ℕ). IsListed g p.live ys zs) (sym tags) listed)

    pub kept_moved : IsKept t head p
    kept_moved = record {
      pairs = zs;
      listed = listed_moved;
      found = λ j o f.
          let a = kept.found j o f in
          (subst (IsIn o.member) (sym members_moved) (olds o.member a.0), ap (λ (g : FinMap nat_cmp ℕ). map.get g o.member) tags ∙ a.1);
      headed = subst (IsHeaded t) (sym is) (headed_new t rings h ys now);
      apart = apart;
      within = kept.within;
      few = subst (λ (g : FinMap nat_cmp ℕ). map.len g ≤ p.made) (sym tags) kept.few;
    }

    pub items_moved : items_of t head p ≡ items zs p.made
    items_moved = items_now t head p zs p.made listed_moved refl

  pub kept_new : (s : RingLists) (p : Contents (Node X)) → s.rings ≡ map.empty → s.tags ≡ map.empty → AreApart s → p ≡ contents map.empty 0 0 → IsKept s None p
  kept_new s p rings tags apart is = record {
    pairs = [];
    listed = tt;
    found = λ k n e. absurd (some_none n (sym e ∙ ap (λ (c : Contents (Node X)). map.get c.live k) is ∙ get-empty nat_cmp k));
    headed = rings;
    apart = apart;
    within = (
      λ k n e. absurd (some_none n (sym e ∙ ap (λ (c : Contents (Node X)). map.get c.live k) is ∙ get-empty nat_cmp k)),
      let m : p.made ≡ 0 = ap (λ (c : Contents (Node X)). c.made) is in omega (arith, m),
    );
    few = let z : map.len s.tags ≡ 0 = ap map.len tags ∙ len-empty nat_cmp ℕ in omega (arith, z);
  }

  -- each member of the ring has the serial of a node
  pub named : (s : RingLists) (head : Option ℕ) (p : Contents (Node X)) → IsKept s head p → (m : ℕ) → IsIn m (members s head) → IsNamed s p m
  named s head p kept m i =
      let w = named_listed s.tags p.live m (members s head) kept.pairs kept.listed i in
      let g = kept.within.0 w.0 (node w.1.0 m) w.1.1.node in
      record { serial = w.0; tag = w.1.1.tag; live = (node w.1.0 m, (w.1.1.node, g.0, g.1)) }

  pub tagged_now : (s : RingLists) (head : Option ℕ) (p : Contents (Node X)) (k : IsKept s head p) → Tagged s.tags (members s head) (serials (items_of s head p).pairs)
  tagged_now s head p kept = subst (λ (l : Items X). Tagged s.tags (members s head) (serials l.pairs)) (sym (items_are s head p kept)) (tags_listed s.tags p.live (members s head) kept.pairs kept.listed)

  -- an item is moved to an end of its ring
  module _ (s u t : RingLists) (head : Option ℕ) (p : Contents (Node X)) (kept : IsKept s head p) (k : ℕ) (n : Node X) (e : map.get p.live k ≡ Some n) (h : ℕ) (home : IsLinkedIn s h n.member)
      (out : (g : ℕ) → IsLinkedIn s g n.member → u.rings ≡ map.insert s.rings g (without n.member (ring s g))) (same : u.tags ≡ s.tags) (tags : t.tags ≡ u.tags) (apart : AreApart t) where
    head_is : head ≡ Some h
    head_is = let l = linked s head p kept k n e in l.1.0 ∙ ap Some (kept.apart.one_ring l.0 h n.member l.1.1 home)

    left : ring u h ≡ without n.member (members s head)
    left = ap (λ r. list_in r h) (out h home) ∙ list_new s.rings h (without n.member (ring s h)) ∙ ap (λ o. without n.member (members s o)) (sym head_is)

    listed_else : IsListed s.tags p.live (without n.member (members s head)) (pairs_without k kept.pairs)
    listed_else = listed_without s.tags s.tags p.live p.live n.member k n.value (pair_of s head p kept k n e) (λ j ne. refl) (λ j ne. refl) (members s head) kept.pairs kept.listed

    pair : IsPair s.tags p.live n.member k n.value
    pair = pair_of s head p kept k n e

    stays : (j : ℕ) → IsIn j (members s head) → (j ≡ n.member) ⊎ IsIn j (without n.member (members s head))
    stays j i = elim (eqb_tells j n.member) [ inl w ↦ inl w.1 | inr w ↦ inr (still_in j n.member (members s head) i w.1) ]

    moved_in : (side : Side) (j : ℕ) → (j ≡ n.member) ⊎ IsIn j (without n.member (members s head)) → IsIn j (with_at side n.member (without n.member (members s head)))
    moved_in side j (inl w) = subst (λ i. IsIn i (with_at side n.member (without n.member (members s head)))) (sym w) (at_in side n.member (without n.member (members s head)))
    moved_in side j (inr i) = in_at side j n.member (without n.member (members s head)) i

    pub moves_to : (side : Side) → t.rings ≡ map.insert u.rings h (with_at side n.member (ring u h))
        → IsKept t head p × (items_of t head p ≡ items (with_at side (k, n.value) (pairs_without k (items_of s head p).pairs)) p.made)
    moves_to side rings =
        let ys : List ℕ = with_at side n.member (without n.member (members s head)) in
        let zs : List (ℕ × X) = with_at side (k, n.value) (pairs_without k kept.pairs) in
        let now : t.rings ≡ map.insert u.rings h ys = rings ∙ ap (λ ms. map.insert u.rings h (with_at side n.member ms)) left in
        let listed = listed_at s.tags p.live n.member k n.value pair side (without n.member (members s head)) (pairs_without k kept.pairs) listed_else in (
          kept_moved s t head p kept u.rings h ys zs head_is now (tags ∙ same) apart listed (λ j i. moved_in side j (stays j i)),
          items_moved s t head p kept u.rings h ys zs head_is now (tags ∙ same) apart listed (λ j i. moved_in side j (stays j i))
              ∙ ap (λ (l : Items X). items (with_at side (k, n.value) (pairs_without k l.pairs)) p.made) (sym (items_are s head p kept)),
        )

    -- the member that was taken out is loose, and the ring of h is there
    pub head_stays : IsHead u h
    head_stays = ap (λ r. is_some (map.get r h)) (out h home) ∙ ap is_some (get_new s.rings h (without n.member (ring s h)))

  -- the number of members is that of the pairs
  listed_len : (t : FinMap nat_cmp ℕ) (l : FinMap nat_cmp (Node X)) (ms : List ℕ) (ps : List (ℕ × X)) → IsListed t l ms ps → length ms ≡ length ps
  listed_len t l [] [] h = refl
  listed_len t l [] (p ∷ ps) h = absurd h
  listed_len t l (m ∷ ms) [] h = absurd h
  listed_len t l (m ∷ ms) (p ∷ ps) h = ap suc (listed_len t l ms ps h.2)

  -- each pair is the pair of a member
  pair_in : (t : FinMap nat_cmp ℕ) (l : FinMap nat_cmp (Node X)) (k : ℕ) (ms : List ℕ) (ps : List (ℕ × X)) → IsListed t l ms ps → IsIn k (serials ps) → (m : ℕ) × (IsIn m ms × ((x : X) × IsPair t l m k x))
  pair_in t l k [] [] h i = absurd i
  pair_in t l k [] (p ∷ ps) h i = absurd h
  pair_in t l k (m ∷ ms) [] h i = absurd h
  pair_in t l k (m ∷ ms) (p ∷ ps) h (inl e) = (m, (inl refl, (p.1, record { tag = h.0 ∙ ap Some (sym e); node = ap (map.get l) e ∙ h.1 })))
  pair_in t l k (m ∷ ms) (p ∷ ps) h (inr i) = let w = pair_in t l k ms ps h.2 i in (w.0, (inr w.1.0, w.1.1))

  serials_apart : (t : FinMap nat_cmp ℕ) (l : FinMap nat_cmp (Node X)) (ms : List ℕ) (ps : List (ℕ × X)) → IsListed t l ms ps → IsDistinct ms → IsDistinct (serials ps)
  serials_apart t l [] [] h d = tt
  serials_apart t l [] (p ∷ ps) h d = absurd h
  serials_apart t l (m ∷ ms) [] h d = absurd h
  serials_apart t l (m ∷ ms) (p ∷ ps) h d = (
    λ i.
        let w = pair_in t l p.0 ms ps h.2 i in
        let e : m ≡ w.0 = ap (λ (o : Node X). o.member) (some_same (node p.1 m) (node w.1.1.0 w.0) (sym h.1 ∙ w.1.1.1.node)) in
        d.0 (subst (λ j. IsIn j ms) (sym e) w.1.0),
    serials_apart t l ms ps h.2 d.1,
  )

  pub is_whole : (s : RingLists) (head : Option ℕ) (p : Contents (Node X)) → IsKept s head p → AreItems (items_of s head p)
  is_whole s head p kept = subst AreItems (sym (items_are s head p kept)) (record {
    distinct = serials_apart s.tags p.live (members s head) kept.pairs kept.listed (members_apart s head kept.headed kept.apart);
    given = λ k i. let w = pair_in s.tags p.live k (members s head) kept.pairs kept.listed i in kept.within.0 k (node w.1.1.0 w.0) w.1.1.1.node;
    most = kept.within.1;
  })

  pub len_is : (s : RingLists) (head : Option ℕ) (p : Contents (Node X)) (kept : IsKept s head p) (h : ℕ) → head ≡ Some h → length (ring s h) ≡ length (items_of s head p).pairs
  len_is s head p kept h is =
      ap (λ o. length (members s o)) (sym is) ∙ listed_len s.tags p.live (members s head) kept.pairs kept.listed ∙ ap (λ (l : Items X). length l.pairs) (sym (items_are s head p kept))

  -- an item has another value
  module _ (s : RingLists) (head : Option ℕ) (p q : Contents (Node X)) (kept : IsKept s head p) (k : ℕ) (n : Node X) (e : map.get p.live k ≡ Some n) (v : X)
      (live : q.live ≡ map.insert p.live k (node v n.member)) (made : q.made ≡ p.made) where
    here : map.get q.live k ≡ Some (node v n.member)
    here = ap (λ (r : FinMap nat_cmp (Node X)). map.get r k) live ∙ get_new p.live k (node v n.member)

    other_live : (j : ℕ) → (j ≡ k → ⊥) → map.get q.live j ≡ map.get p.live j
    other_live j ne = ap (λ (r : FinMap nat_cmp (Node X)). map.get r j) live ∙ get_else p.live k (node v n.member) j ne

    listed_given : IsListed s.tags q.live (members s head) (pairs_with k v kept.pairs)
    listed_given = listed_with s.tags p.live n.member k n.value (pair_of s head p kept k n e) q.live v here other_live (members s head) kept.pairs kept.listed

    pub kept_given : IsKept s head q
    kept_given = record {
      pairs = pairs_with k v kept.pairs;
      listed = listed_given;
      found = λ j o f. elim (eqb_tells j k) [
        | inl w ↦
            let o_is : o ≡ node v n.member = some_same o (node v n.member) (sym f ∙ ap (map.get q.live) w.1 ∙ here) in
            let g = kept.found k n e in
            (subst (λ (z : Node X). IsIn z.member (members s head)) (sym o_is) g.0, ap (λ (z : Node X). map.get s.tags z.member) o_is ∙ g.1 ∙ ap Some (sym w.1))
        | inr w ↦ kept.found j o (sym (other_live j w.1) ∙ f)
      ];
      headed = kept.headed;
      apart = kept.apart;
      within = (
        λ j o f. elim (eqb_tells j k) [
          | inl w ↦ let g = kept.within.0 k n e in (omega (arith, g.0, w.1), omega (arith, g.1, w.1, made))
          | inr w ↦ let g = kept.within.0 j o (sym (other_live j w.1) ∙ f) in (g.0, omega (arith, g.1, made))
        ],
        subst (λ z. z ≤ MOST_SERIALS) (sym made) kept.within.1,
      );
      few = subst (λ z. map.len s.tags ≤ z) (sym made) kept.few;
    }

    pub items_given : items_of s head q ≡ items (pairs_with k v (items_of s head p).pairs) p.made
    items_given = items_now s head q (pairs_with k v kept.pairs) p.made listed_given made ∙ ap (λ (l : Items X). items (pairs_with k v l.pairs) p.made) (sym (items_are s head p kept))
