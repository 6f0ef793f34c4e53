-- How many heads and members there are, step by step.
use Rattle.std.proofs.Common.{◌≡◌, ℕ, ◌+◌, Bool, true, false, cond, ◌-◌, List, is_some, refl, sym, ap, subst, ◌∙◌, arith, inl, inr}
use Rattle.std.proofs.lemmas.Bool.Decides.{eqb_tells}
use Rattle.std.specs.Ordering.{nat_cmp}
use Rattle.std.specs.Cmp.{nat_cmp_total}
use Rattle.std.specs.FinMap as fin
use Rattle.std.specs.FinMap.{len-insert, len-remove, get-empty, empty_of_len}
use Rattle.item_ring.specs.RingLists.{RingLists, IsHead}
use Rattle.graph_lists.specs.Named.{Lists, SameRoom}
use Rattle.graph_lists.specs.declared.lists.Lists.TheInside.{Inside}
use Rattle.graph_lists.specs.Tied.{lists_of}
use Rattle.graph_lists.specs.Steps.{PushesIf, UnlinksIf}
use Rattle.graph_state.proofs.Has.{not_both}

pub len_kept : {X : Type 0} (m : fin.FinMap nat_cmp X) (h : ℕ) (x : X) → fin.contains_key m h ≡ true → fin.len (fin.insert m h x) ≡ fin.len m
len_kept m h x there = len-insert nat_cmp_total m h x ∙ ap (λ b. cond b (fin.len m) (fin.len m + 1)) there

pub len_more : {X : Type 0} (m : fin.FinMap nat_cmp X) (h : ℕ) (x : X) → fin.contains_key m h ≡ false → fin.len (fin.insert m h x) ≡ fin.len m + 1
len_more m h x fresh = len-insert nat_cmp_total m h x ∙ ap (λ b. cond b (fin.len m) (fin.len m + 1)) fresh

pub len_less : {X : Type 0} (m : fin.FinMap nat_cmp X) (h : ℕ) → fin.contains_key m h ≡ true → fin.len (fin.remove m h) + 1 ≡ fin.len m
len_less m h there =
    let n = len-remove nat_cmp_total m h ∙ ap (λ b. cond b (fin.len m - 1) (fin.len m)) there in
    elim (eqb_tells (fin.len m) 0) [
      | inl y ↦ absurd (not_both there (ap (λ m. fin.contains_key m h) (empty_of_len m y.1) ∙ ap is_some (get-empty nat_cmp h)))
      | inr ne ↦ omega (arith, n, ne.1)
    ]

-- two values of the rings have the same room
pub record RingRoom (r t : RingLists) : Type 0 where
  pub heads : fin.len t.rings ≡ fin.len r.rings
  pub tags : t.tags ≡ r.tags
  pub spare : (t.spare_heads ≡ r.spare_heads) × (t.spare_members ≡ r.spare_members)

pub room_set : (r t : RingLists) (h : ℕ) (ys : List ℕ) → IsHead r h → t.rings ≡ fin.insert r.rings h ys → t.tags ≡ r.tags → (t.spare_heads ≡ r.spare_heads) × (t.spare_members ≡ r.spare_members) → RingRoom r t
room_set r t h ys there e tags spare = record { heads = ap fin.len e ∙ len_kept r.rings h ys there; tags = tags; spare = spare }

pub room_on : (r m t : RingLists) → RingRoom r m → RingRoom m t → RingRoom r t
room_on r m t p q = record { heads = q.heads ∙ p.heads; tags = q.tags ∙ p.tags; spare = (q.spare.0 ∙ p.spare.0, q.spare.1 ∙ p.spare.1) }

pub room_same : (r t : RingLists) → t ≡ r → RingRoom r t
room_same r t e = subst (RingRoom r) (sym e) (record { heads = refl; tags = refl; spare = (refl, refl) })

pub room_if : (b : Bool) (r t : RingLists) (h m : ℕ) → IsHead r h → PushesIf b r t h m → RingRoom r t
room_if true r t h m there p = room_set r t h _ there p.rings p.tags p.spare
room_if false r t h m there e = room_same r t e

pub room_out : (r t : RingLists) (m : ℕ) → UnlinksIf r t m → RingRoom r t
room_out r t m (inl p) = room_set r t p.0.0 _ p.0.1.head (p.1.rings p.0.0 p.0.1) p.1.tags p.1.spare
room_out r t m (inr p) = room_same r t p.1

pub room_is : (s : Lists) (a b : Inside) → lists_of a ≡ s → RingRoom a.rings b.rings → SameRoom s (lists_of b)
room_is s a b e p = subst (λ (o : Lists). SameRoom o (lists_of b)) e (record { heads = p.heads; members = ap fin.len p.tags; spare_heads = p.spare.0; spare_members = p.spare.1 })
