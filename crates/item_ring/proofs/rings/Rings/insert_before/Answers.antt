-- Right behind what stands before `at` is right before `at`. A member is linked into one ring.
use Rattle.std.proofs.Common.{◌≡◌, ℕ, List, ◌∷◌, ◌++◌, Option, Some, sym, ap, subst, ◌∙◌}
use Rattle.std.specs.FinMap as map
use Rattle.item_ring.specs.RingLists.{RingLists, IsDistinct, IsIn, IsLinkedIn, AreApart, StandsBetween, ring, back, with_before}
use Rattle.item_ring.specs.Turns.{with_behind}
use Rattle.item_ring.proofs.Lists.{IsCutAt, cut_at, in_left, back_in, before_cut, behind_back}
use Rattle.item_ring.proofs.rings.Rings.insert_before.Goals as goal

module _ (s : RingLists) (apart : AreApart s) (h at m : ℕ) (l : IsLinkedIn s h at) (before : Option ℕ)
    (looked : (h : ℕ) (fore aft : List ℕ) → StandsBetween s h at fore aft → before ≡ back fore) where
  cut : IsCutAt at (ring s h)
  cut = cut_at at (ring s h) l.member

  abbrev found : before ≡ back cut.before
  found = looked h cut.before cut.behind (record { head = l.head; is = cut.is })

  before_in : (x : ℕ) → before ≡ Some x → IsIn x (ring s h)
  before_in x e = subst (IsIn x) (sym cut.is) (in_left x cut.before (at ∷ cut.behind) (back_in cut.before x (sym found ∙ e)))

  goes_before : with_behind before m (ring s h) ≡ with_before at m (ring s h)
  goes_before =
      let whole = subst IsDistinct cut.is (apart.distinct h l.head) in
      ap (with_behind before m) cut.is ∙ ap (λ o. with_behind o m (cut.before ++ at ∷ cut.behind)) found
      ∙ behind_back m cut.before (at ∷ cut.behind) whole ∙ sym (ap (with_before at m) cut.is ∙ before_cut at m cut.before cut.behind whole)

pub tie-requires-clause-behind : goal.tie-requires-clause-behind
tie-requires-clause-behind c = before_in c.args.self.now c.prev-before.ensures.apart c.head_of-h.result c.args.at c.args.m c.head_of-h.ensures.head c.prev-before.result c.prev-before.ensures.prev

pub returns-clause-rings : goal.returns-clause-rings
returns-clause-rings c = λ h l.
    let s = c.args.self.now in
    let home = c.head_of-h.result in
    let put = goes_before s c.prev-before.ensures.apart home c.args.at c.args.m c.head_of-h.ensures.head c.prev-before.result c.prev-before.ensures.prev in
    let same = c.head_of-h.ensures.apart.one_ring home h c.args.at c.head_of-h.ensures.head l in
    subst (λ k. c.tie.new.self.rings ≡ map.insert s.rings k (with_before c.args.at c.args.m (ring s k))) same (c.tie.ensures.rings ∙ ap (map.insert s.rings home) put)
