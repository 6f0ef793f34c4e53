-- Rounds end.
use Rattle.std.proofs.Common.{◌≡◌, ℕ, ◌*◌, ◌<◌, ◌^◌, ℤ, pos, negsuc, ◌+ℤ◌, ◌<ℤ◌, Bool, List, length, sym, subst, arith}
use borrow.Author.Differences.{ints}
use Rattle.graph_defs.specs.declared.net.Net.{Net}
use Rattle.sp_search.specs.declared.finding.Found.{Found}
use Rattle.sp_search.specs.declared.tags.Tag.{Tag}
use Rattle.sp_search.specs.Forest.{IsTreeOf, AreMarked, IsLoop}
use Rattle.sp_search.specs.Rounds.{IsCycle, IsSettledTree}
use Rattle.sp_search.specs.Tags.{IsTagged, AreAbove, total, IsLess, AreSettled}
use Rattle.sp_search.proofs.Climbs.{loop_is}
use Rattle.sp_search.proofs.Falls.{total_low}

nat_of : ℤ → ℕ
nat_of (pos k) = k
nat_of (negsuc k) = 0

nat_less : (x y : ℤ) → x <ℤ y → pos 0 <ℤ y → nat_of x < nat_of y
unfolding nat_of
nat_less (pos j) (pos k) h some = omega (arith, ints)
nat_less (negsuc j) (pos k) h some = omega (arith, ints)
nat_less x (negsuc k) h some = absurd (omega (arith, ints))

-- how much labels that are above the bound of a tree can still fall
pub left : List Tag → ℕ
left tags = nat_of ((total tags +ℤ pos (length tags * 10 ^ 31)) +ℤ pos 1)

pub left_falls : (tags tags' : List Tag) → length tags' ≡ length tags → AreAbove tags (10 ^ 31) → IsLess tags tags' → left tags' < left tags
unfolding left
left_falls tags tags' e above less =
    let low = total_low tags above in
    let f : total tags' <ℤ total tags = less in
    let m : length tags' * 10 ^ 31 ≡ length tags * 10 ^ 31 = omega (arith, e) in
    nat_less ((total tags' +ℤ pos (length tags' * 10 ^ 31)) +ℤ pos 1) ((total tags +ℤ pos (length tags * 10 ^ 31)) +ℤ pos 1) (omega (arith, ints)) (omega (arith, ints))

pub cycle_is : (net : Net) (s : ℕ) (cost : List ℤ) (shut : List Bool) (tags : List Tag) (marks : List Bool) (row : List ℕ) → IsTagged net s cost shut tags → IsLoop net tags marks row
    → IsCycle net s cost shut row
cycle_is net s cost shut tags marks row t l =
    let b = loop_is net s cost shut tags t marks row l in
    let stray = b.1 in
    record {
      node = b.0;
      below = (let m = stray.below in omega (arith, t.long));
      free = t.free b.0 stray.tagged;
      closed = b.2;
      negative = b.3;
      reached = t.walk b.0 stray.tagged;
    }

pub settled_is : (net : Net) (s : ℕ) (cost : List ℤ) (shut : List Bool) (queue : List Found) (marks : List Bool) (tags tags' : List Tag) → IsTagged net s cost shut tags
    → IsTreeOf net s tags queue marks → AreMarked tags marks (length tags) → AreSettled net cost shut (length net.arcs) tags tags' → IsSettledTree net s cost shut queue marks tags'
settled_is net s cost shut queue marks tags tags' t tree none a =
    let P : List Tag → Type 0 = λ xs. IsTagged net s cost shut xs × IsTreeOf net s xs queue marks × AreMarked xs marks (length xs) in
    let b = subst P (sym a.is) (t, tree, none) in
    record { tagged = b.0; tree = b.1; none = b.2; settled = a.settled }
