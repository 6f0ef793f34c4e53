use Rattle.std.proofs.Common.{Bool, List, length, sym, ◌∙◌, subst}
use Rattle.sp_search.specs.declared.tags.Tag.{Tag}
use Rattle.sp_search.specs.Forest.{CanClimb, IsTreeOf, AreMarked, IsLoop}
use Rattle.sp_search.proofs.Bounds.{left_falls, cycle_is, settled_is}
use Rattle.sp_search.proofs.Climbs.{can_climb, tree_above}
use Rattle.sp_search.proofs.rounds.settle.Goals as goal

pub climb-requires-clause-climbs : goal.climb-requires-clause-climbs
climb-requires-clause-climbs c =
    let net = c.args.net.now in
    let tags = c.loop-tags.tags.items in
    let P : List Tag → Type 0 = λ xs. IsTreeOf net c.args.s xs c.in_ok-tree.tree.queue.items c.in_ok-tree.tree.marks.items in
    let tree = subst P c.as_slice.ensures.value c.in_ok-tree.ensures in
    let Q : List Tag → Type 0 = λ xs. CanClimb net xs c.as_slice-in-Some-2.result.now in
    let R : List Bool → Type 0 = λ xs. CanClimb net tags xs in
    subst Q (sym c.as_slice-in-Some.ensures.value) (subst R (sym c.as_slice-in-Some-2.ensures.value)
    (can_climb net c.args.s c.args.cost.now c.args.shut.now tags c.loop-tags.invariant c.requires.priced.wide c.in_ok-tree.tree.queue.items c.in_ok-tree.tree.marks.items tree))

pub returns-in-Some : goal.returns-in-Some
returns-in-Some c =
    let P : List Tag → Type 0 = λ xs. IsLoop c.args.net.now xs c.as_slice-in-Some-2.result.now c.in_ok-cycle.cycle in
    cycle_is c.args.net.now c.args.s c.args.cost.now c.args.shut.now c.loop-tags.tags.items c.as_slice-in-Some-2.result.now c.in_ok-cycle.cycle c.loop-tags.invariant
    (subst P c.as_slice-in-Some.ensures.value c.in_ok-cycle.ensures)

pub round-requires-clause-above : goal.round-requires-clause-above
round-requires-clause-above c =
    let net = c.args.net.now in
    let tags = c.loop-tags.tags.items in
    let marks = c.in_ok-tree.tree.marks.items in
    let P : List Tag → Type 0 = λ xs. IsTreeOf net c.args.s xs c.in_ok-tree.tree.queue.items marks in
    let tree = subst P c.as_slice.ensures.value c.in_ok-tree.ensures in
    let Q : List Tag → Type 0 = λ xs. AreMarked xs c.as_slice-in-loop-tags-2.result.now (length xs) in
    let R : List Bool → Type 0 = λ xs. AreMarked tags xs (length tags) in
    let none = subst R c.as_slice-in-loop-tags-2.ensures.value (subst Q c.as_slice-in-loop-tags.ensures.value c.in_default.ensures) in
    tree_above net c.args.s c.args.cost.now c.args.shut.now tags c.loop-tags.invariant c.requires.priced.wide c.in_ok-tree.tree.queue.items marks tree c.requires.priced none

pub loop-tags-smaller : goal.loop-tags-smaller
loop-tags-smaller c =
    let net = c.args.net.now in
    let tags = c.loop-tags.tags.items in
    let marks = c.in_ok-tree.tree.marks.items in
    let P : List Tag → Type 0 = λ xs. IsTreeOf net c.args.s xs c.in_ok-tree.tree.queue.items marks in
    let tree = subst P c.as_slice.ensures.value c.in_ok-tree.ensures in
    let Q : List Tag → Type 0 = λ xs. AreMarked xs c.as_slice-in-loop-tags-2.result.now (length xs) in
    let R : List Bool → Type 0 = λ xs. AreMarked tags xs (length tags) in
    let none = subst R c.as_slice-in-loop-tags-2.ensures.value (subst Q c.as_slice-in-loop-tags.ensures.value c.in_default.ensures) in
    let above = tree_above net c.args.s c.args.cost.now c.args.shut.now tags c.loop-tags.invariant c.requires.priced.wide c.in_ok-tree.tree.queue.items marks tree c.requires.priced none in
    left_falls tags c.round.new.tags.items ((c.round.ensures.tagged c.args.s c.loop-tags.invariant).long ∙ sym c.loop-tags.invariant.long) above c.if-not-round.ensures.falls

pub returns-then-not-round : goal.returns-then-not-round
returns-then-not-round c =
    let net = c.args.net.now in
    let tags = c.loop-tags.tags.items in
    let marks = c.in_ok-tree.tree.marks.items in
    let P : List Tag → Type 0 = λ xs. IsTreeOf net c.args.s xs c.in_ok-tree.tree.queue.items marks in
    let tree = subst P c.as_slice.ensures.value c.in_ok-tree.ensures in
    let Q : List Tag → Type 0 = λ xs. AreMarked xs c.as_slice-in-loop-tags-2.result.now (length xs) in
    let R : List Bool → Type 0 = λ xs. AreMarked tags xs (length tags) in
    let none = subst R c.as_slice-in-loop-tags-2.ensures.value (subst Q c.as_slice-in-loop-tags.ensures.value c.in_default.ensures) in (
      c.round.new.tags.items,
      settled_is net c.args.s c.args.cost.now c.args.shut.now c.in_ok-tree.tree.queue.items marks tags c.round.new.tags.items
          c.loop-tags.invariant tree none c.if-not-round.ensures.falls,
    )
