use Rattle.std.proofs.Common.{◌≡◌, ℕ, Bool, true, List, length, replicate, ap, subst, ◌∙◌, arith, rules}
use borrow.Author.Differences.{ints}
use Rattle.std.proofs.lemmas.List.{length-replicate}
use Rattle.std.proofs.lemmas.Result.{IfOk-weaker}
use Rattle.graph_defs.specs.Net.{Ends}
use Rattle.graph_defs.specs.Shortest.{IsSpAnswer}
use Rattle.sp_search.specs.declared.rounds.End.{End}
use Rattle.sp_search.specs.Lows.{IsReachOf, HasMore}
use Rattle.sp_search.specs.Rounds.{IsEnd}
use Rattle.sp_search.specs.Telling.{IsWhole}
use Rattle.sp_search.proofs.Reaches.{none_low, low_more, low_grows}
use Rattle.sp_search.proofs.Wholes.{all_open, priced_is, cycle_known, cycle_reached, cycle_seed, seed_free, seed_known, tree_paid, whole_right}
use Rattle.sp_search.proofs.any_costs.answer_of.Goals as goal

pub settle-requires-clause-priced : goal.settle-requires-clause-priced
settle-requires-clause-priced c = priced_is c.args.net.now c.args.cost.now c.requires.wide c.requires.costs c.requires.fits

pub loop-lows-init : goal.loop-lows-init
loop-lows-init c =
    none_low c.args.net.now c.args.s c.args.cost.now c.in_ok-opened.opened.items c.in_ok-lows.lows.found.queue.items c.in_ok-lows.lows.found.marks.items c.in_ok-lows.lows.seeds
    c.in_ok-lows.ensures.queue c.in_ok-lows.ensures.marks c.in_ok-lows.ensures.seeds

-- in the arm of a tree
pub whole_of-requires-clause-fits : goal.whole_of-requires-clause-fits
whole_of-requires-clause-fits c =
    let P : End → Type 0 = λ e. IsEnd c.args.net.now c.args.s c.args.cost.now c.as_slice-in-loop-lows.result.now e in
    let t = subst P c.in-Tree.is c.in_ok-end.ensures in
    let p = tree_paid c.args.net.now c.args.s c.args.cost.now c.as_slice-in-loop-lows.result.now c.in-Tree.tree.queue.items c.in-Tree.tree.marks.items t.0 t.1 c.requires.costs in
    let f = c.requires.fits in
    omega (arith, ints)

pub returns-in-Tree : goal.returns-in-Tree
returns-in-Tree c =
    let net = c.args.net.now in
    let s = c.args.s in
    let cost = c.args.cost.now in
    let lq = c.loop-lows.lows.found.queue.items in
    let lm = c.loop-lows.lows.found.marks.items in
    let P : List Bool → Type 0 = λ m. IsEnd net s cost m c.in_ok-end.end in
    let Q : End → Type 0 = λ e. IsEnd net s cost lm e in
    let t = subst Q c.in-Tree.is (subst P c.as_slice-in-loop-lows.ensures.value c.in_ok-end.ensures) in
    let m = ap (λ (xs : List Ends). length xs) c.as_slice.ensures in
    let e : c.in_ok-opened.opened.items ≡ replicate (length c.as_slice.result.now) true = search rules in
    let all = all_open c.in_ok-opened.opened.items (length net.arcs) (e ∙ ap (λ (k : ℕ). replicate k true) m) in
    IfOk-weaker c.whole_of.result (λ a. IsWhole cost c.in-Tree.tree.queue.items c.in-Tree.tree.marks.items lq lm c.loop-lows.lows.seeds a) (λ a. IsSpAnswer net s cost a)
    (λ a w. whole_right net s cost (priced_is net cost c.requires.wide c.requires.costs c.requires.fits) c.requires.s c.in_ok-opened.opened.items all lq lm c.loop-lows.lows.seeds c.loop-lows.invariant
    c.in-Tree.tree.queue.items c.in-Tree.tree.marks.items t.0 t.1 a w)
    c.whole_of.ensures

-- in the arm of a closed walk
pub add-requires-clause-opened : goal.add-requires-clause-opened
add-requires-clause-opened c =
    let m = ap (λ (xs : List Ends). length xs) c.as_slice.ensures in
    let e : c.in_ok-opened.opened.items ≡ replicate (length c.as_slice.result.now) true = search rules in
    ap (λ (xs : List Bool). length xs) (c.as_slice-in-Cycle.ensures.value ∙ e) ∙ length-replicate {A = Bool} (length c.as_slice.result.now) true ∙ m

pub led_to-requires-clause-known : goal.led_to-requires-clause-known
led_to-requires-clause-known c =
    let P : End → Type 0 = λ e. IsEnd c.args.net.now c.args.s c.args.cost.now c.as_slice-in-loop-lows.result.now e in
    cycle_known c.args.net.now c.args.s c.args.cost.now c.as_slice-in-loop-lows.result.now c.in-Cycle.cycle (subst P c.in-Cycle.is c.in_ok-end.ensures)

pub led_to-requires-clause-reach : goal.led_to-requires-clause-reach
led_to-requires-clause-reach c =
    let net = c.args.net.now in
    let P : End → Type 0 = λ e. IsEnd net c.args.s c.args.cost.now c.as_slice-in-loop-lows.result.now e in
    let m = ap (λ (xs : List Ends). length xs) c.as_slice.ensures in
    let e : c.in_ok-opened.opened.items ≡ replicate (length c.as_slice.result.now) true = search rules in
    let all = all_open c.in_ok-opened.opened.items (length net.arcs) (e ∙ ap (λ (k : ℕ). replicate k true) m) in
    let R : List Bool → Type 0 = λ xs. IsReachOf net xs c.args.s c.in_ok-reach.reach.queue.items c.in_ok-reach.reach.marks.items in
    cycle_reached net c.args.s c.args.cost.now c.as_slice-in-loop-lows.result.now c.in-Cycle.cycle (subst P c.in-Cycle.is c.in_ok-end.ensures)
    c.in_ok-opened.opened.items c.in_ok-reach.reach.queue.items c.in_ok-reach.reach.marks.items all (subst R c.as_slice-2.ensures.value c.in_ok-reach.ensures)

pub add-requires-clause-cycle : goal.add-requires-clause-cycle
add-requires-clause-cycle c =
    let P : End → Type 0 = λ e. IsEnd c.args.net.now c.args.s c.args.cost.now c.as_slice-in-loop-lows.result.now e in
    seed_known c.args.net.now c.args.s c.args.cost.now c.as_slice-in-loop-lows.result.now c.in-Cycle.cycle (subst P c.in-Cycle.is c.in_ok-end.ensures) c.in_ok-seed-in-Cycle.seed c.in_ok-seed-in-Cycle.ensures

pub loop-lows-preserved : goal.loop-lows-preserved
loop-lows-preserved c =
    let net = c.args.net.now in
    let s = c.args.s in
    let cost = c.args.cost.now in
    let lq = c.loop-lows.lows.found.queue.items in
    let lm = c.loop-lows.lows.found.marks.items in
    let P : List Bool → Type 0 = λ m. IsEnd net s cost m c.in_ok-end.end in
    let Q : End → Type 0 = λ e. IsEnd net s cost lm e in
    let t = subst Q c.in-Cycle.is (subst P c.as_slice-in-loop-lows.ensures.value c.in_ok-end.ensures) in
    let is = cycle_seed net s cost lm c.in-Cycle.cycle t c.in_ok-seed-in-Cycle.seed c.in_ok-seed-in-Cycle.ensures in
    let R : List Bool → Type 0 = λ xs. HasMore net xs c.in_ok-seed-in-Cycle.seed lq lm c.loop-lows.lows.seeds c.add.new.self.found.queue.items c.add.new.self.found.marks.items c.add.new.self.seeds in
    low_more net s cost c.in_ok-opened.opened.items lq lm c.loop-lows.lows.seeds c.loop-lows.invariant c.in_ok-seed-in-Cycle.seed is
    c.add.new.self.found.queue.items c.add.new.self.found.marks.items c.add.new.self.seeds (subst R c.as_slice-in-Cycle.ensures.value c.in_ok-add-in-Cycle.ensures)
    (seed_free net s cost lm c.in-Cycle.cycle t c.in_ok-seed-in-Cycle.seed c.in_ok-seed-in-Cycle.ensures)

pub loop-lows-smaller : goal.loop-lows-smaller
loop-lows-smaller c =
    let net = c.args.net.now in
    let s = c.args.s in
    let cost = c.args.cost.now in
    let lq = c.loop-lows.lows.found.queue.items in
    let lm = c.loop-lows.lows.found.marks.items in
    let P : List Bool → Type 0 = λ m. IsEnd net s cost m c.in_ok-end.end in
    let Q : End → Type 0 = λ e. IsEnd net s cost lm e in
    let t = subst Q c.in-Cycle.is (subst P c.as_slice-in-loop-lows.ensures.value c.in_ok-end.ensures) in
    let is = cycle_seed net s cost lm c.in-Cycle.cycle t c.in_ok-seed-in-Cycle.seed c.in_ok-seed-in-Cycle.ensures in
    let R : List Bool → Type 0 = λ xs. HasMore net xs c.in_ok-seed-in-Cycle.seed lq lm c.loop-lows.lows.seeds c.add.new.self.found.queue.items c.add.new.self.found.marks.items c.add.new.self.seeds in
    let more = subst R c.as_slice-in-Cycle.ensures.value c.in_ok-add-in-Cycle.ensures in
    let g = low_grows net s cost c.in_ok-opened.opened.items lq lm c.loop-lows.lows.seeds c.loop-lows.invariant c.in_ok-seed-in-Cycle.seed is
    c.add.new.self.found.queue.items c.add.new.self.found.marks.items c.add.new.self.seeds more
    (seed_free net s cost lm c.in-Cycle.cycle t c.in_ok-seed-in-Cycle.seed c.in_ok-seed-in-Cycle.ensures) in
    let a = c.loop-lows.invariant.is.count in
    let b = more.is.count in
    omega arith
