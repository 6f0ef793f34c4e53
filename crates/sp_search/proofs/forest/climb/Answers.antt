use Rattle.std.proofs.Common.{◌≡◌, ◌<◌, ℕ, List, true, length, refl, sym, ◌∙◌, subst, arith}
use Rattle.std.proofs.lemmas.Result.{IfOk-weaker}
use Rattle.graph_defs.specs.Shortest.{AreBelow}
use Rattle.sp_search.specs.Finding.{is_marked}
use Rattle.sp_search.specs.Forest.{IsClimb, StandsIn, IsTurned, IsLoop}
use Rattle.sp_search.proofs.Findings.{read_mark}
use Rattle.sp_search.proofs.Climbs.{climb_more, back_known, came_back, loop_at}
use Rattle.sp_search.proofs.forest.climb.Goals as goal

pub loop-seen-preserved : goal.loop-seen-preserved
loop-seen-preserved c =
    let net = c.args.net.now in
    let tags = c.args.tags.now in
    let marks = c.args.marks.now in
    let here = c.loop-seen.here in
    let k = c.requires.climbs here c.loop-seen.invariant.stray in
    let by = k.1.by in
    let is = c.last_of-arc.ensures in
    let e : k.0 ≡ c.last_of-arc.result = cc in
    let P : ℕ → Type 0 = λ a. IsClimb net tags marks here a in
    climb_more net tags marks c.args.from c.loop-seen.seen.items c.loop-seen.trail.items here c.last_of-arc.result c.loop-seen.invariant (c.requires.marks ∙ sym c.requires.tags) (subst P e k.1)
    _ c.push.new.self.items c.source_of-here.result refl c.in_ok-push.ensures.items c.source_of-here.ensures.is

pub loop_of-requires-clause-known : goal.loop_of-requires-clause-known
loop_of-requires-clause-known c =
    let P : List ℕ → Type 0 = λ xs. AreBelow (length c.args.net.now.arcs) xs in
    subst P (sym c.as_slice.ensures.value) (back_known c.args.net.now c.args.tags.now c.args.from c.loop-seen.here c.loop-seen.trail.items c.loop-seen.invariant.back)

pub loop_of-requires-clause-there : goal.loop_of-requires-clause-there
loop_of-requires-clause-there c =
    let seen = c.loop-seen.seen.items in
    let here = c.loop-seen.here in
    let P : List ℕ → Type 0 = λ xs. StandsIn c.args.net.now xs here in
    let l : here < length seen = omega (arith, c.loop-seen.invariant.stray.below, c.loop-seen.invariant.long, c.requires.marks, c.requires.tags) in
    let m : is_marked seen here ≡ true = read_mark seen here c.index.result.now true l c.index.ensures c.loop-seen-test.false in
    subst P (sym c.as_slice.ensures.value) (came_back c.args.net.now c.args.tags.now c.args.marks.now c.args.from seen c.loop-seen.trail.items here c.loop-seen.invariant m)

pub returns : goal.returns
returns c =
    let P : List ℕ → Type 0 = λ xs. (row : List ℕ) → IsTurned c.args.net.now xs c.loop-seen.here row → IsTurned c.args.net.now c.loop-seen.trail.items c.loop-seen.here row in
    let turn = subst P (sym c.as_slice.ensures.value) (λ row t. t) in
    IfOk-weaker c.loop_of.result (λ row. IsTurned c.args.net.now c.as_slice.result.now c.loop-seen.here row) (λ row. IsLoop c.args.net.now c.args.tags.now c.args.marks.now row)
    (λ row t. loop_at c.args.net.now c.args.tags.now c.args.marks.now c.args.from c.loop-seen.seen.items c.loop-seen.trail.items c.loop-seen.here row c.loop-seen.invariant (turn row t))
    c.loop_of.ensures
