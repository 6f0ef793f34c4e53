use Rattle.std.proofs.Common.{◌≡◌, ℕ, ◌+◌, ◌/◌, ◌<◌, ◌≤◌, List, length, get_or, sym, ◌∙◌, ap, subst, arith}
use Rattle.graph_defs.specs.Count.{times}
use Rattle.blossom_search.proofs.Augments.{next_has, shifted_more, larger_by}
use Rattle.blossom_search.proofs.augmenting.augment.Goals as goal

pub place_of-place-requires : goal.place_of-place-requires
place_of-place-requires c =
    let path = c.args.path.now in
    let half = c.loop-half.half in
    subst (λ (es : List ℕ). 1 ≤ times (get_or path (half + half + 1) 0) es) (sym c.as_slice-in-loop-half.ensures.value)
    (next_has c.args.net.now c.args.m.now.edges c.loop-half.edges.items path half c.loop-half.invariant c.loop-half-test.true)

pub loop-half-preserved : goal.loop-half-preserved
loop-half-preserved c =
    let s = c.as_slice-in-loop-half.ensures.value in
    let place = c.place_of-place.result in
    shifted_more c.args.net.now c.args.m.now.edges c.loop-half.edges.items c.args.path.now c.loop-half.half place c.put.new.edges.items c.loop-half.invariant c.loop-half-test.true
    (subst (λ (es : List ℕ). place < length es) s c.place_of-place.ensures.within)
    (ap (λ (es : List ℕ). get_or es place 0) (sym s) ∙ c.place_of-place.ensures.found)
    c.put.ensures

pub returns : goal.returns
returns c =
    let stop = c.loop-half-test.false in
    let end = c.loop-half.auto.half-end in
    let done : length c.args.path.now / 2 ≡ c.loop-half.half = omega arith in
    larger_by c.args.net.now c.args.m.now.edges c.loop-half.edges.items c.args.path.now c.loop-half.half c.from_vec.result c.requires.path c.loop-half.invariant done (c.from_vec.ensures ∙ c.in_ok-push.ensures.items)
