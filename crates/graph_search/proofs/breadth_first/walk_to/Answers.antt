use Rattle.std.proofs.Common.{◌≡◌, ◌+◌, ◌++◌, ◌∷◌, [], ◌<◌, ℕ, List, length, reverse, get_or, subst, sym, ap, arith}
use Rattle.std.proofs.lemmas.List.{get_or_default}
use Rattle.graph_defs.specs.declared.net.Net.{Net}
use Rattle.graph_defs.specs.Walk.{IsWalk}
use Rattle.graph_search.specs.declared.breadth_first.Found.{Found}
use Rattle.graph_search.specs.Tree.{found_at}
use Rattle.graph_search.proofs.Steps.{walk_more, walk_whole}
use Rattle.graph_search.proofs.breadth_first.walk_to.Goals as goal

pub loop-at-preserved : goal.loop-at-preserved
loop-at-preserved c =
    let queue = c.args.queue.now in
    let f : Found = found_at queue c.loop-at.at in
    let within : c.loop-at.at < length queue = c.loop-at.invariant.0 in
    let some : 0 < c.loop-at.at = c.loop-at-test.true in
    let before : f.predecessor < c.loop-at.at = c.requires.before c.loop-at.at some within in
    let r : f ≡ get_or queue c.loop-at.at f = get_or_default queue c.loop-at.at (record { node = 0; arc = 0; predecessor = 0 }) f within in (
      omega arith,
      λ net tree.
          let P : List ℕ → Type 0 = λ xs. IsWalk net (found_at queue f.predecessor).node (found_at queue c.args.place).node (reverse xs) in
          subst P (sym c.in_ok-push.ensures.items) (walk_more queue c.loop-at.arcs.items c.loop-at.at (found_at queue c.args.place).node f some within r c.loop-at.invariant.1 net tree),
    )

pub returns : goal.returns
returns c = walk_whole c.args.queue.now c.loop-at.arcs.items c.as_mut_slice.result.now c.reverse.new.self c.from_vec.result c.loop-at.arcs.len c.loop-at.at (found_at c.args.queue.now c.args.place).node
    c.as_mut_slice.ensures.value c.as_mut_slice.ensures.len c.reverse.ensures.after c.reverse.ensures.len c.from_vec.ensures c.loop-at-test.false c.loop-at.invariant.1
