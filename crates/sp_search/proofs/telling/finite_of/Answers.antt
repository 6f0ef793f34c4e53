use Rattle.std.proofs.Common.{List, length, refl, sym, subst}
use Rattle.graph_defs.specs.declared.shortest.Finite.{Finite}
use Rattle.sp_search.specs.Finding.{found_at}
use Rattle.sp_search.specs.Telling.{FitsNext, IsTold}
use Rattle.sp_search.proofs.Tallies.{next_fits, telling_more}
use Rattle.sp_search.proofs.telling.finite_of.Goals as goal

pub told-requires : goal.told-requires
told-requires c =
    let cost = c.args.cost.now in
    let queue = c.args.queue.now in
    let k = c.loop-found.found-index in
    let P : List Finite → Type 0 = λ xs. FitsNext cost xs (found_at queue k) (found_at queue k).why in
    subst P (sym c.as_slice.ensures.value)
    (next_fits cost queue k c.loop-found.finite.items c.requires.behind c.loop-found-test.true c.loop-found.invariant (length cost) c.requires.known refl c.requires.fits (found_at queue k).why refl)

pub loop-found-preserved : goal.loop-found-preserved
loop-found-preserved c =
    let cost = c.args.cost.now in
    let queue = c.args.queue.now in
    let k = c.loop-found.found-index in
    let x : Finite = c.told.result in
    let P : List Finite → Type 0 = λ xs. IsTold cost xs (found_at queue k) (found_at queue k).why x in
    telling_more cost queue k c.loop-found.finite.items c.requires.behind c.loop-found-test.true c.loop-found.invariant x (subst P c.as_slice.ensures.value c.told.ensures)
    c.push.new.self.items c.in_ok-push.ensures.items
