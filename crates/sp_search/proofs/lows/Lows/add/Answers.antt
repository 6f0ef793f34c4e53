use Rattle.std.proofs.Common.{ℕ, List, length, subst}
use Rattle.graph_defs.specs.declared.shortest.Seed.{Seed}
use Rattle.sp_search.specs.Lows.{HasMet}
use Rattle.sp_search.proofs.lows.Lows.add.Goals as goal

pub spread-requires-clause-finding : goal.spread-requires-clause-finding
spread-requires-clause-finding c = let m = c.in_ok-meet.ensures c.args.opened.now c.requires.finding in m.is

pub returns : goal.returns
returns c =
    let net = c.args.net.now in
    let opened = c.args.opened.now in
    let queue = c.args.self.now.found.queue.items in
    let marks = c.args.self.now.found.marks.items in
    let queue' = c.meet.new.found.queue.items in
    let marks' = c.meet.new.found.marks.items in
    let P : List ℕ → Type 0 = λ xs. HasMet net opened (length c.args.self.now.seeds) xs (length xs) queue marks queue' marks' in
    let Q : List Seed → Type 0 = λ xs. HasMet net opened (length xs) c.as_slice-2.result.now (length c.as_slice-2.result.now) queue marks queue' marks' in
    record {
      met_queue = queue';
      met_marks = marks';
      met = subst P c.as_slice-2.ensures (subst Q c.as_slice.ensures (c.in_ok-meet.ensures opened c.requires.finding));
      grown = c.in_ok-spread.ensures.grown;
      is = c.in_ok-spread.ensures.finding;
      closed = c.in_ok-spread.ensures.closed;
      seeds_are = c.in_ok-push.ensures.ok;
    }
