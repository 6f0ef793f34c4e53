use borrow.Author.Differences.{ints}
use mir.Syntax.{w64, w128}
use Rattle.std.proofs.Common.{◌≡◌, ℤ, arith, rules, sym, to_z, of_z, FitsSigned}
use Rattle.std.proofs.lemmas.Bool.{true≢false, iff_false}
use Rattle.graph_defs.specs.Sum.{at}
use Rattle.flow_check.proofs.Steps.{capacity_same}
use Rattle.flow_check.proofs.top.has_value.Goals as goal

pub returns-then-not-is_same : goal.returns-then-not-is_same
returns-then-not-is_same c = (
  λ t. absurd (true≢false (sym t)),
  λ h.
      let value = c.args.a.now.value in
      let f : FitsSigned w64 value = search rules in
      let row = at c.args.rows.now c.args.s in
      let r = c.requires.rows.each c.args.s c.requires.s in
      let e = h.0 in
      let g : FitsSigned w128 row = search rules in
      absurd (iff_false c.is_same.ensures c.if-not-is_same.true (omega (arith, ints))),
)

pub returns : goal.returns
returns c =
    let value = c.args.a.now.value in
    let f : FitsSigned w64 value = search rules in
    let row = at c.args.rows.now c.args.s in
    let r = c.requires.rows.each c.args.s c.requires.s in
    let g : FitsSigned w128 row = search rules in
    let sum = c.capacity_of.result in
    let k : FitsSigned w128 sum = search rules in
    let cap = c.capacity_of.ensures in
    let same = capacity_same c.args.net.now c.args.cap.now c.args.a.now.cut c.args.marks.now c.requires.marks in
    let here = c.is_same.ensures.0 c.if-not-is_same.false in (
      λ t. let there = c.is_same-2.ensures.0 t in (omega (arith, ints), omega (arith, ints)),
      λ h. let e = h.1 in c.is_same-2.ensures.1 (omega (arith, ints)),
    )
