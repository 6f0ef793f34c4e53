use Rattle.std.proofs.Common.{sym, ◌∙◌, arith}
use Rattle.graph_text.proofs.Pairs.{paired-more}
use Rattle.graph_text.proofs.pair.first_unpaired.Goals as goal

pub loop-i-preserved : goal.loop-i-preserved
loop-i-preserved c =
    paired-more c.args.edges.now c.args.lines.now c.loop-i.i c.index-edges-i.result c.requires
    (omega arith) c.index-edges-i.is (sym c.is_paired.ensures ∙ c.if-not-is_paired.false)
    ∙ c.loop-i.invariant
