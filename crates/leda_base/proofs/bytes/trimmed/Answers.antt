use Rattle.std.proofs.Common.{◌∙◌, sym, arith, rules}
use Rattle.leda_base.proofs.Trims.{trimmed-drop, trimmed-keep}
use Rattle.leda_base.proofs.bytes.trimmed.Goals as goal

pub loop-rest-preserved : goal.loop-rest-preserved
loop-rest-preserved c = (
  trimmed-drop c.loop-rest.rest.now (omega arith) (sym c.is_blank.ensures ∙ c.if-is_blank.true)
      ∙ c.loop-rest.invariant.0,
  search rules,
)

pub returns-else-is_blank-clause-value : goal.returns-else-is_blank-clause-value
returns-else-is_blank-clause-value c =
    trimmed-keep c.loop-rest.rest.now (omega arith)
    (sym c.is_blank.ensures ∙ c.if-is_blank.false) ∙ c.loop-rest.invariant.0
