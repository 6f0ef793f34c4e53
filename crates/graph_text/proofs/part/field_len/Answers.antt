use Rattle.std.proofs.Common.{◌∙◌, sym, arith}
use Rattle.graph_text.proofs.Fields.{field-at}
use Rattle.graph_text.proofs.part.field_len.Goals as goal

pub returns-else-not-is_blank-clause-field : goal.returns-else-not-is_blank-clause-field
returns-else-not-is_blank-clause-field c =
    (field-at c.args.bytes.now c.loop-len.len c.loop-len.invariant.0 c.loop-len.invariant.1
    (λ lt. sym c.is_blank.ensures ∙ c.if-not-is_blank.false)).0

pub returns-else-not-is_blank-clause-rest : goal.returns-else-not-is_blank-clause-rest
returns-else-not-is_blank-clause-rest c =
    (field-at c.args.bytes.now c.loop-len.len c.loop-len.invariant.0 c.loop-len.invariant.1
    (λ lt. sym c.is_blank.ensures ∙ c.if-not-is_blank.false)).1

pub returns-after-loop-len-clause-field : goal.returns-after-loop-len-clause-field
returns-after-loop-len-clause-field c =
    (field-at c.args.bytes.now c.loop-len.len c.loop-len.invariant.0 c.loop-len.invariant.1
    (λ lt. absurd (omega arith))).0

pub returns-after-loop-len-clause-rest : goal.returns-after-loop-len-clause-rest
returns-after-loop-len-clause-rest c =
    (field-at c.args.bytes.now c.loop-len.len c.loop-len.invariant.0 c.loop-len.invariant.1
    (λ lt. absurd (omega arith))).1
