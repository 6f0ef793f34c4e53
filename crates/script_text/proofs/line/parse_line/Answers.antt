use Rattle.script_text.proofs.Whole.{reading_is, fault_reads, lack_reads, whole_is}
use Rattle.script_text.proofs.line.parse_line.Goals as goal

pub returns-in_err-reading-clause-reads : goal.returns-in_err-reading-clause-reads
returns-in_err-reading-clause-reads c =
    fault_reads _ c.args.line.now c.in_err-reading.field-0.0 c.from_residual.result
    c.table.ensures c.in_err-reading.ensures c.from_residual.ensures.1

pub own-requires : goal.own-requires
own-requires c =
    (reading_is _ c.args.line.now c.in_ok-reading.field-0 c.in-Some.reading
    c.table.ensures c.in_ok-reading.ensures c.in-Some.is).row

pub returns-in_err-own-in-Some-clause-reads : goal.returns-in_err-own-in-Some-clause-reads
returns-in_err-own-in-Some-clause-reads c =
    lack_reads _ c.args.line.now c.in_ok-reading.field-0 c.in-Some.reading
    c.from_residual-in_err-own-in-Some.result
    c.table.ensures c.in_ok-reading.ensures c.in-Some.is c.in_err-own-in-Some.ensures.err
    c.from_residual-in_err-own-in-Some.ensures.1

pub returns-in_ok-own-in-Some-clause-whole : goal.returns-in_ok-own-in-Some-clause-whole
returns-in_ok-own-in-Some-clause-whole c =
    whole_is c.in_ok-own-in-Some.field-0 c.in-Some.reading
    (reading_is _ c.args.line.now c.in_ok-reading.field-0 c.in-Some.reading
    c.table.ensures c.in_ok-reading.ensures c.in-Some.is)
    c.in_ok-own-in-Some.ensures.ok.0 c.in_ok-own-in-Some.ensures.ok.1
