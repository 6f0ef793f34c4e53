use Rattle.script_text.specs.Borrowed.{arg_seen, has_bytes}
use Rattle.script_text.proofs.Lists.{any-image, on_err}
use Rattle.script_text.proofs.reading.own_args.Goals as goal

pub returns-in_err-own-clause-err : goal.returns-in_err-own-clause-err
returns-in_err-own-clause-err c =
    on_err _ c.from_residual.result
    (any-image arg_seen has_bytes c.args.args.now c.loop-arg.arg-index _ c.loop-arg-test.true
    c.in_err-own.ensures.err)
