use Rattle.std.proofs.Common.{◌≡◌, ◌≤◌, length, drop, map}
use Rattle.script_text.specs.declared.table.TheConstants.{FORM_LIMIT}
use Rattle.script_text.specs.Borrowed.{arg_seen}
use Rattle.script_text.specs.Line.{arguments}
use Rattle.script_text.proofs.Arguments.{with_front}
use Rattle.script_text.proofs.reading.read_args.Given as goal

abbrev pub invariant-loop-form : goal.invariant-loop-form
invariant-loop-form l =
    (with_front l.out_of_range (map arg_seen l.args.items)
    (arguments (drop l.form-index l.forms) l.tokens.column l.tokens.tokens)
    ≡ arguments l.forms l.initial.tokens.column l.initial.tokens.tokens)
    × (length l.args.items ≤ l.form-index)
    × (l.args.capacity ≡ FORM_LIMIT)
