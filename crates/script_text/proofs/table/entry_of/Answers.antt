use Rattle.std.proofs.Common.{◌&&◌, bytes_eq, option_map}
use Rattle.script_text.specs.Borrowed.{entry_seen, token_seen}
use Rattle.script_text.specs.Table.{may_begin}
use Rattle.script_text.proofs.Lists.{either-first, either-second}
use Rattle.script_text.proofs.table.entry_of.Goals as goal

pub returns-in-Some : goal.returns-in-Some
returns-in-Some c =
    either-first entry_seen
    (λ entry. bytes_eq entry.spelling c.args.spelling.now && may_begin entry.forms
    (option_map token_seen c.args.next))
    (λ entry. bytes_eq entry.spelling c.args.spelling.now) c.args.rows.now c.in-Some.entry
    c.in-Some.ensures

pub returns-in-None : goal.returns-in-None
returns-in-None c =
    either-second entry_seen
    (λ entry. bytes_eq entry.spelling c.args.spelling.now && may_begin entry.forms
    (option_map token_seen c.args.next))
    (λ entry. bytes_eq entry.spelling c.args.spelling.now) c.args.rows.now c.first_spelled.result
    c.in-None.ensures
    c.first_spelled.ensures
