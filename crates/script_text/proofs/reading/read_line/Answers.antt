use Rattle.std.proofs.Common.{◌≤◌, length, map, Option, IfSome, option_map, subst, sym}
use Rattle.script_text.specs.declared.table.TheConstants.{FORM_LIMIT}
use Rattle.script_text.specs.Borrowed.{entry_seen, token_seen}
use Rattle.script_text.specs.Table.{Entry}
use Rattle.script_text.proofs.Entries.{entry_of-short}
use Rattle.script_text.proofs.reading.read_line.Goals as goal

pub read_args-requires : goal.read_args-requires
read_args-requires c =
    let P : Option Entry → Type 0 = λ found. IfSome found (λ row. length row.forms ≤ FORM_LIMIT) in
    subst P (sym c.in-Some-entry_of.ensures)
    (entry_of-short (map entry_seen c.args.rows.now) c.in-Some.first.bytes.now
    (option_map token_seen c.peek.result) c.requires)
