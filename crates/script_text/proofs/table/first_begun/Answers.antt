use Rattle.std.proofs.Common.{◌&&◌, bytes_eq, option_map, ◌∙◌, rules, tests}
use Rattle.std.proofs.lemmas.Iterator.{YieldsList-from_slice}
use Rattle.std.proofs.lemmas.Iterator.Search.{find_from_yields_List}
use Rattle.script_text.specs.Borrowed.{token_seen}
use Rattle.script_text.specs.Table.{may_begin}
use Rattle.script_text.proofs.table.first_begun.Goals as goal

pub returns : goal.returns
returns c =
    c.copied.ensures
    ∙ find_from_yields_List (λ entry. bytes_eq entry.0.now c.args.spelling.now && may_begin
    entry.2.now (option_map token_seen c.args.next)) _ _ c.find.result c.find.ensures.ran
    (YieldsList-from_slice c.args.rows.now cc) (λ x b q k. search (rules, tests))
