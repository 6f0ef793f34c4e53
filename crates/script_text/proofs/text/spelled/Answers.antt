use Rattle.std.proofs.Common.{bytes_eq, option_map, ◌∙◌, sym, ap, rules, tests}
use Rattle.std.proofs.lemmas.Iterator.{YieldsList-from_slice}
use Rattle.std.proofs.lemmas.Iterator.Search.{find_from_yields_List}
use Rattle.script_text.proofs.Lists.{spelled-map}
use Rattle.script_text.proofs.text.spelled.Goals as goal

pub returns-in_err-pair : goal.returns-in_err-pair
returns-in_err-pair g c =
    c.from_residual.ensures
    ∙ ap (option_map (λ pair. pair.now.1)) (sym c.in_err-pair.was)
    ∙ spelled-map c.find.result c.args.table.now c.args.bytes.now
    (find_from_yields_List (λ pair. bytes_eq pair.0.now c.args.bytes.now) _ _ c.find.result
    c.find.ensures.ran
    (YieldsList-from_slice c.args.table.now cc) (λ x b q k. search (rules, tests)))

pub returns : goal.returns
returns g c =
    ap (option_map (λ pair. pair.now.1)) (sym c.in_ok-pair.was)
    ∙ spelled-map c.find.result c.args.table.now c.args.bytes.now
    (find_from_yields_List (λ pair. bytes_eq pair.0.now c.args.bytes.now) _ _ c.find.result
    c.find.ensures.ran
    (YieldsList-from_slice c.args.table.now cc) (λ x b q k. search (rules, tests)))
