use Rattle.std.proofs.Common.{bytes_eq, option_map, ◌∙◌, sym, ap, rules, tests}
use Rattle.std.proofs.lemmas.Iterator.{YieldsList-from_slice}
use Rattle.std.proofs.lemmas.Iterator.Search.{find_from_yields_List}
use Rattle.graph_defs.specs.Query.{kept_word}
use Rattle.script_text.specs.declared.text.TheConstants.{SORTS}
use Rattle.script_text.proofs.text.sort_of.Goals as goal

pub returns-in_err-kept : goal.returns-in_err-kept
returns-in_err-kept c =
    c.from_residual.ensures
    ∙ ap (option_map (λ kept. kept.now)) (sym c.in_err-kept.was)
    ∙ find_from_yields_List (λ kept. bytes_eq (kept_word kept) c.args.bytes.now) _ _ c.find.result
    c.find.ensures.ran
    (YieldsList-from_slice SORTS cc) (λ x b q k. search (rules, tests))

pub returns : goal.returns
returns c =
    ap (option_map (λ kept. kept.now)) (sym c.in_ok-kept.was)
    ∙ find_from_yields_List (λ kept. bytes_eq (kept_word kept) c.args.bytes.now) _ _ c.find.result
    c.find.ensures.ran
    (YieldsList-from_slice SORTS cc) (λ x b q k. search (rules, tests))
