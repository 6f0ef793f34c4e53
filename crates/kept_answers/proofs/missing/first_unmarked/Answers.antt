use Rattle.std.proofs.Common.{not, false, get_or, ◌∙◌, rules, tests}
use Rattle.std.proofs.lemmas.Iterator.{YieldsList-from_slice}
use Rattle.std.proofs.lemmas.Iterator.Search.{find_from_yields_List}
use Rattle.kept_answers.proofs.missing.first_unmarked.Goals as goal

pub returns : goal.returns
returns c =
    c.copied.ensures
    ∙ find_from_yields_List (λ number. not (get_or c.args.marks.now number false)) _ _ c.find.result
    c.find.ensures.ran (YieldsList-from_slice c.args.numbers.now cc)
    (λ x b q k. search (rules, tests))
