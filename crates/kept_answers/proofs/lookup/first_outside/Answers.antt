use Rattle.std.proofs.Common.{not, ◌∙◌, rules, tests}
use Rattle.std.proofs.lemmas.Iterator.{YieldsList-from_slice}
use Rattle.std.proofs.lemmas.Iterator.Search.{find_from_yields_List}
use Rattle.kept_answers.specs.Checked.{is_listed}
use Rattle.kept_answers.proofs.lookup.first_outside.Goals as goal

pub returns : goal.returns
returns c =
    c.copied.ensures
    ∙ find_from_yields_List (λ number. not (is_listed number c.args.among.now)) _ _ c.find.result
    c.find.ensures.ran (YieldsList-from_slice c.args.numbers.now cc)
    (λ x b q k. search (rules, tests))
