use Rattle.std.proofs.Common.{◌≡◌, ◌∙◌, ap, refl, subst, true, []}
use Rattle.clap.specs.Walk.{texts}
use Rattle.clap.specs.Words.{App, fault_of, first_of, found_of, is_simple, is_simple_and_free, matches_of}
use Rattle.clap.proofs.OnLiterals.{clap_on_literals}
use Rattle.clap.proofs.WalkLemmas.{first_value-rows}
use Rattle.console_run.specs.CommandLine.{leda}
use Rattle.console_run.proofs.words.matches_of.Goals as goal

simple : is_simple leda ≡ true
unfolding clap_on_literals
simple = refl

free : is_simple_and_free leda ≡ true
unfolding clap_on_literals
free = refl

pub returns-in-Ok-try_get_matches_from-clause-read :
    goal.returns-in-Ok-try_get_matches_from-clause-read
returns-in-Ok-try_get_matches_from-clause-read c =
    let is = c.in-Ok.ensures in
    subst (λ (a : App). fault_of a (texts c.args.words.now) ≡ []) is
    (c.in-Ok-try_get_matches_from.ensures.kinds (ap is_simple_and_free is ∙ free))

pub returns-in-Ok-try_get_matches_from-clause-values :
    goal.returns-in-Ok-try_get_matches_from-clause-values
returns-in-Ok-try_get_matches_from-clause-values c = λ id.
    let is = c.in-Ok.ensures in
    let rows = (c.in-Ok-try_get_matches_from.ensures.matches (ap is_simple is ∙ simple)).0 in
    first_value-rows (found_of c.in-Ok-try_get_matches_from.matches) id
    ∙ ap (first_of id) (rows ∙ ap (λ (a : App). matches_of a (texts c.args.words.now)) is)
