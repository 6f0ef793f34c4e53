-- The words of the command line: which of them are taken, and what they ask for.
use Rattle.std.specs.Prelude.{◌≡◌, ℕ, Bool, true, false, if◌then◌else◌, List, [], Option, None, Some, is_some, IfSome, codes}
use Rattle.std.specs.Bool.{nat_le}
use Rattle.std.specs.Option.{option_and_then, option_map_or}
use Rattle.std.specs.Str.{bytes_eq}
use Rattle.clap.specs.Words.{App, Rule, Text, fault_of, first_of, matches_of, new_app, new_rule, with_rule}
use Rattle.clap.specs.Simple.{on_top}
use Rattle.clap.specs.declared.builder.action.ArgAction.TheVariants.{Set, SetTrue}
use Rattle.leda_base.specs.Decimal.{natural_of}

-- the flag `--strict`
abbrev pub strict_flag : Rule
strict_flag =
    record (new_rule (codes "strict")) { long = Some (codes "strict"); action = Some SetTrue }

-- `--workload SEED`
abbrev pub workload_option : Rule
workload_option =
    record (new_rule (codes "workload")) { long = Some (codes "workload"); action = Some Set }

-- `leda [--strict] [--workload SEED]`, without the flags for help and version
abbrev pub leda : App
leda = with_rule (with_rule (on_top (λ shape. record shape {
  disable_help_flag = true;
  disable_version_flag = true;
}) (new_app (codes "leda"))) strict_flag) workload_option

-- the seed that a text writes: digits with a value from 0 to 4,294,967,295
abbrev pub seed_in : Text → Option ℕ
seed_in text =
    option_and_then (λ n. if nat_le n 4294967295 then Some n else None) (natural_of text)

-- the value of `--workload`, where it stands among the words
abbrev pub seed_text : List Text → Option Text
seed_text words = first_of (codes "workload") (matches_of leda words)

-- the words are those of such a call, and the value of `--workload` is a seed
pub record AreTaken (words : List Text) : Type 0 where
  pub read : fault_of leda words ≡ []
  pub seed : IfSome (seed_text words) (λ text. is_some (seed_in text) ≡ true)

-- the value of a flag says that it stands there
abbrev pub is_set : Text → Bool
is_set value = bytes_eq value (codes "true")

-- `--strict` stands among the words
abbrev pub is_strict : List Text → Bool
is_strict words = option_map_or is_set (first_of (codes "strict") (matches_of leda words)) false

-- the seed of the workload that is asked for
abbrev pub seed_of : List Text → Option ℕ
seed_of words = option_and_then seed_in (seed_text words)
