-- What a command says.
use Rattle.std.specs.Prelude.{List}
use Rattle.script_text.specs.declared.argument.Arg.{Arg}
use Rattle.script_text.specs.declared.word.Word.{Word}

-- a command's word, and its arguments in the order of the line
pub record Said : Type 0 where
  pub word : Word
  pub args : List Arg
