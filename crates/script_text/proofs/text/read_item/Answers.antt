use Rattle.std.proofs.Common.{◌≡◌, arith}
use Rattle.std.proofs.lemmas.Grind.{common_steps}
use Rattle.script_text.specs.Text.{item_number}
use Rattle.script_text.proofs.Names.{named, unnamed}
use Rattle.script_text.proofs.text.read_item.Goals as goal

pub returns-in-len1-up-clause-name : goal.returns-in-len1-up-clause-name
returns-in-len1-up-clause-name c =
    let value : c.read_number.result ≡ item_number c.args.letter c.args.bytes.now = grind
    (arith, common_steps) in
    named c.args.letter c.args.bytes.now c.read_number.result value

pub returns-in-len1-up-clause-no_name : goal.returns-in-len1-up-clause-no_name
returns-in-len1-up-clause-no_name c =
    let value : c.read_number.result ≡ item_number c.args.letter c.args.bytes.now = grind
    (arith, common_steps) in
    unnamed c.args.letter c.args.bytes.now c.read_number.result value
