use Rattle.std.proofs.Common.{◌∙◌, ap, length, unwrap_or}
use Rattle.script_text.proofs.Tokens.{position_or_len-is}
use Rattle.script_text.proofs.token.token_len.Goals as goal

pub returns-clause-len : goal.returns-clause-len
returns-clause-len c =
    c.unwrap_or.ensures ∙ (ap (λ o. unwrap_or o (length c.args.bytes.now))
    c.first_blank.ensures.place ∙ position_or_len-is c.args.bytes.now)
