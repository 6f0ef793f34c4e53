use Rattle.std.proofs.Common.{sym}
use Rattle.script_text.proofs.Tokens.{tokens_from-none, tokens_from-cut}
use Rattle.script_text.proofs.token.first_token.Goals as goal

pub returns-in_err-blanks-clause-tokens : goal.returns-in_err-blanks-clause-tokens
returns-in_err-blanks-clause-tokens c =
    rw c.from_residual.ensures
    (sym (tokens_from-none c.args.bytes.now c.args.column (sym c.in_err-blanks.ensures.place)))

pub returns-clause-tokens : goal.returns-clause-tokens
returns-clause-tokens c =
    sym (tokens_from-cut c.args.bytes.now c.split_at.result.1.now c.split_at-2.result.0.now
    c.args.column c.in_ok-blanks.blanks c.token_len.result c.in_ok-blanks.ensures.place
    c.split_at.ensures.back
    c.token_len.ensures.len c.split_at-2.ensures.front c.split_at-2.ensures.front_len)
