-- Labelled items as far as a place, and the one there behind them.
use Rattle.std.proofs.Common.{◌≡◌, sym, ap, ◌∙◌, arith, ℕ, ◌+◌, List, [], ◌∷◌, ◌++◌}
use Rattle.std.proofs.lemmas.List.{append-nil, flat_map_more}
use Rattle.std.proofs.lemmas.List.FromFn.{map-range_with_len_more}
use Rattle.std.specs.Prelude.{codes}
use Rattle.reply_text.specs.Text.{words_text}
use Rattle.reply_text.specs.Words.{labelled_word, labelled_words}

pub one_more : (text letter numbers labels : List ℕ) (n : ℕ)
    → (text ++ words_text (labelled_words letter numbers labels n)) ++ words_text (labelled_word letter numbers labels n ∷ [])
    ≡ text ++ words_text (labelled_words letter numbers labels (n + 1))
one_more text letter numbers labels n =
    let word = labelled_word letter numbers labels n in
    let front = labelled_words letter numbers labels n in
    ap (λ (bytes : List ℕ). (text ++ words_text front) ++ bytes) (append-nil (codes " " ++ word))
    ∙ flat_map_more (λ (w : List ℕ). codes " " ++ w) text front word
    ∙ ap (λ (ws : List (List ℕ)). text ++ words_text ws) (sym (map-range_with_len_more (labelled_word letter numbers labels) 0 n n (omega arith)))
