-- The arcs along which something flows as far as a place, and one more.
use Rattle.std.proofs.Common.{◌≡◌, refl, sym, ap, ◌∙◌, arith, ℕ, ◌+◌, ℤ, true, false, cond, List, [], ◌∷◌, ◌++◌}
use Rattle.std.proofs.lemmas.List.{append-nil, append_assoc, map-append, map-id}
use Rattle.std.proofs.lemmas.Grind.{flat_map-append}
use Rattle.std.proofs.lemmas.List.FromFn.{filter_of_map_range_with_len_more}
use Rattle.std.specs.List.{filter, range_with_len}
use Rattle.std.specs.Prelude.{codes}
use Rattle.reply_text.specs.Text.{words_text}
use Rattle.reply_text.specs.Flows.{carries, carriers_below, carried_word, carried_words, itself}

module _ (flow : List ℤ) (k : ℕ) where
  pub next : carriers_below flow (k + 1) ≡ carriers_below flow k ++ itself flow k
  next =
      ap (filter (carries flow)) (sym (map-id (range_with_len 0 (k + 1))))
      ∙ filter_of_map_range_with_len_more (carries flow) (λ (j : ℕ). j) 0 k k (omega arith)
      ∙ ap (λ js. filter (carries flow) js ++ itself flow k) (map-id (range_with_len 0 k))

  pub none_more : carries flow k ≡ false → carriers_below flow (k + 1) ≡ carriers_below flow k
  none_more none = next ∙ rw none (append-nil (carriers_below flow k))

  pub one_below : carries flow k ≡ true → carriers_below flow (k + 1) ≡ carriers_below flow k ++ k ∷ []
  one_below some = next ∙ rw some refl

pub one_more : (text edges : List ℕ) (flow : List ℤ) (k : ℕ)
    → (text ++ words_text (carried_words edges flow (carriers_below flow k))) ++ words_text (carried_words edges flow (itself flow k))
    ≡ text ++ words_text (carried_words edges flow (carriers_below flow (k + 1)))
one_more text edges flow k =
    let front = carried_words edges flow (carriers_below flow k) in
    let back = carried_words edges flow (itself flow k) in
    append_assoc text (words_text front) (words_text back)
    ∙ ap (λ (more : List ℕ). text ++ more)
    (sym (flat_map-append (λ (w : List ℕ). codes " " ++ w) front back)
    ∙ ap words_text (sym (ap (carried_words edges flow) (next flow k)
    ∙ map-append (carried_word edges flow) (carriers_below flow k) (itself flow k))))
