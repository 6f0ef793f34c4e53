-- The nodes that weren't taken out.
use Rattle.std.proofs.Common.{◌≡◌, ℕ, ◌+◌, not, ◌++◌, ◌∷◌, [], List, get_or, sym, ◌∙◌, ap, subst}
use Rattle.std.specs.List.{filter, range_with_len}
use Rattle.graph_defs.proofs.Numbers.{filter_more_yes, filter_more_no}
use Rattle.sp_search.specs.declared.labels.Label.{Label}
use Rattle.sp_search.specs.declared.labels.Label.TheVariants.{Unseen, Taken}
use Rattle.sp_search.specs.Labels.{label_at, is_free}
use Rattle.sp_search.proofs.LabelSteps.{not_taken}

pub free_skip : (labels items : List Label) (k : ℕ) (nodes : List ℕ) → items ≡ labels → get_or items k Unseen ≡ Taken → nodes ≡ filter (λ v. is_free (label_at labels v)) (range_with_len 0 k)
    → nodes ≡ filter (λ v. is_free (label_at labels v)) (range_with_len 0 (k + 1))
free_skip labels items k nodes q t e =
    let P : List Label → Type 0 = λ l. label_at l k ≡ Taken in
    e ∙ sym (filter_more_no (λ v. is_free (label_at labels v)) k (ap is_free (subst P q t)))

pub free_push : (labels items : List Label) (k : ℕ) (nodes : List ℕ) → items ≡ labels → (get_or items k Unseen ≡ Taken → ⊥) → nodes ≡ filter (λ v. is_free (label_at labels v)) (range_with_len 0 k)
    → nodes ++ k ∷ [] ≡ filter (λ v. is_free (label_at labels v)) (range_with_len 0 (k + 1))
free_push labels items k nodes q t e =
    let P : List Label → Type 0 = λ l. label_at l k ≡ Taken → ⊥ in
    ap (λ (xs : List ℕ). xs ++ k ∷ []) e ∙ sym (filter_more_yes (λ v. is_free (label_at labels v)) k (ap not (not_taken (label_at labels k) (subst P q t))))
