use Rattle.std.proofs.Common.{◌≡◌, rules, subst, List, ℕ, ℤ, [], ◌∷◌, ◌++◌, w64, FitsSigned}
use Rattle.std.specs.Prelude.{codes}
use Rattle.std.specs.Fmt.{signed_decimal}
use Rattle.std.proofs.lemmas.Int.{to_z-of_z}
use Rattle.reply_text.specs.Shortest.{pred_word}
use Rattle.reply_text.specs.Text.{words_text}
use Rattle.reply_text.specs.Words.{word_at}
use Rattle.reply_text.proofs.Lines.{lists_behind}
use Rattle.reply_text.proofs.shortest.append_distance_words.Goals as goal

pub returns : goal.returns
returns c =
    let text : List ℕ → List ℕ = λ word. codes " " ++ word in
    let reached = c.args.reached in
    let node = word_at (codes "n") c.args.nodes.now reached.node in
    let dist = signed_decimal reached.dist in
    let pred = pred_word c.args.edges.now reached.pred in
    let fits : FitsSigned w64 reached.dist = search rules in
    lists_behind text c.args.to.now c.append_word.new.to c.append_pred.new.to c.append_pred.result
    (codes "finite" ∷ []) (node ∷ dist ∷ pred ∷ [])
    c.in_ok-append_word.ensures.text.whole c.in_ok-append_word.ensures.text.capacity
    (lists_behind text c.append_word.new.to c.append_item_at.new.to c.append_pred.new.to c.append_pred.result
    (node ∷ []) (dist ∷ pred ∷ []) c.in_ok-append_item_at.ensures.whole c.in_ok-append_item_at.ensures.capacity
    (lists_behind text c.append_item_at.new.to c.append_number.new.to c.append_pred.new.to c.append_pred.result
    (dist ∷ []) (pred ∷ [])
    (subst (λ (z : ℤ). c.append_number.new.to.items ≡ c.append_item_at.new.to.items ++ words_text (signed_decimal z ∷ []))
    (to_z-of_z w64 reached.dist fits) c.in_ok-append_number.ensures.text.whole)
    c.in_ok-append_number.ensures.text.capacity c.append_pred.ensures))
