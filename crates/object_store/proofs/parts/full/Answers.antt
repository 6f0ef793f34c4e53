-- The pool has as many items as there are.
use Rattle.std.proofs.Common.{sym, ◌∙◌}
use Rattle.object_store.proofs.Counts.{full_items, spent, not_spent}
use Rattle.object_store.proofs.parts.full.Goals as goal

pub returns-then-len-eq-CELL_LIMIT-clause-full : goal.returns-then-len-eq-CELL_LIMIT-clause-full
returns-then-len-eq-CELL_LIMIT-clause-full c =
    sym (full_items c.args.slots.now c.args.cells.now c.requires c.len.ensures.within (sym c.len.ensures.len ∙ c.if-len-eq-CELL_LIMIT.true))

pub returns-then-made-eq-MOST_SERIALS-clause-full : goal.returns-then-made-eq-MOST_SERIALS-clause-full
returns-then-made-eq-MOST_SERIALS-clause-full c =
    sym (spent c.args.slots.now c.args.cells.now c.requires c.len.ensures.within (λ e. c.if-len-eq-CELL_LIMIT.false (c.len.ensures.len ∙ e)) (sym c.made.ensures.made ∙ c.if-made-eq-MOST_SERIALS.true))

pub returns-else-made-eq-MOST_SERIALS-clause-full : goal.returns-else-made-eq-MOST_SERIALS-clause-full
returns-else-made-eq-MOST_SERIALS-clause-full c =
    sym (not_spent c.args.slots.now c.args.cells.now c.requires c.len.ensures.within (λ e. c.if-len-eq-CELL_LIMIT.false (c.len.ensures.len ∙ e)) (λ e. c.if-made-eq-MOST_SERIALS.false (c.made.ensures.made ∙ e)))
