-- The homes are there twice, or as before where there was no memory.
use Rattle.std.proofs.Common.{length, is_ok, sym, ap, subst, ◌∙◌, eqb-true}
use Rattle.item_pool.specs.Homes.{at_home, StayFree}
use Rattle.item_pool.proofs.AtHome.{doubled_homes, doubled_at_home, doubled_free, first_homes}
use Rattle.item_pool.proofs.homes.Homes.double.Goals as goal

pub invariant_of-self : goal.invariant_of-self
invariant_of-self c =
    let old = c.self.inside.places in let new = c.resize.new.self in
    λ some. first_homes old.len (length new.items) (is_ok c.resize.result) (eqb-true old.len 0 (sym c.is_empty.ensures ∙ c.if-is_empty.true)) (sym new.ok.0 ∙ c.resize.ensures.len) some

pub invariant_of-self-else-is_empty : goal.invariant_of-self-else-is_empty
invariant_of-self-else-is_empty c =
    let v = c.self.inside.places in
    doubled_homes v.items _ v.len v.ok.0 (is_ok c.extend_from_within.result) c.extend_from_within.ensures.items c.self.invariant

pub returns-else-is_empty-clause-kept : goal.returns-else-is_empty-clause-kept
returns-else-is_empty-clause-kept c = λ s.
    let v = c.self.inside.places in
    doubled_at_home v.items _ v.len v.ok.0 (is_ok c.extend_from_within.result) c.extend_from_within.ensures.items s ∙ ap (λ l. at_home l s) c.self.view_is

pub returns-else-is_empty-clause-free : goal.returns-else-is_empty-clause-free
returns-else-is_empty-clause-free c =
    let v = c.self.inside.places in
    subst (λ l. StayFree l c.extend_from_within.new.self.items) c.self.view_is (doubled_free v.items _ v.len v.ok.0 (is_ok c.extend_from_within.result) c.extend_from_within.ensures.items)
