-- The state of the node says it.
use Rattle.std.proofs.Common.{◌≡◌, true, false, sym, subst, ap, ◌∙◌}
use Rattle.item_ring.specs.declared.block.Cell.{Cell}
use Rattle.item_ring.specs.RingsHold.{lists_of}
use Rattle.item_ring.specs.RingLists.{IsLinked, AreApart}
use Rattle.item_ring.proofs.Plans.{is_linked, apart_now}
use Rattle.item_ring.proofs.rings.Rings.is_linked.Goals as goal

pub returns-in-Linked-clause-apart : goal.returns-in-Linked-clause-apart
returns-in-Linked-clause-apart c = subst AreApart c.self.view_is (apart_now c.self.inside c.self.invariant)

pub returns-in_default : goal.returns-in_default
returns-in_default c = record {
  linked = (
    (λ e. let clash : false ≡ true = e in let no : false ≡ true → ⊥ = λ p. cc in absurd (no clash)),
    (λ l.
        let a = c.self.inside in
        let at = subst (λ k. IsLinked (lists_of a) k) (sym c.m.view_is) (subst (λ x. IsLinked x c.args.m) (sym c.self.view_is) l) in
        absurd (c.in_default.not-Linked (ap (λ (x : Cell). x.state) c.get.ensures ∙ is_linked a c.self.invariant c.m.inside.slot at))),
  );
  apart = subst AreApart c.self.view_is (apart_now c.self.inside c.self.invariant);
}
