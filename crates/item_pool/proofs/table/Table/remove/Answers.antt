-- Where somebody goes, no home is taken. Who was at home wasn't among the others.
use Rattle.std.proofs.Common.{◌≡◌, ℕ, Option, Some, None, false, ◌≢◌, inl, inr, refl, sym, ap, ◌∙◌, ⊎_elim, arith}
use Rattle.std.proofs.lemmas.Bool.{cases_eq}
use Rattle.item_pool.specs.Homes.{at_home}
use Rattle.std.specs.Prelude.{IsSome, nat_eq}
use Rattle.std.specs.Option.{option_or}
use Rattle.std.specs.HashMap.{get}
use Rattle.std.proofs.lemmas.Bool.Decides.{eqb_tells}
use Rattle.item_pool.proofs.Sure.{free_still}
use Rattle.item_pool.proofs.table.Table.remove.Goals as goal

there : (o : Option ℕ) → IsSome o → (i : ℕ) × (o ≡ Some i)
there None h = cc
there (Some i) h = (i, refl)

differs : (a b : ℕ) → b ≢ a → nat_eq a b ≡ false
differs a b ne = elim (eqb_tells a b) [ inl t ↦ absurd (ne (sym t.1)) | inr f ↦ f.0 ]

pub invariant_of-self-clause-apart : goal.invariant_of-self-clause-apart
invariant_of-self-clause-apart c = λ s i e.
    let t = c.args.self.now in
    ⊎_elim
    (λ is. let twice : None ≡ Some i = sym c.leave.ensures.gone.here ∙ ap (at_home c.leave.new.self) (sym is) ∙ e in cc)
    (λ ne. c.remove-slot.ensures.updates.2 s (differs c.args.serial s ne) ∙ t.apart s i (sym (c.leave.ensures.gone.others s ne) ∙ e)) (cases_eq s c.args.serial)

pub invariant_of-self-clause-placed : goal.invariant_of-self-clause-placed
invariant_of-self-clause-placed c = λ few.
    let t = c.args.self.now in
    free_still t.homes c.leave.new.self t.next t.sure c.leave.ensures.free (t.placed (omega (arith, few, c.remove-slot.ensures.spare)))

pub invariant_of-self-else-not-leave-clause-placed : goal.invariant_of-self-else-not-leave-clause-placed
invariant_of-self-else-not-leave-clause-placed c = λ few.
    let t = c.args.self.now in
    free_still t.homes c.leave.new.self t.next t.sure c.leave.ensures.free (t.placed few)

pub returns-else-not-leave-clause-entry : goal.returns-else-not-leave-clause-entry
returns-else-not-leave-clause-entry c =
    let t = c.args.self.now in let s = c.args.serial in
    let was = there (at_home t.homes s) (c.leave.ensures.there.0 c.if-not-leave.false) in
    record {
      here = ap (λ o. option_or o (get nat_eq t.others s)) c.leave.ensures.gone.here ∙ t.apart s was.0 was.1;
      others = λ q ne. ap (λ o. option_or o (get nat_eq t.others q)) (c.leave.ensures.gone.others q ne);
    }
