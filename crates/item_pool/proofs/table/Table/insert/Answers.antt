-- A serial whose home is taken isn't among serials whose homes are free, so that there is room for it.
use Rattle.std.proofs.Common.{◌+◌, ◌-◌, ◌<◌, subst, sym, ◌∙◌, ⊎_elim, arith}
use Rattle.std.proofs.lemmas.Bool.{false≢true, cases_lt}
use Rattle.std.specs.HashMap.{spare}
use Rattle.item_pool.specs.Homes.{AreFree}
use Rattle.item_pool.proofs.Sure.{free_first, free_next}
use Rattle.item_pool.proofs.table.Table.insert.Goals as goal

pub unreachable-requires : goal.unreachable-requires
unreachable-requires c =
    let t = c.args.self.now in
    let taken : spare t.others < t.sure → ⊥ = λ few. false≢true (sym c.if-not-settle.true ∙ c.settle.ensures.free.1 (free_first t.homes t.next t.sure (t.placed few) c.requires.sure)) in
    let room : 0 < spare t.others = ⊎_elim (λ few. absurd (taken few)) (λ enough. omega (arith, enough, c.requires.sure)) (cases_lt (spare t.others) t.sure) in
    absurd (false≢true (c.in-Err.ensures.succeeds room))

pub invariant_of-self-clause-placed : goal.invariant_of-self-clause-placed
invariant_of-self-clause-placed c = λ few.
    let t = c.args.self.now in
    let first = free_first t.homes t.next t.sure (t.placed (omega (arith, few, c.insert.ensures.spare))) c.requires.sure in
    absurd (false≢true (sym c.if-not-settle.true ∙ c.settle.ensures.free.1 first))

pub invariant_of-self-else-not-settle-clause-placed : goal.invariant_of-self-else-not-settle-clause-placed
invariant_of-self-else-not-settle-clause-placed c = λ few.
    let t = c.args.self.now in
    subst (λ l. AreFree l (t.next + 1) (t.sure - 1)) (sym (c.settle.ensures.placed c.if-not-settle.false)) (free_next t.homes t.next t.sure _ (t.placed (omega (arith, few))))
