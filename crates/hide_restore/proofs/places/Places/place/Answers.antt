-- The table is right at the numbers of the list.
use Rattle.std.proofs.Common.{◌≡◌, ◌<◌, MatchOption, length, get_or, sym, ap, subst, ◌∙◌, arith}
use Rattle.graph_state.specs.Names.{Has}
use Rattle.hide_restore.specs.Net.{place_of}
use Rattle.hide_restore.proofs.Numbers.{looked, has_at}
use Rattle.hide_restore.proofs.places.Places.place.Goals as goal

pub returns-in_err-place : goal.returns-in_err-place
returns-in_err-place c =
    let a = c.self.inside in
    subst (λ r. MatchOption r (Has c.args.number c.args.self.now → ⊥) (λ place. Has c.args.number c.args.self.now × (place ≡ place_of c.args.number c.args.self.now))) (sym c.from_residual.ensures)
    (λ i.
    let l = looked a.numbers.items a.table.items c.self.invariant c.args.number (subst (Has c.args.number) (sym c.self.view_is) i) in
    let past = c.in_err-place.ensures.lookup.3 in
    let long = ap length c.deref.ensures.value in
    let within = l.in_table in
    omega (arith, past, long, within))

pub returns-in_err-get : goal.returns-in_err-get
returns-in_err-get c =
    let a = c.self.inside in
    subst (λ r. MatchOption r (Has c.args.number c.args.self.now → ⊥) (λ place. Has c.args.number c.args.self.now × (place ≡ place_of c.args.number c.args.self.now))) (sym c.from_residual-in_err-get.ensures)
    (λ i.
    let l = looked a.numbers.items a.table.items c.self.invariant c.args.number (subst (Has c.args.number) (sym c.self.view_is) i) in
    let read = c.in_ok-place.ensures.lookup.4 (omega arith) 0 ∙ ap (λ xs. get_or xs c.args.number 0) c.deref.ensures.value ∙ l.place in
    let past = c.in_err-get.ensures.lookup.3 in
    let long = ap length c.deref-2.ensures.value in
    let within = l.in_numbers in
    omega (arith, past, long, within, read))

pub returns-then-branch-number : goal.returns-then-branch-number
returns-then-branch-number c =
    let a = c.self.inside in
    let k = c.in_ok-place.field-0.now in
    let within : k < length a.numbers.items = subst (λ n. k < n) (ap length c.deref-2.ensures.value) c.in_ok-get.ensures.lookup.3.0 in
    let read : get_or a.numbers.items k 0 ≡ c.args.number = sym (c.in_ok-get.ensures.lookup.4 (omega arith) 0 ∙ ap (λ xs. get_or xs k 0) c.deref-2.ensures.value) ∙ c.if-branch-number.true in
    let has : Has c.args.number a.numbers.items = subst (λ w. Has w a.numbers.items) read (has_at a.numbers.items k 0 within) in
    let l = looked a.numbers.items a.table.items c.self.invariant c.args.number has in
    (subst (Has c.args.number) c.self.view_is has, c.in_ok-place.ensures.lookup.4 (omega arith) 0 ∙ ap (λ xs. get_or xs c.args.number 0) c.deref.ensures.value ∙ l.place ∙ ap (place_of c.args.number) c.self.view_is)

pub returns-else-branch-number : goal.returns-else-branch-number
returns-else-branch-number c i =
    let a = c.self.inside in
    let k = c.in_ok-place.field-0.now in
    let l = looked a.numbers.items a.table.items c.self.invariant c.args.number (subst (Has c.args.number) (sym c.self.view_is) i) in
    let read = c.in_ok-place.ensures.lookup.4 (omega arith) 0 ∙ ap (λ xs. get_or xs c.args.number 0) c.deref.ensures.value ∙ l.place in
    c.if-branch-number.false (c.in_ok-get.ensures.lookup.4 (omega arith) 0 ∙ ap (λ xs. get_or xs k 0) c.deref-2.ensures.value ∙ ap (λ n. get_or a.numbers.items n 0) read ∙ l.number)
