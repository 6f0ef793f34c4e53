-- The walk goes to the front, past what doesn't show.
use Rattle.std.proofs.Common.{◌≡◌, ◌≤◌, ◌++◌, ◌∷◌, Some, false, MatchOption, refl, sym, ap, subst, ◌∙◌}
use Rattle.graph_state.specs.Names.{Has}
use Rattle.graph_lists.specs.Named.{hook_at, list_at, shows_at, IsFirstShown, IsNextShown}
use Rattle.graph_core.proofs.Nearest.{passes_none, last_is, passed_at, passed_has, passes_more, next_shown, first_shown, passes_all}
use Rattle.graph_core.proofs.graph.marks.nearest.Goals as goal

pub loop-turn-init : goal.loop-turn-init
loop-turn-init c = passes_none c.args.lists.now.named c.args.list c.args.x c.requires.there c.prev-at.result
    (λ before behind is. c.prev-at.ensures false c.args.list c.args.x before behind (c.args.hook.now, (c.requires.hook, refl)) is)

pub element_at-y-requires : goal.element_at-y-requires
element_at-y-requires c =
    let h = last_is c.args.lists.now.named c.args.list c.args.x c.loop-turn._turn c.loop-turn.at c.loop-turn.invariant c.in_ok-m.m c.in_ok-m.was in
    let has = passed_has c.args.lists.now.named c.args.list c.args.x c.loop-turn._turn c.loop-turn.at c.loop-turn.invariant c.in_ok-m.m h in
    (h.y, (has, (h.member, c.requires.tokens h.y has)))

pub is_shown-requires-clause-hook : goal.is_shown-requires-clause-hook
is_shown-requires-clause-hook c =
    let h = last_is c.args.lists.now.named c.args.list c.args.x c.loop-turn._turn c.loop-turn.at c.loop-turn.invariant c.in_ok-m.m c.in_ok-m.was in
    let e = c.element_at-y.ensures h.y (passed_has c.args.lists.now.named c.args.list c.args.x c.loop-turn._turn c.loop-turn.at c.loop-turn.invariant c.in_ok-m.m h) h.member (c.requires.tokens h.y (passed_has c.args.lists.now.named c.args.list c.args.x c.loop-turn._turn c.loop-turn.at c.loop-turn.invariant c.in_ok-m.m h)) in
    ap (hook_at c.args.lists.now.named) e.0 ∙ e.1

pub is_shown-requires-clause-there : goal.is_shown-requires-clause-there
is_shown-requires-clause-there c =
    let h = last_is c.args.lists.now.named c.args.list c.args.x c.loop-turn._turn c.loop-turn.at c.loop-turn.invariant c.in_ok-m.m c.in_ok-m.was in
    let e = c.element_at-y.ensures h.y (passed_has c.args.lists.now.named c.args.list c.args.x c.loop-turn._turn c.loop-turn.at c.loop-turn.invariant c.in_ok-m.m h) h.member (c.requires.tokens h.y (passed_has c.args.lists.now.named c.args.list c.args.x c.loop-turn._turn c.loop-turn.at c.loop-turn.invariant c.in_ok-m.m h)) in
    (c.args.list, subst (λ y. Has y (list_at c.args.lists.now.named c.args.list)) (sym e.0) (passed_has c.args.lists.now.named c.args.list c.args.x c.loop-turn._turn c.loop-turn.at c.loop-turn.invariant c.in_ok-m.m h))

pub returns-then-is_shown : goal.returns-then-is_shown
returns-then-is_shown c =
    let h = last_is c.args.lists.now.named c.args.list c.args.x c.loop-turn._turn c.loop-turn.at c.loop-turn.invariant c.in_ok-m.m c.in_ok-m.was in
    let e = c.element_at-y.ensures h.y (passed_has c.args.lists.now.named c.args.list c.args.x c.loop-turn._turn c.loop-turn.at c.loop-turn.invariant c.in_ok-m.m h) h.member (c.requires.tokens h.y (passed_has c.args.lists.now.named c.args.list c.args.x c.loop-turn._turn c.loop-turn.at c.loop-turn.invariant c.in_ok-m.m h)) in
    (next_shown c.args.lists.now.named c.args.list c.args.x c.loop-turn._turn c.loop-turn.at c.loop-turn.invariant c.in_ok-m.m h c.element_at-y.result.0 e.0 (sym c.is_shown.ensures ∙ c.if-is_shown.true), ap (hook_at c.args.lists.now.named) e.0 ∙ e.1)

pub prev-at-requires-in-loop-turn : goal.prev-at-requires-in-loop-turn
prev-at-requires-in-loop-turn c =
    let h = last_is c.args.lists.now.named c.args.list c.args.x c.loop-turn._turn c.loop-turn.at c.loop-turn.invariant c.in_ok-m.m c.in_ok-m.was in
    (false, (c.args.list, (h.y, (passed_has c.args.lists.now.named c.args.list c.args.x c.loop-turn._turn c.loop-turn.at c.loop-turn.invariant c.in_ok-m.m h, h.member))))

pub loop-turn-preserved : goal.loop-turn-preserved
loop-turn-preserved c =
    let h = last_is c.args.lists.now.named c.args.list c.args.x c.loop-turn._turn c.loop-turn.at c.loop-turn.invariant c.in_ok-m.m c.in_ok-m.was in
    let e = c.element_at-y.ensures h.y (passed_has c.args.lists.now.named c.args.list c.args.x c.loop-turn._turn c.loop-turn.at c.loop-turn.invariant c.in_ok-m.m h) h.member (c.requires.tokens h.y (passed_has c.args.lists.now.named c.args.list c.args.x c.loop-turn._turn c.loop-turn.at c.loop-turn.invariant c.in_ok-m.m h)) in
    passes_more c.args.lists.now.named c.args.list c.args.x c.loop-turn._turn c.loop-turn.at c.loop-turn.invariant c.in_ok-m.m h c.prev-at-in-loop-turn.result (ap (shows_at c.args.lists.now.named) (sym e.0) ∙ sym c.is_shown.ensures ∙ c.if-is_shown.false)
    (c.prev-at-in-loop-turn.ensures false c.args.list h.y h.rest (c.loop-turn.invariant.between ++ c.args.x ∷ c.loop-turn.invariant.behind) h.member (passed_at c.args.lists.now.named c.args.list c.args.x c.loop-turn._turn c.loop-turn.at c.loop-turn.invariant c.in_ok-m.m h))

pub returns-in_err-m : goal.returns-in_err-m
returns-in_err-m c =
    subst (λ r. MatchOption r (IsFirstShown c.args.lists.now.named c.args.list c.args.x) (λ y. IsNextShown c.args.lists.now.named c.args.list y.0 c.args.x × (hook_at c.args.lists.now.named y.0 ≡ Some y.1.now))) (sym c.from_residual.ensures)
    (first_shown c.args.lists.now.named c.args.list c.args.x c.loop-turn._turn c.loop-turn.at c.loop-turn.invariant c.in_err-m.was)

pub unreachable-requires : goal.unreachable-requires
unreachable-requires c =
    passes_all c.args.lists.now.named c.args.list c.args.x c.loop-turn._turn c.loop-turn.at c.loop-turn.invariant (subst (λ n. n ≤ c.loop-turn._turn) (c.len-turn-end.ensures false c.args.list (c.args.head.now, (c.requires.head, refl))) c.loop-turn-test.false)
