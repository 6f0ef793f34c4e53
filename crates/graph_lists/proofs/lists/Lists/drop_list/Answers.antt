-- Both heads are gone.
use Rattle.std.proofs.Common.{◌≡◌, ◌+◌, false, Some, [], sym, ap, subst, ◌∙◌, arith}
use Rattle.std.specs.FinMap as fin
use Rattle.graph_lists.specs.Named.{Lists, head_at, list_at}
use Rattle.graph_lists.specs.Tied.{AreTied}
use Rattle.graph_lists.proofs.Rows.{is_head}
use Rattle.graph_lists.proofs.Makes.{tied_unlisted, unlisted_head, unlisted_empty, unlisted_left}
use Rattle.graph_lists.proofs.Room.{len_less}
use Rattle.graph_lists.proofs.lists.Lists.drop_list.Goals as goal

pub drop_head-requires-clause-head : goal.drop_head-requires-clause-head
drop_head-requires-clause-head c =
    let a = c.self.inside in
    is_head a.seen.view a.rings false c.args.list (list_at a.seen.view c.args.list) c.args.head.now.full (c.self.invariant.rows false c.args.list c.args.head.now (subst (λ (o : Lists). head_at o.named c.args.list ≡ Some c.args.head.now) (sym c.self.view_is) c.requires.head))

pub drop_head-requires-clause-empty : goal.drop_head-requires-clause-empty
drop_head-requires-clause-empty c =
    let a = c.self.inside in
    unlisted_empty a.seen.view a.rings c.self.invariant c.args.list c.args.head.now (subst (λ (o : Lists). head_at o.named c.args.list ≡ Some c.args.head.now) (sym c.self.view_is) c.requires.head) (subst (λ (o : Lists). list_at o.named c.args.list ≡ []) (sym c.self.view_is) c.requires.empty) false

pub drop_head-requires-2-clause-head : goal.drop_head-requires-2-clause-head
drop_head-requires-2-clause-head c =
    let a = c.self.inside in
    unlisted_head a.seen.view a.rings c.self.invariant c.args.list c.args.head.now (subst (λ (o : Lists). head_at o.named c.args.list ≡ Some c.args.head.now) (sym c.self.view_is) c.requires.head) (subst (λ (o : Lists). list_at o.named c.args.list ≡ []) (sym c.self.view_is) c.requires.empty) c.drop_head.new.self c.drop_head.ensures.rings

pub drop_head-requires-2-clause-empty : goal.drop_head-requires-2-clause-empty
drop_head-requires-2-clause-empty c =
    let a = c.self.inside in
    unlisted_left a.seen.view a.rings c.self.invariant c.args.list c.args.head.now (subst (λ (o : Lists). head_at o.named c.args.list ≡ Some c.args.head.now) (sym c.self.view_is) c.requires.head) (subst (λ (o : Lists). list_at o.named c.args.list ≡ []) (sym c.self.view_is) c.requires.empty) c.drop_head.new.self c.drop_head.ensures.rings

pub invariant_of-self : goal.invariant_of-self
invariant_of-self c =
    let a = c.self.inside in
    subst (λ u. AreTied u c.drop_head-2.new.self) (sym c.show_list.ensures) (tied_unlisted a.seen.view a.rings c.drop_head-2.new.self c.self.invariant c.args.list c.args.head.now (subst (λ (o : Lists). head_at o.named c.args.list ≡ Some c.args.head.now) (sym c.self.view_is) c.requires.head) (subst (λ (o : Lists). list_at o.named c.args.list ≡ []) (sym c.self.view_is) c.requires.empty) (c.drop_head-2.ensures.rings ∙ ap (λ r. fin.remove r c.args.head.now.shown) c.drop_head.ensures.rings) (c.drop_head-2.ensures.same.1 ∙ c.drop_head.ensures.same.1) (c.drop_head-2.ensures.same.0 ∙ c.drop_head.ensures.same.0) c.drop_head-2.ensures.apart)

pub returns-clause-heads : goal.returns-clause-heads
returns-clause-heads c =
    let a = c.self.inside in
    let there = (subst (λ (o : Lists). head_at o.named c.args.list ≡ Some c.args.head.now) (sym c.self.view_is) c.requires.head) in
    let one = len_less a.rings.rings c.args.head.now.full (is_head a.seen.view a.rings false c.args.list (list_at a.seen.view c.args.list) c.args.head.now.full (c.self.invariant.rows false c.args.list c.args.head.now there)) in
    let two = len_less c.drop_head.new.self.rings c.args.head.now.shown (unlisted_head a.seen.view a.rings c.self.invariant c.args.list c.args.head.now there (subst (λ (o : Lists). list_at o.named c.args.list ≡ []) (sym c.self.view_is) c.requires.empty) c.drop_head.new.self c.drop_head.ensures.rings) in
    let n = ap fin.len c.drop_head.ensures.rings in
    let m = ap fin.len c.drop_head-2.ensures.rings in
    let all : fin.len c.drop_head-2.new.self.rings + 2 ≡ fin.len a.rings.rings = omega (arith, one, two, n, m) in
    subst (λ (o : Lists). fin.len c.drop_head-2.new.self.rings + 2 ≡ o.heads) c.self.view_is all
