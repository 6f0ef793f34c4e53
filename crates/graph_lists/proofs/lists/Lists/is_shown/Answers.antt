-- What shows is linked in the second ring.
use Rattle.std.proofs.Common.{◌≡◌, true, Some, is_some, sym, ap, subst}
use Rattle.graph_state.specs.declared.name.ListName.{ListName}
use Rattle.graph_state.specs.Names.{Has}
use Rattle.graph_lists.specs.Named.{Lists, hook_at, list_at, shows_at}
use Rattle.graph_lists.proofs.Looks.{shows_exactly}
use Rattle.graph_lists.proofs.lists.Lists.is_shown.Goals as goal

pub is_linked-requires : goal.is_linked-requires
is_linked-requires c =
    let a = c.self.inside in
    ap is_some (c.self.invariant.members true c.args.x c.args.hook.now (subst (λ (o : Lists). hook_at o.named c.args.x ≡ Some c.args.hook.now) (sym c.self.view_is) c.requires.hook)).tag

pub returns : goal.returns
returns c =
    let a = c.self.inside in
    let has = (subst (λ (o : Lists). (l : ListName) × Has c.args.x (list_at o.named l)) (sym c.self.view_is) c.requires.there) in
    subst (λ (o : Lists). c.is_linked.result ≡ shows_at o.named c.args.x) c.self.view_is (shows_exactly a.seen.view a.rings c.self.invariant c.args.x c.args.hook.now (subst (λ (o : Lists). hook_at o.named c.args.x ≡ Some c.args.hook.now) (sym c.self.view_is) c.requires.hook) has.0 has.1 c.is_linked.result c.is_linked.ensures.linked)
