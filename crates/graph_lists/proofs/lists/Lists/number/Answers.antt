-- The tag of a member is the number of its element.
use Rattle.std.proofs.Common.{Bool, is_some, sym, ap, subst, ◌∙◌}
use Rattle.graph_state.specs.declared.name.Element.{Element}
use Rattle.graph_state.proofs.Has.{some_same}
use Rattle.graph_lists.specs.Named.{Lists}
use Rattle.graph_lists.specs.Heads.{IsMemberOf}
use Rattle.graph_lists.proofs.Looks.{tag_of, one_element}
use Rattle.graph_lists.proofs.lists.Lists.number.Goals as goal

pub tag-requires : goal.tag-requires
tag-requires c =
    let a = c.self.inside in
    let n = (subst (λ (o : Lists). (b : Bool) × ((x : Element) × IsMemberOf o.named b x c.args.m)) (sym c.self.view_is) c.requires) in ap is_some (tag_of a.seen.view a.rings c.self.invariant n.0 n.1.0 c.args.m n.1.1)

pub returns-clause-number : goal.returns-clause-number
returns-clause-number c b x w =
    let a = c.self.inside in
    some_same (sym c.tag.ensures ∙ tag_of a.seen.view a.rings c.self.invariant b x c.args.m (subst (λ (o : Lists). IsMemberOf o.named b x c.args.m) (sym c.self.view_is) w))

pub returns-clause-one : goal.returns-clause-one
returns-clause-one c b d x y w u =
    let a = c.self.inside in
    one_element a.seen.view a.rings c.self.invariant c.args.m b d x y (subst (λ (o : Lists). IsMemberOf o.named b x c.args.m) (sym c.self.view_is) w) (subst (λ (o : Lists). IsMemberOf o.named d y c.args.m) (sym c.self.view_is) u)
