-- The object of the name is over nodes, or is none.
use Rattle.std.proofs.Common.{Some, refl, ap, map, ◌∙◌}
use Rattle.graph_state.specs.declared.item.NodeItem.{NodeItem}
use Rattle.object_store.specs.declared.kind.Sort.TheVariants.{Nodes}
use Rattle.object_store.specs.declared.object.Object.TheVariants as held
use Rattle.object_store.specs.declared.values.Values.{Values}
use Rattle.object_store.specs.declared.values.Values.TheVariants as values
use Rattle.object_store.specs.Inner.{seen}
use Rattle.object_store.proofs.ValuesListed.{has_other, name_serves, name_told, no_nodes}
use Rattle.object_store.proofs.objects.Objects.node_values.Goals as goal

pub values_of-requires-clause-serves : goal.values_of-requires-clause-serves
values_of-requires-clause-serves c =
    name_serves c.args.self.now Nodes c.args.name.now c.in-Nodes.values (seen (held.Values (values.Nodes c.in-Nodes.values)))
    (c.in-Some.ensures ∙ ap (λ (v : Values). Some (seen (held.Values v))) c.in-Nodes.is) refl refl c.args.g.now c.requires.serve

pub returns-in-Nodes : goal.returns-in-Nodes
returns-in-Nodes c =
    name_told c.args.self.now Nodes c.args.name.now c.in-Nodes.values (seen (held.Values (values.Nodes c.in-Nodes.values)))
    (c.in-Some.ensures ∙ ap (λ (v : Values). Some (seen (held.Values v))) c.in-Nodes.is) refl refl
    (map (λ (v : NodeItem). v.0.serial) c.args.items.now) c.values_of.result c.values_of.ensures

pub returns-in-Edges : goal.returns-in-Edges
returns-in-Edges c =
    has_other c.args.self.now Nodes c.args.name.now (seen (held.Values (values.Edges c.in-Edges.field-0)))
    (c.in-Some.ensures ∙ ap (λ (v : Values). Some (seen (held.Values v))) c.in-Edges.is) (no_nodes c.in-Edges.field-0)

pub returns-in_default : goal.returns-in_default
returns-in_default c = c.in_default.ensures Nodes
