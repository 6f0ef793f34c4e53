-- The element is of the sort.
use Rattle.std.proofs.Common.{◌≡◌, true, subst}
use Rattle.object_store.specs.declared.kind.Sort.TheVariants as sorts
use Rattle.object_store.specs.declared.values.GraphElement.{GraphElement}
use Rattle.object_store.specs.declared.values.Values.{Values}
use Rattle.object_store.specs.Elements.{element_kinds, element_sort, IsLiveElement}
use Rattle.object_store.specs.Inner.{kind_of_sort, kind_of_values, sort_values, valuation}
use Rattle.object_store.specs.Serving.{IsServing}
use Rattle.object_store.specs.Values.{elements}
use Rattle.object_store.specs.Views.{is_of}
use Rattle.object_store.proofs.Valued.{no_edge, no_node}
use Rattle.object_store.proofs.values.Values.set.Goals as goal

pub set-requires-clause-live : goal.set-requires-clause-live
set-requires-clause-live c = subst (λ (e : GraphElement). IsLiveElement c.args.g.now e) c.in-Node.is c.requires.live

pub set-requires-clause-serves : goal.set-requires-clause-serves
set-requires-clause-serves c =
    subst (λ (e : GraphElement). IsServing (sort_values c.in-Nodes.values) (elements (element_sort e) c.args.g.now)) c.in-Node.is
    (subst (λ (v : Values). IsServing (valuation v) (elements (element_sort c.args.element) c.args.g.now)) c.in-Nodes.is c.requires.serves)

pub unreachable-requires : goal.unreachable-requires
unreachable-requires c =
    no_edge c.in-Nodes.values (subst (λ (e : GraphElement). is_of (element_kinds e) (kind_of_sort sorts.Nodes c.in-Nodes.values) ≡ true) c.in-Edge.is
    (subst (λ (v : Values). is_of (element_kinds c.args.element) (kind_of_values v) ≡ true) c.in-Nodes.is c.requires.sort))

pub set-requires-in-Edge-element-clause-live : goal.set-requires-in-Edge-element-clause-live
set-requires-in-Edge-element-clause-live c = subst (λ (e : GraphElement). IsLiveElement c.args.g.now e) c.in-Edge-element.is c.requires.live

pub set-requires-in-Edge-element-clause-serves : goal.set-requires-in-Edge-element-clause-serves
set-requires-in-Edge-element-clause-serves c =
    subst (λ (e : GraphElement). IsServing (sort_values c.in-Edges.values) (elements (element_sort e) c.args.g.now)) c.in-Edge-element.is
    (subst (λ (v : Values). IsServing (valuation v) (elements (element_sort c.args.element) c.args.g.now)) c.in-Edges.is c.requires.serves)

pub unreachable-requires-in-Node-element : goal.unreachable-requires-in-Node-element
unreachable-requires-in-Node-element c =
    no_node c.in-Edges.values (subst (λ (e : GraphElement). is_of (element_kinds e) (kind_of_sort sorts.Edges c.in-Edges.values) ≡ true) c.in-Node-element.is
    (subst (λ (v : Values). is_of (element_kinds c.args.element) (kind_of_values v) ≡ true) c.in-Edges.is c.requires.sort))
