-- An array of the labels is one over the elements of its sort.
use Rattle.std.proofs.Common.{sym, subst}
use Rattle.script_text.specs.declared.word.ValueWord.{ValueWord}
use Rattle.object_store.specs.declared.object.Object.TheVariants as held
use Rattle.object_store.specs.declared.kind.Sort.TheVariants as sorts
use Rattle.object_store.specs.declared.values.SortValues.TheVariants.{Array}
use Rattle.object_store.specs.declared.values.Values.TheVariants.{Nodes, Edges}
use Rattle.object_store.specs.Inner.{seen}
use Rattle.object_store.specs.Values.{IsOfLabels}
use Rattle.object_store.proofs.Valued.{is_array}
use Rattle.object_store.proofs.tables.made_of_labels.Goals as goal

pub returns-in_ok-from_labels-in-MakeNodeArray-clause-new : goal.returns-in_ok-from_labels-in-MakeNodeArray-clause-new
returns-in_ok-from_labels-in-MakeNodeArray-clause-new c =
    let a = c.in_ok-from_labels-in-MakeNodeArray.field-0 in
    let h = c.in_ok-from_labels-in-MakeNodeArray.ensures in
    subst (λ (word : ValueWord). IsOfLabels word c.args.g.now (seen (held.Values (Nodes (Array a))))) (sym c.in-MakeNodeArray.is) (is_array sorts.Nodes c.args.g.now _ a h.made h.values)

pub returns-in_ok-from_labels-in-MakeEdgeArray-clause-new : goal.returns-in_ok-from_labels-in-MakeEdgeArray-clause-new
returns-in_ok-from_labels-in-MakeEdgeArray-clause-new c =
    let a = c.in_ok-from_labels-in-MakeEdgeArray.field-0 in
    let h = c.in_ok-from_labels-in-MakeEdgeArray.ensures in
    subst (λ (word : ValueWord). IsOfLabels word c.args.g.now (seen (held.Values (Edges (Array a))))) (sym c.in-MakeEdgeArray.is) (is_array sorts.Edges c.args.g.now _ a h.made h.values)
