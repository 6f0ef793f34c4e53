-- What is made is an array over the elements of its sort, or a map.
use Rattle.std.proofs.Common.{◌≡◌, sym, subst, w64}
use Rattle.std.proofs.lemmas.Int.{to_z-of_z}
use Rattle.node_maps.specs.Contents.{IsTable}
use Rattle.script_text.specs.declared.word.ValueWord.{ValueWord}
use Rattle.object_store.specs.declared.object.Object.TheVariants as held
use Rattle.object_store.specs.declared.kind.Sort.TheVariants as sorts
use Rattle.object_store.specs.declared.values.SortValues.TheVariants.{Array}
use Rattle.object_store.specs.declared.values.Values.TheVariants.{Nodes, Edges}
use Rattle.object_store.specs.Inner.{seen}
use Rattle.object_store.specs.Values.{IsNew, elements}
use Rattle.object_store.proofs.Valued.{is_array}
use Rattle.object_store.proofs.tables.made_with.Goals as goal

pub returns-in_ok-make-in-MakeNodeArray-clause-new : goal.returns-in_ok-make-in-MakeNodeArray-clause-new
returns-in_ok-make-in-MakeNodeArray-clause-new c =
    let a = c.in_ok-make-in-MakeNodeArray.field-0 in
    let h = c.in_ok-make-in-MakeNodeArray.ensures in
    subst (λ (word : ValueWord). IsNew word c.args.value c.args.g.now (seen (held.Values (Nodes (Array a))))) (sym c.in-MakeNodeArray.is)
    (is_array sorts.Nodes c.args.g.now (λ k x. x ≡ c.args.value) a h.made (subst (λ y. IsTable a.values (elements sorts.Nodes c.args.g.now) (λ k x. x ≡ y)) (to_z-of_z w64 c.args.value c.ranges.value) h.values))

pub returns-in_ok-make-in-MakeEdgeArray-clause-new : goal.returns-in_ok-make-in-MakeEdgeArray-clause-new
returns-in_ok-make-in-MakeEdgeArray-clause-new c =
    let a = c.in_ok-make-in-MakeEdgeArray.field-0 in
    let h = c.in_ok-make-in-MakeEdgeArray.ensures in
    subst (λ (word : ValueWord). IsNew word c.args.value c.args.g.now (seen (held.Values (Edges (Array a))))) (sym c.in-MakeEdgeArray.is)
    (is_array sorts.Edges c.args.g.now (λ k x. x ≡ c.args.value) a h.made (subst (λ y. IsTable a.values (elements sorts.Edges c.args.g.now) (λ k x. x ≡ y)) (to_z-of_z w64 c.args.value c.ranges.value) h.values))
