-- The list has the item.
use Rattle.std.proofs.Common.{◌∷◌, [], ap, sym, subst, ◌∙◌, rules, w64, to_z, of_z}
use Rattle.std.specs.Prelude.{FitsSigned}
use Rattle.std.proofs.lemmas.Int.{to_z-of_z}
use Rattle.item_list.specs.Items.{value_at}
use Rattle.object_store.specs.declared.object.Object.{Object}
use Rattle.object_store.specs.Views.{is_of}
use Rattle.object_store.specs.Words.{reading_kinds}
use Rattle.object_store.specs.Inner.{inner, kind_of}
use Rattle.object_store.specs.Look.{IsRead}
use Rattle.object_store.proofs.Entered.{list_value}
use Rattle.object_store.proofs.Going.{list_lacks}
use Rattle.object_store.proofs.ItemsRead.{list_read}
use Rattle.object_store.proofs.object.Object.read.Goals as goal

pub unreachable-requires : goal.unreachable-requires
unreachable-requires c =
    list_lacks c.args.item.serial c.in-List.list c.requires.cell (ap (λ (o : Object). value_at c.args.item.serial (inner o)) (sym c.in-List.is) ∙ c.requires.there) c.in-Err.ensures.0

pub returns-in-Ok : goal.returns-in-Ok
returns-in-Ok c =
    let e = c.in-Ok.entry.now in
    let fits : FitsSigned w64 e.value = search rules in
    subst (λ (o : Object). IsRead c.args.what c.args.item.serial o (to_z w64 (of_z w64 e.value))) (sym c.in-List.is) (
      (e.number, e.value ∷ []),
      list_value c.args.item.serial c.in-List.list.pairs e c.in-Ok.ensures,
      to_z-of_z w64 e.value fits
          ∙ list_read c.args.what e.value (ap (λ (o : Object). is_of (reading_kinds c.args.what) (kind_of o)) (sym c.in-List.is) ∙ c.requires.kind),
    )
