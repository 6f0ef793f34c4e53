-- The pool has just the items that are there.
use Rattle.std.proofs.Common.{is_some, sym, ap, subst, ◌∙◌}
use Rattle.object_store.specs.State.{ObjectState}
use Rattle.object_store.specs.Views.{is_live}
use Rattle.item_pool.specs.Contents.{WhyGone}
use Rattle.object_store.proofs.Holders.{live_is}
use Rattle.object_store.proofs.objects.Objects.find_cell.Goals as goal

pub returns-in-Ok : goal.returns-in-Ok
returns-in-Ok c =
    let a = c.self.inside in
    ap (λ (s : ObjectState). is_live s c.args.number) (sym c.self.view_is)
    ∙ live_is a.slots.items a.cells c.self.invariant c.args.number
    ∙ ap (λ o. is_some o) c.in-Ok.ensures.1.1.0

pub returns-in-Err : goal.returns-in-Err
returns-in-Err c =
    let a = c.self.inside in (
      ap (λ (s : ObjectState). is_live s c.args.number) (sym c.self.view_is)
          ∙ live_is a.slots.items a.cells c.self.invariant c.args.number
          ∙ ap (λ o. is_some o) c.in-Err.ensures.0,
      subst (λ (s : ObjectState). WhyGone s.made c.args.number c.in-Err.why) c.self.view_is c.in-Err.ensures.1,
    )
