-- The list has an entrance at the end.
use Rattle.std.proofs.Common.{true, sym, ap, subst, ◌∙◌, w64}
use Rattle.std.specs.Prelude.{ℤ, Option}
use Rattle.std.proofs.lemmas.Int.{to_z-of_z}
use Rattle.script_text.specs.declared.form.Kinds.{Kinds}
use Rattle.reply_text.specs.Outcome.{Outcome}
use Rattle.object_store.specs.declared.entrance.Entrance.{Entrance}
use Rattle.object_store.specs.State.{ObjectState}
use Rattle.object_store.specs.Commands.{on_object, enters, next}
use Rattle.object_store.specs.Entrance.{entrance_kinds, put_in, values_of, IsOpen}
use Rattle.object_store.specs.Leads.{Leads}
use Rattle.object_store.specs.Views.{has_object}
use Rattle.object_store.proofs.Putting.{put_is, open_end, kind_end}
use Rattle.object_store.proofs.objects.Objects.put.Goals as goal

pub put_in-requires-clause-there : goal.put_in-requires-clause-there
put_in-requires-clause-there c =
    ap (λ (kinds : Kinds). has_object c.args.self.now kinds c.args.name.now) (ap entrance_kinds c.entrance.ensures ∙ kind_end c.args.end) ∙ c.requires

pub put_in-requires-clause-open : goal.put_in-requires-clause-open
put_in-requires-clause-open c = λ o at. subst (λ (e : Entrance). IsOpen e o.cells) (sym c.entrance.ensures) (open_end c.args.end o.cells)

pub returns-clause-leads : goal.returns-clause-leads
returns-clause-leads c =
    let s : ObjectState = c.args.self.now in
    let row : Entrance → ℤ → Option (Outcome ObjectState) = λ e v. on_object s (entrance_kinds e) c.args.name.now (λ o. enters c.args.name.now o (put_in e (next (values_of e v) s) o.cells) s) in
    subst (λ given. Leads true given s c.put_in.result c.put_in.new.self)
    ((λ j. row (c.entrance.ensures j) (to_z-of_z w64 c.args.value c.ranges.value j)) ∙ put_is c.args.end c.args.name.now c.args.value s)
    c.put_in.ensures.leads
