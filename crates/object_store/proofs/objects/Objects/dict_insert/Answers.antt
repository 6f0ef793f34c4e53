-- The key is there, or new.
use Rattle.std.proofs.Common.{true, [], ◌∷◌, Some, false, sym, subst, ◌∙◌, inr, w64}
use Rattle.std.specs.Prelude.{ℤ}
use Rattle.std.proofs.lemmas.Int.{to_z-of_z}
use Rattle.script_text.specs.declared.argument.Arg.TheVariants as args
use Rattle.script_text.specs.declared.word.ObjectWord.TheVariants as words
use Rattle.object_store.specs.declared.entrance.Entrance.TheVariants.{Key}
use Rattle.object_store.specs.declared.near.Sought.TheVariants.{WithKey}
use Rattle.object_store.specs.Commands.{enters, next, objects_done, on_object}
use Rattle.object_store.specs.Entrance.{entrance_kinds, put_in, values_of, IsOpen}
use Rattle.object_store.specs.Finds.{Finds}
use Rattle.object_store.specs.Leads.{Leads}
use Rattle.object_store.proofs.Putting.{dict_known, dict_new, key_there, open_key}
use Rattle.object_store.proofs.objects.Objects.dict_insert.Goals as goal

pub write-requires : goal.write-requires
write-requires c =
    let s = c.args.self.now in
    key_there s c.args.name.now c.args.key c.in-Some.number
    (subst (λ r. Finds s (WithKey c.args.key) c.args.name.now r) c.in-Some.is (subst (λ z. Finds s (WithKey z) c.args.name.now c.number_sought.result) (to_z-of_z w64 c.args.key c.ranges.key) c.number_sought.ensures))

pub put_in-requires-clause-open : goal.put_in-requires-clause-open
put_in-requires-clause-open c =
    let s = c.args.self.now in λ o at.
    subst (λ z. IsOpen (Key z) o.cells) (sym (to_z-of_z w64 c.args.key c.ranges.key))
    (open_key s c.args.name.now c.args.key c.args.value
    (subst (λ r. Finds s (WithKey c.args.key) c.args.name.now r) c.in-None.is (subst (λ z. Finds s (WithKey z) c.args.name.now c.number_sought.result) (to_z-of_z w64 c.args.key c.ranges.key) c.number_sought.ensures))
    o at)

pub returns-in-Some-clause-leads : goal.returns-in-Some-clause-leads
returns-in-Some-clause-leads c =
    let s = c.args.self.now in
    let f = subst (λ r. Finds s (WithKey c.args.key) c.args.name.now r) c.in-Some.is (subst (λ z. Finds s (WithKey z) c.args.name.now c.number_sought.result) (to_z-of_z w64 c.args.key c.ranges.key) c.number_sought.ensures) in
    inr (dict_known s c.args.name.now c.args.key c.args.value c.in-Some.number f c.write.new.self c.write.result
    (subst (λ z. Leads false (objects_done words.ChangeInf (args.Cell c.in-Some.number ∷ args.Num z ∷ []) s) s c.write.result c.write.new.self) (to_z-of_z w64 c.args.value c.ranges.value) c.write.ensures.leads)
    ∙ (λ j. Some (c.write.new.self, sym c.number_reply.ensures.value j)))

pub returns-in-None-clause-leads : goal.returns-in-None-clause-leads
returns-in-None-clause-leads c =
    let s = c.args.self.now in
    let name = c.args.name.now in
    let f = subst (λ r. Finds s (WithKey c.args.key) name r) c.in-None.is (subst (λ z. Finds s (WithKey z) name c.number_sought.result) (to_z-of_z w64 c.args.key c.ranges.key) c.number_sought.ensures) in
    let row = λ (k v : ℤ). on_object s (entrance_kinds (Key k)) name (λ o. enters name o (put_in (Key k) (next (values_of (Key k) v) s) o.cells) s) in
    subst (λ given. Leads true given s c.put_in.result c.put_in.new.self)
    ((λ j. row (to_z-of_z w64 c.args.key c.ranges.key j) (to_z-of_z w64 c.args.value c.ranges.value j)) ∙ dict_new s name c.args.key c.args.value f)
    c.put_in.ensures.leads
