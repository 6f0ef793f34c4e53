-- What a container has of its values, the object has of its items.
use Rattle.std.proofs.Common.{◌≡◌, ◌+◌, Result, Ok, Err, IfOk, refl, ap, sym, subst, ◌∙◌, map, rules, w64, to_z, of_z}
use Rattle.std.specs.Prelude.{FitsSigned}
use Rattle.std.proofs.lemmas.Int.{to_z-of_z}
use Rattle.item_dict.specs.Contents.{Adds as DictAdds}
use Rattle.item_queue.specs.Contents.{Inserts as QueueInserts}
use Rattle.item_list.specs.Items.{Items, Enters as ListEnters}
use Rattle.item_pool.specs.declared.pool.Item.{Item}
use Rattle.leda_base.specs.declared.NoMemory.{NoMemory}
use Rattle.object_store.specs.declared.entrance.Entrance.{Entrance}
use Rattle.object_store.specs.declared.entrance.Spot.{Spot}
use Rattle.object_store.specs.declared.entrance.Entrance.TheVariants.{At}
use Rattle.object_store.specs.declared.object.Entry.{Entry}
use Rattle.object_store.specs.declared.object.Object.{Object}
use Rattle.object_store.specs.declared.object.Object.TheVariants.{List as ListOf, Dict, Queue}
use Rattle.object_store.specs.Inner.{list_cell}
use Rattle.object_store.specs.Entrance.{spotted, values_of, AreGiven, Enters, Fits}
use Rattle.object_store.proofs.Comings.{dict_enters, queue_enters}
use Rattle.object_store.proofs.Lists.{spotted_of}
use Rattle.object_store.proofs.object.Object.enter.Goals as goal

came : (spot : Spot) (o : Object) (l t : Items Entry) (it : Item) (entry : Entry) → o ≡ ListOf l → ListEnters l t it (spotted spot (l.made + 1, entry) l.pairs)
    → Enters (At spot) o (ListOf t) it.serial (entry.number, values_of (At spot) entry.value)
came spot o l t it entry is h =
    subst (λ (p : Object). Enters (At spot) p (ListOf t) it.serial (entry.number, values_of (At spot) entry.value)) (sym is)
    (record {
      serial = h.serial;
      made = h.made;
      kind = refl;
      values = refl;
      inner = ap (map list_cell) h.pairs ∙ spotted_of list_cell (λ p. refl) spot (l.made + 1, entry) l.pairs;
    })

pub returns-in-At-clause-ok : goal.returns-in-At-clause-ok
returns-in-At-clause-ok c =
    let l = c.in-List.list in
    let t = c.enter_list.new.list in
    elim c.enter_list.result as (λ (r : Result Item NoMemory). IfOk r (λ it. ListEnters l t it (spotted c.in-At.spot (l.made + 1, c.args.entry) l.pairs)) → IfOk r (λ it. Enters c.args.entrance c.args.self.now (ListOf t) it.serial (c.args.entry.number, values_of c.args.entrance c.args.entry.value))) [
      | Ok it ↦ λ h. subst (λ (e : Entrance). Enters e c.args.self.now (ListOf t) it.serial (c.args.entry.number, values_of e c.args.entry.value)) (sym c.in-At.is) (came c.in-At.spot c.args.self.now l t it c.args.entry c.in-List.is h)
      | Err e ↦ λ h. h
    ] c.enter_list.ensures.ok

pub returns-in-Key-entrance-clause-ok : goal.returns-in-Key-entrance-clause-ok
returns-in-Key-entrance-clause-ok c =
    let k = c.in-Key-entrance.key in
    let d = c.in-Dict.dict in
    let t = c.enter_dict.new.dict in
    let fits : FitsSigned w64 k = search rules in
    elim c.enter_dict.result as (λ (r : Result Item NoMemory). IfOk r (λ it. DictAdds d t (to_z w64 (of_z w64 k)) c.args.entry it.serial) → IfOk r (λ it. Enters c.args.entrance c.args.self.now (Dict t) it.serial (c.args.entry.number, values_of c.args.entrance c.args.entry.value))) [
      | Ok it ↦ λ h. subst (λ (e : Entrance). Enters e c.args.self.now (Dict t) it.serial (c.args.entry.number, values_of e c.args.entry.value)) (sym c.in-Key-entrance.is)
          (dict_enters k c.args.entry c.args.self.now d t it.serial c.in-Dict.is (subst (λ z. DictAdds d t z c.args.entry it.serial) (to_z-of_z w64 k fits) h))
      | Err e ↦ λ h. h
    ] c.enter_dict.ensures.ok

pub returns-in-Priority-clause-ok : goal.returns-in-Priority-clause-ok
returns-in-Priority-clause-ok c =
    let p = c.in-Priority.priority in
    let q = c.in-Queue.queue in
    let t = c.enter_queue.new.queue in
    let fits : FitsSigned w64 p = search rules in
    let given : AreGiven q = subst (λ (e : Entrance). Fits e (Queue q)) c.in-Priority.is (subst (λ (o : Object). Fits c.args.entrance o) c.in-Queue.is c.requires.fits) in
    elim c.enter_queue.result as (λ (r : Result Item NoMemory). IfOk r (λ it. QueueInserts q t it (to_z w64 (of_z w64 p)) c.args.entry) → IfOk r (λ it. Enters c.args.entrance c.args.self.now (Queue t) it.serial (c.args.entry.number, values_of c.args.entrance c.args.entry.value))) [
      | Ok it ↦ λ h. subst (λ (e : Entrance). Enters e c.args.self.now (Queue t) it.serial (c.args.entry.number, values_of e c.args.entry.value)) (sym c.in-Priority.is)
          (queue_enters p c.args.entry c.args.self.now q t it c.in-Queue.is given (subst (λ z. QueueInserts q t it z c.args.entry) (to_z-of_z w64 p fits) h))
      | Err e ↦ λ h. h
    ] c.enter_queue.ensures.ok
