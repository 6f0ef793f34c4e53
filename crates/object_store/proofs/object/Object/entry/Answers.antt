-- The container has the entry, or lacks the item.
use Rattle.std.proofs.Common.{ℕ, Option, ap, subst, ◌∙◌}
use Rattle.std.specs.Prelude.{option_map, MatchResult, Result, Ok, Err}
use Rattle.item_ring.specs.RingLists.{IsDistinct}
use Rattle.item_list.specs.Items.{serials}
use Rattle.object_store.specs.declared.object.Object.{Object}
use Rattle.object_store.specs.State.{Cell}
use Rattle.object_store.specs.Inner.{inner}
use Rattle.object_store.specs.Near.{number_at}
use Rattle.object_store.proofs.ItemsRead.{list_at, list_gone, dict_at, dict_gone, queue_at, queue_gone}
use Rattle.object_store.proofs.object.Object.entry.Goals as goal

abbrev number : Option Cell → Option ℕ
number v = option_map (λ (c : Cell). c.0) v

-- what follows from either answer
each : {A E : Type 0} {P Q : A → Type 0} {R S : E → Type 0} (r : Result A E) → MatchResult r P R → ((a : A) → P a → Q a) → ((e : E) → R e → S e) → MatchResult r Q S
each (Ok a) h f g = f a h
each (Err e) h f g = g e h

pub returns-in-List : goal.returns-in-List
returns-in-List c =
    let l = c.in-List.list in
    let s = c.args.item.serial in
    let here = ap (λ (o : Object). number_at (inner o) s) c.in-List.is in
    each c.contents.result c.contents.ensures (λ x h. here ∙ ap number (list_at l s x.now h)) (λ why h. here ∙ ap number (list_gone l s h.0))

pub returns-in-Dict : goal.returns-in-Dict
returns-in-Dict c =
    let d = c.in-Dict.dict in
    let s = c.args.item.serial in
    let here = ap (λ (o : Object). number_at (inner o) s) c.in-Dict.is in
    let apart = subst (λ (o : Object). IsDistinct (serials (inner o))) c.in-Dict.is c.requires in
    each c.inf.result c.inf.ensures (λ x h. here ∙ ap number (dict_at d h.0 s x.now apart h.1)) (λ why h. here ∙ ap number (dict_gone d s h.0))

pub returns-in-Queue : goal.returns-in-Queue
returns-in-Queue c =
    let q = c.in-Queue.queue in
    let s = c.args.item.serial in
    let here = ap (λ (o : Object). number_at (inner o) s) c.in-Queue.is in
    each c.inf-in-Queue.result c.inf-in-Queue.ensures (λ x h. here ∙ ap number (queue_at q s h.0 x.now h.1.0)) (λ why h. here ∙ ap number (queue_gone q s h.0))
