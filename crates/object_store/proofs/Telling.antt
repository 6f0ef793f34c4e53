-- What arrays and maps are asked for, row by row, and what the session has once a value is set.
use Rattle.std.proofs.Common.{◌≡◌, ◌⊎◌, ℕ, true, false, cond, List, Option, Some, map, refl, sym, ap, subst, ◌∙◌}
use Rattle.std.specs.Prelude.{ℤ, option_map, option_and_then}
use Rattle.item_pool.specs.Contents.{Contents}
use Rattle.item_list.specs.Items.{serials, value_at}
use Rattle.item_ring.specs.RingLists.{IsDistinct}
use Rattle.graph_state.specs.State.{GraphState}
use Rattle.reply_text.specs.declared.reply.Reply.TheVariants.{Line}
use Rattle.reply_text.specs.declared.reply.ReplyLine.TheVariants.{Empty, Num}
use Rattle.reply_text.specs.declared.refusal.Refusal.TheVariants.{Covered}
use Rattle.reply_text.specs.declared.reply.Reply.{Reply}
use Rattle.reply_text.specs.Outcome.{Outcome, LacksMemory, done, refused}
use Rattle.object_store.specs.declared.kind.Sort.{Sort}
use Rattle.object_store.specs.declared.object.Object.{Object as Held}
use Rattle.object_store.specs.declared.objects.Place.{Place}
use Rattle.object_store.specs.declared.values.GraphElement.{GraphElement}
use Rattle.object_store.specs.State.{Object, ObjectState, Valuation}
use Rattle.object_store.specs.Commands.{with_object}
use Rattle.object_store.specs.Elements.{element_number, element_sort}
use Rattle.object_store.specs.Inner.{Inner, cell_in, inner, made_in, seen}
use Rattle.object_store.specs.Kept.{Places, state_of, IsKept, Replaces}
use Rattle.object_store.specs.Served.{AllServe}
use Rattle.object_store.specs.Serving.{IsGiven, IsTold}
use Rattle.object_store.specs.Values.{covers, gets, if_covered, name_of, sets, value_for, with_value_for}
use Rattle.object_store.specs.Views.{object_at}
use Rattle.object_store.proofs.Holders.{object_there}
use Rattle.object_store.proofs.Valued.{serve_set}
use Rattle.object_store.proofs.Steps.{SameItems, kept_same, objects_now}

-- ---- the rows
module _ (sort : Sort) (name : List ℕ) (n : ℕ) (s : ObjectState) (o : Object) (v : Valuation) (at : object_at s name ≡ Some o) (has : o.values ≡ Some v) where
  -- what is made of the values
  abbrev of_values : (Object → Valuation → Option (Outcome ObjectState)) → Option (Outcome ObjectState)
  of_values f = option_and_then (λ (p : Object). option_and_then (f p) p.values) (object_at s name)

  found_values : (f : Object → Valuation → Option (Outcome ObjectState)) → of_values f ≡ f o v
  found_values f = ap (λ z. option_and_then (λ (p : Object). option_and_then (f p) p.values) z) at ∙ ap (λ z. option_and_then (f o) z) has

  pub told_row : (x : ℤ) → IsTold v n (Some x) → gets sort name n s ≡ Some (done s (Num x))
  told_row x told =
      found_values (λ p w. if_covered sort n w s (option_map (λ y. done s (Num y)) (value_for w n)))
      ∙ ap (λ b. cond b (option_map (λ y. done s (Num y)) (value_for v n)) (Some (refused s (Covered (name_of sort n))))) told.0
      ∙ ap (λ z. option_map (λ y. done s (Num y)) z) told.1

  pub untold_row : covers v n ≡ false → gets sort name n s ≡ Some (refused s (Covered (name_of sort n)))
  untold_row not =
      found_values (λ p w. if_covered sort n w s (option_map (λ y. done s (Num y)) (value_for w n)))
      ∙ ap (λ b. cond b (option_map (λ y. done s (Num y)) (value_for v n)) (Some (refused s (Covered (name_of sort n))))) not

  abbrev given : ℤ → Object → Valuation → Option (Outcome ObjectState)
  given x p w = Some (done (with_object name (record p { values = Some (with_value_for n x w) }) s) Empty)

  pub set_row : (x : ℤ) → covers v n ≡ true → sets sort name n x s ≡ Some (done (with_object name (record o { values = Some (with_value_for n x v) }) s) Empty)
  set_row x covered =
      found_values (λ p w. if_covered sort n w s (given x p w))
      ∙ ap (λ b. cond b (given x o v) (Some (refused s (Covered (name_of sort n))))) covered

  pub unset_row : (x : ℤ) → covers v n ≡ false → sets sort name n x s ≡ Some (refused s (Covered (name_of sort n)))
  unset_row x not =
      found_values (λ p w. if_covered sort n w s (given x p w))
      ∙ ap (λ b. cond b (given x o v) (Some (refused s (Covered (name_of sort n))))) not

-- ---- the session, once a value is set
same_items : (o t : Held) → IsDistinct (serials (inner o)) → inner t ≡ inner o → made_in t ≡ made_in o → SameItems o t
same_items o t apart same made = record {
  made = made;
  distinct = subst (λ (xs : List Inner). IsDistinct (serials xs)) (sym same) apart;
  to = λ s c e. (c, ap (value_at s) same ∙ e, refl);
  from = λ s c e. (c, ap (value_at s) (sym same) ∙ e, refl);
}

module _ (ps qs : Places) (k : ℕ) (cells : Contents Place) (kept : IsKept ps cells) (e : GraphElement) (x : ℤ) (r : Replaces ps qs k (IsGiven e x)) where
  pub kept_given : IsKept qs cells
  kept_given = kept_same ps qs k r.old r.new r.was r.is r.name cells kept (same_items r.old.object r.new.object (kept.sound k r.old r.was).distinct r.changed.inner r.changed.made)

  pub seen_given : seen r.new.object ≡ record (seen r.old.object) { values = Some (with_value_for (element_number e) x r.changed.before) }
  seen_given i = record { kind = r.changed.kind i; cells = map cell_in (r.changed.inner i); values = r.changed.is i }

  pub state_given : state_of qs cells ≡ with_object r.old.name (record (seen r.old.object) { values = Some (with_value_for (element_number e) x r.changed.before) }) (state_of ps cells)
  state_given =
      ap (λ m. record { objects = m; made = cells.made }) (objects_now ps qs k r.old r.new r.was r.is r.name kept.apart)
      ∙ ap (λ p. with_object r.old.name p (state_of ps cells)) seen_given

  module _ (name : List ℕ) (named : r.old.name ≡ name) where
    abbrev s : ObjectState
    s = state_of ps cells

    abbrev after : Object
    after = record (seen r.old.object) { values = Some (with_value_for (element_number e) x r.changed.before) }

    there : object_at s name ≡ Some (seen r.old.object)
    there = ap (λ y. object_at s y) (sym named) ∙ object_there ps cells kept k r.old r.was

    state_named : state_of qs cells ≡ with_object name after s
    state_named = state_given ∙ ap (λ y. with_object y after s) named

    pub given_row : sets (element_sort e) name (element_number e) x s ≡ Some (state_of qs cells, Line Empty)
    given_row =
        set_row (element_sort e) name (element_number e) s (seen r.old.object) r.changed.before there r.changed.was x r.changed.covered
        ∙ ap (λ t. Some (t, Line Empty)) (sym state_named)

    pub given_serves : (g : GraphState) → AllServe g s → AllServe g (state_of qs cells)
    given_serves g all = subst (λ (t : ObjectState). AllServe g t) (sym state_named) (serve_set g name (seen r.old.object) r.changed.before (element_number e) x s there r.changed.was all)

-- the same of equal states
pub set_led : (f : ObjectState → Option (Outcome ObjectState)) (s t next last : ObjectState) (reply : Reply) → s ≡ t → next ≡ last
    → LacksMemory true s reply next ⊎ (f s ≡ Some (next, reply)) → LacksMemory true t reply last ⊎ (f t ≡ Some (last, reply))
set_led f s t next last reply is same h =
    subst (λ (u : ObjectState). LacksMemory true t reply u ⊎ (f t ≡ Some (u, reply))) same
    (subst (λ (u : ObjectState). LacksMemory true u reply next ⊎ (f u ≡ Some (next, reply))) is h)
