-- A new object comes into a place.
use Rattle.std.proofs.Common.{◌≡◌, ℕ, ◌≢◌, true, false, is_some, List, [], ◌∷◌, Some, None, refl, sym, ap, subst, ◌∙◌, ◌⊎◌, inl, inr, arith}
use Rattle.std.specs.Prelude.{slice_get, option_and_then}
use Rattle.std.specs.Ordering.{nat_cmp}
use Rattle.std.specs.FinMap as finmap
use Rattle.item_pool.specs.Contents.{Contents, contents}
use Rattle.item_list.specs.Items.{value_at, serials}
use Rattle.item_ring.specs.RingLists.{IsDistinct}
use Rattle.object_store.specs.declared.objects.Place.{Place}
use Rattle.object_store.specs.declared.slots.Named.{Named}
use Rattle.object_store.specs.State.{Cell, ObjectState}
use Rattle.object_store.specs.Inner.{Inner, inner, made_in, seen}
use Rattle.reply_text.specs.declared.reply.Reply.{Reply}
use Rattle.reply_text.specs.declared.reply.Reply.TheVariants.{Line}
use Rattle.reply_text.specs.declared.reply.ReplyLine.TheVariants.{Empty}
use Rattle.reply_text.specs.Outcome.{done}
use Rattle.object_store.specs.declared.objects.TheConstants.{OBJECT_LIMIT}
use Rattle.object_store.proofs.Looks.{come_done}
use Rattle.object_store.specs.Commands.{comes_in, with_object}
use Rattle.object_store.specs.Slots.{objects_in, found, taken, AreApart}
use Rattle.object_store.specs.Views.{of_kinds, has_object}
use Rattle.script_text.specs.declared.form.Kinds.TheVariants.{Any}
use Rattle.object_store.specs.Kept.{Places, state_of, IsSound, IsKept, Puts}
use Rattle.object_store.proofs.Places.{at_within, at_else, from_set, at_more, from_more}
use Rattle.object_store.proofs.Found.{alone_free, apart_set, apart_push, objects_with, objects_push, len_objects, get_objects}

some_none : {A : Type 0} (a : A) → Some a ≡ None → ⊥
some_none a e = cc

abbrev pub nobody : Contents Place
nobody = contents finmap.empty 0 0

pub kept_empty : IsKept [] nobody
kept_empty = record {
  apart = tt;
  said = λ k s i h. absurd (some_none (Some h.0) (sym h.2));
  there = λ k s i h. absurd (some_none h.0 (sym h.1 ∙ finmap.get-empty nat_cmp i));
  sound = λ k n e. absurd (some_none (Some n) (sym e));
}

module _ (ps qs : Places) (n : Named) (puts : Puts ps qs n) where
  -- what stands in a place stood there, or is new
  pub from_put : (k : ℕ) (m : Named) → slice_get qs k ≡ Some (Some m) → (m ≡ n) ⊎ (slice_get ps k ≡ Some (Some m))
  from_put k m e = elim puts [
    | inl h ↦ elim (from_set k h.0 (Some n) (Some m) ps (subst (λ (xs : Places). slice_get xs k ≡ Some (Some m)) h.2 e)) [
      | inl same ↦ let is : m ≡ n = cc in inl is
      | inr else ↦ inr else.1
    ]
    | inr h ↦ elim (from_more k (Some n) (Some m) ps (subst (λ (xs : Places). slice_get xs k ≡ Some (Some m)) h e)) [
      | inl same ↦ let is : m ≡ n = cc in inl is
      | inr old ↦ inr old
    ]
  ]

  -- what stood in a place stands there
  pub to_put : (k : ℕ) (m : Named) → slice_get ps k ≡ Some (Some m) → slice_get qs k ≡ Some (Some m)
  to_put k m e = elim puts [
    | inl h ↦
        let ne : k ≢ h.0 = λ is. let no : Some (Some m) ≡ Some None = sym e ∙ ap (λ j. slice_get ps j) is ∙ h.1 in cc in
        subst (λ (xs : Places). slice_get xs k ≡ Some (Some m)) (sym h.2) (at_else k h.0 (Some n) ps ne ∙ e)
    | inr h ↦ subst (λ (xs : Places). slice_get xs k ≡ Some (Some m)) (sym h) (at_more k (Some m) ps (Some n ∷ []) e)
  ]

  module _ (none : found n.name ps ≡ None) where
    pub apart_put : AreApart ps → AreApart qs
    apart_put apart = elim puts [
      | inl h ↦ subst AreApart (sym h.2) (apart_set n.name h.0 (Some n) ps (at_within h.0 None ps h.1) apart (alone_free n.name h.0 ps h.1 none) refl)
      | inr h ↦ subst AreApart (sym h) (apart_push n ps apart none)
    ]

    pub objects_put : objects_in qs ≡ finmap.insert (objects_in ps) n.name (seen n.object)
    objects_put = elim puts [
      | inl h ↦ ap objects_in h.2 ∙ objects_with h.0 n ps (at_within h.0 None ps h.1) (alone_free n.name h.0 ps h.1 none)
      | inr h ↦ ap objects_in h ∙ objects_push n ps none
    ]

    module _ (cells : Contents Place) (bare : inner n.object ≡ []) (start : made_in n.object ≡ 0) where
      no_cell : (s : ℕ) (c : Cell) → value_at s (inner n.object) ≡ Some c → ⊥
      no_cell s c e = some_none c (sym e ∙ ap (value_at s) bare)

      sound_new : IsSound cells.made n
      sound_new = record {
        few = omega (arith, start);
        distinct = subst (λ (xs : List Inner). IsDistinct (serials xs)) (sym bare) tt;
        given = λ s c a. absurd (no_cell s c a);
        rising = λ s t c d a b lt. absurd (no_cell s c a);
      }

      pub kept_put : IsKept ps cells → IsKept qs cells
      kept_put is = record {
        apart = apart_put is.apart;
        said = λ k s i h. elim (from_put k h.0 h.2) [
          | inl e ↦ absurd (no_cell s h.1 (subst (λ (m : Named). value_at s (inner m.object) ≡ Some h.1) e h.3))
          | inr e ↦ is.said k s i (h.0, h.1, e, h.3, h.4)
        ];
        there = λ k s i h. let w = is.there k s i h in (w.0, w.1, to_put k w.0 w.2, w.3, w.4);
        sound = λ k m e. elim (from_put k m e) [
          | inl new ↦ subst (IsSound cells.made) (sym new) sound_new
          | inr old ↦ is.sound k m old
        ];
      }

-- the state has as many objects as places that aren't free
pub count_is : (ps qs : Places) (cells : Contents Place) → IsKept ps cells → qs ≡ ps → finmap.len (state_of ps cells).objects ≡ taken qs
count_is ps qs cells kept is = len_objects ps kept.apart ∙ ap taken (sym is)

-- a name that no object has
pub none_named : (ps : Places) (cells : Contents Place) (name : List ℕ) → has_object (state_of ps cells) Any name ≡ false → found name ps ≡ None
none_named ps cells name not = elim (found name ps) as (λ o. found name ps ≡ o → is_some (option_and_then (of_kinds Any) o) ≡ false → found name ps ≡ None) [
  | None ↦ λ e h. e
  | Some o ↦ λ e h. let no : true ≡ false = h in cc
] refl (ap (λ o. is_some (option_and_then (of_kinds Any) o)) (sym (get_objects ps name)) ∙ not)

-- what the session has once it is there
pub made_object : (ps qs : Places) (cells : Contents Place) (n : Named) → Puts ps qs n → found n.name ps ≡ None → state_of qs cells ≡ with_object n.name (seen n.object) (state_of ps cells)
made_object ps qs cells n puts none = ap (λ o. record { objects = o; made = cells.made }) (objects_put ps qs n puts none)

-- the reply, once it is there
pub made_state : (ps qs : Places) (cells : Contents Place) (n : Named) (name : List ℕ) (s : ObjectState) (reply : Reply)
    → Puts ps qs n → found n.name ps ≡ None → n.name ≡ name → state_of ps cells ≡ s → finmap.len s.objects ≢ OBJECT_LIMIT
    → reply ≡ Line Empty → (state_of qs cells, reply) ≡ comes_in name (seen n.object) s
made_state ps qs cells n name s reply puts none named same few answer =
    (λ i. (made_object ps qs cells n puts none i, answer i))
    ∙ (λ i. done (with_object (named i) (seen n.object) (same i)) Empty)
    ∙ sym (come_done name (seen n.object) s few)
