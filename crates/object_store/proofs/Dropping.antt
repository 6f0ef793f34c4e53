-- An object without items is dropped.
use Rattle.std.proofs.Common.{◌≡◌, ℕ, zero, suc, ◌≢◌, List, [], ◌∷◌, Some, None, refl, sym, ap, subst, ◌∙◌, inl, inr, ⊎_elim}
use Rattle.std.specs.Prelude.{slice_get, slice_set, ⊤}
use Rattle.std.proofs.lemmas.Bool.{cases_eq}
use Rattle.std.specs.Ordering.{nat_cmp}
use Rattle.std.specs.Cmp.Lexicographic.{slice_cmp}
use Rattle.std.specs.FinMap as finmap
use Rattle.item_dict.proofs.Maps.{get_there, gone_here, gone_there, removed}
use Rattle.item_list.specs.Items.{value_at}
use Rattle.item_pool.specs.Contents.{Contents}
use Rattle.object_store.specs.declared.objects.Place.{Place}
use Rattle.object_store.specs.declared.object.Object.{Object as Held}
use Rattle.object_store.specs.declared.slots.Named.{Named}
use Rattle.object_store.specs.State.{Object}
use Rattle.object_store.specs.Commands.{without_object}
use Rattle.object_store.specs.Inner.{inner, seen}
use Rattle.object_store.specs.Slots.{objects_in}
use Rattle.object_store.specs.Kept.{Places, state_of, IsKept, HasAt, Replaces}
use Rattle.object_store.proofs.Found.{alone_there, apart_set, objects_without}
use Rattle.object_store.proofs.Names.{total, tells}
use Rattle.object_store.proofs.Places.{at_within, at_else, at_set, from_set}
use Rattle.object_store.proofs.Steps.{objects_now}

none_some : {A : Type 0} (a : A) → None ≡ Some a → ⊥
none_some a e = cc

set_twice : {A : Type 0} (k : ℕ) (v w : A) (xs : List A) → slice_set (slice_set xs k v) k w ≡ slice_set xs k w
set_twice k v w [] = refl
set_twice zero v w (x ∷ xs) = refl
set_twice (suc k) v w (x ∷ xs) = ap (λ ys. x ∷ ys) (set_twice k v w xs)

-- one change of a place after another
pub replaces_more : (a b c : Places) (k : ℕ) → Replaces a b k (λ o t. ⊤) → (r : Replaces b c k (λ o t. ⊤)) → Replaces a c k (λ o t. ⊤)
replaces_more a b c k q r = record {
  old = q.old;
  new = r.new;
  was = q.was;
  is = r.is ∙ ap (λ xs. slice_set xs k (Some r.new)) q.is ∙ set_twice k (Some q.new) (Some r.new) a;
  name =
      let here : slice_get b k ≡ Some (Some q.new) = ap (λ xs. slice_get xs k) q.is ∙ at_set k (Some q.new) a (at_within k (Some q.old) a q.was) in
      let both : Some (Some r.old) ≡ Some (Some q.new) = sym r.was ∙ here in
      let one : r.old ≡ q.new = cc in
      r.name ∙ ap (λ (n : Named). n.name) one ∙ q.name;
  changed = tt;
}

module _ (ps : Places) (cells : Contents Place) (kept : IsKept ps cells) (k : ℕ) (n : Named) (at : slice_get ps k ≡ Some (Some n)) (bare : inner n.object ≡ []) where
  pub kept_drop : IsKept (slice_set ps k None) cells
  kept_drop = record {
    apart = apart_set n.name k None ps (at_within k (Some n) ps at) kept.apart (alone_there k n ps kept.apart at) tt;
    said = λ j s i h. elim (from_set j k None (Some h.0) ps h.2) [
      | inl e ↦ absurd (let no : Some h.0 ≡ None = e.1 in cc)
      | inr e ↦ kept.said j s i (h.0, h.1, e.1, h.3, h.4)
    ];
    there = λ j s i h.
        let w = kept.there j s i h in
        ⊎_elim
        (λ (is : j ≡ k).
        let both : Some (Some w.0) ≡ Some (Some n) = sym w.2 ∙ ap (λ l. slice_get ps l) is ∙ at in
        let one : w.0 ≡ n = cc in
        absurd (none_some w.1 (sym (ap (λ xs. value_at s xs) (ap (λ (m : Named). inner m.object) one ∙ bare)) ∙ w.3)))
        (λ (ne : j ≢ k). (w.0, w.1, at_else j k None ps ne ∙ w.2, w.3, w.4))
        (cases_eq j k);
    sound = λ j m e. elim (from_set j k None (Some m) ps e) [
      | inl h ↦ absurd (let no : Some m ≡ None = h.1 in cc)
      | inr h ↦ kept.sound j m h.1
    ];
  }

  pub objects_drop : objects_in (slice_set ps k None) ≡ finmap.remove (objects_in ps) n.name
  objects_drop = objects_without n.name k ps (at_within k (Some n) ps at) (alone_there k n ps kept.apart at)

-- to take an entry out that was changed before is to take it out
pub removed_changed : (m : finmap.FinMap (slice_cmp nat_cmp) Object) (x : List ℕ) (v : Object) → finmap.remove (finmap.insert m x v) x ≡ finmap.remove m x
removed_changed m x v = removed total tells m x (finmap.remove (finmap.insert m x v) x) (gone_here total tells (finmap.insert m x v) x) (λ q ne. gone_there total tells (finmap.insert m x v) x q ne ∙ get_there total tells m x v q ne)

set_same : {A : Type 0} (k : ℕ) (v : A) (xs : List A) → slice_get xs k ≡ Some v → slice_set xs k v ≡ xs
set_same k v [] e = refl
set_same zero v (x ∷ xs) e = let is : x ≡ v = cc in ap (λ y. y ∷ xs) (sym is)
set_same (suc k) v (x ∷ xs) e = ap (λ ys. x ∷ ys) (set_same k v xs e)

-- no change of a place is one
pub replaces_same : (a : Places) (k : ℕ) (n : Named) → slice_get a k ≡ Some (Some n) → Replaces a a k (λ o t. ⊤)
replaces_same a k n at = record { old = n; new = n; was = at; is = sym (set_same k (Some n) a at); name = refl; changed = tt }

abbrev pub replaces_any : (a b : Places) (k : ℕ) (R : Held → Held → Type 0) → Replaces a b k R → Replaces a b k (λ o t. ⊤)
replaces_any a b k R r = record { old = r.old; new = r.new; was = r.was; is = r.is; name = r.name; changed = tt }

pub replaced_there : (a b : Places) (k : ℕ) (r : Replaces a b k (λ o t. ⊤)) → slice_get b k ≡ Some (Some r.new)
replaced_there a b k r = ap (λ xs. slice_get xs k) r.is ∙ at_set k (Some r.new) a (at_within k (Some r.old) a r.was)

pub replaces_bare : (a b : Places) (k : ℕ) → Replaces a b k (λ o t. ⊤) → HasAt b k (λ o. inner o ≡ []) → Replaces a b k (λ o t. inner t ≡ [])
replaces_bare a b k r h =
    let both : Some (Some h.0) ≡ Some (Some r.new) = sym h.1 ∙ replaced_there a b k r in
    let one : h.0 ≡ r.new = cc in
    record { old = r.old; new = r.new; was = r.was; is = r.is; name = r.name; changed = subst (λ (m : Named). inner m.object ≡ []) one h.2 }

-- what the session has once the object has gone
pub dropped : (ps qs : Places) (cells less : Contents Place) (k : ℕ) (name : List ℕ) (r : Replaces ps qs k (λ o t. inner t ≡ [])) → IsKept ps cells → IsKept qs less → less.made ≡ cells.made → r.old.name ≡ name
    → state_of (slice_set qs k None) less ≡ without_object name (state_of ps cells)
dropped ps qs cells less k name r before after made named =
    let here = replaced_there ps qs k (replaces_any ps qs k (λ o t. inner t ≡ []) r) in
    let objects = objects_drop qs less after k r.new here r.changed
    ∙ (λ j. finmap.remove (objects_now ps qs k r.old r.new r.was r.is r.name before.apart j) (r.name j))
    ∙ removed_changed (objects_in ps) r.old.name (seen r.new.object)
    ∙ ap (λ x. finmap.remove (objects_in ps) x) named in
    λ i. record { objects = objects i; made = made i }
