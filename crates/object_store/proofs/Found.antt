-- What one change of a place makes of the objects that stand in the places.
use Rattle.std.proofs.Common.{◌≡◌, ℕ, zero, suc, ◌+◌, ◌<◌, ◌≢◌, Bool, true, false, cond, List, [], ◌∷◌, ◌++◌, length, Option, Some, None, is_some, refl, sym, ap, subst, ◌∙◌, arith}
use Rattle.std.specs.Prelude.{slice_get, slice_set, ⊤}
use Rattle.std.specs.Ordering.{nat_cmp}
use Rattle.std.specs.Cmp.Lexicographic.{slice_cmp}
use Rattle.std.specs.FinMap as finmap
use Rattle.object_store.specs.declared.slots.Named.{Named}
use Rattle.object_store.specs.State.{Object}
use Rattle.object_store.specs.Inner.{seen}
use Rattle.object_store.specs.Kept.{Places}
use Rattle.object_store.specs.Slots.{same_name, entries_of, objects_in, found, taken, AreApart}
use Rattle.object_store.proofs.Names.{total, tells, name_is, name_itself, name_of, name_not}

-- the object in a place
abbrev pub object_in : Option Named → Option Object
object_in None = None
object_in (Some n) = Some (seen n.object)

-- the place is free, or its object has the name
abbrev pub IsOf : List ℕ → Option Named → Type 0
IsOf x None = ⊤
IsOf x (Some n) = n.name ≡ x

-- no place but k has an object of the name
abbrev pub Alone : List ℕ → ℕ → Places → Type 0
Alone x k [] = ⊤
Alone x zero (p ∷ ps) = IsOf x p × (found x ps ≡ None)
Alone x (suc k) (p ∷ ps) = (found x (p ∷ []) ≡ None) × Alone x k ps

some_none : {A : Type 0} (a : A) → Some a ≡ None → ⊥
some_none a e = cc

none_some : {A : Type 0} (a : A) → None ≡ Some a → ⊥
none_some a e = cc

-- a search that finds nothing in a list finds nothing in its parts
found_first : (x : List ℕ) (n : Named) (ps : Places) → found x (Some n ∷ ps) ≡ None → (same_name x n.name ≡ false) × (found x ps ≡ None)
found_first x n ps e = elim (same_name x n.name) as (λ b. cond b (Some (seen n.object)) (found x ps) ≡ None → (b ≡ false) × (found x ps ≡ None)) [
  | true ↦ λ h. absurd (some_none (seen n.object) h)
  | false ↦ λ h. (refl, h)
] e

-- the object at a place is found by its name
pub found_there : (k : ℕ) (n : Named) (ps : Places) → slice_get ps k ≡ Some (Some n) → found n.name ps ≡ None → ⊥
found_there k n [] at e = none_some (Some n) at
found_there zero n (None ∷ ps) at e = let twice : Some None ≡ Some (Some n) = at in cc
found_there zero n (Some m ∷ ps) at e =
    let is : m ≡ n = cc in
    let f = found_first n.name m ps e in
    let t : same_name n.name m.name ≡ true = name_of n.name m.name (ap (λ (o : Named). o.name) (sym is)) in
    let twice : true ≡ false = sym t ∙ f.0 in cc
found_there (suc k) n (None ∷ ps) at e = found_there k n ps at e
found_there (suc k) n (Some m ∷ ps) at e = found_there k n ps at (found_first n.name m ps e).1

pub get_found : (k : ℕ) (n : Named) (ps : Places) → AreApart ps → slice_get ps k ≡ Some (Some n) → found n.name ps ≡ Some (seen n.object)
get_found k n [] apart at = absurd (none_some (Some n) at)
get_found zero n (None ∷ ps) apart at = let twice : Some None ≡ Some (Some n) = at in cc
get_found zero n (Some m ∷ ps) apart at =
    let is : m ≡ n = cc in
    subst (λ (o : Named). found o.name (Some m ∷ ps) ≡ Some (seen o.object)) is
    (ap (λ b. cond b (Some (seen m.object)) (found m.name ps)) (name_itself m.name))
get_found (suc k) n (None ∷ ps) apart at = get_found k n ps apart at
get_found (suc k) n (Some m ∷ ps) apart at =
    let ne : n.name ≢ m.name = λ e. found_there k n ps at (subst (λ (x : List ℕ). found x ps ≡ None) (sym e) apart.0) in
    ap (λ b. cond b (Some (seen m.object)) (found n.name ps)) (name_not n.name m.name ne) ∙ get_found k n ps apart.1 at

-- where nothing is found, no place has the name
pub not_found : (x : List ℕ) (ps : Places) → ((k : ℕ) (n : Named) → slice_get ps k ≡ Some (Some n) → n.name ≢ x) → found x ps ≡ None
not_found x [] none = refl
not_found x (None ∷ ps) none = not_found x ps (λ k. none (suc k))
not_found x (Some m ∷ ps) none =
    ap (λ b. cond b (Some (seen m.object)) (found x ps)) (name_not x m.name (λ e. none zero m refl (sym e)))
    ∙ not_found x ps (λ k. none (suc k))

-- who is found stands somewhere
pub found_place : (x : List ℕ) (ps : Places) (o : Object) → found x ps ≡ Some o → (k : ℕ) × (n : Named) × (slice_get ps k ≡ Some (Some n)) × (n.name ≡ x) × (seen n.object ≡ o)
found_place x [] o e = absurd (none_some o e)
found_place x (None ∷ ps) o e = let f = found_place x ps o e in (suc f.0, f.1, f.2, f.3, f.4)
found_place x (Some m ∷ ps) o e =
    elim (same_name x m.name) as (λ b. same_name x m.name ≡ b → cond b (Some (seen m.object)) (found x ps) ≡ Some o → (k : ℕ) × (n : Named) × (slice_get (Some m ∷ ps) k ≡ Some (Some n)) × (n.name ≡ x) × (seen n.object ≡ o)) [
      | true ↦ λ is h. let so : seen m.object ≡ o = cc in (zero, m, refl, sym (name_is x m.name is), so)
      | false ↦ λ is h. let f = found_place x ps o h in (suc f.0, f.1, f.2, f.3, f.4)
    ] refl e

pub alone_free : (x : List ℕ) (k : ℕ) (ps : Places) → slice_get ps k ≡ Some None → found x ps ≡ None → Alone x k ps
alone_free x k [] at e = tt
alone_free x zero (None ∷ ps) at e = (tt, e)
alone_free x zero (Some m ∷ ps) at e = let twice : Some (Some m) ≡ Some None = at in cc
alone_free x (suc k) (None ∷ ps) at e = (refl, alone_free x k ps at e)
alone_free x (suc k) (Some m ∷ ps) at e =
    let f = found_first x m ps e in
    (ap (λ b. cond b (Some (seen m.object)) None) f.0, alone_free x k ps at f.1)

pub alone_there : (k : ℕ) (n : Named) (ps : Places) → AreApart ps → slice_get ps k ≡ Some (Some n) → Alone n.name k ps
alone_there k n [] apart at = tt
alone_there zero n (None ∷ ps) apart at = let twice : Some None ≡ Some (Some n) = at in cc
alone_there zero n (Some m ∷ ps) apart at =
    let is : m ≡ n = cc in
    (ap (λ (o : Named). o.name) is, subst (λ (o : Named). found o.name ps ≡ None) is apart.0)
alone_there (suc k) n (None ∷ ps) apart at = (refl, alone_there k n ps apart at)
alone_there (suc k) n (Some m ∷ ps) apart at =
    let ne : n.name ≢ m.name = λ e. found_there k n ps at (subst (λ (x : List ℕ). found x ps ≡ None) (sym e) apart.0) in
    (ap (λ b. cond b (Some (seen m.object)) None) (name_not n.name m.name ne), alone_there k n ps apart.1 at)

-- two tests one after the other, of which not both pass
twice : {A : Type 0} (a b : Bool) (x y z : A) → (a ≡ true → b ≡ true → ⊥) → cond a x (cond b y z) ≡ cond b y (cond a x z)
twice true true x y z not = absurd (not refl refl)
twice true false x y z not = refl
twice false b x y z not = refl

over : {A : Type 0} (a : Bool) (x y z : A) → cond a x z ≡ cond a x (cond a y z)
over true x y z = refl
over false x y z = refl

idle : {A : Type 0} (a : Bool) (z : A) (w : Option A) → w ≡ None → w ≡ cond a None w
idle true z w e = e
idle false z w e = refl

-- what is found in a place that is free or has the name, and then in others that don't have it
head_is : (q x : List ℕ) (p : Option Named) (ps : Places) → IsOf x p → found x ps ≡ None → found q (p ∷ ps) ≡ cond (same_name q x) (object_in p) (found q ps)
head_is q x None ps of none = elim (same_name q x) as (λ b. same_name q x ≡ b → found q ps ≡ cond b None (found q ps)) [
  | true ↦ λ e. subst (λ (y : List ℕ). found y ps ≡ None) (sym (name_is q x e)) none
  | false ↦ λ e. refl
] refl
head_is q x (Some n) ps of none = ap (λ (y : List ℕ). cond (same_name q y) (Some (seen n.object)) (found q ps)) of

-- the name of the place isn't x
other_name : (x : List ℕ) (m : Named) → found x (Some m ∷ []) ≡ None → x ≢ m.name
other_name x m none e = some_none (seen m.object) (sym (ap (λ b. cond b (Some (seen m.object)) None) (name_of x m.name e)) ∙ none)

not_both : (q x : List ℕ) (m : Named) → found x (Some m ∷ []) ≡ None → same_name q m.name ≡ true → same_name q x ≡ true → ⊥
not_both q x m none a b = other_name x m none (sym (name_is q x b) ∙ name_is q m.name a)

-- what is found once a place has changed
pub becomes : (q x : List ℕ) (k : ℕ) (v : Option Named) (ps : Places) → k < length ps → Alone x k ps → IsOf x v → found q (slice_set ps k v) ≡ cond (same_name q x) (object_in v) (found q ps)
becomes q x k v [] lt alone of = absurd (omega arith)
becomes q x zero v (p ∷ ps) lt alone of =
    head_is q x v ps of alone.1
    ∙ over (same_name q x) (object_in v) (object_in p) (found q ps)
    ∙ ap (λ o. cond (same_name q x) (object_in v) o) (sym (head_is q x p ps alone.0 alone.1))
becomes q x (suc k) v (None ∷ ps) lt alone of = let less : k < length ps = omega arith in becomes q x k v ps less alone.1 of
becomes q x (suc k) v (Some m ∷ ps) lt alone of =
    let less : k < length ps = omega arith in
    ap (λ o. cond (same_name q m.name) (Some (seen m.object)) o) (becomes q x k v ps less alone.1 of)
    ∙ twice (same_name q m.name) (same_name q x) (Some (seen m.object)) (object_in v) (found q ps) (not_both q x m alone.0)

pub apart_set : (x : List ℕ) (k : ℕ) (v : Option Named) (ps : Places) → k < length ps → AreApart ps → Alone x k ps → IsOf x v → AreApart (slice_set ps k v)
apart_set x k v [] lt apart alone of = absurd (omega arith)
apart_set x zero None (None ∷ ps) lt apart alone of = apart
apart_set x zero None (Some m ∷ ps) lt apart alone of = apart.1
apart_set x zero (Some n) (None ∷ ps) lt apart alone of = (subst (λ (y : List ℕ). found y ps ≡ None) (sym of) alone.1, apart)
apart_set x zero (Some n) (Some m ∷ ps) lt apart alone of = (subst (λ (y : List ℕ). found y ps ≡ None) (sym of) alone.1, apart.1)
apart_set x (suc k) v (None ∷ ps) lt apart alone of = let less : k < length ps = omega arith in apart_set x k v ps less apart alone.1 of
apart_set x (suc k) v (Some m ∷ ps) lt apart alone of =
    let less : k < length ps = omega arith in (
      becomes m.name x k v ps less alone.1 of
          ∙ ap (λ b. cond b (object_in v) (found m.name ps)) (name_not m.name x (λ e. other_name x m alone.0 (sym e)))
          ∙ apart.0,
      apart_set x k v ps less apart.1 alone.1 of,
    )

-- ---- the objects
pub get_objects : (ps : Places) (q : List ℕ) → finmap.get (objects_in ps) q ≡ found q ps
get_objects ps q = finmap.get-from_entries total (entries_of ps) q

-- a place whose object is changed, or that gets one
pub objects_with : (k : ℕ) (n : Named) (ps : Places) → k < length ps → Alone n.name k ps → objects_in (slice_set ps k (Some n)) ≡ finmap.insert (objects_in ps) n.name (seen n.object)
objects_with k n ps lt alone = finmap.same_map total tells (objects_in (slice_set ps k (Some n))) (finmap.insert (objects_in ps) n.name (seen n.object)) (λ q.
    get_objects (slice_set ps k (Some n)) q ∙ becomes q n.name k (Some n) ps lt alone refl
    ∙ ap (λ o. cond (same_name q n.name) (Some (seen n.object)) o) (sym (get_objects ps q))
    ∙ sym (finmap.get-insert total (objects_in ps) n.name (seen n.object) q))

-- a place whose object is dropped
pub objects_without : (x : List ℕ) (k : ℕ) (ps : Places) → k < length ps → Alone x k ps → objects_in (slice_set ps k None) ≡ finmap.remove (objects_in ps) x
objects_without x k ps lt alone = finmap.same_map total tells (objects_in (slice_set ps k None)) (finmap.remove (objects_in ps) x) (λ q.
    get_objects (slice_set ps k None) q ∙ becomes q x k None ps lt alone tt
    ∙ ap (λ o. cond (same_name q x) None o) (sym (get_objects ps q))
    ∙ sym (finmap.get-remove total (objects_in ps) x q))

entries_push : (n : Named) (ps : Places) → entries_of (ps ++ Some n ∷ []) ≡ entries_of ps ++ (n.name, seen n.object) ∷ []
entries_push n [] = refl
entries_push n (None ∷ ps) = entries_push n ps
entries_push n (Some m ∷ ps) = ap (λ es. (m.name, seen m.object) ∷ es) (entries_push n ps)

-- a place more
pub objects_push : (n : Named) (ps : Places) → found n.name ps ≡ None → objects_in (ps ++ Some n ∷ []) ≡ finmap.insert (objects_in ps) n.name (seen n.object)
objects_push n ps none = ap (λ es. finmap.from_entries es) (entries_push n ps) ∙ finmap.from_entries_push total tells (entries_of ps) n.name (seen n.object) none

pub found_push : (q : List ℕ) (n : Named) (ps : Places) → q ≢ n.name → found q ps ≡ None → found q (ps ++ Some n ∷ []) ≡ None
found_push q n [] ne none = ap (λ b. cond b (Some (seen n.object)) None) (name_not q n.name ne)
found_push q n (None ∷ ps) ne none = found_push q n ps ne none
found_push q n (Some m ∷ ps) ne none =
    let f = found_first q m ps none in
    ap (λ b. cond b (Some (seen m.object)) (found q (ps ++ Some n ∷ []))) f.0 ∙ found_push q n ps ne f.1

pub apart_push : (n : Named) (ps : Places) → AreApart ps → found n.name ps ≡ None → AreApart (ps ++ Some n ∷ [])
apart_push n [] apart none = (refl, tt)
apart_push n (None ∷ ps) apart none = apart_push n ps apart none
apart_push n (Some m ∷ ps) apart none =
    let f = found_first n.name m ps none in
    let ne : m.name ≢ n.name = λ e. let t : same_name n.name m.name ≡ true = name_of n.name m.name (sym e) in let no : true ≡ false = sym t ∙ f.0 in cc in
    (found_push m.name n ps ne apart.0, apart_push n ps apart.1 f.1)

-- there are as many objects as places that aren't free
pub len_objects : (ps : Places) → AreApart ps → finmap.len (objects_in ps) ≡ taken ps
len_objects [] apart = finmap.len-empty (slice_cmp nat_cmp) Object
len_objects (None ∷ ps) apart = len_objects ps apart
len_objects (Some n ∷ ps) apart =
    let l = len_objects ps apart.1 in
    let m = finmap.len-insert total (objects_in ps) n.name (seen n.object) in
    let g : finmap.get (objects_in ps) n.name ≡ None = get_objects ps n.name ∙ apart.0 in
    let more : finmap.len (finmap.insert (objects_in ps) n.name (seen n.object)) ≡ finmap.len (objects_in ps) + 1 =
    m ∙ ap (λ o. cond (is_some o) (finmap.len (objects_in ps)) (finmap.len (objects_in ps) + 1)) g in
    omega (arith, more, l)
