-- A walk along a ring, an element a turn.
use Rattle.std.proofs.Common.{◌≡◌, ℕ, ◌+◌, ◌<◌, ◌≤◌, Bool, List, [], ◌∷◌, ◌++◌, map, length, Option, Some, None, refl, sym, ap, subst, ◌∙◌, inl, arith, length-append}
use Rattle.std.proofs.lemmas.List.{append-nil, append_assoc}
use Rattle.graph_state.specs.declared.name.Element.{Element}
use Rattle.graph_state.specs.Names.{Has, IsOnce, number, first_of}
use Rattle.graph_state.proofs.Has.{has_right, map_join}
use Rattle.graph_lists.specs.Named.{Named}
use Rattle.graph_lists.specs.Heads.{IsMemberOf, Finds}
use Rattle.graph_lists.proofs.Shown.{once_cut}
use Rattle.graph_core.specs.Members.{Walks}

-- the first of what is left, and the rest
pub record IsHere (v : Named) (b : Bool) (rest : List Element) (m : ℕ) : Type 0 where
  pub x : Element
  pub behind : List Element
  pub is : rest ≡ x ∷ behind
  pub member : IsMemberOf v b x m

pub here_at : (v : Named) (b : Bool) (rest : List Element) (m : ℕ) → Finds v b (Some m) (first_of rest) → IsHere v b rest m
here_at v b [] m f = absurd f
here_at v b (x ∷ xs) m f = record { x = x; behind = xs; is = refl; member = f }

pub none_left : (v : Named) (b : Bool) (rest : List Element) → Finds v b None (first_of rest) → rest ≡ []
none_left v b [] f = refl
none_left v b (x ∷ xs) f = absurd f

pub no_rest : (rest : List Element) → length rest ≡ 0 → rest ≡ []
no_rest [] e = refl
no_rest (x ∷ xs) e = absurd (omega (arith, e))

module _ {I V : Type 0} (value : I → V) (of : Element → V) (v : Named) (b : Bool) (xs : List Element) where
  pub walk_begins : (row : List I) (at : Option ℕ) → row ≡ [] → Finds v b at (first_of xs) → Walks value of v b xs row 0 at
  walk_begins row at e f = record { taken = []; rest = xs; is = refl; values = ap (map value) e; counted = refl; finds = f }

  module _ (row : List I) (i : ℕ) (at : Option ℕ) (w : Walks value of v b xs row i at) where
    long : length xs ≡ i + length w.rest
    long = ap length w.is ∙ length-append w.taken w.rest ∙ ap (λ n. n + length w.rest) w.counted

    pub walk_goes : at ≡ None → i < length xs → ⊥
    walk_goes e lt =
        let none = ap length (none_left v b w.rest (subst (λ a. Finds v b a (first_of w.rest)) e w.finds)) in
        let n = long in
        omega (arith, lt, n, none)

    pub walk_here : (m : ℕ) → at ≡ Some m → IsHere v b w.rest m
    walk_here m e = here_at v b w.rest m (subst (λ a. Finds v b a (first_of w.rest)) e w.finds)

    pub walk_cut : (m : ℕ) (h : IsHere v b w.rest m) → xs ≡ w.taken ++ h.x ∷ h.behind
    walk_cut m h = w.is ∙ ap (λ ys. w.taken ++ ys) h.is

    pub walk_has : (m : ℕ) (h : IsHere v b w.rest m) → Has h.x xs
    walk_has m h = subst (Has h.x) (sym (walk_cut m h)) (has_right h.x w.taken (h.x ∷ h.behind) (inl refl))

    pub walk_steps : (m : ℕ) (h : IsHere v b w.rest m) (item : I) (next : Option ℕ) (after : List I) → after ≡ row ++ item ∷ [] → value item ≡ of h.x → Finds v b next (first_of h.behind) → Walks value of v b xs after (i + 1) next
    walk_steps m h item next after push is f = record {
      taken = w.taken ++ h.x ∷ [];
      rest = h.behind;
      is = walk_cut m h ∙ sym (append_assoc w.taken (h.x ∷ []) h.behind);
      values = ap (map value) push ∙ map_join value row (item ∷ []) ∙ (λ j. w.values j ++ is j ∷ []) ∙ sym (map_join of w.taken (h.x ∷ []));
      counted = length-append w.taken (h.x ∷ []) ∙ ap (λ n. n + 1) w.counted;
      finds = f;
    }

    pub walk_ends : length xs ≤ i → map value row ≡ map of xs
    walk_ends le =
        let n = long in
        let none = no_rest w.rest (omega (arith, le, n)) in
        w.values ∙ ap (map of) (sym (w.is ∙ ap (λ ys. w.taken ++ ys) none ∙ append-nil w.taken))

same_numbers : (ks : List ℕ) → map (λ (k : ℕ). k) ks ≡ ks
same_numbers [] = refl
same_numbers (k ∷ ks) = ap (λ js. k ∷ js) (same_numbers ks)

-- the numbers of the elements that were passed
module _ (v : Named) (b : Bool) (xs : List Element) (ks : List ℕ) (turn : ℕ) (at : Option ℕ) (w : Walks (λ (k : ℕ). k) number v b xs ks turn at) where
  passed_numbers : ks ≡ map number w.taken
  passed_numbers = sym (same_numbers ks) ∙ w.values

  pub not_passed : IsOnce (map number xs) → (m : ℕ) (h : IsHere v b w.rest m) → Has (number h.x) ks → ⊥
  not_passed once m h i =
      let cut : map number xs ≡ map number w.taken ++ number h.x ∷ map number h.behind = ap (map number) (walk_cut (λ (k : ℕ). k) number v b xs ks turn at w m h) ∙ map_join number w.taken (h.x ∷ h.behind) in
      (once_cut (number h.x) (map number w.taken) (map number h.behind) (subst IsOnce cut once)).0 (subst (Has (number h.x)) passed_numbers i)

  pub passed_all : length xs ≤ turn → ks ≡ map number xs
  passed_all le = sym (same_numbers ks) ∙ walk_ends (λ (k : ℕ). k) number v b xs ks turn at w le
