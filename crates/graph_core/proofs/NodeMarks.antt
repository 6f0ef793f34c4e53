-- A walk along a list turns the edges of what stands there.
use Rattle.std.proofs.Common.{◌≡◌, ℕ, ◌+◌, ◌<◌, ◌≤◌, Bool, true, false, List, [], ◌∷◌, ◌++◌, length, Option, Some, None, refl, sym, ap, subst, ◌∙◌, ◌⊎◌, inl, inr, arith, length-append}
use Rattle.std.proofs.lemmas.List.{append-nil, append_assoc}
use Rattle.graph_state.specs.declared.name.ListName.{ListName}
use Rattle.graph_state.specs.declared.name.Element.{Element}
use Rattle.graph_state.specs.Names.{Has, number, first_of}
use Rattle.graph_state.proofs.Has.{truth, not_both, has_left, has_right, has_last}
use Rattle.graph_state.proofs.Added.{IsOf}
use Rattle.graph_state.proofs.Marked.{of_or_not}
use Rattle.graph_lists.specs.Named.{Named, list_at, shows_at}
use Rattle.graph_lists.specs.Heads.{IsMemberOf, Finds}
use Rattle.graph_core.specs.Marks.{IsSame, PartsShow, IsNoPart, MarksIf}
use Rattle.graph_core.specs.NodeMarks.{TurnsAll, Passed}
use Rattle.graph_core.proofs.Hiding.{same_on, part_shows, no_part}
use Rattle.graph_core.proofs.Walks.{IsHere, here_at, none_left, no_rest}
use Rattle.graph_core.proofs.Showing.{same_hook_at}

module _ (n m : Named) (e : ℕ) (b : Bool) where
  pub if_same : (c : Bool) → MarksIf c n m e b → IsSame n m
  if_same true h = h.same
  if_same false h = h.0

  -- what isn't of the edge stays, and so does all where the edge isn't turned
  pub if_else : (c : Bool) → MarksIf c n m e b → (x : Element) → (c ≡ true → IsNoPart e x) → shows_at m x ≡ shows_at n x
  if_else true h x none = h.else x (none refl)
  if_else false h x none = h.1 x

  pub if_here : (c : Bool) → MarksIf c n m e b → c ≡ true → PartsShow m e b
  if_here true h t = h.here
  if_here false h t = absurd (not_both t refl)

  -- what shows as the flag says stays so
  if_stays : (c : Bool) → MarksIf c n m e b → (x : Element) → shows_at n x ≡ b → shows_at m x ≡ b
  if_stays c h x is = elim (truth c) [
    | inl t ↦ elim (of_or_not e x) [
      | inl o ↦ part_shows m e b (if_here c h t) x o
      | inr ne ↦ if_else c h x (λ _. no_part e x ne) ∙ is
    ]
    | inr f ↦ if_else c h x (λ t. absurd (not_both t f)) ∙ is
  ]

  pub parts_stay_so : (c : Bool) → MarksIf c n m e b → (i : ℕ) → PartsShow n i b → PartsShow m i b
  parts_stay_so c h i s = record { edge = if_stays c h _ s.edge; first = if_stays c h _ s.first; second = if_stays c h _ s.second }

pub same_self_named : (n : Named) → IsSame n n
same_self_named n = record { heads = refl; hooks = refl; lists = refl; loose = refl }

module _ (g : ℕ → Bool) (b : Bool) where
  pub turns_none : (n : Named) → TurnsAll g b n n []
  turns_none n = record { same = same_self_named n; done = λ y i. absurd i; kept = λ x _. refl }

  pub turns_more : (n m o : Named) (xs : List Element) (z : Element) → TurnsAll g b n m xs → MarksIf (g (number z)) m o (number z) b → TurnsAll g b n o (xs ++ z ∷ [])
  turns_more n m o xs z all one = record {
    same = same_on n m o all.same (if_same m o (number z) b (g (number z)) one);
    done = λ y i t. elim (has_last y z xs i) [
      | inl j ↦ parts_stay_so m o (number z) b (g (number z)) one (number y) (all.done y j t)
      | inr e ↦ subst (λ y. g (number y) ≡ true → PartsShow o (number y) b) (sym e) (if_here m o (number z) b (g (number z)) one) t
    ];
    kept = λ x none.
        if_else m o (number z) b (g (number z)) one x (λ t. none z (has_right z xs (z ∷ []) (inl refl)) t)
        ∙ all.kept x (λ y i t. none y (has_left y xs (z ∷ []) i) t);
  }

  -- an element of the list is one of the edge that is to be turned, or none is
  touched : (xs : List Element) (x : Element) → ((y : Element) × (Has y xs × ((g (number y) ≡ true) × IsOf (number y) x))) ⊎ ((y : Element) → Has y xs → g (number y) ≡ true → IsOf (number y) x → ⊥)
  touched [] x = inr (λ y i. absurd i)
  touched (z ∷ zs) x = elim (touched zs x) [
    | inl h ↦ inl (h.0, (inr h.1.0, h.1.1))
    | inr out ↦ elim (truth (g (number z))) [
      | inl t ↦ elim (of_or_not (number z) x) [
        | inl o ↦ inl (z, (inl refl, (t, o)))
        | inr ne ↦ inr (λ y i t o. elim i [ inl e ↦ ne (subst (λ y. IsOf (number y) x) e o) | inr j ↦ out y j t o ])
      ]
      | inr f ↦ inr (λ y i t o. elim i [ inl e ↦ not_both (subst (λ y. g (number y) ≡ true) e t) f | inr j ↦ out y j t o ])
    ]
  ]

  -- what shows as the flag says stays so, and so does what is of no edge that is turned
  module _ (n m : Named) (xs : List Element) (all : TurnsAll g b n m xs) (x : Element) where
    pub turned_of : (y : Element) → Has y xs → g (number y) ≡ true → IsOf (number y) x → shows_at m x ≡ b
    turned_of y i t o = part_shows m (number y) b (all.done y i t) x o

    pub kept_of : ((y : Element) → Has y xs → g (number y) ≡ true → IsOf (number y) x → ⊥) → shows_at m x ≡ shows_at n x
    kept_of out = all.kept x (λ y i t. no_part (number y) x (out y i t))

    pub stays_so : shows_at n x ≡ b → shows_at m x ≡ b
    stays_so is = elim (touched xs x) [ inl h ↦ turned_of h.0 h.1.0 h.1.1.0 h.1.1.1 | inr out ↦ kept_of out ∙ is ]

-- a walk along a list
module _ (P : List Element → Type 0) (n : Named) (l : ListName) where
  pub passed_none : (at : Option ℕ) → P [] → Finds n false at (first_of (list_at n l)) → Passed P n l 0 at
  passed_none at h f = record { passed = []; rest = list_at n l; is = refl; counted = refl; holds = h; finds = f }

  module _ (i : ℕ) (at : Option ℕ) (w : Passed P n l i at) where
    long : length (list_at n l) ≡ i + length w.rest
    long = ap length w.is ∙ length-append w.passed w.rest ∙ ap (λ k. k + length w.rest) w.counted

    pub passed_goes : at ≡ None → i < length (list_at n l) → ⊥
    passed_goes e lt =
        let none = ap length (none_left n false w.rest (subst (λ a. Finds n false a (first_of w.rest)) e w.finds)) in
        let k = long in
        omega (arith, lt, k, none)

    pub passed_here : (m : ℕ) → at ≡ Some m → IsHere n false w.rest m
    passed_here m e = here_at n false w.rest m (subst (λ a. Finds n false a (first_of w.rest)) e w.finds)

    module _ (m : ℕ) (h : IsHere n false w.rest m) where
      pub passed_cut : list_at n l ≡ w.passed ++ h.x ∷ h.behind
      passed_cut = w.is ∙ ap (λ ys. w.passed ++ ys) h.is

      pub passed_has : Has h.x (list_at n l)
      passed_has = subst (Has h.x) (sym passed_cut) (has_right h.x w.passed (h.x ∷ h.behind) (inl refl))

      pub passed_more : (Q : List Element → Type 0) (next : Option ℕ) → Q (w.passed ++ h.x ∷ []) → Finds n false next (first_of h.behind) → Passed Q n l (i + 1) next
      passed_more Q next q f = record {
        passed = w.passed ++ h.x ∷ [];
        rest = h.behind;
        is = passed_cut ∙ sym (append_assoc w.passed (h.x ∷ []) h.behind);
        counted = length-append w.passed (h.x ∷ []) ∙ ap (λ k. k + 1) w.counted;
        holds = q;
        finds = f;
      }

    pub passed_all : length (list_at n l) ≤ i → P (list_at n l)
    passed_all le =
        let k = long in
        let none = no_rest w.rest (omega (arith, le, k)) in
        subst P (sym (w.is ∙ ap (λ ys. w.passed ++ ys) none ∙ append-nil w.passed)) w.holds

-- a member of the lists as they were is one of the lists as they are, and the other way round
pub member_stays : (n m : Named) → IsSame n m → (x : Element) (k : ℕ) → IsMemberOf n false x k → IsMemberOf m false x k
member_stays n m same x k w = (w.0, (same_hook_at n m same x ∙ w.1.0, w.1.1))

pub finds_back : (n m : Named) → IsSame n m → (at : Option ℕ) (o : Option Element) → Finds m false at o → Finds n false at o
finds_back n m same None None f = f
finds_back n m same None (Some x) f = f
finds_back n m same (Some k) None f = f
finds_back n m same (Some k) (Some x) f = (f.0, (sym (same_hook_at n m same x) ∙ f.1.0, f.1.1))
