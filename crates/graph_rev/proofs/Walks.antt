-- Walks along the edge list.
use Rattle.std.proofs.Common.{◌≡◌, ℕ, ◌+◌, ◌<◌, ◌≤◌, Bool, true, false, cond, not, ◌&&◌, List, [], ◌∷◌, ◌++◌, filter, length, is_some, Option, Some, None, option_map, refl, sym, ap, subst, ◌∙◌, ◌⊎◌, inl, inr, arith, length-append}
use Rattle.std.proofs.lemmas.List.{append-nil, append_assoc}
use Rattle.std.specs.FinMap as map
use Rattle.graph_state.specs.declared.item.EdgeItem.{EdgeItem}
use Rattle.graph_state.specs.State.{GraphState, shows_edge, visible_edges}
use Rattle.graph_state.specs.Names.{Has, first_of}
use Rattle.graph_state.specs.Edits.{paired}
use Rattle.graph_state.proofs.Has.{truth, not_both, has_right, filter_join, filter_one, filter_no, filter_same, filter_twice}
use Rattle.graph_core.specs.Opposite.{can_pair}
use Rattle.graph_rev.specs.Pairing.{lacks_reversal, pair_if, pair_first, pair_each, map_made}

-- a walk along the edge list: the edges passed, and those that are left, of which `at` is the first
pub record Goes (es : List ℕ) (count : ℕ) (at : Option EdgeItem) : Type 0 where
  pub passed : List ℕ
  pub rest : List ℕ
  pub is : es ≡ passed ++ rest
  pub counted : length passed ≡ count
  pub finds : option_map (λ (e : EdgeItem). e.0.serial) at ≡ first_of rest

-- what is left begins with e
pub record IsAt (rest : List ℕ) (e : ℕ) : Type 0 where
  pub behind : List ℕ
  pub is : rest ≡ e ∷ behind

some_is : (e x : ℕ) → Some e ≡ Some x → x ≡ e
some_is e x f = cc

at_first : (rest : List ℕ) (e : ℕ) → Some e ≡ first_of rest → IsAt rest e
at_first [] e f = cc
at_first (x ∷ xs) e f = record { behind = xs; is = ap (λ z. z ∷ xs) (some_is e x f) }

none_left : (rest : List ℕ) → None ≡ first_of rest → rest ≡ []
none_left [] f = refl
none_left (x ∷ xs) f = cc

empty_is : (rest : List ℕ) → length rest ≡ 0 → rest ≡ []
empty_is [] e = refl
empty_is (x ∷ xs) e = absurd (omega (arith, e))

abbrev pub goes_begins : (es : List ℕ) (at : Option EdgeItem) → option_map (λ (e : EdgeItem). e.0.serial) at ≡ first_of es → Goes es 0 at
goes_begins es at f = record { passed = []; rest = es; is = refl; counted = refl; finds = f }

module _ (es : List ℕ) (i : ℕ) (at : Option EdgeItem) (g : Goes es i at) where
  long : length es ≡ i + length g.rest
  long = ap length g.is ∙ length-append g.passed g.rest ∙ ap (λ n. n + length g.rest) g.counted

  pub goes_on : at ≡ None → i < length es → ⊥
  goes_on e lt =
      let none = ap length (none_left g.rest (sym (ap (option_map (λ (e : EdgeItem). e.0.serial)) e) ∙ g.finds)) in
      let n = long in
      omega (arith, lt, n, none)

  pub goes_here : (e : EdgeItem) → at ≡ Some e → IsAt g.rest e.0.serial
  goes_here e is = at_first g.rest e.0.serial (sym (ap (option_map (λ (e : EdgeItem). e.0.serial)) is) ∙ g.finds)

  pub goes_cut : (e : ℕ) (h : IsAt g.rest e) → es ≡ g.passed ++ e ∷ h.behind
  goes_cut e h = g.is ∙ ap (λ ys. g.passed ++ ys) h.is

  pub goes_has : (e : ℕ) (h : IsAt g.rest e) → Has e es
  goes_has e h = subst (Has e) (sym (goes_cut e h)) (has_right e g.passed (e ∷ h.behind) (inl refl))

  abbrev pub goes_next : (e : ℕ) (h : IsAt g.rest e) (next : Option EdgeItem) → option_map (λ (e : EdgeItem). e.0.serial) next ≡ first_of h.behind → Goes es (i + 1) next
  goes_next e h next f = record {
    passed = g.passed ++ e ∷ [];
    rest = h.behind;
    is = goes_cut e h ∙ sym (append_assoc g.passed (e ∷ []) h.behind);
    counted = length-append g.passed (e ∷ []) ∙ ap (λ n. n + 1) g.counted;
    finds = f;
  }

  pub goes_end : length es ≤ i → g.rest ≡ []
  goes_end le = let n = long in empty_is g.rest (omega (arith, le, n))

  pub goes_all : length es ≤ i → es ≡ g.passed
  goes_all le = g.is ∙ ap (λ ys. g.passed ++ ys) (goes_end le) ∙ append-nil g.passed

-- the same along an equal list
abbrev pub goes_as : (es fs : List ℕ) (i : ℕ) (at : Option EdgeItem) → fs ≡ es → Goes es i at → Goes fs i at
goes_as es fs i at same g = record { passed = g.passed; rest = g.rest; is = same ∙ g.is; counted = g.counted; finds = g.finds }

-- what passes a test among numbers that go on
pub count_push : (P : ℕ → Bool) (xs : List ℕ) (e : ℕ) → length (filter P (xs ++ e ∷ [])) ≡ length (filter P xs) + cond (P e) 1 0
count_push P xs e = ap length (filter_join P xs (e ∷ [])) ∙ length-append (filter P xs) (filter P (e ∷ [])) ∙ ap (λ n. length (filter P xs) + n) (elim (P e) as (λ b. length (cond b (e ∷ []) []) ≡ cond b 1 0) [ true ↦ refl | false ↦ refl ])

pub count_same : (n : ℕ) (b : Bool) → b ≡ false → n ≡ n + cond b 1 0
count_same n true f = absurd (not_both refl f)
count_same n false f = omega arith

pub count_few : (P : ℕ → Bool) (xs : List ℕ) → length (filter P xs) ≤ length xs
count_few P [] = omega arith
count_few P (x ∷ xs) = elim (P x) as (λ b. length (cond b (x ∷ filter P xs) (filter P xs)) ≤ length (x ∷ xs)) [
  | true ↦ let n = count_few P xs in omega (arith, n)
  | false ↦ let n = count_few P xs in omega (arith, n)
]

twice : (a b : Bool) → a && (a && b) ≡ a && b
twice true b = refl
twice false b = refl

-- pairing changes neither the edge list nor what shows
module _ (s : GraphState) (e : ℕ) (later : List ℕ) where
  if_edges : (o : Option ℕ) → (pair_if e o s).edges ≡ s.edges
  unfolding paired
  if_edges None = refl
  if_edges (Some f) = refl

  if_shows : (o : Option ℕ) (x : ℕ) → shows_edge (pair_if e o s) x ≡ shows_edge s x
  unfolding paired
  if_shows None x = refl
  if_shows (Some f) x = refl

  pub first_edges : (pair_first e later s).edges ≡ s.edges
  first_edges = elim (lacks_reversal s e) as (λ b. (cond b (pair_if e (first_of (filter (can_pair s e) later)) s) s).edges ≡ s.edges) [ true ↦ if_edges (first_of (filter (can_pair s e) later)) | false ↦ refl ]

  pub first_shows : (x : ℕ) → shows_edge (pair_first e later s) x ≡ shows_edge s x
  first_shows x = elim (lacks_reversal s e) as (λ b. shows_edge (cond b (pair_if e (first_of (filter (can_pair s e) later)) s) s) x ≡ shows_edge s x) [ true ↦ if_shows (first_of (filter (can_pair s e) later)) x | false ↦ refl ]

  -- only visible edges are paired
  shown_alone : (xs : List ℕ) → filter (can_pair s e) (filter (shows_edge s) xs) ≡ filter (can_pair s e) xs
  shown_alone xs = filter_twice (can_pair s e) (shows_edge s) xs ∙ filter_same (λ x. shows_edge s x && can_pair s e x) (can_pair s e) xs (λ x _. twice (shows_edge s x) _)

  pub first_shown : pair_first e (filter (shows_edge s) later) s ≡ pair_first e later s
  first_shown = ap (λ ys. cond (lacks_reversal s e) (pair_if e (first_of ys) s) s) (shown_alone later)

  same_rest : filter (shows_edge s) later ≡ filter (shows_edge (pair_first e later s)) later
  same_rest = filter_same (shows_edge s) (shows_edge (pair_first e later s)) later (λ x _. sym (first_shows x))

  hidden_stays : shows_edge s e ≡ false → pair_first e later s ≡ s
  hidden_stays is = ap (λ b. cond (b && not (is_some (map.get s.reversals e))) (pair_if e (first_of (filter (can_pair s e) later)) s) s) is

  step_if : (b : Bool) → shows_edge s e ≡ b → pair_each (cond b (e ∷ filter (shows_edge s) later) (filter (shows_edge s) later)) s ≡ pair_each (filter (shows_edge (pair_first e later s)) later) (pair_first e later s)
  unfolding pair_each
  step_if true is = (λ i. pair_each (same_rest i) (first_shown i))
  step_if false is = (λ i. pair_each (same_rest i) (sym (hidden_stays is) i))

  pub step_each : pair_each (filter (shows_edge s) (e ∷ later)) s ≡ pair_each (filter (shows_edge (pair_first e later s)) later) (pair_first e later s)
  step_each = step_if (shows_edge s e) refl
