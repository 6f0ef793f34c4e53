-- The nearest element before one that shows.
use Rattle.std.proofs.Common.{◌≡◌, ℕ, ◌+◌, ◌≤◌, ◌==◌, Bool, true, false, cond, List, [], ◌∷◌, ◌++◌, filter, length, Option, Some, None, refl, sym, ap, subst, ◌∙◌, inl, inr, arith, length-append}
use Rattle.std.proofs.lemmas.List.{append_assoc}
use Rattle.std.specs.FinMap as map
use Rattle.item_pool.specs.Contents.{Contents}
use Rattle.graph_defs.specs.declared.dart.Dart.{Dart}
use Rattle.graph_state.specs.declared.name.ListName.{ListName}
use Rattle.graph_state.specs.declared.name.ListName.TheVariants.{Nodes, Edges, Out, In}
use Rattle.graph_state.specs.declared.name.Element.{Element}
use Rattle.graph_state.specs.declared.name.Element.TheVariants.{Node, Edge, End}
use Rattle.graph_state.specs.State.{front, back}
use Rattle.graph_state.specs.Names.{Has, number, last_of}
use Rattle.graph_state.proofs.Has.{some_same, not_both, has_right}
use Rattle.graph_state.proofs.Same.{nat_tells, same_is}
use Rattle.graph_lists.specs.declared.token.Hook.{Hook}
use Rattle.graph_lists.specs.Named.{Named, hook_at, list_at, shows_at, IsFirstShown, IsNextShown}
use Rattle.graph_lists.specs.Heads.{IsMemberOf, Finds}
use Rattle.graph_core.specs.declared.cell.NodeCell.{NodeCell}
use Rattle.graph_core.specs.declared.cell.EdgeCell.{EdgeCell}
use Rattle.graph_core.specs.Kept.{end_hook}
use Rattle.graph_core.specs.Marks.{token, Fits, IsToken, IsNodeToken, IsTokenIn, Passes}
use Rattle.graph_core.proofs.Found.{cut}

-- only an edge fits the edge list, and only a dart any other one
fits_edge : (x : Element) → Fits Edges x → (i : ℕ) × (x ≡ Edge i)
fits_edge (Node v) f = absurd f
fits_edge (Edge i) f = (i, refl)
fits_edge (End d) f = absurd f

fits_end : (l : ListName) (x : Element) → (l ≡ Edges → ⊥) → Fits l x → (d : Dart) × (x ≡ End d)
fits_end Nodes x ne f = absurd f
fits_end Edges x ne f = absurd (ne refl)
fits_end (Out v) (Node w) ne f = absurd f
fits_end (Out v) (Edge e) ne f = absurd f
fits_end (Out v) (End d) ne f = (d, refl)
fits_end (In v) (Node w) ne f = absurd f
fits_end (In v) (Edge e) ne f = absurd f
fits_end (In v) (End d) ne f = (d, refl)

-- the token of a node, and that of what stands in a list of edges or darts
pub node_token : (n : Named) (p : Contents NodeCell) (q : Contents EdgeCell) (l : ListName) (x : Element) → l ≡ Nodes → IsTokenIn n p q l x → IsNodeToken n p x
node_token n p q l x is t = subst (λ l. IsTokenIn n p q l x) is t

pub other_token : (n : Named) (p : Contents NodeCell) (q : Contents EdgeCell) (l : ListName) (x : Element) → (l ≡ Nodes → ⊥) → IsTokenIn n p q l x → IsToken n q l x
other_token n p q Nodes x ne t = absurd (ne refl)
other_token n p q Edges x ne t = t
other_token n p q (Out v) x ne t = t
other_token n p q (In v) x ne t = t

pub at_node : (n : Named) (p : Contents NodeCell) (v : ℕ) (c : NodeCell) (x : Element) → map.get p.live v ≡ Some c → v ≡ number x → IsNodeToken n p x → (Node v ≡ x) × (hook_at n x ≡ Some c.hook)
at_node n p v c x at is t =
    (ap Node is ∙ sym t.fits, t.hook ∙ ap (λ (c : NodeCell). Some c.hook) (some_same (sym t.live ∙ ap (map.get p.live) (sym is) ∙ at)))

module _ (n : Named) (q : Contents EdgeCell) (l : ListName) (m e : ℕ) (cell : EdgeCell) (at : map.get q.live e ≡ Some cell) where
  same_cell : (x : Element) → e ≡ number x → (t : IsToken n q l x) → t.cell ≡ cell
  same_cell x is t = some_same (sym t.live ∙ ap (map.get q.live) (sym is) ∙ at)

  token_hook : (x : Element) → e ≡ number x → IsToken n q l x → hook_at n x ≡ Some (token cell x)
  token_hook x is t = t.hook ∙ ap (λ c. Some (token c x)) (same_cell x is t)

  edge_token : (i : ℕ) → e ≡ i → hook_at n (Edge i) ≡ Some cell.hook → (Edge e ≡ Edge i) × (hook_at n (Edge i) ≡ Some cell.hook)
  edge_token i is p = (ap Edge is, p)

  pub at_edge : (x : Element) → l ≡ Edges → e ≡ number x → IsToken n q l x → (Edge e ≡ x) × (hook_at n x ≡ Some cell.hook)
  at_edge x le is t =
      let i = fits_edge x (subst (λ l. Fits l x) le t.fits) in
      subst (λ x. e ≡ number x → hook_at n x ≡ Some (token cell x) → (Edge e ≡ x) × (hook_at n x ≡ Some cell.hook)) (sym i.1) (λ is p. edge_token i.0 is p) is (token_hook x is t)

  pub at_front : (x : Element) → e ≡ number x → IsToken n q l x → IsMemberOf n false x m → ((b c : Bool) (x y : Element) → IsMemberOf n b x m → IsMemberOf n c y m → x ≡ y) → (cell.front.full == m) ≡ true
      → (End (front e) ≡ x) × (hook_at n x ≡ Some cell.front)
  at_front x is t w one eq =
      let f : hook_at n (End (front e)) ≡ Some cell.front = ap (λ i. hook_at n (End (front i))) is ∙ t.first ∙ ap (λ (c : EdgeCell). Some c.front) (same_cell x is t) in
      let full : cell.front.full ≡ m = elim (nat_tells cell.front.full m) [ inl y ↦ y.1 | inr ne ↦ absurd (not_both eq ne.0) ] in
      let same = one false false (End (front e)) x (cell.front, (f, full)) w in
      (same, ap (hook_at n) (sym same) ∙ f)

  back_token : (g : Bool) (i : ℕ) → e ≡ i → hook_at n (End (record { edge = i; back = g })) ≡ Some (end_hook g cell) → IsMemberOf n false (End (record { edge = i; back = g })) m → (cell.front.full == m) ≡ false
      → (End (back e) ≡ End (record { edge = i; back = g })) × (hook_at n (End (record { edge = i; back = g })) ≡ Some cell.back)
  back_token true i is p w eq = (ap (λ i. End (back i)) is, p)
  back_token false i is p w eq =
      let full : cell.front.full ≡ m = ap (λ (w : Hook). w.full) (some_same (sym p ∙ w.1.0)) ∙ w.1.1 in
      absurd (not_both (same_is ◌==◌ nat_tells cell.front.full m full) eq)

  pub at_back : (x : Element) → (l ≡ Edges → ⊥) → e ≡ number x → IsToken n q l x → IsMemberOf n false x m → (cell.front.full == m) ≡ false → (End (back e) ≡ x) × (hook_at n x ≡ Some cell.back)
  at_back x ne is t w eq =
      let d = fits_end l x ne t.fits in
      subst (λ x. e ≡ number x → hook_at n x ≡ Some (token cell x) → IsMemberOf n false x m → (End (back e) ≡ x) × (hook_at n x ≡ Some cell.back)) (sym d.1)
      (λ is p w. back_token d.0.back d.0.edge is p w eq) is (token_hook x is t) w

-- the last element of what stands before, with its member
pub record IsLast (n : Named) (before : List Element) (m : ℕ) : Type 0 where
  pub y : Element
  pub rest : List Element
  pub is : before ≡ rest ++ y ∷ []
  pub member : IsMemberOf n false y m

last_at : (n : Named) (before : List Element) (m : ℕ) → Finds n false (Some m) (last_of before) → IsLast n before m
last_at n [] m f = absurd f
last_at n (x ∷ []) m f = record { y = x; rest = []; is = refl; member = f }
last_at n (x ∷ y ∷ ys) m f = let r = last_at n (y ∷ ys) m f in record { y = r.y; rest = x ∷ r.rest; is = ap (λ zs. x ∷ zs) r.is; member = r.member }

none_before : (n : Named) (before : List Element) → Finds n false None (last_of before) → before ≡ []
none_before n [] f = refl
none_before n (x ∷ []) f = absurd f
none_before n (x ∷ y ∷ ys) f = let e = none_before n (y ∷ ys) f in let g = ap length e in absurd (omega (arith, g))

module _ (n : Named) (l : ListName) (x : Element) where
  pub passes_none : Has x (list_at n l) → (at : Option ℕ) → ((before behind : List Element) → list_at n l ≡ before ++ x ∷ behind → Finds n false at (last_of before)) → Passes n l x 0 at
  passes_none i at f =
      let c = cut x (list_at n l) i in
      record { before = c.0; between = []; behind = c.1.0; is = c.1.1; none = refl; counted = refl; finds = f c.0 c.1.0 c.1.1 }

  module _ (turn : ℕ) (at : Option ℕ) (p : Passes n l x turn at) where
    pub last_is : (m : ℕ) → at ≡ Some m → IsLast n p.before m
    last_is m e = last_at n p.before m (subst (λ a. Finds n false a (last_of p.before)) e p.finds)

    pub passed_at : (m : ℕ) (h : IsLast n p.before m) → list_at n l ≡ h.rest ++ h.y ∷ (p.between ++ x ∷ p.behind)
    passed_at m h = p.is ∙ ap (λ ys. ys ++ (p.between ++ x ∷ p.behind)) h.is ∙ append_assoc h.rest (h.y ∷ []) (p.between ++ x ∷ p.behind)

    pub passed_has : (m : ℕ) (h : IsLast n p.before m) → Has h.y (list_at n l)
    passed_has m h = subst (Has h.y) (sym (passed_at m h)) (has_right h.y h.rest (h.y ∷ (p.between ++ x ∷ p.behind)) (inl refl))

    pub passes_more : (m : ℕ) (h : IsLast n p.before m) (next : Option ℕ) → shows_at n h.y ≡ false → Finds n false next (last_of h.rest) → Passes n l x (turn + 1) next
    passes_more m h next hidden f = record {
      before = h.rest;
      between = h.y ∷ p.between;
      behind = p.behind;
      is = passed_at m h;
      none = ap (λ b. cond b (h.y ∷ filter (shows_at n) p.between) (filter (shows_at n) p.between)) hidden ∙ p.none;
      counted = omega (arith, p.counted);
      finds = f;
    }

    pub next_shown : (m : ℕ) (h : IsLast n p.before m) (y : Element) → y ≡ h.y → shows_at n y ≡ true → IsNextShown n l y x
    next_shown m h y e shown = record {
      before = h.rest;
      between = p.between;
      behind = p.behind;
      is = passed_at m h ∙ ap (λ y. h.rest ++ y ∷ (p.between ++ x ∷ p.behind)) (sym e);
      shows = shown;
      none = p.none;
    }

    pub first_shown : at ≡ None → IsFirstShown n l x
    first_shown e = record {
      before = p.between;
      behind = p.behind;
      is = p.is ∙ ap (λ ys. ys ++ (p.between ++ x ∷ p.behind)) (none_before n p.before (subst (λ a. Finds n false a (last_of p.before)) e p.finds));
      none = p.none;
    }

    pub passes_all : length (list_at n l) ≤ turn → ⊥
    passes_all le =
        let long = ap length p.is ∙ length-append p.before (p.between ++ x ∷ p.behind) in
        let more = length-append p.between (x ∷ p.behind) in
        let count = p.counted in
        omega (arith, le, long, more, count)
