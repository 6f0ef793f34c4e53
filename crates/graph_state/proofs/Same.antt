-- Tests of equality tell whether names are the same.
use Rattle.std.proofs.Common.{◌≡◌, ℕ, ◌+◌, Bool, true, false, cond, ◌==◌, not, ◌&&◌, List, [], ◌∷◌, filter, length, refl, sym, ap, subst, ◌∙◌, ◌⊎◌, inl, inr, arith}
use Rattle.std.proofs.lemmas.Bool.Decides.{eqb_tells}
use Rattle.graph_defs.specs.declared.dart.Dart.{Dart}
use Rattle.graph_state.specs.declared.name.ListName.{ListName}
use Rattle.graph_state.specs.declared.name.ListName.TheVariants.{Nodes, Edges, Out, In}
use Rattle.graph_state.specs.declared.name.Element.{Element}
use Rattle.graph_state.specs.declared.name.Element.TheVariants.{Node, Edge, End}
use Rattle.graph_state.specs.Names.{Has, IsOnce, same_dart, same_element, same_list, behind, before, without}
use Rattle.graph_state.proofs.Has.{has_filter, filter_has, filter_all}

-- the test tells whether a is b
abbrev pub Tells : {X : Type 0} → (X → X → Bool) → X → X → Type 0
Tells same a b = ((same a b ≡ true) × (a ≡ b)) ⊎ ((same a b ≡ false) × (a ≡ b → ⊥))

pub nat_tells : (a b : ℕ) → Tells ◌==◌ a b
nat_tells a b = eqb_tells a b

abbrev number_of : Element → ℕ
number_of (Node v) = v
number_of (Edge e) = e
number_of (End d) = d.edge

abbrev dart_of : Element → Dart
dart_of (Node v) = record { edge = v; back = false }
dart_of (Edge v) = record { edge = v; back = false }
dart_of (End d) = d

abbrev node_of : ListName → ℕ
node_of Nodes = 0
node_of Edges = 0
node_of (Out v) = v
node_of (In v) = v

bool_tells : (a b : Bool) → Tells (λ x y. cond x y (not y)) a b
bool_tells true true = inl (refl, refl)
bool_tells true false = inr (refl, λ e. cc)
bool_tells false true = inr (refl, λ e. cc)
bool_tells false false = inl (refl, refl)

pub flag_tells : (a b : Bool) → (a ≡ b) ⊎ (a ≡ b → ⊥)
flag_tells a b = elim (bool_tells a b) [ inl y ↦ inl y.1 | inr n ↦ inr n.1 ]

pub dart_tells : (a b : Dart) → Tells same_dart a b
dart_tells a b = elim (bool_tells a.back b.back) [
  | inl y ↦ elim (nat_tells a.edge b.edge) [
    | inl z ↦ inl (ap (λ t. t && (a.edge == b.edge)) y.0 ∙ z.0, λ i. record { edge = z.1 i; back = y.1 i })
    | inr n ↦ inr (ap (λ t. t && (a.edge == b.edge)) y.0 ∙ n.0, λ e. n.1 (ap (λ (d : Dart). d.edge) e))
  ]
  | inr n ↦ inr (ap (λ t. t && (a.edge == b.edge)) n.0, λ e. n.1 (ap (λ (d : Dart). d.back) e))
]

pub element_tells : (a b : Element) → Tells same_element a b
element_tells (Node v) (Node w) = elim (nat_tells v w) [ inl y ↦ inl (y.0, ap Node y.1) | inr n ↦ inr (n.0, λ e. n.1 (ap number_of e)) ]
element_tells (Node v) (Edge f) = inr (refl, λ e. cc)
element_tells (Node v) (End d) = inr (refl, λ e. cc)
element_tells (Edge e) (Node w) = inr (refl, λ e. cc)
element_tells (Edge v) (Edge w) = elim (nat_tells v w) [ inl y ↦ inl (y.0, ap Edge y.1) | inr n ↦ inr (n.0, λ e. n.1 (ap number_of e)) ]
element_tells (Edge e) (End d) = inr (refl, λ e. cc)
element_tells (End c) (Node w) = inr (refl, λ e. cc)
element_tells (End c) (Edge f) = inr (refl, λ e. cc)
element_tells (End c) (End d) = elim (dart_tells c d) [ inl y ↦ inl (y.0, ap End y.1) | inr n ↦ inr (n.0, λ e. n.1 (ap dart_of e)) ]

pub list_tells : (a b : ListName) → Tells same_list a b
list_tells Nodes Nodes = inl (refl, refl)
list_tells Nodes Edges = inr (refl, λ e. cc)
list_tells Nodes (Out w) = inr (refl, λ e. cc)
list_tells Nodes (In w) = inr (refl, λ e. cc)
list_tells Edges Nodes = inr (refl, λ e. cc)
list_tells Edges Edges = inl (refl, refl)
list_tells Edges (Out w) = inr (refl, λ e. cc)
list_tells Edges (In w) = inr (refl, λ e. cc)
list_tells (Out v) Nodes = inr (refl, λ e. cc)
list_tells (Out v) Edges = inr (refl, λ e. cc)
list_tells (Out v) (Out w) = elim (nat_tells v w) [ inl y ↦ inl (y.0, ap Out y.1) | inr n ↦ inr (n.0, λ e. n.1 (ap node_of e)) ]
list_tells (Out v) (In w) = inr (refl, λ e. cc)
list_tells (In v) Nodes = inr (refl, λ e. cc)
list_tells (In v) Edges = inr (refl, λ e. cc)
list_tells (In v) (Out w) = inr (refl, λ e. cc)
list_tells (In v) (In w) = elim (nat_tells v w) [ inl y ↦ inl (y.0, ap In y.1) | inr n ↦ inr (n.0, λ e. n.1 (ap node_of e)) ]

module _ {X : Type 0} (same : X → X → Bool) (tells : (a b : X) → Tells same a b) where
  pub same_self : (a : X) → same a a ≡ true
  same_self a = elim (tells a a) [ inl y ↦ y.0 | inr n ↦ absurd (n.1 refl) ]

  pub same_is : (a b : X) → a ≡ b → same a b ≡ true
  same_is a b e = subst (λ x. same a x ≡ true) e (same_self a)

  pub same_not : (a b : X) → (a ≡ b → ⊥) → same a b ≡ false
  same_not a b ne = elim (tells a b) [ inl y ↦ absurd (ne y.1) | inr n ↦ n.0 ]

  pub has_without : (x y : X) (zs : List X) → Has y zs → (y ≡ x → ⊥) → Has y (without same x zs)
  has_without x y zs i ne = filter_has (λ z. not (same z x)) y zs i (ap not (same_not y x ne))

  pub without_has : (x y : X) (zs : List X) → Has y (without same x zs) → Has y zs × (y ≡ x → ⊥)
  without_has x y zs i =
      let r = has_filter (λ z. not (same z x)) y zs i in
      (r.0, λ e. let f : false ≡ true = sym (ap not (same_is y x e)) ∙ r.1 in cc)

  pub without_out : (x : X) (zs : List X) → (Has x zs → ⊥) → without same x zs ≡ zs
  without_out x zs out = filter_all (λ z. not (same z x)) zs (λ z i. ap not (same_not z x (λ e. out (subst (λ y. Has y zs) e i))))

  -- of what stands once, one is taken
  pub without_long : (x : X) (zs : List X) → IsOnce zs → Has x zs → length (without same x zs) + 1 ≡ length zs
  without_long x [] o i = absurd i
  without_long x (z ∷ zs) o i = elim (tells z x) [
    | inl y ↦
        let n : length (without same x (z ∷ zs)) ≡ length zs =
        ap (λ b. length (cond (not b) (z ∷ without same x zs) (without same x zs))) y.0 ∙ ap length (without_out x zs (λ j. o.0 (subst (λ k. Has k zs) (sym y.1) j))) in
        omega (arith, n)
    | inr n ↦
        let m : length (without same x (z ∷ zs)) ≡ length (z ∷ without same x zs) = ap (λ b. length (cond (not b) (z ∷ without same x zs) (without same x zs))) n.0 in
        let r = without_long x zs o.1 (elim i [ inl e ↦ absurd (n.1 (sym e)) | inr j ↦ j ]) in
        omega (arith, m, r)
  ]

  pub behind_out : (x y : X) (zs : List X) → (Has x zs → ⊥) → behind same x y zs ≡ zs
  behind_out x y [] out = refl
  behind_out x y (z ∷ zs) out =
      ap (λ b. cond b (z ∷ y ∷ zs) (z ∷ behind same x y zs)) (same_not z x (λ e. out (inl (sym e)))) ∙ ap (λ ys. z ∷ ys) (behind_out x y zs (λ i. out (inr i)))

  pub before_out : (x y : X) (zs : List X) → (Has x zs → ⊥) → before same x y zs ≡ zs
  before_out x y [] out = refl
  before_out x y (z ∷ zs) out =
      ap (λ b. cond b (y ∷ z ∷ zs) (z ∷ before same x y zs)) (same_not z x (λ e. out (inl (sym e)))) ∙ ap (λ ys. z ∷ ys) (before_out x y zs (λ i. out (inr i)))

  pub has_behind : (x y k : X) (zs : List X) → Has k zs → Has k (behind same x y zs)
  has_behind x y k [] i = i
  has_behind x y k (z ∷ zs) i = elim (same z x) as (λ b. Has k (cond b (z ∷ y ∷ zs) (z ∷ behind same x y zs))) [
    | true ↦ elim i [ inl e ↦ inl e | inr j ↦ inr (inr j) ]
    | false ↦ elim i [ inl e ↦ inl e | inr j ↦ inr (has_behind x y k zs j) ]
  ]

  pub has_before : (x y k : X) (zs : List X) → Has k zs → Has k (before same x y zs)
  has_before x y k [] i = i
  has_before x y k (z ∷ zs) i = elim (same z x) as (λ b. Has k (cond b (y ∷ z ∷ zs) (z ∷ before same x y zs))) [
    | true ↦ inr i
    | false ↦ elim i [ inl e ↦ inl e | inr j ↦ inr (has_before x y k zs j) ]
  ]

  pub new_behind : (x y : X) (zs : List X) → Has x zs → Has y (behind same x y zs)
  new_behind x y [] i = absurd i
  new_behind x y (z ∷ zs) i = elim (tells z x) [
    | inl t ↦ subst (λ b. Has y (cond b (z ∷ y ∷ zs) (z ∷ behind same x y zs))) (sym t.0) (inr (inl refl))
    | inr n ↦ subst (λ b. Has y (cond b (z ∷ y ∷ zs) (z ∷ behind same x y zs))) (sym n.0) (elim i [ inl e ↦ absurd (n.1 (sym e)) | inr j ↦ inr (new_behind x y zs j) ])
  ]

  pub new_before : (x y : X) (zs : List X) → Has x zs → Has y (before same x y zs)
  new_before x y [] i = absurd i
  new_before x y (z ∷ zs) i = elim (tells z x) [
    | inl t ↦ subst (λ b. Has y (cond b (y ∷ z ∷ zs) (z ∷ before same x y zs))) (sym t.0) (inl refl)
    | inr n ↦ subst (λ b. Has y (cond b (y ∷ z ∷ zs) (z ∷ before same x y zs))) (sym n.0) (elim i [ inl e ↦ absurd (n.1 (sym e)) | inr j ↦ inr (new_before x y zs j) ])
  ]

  pub behind_has : (x y k : X) (zs : List X) → Has k (behind same x y zs) → Has k zs ⊎ (k ≡ y)
  behind_has x y k [] i = absurd i
  behind_has x y k (z ∷ zs) i = elim (same z x) as (λ b. Has k (cond b (z ∷ y ∷ zs) (z ∷ behind same x y zs)) → Has k (z ∷ zs) ⊎ (k ≡ y)) [
    | true ↦ λ i. elim i [ inl e ↦ inl (inl e) | inr j ↦ elim j [ inl e ↦ inr e | inr n ↦ inl (inr n) ] ]
    | false ↦ λ i. elim i [ inl e ↦ inl (inl e) | inr j ↦ elim (behind_has x y k zs j) [ inl a ↦ inl (inr a) | inr e ↦ inr e ] ]
  ] i

  pub before_has : (x y k : X) (zs : List X) → Has k (before same x y zs) → Has k zs ⊎ (k ≡ y)
  before_has x y k [] i = absurd i
  before_has x y k (z ∷ zs) i = elim (same z x) as (λ b. Has k (cond b (y ∷ z ∷ zs) (z ∷ before same x y zs)) → Has k (z ∷ zs) ⊎ (k ≡ y)) [
    | true ↦ λ i. elim i [ inl e ↦ inr e | inr j ↦ inl j ]
    | false ↦ λ i. elim i [ inl e ↦ inl (inl e) | inr j ↦ elim (before_has x y k zs j) [ inl a ↦ inl (inr a) | inr e ↦ inr e ] ]
  ] i

  pub once_behind : (x y : X) (zs : List X) → (Has y zs → ⊥) → IsOnce zs → IsOnce (behind same x y zs)
  once_behind x y [] out o = tt
  once_behind x y (z ∷ zs) out o = elim (same z x) as (λ b. IsOnce (cond b (z ∷ y ∷ zs) (z ∷ behind same x y zs))) [
    | true ↦ ((λ i. elim i [ inl e ↦ out (inl (sym e)) | inr j ↦ o.0 j ]), ((λ i. out (inr i)), o.1))
    | false ↦ ((λ i. elim (behind_has x y z zs i) [ inl a ↦ o.0 a | inr e ↦ out (inl (sym e)) ]), once_behind x y zs (λ i. out (inr i)) o.1)
  ]

  pub once_before : (x y : X) (zs : List X) → (Has y zs → ⊥) → IsOnce zs → IsOnce (before same x y zs)
  once_before x y [] out o = tt
  once_before x y (z ∷ zs) out o = elim (same z x) as (λ b. IsOnce (cond b (y ∷ z ∷ zs) (z ∷ before same x y zs))) [
    | true ↦ (out, o)
    | false ↦ ((λ i. elim (before_has x y z zs i) [ inl a ↦ o.0 a | inr e ↦ out (inl (sym e)) ]), once_before x y zs (λ i. out (inr i)) o.1)
  ]

  -- what passes a test, with y right behind x, where both pass it
  pub filter_behind : (p : X → Bool) (x y : X) (zs : List X) → p x ≡ true → p y ≡ true → filter p (behind same x y zs) ≡ behind same x y (filter p zs)
  filter_behind p x y [] px py = refl
  filter_behind p x y (z ∷ zs) px py = elim (tells z x) [
    | inl t ↦
        let pz = ap p t.1 ∙ px in
        ap (λ b. filter p (cond b (z ∷ y ∷ zs) (z ∷ behind same x y zs))) t.0
        ∙ ap (λ b. cond b (z ∷ cond (p y) (y ∷ filter p zs) (filter p zs)) (cond (p y) (y ∷ filter p zs) (filter p zs))) pz
        ∙ ap (λ b. z ∷ cond b (y ∷ filter p zs) (filter p zs)) py
        ∙ sym (ap (λ b. cond b (z ∷ y ∷ filter p zs) (z ∷ behind same x y (filter p zs))) t.0)
        ∙ sym (ap (λ b. behind same x y (cond b (z ∷ filter p zs) (filter p zs))) pz)
    | inr n ↦
        ap (λ b. filter p (cond b (z ∷ y ∷ zs) (z ∷ behind same x y zs))) n.0
        ∙ ap (λ ys. cond (p z) (z ∷ ys) ys) (filter_behind p x y zs px py)
        ∙ elim (p z) as (λ b. cond b (z ∷ behind same x y (filter p zs)) (behind same x y (filter p zs)) ≡ behind same x y (cond b (z ∷ filter p zs) (filter p zs))) [
          | true ↦ sym (ap (λ b. cond b (z ∷ y ∷ filter p zs) (z ∷ behind same x y (filter p zs))) n.0)
          | false ↦ refl
        ]
  ]

  pub filter_before : (p : X → Bool) (x y : X) (zs : List X) → p x ≡ true → p y ≡ true → filter p (before same x y zs) ≡ before same x y (filter p zs)
  filter_before p x y [] px py = refl
  filter_before p x y (z ∷ zs) px py = elim (tells z x) [
    | inl t ↦
        let pz = ap p t.1 ∙ px in
        ap (λ b. filter p (cond b (y ∷ z ∷ zs) (z ∷ before same x y zs))) t.0
        ∙ ap (λ b. cond b (y ∷ cond (p z) (z ∷ filter p zs) (filter p zs)) (cond (p z) (z ∷ filter p zs) (filter p zs))) py
        ∙ ap (λ b. y ∷ cond b (z ∷ filter p zs) (filter p zs)) pz
        ∙ sym (ap (λ b. cond b (y ∷ z ∷ filter p zs) (z ∷ before same x y (filter p zs))) t.0)
        ∙ sym (ap (λ b. before same x y (cond b (z ∷ filter p zs) (filter p zs))) pz)
    | inr n ↦
        ap (λ b. filter p (cond b (y ∷ z ∷ zs) (z ∷ before same x y zs))) n.0
        ∙ ap (λ ys. cond (p z) (z ∷ ys) ys) (filter_before p x y zs px py)
        ∙ elim (p z) as (λ b. cond b (z ∷ before same x y (filter p zs)) (before same x y (filter p zs)) ≡ before same x y (cond b (z ∷ filter p zs) (filter p zs))) [
          | true ↦ sym (ap (λ b. cond b (y ∷ z ∷ filter p zs) (z ∷ before same x y (filter p zs))) n.0)
          | false ↦ refl
        ]
  ]
