-- Members and the pairs that they stand for.
use Rattle.std.proofs.Common.{◌≡◌, ℕ, Bool, true, false, cond, List, [], ◌∷◌, ◌++◌, Some, None, refl, sym, ap, subst, ◌∙◌, ◌⊎◌, inl, inr}
use Rattle.std.proofs.lemmas.Bool.Decides.{eqb_tells}
use Rattle.std.specs.Prelude.{◌==◌}
use Rattle.std.specs.Ordering.{nat_cmp}
use Rattle.std.specs.FinMap as map
use Rattle.std.specs.FinMap.{FinMap}
use Rattle.item_ring.specs.RingLists.{IsIn, without}
use Rattle.item_list.specs.declared.node.Node.{Node}
use Rattle.item_list.specs.declared.side.Side.{Side}
use Rattle.item_list.specs.declared.side.Side.TheVariants.{Front, Rear}
use Rattle.item_list.specs.Items.{serials, value_at, pairs_without, pairs_with}
use Rattle.item_list.specs.Sides.{with_at, with_beside, end_of, near, near_round, pairs_beside}
use Rattle.item_list.specs.Kept.{node, IsListed, entry, tagged, pairs_in}
use Rattle.item_list.proofs.Beside.{both_of, beside_more, pairs_more}

pub some_same : {A : Type 0} (a b : A) → Some a ≡ Some b → a ≡ b
some_same a b e = cc

pub some_none : {A : Type 0} (a : A) → Some a ≡ None → ⊥
some_none a e = cc

abbrev pub Tags : Type 0
Tags = FinMap nat_cmp ℕ

abbrev pub Live : Type 0 → Type 0
Live X = FinMap nat_cmp (Node X)

abbrev Agree : ℕ → ℕ → ℕ → ℕ → Type 0
Agree y m j s = (((y == m) ≡ true) × ((j == s) ≡ true) × (y ≡ m) × (j ≡ s)) ⊎ (((y == m) ≡ false) × ((j == s) ≡ false) × (y ≡ m → ⊥) × (j ≡ s → ⊥))

tag_same : (t : Tags) (y m j s : ℕ) → map.get t y ≡ Some j → map.get t m ≡ Some s → y ≡ m → j ≡ s
tag_same t y m j s a b e = some_same j s (sym a ∙ ap (map.get t) e ∙ b)

-- the members have the serials for their tags
abbrev pub Tagged : Tags → List ℕ → List ℕ → Type 0
Tagged t [] [] = Unit {0}
Tagged t [] (k ∷ ks) = ⊥
Tagged t (m ∷ ms) [] = ⊥
Tagged t (m ∷ ms) (k ∷ ks) = (map.get t m ≡ Some k) × Tagged t ms ks

pub end_tag : (side : Side) (t : Tags) (ms ks : List ℕ) → Tagged t ms ks → (m k : ℕ) → Some m ≡ end_of side ms → map.get t m ≡ Some k → Some k ≡ end_of side ks
end_tag Front t [] [] h m k e g = absurd (some_none m e)
end_tag Rear t [] [] h m k e g = absurd (some_none m e)
end_tag side t [] (j ∷ ks) h m k e g = absurd h
end_tag side t (y ∷ ms) [] h m k e g = absurd h
end_tag Front t (y ∷ ms) (j ∷ ks) h m k e g = sym g ∙ ap (map.get t) (some_same m y e) ∙ h.0
end_tag Rear t (y ∷ []) (j ∷ []) h m k e g = sym g ∙ ap (map.get t) (some_same m y e) ∙ h.0
end_tag Rear t (y ∷ []) (j ∷ i ∷ ks) h m k e g = absurd h.1
end_tag Rear t (y ∷ z ∷ ms) (j ∷ []) h m k e g = absurd h.1
end_tag Rear t (y ∷ z ∷ ms) (j ∷ i ∷ ks) h m k e g = end_tag Rear t (z ∷ ms) (i ∷ ks) h.1 m k e g

-- a list that has an entry has one at each end
pub end_some : (side : Side) (y : ℕ) (ms : List ℕ) → None ≡ end_of side (y ∷ ms) → ⊥
end_some Front y ms e = some_none y (sym e)
end_some Rear y [] e = some_none y (sym e)
end_some Rear y (z ∷ ms) e = end_some Rear z ms e

pub end_none : (side : Side) (t : Tags) (ms ks : List ℕ) → Tagged t ms ks → None ≡ end_of side ms → None ≡ end_of side ks
end_none Front t [] [] h e = refl
end_none Rear t [] [] h e = refl
end_none side t [] (j ∷ ks) h e = absurd h
end_none side t (y ∷ ms) [] h e = absurd h
end_none side t (y ∷ ms) (j ∷ ks) h e = absurd (end_some side y ms e)

pub end_in : (side : Side) (ms : List ℕ) (m : ℕ) → Some m ≡ end_of side ms → IsIn m ms
end_in Front [] m e = absurd (some_none m e)
end_in Front (y ∷ ms) m e = inl (some_same m y e)
end_in Rear [] m e = absurd (some_none m e)
end_in Rear (y ∷ []) m e = inl (some_same m y e)
end_in Rear (y ∷ z ∷ ms) m e = inr (end_in Rear (z ∷ ms) m e)

pub tagged_join : (t : Tags) (ms ks ns js : List ℕ) → Tagged t ms ks → Tagged t ns js → Tagged t (ms ++ ns) (ks ++ js)
tagged_join t [] [] ns js a b = b
tagged_join t [] (k ∷ ks) ns js a b = absurd a
tagged_join t (m ∷ ms) [] ns js a b = absurd a
tagged_join t (m ∷ ms) (k ∷ ks) ns js a b = (a.0, tagged_join t ms ks ns js a.1 b)

-- the members before and behind the one with the tag k
pub record Cut (t : Tags) (ms : List ℕ) (k : ℕ) (before behind : List ℕ) : Type 0 where
  pub front : List ℕ
  pub mid : ℕ
  pub rear : List ℕ
  pub is : ms ≡ front ++ mid ∷ rear
  pub tag : map.get t mid ≡ Some k
  pub fronts : Tagged t front before
  pub rears : Tagged t rear behind

first_same : (j k : ℕ) (js ks : List ℕ) → j ∷ js ≡ k ∷ ks → j ≡ k
first_same j k js ks e = cc

rest_same : (j k : ℕ) (js ks : List ℕ) → j ∷ js ≡ k ∷ ks → js ≡ ks
rest_same j k js ks e = cc

nil_cons : (k : ℕ) (ks : List ℕ) → [] ≡ k ∷ ks → ⊥
nil_cons k ks e = cc

pub cut : (t : Tags) (k : ℕ) (before behind ms ks : List ℕ) → Tagged t ms ks → ks ≡ before ++ k ∷ behind → Cut t ms k before behind
cut t k [] behind [] [] h e = absurd (nil_cons k behind e)
cut t k [] behind [] (j ∷ ks) h e = absurd h
cut t k [] behind (m ∷ ms) [] h e = absurd h
cut t k [] behind (m ∷ ms) (j ∷ ks) h e = record { front = []; mid = m; rear = ms; is = refl; tag = h.0 ∙ ap Some (first_same j k ks behind e); fronts = tt; rears = subst (Tagged t ms) (rest_same j k ks behind e) h.1 }
cut t k (i ∷ before) behind [] [] h e = absurd (nil_cons i (before ++ k ∷ behind) e)
cut t k (i ∷ before) behind [] (j ∷ ks) h e = absurd h
cut t k (i ∷ before) behind (m ∷ ms) [] h e = absurd h
cut t k (i ∷ before) behind (m ∷ ms) (j ∷ ks) h e =
    let c = cut t k before behind ms ks h.1 (rest_same j i ks (before ++ k ∷ behind) e) in
    record { front = m ∷ c.front; mid = c.mid; rear = c.rear; is = ap (λ l. m ∷ l) c.is; tag = c.tag; fronts = (h.0 ∙ ap Some (first_same j i ks (before ++ k ∷ behind) e), c.fronts); rears = c.rears }

-- what stands beside the one with the tag k
module _ (side : Side) (t : Tags) (front rear before behind : List ℕ) (fronts : Tagged t front before) (rears : Tagged t rear behind) where
  pub near_tag : (m k : ℕ) → Some m ≡ near side front rear → map.get t m ≡ Some k → Some k ≡ near side before behind
  near_tag = elim side as (λ side. (m k : ℕ) → Some m ≡ near side front rear → map.get t m ≡ Some k → Some k ≡ near side before behind)
      [ Front ↦ end_tag Rear t front before fronts | Rear ↦ end_tag Front t rear behind rears ]

  pub near_none : None ≡ near side front rear → None ≡ near side before behind
  near_none = elim side as (λ side. None ≡ near side front rear → None ≡ near side before behind)
      [ Front ↦ end_none Rear t front before fronts | Rear ↦ end_none Front t rear behind rears ]

  pub round_tag : (mid k : ℕ) → map.get t mid ≡ Some k → (m j : ℕ) → Some m ≡ near_round side mid front rear → map.get t m ≡ Some j → Some j ≡ near_round side k before behind
  round_tag mid k tag = elim side as (λ side. (m j : ℕ) → Some m ≡ near_round side mid front rear → map.get t m ≡ Some j → Some j ≡ near_round side k before behind) [
    | Front ↦ end_tag Rear t (mid ∷ rear ++ front) (k ∷ behind ++ before) (tag, tagged_join t rear behind front before rears fronts)
    | Rear ↦ end_tag Front t (rear ++ front ++ mid ∷ []) (behind ++ before ++ k ∷ []) (tagged_join t (rear ++ front) (behind ++ before) (mid ∷ []) (k ∷ []) (tagged_join t rear behind front before rears fronts) (tag, tt))
  ]

module _ {X : Type 0} where
  both : (P : List ℕ → List (ℕ × X) → Type 0) (b c v : Bool) → b ≡ v → c ≡ v → (xs ys : List ℕ) (ps qs : List (ℕ × X)) → P (cond v xs ys) (cond v ps qs) → P (cond b xs ys) (cond c ps qs)
  both P b c v eb ec xs ys ps qs h = subst (λ d. P (cond d xs ys) (cond c ps qs)) (sym eb) (subst (λ d. P (cond v xs ys) (cond d ps qs)) (sym ec) h)

  pub pairs_are : (t : Tags) (l : Live X) (ms : List ℕ) (ps : List (ℕ × X)) → IsListed t l ms ps → pairs_in t l ms ≡ ps
  pairs_are t l [] [] h = refl
  pairs_are t l [] (p ∷ ps) h = absurd h
  pairs_are t l (m ∷ ms) [] h = absurd h
  pairs_are t l (m ∷ ms) (p ∷ ps) h =
      ap (λ o. tagged l o (pairs_in t l ms)) h.0 ∙ ap (λ o. entry p.0 o (pairs_in t l ms)) h.1 ∙ ap (λ qs. p ∷ qs) (pairs_are t l ms ps h.2)

  pub listed_same : (t u : Tags) (l k : Live X) (tags : (m s : ℕ) → map.get t m ≡ Some s → map.get u m ≡ Some s) (live : (s : ℕ) (n : Node X) → map.get l s ≡ Some n → map.get k s ≡ Some n)
      (ms : List ℕ) (ps : List (ℕ × X)) → IsListed t l ms ps → IsListed u k ms ps
  listed_same t u l k tags live [] [] h = tt
  listed_same t u l k tags live [] (p ∷ ps) h = absurd h
  listed_same t u l k tags live (m ∷ ms) [] h = absurd h
  listed_same t u l k tags live (m ∷ ms) (p ∷ ps) h = (tags m p.0 h.0, live p.0 (node p.1 m) h.1, listed_same t u l k tags live ms ps h.2)

  -- the member has the tag s, whose node has the value x and that member
  pub record IsPair (t : Tags) (l : Live X) (m s : ℕ) (x : X) : Type 0 where
    pub tag : map.get t m ≡ Some s
    pub node : map.get l s ≡ Some (node x m)

  member_same : (l : Live X) (y m j s : ℕ) (w x : X) → map.get l j ≡ Some (node w y) → map.get l s ≡ Some (node x m) → j ≡ s → y ≡ m
  member_same l y m j s w x a b e = ap (λ (n : Node X). n.member) (some_same (node w y) (node x m) (sym a ∙ ap (map.get l) e ∙ b))

  agree : (t : Tags) (l : Live X) (m s : ℕ) (x : X) → IsPair t l m s x → (y j : ℕ) (w : X) → map.get t y ≡ Some j → map.get l j ≡ Some (node w y) → Agree y m j s
  agree t l m s x p y j w a b = elim (eqb_tells y m) [
    | inl e ↦ elim (eqb_tells j s) [ inl f ↦ inl (e.0, f.0, e.1, f.1) | inr f ↦ absurd (f.1 (tag_same t y m j s a p.tag e.1)) ]
    | inr e ↦ elim (eqb_tells j s) [ inl f ↦ absurd (e.1 (member_same l y m j s w x b p.node f.1)) | inr f ↦ inr (e.0, f.0, e.1, f.1) ]
  ]

  pub listed_without : (t u : Tags) (l k : Live X) (m s : ℕ) (x : X) → IsPair t l m s x
      → (tags : (j : ℕ) → (j ≡ m → ⊥) → map.get u j ≡ map.get t j) (live : (j : ℕ) → (j ≡ s → ⊥) → map.get k j ≡ map.get l j)
      → (ms : List ℕ) (ps : List (ℕ × X)) → IsListed t l ms ps → IsListed u k (without m ms) (pairs_without s ps)
  listed_without t u l k m s x is tags live [] [] h = tt
  listed_without t u l k m s x is tags live [] (p ∷ ps) h = absurd h
  listed_without t u l k m s x is tags live (y ∷ ms) [] h = absurd h
  listed_without t u l k m s x is tags live (y ∷ ms) (p ∷ ps) h =
      let rest = listed_without t u l k m s x is tags live ms ps h.2 in
      elim (agree t l m s x is y p.0 p.1 h.0 h.1) [
        | inl e ↦ both (IsListed u k) (y == m) (p.0 == s) true e.0 e.1 (without m ms) (y ∷ without m ms) (pairs_without s ps) (p ∷ pairs_without s ps) rest
        | inr e ↦ both (IsListed u k) (y == m) (p.0 == s) false e.0 e.1 (without m ms) (y ∷ without m ms) (pairs_without s ps) (p ∷ pairs_without s ps) (tags y e.2 ∙ h.0, live p.0 e.3 ∙ h.1, rest)
      ]

  module _ (t : Tags) (l : Live X) (m s : ℕ) (x : X) (is : IsPair t l m s x) where
    pub listed_with : (k : Live X) (v : X) → map.get k s ≡ Some (node v m) → (live : (j : ℕ) → (j ≡ s → ⊥) → map.get k j ≡ map.get l j)
        → (ms : List ℕ) (ps : List (ℕ × X)) → IsListed t l ms ps → IsListed t k ms (pairs_with s v ps)
    listed_with k v here live [] [] h = tt
    listed_with k v here live [] (p ∷ ps) h = absurd h
    listed_with k v here live (y ∷ ms) [] h = absurd h
    listed_with k v here live (y ∷ ms) (p ∷ ps) h =
        let rest = listed_with k v here live ms ps h.2 in
        elim (agree t l m s x is y p.0 p.1 h.0 h.1) [
          | inl e ↦ subst (λ b. IsListed t k (y ∷ ms) (cond b ((s, v) ∷ pairs_with s v ps) (p ∷ pairs_with s v ps))) (sym e.1)
              (h.0 ∙ ap Some e.3, here ∙ ap (λ j. Some (node v j)) (sym e.2), rest)
          | inr e ↦ subst (λ b. IsListed t k (y ∷ ms) (cond b ((s, v) ∷ pairs_with s v ps) (p ∷ pairs_with s v ps))) (sym e.1)
              (h.0, live p.0 e.3 ∙ h.1, rest)
        ]

    listed_both : (side : Side) (n r : ℕ) (v : X) → IsPair t l n r v → (y : ℕ) (p : ℕ × X) (ms : List ℕ) (ps : List (ℕ × X)) → IsListed t l (y ∷ ms) (p ∷ ps) → IsListed t l (both_of side y n ms) (both_of side p (r, v) ps)
    listed_both Front n r v new y p ms ps h = (new.tag, new.node, h)
    listed_both Rear n r v new y p ms ps h = (h.0, h.1, (new.tag, new.node, h.2))

    pub listed_beside : (side : Side) (n r : ℕ) (v : X) → IsPair t l n r v → (ms : List ℕ) (ps : List (ℕ × X)) → IsListed t l ms ps → IsListed t l (with_beside side m n ms) (pairs_beside side s (r, v) ps)
    listed_beside Front n r v new [] [] h = tt
    listed_beside Rear n r v new [] [] h = tt
    listed_beside side n r v new [] (p ∷ ps) h = absurd h
    listed_beside side n r v new (y ∷ ms) [] h = absurd h
    listed_beside side n r v new (y ∷ ms) (p ∷ ps) h =
        let on = listed_beside side n r v new ms ps h.2 in
        let all : IsListed t l (cond (y == m) (both_of side y n ms) (y ∷ with_beside side m n ms)) (cond (p.0 == s) (both_of side p (r, v) ps) (p ∷ pairs_beside side s (r, v) ps)) = elim (agree t l m s x is y p.0 p.1 h.0 h.1) [
          | inl e ↦ both (IsListed t l) (y == m) (p.0 == s) true e.0 e.1 (both_of side y n ms) (y ∷ with_beside side m n ms) (both_of side p (r, v) ps) (p ∷ pairs_beside side s (r, v) ps) (listed_both side n r v new y p ms ps h)
          | inr e ↦ both (IsListed t l) (y == m) (p.0 == s) false e.0 e.1 (both_of side y n ms) (y ∷ with_beside side m n ms) (both_of side p (r, v) ps) (p ∷ pairs_beside side s (r, v) ps) (h.0, h.1, on)
        ] in
        subst (λ xs. IsListed t l xs (pairs_beside side s (r, v) (p ∷ ps))) (sym (beside_more side m n y ms)) (subst (IsListed t l (cond (y == m) (both_of side y n ms) (y ∷ with_beside side m n ms))) (sym (pairs_more side s (r, v) p ps)) all)

    pub listed_at : (side : Side) (ms : List ℕ) (ps : List (ℕ × X)) → IsListed t l ms ps → IsListed t l (with_at side m ms) (with_at side (s, x) ps)
    listed_at Front ms ps h = (is.tag, is.node, h)
    listed_at Rear [] [] h = (is.tag, is.node, tt)
    listed_at Rear [] (p ∷ ps) h = absurd h
    listed_at Rear (y ∷ ms) [] h = absurd h
    listed_at Rear (y ∷ ms) (p ∷ ps) h = (h.0, h.1, listed_at Rear ms ps h.2)

    pub value_there : (ms : List ℕ) (ps : List (ℕ × X)) → IsListed t l ms ps → IsIn m ms → value_at s ps ≡ Some x
    value_there [] ps h i = absurd i
    value_there (y ∷ ms) [] h i = absurd h
    value_there (y ∷ ms) (p ∷ ps) h i = elim (agree t l m s x is y p.0 p.1 h.0 h.1) [
      | inl e ↦ ap (λ b. cond b (Some p.1) (value_at s ps)) e.1
          ∙ ap (λ (n : Node X). Some n.value) (some_same (node p.1 y) (node x m) (sym h.1 ∙ ap (map.get l) e.3 ∙ is.node))
      | inr e ↦ ap (λ b. cond b (Some p.1) (value_at s ps)) e.1 ∙ elim i [ inl q ↦ absurd (e.2 (sym q)) | inr j ↦ value_there ms ps h.2 j ]
    ]

  pub value_gone : (t : Tags) (l : Live X) (s : ℕ) → map.get l s ≡ None → (ms : List ℕ) (ps : List (ℕ × X)) → IsListed t l ms ps → value_at s ps ≡ None
  value_gone t l s none [] [] h = refl
  value_gone t l s none [] (p ∷ ps) h = absurd h
  value_gone t l s none (y ∷ ms) [] h = absurd h
  value_gone t l s none (y ∷ ms) (p ∷ ps) h = elim (eqb_tells p.0 s) [
    | inl e ↦ absurd (some_none (node p.1 y) (sym h.1 ∙ ap (map.get l) e.1 ∙ none))
    | inr e ↦ ap (λ b. cond b (Some p.1) (value_at s ps)) e.0 ∙ value_gone t l s none ms ps h.2
  ]

  pub tags_listed : (t : Tags) (l : Live X) (ms : List ℕ) (ps : List (ℕ × X)) → IsListed t l ms ps → Tagged t ms (serials ps)
  tags_listed t l [] [] h = tt
  tags_listed t l [] (p ∷ ps) h = absurd h
  tags_listed t l (y ∷ ms) [] h = absurd h
  tags_listed t l (y ∷ ms) (p ∷ ps) h = (h.0, tags_listed t l ms ps h.2)

  pub named_listed : (t : Tags) (l : Live X) (m : ℕ) (ms : List ℕ) (ps : List (ℕ × X)) → IsListed t l ms ps → IsIn m ms → (s : ℕ) × ((x : X) × IsPair t l m s x)
  named_listed t l m [] ps h i = absurd i
  named_listed t l m (y ∷ ms) [] h i = absurd h
  named_listed t l m (y ∷ ms) (p ∷ ps) h (inl e) = (p.0, (p.1, record { tag = ap (map.get t) e ∙ h.0; node = h.1 ∙ ap (λ k. Some (node p.1 k)) (sym e) }))
  named_listed t l m (y ∷ ms) (p ∷ ps) h (inr i) = named_listed t l m ms ps h.2 i
