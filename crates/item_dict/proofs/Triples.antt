-- What the triples of a dictionary have of its pool and its tree.
use Rattle.std.proofs.Common.{◌≡◌, ℕ, Bool, true, false, cond, ◌||◌, List, [], ◌∷◌, Option, Some, None, is_some, refl, sym, ap, ◌∙◌}
use Rattle.std.specs.Prelude.{ℤ}
use Rattle.std.specs.List.{list_any}
use Rattle.std.specs.declared.cmp.Ordering.TheVariants.{Less, Equal, Greater}
use Rattle.std.specs.Ordering.{nat_cmp, int_cmp, is_eq, eq_by_cmp}
use Rattle.std.specs.Cmp.{int_cmp_total}
use Rattle.std.specs.FinMap as map
use Rattle.item_dict.specs.declared.dict.Entry.{Entry}
use Rattle.item_dict.specs.Contents.{contents, HasNo}
use Rattle.item_dict.specs.Index.{pair, with_inf, found_in, with_triple, triples_by, triples_of, IsIndexed}

is_same : (q k : ℤ) → eq_by_cmp int_cmp q k ≡ true → q ≡ k
is_same q k e = elim (int_cmp q k) as (λ r. int_cmp q k ≡ r → is_eq r ≡ true → q ≡ k) [
  | Less ↦ λ at is. let twice : false ≡ true = is in cc
  | Equal ↦ λ at is. map.int_cmp-IsAntisymmetric q k at
  | Greater ↦ λ at is. let twice : false ≡ true = is in cc
] refl e

module _ {X : Type 0} where
  idle : (any : Bool) (w : Option (ℕ × X)) → None ≡ w → cond any w None ≡ w
  idle true w e = refl
  idle false w e = e

  with_key : (v : Option (ℕ × X)) (b any : Bool) (w : Option (ℕ × X)) (m : map.FinMap int_cmp (ℕ × X)) (q k : ℤ)
      → eq_by_cmp int_cmp q k ≡ b → (b ≡ true → v ≡ w) → map.get m q ≡ cond any w None → map.get (with_triple m k v) q ≡ cond (b || any) w None
  with_key None true any w m q k e here there = there ∙ idle any w (here refl)
  with_key None false any w m q k e here there = there
  with_key (Some t) true any w m q k e here there = map.get-insert int_cmp_total m k t q ∙ ap (λ c. cond c (Some t) (map.get m q)) e ∙ here refl
  with_key (Some t) false any w m q k e here there = map.get-insert int_cmp_total m k t q ∙ ap (λ c. cond c (Some t) (map.get m q)) e ∙ there

  tied : (f : ℤ → Option (ℕ × X)) (q k : ℤ) → eq_by_cmp int_cmp q k ≡ true → f k ≡ f q
  tied f q k e = ap f (sym (is_same q k e))

  get_by : (f : ℤ → Option (ℕ × X)) (ks : List ℤ) (q : ℤ) → map.get (triples_by f ks) q ≡ cond (list_any (eq_by_cmp int_cmp q) ks) (f q) None
  get_by f [] q = map.get-empty int_cmp q
  get_by f (k ∷ ks) q = with_key (f k) (eq_by_cmp int_cmp q k) (list_any (eq_by_cmp int_cmp q) ks) (f q) (triples_by f ks) q k refl (tied f q k) (get_by f ks q)

  -- a key's triple is that of its serial's entry
  module _ (live : map.FinMap nat_cmp (Entry X)) (serials : map.FinMap int_cmp ℕ) where
    among : (r : Option ℕ) → cond (is_some r) (found_in live r) None ≡ found_in live r
    among None = refl
    among (Some s) = refl

    pub get_triples : (q : ℤ) → map.get (triples_of live serials) q ≡ found_in live (map.get serials q)
    unfolding triples_of
    get_triples q = get_by (λ k. found_in live (map.get serials k)) (map.keys serials) q
        ∙ ap (λ b. cond b (found_in live (map.get serials q)) None) (sym (map.contains_key-keys serials q))
        ∙ among (map.get serials q)

  pub triples_empty : (live : map.FinMap nat_cmp (Entry X)) (serials : map.FinMap int_cmp ℕ) → serials ≡ map.empty → triples_of live serials ≡ map.empty
  triples_empty live serials blank = map.same_map int_cmp_total map.int_cmp-IsAntisymmetric (triples_of live serials) map.empty (λ q.
      get_triples live serials q ∙ ap (λ m. found_in live (map.get m q)) blank ∙ ap (λ r. found_in live r) (map.get-empty int_cmp q) ∙ sym (map.get-empty int_cmp q))

  pub same_pair : (j k : ℤ) (x y : X) → Some (pair j x) ≡ Some (pair k y) → (j ≡ k) × (x ≡ y)
  same_pair j k x y e = let f : pair j x ≡ pair k y = cc in (ap (λ (n : Entry X). n.key) f, ap (λ (n : Entry X). n.inf) f)

  -- what the pool and the tree have of an item, the triples have, and the other way round
  module _ (live : map.FinMap nat_cmp (Entry X)) (serials : map.FinMap int_cmp ℕ) (is : IsIndexed live serials) where
    pub holds : (s : ℕ) (k : ℤ) (x : X) → map.get live s ≡ Some (pair k x) → map.get (triples_of live serials) k ≡ Some (s, x)
    holds s k x e = get_triples live serials k ∙ ap (λ r. found_in live r) (is.listed s k x e) ∙ ap (λ n. with_inf s n) e

    pub named : (s : ℕ) (k : ℤ) → map.get serials k ≡ Some s → (x : X) × (map.get (triples_of live serials) k ≡ Some (s, x))
    named s k e = let f = is.found k s e in (f.0, holds s k f.0 f.1)

    pub absent : (k : ℤ) → map.get serials k ≡ None → map.get (triples_of live serials) k ≡ None
    absent k e = get_triples live serials k ∙ ap (λ r. found_in live r) e

    in_tree : (k : ℤ) (r : Option ℕ) → map.get serials k ≡ r → (t : ℕ × X) → found_in live r ≡ Some t → map.get serials k ≡ Some t.0
    in_tree k None e t h = let twice : None ≡ Some t = h in cc
    in_tree k (Some n) e t h = let f = is.found k n e in let both : Some (n, f.0) ≡ Some t = sym (ap (λ r. with_inf n r) f.1) ∙ h in let at : (n, f.0) ≡ t = cc in e ∙ ap (λ (u : ℕ × X). Some u.0) at

    pub named_by : (s : ℕ) (k : ℤ) (x : X) → map.get (triples_of live serials) k ≡ Some (s, x) → map.get serials k ≡ Some s
    named_by s k x h = in_tree k (map.get serials k) refl (s, x) (sym (get_triples live serials k) ∙ h)

    pub entry_of : (s : ℕ) (k : ℤ) (x : X) → map.get (triples_of live serials) k ≡ Some (s, x) → map.get live s ≡ Some (pair k x)
    entry_of s k x h =
        let f = is.found k s (named_by s k x h) in
        let both : Some (s, f.0) ≡ Some (s, x) = sym (holds s k f.0 f.1) ∙ h in let at : (s, f.0) ≡ (s, x) = cc in
        f.1 ∙ ap (λ (u : ℕ × X). Some (pair k u.1)) at

    pub absent_from_tree : (k : ℤ) → map.get (triples_of live serials) k ≡ None → map.get serials k ≡ None
    absent_from_tree k h = elim (map.get serials k) as (λ r. map.get serials k ≡ r → r ≡ None) [
      | None ↦ λ e. refl
      | Some s ↦ λ e. let f = named s k e in let twice : None ≡ Some (s, f.0) = sym h ∙ f.1 in cc
    ] refl

    pub missing : (made s : ℕ) → map.get live s ≡ None → HasNo (contents (triples_of live serials) made) s
    missing made s none k x h = let twice : None ≡ Some (pair k x) = sym none ∙ entry_of s k x h in cc
