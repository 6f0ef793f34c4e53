-- What the fields of a dictionary say of its contents, and what each edit of them makes of it.
use Rattle.std.proofs.Common.{◌≡◌, ℕ, ◌+◌, ◌<◌, Option, Some, None, MatchOption, Result, Ok, Err, MatchResult, refl, sym, ap, ◌∙◌, subst}
use Rattle.std.specs.Result.{IsErrAnd}
use Rattle.std.specs.Prelude.{ℤ}
use Rattle.std.specs.Ordering.{int_cmp}
use Rattle.std.specs.BTreeMap as tree
use Rattle.std.specs.FinMap as map
use Rattle.item_pool.specs.declared.pool.TheConstants.{MOST_SERIALS}
use Rattle.item_pool.specs.declared.pool.Gone.{Gone}
use Rattle.item_pool.specs.declared.pool.Item.{Item}
use Rattle.item_pool.specs.Contents as pool
use Rattle.item_dict.specs.declared.dict.Entry.{Entry}
use Rattle.item_dict.specs.declared.dict.Dict.TheInside.{Inside}
use Rattle.item_dict.specs.Contents.{Contents, contents, Inserts, Holds, HasKey, Lacks, AreApart, IsWithin, Changes, Adds, Removes}
use Rattle.item_dict.specs.Index.{seen, IsDict, IsIndexed, IsNamed, pair, serials_of, triples_of}
use Rattle.item_dict.proofs.Trees.{serials_insert, serials_remove}
use Rattle.item_dict.proofs.Triples.{holds, named, named_by, absent_from_tree, entry_of, missing, same_pair}
use Rattle.item_dict.proofs.Indexed.{triples_add, triples_write, triples_remove, indexed_add, indexed_write, indexed_remove}
use Rattle.item_dict.proofs.Ordered.{IsAlike}

module _ {X : Type 0} (p : Inside X) (a : IsDict p) where
  pub held : (s : ℕ) (e : Entry X) → map.get p.pool.live s ≡ Some e → Holds (seen p) s e.key e.inf
  held s e h = holds p.pool.live (serials_of p.tree) a s e.key e.inf h

  pub lacks : (s : ℕ) (why : Gone) → pool.Lacks p.pool s why → Lacks (seen p) s why
  lacks s why h = (missing p.pool.live (serials_of p.tree) a p.pool.made s h.0, h.1)

  pub has_key : (s : ℕ) (k : ℤ) → IsNamed p.tree s k → HasKey (seen p) s k
  has_key s k h = named p.pool.live (serials_of p.tree) a s k h

  pub alike : IsAlike (IsNamed p.tree) (HasKey (seen p))
  alike = record { to = has_key; from = λ s k h. named_by p.pool.live (serials_of p.tree) a s k h.0 h.1 }

  pub apart : AreApart (seen p)
  apart s k x h j y i = (same_pair j k y x (sym (entry_of p.pool.live (serials_of p.tree) a s j y i) ∙ entry_of p.pool.live (serials_of p.tree) a s k x h)).0

  pub within : pool.IsWithin p.pool → IsWithin (seen p)
  within w = (λ s k x h. w.0 s (pair k x) (entry_of p.pool.live (serials_of p.tree) a s k x h), w.1)

  pub removes_at : (q : Inside X) (s : ℕ) (e : Entry X) → pool.Removes p.pool q.pool s e → tree.Updates int_cmp p.tree q.tree e.key None → Removes (seen p) (seen q) s e.key e.inf × IsDict q
  removes_at q s e r u =
      let live = p.pool.live in let serials = serials_of p.tree in
      let gone : serials_of q.tree ≡ map.remove serials e.key = serials_remove p.tree q.tree e.key u in
      let after : seen q ≡ contents (map.remove (triples_of live serials) e.key) p.pool.made =
      λ i. contents (((λ j. triples_of (r.live j) (gone j)) ∙ triples_remove live serials a s e.key e.inf r.held.0) i) (r.made i) in
      let is : Removes (seen p) (seen q) s e.key e.inf = record { held = held s e r.held.0; alone = apart s e.key e.inf (held s e r.held.0); after = after } in
      (is, subst (λ m. IsIndexed m (serials_of q.tree)) (sym r.live) (subst (λ m. IsIndexed (map.remove live s) m) (sym gone) (indexed_remove live serials a s e.key e.inf r.held.0)))

  key_of : (s : ℕ) (k : ℤ) (e : Entry X) → map.get p.pool.live s ≡ Some e → IsNamed p.tree s k → e.key ≡ k
  key_of s k e at named = let f = a.found k s named in (same_pair e.key k e.inf f.0 (sym at ∙ f.1)).0

  pub removes_key : (q : Inside X) (s : ℕ) (k : ℤ) (e : Entry X) → IsNamed p.tree s k → pool.Removes p.pool q.pool s e → tree.Updates int_cmp p.tree q.tree k None → Removes (seen p) (seen q) s k e.inf × IsDict q
  removes_key q s k e named r u =
      let key = key_of s k e r.held.0 named in
      let both = removes_at q s e r (subst (λ z. tree.Updates int_cmp p.tree q.tree z None) (sym key) u) in
      (subst (λ z. Removes (seen p) (seen q) s z e.inf) key both.0, both.1)

  pub adds : (q : Inside X) (r : pool.Contents (Entry X)) (it : Item) (t : ℕ) (k : ℤ) (x : X) → pool.IsAsBefore p.pool r → pool.Inserts r q.pool it (pair k x) → map.get (triples_of p.pool.live (serials_of p.tree)) k ≡ None
      → t ≡ p.pool.made + 1 → tree.Updates int_cmp p.tree q.tree k (Some t) → Adds (seen p) (seen q) k x it.serial × IsDict q
  adds q r it t k x kept ins none next u =
      let s = it.serial in let live = p.pool.live in let serials = serials_of p.tree in
      let serial : s ≡ p.pool.made + 1 = ins.serial ∙ ap (λ n. n + 1) kept.1 in
      let fresh : map.get live s ≡ None = ap (λ m. map.get m s) (sym kept.0) ∙ ap (λ n. map.get r.live n) ins.serial ∙ ins.fresh in
      let grown : q.pool.live ≡ map.insert live s (pair k x) = ins.live ∙ ap (λ n. map.insert r.live n (pair k x)) (sym ins.serial) ∙ ap (λ m. map.insert m s (pair k x)) kept.0 in
      let made : q.pool.made ≡ s = ins.made ∙ sym ins.serial in
      let names : serials_of q.tree ≡ map.insert serials k s = serials_insert p.tree q.tree k t u ∙ ap (λ n. map.insert serials k n) (next ∙ sym serial) in
      let unnamed = absent_from_tree live serials a k none in
      let after : seen q ≡ contents (map.insert (triples_of live serials) k (s, x)) s =
      λ i. contents (((λ j. triples_of (grown j) (names j)) ∙ triples_add live serials a s k x fresh unnamed) i) (made i) in
      let is : Adds (seen p) (seen q) k x s =
      record { absent = none; serial = serial; fresh = missing live serials a p.pool.made s fresh; within = subst (λ n. n < MOST_SERIALS) kept.1 ins.within; after = after } in
      (is, subst (λ m. IsIndexed m (serials_of q.tree)) (sym grown) (subst (λ m. IsIndexed (map.insert live s (pair k x)) m) (sym names) (indexed_add live serials a s k x fresh unnamed)))

  pub writes : (q : Inside X) (s : ℕ) (e : Entry X) (x : X) → map.get p.pool.live s ≡ Some e → q.pool ≡ pool.contents (map.insert p.pool.live s (pair e.key x)) p.pool.made p.pool.spare → q.tree ≡ p.tree → Changes (seen p) (seen q) s e.key x e.inf × IsDict q
  writes q s e x h is same =
      let live = p.pool.live in let serials = serials_of p.tree in
      let after : seen q ≡ contents (map.insert (triples_of live serials) e.key (s, x)) p.pool.made =
      λ i. contents (((λ j. triples_of (is j).live (serials_of (same j))) ∙ triples_write live serials a s e.key e.inf h x) i) (is i).made in
      let done : Changes (seen p) (seen q) s e.key x e.inf = record { held = held s e h; alone = apart s e.key e.inf (held s e h); after = after } in
      (done, subst (λ (n : pool.Contents (Entry X)). IsIndexed n.live (serials_of q.tree)) (sym is) (subst (λ m. IsIndexed (map.insert live s (pair e.key x)) (serials_of m)) (sym same) (indexed_write live serials a s e.key e.inf h x)))

module _ {X : Type 0} (d e : Contents X) where
  -- the item that has the key keeps it
  pub keeps : (k : ℤ) (x : X) (s : ℕ) → HasKey d s k → (j : ℤ) (old : X) → Changes d e s j x old → Inserts d e k x s
  keeps k x s has j old is =
      let here : Changes d e s k x old = subst (λ z. Changes d e s z x old) (sym (is.alone k has.0 has.1)) is in
      subst (λ (o : Option (ℕ × X)). MatchOption o (Adds d e k x s) (λ t. (s ≡ t.0) × Changes d e s k x t.1)) (sym here.held) (refl, here)

-- the error that comes back is the one that was met
pub told : {A : Type 0} (Good : A → Type 0) (Bad : Gone → Type 0) (r : Result A Gone) (why : Gone) → IsErrAnd r (λ w. w ≡ why) → Bad why → MatchResult r Good Bad
told Good Bad (Ok x) why h b = absurd h
told Good Bad (Err w) why h b = subst Bad (sym h) b
