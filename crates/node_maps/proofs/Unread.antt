-- The first label that writes no i64.
use Rattle.std.proofs.Common.{◌≡◌, ℕ, suc, ◌<◌, inl, inr, List, [], ◌∷◌, ◌++◌, length, get_or, take, drop, map, refl, sym, subst}
use Rattle.leda_base.specs.declared.name.ItemName.{ItemName}
use Rattle.graph_state.specs.Names.{Has}
use Rattle.graph_state.proofs.Has.{has_left}
use Rattle.node_maps.specs.declared.array.LabelRefusal.TheVariants.{Label}
use Rattle.node_maps.specs.Contents.{Values, IsTable}
use Rattle.node_maps.specs.Labels.{Reads, IsI64, IsFirstUnread, RefusesLabels}
use Rattle.node_maps.proofs.Tables.{numbers_split}

first_unread : (label : ℕ → List ℕ) (ys zs : List ℕ) (n : ℕ) → ((m : ℕ) → Has m ys → IsI64 (label m)) → (IsI64 (label n) → ⊥) → IsFirstUnread label (ys ++ n ∷ zs) n
first_unread label [] zs n all bad = inl (refl, bad)
first_unread label (y ∷ ys) zs n all bad = inr (all y (inl refl), first_unread label ys zs n (λ m h. all m (inr h)) bad)

module _ {X : Type 0} (f : X → ℕ) (xs : List X) (i : ℕ) (x : X) (lt : i < length xs) (is : x ≡ get_or xs i x) (label : ℕ → List ℕ) (name : ℕ → ItemName) where
  pub unread_at : (values : Values) (called : ItemName) → IsTable values (map f xs) (λ m y. Has m (map f (take i xs)) → Reads (label m) y)
      → called ≡ name (f x) → (IsI64 (label (f x)) → ⊥) → RefusesLabels (map f xs) label name (Label called)
  unread_at values called t named bad =
      let front = map f (take i xs) in
      let behind = map f (drop (suc i) xs) in
      let split = numbers_split f xs i x lt is in
      let all : (m : ℕ) → Has m front → IsI64 (label m) = (λ m h. let e = t.each m (subst (Has m) (sym split) (has_left m front (f x ∷ behind) h)) in (e.0, e.1.1 h)) in
      (f x, (named, subst (λ l. IsFirstUnread label l (f x)) (sym split) (first_unread label front behind (f x) all bad)))
