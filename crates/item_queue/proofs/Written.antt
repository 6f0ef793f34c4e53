-- What a vector has once a `&mut` to its elements has ended.
use Rattle.std.proofs.Common.{◌≡◌, ◌++◌, List, length, take, drop, subst}
use Rattle.std.specs.Vec.{with_items, vec_len}
use Rattle.std.specs.Global.{Vec}
use Rattle.std.proofs.Math.Seq.{take-append_seam}

module _ {X : Type 0} where
  pub items_back : (v : Vec X) (xs : List X) → length xs ≡ vec_len v → (with_items v xs).items ≡ xs
  items_back v xs e = subst (λ n. take n (xs ++ drop (length xs) v.items) ≡ xs) e (take-append_seam xs (drop (length xs) v.items))
