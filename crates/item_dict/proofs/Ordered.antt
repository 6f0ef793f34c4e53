-- Two ways to say which item has which key give one order.
use Rattle.std.proofs.Common.{ℕ}
use Rattle.std.specs.Prelude.{ℤ}
use Rattle.item_dict.specs.Order.{IsLeast, IsGreatest, IsNextAfter, IsNextBefore, IsLastUpTo, IsFirstFrom}

pub record IsAlike (A B : ℕ → ℤ → Type 0) : Type 0 where
  pub to : (s : ℕ) (k : ℤ) → A s k → B s k
  pub from : (s : ℕ) (k : ℤ) → B s k → A s k

module _ (A B : ℕ → ℤ → Type 0) (same : IsAlike A B) where
  pub least_in : (s : ℕ) (k : ℤ) → IsLeast A s k → IsLeast B s k
  least_in s k h = (same.to s k h.0, λ t q b. h.1 t q (same.from t q b))

  pub greatest_in : (s : ℕ) (k : ℤ) → IsGreatest A s k → IsGreatest B s k
  greatest_in s k h = (same.to s k h.0, λ t q b. h.1 t q (same.from t q b))

  pub next_after_in : (k : ℤ) (s : ℕ) (j : ℤ) → IsNextAfter A k s j → IsNextAfter B k s j
  next_after_in k s j h = (same.to s j h.0, h.1, λ t q b. h.2 t q (same.from t q b))

  pub next_before_in : (k : ℤ) (s : ℕ) (j : ℤ) → IsNextBefore A k s j → IsNextBefore B k s j
  next_before_in k s j h = (same.to s j h.0, h.1, λ t q b. h.2 t q (same.from t q b))

  pub last_up_to_in : (k : ℤ) → IsLastUpTo A k → IsLastUpTo B k
  last_up_to_in k h t q b = h t q (same.from t q b)

  pub first_from_in : (k : ℤ) → IsFirstFrom A k → IsFirstFrom B k
  first_from_in k h t q b = h t q (same.from t q b)
