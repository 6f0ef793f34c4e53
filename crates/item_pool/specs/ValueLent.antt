-- What a pool is once a `&mut` to one of its values has ended.
use Rattle.std.specs.Prelude.{ℕ, Result}
use Rattle.std.specs.Borrow.{Fml, RattleType, MutBor, LendsIfOk}
use Rattle.std.specs.FinMap as map
use Rattle.item_pool.specs.Contents.{Contents, contents}
use Rattle.item_pool.specs.contracts.pool.Pool.{the_row}

-- the serial has the value that was written last through r, and at an `Err` all is as before
abbrev pub lends_value : (R : RattleType) {E : Type 0} → MutBor (Contents R.Denot) → ℕ
    → Result (MutBor R.Denot) E → Fml
lends_value R p s r =
    LendsIfOk (the_row R) R p r
    (λ x. contents (map.insert p.now.live s x) p.now.made p.now.spare) p.now
