use Rattle.std.proofs.Common.{inl, inr}
use Rattle.sp_check.proofs.cycles.begins_well.Goals as goal

pub returns : goal.returns
returns c = (
  λ t. inr (c.is_finite.ensures.0 t),
  λ h. elim h [ inl e ↦ absurd (c.if-seed-s.false e) | inr f ↦ c.is_finite.ensures.1 f ],
)
