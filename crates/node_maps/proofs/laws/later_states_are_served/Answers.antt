-- What the array covers is older than what is new.
use Rattle.std.proofs.Common.{inl, inr, arith}
use Rattle.node_maps.proofs.laws.later_states_are_served.Goals as goal

pub returns : goal.returns
returns g c = λ a s t before served later n has covered. elim (later n has) [
  | inl h ↦ served n h covered
  | inr newer ↦ absurd (omega (arith, before, covered, newer))
]
