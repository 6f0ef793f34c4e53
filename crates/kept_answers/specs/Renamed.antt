-- Answers on shortest paths in which nodes and arcs have other numbers.
use Rattle.std.specs.Prelude.{ℕ, map, option_map}
use Rattle.graph_defs.specs.declared.shortest.Finite.{Finite}
use Rattle.graph_defs.specs.declared.shortest.Low.{Low}
use Rattle.graph_defs.specs.declared.shortest.Seed.{Seed}
use Rattle.graph_defs.specs.declared.shortest.SpAnswer.{SpAnswer}
use Rattle.graph_defs.specs.declared.shortest.Why.{Why}
use Rattle.graph_defs.specs.declared.shortest.Why.TheVariants as why

abbrev pub finite_by : (ℕ → ℕ) → (ℕ → ℕ) → Finite → Finite
finite_by node arc f =
    record { node = node f.node; dist = f.dist; pred = option_map arc f.pred }

abbrev pub seed_by : (ℕ → ℕ) → (ℕ → ℕ) → Seed → Seed
seed_by node arc s =
    record { start = node s.start; walk = map arc s.walk; cycle = map arc s.cycle }

abbrev pub why_by : (ℕ → ℕ) → Why → Why
why_by arc (why.Seed seed) = why.Seed seed
why_by arc (why.Arc number) = why.Arc (arc number)

abbrev pub low_by : (ℕ → ℕ) → (ℕ → ℕ) → Low → Low
low_by node arc l = record { node = node l.node; why = why_by arc l.why }

-- each node and each arc by the number that stands for its own
abbrev pub sp_by : (ℕ → ℕ) → (ℕ → ℕ) → SpAnswer → SpAnswer
sp_by node arc a = record {
  finite = map (finite_by node arc) a.finite;
  seeds = map (seed_by node arc) a.seeds;
  low = map (low_by node arc) a.low;
  unreached = map node a.unreached;
}
