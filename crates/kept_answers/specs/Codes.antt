-- Codes of kept shortest paths and of kept flows, by which a proof tells them apart.
use Rattle.std.specs.Prelude.{◌≡◌, ℕ, zero, suc, ℤ, List, Option, refl}
use Rattle.std.specs.Coded.{Coded, code_by, coded×, coded_ℕ, coded_ℤ, coded_list, coded_option}
use Rattle.graph_defs.specs.declared.flow.FlowAnswer.{FlowAnswer}
use Rattle.graph_defs.specs.declared.shortest.Finite.{Finite}
use Rattle.graph_defs.specs.declared.shortest.Low.{Low}
use Rattle.graph_defs.specs.declared.shortest.Seed.{Seed}
use Rattle.graph_defs.specs.declared.shortest.SpAnswer.{SpAnswer}
use Rattle.graph_defs.specs.declared.shortest.Why.{Why}
use Rattle.graph_defs.specs.declared.shortest.Why.TheVariants as why
use Rattle.kept_answers.specs.Carried.{Carried}
use Rattle.kept_answers.specs.Told.{Told}

abbrev finite_code : Coded Finite
finite_code = code_by (ℕ × (ℤ × Option ℕ)) (coded× coded_ℕ (coded× coded_ℤ (coded_option coded_ℕ)))
    (λ f. (f.node, (f.dist, f.pred)))
    (λ p. record { node = p.0; dist = p.1.0; pred = p.1.1 }) (λ _. refl)

abbrev seed_code : Coded Seed
seed_code = code_by (ℕ × (List ℕ × List ℕ))
    (coded× coded_ℕ (coded× (coded_list coded_ℕ) (coded_list coded_ℕ)))
    (λ s. (s.start, (s.walk, s.cycle)))
    (λ p. record { start = p.0; walk = p.1.0; cycle = p.1.1 }) (λ _. refl)

-- a reason as two numbers: its kind, and that of the seed or the arc
abbrev pub numbers_of : Why → ℕ × ℕ
numbers_of (why.Seed seed) = (0, seed)
numbers_of (why.Arc arc) = (1, arc)

abbrev pub reason_of : ℕ × ℕ → Why
reason_of (zero, seed) = why.Seed seed
reason_of (suc kind, arc) = why.Arc arc

pub same_reason : (w : Why) → reason_of (numbers_of w) ≡ w
same_reason (why.Seed seed) = refl
same_reason (why.Arc arc) = refl

abbrev low_code : Coded Low
low_code = code_by (ℕ × Why)
    (coded× coded_ℕ (code_by (ℕ × ℕ) (coded× coded_ℕ coded_ℕ) numbers_of reason_of same_reason))
    (λ l. (l.node, l.why)) (λ p. record { node = p.0; why = p.1 }) (λ _. refl)

abbrev sp_code : Coded SpAnswer
sp_code = code_by (List Finite × (List Seed × (List Low × List ℕ)))
    (coded× (coded_list finite_code)
    (coded× (coded_list seed_code) (coded× (coded_list low_code) (coded_list coded_ℕ))))
    (λ a. (a.finite, (a.seeds, (a.low, a.unreached))))
    (λ p. record { finite = p.0; seeds = p.1.0; low = p.1.1.0; unreached = p.1.1.1 }) (λ _. refl)

abbrev pub told_code : Coded Told
told_code = code_by (ℕ × (List ℕ × SpAnswer))
    (coded× coded_ℕ (coded× (coded_list coded_ℕ) sp_code))
    (λ k. (k.source, (k.costs, k.answer)))
    (λ p. record { source = p.0; costs = p.1.0; answer = p.1.1 }) (λ _. refl)

abbrev flow_code : Coded FlowAnswer
flow_code = code_by (List ℤ × (ℤ × List ℕ))
    (coded× (coded_list coded_ℤ) (coded× coded_ℤ (coded_list coded_ℕ)))
    (λ a. (a.flow, (a.value, a.cut)))
    (λ p. record { flow = p.0; value = p.1.0; cut = p.1.1 }) (λ _. refl)

abbrev pub carried_code : Coded Carried
carried_code = code_by (ℕ × (ℕ × (List ℕ × (List ℕ × FlowAnswer))))
    (coded× coded_ℕ (coded× coded_ℕ
    (coded× (coded_list coded_ℕ) (coded× (coded_list coded_ℕ) flow_code))))
    (λ k. (k.source, (k.sink, (k.capacities, (k.edges, k.answer)))))
    (λ p. record {
      source = p.0;
      sink = p.1.0;
      capacities = p.1.1.0;
      edges = p.1.1.1.0;
      answer = p.1.1.1.1;
    }) (λ _. refl)
