-- The costs of the edges that a query is asked of, by an array or a map over edges.
use Rattle.std.specs.Prelude.{ℕ, ℤ, pos, Bool, false, not, List, map, find, Option, Some, None, option_map, option_and_then, unwrap_or, int_lt, if◌then◌else◌}
use Rattle.std.specs.Option.{option_map_or}
use Rattle.leda_base.specs.declared.name.ItemName.TheVariants as items
use Rattle.object_store.specs.State.{Valuation}
use Rattle.object_store.specs.Values.{covers, value_for}
use Rattle.object_store.specs.Views.{object_of}
use Rattle.reply_text.specs.declared.refusal.Refusal.{Refusal}
use Rattle.reply_text.specs.declared.refusal.Refusal.TheVariants.{Covered, Negative, Bound}
use Rattle.script_text.specs.declared.form.Kinds.TheVariants as kinds
use Rattle.flow_net.specs.Refusals.{sum_of}
use Rattle.sp_search.specs.Refusals.{sizes}
use Rattle.console_state.specs.State.{State}
use Rattle.console_state.specs.Views.{edge_names}

-- the value of an edge, and 0 where there is none
abbrev pub value_in : Option Valuation → ℕ → ℤ
value_in values e = unwrap_or (option_and_then (λ v. value_for v e) values) (pos 0)

abbrev pub covers_in : Option Valuation → ℕ → Bool
covers_in values e = option_map_or (λ v. covers v e) values false

-- what the array or the map over edges of the name holds
abbrev pub edge_values : State → List ℕ → Option Valuation
edge_values s name = option_and_then (λ o. o.values) (object_of s.objects kinds.EdgeValues name)

-- the costs of the arcs of the net, in their order
abbrev pub costs : State → List ℕ → List ℤ
costs s name = map (value_in (edge_values s name)) (edge_names s)

-- the first visible edge that isn't covered
abbrev pub uncovered : State → List ℕ → Option Refusal
uncovered s name =
    option_map (λ e. Covered (items.Edge e))
    (find (λ e. not (covers_in (edge_values s name) e)) (edge_names s))

-- the first visible edge whose cost is below 0
abbrev pub negative : State → List ℕ → Option Refusal
negative s name =
    option_map Negative
    (find (λ e. int_lt (value_in (edge_values s name) e) (pos 0)) (edge_names s))

-- the costs without their signs sum up to more than 2^62 - 1
abbrev pub unbounded : State → List ℕ → Option Refusal
unbounded s name =
    if int_lt (pos 4611686018427387903) (sizes (costs s name)) then Some Bound else None

-- the capacities sum up to more than that
abbrev pub overfull : State → List ℕ → Option Refusal
overfull s name =
    if int_lt (pos 4611686018427387903) (sum_of (costs s name)) then Some Bound else None
