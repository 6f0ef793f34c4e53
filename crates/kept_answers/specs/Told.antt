-- An answer to `sp` or `dijkstra` that is kept, and the verdict on it of the graph as it is now.
use Rattle.std.specs.Prelude.{◌≡◌, ℕ, ℤ, List, [], ◌∷◌, slice_index, Option, Some, None, option_and_then, if◌then◌else◌, MatchOption}
use Rattle.std.specs.Option.{option_or}
use Rattle.graph_defs.specs.declared.shortest.Finite.{Finite}
use Rattle.graph_defs.specs.declared.shortest.Low.{Low}
use Rattle.graph_defs.specs.declared.shortest.Seed.{Seed}
use Rattle.graph_defs.specs.declared.shortest.SpAnswer.{SpAnswer}
use Rattle.graph_defs.specs.declared.shortest.Why.{Why}
use Rattle.graph_defs.specs.declared.shortest.Why.TheVariants as why
use Rattle.graph_defs.specs.declared.verdict.Cond.TheVariants.{Gone, Missing}
use Rattle.graph_defs.specs.Shortest.{SpHolds, sp_order, listed}
use Rattle.graph_state.specs.State.{GraphState}
use Rattle.hide_restore.specs.Net.{place_of, node_numbers, edge_numbers, shown_net}
use Rattle.reply_text.specs.declared.reply.Named.{Named}
use Rattle.kept_answers.specs.declared.gone.GoneItem.{GoneItem}
use Rattle.kept_answers.specs.declared.gone.GoneItem.TheVariants as items
use Rattle.kept_answers.specs.Checked.{is_listed, first_outside, about_node, about_edge, IsVerdictOn}
use Rattle.kept_answers.specs.Renamed.{sp_by}

-- the number of the source, the name of the object that had the costs, and the answer, by the
-- numbers in the names of nodes and edges
pub record Told : Type 0 where
  pub source : ℕ
  pub costs : List ℕ
  pub answer : SpAnswer

-- an answer that numbers nodes and arcs, by their names
abbrev pub named_by : List ℕ → List ℕ → SpAnswer → SpAnswer
named_by nodes edges answer = sp_by (slice_index nodes) (slice_index edges) answer

abbrev pub told : ℕ → List ℕ → List ℕ → List ℕ → SpAnswer → Told
told source costs nodes edges answer = record {
  source = source;
  costs = costs;
  answer = named_by nodes edges answer;
}

-- ---- what is gone, where these nodes and edges are visible

-- the first thing that is found, going through a list
abbrev pub first_in : {A X : Type 0} → (A → Option X) → List A → Option X
first_in look [] = None
first_in look (one ∷ more) = option_or (look one) (first_in look more)

abbrev pub gone_node : List ℕ → ℕ → Option GoneItem
gone_node nodes v = if is_listed v nodes then None else Some (items.Node v)

abbrev pub gone_edge : List ℕ → ℕ → Option GoneItem
gone_edge edges e = if is_listed e edges then None else Some (items.Edge e)

-- the first that is gone of what a line names
abbrev pub gone_of_finite : List ℕ → List ℕ → Finite → Option GoneItem
gone_of_finite nodes edges f =
    option_or (gone_node nodes f.node) (option_and_then (gone_edge edges) f.pred)

abbrev pub gone_of_seed : List ℕ → List ℕ → Seed → Option GoneItem
gone_of_seed nodes edges s =
    option_or (gone_node nodes s.start)
    (option_or (first_in (gone_edge edges) s.walk) (first_in (gone_edge edges) s.cycle))

abbrev pub gone_of_reason : List ℕ → Why → Option GoneItem
gone_of_reason edges (why.Seed seed) = None
gone_of_reason edges (why.Arc e) = gone_edge edges e

abbrev pub gone_of_low : List ℕ → List ℕ → Low → Option GoneItem
gone_of_low nodes edges l = option_or (gone_node nodes l.node) (gone_of_reason edges l.why)

-- the first that is gone of the source and of what the lines name, in their order
abbrev pub first_gone : List ℕ → List ℕ → ℕ → SpAnswer → Option GoneItem
first_gone nodes edges source a =
    option_or (gone_node nodes source)
    (option_or (first_in (gone_of_finite nodes edges) a.finite)
    (option_or (first_in (gone_of_seed nodes edges) a.seeds)
    (option_or (first_in (gone_of_low nodes edges) a.low)
    (first_in (gone_node nodes) a.unreached))))

-- the condition is broken by the one item that is named
abbrev pub about_gone : GoneItem → Named
about_gone (items.Node v) = about_node Gone v
about_gone (items.Edge e) = about_edge Gone e

-- ---- the verdict

-- the answer as the net numbers the nodes and edges now
abbrev pub as_now : GraphState → SpAnswer → SpAnswer
as_now g answer =
    sp_by (λ v. place_of v (node_numbers g)) (λ e. place_of e (edge_numbers g)) answer

-- The verdict on an answer from a source, by their names, where these are the costs of the visible
-- edges: the first that is named and isn't visible is gone, or else the first visible node of which
-- nothing is told is missing; where there is none of these, it is that of the checker.
abbrev pub IsAnswerChecked : GraphState → List ℤ → ℕ → SpAnswer → Named → Type 0
IsAnswerChecked g cost source answer named =
    MatchOption (first_gone (node_numbers g) (edge_numbers g) source answer)
    (MatchOption (first_outside (node_numbers g) (listed answer))
    (IsVerdictOn g
    (SpHolds (shown_net g) (place_of source (node_numbers g)) cost (as_now g answer)) sp_order
    named)
    (λ v. named ≡ about_node Missing v))
    (λ item. named ≡ about_gone item)

-- the same of an answer that is kept
abbrev pub IsSpChecked : GraphState → List ℤ → Told → Named → Type 0
IsSpChecked g cost k named = IsAnswerChecked g cost k.source k.answer named
