-- Each array goes on to serve the graph that an edit leads to.
use Rattle.std.proofs.Common.{◌≡◌, Bool, true, false, cond, List, [], ◌∷◌, Option, Some, None, ◌⊎◌, ⊎_elim, sym, subst}
use Rattle.std.specs.Prelude.{IfSome, Result, Ok, Err, OnOk, OnErr}
use Rattle.std.specs.FinSet as set
use Rattle.graph_defs.specs.declared.plain.PlainGraph.{PlainGraph}
use Rattle.graph_state.specs.State.{GraphState}
use Rattle.graph_state.specs.Built.{built}
use Rattle.script_text.specs.declared.argument.Arg.{Arg}
use Rattle.script_text.specs.declared.argument.Arg.TheVariants as args
use Rattle.script_text.specs.declared.word.EditWord.{EditWord}
use Rattle.script_text.specs.declared.word.EditWord.TheVariants as edits
use Rattle.graph_state.specs.declared.kind.Side.TheVariants.{Before, Behind}
use Rattle.reply_text.specs.declared.refusal.Refusal.{Refusal}
use Rattle.reply_text.specs.declared.reply.Reply.{Reply}
use Rattle.reply_text.specs.Outcome.{Outcome, unless, LacksMemory}
use Rattle.console_state.specs.Graph.{full_node, full_edge, are_opposite, graph_edited}
use Rattle.console_state.proofs.Later.{GoesOn, stays, node_more, edge_more, edge_beside, edge_less, emptied, edge_moved, edge_reversed, edges_reversed, undirected, directed, node_labelled, edge_labelled, two_paired, edge_hides, edge_shows, node_hides, node_shows, all_show, node_less, all_paired, built_more}

module _ (g : GraphState) where
  abbrev Going : Outcome GraphState → Type 0
  Going outcome = GoesOn g outcome.0

  unless_goes : (refusal : Option Refusal) (outcome : Outcome GraphState) → Going outcome → Going (unless refusal g outcome)
  unless_goes None outcome h = h
  unless_goes (Some refusal) outcome h = stays g

  choice : (test : Bool) (a b : Outcome GraphState) → Going a → Going b → Going (cond test a b)
  choice true a b h k = h
  choice false a b h k = k

  edited_goes : (word : EditWord) (args : List Arg) → IfSome (graph_edited word args g) Going
  edited_goes edits.Node (args.Label label ∷ []) = unless_goes (full_node g) _ (node_more g label)
  edited_goes edits.Edge (args.Node v ∷ args.Node w ∷ args.Label label ∷ []) =
      unless_goes (full_edge g) _ (edge_more g v w label)
  edited_goes edits.EdgeBefore (args.Edge e ∷ args.Node w ∷ args.Label label ∷ []) =
      unless_goes (full_edge g) _ (edge_beside g Before e w label)
  edited_goes edits.EdgeBehind (args.Edge e ∷ args.Node w ∷ args.Label label ∷ []) =
      unless_goes (full_edge g) _ (edge_beside g Behind e w label)
  edited_goes edits.DelEdge (args.Edge e ∷ []) = edge_less g e
  edited_goes edits.DelNode (args.Node v ∷ []) = node_less v g
  edited_goes edits.RevEdge (args.Edge e ∷ []) = edge_reversed g e
  edited_goes edits.MoveEdge (args.Edge e ∷ args.Node v ∷ args.Node w ∷ []) = edge_moved g e v w
  edited_goes edits.Clear [] = emptied g
  edited_goes edits.RevAll [] = edges_reversed g
  edited_goes edits.MakeUndirected [] = undirected g
  edited_goes edits.MakeDirected [] = directed g
  edited_goes edits.SetLabel (args.Node v ∷ args.Label label ∷ []) = node_labelled g v label
  edited_goes edits.SetLabel (args.Edge e ∷ args.Label label ∷ []) = edge_labelled g e label
  edited_goes edits.SetReversal (args.Edge e ∷ args.Edge f ∷ []) =
      choice (are_opposite g e f) _ _ (two_paired g e f) (stays g)
  edited_goes edits.MakeMap [] = all_paired g
  edited_goes edits.HideEdge (args.Edge e ∷ []) =
      choice (set.contains g.hidden_edges e) _ _ (stays g) (edge_hides g e)
  edited_goes edits.RestoreEdge (args.Edge e ∷ []) =
      choice (set.contains g.hidden_edges e) _ _ (edge_shows g e) (stays g)
  edited_goes edits.HideNode (args.Node v ∷ []) =
      choice (set.contains g.hidden_nodes v) _ _ (stays g) (node_hides g v)
  edited_goes edits.RestoreNode (args.Node v ∷ []) =
      choice (set.contains g.hidden_nodes v) _ _ (node_shows g v) (stays g)
  edited_goes edits.RestoreAll [] = all_show g
  edited_goes word args = tt

-- an edit, or want of memory for it, leads to a graph that goes on
pub edit_goes : (free : Bool) (word : EditWord) (args : List Arg) (g h : GraphState) (reply : Reply)
    → LacksMemory free g reply h ⊎ (graph_edited word args g ≡ Some (h, reply)) → GoesOn g h
edit_goes free word args g h reply does = ⊎_elim
    (λ (lacks : LacksMemory free g reply h). subst (GoesOn g) (sym lacks.state) (stays g))
    (λ (is : graph_edited word args g ≡ Some (h, reply)).
    subst (λ (given : Option (Outcome GraphState)). IfSome given (λ outcome. GoesOn g outcome.0)) is
    (edited_goes g word args))
    does

-- a plain graph in place of another, or the other still
pub replaced_goes : {T E : Type 0} (plain : PlainGraph) (g h : GraphState) (result : Result T E)
    → OnOk result (h ≡ built plain g.made_nodes g.made_edges) → OnErr result (h ≡ g) → GoesOn g h
replaced_goes plain g h (Ok x) state same = subst (GoesOn g) (sym state) (built_more g plain)
replaced_goes plain g h (Err e) state same = subst (GoesOn g) (sym same) (stays g)
