-- What each edit does to the graph, and what it is answered.
use Rattle.std.specs.Prelude.{ℕ, pos, Bool, not, Option, Some, None, ◌+◌, ◌==◌, ◌&&◌, if◌then◌else◌, List, [], ◌∷◌, length}
use Rattle.std.specs.FinSet as set
use Rattle.item_pool.specs.declared.pool.TheConstants.{MOST_SERIALS}
use Rattle.leda_base.specs.declared.ItemName.TheVariants as items
use Rattle.graph_defs.specs.declared.net.TheConstants.{NODE_LIMIT, ARC_LIMIT}
use Rattle.graph_state.specs.declared.kind.Side.{Side}
use Rattle.graph_state.specs.declared.kind.Side.TheVariants.{Before, Behind}
use Rattle.graph_state.specs.State.{GraphState, source, target}
use Rattle.graph_state.specs.Beside.{with_edge_beside}
use Rattle.graph_state.specs.Edits.{with_node, with_edge, without_edge, without_node, reversed, moved, all_reversed, made_undirected, made_directed, cleared, with_node_label, with_edge_label, paired, edge_hidden, edge_restored, node_hidden, node_restored, all_restored}
use Rattle.graph_rev.specs.Pairing.{map_made, unpaired_count}
use Rattle.script_text.specs.declared.argument.Arg.{Arg}
use Rattle.script_text.specs.declared.argument.Arg.TheVariants as args
use Rattle.script_text.specs.declared.word.EditWord.{EditWord}
use Rattle.script_text.specs.declared.word.EditWord.TheVariants as edits
use Rattle.reply_text.specs.declared.reply.ReplyLine.TheVariants.{Empty, Num, Name}
use Rattle.reply_text.specs.declared.refusal.Refusal.{Refusal}
use Rattle.reply_text.specs.declared.refusal.Refusal.TheVariants.{Hidden, NotHidden, Opposite, FullNodes, FullEdges, Spent}
use Rattle.reply_text.specs.Outcome.{Outcome, done, refused, unless}

-- what refuses one more of so many that are there, of which there may be `most` and so many were
-- made: there are as many as there may be, or each number was given
abbrev pub full : ℕ → Refusal → ℕ → ℕ → Option Refusal
full most refusal count made =
    if count == most then Some refusal else if made == MOST_SERIALS then Some Spent else None

-- what refuses one node more, and one edge more
abbrev pub full_node : GraphState → Option Refusal
full_node g = full NODE_LIMIT FullNodes (length g.nodes) g.made_nodes

abbrev pub full_edge : GraphState → Option Refusal
full_edge g = full ARC_LIMIT FullEdges (length g.edges) g.made_edges

-- `node label`
abbrev pub node : List ℕ → GraphState → Outcome GraphState
node label g = unless (full_node g) g
    (done (with_node label g) (Name (items.Node (g.made_nodes + 1))))

-- `edge v w label`
abbrev pub edge : ℕ → ℕ → List ℕ → GraphState → Outcome GraphState
edge v w label g = unless (full_edge g) g
    (done (with_edge v w label g) (Name (items.Edge (g.made_edges + 1))))

-- `edge_before e w label` and `edge_behind e w label`
abbrev pub edge_beside : Side → ℕ → ℕ → List ℕ → GraphState → Outcome GraphState
edge_beside side e w label g = unless (full_edge g) g
    (done (with_edge_beside side e w label g) (Name (items.Edge (g.made_edges + 1))))

-- the edges differ, and each begins where the other ends
abbrev pub are_opposite : GraphState → ℕ → ℕ → Bool
are_opposite g e f =
    not (e == f) && (source g e == target g f && target g e == source g f)

-- `set_reversal e f`
abbrev pub set_reversal : ℕ → ℕ → GraphState → Outcome GraphState
set_reversal e f g = if are_opposite g e f then done (paired e f g) Empty else refused g Opposite

-- `hide_edge e` and `restore_edge e`
abbrev pub hide_edge : ℕ → GraphState → Outcome GraphState
hide_edge e g = if set.contains g.hidden_edges e then refused g (Hidden (items.Edge e))
    else done (edge_hidden e g) Empty

abbrev pub restore_edge : ℕ → GraphState → Outcome GraphState
restore_edge e g = if set.contains g.hidden_edges e then done (edge_restored e g) Empty
    else refused g (NotHidden (items.Edge e))

-- `hide_node v` and `restore_node v`
abbrev pub hide_node : ℕ → GraphState → Outcome GraphState
hide_node v g = if set.contains g.hidden_nodes v then refused g (Hidden (items.Node v))
    else done (node_hidden v g) Empty

abbrev pub restore_node : ℕ → GraphState → Outcome GraphState
restore_node v g = if set.contains g.hidden_nodes v then done (node_restored v g) Empty
    else refused g (NotHidden (items.Node v))

-- `make_map`
abbrev pub make_map : GraphState → Outcome GraphState
make_map g = let paired = map_made g in done paired (Num (pos (unpaired_count paired)))

-- an edit by its word, if these are arguments that the word takes
abbrev pub graph_edited : EditWord → List Arg → GraphState → Option (Outcome GraphState)
graph_edited edits.Node (args.Label label ∷ []) g = Some (node label g)
graph_edited edits.Edge (args.Node v ∷ args.Node w ∷ args.Label label ∷ []) g =
    Some (edge v w label g)
graph_edited edits.EdgeBefore (args.Edge e ∷ args.Node w ∷ args.Label label ∷ []) g =
    Some (edge_beside Before e w label g)
graph_edited edits.EdgeBehind (args.Edge e ∷ args.Node w ∷ args.Label label ∷ []) g =
    Some (edge_beside Behind e w label g)
graph_edited edits.DelEdge (args.Edge e ∷ []) g = Some (done (without_edge e g) Empty)
graph_edited edits.DelNode (args.Node v ∷ []) g = Some (done (without_node v g) Empty)
graph_edited edits.RevEdge (args.Edge e ∷ []) g = Some (done (reversed e g) Empty)
graph_edited edits.MoveEdge (args.Edge e ∷ args.Node v ∷ args.Node w ∷ []) g =
    Some (done (moved e v w g) Empty)
graph_edited edits.Clear [] g = Some (done (cleared g) Empty)
graph_edited edits.RevAll [] g = Some (done (all_reversed g) Empty)
graph_edited edits.MakeUndirected [] g = Some (done (made_undirected g) Empty)
graph_edited edits.MakeDirected [] g = Some (done (made_directed g) Empty)
graph_edited edits.SetLabel (args.Node v ∷ args.Label label ∷ []) g =
    Some (done (with_node_label v label g) Empty)
graph_edited edits.SetLabel (args.Edge e ∷ args.Label label ∷ []) g =
    Some (done (with_edge_label e label g) Empty)
graph_edited edits.SetReversal (args.Edge e ∷ args.Edge f ∷ []) g = Some (set_reversal e f g)
graph_edited edits.MakeMap [] g = Some (make_map g)
graph_edited edits.HideEdge (args.Edge e ∷ []) g = Some (hide_edge e g)
graph_edited edits.RestoreEdge (args.Edge e ∷ []) g = Some (restore_edge e g)
graph_edited edits.HideNode (args.Node v ∷ []) g = Some (hide_node v g)
graph_edited edits.RestoreNode (args.Node v ∷ []) g = Some (restore_node v g)
graph_edited edits.RestoreAll [] g = Some (done (all_restored g) Empty)
graph_edited word args g = None
