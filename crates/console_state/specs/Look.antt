-- What each look at the graph tells, or is refused by.
use Rattle.std.specs.Prelude.{ℕ, Option, Some, None, Result, Ok, Err, if◌then◌else◌, List, [], ◌∷◌, ◌++◌, length, map}
use Rattle.leda_base.specs.declared.ItemName.{ItemName}
use Rattle.leda_base.specs.declared.ItemName.TheVariants as items
use Rattle.graph_defs.specs.declared.dart.Dart.{Dart}
use Rattle.graph_state.specs.State.{GraphState, front, source, target, node_label, edge_label, visible_nodes, visible_edges, visible_out, visible_in}
use Rattle.graph_state.specs.Reversals.{visible_reversal}
use Rattle.graph_state.specs.Names.{same_dart, first_of, last_of}
use Rattle.script_text.specs.declared.argument.Arg.{Arg}
use Rattle.script_text.specs.declared.argument.Arg.TheVariants as args
use Rattle.script_text.specs.declared.word.LookWord.{LookWord}
use Rattle.script_text.specs.declared.word.LookWord.TheVariants as looks
use Rattle.reply_text.specs.declared.refusal.Refusal.{Refusal}
use Rattle.reply_text.specs.declared.refusal.Refusal.TheVariants as refusals
use Rattle.reply_text.specs.declared.reply.ReplyLine.{ReplyLine}
use Rattle.reply_text.specs.declared.reply.ReplyLine.TheVariants.{Nil, Two, Name, Names, Label}

-- the name of a dart's edge
abbrev pub edge_name : Dart → ItemName
edge_name d = items.Edge d.edge

-- the edge of the dart, if there is one
abbrev pub edge_line : Option Dart → ReplyLine
edge_line None = Nil
edge_line (Some d) = Name (edge_name d)

-- the edge of the number, if there is one
abbrev pub number_line : Option ℕ → ReplyLine
number_line None = Nil
number_line (Some e) = Name (items.Edge e)

-- what stands before the dart in the list, and what behind it
abbrev pub before : Dart → List Dart → List Dart
before d [] = []
before d (c ∷ cs) = if same_dart c d then [] else c ∷ before d cs

abbrev pub behind : Dart → List Dart → List Dart
behind d [] = []
behind d (c ∷ cs) = if same_dart c d then cs else behind d cs

-- the visible darts before the front dart of the edge, at its source, and those behind it
abbrev pub darts_before : ℕ → GraphState → List Dart
darts_before e g = before (front e) (visible_out g (source g e))

abbrev pub darts_behind : ℕ → GraphState → List Dart
darts_behind e g = behind (front e) (visible_out g (source g e))

-- the edge before e in the cyclic order of the visible out list where it begins
abbrev pub cyclic_pred : ℕ → GraphState → ReplyLine
cyclic_pred e g = edge_line (last_of (front e ∷ darts_behind e g ++ darts_before e g))

-- what a look tells, or is refused by
abbrev pub Told : Type 0
Told = Result ReplyLine Refusal

abbrev pub tells : ReplyLine → Option Told
tells line = Some (Ok line)

-- behind an edge round its face stands the edge before its visible reversal, if it has one
abbrev pub face_succ : Option ℕ → ℕ → GraphState → Told
face_succ None e g = Err (refusals.Reversal e)
face_succ (Some f) e g = Ok (cyclic_pred f g)

-- a look by its word, if these are arguments that the word takes
abbrev pub graph_looked : LookWord → List Arg → GraphState → Option Told
graph_looked looks.Count [] g = tells (Two (length (visible_nodes g)) (length (visible_edges g)))
graph_looked looks.Nodes [] g = tells (Names (map items.Node (visible_nodes g)))
graph_looked looks.Edges [] g = tells (Names (map items.Edge (visible_edges g)))
graph_looked looks.OutEdges (args.Node v ∷ []) g = tells (Names (map edge_name (visible_out g v)))
graph_looked looks.InEdges (args.Node v ∷ []) g = tells (Names (map edge_name (visible_in g v)))
graph_looked looks.FirstAdj (args.Node v ∷ []) g = tells (edge_line (first_of (visible_out g v)))
graph_looked looks.LastAdj (args.Node v ∷ []) g = tells (edge_line (last_of (visible_out g v)))
graph_looked looks.AdjSucc (args.Edge e ∷ []) g = tells (edge_line (first_of (darts_behind e g)))
graph_looked looks.AdjPred (args.Edge e ∷ []) g = tells (edge_line (last_of (darts_before e g)))
graph_looked looks.CyclicAdjSucc (args.Edge e ∷ []) g =
    tells (edge_line (first_of (darts_behind e g ++ darts_before e g ++ front e ∷ [])))
graph_looked looks.CyclicAdjPred (args.Edge e ∷ []) g = tells (cyclic_pred e g)
graph_looked looks.Source (args.Edge e ∷ []) g = tells (Name (items.Node (source g e)))
graph_looked looks.Target (args.Edge e ∷ []) g = tells (Name (items.Node (target g e)))
graph_looked looks.Reversal (args.Edge e ∷ []) g = tells (number_line (visible_reversal g e))
graph_looked looks.FaceSucc (args.Edge e ∷ []) g = Some (face_succ (visible_reversal g e) e g)
graph_looked looks.GetLabel (args.Node v ∷ []) g = tells (Label (node_label g v))
graph_looked looks.GetLabel (args.Edge e ∷ []) g = tells (Label (edge_label g e))
graph_looked word args g = None
