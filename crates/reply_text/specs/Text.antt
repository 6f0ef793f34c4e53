-- The bytes that a reply is written as: a reply is a list of lines, and a line a mark and words.
use Rattle.std.specs.Prelude.{◌≡◌, ℕ, ◌<◌, List, [], ◌∷◌, ◌++◌, length, map, All, codes, decimal, ⊤}
use Rattle.std.specs.List.{flat_map}
use Rattle.graph_defs.specs.declared.answer.Reach.{Reach as ReachAnswer}
use Rattle.graph_defs.specs.declared.answer.Reach.TheVariants.{Walk, Closed}
use Rattle.graph_defs.specs.declared.flow.FlowAnswer.{FlowAnswer}
use Rattle.graph_defs.specs.declared.matching.MatchAnswer.{MatchAnswer}
use Rattle.graph_defs.specs.declared.shortest.SpAnswer.{SpAnswer}
use Rattle.graph_defs.specs.declared.shortest.Finite.{Finite}
use Rattle.graph_defs.specs.declared.shortest.Low.{Low}
use Rattle.graph_defs.specs.declared.shortest.Seed.{Seed}
use Rattle.reply_text.specs.declared.refusal.Refusal.{Refusal}
use Rattle.reply_text.specs.declared.reply.Answer.{Answer}
use Rattle.reply_text.specs.declared.reply.Answer.TheVariants.{Reach, Sp, Flow, Matching, Verdict}
use Rattle.reply_text.specs.declared.reply.Reply.{Reply}
use Rattle.reply_text.specs.declared.reply.Reply.TheVariants.{Line, Query, Refused}
use Rattle.reply_text.specs.declared.reply.ReplyLine.{ReplyLine}
use Rattle.reply_text.specs.declared.reply.ReplyLine.TheVariants as lines
use Rattle.reply_text.specs.Words.{words_at, labelled_words, line_words, reach_words}
use Rattle.reply_text.specs.Shortest.{sp_words, finite_words, seed_words, low_words, unreached_words, IsSpNamed}
use Rattle.reply_text.specs.Flows.{carriers, carried_words, flow_words, IsFlowNamed}
use Rattle.reply_text.specs.Verdicts.{verdict_words, IsVerdictNamed}
use Rattle.reply_text.specs.Refusals.{refusal_words, IsRefusalNamed}

-- a line: its mark, which is `=` at a success, `!` at a refusal, and `+` where the line shows why
-- the answer is right, and its words
pub record TextLine : Type 0 where
  pub mark : List ℕ
  pub words : List (List ℕ)

abbrev pub success : List (List ℕ) → TextLine
success words = record { mark = codes "="; words = words }

abbrev pub witness : List (List ℕ) → TextLine
witness words = record { mark = codes "+"; words = words }

abbrev pub refusal_line : Refusal → TextLine
refusal_line refusal = record { mark = codes "!"; words = refusal_words refusal }

-- a line for each finite node, each seed, each low node and each unreached node
abbrev pub finite_lines : List ℕ → List ℕ → List Finite → List TextLine
finite_lines nodes edges finite = map (λ f. witness (finite_words nodes edges f)) finite

abbrev pub seed_lines : List ℕ → List ℕ → List Seed → List TextLine
seed_lines nodes edges seeds = map (λ seed. witness (seed_words nodes edges seed)) seeds

abbrev pub low_lines : List ℕ → List ℕ → List Low → List TextLine
low_lines nodes edges low = map (λ l. witness (low_words nodes edges l)) low

abbrev pub unreached_lines : List ℕ → List ℕ → List TextLine
unreached_lines nodes unreached = map (λ node. witness (unreached_words nodes node)) unreached

-- shortest paths: the counts of the nodes, and these lines
abbrev pub sp_lines : List ℕ → List ℕ → SpAnswer → List TextLine
sp_lines nodes edges answer =
    success (sp_words answer) ∷ (finite_lines nodes edges answer.finite
    ++ (seed_lines nodes edges answer.seeds ++ (low_lines nodes edges answer.low
    ++ unreached_lines nodes answer.unreached)))

-- a maximum flow: its value, the edges along which something flows, and the source's side of a cut
abbrev pub flow_lines : List ℕ → List ℕ → FlowAnswer → List TextLine
flow_lines nodes edges answer =
    success (flow_words answer)
    ∷ witness (codes "flow" ∷ carried_words edges answer.flow (carriers answer.flow))
    ∷ witness (codes "cut" ∷ words_at (codes "n") nodes answer.cut) ∷ []

-- a matching: its size, its edges, and the label of each node
abbrev pub match_lines : List ℕ → List ℕ → MatchAnswer → List TextLine
match_lines nodes edges answer =
    success (codes "matching" ∷ decimal (length answer.edges) ∷ [])
    ∷ witness (codes "match" ∷ words_at (codes "e") edges answer.edges)
    ∷ witness (codes "cover" ∷ labelled_words (codes "n") nodes answer.cover (length nodes)) ∷ []

-- the lines of a query's answer
abbrev pub answer_lines : List ℕ → List ℕ → Answer → List TextLine
answer_lines nodes edges (Reach answer) = success (reach_words nodes edges answer) ∷ []
answer_lines nodes edges (Sp answer) = sp_lines nodes edges answer
answer_lines nodes edges (Flow answer) = flow_lines nodes edges answer
answer_lines nodes edges (Matching answer) = match_lines nodes edges answer
answer_lines nodes edges (Verdict verdict) = success (verdict_words nodes edges verdict) ∷ []

-- the lines of a reply
abbrev pub reply_lines : Reply → List TextLine
reply_lines (Line line) = success (line_words line) ∷ []
reply_lines (Query named) = answer_lines named.nodes named.edges named.answer
reply_lines (Refused refusal) = refusal_line refusal ∷ []

-- words behind others: a blank, and then the word, for each
abbrev pub words_text : List (List ℕ) → List ℕ
words_text words = flat_map (λ word. codes " " ++ word) words

-- a line as it is written: its mark and its words with one blank between each two, and an LF
abbrev pub line_text : TextLine → List ℕ
line_text line = line.mark ++ words_text line.words ++ codes "\n"

-- a reply as it is written: its lines
abbrev pub reply_text : Reply → List ℕ
reply_text reply = flat_map line_text (reply_lines reply)

-- each number of an arc or a node in the answer has a name
abbrev pub IsReachNamed : List ℕ → List ℕ → ReachAnswer → Type 0
IsReachNamed nodes edges (Walk arcs) = All (λ arc. arc < length edges) arcs
IsReachNamed nodes edges (Closed set) = All (λ node. node < length nodes) set

pub record IsMatchNamed (nodes arcs : List ℕ) (answer : MatchAnswer) : Type 0 where
  pub edges : All (λ edge. edge < length arcs) answer.edges
  pub cover : length answer.cover ≡ length nodes

abbrev pub IsAnswerNamed : List ℕ → List ℕ → Answer → Type 0
IsAnswerNamed nodes edges (Reach answer) = IsReachNamed nodes edges answer
IsAnswerNamed nodes edges (Sp answer) = IsSpNamed nodes edges answer
IsAnswerNamed nodes edges (Flow answer) = IsFlowNamed nodes edges answer
IsAnswerNamed nodes edges (Matching answer) = IsMatchNamed nodes edges answer
IsAnswerNamed nodes edges (Verdict verdict) = IsVerdictNamed nodes edges verdict

-- what a reply numbers has a name, and an object's name in it is short enough
abbrev pub IsNamed : Reply → Type 0
IsNamed (Line line) = ⊤
IsNamed (Query named) = IsAnswerNamed named.nodes named.edges named.answer
IsNamed (Refused refusal) = IsRefusalNamed refusal

-- a line whose length is bounded, as that of every edit is
abbrev pub IsShortLine : ReplyLine → Type 0
IsShortLine lines.Empty = ⊤
IsShortLine lines.Nil = ⊤
IsShortLine (lines.Num number) = ⊤
IsShortLine (lines.Two nodes edges) = ⊤
IsShortLine (lines.Name x) = ⊤
IsShortLine (lines.Names xs) = ⊥
IsShortLine (lines.Cells cells) = ⊥
IsShortLine (lines.Label bytes) = ⊥

-- a reply whose length is bounded: a refusal, or such a line
abbrev pub IsShort : Reply → Type 0
IsShort (Line line) = IsShortLine line
IsShort (Query named) = ⊥
IsShort (Refused refusal) = ⊤
