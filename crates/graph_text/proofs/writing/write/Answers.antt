use Rattle.std.proofs.Common.{◌≡◌, ℕ, List, Result, Ok, Err, IfOk, sym, subst}
use Rattle.std.specs.Global.{Vec}
use Rattle.leda_base.specs.declared.memory.NoMemory.{NoMemory}
use Rattle.graph_defs.specs.declared.plain.PlainGraph.{PlainGraph}
use Rattle.graph_text.specs.Text.{GraphText}
use Rattle.graph_text.specs.Written.{text_of}
use Rattle.graph_text.proofs.Again.{text-again}
use Rattle.graph_text.proofs.writing.write.Goals as goal

-- what is written stands for the graph
again : (g : PlainGraph) (result : Result (Vec ℕ) NoMemory) → GraphText (text_of g) g
    → IfOk result (λ text. text.items ≡ text_of g) → IfOk result (λ text. GraphText text.items g)
again g (Ok text) h is = subst (λ (bytes : List ℕ). GraphText bytes g) (sym is) h
again g (Err refusal) h is = tt

pub returns-clause-again : goal.returns-clause-again
returns-clause-again c =
    again c.args.g.now c.write_lines.result (text-again c.args.g.now c.requires)
    c.write_lines.ensures
