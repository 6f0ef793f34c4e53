-- Texts, graphs and faults.
use Rattle.std.proofs.Common.{◌≡◌, ℕ, List, MatchOption, Result, Ok, Err, refl, sym, ap, ◌∙◌}
use Rattle.graph_defs.specs.declared.plain.PlainGraph.{PlainGraph}
use Rattle.graph_text.specs.declared.fault.Fault.{Fault}
use Rattle.graph_text.specs.declared.fault.TextRefusal.{TextRefusal}
use Rattle.graph_text.specs.declared.fault.TextRefusal.TheVariants.{At, NoMemory}
use Rattle.graph_text.specs.Gives.{Gives}
use Rattle.graph_text.specs.Reading.{reading_of}
use Rattle.graph_text.specs.Text.{GraphText, fault_in, fault_of, Answers}
use Rattle.graph_text.proofs.Complete.{text-reads}
use Rattle.graph_text.proofs.Sound.{text-took}
use Rattle.graph_text.proofs.Passes.{ok_is}

-- what reading gives is right of the text
pub answers : (text : List ℕ) (result : Result PlainGraph TextRefusal)
    → Gives (λ g. g) result (reading_of text) → Answers text result
answers text (Ok g) h = text-took text g h
answers text (Err (At why line)) h = ap fault_in h
answers text (Err NoMemory) h = tt

-- no text stands for two graphs
pub one_graph : (text : List ℕ) (g h : PlainGraph) → GraphText text g → GraphText text h → g ≡ h
one_graph text g h a b = ok_is g h (sym (text-reads text g a) ∙ text-reads text h b)

-- a text stands for a graph, or has a fault, and not both
pub graph_or_fault : (text : List ℕ)
    → MatchOption (fault_of text) ((g : PlainGraph) × GraphText text g)
    (λ fault. (g : PlainGraph) → ¬ GraphText text g)
graph_or_fault text = by_reading (reading_of text) refl
  where
    by_reading : (read : Result PlainGraph Fault) → reading_of text ≡ read
        → MatchOption (fault_in read) ((g : PlainGraph) × GraphText text g)
        (λ fault. (g : PlainGraph) → ¬ GraphText text g)
    by_reading (Ok g) is = (g, text-took text g is)
    by_reading (Err fault) is = λ g t.
        let clash : Err fault ≡ Ok g = sym is ∙ text-reads text g t in cc
