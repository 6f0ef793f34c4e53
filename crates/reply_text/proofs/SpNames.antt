-- Where the numbers of an answer on shortest paths are in range of a net, each has a name.
use Rattle.std.proofs.Common.{◌≡◌, sym, subst, ℕ, ◌<◌, List, length}
use Rattle.std.specs.Prelude.{IfSome}
use Rattle.std.proofs.lemmas.List.Elements.{All-weaker}
use Rattle.graph_defs.specs.declared.net.Net.{Net}
use Rattle.graph_defs.specs.declared.shortest.SpAnswer.{SpAnswer}
use Rattle.graph_defs.specs.declared.shortest.Why.{Why}
use Rattle.graph_defs.specs.declared.shortest.Why.TheVariants as why
use Rattle.graph_defs.specs.Shortest.{AreBelow, IsReasonBelow, IsFiniteInRange, IsSeedInRange, IsLowInRange, IsInRange}
use Rattle.reply_text.specs.Shortest.{IsFiniteNamed, IsSeedNamed, IsWhyNamed, IsLowNamed, IsSpNamed}

why_named : (edges : List ℕ) (arcs seeds : ℕ) → length edges ≡ arcs → (w : Why)
    → IsReasonBelow arcs seeds w → IsWhyNamed edges w
why_named edges arcs seeds named (why.Seed seed) below = tt
why_named edges arcs seeds named (why.Arc arc) below = subst (λ (k : ℕ). arc < k) (sym named) below

pub sp_named : (net : Net) (nodes edges : List ℕ) (a : SpAnswer)
    → length nodes ≡ net.n → length edges ≡ length net.arcs → IsInRange net a → IsSpNamed nodes edges a
sp_named net nodes edges a n m range = record {
  finite = All-weaker (IsFiniteInRange net) (IsFiniteNamed nodes edges) (λ f r. record {
    node = subst (λ (k : ℕ). f.node < k) (sym n) r.node;
    pred = subst (λ (k : ℕ). IfSome f.pred (λ arc. arc < k)) (sym m) r.pred;
  }) a.finite range.finite;
  seeds = All-weaker (IsSeedInRange net) (IsSeedNamed nodes edges) (λ s r. record {
    start = subst (λ (k : ℕ). s.start < k) (sym n) r.start;
    walk = subst (λ (k : ℕ). AreBelow k s.walk) (sym m) r.walk;
    cycle = subst (λ (k : ℕ). AreBelow k s.cycle) (sym m) r.cycle;
  }) a.seeds range.seeds;
  low = All-weaker (IsLowInRange net (length a.seeds)) (IsLowNamed nodes edges) (λ l r. record {
    node = subst (λ (k : ℕ). l.node < k) (sym n) r.node;
    why = why_named edges (length net.arcs) (length a.seeds) m l.why r.why;
  }) a.low range.low;
  unreached = subst (λ (k : ℕ). AreBelow k a.unreached) (sym n) range.unreached;
}
