-- The cell of an edge is replaced by another one with the same hooks.
use Rattle.std.proofs.Common.{◌≡◌, ℕ, Bool, true, false, Some, option_map, refl, sym, ap, ◌∙◌, inl, inr}
use Rattle.std.specs.FinMap as map
use Rattle.graph_state.specs.declared.name.Element.{Element}
use Rattle.graph_state.specs.declared.name.Element.TheVariants.{Node, Edge, End}
use Rattle.graph_state.proofs.Same.{nat_tells}
use Rattle.graph_state.proofs.Maps.{put_here, put_else, len_kept}
use Rattle.graph_core.specs.declared.cell.EdgeCell.{EdgeCell}
use Rattle.graph_core.specs.Kept.{NodeCells, EdgeCells, hook_of, end_hook}

module _ (q after : EdgeCells) (e : ℕ) (c d : EdgeCell) (at : map.get q e ≡ Some c) (cells : after ≡ map.insert q e d) where
  pub got_here : (i : ℕ) → i ≡ e → map.get after i ≡ Some d
  got_here i n = ap (λ m. map.get m i) cells ∙ put_here q e d i n

  pub got_else : (i : ℕ) → (i ≡ e → ⊥) → map.get after i ≡ map.get q i
  got_else i ne = ap (λ m. map.get m i) cells ∙ put_else q e d i ne

  pub as_many : map.len after ≡ map.len q
  as_many = ap map.len cells ∙ len_kept q e d c at

  part_stays : {X : Type 0} (f : EdgeCell → X) → f d ≡ f c → (i : ℕ) → option_map f (map.get q i) ≡ option_map f (map.get after i)
  part_stays f alike i = elim (nat_tells i e) [
    | inl y ↦ ap (λ n. option_map f (map.get q n)) y.1 ∙ ap (option_map f) at ∙ ap Some (sym alike) ∙ sym (ap (option_map f) (got_here i y.1))
    | inr n ↦ sym (ap (option_map f) (got_else i n.1))
  ]

  module _ (p : NodeCells) (hook : d.hook ≡ c.hook) (first : d.front ≡ c.front) (second : d.back ≡ c.back) where
    end_stays : (b : Bool) → end_hook b d ≡ end_hook b c
    end_stays true = second
    end_stays false = first

    pub hooks_stay : (x : Element) → hook_of p q x ≡ hook_of p after x
    hooks_stay (Node i) = refl
    hooks_stay (Edge i) = part_stays (λ (c : EdgeCell). c.hook) hook i
    hooks_stay (End x) = part_stays (end_hook x.back) (end_stays x.back) x.edge
