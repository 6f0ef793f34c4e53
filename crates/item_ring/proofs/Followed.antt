-- Where a link leads, and what is had of the places there. Assumes `Logic`.
--     leads        a link of so many bytes behind the first place leads into the block
--     looks_into      of a `&` to the owner of places, a `&` to each value
--     one_out, one_in      the room of one place, beside all that the owner has else;  with a value in that place it is the owner again
use mathlib.Core.Path.{◌≡◌, refl, sym, ap, subst, ◌∙◌}
use Prim.Native.Nat.{ℕ, ◌+◌, ◌*◌, ◌<◌, ◌^◌}
use native.Mathlib.Nat.{add_comm}
use mathlib.Core.List.{List, [], ◌∷◌}
use lib.ListN.{length, set, get_or, length-set}
use seplogic.Ra.Ura.{Ura}
use base.Fraction.{full_share}
use mir.Val.{Val}
use base.Logic.{ent, sep, never, id⊢}
use base.Fml.{Fml, Lft, fsep, fat, froom}
use types.Logic.{Logic, sem}
use types.Kit.{Item, Goal, Seq, ‵, ◌⊛◌, ◌$◌, ◌∵◌, !, qed, move, drop, use1, use2, split, rewrite, fsplit, fjoin, flt_i, flt_l, done}
use denote.Memory.{hidden_shr}
use denote.Opens.{unhide}
use denote.RawPtr.{Ptr, block_ptr, in_a_block, ◌+ₚ◌}
use Rattle.std.specs.Prelude.{Some, None}
use Rattle.core.proofs.mem.Param.{El, R, el_x, elτ}
use Rattle.item_ring.specs.Memory.{place, places, places_lent, cells_own, cells_lent}
use Rattle.item_ring.proofs.Blocks.{Cr, Mark, size, value_in, blanked, Others, place_out, place_in}

pub leads : (at p : Ptr) (b o k : ℕ) → at ≡ block_ptr b o → p ≡ at +ₚ k → p ≡ block_ptr b (k + o)
leads at p b o k begins led = led ∙ ap (λ x. x +ₚ k) begins ∙ ap (block_ptr b) (add_comm o k)

module _ (E : El) {M : Type 1} {𝓤 : Ura M} {𝓛 : Logic 𝓤} {K : Type 0} {Γ : List (Item 𝓤)} {G : Goal 𝓤 𝓛.H} where
  pub looks_into : K → (κ : Lft) (d : (Cr E).Denot) (rb ro : ℕ)
      → ((b o : ℕ) → d.at ≡ block_ptr b o → length d.slots * size E < 2 ^ 63 → Seq K 𝓛 (‵ (places_lent (R E) b o d.slots κ) ∷ Γ) G)
      → Seq K 𝓛 (‵ (hidden_shr (Cr E) κ d rb ro) ∷ Γ) G
  looks_into t κ d rb ro next =
      unhide t $ fsplit t $ drop t $
      in_a_block t d.at (λ at. cells_lent (R E) at d.slots κ) (id⊢ 𝓤 (never 𝓤)) (λ b o begins. fsplit t $ flt_l t (λ small. next b o begins small))

-- the owner with a value in its i-th place
abbrev pub filled : (E : El) → (Cr E).Denot → ℕ → el_x E → (Cr E).Denot
filled E d i x = record { mark = d.mark; at = d.at; slots = set d.slots i (Some x) }

module _ (E : El) {M : Type 1} {𝓤 : Ura M} (𝓛 : Logic 𝓤) (d : (Cr E).Denot) (vs : List Val) (b o i : ℕ) where
  -- the owner, but for what it has at the i-th place
  abbrev pub Rest : Fml
  Rest = fsep ((Mark E).own_val (tt, tt) vs) (Others E 𝓛 b o d.slots i)

  pub one_in : (x : el_x E) (v : Val) → d.at ≡ block_ptr b o → i < length d.slots → length d.slots * size E < 2 ^ 63
      → ent 𝓤 (sep 𝓤 (sem 𝓛 (fat full_share (elτ E) b (i * size E + o) v)) (sep 𝓤 (sem 𝓛 (E.row.own_val x (v ∷ []))) (sem 𝓛 Rest))) (sem 𝓛 ((Cr E).own_val (filled E d i x) vs))
  one_in x v begins there small =
      let as_long = subst (λ (k : ℕ). k * size E < 2 ^ 63) (sym (length-set d.slots i (Some x))) small in
      qed 𝓛 (‵ (fat full_share (elτ E) b (i * size E + o) v) ∷ ‵ (E.row.own_val x (v ∷ [])) ∷ ‵ Rest ∷ []) ∵
      use2 𝓛 (‵ (place (R E) b (i * size E + o) (Some x))) (value_in E 𝓛 b x (i * size E + o) v) $
      move ! (1 ∷ []) $ fsplit ! $ move ! (2 ∷ 1 ∷ []) $
      use2 𝓛 (‵ (places (R E) b o (filled E d i x).slots)) (place_in E 𝓛 b o d.slots i there (Some x)) $
      flt_i ! (length (filled E d i x).slots * size E) (2 ^ 63) as_long $ fjoin ! $
      rewrite ! 0 (λ (at : Ptr). ‵ (cells_own (R E) at (filled E d i x).slots)) (sym begins) refl $ move ! (1 ∷ []) $ fjoin ! $ done !

module _ (E : El) {M : Type 1} {𝓤 : Ura M} {𝓛 : Logic 𝓤} {K : Type 0} {Γ : List (Item 𝓤)} {G : Goal 𝓤 𝓛.H} where
  pub one_out : K → (d : (Cr E).Denot) (vs : List Val) (i : ℕ) → i < length d.slots
      → ((b o : ℕ) → d.at ≡ block_ptr b o → length d.slots * size E < 2 ^ 63 → Seq K 𝓛 (‵ (froom (elτ E) b (i * size E + o)) ∷ ‵ (Rest E 𝓛 d vs b o i) ∷ Γ) G)
      → Seq K 𝓛 (‵ ((Cr E).own_val d vs) ∷ Γ) G
  one_out t d vs i there next =
      fsplit t $ move t (1 ∷ []) $ in_a_block t d.at (λ at. cells_own (R E) at d.slots) (id⊢ 𝓤 (never 𝓤)) (λ b o begins. fsplit t $ flt_l t (λ small.
      use1 𝓛 (‵ (place (R E) b (i * size E + o) (get_or d.slots i None)) ⊛ ‵ (Others E 𝓛 b o d.slots i)) (place_out E 𝓛 b o d.slots i there) $ split t $
      use1 𝓛 (‵ (froom (elτ E) b (i * size E + o))) (blanked E 𝓛 b (i * size E + o) (get_or d.slots i None)) $
      move t (2 ∷ 1 ∷ []) $ fjoin t $ move t (1 ∷ 0 ∷ []) $ next b o begins small))
