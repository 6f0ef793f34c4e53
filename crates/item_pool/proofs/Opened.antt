-- The owner of places is opened at one of them, and shut again. Assumes `Logic`.
--     opened, shut      the place at the index, beside all that the owner has else;  with anything in that place it is the owner again
--     looks_into        of a `&` to the owner, a `&` to each value
--     Kept, comes_back  the owner while a value is lent, and how it comes back
--     near              the bytes before a place are counted in a word
use mathlib.Core.Path.{◌≡◌, refl, sym, subst}
use Prim.Native.Nat.{ℕ, ◌+◌, ◌*◌, ◌<◌, ◌^◌}
use native.Mathlib.Omega.{arith}
use mathlib.Core.List.{List, [], ◌∷◌}
use lib.ListN.{length, set, get_or, length-set}
use seplogic.Ra.Ura.{Ura}
use base.Fraction.{full_share}
use mir.Val.{Val}
use base.Logic.{ent, sep, never, id⊢}
use base.Fml.{Fml, Lft, fsep}
use types.Logic.{Logic, sem}
use types.Kit.{Item, Goal, Seq, ‵, ◌⊛◌, ◌$◌, ◌∵◌, !, qed, move, drop, use1, use2, split, rewrite, fsplit, fjoin, fpack, flt_i, flt_l, done}
use denote.Memory.{mem, cell_at, part_of, hidden_shr}
use denote.Opens.{unhide}
use denote.RawPtr.{Ptr, block_ptr, in_a_block}
use Rattle.std.specs.Prelude.{Some, None}
use Rattle.core.proofs.mem.Param.{El, R, el_x}
use Rattle.core.proofs.ptr.Rows.{times_below}
use Rattle.item_pool.specs.Ownership.{place, places, row_lent, places_owned, places_lent}
use Rattle.item_pool.specs.PlaceLent.{with_row}
use Rattle.item_pool.proofs.OnePlace.{Pl, Mark, Place, size, others, place_out, place_in}

pub near : (i n s : ℕ) → i < n → n * s < 2 ^ 63 → i * s < 2 ^ 64
near i n s there small = let below = times_below i n s (2 ^ 63) (omega arith) small in omega arith

module _ (E : El) {M : Type 1} {𝓤 : Ura M} (𝓛 : Logic 𝓤) (d : (Pl E).Denot) (vs : List Val) (b o i : ℕ) where
  -- the owner, but for what it has at the i-th place
  abbrev pub Rest : Fml
  Rest = fsep ((Mark E).own_val (tt, tt) vs) (others E b o d.row i)

  pub shut : (p : Place E) → d.at ≡ block_ptr b o → i < length d.row → length d.row * size E < 2 ^ 63
      → ent 𝓤 (sep 𝓤 (sem 𝓛 (place (R E) b (i * size E + o) p)) (sem 𝓛 Rest)) (sem 𝓛 ((Pl E).own_val (with_row d (set d.row i p)) vs))
  shut p begins there small =
      let as_long = subst (λ (k : ℕ). k * size E < 2 ^ 63) (sym (length-set d.row i p)) small in
      qed 𝓛 (‵ (place (R E) b (i * size E + o) p) ∷ ‵ Rest ∷ []) ∵ move ! (1 ∷ []) $ fsplit ! $ move ! (2 ∷ 1 ∷ []) $
      use2 𝓛 (‵ (places (R E) b o (set d.row i p))) (place_in E 𝓛 b o d.row i there p) $
      flt_i ! (length (set d.row i p) * size E) (2 ^ 63) as_long $ fjoin ! $
      rewrite ! 0 (λ (at : Ptr). ‵ (places_owned (R E) at (set d.row i p))) (sym begins) refl $ move ! (1 ∷ []) $ fjoin ! $ done !

  -- all but the value that is lent
  abbrev pub Kept : ℕ → ℕ → Fml
  Kept rb ro = fsep Rest (cell_at full_share (Pl E).mir vs rb ro)

  -- with any value in the place it lies where it lay
  pub comes_back : (rb ro : ℕ) → d.at ≡ block_ptr b o → i < length d.row → length d.row * size E < 2 ^ 63
      → (w : el_x E) → ent 𝓤 (sep 𝓤 (sem 𝓛 ((mem (R E)).own_at w b (i * size E + o))) (sem 𝓛 (Kept rb ro))) (sem 𝓛 ((mem (Pl E)).own_at (with_row d (set d.row i (Some w))) rb ro))
  unfolding part_of
  comes_back rb ro begins there small w =
      let new = with_row d (set d.row i (Some w)) in
      qed 𝓛 (‵ (place (R E) b (i * size E + o) (Some w)) ∷ ‵ (Kept rb ro) ∷ []) ∵ move ! (1 ∷ []) $ fsplit ! $ move ! (2 ∷ 0 ∷ []) $
      use2 𝓛 (‵ ((Pl E).own_val new vs)) (shut (Some w) begins there small) $ move ! (1 ∷ 0 ∷ []) $ fjoin ! $
      fpack ! (List Val) (λ us. fsep (cell_at full_share (Pl E).mir us rb ro) ((Pl E).own_val new us)) vs $ done !

module _ (E : El) {M : Type 1} {𝓤 : Ura M} {𝓛 : Logic 𝓤} {K : Type 0} {Γ : List (Item 𝓤)} {G : Goal 𝓤 𝓛.H} where
  pub opened : K → (d : (Pl E).Denot) (vs : List Val) (i : ℕ) → i < length d.row
      → ((b o : ℕ) → d.at ≡ block_ptr b o → length d.row * size E < 2 ^ 63
      → Seq K 𝓛 (‵ (place (R E) b (i * size E + o) (get_or d.row i None)) ∷ ‵ (Rest E 𝓛 d vs b o i) ∷ Γ) G)
      → Seq K 𝓛 (‵ ((Pl E).own_val d vs) ∷ Γ) G
  opened t d vs i there next =
      fsplit t $ move t (1 ∷ []) $ in_a_block t d.at (λ at. places_owned (R E) at d.row) (id⊢ 𝓤 (never 𝓤)) (λ b o begins. fsplit t $ flt_l t (λ small.
      use1 𝓛 (‵ (place (R E) b (i * size E + o) (get_or d.row i None)) ⊛ ‵ (others E b o d.row i)) (place_out E 𝓛 b o d.row i there) $ split t $
      move t (2 ∷ 1 ∷ []) $ fjoin t $ move t (1 ∷ 0 ∷ []) $ next b o begins small))

  pub looks_into : K → (κ : Lft) (d : (Pl E).Denot) (rb ro : ℕ)
      → ((b o : ℕ) → d.at ≡ block_ptr b o → length d.row * size E < 2 ^ 63 → Seq K 𝓛 (‵ (row_lent (R E) b o d.row κ) ∷ Γ) G)
      → Seq K 𝓛 (‵ (hidden_shr (Pl E) κ d rb ro) ∷ Γ) G
  looks_into t κ d rb ro next =
      unhide t $ fsplit t $ drop t $
      in_a_block t d.at (λ at. places_lent (R E) at d.row κ) (id⊢ 𝓤 (never 𝓤)) (λ b o begins. fsplit t $ flt_l t (λ small. next b o begins small))
