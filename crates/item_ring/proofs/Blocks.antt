-- Lemmas that the walks of `cells.rt` share. Assumes `Logic`.
--     place_out, place_in, place_seen      one place is taken out of the row, put back, or seen
--     blanked      the value of a place is forgotten
--     of_room, to_room      room for an array is a row of places
use mathlib.Core.Path.{◌≡◌, refl, sym}
use Prim.Native.Nat.{ℕ, zero, suc, ◌+◌, ◌*◌, ◌<◌}
use native.Mathlib.Omega.{arith}
use native.Mathlib.Nat.{zero-mul, suc-mul}
use mathlib.Core.List.{List, [], ◌∷◌}
use lib.ListN.{length, set, get_or, replicate}
use seplogic.Ra.Ura.{Ura}
use base.Fraction.{full_share}
use mir.Syntax.{ty_array}
use mir.Val.{Val, vstruct, vcons, vnil}
use base.Logic.{ent, sep, ex, guard}
use base.Fml.{Fml, Lft, ftrue, fsep, fat, froom}
use types.Logic.{Logic, sem}
use types.Kit.{‵, some, given, ◌⊛◌, ◌$◌, ◌∵◌, !, qed, by, move, keep, use1, use2, pick, learn, split, check, show, frame, fsplit, fjoin, rewrite, done}
use denote.RattleType.{RattleType}
use denote.Laws.{Is, shows}
use denote.Param.Laws.{param_laws}
use denote.Memory.{part_at}
use denote.Steps.{peeks}
use denote.Struct.Struct.{Struct}
use denote.Struct.Owning.{shape}
use borrow.Table.OneValue.{part_in, part_out}
use Rattle.std.specs.Prelude.{Option, Some, None}
use Rattle.std.specs.Mem.{type_size}
use Rattle.core.proofs.mem.Param.{El, R, el_x, elτ}
use Rattle.std_alloc.proofs.RcSteps.{Good}
use Rattle.item_ring.specs.Memory.{place, places, place_lent, places_lent}
use Rattle.item_ring.specs.contracts.cells.Cells as C-type
use Rattle.item_ring.specs.contracts.cells.Link as L-type

abbrev pub Ln : RattleType
Ln = L-type.the_row

module _ (E : El) where
  abbrev pub Cr : RattleType
  Cr = C-type.the_row (R E)

  -- the one field of `Cells`, which takes no bytes
  abbrev pub Mark : RattleType
  Mark = Struct (shape (C-type.the_type (R E)))

  abbrev pub size : ℕ
  size = type_size (R E)

  abbrev pub Place : Type 0
  Place = Option (el_x E)

abbrev pub mark : Val
mark = vstruct (vcons (vstruct vnil) vnil)

pub filled_within : {X : Type 0} (cs : List (Option X)) (i : ℕ) (x : X) → get_or cs i None ≡ Some x → i < length cs
filled_within [] i x e = cc
filled_within (c ∷ cs) zero x e = omega arith
filled_within (c ∷ cs) (suc i) x e = omega (arith, filled_within cs i x e)

module _ (E : El) {M : Type 1} {𝓤 : Ura M} (𝓛 : Logic 𝓤) (b : ℕ) where
  open 𝓛 use {H}

  abbrev s : ℕ
  s = size E

  abbrev NodeBlock : ℕ → List (Place E) → Fml
  NodeBlock = places (R E) b

  pub value_out : (x : el_x E) (o : ℕ) → ent 𝓤 (sem 𝓛 (part_at (R E) full_share x b o)) (ex 𝓤 (λ (v : Val). guard 𝓤 (Good (elτ E) v) (sep 𝓤 (H.at full_share (elτ E) b o v) (sem 𝓛 (E.row.own_val x (v ∷ []))))))
  value_out x o = qed 𝓛 (‵ (part_at (R E) full_share x b o) ∷ []) ∵
      use1 𝓛 (some (λ (v : Val). ‵ (fat full_share (elτ E) b o v) ⊛ ‵ (E.row.own_val x (v ∷ [])))) (part_out 𝓛 (R E) refl full_share x b o) $ pick ! (λ v. split ! $ move ! (1 ∷ []) $
      peeks ! (R E) (Is (R E)) (shows 𝓛 (R E)) x (v ∷ []) (λ is.
      show ! (λ (w : Val). guard 𝓤 (Good (elτ E) w) (sep 𝓤 (H.at full_share (elτ E) b o w) (sem 𝓛 (E.row.own_val x (w ∷ []))))) v $
      check ! (((param_laws 0 E.row E.laws).lawful 𝓛).typed x (v ∷ []) is).0 $ move ! (1 ∷ 0 ∷ []) $ done !))

  pub value_in : (x : el_x E) (o : ℕ) (v : Val) → ent 𝓤 (sep 𝓤 (H.at full_share (elτ E) b o v) (sem 𝓛 (E.row.own_val x (v ∷ [])))) (sem 𝓛 (part_at (R E) full_share x b o))
  value_in x o v = part_in 𝓛 (R E) refl full_share x b o v

  -- what stands in a place is forgotten
  pub blanked : (o : ℕ) (c : Place E) → ent 𝓤 (sem 𝓛 (place (R E) b o c)) (H.room (elτ E) b o)
  blanked o None = 𝓛.laws.raw-room (elτ E) b o
  blanked o (Some x) = qed 𝓛 (‵ (part_at (R E) full_share x b o) ∷ []) ∵
      use1 𝓛 (some (λ (v : Val). given (Good (elτ E) v) (‵ (fat full_share (elτ E) b o v) ⊛ ‵ (E.row.own_val x (v ∷ []))))) (value_out x o) $
      pick ! (λ v. learn ! (λ good. split ! $ keep ! (0 ∷ []) $ by ! (𝓛.laws.at_room (elτ E) b o v)))

  -- one place further on
  further : (i o : ℕ) → i * s + (o + s) ≡ suc i * s + o
  further i o = omega (arith, suc-mul i s)

  at_first : (o : ℕ) → o ≡ zero * s + o
  at_first o = omega (arith, zero-mul s)

  -- the places but for the i-th
  abbrev pub Others : ℕ → List (Place E) → ℕ → Fml
  Others o [] i = ftrue
  Others o (c ∷ cs) zero = NodeBlock (o + s) cs
  Others o (c ∷ cs) (suc i) = fsep (place (R E) b o c) (Others (o + s) cs i)

  abbrev At : List (Place E) → ℕ → ℕ → Fml
  At cs i k = place (R E) b k (get_or cs i None)

  pub place_out : (o : ℕ) (cs : List (Place E)) (i : ℕ) → i < length cs → ent 𝓤 (sem 𝓛 (NodeBlock o cs)) (sep 𝓤 (sem 𝓛 (At cs i (i * s + o))) (sem 𝓛 (Others o cs i)))
  place_out o [] i lt = absurd (omega arith)
  place_out o (c ∷ cs) zero lt = qed 𝓛 (‵ (NodeBlock o (c ∷ cs)) ∷ []) ∵ fsplit ! $ rewrite ! 0 (λ (k : ℕ). ‵ (place (R E) b k c)) (at_first o) refl $ done !
  place_out o (c ∷ cs) (suc i) lt =
      qed 𝓛 (‵ (NodeBlock o (c ∷ cs)) ∷ []) ∵ fsplit ! $ move ! (1 ∷ []) $
      use1 𝓛 (‵ (At cs i (i * s + (o + s))) ⊛ ‵ (Others (o + s) cs i)) (place_out (o + s) cs i (omega arith)) $ split ! $
      rewrite ! 0 (λ (k : ℕ). ‵ (At cs i k)) (further i o) refl $ frame ! $ move ! (1 ∷ 0 ∷ []) $ fjoin ! $ done !

  pub place_in : (o : ℕ) (cs : List (Place E)) (i : ℕ) → i < length cs → (x : Place E) → ent 𝓤 (sep 𝓤 (sem 𝓛 (place (R E) b (i * s + o) x)) (sem 𝓛 (Others o cs i))) (sem 𝓛 (NodeBlock o (set cs i x)))
  place_in o [] i lt x = absurd (omega arith)
  place_in o (c ∷ cs) zero lt x =
      qed 𝓛 (‵ (place (R E) b (zero * s + o) x) ∷ ‵ (NodeBlock (o + s) cs) ∷ []) ∵ rewrite ! 0 (λ (k : ℕ). ‵ (place (R E) b k x)) (sym (at_first o)) refl $ fjoin ! $ done !
  place_in o (c ∷ cs) (suc i) lt x =
      qed 𝓛 (‵ (place (R E) b (suc i * s + o) x) ∷ ‵ (Others o (c ∷ cs) (suc i)) ∷ []) ∵
      rewrite ! 0 (λ (k : ℕ). ‵ (place (R E) b k x)) (sym (further i o)) refl $ move ! (1 ∷ []) $ fsplit ! $ move ! (2 ∷ 1 ∷ []) $
      use2 𝓛 (‵ (NodeBlock (o + s) (set cs i x))) (place_in (o + s) cs i (omega arith) x) $ move ! (1 ∷ []) $ fjoin ! $ done !

  pub of_room : (n o : ℕ) → ent 𝓤 (H.room (ty_array (elτ E) n) b o) (sem 𝓛 (NodeBlock o (replicate n None)))
  of_room zero o = qed 𝓛 (‵ (froom (ty_array (elτ E) 0) b o) ∷ []) ∵ keep ! [] $ done !
  of_room (suc n) o = qed 𝓛 (‵ (froom (ty_array (elτ E) (suc n)) b o) ∷ []) ∵
      use1 𝓛 (‵ (froom (elτ E) b o) ⊛ ‵ (froom (ty_array (elτ E) n) b (o + s))) (𝓛.laws.room_uncons (elτ E) n b o) $ split ! $
      use1 𝓛 (‵ (place (R E) b o None)) (𝓛.laws.room-raw (elτ E) b o) $ frame ! $ by ! (of_room n (o + s))

  pub to_room : (cs : List (Place E)) (o : ℕ) → ent 𝓤 (sem 𝓛 (NodeBlock o cs)) (H.room (ty_array (elτ E) (length cs)) b o)
  to_room [] o = 𝓛.laws.room_nil (elτ E) b o
  to_room (c ∷ cs) o = qed 𝓛 (‵ (place (R E) b o c) ∷ ‵ (NodeBlock (o + s) cs) ∷ []) ∵
      use1 𝓛 (‵ (froom (elτ E) b o)) (blanked o c) $ move ! (1 ∷ []) $
      use1 𝓛 (‵ (froom (ty_array (elτ E) (length cs)) b (o + s))) (to_room cs (o + s)) $ move ! (1 ∷ []) $ by ! (𝓛.laws.room_cons (elτ E) (length cs) b o)

  module _ (κ : Lft) where
    abbrev Seen : ℕ → List (Place E) → Fml
    Seen o cs = places_lent (R E) b o cs κ

    pub place_seen : (o : ℕ) (cs : List (Place E)) (i : ℕ) → i < length cs → ent 𝓤 (sem 𝓛 (Seen o cs)) (sem 𝓛 (place_lent (R E) b (i * s + o) (get_or cs i None) κ))
    place_seen o [] i lt = absurd (omega arith)
    place_seen o (c ∷ cs) zero lt = qed 𝓛 (‵ (Seen o (c ∷ cs)) ∷ []) ∵ fsplit ! $ rewrite ! 0 (λ (k : ℕ). ‵ (place_lent (R E) b k c κ)) (at_first o) refl $ keep ! (0 ∷ []) $ done !
    place_seen o (c ∷ cs) (suc i) lt =
        qed 𝓛 (‵ (Seen o (c ∷ cs)) ∷ []) ∵ fsplit ! $ keep ! (1 ∷ []) $
        use1 𝓛 (‵ (place_lent (R E) b (i * s + (o + s)) (get_or cs i None) κ)) (place_seen (o + s) cs i (omega arith)) $
        rewrite ! 0 (λ (k : ℕ). ‵ (place_lent (R E) b k (get_or cs i None) κ)) (further i o) refl $ done !
