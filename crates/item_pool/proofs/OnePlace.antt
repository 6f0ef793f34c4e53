-- What the walks over a block's places share: how a row of places is opened at one of them, and closed again.
-- Assumes `Logic`.
--     place_out, place_in, place_seen      one place is taken out of its row, put back, or seen
--     room_to_row, row_to_room      raw room for an array is a row of empty places
use mathlib.Core.Path.{◌≡◌, refl, subst}
use Prim.Native.Nat.{ℕ, zero, suc, ◌+◌, ◌*◌, ◌<◌}
use native.Mathlib.Omega.{arith}
use native.Mathlib.Nat.{zero-mul, suc-mul}
use mathlib.Core.List.{List, [], ◌∷◌}
use lib.ListN.{length, set, get_or, replicate}
use seplogic.Ra.Ura.{Ura}
use base.Fraction.{full_share}
use mir.Syntax.{ty_array}
use mir.Val.{Val, vstruct, vcons, vnil}
use base.Logic.{SProp, ent, sep, ex, guard, via, fst∗, snd∗}
use base.Fml.{Fml, Lft, ftrue, fsep, fat, froom}
use types.Logic.{Logic, sem}
use types.Kit.{‵, some, ◌⊛◌, ◌$◌, ◌∵◌, !, qed, by, move, keep, use1, use2, pick, split, check, show, frame, fsplit, fjoin, rewrite, done}
use denote.RattleType.{RattleType}
use denote.Laws.{Is, shows}
use denote.Param.{param, layout}
use denote.Param.Laws.{Laws, param_laws}
use denote.Memory.{part_at}
use denote.Steps.{peeks}
use denote.Struct.Struct.{Struct}
use denote.Struct.Owning.{shape}
use borrow.Table.OneValue.{part_in, part_out}
use Rattle.std.specs.Prelude.{Option, Some, None}
use Rattle.std.specs.Mem.{type_size}
use Rattle.core.proofs.mem.Param.{El, R, el_x, elτ}
use Rattle.std_alloc.proofs.RcSteps.{Good}
use Rattle.item_pool.specs.Ownership.{place, places, place_lent, row_lent}
use Rattle.item_pool.specs.contracts.places.Places as P
use Rattle.item_pool.specs.contracts.places.Start as S

-- at values of the type E: the owner of places, the start of a block, the size of a value
module _ (E : El) where
  abbrev pub Pl : RattleType
  Pl = P.the_row (R E)

  abbrev pub St : RattleType
  St = S.the_row (R E)

  abbrev pub size : ℕ
  size = type_size (R E)

  abbrev pub Place : Type 0
  Place = Option (el_x E)

  -- the one field of the owner that is there when the program runs, and takes no bytes
  abbrev pub Mark : RattleType
  Mark = Struct (shape (P.the_type (R E)))

abbrev pub mark : Val
mark = vstruct (vcons (vstruct vnil) vnil)

-- A VALUE AND THE BYTES THAT IT LIES IN

module _ (Y : RattleType) (L : Laws Y) {M : Type 1} {𝓤 : Ura M} (𝓛 : Logic 𝓤) where
  open 𝓛 use {H}

  abbrev Row : RattleType
  Row = param 0 Y

  abbrev Bytes : Y.Denot → ℕ → ℕ → Val → SProp 𝓤
  Bytes x b o v = sep 𝓤 (H.at full_share (layout Y) b o v) (sem 𝓛 (Y.own_val x (v ∷ [])))

  pub value_out : (x : Y.Denot) (b o : ℕ) → ent 𝓤 (sem 𝓛 (part_at Row full_share x b o)) (ex 𝓤 (λ (v : Val). guard 𝓤 (Good (layout Y) v) (Bytes x b o v)))
  value_out x b o = qed 𝓛 (‵ (part_at Row full_share x b o) ∷ []) ∵
      use1 𝓛 (some (λ (v : Val). ‵ (fat full_share (layout Y) b o v) ⊛ ‵ (Y.own_val x (v ∷ [])))) (part_out 𝓛 Row refl full_share x b o) $ pick ! (λ v. split ! $ move ! (1 ∷ []) $
      peeks ! Row (Is Row) (shows 𝓛 Row) x (v ∷ []) (λ is.
      show ! (λ (w : Val). guard 𝓤 (Good (layout Y) w) (Bytes x b o w)) v $ check ! (((param_laws 0 Y L).lawful 𝓛).typed x (v ∷ []) is).0 $ move ! (1 ∷ 0 ∷ []) $ done !))

  pub value_in : (x : Y.Denot) (b o : ℕ) (v : Val) → ent 𝓤 (Bytes x b o v) (sem 𝓛 (part_at Row full_share x b o))
  value_in x b o v = part_in 𝓛 Row refl full_share x b o v

-- ONE PLACE AND THE OTHERS

pub in_row : {X : Type 0} (row : List (Option X)) (i : ℕ) (x : X) → get_or row i None ≡ Some x → i < length row
in_row [] i x e = cc
in_row (p ∷ row) zero x e = omega arith
in_row (p ∷ row) (suc i) x e = omega (arith, in_row row i x e)

module _ (E : El) (b : ℕ) where
  -- the row from the byte o on, without the place at the index
  abbrev pub others : ℕ → List (Place E) → ℕ → Fml
  others o [] i = ftrue
  others o (p ∷ row) zero = places (R E) b (o + size E) row
  others o (p ∷ row) (suc i) = fsep (place (R E) b o p) (others (o + size E) row i)

module _ (E : El) {M : Type 1} {𝓤 : Ura M} (𝓛 : Logic 𝓤) (b : ℕ) where
  open 𝓛 use {H}

  abbrev s : ℕ
  s = size E

  abbrev One : ℕ → Place E → Fml
  One = place (R E) b

  abbrev All : ℕ → List (Place E) → Fml
  All = places (R E) b

  out_at : (row : List (Place E)) (i o at : ℕ) → at ≡ i * s + o → i < length row → ent 𝓤 (sem 𝓛 (All o row)) (sep 𝓤 (sem 𝓛 (One at (get_or row i None))) (sem 𝓛 (others E b o row i)))
  out_at [] i o at e lt = absurd (omega arith)
  out_at (p ∷ row) zero o at e lt = qed 𝓛 (‵ (All o (p ∷ row)) ∷ []) ∵ fsplit ! $ rewrite ! 0 (λ (k : ℕ). ‵ (One k p)) {x = at} (omega (arith, zero-mul s)) refl $ done !
  out_at (p ∷ row) (suc i) o at e lt = let next : at ≡ suc i * s + o = e in qed 𝓛 (‵ (All o (p ∷ row)) ∷ []) ∵ fsplit ! $ move ! (1 ∷ []) $
      use1 𝓛 (‵ (One at (get_or row i None)) ⊛ ‵ (others E b (o + s) row i)) (out_at row i (o + s) at (omega (arith, suc-mul i s)) (omega arith)) $ split ! $ move ! (2 ∷ 1 ∷ []) $ fjoin ! $ move ! (1 ∷ 0 ∷ []) $ done !

  in_at : (row : List (Place E)) (i o at : ℕ) → at ≡ i * s + o → i < length row → (q : Place E) → ent 𝓤 (sep 𝓤 (sem 𝓛 (One at q)) (sem 𝓛 (others E b o row i))) (sem 𝓛 (All o (set row i q)))
  in_at [] i o at e lt q = absurd (omega arith)
  in_at (p ∷ row) zero o at e lt q = qed 𝓛 (‵ (One at q) ∷ ‵ (All (o + s) row) ∷ []) ∵ rewrite ! 0 (λ (k : ℕ). ‵ (One k q)) {x = o} (omega (arith, zero-mul s)) refl $ fjoin ! $ done !
  in_at (p ∷ row) (suc i) o at e lt q = let next : at ≡ suc i * s + o = e in qed 𝓛 (‵ (One at q) ∷ ‵ (others E b o (p ∷ row) (suc i)) ∷ []) ∵ move ! (1 ∷ []) $ fsplit ! $ move ! (2 ∷ 1 ∷ []) $
      use2 𝓛 (‵ (All (o + s) (set row i q))) (in_at row i (o + s) at (omega (arith, suc-mul i s)) (omega arith) q) $ move ! (1 ∷ 0 ∷ []) $ fjoin ! $ done !

  module _ (o : ℕ) (row : List (Place E)) (i : ℕ) (lt : i < length row) where
    pub place_out : ent 𝓤 (sem 𝓛 (All o row)) (sep 𝓤 (sem 𝓛 (One (i * s + o) (get_or row i None))) (sem 𝓛 (others E b o row i)))
    place_out = out_at row i o (i * s + o) refl lt

    pub place_in : (q : Place E) → ent 𝓤 (sep 𝓤 (sem 𝓛 (One (i * s + o) q)) (sem 𝓛 (others E b o row i))) (sem 𝓛 (All o (set row i q)))
    place_in q = in_at row i o (i * s + o) refl lt q

  seen_at : (κ : Lft) (row : List (Place E)) (i o at : ℕ) → at ≡ i * s + o → i < length row → ent 𝓤 (sem 𝓛 (row_lent (R E) b o row κ)) (sem 𝓛 (place_lent (R E) b at (get_or row i None) κ))
  seen_at κ [] i o at e lt = absurd (omega arith)
  seen_at κ (p ∷ row) zero o at e lt = let same : o ≡ at = omega (arith, zero-mul s) in
      subst (λ k. ent 𝓤 (sem 𝓛 (row_lent (R E) b o (p ∷ row) κ)) (sem 𝓛 (place_lent (R E) b k p κ))) same (fst∗ 𝓤 (sem 𝓛 (place_lent (R E) b o p κ)) (sem 𝓛 (row_lent (R E) b (o + s) row κ)))
  seen_at κ (p ∷ row) (suc i) o at e lt = let next : at ≡ suc i * s + o = e in
      via 𝓤 (sem 𝓛 (row_lent (R E) b (o + s) row κ)) (snd∗ 𝓤 (sem 𝓛 (place_lent (R E) b o p κ)) (sem 𝓛 (row_lent (R E) b (o + s) row κ))) (seen_at κ row i (o + s) at (omega (arith, suc-mul i s)) (omega arith))

  pub place_seen : (κ : Lft) (o : ℕ) (row : List (Place E)) (i : ℕ) → i < length row → ent 𝓤 (sem 𝓛 (row_lent (R E) b o row κ)) (sem 𝓛 (place_lent (R E) b (i * s + o) (get_or row i None) κ))
  place_seen κ o row i lt = seen_at κ row i o (i * s + o) refl lt

  pub room_to_row : (n o : ℕ) → ent 𝓤 (H.room (ty_array (elτ E) n) b o) (sem 𝓛 (All o (replicate n None)))
  room_to_row zero o = qed 𝓛 (‵ (froom (ty_array (elτ E) 0) b o) ∷ []) ∵ keep ! [] $ done !
  room_to_row (suc n) o = qed 𝓛 (‵ (froom (ty_array (elτ E) (suc n)) b o) ∷ []) ∵
      use1 𝓛 (‵ (froom (elτ E) b o) ⊛ ‵ (froom (ty_array (elτ E) n) b (o + s))) (𝓛.laws.room_uncons (elτ E) n b o) $ split ! $
      use1 𝓛 (‵ (One o None)) (𝓛.laws.room-raw (elτ E) b o) $ frame ! $ by ! (room_to_row n (o + s))

  pub row_to_room : (n o : ℕ) → ent 𝓤 (sem 𝓛 (All o (replicate n None))) (H.room (ty_array (elτ E) n) b o)
  row_to_room zero o = 𝓛.laws.room_nil (elτ E) b o
  row_to_room (suc n) o = qed 𝓛 (‵ (One o None) ∷ ‵ (All (o + s) (replicate n None)) ∷ []) ∵
      use1 𝓛 (‵ (froom (elτ E) b o)) (𝓛.laws.raw-room (elτ E) b o) $ move ! (1 ∷ []) $
      use1 𝓛 (‵ (froom (ty_array (elτ E) n) b (o + s))) (row_to_room n (o + s)) $ move ! (1 ∷ []) $ by ! (𝓛.laws.room_cons (elτ E) n b o)
