-- Room for an array of values, and the three values that a new block is handed out as. Assumes `Logic`.
--     Three, Handed        the start, the owner and the deed of a block;  what `allocate` returns
--     struct_made      a struct is made of what its fields own
--     owner_made, deed_made, handed_out        room becomes the owner of empty places;  the allocator's token becomes a deed;  with the start, both become the answer
--     refused      the answer where there is no room
--     handed_in        the owner and the deed become room and the token again
--     Asking, asks, answered      the allocator is asked for the room of n values: what the call stands for, what it takes and what it gives
--     Giving, gives, gave         the room goes back to it, likewise
use mathlib.Core.Path.{◌≡◌, refl, sym, subst, ◌∙◌}
use Prim.Native.Nat.{ℕ, ◌*◌, ◌<◌, ◌^◌}
use mathlib.Core.List.{List, [], ◌∷◌}
use lib.ListN.{length, replicate, length-replicate}
use seplogic.Ra.Ura.{Ura}
use mir.Syntax.{ty_array}
use mir.Val.{Val, vunit, vstruct, vnil, of_list}
use base.Logic.{SProp, ent, sep, emp, guard, never, id⊢}
use base.Fml.{Lft, Share, froom}
use prog.Memory.{Memory, align, capped}
use prog.Capped.{capped_fits}
use prog.Routine.{Routine}
use contract.Monad.{Fun}
use contract.BorrowLft.{◌⊑◌}
use denote.Ref.{Bor}
use types.Logic.{Logic, sem}
use types.Kit.{Item, Goal, Seq, ‵, ◌$◌, ◌∵◌, !, qed, by, move, drop, use0, use1, rewrite, fsplit, fjoin, fpack, feq_i, flt_i, flt_l, done}
use types.Match.{live}
use denote.RattleType.{RattleType, Denots, Valss, flat, owns}
use denote.Param.{param}
use denote.RawPtr.{Ptr, RawPtr, block_ptr, ptr_val, in_a_block}
use denote.Steps.{nothing}
use denote.Struct.Struct.{Shape, Struct, within}
use denote.Struct.Owning as Owning
use denote.Struct.Declared as Declared
use denote.Struct.Tuple.{Tuple, tuple_type}
use Rattle.std.specs.Prelude.{None, Ok, Err}
use Rattle.core.proofs.alloc.Calls.{Al, token, seen, Takes, Gives, at_takes, at_gives, Answered, Takes-goes, Takes-gives, Gives-goes, Gives-Gives}
use Rattle.core.proofs.mem.Param.{El, R, elτ}
use Rattle.core.proofs.slots.Leases.{block_ty, block_size, block_align}
use Rattle.core.specs.contracts.alloc.AllocError as AE
use Rattle.core.specs.contracts.marker.PhantomData as Phantom
use Rattle.core.specs.contracts.result.Result as RS
use Rattle.std_alloc.proofs.RawLayout.{as_written, as_raw}
use Rattle.std_alloc.proofs.RcSteps.{word}
use Rattle.std_alloc.proofs.ResultValues.{ok_of, err_of}
use Rattle.item_pool.specs.Ownership.{places, places_owned, deed_owned}
use Rattle.item_pool.specs.contracts.places.Places as P-type
use Rattle.item_pool.specs.contracts.places.Deed as D-type
use Rattle.item_pool.specs.contracts.places.Start as S-type
use Rattle.item_pool.proofs.OnePlace.{Pl, St, size, Place, mark, room_to_row, row_to_room}

module _ (E : El) (Z : Al) where
  abbrev pub De : RattleType
  De = D-type.the_row (R E) (param 1 Z.row) Z.g

  abbrev pub Three : RattleType
  Three = Tuple (St E ∷ Pl E ∷ De ∷ [])

  abbrev pub Handed : RattleType
  Handed = RS.the_row Three AE.the_row

abbrev made_of : (S : Shape) → Valss S.fields → Val
made_of S vss = vstruct (of_list (flat S.fields vss))

-- the one field of either owner, which takes no bytes
abbrev Nothing : RattleType
Nothing = Struct (Declared.shape (Phantom.the_type RawPtr))

abbrev none : Val
none = vstruct vnil

abbrev pub three_val : Ptr → Val
three_val p = vstruct (of_list (word p ∷ mark ∷ mark ∷ []))

abbrev pub handed_val : Ptr → Val
handed_val p = live 0 (of_list (three_val p ∷ []))

module _ {M : Type 1} {𝓤 : Ura M} (𝓛 : Logic 𝓤) where
  open 𝓛 use {H}

  pub struct_made : (S : Shape) (a : Denots S.fields) (vss : Valss S.fields) → ent 𝓤 (sem 𝓛 (owns S.fields a vss)) (sem 𝓛 ((Struct S).own_val a (made_of S vss ∷ [])))
  struct_made S a vss =
      qed 𝓛 (‵ (owns S.fields a vss) ∷ []) ∵ feq_i ! (List Val) (made_of S vss ∷ []) (made_of S vss ∷ []) refl $ fjoin ! $
      fpack ! (Valss S.fields) (within S a (made_of S vss ∷ [])) vss $ done !

  phantom : ent 𝓤 (emp 𝓤) (sem 𝓛 (Nothing.own_val tt (none ∷ [])))
  phantom = qed 𝓛 [] ∵ nothing ! $ by ! (struct_made (Declared.shape (Phantom.the_type RawPtr)) tt tt)

  pub start_made : (E : El) (p : Ptr) → ent 𝓤 (emp 𝓤) (sem 𝓛 ((St E).own_val (record { ptr = p }) (word p ∷ [])))
  start_made E p =
      qed 𝓛 [] ∵ nothing ! $ feq_i ! (List Val) (ptr_val p ∷ []) (ptr_val p ∷ []) refl $ fjoin ! $
      by ! (struct_made (Declared.shape (S-type.the_type (R E))) (p, tt) (ptr_val p ∷ [], tt))

  refusal : ent 𝓤 (emp 𝓤) (sem 𝓛 (AE.the_row.own_val (record {}) (none ∷ [])))
  refusal = qed 𝓛 [] ∵ nothing ! $ by ! (struct_made (Declared.shape AE.the_type) tt tt)

module _ (E : El) (Z : Al) {M : Type 1} {𝓤 : Ura M} (𝓛 : Logic 𝓤) (len : ℕ) (a : Z.row.Denot) (b o : ℕ) where
  open 𝓛 use {H}

  abbrev start : (St E).Denot
  start = record { ptr = block_ptr b o }

  abbrev owner : (Pl E).Denot
  owner = record { mark = record {}; at = block_ptr b o; row = replicate len None }

  abbrev deed : (De E Z).Denot
  deed = record { mark = record {}; at = block_ptr b o; len = len; alloc = a }

  abbrev pub handed : (Handed E Z).Denot
  handed = Ok (start, owner, deed)

  owner_made : len * size E < 2 ^ 63 → ent 𝓤 (H.room (block_ty E len) b o) (sem 𝓛 ((Pl E).own_val owner (mark ∷ [])))
  owner_made small =
      let none_filled = subst (λ (n : ℕ). n * size E < 2 ^ 63) (sym (length-replicate len None)) small in
      qed 𝓛 (‵ (froom (block_ty E len) b o) ∷ []) ∵
      as_written ! (ty_array (elτ E) len) b o $
      use1 𝓛 (‵ (places (R E) b o owner.row)) (room_to_row E 𝓛 b len o) $
      flt_i ! (length owner.row * size E) (2 ^ 63) none_filled $ fjoin ! $
      nothing ! $ use0 𝓛 (‵ (Nothing.own_val tt (none ∷ []))) (phantom 𝓛) $ fjoin ! $
      use1 𝓛 (‵ ((Struct (Owning.shape (P-type.the_type (R E)))).own_val (tt, tt) (mark ∷ []))) (struct_made 𝓛 (Owning.shape (P-type.the_type (R E))) (tt, tt) (none ∷ [], tt)) $
      fjoin ! $ done !

  deed_made : ent 𝓤 (sem 𝓛 (token Z a (block_ty E len) (block_ptr b o))) (sem 𝓛 ((De E Z).own_val deed (mark ∷ [])))
  deed_made =
      qed 𝓛 (‵ (token Z a (block_ty E len) (block_ptr b o)) ∷ []) ∵
      nothing ! $ use0 𝓛 (‵ (Nothing.own_val tt (none ∷ []))) (phantom 𝓛) $ fjoin ! $
      use1 𝓛 (‵ ((Struct (Owning.shape (D-type.the_type (R E) (param 1 Z.row) Z.g))).own_val (tt, tt) (mark ∷ [])))
      (struct_made 𝓛 (Owning.shape (D-type.the_type (R E) (param 1 Z.row) Z.g)) (tt, tt) (none ∷ [], tt)) $
      fjoin ! $ done !

  pub handed_out : len * size E < 2 ^ 63
      → ent 𝓤 (sep 𝓤 (H.room (block_ty E len) b o) (sem 𝓛 (token Z a (block_ty E len) (block_ptr b o)))) (sem 𝓛 ((Handed E Z).own_val handed (handed_val (block_ptr b o) ∷ [])))
  handed_out small =
      let all : Shape = Declared.shape (tuple_type (St E ∷ Pl E ∷ De E Z ∷ [])) in
      qed 𝓛 (‵ (froom (block_ty E len) b o) ∷ ‵ (token Z a (block_ty E len) (block_ptr b o)) ∷ []) ∵
      use1 𝓛 (‵ ((Pl E).own_val owner (mark ∷ []))) (owner_made small) $ move ! (1 ∷ []) $
      use1 𝓛 (‵ ((De E Z).own_val deed (mark ∷ []))) deed_made $
      -- [the deed; the owner]
      nothing ! $ move ! (1 ∷ 0 ∷ []) $ fjoin ! $ move ! (1 ∷ 0 ∷ []) $ fjoin ! $ use0 𝓛 (‵ ((St E).own_val start (word start.ptr ∷ []))) (start_made 𝓛 E start.ptr) $ fjoin ! $
      use1 𝓛 (‵ ((Three E Z).own_val (start, owner, deed) (three_val start.ptr ∷ []))) (struct_made 𝓛 all (start, (owner, (deed, tt))) (word start.ptr ∷ [], (mark ∷ [], (mark ∷ [], tt)))) $
      by ! (ok_of 𝓛 (Three E Z) AE.the_row (start, owner, deed) (three_val start.ptr))

abbrev pub refused_val : Val
refused_val = live 1 (of_list (none ∷ []))

pub refused : (E : El) (Z : Al) {M : Type 1} {𝓤 : Ura M} (𝓛 : Logic 𝓤) → ent 𝓤 (emp 𝓤) (sem 𝓛 ((Handed E Z).own_val (Err (record {})) (refused_val ∷ [])))
refused E Z 𝓛 = qed 𝓛 [] ∵ use0 𝓛 (‵ (AE.the_row.own_val (record {}) (none ∷ []))) (refusal 𝓛) $ by ! (err_of 𝓛 (Three E Z) AE.the_row (record {}) none)

module _ (E : El) (Z : Al) where
  -- the owner c, all of whose places are empty, and the deed d are of the one block of n places at p, from the allocator a
  abbrev pub OfOne : (Pl E).Denot → (De E Z).Denot → Ptr → ℕ → Z.row.Denot → Type 0
  OfOne c d p n a = (c.at ≡ p) × (c.row ≡ replicate n None) × (d.at ≡ p) × (d.len ≡ n) × (d.alloc ≡ a)

module _ (E : El) (Z : Al) {M : Type 1} {𝓤 : Ura M} {𝓛 : Logic 𝓤} {K : Type 0} {Γ : List (Item 𝓤)} {G : Goal 𝓤 𝓛.H} where
  pub handed_in : K → (c : (Pl E).Denot) (d : (De E Z).Denot) (p : Ptr) (n : ℕ) (a : Z.row.Denot) (vs us : List Val) → OfOne E Z c d p n a
      → ((b o : ℕ) → p ≡ block_ptr b o → n * size E < 2 ^ 63 → Seq K 𝓛 (‵ (froom (block_ty E n) b o) ∷ ‵ (token Z a (block_ty E n) (block_ptr b o)) ∷ Γ) G)
      → Seq K 𝓛 (‵ ((Pl E).own_val c vs) ∷ ‵ ((De E Z).own_val d us) ∷ Γ) G
  handed_in t c d p n a vs us one next =
      fsplit t $ drop t $ rewrite t 0 (λ (row : List (Place E)). ‵ (places_owned (R E) c.at row)) one.1 refl $
      rewrite t 0 (λ (at : Ptr). ‵ (places_owned (R E) at (replicate n None))) one.0 refl $
      in_a_block t p (λ (at : Ptr). places_owned (R E) at (replicate n None)) (id⊢ 𝓤 (never 𝓤)) (λ b o there. fsplit t $ flt_l t (λ small.
      use1 𝓛 (‵ (froom (ty_array (elτ E) n) b o)) (row_to_room E 𝓛 b n o) $ as_raw t (ty_array (elτ E) n) b o $
      move t (1 ∷ []) $ fsplit t $ drop t $
      rewrite t 0 (λ (x : Z.row.Denot). ‵ (deed_owned (R E) (token Z x) d.at d.len)) one.4 refl $
      rewrite t 0 (λ (x : Ptr). ‵ (deed_owned (R E) (token Z a) x d.len)) (one.2 ∙ there) refl $
      rewrite t 0 (λ (k : ℕ). ‵ (deed_owned (R E) (token Z a) (block_ptr b o) k)) one.3 refl $
      move t (1 ∷ 0 ∷ []) $ next b o there (subst (λ (k : ℕ). k * size E < 2 ^ 63) (length-replicate n None) small)))

module _ (E : El) (Z : Al) {M : Type 1} {𝓤 : Ura M} (𝓛 : Logic 𝓤) (mem : Memory → SProp 𝓤) (run : Routine → Fun 𝓤) (κ : Lft) (q : Share) (h : Bor Z.row.Denot) (n : ℕ) where
  open 𝓛 use {H, A}

  abbrev pub bytes : ℕ
  bytes = n * size E

  -- an alignment that is too great for a word is passed as the greatest word
  abbrev aligned : ℕ
  aligned = capped (align (elτ E))

  abbrev pub Asking : (Takes Z 𝓛 mem run).Ghost
  Asking = at_takes Z 𝓛 mem run κ q h.ref_ptr h.now bytes aligned (block_ty E n)

  pub asks : κ ⊑ Z.row.lives → bytes < 2 ^ 64 → ent 𝓤 (sep 𝓤 (sem 𝓛 (seen Z κ h.ref_ptr h.now)) (A.lft κ q)) ((Takes Z 𝓛 mem run).pre Asking)
  asks within fit = Takes-goes Z 𝓛 mem run κ q h.ref_ptr h.now within bytes aligned (block_ty E n) (block_size E n fit) (block_align E n) fit (capped_fits (align (elτ E)))

  pub answered : (v : Val) → ent 𝓤 ((Takes Z 𝓛 mem run).post Asking v) (H.⇛ (sep 𝓤 (Answered Z 𝓛 mem run h.now (block_ty E n) v) (A.lft κ q)))
  answered v = Takes-gives Z 𝓛 mem run κ q h.ref_ptr h.now bytes aligned (block_ty E n) v

  module _ (b o : ℕ) where
    abbrev pub Giving : (Gives Z 𝓛 mem run).Ghost
    Giving = at_gives Z 𝓛 mem run κ q h.ref_ptr h.now b o bytes aligned (block_ty E n)

    pub gives : κ ⊑ Z.row.lives → bytes < 2 ^ 64
        → ent 𝓤 (sep 𝓤 (H.room (block_ty E n) b o) (sep 𝓤 (sem 𝓛 (token Z h.now (block_ty E n) (block_ptr b o))) (sep 𝓤 (sem 𝓛 (seen Z κ h.ref_ptr h.now)) (A.lft κ q)))) ((Gives Z 𝓛 mem run).pre Giving)
    gives within fit = Gives-goes Z 𝓛 mem run κ q h.ref_ptr h.now within b o bytes aligned (block_ty E n) (block_size E n fit) (block_align E n) fit (capped_fits (align (elτ E)))

    pub gave : (v : Val) → ent 𝓤 ((Gives Z 𝓛 mem run).post Giving v) (H.⇛ (guard 𝓤 (v ≡ vunit) (A.lft κ q)))
    gave v = Gives-Gives Z 𝓛 mem run κ q h.ref_ptr h.now b o bytes aligned (block_ty E n) v
