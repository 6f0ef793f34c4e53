-- `allocate` lends its handle to the allocator for one call, and asks for the bytes of `len` values.
-- A block comes as room and a token. The room becomes the owner of `len` empty places, the token the deed, and both go out beside the link to the first place.
-- A refusal is passed on, with nothing made. Assumes `Logic`.
use Rattle.item_ring.proofs.WalkNames.{◌≡◌, refl, ap, true, false, ◌*◌, ◌<◌, ◌^◌, arith, [], ◌∷◌, replicate, w64, Val, vint, emp, fact_i, flft, Incl-trans, fact, ◌⊑◌, tables, toks, ‵, raw, ◌⊛◌, later, prop, at_ret, Sq, ◌$◌, ◌∵◌, !, qed, by, move, keep, drop, use0, use1, use2, split, fsplit, fsplit3, await, whole, agg, vrt, in_variant, stop, fld, lit, of_opd, bin, size_word, align_word, and_then, no_more, first, exec, returns, returns_within, enter, switches_on, alloc_all, pass_all, free_all, look_at, get, get_in, get_tag, is, sets, sets_last, lands_as, env, heard, proved, shr_vals, shr_Tells, uint_vals, uint_Tells, named, owns, ShrRef, usize, framed, calls_at, walk_of, None, IfOk, Err, FitsInBlock, Al, Answer-typed, Takes, Answered, answers, El, R, args, P, uncapped, block_ty, inst_fn, lit<, block_ptr, after, head, arm_body, word-Good, size, Spent, all_go, returned, then_on, Handed, handed, handed_out, refused, refused_val, handed_val, Three, three_val, Good, layout, Asking, asks, answered}
use Rattle.item_ring.specs.contracts.cells.allocate as contract
use Rattle.item_ring.specs.contracts.cells.allocate.Key.{name}
use Rattle.item_ring.proofs.cells.allocate.Statement.{statement}
use Rattle.item_ring.proofs.cells.allocate.Code as code

pub allocate_spec : {M : Type 1} → statement M
allocate_spec 𝓤 𝓛 𝓜 𝓡 wired X Y LX LY g d dd met md =
    let E : El = record { row = X; laws = LX } in
    let Z : Al = record { row = Y; laws = LY; g = g; d = d; drops = dd } in
    let T = contract.ended X Y g d dd in
    let c = contract.clauses X Y g d dd 𝓛 𝓜.mem 𝓡.returns in
    let 𝓣 = tables 𝓤 𝓛.H 𝓜 𝓡 𝓡.env in
    let function = inst_fn (args E Z) code.function in
    proved 𝓛 T (Spent 𝓛 T c) c 𝓜 𝓡 (all_go 𝓛 3 T.signature.params T.kept ((λ κs x f. refl), ((λ κs x f. refl), tt)))
    (name (args E Z)) function (code.unfolded 𝓤 𝓛.H 𝓜 𝓡 wired (X, (Y, tt)) d dd)
    (λ κs. (shr_vals, (uint_vals w64, tt))) (λ κs. (shr_Tells (named 0) κs.0 (P E Z), (uint_Tells w64, tt)))
    (λ κs qs bounds a n are.
    let κ = κs.0 in let q = qs.0 in let handle = a.0 in let len = a.1.0 in
    let W = walk_of 𝓛 T (Spent 𝓛 T c) c in
    let y : W.Ghost = ((κs, qs, bounds, a, (shr_vals handle, (uint_vals w64 len, tt))), n) in
    let others = toks 𝓛 2 κs.1 qs.1 in
    let ends : (r : (Handed E Z).Denot) (v : Val) → IfOk r (λ t. (t.1.at ≡ t.0.at) × (t.1.slots ≡ replicate len None) × (t.2.at ≡ t.0.at) × (t.2.len ≡ len) × (t.2.alloc ≡ handle.now))
    → Sq 𝓛 (‵ ((Handed E Z).own_val r (v ∷ [])) ∷ ‵ (flft κ q) ∷ raw others ∷ []) (prop (W.post y v)) = λ r v promised.
    by ! (returned 𝓛 T c y v r (tt, (tt, tt)) (fact_i 𝓤 _ (emp 𝓤) promised)) in
    qed 𝓛 (((‵ (flft κ q) ⊛ raw others) ⊛ ‵ (owns (ShrRef (named 0) κ (P E Z) ∷ usize ∷ []) (handle, (len, tt)) y.0.4))
    ∷ (raw (fact 𝓤 (κs.1.0 ⊑ X.lives)) ⊛ raw (fact 𝓤 (κs.1.1.0 ⊑ Y.lives)) ⊛ raw (fact 𝓤 (FitsInBlock (R E) len))) ∷ []) ∵
    split ! $ split ! $ move ! (3 ∷ []) $ split ! $ drop ! $ split ! $ heard ! _ (λ within. heard ! _ (λ asked.
    -- [the token; the other tokens; the parameters]
    move ! (2 ∷ []) $ fsplit3 ! $ fsplit ! $ drop ! $ keep ! (0 ∷ 3 ∷ 4 ∷ []) $
    let fit : len * size E < 2 ^ 64 = let small = asked.0 in omega arith in
    let as_is = uncapped len (size E) fit in
    enter ! _ _ _ _ _ $ alloc_all ! (λ l. pass_all ! refl ((tt, tt), ((tt, record { fits = are.1.0.1 }), tt)) $
    let behind = then_on 𝓤 𝓛.H 𝓣.C 𝓣.Λ (env function.locals l) (after 3 function.body) (W.post y) in
    sets ! (is ! (bin ! (get ! refl) (size_word !) (record { fits = rw as_is fit })) (ap (vint w64) as_is)) refl (tt, record { fits = fit }) $
    use2 𝓛 (raw ((Takes Z 𝓛 𝓜.mem 𝓡.returns).pre (Asking E Z 𝓛 𝓜.mem 𝓡.returns κ q handle len))) (asks E Z 𝓛 𝓜.mem 𝓡.returns κ q handle len (Incl-trans bounds.0 within) fit) $
    calls_at ! (framed 𝓤 𝓛.H 𝓜 𝓣) (Takes Z 𝓛 𝓜.mem 𝓡.returns) (met.allocate dd) (Asking E Z 𝓛 𝓜.mem 𝓡.returns κ q handle len)
    (and_then ! (get ! refl) (and_then ! (get ! refl) (and_then ! (align_word !) (no_more !)))) (λ v.
    use1 𝓛 (later (raw (Answered Z 𝓛 𝓜.mem 𝓡.returns handle.now (block_ty E len) v) ⊛ ‵ (flft κ q))) (answered E Z 𝓛 𝓜.mem 𝓡.returns κ q handle len v) $ await ! tt $ split ! $
    answers Z ! 𝓜.mem 𝓡.returns handle.now (block_ty E len) v
    (λ b o given.
    -- [the room; its token; the lifetime's token; the other tokens]
    let p = block_ptr b o in
    lands_as ! given refl (Answer-typed true b o) $
    first ! $ switches_on ! (get_tag ! (vrt ! refl (fld ! refl (stop !))) (whole !)) $
    exec ! 𝓣.C 𝓣.Λ (env function.locals l) (arm_body 0 (head (after 2 function.body))) behind $
    sets_last ! (of_opd ! (get_in ! (vrt ! refl (fld ! refl (stop !))) (in_variant ! 0 0 refl refl (whole !)))) refl (tt, tt) $
    exec ! 𝓣.C 𝓣.Λ (env function.locals l) (after 3 function.body) (at_ret _ (W.post y)) $
    sets ! (of_opd ! (get ! refl)) refl (tt, tt) $
    sets ! (agg ! (and_then ! (get ! refl) (no_more !))) refl (word-Good [] p) $
    sets ! (agg ! (no_more !)) refl (tt, tt) $
    sets ! (agg ! (and_then ! (get ! refl) (no_more !))) refl (tt, (tt, tt)) $
    sets ! (agg ! (no_more !)) refl (tt, tt) $
    sets ! (agg ! (and_then ! (get ! refl) (no_more !))) refl (tt, (tt, tt)) $
    let typed : Good (layout (Three E Z)) (three_val p) = (tt, ((tt, tt), ((tt, tt), ((tt, tt), tt)))) in
    sets ! (agg ! (and_then ! (get ! refl) (and_then ! (get ! refl) (and_then ! (get ! refl) (no_more !))))) refl typed $
    sets ! (agg ! (and_then ! (lit ! tt) (and_then ! (get ! refl) (no_more !)))) refl (tt, (record { fits = lit< tt }, (typed.1, tt))) $
    use2 𝓛 (‵ ((Handed E Z).own_val (handed E Z 𝓛 len handle.now b o) (handed_val p ∷ []))) (handed_out E Z 𝓛 len handle.now b o asked.0) $
    returns ! (look_at ! 0 refl) $ free_all ! refl $ keep ! (0 ∷ 1 ∷ 2 ∷ []) $ ends (handed E Z 𝓛 len handle.now b o) (handed_val p) (refl, refl, refl, refl, refl))
    (λ given.
    lands_as ! given refl (Answer-typed false 0 0) $
    first ! $ switches_on ! (get_tag ! (vrt ! refl (fld ! refl (stop !))) (whole !)) $
    exec ! 𝓣.C 𝓣.Λ (env function.locals l) (arm_body 1 (head (after 2 function.body))) behind $
    sets ! (agg ! (no_more !)) refl (tt, tt) $
    sets ! (agg ! (and_then ! (lit ! tt) (and_then ! (get ! refl) (no_more !)))) refl (tt, (record { fits = lit< tt }, (tt, tt))) $
    use0 𝓛 (‵ ((Handed E Z).own_val (Err (record {})) (refused_val ∷ []))) (refused E Z 𝓛) $
    returns_within ! (W.post y) refl (look_at ! 0 refl) $ free_all ! refl $ keep ! (0 ∷ 1 ∷ 2 ∷ []) $ ends (Err (record {})) refused_val tt))))))
