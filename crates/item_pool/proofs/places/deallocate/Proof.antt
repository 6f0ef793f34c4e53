-- `deallocate` takes the owner and the deed apart: empty places that stand one behind another are room again, and the deed is the allocator's token.
-- Both go back to the allocator, which keeps them. Assumes `Logic`.
use Rattle.item_pool.proofs.WalkNames.{◌≡◌, refl, ap, subst, sym, ◌*◌, ◌<◌, ◌^◌, arith, List, [], ◌∷◌, w64, ty_unit, Val, vint, vunit, emp, id⊢, flft, Incl-trans, fact, ◌⊑◌, tables, toks, ‵, raw, ◌⊛◌, given, later, at_ret, ◌$◌, ◌∵◌, !, qed, by, move, keep, drop, use1, split, group, learn, fsplit, fsplit3, feq_i, await, whole, sub, stop, fld, of_opd, unit_lit, bin, size_word, align_word, and_then, no_more, first, blocks, exec, returns, enter, alloc_all, pass_all, free_all, look_at, get, get_in, is, sets, lands_last, env, heard, proved, shr_vals, shr_Tells, uint_vals, uint_Tells, named, owns, ShrRef, usize, framed, calls_at_last, walk_of, Al, Gives, El, R, args, P, uncapped, inst_fn, ptr_val, after, Good, word-Good, size, St, Pl, De, Spent, all_go, returned, param_laws, OfOne, handed_in, Giving, gives, gave}
use Rattle.item_pool.specs.contracts.places.deallocate as contract
use Rattle.item_pool.specs.contracts.places.deallocate.Key.{name}
use Rattle.item_pool.proofs.places.deallocate.Statement.{statement}
use Rattle.item_pool.proofs.places.deallocate.Code as code
use Rattle.item_pool.proofs.places.Start.TheLaws as start
use Rattle.item_pool.proofs.places.Places.TheLaws as places
use Rattle.item_pool.proofs.places.Deed.TheLaws as deed

pub deallocate_spec : {M : Type 1} → statement M
deallocate_spec 𝓤 𝓛 𝓜 𝓡 wired X Y LX LY g d dd met md =
    let E : El = record { row = X; laws = LX } in
    let Z : Al = record { row = Y; laws = LY; g = g; d = d; drops = dd } in
    let T = contract.ended X Y g d dd in
    let c = contract.clauses X Y g d dd 𝓛 𝓜.mem 𝓡.returns in
    let 𝓣 = tables 𝓤 𝓛.H 𝓜 𝓡 𝓡.env in
    let function = inst_fn (args E Z) code.function in
    let of_start = start.lowers (R E) (param_laws 0 X LX) in
    let of_places = places.lowers (R E) (param_laws 0 X LX) in
    let of_deed = deed.lowers (R E) (P E Z) g (param_laws 0 X LX) (param_laws 1 Y LY) in
    proved 𝓛 T (Spent 𝓛 T c) c 𝓜 𝓡
    (all_go 𝓛 3 T.signature.params T.kept ((λ κs x f. refl), ((λ κs x f. refl), ((λ κs x f. refl), ((λ κs x f. refl), ((λ κs x f. refl), tt))))))
    (name (args E Z)) function (code.unfolded 𝓤 𝓛.H 𝓜 𝓡 wired (X, (Y, tt)) d dd)
    (λ κs. (shr_vals, ((λ x. of_start.lowered x ∷ []), (uint_vals w64, ((λ x. of_places.lowered x ∷ []), ((λ x. of_deed.lowered x ∷ []), tt))))))
    (λ κs. (shr_Tells (named 0) κs.0 (P E Z), (of_start.val_is, (uint_Tells w64, (of_places.val_is, (of_deed.val_is, tt))))))
    (λ κs qs bounds a n are.
    let κ = κs.0 in let q = qs.0 in let handle = a.0 in let begins = a.1.0 in let len = a.1.1.0 in
    let owner = a.1.1.1.0 in let right = a.1.1.1.1.0 in
    let W = walk_of 𝓛 T (Spent 𝓛 T c) c in
    let y : W.Ghost = ((κs, qs, bounds, a, (shr_vals handle, (of_start.lowered begins ∷ [], (uint_vals w64 len, (of_places.lowered owner ∷ [], (of_deed.lowered right ∷ [], tt)))))), n) in
    let others = toks 𝓛 2 κs.1 qs.1 in
    qed 𝓛 (((‵ (flft κ q) ⊛ raw others) ⊛ ‵ (owns (ShrRef (named 0) κ (P E Z) ∷ St E ∷ usize ∷ Pl E ∷ De E Z ∷ []) a y.0.4))
    ∷ (raw (fact 𝓤 (κs.1.0 ⊑ X.lives)) ⊛ raw (fact 𝓤 (κs.1.1.0 ⊑ Y.lives)) ⊛ raw (fact 𝓤 (OfOne E Z owner right begins.ptr len handle.now))) ∷ []) ∵
    split ! $ split ! $ move ! (3 ∷ []) $ split ! $ drop ! $ split ! $ heard ! _ (λ within. heard ! _ (λ one.
    -- [the token; the other tokens; the parameters]
    move ! (2 ∷ []) $ fsplit3 ! $ fsplit ! $ drop ! $ move ! (2 ∷ []) $ fsplit3 ! $ move ! (2 ∷ []) $ fsplit ! $ keep ! (3 ∷ 0 ∷ 4 ∷ 6 ∷ 7 ∷ []) $
    -- [the owner; the deed; the handle; the token; the other tokens]
    enter ! _ _ _ _ _ $ alloc_all ! (λ l. pass_all ! refl ((tt, tt), (word-Good [] begins.ptr, ((tt, record { fits = are.1.1.0.1 }), ((tt, (tt, tt)), ((tt, (tt, tt)), tt))))) $
    handed_in E Z ! owner right begins.ptr len handle.now (of_places.lowered owner ∷ []) (of_deed.lowered right ∷ []) one (λ b o there small.
    -- [the room; its token; the handle; the token; the other tokens]
    let fit : len * size E < 2 ^ 64 = omega arith in
    let as_is = uncapped len (size E) fit in
    first ! $ blocks ! $
    sets ! (is ! (of_opd ! (get_in ! (fld ! refl (stop !)) (sub ! 0 refl (whole !)))) (ap ptr_val there)) refl (tt, tt) $
    sets ! (is ! (bin ! (get ! refl) (size_word !) (record { fits = rw as_is fit })) (ap (vint w64) as_is)) refl (tt, record { fits = fit }) $
    group ! 4 $ use1 𝓛 (raw ((Gives Z 𝓛 𝓜.mem 𝓡.returns).pre (Giving E Z 𝓛 𝓜.mem 𝓡.returns κ q handle len b o))) (gives E Z 𝓛 𝓜.mem 𝓡.returns κ q handle len b o (Incl-trans bounds.0 within) fit) $
    calls_at_last ! (framed 𝓤 𝓛.H 𝓜 𝓣) (Gives Z 𝓛 𝓜.mem 𝓡.returns) (met.deallocate dd) (Giving E Z 𝓛 𝓜.mem 𝓡.returns κ q handle len b o)
    (and_then ! (get ! refl) (and_then ! (get ! refl) (and_then ! (get ! refl) (and_then ! (align_word !) (no_more !))))) (λ v.
    use1 𝓛 (later (given (v ≡ vunit) (‵ (flft κ q)))) (gave E Z 𝓛 𝓜.mem 𝓡.returns κ q handle len b o v) $ await ! tt $ learn ! (λ is_unit.
    lands_last ! refl (subst (λ (w : Val). Good ty_unit w) (sym is_unit) (tt, tt)) $
    exec ! 𝓣.C 𝓣.Λ (env function.locals l) (after 1 function.body) (at_ret _ (W.post y)) $
    sets ! (of_opd ! (unit_lit !)) refl (tt, tt) $
    feq_i ! (List Val) (vunit ∷ []) (vunit ∷ []) refl $ returns ! (look_at ! 0 refl) $ free_all ! refl $ keep ! (0 ∷ 1 ∷ 2 ∷ []) $
    by ! (returned 𝓛 T c y vunit tt (tt, (tt, (tt, (tt, (tt, tt))))) (id⊢ 𝓤 (emp 𝓤))))))))))
