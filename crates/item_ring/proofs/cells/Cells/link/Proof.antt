-- `link` adds the bytes of `index` values to the first place's address. The machine lets it, since the place is one of the block's. Assumes `Logic`.
use Rattle.item_ring.proofs.WalkNames.{◌≡◌, refl, ap, sym, ◌∙◌, ◌+◌, ◌*◌, ◌<◌, ◌^◌, arith, [], ◌∷◌, length, w64, vint, emp, fact_i, flft, fact, ◌⊑◌, tables, toks, ‵, raw, ◌⊛◌, at_ret, ◌$◌, ◌∵◌, !, qed, by, move, keep, drop, use0, split, fsplit, fsplit3, whole, sub, agg, stop, fld, of_opd, bin, size_word, and_then, no_more, first, blocks, exec, returns, enter, alloc_all, pass_all, free_all, look_at, get, get_in, is, sets, sets_last, env, heard, proved, shr_vals, shr_Tells, uint_vals, uint_Tells, named, owns, ShrRef, usize, walk_of, El, uncapped, times_below, inst_fn, block_ptr, ptr_val, ◌+ₚ◌, after, word, word-Good, size, Ln, Cr, Spent, all_go, returned, leads, looks_into, link_made}
use Rattle.core.proofs.mem.Param.{args}
use Rattle.item_ring.specs.contracts.cells.Cells.link as contract
use Rattle.item_ring.specs.contracts.cells.Cells.link.Key.{name}
use Rattle.item_ring.proofs.cells.Cells.link.Statement.{statement}
use Rattle.item_ring.proofs.cells.Cells.link.Code as code
use Rattle.item_ring.proofs.cells.Link.TheLaws as link

pub link_spec : {M : Type 1} → statement M
link_spec 𝓤 𝓛 𝓜 𝓡 wired X LX =
    let E : El = record { row = X; laws = LX } in
    let T = contract.ended X in
    let c = contract.clauses X 𝓛 𝓜.mem 𝓡.returns in
    let 𝓣 = tables 𝓤 𝓛.H 𝓜 𝓡 𝓡.env in
    let function = inst_fn (args E) code.function in
    proved 𝓛 T (Spent 𝓛 T c) c 𝓜 𝓡 (all_go 𝓛 2 T.signature.params T.kept ((λ κs x f. refl), ((λ κs x f. refl), ((λ κs x f. refl), tt))))
    (name (args E)) function (code.unfolded 𝓤 𝓛.H 𝓜 𝓡 wired (X, tt))
    (λ κs. (shr_vals, ((λ x. link.lowered x ∷ []), (uint_vals w64, tt)))) (λ κs. (shr_Tells (named 0) κs.0 (Cr E), (link.lowers.val_is, (uint_Tells w64, tt))))
    (λ κs qs bounds a n are.
    let κ = κs.0 in let d = a.0.now in let start = a.1.0 in let index = a.1.1.0 in
    let W = walk_of 𝓛 T (Spent 𝓛 T c) c in
    let y : W.Ghost = ((κs, qs, bounds, a, (shr_vals a.0, (link.lowered start ∷ [], (uint_vals w64 index, tt)))), n) in
    let others = toks 𝓛 1 κs.1 qs.1 in
    qed 𝓛 (((‵ (flft κ qs.0) ⊛ raw others) ⊛ ‵ (owns (ShrRef (named 0) κ (Cr E) ∷ Ln ∷ usize ∷ []) a y.0.4))
    ∷ (raw (fact 𝓤 (κs.1.0 ⊑ X.lives)) ⊛ raw (fact 𝓤 ((start.at ≡ d.at) × (index < length d.slots)))) ∷ []) ∵
    split ! $ split ! $ move ! (3 ∷ []) $ split ! $ drop ! $ heard ! _ (λ asked.
    -- [the token; the other token; the parameters]
    move ! (2 ∷ []) $ fsplit3 ! $ fsplit ! $ drop ! $ keep ! (0 ∷ 3 ∷ 4 ∷ []) $
    enter ! _ _ _ _ _ $ alloc_all ! (λ l. pass_all ! refl ((tt, tt), (word-Good [] start.at, ((tt, record { fits = are.1.1.0.1 }), tt))) $
    looks_into E ! κ d a.0.ref_ptr.0 a.0.ref_ptr.1 (λ b o begins small.
    let far : index * size E < 2 ^ 64 = omega (arith, times_below index (length d.slots) (size E) (2 ^ 63) (omega arith) small) in
    let as_is = uncapped index (size E) far in
    let p = block_ptr b (index * size E + o) in
    first ! $ blocks ! $
    sets ! (is ! (of_opd ! (get_in ! (fld ! refl (stop !)) (sub ! 0 refl (whole !)))) (ap ptr_val (asked.0 ∙ begins))) refl (tt, tt) $
    sets ! (is ! (bin ! (get ! refl) (size_word !) (record { fits = rw as_is far })) (ap (vint w64) as_is)) refl (tt, record { fits = far }) $
    sets ! (bin ! (get ! refl) (get ! refl) tt) refl (tt, tt) $ sets ! (of_opd ! (get ! refl)) refl (tt, tt) $
    sets_last ! (agg ! (and_then ! (get ! refl) (no_more !))) refl (word-Good [] p) $
    exec ! 𝓣.C 𝓣.Λ (env function.locals l) (after 1 function.body) (at_ret _ (W.post y)) $
    sets ! (of_opd ! (get ! refl)) refl (word-Good [] p) $
    use0 𝓛 (‵ (Ln.own_val (record { at = p }) (word p ∷ []))) (link_made 𝓛 p) $
    returns ! (look_at ! 0 refl) $ free_all ! refl $ keep ! (0 ∷ 2 ∷ 3 ∷ []) $
    by ! (returned 𝓛 T c y (word p) (record { at = p }) (tt, (tt, (tt, tt))) (fact_i 𝓤 _ (emp 𝓤) (sym (leads d.at (d.at +ₚ (index * size E)) b o (index * size E) begins refl))))))))
