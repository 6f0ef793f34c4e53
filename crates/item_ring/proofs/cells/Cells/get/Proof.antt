-- `get` follows the link, and lends what stands there for as long as the owner itself is lent: a `&` to the owner has a `&` to each value. Assumes `Logic`.
use Rattle.item_ring.proofs.WalkNames.{◌≡◌, refl, ap, ◌+◌, ◌*◌, List, [], ◌∷◌, get_or, w64, Val, vptr, emp, fact_i, flft, fact, ◌⊑◌, tables, toks, ‵, raw, ◌⊛◌, at_ret, ◌$◌, ◌∵◌, !, qed, by, move, keep, drop, use1, split, fsplit, fsplit3, fjoin, feq_i, rewrite, whole, sub, stop, fld, of_opd, addr, through, first, blocks, exec, returns, enter, alloc_all, pass_all, free_all, look_at, get, get_in, is, sets, sets_last, env, heard, hide, proved, shr_vals, shr_Tells, uint_vals, uint_Tells, named, owns, ShrRef, usize, walk_of, None, El, R, Place, IsFilled, inst_fn, ptr_val, ◌+ₚ◌, after, word-Good, size, Ln, Cr, Spent, all_go, returned, leads, looks_into, place_lent, place_seen, filled_within}
use Rattle.core.proofs.mem.Param.{args}
use Rattle.item_ring.specs.contracts.cells.Cells.get as contract
use Rattle.item_ring.specs.contracts.cells.Cells.get.Key.{name}
use Rattle.item_ring.proofs.cells.Cells.get.Statement.{statement}
use Rattle.item_ring.proofs.cells.Cells.get.Code as code
use Rattle.item_ring.proofs.cells.Link.TheLaws as link

pub get_spec : {M : Type 1} → statement M
get_spec 𝓤 𝓛 𝓜 𝓡 wired X LX =
    let E : El = record { row = X; laws = LX } in
    let T = contract.ended X in
    let c = contract.clauses X 𝓛 𝓜.mem 𝓡.returns in
    let 𝓣 = tables 𝓤 𝓛.H 𝓜 𝓡 𝓡.env in
    let function = inst_fn (args E) code.function in
    proved 𝓛 T (Spent 𝓛 T c) c 𝓜 𝓡 (all_go 𝓛 2 T.signature.params T.kept ((λ κs x f. refl), ((λ κs x f. refl), ((λ κs x f. refl), tt))))
    (name (args E)) function (code.unfolded 𝓤 𝓛.H 𝓜 𝓡 wired (X, tt))
    (λ κs. (shr_vals, ((λ x. link.lowered x ∷ []), (uint_vals w64, tt)))) (λ κs. (shr_Tells (named 0) κs.0 (Cr E), (link.lowers.val_is, (uint_Tells w64, tt))))
    (λ κs qs bounds a n are.
    let κ = κs.0 in let d = a.0.now in let led = a.1.0 in let index = a.1.1.0 in
    let W = walk_of 𝓛 T (Spent 𝓛 T c) c in
    let y : W.Ghost = ((κs, qs, bounds, a, (shr_vals a.0, (link.lowered led ∷ [], (uint_vals w64 index, tt)))), n) in
    let others = toks 𝓛 1 κs.1 qs.1 in
    qed 𝓛 (((‵ (flft κ qs.0) ⊛ raw others) ⊛ ‵ (owns (ShrRef (named 0) κ (Cr E) ∷ Ln ∷ usize ∷ []) a y.0.4))
    ∷ (raw (fact 𝓤 (κs.1.0 ⊑ X.lives)) ⊛ raw (fact 𝓤 ((led.at ≡ d.at +ₚ (index * size E)) × IsFilled d.slots index))) ∷ []) ∵
    split ! $ split ! $ move ! (3 ∷ []) $ split ! $ drop ! $ heard ! _ (λ asked.
    -- [the token; the other token; the parameters]
    move ! (2 ∷ []) $ fsplit3 ! $ fsplit ! $ drop ! $ keep ! (0 ∷ 3 ∷ 4 ∷ []) $
    let x = asked.1.0 in let stands = asked.1.1 in
    enter ! _ _ _ _ _ $ alloc_all ! (λ l. pass_all ! refl ((tt, tt), (word-Good [] led.at, ((tt, record { fits = are.1.1.0.1 }), tt))) $
    looks_into E ! κ d a.0.ref_ptr.0 a.0.ref_ptr.1 (λ b o begins small.
    let at = index * size E + o in
    use1 𝓛 (‵ (place_lent (R E) b at (get_or d.slots index None) κ)) (place_seen E 𝓛 b κ o d.slots index (filled_within d.slots index x stands)) $
    rewrite ! 0 (λ (held : Place E). ‵ (place_lent (R E) b at held κ)) stands refl $ hide ! $
    -- [the value, lent; the token; the other token]
    first ! $ blocks ! $
    sets ! (is ! (of_opd ! (get_in ! (fld ! refl (stop !)) (sub ! 0 refl (whole !)))) (ap ptr_val (leads d.at led.at b o (index * size E) begins asked.0))) refl (tt, tt) $
    sets_last ! (addr ! (through ! refl (stop !))) refl (tt, tt) $
    exec ! 𝓣.C 𝓣.Λ (env function.locals l) (after 1 function.body) (at_ret _ (W.post y)) $
    sets ! (of_opd ! (get ! refl)) refl (tt, tt) $
    feq_i ! (List Val) (vptr b at ∷ []) (vptr b at ∷ []) refl $ fjoin ! $
    returns ! (look_at ! 0 refl) $ free_all ! refl $ keep ! (0 ∷ 1 ∷ 2 ∷ []) $
    by ! (returned 𝓛 T c y (vptr b at) (record { ref_ptr = (b, at); now = x }) (tt, (tt, (tt, tt))) (fact_i 𝓤 _ (emp 𝓤) stands))))))
