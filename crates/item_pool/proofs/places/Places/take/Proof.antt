-- `take` opens the `&mut` to the owner at the filled place, reads the value out of it, and shuts the owner over the room that is left. Assumes `Logic`.
use Rattle.item_pool.proofs.WalkNames.{◌≡◌, refl, ap, ◌∙◌, ◌+◌, ◌*◌, List, [], ◌∷◌, length, w64, Val, emp, fact_i, flft, fact, ◌⊑◌, tables, toks, ‵, raw, ◌⊛◌, at_ret, ◌$◌, ◌∵◌, !, qed, move, keep, drop, use0, split, join, fsplit3, fjoin, feq_i, frame, suffices, whole, sub, stop, fld, of_opd, through, first, blocks, exec, returns, enter, alloc_all, pass_all, free_all, look_at, get, get_in, is, sets, env, heard, opens, closes, leaves, mut_vals, mut_Tells, uint_vals, uint_Tells, named, yes, no, owns, Lasts, MutRef, usize, plain, Stays, stay_ref, Goes-ref, walk_of, El, R, inst_fn, after, word-Good, size, St, Pl, spent, all_go, nothing_left, has_of, near, opened, shut, with_row, place, Place, set, get_or, None, Some, fat, froom, full_share, layout, elτ, Ptr, word, size_word, bin, uncapped, vint, take_at, give_at, rewrite, use1, use2, done, param_laws, proved, some, given, pick, learn, load, look, sets_last, as_raw, value_out, in_row, IsFilled, Good}
use Rattle.core.proofs.mem.Param.{args}
use Rattle.item_pool.specs.contracts.places.Places.take as contract
use Rattle.item_pool.specs.contracts.places.Places.take.Key.{name}
use Rattle.item_pool.proofs.places.Places.take.Statement.{statement}
use Rattle.item_pool.proofs.places.Places.take.Code as code
use Rattle.item_pool.proofs.places.Start.TheLaws as start

pub take_spec : {M : Type 1} → statement M
take_spec 𝓤 𝓛 𝓜 𝓡 wired X LX =
    let E : El = record { row = X; laws = LX } in
    let T = contract.ended X in
    let c = contract.clauses X 𝓛 𝓜.mem 𝓡.returns in
    let 𝓣 = tables 𝓤 𝓛.H 𝓜 𝓡 𝓡.env in
    let function = inst_fn (args E) code.function in
    let of_start = start.lowers (R E) (param_laws 0 X LX) in
    let behind = plain {n = 2} (λ _. St E) ∷ plain (λ _. usize) ∷ [] in
    let stay : Stays T.signature.params T.kept = (stay_ref (0 ∷ []) tt (plain (λ _. Pl E)), spent behind (no, (yes, tt))) in
    proved 𝓛 T stay c 𝓜 𝓡
    (Goes-ref 𝓛 2 0 tt (plain (λ _. Pl E)), all_go 𝓛 2 behind (no, (yes, tt)) ((λ κs x f. refl), ((λ κs x f. refl), tt)))
    (name (args E)) function (code.unfolded 𝓤 𝓛.H 𝓜 𝓡 wired (X, tt))
    (λ κs. (mut_vals, ((λ x. of_start.lowered x ∷ []), (uint_vals w64, tt)))) (λ κs. (mut_Tells (named 0) κs.0 (Pl E), (of_start.val_is, (uint_Tells w64, tt))))
    (λ κs qs bounds a n are.
    let κ = κs.0 in let self = a.0 in let d = self.now in let begins = a.1.0 in let index = a.1.1.0 in
    let W = walk_of 𝓛 T stay c in
    let y : W.Ghost = ((κs, qs, bounds, a, (mut_vals self, (of_start.lowered begins ∷ [], (uint_vals w64 index, tt)))), n) in
    let others = toks 𝓛 1 κs.1 qs.1 in
    qed 𝓛 (((‵ (flft κ qs.0) ⊛ raw others) ⊛ ‵ (owns (MutRef (named 0) κ (Pl E) ∷ St E ∷ usize ∷ []) a y.0.4))
    ∷ (raw (fact 𝓤 (κs.1.0 ⊑ X.lives)) ⊛ raw (fact 𝓤 ((begins.ptr ≡ d.at) × IsFilled d.row index))) ∷ []) ∵
    split ! $ split ! $ move ! (3 ∷ []) $ split ! $ drop ! $ heard ! _ (λ asked.
    -- [the token; the other token; the parameters]
    move ! (2 ∷ []) $ fsplit3 ! $ fsplit3 ! $ keep ! (1 ∷ 2 ∷ 5 ∷ 6 ∷ []) $
    let x = asked.1.0 in let stands = asked.1.1 in let there = in_row d.row index x stands in
    enter ! _ _ _ _ _ $ alloc_all ! (λ l. pass_all ! refl ((tt, tt), (word-Good [] begins.ptr, ((tt, record { fits = are.1.1.0.1 }), tt))) $
    opens ! tt (Pl E) {h = d} self.ref_ptr.0 self.ref_ptr.1 (λ vs. move ! (1 ∷ []) $ opened E ! d vs index there (λ b o is_at small.
    let at = index * size E + o in let fit = near index (length d.row) (size E) there small in let as_is = uncapped index (size E) fit in
    rewrite ! 0 (λ (held : Place E). ‵ (place (R E) b at held)) stands refl $
    take_at ! 2 $ rewrite ! 0 (λ (p : Ptr). ‵ (fat full_share (layout (St E)) (l 2) 0 (word p))) (asked.0 ∙ is_at) refl $ give_at ! 2 $
    first ! $ blocks ! $
    sets ! (is ! (bin ! (get ! refl) (size_word !) (record { fits = rw as_is fit })) (ap (vint w64) as_is)) refl (tt, record { fits = fit }) $
    sets ! (bin ! (get_in ! (fld ! refl (stop !)) (sub ! 0 refl (whole !))) (get ! refl) tt) refl (tt, tt) $
    use1 𝓛 (some (λ (v : Val). given (Good (elτ E) v) (‵ (fat full_share (elτ E) b at v) ⊛ ‵ (X.own_val x (v ∷ []))))) (value_out X LX 𝓛 x b at) $ pick ! (λ v. learn ! (λ good. split ! $
    -- [the value's bytes; the value; the rest of the owner; its cell; the open borrow, in three entries; the other token]
    sets_last ! (of_opd ! (load ! (through ! refl (stop !)) (look ! 0 refl))) refl good $
    exec ! 𝓣.C 𝓣.Λ (env function.locals l) (after 1 function.body) (at_ret _ (W.post y)) $
    sets ! (of_opd ! (get ! refl)) refl good $
    let new = with_row d (set d.row index None) in
    use1 𝓛 (‵ (froom (elτ E) b at)) (𝓛.laws.at_room (elτ E) b at v) $ as_raw ! (elτ E) b at $
    move ! (0 ∷ 2 ∷ []) $ use2 𝓛 (‵ ((Pl E).own_val new vs)) (shut E 𝓛 d vs b o index None is_at there small) $
    -- [the owner; the value; its cell; the open borrow, in three entries; the other token]
    move ! (2 ∷ 0 ∷ 3 ∷ 4 ∷ 5 ∷ []) $ closes ! tt (Pl E) new vs self.ref_ptr.0 self.ref_ptr.1 $
    returns ! (look_at ! 0 refl) $ free_all ! refl $ keep ! (2 ∷ 4 ∷ 0 ∷ 1 ∷ 3 ∷ []) $
    -- [the token; the other token; two parts of the `&mut`; the value]
    let ws : Lasts T κs a = (new, (tt, (tt, tt))) in
    suffices ! _ (leaves 𝓛 T stay c y v x ws (tt, (tt, (tt, tt)))) $ join ! $ frame ! $
    fjoin ! $ feq_i ! (List Val) (mut_vals self) (mut_vals self) refl $ fjoin ! $
    use0 𝓛 (‵ (has_of κs behind (no, (yes, tt)) (spent behind (no, (yes, tt))) a.1 ws.1 y.0.4.1)) (nothing_left 𝓛 2 κs behind (no, (yes, tt)) a.1 ws.1 y.0.4.1) $
    move ! (1 ∷ 0 ∷ []) $ fjoin ! $ frame ! $ frame ! $
    use0 𝓛 (raw (fact 𝓤 ((new.at ≡ d.at) × (new.row ≡ set d.row index None)))) (fact_i 𝓤 _ (emp 𝓤) (refl, refl)) $
    use0 𝓛 (raw (fact 𝓤 (get_or d.row index None ≡ Some x))) (fact_i 𝓤 _ (emp 𝓤) stands) $ done !)))))))
