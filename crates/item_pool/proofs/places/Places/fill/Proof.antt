-- `fill` opens the `&mut` to the owner at the empty place, puts the value into its room, and shuts the owner over it. Assumes `Logic`.
use Rattle.item_pool.proofs.WalkNames.{◌≡◌, refl, ap, sym, subst, ◌∙◌, ◌+◌, ◌*◌, ◌<◌, List, [], ◌∷◌, length, w64, Val, vunit, emp, ent, sep, fact_i, flft, fact, ◌⊑◌, tables, toks, ‵, raw, ◌⊛◌, at_ret, ◌$◌, ◌∵◌, !, qed, by, move, keep, drop, use0, split, join, fsplit3, fjoin, feq_i, frame, suffices, whole, sub, stop, fld, init, of_opd, unit_lit, assigns_last, through, first, blocks, exec, returns, enter, alloc_all, pass_all, free_all, look_at, get, get_in, is, sets, env, heard, opens, closes, proved_at, leaves, mut_vals, mut_Tells, uint_vals, uint_Tells, named, yes, no, owns, flat, types_at, Vals, Lasts, MutRef, usize, plain, on_entry, WpFn, Stays, stay_ref, Goes-ref, walk_of, El, R, inst_fn, after, word-Good, size, St, Pl, spent, all_go, nothing_left, has_of, near, opened, shut, with_row, place, Place, set, get_or, None, Some, value_in, fat, full_share, layout, elτ, Ptr, word, size_word, bin, uncapped, vint, take_at, give_at, rewrite, use2, as_written, param_laws}
use Rattle.core.proofs.mem.Param.{args, one, lawful}
use Rattle.item_pool.specs.contracts.places.Places.fill as contract
use Rattle.item_pool.specs.contracts.places.Places.fill.Key.{name}
use Rattle.item_pool.proofs.places.Places.fill.Statement.{statement}
use Rattle.item_pool.proofs.places.Places.fill.Code as code
use Rattle.item_pool.proofs.places.Start.TheLaws as start

pub fill_spec : {M : Type 1} → statement M
fill_spec 𝓤 𝓛 𝓜 𝓡 wired X LX =
    let E : El = record { row = X; laws = LX } in
    let T = contract.ended X in
    let c = contract.clauses X 𝓛 𝓜.mem 𝓡.returns in
    let 𝓣 = tables 𝓤 𝓛.H 𝓜 𝓡 𝓡.env in
    let function = inst_fn (args E) code.function in
    let of_start = start.lowers (R E) (param_laws 0 X LX) in
    let behind = plain {n = 2} (λ _. St E) ∷ plain (λ _. usize) ∷ plain (λ _. R E) ∷ [] in
    let stay : Stays T.signature.params T.kept = (stay_ref (0 ∷ []) tt (plain (λ _. Pl E)), spent behind (no, (yes, (no, tt)))) in
    proved_at 𝓛 T stay c 𝓜 𝓡
    (Goes-ref 𝓛 2 0 tt (plain (λ _. Pl E)), all_go 𝓛 2 behind (no, (yes, (no, tt))) ((λ κs x f. refl), ((λ κs x f. refl), ((λ κs x f. refl), tt))))
    (name (args E)) function (code.unfolded 𝓤 𝓛.H 𝓜 𝓡 wired (X, tt)) (λ y are.
    let κs = y.0.0 in let κ = κs.0 in let qs = y.0.1 in let a = y.0.3 in
    let self = a.0 in let d = self.now in let begins = a.1.0 in let index = a.1.1.0 in let value = a.1.1.1.0 in
    let W = walk_of 𝓛 T stay c in
    let passed = y.0.4.1.1.1.0 in
    let told = one E passed ((lawful E 𝓛).typed value passed are.1.1.1.0) in
    let v = told.0 in
    let vss : Vals T.signature κs = (mut_vals self, (of_start.lowered begins ∷ [], (uint_vals w64 index, (v ∷ [], tt)))) in
    let spelled : y.0.4 ≡ vss = λ i. (mut_Tells (named 0) κ (Pl E) self y.0.4.0 are.0 i, (of_start.val_is begins y.0.4.1.0 are.1.0 i, (uint_Tells w64 index y.0.4.1.1.0 are.1.1.0 i, (told.1 i, tt)))) in
    let others = toks 𝓛 1 κs.1 qs.1 in
    let end : W.Ghost = ((κs, qs, y.0.2, a, vss), y.1) in
    let asks = (begins.ptr ≡ d.at) × (index < length d.row) × (get_or d.row index None ≡ None) in
    subst (λ (us : Vals T.signature κs). ent 𝓤 (sep 𝓤 (on_entry 𝓛 T.signature κs qs a us) ((c κs a).requires y.1))
    (WpFn 𝓤 𝓛.H 𝓣.C 𝓣.Λ function (flat (types_at T.signature.params κs) us) (W.post ((κs, qs, y.0.2, a, us), y.1)))) (sym spelled)
    (qed 𝓛 (((‵ (flft κ qs.0) ⊛ raw others) ⊛ ‵ (owns (MutRef (named 0) κ (Pl E) ∷ St E ∷ usize ∷ R E ∷ []) a vss)) ∷ (raw (fact 𝓤 (κs.1.0 ⊑ X.lives)) ⊛ raw (fact 𝓤 asks)) ∷ []) ∵
    split ! $ split ! $ move ! (3 ∷ []) $ split ! $ drop ! $ heard ! _ (λ asked.
    -- [the token; the other token; the parameters]
    move ! (2 ∷ []) $ fsplit3 ! $ fsplit3 ! $ move ! (4 ∷ []) $ fsplit3 ! $ keep ! (4 ∷ 5 ∷ 7 ∷ 1 ∷ 8 ∷ []) $
    enter ! _ _ _ _ _ $ alloc_all ! (λ l. pass_all ! refl ((tt, tt), (word-Good [] begins.ptr, ((tt, record { fits = are.1.1.0.1 }), (told.2, tt)))) $
    opens ! tt (Pl E) {h = d} self.ref_ptr.0 self.ref_ptr.1 (λ vs. move ! (1 ∷ []) $ opened E ! d vs index asked.1 (λ b o is_at small.
    let at = index * size E + o in let fit = near index (length d.row) (size E) asked.1 small in let as_is = uncapped index (size E) fit in
    rewrite ! 0 (λ (held : Place E). ‵ (place (R E) b at held)) asked.2 refl $ as_written ! (elτ E) b at $
    -- [the room of the place; the rest of the owner; its cell; the open borrow, in three entries; the value; the other token]
    take_at ! 2 $ rewrite ! 0 (λ (p : Ptr). ‵ (fat full_share (layout (St E)) (l 2) 0 (word p))) (asked.0 ∙ is_at) refl $ give_at ! 2 $
    first ! $ blocks ! $
    sets ! (is ! (bin ! (get ! refl) (size_word !) (record { fits = rw as_is fit })) (ap (vint w64) as_is)) refl (tt, record { fits = fit }) $
    sets ! (bin ! (get_in ! (fld ! refl (stop !)) (sub ! 0 refl (whole !))) (get ! refl) tt) refl (tt, tt) $
    sets ! (of_opd ! (get ! refl)) refl told.2 $
    assigns_last ! (of_opd ! (get ! refl)) (through ! refl (stop !)) (init ! 0 refl told.2) $
    exec ! 𝓣.C 𝓣.Λ (env function.locals l) (after 1 function.body) (at_ret _ (W.post end)) $
    sets ! (of_opd ! (unit_lit !)) refl (tt, tt) $
    let new = with_row d (set d.row index (Some value)) in
    move ! (0 ∷ 6 ∷ []) $ use2 𝓛 (‵ (place (R E) b at (Some value))) (value_in E.row E.laws 𝓛 value b at v) $
    move ! (0 ∷ 1 ∷ []) $ use2 𝓛 (‵ ((Pl E).own_val new vs)) (shut E 𝓛 d vs b o index (Some value) is_at asked.1 small) $
    move ! (1 ∷ 0 ∷ []) $ closes ! tt (Pl E) new vs self.ref_ptr.0 self.ref_ptr.1 $
    returns ! (look_at ! 0 refl) $ free_all ! refl $ keep ! (2 ∷ 3 ∷ 0 ∷ 1 ∷ []) $
    -- [the token; the other token; two parts of the `&mut`]
    let ws : Lasts T κs a = (new, (tt, (tt, (tt, tt)))) in
    suffices ! _ (leaves 𝓛 T stay c end vunit tt ws (tt, (tt, (tt, (tt, tt))))) $ join ! $ frame ! $
    fjoin ! $ feq_i ! (List Val) (mut_vals self) (mut_vals self) refl $ fjoin ! $
    use0 𝓛 (‵ (has_of κs behind (no, (yes, (no, tt))) (spent behind (no, (yes, (no, tt)))) a.1 ws.1 vss.1)) (nothing_left 𝓛 2 κs behind (no, (yes, (no, tt))) a.1 ws.1 vss.1) $
    move ! (1 ∷ 0 ∷ []) $ fjoin ! $ frame ! $ feq_i ! (List Val) (vunit ∷ []) (vunit ∷ []) refl $ frame ! $ by ! (fact_i 𝓤 _ (emp 𝓤) (refl, refl))))))))
