-- `get_mut` opens the `&mut` to the owner at the filled place and lends the value that is there. What is kept of the owner says how it comes back:
-- with whatever the value is at last, in that place. Assumes `Logic`.
use Rattle.item_pool.proofs.WalkNames.{◌≡◌, refl, ap, ◌∙◌, ◌+◌, ◌*◌, [], ◌∷◌, length, w64, emp, fact_i, flft, fact, ◌⊑◌, tables, toks, ‵, raw, ◌⊛◌, at_ret, ◌$◌, ◌∵◌, !, qed, by, move, keep, drop, split, join, fsplit3, fjoin, frame, suffices, whole, sub, stop, fld, of_opd, through, first, blocks, exec, returns, enter, alloc_all, pass_all, free_all, look_at, get, get_in, is, sets, env, heard, opens, mut_vals, mut_Tells, uint_vals, uint_Tells, named, owns, MutBor, MutRef, usize, walk_of, El, R, inst_fn, after, word-Good, size, St, Pl, all_go, near, opened, with_row, place, Place, set, Some, fat, full_share, layout, Ptr, word, size_word, bin, uncapped, vint, take_at, give_at, rewrite, use1, param_laws, proved, some, pick, sets_last, in_row, IsFilled, Spent, hands_out, Kept, comes_back, follows, Part, lends_Part, later, await, group, GName, addr, vptr, id⊢}
use types.Logic.{sem}
use Rattle.core.proofs.mem.Param.{args}
use Rattle.item_pool.specs.contracts.places.Places.get_mut as contract
use Rattle.item_pool.specs.contracts.places.Places.get_mut.Key.{name}
use Rattle.item_pool.proofs.places.Places.get_mut.Statement.{statement}
use Rattle.item_pool.proofs.places.Places.get_mut.Code as code
use Rattle.item_pool.proofs.places.Start.TheLaws as start

pub get_mut_spec : {M : Type 1} → statement M
get_mut_spec 𝓤 𝓛 𝓜 𝓡 wired X LX =
    let E : El = record { row = X; laws = LX } in
    let T = contract.ended X in
    let c = contract.clauses X 𝓛 𝓜.mem 𝓡.returns in
    let 𝓣 = tables 𝓤 𝓛.H 𝓜 𝓡 𝓡.env in
    let function = inst_fn (args E) code.function in
    let of_start = start.lowers (R E) (param_laws 0 X LX) in
    proved 𝓛 T (Spent 𝓛 T c) c 𝓜 𝓡 (all_go 𝓛 2 T.signature.params T.kept ((λ κs x f. refl), ((λ κs x f. refl), ((λ κs x f. refl), tt))))
    (name (args E)) function (code.unfolded 𝓤 𝓛.H 𝓜 𝓡 wired (X, tt))
    (λ κs. (mut_vals, ((λ x. of_start.lowered x ∷ []), (uint_vals w64, tt)))) (λ κs. (mut_Tells (named 0) κs.0 (Pl E), (of_start.val_is, (uint_Tells w64, tt))))
    (λ κs qs bounds a n are.
    let κ = κs.0 in let q = qs.0 in let self = a.0 in let d = self.now in let begins = a.1.0 in let index = a.1.1.0 in
    let rb = self.ref_ptr.0 in let ro = self.ref_ptr.1 in let γ = self.ghost_name in
    let W = walk_of 𝓛 T (Spent 𝓛 T c) c in
    let y : W.Ghost = ((κs, qs, bounds, a, (mut_vals self, (of_start.lowered begins ∷ [], (uint_vals w64 index, tt)))), n) in
    let others = toks 𝓛 1 κs.1 qs.1 in
    qed 𝓛 (((‵ (flft κ q) ⊛ raw others) ⊛ ‵ (owns (MutRef (named 0) κ (Pl E) ∷ St E ∷ usize ∷ []) a y.0.4))
    ∷ (raw (fact 𝓤 (κs.1.0 ⊑ X.lives)) ⊛ raw (fact 𝓤 ((begins.ptr ≡ d.at) × IsFilled d.row index))) ∷ []) ∵
    split ! $ split ! $ move ! (3 ∷ []) $ split ! $ drop ! $ heard ! _ (λ asked.
    -- [the token; the other token; the parameters]
    move ! (2 ∷ []) $ fsplit3 ! $ fsplit3 ! $ keep ! (1 ∷ 2 ∷ 5 ∷ 6 ∷ []) $
    let x = asked.1.0 in let stands = asked.1.1 in let there = in_row d.row index x stands in
    enter ! _ _ _ _ _ $ alloc_all ! (λ l. pass_all ! refl ((tt, tt), (word-Good [] begins.ptr, ((tt, record { fits = are.1.1.0.1 }), tt))) $
    opens ! tt (Pl E) {h = d} rb ro (λ vs. move ! (1 ∷ []) $ opened E ! d vs index there (λ b o is_at small.
    let at = index * size E + o in let fit = near index (length d.row) (size E) there small in let as_is = uncapped index (size E) fit in
    rewrite ! 0 (λ (held : Place E). ‵ (place (R E) b at held)) stands refl $
    take_at ! 2 $ rewrite ! 0 (λ (p : Ptr). ‵ (fat full_share (layout (St E)) (l 2) 0 (word p))) (asked.0 ∙ is_at) refl $ give_at ! 2 $
    first ! $ blocks ! $
    sets ! (is ! (bin ! (get ! refl) (size_word !) (record { fits = rw as_is fit })) (ap (vint w64) as_is)) refl (tt, record { fits = fit }) $
    sets ! (bin ! (get_in ! (fld ! refl (stop !)) (sub ! 0 refl (whole !))) (get ! refl) tt) refl (tt, tt) $
    sets_last ! (addr ! (through ! refl (stop !))) refl (tt, tt) $
    exec ! 𝓣.C 𝓣.Λ (env function.locals l) (after 1 function.body) (at_ret _ (W.post y)) $
    sets ! (of_opd ! (get ! refl)) refl (tt, tt) $
    -- [the value; the rest of the owner; its cell; the open borrow, in three entries; the other token]
    let written : X.Denot → (Pl E).Denot = λ w. with_row d (set d.row index (Some w)) in
    let kept = sem 𝓛 (Kept E 𝓛 d vs b o index rb ro) in
    let back = comes_back E 𝓛 d vs b o index rb ro is_at there small in
    let before = (Pl E).coded.code d in
    move ! (1 ∷ 2 ∷ []) $ fjoin ! $ move ! (2 ∷ 3 ∷ 4 ∷ 1 ∷ 0 ∷ []) $ group ! 5 $
    use1 𝓛 (later (some (λ (δ : GName). raw (Part 𝓛 (Pl E) (R E) written (named 0) κ q rb ro b at γ kept back x δ)))) (lends_Part 𝓛 (Pl E) (R E) written (named 0) κ q rb ro b at γ kept back before before x) $
    await ! tt $ pick ! (λ δ.
    let lent : MutBor X.Denot = record { ref_ptr = (b, at); ghost_name = δ; now = x } in
    use1 𝓛 (‵ ((MutRef (named 0) κ (R E)).own_val lent (vptr b at ∷ [])) ⊛ ‵ (flft κ q) ⊛ ‵ (follows (Pl E) (R E) γ δ written)) (id⊢ 𝓤 _) $ split ! $ move ! (1 ∷ []) $ split ! $
    -- [the token; how the owner comes back; the loan; the other token]
    returns ! (look_at ! 0 refl) $ free_all ! refl $ keep ! (2 ∷ 0 ∷ 3 ∷ 1 ∷ []) $
    suffices ! _ (hands_out 𝓛 T c y (vptr b at) lent (tt, (tt, (tt, tt)))) $ frame ! $ join ! $ frame ! $ frame ! $ by ! (fact_i 𝓤 _ (emp 𝓤) stands)))))))
