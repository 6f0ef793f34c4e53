-- `becomes` opens the `&mut` to the struct, and shuts it over what is seen from then on. Assumes `Logic`.
use mathlib.Core.Path.{refl}
use mathlib.Core.List.{List, [], ◌∷◌}
use mir.MapTy.{inst_fn}
use mir.Syntax.{a_type, named}
use mir.Val.{Val, vunit}
use base.Fml.{flft}
use base.Logic.{emp}
use contract.Lifetimes.{toks}
use contract.Monad.{fact_i}
use types.Kit.{‵, raw, ◌⊛◌, ◌$◌, ◌∵◌, !, qed, by, move, keep, split, join, fsplit, fsplit3, fjoin, feq_i, suffices, frame}
use types.Run.{of_opd, unit_lit, returns, enter}
use types.ByLocal.{alloc_all, pass_all, free_all, look_at, sets}
use denote.Param.{layouts, param}
use denote.RattleType.{RattleType, owns}
use denote.Ref.{MutRef, mut_vals, mut_Tells}
use denote.Signature.{plain}
use denote.Steps.{nothing, opens, closes}
use denote.Triple.Walked.{Stays, stay_ref, walk_of, Goes-ref}
use Rattle.std.proofs.raw_atomic.Walks.{proved, leaves}
use Rattle.leda_base.specs.contracts.seen.Seen.{the_row}
use Rattle.leda_base.specs.contracts.seen.Seen.becomes as promise
use Rattle.leda_base.specs.contracts.seen.Seen.becomes.Key.{name}
use Rattle.leda_base.proofs.seen.Seen.becomes.Statement.{statement}
use Rattle.leda_base.proofs.seen.Seen.becomes.Code as code

pub becomes_spec : {M : Type 1} → statement M
becomes_spec 𝓤 𝓛 𝓜 𝓡 wired X LX =
    let T = promise.ended X in
    let c = promise.clauses X 𝓛 𝓜.mem 𝓡.returns in
    let S : RattleType = the_row (param 0 X) in
    let args = layouts (a_type ∷ []) (X, tt) in
    let stay : Stays T.signature.params T.kept = (stay_ref (0 ∷ []) tt (plain (λ _. S)), tt) in
    proved 𝓛 T stay c 𝓜 𝓡 (Goes-ref 𝓛 2 0 tt (plain (λ _. S)), tt)
    (name args) (inst_fn args code.function) (code.unfolded 𝓤 𝓛.H 𝓜 𝓡 wired (X, tt))
    (λ κs. (mut_vals, tt)) (λ κs. (mut_Tells (named 0) κs.0 S, tt)) (λ κs qs bounds a to are.
    let self = a.0 in let b = self.ref_ptr.0 in let o = self.ref_ptr.1 in
    let new : S.Denot = record { mark = self.now.mark; view = to } in
    let W = walk_of 𝓛 T stay c in
    let y : W.Ghost = ((κs, qs, bounds, a, (mut_vals self, tt)), to) in
    qed 𝓛 (((‵ (flft κs.0 qs.0) ⊛ raw (toks 𝓛 1 κs.1 qs.1)) ⊛ ‵ (owns (MutRef (named 0) κs.0 S ∷ []) a y.0.4)) ∷ raw ((c κs a).requires to) ∷ []) ∵
    split ! $ split ! $ move ! (2 ∷ []) $ fsplit ! $ keep ! (0 ∷ 2 ∷ 3 ∷ []) $ fsplit3 ! $ move ! (1 ∷ 2 ∷ 3 ∷ []) $
    enter ! _ _ _ _ _ $ alloc_all ! (λ l. pass_all ! refl ((tt, tt), tt) $
    opens ! tt S {h = self.now} b o (λ us. closes ! tt S new us b o $
    sets ! (of_opd ! (unit_lit !)) refl (tt, tt) $ returns ! (look_at ! 0 refl) $ free_all ! refl $ keep ! (2 ∷ 4 ∷ 0 ∷ 1 ∷ []) $
    -- [the token; the other token; two parts of the `&mut`]
    suffices ! _ (leaves 𝓛 T stay c y vunit tt (new, tt) (tt, tt)) $ join ! $ frame ! $
    fjoin ! $ feq_i ! (List Val) (mut_vals self) (mut_vals self) refl $ fjoin ! $ nothing ! $ move ! (1 ∷ 0 ∷ []) $ fjoin ! $ frame ! $
    feq_i ! (List Val) (vunit ∷ []) (vunit ∷ []) refl $ frame ! $ by ! (fact_i 𝓤 _ (emp 𝓤) refl))))
