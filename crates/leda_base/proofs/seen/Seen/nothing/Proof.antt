-- `nothing` makes the empty struct, with what its clause names. Assumes `Logic`.
use mathlib.Core.Path.{refl}
use mathlib.Core.List.{[], ◌∷◌}
use mir.MapTy.{inst_fn}
use mir.Syntax.{a_type}
use mir.Val.{Val, vstruct, vcons, vnil}
use base.Fml.{ftrue}
use types.Kit.{‵, raw, ◌⊛◌, ◌$◌, ◌∵◌, !, qed, move, keep, use0, split, fjoin, suffices, done}
use types.Part.{agg}
use types.Run.{and_then, no_more, returns, enter}
use types.ByLocal.{alloc_all, pass_all, free_all, look_at, get, sets}
use denote.Param.{layouts, param}
use denote.RattleType.{RattleType}
use denote.Shadow.{makes_shadow}
use denote.Steps.{nothing}
use denote.Struct.Owning.{shape}
use denote.Struct.Struct.{Struct}
use denote.Triple.Entry.{alive}
use denote.Triple.Walked.{says, walk_of, ends_at}
use Rattle.std.proofs.raw_atomic.Walks.{proved}
use Rattle.leda_base.specs.contracts.seen.Seen.{the_row, the_type}
use Rattle.leda_base.specs.contracts.seen.Seen.nothing as promise
use Rattle.leda_base.specs.contracts.seen.Seen.nothing.Key.{name}
use Rattle.leda_base.proofs.seen.Seen.nothing.Statement.{statement}
use Rattle.leda_base.proofs.seen.Seen.nothing.Code as code

-- the machine value of the struct: its one field has no bytes
abbrev empty : Val
empty = vstruct (vcons (vstruct vnil) vnil)

pub nothing_spec : {M : Type 1} → statement M
nothing_spec 𝓤 𝓛 𝓜 𝓡 wired X LX =
    let T = promise.ended X in
    let c = promise.clauses X 𝓛 𝓜.mem 𝓡.returns in
    let R : RattleType = param 0 X in
    let Fields : RattleType = Struct (shape (the_type R)) in
    let args = layouts (a_type ∷ []) (X, tt) in
    proved 𝓛 T tt c 𝓜 𝓡 tt
    (name args) (inst_fn args code.function) (code.unfolded 𝓤 𝓛.H 𝓜 𝓡 wired (X, tt))
    (λ κs. tt) (λ κs. tt) (λ κs qs bounds a first are.
    let made : (the_row R).Denot = record { mark = record {}; view = first } in
    let W = walk_of 𝓛 T tt c in
    let y : W.Ghost = ((κs, qs, bounds, a, tt), first) in
    qed 𝓛 ((raw (alive 𝓛 T.signature κs qs) ⊛ ‵ ftrue) ∷ raw ((c κs a).requires first) ∷ []) ∵ keep ! (0 ∷ []) $ split ! $ keep ! (0 ∷ []) $
    enter ! _ _ _ [] _ $ alloc_all ! (λ l. pass_all ! refl tt $
    sets ! (agg ! (no_more !)) refl (tt, tt) $ sets ! (agg ! (and_then ! (get ! refl) (no_more !))) refl (tt, (tt, tt)) $
    nothing ! $ use0 𝓛 (‵ (Fields.own_val (tt, tt) (empty ∷ []))) (makes_shadow 𝓛 (Fields.own_val (tt, tt) (empty ∷ [])) (λ vss. (tt, ((λ uss. (tt, tt)), tt))) ((vstruct vnil ∷ [], tt), (refl, ((tt, (refl, tt)), tt)))) $ fjoin ! $
    returns ! (look_at ! 0 refl) $ free_all ! refl $
    suffices ! _ (ends_at 𝓛 T tt c y empty made tt tt) $ says ! refl $
    nothing ! $ move ! (2 ∷ 0 ∷ 1 ∷ []) $ done !))
