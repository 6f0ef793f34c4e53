-- How the walk of a function ends whose parameters are used up. Assumes `Logic`.
--     spent        says of each parameter that nothing is had of it at the return
--     AllSilent, all_go      the law that this asks of each parameter: its type says nothing at the exit
--     hands_out    what a walk still needs at the return: the result, the tokens of the lifetimes, and what is promised of the result
--     returned     the same where the promise is a fact
--     then_on      what the end of a match's arm leads to: the code behind the match
use Prim.Native.Nat.{ℕ}
use mathlib.Core.List.{List, [], ◌∷◌}
use seplogic.Ra.Ura.{Ura}
use mir.Syntax.{Body}
use mir.Val.{Val}
use base.Fml.{Fml}
use base.Logic.{SProp, ent, sep, emp, id⊢}
use prog.Wp.{Heap, Calls, Loops, Env, Wp, after_seq, at_return}
use types.Logic.{Logic, sem}
use types.Kit.{Post, any_q, ‵, raw, ◌$◌, ◌∵◌, !, qed, by, move, use0, fjoin, done}
use contract.Lifetimes.{Lfts}
use denote.RattleType.{Denots, Valss}
use denote.Signature.{Slot, type_at, types_at}
use denote.Steps.{nothing}
use denote.Triple.Clauses.{Clauses, Ended, Lasts, at_exit}
use denote.Triple.End.{Kepts, Fins}
use denote.Triple.Entry.{Res, alive}
use denote.Triple.Walked.{Stays, stay_dropped, fits_of, has_of, walk_of, Silent, AllGo, Goes-dropped}
use Rattle.std.proofs.raw_atomic.Walks.{leaves}

module _ {n : ℕ} where
  abbrev pub spent : (ss : List (Slot n)) (ks : Kepts ss) → Stays ss ks
  spent [] ks = tt
  spent (s ∷ ss) ks = (stay_dropped s ks.0, spent ss ks.1)

  fits : (κs : Lfts n) (ss : List (Slot n)) (ks : Kepts ss) (a : Denots (types_at ss κs)) (ws : Fins κs ss ks a) → fits_of κs ss ks (spent ss ks) a ws
  fits κs [] ks a ws = tt
  fits κs (s ∷ ss) ks a ws = (tt, fits κs ss ks.1 a.1 ws.1)

module _ {M : Type 1} {𝓤 : Ura M} (𝓛 : Logic 𝓤) (n : ℕ) where
  abbrev pub AllSilent : (ss : List (Slot n)) → Kepts ss → Type 1
  AllSilent [] ks = Unit {1}
  AllSilent (s ∷ ss) ks = Silent 𝓛 n s ks.0 × AllSilent ss ks.1

  pub all_go : (ss : List (Slot n)) (ks : Kepts ss) → AllSilent ss ks → AllGo 𝓛 n ss ks (spent ss ks)
  all_go [] ks silent = tt
  all_go (s ∷ ss) ks silent = (Goes-dropped 𝓛 n s ks.0 silent.0, all_go ss ks.1 silent.1)

  -- what is left of parameters that are used up is had for nothing
  pub nothing_left : (κs : Lfts n) (ss : List (Slot n)) (ks : Kepts ss) (a : Denots (types_at ss κs)) (ws : Fins κs ss ks a) (vss : Valss (types_at ss κs))
      → ent 𝓤 (emp 𝓤) (sem 𝓛 (has_of κs ss ks (spent ss ks) a ws vss))
  nothing_left κs [] ks a ws vss = id⊢ 𝓤 (emp 𝓤)
  nothing_left κs (s ∷ ss) ks a ws vss =
      qed 𝓛 [] ∵ use0 𝓛 (‵ (has_of κs ss ks.1 (spent ss ks.1) a.1 ws.1 vss.1)) (nothing_left κs ss ks.1 a.1 ws.1 vss.1) $ nothing ! $ fjoin ! $ done !

module _ {M : Type 1} {𝓤 : Ura M} (𝓛 : Logic 𝓤) (T : Ended) (c : Clauses 𝓤 T) where
  abbrev pub Spent : Stays T.signature.params T.kept
  Spent = spent T.signature.params T.kept

  module _ (y : (walk_of 𝓛 T Spent c).Ghost) (v : Val) (r : Res T.signature y.0.0) (ws : Lasts T y.0.0 y.0.3) where
    abbrev Promised : SProp 𝓤
    Promised = (c y.0.0 y.0.3).ensures y.1 r (at_exit T y.0.0 y.0.3 ws)

    abbrev Result : Fml
    Result = (type_at T.signature.result y.0.0).own_val r (v ∷ [])

    pub hands_out : ent 𝓤 (sep 𝓤 (sem 𝓛 Result) (sep 𝓤 (alive 𝓛 T.signature y.0.0 y.0.1) Promised)) ((walk_of 𝓛 T Spent c).post y v)
    hands_out =
        qed 𝓛 (‵ Result ∷ raw (alive 𝓛 T.signature y.0.0 y.0.1) ∷ raw Promised ∷ []) ∵
        use0 𝓛 (‵ (has_of y.0.0 T.signature.params T.kept Spent y.0.3 ws y.0.4)) (nothing_left 𝓛 T.signature.lifetimes y.0.0 T.signature.params T.kept y.0.3 ws y.0.4) $
        move ! (2 ∷ 0 ∷ 1 ∷ []) $ by ! (leaves 𝓛 T Spent c y v r ws (fits y.0.0 T.signature.params T.kept y.0.3 ws))

    pub returned : ent 𝓤 (emp 𝓤) Promised → ent 𝓤 (sep 𝓤 (sem 𝓛 Result) (alive 𝓛 T.signature y.0.0 y.0.1)) ((walk_of 𝓛 T Spent c).post y v)
    returned promised =
        qed 𝓛 (‵ Result ∷ raw (alive 𝓛 T.signature y.0.0 y.0.1) ∷ []) ∵
        use0 𝓛 (raw Promised) promised $ move ! (1 ∷ 2 ∷ []) $ by ! hands_out

module _ {M : Type 1} (𝓤 : Ura M) (H : Heap 𝓤) (C : Calls 𝓤 H) (Λ : Loops 𝓤 H) (E : Env 𝓤 H) where
  abbrev pub then_on : Body → (Val → SProp 𝓤) → Post 𝓤 H
  then_on behind Q = any_q (after_seq 𝓤 H (Wp 𝓤 H C Λ E behind (at_return 𝓤 H E Q)) (at_return 𝓤 H E Q))
