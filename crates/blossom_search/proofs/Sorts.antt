-- A matching in the order of its edges.
use Rattle.std.proofs.Common.{◌≡◌, ◌≢◌, inl, inr, ℕ, ◌+◌, ◌<◌, ◌≤◌, Bool, cond, List, [], ◌∷◌, length, get_or, refl, sym, ◌∙◌, ap, subst, arith}
use Rattle.std.specs.List.{sum_by}
use Rattle.std.specs.List.Sorted.{IsPermutation, IsNonDecreasing, IsStrictlyIncreasing}
use Rattle.std.proofs.lemmas.Bool.{cases_eq}
use Rattle.std.proofs.lemmas.List.Sums.{sum_by-cons}
use Rattle.std.proofs.lemmas.List.Sorted.{All-permutation, sum_by-IsPermutation, length_permutation}
use Rattle.graph_defs.specs.declared.matching.MatchAnswer.{MatchAnswer}
use Rattle.graph_defs.specs.declared.net.Net.{Net}
use Rattle.graph_defs.specs.Count.{times}
use Rattle.graph_defs.specs.Net.{source, target}
use Rattle.graph_defs.specs.Matching.{is_end, degree, IsMatching, IsOddSetCover, IsMatchAnswer, cover_size}
use Rattle.graph_defs.proofs.Counts.{times_same, times_other, same_place}
use Rattle.blossom_lift.proofs.Degrees.{source_end}
use Rattle.blossom_search.specs.Forest.{IsTight}

degree_sum : (net : Net) (v : ℕ) (es : List ℕ) → degree net v es ≡ sum_by (λ x. cond {A = ℕ} (is_end net v x) 1 0) es
degree_sum net v [] = refl
degree_sum net v (e ∷ es) = (let i = degree_sum net v es in let c = sum_by-cons (λ x. cond {A = ℕ} (is_end net v x) 1 0) e es in omega arith)

moved_matching : (net : Net) (edges moved : List ℕ) → IsPermutation edges moved → IsMatching net edges → IsMatching net moved
moved_matching net edges moved p m = record {
  among = All-permutation (λ edge. edge < length net.arcs) edges moved p m.among;
  loops = All-permutation (λ edge. source net edge ≢ target net edge) edges moved p m.loops;
  apart = λ v. (let a = degree_sum net v edges in let b = degree_sum net v moved in
      let s = sum_by-IsPermutation (λ x. cond {A = ℕ} (is_end net v x) 1 0) edges moved p in let k = m.apart v in omega arith);
}

-- an edge counts at its source each time that it is listed
times_degree : (net : Net) (e : ℕ) (es : List ℕ) → times e es ≤ degree net (source net e) es
times_degree net e [] = omega arith
times_degree net e (x ∷ es) = (let i = times_degree net e es in elim (cases_eq e x) [
  | inl s ↦ (let b : cond {A = ℕ} (is_end net (source net e) x) 1 0 ≡ 1 = ap (λ (b : Bool). cond {A = ℕ} b 1 0) (source_end net (source net e) x (ap (source net) (sym s))) in
      let t = times_same e x es s in omega arith)
  | inr ne ↦ (let t = times_other e x es ne in omega arith)
])

rises : (net : Net) (edges : List ℕ) → IsMatching net edges → IsNonDecreasing edges → IsStrictlyIncreasing edges
rises net edges m h k l =
    let le : get_or edges k 0 ≤ get_or edges (k + 1) 0 = h k (k + 1) 0 (omega arith) l in
    elim (cases_eq (get_or edges k 0) (get_or edges (k + 1) 0)) [
      | inr ne ↦ omega arith
      | inl e ↦ (let t = times_degree net (get_or edges k 0) edges in
          let a = m.apart (source net (get_or edges k 0)) in
          let s = same_place (get_or edges k 0) edges k (k + 1) (omega arith) (omega arith) l refl (sym e) in absurd (omega arith))
    ]

pub answer_is : (net : Net) (edges moved cover : List ℕ) (a : MatchAnswer) → a.edges ≡ moved → a.cover ≡ cover → IsPermutation edges moved → IsNonDecreasing moved → IsMatching net edges → IsTight net edges cover → IsMatchAnswer net a
answer_is net edges moved cover a ae ac p o m t =
    let n = moved_matching net edges moved p m in
    record {
      order = subst IsStrictlyIncreasing (sym ae) (rises net moved n o);
      matching = subst (IsMatching net) (sym ae) n;
      cover = subst (IsOddSetCover net) (sym ac) t.covers_all;
      size = ap length ae ∙ length_permutation edges moved p ∙ t.size ∙ ap cover_size (sym ac);
    }
