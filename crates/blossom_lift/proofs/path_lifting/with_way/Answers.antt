use Rattle.std.proofs.Common.{◌∙◌, ap, subst, List, ℕ, ◌++◌, take, drop, get_or, length, ◌-◌, length-drop, arith}
use Rattle.std.proofs.lemmas.List.{take_all}
use Rattle.std.proofs.lemmas.Result.{IfOk-weaker}
use Rattle.graph_defs.specs.Net.{Ends, source, target}
use Rattle.blossom_lift.specs.Passes.{way_to, IsEndPlace}
use Rattle.blossom_lift.proofs.path_lifting.with_way.Goals as goal

pub returns : goal.returns
returns c =
    let path = c.args.path.now in
    let place = c.args.place in
    let e : ℕ = get_or path place 0 in
    let at = c.end_place-at.result in
    IfOk-weaker c.joined.result _ _ (λ row w. record {
      at = at;
      end_place = subst (λ (ns : List ℕ). IsEndPlace ns (source c.args.net.now e) (target c.args.net.now e) at) c.as_slice-2.ensures
          (subst (λ (arcs : List Ends). IsEndPlace c.as_slice-2.result.now (get_or arcs e (0, 0)).0 (get_or arcs e (0, 0)).1 at) c.as_slice.ensures c.end_place-at.ensures);
      whole = w ∙ ap (λ (behind : List ℕ). take place path ++ (c.as_slice-4.result.now ++ behind)) (take_all (length path - place) (drop place path) (let l = length-drop place path in omega arith)) ∙ ap (λ (way : List ℕ). take place path ++ (way ++ drop place path)) (c.as_slice-4.ensures ∙ c.in_ok-way.ensures ∙ ap (λ (es : List ℕ). way_to es at) c.as_slice-3.ensures);
    })
    c.joined.ensures
