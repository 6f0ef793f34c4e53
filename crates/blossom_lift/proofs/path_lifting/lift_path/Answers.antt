use Rattle.std.proofs.Common.{ℕ, List, refl, sym, ◌∙◌, subst}
use Rattle.std.proofs.lemmas.Result.{IfOk-weaker}
use Rattle.match_core.specs.Path.{IsAugmenting}
use Rattle.blossom_lift.proofs.Places.{augmenting_turned}
use Rattle.blossom_lift.proofs.Steps.{path_among, turned_among, opening, longer_with, longer_same}
use Rattle.blossom_lift.proofs.path_lifting.lift_path.Goals as goal

pub hub_place-requires : goal.hub_place-requires
hub_place-requires c = path_among c.args.small.now.net c.args.small.now.matching.edges c.args.path.now c.requires.path

pub hub_place-requires-2 : goal.hub_place-requires-2
hub_place-requires-2 c = turned_among c.args.small.now.net c.args.small.now.matching.edges c.args.path.now c.as_slice-back.result.now c.requires.path (c.as_slice-back.ensures ∙ c.in_ok-turned.ensures)

pub with_way-requires-clause-place : goal.with_way-requires-clause-place
with_way-requires-clause-place c = (opening c.args.net.now c.args.small.now.net c.args.m.now.edges c.args.small.now.matching.edges c.args.b.now.nodes c.args.b.now.edges c.args.path.now c.args.small.now.hub c.in-Some.place
    c.requires.valid c.requires.matching c.requires.cycle c.requires.level.contracted c.requires.level.last c.requires.path c.in-Some.ensures).within

pub with_way-requires-clause-arc : goal.with_way-requires-clause-arc
with_way-requires-clause-arc c = (opening c.args.net.now c.args.small.now.net c.args.m.now.edges c.args.small.now.matching.edges c.args.b.now.nodes c.args.b.now.edges c.args.path.now c.args.small.now.hub c.in-Some.place
    c.requires.valid c.requires.matching c.requires.cycle c.requires.level.contracted c.requires.level.last c.requires.path c.in-Some.ensures).among

pub with_way-requires-clause-long : goal.with_way-requires-clause-long
with_way-requires-clause-long c = (opening c.args.net.now c.args.small.now.net c.args.m.now.edges c.args.small.now.matching.edges c.args.b.now.nodes c.args.b.now.edges c.args.path.now c.args.small.now.hub c.in-Some.place
    c.requires.valid c.requires.matching c.requires.cycle c.requires.level.contracted c.requires.level.last c.requires.path c.in-Some.ensures).long

pub with_way-requires-clause-some : goal.with_way-requires-clause-some
with_way-requires-clause-some c =
    let o = opening c.args.net.now c.args.small.now.net c.args.m.now.edges c.args.small.now.matching.edges c.args.b.now.nodes c.args.b.now.edges c.args.path.now c.args.small.now.hub c.in-Some.place
    c.requires.valid c.requires.matching c.requires.cycle c.requires.level.contracted c.requires.level.last c.requires.path c.in-Some.ensures in
    (o.at, o.end_place)

pub returns-in-Some : goal.returns-in-Some
returns-in-Some c = IfOk-weaker c.with_way.result _ _ (λ longer w. longer_with c.args.net.now c.args.small.now.net c.args.m.now.edges c.args.small.now.matching.edges c.args.b.now.nodes c.args.b.now.edges c.args.path.now c.args.small.now.hub c.in-Some.place c.args.b.now longer
    c.requires.valid c.requires.matching c.requires.cycle c.requires.level.contracted c.requires.level.last c.requires.path c.in-Some.ensures refl refl w) c.with_way.ensures

pub with_way-requires-in-Some-hub_place-clause-place : goal.with_way-requires-in-Some-hub_place-clause-place
with_way-requires-in-Some-hub_place-clause-place c = (opening c.args.net.now c.args.small.now.net c.args.m.now.edges c.args.small.now.matching.edges c.args.b.now.nodes c.args.b.now.edges c.as_slice-back.result.now c.args.small.now.hub c.in-Some-hub_place.place
    c.requires.valid c.requires.matching c.requires.cycle c.requires.level.contracted c.requires.level.last (subst (λ (es : List ℕ). IsAugmenting c.args.small.now.net c.args.small.now.matching.edges es) (sym (c.as_slice-back.ensures ∙ c.in_ok-turned.ensures)) (augmenting_turned c.args.small.now.net c.args.small.now.matching.edges c.args.path.now c.requires.path)) c.in-Some-hub_place.ensures).within

pub with_way-requires-in-Some-hub_place-clause-arc : goal.with_way-requires-in-Some-hub_place-clause-arc
with_way-requires-in-Some-hub_place-clause-arc c = (opening c.args.net.now c.args.small.now.net c.args.m.now.edges c.args.small.now.matching.edges c.args.b.now.nodes c.args.b.now.edges c.as_slice-back.result.now c.args.small.now.hub c.in-Some-hub_place.place
    c.requires.valid c.requires.matching c.requires.cycle c.requires.level.contracted c.requires.level.last (subst (λ (es : List ℕ). IsAugmenting c.args.small.now.net c.args.small.now.matching.edges es) (sym (c.as_slice-back.ensures ∙ c.in_ok-turned.ensures)) (augmenting_turned c.args.small.now.net c.args.small.now.matching.edges c.args.path.now c.requires.path)) c.in-Some-hub_place.ensures).among

pub with_way-requires-in-Some-hub_place-clause-long : goal.with_way-requires-in-Some-hub_place-clause-long
with_way-requires-in-Some-hub_place-clause-long c = (opening c.args.net.now c.args.small.now.net c.args.m.now.edges c.args.small.now.matching.edges c.args.b.now.nodes c.args.b.now.edges c.as_slice-back.result.now c.args.small.now.hub c.in-Some-hub_place.place
    c.requires.valid c.requires.matching c.requires.cycle c.requires.level.contracted c.requires.level.last (subst (λ (es : List ℕ). IsAugmenting c.args.small.now.net c.args.small.now.matching.edges es) (sym (c.as_slice-back.ensures ∙ c.in_ok-turned.ensures)) (augmenting_turned c.args.small.now.net c.args.small.now.matching.edges c.args.path.now c.requires.path)) c.in-Some-hub_place.ensures).long

pub with_way-requires-in-Some-hub_place-clause-some : goal.with_way-requires-in-Some-hub_place-clause-some
with_way-requires-in-Some-hub_place-clause-some c =
    let o = opening c.args.net.now c.args.small.now.net c.args.m.now.edges c.args.small.now.matching.edges c.args.b.now.nodes c.args.b.now.edges c.as_slice-back.result.now c.args.small.now.hub c.in-Some-hub_place.place
    c.requires.valid c.requires.matching c.requires.cycle c.requires.level.contracted c.requires.level.last (subst (λ (es : List ℕ). IsAugmenting c.args.small.now.net c.args.small.now.matching.edges es) (sym (c.as_slice-back.ensures ∙ c.in_ok-turned.ensures)) (augmenting_turned c.args.small.now.net c.args.small.now.matching.edges c.args.path.now c.requires.path)) c.in-Some-hub_place.ensures in
    (o.at, o.end_place)

pub returns-in-Some-hub_place : goal.returns-in-Some-hub_place
returns-in-Some-hub_place c = IfOk-weaker c.with_way-in-Some-hub_place.result _ _ (λ longer w. longer_with c.args.net.now c.args.small.now.net c.args.m.now.edges c.args.small.now.matching.edges c.args.b.now.nodes c.args.b.now.edges c.as_slice-back.result.now c.args.small.now.hub c.in-Some-hub_place.place c.args.b.now longer
    c.requires.valid c.requires.matching c.requires.cycle c.requires.level.contracted c.requires.level.last (subst (λ (es : List ℕ). IsAugmenting c.args.small.now.net c.args.small.now.matching.edges es) (sym (c.as_slice-back.ensures ∙ c.in_ok-turned.ensures)) (augmenting_turned c.args.small.now.net c.args.small.now.matching.edges c.args.path.now c.requires.path)) c.in-Some-hub_place.ensures refl refl w) c.with_way-in-Some-hub_place.ensures

pub returns : goal.returns
returns c =
    let net = c.args.net.now in
    let r = longer_same c.args.net.now c.args.small.now.net c.args.m.now.edges c.args.small.now.matching.edges c.args.b.now.nodes c.args.b.now.edges c.args.path.now c.as_slice-back.result.now c.args.small.now.hub
    c.requires.valid c.requires.matching c.requires.cycle c.requires.level.contracted c.requires.level.last c.requires.path (c.as_slice-back.ensures ∙ c.in_ok-turned.ensures) c.in_default.ensures c.in_default-hub_place.ensures in
    IfOk-weaker c.from_slice.result _ _ (λ longer e. subst (λ (es : List ℕ). IsAugmenting c.args.net.now c.args.m.now.edges es) (sym e) r) c.from_slice.ensures
