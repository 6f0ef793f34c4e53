-- The tree has the greatest key below.
use Rattle.std.proofs.Common.{rules, sym, subst, w64}
use Rattle.std.proofs.lemmas.Int.{to_z-of_z}
use Rattle.std.specs.Prelude.{ℤ, FitsSigned}
use Rattle.item_dict.specs.Contents.{Contents, Holds, HasKey, Lacks}
use Rattle.item_dict.specs.Index.{seen, IsNamed}
use Rattle.item_dict.specs.Order.{IsNextBefore, IsFirstFrom}
use Rattle.item_dict.proofs.Ordered.{next_before_in, first_from_in}
use Rattle.item_dict.proofs.Steps.{held, lacks, alike}
use Rattle.item_dict.proofs.dict.Dict.pred.Goals as goal

pub returns-in-Some : goal.returns-in-Some
returns-in-Some g c =
    let X = g.row.I.Denot in let d = c.self.inside in let e = c.in-Ok.entry.now in let t = c.live_item.result.serial in
    let fits : FitsSigned w64 e.key = search rules in
    let found = subst (λ (o : Contents X). Holds o c.args.it.serial e.key e.inf) c.self.view_is (held d c.self.invariant c.args.it.serial e c.in-Ok.ensures.0) in
    let next = subst (λ z. (j : ℤ) × IsNextBefore (IsNamed d.tree) z c.in-Some.serial j) (to_z-of_z w64 e.key fits) c.in-Some.ensures in
    let item = subst (λ u. IsNextBefore (IsNamed d.tree) e.key u next.0) (sym c.live_item.ensures) next.1 in
    let near = next_before_in (IsNamed d.tree) (HasKey (seen d)) (alike d c.self.invariant) e.key t next.0 item in
    (e.key, (e.inf, found), (next.0, subst (λ (o : Contents X). IsNextBefore (HasKey o) e.key t next.0) c.self.view_is near))

pub returns-in-None : goal.returns-in-None
returns-in-None g c =
    let X = g.row.I.Denot in let d = c.self.inside in let e = c.in-Ok.entry.now in
    let fits : FitsSigned w64 e.key = search rules in
    let found = subst (λ (o : Contents X). Holds o c.args.it.serial e.key e.inf) c.self.view_is (held d c.self.invariant c.args.it.serial e c.in-Ok.ensures.0) in
    let end = subst (λ z. IsFirstFrom (IsNamed d.tree) z) (to_z-of_z w64 e.key fits) c.in-None.ensures in
    (e.key, (e.inf, found), subst (λ (o : Contents X). IsFirstFrom (HasKey o) e.key) c.self.view_is (first_from_in (IsNamed d.tree) (HasKey (seen d)) (alike d c.self.invariant) e.key end))

pub returns-in-Err : goal.returns-in-Err
returns-in-Err g c =
    let s = c.args.it.serial in subst (λ (o : Contents g.row.I.Denot). Lacks o s c.in-Err.why) c.self.view_is (lacks c.self.inside c.self.invariant s c.in-Err.why c.in-Err.ensures)
