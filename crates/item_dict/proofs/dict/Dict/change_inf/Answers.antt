-- The entry keeps its key.
use Rattle.std.proofs.Common.{◌≡◌, ℤ, refl, sym, subst}
use Rattle.std.specs.FinMap as map
use Rattle.item_dict.specs.declared.dict.Dict.TheInside.{Inside}
use Rattle.item_dict.specs.Contents.{Contents, Lacks, Changes}
use Rattle.item_dict.specs.Index.{seen, pair}
use Rattle.item_pool.specs.Contents as pool
use Rattle.item_dict.proofs.Steps.{lacks, told, writes}
use Rattle.item_dict.proofs.dict.Dict.change_inf.Goals as goal

pub invariant_of-self-2 : goal.invariant_of-self-2
invariant_of-self-2 g c =
    let X = g.row.I.Denot in let p = c.self.inside in let s = c.args.it.serial in let e = c.in_ok-entry.entry.now in let x = c.replace.new.dest in
    let q : Inside X = record { pool = pool.contents (map.insert p.pool.live s (pair e.key x)) p.pool.made p.pool.spare; tree = p.tree } in
    (writes p c.self.invariant q s e x c.in_ok-entry.ensures.value.0 refl refl).1

pub returns : goal.returns
returns g c =
    let X = g.row.I.Denot in let p = c.self.inside in let s = c.args.it.serial in let e = c.in_ok-entry.entry.now in let x = c.replace.new.dest in
    let q : Inside X = record { pool = pool.contents (map.insert p.pool.live s (pair e.key x)) p.pool.made p.pool.spare; tree = p.tree } in
    let done = (writes p c.self.invariant q s e x c.in_ok-entry.ensures.value.0 refl refl).0 in (
      e.key,
      subst (λ y. Changes c.args.self.now (seen q) s e.key y c.replace.result) c.replace.ensures.after
          (subst (λ old. Changes c.args.self.now (seen q) s e.key x old) (sym c.replace.ensures.value) (subst (λ (o : Contents X). Changes o (seen q) s e.key x e.inf) c.self.view_is done)),
    )

pub returns-in_err-entry : goal.returns-in_err-entry
returns-in_err-entry g c =
    let X = g.row.I.Denot in let d = c.args.self.now in let e = seen c.self.inside in let s = c.args.it.serial in
    let none = subst (λ (o : Contents X). Lacks o s c.in_err-entry.field-0.0) c.self.view_is (lacks c.self.inside c.self.invariant s c.in_err-entry.field-0.0 c.in_err-entry.ensures.value) in
    told (λ (old : X). (k : ℤ) × Changes d e s k c.args.i old) (λ why. Lacks d s why × (e ≡ d)) c.from_residual.result c.in_err-entry.field-0.0 c.from_residual.ensures.1 (none, c.self.view_is)
