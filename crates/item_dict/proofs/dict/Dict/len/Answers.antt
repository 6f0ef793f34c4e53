-- What holds of each dictionary.
use Rattle.std.proofs.Common.{subst}
use Rattle.item_dict.specs.Contents.{Contents, AreApart, IsWithin}
use Rattle.item_dict.proofs.Steps.{apart, within}
use Rattle.item_dict.proofs.dict.Dict.len.Goals as goal

pub returns-clause-apart : goal.returns-clause-apart
returns-clause-apart g c = subst (λ (o : Contents g.row.I.Denot). AreApart o) c.self.view_is (apart c.self.inside c.self.invariant)

pub returns-clause-within : goal.returns-clause-within
returns-clause-within g c = subst (λ (o : Contents g.row.I.Denot). IsWithin o) c.self.view_is (within c.self.inside c.self.invariant c.len.ensures.within)
