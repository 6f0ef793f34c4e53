-- The new container has no items.
use Rattle.std.proofs.Common.{true, map, subst}
use Rattle.reply_text.specs.Outcome.{Gives}
use Rattle.object_store.specs.State.{Object}
use Rattle.object_store.specs.Commands.{comes_in}
use Rattle.object_store.specs.Inner.{cell_in}
use Rattle.object_store.proofs.objects.Objects.make.Goals as goal

pub returns-clause-gives : goal.returns-clause-gives
returns-clause-gives c =
    subst (λ (o : Object). Gives true (comes_in c.args.name.now o c.args.self.now) c.args.self.now c.come_in-2.result c.come_in-2.new.self)
    (λ i. record { kind = c.new.ensures.kind i; cells = map cell_in (c.new.ensures.empty i); values = c.new.ensures.values i })
    c.come_in-2.ensures.gives
