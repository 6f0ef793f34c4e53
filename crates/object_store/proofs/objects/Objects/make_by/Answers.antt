-- What comes in serves the graph.
use Rattle.object_store.specs.declared.object.Object.TheVariants as held
use Rattle.object_store.specs.Inner.{seen}
use Rattle.object_store.proofs.Valued.{come_serves}
use Rattle.object_store.proofs.objects.Objects.make_by.Goals as goal

pub returns-in-Ok-clause-serve : goal.returns-in-Ok-clause-serve
returns-in-Ok-clause-serve c =
    come_serves c.args.g.now c.as_slice.result.now (seen (held.Values c.in-Ok.values)) c.args.self.now c.come_in.new.self c.come_in.result c.come_in.ensures.gives c.requires.serve c.in-Ok.ensures.serves

pub returns-in-Ok-made_of_labels-clause-serve : goal.returns-in-Ok-made_of_labels-clause-serve
returns-in-Ok-made_of_labels-clause-serve c =
    let came = c.come_in-in-Ok-made_of_labels in
    let made = c.in-Ok-made_of_labels in
    come_serves c.args.g.now c.as_slice-in-Ok-made_of_labels.result.now (seen (held.Values made.values)) c.args.self.now came.new.self came.result came.ensures.gives c.requires.serve made.ensures.serves
