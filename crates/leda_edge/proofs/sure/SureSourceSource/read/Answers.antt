use Rattle.leda_edge.proofs.Given.{gives_next}
use Rattle.leda_edge.proofs.sure.SureSourceSource.read.Goals as goal

pub returns-clause-bytes : goal.returns-clause-bytes
returns-clause-bytes c = rw (← c.self.view_is)
    (gives_next c.self.inside.bytes.items c.deref.result.now c.args.buf.now
    c.copy_from_slice.new.self c.self.inside.at c.min-count.result c.deref.ensures.value
    c.min-count.ensures c.copy_from_slice.ensures.after)
