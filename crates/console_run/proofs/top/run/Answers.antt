use Rattle.console_run.proofs.top.run.Goals as goal

pub returns-clause-unbegun : goal.returns-clause-unbegun
returns-clause-unbegun g c = λ unbegun. absurd (c.pump.ensures.begun unbegun)
