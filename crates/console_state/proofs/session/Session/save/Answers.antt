use Rattle.std.proofs.Common.{refl, ap}
use Rattle.std.specs.Prelude.{Some, Err}
use Rattle.leda_edge.specs.declared.store.SaveFault.TheVariants as saves
use Rattle.console_state.proofs.session.Session.save.Goals as goal

pub returns-in_default-clause-does : goal.returns-in_default-clause-does
returns-in_default-clause-does g c = record { fault = Some saves.NoMemory; told = refl; outcome = refl }

pub returns-in-Err-Failed-clause-does : goal.returns-in-Err-Failed-clause-does
returns-in-Err-Failed-clause-does g c = record {
  fault = Some saves.Failed;
  told = (c.in-Err-Failed.ensures.open (ap Err c.in-Err-Failed.field-0-is), c.in-Err-Failed.ensures.failed (ap Err c.in-Err-Failed.field-0-is));
  outcome = refl;
}

pub returns-clause-does : goal.returns-clause-does
returns-clause-does g c = record { fault = Some saves.NoMemory; told = c.in-Err-NoMemory.ensures.unchanged (ap Err c.in-Err-NoMemory.field-0-is); outcome = refl }
