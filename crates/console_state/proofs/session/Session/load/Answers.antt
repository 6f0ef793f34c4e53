use Rattle.std.proofs.Common.{ℕ, List, refl, sym, subst, ap, arith}
use Rattle.std.specs.Prelude.{Ok, Err, IsErrOf, length}
use Rattle.leda_edge.specs.declared.store.LoadFault.{LoadFault}
use Rattle.leda_edge.specs.declared.store.LoadFault.TheVariants as loads
use Rattle.leda_edge.specs.Causes.{Rose}
use Rattle.leda_edge.specs.Files.{LacksFile, HasLonger}
use Rattle.leda_edge.specs.Stored.{Stored, stored}
use Rattle.graph_text.specs.declared.reading.TheConstants.{TEXT_LIMIT}
use Rattle.reply_text.specs.declared.refusal.Refusal.{Refusal}
use Rattle.reply_text.specs.Outcome.{refused}
use Rattle.console_state.specs.State.{State}
use Rattle.console_state.specs.Files.{ReadsText, LoadsBy, TellsLoad}
use Rattle.console_state.specs.Refused.{load_refusal}
use Rattle.console_state.proofs.session.Session.load.Goals as goal

-- a fault of the store, by its cause
tells : {R : Type 0} (f f' : Stored) (name : List ℕ) (fault : LoadFault)
    → (IsErrOf {T = R} (Err fault) loads.Absent → LacksFile f.files name)
    → (IsErrOf {T = R} (Err fault) loads.TooBig → HasLonger f.files name TEXT_LIMIT)
    → (IsErrOf {T = R} (Err fault) loads.Failed → Rose f.faults f'.faults)
    → TellsLoad f f' name (Err fault)
tells f f' name loads.Absent absent big failed = absent refl
tells f f' name loads.TooBig absent big failed = big refl
tells f f' name loads.Failed absent big failed = failed refl
tells f f' name loads.NoMemory absent big failed = tt

-- and what it leads to
refuses : (s : State) (fault : LoadFault) → LoadsBy (Err fault) s (refused s (load_refusal fault))
refuses s loads.Absent = refl
refuses s loads.TooBig = refl
refuses s loads.Failed = refl
refuses s loads.NoMemory = refl

pub returns-in-Ok-clause-does : goal.returns-in-Ok-clause-does
returns-in-Ok-clause-does g c = record {
  answer = Ok c.in-Ok.text.items;
  told = (c.in-Ok.ensures.bytes, omega (arith, c.in-Ok.ensures.within, c.as_slice.ensures.len, ap length c.as_slice.ensures.value));
  files = c.in-Ok.ensures.kept;
  outcome = subst (λ (text : List ℕ). ReadsText text c.args.self.now (c.read_text.new.self, c.read_text.result)) c.as_slice.ensures.value c.read_text.ensures.does;
}

pub returns-in-Err-clause-does : goal.returns-in-Err-clause-does
returns-in-Err-clause-does g c =
    let told = c.in-Err.ensures in
    record {
      answer = Err c.in-Err.fault;
      told = tells (stored (g.F.Store.files c.args.files.now) (g.F.Store.faults c.args.files.now)) (stored (g.F.Store.files c.load.new.self) (g.F.Store.faults c.load.new.self)) c.args.name.now c.in-Err.fault told.absent told.too_big told.failed;
      files = told.kept;
      outcome = subst (λ (why : Refusal). LoadsBy (Err c.in-Err.fault) c.args.self.now (refused c.args.self.now why)) (sym c.load_refusal.ensures) (refuses c.args.self.now c.in-Err.fault);
    }
