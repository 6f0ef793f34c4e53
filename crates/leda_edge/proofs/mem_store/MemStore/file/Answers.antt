use Rattle.std.proofs.Common.{rules, ◌≡◌, map, get_or}
use Rattle.std.specs.Prelude.{None, Some}
use Rattle.std.specs.List.{position}
use Rattle.leda_edge.specs.Memory.{entry_of}
use Rattle.leda_edge.proofs.Filed.{has_name, no_file, file_at}
use Rattle.leda_edge.proofs.mem_store.MemStore.file.Goals as goal

pub returns-in_err-at : goal.returns-in_err-at
returns-in_err-at c =
    let files = c.self.inside.files.items in
    let nowhere : position (has_name c.args.name.now) files ≡ None = search rules in
    let seen : c.args.self.now.entries ≡ map entry_of files = search rules in
    let none : c.from_residual.result ≡ None = search rules in
    rw (none, seen) (no_file files c.args.name.now nowhere)

pub returns : goal.returns
returns c =
    let files = c.self.inside.files.items in
    let here : position (has_name c.args.name.now) files ≡ Some c.in_ok-at.at = search rules in
    let seen : c.args.self.now.entries ≡ map entry_of files = search rules in
    let bytes : c.as_slice-2.result.now ≡ (get_or files c.in_ok-at.at c.index.result.now).1.items = search rules in
    rw (bytes, seen) (file_at files c.args.name.now c.in_ok-at.at c.index.result.now here)
