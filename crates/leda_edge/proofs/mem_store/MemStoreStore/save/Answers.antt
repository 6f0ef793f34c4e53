use Rattle.std.proofs.Common.{rules, ◌≡◌, ℕ, ap, sym, ◌∙◌, Global, List, [], ◌∷◌, ◌++◌, map, get_or}
use Rattle.std.specs.Prelude.{None, Some, String, Vec}
use Rattle.std.specs.List.{position}
use Rattle.std.specs.String.{string_bytes}
use Rattle.leda_edge.specs.Memory.{entry_of}
use Rattle.leda_edge.proofs.Filed.{has_name, replaced, added, saves}
use Rattle.leda_edge.proofs.mem_store.MemStoreStore.save.Goals as goal

pub returns-in-Some-clause-entries : goal.returns-in-Some-clause-entries
returns-in-Some-clause-entries c =
    let files = c.self.inside.files.items in
    let found : c.place_of.result ≡ Some c.in-Some.at = search rules in
    let here : position (has_name c.args.name.now) files ≡ Some c.in-Some.at =
    ap (position (has_name c.args.name.now)) (sym c.as_slice.ensures.value)
    ∙ sym c.place_of.ensures ∙ found in
    let seen : c.args.self.now.entries ≡ map entry_of files = search rules in
    let is : entry_of (c.index_mut.result.now.0, c.in_ok-bytes.bytes)
    ≡ (string_bytes (get_or files c.in-Some.at c.index_mut.result.now).0, c.args.bytes.now) = search rules in
    rw seen (replaced files c.args.name.now c.args.bytes.now c.in-Some.at c.index_mut.result.now
    (c.index_mut.result.now.0, c.in_ok-bytes.bytes) here is)

pub returns-in-Some-clause-saved : goal.returns-in-Some-clause-saved
returns-in-Some-clause-saved c = saves c.args.self.now.entries _ c.args.name.now c.args.bytes.now
    (returns-in-Some-clause-entries c)

pub returns-in_ok-map_err-in-None-clause-entries :
    goal.returns-in_ok-map_err-in-None-clause-entries
returns-in_ok-map_err-in-None-clause-entries c =
    let files = c.self.inside.files.items in
    let new : String Global × Vec ℕ Global = (c.in_ok-name-in-None.name, c.in_ok-bytes.bytes) in
    let found : c.place_of.result ≡ None = search rules in
    let nowhere : position (has_name c.args.name.now) files ≡ None =
    ap (position (has_name c.args.name.now)) (sym c.as_slice.ensures.value)
    ∙ sym c.place_of.ensures ∙ found in
    let seen : c.args.self.now.entries ≡ map entry_of files = search rules in
    let pushed : c.push.new.self.items ≡ files ++ new ∷ [] = search rules in
    let is : entry_of new ≡ (c.args.name.now, c.args.bytes.now) = search rules in
    rw (pushed, seen) (added files c.args.name.now c.args.bytes.now new nowhere is)

pub returns-in_ok-map_err-in-None-clause-saved : goal.returns-in_ok-map_err-in-None-clause-saved
returns-in_ok-map_err-in-None-clause-saved c =
    saves c.args.self.now.entries _ c.args.name.now c.args.bytes.now
    (returns-in_ok-map_err-in-None-clause-entries c)
