use Rattle.std.proofs.Common.{◌≡◌, ◌++◌, drop, map}
use Rattle.std.specs.Option.{option_map}
use Rattle.pc_local.specs.Entries.{import_local}
use Rattle.pc_local.proofs.entry.push_imports.Given as goal

abbrev pub invariant-loop-entry : goal.invariant-loop-entry
invariant-loop-entry l =
    l.out ++ map (import_local (option_map (λ x. x.now) l.exposed)) (drop l.entry-index l.entries)
    ≡ l.fn.out ++ map (import_local (option_map (λ x. x.now) l.exposed)) l.entries
