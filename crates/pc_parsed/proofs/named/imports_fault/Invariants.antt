use Rattle.std.proofs.Common.{◌≡◌, ◌++◌, drop, map}
use Rattle.std.specs.Option.{option_map}
use Rattle.pc_parsed.specs.ItemFaults.{import_name, imports_fault}
use Rattle.pc_parsed.specs.Names.{HaveSame}
use Rattle.pc_parsed.proofs.named.imports_fault.Given as goal

abbrev pub invariant-loop-n : goal.invariant-loop-n
invariant-loop-n l =
    (imports_fault l.table (option_map (λ x. x.now) l.exposed) l.names l.n (drop l.n l.items)
    ≡ imports_fault l.table (option_map (λ x. x.now) l.fn.exposed) l.fn.names 0 l.items)
    × HaveSame (map import_name (drop l.n l.items) ++ l.names) (map import_name l.items ++ l.fn.names)
