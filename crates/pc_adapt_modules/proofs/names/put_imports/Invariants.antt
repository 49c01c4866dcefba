use Rattle.std.proofs.Common.{◌≡◌, ◌++◌, take}
use Rattle.pc_adapt_modules.specs.Entities.{named_entities}
use Rattle.pc_adapt_modules.proofs.names.put_imports.Given as goal

abbrev pub invariant-loop-place : goal.invariant-loop-place
invariant-loop-place l = l.imports ≡ l.initial.imports ++ named_entities l.number 0 (take l.place l.entities)
