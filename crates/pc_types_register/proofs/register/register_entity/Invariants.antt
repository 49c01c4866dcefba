use Rattle.pc_types_register.proofs.RegisterLemmas.{Goes}
use Rattle.pc_spec_reading.specs.Once.{each_once}
use Rattle.pc_spec_reading.specs.Resource.{resource_paths, same_number}
use Rattle.pc_types_register.proofs.register.register_entity.Given as goal

abbrev pub invariant-loop-found : goal.invariant-loop-found
invariant-loop-found g l = record {
  callable : goal.F-IsAlwaysCallable g l.find;
  goes : Goes g.F.FnMut l.fn.find (each_once same_number (resource_paths l.fn.table l.fn.entity)) l.fn.resources
      l.found-index l.find l.resources;
}
