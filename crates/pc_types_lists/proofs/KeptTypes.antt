-- The types keep their numbers, whichever resources are known.
use Rattle.std.proofs.Common.{refl}
use Rattle.pc_types_lists.specs.Types.{Grows, KeepsTypes, Resources, Types}
use Rattle.pc_types_lists.proofs.Growth.{grows_same, grows_trans}

-- what grows keeps the types
pub grows_keeps : (old new : Types) → Grows old new → KeepsTypes old new
grows_keeps old new g = record {
  funcs = g.funcs;
  tuples = g.tuples;
  records = g.records;
  variants = g.variants;
  lists = g.lists;
  options = g.options;
  results = g.results;
  flags = g.flags;
  enums = g.enums;
  resource_tables = g.resource_tables;
  future_tables = g.future_tables;
  stream_tables = g.stream_tables;
  error_context_tables = g.error_context_tables;
  instances = g.instances;
  components = g.components;
  modules = g.modules;
  signatures = g.signatures;
  resources = refl;
}

-- whatever was known and is known
pub keeps_whatever : (old new : Types) (r s : Resources) → KeepsTypes old new
    → KeepsTypes (record old { resources = r }) (record new { resources = s })
keeps_whatever old new r s keeps = record {
  funcs = keeps.funcs;
  tuples = keeps.tuples;
  records = keeps.records;
  variants = keeps.variants;
  lists = keeps.lists;
  options = keeps.options;
  results = keeps.results;
  flags = keeps.flags;
  enums = keeps.enums;
  resource_tables = keeps.resource_tables;
  future_tables = keeps.future_tables;
  stream_tables = keeps.stream_tables;
  error_context_tables = keeps.error_context_tables;
  instances = keeps.instances;
  components = keeps.components;
  modules = keeps.modules;
  signatures = keeps.signatures;
  resources = refl;
}

-- what stays keeps the types
pub keeps_same : (a : Types) → KeepsTypes a a
keeps_same a = grows_keeps a a (grows_same a)

-- what keeps what keeps the types keeps them
pub keeps_trans : (a b c : Types) → KeepsTypes a b → KeepsTypes b c → KeepsTypes a c
keeps_trans a b c first second =
    grows_trans a (record b { resources = a.resources }) (record c { resources = a.resources }) first
    (keeps_whatever b c a.resources a.resources second)
