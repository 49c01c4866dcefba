-- The fields of the interned types as a contract sees them, and what holds of them.
use Rattle.std.specs.Prelude.{◌≤◌, length}
use Rattle.pc_types_lists.specs.declared.interned_types.InternedTypes.TheInside.{Inside}
use Rattle.pc_types_lists.specs.Types.{Types}
use Rattle.pc_types_lists.specs.KeptFacts.{HaveFacts}

-- the lists as they are
abbrev pub types_of : Inside → Types
types_of s = record {
  funcs = s.funcs;
  tuples = s.tuples;
  records = s.records;
  variants = s.variants;
  lists = s.lists;
  options = s.options;
  results = s.results;
  flags = s.flags;
  enums = s.enums;
  resource_tables = s.resource_tables;
  future_tables = s.future_tables;
  stream_tables = s.stream_tables;
  error_context_tables = s.error_context_tables;
  instances = s.instances;
  components = s.components;
  modules = s.modules;
  signatures = s.signatures;
  resources = s.resources;
}

-- no list is past its last number, and each type with parts has its facts
pub record IsWithin (s : Inside) : Type 0 where
  pub funcs : length s.funcs ≤ 4294967294
  pub tuples : length s.tuples ≤ 4294967294
  pub records : length s.records ≤ 4294967294
  pub variants : length s.variants ≤ 4294967294
  pub lists : length s.lists ≤ 4294967294
  pub options : length s.options ≤ 4294967294
  pub results : length s.results ≤ 4294967294
  pub flags : length s.flags ≤ 4294967294
  pub enums : length s.enums ≤ 4294967294
  pub resource_tables : length s.resource_tables ≤ 4294967294
  pub future_tables : length s.future_tables ≤ 4294967294
  pub stream_tables : length s.stream_tables ≤ 4294967294
  pub error_context_tables : length s.error_context_tables ≤ 4294967294
  pub instances : length s.instances ≤ 4294967294
  pub components : length s.components ≤ 4294967294
  pub modules : length s.modules ≤ 4294967294
  pub signatures : length s.signatures ≤ 4294967294
  pub facts : HaveFacts s.facts s.funcs s.tuples s.records s.variants s.lists s.options s.results
