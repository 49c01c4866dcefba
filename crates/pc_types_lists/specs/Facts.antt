-- Which types stand anywhere in a type, told by its tree.
use Rattle.std.specs.Prelude.{Bool, true, false, ◌||◌}
use Rattle.pc_types.specs.declared.parsed.PrimType.TheVariants as prim
use Rattle.pc_types.specs.TypeTree.{TypeTree, Fields, Cases, Trees, MaybeTree, primitive, error_context, record_of}
use Rattle.pc_types.specs.TypeTree.{variant_of, list_of, tuple_of, flags_of, enum_of, option_of, result_of, own_of}
use Rattle.pc_types.specs.TypeTree.{borrow_of, stream_of, future_of, func_of, instance_of, component_of, module_of}
use Rattle.pc_types.specs.TypeTree.{resource_of, no_fields, and_field, no_cases, and_case, no_trees, and_tree, no_tree}
use Rattle.pc_types.specs.TypeTree.{a_tree}
use Rattle.pc_types_lists.specs.declared.facts.TypeFacts.{TypeFacts}

-- none of these types stands there
abbrev pub no_facts : TypeFacts
no_facts = record {
  string = false;
  list = false;
  own = false;
  borrow = false;
  future = false;
  stream = false;
  error_context = false;
}

-- what stands in one of the two
abbrev pub join : TypeFacts → TypeFacts → TypeFacts
join a b = record {
  string = a.string || b.string;
  list = a.list || b.list;
  own = a.own || b.own;
  borrow = a.borrow || b.borrow;
  future = a.future || b.future;
  stream = a.stream || b.stream;
  error_context = a.error_context || b.error_context;
}

-- a handle stands there: to a resource, a future, a stream or an error context
abbrev pub has_handle : TypeFacts → Bool
has_handle a = a.own || a.borrow || a.future || a.stream || a.error_context

-- a string alone
abbrev pub a_string : TypeFacts
a_string = record {
  string = true;
  list = false;
  own = false;
  borrow = false;
  future = false;
  stream = false;
  error_context = false;
}

-- a list alone
abbrev pub a_list : TypeFacts
a_list = record {
  string = false;
  list = true;
  own = false;
  borrow = false;
  future = false;
  stream = false;
  error_context = false;
}

-- an owned handle alone
abbrev pub an_own : TypeFacts
an_own = record {
  string = false;
  list = false;
  own = true;
  borrow = false;
  future = false;
  stream = false;
  error_context = false;
}

-- a borrowed handle alone
abbrev pub a_borrow : TypeFacts
a_borrow = record {
  string = false;
  list = false;
  own = false;
  borrow = true;
  future = false;
  stream = false;
  error_context = false;
}

-- a future alone
abbrev pub a_future : TypeFacts
a_future = record {
  string = false;
  list = false;
  own = false;
  borrow = false;
  future = true;
  stream = false;
  error_context = false;
}

-- a stream alone
abbrev pub a_stream : TypeFacts
a_stream = record {
  string = false;
  list = false;
  own = false;
  borrow = false;
  future = false;
  stream = true;
  error_context = false;
}

-- an error context alone
abbrev pub an_error_context : TypeFacts
an_error_context = record {
  string = false;
  list = false;
  own = false;
  borrow = false;
  future = false;
  stream = false;
  error_context = true;
}

abbrev mutual
  -- which types stand anywhere in the tree; what a stream or a future carries isn't entered
  pub facts_of : TypeTree → TypeFacts
  facts_of (primitive prim.String) = a_string
  facts_of (primitive p) = no_facts
  facts_of (error_context c) = an_error_context
  facts_of (record_of fs) = facts_of_fields fs
  facts_of (variant_of cs) = facts_of_cases cs
  facts_of (list_of t) = join a_list (facts_of t)
  facts_of (tuple_of ts) = facts_of_all ts
  facts_of (flags_of names) = no_facts
  facts_of (enum_of names) = no_facts
  facts_of (option_of t) = facts_of t
  facts_of (result_of ok err) = join (facts_of_maybe ok) (facts_of_maybe err)
  facts_of (own_of r) = an_own
  facts_of (borrow_of r) = a_borrow
  facts_of (stream_of t c) = a_stream
  facts_of (future_of t c) = a_future
  facts_of (func_of params result is_async) = join (facts_of_fields params) (facts_of_maybe result)
  facts_of (instance_of exports) = facts_of_fields exports
  facts_of (component_of imports exports) = join (facts_of_fields imports) (facts_of_fields exports)
  facts_of (module_of imports exports) = no_facts
  facts_of (resource_of r) = no_facts

  -- what stands in one of the fields
  pub facts_of_fields : Fields → TypeFacts
  facts_of_fields no_fields = no_facts
  facts_of_fields (and_field name t ts) = join (facts_of t) (facts_of_fields ts)

  -- what stands in one of the cases
  pub facts_of_cases : Cases → TypeFacts
  facts_of_cases no_cases = no_facts
  facts_of_cases (and_case name t ts) = join (facts_of_maybe t) (facts_of_cases ts)

  -- what stands in one of the trees
  pub facts_of_all : Trees → TypeFacts
  facts_of_all no_trees = no_facts
  facts_of_all (and_tree t ts) = join (facts_of t) (facts_of_all ts)

  -- what stands in a tree that may be left out
  pub facts_of_maybe : MaybeTree → TypeFacts
  facts_of_maybe no_tree = no_facts
  facts_of_maybe (a_tree t) = facts_of t
