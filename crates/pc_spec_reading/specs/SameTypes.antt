-- Whether two types are one. Two trees are the same where they have the same parts throughout.
use Rattle.std.specs.Prelude.{ℕ, Bool, true, false, List, ◌&&◌, ◌==◌}
use Rattle.std.specs.Str.{bytes_eq}
use Rattle.std.specs.Cmp.Lexicographic.{pointwise}
use mathlib.Core.Bool.{beq}
use Rattle.pc_types.specs.contracts.parsed.CoreFuncSigPartialEq.TheImpl as eq_CoreFuncSig
use Rattle.pc_types.specs.contracts.parsed.PrimTypePartialEq.TheImpl as eq_PrimType
use Rattle.pc_types.specs.TypeTree.{TypeTree, Fields, Cases, Trees, MaybeTree, CoreTree, Resource, Identity, Path}
use Rattle.pc_types.specs.TypeTree.{imported, declared, concrete, abstract, core_func, core_table, core_memory}
use Rattle.pc_types.specs.TypeTree.{core_global, core_tag, primitive, error_context, record_of, variant_of, list_of}
use Rattle.pc_types.specs.TypeTree.{tuple_of, flags_of, enum_of, option_of, result_of, own_of, borrow_of, stream_of}
use Rattle.pc_types.specs.TypeTree.{future_of, func_of, instance_of, component_of, module_of, resource_of, no_fields}
use Rattle.pc_types.specs.TypeTree.{and_field, no_cases, and_case, no_trees, and_tree, no_tree, a_tree}

-- two lists of names
abbrev pub same_names : List (List ℕ) → List (List ℕ) → Bool
same_names a b = pointwise bytes_eq a b

-- two paths
abbrev pub same_path : Path → Path → Bool
same_path p q = (p.import == q.import) && same_names p.names q.names

-- two origins of a resource
abbrev pub same_identity : Identity → Identity → Bool
same_identity (imported p) (imported q) = same_path p q
same_identity (declared m) (declared n) = m == n
same_identity a b = false

-- two resources, as a component instance sees them
abbrev pub same_resource : Resource → Resource → Bool
same_resource (concrete a c) (concrete b d) = same_identity a b && (c == d)
same_resource (abstract m) (abstract n) = m == n
same_resource a b = false

-- two entities of core modules
abbrev pub same_core : CoreTree → CoreTree → Bool
same_core (core_func s) (core_func r) = eq_CoreFuncSig.ghosts.eq s r
same_core core_table core_table = true
same_core (core_memory v) (core_memory w) = beq v w
same_core core_global core_global = true
same_core core_tag core_tag = true
same_core a b = false

-- two imports of a module type
abbrev pub same_core_import : List ℕ × List ℕ × CoreTree → List ℕ × List ℕ × CoreTree → Bool
same_core_import i j = bytes_eq i.0 j.0 && bytes_eq i.1 j.1 && same_core i.2 j.2

-- two exports of a module type
abbrev pub same_core_export : List ℕ × CoreTree → List ℕ × CoreTree → Bool
same_core_export e f = bytes_eq e.0 f.0 && same_core e.1 f.1

unfoldable mutual
  -- two type trees
  pub same_type : TypeTree → TypeTree → Bool
  same_type (primitive p) (primitive q) = eq_PrimType.ghosts.eq p q
  same_type (error_context c) (error_context d) = c == d
  same_type (record_of fs) (record_of gs) = same_fields fs gs
  same_type (variant_of cs) (variant_of ds) = same_cases cs ds
  same_type (list_of t) (list_of u) = same_type t u
  same_type (tuple_of ts) (tuple_of us) = same_trees ts us
  same_type (flags_of ns) (flags_of ms) = same_names ns ms
  same_type (enum_of ns) (enum_of ms) = same_names ns ms
  same_type (option_of t) (option_of u) = same_type t u
  same_type (result_of ok err) (result_of ok2 err2) = same_maybe ok ok2 && same_maybe err err2
  same_type (own_of r) (own_of q) = same_resource r q
  same_type (borrow_of r) (borrow_of q) = same_resource r q
  same_type (stream_of p c) (stream_of q d) = same_maybe p q && (c == d)
  same_type (future_of p c) (future_of q d) = same_maybe p q && (c == d)
  same_type (func_of ps r is_async) (func_of qs s too) = same_fields ps qs && same_maybe r s && beq is_async too
  same_type (instance_of es) (instance_of fs) = same_fields es fs
  same_type (component_of is es) (component_of js fs) = same_fields is js && same_fields es fs
  same_type (module_of is es) (module_of js fs) = pointwise same_core_import is js && pointwise same_core_export es fs
  same_type (resource_of r) (resource_of q) = same_resource r q
  same_type t u = false

  -- two lists of names with types
  pub same_fields : Fields → Fields → Bool
  same_fields no_fields no_fields = true
  same_fields (and_field n t fs) (and_field m u gs) = bytes_eq n m && same_type t u && same_fields fs gs
  same_fields fs gs = false

  -- two lists of names that may have types
  pub same_cases : Cases → Cases → Bool
  same_cases no_cases no_cases = true
  same_cases (and_case n t cs) (and_case m u ds) = bytes_eq n m && same_maybe t u && same_cases cs ds
  same_cases cs ds = false

  -- two lists of types
  pub same_trees : Trees → Trees → Bool
  same_trees no_trees no_trees = true
  same_trees (and_tree t ts) (and_tree u us) = same_type t u && same_trees ts us
  same_trees ts us = false

  -- two types that may be left out
  pub same_maybe : MaybeTree → MaybeTree → Bool
  same_maybe no_tree no_tree = true
  same_maybe (a_tree t) (a_tree u) = same_type t u
  same_maybe t u = false
