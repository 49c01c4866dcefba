-- Which entries depend on the component instance or on the known resources, by themselves.
use Rattle.std.specs.Prelude.{ℕ, Bool, true, false, List, Option, None, Some, ◌||◌}
use Rattle.std.specs.List.{list_any}
use Rattle.pc_types.specs.declared.parsed.PrimType.TheVariants as prim
use Rattle.pc_types.specs.declared.parsed.ValType.{ValType}
use Rattle.pc_types.specs.declared.parsed.ValType.TheVariants as val
use Rattle.pc_types.specs.declared.parsed.DeclType.{DeclType}
use Rattle.pc_types.specs.declared.parsed.DeclType.TheVariants as entry

-- whether a value type is that of error contexts
abbrev pub is_error : ValType → Bool
is_error (val.Prim prim.ErrorContext) = true
is_error v = false

-- whether one is that may be left out
abbrev pub maybe_error : Option ValType → Bool
maybe_error None = false
maybe_error (Some v) = is_error v

-- whether that of a field is
abbrev pub field_error : List ℕ × ValType → Bool
field_error f = is_error f.1

-- whether that of a case is
abbrev pub case_error : List ℕ × Option ValType → Bool
case_error c = maybe_error c.1

-- whether the tree of an entry has something of the component instance or of a known resource in it, beside what its
-- parts have: a resource, a stream, a future, or what holds an error context
abbrev pub depends : DeclType → Bool
depends entry.Resource = true
depends (entry.Func params result is_async) = list_any field_error params || maybe_error result
depends (entry.Val v) = is_error v
depends (entry.Record fields) = list_any field_error fields
depends (entry.Variant cases) = list_any case_error cases
depends (entry.List v) = is_error v
depends (entry.Tuple vs) = list_any is_error vs
depends (entry.Option v) = is_error v
depends (entry.Result ok err) = maybe_error ok || maybe_error err
depends (entry.Stream v) = true
depends (entry.Future v) = true
depends e = false
