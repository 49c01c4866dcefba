-- Where the exports of a type stand, by their names.
use Rattle.std.specs.Prelude.{ℕ, List, [], Option, slice_get, option_and_then}
use Rattle.pc_entity.specs.Lists.{names_of}
use Rattle.pc_types.specs.declared.parsed.DeclType.{DeclType}
use Rattle.pc_types.specs.declared.parsed.DeclType.TheVariants as entry
use Rattle.pc_types.specs.declared.parsed.TypeTable.{TypeTable}
use Rattle.pc_spec_reading.specs.Member.{place_from}

-- the names of the exports of an instance type or a module type, in order; other types have none
abbrev pub export_names : DeclType → List (List ℕ)
export_names (entry.Instance exports) = names_of exports
export_names (entry.Module imports exports) = names_of exports
export_names _ = []

-- the first place of a name among the exports of an entry
abbrev pub export_place : TypeTable → (n : ℕ) → (name : List ℕ) → Option ℕ
export_place t n name = option_and_then (λ e. place_from 0 name (export_names e)) (slice_get t.types n)
