-- How the plan machine sees exports: as trees, where the plan has numbers of items.
use Rattle.std.specs.Prelude.{ℕ, ◌+◌, Bool, true, false, List, [], ◌∷◌, ◌++◌, length, nat_lt, ◌&&◌, Option, Some, None}
use Rattle.std.specs.Prelude.{option_map, slice_get}
use Rattle.std.specs.List.{filter_map, list_all}
use Rattle.pc_numbers.specs.declared.runtime.ExportIndex.{ExportIndex}
use Rattle.pc_types.specs.declared.types.ComponentExternData.{ComponentExternData}
use Rattle.pc_types.specs.declared.types.TypeDef.TheVariants as type
use Rattle.pc_spec_plan.specs.PlanView as plan
use Rattle.pc_trampoline.specs.declared.part.Mark.{Mark}
use Rattle.pc_trampoline.specs.declared.part.Mark.TheVariants as mark
use Rattle.pc_info.specs.declared.component.Component.{Component}
use Rattle.pc_info.specs.declared.export.Export.{Export}
use Rattle.pc_info.specs.declared.export.Export.TheVariants as export
use Rattle.pc_info.specs.Definitions.{def_view}
use Rattle.pc_info.specs.Modules.{function_mark}

-- a name of an export map, with the number of its item and its extern data
abbrev pub Entry : Type 0
Entry = List ℕ × (ExportIndex × ComponentExternData)

-- the number of an entry's item
abbrev pub number_of : Entry → ℕ
number_of e = e.1.0.0

-- exports with one more in front, where its item is there
abbrev pub with_export : Entry → Option (plan.PlanExport Mark) → plan.PlanExports Mark → plan.PlanExports Mark
with_export e None rest = rest
with_export e (Some x) rest = plan.and_export e.0 e.1.1 x rest

-- what an instance exports, where these trees stand before it, each under the number of its item; a name whose item
-- isn't among them is left out (`has_items` says that there is none)
abbrev pub nested_view : List (plan.PlanExport Mark) → List Entry → plan.PlanExports Mark
nested_view trees [] = plan.no_exports
nested_view trees (e ∷ es) = with_export e (slice_get trees (number_of e)) (nested_view trees es)

-- the tree of an item, where these trees stand before it
abbrev pub export_view : List (plan.PlanExport Mark) → Export → plan.PlanExport Mark
export_view trees (export.LiftedFunction ty func options) = plan.lifted (function_mark ty) (def_view func) options.0
export_view trees (export.ImportedFunction ty r) = plan.imported_function (function_mark ty) r.0
export_view trees (export.ModuleStatic ty index) = plan.static_module index.0 (mark.Type_ (type.Module ty))
export_view trees (export.ModuleImport ty r) = plan.host_module r.0 (mark.Type_ (type.Module ty))
export_view trees (export.Instance ty exports) =
    plan.instance (mark.Type_ (type.ComponentInstance ty)) (nested_view trees exports.definitions)
export_view trees (export.Type_ ty) = plan.type_export (mark.Type_ ty)

-- the trees of items, behind these
abbrev pub trees_from : List (plan.PlanExport Mark) → List Export → List (plan.PlanExport Mark)
trees_from trees [] = trees
trees_from trees (e ∷ es) = trees_from (trees ++ export_view trees e ∷ []) es

-- the tree of each item
abbrev pub trees_of : List Export → List (plan.PlanExport Mark)
trees_of items = trees_from [] items

-- a named export of the root, where its item is held
abbrev pub named_view : List (plan.PlanExport Mark) → Entry → Option (plan.NamedExport Mark)
named_view trees e =
    option_map (λ x. record { name = e.0; extern_data = e.1.1; item = x }) (slice_get trees (number_of e))

-- the exports of the root
abbrev pub exports_view : Component → List (plan.NamedExport Mark)
exports_view c = filter_map (named_view (trees_of c.export_items)) c.exports.definitions

-- whether each name has one of the first n items
abbrev pub names_below : ℕ → List Entry → Bool
names_below n es = list_all (λ (e : Entry). nat_lt (number_of e) n) es

-- whether each name within an item has an item before it, if it is the nth one
abbrev pub is_behind_its_parts : ℕ → Export → Bool
is_behind_its_parts n (export.Instance ty exports) = names_below n exports.definitions
is_behind_its_parts n e = true

-- whether each name within these items has an item before it, where the first of them is the nth one
abbrev pub are_behind_their_parts : ℕ → List Export → Bool
are_behind_their_parts n [] = true
are_behind_their_parts n (e ∷ es) = is_behind_its_parts n e && are_behind_their_parts (n + 1) es

-- whether each name of the exports has an item, and each name within an item has one that stands before it
abbrev pub has_items : Component → Bool
has_items c =
    names_below (length c.export_items) c.exports.definitions && are_behind_their_parts 0 c.export_items
