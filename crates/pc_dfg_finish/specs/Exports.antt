-- The exports of a plan: an item for each export of the graph, under its number, and the names.
use Rattle.std.specs.Prelude.{◌≡◌, ℕ, true, List, [], ◌∷◌, ◌++◌, length, All, Option, None, Some, IfSome, ◌&&◌}
use Rattle.std.specs.List.{AllZip, filter_map, flat_map}
use Rattle.pc_entity.specs.Lists.{map_all}
use Rattle.pc_dfg.specs.declared.ids.OptionsId.{OptionsId}
use Rattle.pc_names.specs.Contents.{Contents}
use Rattle.pc_names.specs.Inserted.{Inserted, last_value}
use Rattle.pc_names.specs.Stands.{StandsFor}
use Rattle.pc_numbers.specs.declared.runtime.ExportIndex.{ExportIndex}
use Rattle.pc_types.specs.declared.type_index.TypeComponentInstanceIndex.{TypeComponentInstanceIndex}
use Rattle.pc_types.specs.declared.type_index.TypeFuncIndex.{TypeFuncIndex}
use Rattle.pc_types.specs.declared.type_index.TypeModuleIndex.{TypeModuleIndex}
use Rattle.pc_types.specs.declared.types.ComponentExternData.{ComponentExternData}
use Rattle.pc_spec_plan.specs.ExportNode.{NamedNode}
use Rattle.pc_spec_plan.specs.Log.{Entry}
use Rattle.pc_spec_plan.specs.Machine.{State, named_node}
use Rattle.pc_spec_plan.specs.PlanView as plan
use Rattle.pc_trampoline.specs.declared.part.Mark.{Mark}
use Rattle.pc_info.specs.declared.export.Export.{Export as PlanItem}
use Rattle.pc_info.specs.declared.export.Export.TheVariants as item
use Rattle.pc_info.specs.declared.module.ModuleTranslation.{ModuleTranslation}
use Rattle.pc_info.specs.Exports.{are_behind_their_parts, named_view, names_below, trees_of}
use Rattle.pc_dfg.specs.declared.core_def.CoreDef.{CoreDef}
use Rattle.pc_dfg.specs.declared.dfg.ComponentDfg.{ComponentDfg}
use Rattle.pc_dfg.specs.declared.export.Export.{Export}
use Rattle.pc_dfg.specs.declared.export.Export.TheVariants as export
use Rattle.pc_dfg.specs.Held.{IsHeld}
use Rattle.pc_dfg.specs.Lists.{NamedExport}
use Rattle.pc_dfg.specs.Names.{each_of}
use Rattle.pc_dfg.specs.Nodes.{ExportsMean}
use Rattle.pc_dfg_linearize.specs.declared.id.Id.{Id}
use Rattle.pc_dfg_linearize.specs.declared.id.Id.TheVariants as id
use Rattle.pc_dfg_linearize.specs.declared.state.Finish.{Finish}
use Rattle.pc_dfg_linearize.specs.Arguments.{CanNumber, IsNumbered}
use Rattle.pc_dfg_linearize.specs.Closed.{Continues}
use Rattle.pc_dfg_linearize.specs.Converted.{def_in}
use Rattle.pc_dfg_finish.specs.Finishes.{IsItem}
use Rattle.pc_dfg_finish.specs.ModuleTypes.{module_mark, module_type}
use Rattle.pc_dfg_linearize.specs.Numbers.{numbered}
use Rattle.pc_dfg_linearize.specs.Parts.{HasNumber, in_def}
use Rattle.pc_dfg_linearize.specs.Plan.{Extends}
use Rattle.pc_dfg_linearize.specs.Reached.{GoesOn, Reached}
use Rattle.pc_dfg_linearize.specs.Ready.{IsReady}
use Rattle.pc_dfg_linearize.specs.Wired.{IsWired}

-- the number of an item with its extern data
abbrev pub Target : Type 0
Target = ExportIndex × ComponentExternData

-- a map stands for these insertions of names
abbrev pub Names : Contents (List ℕ) Target → Inserted Target → Type 0
Names map inserted = StandsFor (λ text key. key ≡ text) map inserted

-- a map stands for insertions that don't have this name
abbrev pub Lacks : Contents (List ℕ) Target → List ℕ → Type 0
Lacks map name = (inserted : Inserted Target) × Names map inserted × (last_value inserted name ≡ None)

-- a map has one name more, whatever it had
abbrev pub AddsName : (old new : Contents (List ℕ) Target) → List ℕ → Target → Type 0
AddsName old new name target =
    (inserted : Inserted Target) → Names old inserted → Names new (inserted ++ (name, target) ∷ [])

-- a map has these names in order, and finds what is under each
pub record IsNamed (names : List NamedExport) (map : Contents (List ℕ) Target) : Type 0 where
  pub definitions : map.definitions ≡ names
  pub finds : Names map names

-- an item of the plan is an instance that exports these names
abbrev pub IsInstance : TypeComponentInstanceIndex → List NamedExport → PlanItem → Type 0
IsInstance ty names e =
    (map : Contents (List ℕ) Target) × (e ≡ item.Instance ty map) × IsNamed names map

-- the function of an export, with the number of its options
abbrev pub function_of : Export → Option (CoreDef × OptionsId)
function_of (export.LiftedFunction ty d o) = Some (d, o)
function_of (export.ImportedFunction ty r) = None
function_of (export.ModuleStatic ty m) = None
function_of (export.ModuleImport ty r) = None
function_of (export.Instance ty es) = None
function_of (export.Type_ ty) = None

module _ (g : ComponentDfg) where
  -- what an exported function depends on, in the order in which it is made
  abbrev pub in_lifted : CoreDef × OptionsId → List Id
  in_lifted x = in_def g x.0 ++ id.Options x.1 ∷ []

  -- what an export depends on
  abbrev pub in_export : Export → List Id
  in_export e = each_of in_lifted (function_of e)

  -- what exports depend on
  abbrev pub in_exports : List Export → List Id
  in_exports es = flat_map in_export es

  -- the plan was made further without a side effect, and its run goes on from wherever it was
  pub record GoesFurther (old new : Finish) : Type 0 where
    pub continues : Continues g old new
    pub goes : (ms : List ModuleTranslation) → IsWired g ms → GoesOn g ms old new

  -- what an exported function depends on can get its numbers, once all core instances are made
  pub record CanLift (x : CoreDef × OptionsId) : Type 0 where
    pub held : IsHeld g x.0
    pub func : CanNumber g (length g.instances) x.0
    pub options : IsReady g (length g.instances) (id.Options x.1)

  -- what an exported function depends on has its numbers
  pub record IsLiftable (f : Finish) (x : CoreDef × OptionsId) : Type 0 where
    pub func : IsNumbered g f x.0
    pub options : HasNumber f (id.Options x.1)

  -- what an export depends on can get its numbers
  abbrev pub CanExport : Export → Type 0
  CanExport e = IfSome (function_of e) CanLift

  -- what an export depends on has its numbers
  abbrev pub IsExportable : Finish → Export → Type 0
  IsExportable f e = IfSome (function_of e) (IsLiftable f)

  -- an exported function, by the numbers of the plan
  abbrev pub lifted_in : Finish → TypeFuncIndex → CoreDef → OptionsId → PlanItem
  lifted_in f ty d o = item.LiftedFunction ty (def_in g f d) (record { 0 = numbered f.numbers.options o.0 })

  -- an item of the plan is an export of the graph, by the numbers of the plan
  unfoldable pub IsConverted : List (Option TypeModuleIndex) → Finish → Export → PlanItem → Type 0
  IsConverted types f (export.LiftedFunction ty d o) e = e ≡ lifted_in f ty d o
  IsConverted types f (export.ImportedFunction ty r) e = e ≡ item.ImportedFunction ty r
  IsConverted types f (export.ModuleStatic ty m) e = e ≡ item.ModuleStatic (module_type types ty) m
  IsConverted types f (export.ModuleImport ty r) e = e ≡ item.ModuleImport ty r
  IsConverted types f (export.Instance ty es) e = IsInstance ty es e
  IsConverted types f (export.Type_ ty) e = e ≡ item.Type_ ty

  -- a plan's items and names are those of the graph's exports
  pub record Exports (types : List (Option TypeModuleIndex)) (f : Finish) (names : Contents (List ℕ) Target)
      (items : List PlanItem) : Type 0 where
    -- it has an item for each of the graph's, under its number, by the numbers of the plan
    pub converted : AllZip (IsConverted types f) g.export_items items
    pub forms : AllZip IsItem g.export_items items
    -- what they depend on has its number
    pub exportable : All (IsExportable f) g.export_items
    -- it has the graph's names, and finds what is under each
    pub named : IsNamed g.exports names
    -- each name has an item, and each name within an item has one that stands before it
    pub held : (names_below (length items) names.definitions && are_behind_their_parts 0 items) ≡ true
    -- in each plan that this one becomes, the exports are the nodes of the graph's exports
    pub nodes : (ms : List ModuleTranslation) (s : State Mark) (trace : List (Entry Mark)) (p : plan.PlanView Mark)
        (nodes : List (NamedNode Mark)) → IsWired g ms → Reached g ms f s trace → Extends g ms f p
        → ExportsMean g (module_mark types) nodes
        → map_all (named_node p s) (filter_map (named_view (trees_of items)) names.definitions) ≡ Some nodes
