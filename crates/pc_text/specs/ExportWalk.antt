-- The walk through a plan's exports: which instances are open, and what is left to print.
use Rattle.std.specs.Prelude.{◌≡◌, ℕ, ◌+◌, ◌<◌, ◌≤◌, true, List, [], ◌∷◌, ◌++◌, length, take, codes}
use Rattle.pc_types.specs.declared.types.ComponentExternData.{ComponentExternData}
use Rattle.pc_spec_plan.specs.PlanView as plan
use Rattle.pc_spec_plan.specs.Text.{definition, extern_data, line_end, nested_lines, number}
use Rattle.pc_trampoline.specs.declared.part.Mark.{Mark}
use Rattle.pc_info.specs.declared.export.Export.{Export}
use Rattle.pc_info.specs.declared.export.Export.TheVariants as export
use Rattle.pc_info.specs.Definitions.{def_view}
use Rattle.pc_info.specs.Exports.{names_below, nested_view, trees_of}
use Rattle.pc_text.specs.declared.export.Open.{Open}

-- what an export is, without what it exports itself
abbrev pub item_text : Export → List ℕ
item_text (export.LiftedFunction ty func options) =
    codes " lifted " ++ definition (def_view func) ++ codes " options" ++ number options.0
item_text (export.ImportedFunction ty r) = codes " imported" ++ number r.0
item_text (export.ModuleStatic ty index) = codes " module-static" ++ number index.0
item_text (export.ModuleImport ty r) = codes " module-import" ++ number r.0
item_text (export.Instance ty exports) = codes " instance"
item_text (export.Type_ ty) = codes " type"

-- the line of an export alone, under its path
unfoldable pub node_line : (path : List ℕ) → ComponentExternData → Export → List ℕ
node_line path meta e = codes "export" ++ path ++ item_text e ++ extern_data meta ++ line_end

-- an export whose path is so long as an open instance, if it is one
unfoldable pub opened : Export → (path : ℕ) → List Open
opened (export.Instance ty exports) n = record { left = exports.definitions; path = n } ∷ []
opened (export.LiftedFunction ty func options) n = []
opened (export.ImportedFunction ty r) n = []
opened (export.ModuleStatic ty index) n = []
opened (export.ModuleImport ty r) n = []
opened (export.Type_ ty) n = []

-- each name that is left in instances, the innermost first, has one of the first n items, and the path to each leads
-- to those in it, where the path to the innermost one is a part of one of this length
unfoldable pub IsOpen : (n path : ℕ) → List Open → Type 0
IsOpen n path [] = Unit {0}
IsOpen n path (o ∷ os) = (names_below n o.left ≡ true) × (o.path ≤ path) × IsOpen n o.path os

-- what is left to print under open instances, the innermost first, each with a path that begins this one
unfoldable pub left_lines : List (plan.PlanExport Mark) → (path : List ℕ) → List Open → List ℕ
left_lines trees path [] = []
left_lines trees path (o ∷ os) =
    nested_lines (take o.path path) (nested_view trees o.left) ++ left_lines trees (take o.path path) os

-- a line was printed, or none where an instance was done: the rest is what is left, and more was printed than opened
pub record Steps (items : List Export) (out path : List ℕ) (open_ : List Open) (out' path' : List ℕ)
    (open' : List Open) : Type 0 where
  pub line : List ℕ
  pub printed : out' ≡ out ++ line
  pub rest : left_lines (trees_of items) path open_ ≡ line ++ left_lines (trees_of items) path' open'
  pub falls : length open' < length open_ + length line
  pub stays : IsOpen (length items) (length path') open'
