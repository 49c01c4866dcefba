-- What is gathered for a module of adapters, and what becomes of it.
use Rattle.std.specs.Prelude.{◌≡◌, ℕ, ◌+◌, ◌*◌, ◌≤◌, List, [], ◌∷◌, ◌++◌, All, count_by, length}
use Rattle.std.specs.List.{AllZip}
use Rattle.pc_types.specs.declared.parsed.CoreKind.TheVariants as kind
use Rattle.pc_types.specs.Record.{imports_kind}
use Rattle.pc_info.specs.declared.module.ModuleTranslation.{ModuleTranslation}
use Rattle.pc_info.specs.Modules.{without_facts}
use Rattle.pc_dfg.specs.declared.adapter.Adapter.{Adapter}
use Rattle.pc_dfg.specs.declared.core_def.CoreDef.{CoreDef}
use Rattle.pc_dfg.specs.declared.dfg.ComponentDfg.{ComponentDfg}
use Rattle.pc_dfg.specs.Grows.{Grows}
use Rattle.pc_dfg.specs.Held.{IsHeld}
use Rattle.pc_dfg.specs.Ordered.{IsOrdered}
use Rattle.pc_adapt.specs.declared.import.Import.{Import}
use Rattle.pc_adapt.specs.Places.{record_of}
use Rattle.pc_adapt_define.specs.Adds.{Adds}
use Rattle.pc_adapt_define.specs.Define.{AreDefined, IsDefined}
use Rattle.pc_adapt_define.specs.Only.{AddsOwn}
use Rattle.pc_adapt_modules.specs.Entities.{entities_for, named_entities}
use Rattle.pc_adapt_modules.specs.Exports.{record_of_parts}
use Rattle.pc_adapt_modules.specs.Members.{signatures_of}
use Rattle.pc_adapt_partition.specs.declared.group.Group.{Group}
use Rattle.pc_adapt_partition.specs.Parts.{Part, adapters_in, entities_of, functions_from, records_from, total_imports}
use Rattle.pc_adapt_partition.specs.Parts.{with_functions}

-- a module with one more adapter, before what stands for its imports is known
abbrev pub noted : Group → (number : ℕ) → Adapter → (many : ℕ) → Group
noted old n x many = record old {
  parts = record {
    imports = old.parts.imports ++ named_entities n 0 (entities_for x many);
    funcs = old.parts.funcs ++ x.lower_options.core_type.0 ∷ [];
  };
  records = old.records ++ record_of (length old.args) n x ∷ [];
}

-- an adapter is added, and what stands for its imports is defined
pub record Puts (g h : ComponentDfg) (number : ℕ) (x : Adapter) (imports : List Import) (old new : Group)
    : Type 0 where
  pub defined : AreDefined g h x.lower_options.core_type imports old.args new.args
  pub is : new ≡ record (noted old number x (length imports)) { args = new.args }
  pub room : length old.args + length imports ≤ 4294967294

-- definitions of the second graph stand for what is imported for adapters of the first one, one adapter after the other
abbrev pub AreGiven : (g h : ComponentDfg) → List Part → List CoreDef → Type 0
AreGiven g h [] args = args ≡ []
AreGiven g h (p ∷ ps) args =
    (own rest : List CoreDef) × (args ≡ own ++ rest)
    × AllZip (IsDefined g h p.0.lower_options.core_type) p.1 own × AreGiven g h ps rest

-- what is gathered of these adapters, the first of which has this number
pub record Gathers (g h : ComponentDfg) (first : ℕ) (ps : List Part) (group : Group) : Type 0 where
  pub adds : Adds (9 * length ps) (length ps) (length ps) (12 * length ps) g h
  pub own : AddsOwn g h
  pub imports : group.parts.imports ≡ entities_of first ps
  pub funcs : group.parts.funcs ≡ signatures_of (adapters_in ps)
  pub records : group.records ≡ records_from 0 first ps
  pub given : AreGiven g h ps group.args
  pub many : length group.args ≡ total_imports ps
  pub room : total_imports ps ≤ 4294967294

-- the module of what was gathered, of as many adapters from this number on, is added to modules and graph
pub record Closes (g h : ComponentDfg) (ms ns : List ModuleTranslation) (first many : ℕ) (group : Group)
    : Type 0 where
  pub modules : ns ≡ ms ++ without_facts (record_of_parts group.parts.imports group.parts.funcs first many)
      (with_functions (count_by (imports_kind kind.Func) group.parts.imports) group.records) ∷ []
  pub is : h ≡ record g {
    adapter_modules = g.adapter_modules ++ (record { 0 = length ms }, group.args) ∷ [];
    adapter_partitionings = g.adapter_partitionings
        ++ functions_from (length g.adapter_modules) (count_by (imports_kind kind.Func) group.parts.imports) many;
  }
  pub grows : Grows g h
  pub ordered : All (IsHeld g) group.args → IsOrdered g → IsOrdered h

-- at most one module is added to modules and graph, with the places of so many adapters, and nothing else
pub record ClosesFew (many : ℕ) (g h : ComponentDfg) (ms ns : List ModuleTranslation) : Type 0 where
  pub rest : h ≡ record g {
    adapter_modules = h.adapter_modules;
    adapter_partitionings = h.adapter_partitionings;
  }
  pub few_adapter_modules : length h.adapter_modules ≤ length g.adapter_modules + 1
  pub few_adapters : length h.adapter_partitionings ≤ length g.adapter_partitionings + many
  pub few_modules : length ns ≤ length ms + 1
