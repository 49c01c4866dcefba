-- The printed text of the facts that are recorded of core modules, line by line in the order of the format.
use Rattle.std.specs.Prelude.{ℕ, Bool, true, false, List, [], ◌++◌, Option, Some, None, codes}
use Rattle.std.specs.List.{flat_map, range_with_len}
use Rattle.pc_types.specs.declared.module_record.ModuleRecord.{ModuleRecord}
use Rattle.pc_types.specs.declared.parsed.CoreKind.{CoreKind}
use Rattle.pc_types.specs.declared.parsed.CoreKind.TheVariants as kind
use Rattle.pc_types.specs.Record.{defined, imported}
use Rattle.pc_info.specs.declared.module.ModuleTranslation.{ModuleTranslation}
use Rattle.pc_spec_plan.specs.Text.{core_kind, intrinsic_name, line_end, number, numbered}
use Rattle.pc_spec_wiring.specs.Facts.{ModuleFacts}
use Rattle.pc_spec_wiring.specs.Known.{Known, KnownFunction, a_defined, the_flags, a_function, an_intrinsic}
use Rattle.pc_spec_wiring.specs.Known.{enters_call, exits_call, traps}
use Rattle.pc_spec_facts.specs.Recorded.{facts_of}

-- what an import is known to be
abbrev pub known : Known → List ℕ
known (a_defined m k n) = codes " defined" ++ number m ++ number n
known (the_flags c) = codes " flags" ++ number c

-- what a function import is known to be
abbrev pub known_function : KnownFunction → List ℕ
known_function enters_call = codes " enter-sync-call"
known_function exits_call = codes " exit-sync-call"
known_function (traps code) = codes " trap" ++ number code
known_function (an_intrinsic place) = codes " intrinsic " ++ intrinsic_name place
known_function (a_function m n) = codes " defined" ++ number m ++ number n

-- the line of a number in a module, if a fact is recorded of it
abbrev pub fact_line : {A : Type 0} → (word : List ℕ) → (says : A → List ℕ) → (m n : ℕ) → Option A → List ℕ
fact_line word says m n None = []
fact_line word says m n (Some x) = word ++ number m ++ number n ++ says x ++ line_end

-- the line of a number in a module, if what it stands for is known to importers
abbrev pub known_line : (word : List ℕ) → (m n : ℕ) → (is_known : Bool) → List ℕ
known_line word m n false = []
known_line word m n true = word ++ number m ++ number n ++ line_end

-- a text for each number below another, in order
abbrev pub each_below : (bound : ℕ) → (ℕ → List ℕ) → List ℕ
each_below bound text = flat_map text (range_with_len 0 bound)

-- Of the module of a number, which has a record and of which facts are recorded.
module _ (m : ℕ) (r : ModuleRecord) (facts : ModuleFacts) where
  -- the function imports that others represent
  abbrev pub same_lines : List ℕ
  same_lines = each_below (imported r kind.Func) (λ f. fact_line (codes "same") number m f (facts.representative f))

  -- the function imports that are known
  abbrev pub function_lines : List ℕ
  function_lines =
      each_below (imported r kind.Func) (λ f. fact_line (codes "func") known_function m f (facts.function f))

  -- the imports of a kind that are known
  abbrev pub import_lines : CoreKind → List ℕ
  import_lines k = each_below (imported r k) (λ n. fact_line (core_kind k) known m n (facts.import k n))

  -- the entities of a kind that are known to importers
  abbrev pub known_lines : CoreKind → List ℕ
  known_lines k = each_below (defined r k) (λ n. known_line (codes "known-" ++ core_kind k) m n (facts.is_known k n))

  -- all lines
  abbrev pub module_lines : List ℕ
  module_lines =
      same_lines ++ function_lines
      ++ import_lines kind.Global ++ import_lines kind.Memory ++ import_lines kind.Table
      ++ known_lines kind.Global ++ known_lines kind.Memory ++ known_lines kind.Table

-- the lines of the module of a number
unfoldable pub module_text : (m : ℕ) → ModuleTranslation → List ℕ
module_text m t = module_lines m t.«module» (facts_of t)

-- the text of what is recorded of modules
unfoldable pub facts_text : List ModuleTranslation → List ℕ
facts_text modules = numbered module_text 0 modules
