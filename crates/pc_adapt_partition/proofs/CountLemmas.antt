-- How many places the imports of an adapter take, and how many of them are functions.
use Rattle.std.proofs.Common.{◌≡◌, ◌≤◌, ℕ, suc, ◌+◌, ◌-◌, Bool, true, false, List, [], ◌∷◌, ◌++◌, length, Option}
use Rattle.std.proofs.Common.{None, Some, refl, ap, arith, length-append}
use Rattle.std.specs.Prelude.{cond, count_by, replicate}
use Rattle.std.specs.Fmt.{decimal}
use Rattle.std.specs.Option.{is_some}
use Rattle.std.proofs.lemmas.List.{length-replicate}
use Rattle.std.proofs.lemmas.List.Sums.{count_by-le-length, sum_by-append, sum_by-cons}
use Rattle.pc_types.specs.declared.parsed.CoreEntity.{CoreEntity}
use Rattle.pc_types.specs.declared.parsed.CoreEntity.TheVariants as core
use Rattle.pc_types.specs.declared.parsed.CoreKind.TheVariants as kind
use Rattle.pc_types.specs.Record.{imports_kind}
use Rattle.pc_numbers.specs.declared.module_entity.ModuleInternedTypeIndex.{ModuleInternedTypeIndex}
use Rattle.pc_dfg.specs.declared.adapter.Adapter.{Adapter}
use Rattle.pc_dfg.specs.declared.adapter.AdapterOptions.{AdapterOptions}
use Rattle.pc_dfg.specs.declared.adapter.DataModel.{DataModel}
use Rattle.pc_dfg.specs.declared.adapter.DataModel.TheVariants as model
use Rattle.pc_dfg.specs.declared.core_def.CoreDef.{CoreDef}
use Rattle.pc_dfg.specs.declared.core_def.CoreDef.TheVariants as def
use Rattle.pc_spec_adapt.specs.Asked.{FunctionFacts}
use Rattle.pc_spec_adapt.specs.Record.{adapter_name}
use Rattle.pc_adapt.specs.declared.import.Import.{Import}
use Rattle.pc_adapt.specs.declared.import.Import.TheVariants as import
use Rattle.pc_adapt.specs.Imports.{definitions, first_imports, imports_of, memory_imports, memory_of, realloc_of}
use Rattle.pc_adapt.specs.Imports.{side_imports}
use Rattle.pc_adapt.specs.Places.{count_if, has_memory, has_realloc, side_count}
use Rattle.pc_adapt_modules.specs.Entities.{entities_for, first_entities, function_if, memory_entities}
use Rattle.pc_adapt_modules.specs.Entities.{named_entities, side_entities}
use Rattle.pc_adapt_modules.specs.Entities as entities
use Rattle.pc_adapt_partition.specs.Parts.{entities_of, functions_in, parts_of, total_imports}

definition_count : (d : Option CoreDef) → length (definitions d) ≡ count_if (is_some d)
definition_count None = refl
definition_count (Some d) = refl

memory_count : (m : DataModel) → length (memory_imports (memory_of m)) ≡ count_if (has_memory m)
memory_count model.Gc = refl
memory_count (model.LinearMemory None realloc) = refl
memory_count (model.LinearMemory (Some m) realloc) = refl

realloc_count : (m : DataModel) → length (definitions (realloc_of m)) ≡ count_if (has_realloc m)
realloc_count model.Gc = refl
realloc_count (model.LinearMemory memory None) = refl
realloc_count (model.LinearMemory memory (Some d)) = refl

-- what the options of a side hold takes as many places
side_taken : (o : AdapterOptions) → length (side_imports o) ≡ side_count o
side_taken o =
    let a = memory_imports (memory_of o.data_model) in
    let b = definitions (realloc_of o.data_model) in
    let c = definitions o.callback in
    let d = definitions o.post_return in
    omega (
      arith,
      length-append (a ++ b ++ c) d,
      length-append (a ++ b) c,
      length-append a b,
      memory_count o.data_model,
      realloc_count o.data_model,
      definition_count o.callback,
      definition_count o.post_return,
    )

-- how many places there are for what an adapter's options hold, and its callee and flags
first_taken : (x : Adapter)
    → length (first_imports x) ≡ 3 + side_count x.lift_options + side_count x.lower_options
first_taken x =
    three (import.CoreDef x.func) (import.CoreDef (def.InstanceFlags x.lower_options.instance))
    (import.CoreDef (def.InstanceFlags x.lift_options.instance)) (side_imports x.lift_options)
    (side_imports x.lower_options)
    (side_taken x.lift_options) (side_taken x.lower_options)
  where
    three : (a b c : Import) (xs ys : List Import) → length xs ≡ side_count x.lift_options
        → length ys ≡ side_count x.lower_options
        → length ((a ∷ b ∷ c ∷ []) ++ xs ++ ys) ≡ 3 + side_count x.lift_options + side_count x.lower_options
    three a b c xs ys m n =
        omega (arith, m, n, length-append ((a ∷ b ∷ c ∷ []) ++ xs) ys, length-append (a ∷ b ∷ c ∷ []) xs)

-- the imports of an adapter are no fewer
pub imports_long : (lift lower : FunctionFacts) (clear : Bool) (x : Adapter)
    → 3 + side_count x.lift_options + side_count x.lower_options ≤ length (imports_of lift lower clear x)
unfolding imports_of
imports_long lift lower clear x = front (first_imports x) _ _ _ _ _ (first_taken x)
  where
    front : (a b c d e f : List Import) → length a ≡ 3 + side_count x.lift_options + side_count x.lower_options
        → 3 + side_count x.lift_options + side_count x.lower_options ≤ length (a ++ b ++ c ++ d ++ e ++ f)
    front a b c d e f is =
        omega (
          arith,
          is,
          length-append (a ++ b ++ c ++ d ++ e) f,
          length-append (a ++ b ++ c ++ d) e,
          length-append (a ++ b ++ c) d,
          length-append (a ++ b) c,
          length-append a b,
        )

function_count : (there : Bool) (s : ModuleInternedTypeIndex) → length (function_if there s) ≡ count_if there
function_count true s = refl
function_count false s = refl

memory_entity_count : (m : DataModel) → length (memory_entities m) ≡ count_if (has_memory m)
memory_entity_count model.Gc = refl
memory_entity_count (model.LinearMemory None realloc) = refl
memory_entity_count (model.LinearMemory (Some m) realloc) = refl

realloc_entity_count : (m : DataModel) (s : ModuleInternedTypeIndex)
    → length (function_if (entities.has_realloc m) s) ≡ count_if (has_realloc m)
realloc_entity_count model.Gc s = refl
realloc_entity_count (model.LinearMemory memory None) s = refl
realloc_entity_count (model.LinearMemory memory (Some d)) s = refl

-- as what they are imported takes as many
side_entities_taken : (s : ModuleInternedTypeIndex) (o : AdapterOptions) → length (side_entities s o) ≡ side_count o
side_entities_taken s o =
    let a = memory_entities o.data_model in
    let b = function_if (entities.has_realloc o.data_model) s in
    let c = function_if (is_some o.callback) s in
    let d = function_if (is_some o.post_return) s in
    omega (
      arith,
      length-append (a ++ b ++ c) d,
      length-append (a ++ b) c,
      length-append a b,
      memory_entity_count o.data_model,
      realloc_entity_count o.data_model s,
      function_count (is_some o.callback) s,
      function_count (is_some o.post_return) s,
    )

length_named : (n i : ℕ) (es : List CoreEntity) → length (named_entities n i es) ≡ length es
length_named n i [] = refl
length_named n i (e ∷ es) = ap suc (length_named n (i + 1) es)

-- no more functions are imported than there are imports
functions_most : (n i : ℕ) (es : List CoreEntity)
    → count_by (imports_kind kind.Func) (named_entities n i es) ≤ length es
functions_most n i es =
    omega (arith, count_by-le-length (imports_kind kind.Func) (named_entities n i es), length_named n i es)

-- one for a function
abbrev isfunc : List ℕ × List ℕ × CoreEntity → ℕ
isfunc i = cond (imports_kind kind.Func i) 1 0

-- two imports of an adapter are flags, so it has one more than it has functions
own_functions : (n : ℕ) (x : Adapter) (many : ℕ) → 3 + side_count x.lift_options + side_count x.lower_options ≤ many
    → count_by (imports_kind kind.Func) (named_entities n 0 (entities_for x many)) + 1 ≤ many
own_functions n x many few =
    let s = x.lower_options.core_type in
    let a = side_entities s x.lift_options in
    let b = side_entities s x.lower_options in
    let c = replicate (many - length (first_entities x)) (core.Func s.0) in
    let t = named_entities n 3 (a ++ b ++ c) in
    let one = sum_by-cons isfunc (adapter_name n, decimal 0, core.Func x.lift_options.core_type.0)
    ((adapter_name n, decimal 1, core.Global) ∷ (adapter_name n, decimal 2, core.Global) ∷ t) in
    let two = sum_by-cons isfunc (adapter_name n, decimal 1, core.Global)
    ((adapter_name n, decimal 2, core.Global) ∷ t) in
    let three = sum_by-cons isfunc (adapter_name n, decimal 2, core.Global) t in
    let rest = functions_most n 3 (a ++ b ++ c) in
    let long = length-replicate (many - length (first_entities x)) (core.Func s.0) in
    omega (
      arith,
      few,
      one,
      two,
      three,
      rest,
      long,
      length-append (a ++ b) c,
      length-append a b,
      side_entities_taken s x.lift_options,
      side_entities_taken s x.lower_options,
    )

-- so a module of adapters has no more functions than imports
pub functions_few : (lift lower : ℕ → FunctionFacts) (clear : ℕ → Bool) (n : ℕ) (xs : List Adapter)
    → functions_in n (parts_of lift lower clear n xs) + length xs ≤ total_imports (parts_of lift lower clear n xs)
functions_few lift lower clear n [] = omega arith
functions_few lift lower clear n (x ∷ xs) =
    let is = imports_of (lift n) (lower n) (clear n) x in
    let own = named_entities n 0 (entities_for x (length is)) in
    omega (
      arith,
      own_functions n x (length is) (imports_long (lift n) (lower n) (clear n) x),
      functions_few lift lower clear (n + 1) xs,
      sum_by-append isfunc own (entities_of (n + 1) (parts_of lift lower clear (n + 1) xs)),
    )

-- an adapter has as many entities as imports
entities_long : (x : Adapter) (many : ℕ) → 3 + side_count x.lift_options + side_count x.lower_options ≤ many
    → length (entities_for x many) ≡ many
entities_long x many few =
    let s = x.lower_options.core_type in
    let a = side_entities s x.lift_options in
    let b = side_entities s x.lower_options in
    let c = replicate (many - length (first_entities x)) (core.Func s.0) in
    let long = length-replicate (many - length (first_entities x)) (core.Func s.0) in
    omega (
      arith,
      few,
      long,
      length-append (a ++ b) c,
      length-append a b,
      side_entities_taken s x.lift_options,
      side_entities_taken s x.lower_options,
    )

-- so has a module of adapters
pub all_long : (lift lower : ℕ → FunctionFacts) (clear : ℕ → Bool) (n : ℕ) (xs : List Adapter)
    → length (entities_of n (parts_of lift lower clear n xs)) ≡ total_imports (parts_of lift lower clear n xs)
all_long lift lower clear n [] = refl
all_long lift lower clear n (x ∷ xs) =
    let is = imports_of (lift n) (lower n) (clear n) x in
    let own = named_entities n 0 (entities_for x (length is)) in
    omega (
      arith,
      length-append own (entities_of (n + 1) (parts_of lift lower clear (n + 1) xs)),
      length_named n 0 (entities_for x (length is)),
      entities_long x (length is) (imports_long (lift n) (lower n) (clear n) x),
      all_long lift lower clear (n + 1) xs,
    )
