-- What is said of a module of adapters: what it imports, defines and exports, and at which places its adapters find
-- what they need.
use Rattle.std.specs.Prelude.{ℕ, ◌+◌, List, [], ◌∷◌, ◌++◌, codes, length, map, count_by, Option, None, Some}
use Rattle.std.specs.List.{flat_map, filter_map}
use Rattle.std.specs.Fmt.{decimal}
use Rattle.pc_numbers.specs.declared.entity_index.EntityIndex.{EntityIndex}
use Rattle.pc_types.specs.declared.module_record.ModuleRecord.{ModuleRecord}
use Rattle.pc_types.specs.declared.parsed.CoreEntity.{CoreEntity}
use Rattle.pc_types.specs.declared.parsed.CoreKind.TheVariants as kind
use Rattle.pc_types.specs.Record.{entity_at, imports_kind}
use Rattle.pc_spec_plan.specs.CoreValue as value
use Rattle.pc_spec_plan.specs.CoreValue.{CoreValue, Options, DataModel, MaybeValue}
use Rattle.pc_spec_plan.specs.PlanView as plan
use Rattle.pc_spec_adapt.specs.Import.{Import, entity_of}

-- an adapter of a module: its number, itself, and what the module imports for it
pub record Member (τ : Type 0) : Type 0 where
  pub number : ℕ
  pub adapter : CoreValue τ
  pub imports : List (Import τ)

-- the name of an adapter by its number, in the imports that are made for it and as an export
abbrev pub adapter_name : ℕ → List ℕ
adapter_name n = codes "adapter" ++ decimal n

-- how many places a value that may be left out takes
abbrev pub taken : {τ : Type 0} → MaybeValue τ → ℕ
taken value.no_value = 0
taken (value.a_value v) = 1

-- the place of a value that may be left out, where this one is free
abbrev pub place_at : {τ : Type 0} → ℕ → MaybeValue τ → Option ℕ
place_at free value.no_value = None
place_at free (value.a_value v) = Some free

module _ {τ : Type 0} where
  -- how many places a memory and a realloc take
  abbrev pub model_taken : DataModel τ → ℕ
  model_taken value.gc = 0
  model_taken (value.linear memory realloc) = taken memory + taken realloc

  -- how many places a side takes
  abbrev pub side_taken : Options τ → ℕ
  side_taken (value.options c encoding is_async signature callback post_return model) =
      model_taken model + taken callback + taken post_return

  -- the places of a memory and a realloc, from this one on
  abbrev pub model_places : ℕ → DataModel τ → plan.ModelEntry
  model_places free value.gc = plan.gc
  model_places free (value.linear memory realloc) =
      plan.linear (place_at free memory) (place_at (free + taken memory) realloc)

  -- the options of a side with places from this one on: of its memory, its realloc, its callback and its post-return
  -- function, in this order
  abbrev pub side_places : ℕ → Options τ → plan.PlanOptions τ
  side_places free (value.options c encoding is_async signature callback post_return model) = record {
    component_instance = c;
    encoding = encoding;
    is_async = is_async;
    signature = signature;
    callback = place_at (free + model_taken model) callback;
    post_return = place_at (free + model_taken model + taken callback) post_return;
    model = model_places free model;
  }

  -- what is said of an adapter by its number, as a function of a module: its callee stands at the first of its places,
  -- both flags behind it, and then the two sides, the lift first
  abbrev pub record_at : (core_module function first number : ℕ) → CoreValue τ → Option (plan.AdapterRecord τ)
  record_at m f first n (value.adapter lift_type lift lower_type lower callee) = Some (record {
    core_module = m;
    adapter = n;
    function = f;
    callee = first;
    lift_type = lift_type;
    lift = side_places (first + 3) lift;
    lower_type = lower_type;
    lower = side_places (first + 3 + side_taken lift) lower;
  })
  record_at m f first n v = None

  -- what is said of adapters one after the other, the first of which is this function and has this first place
  abbrev pub records_from : (core_module function first : ℕ) → List (Member τ) → List (plan.AdapterRecord τ)
  records_from m f first [] = []
  records_from m f first (x ∷ xs) =
      filter_map (λ v. record_at m f first x.number v) (x.adapter ∷ [])
      ++ records_from m (f + 1) (first + length x.imports) xs

  -- the core signature of an adapter as a function: that of its lowering
  abbrev pub signature_of : CoreValue τ → Option τ
  signature_of (value.adapter lift_type lift lower_type
      (value.options c encoding is_async signature callback post_return model) callee) = Some signature
  signature_of v = None

  -- by the numbers of core signatures
  module _ (number : τ → ℕ) where
    -- imports of an adapter with their names, the first of which is the ith one
    abbrev pub named_imports : (adapter i : ℕ) → List (Import τ) → List (List ℕ × List ℕ × CoreEntity)
    named_imports n i [] = []
    named_imports n i (x ∷ xs) = (adapter_name n, decimal i, entity_of number x) ∷ named_imports n (i + 1) xs

    -- what a module of these adapters imports: what it imports for each of them, one after the other
    abbrev pub imports_of : List (Member τ) → List (List ℕ × List ℕ × CoreEntity)
    imports_of members = flat_map (λ x. named_imports x.number 0 x.imports) members

    -- how many functions it imports
    abbrev pub functions_in : List (Member τ) → ℕ
    functions_in members = count_by (imports_kind kind.Func) (imports_of members)

    -- adapters as exports, the first of which is this function
    abbrev pub exports_from : (function : ℕ) → List (Member τ) → List (List ℕ × EntityIndex)
    exports_from f [] = []
    exports_from f (x ∷ xs) = (adapter_name x.number, entity_at kind.Func f) ∷ exports_from (f + 1) xs

    -- what a module of these adapters is: it defines and exports a function for each of them, and nothing else
    abbrev pub module_of : List (Member τ) → ModuleRecord
    module_of members = record {
      imports = imports_of members;
      funcs = map number (filter_map (λ (x : Member τ). signature_of x.adapter) members);
      tables = 0;
      memories = [];
      globals = 0;
      tags = 0;
      exports = exports_from (functions_in members) members;
    }

    -- what is said of its adapters
    abbrev pub records_of : (core_module : ℕ) → List (Member τ) → List (plan.AdapterRecord τ)
    records_of m members = records_from m (functions_in members) 0 members
