-- At which place each import of an adapter of a graph stands.
use Rattle.std.specs.Prelude.{◌≡◌, ◌<◌, ◌+◌, ℕ, Bool, true, false, Option, None, Some, length, slice_get}
use Rattle.std.specs.Prelude.{if◌then◌else◌}
use Rattle.std.specs.Option.{is_some}
use Rattle.pc_types_lists.specs.Types.{Types}
use Rattle.pc_info.specs.declared.module.AdapterRecord.{AdapterRecord}
use Rattle.pc_info.specs.declared.module.SideRecord.{SideRecord}
use Rattle.pc_dfg.specs.declared.adapter.Adapter.{Adapter}
use Rattle.pc_dfg.specs.declared.adapter.AdapterOptions.{AdapterOptions}
use Rattle.pc_dfg.specs.declared.adapter.DataModel.{DataModel}
use Rattle.pc_dfg.specs.declared.adapter.DataModel.TheVariants as side
use Rattle.pc_dfg.specs.declared.dfg.ComponentDfg.{ComponentDfg}
use Rattle.pc_dfg.specs.declared.ids.AdapterId.{AdapterId}
use Rattle.pc_adapt.specs.Asked.{HoldsTypes}

-- how many places are taken by what may be left out
abbrev pub count_if : Bool → ℕ
count_if there = if there then 1 else 0

-- the first free place, if what stands there is there
abbrev pub place_if : ℕ → Bool → Option ℕ
place_if free there = if there then Some free else None

-- whether the values of a side lie in the managed heap
abbrev pub is_gc : DataModel → Bool
is_gc side.Gc = true
is_gc (side.LinearMemory memory realloc) = false

-- whether a side has a memory
abbrev pub has_memory : DataModel → Bool
has_memory side.Gc = false
has_memory (side.LinearMemory memory realloc) = is_some memory

-- whether a side has a realloc
abbrev pub has_realloc : DataModel → Bool
has_realloc side.Gc = false
has_realloc (side.LinearMemory memory realloc) = is_some realloc

-- how many places a memory and a realloc take
abbrev pub model_count : DataModel → ℕ
model_count m = count_if (has_memory m) + count_if (has_realloc m)

-- how many places a side takes
abbrev pub side_count : AdapterOptions → ℕ
side_count o = model_count o.data_model + count_if (is_some o.callback) + count_if (is_some o.post_return)

-- what is said of a side whose places begin here: those of its memory, its realloc, its callback and its post-return
-- function, in this order
abbrev pub side_record : ℕ → AdapterOptions → SideRecord
side_record first o = record {
  instance = o.instance;
  string_encoding = o.string_encoding;
  async_ = o.async_;
  core_type = o.core_type;
  callback = place_if (first + model_count o.data_model) (is_some o.callback);
  post_return = place_if (first + model_count o.data_model + count_if (is_some o.callback)) (is_some o.post_return);
  gc = is_gc o.data_model;
  memory = place_if first (has_memory o.data_model);
  realloc = place_if (first + count_if (has_memory o.data_model)) (has_realloc o.data_model);
}

-- what is said of an adapter whose places begin here, before its function is known
abbrev pub record_of : (first number : ℕ) → Adapter → AdapterRecord
record_of first n x = record {
  adapter = n;
  func = record { 0 = 0 };
  callee = first;
  lift_ty = x.lift_ty;
  lower_ty = x.lower_ty;
  lift = side_record (first + 3) x.lift_options;
  lower = side_record (first + 3 + side_count x.lift_options) x.lower_options;
}

-- an adapter is held, with its types, and the places of what its options hold are numbers
pub record HasPlan (g : ComponentDfg) (b : Types) (id : AdapterId) (base : ℕ) : Type 0 where
  pub there : id.0 < length g.adapters
  pub types : (x : Adapter) → slice_get g.adapters id.0 ≡ Some x → HoldsTypes b x
  pub room : (x : Adapter) → slice_get g.adapters id.0 ≡ Some x
      → base + 3 + side_count x.lift_options + side_count x.lower_options < 4294967296
