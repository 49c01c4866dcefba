-- The options of an item as they are written, in one pass, and what they pick among the core items.
use Rattle.std.specs.Prelude.{ℕ, Bool, List, Option, None, Some, slice_get, option_and_then, unwrap_or, if◌then◌else◌}
use Rattle.std.specs.Prelude.{nat_lt, length, true}
use Rattle.std.specs.List.{list_all, list_any}
use Rattle.pc_numbers.specs.declared.module_entity.ModuleInternedTypeIndex.{ModuleInternedTypeIndex}
use Rattle.pc_types.specs.declared.encoding.StringEncoding.TheVariants.{Utf8}
use Rattle.pc_parsed.specs.declared.canon.CanonOption.{CanonOption}
use Rattle.pc_parsed.specs.declared.canon.CanonOption.TheVariants as option
use Rattle.pc_spec_reading.specs.Options.{callback_in, encoding_in, is_async, is_gc, last_of, memory_in, post_return_in}
use Rattle.pc_spec_reading.specs.Options.{realloc_in}
use Rattle.pc_inline_state.specs.declared.definition.CoreId.{CoreId}
use Rattle.pc_inline_state.specs.declared.definition.DataModel.{DataModel}
use Rattle.pc_inline_state.specs.declared.definition.DataModel.TheVariants as model
use Rattle.pc_inline_state.specs.declared.definition.Options.{Options}
use Rattle.pc_inline_state.specs.declared.frame.Frame.{Frame}
use Rattle.pc_inline_canon.specs.declared.options.Written.{Written}

-- what options say: of each the last one
abbrev pub written : List CanonOption → Written
written os = record {
  encoding = last_of encoding_in os;
  memory = last_of memory_in os;
  realloc = last_of realloc_in os;
  post_return = last_of post_return_in os;
  callback = last_of callback_in os;
  async_ = list_any is_async os;
  gc = list_any is_gc os;
}

-- whether the index of an option is sound
abbrev pub is_sound_in : Frame → CanonOption → Bool
is_sound_in f (option.Memory n) = nat_lt n (length f.memories)
is_sound_in f (option.Realloc n) = nat_lt n (length f.core_funcs)
is_sound_in f (option.PostReturn n) = nat_lt n (length f.core_funcs)
is_sound_in f (option.Callback n) = nat_lt n (length f.core_funcs)
is_sound_in f o = true

-- the core item at an index that may be left out
abbrev pub picked : List CoreId → Option ℕ → Option CoreId
picked ns n = option_and_then (slice_get ns) n

-- where values lie
abbrev pub picked_model : Frame → Written → DataModel
picked_model f w =
    if w.gc then model.Gc else model.LinearMemory (picked f.memories w.memory) (picked f.core_funcs w.realloc)

-- the options of an item under a core signature
abbrev pub picked_options : Frame → ModuleInternedTypeIndex → Written → Options
picked_options f core_type w = record {
  instance = f.component_instance;
  string_encoding = unwrap_or w.encoding Utf8;
  callback = picked f.core_funcs w.callback;
  post_return = picked f.core_funcs w.post_return;
  async_ = w.async_;
  core_type = core_type;
  data_model = picked_model f w;
}

-- the same, or nothing where an index is unsound
unfoldable pub options_in : Frame → ModuleInternedTypeIndex → List CanonOption → Option Options
options_in f core_type os = if list_all (is_sound_in f) os then Some (picked_options f core_type (written os)) else None
