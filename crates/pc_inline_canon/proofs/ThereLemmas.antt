-- What stands for a value of the reading is there.
use Rattle.std.proofs.Common.{List, Option}
use Rattle.std.proofs.lemmas.Option.{slice_get_within}
use Rattle.pc_types.specs.declared.module_record.ModuleRecord.{ModuleRecord}
use Rattle.pc_types.specs.declared.parsed.CoreKind.{CoreKind}
use Rattle.pc_types.specs.declared.parsed.CoreKind.TheVariants as core
use Rattle.pc_spec_plan.specs.CoreValue as value
use Rattle.pc_spec_plan.specs.CoreValue.{CoreValue, MaybeValue}
use Rattle.pc_parsed.specs.Mark.{Mark}
use Rattle.pc_inline_state.specs.declared.definition.CoreId.{CoreId}
use Rattle.pc_inline_state.specs.declared.definition.DataModel.{DataModel}
use Rattle.pc_inline_state.specs.declared.definition.Options.{Options}
use Rattle.pc_inline_state.specs.Slots.{IsThere, MaybeThere, ModelThere, OptionsThere}
use Rattle.pc_inline_state.specs.Stands.{ItemStands, MaybeStands, ModelStands, OptionsStand}
use Rattle.pc_inline_state.specs.Stands.{gc_stands, linear_stands, none_stands, options_stand, some_stands}
use Rattle.pc_inline_state.specs.Tables.{Tables}

module _ (ms : List ModuleRecord) (b : Tables) where
  -- a core item
  pub item_there : (k : CoreKind) (n : CoreId) (v : CoreValue Mark) → ItemStands ms b k n v → IsThere ms b k n
  item_there k n v x = record { definition = x.definition; held = x.held; usable = x.usable }

  maybe_there : (k : CoreKind) (n : Option CoreId) (v : MaybeValue Mark) → MaybeStands ms b k n v → MaybeThere ms b k n
  maybe_there k n v none_stands = tt
  maybe_there k n v (some_stands {n = m} {v = w} x) = item_there k m w x

  model_there : (m : DataModel) (v : value.DataModel Mark) → ModelStands ms b m v → ModelThere ms b m
  model_there m v gc_stands = tt
  model_there m v (linear_stands {m = n} {r = r} {memory = x} {realloc = y} memory realloc) =
      (maybe_there core.Memory n x memory, maybe_there core.Func r y realloc)

  -- options
  pub options_there : (o : Options) (v : value.Options Mark) → OptionsStand ms b o v → OptionsThere ms b o
  options_there o v (options_stand {signature = g} {callback = x} {post_return = y} {where_values_lie = m} begun signed
      callback post_return model) =
      record {
        component_instance = begun;
        signature = slice_get_within b.types.signatures o.core_type.0 g signed;
        callback = maybe_there core.Func o.callback x callback;
        post_return = maybe_there core.Func o.post_return y post_return;
        model = model_there o.data_model m model;
      }
