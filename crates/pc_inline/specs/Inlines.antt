-- What an instantiation answers: the graph that stands for the reading, or why there is none.
use Rattle.std.specs.Prelude.{◌≡◌, ◌⊎◌, ℕ, List, length, None, Some, Result, Ok, Err}
use Rattle.pc_types_lists.specs.Types.{Types}
use Rattle.pc_types.specs.declared.error.Error.{Error}
use Rattle.pc_types.specs.declared.error.Error.TheVariants as error
use Rattle.pc_types.specs.declared.module_record.ModuleRecord.{ModuleRecord}
use Rattle.pc_types.specs.declared.parsed.TypeTable.{TypeTable}
use Rattle.pc_spec_reading.specs.Answer.{ending}
use Rattle.pc_spec_reading.specs.Item.{Items}
use Rattle.pc_spec_reading.specs.Outcome.{done}
use Rattle.pc_spec_reading.specs.Reading.{Reading, reading_of}
use Rattle.pc_spec_reading.specs.World.{World}
use Rattle.pc_dfg.specs.declared.dfg.ComponentDfg.{ComponentDfg}
use Rattle.pc_dfg.specs.Ordered.{IsOrdered}
use Rattle.pc_inline_exports.specs.Exports.{ExportsStand, NumbersExports}
use Rattle.pc_inline_state.specs.Worlds.{HasItems, HoldsTypes, IsPlain, WorldStands}
use Rattle.pc_inline.specs.Widths.{AreWide}

-- the world at the end of a reading, its total aside
abbrev pub last_world : Reading → World
last_world r = record {
  log = r.log;
  begun = r.begun;
  total = None;
  imports = r.imports;
  imported_resources = r.imported_resources;
  intrinsics = r.intrinsics;
}

-- a graph stands for a reading, with the types that the builder holds
pub record GraphStands (t : TypeTable) (ms : List ModuleRecord) (types : Types) (g : ComponentDfg) (r : Reading)
    : Type 0 where
  -- its side effects, imports, adapters and trampolines are those of the reading
  pub world : WorldStands types g (last_world r)
  -- and so are its exports
  pub exports : ExportsStand t types g r.nodes
  pub numbers : NumbersExports g r.nodes
  -- it is ordered, and its definitions are items of the modules' instances
  pub ordered : IsOrdered g
  pub items : HasItems ms g
  pub plain : IsPlain g
  -- the flags of its adapters say whether their memories have 64 bits
  pub widths : AreWide ms r g
  -- the types and signatures that it names are there
  pub held : HoldsTypes types t g
  -- it counts the tables that the builder holds
  pub future_tables : g.num_future_tables ≡ length types.future_tables
  pub stream_tables : g.num_stream_tables ≡ length types.stream_tables
  pub error_context_tables : g.num_error_context_tables ≡ length types.error_context_tables

-- the reading whose total begins with this one is done, and the graph stands for it
pub record StandsForReading (t : TypeTable) (ms : List ModuleRecord) (limit counted : ℕ) (body : Items) (types : Types)
    (g : ComponentDfg) : Type 0 where
  pub result : Reading
  pub outcome : reading_of t ms limit (Some counted) body ≡ done result
  pub stands : GraphStands t ms types g result

-- the answer is the graph that stands for the reading, or the error that the reading ends with; want of memory is free.
-- The builder holds these types then
unfoldable pub Inlines : TypeTable → List ModuleRecord → (limit counted : ℕ) → Items → (types : Types)
    → Result ComponentDfg Error → Type 0
Inlines t ms limit counted body types (Ok g) = StandsForReading t ms limit counted body types g
Inlines t ms limit counted body types (Err e) =
    (e ≡ error.NoMemory) ⊎ (ending (reading_of t ms limit (Some counted) body) ≡ Err e)
