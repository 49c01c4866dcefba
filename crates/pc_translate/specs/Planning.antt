-- What comes of a local program: a plan with its modules that stands for the reading of its root, or why there is none.
use Rattle.std.specs.Prelude.{◌≡◌, ◌<◌, ◌+◌, ◌*◌, ◌⊎◌, ⊤, ℕ, List, Option, Result, Some, Ok, Err, length, map}
use Rattle.pc_types_lists.specs.Types.{Types}
use Rattle.pc_types.specs.declared.error.Error.{Error}
use Rattle.pc_types.specs.declared.error.Error.TheVariants as error
use Rattle.pc_types.specs.declared.error.Place.TheVariants as place
use Rattle.pc_types.specs.declared.module_record.ModuleRecord.{ModuleRecord}
use Rattle.pc_types.specs.declared.parsed.TypeTable.{TypeTable}
use Rattle.pc_info.specs.declared.component.ComponentTranslation.{ComponentTranslation}
use Rattle.pc_info.specs.declared.module.ModuleTranslation.{ModuleTranslation}
use Rattle.pc_parsed.specs.declared.payload.Payload.{Payload}
use Rattle.pc_spec_reading.specs.Answer.{ending}
use Rattle.pc_spec_reading.specs.Item.{Items}
use Rattle.pc_spec_reading.specs.Reading.{Reading, reading_of}
use Rattle.pc_spec_reading.specs.Total.{counted}
use Rattle.pc_local.specs.declared.item.LocalProgram.{LocalProgram}
use Rattle.pc_local.specs.Program.{ProgramStands}
use Rattle.pc_dfg.specs.declared.dfg.ComponentDfg.{ComponentDfg}
use Rattle.pc_dfg.specs.Lists.{ListName}
use Rattle.pc_dfg_linearize.specs.declared.error.FinishError.{FinishError}
use Rattle.pc_dfg_linearize.specs.declared.error.FinishError.TheVariants as finish_error
use Rattle.pc_dfg_linearize.specs.Full.{HasTooMany}
use Rattle.pc_adapt.specs.declared.error.AdaptError.{AdaptError}
use Rattle.pc_adapt.specs.declared.error.AdaptError.TheVariants as adapt_error
use Rattle.pc_adapt_partition.specs.Made.{AddsFew}
use Rattle.pc_spec_facts.specs.Recorded.{bare}
use Rattle.pc_inline_state.specs.Adds.{with_modules}
use Rattle.pc_inline_state.specs.Gained.{AddsTables}
use Rattle.pc_inline_stack.specs.Totals.{IsCounted}
use Rattle.pc_inline.specs.Inlines.{StandsForReading}
use Rattle.pc_translate.specs.Adapted.{as_handed_in}
use Rattle.pc_translate.specs.Adapters.{first_lacking}
use Rattle.pc_translate.specs.Causes.{CanBeRead, HasCause, in_the_end}
use Rattle.pc_translate.specs.Finished.{IsFinished}
use Rattle.pc_translate.specs.Partitioned.{IsPartitioned}
use Rattle.pc_translate.specs.Recorded.{HasFacts}
use Rattle.pc_translate.specs.Translation.{GainsCounted}
use Rattle.pc_translate.specs.Transparent.{TellsTransparent}

-- a local program is that of payloads which come to be read, and this is the total before the first item, where so many
-- types were held before
pub record IsProgramOf (t : TypeTable) (exposed : Option (List ℕ)) (held : ℕ) (ps : List Payload) (total : ℕ)
    (program : LocalProgram) : Type 0 where
  pub stands : ProgramStands exposed ps program
  pub can : CanBeRead t exposed held ps
  pub is_total : total ≡ counted t held ps

-- why payloads don't come to be read, where so many types were held before: it is a cause whatever the limit is
unfoldable pub StopsPayloads : TypeTable → (exposed : Option (List ℕ)) → (held : ℕ) → List Payload → Error → Type 0
StopsPayloads t exposed held ps e = (limit : ℕ) → HasCause t exposed limit held ps e

-- why a graph has no plan, as an error of the translation
abbrev pub error_of_finish : FinishError → Error
error_of_finish finish_error.TooMany = error.TooMany
error_of_finish finish_error.NoMemory = error.NoMemory

-- why adapters have no modules, likewise
abbrev pub error_of_adapt : AdaptError → Error
error_of_adapt (adapt_error.BadOptions a) = error.BadOptions (place.Adapter a.0)
error_of_adapt adapt_error.TooMany = error.TooMany
error_of_adapt adapt_error.NoMemory = error.NoMemory

-- a list of a graph has more entries than a plan has numbers for, or the list of the modules has, with what modules of
-- the graph's adapters may add to it
pub data IsCrowded (ms : List ModuleRecord) (g : ComponentDfg) : Type 0 where
  of_list : (l : ListName) → 4294967294 < with_modules g l → IsCrowded ms g
  of_resources : 4294967294 < length g.imported_resources + length g.resources → IsCrowded ms g
  of_modules : 4294967294 < length ms + 32 * length g.adapters → IsCrowded ms g

-- why a graph that stands for a reading has no plan
abbrev pub StopsGraph : List ModuleRecord → Reading → ComponentDfg → Error → Type 0
StopsGraph ms r g (error.BadOptions p) = (a : ℕ) × (first_lacking r ≡ Some a) × (p ≡ place.Adapter a)
StopsGraph ms r g error.TooMany = IsCrowded ms g
StopsGraph ms r g error.NoMemory = Unit {0}
StopsGraph ms r g e = ⊥

-- the adapters of a graph have got modules, few of them, or there is a cause for want of them
unfoldable pub Groups : List ModuleRecord → Reading → Types → (g h : ComponentDfg) → List ModuleTranslation
    → Result ⊤ Error → Type 0
Groups ms r types g h modules (Ok end) =
    IsPartitioned ms r types g h modules × AddsFew (length g.adapters) (map as_handed_in ms) modules h
Groups ms r types g h modules (Err e) = StopsGraph ms r g e

-- why a graph can't be finished
abbrev pub StopsFinish : ComponentDfg → Error → Type 0
StopsFinish h error.TooMany = HasTooMany h
StopsFinish h error.NoMemory = Unit {0}
StopsFinish h e = ⊥

-- a graph stands for the reading of a body whose total begins with this one, and which bounds its lists and the types
-- that were gained; it tells which of its adapters are transparent. New tables of futures, streams and error contexts
-- are those of entries in component instances that begin in the reading
pub record IsGraphOf (t : TypeTable) (ms : List ModuleRecord) (limit counted : ℕ) (body : Items) (old new : Types)
    (g : ComponentDfg) : Type 0 where
  pub stands : StandsForReading t ms limit counted body new g
  pub tells : TellsTransparent stands.result g
  pub few : IsCounted t ms limit counted body old new g
  pub tables : AddsTables t stands.result.begun old new

-- a body has such a graph, or the error that its reading ends with; want of memory is free
unfoldable pub HasGraph : TypeTable → List ModuleRecord → (limit counted : ℕ) → Items → (old new : Types)
    → Result ComponentDfg Error → Type 0
HasGraph t ms limit counted body old new (Ok g) = IsGraphOf t ms limit counted body old new g
HasGraph t ms limit counted body old new (Err e) =
    (e ≡ error.NoMemory) ⊎ (ending (reading_of t ms limit (Some counted) body) ≡ Err e)

-- a plan and its modules are those of a graph that stands for a reading, once its adapters have modules
pub record IsPlanOfGraph (t : TypeTable) (ms : List ModuleRecord) (r : Reading) (types : Types) (g : ComponentDfg)
    (plan : ComponentTranslation) (modules : List ModuleTranslation) : Type 0 where
  pub grouped : ComponentDfg
  pub partitioned : IsPartitioned ms r types g grouped modules
  pub finished : IsFinished types t grouped plan

-- a graph has such a plan, with modules of which everything is recorded, or there is a cause for want of one
unfoldable pub PlansGraph : TypeTable → List ModuleRecord → Reading → Types → ComponentDfg
    → Result (ComponentTranslation × List ModuleTranslation) Error → Type 0
PlansGraph t ms r types g (Ok p) = IsPlanOfGraph t ms r types g p.0 (map bare p.1) × HasFacts p.0 p.1
PlansGraph t ms r types g (Err e) = StopsGraph ms r g e

-- a plan and its modules are those of a graph which stands for the reading of a body and tells which of its adapters
-- are transparent, once its adapters have modules; and the types that were gained are counted in that reading
pub record IsPlanOfBody (t : TypeTable) (ms : List ModuleRecord) (limit counted : ℕ) (body : Items) (old new : Types)
    (plan : ComponentTranslation) (modules : List ModuleTranslation) : Type 0 where
  pub graph : ComponentDfg
  pub stands : StandsForReading t ms limit counted body new graph
  pub tells : TellsTransparent stands.result graph
  pub gains : GainsCounted t counted stands.result old new
  pub grouped : ComponentDfg
  pub partitioned : IsPartitioned ms stands.result new graph grouped modules
  pub finished : IsFinished new t grouped plan

-- a body has such a plan, with modules of which everything is recorded, or the error that its reading ends with, or its
-- first adapter that lacks an option; want of memory is free
unfoldable pub Plans : TypeTable → List ModuleRecord → (limit counted : ℕ) → Items → (old new : Types)
    → Result (ComponentTranslation × List ModuleTranslation) Error → Type 0
Plans t ms limit counted body old new (Ok r) =
    IsPlanOfBody t ms limit counted body old new r.0 (map bare r.1) × HasFacts r.0 r.1
Plans t ms limit counted body old new (Err e) =
    (e ≡ error.NoMemory) ⊎ (in_the_end (ending (reading_of t ms limit (Some counted) body)) ≡ Err e)
