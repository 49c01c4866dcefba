-- The calls for an entry of options: where values lie, a callback, a post-return function, and the entry.
use Rattle.std.proofs.Common.{◌≡◌, List, Option}
use Rattle.pc_types.specs.declared.module_record.ModuleRecord.{ModuleRecord}
use Rattle.pc_types.specs.declared.parsed.CoreKind.{CoreKind}
use Rattle.pc_types.specs.declared.parsed.TypeTable.{TypeTable}
use Rattle.pc_spec_plan.specs.PlanView as plan
use Rattle.pc_dfg.specs.declared.dfg.ComponentDfg.{ComponentDfg}
use Rattle.pc_dfg.specs.declared.options.CanonicalOptions.{CanonicalOptions}
use Rattle.pc_dfg.specs.Grows as graph
use Rattle.pc_dfg.specs.Held.{HeldModel, HeldOptions, HeldSlot}
use Rattle.pc_dfg.specs.Numbers.{options_entry}
use Rattle.pc_dfg.specs.Ordered.{IsOrdered}
use Rattle.pc_dfg.specs.Pushed.{IsPut}
use Rattle.pc_inline_state.specs.declared.definition.CoreId.{CoreId}
use Rattle.pc_inline_state.specs.declared.definition.Options.{Options}
use Rattle.pc_inline_state.specs.declared.state.State.{State}
use Rattle.pc_inline_state.specs.AddsEach.{AddsEach, in_options, in_slots}
use Rattle.pc_inline_state.specs.Prepares.{Prepares}
use Rattle.pc_inline_state.specs.Slots.{MaybeThere, OptionsThere}
use Rattle.pc_inline_state.specs.Tables.{Tables, tables_of}
use Rattle.pc_inline_state.proofs.AddsLemmas.{each_refl, entry_adds}
use Rattle.pc_inline_state.proofs.AddsPushLemmas.{one_option, options_adds}
use Rattle.pc_inline_canon.proofs.OptionsEntryLemmas.{entry_prepares, entry_ready, entry_signed, there_kept}
use Rattle.pc_inline_state.proofs.StateLemmas.{prepares_trans}

module _ {a b : Tables} (model : AddsEach (in_slots 2) 0 0 a b) where
  -- no more than where values lie
  pub model_options : AddsEach in_options 0 0 a b
  model_options =
      entry_adds a b b b b model (each_refl (in_slots 1) 0 0 b) (each_refl (in_slots 1) 0 0 b)
      (each_refl one_option 0 0 b)

  module _ {x : Tables} (callback : AddsEach (in_slots 1) 0 0 b x) where
    -- and a callback
    pub callback_options : AddsEach in_options 0 0 a x
    callback_options =
        entry_adds a b x x x model callback (each_refl (in_slots 1) 0 0 x) (each_refl one_option 0 0 x)

    module _ {y : Tables} (post_return : AddsEach (in_slots 1) 0 0 x y) where
      -- and a post-return function
      pub post_return_options : AddsEach in_options 0 0 a y
      post_return_options = entry_adds a b x y y model callback post_return (each_refl one_option 0 0 y)

-- and the entry, each call before the one that it leads to
pub all_options : (a b x y : State) (h : ComponentDfg) (o : CanonicalOptions)
    → h ≡ record y.graph { options = h.options } → IsPut y.graph.options h.options o
    → AddsEach (in_slots 1) 0 0 (tables_of x) (tables_of y) → AddsEach (in_slots 1) 0 0 (tables_of b) (tables_of x)
    → AddsEach (in_slots 2) 0 0 (tables_of a) (tables_of b)
    → AddsEach in_options 0 0 (tables_of a) (tables_of (record y { graph = h }))
all_options a b x y h o rest put post_return callback model =
    entry_adds (tables_of a) (tables_of b) (tables_of x) (tables_of y) (tables_of (record y { graph = h })) model
    callback post_return (options_adds (tables_of y) h o rest put)

module _ {t : TypeTable} {ms : List ModuleRecord} {a b : State} (first : Prepares t ms a b) where
  -- a core item that was there
  pub there_then : (k : CoreKind) (id : Option CoreId) → MaybeThere ms (tables_of a) k id
      → MaybeThere ms (tables_of b) k id
  there_then k id there = there_kept ms (tables_of a) (tables_of b) first.keeps k id there

  module _ {c : State} (second : Prepares t ms b c) where
    -- and the callback
    pub both_prepare : Prepares t ms a c
    both_prepare = prepares_trans t ms a b c first second

    module _ {d : State} (third : Prepares t ms c d) where
      -- and the post-return function
      pub all_prepare : Prepares t ms a d
      all_prepare = prepares_trans t ms a c d both_prepare third

-- and the entry, of what is held
pub entry_prepare : {t : TypeTable} {ms : List ModuleRecord} {a b c d : State} {h : ComponentDfg} {x : CanonicalOptions}
    {o : Options} → IsPut d.graph.options h.options x → graph.Grows d.graph h
    → h ≡ record d.graph { options = h.options }
    → (HeldOptions d.graph (options_entry x) → IsOrdered d.graph → IsOrdered h) → Prepares t ms c d → Prepares t ms b c
    → Prepares t ms a b → OptionsThere ms (tables_of a) o → x.instance ≡ o.instance → x.core_type ≡ o.core_type
    → HeldModel b.graph (options_entry x).model → HeldSlot c.graph plan.callback (options_entry x).callback
    → HeldSlot d.graph plan.post_return (options_entry x).post_return → Prepares t ms a (record d { graph = h })
entry_prepare {t = t} {ms = ms} {a = a} {b = b} {c = c} {d = d} {h = h} {x = x} {o = o} put grows rest ordered third
    second first there instance core_type model callback post_return =
    entry_prepares t ms a b c d first second third o x h grows
    (entry_ready t ms a b c d first second third o x there instance model callback post_return)
    (entry_signed t ms a b c d first second third o x there core_type) put rest ordered

-- a core item that was there before two calls
pub there_later : (t : TypeTable) (ms : List ModuleRecord) (a b c : State) (k : CoreKind) (id : Option CoreId)
    → Prepares t ms b c → Prepares t ms a b → MaybeThere ms (tables_of a) k id → MaybeThere ms (tables_of c) k id
there_later t ms a b c k id second first there = there_then (both_prepare first second) k id there
