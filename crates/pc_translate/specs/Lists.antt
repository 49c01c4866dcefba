-- Whether the lists of a plan fit each other.
use Rattle.std.specs.Prelude.{◌≡◌, ◌<◌, ◌+◌, ℕ, List, length, take, slice_get, Some, false}
use Rattle.pc_entity.specs.declared.packed_option.PackedOption.TheVariants as packed
use Rattle.pc_spec_plan.specs.ExportNode.{NamedNode}
use Rattle.pc_spec_plan.specs.PlanView.{Initializer, intrinsic}
use Rattle.pc_names.specs.Stands.{StandsFor}
use Rattle.pc_numbers.specs.declared.module_entity.ModuleInternedTypeIndex.{ModuleInternedTypeIndex}
use Rattle.pc_dfg_finish.specs.Uses.{UsesDefinition}
use Rattle.pc_info.specs.declared.component.Component.{Component}
use Rattle.pc_info.specs.declared.component.ComponentTranslation.{ComponentTranslation}
use Rattle.pc_info.specs.Exports.{Entry, number_of}
use Rattle.pc_info.specs.Slots.{AtMostOne, IsUsed, MakesAdapters, TakesLowering, UsesTrampoline}
use Rattle.pc_info.specs.Standing.{AreNumberedBehind, CarriesNext, IsMadeLate, Makes, Piece, a_trampoline}
use Rattle.pc_info.specs.Standing.{an_options_entry, is_side_effect, steps_in}
use Rattle.pc_info.specs.View.{trampolines_view}
use Rattle.pc_parsed.specs.Mark.{Mark}
use Rattle.pc_inline_exports.specs.Exports.{sizes}

-- a plan has as many export items as these exports have nodes, and the item of each export stands behind those of the
-- exports before it, with those of what is under it in front of it
pub record NumbersItems (c : Component) (nodes : List (NamedNode Mark)) : Type 0 where
  pub as_many : length c.export_items ≡ sizes nodes
  pub last : (n : ℕ) (e : Entry) → slice_get c.exports.definitions n ≡ Some e
      → number_of e + 1 ≡ sizes (take (n + 1) nodes)

-- a look-up of an export finds what the list of them has
abbrev pub FindsExports : Component → Type 0
FindsExports c = StandsFor (λ text key. key ≡ text) c.exports c.exports.definitions

-- each options entry, each trampoline and each signature of an intrinsic is used, none is made twice, and each step,
-- entry and trampoline stands where it has to
pub record IsTidy (plan : ComponentTranslation) : Type 0 where
  -- no module of adapters is instantiated twice
  pub adapters_once : (m : ℕ) → AtMostOne (MakesAdapters m) (steps_in plan)
  -- lowerings and slots carry their numbers in order, and a step that is no side effect stands before the first one
  -- that leads to what it makes, with no other between, or behind them all where an export leads to it
  pub carry : (i : ℕ) (s : Initializer) → slice_get (steps_in plan) i ≡ Some s → CarriesNext (take i (steps_in plan)) s
  pub late : (i : ℕ) (s : Initializer) (x : Piece) → slice_get (steps_in plan) i ≡ Some s → is_side_effect s ≡ false
      → Makes (take i (steps_in plan)) s x → IsMadeLate plan i x
  -- an options entry has its number after those that it leads to, and so has a trampoline
  pub options_rise : AreNumberedBehind plan an_options_entry
  pub trampolines_rise : AreNumberedBehind plan a_trampoline
  -- a lowering is that of one trampoline
  pub lowered_once : (n : ℕ)
      → AtMostOne (TakesLowering n) (trampolines_view 0 plan.component.trampolines plan.trampolines)
  -- each options entry and each trampoline is used
  pub options_used : (n : ℕ) → n < length plan.component.options → IsUsed plan n
  pub trampolines_used : (n : ℕ) → n < length plan.trampolines → UsesTrampoline plan n
  -- an intrinsic has a signature only where a step or an exported function names it
  pub intrinsics_used : (n : ℕ) (s : ModuleInternedTypeIndex)
      → slice_get plan.component.unsafe_intrinsics n ≡ Some (packed.Some s) → UsesDefinition plan (intrinsic n)
