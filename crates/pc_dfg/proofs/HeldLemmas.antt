-- What is held stays held as the graph grows.
use Rattle.std.proofs.Common.{ℕ, List, All, Option, None, Some, arith}
use Rattle.pc_spec_plan.specs.PlanView as plan
use Rattle.pc_trampoline.specs.declared.part.Mark.{Mark}
use Rattle.pc_dfg.specs.declared.adapter.Adapter.{Adapter}
use Rattle.pc_dfg.specs.declared.core_def.CoreDef.{CoreDef}
use Rattle.pc_dfg.specs.declared.core_def.CoreDef.TheVariants as def
use Rattle.pc_dfg.specs.declared.dfg.ComponentDfg.{ComponentDfg}
use Rattle.pc_dfg.specs.declared.export.Export.{Export}
use Rattle.pc_dfg.specs.declared.export.Export.TheVariants as export
use Rattle.pc_dfg.specs.declared.instance.Instance.{Instance}
use Rattle.pc_dfg.specs.declared.instance.Instance.TheVariants as source
use Rattle.pc_dfg.specs.declared.instance.Resource.{Resource}
use Rattle.pc_dfg.specs.declared.instance.SideEffect.{SideEffect}
use Rattle.pc_dfg.specs.declared.instance.SideEffect.TheVariants as effect
use Rattle.pc_dfg.specs.Grows.{Grows}
use Rattle.pc_dfg.specs.Held.{HasBegun, IsHeld, HeldSlot, HeldModel, HeldOptions, HeldPart, HeldTrampoline, HeldAdapter}
use Rattle.pc_dfg.specs.Held.{HeldInstance, HeldResource, HeldExport, HeldEffect, HoldsEntry}
use Rattle.pc_dfg.specs.Lists as list
use Rattle.pc_dfg.specs.Lists.{ListName, EntryOf}
use Rattle.pc_dfg.specs.Names.{in_adapter, in_instance, in_resource}
use Rattle.pc_dfg.specs.Numbers.{options_entry, trampoline_entry}
use Rattle.pc_dfg.proofs.AllLemmas.{all_more}
use Rattle.pc_dfg.proofs.GrowLemmas.{within}

module _ (g h : ComponentDfg) (grows : Grows g h) where
  begun_stays : (c : ℕ) → HasBegun g c → HasBegun h c
  begun_stays c begun = omega (arith, begun, grows.component_instances)

  -- a definition
  pub held_stays : (d : CoreDef) → IsHeld g d → IsHeld h d
  unfolding IsHeld
  held_stays (def.Export e) held = within g h grows list.instances e.instance.0 held
  held_stays (def.InstanceFlags c) held = begun_stays c.0 held
  held_stays (def.Trampoline t) held = within g h grows list.trampolines t.0 held
  held_stays (def.UnsafeIntrinsic s i) held = held
  held_stays (def.Adapter a) held = within g h grows list.adapters a.0 held

  -- definitions
  pub all_stay : (ds : List CoreDef) → All (IsHeld g) ds → All (IsHeld h) ds
  all_stay ds all = all_more (IsHeld g) (IsHeld h) held_stays ds all

  slot_stays : (k : plan.SlotKind) (n : Option ℕ) → HeldSlot g k n → HeldSlot h k n
  unfolding HeldSlot
  slot_stays k None held = held
  slot_stays k (Some n) held = within g h grows (list.slots k) n held

  model_stays : (m : plan.ModelEntry) → HeldModel g m → HeldModel h m
  unfolding HeldModel
  model_stays plan.gc held = held
  model_stays (plan.linear m r) held = (slot_stays plan.memory m held.0, slot_stays plan.realloc r held.1)

  -- options
  pub options_stay : (e : plan.PlanOptions Mark) → HeldOptions g e → HeldOptions h e
  options_stay e held = record {
    component_instance = begun_stays e.component_instance held.component_instance;
    callback = slot_stays plan.callback e.callback held.callback;
    post_return = slot_stays plan.post_return e.post_return held.post_return;
    model = model_stays e.model held.model;
  }

  part_stays : (p : plan.TrampolinePart Mark) → HeldPart g p → HeldPart h p
  unfolding HeldPart
  part_stays (plan.mark m) held = held
  part_stays (plan.number n) held = held
  part_stays (plan.flag b) held = held
  part_stays (plan.slot k n) held = slot_stays k n held
  part_stays (plan.options o) held = within g h grows list.options o held

  -- a trampoline
  pub trampoline_stays : (e : plan.TrampolineEntry Mark) → HeldTrampoline g e → HeldTrampoline h e
  unfolding HeldTrampoline
  trampoline_stays (plan.lowers r s ty o) held =
      (within g h grows list.imports r held.0, within g h grows list.options o held.1)
  trampoline_stays (plan.builtin k symbol c ps) held =
      (begun_stays c held.0, all_more (HeldPart g) (HeldPart h) part_stays ps held.1)
  trampoline_stays (plan.helper k symbol ps) held = all_more (HeldPart g) (HeldPart h) part_stays ps held

  adapter_stays : (x : Adapter) → HeldAdapter g x → HeldAdapter h x
  adapter_stays x held = record {
    lift = begun_stays x.lift_options.instance.0 held.lift;
    lower = begun_stays x.lower_options.instance.0 held.lower;
    defs = all_stay (in_adapter x) held.defs;
  }

  instance_stays : (x : Instance) → HeldInstance g x → HeldInstance h x
  unfolding HeldInstance
  instance_stays (source.Static m args) held = all_stay args held
  instance_stays (source.Import r args) held =
      (within g h grows list.imports r.0 held.0, all_stay (in_instance (source.Import r args)) held.1)

  resource_stays : (x : Resource) → HeldResource g x → HeldResource h x
  resource_stays x held = record {
    component_instance = begun_stays x.instance.0 held.component_instance;
    destructor = all_stay (in_resource x) held.destructor;
  }

  export_stays : (n : ℕ) (e : Export) → HeldExport g n e → HeldExport h n e
  unfolding HeldExport
  export_stays n (export.LiftedFunction ty f o) held =
      (held_stays f held.0, within g h grows list.options o.0 held.1)
  export_stays n (export.ImportedFunction ty r) held = within g h grows list.imports r.0 held
  export_stays n (export.ModuleStatic ty m) held = held
  export_stays n (export.ModuleImport ty r) held = within g h grows list.imports r.0 held
  export_stays n (export.Instance ty exports) held = held
  export_stays n (export.Type_ ty) held = held

  effect_stays : (e : SideEffect) → HeldEffect g e → HeldEffect h e
  unfolding HeldEffect
  effect_stays (effect.Instance i c) held = (within g h grows list.instances i.0 held.0, begun_stays c.0 held.1)
  effect_stays (effect.Resource n) held = within g h grows list.resources n.0 held

  -- an entry of any list
  pub entry_stays : (l : ListName) (n : ℕ) (x : EntryOf l) → HoldsEntry g l n x → HoldsEntry h l n x
  unfolding HoldsEntry
  entry_stays list.import_types n x held = held
  entry_stays list.imports n x held = within g h grows list.import_types x.0.0 held
  entry_stays list.imported_resources n x held = within g h grows list.imports x.0 held
  entry_stays (list.slots k) n x held = held_stays x held
  entry_stays list.options n x held = options_stay (options_entry x) held
  entry_stays list.trampolines n x held = trampoline_stays (trampoline_entry x) held
  entry_stays list.adapters n x held = adapter_stays x held
  entry_stays list.adapter_modules n x held = all_stay x.1 held
  entry_stays list.adapter_partitionings n x held = within g h grows list.adapter_modules x.0.0 held
  entry_stays list.instances n x held = instance_stays x held
  entry_stays list.resources n x held = resource_stays x held
  entry_stays list.side_effects n x held = effect_stays x held
  entry_stays list.export_items n x held = export_stays n x held
  entry_stays list.exports n x held = within g h grows list.export_items x.1.0.0 held
