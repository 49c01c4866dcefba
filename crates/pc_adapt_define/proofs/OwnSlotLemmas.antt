-- What is defined for the imports of an adapter adds slots that the adapter may need, and takes from core instances
-- only what the adapter does.
use Rattle.std.proofs.Common.{◌≡◌, inl, inr, ℕ, Bool, true, false, ◌&&◌, List, [], ◌∷◌, ◌++◌, All, Contains, Option}
use Rattle.std.proofs.Common.{None, Some, refl, sym, ap, subst, ◌∙◌, true≢false}
use Rattle.std.specs.Prelude.{map, option_map, slice_get}
use Rattle.std.specs.List.{AllZip}
use Rattle.std.proofs.lemmas.List.Elements.{All-append, All-cons, All-contains, All-contains_itself}
use Rattle.pc_numbers.specs.declared.module_entity.ModuleInternedTypeIndex.{ModuleInternedTypeIndex}
use Rattle.pc_numbers.specs.declared.runtime.TrampolineIndex.{TrampolineIndex}
use Rattle.pc_types_lists.specs.declared.facts.TypeFacts.{TypeFacts}
use Rattle.pc_types_lists.specs.Facts.{join}
use Rattle.pc_spec_plan.specs.PlanView as plan
use Rattle.pc_trampoline.specs.declared.transcode.Transcode.{Transcode}
use Rattle.pc_dfg.specs.declared.adapter.Adapter.{Adapter}
use Rattle.pc_dfg.specs.declared.adapter.AdapterOptions.{AdapterOptions}
use Rattle.pc_dfg.specs.declared.adapter.DataModel.{DataModel}
use Rattle.pc_dfg.specs.declared.adapter.DataModel.TheVariants as model
use Rattle.pc_dfg.specs.declared.core_def.CoreDef.{CoreDef}
use Rattle.pc_dfg.specs.declared.core_def.CoreDef.TheVariants as def
use Rattle.pc_dfg.specs.declared.dfg.ComponentDfg.{ComponentDfg}
use Rattle.pc_dfg.specs.Names.{if_any, in_adapter, in_side, in_side_model}
use Rattle.pc_dfg.specs.Numbers.{memory_def}
use Rattle.pc_dfg.proofs.AllLemmas.{all_first, all_none, all_one, all_rest}
use Rattle.pc_spec_adapt.specs.Asked.{FunctionFacts}
use Rattle.pc_spec_adapt.specs.Planned.{all_facts, transcodings}
use Rattle.pc_adapt.specs.declared.import.Import.{Import}
use Rattle.pc_adapt.specs.declared.import.Import.TheVariants as import
use Rattle.pc_adapt.specs.Imports.{calls, copies, copies_if, copy, definitions, import_if, imports_of, is_async_call}
use Rattle.pc_adapt.specs.Imports.{Memory, memory_imports, memory_of, realloc_of, side_imports, transfer_imports}
use Rattle.pc_adapt_define.specs.Define.{in_import, is_taken, IsDefined}
use Rattle.pc_adapt_define.specs.Only.{AddsOnly, AddsOwn, HasSlotFor, in_slots, own_slots, side_memory}
use Rattle.pc_adapt_define.proofs.OwnLemmas.{behind, front, imports_all}

module _ (x : Adapter) where
  -- the slots of an import are those of the adapter
  abbrev Fits : Import → Type 0
  Fits i = (k : plan.SlotKind) → All (Contains (own_slots x k)) (in_slots i k)

  -- a memory that may be left out is one of the adapter
  abbrev FitsMemory : Option Memory → Type 0
  FitsMemory m =
      All (Contains (own_slots x plan.memory)) (if_any (option_map (λ (n : Memory). memory_def n.0) m))

  own_fits : (d : CoreDef) → Fits (import.CoreDef d)
  own_fits d k = all_none (Contains (own_slots x k))

  definitions_fit : (o : Option CoreDef) → All Fits (definitions o)
  definitions_fit None = all_none Fits
  definitions_fit (Some d) = all_one Fits (import.CoreDef d) (own_fits d)

  memory_fits : (m : Option Memory) → All Fits (memory_imports m)
  memory_fits None = all_none Fits
  memory_fits (Some m) = all_one Fits (import.CoreDef (memory_def m.0)) (own_fits (memory_def m.0))

  side_fits : (o : AdapterOptions) → All Fits (side_imports o)
  side_fits o =
      let a = memory_imports (memory_of o.data_model) in
      let b = definitions (realloc_of o.data_model) in
      let c = definitions o.callback in
      let d = definitions o.post_return in
      All-append Fits (a ++ b ++ c) d
      (All-append Fits (a ++ b) c
      (All-append Fits a b (memory_fits (memory_of o.data_model)) (definitions_fit (realloc_of o.data_model)))
      (definitions_fit o.callback)) (definitions_fit o.post_return)

  copy_fits : (from to : Memory) (op : Transcode) → FitsMemory (Some from) → FitsMemory (Some to)
      → Fits (copy from to op)
  copy_fits from to op first second plan.memory =
      All-append (Contains (own_slots x plan.memory)) (memory_def from.0 ∷ []) (memory_def to.0 ∷ []) first second
  copy_fits from to op first second plan.table = all_none (Contains (own_slots x plan.table))
  copy_fits from to op first second plan.realloc = all_none (Contains (own_slots x plan.realloc))
  copy_fits from to op first second plan.callback = all_none (Contains (own_slots x plan.callback))
  copy_fits from to op first second plan.post_return = all_none (Contains (own_slots x plan.post_return))

  copies_fit : (ops : List Transcode) (from to : Option Memory) → FitsMemory from → FitsMemory to
      → All Fits (copies ops from to)
  copies_fit ops None to first second = all_none Fits
  copies_fit ops (Some from) None first second = all_none Fits
  copies_fit ops (Some from) (Some to) first second = each ops
    where
      each : (os : List Transcode) → All Fits (map (copy from to) os)
      each [] = all_none Fits
      each (o ∷ os) =
          All-cons Fits (copy from to o) (map (copy from to) os) (copy_fits from to o first second) (each os)

  copies_if_fit : (moved : Bool) (o r : AdapterOptions) → FitsMemory (memory_of o.data_model)
      → FitsMemory (memory_of r.data_model) → All Fits (copies_if moved o r)
  copies_if_fit true o r first second =
      copies_fit (transcodings o.string_encoding r.string_encoding) (memory_of o.data_model) (memory_of r.data_model)
      first second
  copies_if_fit false o r first second = all_none Fits

  bare_fits : (asked : Bool) (i : Import) → Fits i → All Fits (import_if asked i)
  bare_fits true i fits = all_one Fits i fits
  bare_fits false i fits = all_none Fits

  transfers_fit : (f : TypeFacts) → All Fits (transfer_imports f)
  transfers_fit f =
      let a = import_if f.own import.ResourceTransferOwn in
      let b = import_if f.borrow import.ResourceTransferBorrow in
      let c = import_if f.future import.FutureTransfer in
      let d = import_if f.stream import.StreamTransfer in
      let e = import_if f.error_context import.ErrorContextTransfer in
      All-append Fits (a ++ b ++ c ++ d) e
      (All-append Fits (a ++ b ++ c) d
      (All-append Fits (a ++ b) c
      (All-append Fits a b
      (bare_fits f.own import.ResourceTransferOwn (λ k. all_none (Contains (own_slots x k))))
      (bare_fits f.borrow import.ResourceTransferBorrow (λ k. all_none (Contains (own_slots x k)))))
      (bare_fits f.future import.FutureTransfer (λ k. all_none (Contains (own_slots x k)))))
      (bare_fits f.stream import.StreamTransfer (λ k. all_none (Contains (own_slots x k)))))
      (bare_fits f.error_context import.ErrorContextTransfer (λ k. all_none (Contains (own_slots x k))))

  memory_known : (m : Option Memory) → FitsMemory m
      → All (Contains (own_slots x plan.memory)) (if_any (option_map memory_def (option_map (λ (n : Memory). n.0) m)))
  memory_known None fits = all_none (Contains (own_slots x plan.memory))
  memory_known (Some m) fits = fits

  prepare_fits : FitsMemory (memory_of x.lift_options.data_model)
      → Fits (import.PrepareCall (option_map (λ (n : Memory). n.0) (memory_of x.lift_options.data_model)))
  prepare_fits fits plan.memory = memory_known (memory_of x.lift_options.data_model) fits
  prepare_fits fits plan.table = all_none (Contains (own_slots x plan.table))
  prepare_fits fits plan.realloc = all_none (Contains (own_slots x plan.realloc))
  prepare_fits fits plan.callback = all_none (Contains (own_slots x plan.callback))
  prepare_fits fits plan.post_return = all_none (Contains (own_slots x plan.post_return))

  start_fits : Fits (import.StartCall x.lift_options.callback x.lift_options.post_return)
  start_fits plan.memory = all_none (Contains (own_slots x plan.memory))
  start_fits plan.table = all_none (Contains (own_slots x plan.table))
  start_fits plan.realloc = all_none (Contains (own_slots x plan.realloc))
  start_fits plan.callback = All-contains_itself (if_any x.lift_options.callback)
  start_fits plan.post_return = All-contains_itself (if_any x.lift_options.post_return)

  calls_fit : (is_async clear : Bool) → FitsMemory (memory_of x.lift_options.data_model)
      → All Fits (calls is_async clear x.lift_options)
  calls_fit true clear fits =
      let prepare = import.PrepareCall (option_map (λ (n : Memory). n.0) (memory_of x.lift_options.data_model)) in
      let start = import.StartCall x.lift_options.callback x.lift_options.post_return in
      All-cons Fits prepare (start ∷ []) (prepare_fits fits) (all_one Fits start start_fits)
  calls_fit false true fits = all_none Fits
  calls_fit false false fits =
      All-cons Fits import.EnterSyncCall (import.ExitSyncCall ∷ []) (λ k. all_none (Contains (own_slots x k)))
      (all_one Fits import.ExitSyncCall (λ k. all_none (Contains (own_slots x k))))

  -- the slots of all its imports are its own
  all_fit : (lift lower : FunctionFacts) (clear : Bool) → All Fits (imports_of lift lower clear x)
  unfolding imports_of
  all_fit lift lower clear =
      let o = x.lift_options in
      let r = x.lower_options in
      let here = All-contains_itself (own_slots x plan.memory) in
      let lifted = front (Contains (own_slots x plan.memory)) (side_memory o) (side_memory r) here in
      let lowered = behind (Contains (own_slots x plan.memory)) (side_memory o) (side_memory r) here in
      let callee = import.CoreDef x.func in
      let flags = import.CoreDef (def.InstanceFlags r.instance) in
      let flags' = import.CoreDef (def.InstanceFlags o.instance) in
      let is1 = callee ∷ flags ∷ flags' ∷ [] in
      let is2 = side_imports o in
      let is3 = side_imports r in
      let moved = lift.params.string && lower.params.string in
      let is4 = copies_if moved r o in
      let moved' = lift.results.string && lower.results.string in
      let is5 = copies_if moved' o r in
      let facts = join (all_facts lift) (all_facts lower) in
      let is6 = transfer_imports facts in
      let is7 = calls (is_async_call lift lower x) clear o in
      let is8 = import.Trap (record { 0 = 1 }) ∷ [] in
      All-append Fits (is1 ++ is2 ++ is3 ++ is4 ++ is5 ++ is6 ++ is7) is8
      (All-append Fits (is1 ++ is2 ++ is3 ++ is4 ++ is5 ++ is6) is7
      (All-append Fits (is1 ++ is2 ++ is3 ++ is4 ++ is5) is6
      (All-append Fits (is1 ++ is2 ++ is3 ++ is4) is5
      (All-append Fits (is1 ++ is2 ++ is3) is4
      (All-append Fits (is1 ++ is2) is3
      (All-append Fits is1 is2
      (All-cons Fits callee (flags ∷ flags' ∷ []) (own_fits x.func)
      (All-cons Fits flags (flags' ∷ []) (own_fits (def.InstanceFlags r.instance))
      (all_one Fits flags' (own_fits (def.InstanceFlags o.instance)))))
      (side_fits o))
      (side_fits r))
      (copies_if_fit moved r o lowered lifted))
      (copies_if_fit moved' o r lifted lowered))
      (transfers_fit facts))
      (calls_fit (is_async_call lift lower x) clear lifted))
      (all_one Fits (import.Trap (record { 0 = 1 })) (λ k. all_none (Contains (own_slots x k))))

  -- what one of its imports has a slot for, it may need a slot for
  slot_is_own : (lift lower : FunctionFacts) (clear : Bool) (k : plan.SlotKind) (d : CoreDef)
      → HasSlotFor (imports_of lift lower clear x) k d → Contains (own_slots x k) d
  slot_is_own lift lower clear k d has =
      let fits : Fits has.asked = All-contains Fits (imports_of lift lower clear x) has.asked
      (all_fit lift lower clear) has.one in
      All-contains (Contains (own_slots x k)) (in_slots has.asked k) d (fits k) has.slot

-- so what is defined for its imports adds no other slots
pub own_from : (g h : ComponentDfg) (a : ℕ) (x : Adapter) (lift lower : FunctionFacts) (clear : Bool)
    → slice_get g.adapters a ≡ Some x → AddsOnly (imports_of lift lower clear x) g h → AddsOwn g h
own_from g h a x lift lower clear at only = record {
  slots = λ k d inside. elim (only.slots k d inside) [
    | inl before ↦ inl before
    | inr asked ↦ inr (record { number = a; adapter = x; at = at; own = slot_is_own x lift lower clear k d asked })
  ];
  trampolines = only.trampolines;
}

-- a graph as it was
pub own_none : (g : ComponentDfg) → AddsOwn g g
own_none g = record {
  slots = λ k d inside. inl inside;
  trampolines = λ x inside. inl inside;
}

-- where slots are added twice, and adapters aren't
pub own_twice : (g m h : ComponentDfg) → m.adapters ≡ g.adapters → AddsOwn g m → AddsOwn m h → AddsOwn g h
own_twice g m h same first second = record {
  slots = λ k d inside. elim (second.slots k d inside) [
    | inl before ↦ first.slots k d before
    | inr own ↦
        inr (record {
          number = own.number;
          adapter = own.adapter;
          at = ap (λ xs. slice_get xs own.number) (sym same) ∙ own.at;
          own = own.own;
        })
  ];
  trampolines = λ x inside. elim (second.trampolines x inside) [
    | inl before ↦ first.trampolines x before
    | inr helper ↦ inr helper
  ];
}

model_memory : (d : DataModel)
    → All (Contains (in_side_model d)) (if_any (option_map (λ (n : Memory). memory_def n.0) (memory_of d)))
model_memory model.Gc = all_none (Contains [])
model_memory (model.LinearMemory m r) =
    let ms = if_any (option_map (λ (n : Memory). memory_def n.0) m) in
    front (Contains (ms ++ if_any r)) ms (if_any r) (All-contains_itself (ms ++ if_any r))

module _ (x : Adapter) where
  abbrev Here : CoreDef → Type 0
  Here d = Contains (in_adapter x) d

  abbrev sides : List CoreDef
  sides = in_side x.lift_options ++ in_side x.lower_options

  both_here : All Here sides
  unfolding in_adapter
  both_here = all_rest Here x.func sides (All-contains_itself (in_adapter x))

  -- what holds of all that a side names holds of its memory
  memory_here : (o : AdapterOptions) → All Here (in_side o) → All Here (side_memory o)
  memory_here o all =
      let model = behind Here (if_any o.callback ++ if_any o.post_return) (in_side_model o.data_model) all in
      λ k d below. All-contains Here (in_side_model o.data_model) _ model (model_memory o.data_model k d below)

  callback_here : (o : AdapterOptions) → All Here (in_side o) → All Here (if_any o.callback)
  callback_here o all =
      front Here (if_any o.callback) (if_any o.post_return)
      (front Here (if_any o.callback ++ if_any o.post_return) (in_side_model o.data_model) all)

  post_return_here : (o : AdapterOptions) → All Here (in_side o) → All Here (if_any o.post_return)
  post_return_here o all =
      behind Here (if_any o.callback) (if_any o.post_return)
      (front Here (if_any o.callback ++ if_any o.post_return) (in_side_model o.data_model) all)

  own_here : (k : plan.SlotKind) → All Here (own_slots x k)
  own_here plan.memory =
      All-append Here (side_memory x.lift_options) (side_memory x.lower_options)
      (memory_here x.lift_options (front Here (in_side x.lift_options) (in_side x.lower_options) both_here))
      (memory_here x.lower_options (behind Here (in_side x.lift_options) (in_side x.lower_options) both_here))
  own_here plan.table = all_none Here
  own_here plan.realloc = all_none Here
  own_here plan.callback =
      callback_here x.lift_options (front Here (in_side x.lift_options) (in_side x.lower_options) both_here)
  own_here plan.post_return =
      post_return_here x.lift_options (front Here (in_side x.lift_options) (in_side x.lower_options) both_here)

  -- what an adapter may need a slot for stands in it
  pub own_stands : (k : plan.SlotKind) (d : CoreDef) → Contains (own_slots x k) d → Contains (in_adapter x) d
  own_stands k d own = All-contains Here (own_slots x k) d (own_here k) own

  -- what is taken from what there is stands in the adapter
  abbrev Taken : CoreDef → Type 0
  Taken d = is_taken d ≡ true → Contains (in_adapter x) d

  all_taken : (lift lower : FunctionFacts) (clear : Bool)
      → All (λ i. All Taken (in_import i)) (imports_of lift lower clear x)
  all_taken lift lower clear =
      imports_all Taken lift lower clear x (λ k d below taken. All-contains_itself (in_adapter x) k d below)
      (λ taken. absurd (true≢false (sym taken)))
      (λ taken. absurd (true≢false (sym taken)))

  own_taken : (i : Import) (d : CoreDef) → is_taken d ≡ true → All Taken (in_import i) → i ≡ import.CoreDef d
      → Contains (in_adapter x) d
  own_taken i d taken all is = all_first Taken d [] (subst (λ j. All Taken (in_import j)) is all) taken

  no_helper : (d : CoreDef) (t : TrampolineIndex) → is_taken d ≡ true → d ≡ def.Trampoline t → ⊥
  no_helper d t taken is = true≢false (sym taken ∙ ap is_taken is)

  module _ (g h : ComponentDfg) (s : ModuleInternedTypeIndex) (d : CoreDef) (taken : is_taken d ≡ true) where
    -- where it is the definition, it stands in the adapter
    abbrev IsHere : CoreDef → Type 0
    IsHere y = y ≡ d → Contains (in_adapter x) d

    each_taken : (is : List Import) (ds : List CoreDef) → All (λ i. All Taken (in_import i)) is
        → AllZip (IsDefined g h s) is ds → All IsHere ds
    each_taken [] [] all each = all_none IsHere
    each_taken [] (y ∷ ds) all each = absurd each
    each_taken (i ∷ is) [] all each = absurd each
    each_taken (i ∷ is) (y ∷ ds) all each =
        All-cons IsHere y ds
        (λ same. elim each.0.form as (λ _. Contains (in_adapter x) d) [
          | inl own ↦
              own_taken i d taken (all_first (λ j. All Taken (in_import j)) i is all) (own ∙ ap import.CoreDef same)
          | inr helper ↦ absurd (no_helper d helper.1.0 taken (sym same ∙ helper.1.1))
        ])
        (each_taken is ds (all_rest (λ j. All Taken (in_import j)) i is all) each.1)

    -- what is defined for its imports takes from what there is only what stands in it
    pub taken_stands : (lift lower : FunctionFacts) (clear : Bool) (ds : List CoreDef)
        → AllZip (IsDefined g h s) (imports_of lift lower clear x) ds → Contains ds d → Contains (in_adapter x) d
    taken_stands lift lower clear ds each inside =
        All-contains IsHere ds d
        (each_taken (imports_of lift lower clear x) ds (all_taken lift lower clear) each) inside refl
