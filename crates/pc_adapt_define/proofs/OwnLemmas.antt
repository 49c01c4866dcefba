-- What stands in the imports of an adapter stands in the adapter, but for the flags of its two component instances.
use Rattle.std.proofs.Common.{◌≡◌, ℕ, Bool, true, false, ◌&&◌, List, [], ◌∷◌, ◌++◌, All, Contains}
use Rattle.std.proofs.Common.{Option, None, Some, refl, arith}
use Rattle.std.specs.Prelude.{map, option_map, slice_get}
use Rattle.std.specs.List.{AllZip}
use Rattle.std.proofs.lemmas.List.Elements.{All-append, All-cons, All-contains, All-contains_itself}
use Rattle.pc_numbers.specs.declared.entity_index.EntityIndex.{EntityIndex}
use Rattle.pc_numbers.specs.declared.runtime.RuntimeComponentInstanceIndex.{RuntimeComponentInstanceIndex}
use Rattle.pc_numbers.specs.declared.runtime.TrampolineIndex.{TrampolineIndex}
use Rattle.pc_numbers.specs.declared.module_entity.ModuleInternedTypeIndex.{ModuleInternedTypeIndex}
use Rattle.pc_types_lists.specs.declared.facts.TypeFacts.{TypeFacts}
use Rattle.pc_types_lists.specs.Facts.{join}
use Rattle.pc_trampoline.specs.declared.part.Mark.{Mark}
use Rattle.pc_trampoline.specs.declared.part.Mark.TheVariants as mark
use Rattle.pc_trampoline.specs.declared.transcode.Transcode.{Transcode}
use Rattle.pc_dfg.specs.declared.adapter.Adapter.{Adapter}
use Rattle.pc_dfg.specs.declared.adapter.AdapterOptions.{AdapterOptions}
use Rattle.pc_dfg.specs.declared.adapter.DataModel.{DataModel}
use Rattle.pc_dfg.specs.declared.adapter.DataModel.TheVariants as model
use Rattle.pc_dfg.specs.declared.core_def.CoreDef.{CoreDef}
use Rattle.pc_dfg.specs.declared.core_def.CoreDef.TheVariants as def
use Rattle.pc_dfg.specs.declared.core_def.CoreExport.{CoreExport}
use Rattle.pc_dfg.specs.declared.dfg.ComponentDfg.{ComponentDfg}
use Rattle.pc_dfg.specs.declared.ids.AdapterId.{AdapterId}
use Rattle.pc_dfg.specs.Held.{AreHeld, HeldAdapter, HoldsEntry, IsHeld}
use Rattle.pc_dfg.specs.Lists as list
use Rattle.pc_dfg.specs.Means.{Means}
use Rattle.pc_dfg.specs.Names.{if_any, in_adapter, in_side, in_side_model, Names, names_adapter, names_instance}
use Rattle.pc_dfg.specs.Names.{names_through, OneNames, Thing}
use Rattle.pc_dfg.specs.Numbers.{memory_def}
use Rattle.pc_dfg.proofs.AllLemmas.{all_first, all_none, all_one, all_rest}
use Rattle.pc_spec_adapt.specs.Asked.{FunctionFacts}
use Rattle.pc_spec_adapt.specs.Import as planned
use Rattle.pc_spec_adapt.specs.Planned.{all_facts}
use Rattle.pc_adapt.specs.declared.import.Import.{Import}
use Rattle.pc_adapt.specs.declared.import.Import.TheVariants as import
use Rattle.pc_adapt.specs.Imports.{calls, copies, copies_if, copy, definitions, import_if, imports_of}
use Rattle.pc_adapt.specs.Imports.{is_async_call, Memory, memory_imports, memory_of, realloc_of, side_imports}
use Rattle.pc_adapt.specs.Imports.{transfer_imports}
use Rattle.pc_adapt.specs.Planned.{StandsFor}
use Rattle.pc_adapt_define.specs.Define.{in_import, IsDefined}

pub front : {A : Type 0} (P : A → Type 0) (xs ys : List A) → All P (xs ++ ys) → All P xs
front P [] ys all = all_none P
front P (x ∷ xs) ys all =
    All-cons P x xs (all_first P x (xs ++ ys) all) (front P xs ys (all_rest P x (xs ++ ys) all))

pub behind : {A : Type 0} (P : A → Type 0) (xs ys : List A) → All P (xs ++ ys) → All P ys
behind P [] ys all = all
behind P (x ∷ xs) ys all = behind P xs ys (all_rest P x (xs ++ ys) all)

module _ (Q : CoreDef → Type 0) where
  -- it holds of all that stands in an import
  abbrev P : Import → Type 0
  P i = All Q (in_import i)

  definitions_all : (o : Option CoreDef) → All Q (if_any o) → All P (definitions o)
  definitions_all None all = all_none P
  definitions_all (Some d) all = all_one P (import.CoreDef d) all

  -- the memory of a side, as a definition
  abbrev MemoryAll : Option Memory → Type 0
  MemoryAll m = All Q (if_any (option_map (λ x. memory_def x.0) m))

  memory_all : (m : Option Memory) → MemoryAll m → All P (memory_imports m)
  memory_all None all = all_none P
  memory_all (Some m) all = all_one P (import.CoreDef (memory_def m.0)) all

  copies_of : (ops : List Transcode) (a b : Memory) → All Q (memory_def a.0 ∷ memory_def b.0 ∷ [])
      → All P (map (copy a b) ops)
  copies_of [] a b all = all_none P
  copies_of (op ∷ ops) a b all = All-cons P (copy a b op) (map (copy a b) ops) all (copies_of ops a b all)

  copies_all : (ops : List Transcode) (a b : Option Memory) → MemoryAll a → MemoryAll b → All P (copies ops a b)
  copies_all ops None b first second = all_none P
  copies_all ops (Some a) None first second = all_none P
  copies_all ops (Some a) (Some b) first second =
      copies_of ops a b (All-append Q (memory_def a.0 ∷ []) (memory_def b.0 ∷ []) first second)

  copies_if_all : (moved : Bool) (o r : AdapterOptions) → MemoryAll (memory_of o.data_model)
      → MemoryAll (memory_of r.data_model) → All P (copies_if moved o r)
  copies_if_all true o r first second = copies_all _ (memory_of o.data_model) (memory_of r.data_model) first second
  copies_if_all false o r first second = all_none P

  -- an import in which nothing stands
  bare_all : (asked : Bool) (i : Import) → All Q (in_import i) → All P (import_if asked i)
  bare_all true i all = all_one P i all
  bare_all false i all = all_none P

  transfers_all : (x : TypeFacts) → All P (transfer_imports x)
  transfers_all x =
      let a = import_if x.own import.ResourceTransferOwn in
      let b = import_if x.borrow import.ResourceTransferBorrow in
      let c = import_if x.future import.FutureTransfer in
      let d = import_if x.stream import.StreamTransfer in
      let e = import_if x.error_context import.ErrorContextTransfer in
      All-append P (a ++ b ++ c ++ d) e
      (All-append P (a ++ b ++ c) d
      (All-append P (a ++ b) c
      (All-append P a b (bare_all x.own import.ResourceTransferOwn (all_none Q))
      (bare_all x.borrow import.ResourceTransferBorrow (all_none Q)))
      (bare_all x.future import.FutureTransfer (all_none Q)))
      (bare_all x.stream import.StreamTransfer (all_none Q)))
      (bare_all x.error_context import.ErrorContextTransfer (all_none Q))

  -- it holds of all that stands in the options of a side
  record SideAll (o : AdapterOptions) : Type 0 where
    memory : MemoryAll (memory_of o.data_model)
    realloc : All Q (if_any (realloc_of o.data_model))
    callback : All Q (if_any o.callback)
    post_return : All Q (if_any o.post_return)

  model_memory : (d : DataModel) → All Q (in_side_model d) → MemoryAll (memory_of d)
  model_memory model.Gc all = all
  model_memory (model.LinearMemory m r) all =
      front Q (if_any (option_map (λ x. memory_def x.0) m)) (if_any r) all

  model_realloc : (d : DataModel) → All Q (in_side_model d) → All Q (if_any (realloc_of d))
  model_realloc model.Gc all = all
  model_realloc (model.LinearMemory m r) all =
      behind Q (if_any (option_map (λ x. memory_def x.0) m)) (if_any r) all

  side_all : (o : AdapterOptions) → All Q (in_side o) → SideAll o
  side_all o all =
      let c = if_any o.callback in
      let p = if_any o.post_return in
      let m = in_side_model o.data_model in
      let functions = front Q (c ++ p) m all in
      let here = behind Q (c ++ p) m all in
      record {
        memory = model_memory o.data_model here;
        realloc = model_realloc o.data_model here;
        callback = front Q c p functions;
        post_return = behind Q c p functions;
      }

  side_imports_all : (o : AdapterOptions) → SideAll o → All P (side_imports o)
  side_imports_all o all =
      let a = memory_imports (memory_of o.data_model) in
      let b = definitions (realloc_of o.data_model) in
      let c = definitions o.callback in
      let d = definitions o.post_return in
      All-append P (a ++ b ++ c) d
      (All-append P (a ++ b) c
      (All-append P a b (memory_all (memory_of o.data_model) all.memory)
      (definitions_all (realloc_of o.data_model) all.realloc)) (definitions_all o.callback all.callback))
      (definitions_all o.post_return all.post_return)

  memory_known : (m : Option Memory) → MemoryAll m
      → All Q (if_any (option_map memory_def (option_map (λ (x : Memory). x.0) m)))
  memory_known None all = all
  memory_known (Some m) all = all

  calls_all : (is_async clear : Bool) (o : AdapterOptions) → SideAll o → All P (calls is_async clear o)
  calls_all true clear o all =
      let prepare = import.PrepareCall (option_map (λ (x : Memory). x.0) (memory_of o.data_model)) in
      let start = import.StartCall o.callback o.post_return in
      All-cons P prepare (start ∷ []) (memory_known (memory_of o.data_model) all.memory)
      (all_one P start (All-append Q (if_any o.callback) (if_any o.post_return) all.callback all.post_return))
  calls_all false true o all = all_none P
  calls_all false false o all =
      All-cons P import.EnterSyncCall (import.ExitSyncCall ∷ []) (all_none Q)
      (all_one P import.ExitSyncCall (all_none Q))

  -- and so of all that stands in the imports of an adapter
  pub imports_all : (lift lower : FunctionFacts) (clear : Bool) (x : Adapter) → All Q (in_adapter x)
      → Q (def.InstanceFlags x.lift_options.instance) → Q (def.InstanceFlags x.lower_options.instance)
      → All P (imports_of lift lower clear x)
  unfolding in_adapter imports_of
  imports_all lift lower clear x all lift_flags lower_flags =
      let o = x.lift_options in
      let r = x.lower_options in
      let own = all_first Q x.func (in_side o ++ in_side r) all in
      let sides = all_rest Q x.func (in_side o ++ in_side r) all in
      let lifted = side_all o (front Q (in_side o) (in_side r) sides) in
      let lowered = side_all r (behind Q (in_side o) (in_side r) sides) in
      let callee = import.CoreDef x.func in
      let flags = import.CoreDef (def.InstanceFlags r.instance) in
      let flags' = import.CoreDef (def.InstanceFlags o.instance) in
      let is1 = callee ∷ flags ∷ flags' ∷ [] in
      let is2 = side_imports o in
      let is3 = side_imports r in
      let moved = lift.params.string && lower.params.string in
      let is4 = copies_if moved r o in
      let moved' = lift.results.string && lower.results.string in
      let is5 = copies_if moved' o r in
      let facts = join (all_facts lift) (all_facts lower) in
      let is6 = transfer_imports facts in
      let is7 = calls (is_async_call lift lower x) clear o in
      let is8 = import.Trap (record { 0 = 1 }) ∷ [] in
      All-append P (is1 ++ is2 ++ is3 ++ is4 ++ is5 ++ is6 ++ is7) is8
      (All-append P (is1 ++ is2 ++ is3 ++ is4 ++ is5 ++ is6) is7
      (All-append P (is1 ++ is2 ++ is3 ++ is4 ++ is5) is6
      (All-append P (is1 ++ is2 ++ is3 ++ is4) is5
      (All-append P (is1 ++ is2 ++ is3) is4
      (All-append P (is1 ++ is2) is3
      (All-append P is1 is2
      (All-cons P callee (flags ∷ flags' ∷ []) (all_one Q x.func own)
      (All-cons P flags (flags' ∷ []) (all_one Q (def.InstanceFlags r.instance) lower_flags)
      (all_one P flags' (all_one Q (def.InstanceFlags o.instance) lift_flags))))
      (side_imports_all o lifted))
      (side_imports_all r lowered))
      (copies_if_all moved r o lowered.memory lifted.memory))
      (copies_if_all moved' o r lifted.memory lowered.memory))
      (transfers_all facts))
      (calls_all (is_async_call lift lower x) clear o lifted))
      (all_one P (import.Trap (record { 0 = 1 })) (all_none Q))

-- the imports of an adapter are held
pub imports_held : (g : ComponentDfg) (a : ℕ) (x : Adapter) (lift lower : FunctionFacts) (clear : Bool) → AreHeld g
    → slice_get g.adapters a ≡ Some x → All (λ i. All (IsHeld g) (in_import i)) (imports_of lift lower clear x)
unfolding HoldsEntry IsHeld
imports_held g a x lift lower clear held at =
    let here : HeldAdapter g x = held list.adapters a x at in
    imports_all (IsHeld g) lift lower clear x here.defs here.lift here.lower

no_export : (e : CoreExport EntityIndex) (c : RuntimeComponentInstanceIndex) → def.Export e ≡ def.InstanceFlags c → ⊥
no_export e c is = grind (arith, is)

no_adapter : (a : AdapterId) (c : RuntimeComponentInstanceIndex) → def.Adapter a ≡ def.InstanceFlags c → ⊥
no_adapter a c is = grind (arith, is)

no_trampoline : (t : TrampolineIndex) (c : RuntimeComponentInstanceIndex) → def.Trampoline t ≡ def.InstanceFlags c → ⊥
no_trampoline t c is = grind (arith, is)

-- flags name nothing
flags_name_none : (g : ComponentDfg) {d : CoreDef} {y : Thing} (c : RuntimeComponentInstanceIndex)
    → d ≡ def.InstanceFlags c → Names g d y → ⊥
flags_name_none g c is (names_instance {e = e}) = no_export e c is
flags_name_none g c is (names_adapter {a = a}) = no_adapter a c is
flags_name_none g c is (names_through {t = t} at inside rest) = no_trampoline t c is

module _ (g : ComponentDfg) (x : Adapter) (y : Thing) where
  -- what names a thing is in the adapter
  abbrev Tells : CoreDef → Type 0
  Tells d = Names g d y → OneNames g (in_adapter x) y

  tells_here : All Tells (in_adapter x)
  unfolding OneNames
  tells_here k d below named = (_, All-contains_itself (in_adapter x) k d below, named)

  flags_tell : (c : RuntimeComponentInstanceIndex) → Tells (def.InstanceFlags c)
  flags_tell c named = absurd (flags_name_none g c refl named)

  imports_tell : (lift lower : FunctionFacts) (clear : Bool)
      → All (λ i. All Tells (in_import i)) (imports_of lift lower clear x)
  imports_tell lift lower clear =
      imports_all Tells lift lower clear x tells_here (flags_tell x.lift_options.instance)
      (flags_tell x.lower_options.instance)

  one_tells : (ds : List CoreDef) → All Tells ds → OneNames g ds y → OneNames g (in_adapter x) y
  unfolding OneNames
  one_tells ds all one = All-contains Tells ds one.0 all one.1 one.2

  module _ (h : ComponentDfg) (s : ModuleInternedTypeIndex) (held : AreHeld g) where
    defined_tells : (i : Import) (d : CoreDef) → IsDefined g h s i d → All Tells (in_import i) → Names h d y
        → OneNames g (in_adapter x) y
    unfolding OneNames
    defined_tells i d defined all named =
        let here = all_first (Contains (d ∷ [])) d [] (All-contains_itself (d ∷ [])) in
        one_tells (in_import i) all (defined.names y held (d, here, named))

    all_tell : (is : List Import) (ds : List CoreDef) → AllZip (IsDefined g h s) is ds
        → All (λ i. All Tells (in_import i)) is → All (λ d. Names h d y → OneNames g (in_adapter x) y) ds
    all_tell [] [] each all = all_none (λ d. Names h d y → OneNames g (in_adapter x) y)
    all_tell [] (d ∷ ds) each all = absurd each
    all_tell (i ∷ is) [] each all = absurd each
    all_tell (i ∷ is) (d ∷ ds) each all =
        All-cons (λ e. Names h e y → OneNames g (in_adapter x) y) d ds
        (defined_tells i d each.0 (all_first (λ j. All Tells (in_import j)) i is all))
        (all_tell is ds each.1 (all_rest (λ j. All Tells (in_import j)) i is all))

    -- what stands for the imports of an adapter names nothing but what it named
    pub arguments_tell : (lift lower : FunctionFacts) (clear : Bool) (ds : List CoreDef)
        → AllZip (IsDefined g h s) (imports_of lift lower clear x) ds → OneNames h ds y → OneNames g (in_adapter x) y
    unfolding OneNames
    arguments_tell lift lower clear ds each one =
        All-contains (λ d. Names h d y → OneNames g (in_adapter x) y) ds one.0
        (all_tell (imports_of lift lower clear x) ds each (imports_tell lift lower clear)) one.1 one.2

-- what stands for imports that stand for what is planned has the values that are planned
pub arguments_mean : (g h : ComponentDfg) (s : ModuleInternedTypeIndex) (is : List Import) (ds : List CoreDef)
    (ps : List (planned.Import Mark)) → AllZip (IsDefined g h s) is ds → AllZip (StandsFor g (mark.Signature s)) is ps
    → AllZip (λ d p. Means h d p.value) ds ps
arguments_mean g h s [] [] [] each stand = stand
arguments_mean g h s [] [] (p ∷ ps) each stand = absurd stand
arguments_mean g h s [] (d ∷ ds) ps each stand = absurd each
arguments_mean g h s (i ∷ is) [] ps each stand = absurd each
arguments_mean g h s (i ∷ is) (d ∷ ds) [] each stand = absurd stand
arguments_mean g h s (i ∷ is) (d ∷ ds) (p ∷ ps) each stand =
    (each.0.value p.value stand.0, arguments_mean g h s is ds ps each.1 stand.1)
