-- The entries of sections, as local items and as items of the reading.
use Rattle.std.proofs.Common.{◌≡◌, ℕ, Bool, true, false, List, [], ◌∷◌, ◌++◌, map, Option, Some, None, refl, sym, ap}
use Rattle.std.proofs.Common.{◌∙◌, if◌then◌else◌}
use Rattle.std.specs.Prelude.{⊤}
use Rattle.std.specs.List.{cons_option, filter_map}
use Rattle.std.proofs.lemmas.Option.{none-some}
use Rattle.pc_types.specs.declared.error.Unsupported.TheVariants as unsupported
use Rattle.pc_types.specs.declared.parsed.WasmValType.TheVariants as wasm
use Rattle.pc_parsed.specs.declared.canon.CanonItem.{CanonItem}
use Rattle.pc_parsed.specs.declared.canon.CanonItem.TheVariants as canon
use Rattle.pc_parsed.specs.declared.fault.StaticFault.TheVariants as fault
use Rattle.pc_parsed.specs.declared.payload.ComponentInstanceItem.{ComponentInstanceItem}
use Rattle.pc_parsed.specs.declared.payload.ComponentInstanceItem.TheVariants as component_instance
use Rattle.pc_parsed.specs.declared.payload.ExportEntry.{ExportEntry}
use Rattle.pc_parsed.specs.declared.payload.ImportItem.{ImportItem}
use Rattle.pc_parsed.specs.declared.payload.InstanceItem.{InstanceItem}
use Rattle.pc_parsed.specs.declared.payload.InstanceItem.TheVariants as instance
use Rattle.pc_parsed.specs.declared.payload.TypeItem.{TypeItem}
use Rattle.pc_parsed.specs.declared.payload.TypeItem.TheVariants as type_
use Rattle.pc_parsed.specs.ItemFaults.{canon_fault}
use Rattle.pc_spec_reading.specs.Canonical.{canonical_item}
use Rattle.pc_spec_reading.specs.Item.{Item, ExportOf, bodies_in, bodies_of, exports_in}
use Rattle.pc_spec_reading.specs.Nest.{counts_in, counts_of, is_exposed}
use Rattle.pc_spec_reading.specs.Section as Section
use Rattle.pc_spec_reading.specs.Section.{named_item}
use Rattle.pc_local.specs.declared.item.LocalInitializer.{LocalInitializer}
use Rattle.pc_local.specs.declared.item.LocalInitializer.TheVariants as local
use Rattle.pc_local.specs.declared.item.Translation.{Translation}
use Rattle.pc_local.specs.Captured.{so_far}
use Rattle.pc_local.specs.Entries.{canon_local, component_instance_local, export_entry, export_local, import_local}
use Rattle.pc_local.specs.Entries.{instance_local, type_local}
use Rattle.pc_local.specs.Plain.{plain_item}
use Rattle.pc_local.specs.Standing
use Rattle.pc_local.proofs.StandLemmas.{and_true, export_of, exports_cons}

-- an import of the exposed name is that of the unsafe intrinsics; other items stay
abbrev pub expose : (exposed : Option (List ℕ)) → Item → Item
expose x (Item.import_item name e) = if is_exposed x name then Item.intrinsics_import else Item.import_item name e
expose x i = i

-- an item that is nothing but itself wherever it stands: it imports, exports, nests and aliases nothing
pub record IsInner (i : Item) : Type 0 where
  pub shown : (x : Option (List ℕ)) → expose x i ≡ i
  pub no_export : export_of i ≡ None
  pub no_bodies : bodies_of i ≡ []
  pub counts : (depth : ℕ) → counts_of depth i ≡ true

-- an entry is no item, or an inner one, on both sides
pub data Agree : Option LocalInitializer → Option Item → Type 0 where
  agree_none : Agree None None
  agree_some : {l : LocalInitializer} {i : Item} → plain_item l ≡ Some i → IsInner i → Agree (Some l) (Some i)

-- types
pub type_agrees : (e : TypeItem) → Agree (type_local e) (Section.type_item e)
unfolding plain_item counts_in
type_agrees (type_.Resource id r d) =
    agree_some refl (record { shown = λ x. refl; no_export = refl; no_bodies = refl; counts = λ depth. refl })
type_agrees type_.Other = agree_none

-- instances of modules
pub instance_agrees : (e : InstanceItem) → Agree (instance_local e) (Some (Section.instance_item e))
unfolding plain_item counts_in
instance_agrees (instance.Instantiate m args) =
    agree_some refl (record { shown = λ x. refl; no_export = refl; no_bodies = refl; counts = λ depth. refl })
instance_agrees (instance.FromExports items) =
    agree_some refl (record { shown = λ x. refl; no_export = refl; no_bodies = refl; counts = λ depth. refl })

-- instances of components
pub component_instance_agrees : (e : ComponentInstanceItem)
    → Agree (component_instance_local e) (Some (Section.component_instance_item e))
unfolding plain_item counts_in
component_instance_agrees (component_instance.Instantiate c args ty) =
    agree_some refl (record { shown = λ x. refl; no_export = refl; no_bodies = refl; counts = λ depth. refl })
component_instance_agrees (component_instance.FromExports exports ty) =
    agree_some refl (record { shown = λ x. refl; no_export = refl; no_bodies = refl; counts = λ depth. refl })

-- canonical functions that have no fault
pub canon_agrees : (e : CanonItem) → canon_fault e ≡ None → Agree (canon_local e) (canonical_item e)
unfolding plain_item canonical_item counts_in
canon_agrees (canon.Lift a b c d) sound =
    agree_some refl (record { shown = λ x. refl; no_export = refl; no_bodies = refl; counts = λ depth. refl })
canon_agrees (canon.Lower a b c d) sound =
    agree_some refl (record { shown = λ x. refl; no_export = refl; no_bodies = refl; counts = λ depth. refl })
canon_agrees (canon.ResourceNew a b) sound =
    agree_some refl (record { shown = λ x. refl; no_export = refl; no_bodies = refl; counts = λ depth. refl })
canon_agrees (canon.ResourceRep a b) sound =
    agree_some refl (record { shown = λ x. refl; no_export = refl; no_bodies = refl; counts = λ depth. refl })
canon_agrees (canon.ResourceDrop a b) sound =
    agree_some refl (record { shown = λ x. refl; no_export = refl; no_bodies = refl; counts = λ depth. refl })
canon_agrees (canon.BackpressureInc a) sound =
    agree_some refl (record { shown = λ x. refl; no_export = refl; no_bodies = refl; counts = λ depth. refl })
canon_agrees (canon.BackpressureDec a) sound =
    agree_some refl (record { shown = λ x. refl; no_export = refl; no_bodies = refl; counts = λ depth. refl })
canon_agrees (canon.TaskCancel a) sound =
    agree_some refl (record { shown = λ x. refl; no_export = refl; no_bodies = refl; counts = λ depth. refl })
canon_agrees (canon.WaitableSetNew a) sound =
    agree_some refl (record { shown = λ x. refl; no_export = refl; no_bodies = refl; counts = λ depth. refl })
canon_agrees (canon.WaitableSetDrop a) sound =
    agree_some refl (record { shown = λ x. refl; no_export = refl; no_bodies = refl; counts = λ depth. refl })
canon_agrees (canon.WaitableJoin a) sound =
    agree_some refl (record { shown = λ x. refl; no_export = refl; no_bodies = refl; counts = λ depth. refl })
canon_agrees (canon.SubtaskDrop a) sound =
    agree_some refl (record { shown = λ x. refl; no_export = refl; no_bodies = refl; counts = λ depth. refl })
canon_agrees (canon.ErrorContextDrop a) sound =
    agree_some refl (record { shown = λ x. refl; no_export = refl; no_bodies = refl; counts = λ depth. refl })
canon_agrees (canon.ThreadIndex a) sound =
    agree_some refl (record { shown = λ x. refl; no_export = refl; no_bodies = refl; counts = λ depth. refl })
canon_agrees (canon.ThreadResumeLater a) sound =
    agree_some refl (record { shown = λ x. refl; no_export = refl; no_bodies = refl; counts = λ depth. refl })
canon_agrees (canon.ThreadSuspend a) sound =
    agree_some refl (record { shown = λ x. refl; no_export = refl; no_bodies = refl; counts = λ depth. refl })
canon_agrees (canon.ThreadYield a) sound =
    agree_some refl (record { shown = λ x. refl; no_export = refl; no_bodies = refl; counts = λ depth. refl })
canon_agrees (canon.ThreadSuspendThenResume a) sound =
    agree_some refl (record { shown = λ x. refl; no_export = refl; no_bodies = refl; counts = λ depth. refl })
canon_agrees (canon.ThreadYieldThenResume a) sound =
    agree_some refl (record { shown = λ x. refl; no_export = refl; no_bodies = refl; counts = λ depth. refl })
canon_agrees (canon.ThreadSuspendThenPromote a) sound =
    agree_some refl (record { shown = λ x. refl; no_export = refl; no_bodies = refl; counts = λ depth. refl })
canon_agrees (canon.ThreadYieldThenPromote a) sound =
    agree_some refl (record { shown = λ x. refl; no_export = refl; no_bodies = refl; counts = λ depth. refl })
canon_agrees (canon.TaskReturn a b c) sound =
    agree_some refl (record { shown = λ x. refl; no_export = refl; no_bodies = refl; counts = λ depth. refl })
canon_agrees (canon.WaitableSetWait a b) sound =
    agree_some refl (record { shown = λ x. refl; no_export = refl; no_bodies = refl; counts = λ depth. refl })
canon_agrees (canon.WaitableSetPoll a b) sound =
    agree_some refl (record { shown = λ x. refl; no_export = refl; no_bodies = refl; counts = λ depth. refl })
canon_agrees (canon.SubtaskCancel a b) sound =
    agree_some refl (record { shown = λ x. refl; no_export = refl; no_bodies = refl; counts = λ depth. refl })
canon_agrees (canon.StreamNew a b) sound =
    agree_some refl (record { shown = λ x. refl; no_export = refl; no_bodies = refl; counts = λ depth. refl })
canon_agrees (canon.StreamDropReadable a b) sound =
    agree_some refl (record { shown = λ x. refl; no_export = refl; no_bodies = refl; counts = λ depth. refl })
canon_agrees (canon.StreamDropWritable a b) sound =
    agree_some refl (record { shown = λ x. refl; no_export = refl; no_bodies = refl; counts = λ depth. refl })
canon_agrees (canon.FutureNew a b) sound =
    agree_some refl (record { shown = λ x. refl; no_export = refl; no_bodies = refl; counts = λ depth. refl })
canon_agrees (canon.FutureDropReadable a b) sound =
    agree_some refl (record { shown = λ x. refl; no_export = refl; no_bodies = refl; counts = λ depth. refl })
canon_agrees (canon.FutureDropWritable a b) sound =
    agree_some refl (record { shown = λ x. refl; no_export = refl; no_bodies = refl; counts = λ depth. refl })
canon_agrees (canon.StreamRead a b c) sound =
    agree_some refl (record { shown = λ x. refl; no_export = refl; no_bodies = refl; counts = λ depth. refl })
canon_agrees (canon.StreamWrite a b c) sound =
    agree_some refl (record { shown = λ x. refl; no_export = refl; no_bodies = refl; counts = λ depth. refl })
canon_agrees (canon.FutureRead a b c) sound =
    agree_some refl (record { shown = λ x. refl; no_export = refl; no_bodies = refl; counts = λ depth. refl })
canon_agrees (canon.FutureWrite a b c) sound =
    agree_some refl (record { shown = λ x. refl; no_export = refl; no_bodies = refl; counts = λ depth. refl })
canon_agrees (canon.StreamCancelRead a b c) sound =
    agree_some refl (record { shown = λ x. refl; no_export = refl; no_bodies = refl; counts = λ depth. refl })
canon_agrees (canon.StreamCancelWrite a b c) sound =
    agree_some refl (record { shown = λ x. refl; no_export = refl; no_bodies = refl; counts = λ depth. refl })
canon_agrees (canon.FutureCancelRead a b c) sound =
    agree_some refl (record { shown = λ x. refl; no_export = refl; no_bodies = refl; counts = λ depth. refl })
canon_agrees (canon.FutureCancelWrite a b c) sound =
    agree_some refl (record { shown = λ x. refl; no_export = refl; no_bodies = refl; counts = λ depth. refl })
canon_agrees (canon.ErrorContextNew a b) sound =
    agree_some refl (record { shown = λ x. refl; no_export = refl; no_bodies = refl; counts = λ depth. refl })
canon_agrees (canon.ErrorContextDebugMessage a b) sound =
    agree_some refl (record { shown = λ x. refl; no_export = refl; no_bodies = refl; counts = λ depth. refl })
canon_agrees (canon.ContextGet a wasm.I32 c) sound =
    agree_some refl (record { shown = λ x. refl; no_export = refl; no_bodies = refl; counts = λ depth. refl })
canon_agrees (canon.ContextGet a wasm.I64 c) sound =
    absurd (none-some (fault.Unsupported unsupported.ContextGetType) (sym sound))
canon_agrees (canon.ContextGet a wasm.F32 c) sound =
    absurd (none-some (fault.Unsupported unsupported.ContextGetType) (sym sound))
canon_agrees (canon.ContextGet a wasm.F64 c) sound =
    absurd (none-some (fault.Unsupported unsupported.ContextGetType) (sym sound))
canon_agrees (canon.ContextGet a wasm.V128 c) sound =
    absurd (none-some (fault.Unsupported unsupported.ContextGetType) (sym sound))
canon_agrees (canon.ContextGet a wasm.FuncRef c) sound =
    absurd (none-some (fault.Unsupported unsupported.ContextGetType) (sym sound))
canon_agrees (canon.ContextGet a wasm.ExternRef c) sound =
    absurd (none-some (fault.Unsupported unsupported.ContextGetType) (sym sound))
canon_agrees (canon.ContextSet a wasm.I32 c) sound =
    agree_some refl (record { shown = λ x. refl; no_export = refl; no_bodies = refl; counts = λ depth. refl })
canon_agrees (canon.ContextSet a wasm.I64 c) sound =
    absurd (none-some (fault.Unsupported unsupported.ContextSetType) (sym sound))
canon_agrees (canon.ContextSet a wasm.F32 c) sound =
    absurd (none-some (fault.Unsupported unsupported.ContextSetType) (sym sound))
canon_agrees (canon.ContextSet a wasm.F64 c) sound =
    absurd (none-some (fault.Unsupported unsupported.ContextSetType) (sym sound))
canon_agrees (canon.ContextSet a wasm.V128 c) sound =
    absurd (none-some (fault.Unsupported unsupported.ContextSetType) (sym sound))
canon_agrees (canon.ContextSet a wasm.FuncRef c) sound =
    absurd (none-some (fault.Unsupported unsupported.ContextSetType) (sym sound))
canon_agrees (canon.ContextSet a wasm.ExternRef c) sound =
    absurd (none-some (fault.Unsupported unsupported.ContextSetType) (sym sound))
canon_agrees (canon.ThreadNewIndirect a b c) sound =
    agree_some refl (record { shown = λ x. refl; no_export = refl; no_bodies = refl; counts = λ depth. refl })
canon_agrees canon.ThreadSpawnRef sound = agree_none
canon_agrees canon.ThreadSpawnIndirect sound = agree_none
canon_agrees canon.ThreadAvailableParallelism sound = agree_none
canon_agrees canon.StreamForward sound = agree_none
canon_agrees canon.FutureForward sound = agree_none

-- each entry of a section agrees
abbrev pub AgreeAll : {A : Type 0} → (A → Option LocalInitializer) → (A → Option Item) → List A → Type 0
AgreeAll f g [] = ⊤
AgreeAll f g (e ∷ es) = Agree (f e) (g e) × AgreeAll f g es

-- as it does where any entry agrees
pub agree_all : {A : Type 0} (f : A → Option LocalInitializer) (g : A → Option Item)
    → ((e : A) → Agree (f e) (g e)) → (es : List A) → AgreeAll f g es
agree_all f g agree [] = tt
agree_all f g agree (e ∷ es) = (agree e, agree_all f g agree es)

-- local items stand for items that are shown in a body, export and count what they should
pub record LevelStands (bodies : List Translation) (names : Standing.Names) (depth : ℕ) (t : Translation)
    (l : List Item) : Type 0 where
  pub items : Standing.ItemsStand bodies names t.initializers (so_far l)
  pub exports : map named_item t.exports ≡ exports_in (so_far l)
  pub counts : counts_in depth (so_far l) ≡ true

-- items that export nothing
abbrev pub only : List LocalInitializer → Translation
only ls = record { initializers = ls; exports = [] }

module _ (bodies : List Translation) (names : Standing.Names) (depth : ℕ) where
  -- nothing stands for nothing
  pub level_none : LevelStands bodies names depth (only []) []
  unfolding counts_in
  level_none = record { items = Standing.stand_none; exports = refl; counts = refl }

  -- an entry in front of others
  level_cons : (o : Option LocalInitializer) (p : Option Item) (ls : List LocalInitializer) (is : List Item) → Agree o p
      → LevelStands bodies names depth (only ls) is
      → LevelStands bodies names depth (only (cons_option o ls)) (cons_option p is)
  unfolding counts_in
  level_cons None None ls is agree_none h = h
  level_cons None (Some i) ls is agree h = elim agree [ ]
  level_cons (Some l) None ls is agree h = elim agree [ ]
  level_cons (Some l) (Some i) ls is (agree_some same inner) h = record {
    items = Standing.stand_more (Standing.stands_plain same) h.items;
    exports =
        h.exports ∙ ap (λ (o : Option ExportOf). cons_option o (exports_in (so_far is))) (sym inner.no_export)
        ∙ sym (exports_cons i (so_far is));
    counts = and_true (counts_of depth i) (counts_in depth (so_far is)) (inner.counts depth) h.counts;
  }

  -- the entries of a section
  pub entries_stand : {A : Type 0} (f : A → Option LocalInitializer) (g : A → Option Item) (es : List A)
      → AgreeAll f g es
      → LevelStands bodies names depth (only (filter_map f es)) (filter_map g es)
  entries_stand f g [] agree = level_none
  entries_stand f g (e ∷ es) agree =
      level_cons (f e) (g e) (filter_map f es) (filter_map g es) agree.0 (entries_stand f g es agree.1)

  -- the imports of a section, under the exposed name
  pub imports_stand : (x : Option (List ℕ)) (es : List ImportItem)
      → LevelStands bodies names depth (only (map (import_local x) es)) (map (expose x) (map Section.import_item es))
  unfolding plain_item counts_in
  imports_stand x [] = level_none
  imports_stand x (e ∷ es) = by (is_exposed x e.name) (imports_stand x es)
    where
      by : (b : Bool)
          → LevelStands bodies names depth (only (map (import_local x) es))
          (map (expose x) (map Section.import_item es))
          → LevelStands bodies names depth
          (only ((if b then local.IntrinsicsImport else local.Import e.name e.ty)
          ∷ map (import_local x) es))
          ((if b then Item.intrinsics_import else Item.import_item e.name e.ty)
          ∷ map (expose x) (map Section.import_item es))
      by true h = record {
        items = Standing.stand_more (Standing.stands_plain refl) h.items;
        exports = h.exports;
        counts = and_true true _ refl h.counts;
      }
      by false h = record {
        items = Standing.stand_more (Standing.stands_plain refl) h.items;
        exports = h.exports;
        counts = and_true true _ refl h.counts;
      }

  -- the exports of a section
  pub exports_stand : (es : List ExportEntry)
      → LevelStands bodies names depth (record { initializers = map export_local es; exports = map export_entry es })
      (map Section.export_item es)
  unfolding plain_item counts_in
  exports_stand [] = level_none
  exports_stand (e ∷ es) =
      let h = exports_stand es in record {
        items = Standing.stand_more (Standing.stands_plain refl) h.items;
        exports = ap (λ (l : List ExportOf). named_item (export_entry e) ∷ l) h.exports;
        counts = and_true true _ refl h.counts;
      }

-- a section of inner items is shown as it is
pub entries_shown : {A : Type 0} (x : Option (List ℕ)) (f : A → Option LocalInitializer) (g : A → Option Item)
    (es : List A) → AgreeAll f g es → map (expose x) (filter_map g es) ≡ filter_map g es
entries_shown x f g [] agree = refl
entries_shown x f g (e ∷ es) agree = by (f e) (g e) agree.0 (entries_shown x f g es agree.1)
  where
    by : (o : Option LocalInitializer) (p : Option Item) → Agree o p
        → map (expose x) (filter_map g es) ≡ filter_map g es
        → map (expose x) (cons_option p (filter_map g es)) ≡ cons_option p (filter_map g es)
    by None None agree_none h = h
    by None (Some i) agree h = elim agree [ ]
    by (Some l) None agree h = elim agree [ ]
    by (Some l) (Some i) (agree_some same inner) h = (λ j. inner.shown x j ∷ h j)

-- exports are shown as they are
pub exports_shown : (x : Option (List ℕ)) (es : List ExportEntry)
    → map (expose x) (map Section.export_item es) ≡ map Section.export_item es
exports_shown x [] = refl
exports_shown x (e ∷ es) = ap (λ (l : List Item). Section.export_item e ∷ l) (exports_shown x es)

-- a list as a filtered one
pub all_kept : {A B : Type 0} (f : A → B) (es : List A) → filter_map (λ (e : A). Some (f e)) es ≡ map f es
all_kept f [] = refl
all_kept f (e ∷ es) = ap (λ l. f e ∷ l) (all_kept f es)

-- no bodies stand inside a section of inner items
pub entries_no_bodies : {A : Type 0} (f : A → Option LocalInitializer) (g : A → Option Item) (es : List A)
    → AgreeAll f g es → bodies_in (so_far (filter_map g es)) ≡ []
entries_no_bodies f g [] agree = refl
entries_no_bodies f g (e ∷ es) agree = by (f e) (g e) agree.0 (entries_no_bodies f g es agree.1)
  where
    by : (o : Option LocalInitializer) (p : Option Item) → Agree o p → bodies_in (so_far (filter_map g es)) ≡ []
        → bodies_in (so_far (cons_option p (filter_map g es))) ≡ []
    by None None agree_none h = h
    by None (Some i) agree h = elim agree [ ]
    by (Some l) None agree h = elim agree [ ]
    by (Some l) (Some i) (agree_some same inner) h = (λ j. inner.no_bodies j ++ h j)

-- nor inside imports
pub imports_no_bodies : (es : List ImportItem) → bodies_in (so_far (map Section.import_item es)) ≡ []
imports_no_bodies [] = refl
imports_no_bodies (e ∷ es) = imports_no_bodies es

-- nor inside exports
pub exports_no_bodies : (es : List ExportEntry) → bodies_in (so_far (map Section.export_item es)) ≡ []
exports_no_bodies [] = refl
exports_no_bodies (e ∷ es) = exports_no_bodies es
