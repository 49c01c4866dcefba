-- A slot that gets its number.
use Rattle.std.proofs.Common.{◌≡◌, ◌<◌, ◌++◌, ℕ, List, [], ◌∷◌, length, All, Option, None, Some, refl, sym, ap}
use Rattle.std.proofs.Common.{subst, ◌∙◌, arith}
use Rattle.std.specs.Prelude.{slice_get, Contains, option_map, Result, Ok, Err, OnOk, IfOk}
use Rattle.std.proofs.lemmas.List.{length-map}
use Rattle.std.proofs.lemmas.Option.{same_Some, slice_get_within, slice_get-map}
use Rattle.pc_dfg.specs.declared.ids.MemoryId.{MemoryId}
use Rattle.pc_dfg.specs.declared.ids.TableId.{TableId}
use Rattle.pc_numbers.specs.declared.module_entity.MemoryIndex.{MemoryIndex}
use Rattle.pc_numbers.specs.declared.module_entity.TableIndex.{TableIndex}
use Rattle.pc_spec_plan.specs.PlanView as plan
use Rattle.pc_info.specs.declared.core_def.CoreDef.{CoreDef as PlanDef}
use Rattle.pc_info.specs.declared.core_def.CoreExport.{CoreExport as PlanExport}
use Rattle.pc_info.specs.declared.initializer.GlobalInitializer.TheVariants as init
use Rattle.pc_info.specs.declared.initializer.GlobalInitializer.{GlobalInitializer}
use Rattle.pc_info.specs.Definitions.{def_view, initializer_view}
use Rattle.pc_dfg.specs.declared.core_def.CoreDef.{CoreDef}
use Rattle.pc_dfg.specs.declared.dfg.ComponentDfg.{ComponentDfg}
use Rattle.pc_dfg.specs.declared.core_def.CoreExport.{CoreExport}
use Rattle.pc_dfg.specs.Held.{AreHeld}
use Rattle.pc_dfg.specs.Names.{each_of}
use Rattle.pc_dfg.specs.Numbers.{memory_def, table_def, slots_of}
use Rattle.pc_dfg_linearize.specs.declared.id.Id.{Id}
use Rattle.pc_dfg_linearize.specs.declared.id.Id.TheVariants as id
use Rattle.pc_dfg_linearize.specs.declared.state.Finish.{Finish}
use Rattle.pc_dfg_linearize.specs.Added.{add_slot}
use Rattle.pc_dfg_linearize.specs.Closed.{Closed, Fits, HasValue, Valued}
use Rattle.pc_dfg_linearize.specs.Converted.{def_in, export_in}
use Rattle.pc_dfg_linearize.specs.Parts.{HasNumber, in_def, in_slot, number_of, parts, slot_id, slot_numbers}
use Rattle.pc_dfg_linearize.specs.Represented.{AreNamed}
use Rattle.pc_info.specs.Slots.{step_definitions}
use Rattle.pc_dfg_linearize.specs.Plan.{slot_count}
use Rattle.pc_dfg_linearize.specs.Ready.{CanClose, IsReadyDef, IsReadySlot}
use Rattle.pc_dfg_linearize.specs.Wired.{in_a_slot}
use Rattle.pc_info.specs.Standing.{is_side_effect}
use Rattle.pc_dfg_linearize.proofs.DefLemmas.{def_resolves}
use Rattle.pc_dfg_linearize.proofs.EntryLemmas.{slot_number}
use Rattle.pc_dfg_linearize.proofs.FillLemmas.{slot_fills}
use Rattle.pc_dfg_linearize.proofs.GrownLemmas.{continues_step}
use Rattle.pc_dfg_linearize.proofs.SoundLemmas.{none_more}
use Rattle.pc_dfg_linearize.proofs.KindLemmas.{slot_kind_fits}
use Rattle.pc_dfg_linearize.proofs.NoteLemmas.{notes_here, notes_numbered, notes_only, slot_noted}
use Rattle.pc_dfg_linearize.proofs.SlotLemmas.{slot_counts, slot_fits, slot_goes}
use Rattle.pc_dfg_linearize.proofs.OneStepLemmas.{slot_steps}
use Rattle.pc_dfg_linearize.proofs.RepresentedLemmas.{notes_stay, represents_slot}
use Rattle.pc_dfg_linearize.proofs.StepNameLemmas.{def_named, names_last}

-- the numbers of the slots of a kind are as many as the entries
pub numbers_length : (g : ComponentDfg) (f : Finish) → Fits g f → (k : plan.SlotKind)
    → length (slot_numbers f k) ≡ length (slots_of g k)
unfolding slots_of
numbers_length g f fits plan.memory = fits.memories ∙ sym (length-map g.memories memory_def)
numbers_length g f fits plan.table = fits.tables ∙ sym (length-map g.tables table_def)
numbers_length g f fits plan.realloc = fits.reallocs
numbers_length g f fits plan.callback = fits.callbacks
numbers_length g f fits plan.post_return = fits.post_returns

-- what is in a slot has a value
slot_value : (g : ComponentDfg) (k : plan.SlotKind) (n : ℕ) → Valued g (slot_id k n) → HasValue g k n
unfolding Valued
slot_value g plan.memory n value = value
slot_value g plan.table n value = value
slot_value g plan.realloc n value = value
slot_value g plan.callback n value = value
slot_value g plan.post_return n value = value

-- a slot depends on what is in it
slot_parts : (g : ComponentDfg) (k : plan.SlotKind) (n : ℕ) → parts g (slot_id k n) ≡ in_slot g k n
unfolding parts
slot_parts g plan.memory n = refl
slot_parts g plan.table n = refl
slot_parts g plan.realloc n = refl
slot_parts g plan.callback n = refl
slot_parts g plan.post_return n = refl

-- what a slot depends on has its number where what is in it does
slot_parts_there : (g : ComponentDfg) (f : Finish) (k : plan.SlotKind) (n : ℕ) (d : CoreDef)
    → slice_get (slots_of g k) n ≡ Some d → All (HasNumber f) (in_def g d) → All (HasNumber f) (parts g (slot_id k n))
slot_parts_there g f k n d at all =
    subst (All (HasNumber f)) (sym (slot_parts g k n ∙ ap (each_of (in_def g)) at)) all

-- its step names the trampoline or the intrinsic that is in it
slot_named : (g : ComponentDfg) (f : Finish) (k : plan.SlotKind) (n : ℕ) (i : GlobalInitializer) (d : CoreDef)
    → slice_get (slots_of g k) n ≡ Some d
    → initializer_view i ≡ plan.extract k (slot_count f k) (def_view (def_in g f d))
    → AreNamed f (f.steps ++ i ∷ []) (parts g (slot_id k n))
slot_named g f k n i d at view x m e inside number is =
    let within = subst (λ (xs : List Id). Contains xs x) (slot_parts g k n ∙ ap (each_of (in_def g)) at) inside in
    names_last f.steps i e (subst (λ v. Contains (step_definitions v) e) (sym view)
    (0, omega arith, def_named g f d x m e within number is))

-- a slot gets its number
pub closed_slot : (g : ComponentDfg) (f : Finish) (k : plan.SlotKind) (n : ℕ) (i : GlobalInitializer) (d : CoreDef)
    → AreHeld g → slice_get (slots_of g k) n ≡ Some d → IsReadyDef g (length f.instances) d
    → All (HasNumber f) (in_def g d) → Fits g f → number_of f (slot_id k n) ≡ None
    → initializer_view i ≡ plan.extract k (slot_count f k) (def_view (def_in g f d))
    → Closed g f (add_slot k n i f) (slot_id k n)
closed_slot g f k n i d held at ready numbered fits fresh view =
    let within : n < length (slot_numbers f k) =
    subst (λ (m : ℕ). n < m) (sym (numbers_length g f fits k)) (slice_get_within (slots_of g k) n d at) in
    let new = add_slot k n i f in
    let noted = slot_noted f k n i within in
    record {
      continues = continues_step g f (add_slot k n i f) i
          (slot_counts g f k n d i within (def_view (def_in g f d)) view) (ap is_side_effect view)
          (notes_numbered f new (slot_id k n) (slot_count f k) noted)
          (notes_stay f new (slot_id k n) (slot_count f k) noted fresh) (slot_fits g f k n d i within fits) refl refl
          (λ fills. slot_fills f fills k n i within (sym (slot_number f k n) ∙ fresh))
          (λ is. represents_slot g f is k n i within fresh (slot_parts_there g f k n d at numbered)
          (slot_named g f k n i d at view))
          (λ c h h' is. slot_steps g f c h is k n i d at (record { ready = ready; numbered = numbered }) within view
          (notes_stay f new (slot_id k n) (slot_count f k) noted fresh) h')
          (none_more (length f.options)) (none_more (length f.trampolines));
      here = notes_here f new (slot_id k n) (slot_count f k) noted;
      only = notes_only f new (slot_id k n) (slot_count f k) noted g;
      goes = λ ms wired valued s trace reached.
          let v = slot_value g k n valued d at in
          slot_goes g f k n d i within s v.0 at v.1 ms trace view
          (λ p e. def_resolves wired (in_a_slot k n at) reached v.1 ready numbered e)
          (λ p e. slot_kind_fits g ms f p wired e.has (length f.instances) k n d v.0 held at ready v.1) reached;
    }

-- what is in a slot that can be closed
slot_can : (g : ComponentDfg) (made : ℕ) (k : plan.SlotKind) (n : ℕ) → CanClose g made (slot_id k n)
    → IsReadySlot g made k n
unfolding CanClose
slot_can g made plan.memory n can = can
slot_can g made plan.table n can = can
slot_can g made plan.realloc n can = can
slot_can g made plan.callback n can = can
slot_can g made plan.post_return n can = can

module _ (g : ComponentDfg) (k : plan.SlotKind) (n : ℕ) where
  -- it is one of the graph's, and of the plan's
  pub slot_within : (made : ℕ) → CanClose g made (slot_id k n) → n < length (slots_of g k)
  slot_within made can =
      let d = slot_can g made k n can in
      slice_get_within (slots_of g k) n d.0 d.1

  pub slot_held : (f : Finish) → Fits g f → CanClose g (length f.instances) (slot_id k n)
      → n < length (slot_numbers f k)
  slot_held f fits can =
      subst (λ (m : ℕ). n < m) (sym (numbers_length g f fits k)) (slot_within (length f.instances) can)

  -- what is in it is ready, and its parts have numbers
  pub slot_ready : (made : ℕ) (d : CoreDef) → CanClose g made (slot_id k n) → slice_get (slots_of g k) n ≡ Some d
      → IsReadyDef g made d
  slot_ready made d can at =
      let e = slot_can g made k n can in
      subst (IsReadyDef g made) (same_Some e.0 d (sym e.1 ∙ at)) e.2

  pub slot_numbered : (f : Finish) (d : CoreDef) → All (HasNumber f) (parts g (slot_id k n))
      → slice_get (slots_of g k) n ≡ Some d → All (HasNumber f) (in_def g d)
  slot_numbered f d all at =
      subst (λ (o : Option CoreDef). All (HasNumber f) (each_of (in_def g) o)) at
      (subst (λ (l : List Id). All (HasNumber f) l) (slot_parts g k n) all)

  -- so it gets its number by its step
  pub slot_closed : (f h : Finish) (i : GlobalInitializer) (d : CoreDef) → AreHeld g
      → CanClose g (length f.instances) (slot_id k n) → All (HasNumber f) (parts g (slot_id k n)) → Fits g f
      → number_of f (slot_id k n) ≡ None → slice_get (slots_of g k) n ≡ Some d → h ≡ add_slot k n i f
      → initializer_view i ≡ plan.extract k (slot_count f k) (def_view (def_in g f d)) → Closed g f h (slot_id k n)
  slot_closed f h i d held can all fits fresh at is view =
      subst (λ (x : Finish). Closed g f x (slot_id k n)) (sym is)
      (closed_slot g f k n i d held at (slot_ready (length f.instances) d can at) (slot_numbered f d all at) fits
      fresh view)

  -- the same where the step has the definition as the plan has it
  pub definition_closed : (f h : Finish) (i : GlobalInitializer) (d : CoreDef) (x : PlanDef) → AreHeld g
      → CanClose g (length f.instances) (slot_id k n) → All (HasNumber f) (parts g (slot_id k n)) → Fits g f
      → number_of f (slot_id k n) ≡ None → slice_get (slots_of g k) n ≡ Some d → h ≡ add_slot k n i f
      → initializer_view i ≡ plan.extract k (slot_count f k) (def_view x) → x ≡ def_in g f d
      → Closed g f h (slot_id k n)
  definition_closed f h i d x held can all fits fresh at is view same =
      slot_closed f h i d held can all fits fresh at is
      (view ∙ ap (λ (y : PlanDef). plan.extract k (slot_count f k) (def_view y)) same)

-- a memory, and a table
pub memory_at : (g : ComponentDfg) (n : ℕ) (e : CoreExport MemoryIndex) → slice_get g.memories n ≡ Some e
    → slice_get (slots_of g plan.memory) n ≡ Some (memory_def e)
unfolding slots_of
memory_at g n e at = slice_get-map memory_def g.memories n ∙ ap (option_map memory_def) at

pub memory_within : (g : ComponentDfg) (made : ℕ) (n : MemoryId) → CanClose g made (id.Memory n)
    → n.0 < length g.memories
unfolding slots_of
memory_within g made n can =
    subst (λ (m : ℕ). n.0 < m) (length-map g.memories memory_def) (slot_within g plan.memory n.0 made can)

pub table_at : (g : ComponentDfg) (n : ℕ) (e : CoreExport TableIndex) → slice_get g.tables n ≡ Some e
    → slice_get (slots_of g plan.table) n ≡ Some (table_def e)
unfolding slots_of
table_at g n e at = slice_get-map table_def g.tables n ∙ ap (option_map table_def) at

pub table_within : (g : ComponentDfg) (made : ℕ) (n : TableId) → CanClose g made (id.Table n) → n.0 < length g.tables
unfolding slots_of
table_within g made n can =
    subst (λ (m : ℕ). n.0 < m) (length-map g.tables table_def) (slot_within g plan.table n.0 made can)

-- an item that is ready was made
pub memory_made : (g : ComponentDfg) (made : ℕ) (e : CoreExport MemoryIndex) → IsReadyDef g made (memory_def e)
    → e.instance.0 < made
unfolding IsReadyDef
memory_made g made e ready = ready

pub table_made : (g : ComponentDfg) (made : ℕ) (e : CoreExport TableIndex) → IsReadyDef g made (table_def e)
    → e.instance.0 < made
unfolding IsReadyDef
table_made g made e ready = ready

-- the steps that fill slots with a memory, and with a table
pub memory_view : (g : ComponentDfg) (f : Finish) (e : CoreExport MemoryIndex) (x : PlanExport MemoryIndex)
    → x ≡ export_in f e
    → initializer_view (init.ExtractMemory (record { index = record { 0 = f.counts.memories }; export = x }))
    ≡ plan.extract plan.memory f.counts.memories (def_view (def_in g f (memory_def e)))
unfolding def_in
memory_view g f e x is =
    ap (λ (y : PlanExport MemoryIndex).
    initializer_view (init.ExtractMemory (record { index = record { 0 = f.counts.memories }; export = y }))) is

pub table_view : (g : ComponentDfg) (f : Finish) (e : CoreExport TableIndex) (x : PlanExport TableIndex)
    → x ≡ export_in f e
    → initializer_view (init.ExtractTable (record { index = record { 0 = f.counts.tables }; export = x }))
    ≡ plan.extract plan.table f.counts.tables (def_view (def_in g f (table_def e)))
unfolding def_in
table_view g f e x is =
    ap (λ (y : PlanExport TableIndex).
    initializer_view (init.ExtractTable (record { index = record { 0 = f.counts.tables }; export = y }))) is

-- what holds on success holds further
pub ok_then : {A E P Q : Type 0} (r : Result A E) → (P → Q) → OnOk r P → OnOk r Q
ok_then (Ok x) f h = f h
ok_then (Err e) f h = h

-- what is known of a value that was answered
pub ok_value : {A E : Type 0} (P : A → Type 0) (r : Result A E) (x : A) → r ≡ Ok x → IfOk r P → P x
ok_value {A} {E} P r x is h = subst (λ (q : Result A E). IfOk q P) is h
