-- What the loop over the imports of the root takes from a call.
use Rattle.std.proofs.Common.{◌≡◌, ◌≤◌, ◌+◌, ℕ, List, [], ◌∷◌, length, Some, Result, Ok, Err, ap, sym, subst, ◌∙◌}
use Rattle.std.specs.Prelude.{⊤, slice_get}
use Rattle.pc_entity.specs.declared.string_pool.Atom.{Atom}
use Rattle.pc_types.specs.declared.error.Error.{Error}
use Rattle.pc_types.specs.declared.error.Place.{Place}
use Rattle.pc_types.specs.declared.error.Place.TheVariants as place
use Rattle.pc_types.specs.declared.module_record.ModuleRecord.{ModuleRecord}
use Rattle.pc_types.specs.declared.parsed.Entity.{Entity}
use Rattle.pc_types.specs.declared.parsed.TypeTable.{TypeTable}
use Rattle.pc_parsed.specs.declared.payload.ExternName.{ExternName}
use Rattle.pc_spec_reading.specs.Item.{Item, import_item}
use Rattle.pc_local.specs.declared.item.LocalInitializer.{LocalInitializer}
use Rattle.pc_local.specs.declared.item.LocalInitializer.TheVariants as local
use Rattle.pc_local.specs.Plain.{plain_item}
use Rattle.pc_local.specs.Standing.{ItemStands, no_names}
use Rattle.pc_inline_names.specs.Named.{Named, item_names}
use Rattle.pc_inline_names.specs.Numbers.{AreNumbersOf}
use Rattle.pc_inline_state.specs.declared.error.ItemError.{ItemError}
use Rattle.pc_inline_state.specs.declared.frame.Frame.{Frame}
use Rattle.pc_inline_state.specs.declared.state.State.{State}
use Rattle.pc_inline_state.specs.Adds.{most_prepared}
use Rattle.pc_inline_state.specs.Faults.{error_of}
use Rattle.pc_inline_state.specs.Points.{Follows, IsPoint, Steps}
use Rattle.pc_inline_stack.specs.Reads.{AreItems, Prepared, SoFar}
use Rattle.pc_inline_items.specs.StepsLocal.{PreparesLocal, prepare_row}
use Rattle.pc_inline_state.specs.Tables.{Keeps, Tables, tables_of}
use Rattle.pc_inline_items.proofs.LocalLemmas.{plain_is}
use Rattle.pc_inline_stack.proofs.LoopAddsLemmas.{AddedSoFar}
use Rattle.pc_inline.proofs.PrepareAllLemmas.{prepare_first, prepares_end}
use Rattle.pc_inline_state.proofs.AddsLemmas.{adds_refl}
use Rattle.pc_inline_stack.proofs.ReadLemmas.{read_all, read_fails, read_more, read_none}
use Rattle.pc_inline.proofs.SkipLemmas.{skips_other}
use Rattle.pc_spec_reading.specs.Imports.{prepare}
use Rattle.pc_spec_reading.specs.Reading.{prepare_all}

-- what is found for an item of the root are the numbers of its names
pub root_numbered : (old now : Tables) → Keeps old now → (ls : List LocalInitializer)
    → old.names.root.initializers ≡ ls → (n : ℕ) (l : LocalInitializer) → slice_get ls n ≡ Some l → (ns : List Atom)
    → ((k : LocalInitializer) → slice_get now.names.root.initializers n ≡ Some k
    → AreNumbersOf now.names.texts (item_names k) ns) → AreNumbersOf now.names.texts (item_names l) ns
root_numbered old now keeps ls is n l at ns found =
    found l (subst (λ ks. slice_get ks n ≡ Some l)
    (sym (ap (λ (x : Named). x.root.initializers) keeps.names ∙ is)) at)

-- the name in an import is that of the import
pub import_numbered : (names : List (List ℕ)) (l : LocalInitializer) (name : ExternName) (e : Entity)
    → l ≡ local.Import name e → (ns : List Atom) → AreNumbersOf names (item_names l) ns
    → AreNumbersOf names (name.name ∷ []) ns
unfolding item_names
import_numbered names l name e is ns are = subst (λ k. AreNumbersOf names (item_names k) ns) is are

-- the error of an item at its place
pub error_there : (e : ItemError) (there p : Place) (at : Error) → there ≡ p → at ≡ error_of e there → at ≡ error_of e p
error_there e there p at is said = said ∙ ap (error_of e) is

module _ (t : TypeTable) (ms : List ModuleRecord) where
  -- an import is prepared
  pub import_prepares : (l : LocalInitializer) (name : ExternName) (e : Entity) (st : State) (f : Frame) (st' : State)
      (f' : Frame) (r : Result ⊤ ItemError) → plain_item l ≡ Some (import_item name e)
      → Steps t ms (prepare t name e) st f st' f' r → PreparesLocal t ms l st f st' f' r
  unfolding PreparesLocal
  import_prepares l name e st f st' f' r is steps i stands =
      subst (λ k. Steps t ms (prepare_row t ms k) st f st' f' r)
      (plain_is st.bodies.now no_names l (import_item name e) i is stands) steps

  -- another item is passed over
  pub other_prepares : (l : LocalInitializer) (st : State) (f : Frame)
      → ((name : ExternName) (e : Entity) → ¬ (l ≡ local.Import name e)) → PreparesLocal t ms l st f st f (Ok tt)
  unfolding PreparesLocal Steps Follows
  other_prepares l st f other i stands now at = record {
    now = now;
    stands = at;
    done = skips_other t ms l other st.bodies.now no_names i stands now;
  }

  module _ (ls : List LocalInitializer) (old : State) (f : Frame) (st : State) (g : Frame) (n : ℕ) where
    -- the imports among so many items were prepared
    abbrev pub PreparedSoFar : Type 0
    PreparedSoFar = SoFar t ms (prepare_all t) ls n old f st g

    -- and the types and entries that these may need were added, and no resource was declared
    pub record ItemsPrepared : Type 0 where
      pub prepared : PreparedSoFar
      pub adds : AddedSoFar t (most_prepared t) ls n (tables_of old) (tables_of st)
      pub undeclared : st.graph.resources ≡ []

    module _ (are : AreItems old.bodies.now ls) (l : LocalInitializer) (at : slice_get ls n ≡ Some l) (st' : State)
        (g' : Frame)
        (same : g'.component_instance ≡ g.component_instance) where
      prepare_steps : (r : Result ⊤ ItemError) → PreparesLocal t ms l st g st' g' r
          → (i : Item) → ItemStands st.bodies.now no_names l i → Steps t ms (prepare_row t ms i) st g st' g' r
      unfolding PreparesLocal
      prepare_steps r steps = steps

      -- an item is prepared
      pub item_prepared : PreparedSoFar → PreparesLocal t ms l st g st' g' (Ok tt)
          → Keeps (tables_of st) (tables_of st') → SoFar t ms (prepare_all t) ls (n + 1) old f st' g'
      item_prepared far steps keeps =
          read_more t ms (prepare_all t) ls n old f st g far are l at (prepare_row t ms)
          (prepare_first t ms n) st' g' (prepare_steps (Ok tt) steps) keeps
          same

      -- or it isn't
      pub item_unprepared : PreparedSoFar → (e : ItemError) → PreparesLocal t ms l st g st' g' (Err e) → (said : Error)
          → said ≡ error_of e (place.Reading g'.component_instance.0 n) → Prepared t ms ls old f st' g' (Err said)
      item_unprepared far e steps said is =
          subst (λ x. Prepared t ms ls old f st' g' (Err x)) (sym is)
          (read_fails t ms (prepare_all t) ls n old f st g far are l at (prepare_row t ms)
          (prepare_first t ms n) st' g' e (prepare_steps (Err e) steps) same)

    -- all imports were prepared
    pub items_prepared : PreparedSoFar → length ls ≤ n → (r : ⊤) → Prepared t ms ls old f st g (Ok r)
    items_prepared far end r =
        read_all t ms (prepare_all t) ls old f st g n far end (prepares_end t ms n) r

  -- nothing was prepared yet
  pub none_prepared : (ls : List LocalInitializer) (st : State) (f : Frame) → IsPoint t ms st f
      → st.graph.resources ≡ [] → ItemsPrepared ls st f st f 0
  none_prepared ls st f here none = record {
    prepared = read_none t ms (prepare_all t) ls st f here;
    adds = adds_refl t 0 (tables_of st);
    undeclared = none;
  }
