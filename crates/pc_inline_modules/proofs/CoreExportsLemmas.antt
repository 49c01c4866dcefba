-- A core instance from items, against its row.
use Rattle.std.proofs.Common.{◌≡◌, ℕ, List, [], ◌∷◌, ◌++◌, Ok, Err, Option, Some, None, refl, ap, sym, subst}
use Rattle.std.specs.Prelude.{⊤}
use Rattle.pc_entity.specs.declared.string_pool.Atom.{Atom}
use Rattle.pc_entity.specs.Lists.{AreDistinct, map_all, names_of}
use Rattle.pc_numbers.specs.declared.entity_index.EntityIndex.{EntityIndex}
use Rattle.pc_types.specs.declared.module_record.ModuleRecord.{ModuleRecord}
use Rattle.pc_types.specs.declared.parsed.CoreKind.{CoreKind}
use Rattle.pc_types.specs.declared.parsed.TypeTable.{TypeTable}
use Rattle.pc_spec_reading.specs.Item.{core_exports_item}
use Rattle.pc_spec_reading.specs.Modules.{bag_entry, read_core_exports}
use Rattle.pc_spec_reading.specs.Outcome.{found, invalid}
use Rattle.pc_spec_reading.specs.Rows.{read_row}
use Rattle.pc_spec_reading.specs.Scope.{CoreItem, Scope, add_core_instance, bag, with_core_instance}
use Rattle.pc_inline_names.specs.Both.{Both}
use Rattle.pc_inline_names.specs.Numbers.{AreNumbersOf, SameNamed}
use Rattle.pc_inline_state.specs.declared.definition.CoreId.{CoreId}
use Rattle.pc_inline_state.specs.declared.error.ItemError.TheVariants as item_error
use Rattle.pc_inline_state.specs.declared.error.ItemFault.TheVariants as item_fault
use Rattle.pc_inline_state.specs.declared.frame.CoreInstance.TheVariants as instance
use Rattle.pc_inline_state.specs.declared.frame.Frame.{Frame}
use Rattle.pc_inline_state.specs.declared.state.State.{State}
use Rattle.pc_inline_state.specs.Frames.{BagItemStands, FrameStands, bag_stands}
use Rattle.pc_inline_state.specs.Points.{PointStands, StepsItem}
use Rattle.pc_inline_state.specs.Tables.{Tables, tables_of}
use Rattle.pc_inline_canon.proofs.FrameLemmas.{framed_point, instance_framed}
use Rattle.pc_inline_canon.proofs.StepLemmas.{steps_on, steps_stuck}
use Rattle.pc_inline_state.proofs.ZipLemmas.{both_missing, both_there}

-- the bag that the code made of items whose names have these numbers, or nothing, is that of the reading
abbrev pub IsBag : List ModuleRecord → Frame → List (List ℕ × EntityIndex) → List Atom
    → Option (List (Atom × (CoreKind × CoreId))) → Type 0
IsBag ms f items numbers made =
    (b : Tables) (s : Scope) → FrameStands ms b f s → AreDistinct b.names.texts
    → AreNumbersOf b.names.texts (names_of items) numbers
    → Both (SameNamed b.names.texts (BagItemStands ms b)) made (map_all (bag_entry s) items)

module _ (t : TypeTable) (ms : List ModuleRecord) (st : State) (f : Frame) (items : List (List ℕ × EntityIndex))
    (numbers : List Atom) (numbered : AreNumbersOf st.names.now.texts (names_of items) numbers) where
  -- an index is missing
  pub bag_missing : IsBag ms f items numbers None → StepsItem t ms (core_exports_item items) st f st f
      (Err (item_error.Fault item_fault.Invalid))
  unfolding read_row read_core_exports
  bag_missing made = steps_stuck t ms _ st f st f item_fault.Invalid (λ now at.
      ap (λ o. found invalid o (λ (es : List (List ℕ × CoreItem)). Ok (add_core_instance now (bag es))))
      (both_missing _ None _ (made (tables_of st) now.scope at.frame at.sound.names.distinct numbered) refl))

  -- all of them are there
  pub bag_made : (xs : List (Atom × (CoreKind × CoreId))) (f' : Frame) (r : ⊤) → IsBag ms f items numbers (Some xs)
      → f' ≡ record f { core_instances = f.core_instances ++ instance.Bag xs ∷ [] }
      → StepsItem t ms (core_exports_item items) st f st f' (Ok r)
  unfolding read_row read_core_exports
  bag_made xs f' r made is = steps_on t ms _ st f st f' r (λ now at.
      let es = both_there _ (Some xs) _ xs (made (tables_of st) now.scope at.frame at.sound.names.distinct numbered) refl
      in
      let next = add_core_instance now (bag es.0) in
      let stands = instance_framed ms (tables_of st) f now.scope at.frame (instance.Bag xs) (bag es.0)
      (bag_stands es.2) in
      record {
        now = next;
        stands = subst (λ g. PointStands t ms st g next) (sym is)
            (framed_point t ms st f _ now (with_core_instance now.scope (bag es.0)) at refl refl refl stands);
        done = ap (λ o. found invalid o (λ (es : List (List ℕ × CoreItem)). Ok (add_core_instance now (bag es)))) es.1;
      })
