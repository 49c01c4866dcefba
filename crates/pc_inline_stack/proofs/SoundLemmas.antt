-- The bodies of component instances that are read are sound.
use Rattle.std.proofs.Common.{◌≡◌, ℕ, true, List, Option, None, Some, length, map, refl}
use Rattle.std.specs.Prelude.{slice_get, unwrap_or}
use Rattle.pc_numbers.specs.declared.component_entity.StaticComponentIndex.{StaticComponentIndex}
use Rattle.pc_types.specs.declared.module_record.ModuleRecord.{ModuleRecord}
use Rattle.pc_types.specs.declared.parsed.TypeTable.{TypeTable}
use Rattle.pc_types.specs.Names.{distinct_names}
use Rattle.pc_local.specs.declared.item.LocalInitializer.{LocalInitializer}
use Rattle.pc_local.specs.declared.item.Translation.{Translation}
use Rattle.pc_local.specs.Sound.{AreSoundBodies, IsSoundBody, IsSoundItem, export_name}
use Rattle.pc_inline_state.specs.declared.state.State.{State}
use Rattle.pc_inline_stack.specs.declared.driver.Open.{Open}
use Rattle.pc_inline_stack.specs.Stacks.{AreUnderway, body_at, items_of}
use Rattle.pc_inline_stack.proofs.MoveLemmas.{underway_reached}
use Rattle.pc_types_lists.proofs.Growth.{contains_at}

-- a body by its number is sound, where all bodies are, and the root
sound_at : (n : ℕ) (bodies : List Translation) (root : Translation) → AreSoundBodies n bodies → IsSoundBody n root
    → (k : Option StaticComponentIndex) → IsSoundBody n (body_at bodies root k)
sound_at n bodies root all first None = first
sound_at n bodies root all first (Some s) = by (slice_get bodies s.0) refl
  where
    by : (o : Option Translation) → slice_get bodies s.0 ≡ o → IsSoundBody n (unwrap_or o root)
    by None at = first
    by (Some body) at = all s.0 body at

module _ (t : TypeTable) (ms : List ModuleRecord) (limit : ℕ) (root : Translation)
    (first : IsSoundBody (length ms) root)
    (st : State) (ks : List Open) (o : Open) (total : ℕ) (under : AreUnderway t ms limit root st ks o total) where
  sound_body : IsSoundBody (length ms) (body_at st.bodies.now root o.body)
  sound_body =
      let r = underway_reached t ms limit root st ks o total under in
      let x = r.2 in
      sound_at (length ms) st.bodies.now root x.sound.bodies first o.body

  -- the item that the innermost reads is
  pub sound_item : (l : LocalInitializer) → slice_get (items_of st.bodies.now root o) o.next ≡ Some l
      → IsSoundItem (length ms) l
  sound_item l at = sound_body.items l (contains_at (items_of st.bodies.now root o) o.next l at)

  -- what it exports has names of its own
  pub sound_exports : distinct_names (map export_name (body_at st.bodies.now root o.body).exports) ≡ true
  sound_exports = sound_body.exports
