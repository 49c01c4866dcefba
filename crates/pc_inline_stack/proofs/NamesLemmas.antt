-- The numbers that are looked up are those of the names that are read.
use Rattle.std.proofs.Common.{◌≡◌, ℕ, List, ◌∷◌, Option, Some, map, sym, ap, subst, ◌∙◌}
use Rattle.std.specs.Prelude.{slice_get, unwrap_or}
use Rattle.pc_entity.specs.declared.string_pool.Atom.{Atom}
use Rattle.pc_entity.proofs.LookupLemmas.{found_at}
use Rattle.pc_types.specs.declared.module_record.ModuleRecord.{ModuleRecord}
use Rattle.pc_types.specs.declared.parsed.TypeTable.{TypeTable}
use Rattle.pc_parsed.specs.declared.payload.ExternName.{ExternName}
use Rattle.pc_parsed.specs.declared.payload.ItemKind.{ItemKind}
use Rattle.pc_local.specs.declared.item.LocalInitializer.{LocalInitializer}
use Rattle.pc_local.specs.declared.item.LocalInitializer.TheVariants as local
use Rattle.pc_local.specs.declared.item.Translation.{Translation}
use Rattle.pc_local.specs.Sound.{export_name}
use Rattle.pc_inline_names.specs.Named.{Named, argument_name, item_names, nested_at}
use Rattle.pc_inline_names.specs.Numbers.{AreNumbersOf}
use Rattle.pc_inline_state.specs.declared.state.State.{State}
use Rattle.pc_inline_stack.specs.declared.driver.Open.{Open}
use Rattle.pc_inline_stack.specs.Stacks.{AreUnderway, body_at, items_of}
use Rattle.pc_inline_stack.proofs.LeaveLemmas.{its_exports, underway_has}
use Rattle.pc_inline_stack.proofs.MoveLemmas.{some_reached}

-- the names in an instantiation are those of its arguments
pub call_numbered : (names : List (List ℕ)) (l : LocalInitializer) (component : ℕ) (args : List (List ℕ × ItemKind × ℕ))
    (ty : ℕ) → l ≡ local.ComponentInstantiate component args ty → (xs : List (List ℕ × ItemKind × ℕ)) → xs ≡ args
    → (ns : List Atom) → AreNumbersOf names (item_names l) ns → AreNumbersOf names (map argument_name xs) ns
unfolding item_names
call_numbered names l component args ty is xs same ns are =
    subst (λ ys. AreNumbersOf names (map argument_name ys) ns) (sym same)
    (subst (λ k. AreNumbersOf names (item_names k) ns) is are)

module _ (t : TypeTable) (ms : List ModuleRecord) (limit : ℕ) (root : Translation) where
  module _ (st : State) (ks : List Open) (o : Open) (total : ℕ) (under : AreUnderway t ms limit root st ks o total)
    where
      -- the names are those of the bodies
      named_bodies : st.names.now.bodies ≡ st.bodies.now
      unfolding AreUnderway
      named_bodies =
          let r = some_reached t ms limit root under.0 under.1 under.2 st ks o total under.3 in
          r.2.sound.names.bodies

      -- and of the root
      named_root : st.names.now.root ≡ root
      unfolding AreUnderway
      named_root = ap (λ (n : Named). n.root) under.3.keeps.names ∙ under.3.starts.rooted

      -- what is found for an item of the innermost are the numbers of its names
      pub item_numbered : (l : LocalInitializer) → slice_get (items_of st.bodies.now root o) o.next ≡ Some l
          → (ns : List Atom)
          → ((k : LocalInitializer)
          → slice_get (body_at st.names.now.bodies st.names.now.root o.body).initializers o.next ≡ Some k
          → AreNumbersOf st.names.now.texts (item_names k) ns) → AreNumbersOf st.names.now.texts (item_names l) ns
      item_numbered l at ns found =
          found l (subst (λ r. slice_get (body_at st.names.now.bodies r o.body).initializers o.next ≡ Some l)
          (sym named_root)
          (subst (λ bs. slice_get (body_at bs root o.body).initializers o.next ≡ Some l) (sym named_bodies) at))

  -- what is found for the exports of a child are the numbers of their names
  pub exports_numbered : (st : State) (caller : Open) (ks : List Open) (o : Open) (total : ℕ)
      → AreUnderway t ms limit root st (caller ∷ ks) o total → (child : Open) → child ≡ o
      → (es : List (ExternName × ItemKind × ℕ)) → es ≡ its_exports root st child → (ns : List Atom)
      → ((tr : Translation) → nested_at st.names.now.bodies child.body ≡ Some tr
      → AreNumbersOf st.names.now.texts (map export_name tr.exports) ns)
      → AreNumbersOf st.names.now.texts (map export_name es) ns
  exports_numbered st caller ks o total under child was es are ns found =
      let has = (underway_has t ms limit root st caller ks o total under).1 in
      let body = found_at st.bodies.now has.index.0 has.there in
      let is : child.body ≡ Some has.index = ap (λ (k : Open). k.body) was ∙ has.is in
      let same : es ≡ body.0.exports =
      are ∙ ap (λ k. (body_at st.bodies.now root k).exports) is
      ∙ ap (λ (y : Option Translation). (unwrap_or y root).exports) body.1 in
      let there = subst (λ bs. slice_get bs has.index.0 ≡ Some body.0)
      (sym (named_bodies st (caller ∷ ks) o total under)) body.1 in
      subst (λ xs. AreNumbersOf st.names.now.texts (map export_name xs) ns) (sym same)
      (found body.0 (ap (nested_at st.names.now.bodies) is ∙ there))
