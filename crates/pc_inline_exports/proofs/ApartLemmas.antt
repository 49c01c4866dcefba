-- The parts of an instance have names of their own.
use Rattle.std.proofs.Common.{◌≡◌, ◌∙◌, ℕ, zero, suc, List, [], ◌∷◌, map, take, Option, None, Some, refl, sym, ap}
use Rattle.std.proofs.Common.{subst}
use Rattle.std.specs.Prelude.{slice_get}
use Rattle.std.specs.List.{list_all}
use Rattle.pc_entity.proofs.Elements.{and_true}
use Rattle.std.proofs.lemmas.Option.{none-some, same_Some}
use Rattle.pc_entity.specs.declared.string_pool.Atom.{Atom}
use Rattle.pc_entity.specs.Lists.{AreDistinct, names_of}
use Rattle.pc_types.specs.declared.module_record.ModuleRecord.{ModuleRecord}
use Rattle.pc_types.specs.declared.parsed.Entity.{Entity}
use Rattle.pc_types.specs.declared.parsed.DeclType.TheVariants as entry
use Rattle.pc_types.specs.declared.parsed.TypeTable.{TypeTable}
use Rattle.pc_types.specs.declared.type_index.TypeComponentInstanceIndex.{TypeComponentInstanceIndex}
use Rattle.pc_types.specs.Names.{distinct_names}
use Rattle.pc_types.specs.Table.{is_sound_entity, table_fault}
use Rattle.pc_types.specs.TypeTree.{Path, TypeTree}
use Rattle.pc_types_convert.proofs.SoundLemmas.{sound_at}
use Rattle.pc_spec_reading.specs.Types.{instance_fields}
use Rattle.pc_spec_reading.specs.Value.{NamedValues}
use Rattle.pc_inline_names.specs.Numbers.{IsNumber, numbers_of}
use Rattle.pc_inline_state.specs.declared.definition.Definition.{Definition}
use Rattle.pc_inline_state.specs.declared.definition.Definition.TheVariants as definition
use Rattle.pc_inline_state.specs.declared.definition.ExportsId.{ExportsId}
use Rattle.pc_inline_state.specs.declared.state.Member.{Member}
use Rattle.pc_inline_state.specs.declared.state.State.{State}
use Rattle.pc_inline_state.specs.Stands.{MembersStand, and_member, no_members}
use Rattle.pc_inline_state.specs.Tables.{tables_of}
use Rattle.pc_inline_hosts.specs.HostStands.{IsInstanceType, fields_list}
use Rattle.pc_inline_hosts.proofs.FieldLemmas.{fields_declared, names_declared}
use Rattle.pc_inline_exports.specs.Building.{IsApart, part_name}
use Rattle.pc_inline_exports.specs.Reaching.{host_has, made_has}
use Rattle.pc_inline_exports.specs.Subjects.{host_parts, value_parts}
use Rattle.pc_inline_exports.proofs.NamesLemmas.{tested_apart}

-- what the host has is named as its type names it
host_names : (path : Path) (fs : List (List ℕ × TypeTree)) → map part_name (host_parts path fs) ≡ names_of fs
host_names path [] = refl
host_names path (f ∷ fs) = ap (λ l. f.0 ∷ l) (host_names path fs)

module _ (t : TypeTable) (ms : List ModuleRecord) (st : State) where
  -- the name of a part has the number of the member there
  member_number : (es : List (Atom × Member)) (vs : NamedValues) → MembersStand ms (tables_of st) es vs → (i : ℕ)
      (name : List ℕ) → slice_get (map part_name (value_parts vs)) i ≡ Some name
      → (n : Atom) × (slice_get (numbers_of es) i ≡ Some n) × IsNumber st.names.now.texts n name
  member_number es vs no_members i name at = absurd (none-some name at)
  member_number es vs (and_member {name = label} {n = n} numbered says x more) zero name at =
      (n, refl, subst (IsNumber st.names.now.texts n) (same_Some label.name name at) numbered)
  member_number es vs (and_member {es = rest} {vs = others} numbered says x more) (suc i) name at =
      member_number rest others more i name at

  -- so names stand once where their numbers do
  members_apart : (es : List (Atom × Member)) (vs : NamedValues) → MembersStand ms (tables_of st) es vs
      → AreDistinct st.names.now.texts → AreDistinct (numbers_of es) → AreDistinct (map part_name (value_parts vs))
  members_apart es vs stand names apart i j name at_i at_j =
      let a = member_number es vs stand i name at_i in
      let b = member_number es vs stand j name at_j in
      let made : ℕ → Atom = λ k. record { 0 = k } in
      let one : b.0 ≡ a.0 = ap made (names b.0.0 a.0.0 name b.2 a.2) in
      apart i j a.0 a.1 (b.1 ∙ ap Some one)

  -- the exports of an instance type
  fields_apart : table_fault st.table.now ≡ None → (ty : TypeComponentInstanceIndex) (n : ℕ) (tree : TypeTree)
      → IsInstanceType ms (tables_of st) ty n tree → AreDistinct (names_of (fields_list (instance_fields tree)))
  fields_apart sound ty n tree is =
      let d = is.declared in
      let f = fields_declared d.known d.component_instance st.table.now n tree d.there d.is in
      let entry_sound = (sound_at st.table.now n (entry.Instance f.0) sound f.2).0 in
      let apart = and_true
      (list_all (λ (e : List ℕ × Entity). is_sound_entity (take n st.table.now.types) e.1) f.0)
      (distinct_names (names_of f.0)) entry_sound in
      subst (λ y. AreDistinct (names_of (fields_list (instance_fields y)))) f.3
      (subst AreDistinct (names_declared d.known d.component_instance st.table.now f.0 (fields_list f.1) f.4) (tested_apart (names_of f.0) apart.1))

  -- of an instance that was made this is known, and of one of the host its type says it
  pub parts_apart : table_fault st.table.now ≡ None → AreDistinct st.names.now.texts → (d : Definition)
      → ((n : ExportsId) (ty : TypeComponentInstanceIndex) (es : List (Atom × Member)) → d ≡ definition.Instance n ty
      → slice_get st.instances n.0 ≡ Some es → AreDistinct (numbers_of es)) → IsApart t ms st d
  parts_apart sound names d made parts tree (made_has {n = n} {ty = ty} {es = es} {vs = vs} held members typed) =
      members_apart es vs members names (made n ty es refl held)
  parts_apart sound names d made parts tree (host_has {ty = ty} {entry = n} {path = path} held is) =
      subst AreDistinct (sym (host_names path (fields_list (instance_fields tree))))
      (fields_apart sound ty n tree is)

  module _ (table : st.table.now ≡ t) (sound : table_fault t ≡ None) (names : AreDistinct st.names.now.texts)
      (d : Definition) where
    still_sound : table_fault st.table.now ≡ None
    still_sound = subst (λ y. table_fault y ≡ None) (sym table) sound

    -- an instance that was made
    pub apart_made : (n : ExportsId) (ty : TypeComponentInstanceIndex) → d ≡ definition.Instance n ty
        → (o : Option (List (Atom × Member))) → o ≡ slice_get st.instances n.0 → (es : List (Atom × Member))
        → o ≡ Some es → AreDistinct (numbers_of es) → IsApart t ms st d
    apart_made n ty is o got es some apart =
        parts_apart still_sound names d (λ m u fs same held.
        let one : n ≡ m = (let both = sym is ∙ same in cc) in
        subst (λ l. AreDistinct (numbers_of l))
        (same_Some es fs (sym some ∙ got ∙ ap (λ (k : ExportsId). slice_get st.instances k.0) one ∙ held)) apart)

    -- one of the host
    pub apart_other : ((n : ExportsId) (ty : TypeComponentInstanceIndex) → d ≡ definition.Instance n ty → ⊥)
        → IsApart t ms st d
    apart_other other = parts_apart still_sound names d (λ m u fs same held. absurd (other m u same))
