-- A list without a static fault has a local program whose bodies are sound. For the layers above.
use Rattle.std.proofs.Common.{◌≡◌, ◌<◌, ◌≤◌, ℕ, ◌+◌, zero, suc, Bool, true, false, List, [], ◌∷◌, ◌++◌, length, map, Option, Some}
use Rattle.std.proofs.Common.{None, refl, sym, ap, ◌∙◌, subst, arith, if◌then◌else◌}
use Rattle.std.specs.Prelude.{⊤, IfSome, slice_get}
use Rattle.std.specs.List.{AllZip, Contains, cons_option, filter_map, list_any}
use Rattle.std.specs.Option.{option_or}
use Rattle.std.proofs.lemmas.Option.{none-some, same_Some, slice_get-get_or}
use Rattle.pc_types.specs.Names.{distinct_names}
use Rattle.pc_types.specs.declared.parsed.TypeTable.{TypeTable}
use Rattle.pc_parsed.specs.declared.canon.CanonItem.{CanonItem}
use Rattle.pc_parsed.specs.declared.canon.CanonItem.TheVariants as canon
use Rattle.pc_parsed.specs.declared.fault.StaticFault.TheVariants as fault
use Rattle.pc_parsed.specs.declared.payload.AliasItem.{AliasItem}
use Rattle.pc_parsed.specs.declared.payload.AliasItem.TheVariants as alias
use Rattle.pc_parsed.specs.declared.payload.ComponentInstanceItem.{ComponentInstanceItem}
use Rattle.pc_parsed.specs.declared.payload.ComponentInstanceItem.TheVariants as component_instance
use Rattle.pc_parsed.specs.declared.payload.Encoding.{Encoding}
use Rattle.pc_parsed.specs.declared.payload.Encoding.TheVariants as encoding
use Rattle.pc_parsed.specs.declared.payload.ExportEntry.{ExportEntry}
use Rattle.pc_parsed.specs.declared.payload.ExternName.{ExternName}
use Rattle.pc_parsed.specs.declared.payload.ImportItem.{ImportItem}
use Rattle.pc_parsed.specs.declared.payload.InstanceItem.{InstanceItem}
use Rattle.pc_parsed.specs.declared.payload.InstanceItem.TheVariants as instance
use Rattle.pc_parsed.specs.declared.payload.ItemKind.{ItemKind}
use Rattle.pc_parsed.specs.declared.payload.OuterKind.TheVariants as outer
use Rattle.pc_parsed.specs.declared.payload.Payload.{Payload}
use Rattle.pc_parsed.specs.declared.payload.Payload.TheVariants as payload
use Rattle.pc_parsed.specs.declared.payload.TypeItem.{TypeItem}
use Rattle.pc_parsed.specs.declared.payload.TypeItem.TheVariants as type_
use Rattle.pc_parsed.specs.ItemFaults.{component_instance_fault, first_item, is_value_kind, item_name, unless, value_fault}
use Rattle.pc_parsed.specs.StaticFault.{around, content_fault, payloads_error, static_fault}
use Rattle.pc_spec_reading.specs.Canonical.{canonical_item}
use Rattle.pc_spec_reading.specs.Item as Item
use Rattle.pc_spec_reading.specs.Item.{ExportOf, Item as AnItem, Items, and_item, before, bodies_in, bodies_of, exports_in}
use Rattle.pc_spec_reading.specs.Item.{no_items}
use Rattle.pc_spec_reading.specs.Nest.{Rest, after_component, after_end, after_items, after_payload, after_version, at_end}
use Rattle.pc_spec_reading.specs.Nest.{broken, counts_in, exposing, is_exposed, nested, opening, rest_of, root_of, whole}
use Rattle.pc_spec_reading.specs.Nest.{within}
use Rattle.pc_spec_reading.specs.Section as Section
use Rattle.pc_spec_reading.specs.Section.{items_of, module_of, modules_after, modules_of, named_item}
use Rattle.pc_local.specs.declared.item.LocalInitializer.{LocalInitializer}
use Rattle.pc_local.specs.declared.item.LocalInitializer.TheVariants as local
use Rattle.pc_local.specs.declared.item.LocalProgram.{LocalProgram}
use Rattle.pc_local.specs.declared.item.Translation.{Translation}
use Rattle.pc_local.specs.Plain.{plain_item}
use Rattle.pc_local.specs.Program.{ProgramStands}
use Rattle.pc_local.specs.Sound.{AreSoundBodies, IsSoundBody, IsSoundItem, export_name}
use Rattle.pc_local.specs.Standing.{BodyStands, ComponentStands, ItemStands, ItemsStand, Names, stand_more, stand_none}
use Rattle.pc_local.specs.Standing.{stands_component, stands_module, stands_nested, stands_plain}
use Rattle.pc_local.proofs.NameLemmas.{AllApart, ExportsApart, LeftApart, bodies_left, names_in, or_none, own_names}
use Rattle.pc_local.proofs.NameLemmas.{outer_names_of, rest_apart, root_names, static_parts, step, unless_none}
use Rattle.pc_local.proofs.PassLemmas.{no_fault}

-- the names of the exports of an instance from items
abbrev item_names : List ExportOf → List (List ℕ)
item_names es = map (λ (e : ExportOf). e.name.name) es

module _ (modules : ℕ) where
  unfoldable mutual
    -- the items of a body are sound, and so are those of the bodies in it
    pub SoundItems : Items → Type 0
    SoundItems no_items = Unit {0}
    SoundItems (and_item i is) = SoundItem i × SoundItems is

    -- an item is
    pub SoundItem : AnItem → Type 0
    SoundItem (Item.module_item n ty) = n < modules
    SoundItem (Item.component_exports_item es ty) = distinct_names (item_names es) ≡ true
    SoundItem (Item.component_item body) = (distinct_names (names_in body) ≡ true) × SoundItems body
    SoundItem _ = Unit {0}

  -- all of a list are
  abbrev AllSound : List AnItem → Type 0
  AllSound [] = Unit {0}
  AllSound (i ∷ is) = SoundItem i × AllSound is

  -- and those of all open bodies
  abbrev LeftSound : List Items → Type 0
  LeftSound [] = Unit {0}
  LeftSound (is ∷ outside) = SoundItems is × LeftSound outside

  no_items_sound : SoundItems no_items
  unfolding SoundItems
  no_items_sound = tt

  one_more : (i : AnItem) (is : Items) → SoundItem i → SoundItems is → SoundItems (and_item i is)
  unfolding SoundItems
  one_more i is first rest = (first, rest)

  -- sound items in front of others
  before_sound : (items : List AnItem) (is : Items) → AllSound items → SoundItems is → SoundItems (before items is)
  before_sound [] is all rest = rest
  before_sound (i ∷ items) is all rest = one_more i (before items is) all.0 (before_sound items is all.1 rest)

  -- types, imports, core instances and aliases are
  types_sound : (es : List TypeItem) → AllSound (filter_map Section.type_item es)
  unfolding SoundItem
  types_sound [] = tt
  types_sound (type_.Resource id r d ∷ es) = (tt, types_sound es)
  types_sound (type_.Other ∷ es) = types_sound es

  imports_sound : (es : List ImportItem) → AllSound (map Section.import_item es)
  unfolding SoundItem
  imports_sound [] = tt
  imports_sound (e ∷ es) = (tt, imports_sound es)

  instances_sound : (es : List InstanceItem) → AllSound (map Section.instance_item es)
  unfolding SoundItem
  instances_sound [] = tt
  instances_sound (instance.Instantiate m args ∷ es) = (tt, instances_sound es)
  instances_sound (instance.FromExports items ∷ es) = (tt, instances_sound es)

  exports_sound : (es : List ExportEntry) → AllSound (map Section.export_item es)
  unfolding SoundItem
  exports_sound [] = tt
  exports_sound (e ∷ es) = (tt, exports_sound es)

  aliases_sound : (es : List AliasItem) → AllSound (filter_map Section.alias_item es)
  unfolding SoundItem
  aliases_sound [] = tt
  aliases_sound (alias.InstanceExport k n name ∷ es) = (tt, aliases_sound es)
  aliases_sound (alias.CoreInstanceExport k n name ∷ es) = (tt, aliases_sound es)
  aliases_sound (alias.Outer outer.CoreModule c n ∷ es) = (tt, aliases_sound es)
  aliases_sound (alias.Outer outer.Component c n ∷ es) = (tt, aliases_sound es)
  aliases_sound (alias.Outer outer.Type_ c n ∷ es) = aliases_sound es
  aliases_sound (alias.Outer outer.CoreType c n ∷ es) = aliases_sound es

  -- a canonical function is no module, no instance and no component
  canon_one : (c : CanonItem) → IfSome (canonical_item c) SoundItem
  unfolding canonical_item SoundItem
  canon_one (canon.Lift func ty s opts) = tt
  canon_one c = tt

  canons_sound : (es : List CanonItem) → AllSound (filter_map canonical_item es)
  canons_sound [] = tt
  canons_sound (c ∷ es) = by (canonical_item c) (canon_one c) (canons_sound es)
    where
      by : (o : Option AnItem) → IfSome o SoundItem → AllSound (filter_map canonical_item es)
          → AllSound (cons_option o (filter_map canonical_item es))
      by None x rest = rest
      by (Some i) x rest = (x, rest)

-- the names of items are those of the list that they come from
named_names : (es : List (ExternName × ItemKind × ℕ)) → item_names (map named_item es) ≡ map export_name es
named_names [] = refl
named_names (e ∷ es) = ap (λ (l : List (List ℕ)). e.0.name ∷ l) (named_names es)

module _ (modules : ℕ) where
  -- component instances without a fault
  component_instances_sound : (n : ℕ) (es : List ComponentInstanceItem)
      → first_item component_instance_fault n es ≡ None → AllSound modules (map Section.component_instance_item es)
  unfolding SoundItem
  component_instances_sound n [] sound = tt
  component_instances_sound n (component_instance.Instantiate c args ty ∷ es) sound =
      let both = no_fault n (component_instance_fault (component_instance.Instantiate c args ty))
      (first_item component_instance_fault (n + 1) es) sound in
      (tt, component_instances_sound (n + 1) es both.1)
  component_instances_sound n (component_instance.FromExports items ty ∷ es) sound =
      let both = no_fault n (component_instance_fault (component_instance.FromExports items ty))
      (first_item component_instance_fault (n + 1) es) sound in
      let named = or_none (value_fault (list_any (λ (i : ExternName × ItemKind × ℕ). is_value_kind i.1) items))
      (unless (distinct_names (map item_name items)) fault.DefinedTwice) both.0 in (
        ap distinct_names (named_names items)
            ∙ unless_none (distinct_names (map item_name items)) fault.DefinedTwice named.1,
        component_instances_sound (n + 1) es both.1,
      )

  -- what is left, with items in front
  items_left : (items : List AnItem) (r : Rest) → AllSound modules items → LeftSound modules (bodies_left r)
      → LeftSound modules (bodies_left (after_items items r))
  items_left items at_end all h = tt
  items_left items (within is outside) all h = (before_sound modules items is all h.0, h.1)
  items_left items (opening is outside) all h = tt
  items_left items broken all h = tt

  end_left : (r : Rest) → LeftSound modules (bodies_left r) → LeftSound modules (bodies_left (after_end r))
  end_left at_end h = (no_items_sound modules, tt)
  end_left (within is outside) h = (no_items_sound modules, h)
  end_left (opening is outside) h = tt
  end_left broken h = tt

  version_left : (e : Encoding) (r : Rest) → LeftSound modules (bodies_left r)
      → LeftSound modules (bodies_left (after_version e r))
  version_left encoding.Component at_end h = tt
  version_left encoding.Component (within is outside) h = h
  version_left encoding.Component (opening is outside) h = tt
  version_left encoding.Component broken h = tt
  version_left encoding.Module r h = tt

  nested_sound : (body is : Items) → distinct_names (names_in body) ≡ true → SoundItems modules body
      → SoundItems modules is → SoundItems modules (and_item (Item.component_item body) is)
  unfolding SoundItems
  nested_sound body is apart sound rest = ((apart, sound), rest)

  -- a nested body that exported nothing before it begins
  begin_left : (names : ℕ → List (List ℕ)) (r : Rest) → AllApart [] names (bodies_left r)
      → LeftSound modules (bodies_left r) → LeftSound modules (bodies_left (after_component r))
  begin_left names at_end apart h = tt
  begin_left names (within is outside) apart h = tt
  begin_left names (opening body []) apart h = tt
  begin_left names (opening body (is ∷ outside)) apart h =
      (nested_sound body is (apart.0 [] (λ q. refl) refl) h.0 h.1.0, h.1.1)
  begin_left names broken apart h = tt

  module_sound : (m ty : ℕ) → m < modules → SoundItem modules (Item.module_item m ty)
  unfolding SoundItem
  module_sound m ty below = below

  module _ (t : TypeTable) (exposed : Option (List ℕ)) where
    -- the items of a payload without a fault are sound, and so is what is left
    payload_left : (m : ℕ) (passed : List Payload) (p : Payload) (r : Rest)
        → content_fault t exposed (around passed) p ≡ None
        → m + length (cons_option (module_of p) []) ≤ modules → LeftApart (p ∷ passed) r
        → LeftSound modules (bodies_left r) → LeftSound modules (bodies_left (after_payload m p r))
    unfolding items_of
    payload_left m passed payload.End r sound few apart h = end_left r h
    payload_left m passed (payload.Version e) r sound few apart h = version_left e r h
    payload_left m passed payload.ComponentSection r sound few apart h =
        begin_left (outer_names_of (payload.ComponentSection ∷ passed)) r apart h
    payload_left m passed payload.CoreTypeSection r sound few apart h = items_left [] r tt h
    payload_left m passed payload.CustomSection r sound few apart h = items_left [] r tt h
    payload_left m passed payload.ComponentStartSection r sound few apart h = items_left [] r tt h
    payload_left m passed (payload.ComponentTypeSection es) r sound few apart h =
        items_left (filter_map Section.type_item es) r (types_sound modules es) h
    payload_left m passed (payload.ComponentImportSection es) r sound few apart h =
        items_left (map Section.import_item es) r (imports_sound modules es) h
    payload_left m passed (payload.ComponentCanonicalSection es) r sound few apart h =
        items_left (filter_map canonical_item es) r (canons_sound modules es) h
    payload_left m passed (payload.ModuleSection record_ ty) r sound few apart h =
        items_left (Item.module_item m ty ∷ []) r (module_sound m ty (omega (arith, few)), tt) h
    payload_left m passed (payload.InstanceSection es) r sound few apart h =
        items_left (map Section.instance_item es) r (instances_sound modules es) h
    payload_left m passed (payload.ComponentInstanceSection es) r sound few apart h =
        items_left (map Section.component_instance_item es) r (component_instances_sound 0 es sound) h
    payload_left m passed (payload.ComponentExportSection es) r sound few apart h =
        items_left (map Section.export_item es) r (exports_sound modules es) h
    payload_left m passed (payload.ComponentAliasSection es) r sound few apart h =
        items_left (filter_map Section.alias_item es) r (aliases_sound modules es) h

    -- how many modules come before what follows a payload, and how many then
    counted_after : (m : ℕ) (p : Payload) (ps : List Payload) → m + length (modules_of (p ∷ ps)) ≤ modules
        → (m + length (cons_option (module_of p) []) ≤ modules)
        × (modules_after m p + length (modules_of ps) ≤ modules)
    counted_after m (payload.ModuleSection r ty) ps few = (omega (arith, few), omega (arith, few))
    counted_after m payload.End ps few = (omega (arith, few), few)
    counted_after m p ps few = (omega (arith, few), few)

    -- payloads without an error hold sound items
    rest_left : (m : ℕ) (passed ps : List Payload) → payloads_error t exposed passed ps ≡ None
        → m + length (modules_of ps) ≤ modules → LeftSound modules (bodies_left (rest_of m ps))
    unfolding rest_of
    rest_left m passed [] h few = tt
    rest_left m passed (p ∷ ps) h few =
        let parts = step t exposed passed p ps h in
        let after = modules_after m p in
        let counts = counted_after m p ps few in
        payload_left m passed p (rest_of after ps) parts.0 counts.0 (rest_apart t exposed after (p ∷ passed) ps parts.1)
        (rest_left after (p ∷ passed) ps parts.1 counts.1)

  -- items stay sound where the exposed name is that of the intrinsics
  exposing_sound : (x : Option (List ℕ)) (is : Items) → SoundItems modules is → SoundItems modules (exposing x is)
  unfolding SoundItems SoundItem exposing
  exposing_sound x no_items h = tt
  exposing_sound x (and_item (Item.import_item name e) is) h = by (is_exposed x name) (exposing_sound x is h.1)
    where
      by : (b : Bool) → SoundItems modules (exposing x is)
          → SoundItems modules (and_item (if b then Item.intrinsics_import else Item.import_item name e) (exposing x is))
      by true rest = (tt, rest)
      by false rest = (tt, rest)
  exposing_sound x (and_item Item.intrinsics_import is) h = (tt, exposing_sound x is h.1)
  exposing_sound x (and_item i is) h = (h.0, exposing_sound x is h.1)

  -- the root that is found is sound
  root_sound : (x : Option (List ℕ)) (r : Rest) (body : Items) → LeftSound modules (bodies_left r)
      → nested (whole r) x ≡ Some body → SoundItems modules body
  root_sound x at_end body h is = absurd (none-some body is)
  root_sound x (within b outside) body h is = absurd (none-some body is)
  root_sound x (opening b (o ∷ outside)) body h is = absurd (none-some body is)
  root_sound x broken body h is = absurd (none-some body is)
  root_sound x (opening b []) body h is = by (counts_in 0 b) is
    where
      by : (c : Bool) → (if c then Some (exposing x b) else None) ≡ Some body → SoundItems modules body
      by true is = subst (SoundItems modules) (same_Some (exposing x b) body is) (exposing_sound x b h.0)
      by false is = absurd (none-some body is)

  -- a body whose items are sound, and whose exports have names of their own
  abbrev SoundBody : Items → Type 0
  SoundBody is = (distinct_names (names_in is) ≡ true) × SoundItems modules is

  -- all of these are
  abbrev AllBodies : List Items → Type 0
  AllBodies [] = Unit {0}
  AllBodies (is ∷ rest) = SoundBody is × AllBodies rest

  bodies_append : (xs ys : List Items) → AllBodies xs → AllBodies ys → AllBodies (xs ++ ys)
  bodies_append [] ys a b = b
  bodies_append (x ∷ xs) ys a b = (a.0, bodies_append xs ys a.1 b)

  mutual
    unfolding SoundItems SoundItem

    -- the bodies in a sound one are
    bodies_sound : (is : Items) → SoundItems modules is → AllBodies (bodies_in is)
    bodies_sound no_items h = tt
    bodies_sound (and_item i is) h =
        bodies_append (bodies_of i) (bodies_in is) (bodies_sound_of i h.0) (bodies_sound is h.1)

    bodies_sound_of : (i : AnItem) → SoundItem modules i → AllBodies (bodies_of i)
    bodies_sound_of (Item.component_item body) h =
        bodies_append (bodies_in body) (body ∷ []) (bodies_sound body h.1) (h, tt)
    bodies_sound_of i h = tt

  -- a local item that stands for a sound item is sound
  plain_sound : (l : LocalInitializer) (i : AnItem) → plain_item l ≡ Some i → SoundItem modules i
      → IsSoundItem modules l
  unfolding plain_item SoundItem IsSoundItem
  plain_sound (local.ModuleStatic index ty) i is h = subst (SoundItem modules) (sym (same_Some _ i is)) h
  plain_sound (local.ComponentSynthetic exports ty) i is h =
      sym (ap distinct_names (named_names exports)) ∙ subst (SoundItem modules) (sym (same_Some _ i is)) h
  plain_sound l i is h = tt

  local_sound : (bodies : List Translation) (names : Names) (l : LocalInitializer) (i : AnItem)
      → ItemStands bodies names l i → SoundItem modules i → IsSoundItem modules l
  unfolding IsSoundItem
  local_sound bodies names l i (stands_plain is) h = plain_sound l i is h
  local_sound bodies names l i (stands_module reads) h = tt
  local_sound bodies names l i (stands_component reads) h = tt
  local_sound bodies names l i (stands_nested at stands exports given) h = tt

  -- so are those of a body
  locals_sound : (bodies : List Translation) (names : Names) (ls : List LocalInitializer) (is : Items)
      → ItemsStand bodies names ls is → SoundItems modules is → (k : ℕ) (l : LocalInitializer)
      → slice_get ls k ≡ Some l → IsSoundItem modules l
  unfolding SoundItems
  locals_sound bodies names ls is stand_none h k l at = absurd (none-some l at)
  locals_sound bodies names ls is (stand_more {l = first} {i = i} one rest) h zero l at =
      subst (IsSoundItem modules) (same_Some first l at) (local_sound bodies names first i one h.0)
  locals_sound bodies names ls is (stand_more {ls = others} {is = more} one rest) h (suc k) l at =
      locals_sound bodies names others more rest h.1 k l at

  -- a body that stands for a sound one is sound
  body_sound : (bodies : List Translation) (names : Names) (body : Translation) (is : Items)
      → BodyStands bodies names body is → SoundBody is → IsSoundBody modules body
  body_sound bodies names body is stands h = record {
    exports = sym (ap distinct_names (named_names body.exports))
        ∙ ap (λ (es : List ExportOf). distinct_names (item_names es)) stands.exports ∙ h.0;
    items = λ l there. locals_sound bodies names body.initializers is stands.items h.1 there.0 l
        (slice_get-get_or body.initializers there.0 l there.1 ∙ ap Some there.2);
  }

  components_sound : (bodies trs : List Translation) (bs : List Items) → AllZip (ComponentStands bodies) trs bs
      → AllBodies bs → AreSoundBodies modules trs
  components_sound bodies [] bs h all n body at = absurd (none-some body at)
  components_sound bodies (x ∷ trs) [] h all n body at = absurd h
  components_sound bodies (x ∷ trs) (b ∷ bs) h all zero body at =
      subst (IsSoundBody modules) (same_Some x body at) (body_sound bodies h.0.names x b h.0.stands all.0)
  components_sound bodies (x ∷ trs) (b ∷ bs) h all (suc n) body at =
      components_sound bodies trs bs h.1 all.1 n body at

-- the bodies of the program of a list without a static fault are sound
module _ (t : TypeTable) (exposed : Option (List ℕ)) (ps : List Payload) (program : LocalProgram)
    (stands : ProgramStands exposed ps program) (sound : static_fault t exposed ps ≡ None) where
  abbrev modules : ℕ
  modules = length program.modules

  items : SoundItems modules stands.body
  unfolding root_of
  items =
      root_sound modules exposed (rest_of 0 ps) stands.body
      (rest_left modules t exposed 0 [] ps (static_parts t exposed ps sound).1 few) stands.nests
    where
      few : 0 + length (modules_of ps) ≤ length program.modules
      few = let same = ap length stands.modules in omega (arith, same)

  pub root_is_sound : IsSoundBody (length program.modules) program.root
  root_is_sound =
      body_sound modules program.components _ program.root stands.body stands.root
      (root_names t exposed ps stands.body sound stands.nests, items)

  pub components_are_sound : AreSoundBodies (length program.modules) program.components
  components_are_sound =
      components_sound modules program.components program.components (bodies_in stands.body) stands.components
      (bodies_sound modules stands.body items)
