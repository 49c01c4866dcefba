-- A list without a static fault has a sound table and sound modules, and its root exports no name twice. For the
-- layers above too.
use Rattle.std.proofs.Common.{◌≡◌, ℕ, ◌+◌, suc, Bool, true, false, ◌||◌, not, List, [], ◌∷◌, ◌++◌, map, Option, Some}
use Rattle.std.proofs.Common.{None, refl, sym, ap, ◌∙◌, subst, true≢false, append_assoc, if◌then◌else◌}
use Rattle.std.specs.Prelude.{⊤}
use Rattle.std.specs.List.{cons_option, filter_map, flat_map, list_all}
use Rattle.std.specs.Option.{option_map, option_or}
use Rattle.std.specs.Str.{bytes_eq}
use Rattle.std.proofs.lemmas.Bool.Decides.{same_from_decides}
use Rattle.std.proofs.lemmas.List.{append-nil}
use Rattle.std.proofs.lemmas.List.Folds.{list_any-append}
use Rattle.std.proofs.lemmas.Option.{none-some, same_Some}
use Rattle.std.proofs.lemmas.Slice.Eq.{bytes_eq-Decides}
use Rattle.pc_entity.proofs.Elements.{and_true, true_and}
use Rattle.pc_types.specs.declared.module_record.ModuleRecord.{ModuleRecord}
use Rattle.pc_types.specs.declared.parsed.TypeTable.{TypeTable}
use Rattle.pc_types.specs.Names.{distinct_names, has_name}
use Rattle.pc_types.specs.Record.{is_sound}
use Rattle.pc_types.specs.Table.{EntryFault, table_error, table_fault}
use Rattle.pc_parsed.specs.declared.canon.CanonItem.{CanonItem}
use Rattle.pc_parsed.specs.declared.fault.StaticFault.{StaticFault}
use Rattle.pc_parsed.specs.declared.fault.StaticFault.TheVariants as fault
use Rattle.pc_parsed.specs.declared.payload.AliasItem.{AliasItem}
use Rattle.pc_parsed.specs.declared.payload.AliasItem.TheVariants as alias
use Rattle.pc_parsed.specs.declared.payload.ComponentInstanceItem.{ComponentInstanceItem}
use Rattle.pc_parsed.specs.declared.payload.ComponentInstanceItem.TheVariants as component_instance
use Rattle.pc_parsed.specs.declared.payload.Encoding.{Encoding}
use Rattle.pc_parsed.specs.declared.payload.Encoding.TheVariants as encoding
use Rattle.pc_parsed.specs.declared.payload.ExportEntry.{ExportEntry}
use Rattle.pc_parsed.specs.declared.payload.ImportItem.{ImportItem}
use Rattle.pc_parsed.specs.declared.payload.InstanceItem.{InstanceItem}
use Rattle.pc_parsed.specs.declared.payload.InstanceItem.TheVariants as instance
use Rattle.pc_parsed.specs.declared.payload.OuterKind.TheVariants as outer
use Rattle.pc_parsed.specs.declared.payload.Payload.{Payload}
use Rattle.pc_parsed.specs.declared.payload.Payload.TheVariants as payload
use Rattle.pc_parsed.specs.declared.payload.TypeItem.{TypeItem}
use Rattle.pc_parsed.specs.declared.payload.TypeItem.TheVariants as type_
use Rattle.pc_parsed.specs.ItemFaults.{canon_fault, export_fault, export_name, exports_fault, first_item, is_value_kind}
use Rattle.pc_parsed.specs.ItemFaults.{name_fault, unless, value_fault}
use Rattle.pc_parsed.specs.Names.{HaveSame}
use Rattle.pc_parsed.specs.StaticFault.{Around, around, content_fault, exported_names, payload_fault, payloads_error}
use Rattle.pc_parsed.specs.StaticFault.{static_fault}
use Rattle.pc_parsed.specs.Structure.{is_due, open_bodies, own_from, own_payloads, structure_fault}
use Rattle.pc_spec_reading.specs.Canonical.{canonical_item}
use Rattle.pc_spec_reading.specs.Item.{ExportOf, Item, Items, and_item, before, exports_in, no_items}
use Rattle.pc_spec_reading.specs.Nest.{Rest, after_component, after_end, after_items, after_payload, after_version, at_end}
use Rattle.pc_spec_reading.specs.Nest.{broken, counts_in, exposing, is_exposed, nested, opening, rest_of, root_of, whole}
use Rattle.pc_spec_reading.specs.Nest.{within}
use Rattle.pc_spec_reading.specs.Section as Section
use Rattle.pc_spec_reading.specs.Section.{items_of, module_of, modules_after, modules_of}
use Rattle.pc_local.specs.declared.item.LocalInitializer.{LocalInitializer}
use Rattle.pc_local.specs.Entries.{canon_local}
use Rattle.pc_local.proofs.EntryLemmas.{Agree, agree_none, agree_some, canon_agrees}
use Rattle.pc_local.proofs.PassLemmas.{no_error, no_fault}
use Rattle.pc_local.proofs.StandLemmas.{export_of, exports_cons, option_append}

-- what has no first part has neither part
pub or_none : {A : Type 0} (a b : Option A) → option_or a b ≡ None → (a ≡ None) × (b ≡ None)
or_none None b h = (refl, h)
or_none (Some x) b h = absurd (none-some x (sym h))

-- what isn't so has a fault
pub unless_none : (b : Bool) (f : StaticFault) → unless b f ≡ None → b ≡ true
unless_none true f h = refl
unless_none false f h = absurd (none-some f (sym h))

-- a list without a static fault has a sound table, and payloads without an error
pub static_parts : (t : TypeTable) (exposed : Option (List ℕ)) (ps : List Payload) → static_fault t exposed ps ≡ None
    → (table_fault t ≡ None) × (payloads_error t exposed [] ps ≡ None)
unfolding static_fault
static_parts t exposed ps h =
    let parts = or_none (option_map table_error (table_fault t)) (payloads_error t exposed [] ps) h in
    (by (table_fault t) parts.0, parts.1)
  where
    by : (o : Option (ℕ × EntryFault)) → option_map table_error o ≡ None → o ≡ None
    by None h = refl
    by (Some x) h = absurd (none-some (table_error x) (sym h))

-- the table is sound
pub table_sound : (t : TypeTable) (exposed : Option (List ℕ)) (ps : List Payload) → static_fault t exposed ps ≡ None
    → table_fault t ≡ None
table_sound t exposed ps h = (static_parts t exposed ps h).0

module _ (t : TypeTable) (exposed : Option (List ℕ)) where
  -- a payload without a fault, and what follows
  pub step : (passed : List Payload) (p : Payload) (ps : List Payload) → payloads_error t exposed passed (p ∷ ps) ≡ None
      → (content_fault t exposed (around passed) p ≡ None) × (payloads_error t exposed (p ∷ passed) ps ≡ None)
  step passed p ps h =
      let both =
      no_error _ (payload_fault t exposed (is_due passed) (around passed) p) (payloads_error t exposed (p ∷ passed) ps)
      h in
      let here =
      no_fault 0 (structure_fault (open_bodies passed) (is_due passed) p)
      (content_fault t exposed (around passed) p) both.0 in
      (here.1, both.1)

  -- a payload without a fault has a sound module, if it has one
  module_first : (a : Around) (p : Payload) (ms : List ModuleRecord) → content_fault t exposed a p ≡ None
      → list_all (is_sound t) ms ≡ true → list_all (is_sound t) (cons_option (module_of p) ms) ≡ true
  module_first a (payload.ModuleSection r ty) ms h later =
      true_and (is_sound t r) (list_all (is_sound t) ms)
      (unless_none (is_sound t r) fault.BadTable (no_fault 0 (unless (is_sound t r) fault.BadTable) None h).0) later
  module_first a (payload.Version e) ms h later = later
  module_first a payload.CoreTypeSection ms h later = later
  module_first a payload.CustomSection ms h later = later
  module_first a payload.ComponentStartSection ms h later = later
  module_first a payload.ComponentSection ms h later = later
  module_first a payload.End ms h later = later
  module_first a (payload.ComponentTypeSection es) ms h later = later
  module_first a (payload.ComponentImportSection es) ms h later = later
  module_first a (payload.ComponentCanonicalSection es) ms h later = later
  module_first a (payload.InstanceSection es) ms h later = later
  module_first a (payload.ComponentInstanceSection es) ms h later = later
  module_first a (payload.ComponentExportSection es) ms h later = later
  module_first a (payload.ComponentAliasSection es) ms h later = later

  -- modules of payloads without an error are sound
  payload_modules : (passed ps : List Payload) → payloads_error t exposed passed ps ≡ None
      → list_all (is_sound t) (modules_of ps) ≡ true
  payload_modules passed [] h = refl
  payload_modules passed (p ∷ ps) h =
      let parts = step passed p ps h in
      module_first (around passed) p (modules_of ps) parts.0 (payload_modules (p ∷ passed) ps parts.1)

-- each core module is sound
pub modules_sound : (t : TypeTable) (exposed : Option (List ℕ)) (ps : List Payload) → static_fault t exposed ps ≡ None
    → list_all (is_sound t) (modules_of ps) ≡ true
modules_sound t exposed ps h = payload_modules t exposed [] ps (static_parts t exposed ps h).1

-- a name without a fault stands nowhere before
name_none : (earlier : List (List ℕ)) (name : List ℕ) → name_fault earlier name ≡ None → has_name earlier name ≡ false
name_none earlier name h = by (has_name earlier name) h
  where
    by : (b : Bool) → (if b then Some fault.DefinedTwice else None) ≡ None → b ≡ false
    by true h = absurd (none-some fault.DefinedTwice (sym h))
    by false h = refl

-- texts compare alike from both sides
bytes_mirrored : (a b : List ℕ) → bytes_eq a b ≡ bytes_eq b a
bytes_mirrored a b =
    same_from_decides (bytes_eq a b) (bytes_eq b a) (bytes_eq-Decides a b)
    ((λ h. sym ((bytes_eq-Decides b a).0 h)), (λ h. (bytes_eq-Decides b a).1 (sym h)))

-- one more name that stands nowhere before
distinct_push : (names : List (List ℕ)) (name : List ℕ) → distinct_names names ≡ true → has_name names name ≡ false
    → distinct_names (names ++ name ∷ []) ≡ true
distinct_push [] name distinct new = refl
distinct_push (x ∷ xs) name distinct new =
    let apart = and_true (not (has_name xs x)) (distinct_names xs) distinct in
    let here = neither (bytes_eq name x) (has_name xs name) new in
    true_and (not (has_name (xs ++ name ∷ []) x)) (distinct_names (xs ++ name ∷ []))
    (rw (list_any-append (bytes_eq x) xs (name ∷ []), bytes_mirrored x name, here.0) (by (has_name xs x) apart.0))
    (distinct_push xs name apart.1 here.1)
  where
    neither : (a b : Bool) → (a || b) ≡ false → (a ≡ false) × (b ≡ false)
    neither true b h = absurd (true≢false h)
    neither false b h = (refl, h)

    by : (b : Bool) → not b ≡ true → not (b || (false || false)) ≡ true
    by true h = h
    by false h = refl

-- two tests in either order
either : (a b : Bool) → (a || b) ≡ (b || a)
either true true = refl
either true false = refl
either false true = refl
either false false = refl

-- names in front of and behind others
same_around : (added acc fwd : List (List ℕ)) → HaveSame acc fwd → HaveSame (added ++ acc) (fwd ++ added)
same_around added acc fwd same q =
    list_any-append (bytes_eq q) added acc ∙ ap (λ b. has_name added q || b) (same q)
    ∙ either (has_name added q) (has_name fwd q) ∙ sym (list_any-append (bytes_eq q) fwd added)

-- exports without a fault have names that stand nowhere before
exports_distinct : (acc fwd : List (List ℕ)) (n : ℕ) (es : List ExportEntry) → HaveSame acc fwd
    → distinct_names fwd ≡ true
    → exports_fault acc n es ≡ None → distinct_names (fwd ++ map export_name es) ≡ true
exports_distinct acc fwd n [] same distinct h = ap distinct_names (append-nil fwd) ∙ distinct
exports_distinct acc fwd n (e ∷ es) same distinct h =
    let name = export_name e in
    let both = no_fault n (export_fault acc e) (exports_fault (name ∷ acc) (n + 1) es) h in
    let named = or_none (value_fault (is_value_kind e.kind)) (name_fault acc name) both.0 in
    let new : has_name fwd name ≡ false = sym (same name) ∙ name_none acc name named.1 in
    ap distinct_names (sym (append_assoc fwd (name ∷ []) (map export_name es)))
    ∙ exports_distinct (name ∷ acc) (fwd ++ name ∷ []) (n + 1) es (same_around (name ∷ []) acc fwd same)
    (distinct_push fwd name distinct new) both.1

-- the names under which a body exports
abbrev pub names_in : Items → List (List ℕ)
names_in is = map (λ (e : ExportOf). e.name.name) (exports_in is)

-- the exports of items in front of others
exports_before : (items : List Item) (is : Items)
    → exports_in (before items is) ≡ filter_map export_of items ++ exports_in is
exports_before [] is = refl
exports_before (i ∷ items) is =
    exports_cons i (before items is) ∙ ap (cons_option (export_of i)) (exports_before items is)
    ∙ option_append (export_of i) (filter_map export_of items) (exports_in is)

-- types export nothing
types_export : (es : List TypeItem) → filter_map export_of (filter_map Section.type_item es) ≡ []
types_export [] = refl
types_export (type_.Resource id r d ∷ es) = types_export es
types_export (type_.Other ∷ es) = types_export es

-- nor do imports
imports_export : (es : List ImportItem) → filter_map export_of (map Section.import_item es) ≡ []
imports_export [] = refl
imports_export (e ∷ es) = imports_export es

-- nor do canonical functions without a fault
canons_export : (n : ℕ) (es : List CanonItem) → first_item canon_fault n es ≡ None
    → filter_map export_of (filter_map canonical_item es) ≡ []
canons_export n [] sound = refl
canons_export n (e ∷ es) sound =
    let both = no_fault n (canon_fault e) (first_item canon_fault (n + 1) es) sound in
    by (canon_local e) (canonical_item e) (canon_agrees e both.0) (canons_export (n + 1) es both.1)
  where
    by : (o : Option LocalInitializer) (p : Option Item) → Agree o p
        → filter_map export_of (filter_map canonical_item es) ≡ []
        → filter_map export_of (cons_option p (filter_map canonical_item es)) ≡ []
    by None None agree_none h = h
    by None (Some i) agree h = elim agree [ ]
    by (Some l) None agree h = elim agree [ ]
    by (Some l) (Some i) (agree_some same inner) h = (λ j. cons_option (inner.no_export j) (h j))

-- nor do core instances
instances_export : (es : List InstanceItem) → filter_map export_of (map Section.instance_item es) ≡ []
instances_export [] = refl
instances_export (instance.Instantiate m args ∷ es) = instances_export es
instances_export (instance.FromExports items ∷ es) = instances_export es

-- nor do component instances
component_instances_export : (es : List ComponentInstanceItem)
    → filter_map export_of (map Section.component_instance_item es) ≡ []
component_instances_export [] = refl
component_instances_export (component_instance.Instantiate c args ty ∷ es) = component_instances_export es
component_instances_export (component_instance.FromExports items ty ∷ es) = component_instances_export es

-- nor do aliases
aliases_export : (es : List AliasItem) → filter_map export_of (filter_map Section.alias_item es) ≡ []
aliases_export [] = refl
aliases_export (alias.InstanceExport k n name ∷ es) = aliases_export es
aliases_export (alias.CoreInstanceExport k n name ∷ es) = aliases_export es
aliases_export (alias.Outer outer.CoreModule c n ∷ es) = aliases_export es
aliases_export (alias.Outer outer.Component c n ∷ es) = aliases_export es
aliases_export (alias.Outer outer.Type_ c n ∷ es) = aliases_export es
aliases_export (alias.Outer outer.CoreType c n ∷ es) = aliases_export es

-- exports in front of a body add their names in front
names_exported : (es : List ExportEntry) (is : Items)
    → names_in (before (map Section.export_item es) is) ≡ map export_name es ++ names_in is
names_exported [] is = refl
names_exported (e ∷ es) is = ap (λ (l : List (List ℕ)). export_name e ∷ l) (names_exported es is)

-- the exports of a body don't depend on the exposed name
exports_exposing : (x : Option (List ℕ)) (is : Items) → exports_in (exposing x is) ≡ exports_in is
unfolding exposing
exports_exposing x no_items = refl
exports_exposing x (and_item (Item.import_item name e) is) = by (is_exposed x name) (exports_exposing x is)
  where
    by : (b : Bool) → exports_in (exposing x is) ≡ exports_in is
        → exports_in (and_item (if b then Item.intrinsics_import else Item.import_item name e) (exposing x is))
        ≡ exports_in is
    by true h = h
    by false h = h
exports_exposing x (and_item Item.intrinsics_import is) = exports_exposing x is
exports_exposing x (and_item (Item.resource_item a b c) is) = exports_exposing x is
exports_exposing x (and_item (Item.lift_item a b c d) is) = exports_exposing x is
exports_exposing x (and_item (Item.lower_item a b c d) is) = exports_exposing x is
exports_exposing x (and_item (Item.builtin_item a b c) is) = exports_exposing x is
exports_exposing x (and_item (Item.waitable_item a b c) is) = exports_exposing x is
exports_exposing x (and_item (Item.task_return_item a b c) is) = exports_exposing x is
exports_exposing x (and_item (Item.error_context_item a b c) is) = exports_exposing x is
exports_exposing x (and_item (Item.context_item a b c) is) = exports_exposing x is
exports_exposing x (and_item (Item.new_thread_item a b c) is) = exports_exposing x is
exports_exposing x (and_item (Item.module_item a b) is) = exports_exposing x is
exports_exposing x (and_item (Item.instantiate_module_item a b) is) = exports_exposing x is
exports_exposing x (and_item (Item.core_exports_item a) is) = exports_exposing x is
exports_exposing x (and_item (Item.component_item a) is) = exports_exposing x is
exports_exposing x (and_item (Item.instantiate_component_item a b c) is) = exports_exposing x is
exports_exposing x (and_item (Item.component_exports_item a b) is) = exports_exposing x is
exports_exposing x (and_item (Item.core_alias_item a b c) is) = exports_exposing x is
exports_exposing x (and_item (Item.alias_item a b c) is) = exports_exposing x is
exports_exposing x (and_item (Item.outer_item a b c) is) = exports_exposing x is
exports_exposing x (and_item (Item.export_item e) is) = ap (λ (l : List ExportOf). e ∷ l) (exports_exposing x is)

-- after these names, in whatever order, the rest of a body exports no name twice
abbrev pub ExportsApart : (own : List (List ℕ)) → Items → Type 0
ExportsApart own is =
    (fwd : List (List ℕ)) → HaveSame own fwd → distinct_names fwd ≡ true → distinct_names (fwd ++ names_in is) ≡ true

-- the same of each open body: the innermost one has exported its own names, and those around it theirs
abbrev pub AllApart : (own : List (List ℕ)) → (outer_names : ℕ → List (List ℕ)) → List Items → Type 0
AllApart own outer_names [] = ⊤
AllApart own outer_names (is ∷ outside) =
    ExportsApart own is × AllApart (outer_names 0) (λ (n : ℕ). outer_names (suc n)) outside

-- the rests of the open bodies, from the innermost out
abbrev pub bodies_left : Rest → List Items
bodies_left at_end = []
bodies_left (within is outside) = is ∷ outside
bodies_left (opening is outside) = is ∷ outside
bodies_left broken = []

-- the names that the innermost open body has exported
abbrev pub own_names : (passed : List Payload) → List (List ℕ)
own_names passed = flat_map exported_names (own_payloads passed)

-- the names that the bodies around it have exported
abbrev pub outer_names_of : (passed : List Payload) → ℕ → List (List ℕ)
outer_names_of passed n = flat_map exported_names (own_from (suc n) passed)

-- after payloads, what is left exports no name twice
abbrev pub LeftApart : (passed : List Payload) → Rest → Type 0
LeftApart passed r = AllApart (own_names passed) (outer_names_of passed) (bodies_left r)

-- a body that ends exports nothing more
none_apart : (own : List (List ℕ)) → ExportsApart own no_items
none_apart own fwd same distinct = ap distinct_names (append-nil fwd) ∙ distinct

module _ (own : List (List ℕ)) (names : ℕ → List (List ℕ)) where
  -- a body ends
  end_apart : (r : Rest) → AllApart (names 0) (λ (n : ℕ). names (suc n)) (bodies_left r)
      → AllApart own names (bodies_left (after_end r))
  end_apart at_end h = (none_apart own, tt)
  end_apart (within is outside) h = (none_apart own, h)
  end_apart (opening is outside) h = tt
  end_apart broken h = tt

  -- a body begins with its version
  version_apart : (e : Encoding) (r : Rest) → AllApart own names (bodies_left r)
      → AllApart own names (bodies_left (after_version e r))
  version_apart encoding.Component at_end h = tt
  version_apart encoding.Component (within is outside) h = h
  version_apart encoding.Component (opening is outside) h = tt
  version_apart encoding.Component broken h = tt
  version_apart encoding.Module r h = tt

  -- items that export nothing
  items_apart : (items : List Item) (r : Rest) → filter_map export_of items ≡ [] → AllApart own names (bodies_left r)
      → AllApart own names (bodies_left (after_items items r))
  items_apart items at_end none h = tt
  items_apart items (within is outside) none h = (
    subst (λ (l : List ExportOf). (fwd : List (List ℕ)) → HaveSame own fwd → distinct_names fwd ≡ true
        → distinct_names (fwd ++ map (λ (e : ExportOf). e.name.name) l) ≡ true)
        (sym (exports_before items is ∙ ap (λ (l : List ExportOf). l ++ exports_in is) none)) h.0,
    h.1,
  )
  items_apart items (opening is outside) none h = tt
  items_apart items broken none h = tt

  -- exports whose names stand nowhere before
  exports_apart : (es : List ExportEntry) (r : Rest) → exports_fault own 0 es ≡ None
      → AllApart (map export_name es ++ own) names (bodies_left r)
      → AllApart own names (bodies_left (after_items (map Section.export_item es) r))
  exports_apart es at_end sound h = tt
  exports_apart es (within is outside) sound h = (further, h.1)
    where
      further : ExportsApart own (before (map Section.export_item es) is)
      further fwd same distinct =
          let added = map export_name es in
          ap (λ (l : List (List ℕ)). distinct_names (fwd ++ l)) (names_exported es is)
          ∙ ap distinct_names (sym (append_assoc fwd added (names_in is)))
          ∙ h.0 (fwd ++ added) (same_around added own fwd same) (exports_distinct own fwd 0 es same distinct sound)
  exports_apart es (opening is outside) sound h = tt
  exports_apart es broken sound h = tt

-- a nested body begins: it has exported nothing
begin_apart : (names : ℕ → List (List ℕ)) (r : Rest) → AllApart [] names (bodies_left r)
    → AllApart (names 0) (λ (n : ℕ). names (suc n)) (bodies_left (after_component r))
begin_apart names at_end h = tt
begin_apart names (within is outside) h = tt
begin_apart names (opening body []) h = tt
begin_apart names (opening body (is ∷ outside)) h = h.1
begin_apart names broken h = tt

module _ (t : TypeTable) (exposed : Option (List ℕ)) where
  -- the exports of a payload without a fault, and of what follows, stay apart
  payload_apart : (m : ℕ) (passed : List Payload) (p : Payload) (r : Rest)
      → content_fault t exposed (around passed) p ≡ None → LeftApart (p ∷ passed) r
      → LeftApart passed (after_payload m p r)
  unfolding items_of
  payload_apart m passed payload.End r sound h = end_apart (own_names passed) (outer_names_of passed) r h
  payload_apart m passed (payload.Version e) r sound h =
      version_apart (own_names passed) (outer_names_of passed) e r h
  payload_apart m passed payload.ComponentSection r sound h =
      begin_apart (λ (n : ℕ). flat_map exported_names (own_from n passed)) r h
  payload_apart m passed payload.CoreTypeSection r sound h =
      items_apart (own_names passed) (outer_names_of passed) [] r refl h
  payload_apart m passed payload.CustomSection r sound h =
      items_apart (own_names passed) (outer_names_of passed) [] r refl h
  payload_apart m passed payload.ComponentStartSection r sound h =
      items_apart (own_names passed) (outer_names_of passed) [] r refl h
  payload_apart m passed (payload.ComponentTypeSection es) r sound h =
      items_apart (own_names passed) (outer_names_of passed) (filter_map Section.type_item es) r (types_export es) h
  payload_apart m passed (payload.ComponentImportSection es) r sound h =
      items_apart (own_names passed) (outer_names_of passed) (map Section.import_item es) r (imports_export es) h
  payload_apart m passed (payload.ComponentCanonicalSection es) r sound h =
      items_apart (own_names passed) (outer_names_of passed) (filter_map canonical_item es) r
      (canons_export 0 es sound) h
  payload_apart m passed (payload.ModuleSection record_ ty) r sound h =
      items_apart (own_names passed) (outer_names_of passed) (Item.module_item m ty ∷ []) r refl h
  payload_apart m passed (payload.InstanceSection es) r sound h =
      items_apart (own_names passed) (outer_names_of passed) (map Section.instance_item es) r (instances_export es) h
  payload_apart m passed (payload.ComponentInstanceSection es) r sound h =
      items_apart (own_names passed) (outer_names_of passed) (map Section.component_instance_item es) r
      (component_instances_export es) h
  payload_apart m passed (payload.ComponentExportSection es) r sound h =
      exports_apart (own_names passed) (outer_names_of passed) es r sound h
  payload_apart m passed (payload.ComponentAliasSection es) r sound h =
      items_apart (own_names passed) (outer_names_of passed) (filter_map Section.alias_item es) r (aliases_export es) h

  -- payloads without an error export no name twice in one body
  pub rest_apart : (m : ℕ) (passed ps : List Payload) → payloads_error t exposed passed ps ≡ None
      → LeftApart passed (rest_of m ps)
  unfolding rest_of
  rest_apart m passed [] h = tt
  rest_apart m passed (p ∷ ps) h =
      let parts = step t exposed passed p ps h in
      let later = rest_of (modules_after m p) ps in
      payload_apart m passed p later parts.0 (rest_apart (modules_after m p) (p ∷ passed) ps parts.1)

-- the root that is found exports what the whole body does
root_apart : (x : Option (List ℕ)) (r : Rest) (body : Items) → AllApart [] (λ (n : ℕ). []) (bodies_left r)
    → nested (whole r) x ≡ Some body → distinct_names (names_in body) ≡ true
root_apart x at_end body h is = absurd (none-some body is)
root_apart x (within b outside) body h is = absurd (none-some body is)
root_apart x (opening b (o ∷ outside)) body h is = absurd (none-some body is)
root_apart x broken body h is = absurd (none-some body is)
root_apart x (opening b []) body h is = by (counts_in 0 b) is
  where
    by : (c : Bool) → (if c then Some (exposing x b) else None) ≡ Some body → distinct_names (names_in body) ≡ true
    by true is =
        ap (λ (l : Items). distinct_names (names_in l)) (sym (same_Some (exposing x b) body is))
        ∙ ap (λ (l : List ExportOf). distinct_names (map (λ (e : ExportOf). e.name.name) l)) (exports_exposing x b)
        ∙ h.0 [] (λ q. refl) refl
    by false is = absurd (none-some body is)

-- the names that the root exports are distinct
pub root_names : (t : TypeTable) (exposed : Option (List ℕ)) (ps : List Payload) (body : Items)
    → static_fault t exposed ps ≡ None → root_of exposed ps ≡ Some body
    → distinct_names (map (λ (e : ExportOf). e.name.name) (exports_in body)) ≡ true
unfolding root_of
root_names t exposed ps body h is =
    root_apart exposed (rest_of 0 ps) body (rest_apart t exposed 0 [] ps (static_parts t exposed ps h).1) is
