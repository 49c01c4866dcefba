-- How far a list without a static fault has been gone through.
use Rattle.std.proofs.Common.{◌≡◌, ℕ, zero, suc, ◌+◌, ◌-◌, true, false, List, [], ◌∷◌, ◌++◌, length, map, Option, Some}
use Rattle.std.proofs.Common.{None, refl, sym, ap, ◌∙◌, subst, arith, add-one}
use Rattle.std.specs.Option.{option_map}
use Rattle.std.specs.List.{cons_option, filter_map}
use Rattle.std.proofs.lemmas.List.{append-nil, length-append}
use Rattle.std.proofs.lemmas.Option.{none-some}
use Rattle.pc_types.specs.declared.error.Error.{Error}
use Rattle.pc_types.specs.declared.error.Place.TheVariants as place
use Rattle.pc_types.specs.declared.module_record.ModuleRecord.{ModuleRecord}
use Rattle.pc_types.specs.declared.parsed.TypeTable.{TypeTable}
use Rattle.pc_parsed.specs.declared.fault.StaticFault.{StaticFault}
use Rattle.pc_parsed.specs.declared.payload.AliasItem.{AliasItem}
use Rattle.pc_parsed.specs.declared.payload.AliasItem.TheVariants as alias
use Rattle.pc_parsed.specs.declared.payload.ExportEntry.{ExportEntry}
use Rattle.pc_parsed.specs.declared.payload.ImportItem.{ImportItem}
use Rattle.pc_parsed.specs.declared.payload.OuterKind.TheVariants as outer
use Rattle.pc_parsed.specs.declared.payload.Payload.{Payload}
use Rattle.pc_parsed.specs.declared.payload.Payload.TheVariants as payload
use Rattle.pc_parsed.specs.ItemFaults.{fault_or}
use Rattle.pc_parsed.specs.StaticFault.{around, error_or, fault_error, payloads_error}
use Rattle.pc_parsed.specs.Structure.{is_due, is_opening, nesting, open_behind, open_bodies, stays}
use Rattle.pc_spec_reading.specs.Item.{Item, Items, bodies_in, component_item}
use Rattle.pc_spec_reading.specs.Item as Item
use Rattle.pc_spec_reading.specs.Nest as Nest
use Rattle.pc_spec_reading.specs.Nest.{Rest, after_items, after_payload, counts_in, exposing, rest_of, whole}
use Rattle.pc_spec_reading.specs.Section as Section
use Rattle.pc_spec_reading.specs.Section.{modules_after, modules_of}
use Rattle.pc_local.specs.declared.captured.Captured.{Captured}
use Rattle.pc_local.specs.declared.item.LocalInitializer.{LocalInitializer}
use Rattle.pc_local.specs.declared.item.LocalInitializer.TheVariants as local
use Rattle.pc_local.specs.declared.item.Translation.{Translation}
use Rattle.pc_local.specs.Captured as cap
use Rattle.pc_local.specs.Entries.{export_entry, export_local, import_local}
use Rattle.pc_local.specs.Open
use Rattle.pc_local.specs.Open.{State}
use Rattle.pc_local.specs.Plain.{plain_item}
use Rattle.pc_local.specs.Standing
use Rattle.pc_local.proofs.EndLemmas.{inner_ends}
use Rattle.pc_local.proofs.EntryLemmas.{AgreeAll, LevelStands, entries_shown, entries_stand, exports_shown}
use Rattle.pc_local.proofs.EntryLemmas.{exports_stand, expose, imports_stand, only}
use Rattle.pc_local.proofs.ReadLemmas.{Stage, beginning, inside_one, ended, bodies_shown, seen, seen_begun, seen_closed}
use Rattle.pc_local.proofs.ReadLemmas.{seen_ended, seen_items, shown}
use Rattle.pc_local.proofs.StateLemmas.{AroundStand, StateStands, around_more, around_none, begun_stands, more_stands}
use Rattle.pc_local.proofs.StateLemmas.{with_more}

-- where no error comes first, there is none here and none later
pub no_error : (n : ℕ) (f : Option (ℕ × StaticFault)) (later : Option Error) → error_or n f later ≡ None
    → (f ≡ None) × (later ≡ None)
no_error n None later h = (refl, h)
no_error n (Some f) later h = absurd (none-some (fault_error f.1 (place.Payload n f.0)) (sym h))

-- where no fault comes first, there is none here and none later
pub no_fault : (n : ℕ) (f : Option StaticFault) (later : Option (ℕ × StaticFault)) → fault_or n f later ≡ None
    → (f ≡ None) × (later ≡ None)
no_fault n None later h = (refl, h)
no_fault n (Some f) later h = absurd (none-some (n, f) (sym h))

-- where a pass stands, by the payloads before
abbrev pub Placed : Stage → List Payload → List (List Item) → Type 0
Placed beginning passed outside = (open_bodies passed ≡ suc (length outside)) × (is_due passed ≡ true)
Placed inside_one passed outside = (open_bodies passed ≡ suc (length outside)) × (is_due passed ≡ false)
Placed ended passed outside = (open_bodies passed ≡ 0) × (outside ≡ [])

-- what is read of a list
abbrev pub root_shown : Option (List ℕ) → List Payload → Option Items
root_shown x ps = option_map (exposing x) (whole (rest_of 0 ps))

-- a list has been gone through up to these payloads
pub record Passed (t : TypeTable) (x : Option (List ℕ)) (ps rest : List Payload) (s : State) : Type 0 where
  pub passed : List Payload
  pub stage : Stage
  pub outside : List (List Item)
  pub inside : List Item
  pub sound : payloads_error t x passed rest ≡ None
  pub placed : Placed stage passed outside
  pub reads : seen x stage outside inside (rest_of (length s.records) rest) ≡ root_shown x ps
  pub modules : s.records ++ modules_of rest ≡ modules_of ps
  pub stands : StateStands outside inside s

-- what is left of a list with a payload in front
pub rest_cons : (m : ℕ) (p : Payload) (rest : List Payload)
    → rest_of m (p ∷ rest) ≡ after_payload m p (rest_of (modules_after m p) rest)
unfolding rest_of
rest_cons m p rest = refl

-- a list with a last element isn't empty
not_empty : {A : Type 0} (xs : List A) (y : A) → xs ++ y ∷ [] ≡ [] → ⊥
not_empty xs y h =
    let longer = length-append xs (y ∷ []) in
    let none = ap (λ l. length l) h in
    omega (arith, longer, none)

-- nothing is captured in a root that has begun
none_captured : (k : Item.Lent) → cap.CapturesStand k ([] ∷ []) (cap.nothing ∷ [])
none_captured k = record {
  deep = refl;
  linked = record { root = refl; each = λ j. tt };
  used = λ j c n has. has_nothing j c n has;
}
  where
    has_nothing : {P : Type 0} (j c n : ℕ) → Standing.Has (cap.names_at (cap.nothing ∷ []) j) c n → P
    has_nothing zero c n has = absurd (none-some (Standing.name_of c n) has.1)
    has_nothing (suc j) c n has = absurd (none-some (Standing.name_of c n) has.1)

-- before the first payload all is still to be read
seen_first : (x : Option (List ℕ)) (r : Rest) → seen x beginning [] [] r ≡ option_map (exposing x) (whole r)
seen_first x Nest.at_end = refl
seen_first x (Nest.within is outer) = refl
seen_first x (Nest.opening is []) = refl
seen_first x (Nest.opening is (o ∷ outer)) = refl
seen_first x Nest.broken = refl

module _ (t : TypeTable) (x : Option (List ℕ)) (ps : List Payload) where
  -- nothing has been gone through
  pub passed_none : payloads_error t x [] ps ≡ None → Passed t x ps ps Open.first_state
  unfolding counts_in
  passed_none sound = record {
    passed = [];
    stage = beginning;
    outside = [];
    inside = [];
    sound = sound;
    placed = (refl, refl);
    reads = seen_first x (rest_of 0 ps);
    modules = refl;
    stands = record {
      around = around_none refl;
      part = record {
        modules = none_captured Item.a_module;
        components = none_captured Item.a_component;
        items = Standing.stand_none;
        counts = refl;
      };
      exports = refl;
      bodies = tt;
    };
  }

  -- the entries of a section, whatever their type
  pub section_next : {A : Type 0} (f : A → Option LocalInitializer) (g : A → Option Item) (es : List A)
      → AgreeAll f g es → (outside : List (List Item)) (s : State)
      → LevelStands s.ended (cap.level_names s.modules s.components (length outside)) (length outside)
      (only (filter_map f es)) (shown x outside (filter_map g es))
  section_next f g es agree [] s =
      subst (λ (l : List Item). LevelStands s.ended (cap.level_names s.modules s.components 0) 0
      (only (filter_map f es)) l) (sym (entries_shown x f g es agree))
      (entries_stand s.ended (cap.level_names s.modules s.components 0) 0 f g es agree)
  section_next f g es agree (l ∷ ls) s =
      entries_stand s.ended (cap.level_names s.modules s.components (length (l ∷ ls))) (length (l ∷ ls)) f g es agree

  -- items have no bodies inside them as they are shown, if they have none
  pub none_shown : (outside : List (List Item)) (items : List Item) → bodies_in (cap.so_far items) ≡ []
      → bodies_in (cap.so_far (shown x outside items)) ≡ []
  none_shown [] items none = bodies_shown x items ∙ none
  none_shown (l ∷ ls) items none = none

  -- no items are shown as none
  shown_none : (outside : List (List Item)) → shown x outside [] ≡ []
  shown_none [] = refl
  shown_none (l ∷ ls) = refl

  -- imports in a nested body are what they are
  imports_raw : (es : List ImportItem)
      → map (expose None) (map Section.import_item es) ≡ map Section.import_item es
  imports_raw [] = refl
  imports_raw (e ∷ es) = ap (λ (l : List Item). Section.import_item e ∷ l) (imports_raw es)

  -- nothing is exposed where a body stands around
  exposed_inside : (rest : List Translation) (b : Translation) → Open.exposed_in (rest ++ b ∷ []) x ≡ None
  exposed_inside [] b = refl
  exposed_inside (r ∷ rest) b = refl

  -- the imports of a section
  pub imports_next : (es : List ImportItem) (outside : List (List Item)) (bodies : List Translation)
      (ms cs : List Captured) (around : List Translation) (names : Standing.Names) (depth : ℕ)
      → AroundStand bodies ms cs around outside
      → LevelStands bodies names depth (only (map (import_local (Open.exposed_in around x)) es))
      (shown x outside (map Section.import_item es))
  imports_next es [] bodies ms cs around names depth (around_none is) =
      subst (λ (a : List Translation). LevelStands bodies names depth
      (only (map (import_local (Open.exposed_in a x)) es))
      (map (expose x) (map Section.import_item es))) (sym is) (imports_stand bodies names depth x es)
  imports_next es (l ∷ ls) bodies ms cs around names depth (around_more rest b is level further) =
      subst (λ (o : Option (List ℕ)). LevelStands bodies names depth (only (map (import_local o) es))
      (map Section.import_item es))
      (sym (ap (λ (a : List Translation). Open.exposed_in a x) is ∙ exposed_inside rest b))
      (subst (λ (items : List Item). LevelStands bodies names depth (only (map (import_local None) es)) items)
      (imports_raw es) (imports_stand bodies names depth None es))

  -- the exports of a section
  pub exports_next : (es : List ExportEntry) (outside : List (List Item)) (bodies : List Translation)
      (names : Standing.Names) (depth : ℕ)
      → LevelStands bodies names depth (record { initializers = map export_local es; exports = map export_entry es })
      (shown x outside (map Section.export_item es))
  exports_next es [] bodies names depth =
      subst (λ (items : List Item). LevelStands bodies names depth
      (record { initializers = map export_local es; exports = map export_entry es }) items)
      (sym (exports_shown x es)) (exports_stand bodies names depth es)
  exports_next es (l ∷ ls) bodies names depth = exports_stand bodies names depth es

  -- a core module
  pub module_next : (n ty : ℕ) (outside : List (List Item)) (bodies : List Translation) (names : Standing.Names)
      (depth : ℕ)
      → LevelStands bodies names depth (only (local.ModuleStatic (record { 0 = n }) ty ∷ []))
      (shown x outside (Item.module_item n ty ∷ []))
  unfolding counts_in plain_item
  module_next n ty [] bodies names depth = record {
    items = Standing.stand_more (Standing.stands_plain refl) Standing.stand_none;
    exports = refl;
    counts = refl;
  }
  module_next n ty (l ∷ ls) bodies names depth = record {
    items = Standing.stand_more (Standing.stands_plain refl) Standing.stand_none;
    exports = refl;
    counts = refl;
  }

  -- an alias is no import
  alias_shown : (a : AliasItem) (items : List Item) → map (expose x) items ≡ items
      → map (expose x) (cons_option (Section.alias_item a) items) ≡ cons_option (Section.alias_item a) items
  alias_shown (alias.InstanceExport k n name) items h = ap (λ (l : List Item). Item.alias_item k n name ∷ l) h
  alias_shown (alias.CoreInstanceExport k n name) items h =
      ap (λ (l : List Item). Item.core_alias_item k n name ∷ l) h
  alias_shown (alias.Outer outer.CoreModule c n) items h =
      ap (λ (l : List Item). Item.outer_item Item.a_module c n ∷ l) h
  alias_shown (alias.Outer outer.Component c n) items h =
      ap (λ (l : List Item). Item.outer_item Item.a_component c n ∷ l) h
  alias_shown (alias.Outer outer.Type_ c n) items h = h
  alias_shown (alias.Outer outer.CoreType c n) items h = h

  -- and none of several is
  pub aliases_shown : (es : List AliasItem) (outside : List (List Item))
      → shown x outside (filter_map Section.alias_item es) ≡ filter_map Section.alias_item es
  aliases_shown es (l ∷ ls) = refl
  aliases_shown [] [] = refl
  aliases_shown (a ∷ es) [] = alias_shown a (filter_map Section.alias_item es) (aliases_shown es [])

  module _ (p : Payload) (rest passed : List Payload) (s : State) (outside : List (List Item)) (inside : List Item)
      (sound : payloads_error t x (p ∷ passed) rest ≡ None)
      (reads : seen x inside_one outside inside (rest_of (length s.records) (p ∷ rest)) ≡ root_shown x ps)
      (modules : s.records ++ modules_of (p ∷ rest) ≡ modules_of ps)
      (opened : open_bodies passed ≡ suc (length outside)) (stands : StateStands outside inside s) where
    -- a payload has put items behind those of the innermost body
    pub items_next : (items : List Item) (new : State) → nesting p ≡ stays
        → ((r : Rest) → after_payload (length s.records) p r ≡ after_items items r)
        → modules_after (length s.records) p ≡ length new.records
        → s.records ++ modules_of (p ∷ rest) ≡ new.records ++ modules_of rest
        → StateStands outside (inside ++ shown x outside items) new → Passed t x ps rest new
    items_next items new stay step count more now_stands = record {
      passed = p ∷ passed;
      stage = inside_one;
      outside = outside;
      inside = inside ++ shown x outside items;
      sound = sound;
      placed = (ap (λ n. open_behind n (open_bodies passed)) stay ∙ opened, ap is_opening stay);
      reads =
          sym (seen_items x outside inside items (rest_of (length new.records) rest))
          ∙ ap (seen x inside_one outside inside)
          (sym (step (rest_of (length new.records) rest))
          ∙ ap (λ n. after_payload (length s.records) p (rest_of n rest)) (sym count)
          ∙ sym (rest_cons (length s.records) p rest))
          ∙ reads;
      modules = sym more ∙ modules;
      stands = now_stands;
    }

    -- items that stand by themselves
    pub plain_next : (items : List Item) (d : Translation) (new : State) → new ≡ with_more s d → nesting p ≡ stays
        → ((r : Rest) → after_payload (length s.records) p r ≡ after_items items r)
        → modules_after (length s.records) p ≡ length s.records → modules_of (p ∷ rest) ≡ modules_of rest
        → bodies_in (cap.so_far items) ≡ []
        → LevelStands s.ended (cap.level_names s.modules s.components (length outside)) (length outside) d
        (shown x outside items)
        → Passed t x ps rest new
    plain_next items d new is stay step count more none level =
        subst (λ (n : State). Passed t x ps rest n) (sym is)
        (items_next items (with_more s d) stay step count (ap (λ (rs : List ModuleRecord). s.records ++ rs) more)
        (more_stands outside inside (shown x outside items) s d level (none_shown outside items none) stands))

    -- no items
    pub idle_next : (new : State) → new ≡ s → nesting p ≡ stays
        → ((r : Rest) → after_payload (length s.records) p r ≡ after_items [] r)
        → modules_after (length s.records) p ≡ length s.records → modules_of (p ∷ rest) ≡ modules_of rest
        → Passed t x ps rest new
    idle_next new is stay step count more =
        subst (λ (n : State). Passed t x ps rest n) (sym is)
        (items_next [] s stay step count (ap (λ (rs : List ModuleRecord). s.records ++ rs) more)
        (subst (λ (l : List Item). StateStands outside l s)
        (sym (ap (λ (l : List Item). inside ++ l) (shown_none outside) ∙ append-nil inside)) stands))

  -- the innermost body ends
  pub end_next : (rest passed : List Payload) (s new : State) (outside : List (List Item)) (inside : List Item)
      → payloads_error t x (payload.End ∷ passed) rest ≡ None
      → seen x inside_one outside inside (rest_of (length s.records) (payload.End ∷ rest)) ≡ root_shown x ps
      → s.records ++ modules_of rest ≡ modules_of ps → open_bodies passed ≡ suc (length outside)
      → AroundStand s.ended s.modules s.components s.around outside
      → StateStands outside inside s → Open.Ends s new → Passed t x ps rest new
  end_next rest passed s new outside inside sound reads modules opened around stands
      (Open.ends_modules none records_same ended_same) =
      let deep = stands.part.modules.deep in
      let empty = ap (λ (l : List Captured). length l) none in
      absurd (omega (arith, deep, empty))
  end_next rest passed s new outside inside sound reads modules opened around stands
      (Open.ends_components none records_same ended_same) =
      let deep = stands.part.components.deep in
      let empty = ap (λ (l : List Captured). length l) none in
      absurd (omega (arith, deep, empty))
  end_next rest passed s new [] inside sound reads modules opened around stands (Open.ends_root none is) =
      subst (λ (n : State). Passed t x ps rest n) (sym is) (record {
        passed = payload.End ∷ passed;
        stage = ended;
        outside = [];
        inside = inside;
        sound = sound;
        placed = (ap (λ n. n - 1) opened, refl);
        reads =
            sym (seen_closed x inside (rest_of (length s.records) rest))
            ∙ ap (seen x inside_one [] inside) (sym (rest_cons (length s.records) payload.End rest)) ∙ reads;
        modules = modules;
        stands = stands;
      })
  end_next rest passed s new (l ∷ ls) inside sound reads modules opened (around_more r b is level further) stands
      (Open.ends_root none same) = absurd (not_empty r b (sym is ∙ none))
  end_next rest passed s new [] inside sound reads modules opened (around_none empty) stands
      (Open.ends_inner b m c is ms cs closes) = absurd (not_empty new.around b (sym is ∙ empty))
  end_next rest passed s new (l ∷ ls) inside sound reads modules opened around stands
      (Open.ends_inner b m c is ms cs closes) =
      record {
        passed = payload.End ∷ passed;
        stage = inside_one;
        outside = ls;
        inside = l ++ component_item (cap.so_far inside) ∷ [];
        sound = sound;
        placed = (ap (λ n. n - 1) opened ∙ one_less (length ls), refl);
        reads =
            sym (seen_ended x l ls inside (rest_of (length new.records) rest))
            ∙ ap (seen x inside_one (l ∷ ls) inside)
            (ap (λ (rs : List ModuleRecord). after_payload (length s.records) payload.End (rest_of (length rs) rest))
            closes.records
            ∙ sym (rest_cons (length s.records) payload.End rest))
            ∙ reads;
        modules = ap (λ (rs : List ModuleRecord). rs ++ modules_of rest) closes.records ∙ modules;
        stands = inner_ends l ls inside s new b m c is ms cs closes stands;
      }
    where
      one_less : (n : ℕ) → suc (suc n) - 1 ≡ suc n
      one_less n = omega arith

  -- a nested body begins
  pub begin_next : (rest passed : List Payload) (s : State) (outside : List (List Item)) (inside : List Item)
      → payloads_error t x (payload.ComponentSection ∷ passed) rest ≡ None
      → seen x inside_one outside inside (rest_of (length s.records) (payload.ComponentSection ∷ rest)) ≡ root_shown x
      ps
      → s.records ++ modules_of rest ≡ modules_of ps → open_bodies passed ≡ suc (length outside)
      → StateStands outside inside s → Passed t x ps rest (Open.begun s)
  begin_next rest passed s outside inside sound reads modules opened stands = record {
    passed = payload.ComponentSection ∷ passed;
    stage = beginning;
    outside = inside ∷ outside;
    inside = [];
    sound = sound;
    placed = (ap (λ n. n + 1) opened ∙ add-one (suc (length outside)), refl);
    reads =
        sym (seen_begun x outside inside (rest_of (length s.records) rest))
        ∙ ap (seen x inside_one outside inside) (sym (rest_cons (length s.records) payload.ComponentSection rest))
        ∙ reads;
    modules = modules;
    stands = begun_stands outside inside s stands;
  }
