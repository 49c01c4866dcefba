-- What a core instance has under a name: as an argument of a core module, and as a core item of the table.
use Rattle.std.proofs.Common.{◌≡◌, ℕ, List, [], ◌∷◌, ◌++◌, length, Result, Ok, Err, Some, refl, sym}
use Rattle.std.proofs.Common.{ap, subst, ◌∙◌}
use Rattle.std.specs.Prelude.{slice_get, IfOk, IfSome, None, Option, option_and_then}
use Rattle.std.proofs.lemmas.Option.{same_Some}
use Rattle.pc_entity.proofs.Growing.{slice_get-append_seam}
use Rattle.pc_entity.specs.declared.string_pool.Atom.{Atom}
use Rattle.pc_dfg.specs.declared.ids.InstanceId.{InstanceId}
use Rattle.pc_numbers.specs.declared.entity_index.EntityIndex.{EntityIndex}
use Rattle.pc_types.specs.declared.module_record.ModuleRecord.{ModuleRecord}
use Rattle.pc_types.specs.declared.parsed.CoreEntity.{CoreEntity}
use Rattle.pc_types.specs.declared.parsed.CoreKind.{CoreKind}
use Rattle.pc_types.specs.declared.parsed.TypeTable.{TypeTable}
use Rattle.pc_types_walk.specs.Names.{export_names}
use Rattle.pc_info.specs.declared.core_def.ExportItem.TheVariants as export
use Rattle.pc_spec_plan.specs.CoreValue.{CoreValue, exported, by_index, by_name}
use Rattle.pc_parsed.specs.Mark.{Mark}
use Rattle.pc_dfg.specs.declared.core_def.CoreDef.{CoreDef}
use Rattle.pc_dfg.specs.declared.core_def.CoreDef.TheVariants as def
use Rattle.pc_dfg.specs.declared.core_def.CoreExport.{CoreExport}
use Rattle.pc_dfg.specs.Means.{means_export}
use Rattle.pc_entity.specs.declared.NoMemory.{NoMemory}
use Rattle.pc_inline_names.specs.Both.{Both}
use Rattle.pc_inline_names.specs.Numbers.{IsNumber}
use Rattle.pc_inline_state.specs.declared.core_item.CoreItem.{CoreItem}
use Rattle.pc_inline_state.specs.declared.core_item.CoreItem.TheVariants as item
use Rattle.pc_inline_state.specs.declared.definition.CoreId.{CoreId}
use Rattle.pc_inline_state.specs.declared.error.ItemError.{ItemError}
use Rattle.pc_inline_state.specs.declared.entity_items.InstanceEntity.{InstanceEntity}
use Rattle.pc_inline_state.specs.declared.host_items.HostExport.{HostExport}
use Rattle.pc_inline_state.specs.declared.places.Places.{Places}
use Rattle.pc_inline_state.specs.declared.state.State.{State}
use Rattle.pc_inline_state.specs.Bags.{module_export}
use Rattle.pc_inline_state.specs.Found.{ArgumentStands, FoundThere, ItemFound, entity_found, known_found, named_found}
use Rattle.pc_inline_state.specs.Placed.{ArePlaced, IsEntityItem, IsHostItem}
use Rattle.pc_inline_state.specs.Stands.{CoreStands, ItemStands}
use Rattle.pc_inline_state.specs.Tables.{IsHostInstance, IsItem, Tables, is_entity, is_named, tables_of}
use Rattle.pc_inline_state.proofs.LookupLemmas.{name_at}
use Rattle.pc_inline_state.proofs.ZipLemmas.{both_there}

-- an entity of a core instance as a definition
abbrev pub entity_def : InstanceId → EntityIndex → CoreDef
entity_def i e = def.Export (record { instance = i; item = export.Index e })

-- an item of a core instance by its name as a definition
abbrev pub named_def : InstanceId → List ℕ → CoreDef
named_def i name = def.Export (record { instance = i; item = export.Name name })

-- exports that are one definition have one name
same_name : (a b : CoreExport EntityIndex) (x y : List ℕ) → def.Export a ≡ def.Export b → a.item ≡ export.Name x
    → b.item ≡ export.Name y → x ≡ y
same_name a b x y same of_a of_b = cc

module _ (ms : List ModuleRecord) (b : Tables) where
  -- an entity that was found is an argument
  pub entity_argument : (k : CoreKind) (i : InstanceId) (e : EntityIndex) (v : CoreValue Mark)
      → ItemFound ms b k (item.Entity i e) v → ArgumentStands ms b (entity_def i e) v
  entity_argument k i e v (entity_found is has) = record {
    kind = k;
    stands = record { numbered = exported i.0 (by_index e); means = means_export; is = refl };
    usable = is_entity is has;
  }

  -- and so is a core item that was found
  known_argument : (k : CoreKind) (n : CoreId) (d : CoreDef) (v : CoreValue Mark) → slice_get b.cores n.0 ≡ Some d
      → ItemFound ms b k (item.Known n) v → ArgumentStands ms b d v
  known_argument k n d v held (known_found h) =
      let same = same_Some h.definition d (sym h.held ∙ held) in
      record {
        kind = k;
        stands = subst (λ x. CoreStands b.types b.graph x v) same h.stands;
        usable = subst (λ x. IsItem ms b.graph k x) same h.usable;
      }

  -- a core item that was found stands under its number
  pub known_item : (k : CoreKind) (n : CoreId) (v : CoreValue Mark) → ItemFound ms b k (item.Known n) v
      → ItemStands ms b k n v
  known_item k n v (known_found h) = h

  -- an entity that was found is a core item of its kind
  entity_usable : (k : CoreKind) (i : InstanceId) (e : EntityIndex) (v : CoreValue Mark)
      → ItemFound ms b k (item.Entity i e) v → IsItem ms b.graph k (entity_def i e)
  entity_usable k i e v (entity_found is has) = is_entity is has

  -- a definition that is a copy of a core item of the table is the argument that was found there
  pub known_arguments : (r : Result CoreDef NoMemory) (n : CoreId) (x : CoreItem) (d : CoreDef) → x ≡ item.Known n
      → slice_get b.cores n.0 ≡ Some d → IfOk r (λ copy. copy ≡ d)
      → IfOk r (λ d. (k : CoreKind) (v : CoreValue Mark) → ItemFound ms b k x v → ArgumentStands ms b d v)
  known_arguments (Err e) n x d is held copied = tt
  known_arguments (Ok copy) n x d is held copied =
      λ k v found. subst (λ y. ArgumentStands ms b y v) (sym copied)
      (known_argument k n d v held (subst (λ y. ItemFound ms b k y v) is found))

  -- an item by its name that was found is an argument
  named_argument : (i : InstanceId) (n place : ℕ) (e x : List ℕ × CoreEntity) → module_export b.table n place ≡ Some e
      → module_export b.table n place ≡ Some x → IsHostInstance b.graph i
      → CoreStands b.types b.graph (named_def i e.0) (exported i.0 (by_name x.0))
  named_argument i n place e x at found host =
      subst (λ (y : List ℕ × CoreEntity). CoreStands b.types b.graph (named_def i y.0) (exported i.0 (by_name x.0)))
      (same_Some x e (sym found ∙ at))
      (record { numbered = exported i.0 (by_name x.0); means = means_export; is = refl })

  -- the same, and it is a core item of its kind
  named_usable : (k : CoreKind) (i : InstanceId) (n place : ℕ) (e : List ℕ × CoreEntity) (v : CoreValue Mark)
      → module_export b.table n place ≡ Some e → ItemFound ms b k (item.Named i n place) v
      → CoreStands b.types b.graph (named_def i e.0) v × IsItem ms b.graph k (named_def i e.0)
  named_usable k i n place e v at (named_found found is host) =
      (named_argument i n place e _ at found host, is_named host)

  -- an export of a host module that was found is there
  pub named_there : (t : TypeTable) (x : CoreItem) (i : InstanceId) (n place : ℕ) → b.table ≡ t
      → x ≡ item.Named i n place → FoundThere ms b x → (e : List ℕ × CoreEntity) × (module_export t n place ≡ Some e)
  named_there t x i n place table is there =
      let e = subst (λ y. FoundThere ms b y) is there in
      (e.0, subst (λ y. module_export y n place ≡ Some e.0) table e.1)

  -- the definition of an item by its name is the argument that was found there
  pub named_arguments : (r : Result CoreDef NoMemory) (t : TypeTable) (x : CoreItem) (i : InstanceId) (n place : ℕ)
      → b.table ≡ t → x ≡ item.Named i n place → FoundThere ms b x
      → IfOk r (λ d. (e : List ℕ × CoreEntity) → module_export t n place ≡ Some e → d ≡ named_def i e.0)
      → IfOk r (λ d. (k : CoreKind) (v : CoreValue Mark) → ItemFound ms b k x v → ArgumentStands ms b d v)
  named_arguments (Err e) t x i n place table is there made = tt
  named_arguments (Ok d) t x i n place table is there made =
      λ k v found. let e = subst (λ y. FoundThere ms b y) is there in
      let u = named_usable k i n place e.0 v e.1 (subst (λ y. ItemFound ms b k y v) is found) in
      subst (λ y. ArgumentStands ms b y v) (sym (made e.0 (subst (λ y. module_export y n place ≡ Some e.0) table e.1)))
      (record { kind = k; stands = u.0; usable = u.1 })

-- a core item that stands for an entity of a core instance is what was found there
pub entity_ids : (ms : List ModuleRecord) (old new : State) (r : Result CoreId ItemError) (x : CoreItem)
    (e : InstanceEntity) → x ≡ item.Entity e.instance e.entity
    → new ≡ record old { cores = new.cores; places = new.places } → IfOk r (IsEntityItem new e)
    → IfOk r (λ id. (k : CoreKind) (v : CoreValue Mark) → ItemFound ms (tables_of old) k x v
    → ItemStands ms (tables_of new) k id v)
entity_ids ms old new (Err f) x e is rest made = tt
entity_ids ms old new (Ok id) x e is rest made =
    λ k v found.
    let entity = subst (λ y. ItemFound ms (tables_of old) k y v) is found in
    subst (λ (st : State). ItemStands ms (tables_of st) k id v) (sym rest)
    (record {
      definition = entity_def e.instance e.entity;
      held = made;
      stands = (entity_argument ms (tables_of old) k e.instance e.entity v entity).stands;
      usable = entity_usable ms (tables_of old) k e.instance e.entity v entity;
    })

-- and a core item that stands for an export of a host module is what was found there
pub named_ids : (ms : List ModuleRecord) (old new : State) (r : Result CoreId ItemError) (t : TypeTable) (x : CoreItem)
    (e : HostExport) → old.table.now ≡ t → x ≡ item.Named e.instance e.entry e.place
    → new ≡ record old { cores = new.cores; places = new.places } → IfOk r (IsHostItem t ms new e)
    → IfOk r (λ id. (k : CoreKind) (v : CoreValue Mark) → ItemFound ms (tables_of old) k x v
    → ItemStands ms (tables_of new) k id v)
named_ids ms old new (Err f) t x e table is rest made = tt
named_ids ms old new (Ok id) t x e table is rest made =
    λ k v found.
    let u = named_usable ms (tables_of old) k e.instance e.entry e.place (made.name, made.entity) v
    (subst (λ y. module_export y e.entry e.place ≡ Some (made.name, made.entity)) (sym table) made.there)
    (subst (λ y. ItemFound ms (tables_of old) k y v) is found) in
    subst (λ (st : State). ItemStands ms (tables_of st) k id v) (sym rest)
    (record { definition = named_def e.instance made.name; held = made.held; stands = u.0; usable = u.1 })

-- a state whose core items alone changed is as it was but for them and for what is noted then
pub cores_rest : (old new : State) (cs : List CoreDef) (p : Places) → new ≡ record old { cores = cs }
    → record new { places = p } ≡ record old { cores = new.cores; places = p }
cores_rest old new cs p is i = record (is i) { cores = new.cores; places = p }

module _ (t : TypeTable) (ms : List ModuleRecord) where
  -- an export that is noted has the core item that is noted
  pub noted_item : (st : State) → ArePlaced t ms st → (e : HostExport) (o : Option CoreId) (id : CoreId)
      → IfSome o (λ n. (i : ℕ) × (slice_get st.places.host_items i ≡ Some (e, n))) → o ≡ Some id
      → IsHostItem t ms st e id
  noted_item st placed e o id found is =
      let at =
      subst (λ x. IfSome x (λ n. (i : ℕ) × (slice_get st.places.host_items i ≡ Some (e, n)))) is found in
      placed.host_items at.0 e id at.1

  -- and an entity that is noted has the one that is noted for it
  pub noted_entity : (st : State) → ArePlaced t ms st → (e : InstanceEntity) (o : Option CoreId) (id : CoreId)
      → IfSome o (λ n. (i : ℕ) × (slice_get st.places.entity_items i ≡ Some (e, n))) → o ≡ Some id
      → IsEntityItem st e id
  noted_entity st placed e o id found is =
      let at =
      subst (λ x. IfSome x (λ n. (i : ℕ) × (slice_get st.places.entity_items i ≡ Some (e, n)))) is found in
      placed.entity_items at.0 e id at.1

  -- a definition that goes to the end of the table is the core item of its export, whatever is noted
  pub host_item_made : (old new : State) (p : Places) (e : HostExport) (d : CoreDef) (id : CoreId)
      → old.names.now.table ≡ t → (x : List ℕ × CoreEntity) × (module_export t e.entry e.place ≡ Some x)
      → ((x : List ℕ × CoreEntity) → module_export old.names.now.table e.entry e.place ≡ Some x
      → d ≡ named_def e.instance x.0)
      → id.0 ≡ length old.cores → new ≡ record old { cores = old.cores ++ d ∷ [] }
      → IsHostItem t ms (record new { places = p }) e id
  host_item_made old new p e d id table there made at more = record {
    name = there.0.0;
    entity = there.0.1;
    there = there.1;
    held = ap (λ (st : State). slice_get st.cores id.0) more ∙ ap (slice_get (old.cores ++ d ∷ [])) at
        ∙ slice_get-append_seam old.cores d []
        ∙ ap Some (made there.0 (ap (λ (y : TypeTable). module_export y e.entry e.place) table ∙ there.1));
  }

  -- the number that an entry has for the name of one of its exports is that of the name of the core item
  pub item_number : (st : State) → st.names.now.table ≡ t → ArePlaced t ms st → (e : HostExport) (id : CoreId)
      → (i : ℕ) × (slice_get st.places.host_items i ≡ Some (e, id)) → (n : ℕ) → e.entry ≡ n → (o : Option Atom)
      → Both (λ name m. IsNumber st.names.now.texts m name)
      (option_and_then (λ x. slice_get (export_names x) e.place) (slice_get st.names.now.table.types n)) o
      → IfSome o (λ m. (i : InstanceId) (name : List ℕ) → slice_get st.cores id.0 ≡ Some (named_def i name)
      → IsNumber st.names.now.texts m name)
  item_number st table placed e id at n of_entry None numbered = tt
  item_number st table placed e id at n of_entry (Some m) numbered =
      λ i name held.
      let item = placed.host_items at.0 e id at.1 in
      let one_def = same_Some (named_def e.instance item.name) (named_def i name) (sym item.held ∙ held) in
      let same = same_name _ _ item.name name one_def refl refl in
      let there : module_export st.names.now.table n e.place ≡ Some (item.name, item.entity) =
      ap (λ (y : TypeTable). module_export y n e.place) table
      ∙ ap (λ k. module_export t k e.place) (sym of_entry) ∙ item.there in
      let named = name_at st.names.now.table n e.place (item.name, item.entity) there in
      let found = both_there (λ (x : List ℕ) k. IsNumber st.names.now.texts k x) _ (Some m) item.name numbered named in
      let one_number : found.0 ≡ m = same_Some found.0 m (sym found.1) in
      subst (λ (x : List ℕ). IsNumber st.names.now.texts m x) same
      (subst (λ k. IsNumber st.names.now.texts k item.name) one_number found.2)

-- and so is the definition of an entity
pub entity_item_made : (old new : State) (e : InstanceEntity) (d : CoreDef) (id : CoreId)
    → d ≡ entity_def e.instance e.entity → id.0 ≡ length old.cores
    → new ≡ record old { cores = old.cores ++ d ∷ [] } → IsEntityItem new e id
entity_item_made old new e d id is at more =
    ap (λ (st : State). slice_get st.cores id.0) more ∙ ap (slice_get (old.cores ++ d ∷ [])) at
    ∙ slice_get-append_seam old.cores d [] ∙ ap Some is
