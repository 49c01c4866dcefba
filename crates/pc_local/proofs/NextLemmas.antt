-- One payload further, and the end of the list.
use Rattle.std.proofs.Common.{◌≡◌, ℕ, suc, ◌+◌, Bool, true, false, List, [], ◌∷◌, ◌++◌, length, map, Option, Some, None}
use Rattle.std.proofs.Common.{refl, sym, ap, ◌∙◌, subst, arith, append_assoc, if◌then◌else◌, inl, inr}
use Rattle.std.specs.Prelude.{slice_get}
use Rattle.std.specs.Option.{option_map, option_or}
use Rattle.pc_types.specs.Table.{table_error, table_fault}
use Rattle.std.specs.List.{AllZip, filter_map}
use Rattle.std.proofs.lemmas.Bool.Decides.{eqb_tells}
use Rattle.std.proofs.lemmas.List.{append-nil, length-append}
use Rattle.std.proofs.lemmas.Option.{none-some, same_Some}
use Rattle.pc_types.specs.declared.error.Error.{Error}
use Rattle.pc_types.specs.declared.error.Error.TheVariants as error
use Rattle.pc_types.specs.declared.error.Place.TheVariants as place
use Rattle.pc_types.specs.declared.module_record.ModuleRecord.{ModuleRecord}
use Rattle.pc_types.specs.declared.parsed.TypeTable.{TypeTable}
use Rattle.pc_types.specs.declared.error.Unsupported.TheVariants as unsupported
use Rattle.pc_parsed.specs.declared.canon.CanonItem.{CanonItem}
use Rattle.pc_parsed.specs.declared.fault.StaticFault.TheVariants as fault
use Rattle.pc_parsed.specs.declared.payload.AliasItem.{AliasItem}
use Rattle.pc_parsed.specs.declared.payload.AliasItem.TheVariants as alias
use Rattle.pc_parsed.specs.declared.payload.ComponentInstanceItem.{ComponentInstanceItem}
use Rattle.pc_parsed.specs.declared.payload.Encoding.TheVariants as encoding
use Rattle.pc_parsed.specs.declared.payload.InstanceItem.{InstanceItem}
use Rattle.pc_parsed.specs.declared.payload.OuterKind.TheVariants as outer
use Rattle.pc_parsed.specs.declared.payload.Payload.{Payload}
use Rattle.pc_parsed.specs.declared.payload.Payload.TheVariants as payload
use Rattle.pc_parsed.specs.ItemFaults.{alias_fault, canon_fault, first_item}
use Rattle.pc_parsed.specs.StaticFault.{around, content_fault, end_error, payload_fault, payloads_error, static_fault}
use Rattle.pc_parsed.specs.Structure.{is_due, open_bodies, structure_fault, version_fault, version_of}
use Rattle.pc_spec_reading.specs.Canonical.{canonical_item}
use Rattle.pc_spec_reading.specs.Item as Item
use Rattle.pc_spec_reading.specs.Item.{Item, Items}
use Rattle.pc_spec_reading.specs.Nest.{counts_in, exposing, nested, rest_of, root_of, whole}
use Rattle.pc_spec_reading.specs.Section as Section
use Rattle.pc_spec_reading.specs.Section.{items_of, modules_of, named_item}
use Rattle.pc_local.specs.declared.item.LocalInitializer.TheVariants as local
use Rattle.pc_local.specs.declared.item.Translation.{Translation}
use Rattle.pc_local.specs.Captured as cap
use Rattle.pc_local.specs.Entries.{canon_local, component_instance_local, export_entry, export_local, import_local}
use Rattle.pc_local.specs.Entries.{instance_local, type_local}
use Rattle.pc_local.specs.Open
use Rattle.pc_local.specs.Open.{State}
use Rattle.pc_local.specs.Program.{ProgramStands}
use Rattle.pc_local.specs.Standing
use Rattle.pc_local.proofs.EntryLemmas.{AgreeAll, LevelStands, agree_all, all_kept, canon_agrees}
use Rattle.pc_local.proofs.EntryLemmas.{component_instance_agrees, entries_no_bodies, exports_no_bodies}
use Rattle.pc_local.proofs.EntryLemmas.{imports_no_bodies, instance_agrees, only, type_agrees}
use Rattle.pc_local.proofs.PassLemmas.{Passed, Placed, aliases_shown, begin_next, end_next, exports_next, idle_next}
use Rattle.pc_local.proofs.PassLemmas.{imports_next, items_next, module_next, no_error, no_fault, none_shown}
use Rattle.pc_local.proofs.PassLemmas.{plain_next, rest_cons, root_shown, section_next}
use Rattle.pc_local.proofs.ReadLemmas.{Stage, beginning, inside_one, ended, counts_exposing, seen, seen_version, shown}
use Rattle.pc_local.proofs.StandLemmas.{exports_append, items_kept}
use Rattle.pc_local.proofs.StateLemmas.{AroundStand, StateStands, around_kept, bodies_at, bodies_more, items_with_more}
use Rattle.pc_local.proofs.StateLemmas.{more_stands}

-- aliases export nothing
aliases_export : (es : List AliasItem)
    → Item.exports_in (cap.so_far (filter_map Section.alias_item es)) ≡ []
aliases_export [] = refl
aliases_export (alias.InstanceExport k n name ∷ es) = aliases_export es
aliases_export (alias.CoreInstanceExport k n name ∷ es) = aliases_export es
aliases_export (alias.Outer outer.CoreModule c n ∷ es) = aliases_export es
aliases_export (alias.Outer outer.Component c n ∷ es) = aliases_export es
aliases_export (alias.Outer outer.Type_ c n ∷ es) = aliases_export es
aliases_export (alias.Outer outer.CoreType c n ∷ es) = aliases_export es

-- no bodies stand inside aliases
aliases_no_bodies : (es : List AliasItem) → Item.bodies_in (cap.so_far (filter_map Section.alias_item es)) ≡ []
aliases_no_bodies [] = refl
aliases_no_bodies (alias.InstanceExport k n name ∷ es) = aliases_no_bodies es
aliases_no_bodies (alias.CoreInstanceExport k n name ∷ es) = aliases_no_bodies es
aliases_no_bodies (alias.Outer outer.CoreModule c n ∷ es) = aliases_no_bodies es
aliases_no_bodies (alias.Outer outer.Component c n ∷ es) = aliases_no_bodies es
aliases_no_bodies (alias.Outer outer.Type_ c n ∷ es) = aliases_no_bodies es
aliases_no_bodies (alias.Outer outer.CoreType c n ∷ es) = aliases_no_bodies es

-- canonical functions without a fault agree
canons_agree : (n : ℕ) (es : List CanonItem) → first_item canon_fault n es ≡ None
    → AgreeAll canon_local canonical_item es
canons_agree n [] sound = tt
canons_agree n (e ∷ es) sound =
    let both = no_fault n (canon_fault e) (first_item canon_fault (n + 1) es) sound in
    (canon_agrees e both.0, canons_agree (n + 1) es both.1)

-- aliases in the innermost body
alias_stands : (outside : List (List Item)) (inside : List Item) (es : List AliasItem) (s new : State)
    → Open.Aliased es s new → first_item (alias_fault (suc (length outside))) 0 es ≡ None
    → StateStands outside inside s → StateStands outside (inside ++ filter_map Section.alias_item es) new
alias_stands outside inside es s new a sound h =
    let more = filter_map Section.alias_item es in
    let goes = a.aliases 0 s.ended outside inside sound h.part in
    record {
      around =
          subst (λ (ts : List Translation). AroundStand ts new.modules new.components new.around outside) (sym a.ended)
          (subst (λ (ts : List Translation). AroundStand s.ended new.modules new.components ts outside) (sym a.around)
          (around_kept s.ended s.ended s.modules s.components new.modules new.components s.around outside
          (λ i y is. is)
          (λ j below. record { modules = goes.1.modules j; components = goes.1.components j }) h.around));
      part =
          subst (λ (ts : List Translation). cap.PartStands ts outside (inside ++ more)
          (cap.part new.body.initializers new.modules new.components)) (sym a.ended) goes.0;
      exports =
          ap (map named_item) a.exports ∙ h.exports
          ∙ sym (append-nil (Item.exports_in (cap.so_far inside)))
          ∙ ap (λ (l : List Item.ExportOf). Item.exports_in (cap.so_far inside) ++ l) (sym (aliases_export es))
          ∙ sym (exports_append inside more);
      bodies =
          subst (λ (ts : List Translation). AllZip (Standing.ComponentStands ts) ts
          (bodies_at ((inside ++ more) ∷ outside))) (sym a.ended)
          (bodies_more outside inside more s.ended (aliases_no_bodies es) h.bodies);
    }

-- a payload without a fault stands where it may
no_version : (open_count n : ℕ) (due b : Bool) (p : Payload) → structure_fault open_count due p ≡ None
    → open_count ≡ suc n → due ≡ b → version_fault b (version_of p) ≡ None
no_version open_count n due b p sound opened is_b =
    sym (λ i. structure_fault (opened i) (is_b i) p) ∙ sound

module _ (t : TypeTable) (x : Option (List ℕ)) (ps : List Payload) where
  -- a payload inside a body
  inside_next : (p : Payload) (rest passed : List Payload) (s new : State) (outside : List (List Item))
      (inside : List Item) → payload_fault t x (is_due passed) (around passed) p ≡ None
      → payloads_error t x (p ∷ passed) rest ≡ None
      → seen x inside_one outside inside (rest_of (length s.records) (p ∷ rest)) ≡ root_shown x ps
      → s.records ++ modules_of (p ∷ rest) ≡ modules_of ps → open_bodies passed ≡ suc (length outside)
      → is_due passed ≡ false → StateStands outside inside s → Open.Goes x s p new → Passed t x ps rest new
  unfolding items_of
  inside_next (payload.Version e) rest passed s new outside inside here sound reads modules opened due stands go =
      let p = payload.Version e in
      let structure = (no_fault 0 (structure_fault (open_bodies passed) (is_due passed) p)
      (content_fault t x (around passed) p) here).0 in
      absurd (none-some fault.Malformed
      (sym (no_version (open_bodies passed) (length outside) (is_due passed) false p structure opened due)))
  inside_next payload.CoreTypeSection rest passed s new outside inside here sound reads modules opened due stands go =
      idle_next t x ps payload.CoreTypeSection rest passed s outside inside sound reads modules opened stands new go
      refl (λ r. refl) refl refl
  inside_next payload.CustomSection rest passed s new outside inside here sound reads modules opened due stands go =
      idle_next t x ps payload.CustomSection rest passed s outside inside sound reads modules opened stands new go refl
      (λ r. refl) refl refl
  inside_next payload.ComponentStartSection rest passed s new outside inside here sound reads modules opened due stands
      go =
      idle_next t x ps payload.ComponentStartSection rest passed s outside inside sound reads modules opened stands new
      go refl (λ r. refl) refl refl
  inside_next payload.ComponentSection rest passed s new outside inside here sound reads modules opened due stands go =
      subst (λ (n : State). Passed t x ps rest n) (sym go)
      (begin_next t x ps rest passed s outside inside sound reads modules opened stands)
  inside_next payload.End rest passed s new outside inside here sound reads modules opened due stands go =
      end_next t x ps rest passed s new outside inside sound reads modules opened stands.around stands go
  inside_next (payload.ComponentTypeSection es) rest passed s new outside inside here sound reads modules opened due
      stands go =
      plain_next t x ps (payload.ComponentTypeSection es) rest passed s outside inside sound reads modules opened stands
      (filter_map Section.type_item es) (only (filter_map type_local es)) new
      (go ∙ sym (items_with_more s (filter_map type_local es))) refl (λ r. refl) refl refl
      (entries_no_bodies type_local Section.type_item es (agree_all type_local Section.type_item type_agrees es))
      (section_next t x ps type_local Section.type_item es (agree_all type_local Section.type_item type_agrees es)
      outside s)
  inside_next (payload.ComponentImportSection es) rest passed s new outside inside here sound reads modules opened due
      stands go =
      plain_next t x ps (payload.ComponentImportSection es) rest passed s outside inside sound reads modules opened
      stands (map Section.import_item es) (only (map (import_local (Open.exposed_in s.around x)) es)) new
      (go ∙ sym (items_with_more s (map (import_local (Open.exposed_in s.around x)) es))) refl (λ r. refl) refl refl
      (imports_no_bodies es)
      (imports_next t x ps es outside s.ended s.modules s.components s.around
      (cap.level_names s.modules s.components (length outside)) (length outside) stands.around)
  inside_next (payload.ComponentCanonicalSection es) rest passed s new outside inside here sound reads modules opened
      due stands go =
      let p = payload.ComponentCanonicalSection es in
      let content = (no_fault 0 (structure_fault (open_bodies passed) (is_due passed) p)
      (content_fault t x (around passed) p) here).1 in
      let agree = canons_agree 0 es content in
      plain_next t x ps p rest passed s outside inside sound reads modules opened
      stands (filter_map canonical_item es) (only (filter_map canon_local es)) new
      (go ∙ sym (items_with_more s (filter_map canon_local es))) refl (λ r. refl) refl refl
      (entries_no_bodies canon_local canonical_item es agree)
      (section_next t x ps canon_local canonical_item es agree outside s)
  inside_next (payload.ModuleSection r ty) rest passed s new outside inside here sound reads modules opened due stands
      go =
      let p = payload.ModuleSection r ty in
      let n = length s.records in
      let item = Item.module_item n ty ∷ [] in
      let ls = local.ModuleStatic (record { 0 = n }) ty ∷ [] in
      let names = cap.level_names s.modules s.components (length outside) in
      let w =
      subst (λ (m : State). StateStands outside (inside ++ shown x outside item) m) (items_with_more s ls)
      (more_stands outside inside (shown x outside item) s (only ls)
      (module_next t x ps n ty outside s.ended names (length outside)) (none_shown t x ps outside item refl) stands) in
      subst (λ (m : State). Passed t x ps rest m) (sym go)
      (items_next t x ps p rest passed s outside inside sound reads modules opened stands item
      (record s {
        body = record { initializers = s.body.initializers ++ ls; exports = s.body.exports };
        records = s.records ++ r ∷ [];
      }) refl (λ q. refl) (sym (length-append s.records (r ∷ [])))
      (sym (append_assoc s.records (r ∷ []) (modules_of rest)))
      (record { around = w.around; part = w.part; exports = w.exports; bodies = w.bodies }))
  inside_next (payload.InstanceSection es) rest passed s new outside inside here sound reads modules opened due stands
      go =
      let names = cap.level_names s.modules s.components (length outside) in
      let item = λ (e : InstanceItem). Some (Section.instance_item e) in
      let agree = agree_all instance_local item instance_agrees es in
      plain_next t x ps (payload.InstanceSection es) rest passed s outside inside sound reads modules opened stands
      (map Section.instance_item es) (only (filter_map instance_local es)) new
      (go ∙ sym (items_with_more s (filter_map instance_local es))) refl (λ r. refl) refl refl
      (subst (λ (items : List Item). Item.bodies_in (cap.so_far items) ≡ []) (all_kept Section.instance_item es)
      (entries_no_bodies instance_local item es agree))
      (subst (λ (items : List Item). LevelStands s.ended names (length outside)
      (only (filter_map instance_local es)) (shown x outside items)) (all_kept Section.instance_item es)
      (section_next t x ps instance_local item es agree outside s))
  inside_next (payload.ComponentInstanceSection es) rest passed s new outside inside here sound reads modules opened due
      stands go =
      let names = cap.level_names s.modules s.components (length outside) in
      let item = λ (e : ComponentInstanceItem). Some (Section.component_instance_item e) in
      let agree = agree_all component_instance_local item component_instance_agrees es in
      plain_next t x ps (payload.ComponentInstanceSection es) rest passed s outside inside sound reads modules opened
      stands (map Section.component_instance_item es) (only (filter_map component_instance_local es)) new
      (go ∙ sym (items_with_more s (filter_map component_instance_local es))) refl (λ r. refl) refl refl
      (subst (λ (items : List Item). Item.bodies_in (cap.so_far items) ≡ [])
      (all_kept Section.component_instance_item es)
      (entries_no_bodies component_instance_local item es agree))
      (subst (λ (items : List Item). LevelStands s.ended names (length outside)
      (only (filter_map component_instance_local es)) (shown x outside items))
      (all_kept Section.component_instance_item es)
      (section_next t x ps component_instance_local item es agree outside s))
  inside_next (payload.ComponentExportSection es) rest passed s new outside inside here sound reads modules opened due
      stands go =
      plain_next t x ps (payload.ComponentExportSection es) rest passed s outside inside sound reads modules opened
      stands (map Section.export_item es)
      (record { initializers = map export_local es; exports = map export_entry es }) new go refl (λ r. refl) refl refl
      (exports_no_bodies es)
      (exports_next t x ps es outside s.ended (cap.level_names s.modules s.components (length outside))
      (length outside))
  inside_next (payload.ComponentAliasSection es) rest passed s new outside inside here sound reads modules opened due
      stands go =
      let p = payload.ComponentAliasSection es in
      let content = (no_fault 0 (structure_fault (open_bodies passed) (is_due passed) p)
      (content_fault t x (around passed) p) here).1 in
      let within : first_item (alias_fault (suc (length outside))) 0 es ≡ None =
      sym (ap (λ n. first_item (alias_fault n) 0 es) opened) ∙ content in
      items_next t x ps p rest passed s outside inside sound reads modules opened stands
      (filter_map Section.alias_item es) new refl (λ r. refl)
      (ap (λ (rs : List ModuleRecord). length rs) (sym go.records))
      (ap (λ (rs : List ModuleRecord). rs ++ modules_of rest) (sym go.records))
      (subst (λ (items : List Item). StateStands outside (inside ++ items) new) (sym (aliases_shown t x ps es outside))
      (alias_stands outside inside es s new go within stands))

  -- the payload with which a body begins
  version_next : (p : Payload) (rest passed : List Payload) (s new : State) (outside : List (List Item))
      (inside : List Item) → version_fault true (version_of p) ≡ None → payloads_error t x (p ∷ passed) rest ≡ None
      → seen x beginning outside inside (rest_of (length s.records) (p ∷ rest)) ≡ root_shown x ps
      → s.records ++ modules_of (p ∷ rest) ≡ modules_of ps → open_bodies passed ≡ suc (length outside)
      → StateStands outside inside s → Open.Goes x s p new → Passed t x ps rest new
  version_next (payload.Version encoding.Component) rest passed s new outside inside version sound reads modules opened
      stands go =
      let p = payload.Version encoding.Component in
      subst (λ (n : State). Passed t x ps rest n) (sym go) (record {
        passed = p ∷ passed;
        stage = inside_one;
        outside = outside;
        inside = inside;
        sound = sound;
        placed = (opened, refl);
        reads =
            sym (seen_version x outside inside (rest_of (length s.records) rest))
            ∙ ap (seen x beginning outside inside) (sym (rest_cons (length s.records) p rest)) ∙ reads;
        modules = modules;
        stands = stands;
      })
  version_next (payload.Version encoding.Module) rest passed s new outside inside version sound reads modules opened
      stands go = absurd (none-some (fault.Unsupported unsupported.Module) (sym version))
  version_next payload.CoreTypeSection rest passed s new outside inside version sound reads modules opened stands go =
      absurd (none-some fault.Malformed (sym version))
  version_next payload.CustomSection rest passed s new outside inside version sound reads modules opened stands go =
      absurd (none-some fault.Malformed (sym version))
  version_next payload.ComponentStartSection rest passed s new outside inside version sound reads modules opened stands
      go =
      absurd (none-some fault.Malformed (sym version))
  version_next payload.ComponentSection rest passed s new outside inside version sound reads modules opened stands go =
      absurd (none-some fault.Malformed (sym version))
  version_next payload.End rest passed s new outside inside version sound reads modules opened stands go =
      absurd (none-some fault.Malformed (sym version))
  version_next (payload.ComponentTypeSection es) rest passed s new outside inside version sound reads modules opened
      stands go =
      absurd (none-some fault.Malformed (sym version))
  version_next (payload.ComponentImportSection es) rest passed s new outside inside version sound reads modules opened
      stands go =
      absurd (none-some fault.Malformed (sym version))
  version_next (payload.ComponentCanonicalSection es) rest passed s new outside inside version sound reads modules
      opened stands go =
      absurd (none-some fault.Malformed (sym version))
  version_next (payload.ModuleSection r ty) rest passed s new outside inside version sound reads modules opened stands
      go =
      absurd (none-some fault.Malformed (sym version))
  version_next (payload.InstanceSection es) rest passed s new outside inside version sound reads modules opened stands
      go =
      absurd (none-some fault.Malformed (sym version))
  version_next (payload.ComponentInstanceSection es) rest passed s new outside inside version sound reads modules opened
      stands go =
      absurd (none-some fault.Malformed (sym version))
  version_next (payload.ComponentExportSection es) rest passed s new outside inside version sound reads modules opened
      stands go =
      absurd (none-some fault.Malformed (sym version))
  version_next (payload.ComponentAliasSection es) rest passed s new outside inside version sound reads modules opened
      stands go =
      absurd (none-some fault.Malformed (sym version))

  -- a payload, wherever the pass stands
  stage_next : (stage : Stage) (p : Payload) (rest passed : List Payload) (s new : State) (outside : List (List Item))
      (inside : List Item) → payloads_error t x passed (p ∷ rest) ≡ None → Placed stage passed outside
      → seen x stage outside inside (rest_of (length s.records) (p ∷ rest)) ≡ root_shown x ps
      → s.records ++ modules_of (p ∷ rest) ≡ modules_of ps → StateStands outside inside s → Open.Goes x s p new
      → Passed t x ps rest new
  stage_next beginning p rest passed s new outside inside sound placed reads modules stands go =
      let both = no_error (length passed) (payload_fault t x (is_due passed) (around passed) p)
      (payloads_error t x (p ∷ passed) rest) sound in
      let structure = (no_fault 0 (structure_fault (open_bodies passed) (is_due passed) p)
      (content_fault t x (around passed) p) both.0).0 in
      version_next p rest passed s new outside inside
      (no_version (open_bodies passed) (length outside) (is_due passed) true p structure placed.0 placed.1) both.1 reads
      modules placed.0 stands go
  stage_next inside_one p rest passed s new outside inside sound placed reads modules stands go =
      let both = no_error (length passed) (payload_fault t x (is_due passed) (around passed) p)
      (payloads_error t x (p ∷ passed) rest) sound in
      inside_next p rest passed s new outside inside both.0 both.1 reads modules placed.0 placed.1 stands go
  stage_next ended p rest passed s new outside inside sound placed reads modules stands go =
      let both = no_error (length passed) (payload_fault t x (is_due passed) (around passed) p)
      (payloads_error t x (p ∷ passed) rest) sound in
      let structure = (no_fault 0 (structure_fault (open_bodies passed) (is_due passed) p)
      (content_fault t x (around passed) p) both.0).0 in
      absurd (none-some fault.Malformed
      (sym (sym (ap (λ n. structure_fault n (is_due passed) p) placed.0) ∙ structure)))

  -- one payload further
  pub passed_next : (p : Payload) (rest : List Payload) (s new : State) → Passed t x ps (p ∷ rest) s
      → Open.Goes x s p new → Passed t x ps rest new
  passed_next p rest s new h go =
      stage_next h.stage p rest h.passed s new h.outside h.inside h.sound h.placed h.reads h.modules h.stands go

  -- what is read of the list is the body that is shown
  root_is : (found : Option Items) (body : Items) → Some body ≡ option_map (exposing x) found
      → counts_in 0 body ≡ true → nested found x ≡ Some body
  root_is None body is counts = absurd (none-some body (sym is))
  root_is (Some b) body is counts =
      let same = same_Some body (exposing x b) is in
      let counted : counts_in 0 b ≡ true = sym (counts_exposing x 0 b) ∙ ap (counts_in 0) (sym same) ∙ counts in
      ap (λ (c : Bool). if c then Some (exposing x b) else None) counted ∙ ap Some (sym same)

  -- an open body is no end of a list
  not_ended : (open_count n k : ℕ) → open_count ≡ suc n → end_error open_count k ≡ None → ⊥
  not_ended open_count n k opened sound = elim (eqb_tells open_count 0) as (λ _. ⊥) [
    | inl closed ↦ (let is = closed.1 in omega (arith, is, opened))
    | inr apart ↦ none-some (error.Malformed (place.Payload k 0))
        (sym (sym (ap (λ (b : Bool). if b then None else Some (error.Malformed (place.Payload k 0))) apart.0) ∙ sound))
  ]

  -- the root has ended
  root_stands : (inside : List Item) (s : State) → seen x ended [] inside
      (rest_of (length s.records) []) ≡ root_shown x ps
      → s.records ++ modules_of [] ≡ modules_of ps → StateStands [] inside s
      → ProgramStands x ps (record { root = s.body; modules = s.records; components = s.ended })
  unfolding rest_of root_of
  root_stands inside s reads modules stands = record {
    body = cap.so_far inside;
    nests = root_is (whole (rest_of 0 ps)) (cap.so_far inside) reads stands.part.counts;
    root = record {
      items =
          items_kept s.ended s.ended (λ i y is. is) Standing.no_names
          (record {
            modules = λ i y is. subst (λ (l : List (ℕ × ℕ)). slice_get l i ≡ Some y) stands.part.modules.linked.root is;
            components = λ i y is.
                subst (λ (l : List (ℕ × ℕ)). slice_get l i ≡ Some y) stands.part.components.linked.root is;
          })
          stands.part.items;
      exports = stands.exports;
    };
    components = stands.bodies;
    modules = sym (append-nil s.records) ∙ modules;
  }

  -- the end of the list
  stage_all : (stage : Stage) (passed : List Payload) (outside : List (List Item)) (inside : List Item) (s : State)
      → payloads_error t x passed [] ≡ None → Placed stage passed outside
      → seen x stage outside inside (rest_of (length s.records) []) ≡ root_shown x ps
      → s.records ++ modules_of [] ≡ modules_of ps → StateStands outside inside s
      → ProgramStands x ps (record { root = s.body; modules = s.records; components = s.ended })
  stage_all beginning passed outside inside s sound placed reads modules stands =
      absurd (not_ended (open_bodies passed) (length outside) (length passed) placed.0 sound)
  stage_all inside_one passed outside inside s sound placed reads modules stands =
      absurd (not_ended (open_bodies passed) (length outside) (length passed) placed.0 sound)
  stage_all ended passed outside inside s sound placed reads modules stands =
      root_stands inside s
      (subst (λ (l : List (List Item)). seen x ended l inside (rest_of (length s.records) []) ≡ root_shown x ps)
      placed.1
      reads)
      modules (subst (λ (l : List (List Item)). StateStands l inside s) placed.1 stands)

  -- a list that has been gone through has its program
  pub passed_all : (s : State) → Passed t x ps [] s
      → ProgramStands x ps (record { root = s.body; modules = s.records; components = s.ended })
  passed_all s h =
      stage_all h.stage h.passed h.outside h.inside s h.sound h.placed h.reads h.modules h.stands

-- where an input is sound, so are its payloads
pub sound_payloads : (t : TypeTable) (x : Option (List ℕ)) (ps : List Payload) → static_fault t x ps ≡ None
    → payloads_error t x [] ps ≡ None
unfolding static_fault
sound_payloads t x ps h = by (option_map table_error (table_fault t)) (payloads_error t x [] ps) h
  where
    by : (first later : Option Error) → option_or first later ≡ None → later ≡ None
    by None later h = h
    by (Some e) later h = absurd (none-some e (sym h))
