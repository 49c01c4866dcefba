-- The nested reading: what a payload list means. Levels of instantiation, then items: a child is read one level further
-- in, and the items of a body one after the other. Each adds to the scope and to the world, or the reading ends there.
use Rattle.std.specs.Prelude.{ℕ, zero, suc, ◌+◌, List, [], Option, nat_lt, option_map, if◌then◌else◌, ◌∷◌, None, Some}
use Rattle.pc_types.specs.declared.module_record.ModuleRecord.{ModuleRecord}
use Rattle.pc_types.specs.declared.parsed.TypeTable.{TypeTable}
use Rattle.pc_types.specs.TypeTree.{Identity, Path}
use Rattle.pc_spec_plan.specs.ExportNode.{NamedNode}
use Rattle.pc_spec_plan.specs.Log.{Entry}
use Rattle.pc_parsed.specs.declared.payload.Payload.{Payload}
use Rattle.pc_parsed.specs.Mark.{Mark}
use Rattle.pc_spec_reading.specs.Components.{Call, read_call, read_return}
use Rattle.pc_spec_reading.specs.Imports.{prepare}
use Rattle.pc_spec_reading.specs.Item.{Item, Items, ArgumentOf, no_items, and_item, instantiate_component_item, exports_in}
use Rattle.pc_spec_reading.specs.Item.{ExportOf, import_item}
use Rattle.pc_spec_reading.specs.Items.{exports_at, exported_value}
use Rattle.pc_spec_reading.specs.Nest.{root_of}
use Rattle.pc_spec_reading.specs.Nodes.{Finish, at_export, in_front, named_node, value_node}
use Rattle.pc_spec_reading.specs.Outcome.{Outcome, done, over, past, and_then, at_item}
use Rattle.pc_spec_reading.specs.Rows.{read_row}
use Rattle.pc_spec_reading.specs.Scope.{Moment, fresh, Scope}
use Rattle.pc_spec_reading.specs.Section.{modules_of}
use Rattle.pc_spec_reading.specs.Total.{body_weight, prepared_weight}
use Rattle.pc_spec_reading.specs.Value.{Value, NamedValue, Component, Chain, closed, outermost}
use Rattle.pc_spec_reading.specs.World.{World, HostImport, AddedIntrinsic, grown, has_room, new_world}

-- what a finished reading gives: its log, what the root exports, how many component instances began, and the total
-- when the root's exports have been reached, or nothing where totals aren't counted; the imports that the host gives,
-- the resources that came with them, and the unsafe intrinsics with their first signatures
pub record Reading : Type 0 where
  pub log : List (Entry Mark)
  pub nodes : List (NamedNode Mark)
  pub begun : ℕ
  pub total : Option ℕ
  pub imports : List HostImport
  pub imported_resources : List Path
  pub intrinsics : List AddedIntrinsic

-- the result of a reading that is done, from what the root exports and the world then
abbrev pub result_of : List (NamedNode Mark) → World → Reading
result_of nodes w = record {
  log = w.log;
  nodes = nodes;
  begun = w.begun;
  total = w.total;
  imports = w.imports;
  imported_resources = w.imported_resources;
  intrinsics = w.intrinsics;
}

-- what a child gives back: what it exports, in the world then
pub record Return : Type 0 where
  pub exports : List NamedValue
  pub world : World

-- the reading of a child: its component and its arguments, the resources that its caller knows, and the world so far
abbrev pub Enter : Type 0
Enter = Call → List (ℕ × Identity) → World → Outcome Return

-- a world in which one more component instance, of this weight, has begun: over where the limit is reached, then past
-- where the total is
abbrev pub beginning : {A : Type 0} → (limit weight : ℕ) → World → (World → Outcome A) → Outcome A
beginning limit weight w go =
    if nat_lt w.begun limit
    then (if has_room (grown w.total (1 + weight))
    then go (record w { begun = w.begun + 1; total = grown w.total (1 + weight) })
    else past)
    else over

-- a component instance in which nothing was read yet, of the number that is next
abbrev pub begun_in : List (List ℕ × Value) → List (ℕ × Identity) → Chain → (component_instance : ℕ) → World → Moment
begun_in args known chain c w = record { scope = fresh args known chain c; world = w }

-- what a body gives back when its items have been read: its exports as they stand then
abbrev pub returning : TypeTable → Items → Moment → Outcome Return
returning t body now = done (record { exports = exports_at t now.scope (exports_in body); world = now.world })

-- an export of the root: its node, then those after it. One that isn't there was refused when it was read
abbrev pub exporting : (n : ℕ) → Option NamedValue → World → (skip : Outcome Finish) → (go : ℕ → World → Outcome Finish)
    → Outcome Finish
exporting n None w skip go = skip
exporting n (Some e) w skip go =
    at_export n (value_node e.value w) (λ x v. and_then (go (n + 1) v) (in_front (named_node e x)))

module _ (t : TypeTable) where
  -- the imports of the root are prepared in order, each with its place, before the first item is read
  unfoldable pub prepare_all : (item : ℕ) → Items → Moment → Outcome Moment
  prepare_all n no_items now = done now
  prepare_all n (and_item (import_item name e) is) now =
      and_then (at_item now.scope.component_instance n (prepare t name e now)) (prepare_all (n + 1) is)
  prepare_all n (and_item i is) now = prepare_all (n + 1) is now

  -- the exports of the root in order, from number n on
  unfoldable pub root_exports : Scope → List ExportOf → (n : ℕ) → World → Outcome Finish
  root_exports s [] n w = done ([], w)
  root_exports s (e ∷ es) n w =
      exporting n (exported_value t s e) w (root_exports s es n w) (root_exports s es)

  -- what the root means when its items have been read: its exports become nodes
  unfoldable pub finishing : Items → Moment → Outcome Reading
  finishing body now =
      and_then (root_exports now.scope (exports_in body) 0 now.world) (λ (f : Finish). done (result_of f.0 f.1))

module _ (t : TypeTable) (ms : List ModuleRecord) where
  module _ (enter : Enter) where
    -- an instantiation: the item's own faults, then the child, then what the caller has of it
    unfoldable pub instantiate : (item component : ℕ) → List ArgumentOf → (ty : ℕ) → Moment → Outcome Moment
    instantiate n component args ty now =
        and_then (at_item now.scope.component_instance n (read_call t now.scope component args ty)) (λ (c : Call).
        and_then (enter c now.scope.known now.world) (λ (r : Return).
        at_item now.scope.component_instance n (read_return t (record now { world = r.world }) r.exports ty)))

    -- an item, by its number in the body
    unfoldable pub read_item : (item : ℕ) → Item → Moment → Outcome Moment
    read_item n (instantiate_component_item component args ty) now = instantiate n component args ty now
    read_item n i now = at_item now.scope.component_instance n (read_row t ms now i)

    -- the items from number n on
    unfoldable pub read_items : (n : ℕ) → Items → Moment → Outcome Moment
    read_items n no_items now = done now
    read_items n (and_item i is) now = and_then (read_item n i now) (read_items (n + 1) is)

  module _ (limit : ℕ) where
    -- a body: one more component instance begins, reads the items, and gives back its exports
    unfoldable pub read_body : Enter → Items → Chain → List (List ℕ × Value) → List (ℕ × Identity) → World
        → Outcome Return
    read_body enter body chain args known w =
        beginning limit (body_weight t ms body) w (λ v.
        and_then (read_items enter 0 body (begun_in args known chain w.begun v)) (returning t body))

    -- a component: its body, in the scopes that it was defined in
    abbrev pub read_child : Enter → Component → List (List ℕ × Value) → List (ℕ × Identity) → World → Outcome Return
    read_child enter (closed body chain) args known w = read_body enter body chain args known w

    -- a child at a level: so many instantiations may still stand inside one another. Instances that are open have
    -- begun, so the levels end no sooner than the limit
    unfoldable pub enter_at : (levels : ℕ) → Enter
    enter_at zero c known w = over
    enter_at (suc levels) c known w = read_child (enter_at levels) c.component c.arguments known w

    -- the root: its imports are prepared, then its items are read, as component instance 0. The total before its first
    -- item is given
    unfoldable pub read_root : (counted : Option ℕ) → Items → Outcome Moment
    read_root counted body =
        beginning limit (body_weight t ms body + prepared_weight t ms body) (new_world counted) (λ v.
        and_then (prepare_all t 0 body (begun_in [] [] outermost 0 v)) (read_items (enter_at limit) 0 body))

    -- what the body of a root means
    unfoldable pub reading_of : (counted : Option ℕ) → Items → Outcome Reading
    reading_of counted body = and_then (read_root counted body) (finishing t body)

-- what a payload list means, or nothing where it doesn't nest: the name that exposes the unsafe intrinsics, the limit
-- of component instances and the total before the first item are given. Without a total nothing is counted, and no
-- reading is past it. Of a list with a static fault nothing is asked
unfoldable pub reading : TypeTable → (exposed : Option (List ℕ)) → (limit : ℕ) → (counted : Option ℕ) → List Payload
    → Option (Outcome Reading)
reading t exposed limit counted ps =
    option_map (reading_of t (modules_of ps) limit counted) (root_of exposed ps)
