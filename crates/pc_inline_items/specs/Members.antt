-- Items of a component instance under the numbers of names, for what component instances export and are given.
use Rattle.std.specs.Prelude.{◌≡◌, ◌+◌, ◌*◌, ℕ, Bool, true, List, Option, None, Some, is_some, map}
use Rattle.std.specs.Prelude.{slice_get}
use Rattle.std.specs.List.{filter_map, list_all}
use Rattle.std.specs.Option.{option_map}
use Rattle.pc_entity.specs.declared.string_pool.Atom.{Atom}
use Rattle.pc_types.specs.declared.module_record.ModuleRecord.{ModuleRecord}
use Rattle.pc_types.specs.declared.parsed.TypeTable.{TypeTable}
use Rattle.pc_types.specs.Names.{has_name}
use Rattle.pc_types_lists.specs.Adds.{most_types}
use Rattle.pc_parsed.specs.declared.payload.ExternName.{ExternName}
use Rattle.pc_parsed.specs.declared.payload.ItemKind.{ItemKind}
use Rattle.pc_parsed.specs.declared.payload.ItemKind.TheVariants as kind
use Rattle.pc_spec_reading.specs.Items.{argument_value, exports_at, value_at}
use Rattle.pc_spec_reading.specs.Nodes.{extern_data}
use Rattle.pc_spec_reading.specs.Scope.{Moment}
use Rattle.pc_spec_reading.specs.Section.{argument_of, named_item}
use Rattle.pc_spec_reading.specs.Value.{pack_values}
use Rattle.pc_inline_names.specs.Both.{Both}
use Rattle.pc_inline_names.specs.Numbers.{IsNumber, SameNamed, numbered_value, with_first_number}
use Rattle.pc_inline_state.specs.declared.definition.DefinitionId.{DefinitionId}
use Rattle.pc_inline_state.specs.declared.frame.Frame.{Frame}
use Rattle.pc_inline_state.specs.declared.state.Member.{Member}
use Rattle.pc_inline_state.specs.declared.state.State.{State}
use Rattle.pc_inline_state.specs.Adds.{Adds, types_among}
use Rattle.pc_inline_state.specs.Lists.{item_ids}
use Rattle.pc_inline_state.specs.Named.{export_name}
use Rattle.pc_inline_state.specs.Points.{PointStands}
use Rattle.pc_inline_state.specs.Stands.{MembersStand, Stands}
use Rattle.pc_inline_state.specs.Tables.{Keeps, tables_of}

-- whether a number is one of the type table
abbrev pub is_held : TypeTable → ℕ → Bool
is_held t n = is_some (slice_get t.types n)

-- whether an item is no type, or one whose number the table holds
abbrev pub is_typed : TypeTable → ItemKind → ℕ → Bool
is_typed t kind.Type_ n = is_held t n
is_typed t k n = true

-- whether a component instance has an item; a type isn't looked for
abbrev pub is_there : Frame → ItemKind → ℕ → Bool
is_there f kind.Type_ n = true
is_there f k n = is_some (slice_get (item_ids f k) n)

-- one, where an item is a type
abbrev pub if_type : ItemKind → ℕ
if_type kind.Type_ = 1
if_type k = 0

module _ {N : Type 0} where
  -- whether the table holds the numbers of all types among these
  abbrev pub are_typed : TypeTable → List (N × ItemKind × ℕ) → Bool
  are_typed t xs = list_all (λ (x : N × ItemKind × ℕ). is_typed t x.1 x.2) xs

  -- whether a component instance has all of these that are no types
  abbrev pub are_there : Frame → List (N × ItemKind × ℕ) → Bool
  are_there f xs = list_all (λ (x : N × ItemKind × ℕ). is_there f x.1 x.2) xs

-- at most so many types were converted for a component instance and became definitions; it stands where it stood
pub record TakesTypes (t : TypeTable) (ms : List ModuleRecord) (n : ℕ) (old : State) (f : Frame) (new : State)
    (g : Frame)
    : Type 0 where
  pub keeps : Keeps (tables_of old) (tables_of new)
  pub adds : Adds t (n * (1 + most_types t)) (tables_of old) (tables_of new)
  pub resources : new.types.resources ≡ old.types.resources
  pub rest : new ≡ record old { types = new.types; definitions = new.definitions; numbers = new.numbers }
  pub frame : g ≡ record f { converted = g.converted }
  pub stands : (now : Moment) → PointStands t ms old f now → PointStands t ms new g now

-- a member is this definition, with what the name says of itself
abbrev pub member_of : ExternName → DefinitionId → Member
member_of name id = record { item = id; data_ = extern_data name }

-- items with one more under a number, if there is one and the number is new
abbrev pub with_item : {M : Type 0} → List (Atom × M) → Atom → Option M → List (Atom × M)
with_item es n None = es
with_item es n (Some x) = with_first_number es n x

-- an item of a kind, by its index, is one of these under the number of its name, if it is there
pub record AddsItem {M : Type 0} (t : TypeTable) (ms : List ModuleRecord) (make : DefinitionId → M) (n : Atom)
    (k : ItemKind) (index : ℕ) (old : State) (f : Frame) (new : State) (before after : List (Atom × M)) : Type 0 where
  pub id : Option DefinitionId
  pub added : after ≡ with_item before n (option_map make id)
  pub stands : (now : Moment) → PointStands t ms old f now
      → Both (Stands ms (tables_of new)) id (value_at t now.scope k index)

-- members of the exports so far
pub record ExportsSoFar (t : TypeTable) (ms : List ModuleRecord) (xs : List (ExternName × ItemKind × ℕ)) (old : State)
    (f : Frame) (new : State) (g : Frame) (es : List (Atom × Member)) : Type 0 where
  pub takes : TakesTypes t ms (types_among xs) old f new g
  pub members : (now : Moment) → PointStands t ms old f now
      → MembersStand ms (tables_of new) es (pack_values (exports_at t now.scope (map named_item xs)))
  pub names : (n : Atom) (name : List ℕ) → IsNumber old.names.now.texts n name
      → is_some (numbered_value n es) ≡ true → has_name (map export_name xs) name ≡ true

-- values of the arguments so far
pub record ArgumentsSoFar (t : TypeTable) (ms : List ModuleRecord) (xs : List (List ℕ × ItemKind × ℕ)) (old : State)
    (f : Frame) (new : State) (g : Frame) (es : List (Atom × DefinitionId)) : Type 0 where
  pub takes : TakesTypes t ms (types_among xs) old f new g
  pub values : (now : Moment) → PointStands t ms old f now
      → SameNamed old.names.now.texts (Stands ms (tables_of new)) es
      (filter_map (argument_value t now.scope) (map argument_of xs))
