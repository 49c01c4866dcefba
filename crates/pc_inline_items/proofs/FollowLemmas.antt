-- What follows a row that does what a part of it does, and what component instances hold.
use Rattle.std.proofs.Common.{◌≡◌, ◌<◌, ℕ, List, length, Some, Result, Ok, Err, sym}
use Rattle.std.proofs.Common.{subst, ◌∙◌, zero, suc}
use Rattle.std.specs.Prelude.{⊤, slice_get}
use Rattle.std.specs.Result.{IsErrAnd}
use Rattle.std.proofs.lemmas.Option.{none-some, same_Some, slice_get_within}
use Rattle.pc_entity.specs.declared.string_pool.Atom.{Atom}
use Rattle.pc_types.specs.declared.module_record.ModuleRecord.{ModuleRecord}
use Rattle.pc_types.specs.declared.parsed.TypeTable.{TypeTable}
use Rattle.pc_types_builder.specs.Converted.{AreConverted}
use Rattle.pc_spec_reading.specs.Item.{Item}
use Rattle.pc_spec_reading.specs.Outcome.{Fault}
use Rattle.pc_spec_reading.specs.Rows.{read_row}
use Rattle.pc_spec_reading.specs.Scope.{Moment}
use Rattle.pc_spec_reading.specs.Value.{NamedValues, Value}
use Rattle.pc_inline_state.specs.declared.definition.DefinitionId.{DefinitionId}
use Rattle.pc_inline_state.specs.declared.error.ItemError.{ItemError}
use Rattle.pc_inline_state.specs.declared.error.ItemError.TheVariants as item_error
use Rattle.pc_inline_state.specs.declared.frame.Frame.{Frame}
use Rattle.pc_inline_state.specs.declared.state.Member.{Member}
use Rattle.pc_inline_state.specs.declared.state.State.{State}
use Rattle.pc_inline_state.specs.KnowsSame.{KnowsSame}
use Rattle.pc_inline_state.specs.Points.{Follows, PointStands}
use Rattle.pc_inline_state.specs.Refused.{LacksRoom}
use Rattle.pc_inline_state.specs.Stands.{MembersStand, Stands, and_member, no_members, stands}
use Rattle.pc_inline_state.specs.TakesPath.{SoundWithPaths}
use Rattle.pc_inline_state.specs.Tables.{Keeps, Tables, tables_of}
use Rattle.pc_inline_state.specs.Worlds.{HasNoExports, WorldStands}
use Rattle.pc_inline_canon.proofs.KeptLemmas.{frame_kept}

module _ (t : TypeTable) (ms : List ModuleRecord) (st : State) (f : Frame) where
  -- a row does what a part of it does that it comes to
  pub follows_row : (now : Moment) (i : Item) (reads : Result Moment Fault)
      → read_row t ms now i ≡ reads → (r : Result ⊤ ItemError) → Follows t ms st f reads r
      → Follows t ms st f (read_row t ms now i) r
  unfolding Follows
  follows_row now i reads row (Ok x) h = record {
    now = h.now;
    stands = h.stands;
    done = row ∙ h.done;
  }
  follows_row now i reads row (Err (item_error.Fault k)) h =
      row ∙ h
  follows_row now i reads row (Err item_error.TooMany) h = h
  follows_row now i reads row (Err item_error.NoMemory) h = h

  -- a reading that is equal to another
  pub follows_as : (reads others : Result Moment Fault) → others ≡ reads → (r : Result ⊤ ItemError)
      → Follows t ms st f reads r → Follows t ms st f others r
  follows_as reads others same r h = subst (λ x. Follows t ms st f x r) (sym same) h

-- want of room
pub follows_lacking : (t : TypeTable) (ms : List ModuleRecord) (st : State) (f : Frame) (reads : Result Moment Fault)
    (r : Result ⊤ ItemError) (x : ItemError) → IsErrAnd r (λ y. y ≡ x) → LacksRoom st x → Follows t ms st f reads r
unfolding Follows LacksRoom
follows_lacking t ms st f reads (Ok y) x is lacks = absurd is
follows_lacking t ms st f reads (Err e) x is lacks = by e (subst (LacksRoom st) (sym is) lacks)
  where
    by : (e : ItemError) → LacksRoom st e → Follows t ms st f reads (Err e)
    by (item_error.Fault k) h = absurd h
    by item_error.TooMany h = h
    by item_error.NoMemory h = h

-- want of memory
pub follows_unfed : (t : TypeTable) (ms : List ModuleRecord) (st : State) (f : Frame) (reads : Result Moment Fault)
    (r : Result ⊤ ItemError) → IsErrAnd r (λ y. y ≡ item_error.NoMemory) → Follows t ms st f reads r
unfolding LacksRoom
follows_unfed t ms st f reads r is = follows_lacking t ms st f reads r item_error.NoMemory is tt

-- the definition of a value is held
pub stands_below : (ms : List ModuleRecord) (b : Tables) (id : DefinitionId) (v : Value) → Stands ms b id v
    → id.0 < length b.definitions
stands_below ms b id v (stands {d = d} held entry) = slice_get_within b.definitions id.0 d held

-- members are held
pub members_held : (ms : List ModuleRecord) (b : Tables) (es : List (Atom × Member)) (vs : NamedValues)
    → MembersStand ms b es vs → (k : ℕ) (e : Atom × Member) → slice_get es k ≡ Some e
    → e.1.item.0 < length b.definitions
members_held ms b es vs no_members k e at = absurd (none-some e at)
members_held ms b es vs (and_member {n = n} {m = m} {v = v} {es = rest} {vs = others} number said x more) zero e at =
    subst (λ (y : Atom × Member). y.1.item.0 < length b.definitions) (same_Some (n, m) e at)
    (stands_below ms b m.item v x)
members_held ms b es vs (and_member {n = n} {m = m} {v = v} {es = rest} {vs = others} number said x more) (suc k) e at =
    members_held ms b rest others more k e at

-- a point is where it was when a path was taken in
pub path_point : (t : TypeTable) (ms : List ModuleRecord) (old new : State) (f : Frame) (now : Moment)
    → new ≡ record old { paths = new.paths; used = new.used } → Keeps (tables_of old) (tables_of new)
    → SoundWithPaths old new → PointStands t ms old f now → PointStands t ms new f now
path_point t ms old new f now rest keeps sound at = record {
  sound = sound t ms at.sound;
  here = subst (λ (x : State). KnowsSame x.graph x.types.resources now.scope) (sym rest) at.here;
  converted = subst (λ (x : State). AreConverted x.types t f.converted) (sym rest) at.converted;
  frame = frame_kept ms (tables_of old) (tables_of new) keeps f now.scope at.frame;
  world = subst (λ (x : State). WorldStands x.types x.graph now.world) (sym rest) at.world;
  unexported = subst (λ (x : State). HasNoExports x.graph) (sym rest) at.unexported;
}
