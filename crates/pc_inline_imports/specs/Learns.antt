-- What is learnt of an import of the root before it is in the graph.
use Rattle.std.specs.Prelude.{◌≡◌, ◌==◌, ◌+◌, ◌≤◌, ℕ, Bool, true, false, List, [], ◌∷◌, length, Option, None, Some}
use Rattle.std.specs.Prelude.{if◌then◌else◌}
use Rattle.std.specs.List.{AllZip}
use Rattle.pc_numbers.specs.declared.runtime.ResourceIndex.{ResourceIndex}
use Rattle.pc_types.specs.declared.module_record.ModuleRecord.{ModuleRecord}
use Rattle.pc_types.specs.declared.parsed.Entity.{Entity}
use Rattle.pc_types.specs.declared.parsed.TypeTable.{TypeTable}
use Rattle.pc_types_lists.specs.Adds.{AddsTypes, most_types}
use Rattle.pc_types_lists.specs.Known.{resource_of}
use Rattle.pc_types_lists.specs.Types.{KeepsTypes}
use Rattle.pc_types_builder.specs.Converted.{AreConverted}
use Rattle.pc_types_walk.specs.declared.walk.Found.{Found}
use Rattle.pc_types_walk.specs.Walks.{AreNamed, IsFound}
use Rattle.pc_spec_reading.specs.Resource.{newly, resource_paths}
use Rattle.pc_inline_state.specs.declared.frame.Frame.{Frame}
use Rattle.pc_inline_state.specs.declared.state.State.{State}
use Rattle.pc_inline_state.specs.Gained.{AddsTables}
use Rattle.pc_inline_state.specs.KnowsSame.{KnowsSame}
use Rattle.pc_inline_state.specs.Points.{IsSoundState}
use Rattle.pc_spec_reading.specs.Scope.{Scope}
use Rattle.pc_inline_imports.specs.Given.{IsEntityType}
use Rattle.pc_inline_imports.specs.declared.learn.Learnt.{Learnt}

-- whether there is nothing
abbrev pub is_absent : {A : Type 0} → Option A → Bool
is_absent None = true
is_absent (Some x) = false

-- whether a resource isn't known
abbrev pub is_free : List (ℕ × ResourceIndex) → Found → Bool
is_free known f = is_absent (resource_of known f.number)

-- what a number stands for when these became known in order, under numbers from one on
abbrev pub registered : (first : ℕ) → List Found → (ℕ → Option ResourceIndex) → ℕ → Option ResourceIndex
registered first [] known q = known q
registered first (f ∷ fs) known q =
    registered (first + 1) fs (λ n. if n == f.number then Some (record { 0 = first }) else known n) q

-- resources became known under numbers from one on
pub record IsRegistered (first : ℕ) (found : List Found) (old new : State) : Type 0 where
  pub known : (q : ℕ) → resource_of new.types.resources.known q
      ≡ registered first found (resource_of old.types.resources.known) q

-- only what is known has changed, and what counts as converted is so under what is known now
pub record Registers (t : TypeTable) (st : State) (f : Frame) (st' : State) (f' : Frame) : Type 0 where
  pub converted : AreConverted st'.types t f'.converted
  pub current : st'.types.resources.current ≡ st.types.resources.current
  pub state : st' ≡ record st { types = record st.types { resources = st'.types.resources } }
  pub frame : f' ≡ record f { converted = f'.converted; changes = f'.changes }

-- the resources that an entity leads to and that weren't known are known under the numbers that come next in the graph,
-- and its type was converted: nothing else has changed
pub record Learns (t : TypeTable) (ms : List ModuleRecord) (e : Entity) (st : State) (f : Frame) (st' : State)
    (f' : Frame) (l : Learnt) : Type 0 where
  pub names : List (List (List ℕ))
  pub named : AreNamed t l.places names
  pub found : (s : Scope) → KnowsSame st.graph st.types.resources s
      → AllZip (IsFound names) l.found (newly s.known (resource_paths t e))
  pub few : length l.found ≤ length t.types
  pub known : IsRegistered (length st.graph.imported_resources) l.found st st'
  pub current : st'.types.resources.current ≡ st.types.resources.current
  pub converted : AreConverted st'.types t f'.converted
  pub state : st' ≡ record st { types = st'.types; numbers = st'.numbers }
  pub frame : f' ≡ record f { converted = f'.converted; changes = f'.changes }
  pub keeps : KeepsTypes st.types st'.types
  pub sound : IsSoundState t ms st → IsSoundState t ms st'
  pub adds : AddsTypes t (most_types t) st.types st'.types
  pub tables : AddsTables t st'.graph.num_runtime_component_instances st.types st'.types
  pub is : IsEntityType st'.types t e l.ty
