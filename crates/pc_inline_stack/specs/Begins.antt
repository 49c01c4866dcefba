-- How a component instance begins, and for which one types are converted.
use Rattle.std.specs.Prelude.{◌≡◌, ◌<◌, ◌≤◌, ◌+◌, ℕ, Result}
use Rattle.std.specs.Prelude.{Ok, Err}
use Rattle.pc_numbers.specs.declared.runtime.RuntimeComponentInstanceIndex.{RuntimeComponentInstanceIndex}
use Rattle.pc_types.specs.declared.error.Error.{Error}
use Rattle.pc_types.specs.declared.error.Error.TheVariants as error
use Rattle.pc_types_lists.specs.Types.{Types}
use Rattle.pc_dfg.specs.declared.dfg.ComponentDfg.{ComponentDfg}
use Rattle.pc_dfg.specs.Ordered.{IsOrdered}
use Rattle.pc_dfg.specs.Pushed.{with_component_instance}
use Rattle.pc_spec_reading.specs.World.{full}

-- a component instance of this weight begins, and the total grows by it and one; or as many as the limit have begun; or
-- else the total would be full. Where it doesn't begin, nothing is done
unfoldable pub Begins : (limit weight : ℕ) → (old new : ComponentDfg) → (total total' : ℕ)
    → Result RuntimeComponentInstanceIndex Error → Type 0
Begins limit weight old new total total' (Ok c) =
    (old.num_runtime_component_instances < limit) × (c.0 ≡ old.num_runtime_component_instances)
    × (new ≡ with_component_instance old) × (IsOrdered old → IsOrdered new)
    × (total' ≡ total + (1 + weight)) × (total' < full)
Begins limit weight old new total total' (Err error.TooManyInstances) =
    (limit ≤ old.num_runtime_component_instances) × (new ≡ old) × (total' ≡ total)
Begins limit weight old new total total' (Err error.TooMany) =
    (old.num_runtime_component_instances < limit) × (full ≤ total + (1 + weight)) × (new ≡ old) × (total' ≡ total)
Begins limit weight old new total total' (Err error.NoMemory) = (new ≡ old) × (total' ≡ total)
Begins limit weight old new total total' (Err e) = ⊥

-- the types builder where types are converted for this component instance
abbrev pub converting_for : Types → RuntimeComponentInstanceIndex → Types
converting_for b c = record b { resources = record b.resources { current = c } }
