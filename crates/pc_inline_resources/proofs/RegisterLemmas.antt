-- The step of a resource that becomes known.
use Rattle.std.proofs.Common.{◌≡◌, ◌==◌, ℕ, List, Some, refl, if◌then◌else◌}
use Rattle.std.specs.Prelude.{⊤, Result, Ok, Err, IfErr, OnOk}
use Rattle.pc_numbers.specs.declared.runtime.ResourceIndex.{ResourceIndex}
use Rattle.pc_types.specs.declared.module_record.ModuleRecord.{ModuleRecord}
use Rattle.pc_types.specs.declared.parsed.TypeTable.{TypeTable}
use Rattle.pc_types.specs.TypeTree.{Identity}
use Rattle.pc_types_lists.specs.Known.{resource_of}
use Rattle.pc_types_builder.specs.Converted.{AreConverted}
use Rattle.pc_spec_reading.specs.Resource.{knowing}
use Rattle.pc_spec_reading.specs.Scope.{with_known}
use Rattle.pc_inline_state.specs.declared.error.ItemError.{ItemError}
use Rattle.pc_inline_state.specs.declared.frame.Frame.{Frame}
use Rattle.pc_inline_state.specs.declared.state.State.{State}
use Rattle.pc_inline_state.specs.KnowsSame.{IsResource}
use Rattle.pc_inline_state.specs.Points.{Steps}
use Rattle.pc_inline_state.specs.Refused.{LacksRoom}
use Rattle.pc_inline_canon.proofs.StepLemmas.{steps_crowded, steps_on}
use Rattle.pc_inline_resources.specs.Registers.{known_as}
use Rattle.pc_inline_resources.proofs.KnownLemmas.{knowing_in, registered_point}

module _ (t : TypeTable) (ms : List ModuleRecord) (st : State) (f : Frame) (st' : State) (f' : Frame) (n : ℕ)
    (r : ResourceIndex) (i : Identity) (is : IsResource st.graph r i)
    (state : st' ≡ knowing_in st st'.types.resources)
    (frame : f' ≡ record f { converted = f'.converted; changes = f'.changes })
    (current : st'.types.resources.current ≡ st.types.resources.current)
    (converted : AreConverted st'.types t f'.converted) where
  -- the number is known, or there was no room
  pub registered_steps : (x : Result ⊤ ItemError)
      → OnOk x ((q : ℕ) → resource_of st'.types.resources.known q
      ≡ (if q == n then Some r else resource_of st.types.resources.known q))
      → IfErr x (LacksRoom st') → Steps t ms (known_as n i) st f st' f' x
  unfolding known_as
  registered_steps (Ok y) put lacks =
      steps_on t ms (known_as n i) st f st' f' y
      (λ now at. record {
        now = with_known now (knowing now.scope.known n i);
        stands = registered_point t ms st f st' f' n r i is state frame put current converted now at;
        done = refl;
      })
  registered_steps (Err e) put lacks = steps_crowded t ms (known_as n i) st f st' f' e lacks
