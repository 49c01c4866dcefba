-- A graph with nothing in it is ordered.
use Rattle.std.proofs.Common.{[], refl}
use Rattle.std.proofs.lemmas.Option.{none-some}
use Rattle.pc_spec_plan.specs.PlanView as plan
use Rattle.pc_dfg.specs.Empty.{empty_graph}
use Rattle.pc_dfg.specs.Held.{AreHeld}
use Rattle.pc_dfg.specs.Lists as list
use Rattle.pc_dfg.specs.Numbers.{slots_of}
use Rattle.pc_dfg.specs.Ordered.{CountTo, IsOrdered}

-- it has no numbers
empty_held : AreHeld empty_graph
unfolding slots_of
empty_held (list.slots plan.memory) n x at = absurd (none-some x at)
empty_held l n x at = absurd (none-some x at)

none_counted : CountTo 0 []
none_counted = record { all = refl; each = λ i k at. absurd (none-some k at) }

pub empty_ordered : IsOrdered empty_graph
empty_ordered = record {
  held = empty_held;
  instances = none_counted;
  resources = none_counted;
  trampolines = λ k x at. absurd (none-some x at);
  adapters = λ a b x at one. absurd (none-some x at);
  earlier = λ i n e at one. absurd (none-some e at);
  grouped = λ i a b n e x at one up_to is inner. absurd (none-some e at);
}
