use Rattle.std.proofs.Common.{◌≡◌, ℕ, List, Some, length}
use Rattle.std.specs.Prelude.{slice_get}
use Rattle.pc_types_walk.specs.Leads.{IsThrough}
use Rattle.pc_types_walk.proofs.leads.Leads.new.Given as goal

abbrev pub invariant-loop-entry : goal.invariant-loop-entry
invariant-loop-entry l = record {
  count : length l.through ≡ l.entry-index;
  through : (n : ℕ) (places : List ℕ) → slice_get l.through n ≡ Some places → IsThrough l.fn.table n places;
}
