-- How an item and a reading end.
use Rattle.std.specs.Prelude.{ℕ, Option, None, Some, Result, Ok, Err, Bool, if◌then◌else◌}
use Rattle.pc_types.specs.declared.error.Place.{Place}
use Rattle.pc_types.specs.declared.error.Place.TheVariants as place
use Rattle.pc_types.specs.declared.error.Unsupported.{Unsupported}

-- why a reading is stuck
pub data Fault : Type 0 where
  -- an index, a name or a kind fits nothing
  invalid : Fault
  -- a type number or a core signature number names nothing of its kind, or a resource isn't known
  bad_type : Fault
  -- a name is none of the unsafe intrinsics
  unknown_intrinsic : Fault
  -- what stands there isn't supported by any translation
  unsupported : Unsupported → Fault

-- goes on with what was found, or is stuck with a fault
abbrev pub found : {A B : Type 0} → Fault → Option A → (A → Result B Fault) → Result B Fault
found f None go = Err f
found f (Some x) go = go x

-- goes on where a test holds, or is stuck with a fault
abbrev pub held : {B : Type 0} → Fault → Bool → Result B Fault → Result B Fault
held f test go = if test then go else Err f

-- goes on with a result, or is stuck as it was
abbrev pub after : {A B : Type 0} → Result A Fault → (A → Result B Fault) → Result B Fault
after (Ok x) go = go x
after (Err f) go = Err f

-- how a reading ends: with a result, at a fault, over the limit of component instances, or past the total
pub data Outcome (A : Type 0) : Type 0 where
  done : A → Outcome A
  fault : Fault → Place → Outcome A
  over : Outcome A
  past : Outcome A

-- goes on with what is done, or ends as it did
abbrev pub and_then : {A B : Type 0} → Outcome A → (A → Outcome B) → Outcome B
and_then (done x) go = go x
and_then (fault f p) go = fault f p
and_then over go = over
and_then past go = past

-- the result of an item, at its place: the component instance that reads it, and its number in the body
abbrev pub at_item : {A : Type 0} → (component_instance item : ℕ) → Result A Fault → Outcome A
at_item c n (Ok x) = done x
at_item c n (Err f) = fault f (place.Reading c n)
