-- The order of answers: what is looked at first, what then, and how a total counts in it.
use Rattle.std.specs.Prelude.{◌≡◌, ℕ, List, Option, None, Some, Result, Ok, Err, option_map, if◌then◌else◌}
use Rattle.pc_types.specs.declared.error.Error.{Error}
use Rattle.pc_types.specs.declared.error.Error.TheVariants as error
use Rattle.pc_types.specs.declared.error.Place.{Place}
use Rattle.pc_types.specs.declared.module_record.ModuleRecord.{ModuleRecord}
use Rattle.pc_types.specs.declared.parsed.TypeTable.{TypeTable}
use Rattle.pc_parsed.specs.declared.payload.Payload.{Payload}
use Rattle.pc_parsed.specs.StaticFault.{static_fault}
use Rattle.pc_spec_reading.specs.Item.{Items}
use Rattle.pc_spec_reading.specs.Outcome.{Fault, Outcome, bad_type, done, fault, invalid, over, past, unknown_intrinsic}
use Rattle.pc_spec_reading.specs.Outcome.{unsupported}
use Rattle.pc_spec_reading.specs.Reading.{Reading, read_root, reading, reading_of}
use Rattle.pc_spec_reading.specs.Scope.{Moment}
use Rattle.pc_spec_reading.specs.Total.{counted}
use Rattle.pc_spec_reading.specs.World.{has_room}

-- the error of a fault at its place
abbrev pub error_of : Fault → Place → Error
error_of invalid p = error.Invalid p
error_of bad_type p = error.BadType p
error_of unknown_intrinsic p = error.UnknownIntrinsic p
error_of (unsupported u) p = error.Unsupported u p

-- what is answered where a reading ends: its result, or an error
abbrev pub ending : Outcome Reading → Result Reading Error
ending (done r) = Ok r
ending (fault f p) = Err (error_of f p)
ending over = Err error.TooManyInstances
ending past = Err error.TooMany

-- the first static fault, if there is one; else what follows it
abbrev pub or_fault : Option Error → Option (Result Reading Error) → Option (Result Reading Error)
or_fault (Some e) next = Some (Err e)
or_fault None next = next

module _ (t : TypeTable) (exposed : Option (List ℕ)) (limit : ℕ) where
  -- the answer, in this order: too many where the total before the first item is full; the first static fault; the end
  -- of the reading. The total is given; without one nothing is counted. A list that doesn't nest has a static fault
  unfoldable pub answer_from : (total : Option ℕ) → List Payload → Option (Result Reading Error)
  answer_from total ps =
      if has_room total
      then or_fault (static_fault t exposed ps) (option_map ending (reading t exposed limit total ps))
      else Some (Err error.TooMany)

  -- the answer where so many types were held before
  unfoldable pub answer_of : (held : ℕ) → List Payload → Option (Result Reading Error)
  answer_of held ps = answer_from (Some (counted t held ps)) ps

-- What comes of a total, for the body of a root.
module _ (t : TypeTable) (ms : List ModuleRecord) (limit total : ℕ) (body : Items) where
  -- the reading whose total begins with this one reaches the number that it may not reach
  abbrev pub IsPast : Type 0
  IsPast = reading_of t ms limit (Some total) body ≡ past

  -- its total when the items of the root have been read
  abbrev pub HasTotal : ℕ → Type 0
  HasTotal last =
      (now : Moment) × (read_root t ms limit (Some total) body ≡ done now) × (now.world.total ≡ Some last)
