-- The order of answers of a translation.
use Rattle.std.specs.Prelude.{◌≡◌, ◌<◌, ◌⊎◌, ℕ, List, Option, None, Some, Result, Ok, Err, option_map}
use Rattle.pc_types.specs.declared.error.Error.{Error}
use Rattle.pc_types.specs.declared.error.Error.TheVariants as error
use Rattle.pc_types.specs.declared.error.Place.TheVariants as place
use Rattle.pc_types.specs.declared.parsed.TypeTable.{TypeTable}
use Rattle.pc_parsed.specs.declared.payload.Payload.{Payload}
use Rattle.pc_parsed.specs.StaticFault.{static_fault}
use Rattle.pc_spec_reading.specs.Answer.{answer_of}
use Rattle.pc_spec_reading.specs.Reading.{Reading}
use Rattle.pc_spec_reading.specs.Total.{counted}
use Rattle.pc_spec_reading.specs.World.{full}
use Rattle.pc_translate.specs.Adapters.{first_lacking}

-- the end of a reading: an error at the first adapter that lacks an option, or its result
abbrev pub or_lacking : Option ℕ → Reading → Result Reading Error
or_lacking (Some n) r = Err (error.BadOptions (place.Adapter n))
or_lacking None r = Ok r

-- the same of what is answered where a reading ends
abbrev pub in_the_end : Result Reading Error → Result Reading Error
in_the_end (Ok r) = or_lacking (first_lacking r) r
in_the_end (Err e) = Err e

module _ (t : TypeTable) (exposed : Option (List ℕ)) where
  -- the answer where so many types were held before, in this order: too many where the total before the first item is
  -- full; the first static fault; the end of the reading, its total counted; and the first adapter that lacks an option
  unfoldable pub answer_in_order : (limit held : ℕ) → List Payload → Option (Result Reading Error)
  answer_in_order limit held ps = option_map in_the_end (answer_of t exposed limit held ps)

  -- payloads are valid: a reading is the answer
  pub record IsValid (limit held : ℕ) (ps : List Payload) : Type 0 where
    pub reading : Reading
    pub answer : answer_in_order limit held ps ≡ Some (Ok reading)

  -- why a translation was refused: it is the answer, or memory was wanting
  abbrev pub HasCause : (limit held : ℕ) → List Payload → Error → Type 0
  HasCause limit held ps e = (e ≡ error.NoMemory) ⊎ (answer_in_order limit held ps ≡ Some (Err e))

  -- payloads come to be read: the total before the first item isn't full, and none of them has a static fault
  pub record CanBeRead (held : ℕ) (ps : List Payload) : Type 0 where
    pub below : counted t held ps < full
    pub sound : static_fault t exposed ps ≡ None
