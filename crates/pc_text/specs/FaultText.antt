-- The texts of refusals: a line with the kind of fault and, where the fault has one, its place.
use Rattle.std.specs.Prelude.{ℕ, List, [], ◌++◌, codes}
use Rattle.pc_types.specs.declared.error.Error.{Error}
use Rattle.pc_types.specs.declared.error.Error.TheVariants as error
use Rattle.pc_types.specs.declared.error.Place.{Place}
use Rattle.pc_types.specs.declared.error.Place.TheVariants as at
use Rattle.pc_types.specs.declared.error.Unsupported.{Unsupported}
use Rattle.pc_types.specs.declared.error.Unsupported.TheVariants as kind
use Rattle.pc_spec_plan.specs.Text.{line_end, number}

-- where a fault arose, after a space
abbrev pub place : Place → List ℕ
place (at.Table n) = codes " at table" ++ number n
place (at.Payload payload item) = codes " at payload" ++ number payload ++ codes " item" ++ number item
place (at.Reading instance item) = codes " at instance" ++ number instance ++ codes " item" ++ number item
place (at.Export n) = codes " at export" ++ number n
place (at.Adapter n) = codes " at adapter" ++ number n

-- what isn't supported, in a word
abbrev pub unsupported_word : Unsupported → List ℕ
unsupported_word kind.Module = codes "module"
unsupported_word kind.ThreadSpawn = codes "thread-spawn"
unsupported_word kind.ContextGetType = codes "context-get-type"
unsupported_word kind.ContextSetType = codes "context-set-type"
unsupported_word kind.StreamForward = codes "stream-forward"
unsupported_word kind.FutureForward = codes "future-forward"
unsupported_word kind.StartSection = codes "start-section"
unsupported_word kind.ComponentValue = codes "component-value"
unsupported_word kind.ComponentImport = codes "component-import"
unsupported_word kind.ReexportedIntrinsic = codes "reexported-intrinsic"
unsupported_word kind.ReexportedIntrinsics = codes "reexported-intrinsics"
unsupported_word kind.ExportedComponent = codes "exported-component"

-- the line of a fault, from its kind and place
abbrev pub fault_line : List ℕ → List ℕ
fault_line fault = codes "fault " ++ fault ++ line_end

-- the text of a refusal; want of memory has none
abbrev pub fault_text : Error → List ℕ
fault_text (error.Malformed p) = fault_line (codes "malformed" ++ place p)
fault_text (error.BadTable p) = fault_line (codes "bad-table" ++ place p)
fault_text (error.Unsupported u p) = fault_line (codes "unsupported " ++ unsupported_word u ++ place p)
fault_text (error.BadIntrinsics p) = fault_line (codes "bad-intrinsics" ++ place p)
fault_text (error.UnknownIntrinsic p) = fault_line (codes "unknown-intrinsic" ++ place p)
fault_text (error.DefinedTwice p) = fault_line (codes "defined-twice" ++ place p)
fault_text (error.Invalid p) = fault_line (codes "invalid" ++ place p)
fault_text (error.BadType p) = fault_line (codes "bad-type" ++ place p)
fault_text (error.BadOptions p) = fault_line (codes "bad-options" ++ place p)
fault_text error.TooManyInstances = fault_line (codes "too-many-instances")
fault_text error.TooMany = fault_line (codes "too-many")
fault_text error.NoMemory = []

-- the text for input that is no JSON
abbrev pub not_json : List ℕ
not_json = fault_line (codes "not-json")

-- the text for JSON that is no input
abbrev pub bad_form : List ℕ
bad_form = fault_line (codes "bad-form")

-- the text for input past the greatest length
abbrev pub too_long : List ℕ
too_long = fault_line (codes "too-long")
