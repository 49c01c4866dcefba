-- Whether each member of an object has a value.
use Rattle.std.specs.Prelude.{◌≡◌, Bool, true, false, Some, None}
use Rattle.json.specs.Json as json
use Rattle.serde_json.specs.Data.{Members}
use Rattle.serde_json.specs.Read.{of_members}
use Rattle.pc_input_tokens.specs.Borrowed.{members_data}

-- after any members found before, these have the data that is said, or none
abbrev pub EachHasValue : Bool → json.Members → Type 0
EachHasValue true ms = (found : Members) → of_members ms found ≡ Some (members_data ms found)
EachHasValue false ms = (found : Members) → of_members ms found ≡ None
