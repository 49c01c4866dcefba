-- The input that bytes stand for.
use Rattle.std.specs.Prelude.{◌≡◌, ◌==◌, ℕ, List, Option, Some, None, codes, is_some, if◌then◌else◌}
use Rattle.std.specs.Str.{is_utf8}
use Rattle.serde_json.specs.Data.{Data}
use Rattle.serde_json.specs.Find.{as_str, get}
use Rattle.serde_json.specs.Read.{read}
use Rattle.pc_input_values.specs.declared.error.DecodeError.{DecodeError}
use Rattle.pc_input_values.specs.declared.error.DecodeError.TheVariants as error
use Rattle.pc_input.specs.declared.input.Input.{Input}
use Rattle.pc_input_values.specs.Tree.{◌>>=◌, whole, or_null, each, exactly, field}
use Rattle.pc_input_values.specs.Rules.{Rules, plain, tabled}
use Rattle.pc_input_values.specs.Types.{type_table}
use Rattle.pc_input.specs.Payload.{payload_of}

-- what the members that each form has say
abbrev pub input_from : Rules → Data → Option Input
input_from r d = do
  limit ← field (codes "limit") whole d
  intrinsics ← field (codes "intrinsics") (or_null r.name) d
  table ← field (codes "types") (type_table r) d
  payloads ← field (codes "payloads") (each (payload_of r)) d
  Some (record {
    tunables = record { max_component_instances = limit };
    intrinsics = intrinsics;
    table = table;
    payloads = payloads;
  })

-- form 1: an object of exactly these members
abbrev pub input_one : Data → Option Input
input_one d = do
  _ ← exactly 4 d
  input_from plain d

-- the table of form 2, in an object of exactly six members of which one says the form
abbrev pub names_of : Data → Option (List (List ℕ))
names_of d = do
  _ ← exactly 6 d
  form ← field (codes "form") whole d
  names ← field (codes "names") (each as_str) d
  if form == 2 then Some names else None

-- form 2: these members too, with numbers of the table for names
abbrev pub input_two : Data → Option Input
input_two d = do
  names ← names_of d
  input_from (tabled names) d

-- the input of a tree: an object with the key form is of form 2, and any other tree of form 1
abbrev pub input_of : Data → Option Input
input_of d = if is_some (get (codes "form") d) then input_two d else input_one d

-- the tree that serde_json reads; bytes that are no text have none
abbrev pub tree_of : List ℕ → Option Data
tree_of bytes = if is_utf8 bytes then read bytes else None

-- the input that bytes stand for
abbrev pub input_in : List ℕ → Option Input
input_in bytes = tree_of bytes >>= input_of

-- why bytes are refused; want of memory may come at any bytes
abbrev pub HasCause : List ℕ → DecodeError → Type 0
HasCause bytes error.NotJson = tree_of bytes ≡ None
HasCause bytes error.BadForm = (d : Data) × (tree_of bytes ≡ Some d) × (input_of d ≡ None)
HasCause bytes error.NoMemory = Unit {0}
