-- The outermost object, whose payloads are read as they come and not kept in a tree.
use Rattle.std.specs.Prelude.{◌≡◌, ℕ, List, false, ⊤, Option, Some, None, Result, Ok, Err, codes, if◌then◌else◌}
use Rattle.std.specs.Prelude.{is_some, option_map}
use Rattle.std.specs.Str.{bytes_eq}
use Rattle.std.specs.Borrow.{Bor}
use Rattle.std.specs.Prelude.{Vec}
use Rattle.std.specs.declared.alloc.Global.{Global}
use Rattle.json.specs.Token.{Token}
use Rattle.json.specs.Lex.{tokens}
use Rattle.json.specs.Value.{members_view}
use Rattle.json.specs.declared.value.Value.{Value}
use Rattle.serde_json.specs.Data.{Data, Members, no_members, member, object}
use Rattle.serde_json.specs.Find.{as_object, get}
use Rattle.serde_json.specs.Read.{read}
use Rattle.pc_parsed.specs.declared.payload.Payload.{Payload}
use Rattle.pc_input_tokens.specs.Borrowed.{data_in, members_data}
use Rattle.pc_input_tokens.specs.Takes.{data_at, members_at}
use Rattle.pc_input_tokens.specs.declared.refusal.Refusal.{Refusal}
use Rattle.pc_input_tokens.specs.declared.refusal.Refusal.TheVariants.{NotJson, NoMemory}
use Rattle.pc_input_values.specs.declared.error.DecodeError.{DecodeError}
use Rattle.pc_input_values.specs.Tree.{◌>>=◌, whole, or_null, making, each, exactly, field}
use Rattle.pc_input_values.specs.Rules.{Rules, plain}
use Rattle.pc_input_values.specs.Types.{type_table}
use Rattle.pc_input.specs.declared.input.Input.{Input}
use Rattle.pc_input.specs.declared.root.First.{First}
use Rattle.pc_input.specs.declared.root.First.TheVariants as first
use Rattle.pc_input.specs.Input.{input_one, names_of}
use Rattle.pc_input.specs.Payload.{payload_of}
use Rattle.pc_input.specs.Takes.{Takes, OfText}

-- the same keys with the same values, but that q may have two values
abbrev pub AgreeBut : List ℕ → Members → Members → Type 0
AgreeBut q no_members no_members = ⊤
AgreeBut q no_members (member l e ns) = ⊥
AgreeBut q (member k d ms) no_members = ⊥
AgreeBut q (member k d ms) (member l e ns) = (k ≡ l) × (bytes_eq q k ≡ false → d ≡ e) × AgreeBut q ms ns

-- what the other members say, with payloads that were read before
abbrev pub input_with : Rules → Data → Option (List Payload) → Option Input
input_with r d read = do
  limit ← field (codes "limit") whole d
  intrinsics ← field (codes "intrinsics") (or_null r.name) d
  table ← field (codes "types") (type_table r) d
  payloads ← read
  Some (record {
    tunables = record { max_component_instances = limit };
    intrinsics = intrinsics;
    table = table;
    payloads = payloads;
  })

-- form 1, with payloads that were read before
abbrev pub one_with : Data → Option (List Payload) → Option Input
one_with d read = do
  _ ← exactly 4 d
  input_with plain d read

-- what an object says by itself: where it has the key form the table of form 2, and else an input
abbrev pub first_of : Data → Option First
first_of d =
    if is_some (get (codes "form") d) then making first.Names names_of d else making first.Input input_one d

-- the same, with payloads that were read before
abbrev pub first_with : Data → Option (List Payload) → Option First
first_with d read =
    if is_some (get (codes "form") d) then making first.Names names_of d else option_map first.Input (one_with d read)

-- what is kept of a member: under the key of the payloads these alone, and else its tree alone
abbrev pub Keeps : Rules → List ℕ → Data → Option (List Payload) → Value Global → Option (List Payload) → Type 0
Keeps r key d before v after = (bytes_eq (codes "payloads") key ≡ false → d ≡ data_in v)
    × ((if bytes_eq (codes "payloads") key then each (payload_of r) d else before) ≡ after)

-- a member was taken and kept
abbrev pub TakesMember : Rules → ℕ → List ℕ → List Token → Option (List Payload) → Result (Value Global) Refusal
    → List Token → Option (List Payload) → Type 0
TakesMember r depth key old before (Ok v) new after =
    (d : Data) × (data_at depth old ≡ Some (d, new)) × Keeps r key d before v after
TakesMember r depth key old before (Err NotJson) new after = data_at depth old ≡ None
TakesMember r depth key old before (Err NoMemory) new after = Unit {0}

-- what was kept of members
abbrev pub Stands : Rules → List (Bor (List ℕ) × Value Global) → Option (List Payload) → Members → Type 0
Stands r kept payloads ms = AgreeBut (codes "payloads") ms (members_data (members_view kept) no_members)
    × (field (codes "payloads") (each (payload_of r)) (object ms) ≡ payloads)

-- the members that are kept, and the payloads
abbrev pub Kept : Type 0
Kept = Vec (Bor (List ℕ) × Value Global) Global × Option (List Payload)

-- all members were taken and kept
abbrev pub TakesRoot : Rules → ℕ → List Token → Result Kept Refusal → List Token → Type 0
TakesRoot r depth old (Ok p) new =
    (ms : Members) × (members_at depth old ≡ Some (ms, new)) × Stands r p.0.items p.1 ms
TakesRoot r depth old (Err NotJson) new = members_at depth old ≡ None
TakesRoot r depth old (Err NoMemory) new = Unit {0}

-- an object was taken and kept, or there is none
abbrev pub TakesObject : Rules → List Token → Result Kept DecodeError → List Token → Type 0
TakesObject r old (Ok p) new =
    (ms : Members) × (data_at 127 old ≡ Some (object ms, new)) × Stands r p.0.items p.1 ms
TakesObject r old (Err e) new = Takes as_object 127 old (Err e) new

-- a whole text is an object that was kept, or there is none
abbrev pub OfObject : Rules → List ℕ → Result Kept DecodeError → Type 0
OfObject r text (Ok p) = (ms : Members) × (read text ≡ Some (object ms)) × Stands r p.0.items p.1 ms
OfObject r text (Err e) = OfText as_object text (Err e)

-- the same, where the tokens are those of a text
abbrev pub OfTokens : Rules → List Token → Result Kept DecodeError → Type 0
OfTokens r ts result = (text : List ℕ) → ts ≡ tokens text → OfObject r text result
