-- The object of a payload, whose content is read as it comes and not kept in a tree.
use Rattle.std.specs.Prelude.{◌≡◌, ◌≤◌, ℕ, List, Bool, true, false, Option, Some, None, Result, Ok, Err, if◌then◌else◌}
use Rattle.std.specs.Prelude.{⊤, option_map}
use Rattle.std.specs.Str.{bytes_eq}
use Rattle.json.specs.Token.{Token}
use Rattle.serde_json.specs.Data.{Data, Members, no_members, member, put}
use Rattle.serde_json.specs.Events.{members_len}
use Rattle.pc_parsed.specs.declared.payload.Payload.{Payload}
use Rattle.pc_input_tokens.specs.Takes.{data_at}
use Rattle.pc_input_tokens.specs.declared.refusal.Refusal.{Refusal}
use Rattle.pc_input_tokens.specs.declared.refusal.Refusal.TheVariants.{NotJson, NoMemory}
use Rattle.pc_input_values.specs.Rules.{Rules}
use Rattle.pc_input_values.specs.Tree.{by_row}
use Rattle.pc_input.specs.Payload.{payload_keys}
use Rattle.pc_input.specs.declared.content.Found.{Found}

-- the value of a key was taken, and is read as the content of a payload, if its form is good
abbrev pub TakesContent : Rules → ℕ → List ℕ → List Token → Result (Option Payload) Refusal → List Token → Type 0
TakesContent r depth key old (Ok payload) new =
    (d : Data) × (data_at depth old ≡ Some (d, new)) × (by_row (payload_keys r) key d ≡ payload)
TakesContent r depth key old (Err NotJson) new = data_at depth old ≡ None
TakesContent r depth key old (Err NoMemory) new = Unit {0}

-- whether the key is the first one, or there was none before
abbrev pub is_first : List ℕ → Option (List ℕ) → Bool
is_first key None = true
is_first key (Some first) = bytes_eq first key

-- the payload, if there was one key alone
abbrev pub payload_in : Found → Option Payload
payload_in found = if found.many then None else found.payload

-- what was found in members that have one key at most
abbrev pub HasOne : Rules → Option (List ℕ) → Option Payload → Members → Type 0
HasOne r None payload ms = (ms ≡ no_members) × (payload ≡ None)
HasOne r (Some key) payload ms =
    (d : Data) × (ms ≡ member key d no_members) × (by_row (payload_keys r) key d ≡ payload)

-- what was found in members, where there may be many
abbrev pub HasAny : Rules → Bool → Option (List ℕ) → Option Payload → Members → Type 0
HasAny r true key payload ms = 2 ≤ members_len ms
HasAny r false key payload ms = HasOne r key payload ms

-- what was found in members
abbrev pub HasFound : Rules → Found → Members → Type 0
HasFound r found ms = HasAny r found.many (option_map (λ k. k.now) found.key) found.payload ms

-- one more member was taken
abbrev pub TakesOne : Rules → ℕ → List ℕ → List Token → Found → Result ⊤ Refusal → List Token → Found → Type 0
TakesOne r depth key old before (Ok done) new after = (d : Data) × (data_at depth old ≡ Some (d, new))
    × ((ms : Members) → HasFound r before ms → HasFound r after (put key d ms))
TakesOne r depth key old before (Err NotJson) new after = data_at depth old ≡ None
TakesOne r depth key old before (Err NoMemory) new after = Unit {0}
