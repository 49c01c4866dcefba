-- What is taken off a reader. A refusal says that the text is no JSON; want of memory is free.
use Rattle.std.specs.Prelude.{◌≡◌, ◌∷◌, ℕ, List, length, Option, Some, None, Result, Ok, Err, is_some}
use Rattle.std.specs.Prelude.{if◌then◌else◌}
use Rattle.std.specs.declared.alloc.Global.{Global}
use Rattle.json.specs.Token.{Token}
use Rattle.json.specs.Json.{value, items, members}
use Rattle.json.specs.declared.value.Value.{Value}
use Rattle.serde_json.specs.Data.{Data, Items, Members, no_members}
use Rattle.serde_json.specs.Find.{as_object}
use Rattle.serde_json.specs.Read.{number_of, of_json, of_items, of_members, converted}
use Rattle.pc_input_tokens.specs.Shape.{list_of}
use Rattle.pc_input_tokens.specs.Borrowed.{data_in}
use Rattle.pc_input_tokens.specs.declared.refusal.Refusal.{Refusal}
use Rattle.pc_input_tokens.specs.declared.refusal.Refusal.TheVariants.{NotJson, NoMemory}
use Rattle.pc_input_tokens.specs.declared.start.Start.{Start}
use Rattle.pc_input_tokens.specs.declared.start.Start.TheVariants.{Array, Object, Scalar}

-- the data of the next value, and the tokens after it
abbrev pub data_at : ℕ → List Token → Option (Data × List Token)
data_at depth ts = converted of_json (value depth ts)

-- the items up to the end of an array, and the tokens after it
abbrev pub items_at : ℕ → List Token → Option (Items × List Token)
items_at depth ts = converted of_items (items (value depth) (length ts) ts)

-- the members up to the end of an object, and the tokens after it
abbrev pub members_at : ℕ → List Token → Option (Members × List Token)
members_at depth ts = converted (λ ms. of_members ms no_members) (members (value depth) (length ts) ts)

-- the tree of the next value was taken
abbrev pub TakesTree : ℕ → List Token → Result (Value Global) Refusal → List Token → Type 0
TakesTree depth old (Ok v) new = data_at depth old ≡ Some (data_in v, new)
TakesTree depth old (Err NotJson) new = data_at depth old ≡ None
TakesTree depth old (Err NoMemory) new = Unit {0}

-- what some parser reads was passed over
abbrev pub Passes : {A B : Type 0} → Option (A × List Token) → Result B Refusal → List Token → Type 0
Passes {A} read (Ok done) new = (a : A) × (read ≡ Some (a, new))
Passes read (Err NotJson) new = read ≡ None
Passes read (Err NoMemory) new = Unit {0}

-- what begins with a token: an array, an object, another value that is whole, or no value
abbrev pub start_of : Token → Option Start
start_of Token.begin_object = Some Object
start_of Token.end_object = None
start_of Token.begin_array = Some Array
start_of Token.end_array = None
start_of (Token.key s) = None
start_of (Token.string s) = Some Scalar
start_of (Token.number s) = if is_some (number_of s) then Some Scalar else None
start_of (Token.boolean b) = Some Scalar
start_of Token.null = Some Scalar
start_of Token.bad = None

-- neither an array nor an object
abbrev pub IsScalar : Data → Type 0
IsScalar d = (list_of d ≡ None) × (as_object d ≡ None)

-- a bracket or a brace was taken, or a whole value that has none; else no value is next
abbrev pub Starts : List Token → Option Start → List Token → Type 0
Starts old (Some Array) new = old ≡ Token.begin_array ∷ new
Starts old (Some Object) new = old ≡ Token.begin_object ∷ new
Starts old (Some Scalar) new = (d : Data) × IsScalar d × ((depth : ℕ) → data_at depth old ≡ Some (d, new))
Starts old None new = (depth : ℕ) → data_at depth old ≡ None
