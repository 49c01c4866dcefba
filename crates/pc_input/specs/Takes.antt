-- What is read off the tokens of a text. Of a value that has a bad form the whole is taken too.
use Rattle.std.specs.Prelude.{◌≡◌, ℕ, List, [], ◌∷◌, Bool, true, false, Option, Some, None, Result, Ok, Err}
use Rattle.json.specs.Token.{Token}
use Rattle.serde_json.specs.Data.{Data, Members}
use Rattle.serde_json.specs.Read.{read}
use Rattle.pc_entity.specs.Lists.{map_all}
use Rattle.pc_input_tokens.specs.Shape.{elements}
use Rattle.pc_input_tokens.specs.Takes.{data_at, items_at, members_at}
use Rattle.pc_input_tokens.specs.declared.refusal.Refusal.{Refusal}
use Rattle.pc_input_tokens.specs.declared.refusal.Refusal.TheVariants as refusal
use Rattle.pc_input_values.specs.declared.error.DecodeError.{DecodeError}
use Rattle.pc_input_values.specs.declared.error.DecodeError.TheVariants.{NotJson, BadForm, NoMemory}

-- what a parser reads is taken, and f of it is wanted, or BadForm where f has nothing; want of memory is free
abbrev pub TakesAs : {A B : Type 0} → (A → Option B) → Option (A × List Token) → Result B DecodeError → List Token
    → Type 0
TakesAs {A} f read (Ok x) new = (a : A) × (read ≡ Some (a, new)) × (f a ≡ Some x)
TakesAs f read (Err NotJson) new = read ≡ None
TakesAs {A} f read (Err BadForm) new = (a : A) × (read ≡ Some (a, new)) × (f a ≡ None)
TakesAs f read (Err NoMemory) new = Unit {0}

-- the next value is taken, and f of it is wanted
abbrev pub Takes : {A : Type 0} → (Data → Option A) → ℕ → List Token → Result A DecodeError → List Token → Type 0
Takes f depth old result new = TakesAs f (data_at depth old) result new

-- the items up to the end of an array are taken, and f of each is wanted
abbrev pub TakesItems : {A : Type 0} → (Data → Option A) → ℕ → List Token → Result (List A) DecodeError → List Token
    → Type 0
TakesItems f depth old result new = TakesAs (λ ds. map_all f (elements ds)) (items_at depth old) result new

-- the members up to the end of an object are taken, and f of them is wanted
abbrev pub TakesMembers : {A : Type 0} → (Members → Option A) → ℕ → List Token → Result A DecodeError → List Token
    → Type 0
TakesMembers f depth old result new = TakesAs f (members_at depth old) result new

-- a value of another form that was passed over is refused, unless the text is no JSON or memory wants
abbrev pub passed_as : {A : Type 0} → Result A Refusal → DecodeError
passed_as (Ok done) = BadForm
passed_as (Err refusal.NotJson) = NotJson
passed_as (Err refusal.NoMemory) = NoMemory

-- the next value was taken, whatever it is, or it isn't JSON
abbrev pub TakesOther : ℕ → List Token → DecodeError → List Token → Type 0
TakesOther depth old NotJson new = data_at depth old ≡ None
TakesOther depth old BadForm new = (d : Data) × (data_at depth old ≡ Some (d, new))
TakesOther depth old NoMemory new = Unit {0}

-- whether there is no token; else there is a first one
abbrev pub IsOver : Bool → List Token → Type 0
IsOver true ts = ts ≡ []
IsOver false ts = (t : Token) × (rest : List Token) × (ts ≡ t ∷ rest)

-- a whole text is read, and f of its data is wanted
abbrev pub OfText : {A : Type 0} → (Data → Option A) → List ℕ → Result A DecodeError → Type 0
OfText f text (Ok x) = (d : Data) × (read text ≡ Some d) × (f d ≡ Some x)
OfText f text (Err NotJson) = read text ≡ None
OfText f text (Err BadForm) = (d : Data) × (read text ≡ Some d) × (f d ≡ None)
OfText f text (Err NoMemory) = Unit {0}
