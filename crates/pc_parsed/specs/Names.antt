-- The names of the components that are open, as sets of names that stand for them.
use Rattle.std.specs.Prelude.{◌≡◌, ◌⊎◌, ℕ, ◌+◌, zero, suc, List, [], ◌∷◌, ◌++◌, length, Option, Some, None}
use Rattle.std.specs.List.{flat_map}
use Rattle.pc_types.specs.Names.{has_name}
use Rattle.pc_parsed.specs.declared.bodies.Names.{Names}
use Rattle.pc_parsed.specs.declared.payload.Payload.{Payload}
use Rattle.pc_parsed.specs.StaticFault.{Around, exported_names, imported_names}
use Rattle.pc_parsed.specs.Structure.{Nesting, opens, closes, stays, nesting, open_bodies, own_payloads}

-- two lists have the same names
abbrev pub HaveSame : (xs ys : List (List ℕ)) → Type 0
HaveSame xs ys = (q : List ℕ) → has_name xs q ≡ has_name ys q

-- a set has the names that it had, and these
abbrev pub Gains : (old added new : List (List ℕ)) → Type 0
Gains old added new = HaveSame new (added ++ old)

-- a component that has imported and exported nothing
abbrev pub fresh_names : Names
fresh_names = record { imported = []; exported = [] }

-- the component with these names, where so many bodies are open
abbrev pub around_names : (open_count : ℕ) → Names → Around
around_names n names = record { open_count = n; imported = names.imported; exported = names.exported }

-- a component gains the names of a payload
abbrev pub gains_payload : (old : Names) → Payload → (new : Names) → Type 0
gains_payload old p new =
    Gains old.imported (imported_names p) new.imported × Gains old.exported (exported_names p) new.exported

-- the open components behind a payload of the innermost one, which has these names
abbrev pub open_then : Nesting → (outer : List Names) → Names → List Names
open_then opens outer names = (outer ++ names ∷ []) ++ fresh_names ∷ []
open_then closes outer names = outer
open_then stays outer names = outer ++ names ∷ []

-- the open components behind a payload of the innermost one, which had these names and gained those of the payload
pub record GoOnBehind (outer : List Names) (old : Names) (p : Payload) (components : List Names) : Type 0 where
  pub new : Names
  pub gains : gains_payload old p new
  pub are : components ≡ open_then (nesting p) outer new

-- the payloads before the innermost open body, by what the last of these payloads does
abbrev pub outer_step : Nesting → (n : ℕ) → (before : List Payload) → (go : ℕ → Option (List Payload))
    → Option (List Payload)
outer_step closes n before go = go (suc n)
outer_step opens zero before go = Some before
outer_step opens (suc n) before go = go n
outer_step stays n before go = go n

-- the payloads before the innermost open body, or nothing where it is the root; `n` closed bodies lie behind
abbrev pub outer_from : (n : ℕ) → (before : List Payload) → Option (List Payload)
outer_from n [] = None
outer_from n (p ∷ before) = outer_step (nesting p) n before (λ m. outer_from m before)

-- a component has the names of the innermost body that is open behind these payloads
pub record HasNames (names : Names) (before : List Payload) : Type 0 where
  pub imported : HaveSame names.imported (flat_map imported_names (own_payloads before))
  pub exported : HaveSame names.exported (flat_map exported_names (own_payloads before))

-- open components, the innermost last, have the names of the bodies that are open behind these payloads, if there are
-- any
pub data StandsAt : List Names → Option (List Payload) → Type 0 where
  none_open : {open_names : List Names} → open_names ≡ [] → StandsAt open_names None
  one_more : {open_names : List Names} {before : List Payload} (outer : List Names) (names : Names)
      → open_names ≡ outer ++ names ∷ []
      → HasNames names before → open_bodies before ≡ length outer + 1 → StandsAt outer (outer_from 0 before)
      → StandsAt open_names (Some before)

-- the same behind a whole list: the root may have closed
abbrev pub Stands : (open_names : List Names) → (before : List Payload) → Type 0
Stands open_names before = ((open_names ≡ []) × (open_bodies before ≡ 0)) ⊎ StandsAt open_names (Some before)
