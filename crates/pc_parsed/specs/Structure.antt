-- The structure of a payload list: which bodies are open at a payload, and what may stand there. A body begins with a
-- version and closes with an end; behind a component section stands a nested body. The payloads before one are given
-- from the last to the first.
use Rattle.std.specs.Prelude.{ℕ, zero, suc, ◌+◌, ◌-◌, Bool, true, false, List, [], ◌∷◌, Option, Some, None}
use Rattle.pc_types.specs.declared.error.Unsupported.TheVariants as unsupported
use Rattle.pc_parsed.specs.declared.fault.StaticFault.{StaticFault}
use Rattle.pc_parsed.specs.declared.fault.StaticFault.TheVariants as fault
use Rattle.pc_parsed.specs.declared.payload.Encoding.{Encoding}
use Rattle.pc_parsed.specs.declared.payload.Encoding.TheVariants as encoding
use Rattle.pc_parsed.specs.declared.payload.Payload.{Payload}
use Rattle.pc_parsed.specs.declared.payload.Payload.TheVariants as payload

-- how a payload stands to the bodies: it opens a nested one, closes the innermost one, or does neither
pub data Nesting : Type 0 where
  opens : Nesting
  closes : Nesting
  stays : Nesting

-- how a payload nests
abbrev pub nesting : Payload → Nesting
nesting payload.ComponentSection = opens
nesting payload.End = closes
nesting _ = stays

-- how many bodies are open behind a payload, where so many were open before it
abbrev pub open_behind : Nesting → ℕ → ℕ
open_behind opens n = n + 1
open_behind closes n = n - 1
open_behind stays n = n

-- how many bodies are open behind these payloads; the root is open from the start
abbrev pub open_bodies : (before : List Payload) → ℕ
open_bodies [] = 1
open_bodies (p ∷ before) = open_behind (nesting p) (open_bodies before)

-- whether a nested body begins
abbrev pub is_opening : Nesting → Bool
is_opening opens = true
is_opening closes = false
is_opening stays = false

-- whether a body begins behind these payloads
abbrev pub is_due : (before : List Payload) → Bool
is_due [] = true
is_due (p ∷ before) = is_opening (nesting p)

-- a payload as one of the innermost open body, where `n` bodies that have closed again lie behind it; `go` goes on with
-- the payloads before it
abbrev pub own_step : Nesting → (n : ℕ) → Payload → (go : ℕ → List Payload) → List Payload
own_step closes n p go = go (suc n)
own_step opens zero p go = []
own_step opens (suc n) p go = go n
own_step stays zero p go = p ∷ go zero
own_step stays (suc n) p go = go (suc n)

-- the payloads of the innermost body, where `n` closed ones lie behind
abbrev pub own_from : (n : ℕ) → (before : List Payload) → List Payload
own_from n [] = []
own_from n (p ∷ before) = own_step (nesting p) n p (λ m. own_from m before)

-- the payloads of the innermost body that is open behind these, without those of bodies nested in it
abbrev pub own_payloads : (before : List Payload) → List Payload
own_payloads before = own_from 0 before

-- the encoding of a version
abbrev pub version_of : Payload → Option Encoding
version_of (payload.Version e) = Some e
version_of _ = None

-- what is wrong with a payload by its place: a version stands where one is due, of a component, and nowhere else
abbrev pub version_fault : (due : Bool) → Option Encoding → Option StaticFault
version_fault true (Some encoding.Component) = None
version_fault true (Some encoding.Module) = Some (fault.Unsupported unsupported.Module)
version_fault true None = Some fault.Malformed
version_fault false (Some e) = Some fault.Malformed
version_fault false None = None

-- the same where so many bodies are open: nothing stands behind the root
abbrev pub structure_fault : (open_count : ℕ) → (due : Bool) → Payload → Option StaticFault
structure_fault zero due p = Some fault.Malformed
structure_fault (suc n) due p = version_fault due (version_of p)
