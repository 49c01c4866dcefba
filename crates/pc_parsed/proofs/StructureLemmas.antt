-- Bodies that close again: what is known behind them is what was known before they opened.
use Rattle.std.proofs.Common.{◌≡◌, ℕ, zero, suc, List, [], ◌∷◌, Option, Some, None, refl}
use Rattle.pc_parsed.specs.declared.payload.Payload.{Payload}
use Rattle.pc_parsed.specs.Names.{outer_from, outer_step}
use Rattle.pc_parsed.specs.Structure.{Nesting, opens, closes, stays, nesting, own_from, own_step}

-- the payloads of a body that is open behind these, if there is one
abbrev pub own_of : Option (List Payload) → List Payload
own_of None = []
own_of (Some before) = own_from 0 before

-- the payloads before the body around it
abbrev pub outer_of : Option (List Payload) → Option (List Payload)
outer_of None = None
outer_of (Some before) = outer_from 0 before

-- behind one more closed body are the payloads of the body around it
pub own_behind : (n : ℕ) (before : List Payload) → own_from (suc n) before ≡ own_of (outer_from n before)
own_behind n [] = refl
own_behind n (p ∷ before) = by (nesting p) n (λ m. own_behind m before)
  where
    by : (k : Nesting) (m : ℕ) → ((l : ℕ) → own_from (suc l) before ≡ own_of (outer_from l before))
        → own_step k (suc m) p (λ l. own_from l before) ≡ own_of (outer_step k m before (λ l. outer_from l before))
    by closes m next = next (suc m)
    by opens zero next = refl
    by opens (suc m) next = next m
    by stays m next = next m

-- and the body around that one stands around
pub outer_behind : (n : ℕ) (before : List Payload) → outer_from (suc n) before ≡ outer_of (outer_from n before)
outer_behind n [] = refl
outer_behind n (p ∷ before) = by (nesting p) n (λ m. outer_behind m before)
  where
    by : (k : Nesting) (m : ℕ) → ((l : ℕ) → outer_from (suc l) before ≡ outer_of (outer_from l before))
        → outer_step k (suc m) before (λ l. outer_from l before)
        ≡ outer_of (outer_step k m before (λ l. outer_from l before))
    by closes m next = next (suc m)
    by opens zero next = refl
    by opens (suc m) next = next m
    by stays m next = next m
