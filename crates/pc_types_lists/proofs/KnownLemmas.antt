-- The known resources against the sorted map that holds them.
use Rattle.std.proofs.Common.{◌≡◌, ℕ, List, [], ◌∷◌, Option, Some, if◌then◌else◌, ◌==◌, refl, sym, ◌∙◌}
use Rattle.std.specs.Ordering.{nat_cmp}
use Rattle.std.specs.Map.{lookup}
use Rattle.std.specs.BTreeMap.{BTreeMap, is_at, Updates}
use Rattle.std.specs.Cmp.{unsigned_tied, nat_eq_equiv}
use Rattle.pc_numbers.specs.declared.runtime.ResourceIndex.{ResourceIndex}
use Rattle.pc_types_lists.specs.Known.{resource_of}

-- a look-up in the map is the resource of that number
pub resource_of-get : (es : List (ℕ × ResourceIndex)) (n : ℕ) → resource_of es n ≡ lookup (is_at (nat_cmp n)) es
resource_of-get [] n = refl
resource_of-get (e ∷ es) n = λ i. if sym (unsigned_tied n e.0) i then Some e.1 else resource_of-get es n i

-- the known resources after a change of the map
pub resource_of-put : (m n : BTreeMap ℕ ResourceIndex) (k : ℕ) (x : Option ResourceIndex) → Updates nat_cmp m n k x
    → (q : ℕ)
    → resource_of n.entries q ≡ (if q == k then x else resource_of m.entries q)
resource_of-put m n k x updates q =
    resource_of-get n.entries q ∙ updates.0 q
    ∙ (λ i. if (unsigned_tied k q ∙ nat_eq_equiv.symm k q) i then x else sym (resource_of-get m.entries q) i)
