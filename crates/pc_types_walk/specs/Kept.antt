-- Which exports of an instance type are kept, where those of the entries before are.
use Rattle.std.specs.Prelude.{◌≡◌, ◌⊎◌, ◌+◌, ◌==◌, ◌||◌, ℕ, Bool, true, false, List, [], ◌∷◌, ◌++◌, Option, Some, None}
use Rattle.std.specs.Prelude.{if◌then◌else◌, slice_get}
use Rattle.std.specs.BTreeSet.{BTreeSet, contains}
use Rattle.std.specs.Ordering.{nat_cmp}
use Rattle.pc_types.specs.declared.parsed.Entity.{Entity}
use Rattle.pc_types.specs.declared.parsed.Entity.TheVariants as entity
use Rattle.pc_types.specs.declared.parsed.TypeTable.{TypeTable}
use Rattle.pc_types.specs.Table.{is_resource, is_some_and}
use Rattle.pc_types_walk.specs.Leads.{Part, a_resource, an_instance, number_of}

-- whether a number is in a set
abbrev pub has : BTreeSet ℕ → ℕ → Bool
has s n = contains nat_cmp s n

-- one number more
abbrev pub with_number : ℕ → (ℕ → Bool) → ℕ → Bool
with_number m met n = (m == n) || met n

-- whether a list has items
abbrev pub has_items : List ℕ → Bool
has_items [] = false
has_items (n ∷ ns) = true

-- what an entity names, if it leads to resources: a resource, or an instance type with exports that are kept
abbrev pub part_of : TypeTable → List (List ℕ) → Entity → Option Part
part_of t through (entity.Type_ n) = if is_some_and is_resource (slice_get t.types n) then Some (a_resource n) else None
part_of t through (entity.Instance n) =
    if is_some_and has_items (slice_get through n) then Some (an_instance n) else None
part_of t through _ = None

-- an export that is kept: its place, its name, and what it names
abbrev pub Kept : Type 0
Kept = ℕ × List ℕ × Part

-- its place
abbrev pub place_of : Kept → ℕ
place_of k = k.0

-- the export
abbrev pub export_of : Kept → List ℕ × Part
export_of k = (k.1, k.2)

-- those behind an export, and it itself in front of them if it leads to resources and its number isn't seen before
abbrev pub kept_if : (seen : ℕ → Bool) → (place : ℕ) → List ℕ → Option Part → ((ℕ → Bool) → List Kept) → List Kept
kept_if seen i name None rest = rest seen
kept_if seen i name (Some p) rest =
    if seen (number_of p) then rest seen else (i, name, p) ∷ rest (with_number (number_of p) seen)

-- of the exports from a place on, those that are kept
abbrev pub kept_from : (Entity → Option Part) → (seen : ℕ → Bool) → (place : ℕ) → List (List ℕ × Entity) → List Kept
kept_from part seen i [] = []
kept_from part seen i (x ∷ xs) = kept_if seen i x.0 (part x.1) (λ s. kept_from part s (i + 1) xs)

-- a place is kept, unless its number was seen
abbrev pub KeepsNumber : (place n : ℕ) → (seen seen' : BTreeSet ℕ) → (kept kept' : List ℕ) → Type 0
KeepsNumber i n seen seen' kept kept' =
    ((has seen n ≡ true) × (kept' ≡ kept) × ((q : ℕ) → has seen' q ≡ has seen q))
    ⊎ ((has seen n ≡ false) × (kept' ≡ kept ++ i ∷ []) × ((q : ℕ) → has seen' q ≡ with_number n (has seen) q))

-- the same of one that may lead to no resource
abbrev pub Keeps : (place : ℕ) → Option ℕ → (seen seen' : BTreeSet ℕ) → (kept kept' : List ℕ) → Type 0
Keeps i None seen seen' kept kept' = (kept' ≡ kept) × ((q : ℕ) → has seen' q ≡ has seen q)
Keeps i (Some n) seen seen' kept kept' = KeepsNumber i n seen seen' kept kept'
