-- Adapters of a graph as members of a module.
use Rattle.std.specs.Prelude.{◌≡◌, ℕ, ◌+◌, List, [], ◌∷◌, length, map, Some}
use Rattle.pc_trampoline.specs.declared.part.Mark.{Mark}
use Rattle.pc_trampoline.specs.declared.part.Mark.TheVariants as mark
use Rattle.pc_dfg.specs.declared.adapter.Adapter.{Adapter}
use Rattle.pc_spec_adapt.specs.Import.{entity_of}
use Rattle.pc_spec_adapt.specs.Record.{Member, signature_of}
use Rattle.pc_adapt_modules.specs.Entities.{entities_for, signature_number}

-- a member of a module is the adapter of this number, and its imports are imported as those of the adapter
pub record IsMember (n : ℕ) (x : Adapter) (m : Member Mark) : Type 0 where
  pub number : m.number ≡ n
  pub signature : signature_of m.adapter ≡ Some (mark.Signature x.lower_options.core_type)
  pub entities : map (entity_of signature_number) m.imports ≡ entities_for x (length m.imports)

-- the members of a module are these adapters, the first of which has this number
abbrev pub AreMembers : ℕ → List Adapter → List (Member Mark) → Type 0
AreMembers n [] [] = Unit {0}
AreMembers n [] (m ∷ ms) = ⊥
AreMembers n (x ∷ xs) [] = ⊥
AreMembers n (x ∷ xs) (m ∷ ms) = IsMember n x m × AreMembers (n + 1) xs ms

-- each adapter with how many imports it has
abbrev pub pairs : List Adapter → List (Member Mark) → List (Adapter × ℕ)
pairs [] ms = []
pairs (x ∷ xs) [] = []
pairs (x ∷ xs) (m ∷ ms) = (x, length m.imports) ∷ pairs xs ms

-- the core signatures of adapters as functions
abbrev pub signatures_of : List Adapter → List ℕ
signatures_of xs = map (λ (x : Adapter). x.lower_options.core_type.0) xs
