-- What component instances export names what was made before them.
use Rattle.std.specs.Prelude.{◌≡◌, ◌<◌, ℕ, List, Contains, Some, length, slice_get}
use Rattle.pc_entity.specs.declared.string_pool.Atom.{Atom}
use Rattle.pc_inline_state.specs.declared.definition.Definition.{Definition}
use Rattle.pc_inline_state.specs.declared.definition.DefinitionId.{DefinitionId}
use Rattle.pc_inline_state.specs.declared.definition.ExportsId.{ExportsId}
use Rattle.pc_inline_state.specs.declared.state.Member.{Member}
use Rattle.pc_inline_state.specs.Definitions.{exports_of}

-- the definition that a member is
abbrev pub item_of : Member → DefinitionId
item_of m = m.item

-- a definition is an instance that exports what this number says
abbrev pub IsInstanceOf : List Definition → ℕ → ExportsId → Type 0
IsInstanceOf ds n k = (d : Definition) × (slice_get ds n ≡ Some d) × (exports_of d ≡ Some k)

-- each instance exports what one of the lists says, and an instance that one of them names exports what an earlier one
-- says
pub record AreEarlier (ds : List Definition) (lists : List (List (Atom × Member))) : Type 0 where
  pub there : (n : ℕ) (k : ExportsId) → IsInstanceOf ds n k → k.0 < length lists
  pub held : (k : ℕ) (es : List (Atom × Member)) (e : Atom × Member) → slice_get lists k ≡ Some es
      → Contains es e → e.1.item.0 < length ds
  pub earlier : (k : ℕ) (es : List (Atom × Member)) (e : Atom × Member) (j : ExportsId)
      → slice_get lists k ≡ Some es → Contains es e → IsInstanceOf ds e.1.item.0 j → j.0 < k
