-- Which numbers of the types builder entries and signatures of the table have.
use Rattle.std.specs.Prelude.{◌≡◌, ◌⊎◌, ℕ, true, false, List, [], Option, None, Some, slice_get}
use Rattle.pc_numbers.specs.declared.module_entity.ModuleInternedTypeIndex.{ModuleInternedTypeIndex}
use Rattle.pc_types.specs.declared.parsed.CoreFuncSig.{CoreFuncSig}
use Rattle.pc_types.specs.declared.parsed.TypeTable.{TypeTable}
use Rattle.pc_types.specs.declared.type_index.TypeFuncIndex.{TypeFuncIndex}
use Rattle.pc_types.specs.declared.types.TypeDef.TheVariants as def
use Rattle.pc_types.specs.Table.{is_func}
use Rattle.pc_types_lists.specs.Types.{Resources, Types}
use Rattle.pc_types_builder.specs.Trees.{IsEntry}
use Rattle.pc_spec_reading.specs.Types.{has_entry}
use Rattle.pc_inline_state.specs.declared.numbers.Numbers.{Numbers}

-- no resource is known, and types are converted in the root
abbrev pub no_resources : Resources
no_resources = record { known = []; current = record { 0 = 0 } }

-- the number is that of signature `n` of the table
abbrev pub IsSignature : Types → TypeTable → ℕ → ModuleInternedTypeIndex → Type 0
IsSignature types t n i =
    (s : CoreFuncSig) × (slice_get t.core_funcs n ≡ Some s) × (slice_get types.signatures i.0 ≡ Some s)

-- each signature that has a number has its own
abbrev pub AreSignatures : Types → TypeTable → List (Option ModuleInternedTypeIndex) → Type 0
AreSignatures types t numbers =
    (n : ℕ) (i : ModuleInternedTypeIndex) → slice_get numbers n ≡ Some (Some i) → IsSignature types t n i

-- the numbers are those of the table's signatures
pub record AreNumbers (types : Types) (t : TypeTable) (x : Numbers) : Type 0 where
  pub signatures : AreSignatures types t x.signatures.items

-- the numbers are those of a function type and of a core signature of the table
pub record AreOfFunction (types : Types) (t : TypeTable) (ty core : ℕ) (n : TypeFuncIndex) (s : ModuleInternedTypeIndex)
    : Type 0 where
  pub there : has_entry t is_func ty ≡ true
  pub entry : IsEntry types t ty (def.ComponentFunc n)
  pub signature : IsSignature types t core s

-- the table has no such function type, or it has, and no such core signature
abbrev pub HasNoFunction : TypeTable → (ty core : ℕ) → Type 0
HasNoFunction t ty core =
    (has_entry t is_func ty ≡ false)
    ⊎ ((has_entry t is_func ty ≡ true) × (slice_get t.core_funcs core ≡ None))
