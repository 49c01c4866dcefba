-- What becomes of a graph when an entry is put into one of its lists.
use Rattle.std.specs.Prelude.{◌≡◌, ◌⊎◌, ℕ, List, [], ◌∷◌, ◌++◌, ◌+◌, length, Contains, Option, Some, slice_get}
use Rattle.std.specs.Prelude.{slice_set}
use Rattle.pc_entity.specs.declared.packed_option.PackedOption.{PackedOption}
use Rattle.pc_entity.specs.declared.packed_option.PackedOption.TheVariants as packed
use Rattle.pc_numbers.specs.declared.module_entity.ModuleInternedTypeIndex.{ModuleInternedTypeIndex}
use Rattle.pc_numbers.specs.declared.runtime.RuntimeComponentInstanceIndex.{RuntimeComponentInstanceIndex}
use Rattle.pc_dfg.specs.declared.dfg.ComponentDfg.{ComponentDfg}
use Rattle.pc_dfg.specs.declared.instance.Instance.{Instance}
use Rattle.pc_dfg.specs.declared.instance.Resource.{Resource}
use Rattle.pc_dfg.specs.declared.instance.SideEffect.TheVariants as effect

-- the list is as it was, or has this entry at its end
abbrev pub Changes : {V : Type 0} → List V → List V → V → Type 0
Changes old new entry = (new ≡ old) ⊎ (new ≡ old ++ entry ∷ [])

-- and it is as it was where it had the entry
abbrev pub IsPut : {V : Type 0} → List V → List V → V → Type 0
IsPut old new entry = Changes old new entry × (Contains old entry → new ≡ old)

-- a graph with one more component instance
abbrev pub with_component_instance : ComponentDfg → ComponentDfg
with_component_instance g = record g { num_runtime_component_instances = g.num_runtime_component_instances + 1 }

-- a graph with one more core instance and the side effect that makes it
abbrev pub with_instance : ComponentDfg → Instance → RuntimeComponentInstanceIndex → ComponentDfg
with_instance g instance owner = record g {
  instances = g.instances ++ instance ∷ [];
  side_effects = g.side_effects ++ effect.Instance (record { 0 = length g.instances }) owner ∷ [];
}

-- a graph with one more resource and the side effect that declares it
abbrev pub with_resource : ComponentDfg → Resource → ComponentDfg
with_resource g resource = record g {
  resources = g.resources ++ resource ∷ [];
  side_effects = g.side_effects ++ effect.Resource (record { 0 = length g.resources }) ∷ [];
}

-- the core signature that stands: the one that is held, or else this one
abbrev pub first_signature : Option (PackedOption ModuleInternedTypeIndex) → ModuleInternedTypeIndex
    → ModuleInternedTypeIndex
first_signature (Some (packed.Some held)) signature = held
first_signature _ signature = signature

-- a graph in which the unsafe intrinsic at a place has this core signature
abbrev pub with_signature : ComponentDfg → (place : ℕ) → ModuleInternedTypeIndex → ComponentDfg
with_signature g place s = record g { unsafe_intrinsics = slice_set g.unsafe_intrinsics place (packed.Some s) }

-- a graph in which it has this core signature unless it had one
abbrev pub with_intrinsic : ComponentDfg → (place : ℕ) → ModuleInternedTypeIndex → ComponentDfg
with_intrinsic g place s = with_signature g place (first_signature (slice_get g.unsafe_intrinsics place) s)
