-- The modules of adapters in a plan, against the adapters that a reading makes.
use Rattle.std.specs.Prelude.{◌≡◌, ◌↔◌, ◌+◌, ◌++◌, ℕ, Bool, true, List, [], All, length, map, None, Some, slice_get}
use Rattle.std.specs.List.{flat_map}
use Rattle.pc_types.specs.declared.module_record.ModuleRecord.{ModuleRecord}
use Rattle.pc_types_lists.specs.Types.{Types}
use Rattle.pc_spec_plan.specs.CoreValue.{CoreValue, map_value}
use Rattle.pc_spec_plan.specs.Log.{Instantiation, of_static}
use Rattle.pc_spec_plan.specs.Machine.{RuntimeInstance, State}
use Rattle.pc_trampoline.specs.declared.part.Mark.{Mark}
use Rattle.pc_spec_adapt.specs.Import.{map_import}
use Rattle.pc_spec_adapt.specs.Needs.{Needs, adapters_of}
use Rattle.pc_spec_adapt.specs.Planned.{planned}
use Rattle.pc_spec_adapt.specs.Record.{Member}
use Rattle.pc_spec_adapt.specs.Split.{IsFewest}
use Rattle.pc_info.specs.declared.module.ModuleTranslation.{ModuleTranslation}
use Rattle.pc_info.specs.Modules.{without_facts}
use Rattle.pc_parsed.specs.Mark as reading
use Rattle.pc_spec_reading.specs.Reading.{Reading}
use Rattle.pc_spec_wiring.specs.Opaque.{IsTransparentIn}
use Rattle.pc_adapt_partition.specs.Adapted.{AreModulesOf, numbers_of, values_for}
use Rattle.pc_inline_state.specs.Holds.{Numbered, ReadsAs, number_of, whole_of}
use Rattle.pc_translate.specs.Adapters.{lift_facts, lift_width, lower_facts, lower_width}

-- a module as it was handed in
abbrev pub as_handed_in : ModuleRecord → ModuleTranslation
as_handed_in r = without_facts r []

-- a member of a module of adapters with its marks mapped
abbrev pub map_member : {τ υ : Type 0} → (τ → υ) → Member τ → Member υ
map_member f m =
    record { number = m.number; adapter = map_value f m.adapter; imports = map (map_import f) m.imports }

module _ (types : Types) (ms : List ModuleRecord) (r : Reading) where
  -- a member of a module of adapters, with each type and signature as a number and whole
  abbrev pub NumberedMember : Type 0
  NumberedMember = Member (Numbered types (ReadsAs r.imported_resources))

  -- with numbers
  abbrev pub with_numbers : List NumberedMember → List (Member Mark)
  with_numbers members = map (map_member (number_of types (ReadsAs r.imported_resources))) members

  -- its adapter, with whole types
  abbrev pub whole_adapter : NumberedMember → CoreValue reading.Mark
  whole_adapter m = map_value (whole_of types (ReadsAs r.imported_resources)) m.adapter

  -- what is imported for an adapter is what is planned for it, by its types, by whether it is transparent, and by the
  -- widths of its memories
  pub record IsPlanned (m : NumberedMember) : Type 0 where
    pub transparent : Bool
    pub told : (transparent ≡ true) ↔ IsTransparentIn r.log r.nodes (whole_adapter m)
    pub imports : m.imports
        ≡ planned (lift_facts (whole_adapter m)) (lower_facts (whole_adapter m)) transparent
        (lift_width ms r (whole_adapter m)) (lower_width ms r (whole_adapter m)) m.adapter

  -- a core module is made of one of these groups of adapters: it is given what is imported for them, one after the other
  abbrev pub IsGivenPlanned : List (List NumberedMember) → Instantiation Mark → Type 0
  IsGivenPlanned groups i =
      (k : ℕ) × (members : List NumberedMember) × (slice_get groups k ≡ Some members)
      × (i ≡ of_static (length ms + k) (values_for (with_numbers members)))

  -- the adapters of a reading in the modules of a plan, whose run ends in this state
  pub record Adapts (modules : List ModuleTranslation) (last : State Mark) : Type 0 where
    -- all adapters that the reading makes, in order, in groups
    pub groups : List (List NumberedMember)
    pub adapters : map whole_adapter (flat_map (λ (g : List NumberedMember). g) groups) ≡ adapters_of r.log
    -- numbered in that order, none of a group needs another of the same group; and there are no fewer groups of which
    -- that holds
    pub fewest : IsFewest (Needs r.log) (length (adapters_of r.log))
        (map (λ (g : List NumberedMember). numbers_of (with_numbers g)) groups)
    pub planned : All IsPlanned (flat_map (λ (g : List NumberedMember). g) groups)
    -- behind the modules that were handed in stands one for each group: it imports, defines and exports what its
    -- adapters ask for, and what is said of these is where they find that
    pub added : List ModuleTranslation
    pub modules_are : modules ≡ map as_handed_in ms ++ added
    pub are : AreModulesOf (length ms) (map with_numbers groups) added
    -- a core instance that is none of a component instance is made of one of them
    pub given : (n : ℕ) (m : RuntimeInstance Mark) → slice_get last.instances n ≡ Some m
        → m.component_instance ≡ None → IsGivenPlanned groups m.instantiation
