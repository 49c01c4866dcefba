-- The first static fault: what is wrong with an input whatever it would do. The type table is looked at first, then the
-- payloads from the first to the last, each item in its order, and then the end of the list.
use Rattle.std.specs.Prelude.{ℕ, Bool, List, [], ◌∷◌, length, map, Option, Some, None, nat_eq, option_map}
use Rattle.std.specs.Prelude.{if◌then◌else◌}
use Rattle.std.specs.List.{flat_map}
use Rattle.std.specs.Option.{option_or}
use Rattle.pc_types.specs.declared.error.Error.{Error}
use Rattle.pc_types.specs.declared.error.Error.TheVariants as error
use Rattle.pc_types.specs.declared.error.Place.{Place}
use Rattle.pc_types.specs.declared.error.Place.TheVariants as place
use Rattle.pc_types.specs.declared.error.Unsupported.TheVariants as unsupported
use Rattle.pc_types.specs.declared.parsed.TypeTable.{TypeTable}
use Rattle.pc_types.specs.Record.{is_sound}
use Rattle.pc_types.specs.Table.{table_error, table_fault}
use Rattle.pc_parsed.specs.declared.fault.StaticFault.{StaticFault}
use Rattle.pc_parsed.specs.declared.fault.StaticFault.TheVariants as fault
use Rattle.pc_parsed.specs.declared.payload.Payload.{Payload}
use Rattle.pc_parsed.specs.declared.payload.Payload.TheVariants as payload
use Rattle.pc_parsed.specs.ItemFaults.{alias_fault, canon_fault, component_instance_fault, export_name, exports_fault}
use Rattle.pc_parsed.specs.ItemFaults.{fault_or, first_item, import_name, imports_fault, instance_fault, unless}
use Rattle.pc_parsed.specs.Structure.{is_due, open_bodies, own_payloads, structure_fault}

-- the error of a fault at a place
abbrev pub fault_error : StaticFault → Place → Error
fault_error fault.Malformed p = error.Malformed p
fault_error (fault.Unsupported u) p = error.Unsupported u p
fault_error fault.BadTable p = error.BadTable p
fault_error fault.DefinedTwice p = error.DefinedTwice p
fault_error fault.BadIntrinsics p = error.BadIntrinsics p
fault_error fault.UnknownIntrinsic p = error.UnknownIntrinsic p

-- the names that a payload exports
abbrev pub exported_names : Payload → List (List ℕ)
exported_names (payload.ComponentExportSection items) = map export_name items
exported_names _ = []

-- the names that a payload imports
abbrev pub imported_names : Payload → List (List ℕ)
imported_names (payload.ComponentImportSection items) = map import_name items
imported_names _ = []

-- what stands around a payload: how many bodies are open, and which names its component has imported and exported
-- before
pub record Around : Type 0 where
  pub open_count : ℕ
  pub imported : List (List ℕ)
  pub exported : List (List ℕ)

-- what stands around a payload that comes behind these
abbrev pub around : (before : List Payload) → Around
around before = record {
  open_count = open_bodies before;
  imported = flat_map imported_names (own_payloads before);
  exported = flat_map exported_names (own_payloads before);
}

-- the name under which the unsafe intrinsics may be imported: by the root alone
abbrev pub exposed_at : (open_count : ℕ) → (exposed : Option (List ℕ)) → Option (List ℕ)
exposed_at n exposed = if nat_eq n 1 then exposed else None

-- the first fault of a payload's content, with the number of its item: 0 where the payload is no list of items
abbrev pub content_fault : TypeTable → (exposed : Option (List ℕ)) → Around → Payload → Option (ℕ × StaticFault)
content_fault t exposed a payload.ComponentStartSection = Some (0, fault.Unsupported unsupported.StartSection)
content_fault t exposed a (payload.ComponentImportSection items) =
    imports_fault t (exposed_at a.open_count exposed) a.imported 0 items
content_fault t exposed a (payload.ComponentCanonicalSection items) = first_item canon_fault 0 items
content_fault t exposed a (payload.ModuleSection r ty) = fault_or 0 (unless (is_sound t r) fault.BadTable) None
content_fault t exposed a (payload.InstanceSection items) = first_item instance_fault 0 items
content_fault t exposed a (payload.ComponentInstanceSection items) = first_item component_instance_fault 0 items
content_fault t exposed a (payload.ComponentExportSection items) = exports_fault a.exported 0 items
content_fault t exposed a (payload.ComponentAliasSection items) = first_item (alias_fault a.open_count) 0 items
content_fault t exposed a _ = None

-- the first fault of a payload, where a version may be due: its place, then its content
abbrev pub payload_fault : TypeTable → (exposed : Option (List ℕ)) → (due : Bool) → Around → Payload
    → Option (ℕ × StaticFault)
payload_fault t exposed due a p = fault_or 0 (structure_fault a.open_count due p) (content_fault t exposed a p)

-- the error of a fault of the payload of this number, or else a later one
abbrev pub error_or : ℕ → Option (ℕ × StaticFault) → Option Error → Option Error
error_or n (Some (item, f)) later = Some (fault_error f (place.Payload n item))
error_or n None later = later

-- the end of the list, where so many bodies are open and so many payloads stand before
abbrev pub end_error : (open_count : ℕ) → (n : ℕ) → Option Error
end_error open_count n = if nat_eq open_count 0 then None else Some (error.Malformed (place.Payload n 0))

-- the first fault of payloads that come behind these, and of the list's end
abbrev pub payloads_error : TypeTable → (exposed : Option (List ℕ)) → (before : List Payload) → List Payload
    → Option Error
payloads_error t exposed before [] = end_error (open_bodies before) (length before)
payloads_error t exposed before (p ∷ ps) =
    error_or (length before) (payload_fault t exposed (is_due before) (around before) p)
    (payloads_error t exposed (p ∷ before) ps)

-- the first static fault of an input, with its place
unfoldable pub static_fault : TypeTable → (exposed : Option (List ℕ)) → List Payload → Option Error
static_fault t exposed ps = option_or (option_map table_error (table_fault t)) (payloads_error t exposed [] ps)
