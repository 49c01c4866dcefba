-- Which errors a static fault is answered with. For the layers above too.
use Rattle.std.proofs.Common.{◌≡◌, ℕ, Bool, true, false, List, [], ◌∷◌, length, Option, Some, None, subst}
use Rattle.std.specs.Prelude.{nat_eq, option_map, if◌then◌else◌, ⊤}
use Rattle.std.specs.Option.{option_or}
use Rattle.pc_types.specs.declared.error.Error.{Error}
use Rattle.pc_types.specs.declared.error.Error.TheVariants as error
use Rattle.pc_types.specs.declared.error.Place.{Place}
use Rattle.pc_types.specs.declared.error.Place.TheVariants as place
use Rattle.pc_types.specs.declared.parsed.TypeTable.{TypeTable}
use Rattle.pc_types.specs.Table.{EntryFault, bad_entry, value_entry, table_error, table_fault}
use Rattle.pc_parsed.specs.declared.fault.StaticFault.{StaticFault}
use Rattle.pc_parsed.specs.declared.fault.StaticFault.TheVariants as fault
use Rattle.pc_parsed.specs.declared.payload.Payload.{Payload}
use Rattle.pc_parsed.specs.StaticFault.{around, error_or, fault_error, payload_fault, payloads_error, static_fault}
use Rattle.pc_parsed.specs.Structure.{is_due, open_bodies}

-- an error of one of the kinds of static faults
abbrev pub IsStatic : Error → Type 0
IsStatic (error.Malformed p) = ⊤
IsStatic (error.BadTable p) = ⊤
IsStatic (error.Unsupported u p) = ⊤
IsStatic (error.BadIntrinsics p) = ⊤
IsStatic (error.UnknownIntrinsic p) = ⊤
IsStatic (error.DefinedTwice p) = ⊤
IsStatic (error.Invalid p) = ⊥
IsStatic (error.BadType p) = ⊥
IsStatic (error.BadOptions p) = ⊥
IsStatic error.TooManyInstances = ⊥
IsStatic error.TooMany = ⊥
IsStatic error.NoMemory = ⊥

-- what is found is what is known
found_static : (x e : Error) → Some x ≡ Some e → IsStatic x → IsStatic e
found_static x e h known = subst IsStatic (the x e h) known
  where
    the : (a b : Error) → Some a ≡ Some b → a ≡ b
    the a b h = cc

error_static : (f : StaticFault) (p : Place) → IsStatic (fault_error f p)
error_static fault.Malformed p = tt
error_static (fault.Unsupported u) p = tt
error_static fault.BadTable p = tt
error_static fault.DefinedTwice p = tt
error_static fault.BadIntrinsics p = tt
error_static fault.UnknownIntrinsic p = tt

entry_static : (o : Option (ℕ × EntryFault)) (e : Error) → option_map table_error o ≡ Some e → IsStatic e
entry_static None e h = cc
entry_static (Some (n, bad_entry)) e h = found_static (error.BadTable (place.Table n)) e h tt
entry_static (Some (n, value_entry)) e h = found_static (table_error (n, value_entry)) e h tt

payloads_static : (t : TypeTable) (exposed : Option (List ℕ)) (before ps : List Payload) (e : Error)
    → payloads_error t exposed before ps ≡ Some e → IsStatic e
payloads_static t exposed before [] e h = by (nat_eq (open_bodies before) 0) h
  where
    by : (b : Bool) → (if b then None else Some (error.Malformed (place.Payload (length before) 0))) ≡ Some e
        → IsStatic e
    by true h = cc
    by false h = found_static (error.Malformed (place.Payload (length before) 0)) e h tt
payloads_static t exposed before (p ∷ ps) e h =
    by (payload_fault t exposed (is_due before) (around before) p) h (payloads_static t exposed (p ∷ before) ps e)
  where
    by : (o : Option (ℕ × StaticFault)) → error_or (length before) o (payloads_error t exposed (p ∷ before) ps) ≡ Some e
        → (payloads_error t exposed (p ∷ before) ps ≡ Some e → IsStatic e) → IsStatic e
    by None h later = later h
    by (Some (item, f)) h later =
        found_static (fault_error f (place.Payload (length before) item)) e h
        (error_static f (place.Payload (length before) item))

-- a static fault is answered with one of these
pub static_kind : (t : TypeTable) (exposed : Option (List ℕ)) (ps : List Payload) (e : Error)
    → static_fault t exposed ps ≡ Some e → IsStatic e
unfolding static_fault
static_kind t exposed ps e h = by (option_map table_error (table_fault t)) h (entry_static (table_fault t) e)
  where
    by : (o : Option Error) → option_or o (payloads_error t exposed [] ps) ≡ Some e → (o ≡ Some e → IsStatic e)
        → IsStatic e
    by None h entry = payloads_static t exposed [] ps e h
    by (Some x) h entry = entry h
