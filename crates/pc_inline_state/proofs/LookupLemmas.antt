-- Look-ups of memories: by number, and by name; and of the names of exports, by their places.
use Rattle.std.proofs.Common.{◌≡◌, ◌+◌, ℕ, suc, Bool, true, false, List, [], ◌∷◌, Option, Some, None, refl, ap}
use Rattle.std.proofs.Common.{◌∙◌, if◌then◌else◌, arith}
use Rattle.std.specs.Prelude.{slice_get, option_and_then}
use Rattle.std.specs.List.{AllZip}
use Rattle.std.specs.Option.{option_map}
use Rattle.std.specs.Str.{bytes_eq}
use Rattle.std.proofs.lemmas.Option.{none-some, slice_get-map}
use Rattle.pc_entity.specs.Lists.{names_of, value_of}
use Rattle.pc_inline_state.proofs.ZipLemmas.{zip_at}
use Rattle.pc_inline_state.specs.Frames.{Both, neither, both}
use Rattle.pc_inline_state.specs.Bags.{module_export, module_exports}
use Rattle.pc_inline_state.specs.Index.{HasMemories}
use Rattle.pc_inline_state.specs.Instances.{is_wide_named}
use Rattle.pc_spec_reading.specs.Member.{place_from}
use Rattle.pc_types.specs.declared.module_record.ModuleRecord.{ModuleRecord}
use Rattle.pc_types.specs.declared.parsed.CoreEntity.{CoreEntity}
use Rattle.pc_types.specs.declared.parsed.DeclType.{DeclType}
use Rattle.pc_types.specs.declared.parsed.DeclType.TheVariants as entry
use Rattle.pc_types.specs.declared.parsed.TypeTable.{TypeTable}
use Rattle.pc_types.specs.Record.{memory_widths, width_in}
use Rattle.pc_types_walk.specs.Names.{export_names, export_place}

-- whether the memories of a module have 64 bits is as in its record
pub found_memory : (rs : List ModuleRecord) (widths : List (List Bool)) (n i : ℕ) → AllZip HasMemories rs widths
    → option_and_then (λ (ws : List Bool). slice_get ws i) (slice_get widths n)
    ≡ option_and_then (λ (r : ModuleRecord). slice_get (memory_widths r) i) (slice_get rs n)
found_memory rs widths n i h = by (slice_get rs n) (slice_get widths n) (zip_at HasMemories rs widths n h)
  where
    by : (o : Option ModuleRecord) (w : Option (List Bool)) → Both HasMemories o w
        → option_and_then (λ (ws : List Bool). slice_get ws i) w
        ≡ option_and_then (λ (r : ModuleRecord). slice_get (memory_widths r) i) o
    by None None neither = refl
    by None (Some ws) m = elim m [ ]
    by (Some r) None m = elim m [ ]
    by (Some r) (Some ws) (both is) = ap (λ (xs : List Bool). slice_get xs i) is

-- the first place of a name among some entries, counted from a number, and the value there
data Placed {V : Type 0} (es : List (List ℕ × V)) (first : ℕ) : Option ℕ → Option V → Type 0 where
  not_placed : Placed es first None None
  placed_at : {place : ℕ} {value : V} (n : ℕ) (e : List ℕ × V) → place ≡ first + n → slice_get es n ≡ Some e
      → e.1 ≡ value → Placed es first (Some place) (Some value)

placed : {V : Type 0} (es : List (List ℕ × V)) (first : ℕ) (name : List ℕ)
    → Placed es first (place_from first name (names_of es)) (value_of name es)
placed [] first name = not_placed
placed {V} (e ∷ es) first name =
    by (bytes_eq name e.0) (place_from (first + 1) name (names_of es)) (value_of name es) (placed es (first + 1) name)
  where
    by : (b : Bool) (o : Option ℕ) (w : Option V) → Placed es (first + 1) o w
        → Placed (e ∷ es) first (if b then Some first else o) (if b then Some e.1 else w)
    by true o w p = placed_at 0 e (omega arith) refl refl
    by false o w not_placed = not_placed
    by false o w (placed_at n x is at same) = placed_at (suc n) x (omega (arith, is)) at same

-- an export of a module type by the place of its name is that of its name
pub named_width : (t : TypeTable) (n : ℕ) (name : List ℕ)
    → option_and_then (λ (e : List ℕ × CoreEntity). width_in e.1)
    (option_and_then (module_export t n) (export_place t n name))
    ≡ option_and_then (is_wide_named name) (slice_get t.types n)
named_width t n name = by (slice_get t.types n) refl
  where
    of_module : (es : List (List ℕ × CoreEntity)) (o : Option ℕ) (w : Option CoreEntity) → Placed es 0 o w
        → option_and_then (λ (e : List ℕ × CoreEntity). width_in e.1) (option_and_then (λ i. slice_get es i) o)
        ≡ option_and_then width_in w
    of_module es o w not_placed = refl
    of_module es o w (placed_at {place = place} m e is at same) =
        let here : place ≡ m = omega (arith, is) in
        ap (λ i. option_and_then (λ (x : List ℕ × CoreEntity). width_in x.1) (slice_get es i)) here
        ∙ ap (option_and_then (λ (x : List ℕ × CoreEntity). width_in x.1)) at ∙ ap width_in same

    none : (o : Option ℕ) → option_and_then (λ (e : List ℕ × CoreEntity). width_in e.1)
        (option_and_then (λ (i : ℕ). slice_get [] i) o) ≡ None
    none None = refl
    none (Some i) = refl

    at_entry : (e : DeclType) → option_and_then (λ (x : List ℕ × CoreEntity). width_in x.1)
        (option_and_then (λ i. slice_get (module_exports e) i) (place_from 0 name (export_names e)))
        ≡ is_wide_named name e
    at_entry (entry.Module imports exports) =
        of_module exports (place_from 0 name (names_of exports)) (value_of name exports) (placed exports 0 name)
    at_entry (entry.Instance exports) = none (place_from 0 name (names_of exports))
    at_entry e = refl

    by : (o : Option DeclType) → slice_get t.types n ≡ o
        → option_and_then (λ (e : List ℕ × CoreEntity). width_in e.1)
        (option_and_then (λ i. option_and_then (λ x. slice_get (module_exports x) i) (slice_get t.types n))
        (option_and_then (λ x. place_from 0 name (export_names x)) (slice_get t.types n)))
        ≡ option_and_then (is_wide_named name) (slice_get t.types n)
    by None at = rw (at) refl
    by (Some e) at = rw (at) (at_entry e)

-- an export of a module type by its place has its name among the names of the exports of its entry
pub name_at : (t : TypeTable) (n i : ℕ) (x : List ℕ × CoreEntity) → module_export t n i ≡ Some x
    → option_and_then (λ e. slice_get (export_names e) i) (slice_get t.types n) ≡ Some x.0
name_at t n i x is = by (slice_get t.types n) is
  where
    at_entry : (e : DeclType) → slice_get (module_exports e) i ≡ Some x → slice_get (export_names e) i ≡ Some x.0
    at_entry (entry.Module imports exports) at =
        slice_get-map (λ (e : List ℕ × CoreEntity). e.0) exports i
        ∙ ap (option_map (λ (e : List ℕ × CoreEntity). e.0)) at
    at_entry e at = absurd (none-some x at)

    by : (o : Option DeclType) → option_and_then (λ e. slice_get (module_exports e) i) o ≡ Some x
        → option_and_then (λ e. slice_get (export_names e) i) o ≡ Some x.0
    by None at = absurd (none-some x at)
    by (Some e) at = at_entry e at
