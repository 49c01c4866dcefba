-- What is found in the tables is what the program and its table have there.
use Rattle.std.proofs.Common.{◌≡◌, ℕ, List, [], Option, None, Some, Contains, refl, sym, ap, subst, ◌∙◌}
use Rattle.std.specs.Prelude.{option_and_then, slice_get}
use Rattle.std.specs.List.{AllZip}
use Rattle.pc_entity.specs.declared.string_pool.Atom.{Atom}
use Rattle.pc_entity.specs.Lists.{AreDistinct}
use Rattle.pc_types.specs.declared.parsed.DeclType.{DeclType}
use Rattle.pc_types.specs.declared.parsed.DeclType.TheVariants as entry
use Rattle.pc_types_walk.specs.Names.{export_names}
use Rattle.pc_spec_reading.specs.Member.{place_from}
use Rattle.pc_inline_names.specs.declared.types.TypeNumbers.{TypeNumbers}
use Rattle.pc_inline_names.specs.Both.{Both, both, neither}
use Rattle.pc_inline_names.specs.Named.{imports_of, module_names}
use Rattle.pc_inline_names.specs.Numbers.{AreImportNumbers, IsNumber, numbered_value}
use Rattle.pc_inline_names.specs.Tables.{AreTypeNumbers, EntryHas, an_entry, no_entry}
use Rattle.pc_inline_names.proofs.AddedLemmas.{Numbered}
use Rattle.pc_inline_names.proofs.PlaceLemmas.{place_alike, place_nowhere}
use Rattle.pc_inline_names.proofs.ZipLemmas.{zip_at}

-- an option of an option, as one
abbrev pub inner : {A : Type 0} → Option (Option A) → Option A
inner None = None
inner (Some o) = o

-- what is kept of an entry of a table
pub entry_at : (names : List (List ℕ)) (es : List DeclType) (xs : List (Option TypeNumbers)) (n : ℕ)
    → AllZip (AreTypeNumbers names) es xs → EntryHas names (slice_get es n) (inner (slice_get xs n))
entry_at names es xs n are = by (slice_get es n) (slice_get xs n) (zip_at (AreTypeNumbers names) es xs n are)
  where
    by : (o : Option DeclType) (w : Option (Option TypeNumbers)) → Both (AreTypeNumbers names) o w
        → EntryHas names o (inner w)
    by None None neither = no_entry
    by None (Some x) m = elim m [ ]
    by (Some e) None m = elim m [ ]
    by (Some e) (Some x) (both has) = an_entry has

-- where the exports of a type have no names, it has none of a module type's exports
nameless : (e : DeclType) → export_names e ≡ [] → module_names e ≡ []
nameless (entry.Module imports exports) none = none
nameless e none = refl

module _ (names : List (List ℕ)) where
  -- the imports of a module type
  pub entry_imports : (o : Option DeclType) (w : Option TypeNumbers) → EntryHas names o w
      → Both (AreImportNumbers names) (option_and_then imports_of o)
      (option_and_then (λ (x : TypeNumbers). x.imports) w)
  entry_imports None None no_entry = neither
  entry_imports None (Some x) m = elim m [ ]
  entry_imports (Some e) None (an_entry has) =
      subst (λ (i : Option _). Both (AreImportNumbers names) i None) (sym has.1) neither
  entry_imports (Some e) (Some x) (an_entry has) = has.imports

  -- the number of the name of an export
  pub entry_export : (o : Option DeclType) (w : Option TypeNumbers) (place : ℕ) → EntryHas names o w
      → Both (Numbered names) (option_and_then (λ e. slice_get (export_names e) place) o)
      (option_and_then (λ (x : TypeNumbers). slice_get x.exports place) w)
  entry_export None None place no_entry = neither
  entry_export None (Some x) place m = elim m [ ]
  entry_export (Some e) None place (an_entry has) =
      subst (λ (es : List (List ℕ)). Both (Numbered names) (slice_get es place) None) (sym has.0) neither
  entry_export (Some e) (Some x) place (an_entry has) =
      zip_at (Numbered names) (export_names e) x.exports place has.exports

  -- the name of an export of a module type
  pub entry_name : (o : Option DeclType) (w : Option TypeNumbers) (place : ℕ) → EntryHas names o w
      → option_and_then (λ (x : TypeNumbers). slice_get x.names place) w
      ≡ option_and_then (λ e. slice_get (module_names e) place) o
  entry_name None None place no_entry = refl
  entry_name None (Some x) place m = elim m [ ]
  entry_name (Some e) None place (an_entry has) =
      sym (ap (λ (ns : List (List ℕ)). slice_get ns place) (nameless e has.0))
  entry_name (Some e) (Some x) place (an_entry has) = ap (λ (ns : List (List ℕ)). slice_get ns place) has.texts

  -- the place of an export, by the number of its name
  pub entry_place : AreDistinct names → (o : Option DeclType) (w : Option TypeNumbers) (n : Atom) (name : List ℕ)
      → EntryHas names o w → IsNumber names n name
      → option_and_then (λ (x : TypeNumbers). numbered_value n x.places) w
      ≡ option_and_then (λ e. place_from 0 name (export_names e)) o
  entry_place distinct None None n name no_entry is = refl
  entry_place distinct None (Some x) n name m is = elim m [ ]
  entry_place distinct (Some e) None n name (an_entry has) is = sym (ap (place_from 0 name) has.0)
  entry_place distinct (Some e) (Some x) n name (an_entry has) is =
      has.places n ∙ place_alike names n name distinct is (export_names e) x.exports 0 has.exports

  -- a name that has no number has no place
  pub entry_nowhere : (o : Option DeclType) (w : Option TypeNumbers) (name : List ℕ) → EntryHas names o w
      → ¬ Contains names name → option_and_then (λ e. place_from 0 name (export_names e)) o ≡ None
  entry_nowhere None None name no_entry absent = refl
  entry_nowhere None (Some x) name m absent = elim m [ ]
  entry_nowhere (Some e) None name (an_entry has) absent = ap (place_from 0 name) has.0
  entry_nowhere (Some e) (Some x) name (an_entry has) absent =
      place_nowhere names name absent (export_names e) x.exports 0 has.exports
