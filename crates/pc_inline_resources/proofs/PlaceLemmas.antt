-- The name of an export, at a place of an entry, and its number.
use Rattle.std.proofs.Common.{◌≡◌, ℕ, List, Option, None, Some, sym, ap, subst, ◌∙◌}
use Rattle.std.specs.Prelude.{slice_get, option_and_then}
use Rattle.std.specs.Option.{option_map}
use Rattle.std.proofs.lemmas.Option.{none-some, same_Some, slice_get-map}
use Rattle.pc_entity.specs.declared.string_pool.Atom.{Atom}
use Rattle.pc_types.specs.declared.parsed.DeclType.{DeclType}
use Rattle.pc_types.specs.declared.parsed.DeclType.TheVariants as entry
use Rattle.pc_types.specs.declared.parsed.Entity.{Entity}
use Rattle.pc_types.specs.declared.parsed.TypeTable.{TypeTable}
use Rattle.pc_types_walk.specs.Names.{export_names}
use Rattle.pc_types_walk.specs.Walks.{export_at, exports_of}
use Rattle.pc_inline_names.specs.Numbers.{IsNumber}
use Rattle.pc_inline_state.specs.Frames.{Both}
use Rattle.pc_inline_state.proofs.ZipLemmas.{both_there}

module _ (i : ℕ) (x : List ℕ × Entity) where
  -- the name of an export stands at its place among those of the entry
  entry_named : (o : Option DeclType) → option_and_then (λ e. slice_get (exports_of e) i) o ≡ Some x
      → option_and_then (λ e. slice_get (export_names e) i) o ≡ Some x.0
  entry_named None at = absurd (none-some x at)
  entry_named (Some (entry.Instance exports)) at =
      slice_get-map (λ (e : List ℕ × Entity). e.0) exports i ∙ ap (option_map (λ (e : List ℕ × Entity). e.0)) at
  entry_named (Some (entry.Module imports exports)) at = absurd (none-some x at)
  entry_named (Some _) at = absurd (none-some x at)

  -- so where names have numbers, the export has the number of its name
  pub export_numbered : (names : List (List ℕ)) (t u : TypeTable) (n : ℕ) (o : Option Atom)
      → Both (λ (name : List ℕ) (k : Atom). IsNumber names k name)
      (option_and_then (λ e. slice_get (export_names e) i) (slice_get u.types n)) o
      → u ≡ t → export_at t n i ≡ Some x → (k : Atom) × (o ≡ Some k) × IsNumber names k x.0
  export_numbered names t u n o has same at =
      both_there (λ (name : List ℕ) (k : Atom). IsNumber names k name)
      (option_and_then (λ e. slice_get (export_names e) i) (slice_get u.types n)) o x.0 has
      (entry_named (slice_get u.types n) (subst (λ (v : TypeTable). export_at v n i ≡ Some x) (sym same) at))

  -- the number that an export has is that of its name
  pub export_number_is : (names : List (List ℕ)) (t u : TypeTable) (n : ℕ) (o : Option Atom)
      → Both (λ (name : List ℕ) (k : Atom). IsNumber names k name)
      (option_and_then (λ e. slice_get (export_names e) i) (slice_get u.types n)) o
      → u ≡ t → export_at t n i ≡ Some x → (k : Atom) → o ≡ Some k → IsNumber names k x.0
  export_number_is names t u n o has same at k is =
      let y = export_numbered names t u n o has same at in
      subst (λ (j : Atom). IsNumber names j x.0) (same_Some y.0 k (sym y.1 ∙ is)) y.2
