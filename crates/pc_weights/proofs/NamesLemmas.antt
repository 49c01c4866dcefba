-- The names of entries, where each number is cut.
use Rattle.std.proofs.Common.{◌≡◌, ℕ, List, [], ◌∷◌, ◌++◌, map, refl, sym, ap, ◌∙◌}
use Rattle.std.proofs.lemmas.List.{map-append}
use Rattle.pc_types.specs.declared.parsed.DeclType.{DeclType}
use Rattle.pc_types.specs.declared.parsed.DeclType.TheVariants as entry
use Rattle.pc_types.specs.declared.parsed.Entity.{Entity}
use Rattle.pc_types.specs.declared.parsed.Entity.TheVariants as entity
use Rattle.pc_spec_reading.specs.Total.{entity_names, entry_names, export_names, names_from}
use Rattle.pc_weights.specs.Capped.{capped}
use Rattle.pc_weights.proofs.CappedLemmas.{capped_at, capped_sum, capped_sum_by, capped_twice}

-- the names of an entity
pub capped_entity : (ns : List ℕ) (e : Entity) → entity_names (map capped ns) e ≡ capped (entity_names ns e)
capped_entity ns (entity.Func n) = refl
capped_entity ns (entity.Instance n) = capped_at ns n
capped_entity ns (entity.Component n) = refl
capped_entity ns (entity.Module n) = refl
capped_entity ns (entity.Type_ n) = refl
capped_entity ns entity.Value = refl

-- of an export
capped_export : (ns : List ℕ) (x : List ℕ × Entity)
    → capped (export_names (map capped ns) x) ≡ capped (export_names ns x)
capped_export ns x =
    capped_sum 1 (entity_names (map capped ns) x.1) 1 (entity_names ns x.1) refl
    (ap capped (capped_entity ns x.1) ∙ capped_twice (entity_names ns x.1))

-- of an entry
pub capped_entry : (ns : List ℕ) (e : DeclType) → capped (entry_names (map capped ns) e) ≡ capped (entry_names ns e)
capped_entry ns entry.Resource = refl
capped_entry ns (entry.Func a b c) = refl
capped_entry ns (entry.Val a) = refl
capped_entry ns (entry.Record a) = refl
capped_entry ns (entry.Variant a) = refl
capped_entry ns (entry.List a) = refl
capped_entry ns (entry.Tuple a) = refl
capped_entry ns (entry.Flags a) = refl
capped_entry ns (entry.Enum a) = refl
capped_entry ns (entry.Option a) = refl
capped_entry ns (entry.Result a b) = refl
capped_entry ns (entry.Own a) = refl
capped_entry ns (entry.Borrow a) = refl
capped_entry ns (entry.Stream a) = refl
capped_entry ns (entry.Future a) = refl
capped_entry ns (entry.Instance exports) =
    capped_sum_by (export_names (map capped ns)) (export_names ns) (capped_export ns) exports
capped_entry ns (entry.Component a b) = refl
capped_entry ns (entry.Module a b) = refl

-- the names of one entry more
names_push : (ns : List ℕ) (es : List DeclType) (e : DeclType)
    → names_from ns (es ++ e ∷ []) ≡ names_from ns es ++ entry_names (names_from ns es) e ∷ []
names_push ns [] e = refl
names_push ns (d ∷ es) e = names_push (ns ++ entry_names ns d ∷ []) es e

-- one entry further: its names are counted with those before, which are cut
pub names_further : (es : List DeclType) (e : DeclType) (ns : List ℕ) (n : ℕ) → ns ≡ map capped (names_from [] es)
    → n ≡ capped (entry_names ns e) → ns ++ n ∷ [] ≡ map capped (names_from [] (es ++ e ∷ []))
names_further es e ns n are is =
    let before = names_from [] es in
    let counted : n ≡ capped (entry_names before e) =
    is ∙ ap (λ (ms : List ℕ). capped (entry_names ms e)) are ∙ capped_entry before e in
    (λ i. are i ++ counted i ∷ []) ∙ sym (map-append capped before (entry_names before e ∷ []))
    ∙ ap (map capped) (sym (names_push [] es e))
