-- Names that are exported in their order.
use Rattle.std.proofs.Common.{◌≡◌, ℕ, ◌+◌, Bool, true, false, cond, List, [], ◌∷◌, ◌++◌, None, Some, take}
use Rattle.std.proofs.Common.{if◌then◌else◌, map-id, refl, sym, ap, subst, ◌∙◌, Result, Ok, Err}
use Rattle.std.specs.Prelude.{slice_get, OnOk}
use Rattle.std.specs.Map.{lookup}
use Rattle.std.specs.Str.{bytes_eq}
use Rattle.std.proofs.lemmas.Option.{none-some}
use Rattle.pc_entity.specs.Lists.{AreDistinct, names_of, value_of}
use Rattle.pc_entity.proofs.Growing.{take-next}
use Rattle.pc_names.specs.Contents.{Contents, no_names}
use Rattle.pc_names.specs.Inserted.{definitions_of, last_value}
use Rattle.pc_names.proofs.CallerLemmas.{definitions-plain, definitions_of-new}
use Rattle.pc_names.proofs.LastValueLemmas.{lookup-definitions_of}
use Rattle.pc_names.proofs.StandingLemmas.{StandsFor-nothing}
use Rattle.pc_dfg.specs.Lists.{NamedExport}
use Rattle.pc_dfg_finish.specs.Exports.{AddsName, IsNamed, Lacks, Names, Target}
use Rattle.pc_dfg_finish.proofs.NamedLemmas.{next_absent}

-- what is ensured of an answer, where it is one or a refusal
pub ok_has : {T E : Type 0} (r : Result T E) (x : T) (P : Type 0) → r ≡ Ok x → P → OnOk r P
ok_has r x P is p = subst (λ q. OnOk q P) (sym is) p

pub err_has : {T E : Type 0} (r : Result T E) (e : E) (P : Type 0) → r ≡ Err e → OnOk r P
err_has r e P is = subst (λ q. OnOk q P) (sym is) tt

-- no names
pub names_none : IsNamed [] no_names
names_none = record { definitions = refl; finds = StandsFor-nothing (λ text key. key ≡ text) }

-- a look-up of a name that no entry has
first_value : {V : Type 0} (name : List ℕ) (es : List (List ℕ × V)) → value_of name es ≡ None
    → lookup (bytes_eq name) es ≡ None
first_value name [] h = refl
first_value {V} name (e ∷ es) h = by (bytes_eq name e.0) h (first_value name es)
  where
    by : (b : Bool) → (if b then Some e.1 else value_of name es) ≡ None
        → (value_of name es ≡ None → lookup (bytes_eq name) es ≡ None)
        → cond b (Some e.1) (lookup (bytes_eq name) es) ≡ None
    by true k rest = absurd (none-some e.1 (sym k))
    by false k rest = rest k

module _ (es : List NamedExport) (i : ℕ) (e : NamedExport) (at : slice_get es i ≡ Some e)
    (distinct : AreDistinct (names_of es)) (map : Contents (List ℕ) Target) (named : IsNamed (take i es) map) where
  defined : definitions_of (take i es) ≡ take i es
  defined = sym (definitions-plain map (take i es) named.finds) ∙ named.definitions

  not_yet : last_value (take i es) e.0 ≡ None
  not_yet =
      sym (lookup-definitions_of (take i es) e.0)
      ∙ ap (lookup (bytes_eq e.0)) defined
      ∙ first_value e.0 (take i es)
      (sym (ap (value_of e.0) (map-id (take i es))) ∙ next_absent (λ (x : Target). x) es i e distinct at)

  -- the next name is absent
  pub name_lacks : Lacks map e.0
  name_lacks = (take i es, named.finds, not_yet)

  -- and is the next one after it was added
  pub name_next : (new : Contents (List ℕ) Target) (value : Target) → value ≡ e.1 → AddsName map new e.0 value
      → IsNamed (take (i + 1) es) new
  name_next new value is adds =
      let added : Names new (take i es ++ e ∷ []) =
      subst (λ (t : Target). Names new (take i es ++ (e.0, t) ∷ [])) is (adds (take i es) named.finds) in
      let all : definitions_of (take i es ++ e ∷ []) ≡ take i es ++ e ∷ [] =
      definitions_of-new (take i es) e.0 e.1 not_yet ∙ ap (λ ds. ds ++ e ∷ []) defined in
      subst (λ ns. IsNamed ns new) (sym (take-next es i e at)) (record {
        definitions = definitions-plain new (take i es ++ e ∷ []) added ∙ all;
        finds = added;
      })
