-- What an answer says with a types builder that held no types before.
use Rattle.std.proofs.Common.{◌≡◌, ℕ, List, Option, Result, Ok, Err, IfOk, IfErr, subst}
use Rattle.pc_types_lists.specs.Types.{IsBuilder, Types, no_types, types_held}
use Rattle.pc_types.specs.declared.error.Error.{Error}
use Rattle.pc_types.specs.declared.parsed.TypeTable.{TypeTable}
use Rattle.pc_info.specs.declared.component.ComponentTranslation.{ComponentTranslation}
use Rattle.pc_info.specs.declared.module.ModuleTranslation.{ModuleTranslation}
use Rattle.pc_parsed.specs.declared.payload.Payload.{Payload}
use Rattle.pc_translate.specs.Causes.{HasCause}
use Rattle.pc_translate.specs.Translation.{CountsGained, IsPlanOf, IsRefusalOf, Translates}

module _ (t : TypeTable) (exposed : Option (List ℕ)) (limit : ℕ) (ps : List Payload) (old types : Types)
    (fresh : old ≡ no_types) where
  pub plan_alone : IsBuilder types → (r : Result (ComponentTranslation × List ModuleTranslation) Error)
      → IfOk r (λ _. CountsGained t exposed limit (types_held old) ps old types)
      → IfOk r (λ x. Translates t exposed limit (types_held old) ps types x.0 x.1)
      → IfOk r (λ x. IsPlanOf t exposed limit ps x.0 x.1)
  unfolding IsPlanOf
  plan_alone builder (Ok x) gained h = (
    types,
    record {
      builder = builder;
      few = subst (λ (o : Types). CountsGained t exposed limit (types_held o) ps o types) fresh gained;
    },
    subst (λ (o : Types). Translates t exposed limit (types_held o) ps types x.0 x.1) fresh h,
  )
  plan_alone builder (Err e) gained h = tt

-- and a refusal has its cause
pub refusal_alone : (t : TypeTable) (exposed : Option (List ℕ)) (limit : ℕ) (ps : List Payload) (old : Types)
    → old ≡ no_types → (r : Result (ComponentTranslation × List ModuleTranslation) Error)
    → IfErr r (λ e. HasCause t exposed limit (types_held old) ps e) → IfErr r (λ e. IsRefusalOf t exposed limit ps e)
unfolding IsRefusalOf
refusal_alone t exposed limit ps old fresh (Ok x) h = tt
refusal_alone t exposed limit ps old fresh (Err e) h =
    subst (λ (o : Types). HasCause t exposed limit (types_held o) ps e) fresh h
