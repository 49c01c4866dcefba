-- All that the step of an item promises.
use Rattle.std.proofs.Common.{◌≡◌, ℕ, List, refl, ap, ◌∙◌}
use Rattle.pc_numbers.specs.declared.runtime.RuntimeComponentInstanceIndex.{RuntimeComponentInstanceIndex}
use Rattle.pc_types.specs.declared.parsed.TypeTable.{TypeTable}
use Rattle.pc_types_lists.specs.Types.{Types}
use Rattle.pc_dfg.specs.Lists.{ListName}
use Rattle.pc_inline_state.specs.declared.frame.Change.{Change}
use Rattle.pc_inline_state.specs.Adds.{Adds}
use Rattle.pc_inline_state.specs.AddsEach.{AddsEach}
use Rattle.pc_inline_state.specs.Tables.{Keeps, Tables}
use Rattle.pc_inline_state.specs.Trails.{Trails}
use Rattle.pc_inline_state.proofs.AddsLemmas.{adds_refl}
use Rattle.pc_inline_state.proofs.StateLemmas.{keeps_refl}
use Rattle.pc_inline_state.proofs.TrailLemmas.{trails_refl, trails_same}

-- where it changed no table and no resource
pub unmoved : {t : TypeTable} {w : ℕ} {b : Tables} {cs : List Change} {x : RuntimeComponentInstanceIndex} {S : Type 0}
    → S
    → record {
      keeps : Keeps b b;
      adds : Adds t w b b;
      trail : Trails cs b.types.resources cs b.types.resources;
      same : x ≡ x;
      steps : S;
    }
unmoved {t = t} {w = w} {b = b} {cs = cs} steps = record {
  keeps = keeps_refl b;
  adds = adds_refl t w b;
  trail = trails_refl cs b.types.resources;
  same = refl;
  steps = steps;
}

-- where it may have changed some tables, and no resource
pub made : {t : TypeTable} {w : ℕ} {a b : Tables} {cs : List Change} {x : RuntimeComponentInstanceIndex} {S : Type 0}
    → Keeps a b → Adds t w a b → b.types.resources ≡ a.types.resources → S
    → record {
      keeps : Keeps a b;
      adds : Adds t w a b;
      trail : Trails cs a.types.resources cs b.types.resources;
      same : x ≡ x;
      steps : S;
    }
made {a = a} {b = b} {cs = cs} keeps adds resources steps = record {
  keeps = keeps;
  adds = adds;
  trail = trails_same cs a.types.resources cs b.types.resources refl resources;
  same = refl;
  steps = steps;
}

module _ {f : ListName → ℕ} {n m : ℕ} {a b : Tables} (first : AddsEach f n m a b) where
  -- what adds no types leaves the resources
  pub resources_same : b.types.resources ≡ a.types.resources
  resources_same = ap (λ (t : Types). t.resources) first.types

  -- twice
  pub resources_twice : {g : ListName → ℕ} {k l : ℕ} {c : Tables} → AddsEach g k l b c
      → c.types.resources ≡ a.types.resources
  resources_twice second = ap (λ (t : Types). t.resources) (second.types ∙ first.types)
