-- What is recorded of modules is not seen in a plan.
use Rattle.std.proofs.Common.{◌≡◌, ◌+◌, ℕ, suc, Bool, true, false, List, [], ◌∷◌, ◌++◌, cond, length, map, filter, refl, ap}
use Rattle.pc_info.specs.declared.component.ComponentTranslation.{ComponentTranslation}
use Rattle.pc_info.specs.declared.module.ModuleTranslation.{ModuleTranslation}
use Rattle.pc_info.specs.Modules.{adapter_view, adapters_view, handed_in_view, is_adapter_module, is_handed_in}
use Rattle.pc_info.specs.Modules.{module_view}
use Rattle.pc_info.specs.View.{view}
use Rattle.pc_spec_facts.specs.Recorded.{bare}

pub handed_in_bare : (ms : List ModuleTranslation) → handed_in_view (map bare ms) ≡ handed_in_view ms
handed_in_bare [] = refl
handed_in_bare (m ∷ ms) = by (is_handed_in m) (handed_in_bare ms)
  where
    by : (b : Bool) → handed_in_view (map bare ms) ≡ handed_in_view ms
        → map module_view (cond b (bare m ∷ filter is_handed_in (map bare ms)) (filter is_handed_in (map bare ms)))
        ≡ map module_view (cond b (m ∷ filter is_handed_in ms) (filter is_handed_in ms))
    by true rest = ap (λ rs. m.«module» ∷ rs) rest
    by false rest = rest

pub many_bare : (ms : List ModuleTranslation)
    → length (filter is_adapter_module (map bare ms)) ≡ length (filter is_adapter_module ms)
many_bare [] = refl
many_bare (m ∷ ms) = by (is_adapter_module m) (many_bare ms)
  where
    by : (b : Bool) → length (filter is_adapter_module (map bare ms)) ≡ length (filter is_adapter_module ms)
        → length (cond b (bare m ∷ filter is_adapter_module (map bare ms)) (filter is_adapter_module (map bare ms)))
        ≡ length (cond b (m ∷ filter is_adapter_module ms) (filter is_adapter_module ms))
    by true rest = ap suc rest
    by false rest = rest

pub adapters_bare : (n : ℕ) (ms : List ModuleTranslation) → adapters_view n (map bare ms) ≡ adapters_view n ms
adapters_bare n [] = refl
adapters_bare n (m ∷ ms) = ap (λ rs. map (adapter_view n) m.adapters ++ rs) (adapters_bare (n + 1) ms)

-- so the plan looks the same with modules of which nothing is recorded
pub view_bare : (plan : ComponentTranslation) (ms : List ModuleTranslation) → view plan (map bare ms) ≡ view plan ms
view_bare plan ms =
    let first = handed_in_bare ms in
    let second = many_bare ms in
    let third = adapters_bare 0 ms in
    λ i. record (view plan ms) { handed_in = first i; adapter_modules = second i; adapters = third i }

-- and modules have the same records
pub records_bare : (ms : List ModuleTranslation) → map module_view (map bare ms) ≡ map module_view ms
records_bare [] = refl
records_bare (m ∷ ms) = ap (λ rs. m.«module» ∷ rs) (records_bare ms)
