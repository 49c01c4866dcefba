-- How many modules are handed in, and how many are ones of adapters.
use Rattle.std.proofs.Common.{◌≡◌, ◌+◌, ◌-◌, ◌≤◌, ℕ, Bool, true, false, not, List, [], ◌∷◌, length, filter, map, refl}
use Rattle.std.proofs.Common.{arith, length-append}
use Rattle.std.proofs.lemmas.List.{length-map}
use Rattle.std.proofs.lemmas.List.Filters.{length-filter_both}
use Rattle.std.proofs.lemmas.List.Sums.{sum_by-cons}
use Rattle.std.specs.List.{sum_by}
use Rattle.std.specs.Prelude.{if◌then◌else◌}
use Rattle.pc_info.specs.declared.module.ModuleTranslation.{ModuleTranslation}
use Rattle.pc_info.specs.Modules.{adapter_view, adapters_view, handed_in_view, has_some, is_adapter_module}
use Rattle.pc_info.specs.Modules.{is_handed_in, module_view}

-- a module is handed in or one of adapters
other : (b : Bool) → b ≡ not (if b then false else true)
other true = refl
other false = refl

both : (ms : List ModuleTranslation)
    → length (filter is_handed_in ms) + length (filter is_adapter_module ms) ≡ length ms
both ms = length-filter_both is_handed_in is_adapter_module (λ m. other (has_some m.adapters)) ms

pub adapter_modules-within : (ms : List ModuleTranslation) → length (filter is_adapter_module ms) ≤ length ms
adapter_modules-within ms = let all = both ms in omega (arith, all)

pub handed_in-rest : (ms : List ModuleTranslation)
    → length ms - length (filter is_adapter_module ms) ≡ length (handed_in_view ms)
handed_in-rest ms =
    let all = both ms in
    let seen : length (handed_in_view ms) ≡ length (filter is_handed_in ms) =
    length-map (filter is_handed_in ms) module_view in
    omega (arith, all, seen)

-- the adapters of modules are those of each
pub adapters-total : (k : ℕ) (ms : List ModuleTranslation)
    → length (adapters_view k ms) ≡ sum_by (λ (m : ModuleTranslation). length m.adapters) ms
adapters-total k [] = refl
adapters-total k (m ∷ ms) =
    let one = length-map m.adapters (adapter_view k) in
    let rest = adapters-total (k + 1) ms in
    let both = length-append (map (adapter_view k) m.adapters) (adapters_view (k + 1) ms) in
    let sum = sum_by-cons (λ (m : ModuleTranslation). length m.adapters) m ms in
    omega (arith, one, rest, both, sum)
