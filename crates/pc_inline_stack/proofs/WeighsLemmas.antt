-- The weights of bodies, by their numbers.
use Rattle.std.proofs.Common.{◌≡◌, ℕ, List, Some, sym, ap, subst, ◌∙◌}
use Rattle.std.specs.Prelude.{slice_get, unwrap_or}
use Rattle.pc_types.specs.declared.module_record.ModuleRecord.{ModuleRecord}
use Rattle.pc_types.specs.declared.parsed.TypeTable.{TypeTable}
use Rattle.pc_local.specs.declared.item.Translation.{Translation}
use Rattle.pc_weights.specs.Weighs.{HasWeight}
use Rattle.pc_inline_stack.specs.Stacks.{AreWeights}
use Rattle.pc_inline_state.proofs.ZipLemmas.{both_there, zip_at}

-- a body that is there has its weight among them
pub weight_at : (t : TypeTable) (ms : List ModuleRecord) (bodies : List Translation) (weights : List ℕ)
    → AreWeights t ms bodies weights → (n weight : ℕ) → weight ≡ unwrap_or (slice_get weights n) 4294967295
    → (tr : Translation) → slice_get bodies n ≡ Some tr → HasWeight t ms tr weight
weight_at t ms bodies weights are n weight is tr at =
    let there = both_there (HasWeight t ms) (slice_get bodies n) (slice_get weights n) tr
    (zip_at (HasWeight t ms) bodies weights n are) at in
    let same : weight ≡ there.0 = is ∙ ap (λ o. unwrap_or o 4294967295) there.1 in
    subst (HasWeight t ms tr) (sym same) there.2
