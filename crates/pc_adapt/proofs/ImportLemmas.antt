-- The imports of an adapter, put together part by part.
use Rattle.std.proofs.Common.{◌≡◌, Bool, ◌&&◌, List, [], ◌∷◌, ◌++◌, ap, ◌∙◌}
use Rattle.pc_types_lists.specs.declared.facts.TypeFacts.{TypeFacts}
use Rattle.pc_types_lists.specs.Facts.{join}
use Rattle.pc_dfg.specs.declared.adapter.Adapter.{Adapter}
use Rattle.pc_spec_adapt.specs.Asked.{FunctionFacts}
use Rattle.pc_spec_adapt.specs.Planned.{all_facts}
use Rattle.pc_adapt.specs.declared.import.Import.{Import}
use Rattle.pc_adapt.specs.declared.import.Import.TheVariants as import
use Rattle.pc_adapt.specs.Imports.{calls, copies_if, first_imports, imports_of, is_async_call, transfer_imports}

-- each part stands behind those before it
pub imports_made : (x : Adapter) (lift lower : FunctionFacts) (clear : Bool)
    (none first strings transfers called all : List Import)
    (f : TypeFacts) (b : Bool) → none ≡ [] → first ≡ none ++ first_imports x
    → strings ≡ first ++ copies_if (lift.params.string && lower.params.string) x.lower_options x.lift_options
    ++ copies_if (lift.results.string && lower.results.string) x.lift_options x.lower_options
    → f ≡ join (all_facts lift) (all_facts lower) → transfers ≡ strings ++ transfer_imports f
    → b ≡ is_async_call lift lower x → called ≡ transfers ++ calls b clear x.lift_options
    → all ≡ called ++ import.Trap (record { 0 = 1 }) ∷ [] → all ≡ imports_of lift lower clear x
unfolding imports_of
imports_made x lift lower clear none first strings transfers called all f b e0 e1 e2 ef e3 eb e4 e5 =
    let params = copies_if (lift.params.string && lower.params.string) x.lower_options x.lift_options in
    let results = copies_if (lift.results.string && lower.results.string) x.lift_options x.lower_options in
    let one = e1 ∙ ap (λ xs. xs ++ first_imports x) e0 in
    let two = e2 ∙ ap (λ xs. xs ++ params ++ results) one in
    let three = e3 ∙ (λ i. two i ++ transfer_imports (ef i)) in
    let four = e4 ∙ (λ i. three i ++ calls (eb i) clear x.lift_options) in
    e5 ∙ ap (λ xs. xs ++ import.Trap (record { 0 = 1 }) ∷ []) four
