-- The record that is put together of adapters is that of a module of their values.
use Rattle.std.proofs.Common.{◌≡◌, ℕ, ◌+◌, List, [], ◌∷◌, ◌++◌, length, refl, sym, ap, ◌∙◌}
use Rattle.std.specs.Prelude.{map}
use Rattle.std.specs.List.{filter_map, cons_option}
use Rattle.std.specs.Fmt.{decimal}
use Rattle.pc_types.specs.declared.parsed.CoreKind.TheVariants as kind
use Rattle.pc_types.specs.Record.{entity_at}
use Rattle.pc_trampoline.specs.declared.part.Mark.{Mark}
use Rattle.pc_dfg.specs.declared.adapter.Adapter.{Adapter}
use Rattle.pc_spec_adapt.specs.Import.{Import, entity_of}
use Rattle.pc_spec_adapt.specs.Record.{Member, adapter_name, exports_from, functions_in, imports_of, module_of}
use Rattle.pc_spec_adapt.specs.Record.{named_imports, signature_of}
use Rattle.pc_adapt_modules.specs.Entities.{all_entities, entities_for, named_entities, signature_number}
use Rattle.pc_adapt_modules.specs.Exports.{exports_of, record_of_parts}
use Rattle.pc_adapt_modules.specs.Members.{AreMembers, pairs, signatures_of}

-- imports under a name are their entities under it
named_same : (n i : ℕ) (is : List (Import Mark))
    → named_imports signature_number n i is ≡ named_entities n i (map (entity_of signature_number) is)
named_same n i [] = refl
named_same n i (x ∷ is) =
    ap (λ xs. (adapter_name n, decimal i, entity_of signature_number x) ∷ xs) (named_same n (i + 1) is)

all_imports : (n : ℕ) (xs : List Adapter) (ms : List (Member Mark)) → AreMembers n xs ms
    → all_entities n (pairs xs ms) ≡ imports_of signature_number ms
all_imports n [] [] are = refl
all_imports n [] (m ∷ ms) are = absurd are
all_imports n (x ∷ xs) [] are = absurd are
all_imports n (x ∷ xs) (m ∷ ms) are =
    let first : named_entities n 0 (entities_for x (length m.imports))
    ≡ named_imports signature_number m.number 0 m.imports =
    (λ i. named_entities (sym are.0.number i) 0 (sym are.0.entities i)) ∙ sym (named_same m.number 0 m.imports) in
    let rest = all_imports (n + 1) xs ms are.1 in
    λ i. first i ++ rest i

all_functions : (n : ℕ) (xs : List Adapter) (ms : List (Member Mark)) → AreMembers n xs ms
    → signatures_of xs ≡ map signature_number (filter_map (λ (m : Member Mark). signature_of m.adapter) ms)
all_functions n [] [] are = refl
all_functions n [] (m ∷ ms) are = absurd are
all_functions n (x ∷ xs) [] are = absurd are
all_functions n (x ∷ xs) (m ∷ ms) are =
    let rest = all_functions (n + 1) xs ms are.1 in
    ap (λ ys. x.lower_options.core_type.0 ∷ ys) rest
    ∙ ap (λ o. map signature_number
    (cons_option o (filter_map (λ (m : Member Mark). signature_of m.adapter) ms))) (sym are.0.signature)

all_exports : (f n : ℕ) (xs : List Adapter) (ms : List (Member Mark)) → AreMembers n xs ms
    → exports_of f n (length xs) ≡ exports_from signature_number f ms
all_exports f n [] [] are = refl
all_exports f n [] (m ∷ ms) are = absurd are
all_exports f n (x ∷ xs) [] are = absurd are
all_exports f n (x ∷ xs) (m ∷ ms) are =
    let rest = all_exports (f + 1) (n + 1) xs ms are.1 in
    λ i. (adapter_name (sym are.0.number i), entity_at kind.Func f) ∷ rest i

pub record_planned : (n : ℕ) (xs : List Adapter) (ms : List (Member Mark)) → AreMembers n xs ms
    → record_of_parts (all_entities n (pairs xs ms)) (signatures_of xs) n (length xs) ≡ module_of signature_number ms
record_planned n xs ms are =
    let imports = all_imports n xs ms are in
    let funcs = all_functions n xs ms are in
    (λ i. record_of_parts (imports i) (funcs i) n (length xs))
    ∙ (λ i. record {
      imports = imports_of signature_number ms;
      funcs = map signature_number (filter_map (λ (m : Member Mark). signature_of m.adapter) ms);
      tables = 0;
      memories = [];
      globals = 0;
      tags = 0;
      exports = all_exports (functions_in signature_number ms) n xs ms are i;
    })
