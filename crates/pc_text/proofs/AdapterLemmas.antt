-- The adapters of modules, as loops over them go on.
use Rattle.std.proofs.Common.{◌≡◌, ℕ, ◌+◌, ◌<◌, List, [], ◌∷◌, ◌++◌, length, map, drop, get_or, sym, ap, ◌∙◌}
use Rattle.std.proofs.Common.{append_assoc, add-one}
use Rattle.std.proofs.Math.Seq.{drop-cons}
use Rattle.std.proofs.lemmas.List.{map-append}
use Rattle.pc_spec_plan.specs.PlanView as plan
use Rattle.pc_trampoline.specs.declared.part.Mark.{Mark}
use Rattle.pc_info.specs.declared.module.AdapterRecord.{AdapterRecord}
use Rattle.pc_info.specs.declared.module.ModuleTranslation.{ModuleTranslation}
use Rattle.pc_info.specs.Modules.{adapter_view, adapters_view}
use Rattle.pc_text.specs.declared.adapter.Placed.{Placed}
use Rattle.pc_text.specs.Placed.{placed_view}

-- what adapters are seen as, in a plan
abbrev Records : Type 0
Records = List (plan.AdapterRecord Mark)

-- one adapter of a module was added, and those behind it are left
pub adapter_added : (n : ℕ) (all : Records) (before after : List Placed) (xs : List AdapterRecord) (i : ℕ)
    (d : AdapterRecord) (one : Placed) → i < length xs → placed_view one ≡ adapter_view n (get_or xs i d)
    → after ≡ before ++ one ∷ []
    → map placed_view before ++ map (adapter_view n) (drop i xs) ≡ all
    → map placed_view after ++ map (adapter_view n) (drop (i + 1) xs) ≡ all
adapter_added n all before after xs i d one within seen put left =
    let rest = map (adapter_view n) (drop (i + 1) xs) in
    let next : drop i xs ≡ get_or xs i d ∷ drop (i + 1) xs = rw add-one (drop-cons xs i d within) in
    ap (λ (ps : List Placed). map placed_view ps ++ rest) put
    ∙ ap (λ (rs : Records). rs ++ rest) (map-append placed_view before (one ∷ []))
    ∙ append_assoc (map placed_view before) (placed_view one ∷ []) rest
    ∙ ap (λ (v : plan.AdapterRecord Mark). map placed_view before ++ v ∷ rest) seen
    ∙ ap (λ (ys : List AdapterRecord). map placed_view before ++ map (adapter_view n) ys) (sym next) ∙ left

-- the adapters of one module were added, and those of the modules behind it are left
pub adapters_added : (n : ℕ) (all before after : Records) (xs : List ModuleTranslation) (m : ModuleTranslation)
    (adapters : List AdapterRecord) → n < length xs → m ≡ get_or xs n m → adapters ≡ m.adapters
    → after ≡ before ++ map (adapter_view n) adapters
    → before ++ adapters_view n (drop n xs) ≡ all
    → after ++ adapters_view (n + 1) (drop (n + 1) xs) ≡ all
adapters_added n all before after xs m adapters within here same put left =
    let rest = adapters_view (n + 1) (drop (n + 1) xs) in
    let first : drop n xs ≡ get_or xs n m ∷ drop (n + 1) xs = rw add-one (drop-cons xs n m within) in
    let next = first ∙ ap (λ (x : ModuleTranslation). x ∷ drop (n + 1) xs) (sym here) in
    ap (λ (rs : Records). rs ++ rest) put
    ∙ ap (λ (rs : List AdapterRecord). (before ++ map (adapter_view n) rs) ++ rest) same
    ∙ append_assoc before (map (adapter_view n) m.adapters) rest
    ∙ ap (λ (ys : List ModuleTranslation). before ++ adapters_view n ys) (sym next) ∙ left
