-- The lines of a module, group by group.
use Rattle.std.proofs.Common.{◌≡◌, ℕ, List, ◌++◌, ◌∙◌, ap, append_assoc}
use Rattle.pc_types.specs.declared.parsed.CoreKind.TheVariants as kind
use Rattle.pc_info.specs.declared.module.ModuleTranslation.{ModuleTranslation}
use Rattle.pc_spec_facts.specs.Recorded.{facts_of}
use Rattle.pc_spec_facts.specs.Text.{function_lines, import_lines, known_lines, module_text, same_lines}

-- eight groups one by one are a text of eight groups
eight_groups : (x a b c d e f g h : List ℕ) →
    x ++ a ++ b ++ c ++ d ++ e ++ f ++ g ++ h ≡ x ++ (a ++ b ++ c ++ d ++ e ++ f ++ g ++ h)
eight_groups x a b c d e f g h = simp append_assoc

-- texts that were appended in five calls are one text
grouped : (x a b c d e f g h functions globals memories tables own : List ℕ) → functions ≡ x ++ a ++ b
    → globals ≡ functions ++ c → memories ≡ globals ++ d → tables ≡ memories ++ e → own ≡ tables ++ f ++ g ++ h
    → own ≡ x ++ (a ++ b ++ c ++ d ++ e ++ f ++ g ++ h)
grouped x a b c d e f g h functions globals memories tables own e1 e2 e3 e4 e5 =
    e5 ∙ ap (λ (y : List ℕ). y ++ f ++ g ++ h)
    (e4 ∙ ap (λ (y : List ℕ). y ++ e) (e3 ∙ ap (λ (y : List ℕ). y ++ d) (e2 ∙ ap (λ (y : List ℕ). y ++ c) e1)))
    ∙ eight_groups x a b c d e f g h

-- the groups of a module were appended
pub all_groups : (n : ℕ) (t : ModuleTranslation) (start functions globals memories tables own : List ℕ)
    → functions ≡ start ++ same_lines n t.«module» (facts_of t) ++ function_lines n t.«module» (facts_of t)
    → globals ≡ functions ++ import_lines n t.«module» (facts_of t) kind.Global
    → memories ≡ globals ++ import_lines n t.«module» (facts_of t) kind.Memory
    → tables ≡ memories ++ import_lines n t.«module» (facts_of t) kind.Table
    → own ≡ tables ++ known_lines n t.«module» (facts_of t) kind.Global
    ++ known_lines n t.«module» (facts_of t) kind.Memory ++ known_lines n t.«module» (facts_of t) kind.Table
    → own ≡ start ++ module_text n t
unfolding module_text
all_groups n t start functions globals memories tables own e1 e2 e3 e4 e5 =
    let r = t.«module» in
    let facts = facts_of t in
    grouped start (same_lines n r facts) (function_lines n r facts) (import_lines n r facts kind.Global)
    (import_lines n r facts kind.Memory) (import_lines n r facts kind.Table) (known_lines n r facts kind.Global)
    (known_lines n r facts kind.Memory) (known_lines n r facts kind.Table) functions globals memories tables own
    e1 e2 e3 e4 e5
