-- What the modules of a plan import can be numbered: records that can be translated are short, and so are those of
-- modules of adapters.
use Rattle.std.proofs.Common.{◌≡◌, ◌≤◌, ◌+◌, ◌++◌, ◌&&◌, ℕ, Bool, true, false, All, List, [], ◌∷◌, length, map, cond}
use Rattle.std.proofs.Common.{refl, sym, ap, subst, ◌∙◌, arith, true≢false}
use Rattle.std.specs.Prelude.{count_by}
use Rattle.std.specs.List.{list_all}
use Rattle.std.proofs.lemmas.Bool.{leb-true}
use Rattle.std.proofs.lemmas.List.Elements.{All-append, All-cons, All-head, All-nil, All-tail}
use Rattle.std.proofs.lemmas.List.Sums.{sum_by-cons}
use Rattle.pc_types.specs.declared.module_record.ModuleRecord.{ModuleRecord}
use Rattle.pc_types.specs.declared.parsed.CoreEntity.{CoreEntity}
use Rattle.pc_types.specs.declared.parsed.CoreEntity.TheVariants as entity
use Rattle.pc_types.specs.declared.parsed.CoreKind.{CoreKind}
use Rattle.pc_types.specs.declared.parsed.CoreKind.TheVariants as kind
use Rattle.pc_types.specs.declared.parsed.TypeTable.{TypeTable}
use Rattle.pc_types.specs.Record.{entity_count, has_entity, has_signature, imports_kind, is_sound, is_typed, is_within}
use Rattle.pc_types.specs.Record.{kind_of, same_kind}
use Rattle.pc_types.specs.Names.{distinct_names}
use Rattle.pc_entity.specs.Lists.{names_of}
use Rattle.pc_numbers.specs.declared.entity_index.EntityIndex.{EntityIndex}
use Rattle.pc_trampoline.specs.declared.part.Mark.{Mark}
use Rattle.pc_info.specs.declared.module.ModuleTranslation.{ModuleTranslation}
use Rattle.pc_info.specs.Modules.{module_view}
use Rattle.pc_spec_adapt.specs.Record.{Member}
use Rattle.pc_adapt_partition.specs.Adapted.{AreModulesOf}
use Rattle.pc_adapt_partition.specs.Made.{AddsShort}
use Rattle.pc_analysis_imports.specs.Known.{IsNumbered}
use Rattle.pc_translate.specs.Adapted.{as_handed_in}

abbrev Named : Type 0
Named = List ℕ × List ℕ × CoreEntity

-- each import is of one kind
one_kind : (e : CoreEntity)
    → cond (same_kind kind.Func (kind_of e)) 1 0 + cond (same_kind kind.Table (kind_of e)) 1 0
    + cond (same_kind kind.Memory (kind_of e)) 1 0 + cond (same_kind kind.Global (kind_of e)) 1 0
    + cond (same_kind kind.Tag (kind_of e)) 1 0
    ≡ 1
one_kind (entity.Func s) = refl
one_kind entity.Table = refl
one_kind (entity.Memory wide) = refl
one_kind entity.Global = refl
one_kind entity.Tag = refl

-- so imports are as many as those of each kind together
all_kinds : (is : List Named)
    → length is
    ≡ count_by (imports_kind kind.Func) is + count_by (imports_kind kind.Table) is
    + count_by (imports_kind kind.Memory) is + count_by (imports_kind kind.Global) is
    + count_by (imports_kind kind.Tag) is
all_kinds [] = refl
all_kinds (i ∷ is) =
    let counted = λ (k : CoreKind). sum_by-cons (λ (x : Named). cond (imports_kind k x) 1 0) i is in
    omega (
      arith,
      all_kinds is,
      one_kind i.2,
      counted kind.Func,
      counted kind.Table,
      counted kind.Memory,
      counted kind.Global,
      counted kind.Tag,
    )

-- of a test of many parts those hold that look at the kinds
record Parts (c d e f g : Bool) : Type 0 where
  func : c ≡ true
  table : d ≡ true
  memory : e ≡ true
  global : f ≡ true
  tag : g ≡ true

parts : (a b c d e f g h i : Bool) → (a && b && c && d && e && f && g && h && i) ≡ true → Parts c d e f g
parts false b c d e f g h i is = absurd (true≢false (sym is))
parts true false c d e f g h i is = absurd (true≢false (sym is))
parts true true false d e f g h i is = absurd (true≢false (sym is))
parts true true true false e f g h i is = absurd (true≢false (sym is))
parts true true true true false f g h i is = absurd (true≢false (sym is))
parts true true true true true false g h i is = absurd (true≢false (sym is))
parts true true true true true true false h i is = absurd (true≢false (sym is))
parts true true true true true true true h i is = record {
  func = refl;
  table = refl;
  memory = refl;
  global = refl;
  tag = refl;
}

-- a record that can be translated can be numbered
numbered : (t : TypeTable) (r : ModuleRecord) → is_sound t r ≡ true → IsNumbered r
numbered t r sound =
    let p = parts (list_all (λ (i : Named). is_typed t i.2) r.imports) (list_all (has_signature t) r.funcs)
    (is_within r kind.Func) (is_within r kind.Table) (is_within r kind.Memory) (is_within r kind.Global)
    (is_within r kind.Tag) (list_all (λ (e : List ℕ × EntityIndex). has_entity r e.1) r.exports)
    (distinct_names (names_of r.exports)) sound in
    let funcs = leb-true (entity_count r kind.Func) 1000000 p.func in
    let tables = leb-true (entity_count r kind.Table) 1000000 p.table in
    let memories = leb-true (entity_count r kind.Memory) 1000000 p.memory in
    let globals = leb-true (entity_count r kind.Global) 1000000 p.global in
    let tags = leb-true (entity_count r kind.Tag) 1000000 p.tag in
    let all = all_kinds r.imports in
    record {
      imports = omega (arith, all, funcs, tables, memories, globals, tags);
      memories = omega (arith, memories);
    }

abbrev pub HasNumbers : ModuleTranslation → Type 0
HasNumbers m = IsNumbered (module_view m)

handed_in_numbered : (t : TypeTable) (rs : List ModuleRecord) → list_all (is_sound t) rs ≡ true
    → All HasNumbers (map as_handed_in rs)
handed_in_numbered t [] sound = All-nil HasNumbers
handed_in_numbered t (r ∷ rs) sound =
    by (is_sound t r) refl sound (handed_in_numbered t rs)
  where
    by : (b : Bool) → is_sound t r ≡ b → (b && list_all (is_sound t) rs) ≡ true
        → (list_all (is_sound t) rs ≡ true → All HasNumbers (map as_handed_in rs))
        → All HasNumbers (map as_handed_in (r ∷ rs))
    by true is both rest =
        All-cons HasNumbers (as_handed_in r) (map as_handed_in rs) (numbered t r is) (rest both)
    by false is both rest = absurd (true≢false (sym both))

-- and so are the modules of adapters, which have no memory
added_numbered : (s : ℕ) (groups : List (List (Member Mark))) (ns : List ModuleTranslation) → AreModulesOf s groups ns
    → All (λ (m : ModuleTranslation). length m.«module».imports ≤ 4294967294) ns
    → All HasNumbers ns
added_numbered s [] [] are short = All-nil HasNumbers
added_numbered s [] (n ∷ ns) are short = absurd are
added_numbered s (xs ∷ groups) [] are short = absurd are
added_numbered s (xs ∷ groups) (n ∷ ns) are short =
    let few = All-head (λ (m : ModuleTranslation). length m.«module».imports ≤ 4294967294) n ns short in
    let none = ap (λ (m : ModuleTranslation). length m.«module».memories) are.0.is in
    All-cons HasNumbers n ns
    (record { imports = omega (arith, few); memories = omega (arith, none) })
    (added_numbered (s + 1) groups ns are.1
    (All-tail (λ (m : ModuleTranslation). length m.«module».imports ≤ 4294967294) n ns short))

-- so all modules are
pub all_numbered : (t : TypeTable) (rs : List ModuleRecord) (groups : List (List (Member Mark)))
    (added modules : List ModuleTranslation) → list_all (is_sound t) rs ≡ true → AreModulesOf (length rs) groups added
    → modules ≡ map as_handed_in rs ++ added → AddsShort (map as_handed_in rs) modules
    → All HasNumbers modules
all_numbered t rs groups added modules sound are is short =
    let same = same_behind (map as_handed_in rs) added short.added (sym is ∙ short.modules) in
    subst (All HasNumbers) (sym is)
    (All-append HasNumbers (map as_handed_in rs) added (handed_in_numbered t rs sound)
    (added_numbered (length rs) groups added are
    (subst (All (λ (m : ModuleTranslation). length m.«module».imports ≤ 4294967294)) (sym same) short.short)))
  where
    tail_same : {A : Type 0} (x : A) (xs ys : List A) → x ∷ xs ≡ x ∷ ys → xs ≡ ys
    tail_same x xs ys e = cc

    same_behind : {A : Type 0} (xs ys zs : List A) → xs ++ ys ≡ xs ++ zs → ys ≡ zs
    same_behind [] ys zs e = e
    same_behind (x ∷ xs) ys zs e = same_behind xs ys zs (tail_same x (xs ++ ys) (xs ++ zs) e)
