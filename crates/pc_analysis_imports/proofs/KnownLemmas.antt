-- What is recorded is exactly what the plan gives.
use Rattle.std.proofs.Common.{◌≡◌, ◌<◌, ℕ, Bool, true, false, ◌&&◌, List, inl, inr, length}
use Rattle.std.proofs.Common.{Some, None, Option, refl, sym, ap, subst, ◌∙◌, true≢false, arith}
use Rattle.std.specs.Prelude.{◌↔◌, slice_get, map, option_map, not, nat_lt, if◌then◌else◌}
use Rattle.std.specs.FinSet as set
use Rattle.std.proofs.lemmas.Bool.{cases_lt, lt-ltb, ltb-true}
use Rattle.std.proofs.lemmas.List.{length-map, length-replicate}
use Rattle.std.proofs.lemmas.Option.{none-some, same_Some, slice_get-map, slice_get_within}
use Rattle.pc_entity.proofs.Elements.{and_true, bool_cases, true_and}
use Rattle.pc_entity.proofs.LookupLemmas.{found_at}
use Rattle.pc_types.specs.declared.module_record.ModuleRecord.{ModuleRecord}
use Rattle.pc_types.specs.declared.parsed.CoreKind.{CoreKind}
use Rattle.pc_types.specs.declared.parsed.CoreKind.TheVariants as kind
use Rattle.pc_types.specs.Record.{defined}
use Rattle.pc_info.specs.declared.component.ComponentTranslation.{ComponentTranslation}
use Rattle.pc_info.specs.declared.known.KnownGlobal.TheVariants as global
use Rattle.pc_info.specs.declared.module.ModuleTranslation.{ModuleTranslation}
use Rattle.pc_info.specs.Modules.{module_view}
use Rattle.pc_info.specs.Standing.{steps_in, trampolines_in}
use Rattle.pc_spec_facts.specs.Recorded.{facts_at, facts_if, facts_of, function_of, global_of, import_in, is_known_in}
use Rattle.pc_spec_wiring.specs.Facts.{ModuleFacts}
use Rattle.pc_spec_wiring.specs.Known.{IsKnown, IsKnownFunction, IsKnownToImporters, Known, KnownFunction}
use Rattle.pc_spec_wiring.specs.Known.{a_defined, holds_data, known_enter, known_exit}
use Rattle.pc_spec_wiring.specs.Known.{known_function, known_intrinsic, known_trap, the_flags}
use Rattle.pc_analysis_imports.specs.declared.ambiguous.Hidden.{Hidden}
use Rattle.pc_analysis_imports.specs.declared.imports.Imports.{Imports}
use Rattle.pc_analysis_imports.specs.declared.known.Found.{Found}
use Rattle.pc_analysis_imports.specs.declared.source.Source.{Source}
use Rattle.pc_analysis_imports.specs.declared.source.Source.TheVariants as source
use Rattle.pc_analysis_imports.specs.Exported.{is_exported_in}
use Rattle.pc_analysis_imports.specs.Found.{IsFound, plan_instances, plan_marks}
use Rattle.pc_analysis_imports.specs.Imports.{AreImports, always_given, each_with, func_from, global_from}
use Rattle.pc_analysis_imports.specs.Imports.{global_entity, memory_entity, memory_from, table_entity, table_from}
use Rattle.pc_analysis_imports.specs.Imports.{with_imports, with_known_but}
use Rattle.pc_analysis_imports.specs.Known.{AreKnown, CanBeFollowed, KnowImports, without_imports}
use Rattle.pc_analysis_imports.specs.Marked.{is_hidden, is_hidden_in, none_hidden, none_marked}
use Rattle.pc_analysis_imports.specs.Marks.{Marks}
use Rattle.pc_analysis_imports.proofs.EachLemmas.{each_at, each_count, each_keeps}
use Rattle.pc_analysis_imports.proofs.FollowedLemmas.{known_in}
use Rattle.pc_analysis_imports.proofs.FunctionLemmas.{function_exactly}
use Rattle.pc_analysis_imports.proofs.GivenLemmas.{found_source, import_exactly, marked_exactly, not_true, plain_if}
use Rattle.pc_analysis_imports.proofs.MarkLemmas.{an_entity, is_marked, marks_count}

-- what is known of a global, a memory or a table is what is known of an import of its kind
global_plain : (a : Marks) (s : Source) → option_map global_of (global_from a s) ≡ plain_if a kind.Global (known_in s)
global_plain a (source.Defined m kind.Global n) = by (not (is_hidden_in (slice_get a.modules m.0) kind.Global n))
  where
    by : (b : Bool) → option_map global_of (option_map global_entity (if b then Some (m, n) else None))
        ≡ (if b then Some (a_defined m.0 kind.Global n) else None)
    by true = refl
    by false = refl
global_plain a (source.Defined m kind.Func n) = refl
global_plain a (source.Defined m kind.Memory n) = refl
global_plain a (source.Defined m kind.Table n) = refl
global_plain a (source.Defined m kind.Tag n) = refl
global_plain a (source.Flags c) = by (set.contains a.flags c.0)
  where
    by : (b : Bool) → option_map global_of (if b then None else Some (global.ComponentInstanceFlags c))
        ≡ (if not b then Some (the_flags c.0) else None)
    by true = refl
    by false = refl
global_plain a (source.Trampoline t) = refl
global_plain a (source.Intrinsic i) = refl
global_plain a source.Unknown = refl

memory_plain : (a : Marks) (s : Source)
    → option_map (λ e. a_defined e.«module».0 kind.Memory e.index.0) (memory_from a s)
    ≡ plain_if a kind.Memory (known_in s)
memory_plain a (source.Defined m kind.Memory n) = by (not (is_hidden_in (slice_get a.modules m.0) kind.Memory n))
  where
    by : (b : Bool)
        → option_map (λ e. a_defined e.«module».0 kind.Memory e.index.0)
        (option_map memory_entity (if b then Some (m, n) else None))
        ≡ (if b then Some (a_defined m.0 kind.Memory n) else None)
    by true = refl
    by false = refl
memory_plain a (source.Defined m kind.Func n) = refl
memory_plain a (source.Defined m kind.Global n) = refl
memory_plain a (source.Defined m kind.Table n) = refl
memory_plain a (source.Defined m kind.Tag n) = refl
memory_plain a (source.Flags c) = refl
memory_plain a (source.Trampoline t) = refl
memory_plain a (source.Intrinsic i) = refl
memory_plain a source.Unknown = refl

table_plain : (a : Marks) (s : Source)
    → option_map (λ e. a_defined e.«module».0 kind.Table e.index.0) (table_from a s)
    ≡ plain_if a kind.Table (known_in s)
table_plain a (source.Defined m kind.Table n) = by (not (is_hidden_in (slice_get a.modules m.0) kind.Table n))
  where
    by : (b : Bool)
        → option_map (λ e. a_defined e.«module».0 kind.Table e.index.0)
        (option_map table_entity (if b then Some (m, n) else None))
        ≡ (if b then Some (a_defined m.0 kind.Table n) else None)
    by true = refl
    by false = refl
table_plain a (source.Defined m kind.Func n) = refl
table_plain a (source.Defined m kind.Global n) = refl
table_plain a (source.Defined m kind.Memory n) = refl
table_plain a (source.Defined m kind.Tag n) = refl
table_plain a (source.Flags c) = refl
table_plain a (source.Trampoline t) = refl
table_plain a (source.Intrinsic i) = refl
table_plain a source.Unknown = refl

-- the modules in which is recorded what is found
abbrev pub recorded : List ModuleTranslation → Found → List ModuleTranslation
recorded old found = each_with with_known_but (each_with with_imports old found.imports.items) found.hidden.items

-- nothing else of them changes
pub recorded_keeps : (old : List ModuleTranslation) (found : Found)
    → map without_imports (recorded old found) ≡ map without_imports old
recorded_keeps old found =
    each_keeps with_known_but without_imports (λ m h. refl) (each_with with_imports old found.imports.items)
    found.hidden.items
    ∙ each_keeps with_imports without_imports (λ m i. refl) old found.imports.items

recorded_records : (old : List ModuleTranslation) (found : Found)
    → map module_view (recorded old found) ≡ map module_view old
recorded_records old found =
    each_keeps with_known_but module_view (λ m h. refl) (each_with with_imports old found.imports.items)
    found.hidden.items
    ∙ each_keeps with_imports module_view (λ m i. refl) old found.imports.items

module _ (p : ComponentTranslation) (old : List ModuleTranslation) (found : Found)
    (ok : CanBeFollowed (map module_view old) (steps_in p)) (is : IsFound p (map module_view old) found) where
  abbrev records : List ModuleRecord
  records = map module_view old

  abbrev exported : ℕ → Bool
  exported = is_exported_in p.component.export_items

  abbrev marks : Marks
  marks = plan_marks p (map module_view old) is.ways

  abbrev source_at : ℕ → ModuleRecord → CoreKind → ℕ → Source
  source_at = found_source p (map module_view old) ok is.ways is.ways_count is.are_ways

  -- a module with what is recorded of it
  record IsAt (m : ℕ) : Type 0 where
    before : ModuleTranslation
    imports : Imports
    hidden : Hidden
    module_at : slice_get old m ≡ Some before
    hidden_at : slice_get marks.modules m ≡ Some hidden
    after : slice_get (recorded old found) m ≡ Some (with_known_but (with_imports before imports) hidden)
    are : AreImports p.trampolines marks before.«module»
        (always_given (map module_view old) (plan_instances p (map module_view old)) (slice_get is.ways m)) imports

  marks_modules : length marks.modules ≡ length (map module_view old)
  marks_modules =
      marks_count _ (none_marked (length (map module_view old)))
      ∙ length-replicate (length (map module_view old)) none_hidden

  at : (m : ℕ) → m < length old → IsAt m
  at m few =
      let x = found_at old m few in
      let count = length-map old module_view in
      let i = found_at found.imports.items m (omega (arith, few, count, is.imports_count)) in
      let h = found_at marks.modules m (omega (arith, few, count, marks_modules)) in
      let there = slice_get-map module_view old m ∙ ap (option_map module_view) x.1 in
      record {
        before = x.0;
        imports = i.0;
        hidden = h.0;
        module_at = x.1;
        hidden_at = h.1;
        after = each_at with_known_but (each_with with_imports old found.imports.items) found.hidden.items m
            (with_imports x.0 i.0) h.0 (each_at with_imports old found.imports.items m x.0 i.0 x.1 i.1)
            (ap (λ l. slice_get l m) is.are_hidden ∙ h.1);
        are = is.are_imports m x.0.«module» i.0 there i.1;
      }

  held_record : (m : ℕ) (x : IsAt m) → slice_get (map module_view old) m ≡ Some x.before.«module»
  held_record m x = slice_get-map module_view old m ∙ ap (option_map module_view) x.module_at

  facts_after : (m : ℕ) (x : IsAt m)
      → facts_at (recorded old found) m ≡ facts_of (with_known_but (with_imports x.before x.imports) x.hidden)
  facts_after m x = ap facts_if x.after

  no_facts_after : (m : ℕ) → (m < length old → ⊥) → slice_get (recorded old found) m ≡ None
  no_facts_after m past = by (slice_get (recorded old found) m) refl
    where
      by : (o : Option ModuleTranslation) → slice_get (recorded old found) m ≡ o → o ≡ None
      by None none = refl
      by (Some x) here =
          absurd (past (omega (
            arith,
            slice_get_within (recorded old found) m x here,
            each_count with_known_but (each_with with_imports old found.imports.items) found.hidden.items,
            each_count with_imports old found.imports.items,
          )))

  -- a record that is held is of a module that is there
  record_there : (m : ℕ) (r : ModuleRecord) → slice_get (map module_view old) m ≡ Some r → m < length old
  record_there m r here =
      omega (arith, slice_get_within (map module_view old) m r here, length-map old module_view)

  -- the import of a kind that holds data
  imports_of : (m : ℕ) (x : IsAt m) (k : CoreKind) (n : ℕ) → holds_data k ≡ true
      → import_in (with_known_but (with_imports x.before x.imports) x.hidden) k n
      ≡ plain_if marks k (known_in (source_at m x.before.«module» k n))
  imports_of m x kind.Global n data_ = ap (option_map global_of) (x.are.globals n) ∙ global_plain marks _
  imports_of m x kind.Memory n data_ =
      ap (option_map (λ e. a_defined e.«module».0 kind.Memory e.index.0)) (x.are.memories n) ∙ memory_plain marks _
  imports_of m x kind.Table n data_ =
      ap (option_map (λ e. a_defined e.«module».0 kind.Table e.index.0)) (x.are.tables n) ∙ table_plain marks _
  imports_of m x kind.Func n data_ = absurd (true≢false (sym data_))
  imports_of m x kind.Tag n data_ = absurd (true≢false (sym data_))

  no_import : (m : ModuleTranslation) (k : CoreKind) (n : ℕ) → holds_data k ≡ false → import_in m k n ≡ None
  no_import m kind.Func n none = refl
  no_import m kind.Tag n none = refl
  no_import m kind.Global n none = absurd (true≢false none)
  no_import m kind.Memory n none = absurd (true≢false none)
  no_import m kind.Table n none = absurd (true≢false none)

  known_of : (m : ℕ) (x : IsAt m) (k : CoreKind) (n : ℕ) → holds_data k ≡ true
      → is_known_in (with_known_but (with_imports x.before x.imports) x.hidden) k n
      ≡ (nat_lt n (defined x.before.«module» k) && not (is_hidden x.hidden k n))
  known_of m x kind.Global n data_ = refl
  known_of m x kind.Memory n data_ = refl
  known_of m x kind.Table n data_ = refl
  known_of m x kind.Func n data_ = absurd (true≢false (sym data_))
  known_of m x kind.Tag n data_ = absurd (true≢false (sym data_))

  not_known : (m : ModuleTranslation) (k : CoreKind) (n : ℕ) → holds_data k ≡ false → is_known_in m k n ≡ false
  not_known m kind.Func n none = refl
  not_known m kind.Tag n none = refl
  not_known m kind.Global n none = absurd (true≢false none)
  not_known m kind.Memory n none = absurd (true≢false none)
  not_known m kind.Table n none = absurd (true≢false none)

  abbrev Facts : ℕ → ModuleFacts
  Facts = facts_at (recorded old found)

  import_facts : (m : ℕ) (k : CoreKind) (n : ℕ) (x : Known)
      → ((Facts m).import k n ≡ Some x) ↔ IsKnown (map module_view old) (steps_in p) exported m k n x
  import_facts m k n x = elim (cases_lt m (length old)) [
    | inl few ↦ elim (bool_cases (holds_data k)) [
      | inl hit ↦
          let here = at m few in
          let value : (Facts m).import k n ≡ plain_if marks k (known_in (source_at m here.before.«module» k n)) =
          ap (λ (f : ModuleFacts). f.import k n) (facts_after m here) ∙ imports_of m here k n hit in
          let by = import_exactly p (map module_view old) ok is.ways is.ways_count is.are_ways m
          here.before.«module» k n x (held_record m here) hit in
          (λ h. by.0 (sym value ∙ h), λ h. value ∙ by.1 h)
      | inr miss ↦
          let here = at m few in (
            λ h. absurd (none-some x (sym (no_import (with_known_but (with_imports here.before here.imports) here.hidden) k n miss)
                ∙ sym (ap (λ (f : ModuleFacts). f.import k n) (facts_after m here)) ∙ h)),
            λ h. absurd (true≢false (sym h.data_kind ∙ miss)),
          )
    ]
    | inr past ↦
        let none = no_facts_after m (λ few. let bad : ⊥ = omega (arith, few, past) in bad) in (
          λ h. absurd (none-some x (sym (ap (λ o. (facts_if o).import k n) none) ∙ h)),
          λ h.
              let few = record_there m h.given.core_module h.given.is in
              let bad : ⊥ = omega (arith, few, past) in
              absurd bad,
        )
  ]

  function_facts : (m f : ℕ) (y : KnownFunction) → ((Facts m).function f ≡ Some y)
      ↔ IsKnownFunction (map module_view old) (steps_in p) exported (trampolines_in p) m f y
  function_facts m f y = elim (cases_lt m (length old)) [
    | inl few ↦
        let here = at m few in
        let value : (Facts m).function f
        ≡ option_map function_of (func_from p.trampolines (source_at m here.before.«module» kind.Func f)) =
        ap (λ (g : ModuleFacts). g.function f) (facts_after m here)
        ∙ ap (option_map function_of) (here.are.functions f) in
        let by = function_exactly p (map module_view old) ok is.ways is.ways_count is.are_ways m
        here.before.«module» f y (held_record m here) in
        (λ h. by.0 (sym value ∙ h), λ h. value ∙ by.1 h)
    | inr past ↦
        let none = no_facts_after m (λ few. let bad : ⊥ = omega (arith, few, past) in bad) in (
          λ h. absurd (none-some y (sym (ap (λ o. (facts_if o).function f) none) ∙ h)),
          λ h.
              let few = function_there m f y h in
              let bad : ⊥ = omega (arith, few, past) in
              absurd bad,
        )
  ]
    where
      function_there : (m f : ℕ) (y : KnownFunction)
          → IsKnownFunction (map module_view old) (steps_in p) exported (trampolines_in p) m f y → m < length old
      function_there m f y (known_enter g at) = record_there m g.core_module g.is
      function_there m f y (known_exit g at) = record_there m g.core_module g.is
      function_there m f y (known_trap g at) = record_there m g.core_module g.is
      function_there m f y (known_intrinsic g) = record_there m g.core_module g.is
      function_there m f y (known_function g refers) = record_there m g.core_module g.is

  importer_facts : (m : ℕ) (k : CoreKind) (n : ℕ)
      → ((Facts m).is_known k n ≡ true) ↔ IsKnownToImporters (map module_view old) (steps_in p) exported m k n
  importer_facts m k n = elim (cases_lt m (length old)) [
    | inl few ↦ elim (bool_cases (holds_data k)) [
      | inl hit ↦
          let here = at m few in
          let value : (Facts m).is_known k n
          ≡ (nat_lt n (defined here.before.«module» k) && not (is_hidden here.hidden k n)) =
          ap (λ (f : ModuleFacts). f.is_known k n) (facts_after m here) ∙ known_of m here k n hit in
          let there = held_record m here in
          let exactly = marked_exactly p (map module_view old) ok is.ways is.ways_count is.are_ways (a_defined m k n)
          (an_entity (slice_get_within (map module_view old) m here.before.«module» there) hit) in
          let hidden : is_marked marks (a_defined m k n) ≡ is_hidden here.hidden k n =
          ap (λ o. is_hidden_in o k n) here.hidden_at in (
            λ h.
                let both = and_true (nat_lt n (defined here.before.«module» k)) (not (is_hidden here.hidden k n))
                (sym value ∙ h) in
                record {
                  core_module = here.before.«module»;
                  is = there;
                  data_kind = hit;
                  defines = ltb-true n (defined here.before.«module» k) both.0;
                  plain = λ ambiguous.
                      true≢false (sym (sym hidden ∙ exactly.1 ambiguous) ∙ not_true (is_hidden here.hidden k n) both.1);
                },
            λ h.
                let same : h.core_module ≡ here.before.«module» =
                same_Some h.core_module here.before.«module» (sym h.is ∙ there) in
                let below : n < defined here.before.«module» k =
                subst (λ (r : ModuleRecord). n < defined r k) same h.defines in
                let shown : is_hidden here.hidden k n ≡ false = elim (bool_cases (is_hidden here.hidden k n)) [
                  | inl hides ↦ absurd (h.plain (exactly.0 (hidden ∙ hides)))
                  | inr none ↦ none
                ] in
                value ∙ true_and (nat_lt n (defined here.before.«module» k)) (not (is_hidden here.hidden k n))
                (lt-ltb n (defined here.before.«module» k) below) (ap not shown),
          )
      | inr miss ↦
          let here = at m few in (
            λ h. absurd (true≢false (sym h ∙ ap (λ (f : ModuleFacts). f.is_known k n) (facts_after m here)
                ∙ not_known (with_known_but (with_imports here.before here.imports) here.hidden) k n miss)),
            λ h. absurd (true≢false (sym h.data_kind ∙ miss)),
          )
    ]
    | inr past ↦
        let none = no_facts_after m (λ few. let bad : ⊥ = omega (arith, few, past) in bad) in (
          λ h. absurd (true≢false (sym h ∙ ap (λ o. (facts_if o).is_known k n) none)),
          λ h.
              let few = record_there m h.core_module h.is in
              let bad : ⊥ = omega (arith, few, past) in
              absurd bad,
        )
  ]

  -- all of it
  pub recorded_known : KnowImports p (recorded old found)
  recorded_known =
      subst (λ (l : List ModuleRecord). AreKnown l (steps_in p) (trampolines_in p) exported (facts_at (recorded old found)))
      (sym (recorded_records old found))
      (record { functions = function_facts; imports = import_facts; known_to_importers = importer_facts })

  -- as many as modules
  pub hidden_count : length found.hidden.items ≡ length old
  hidden_count = ap length is.are_hidden ∙ marks_modules ∙ length-map old module_view
