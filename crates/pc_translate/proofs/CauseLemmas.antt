-- Why a translation is refused, from what its steps answer.
use Rattle.std.proofs.Common.{◌≡◌, ◌≤◌, ◌<◌, ◌+◌, ℕ, ◌⊎◌, inl, inr, List, ◌∙◌, Option, Some, Result, Ok, Err, IfErr, true}
use Rattle.std.proofs.Common.{None, IfOk, refl, sym, ap, subst, length}
use Rattle.std.specs.Prelude.{map}
use Rattle.std.specs.List.{list_all}
use Rattle.std.specs.Result.{IsErrAnd}
use Rattle.pc_types_lists.specs.Types.{Types}
use Rattle.pc_inline_canon.proofs.NumberLemmas.{TellsApart}
use Rattle.pc_types_lists.proofs.FewLemmas.{few_none}
use Rattle.pc_types.specs.declared.error.Error.{Error}
use Rattle.pc_types.specs.declared.error.Error.TheVariants as error
use Rattle.pc_types.specs.declared.module_record.ModuleRecord.{ModuleRecord}
use Rattle.pc_types.specs.declared.parsed.TypeTable.{TypeTable}
use Rattle.pc_types.specs.Record.{is_sound}
use Rattle.pc_types.specs.Table.{table_fault}
use Rattle.pc_info.specs.declared.component.ComponentTranslation.{ComponentTranslation}
use Rattle.pc_info.specs.declared.module.ModuleTranslation.{ModuleTranslation}
use Rattle.pc_parsed.specs.declared.payload.Payload.{Payload}
use Rattle.pc_parsed.specs.StaticFault.{static_fault}
use Rattle.pc_spec_facts.specs.Recorded.{bare}
use Rattle.pc_spec_reading.specs.Answer.{ending}
use Rattle.pc_spec_reading.specs.Item.{Items}
use Rattle.pc_spec_reading.specs.Reading.{Reading, reading_of}
use Rattle.pc_spec_reading.specs.Section.{modules_of}
use Rattle.pc_spec_reading.specs.Total.{counted}
use Rattle.pc_spec_reading.specs.World.{full}
use Rattle.pc_local.proofs.NameLemmas.{modules_sound, table_sound}
use Rattle.pc_local.proofs.SoundLemmas.{components_are_sound, root_is_sound}
use Rattle.pc_local.specs.declared.item.LocalProgram.{LocalProgram}
use Rattle.pc_local.specs.Program.{ProgramStands}
use Rattle.pc_local.specs.Sound.{AreSoundBodies, IsSoundBody}
use Rattle.pc_local.specs.Standing.{BodyStands, no_names}
use Rattle.pc_weights.specs.Capped.{capped}
use Rattle.pc_inline_state.proofs.GainedLemmas.{tables_none}
use Rattle.pc_inline_stack.specs.Totals.{GainsFew}
use Rattle.pc_translate.proofs.AnswerLemmas.{answer_at, at_cut, below_cut, ends_with, fault_at, full_at}
use Rattle.pc_translate.proofs.AnswerLemmas.{held_counted, modules_counted}
use Rattle.pc_translate.proofs.PassingLemmas.{passed_err}
use Rattle.pc_translate.proofs.TranslatesLemmas.{gained, translates}
use Rattle.pc_translate.specs.Causes.{HasCause, IsValid, answer_in_order, in_the_end}
use Rattle.pc_translate.specs.Planning.{IsPlanOfBody, IsProgramOf, Plans, StopsPayloads}
use Rattle.pc_translate.specs.Recorded.{HasFacts}
use Rattle.pc_translate.specs.Translation.{CountsGained, Translates}

-- Payloads where so many types were held before, and the total before the first item: it is cut where it is full.
module _ (t : TypeTable) (exposed : Option (List ℕ)) (held : ℕ) (ps : List Payload) (n c : ℕ) (same : n ≡ held)
    (cut : c ≡ capped (counted t n ps)) where
  cut_held : c ≡ capped (counted t held ps)
  cut_held = subst (λ m. c ≡ capped (counted t m ps)) same cut

  -- what this total comes to is the answer
  cause : (limit : ℕ) (e : Error) → answer_at t exposed limit c ps ≡ Some (Err e) → HasCause t exposed limit held ps e
  cause limit e is = inr (sym (at_cut t exposed limit held ps c cut_held) ∙ is)

  -- a total that is full is too much
  pub too_many : full ≤ c → StopsPayloads t exposed held ps error.TooMany
  unfolding StopsPayloads
  too_many many limit = cause limit error.TooMany (full_at t exposed limit c ps many)

  -- a static fault is the answer
  stopped_by : c < full → (e : Error) → (e ≡ error.NoMemory) ⊎ (static_fault t exposed ps ≡ Some e)
      → StopsPayloads t exposed held ps e
  unfolding StopsPayloads
  stopped_by below e (inl memory) limit = inl memory
  stopped_by below e (inr at) limit = cause limit e (fault_at t exposed limit c ps below e at)

  -- so it is with a refusal before the reading, which is passed up
  pub stops : {T : Type 0} → c < full → (r : Result T Error) (e : Error) → IsErrAnd r (λ x. x ≡ e)
      → (e ≡ error.NoMemory) ⊎ (static_fault t exposed ps ≡ Some e) → IfErr r (StopsPayloads t exposed held ps)
  stops below r e passed why =
      passed_err r e (λ q. IfErr q (StopsPayloads t exposed held ps)) passed (stopped_by below e why)

  -- a program of payloads without a static fault
  pub is_program : (program : LocalProgram) → c < full → ProgramStands exposed ps program
      → static_fault t exposed ps ≡ None → IsProgramOf t exposed held ps c program
  is_program program below stands sound =
      let same_total : c ≡ counted t held ps = below_cut (counted t held ps) c cut_held below in
      record {
        stands = stands;
        can = record { below = subst (λ m. m < full) same_total below; sound = sound };
        is_total = same_total;
      }

-- the same of payloads that are the same
module _ (t : TypeTable) (exposed : Option (List ℕ)) (held : ℕ) (ps qs : List Payload) (same : ps ≡ qs) where
  pub same_program : (r : Result (LocalProgram × ℕ) Error) → IfOk r (λ x. IsProgramOf t exposed held ps x.1 x.0)
      → IfOk r (λ x. IsProgramOf t exposed held qs x.1 x.0)
  same_program r is = subst (λ (l : List Payload). IfOk r (λ x. IsProgramOf t exposed held l x.1 x.0)) same is

  pub same_stop : (r : Result (LocalProgram × ℕ) Error) → IfErr r (StopsPayloads t exposed held ps)
      → IfErr r (StopsPayloads t exposed held qs)
  same_stop r stops = subst (λ (l : List Payload). IfErr r (StopsPayloads t exposed held l)) same stops

-- what stops payloads is a cause, also where it is passed up
pub program_refused : {T : Type 0} (t : TypeTable) (exposed : Option (List ℕ)) (limit held : ℕ) (ps : List Payload)
    (r : Result T Error) (e : Error) → IsErrAnd r (λ x. x ≡ e) → StopsPayloads t exposed held ps e
    → IfErr r (λ (x : Error). HasCause t exposed limit held ps x)
unfolding StopsPayloads
program_refused t exposed limit held ps r e passed stopped =
    passed_err r e (λ q. IfErr q (λ (x : Error). HasCause t exposed limit held ps x)) passed (stopped limit)

-- nothing was gained
pub gains_nothing : (t : TypeTable) (n : ℕ) (types : Types) → GainsFew t n types types
gains_nothing t n types = record {
  added = 0;
  types = few_none t 0 types types refl;
  tables = tables_none t 1 types types refl;
  few = inl refl;
}

-- The program of payloads that come to be read, with the total before the first item.
module _ (t : TypeTable) (exposed : Option (List ℕ)) (held : ℕ) (ps : List Payload) (c : ℕ) (program : LocalProgram)
    (is : IsProgramOf t exposed held ps c program) where
  -- the total isn't full
  pub is_below : c < full
  is_below = subst (λ m. m < full) (sym is.is_total) is.can.below

  -- core signatures of the table and types that were held before are in it
  pub held_in : length t.core_funcs + held ≤ c
  held_in = subst (λ m. length t.core_funcs + held ≤ m) (sym is.is_total) (held_counted t held ps)

  -- and so are the modules of the program
  pub modules_in : length program.modules ≤ c
  modules_in =
      subst (λ m. length program.modules ≤ m) (sym is.is_total)
      (subst (λ (ms : List ModuleRecord). length ms ≤ counted t held ps) (sym is.stands.modules)
      (modules_counted t held ps))

  -- as few were gained
  pub gains_in : (old new : Types) → GainsFew t c old new → GainsFew t (counted t held ps) old new
  gains_in old new few = subst (λ m. GainsFew t m old new) is.is_total few

  -- the table has no fault
  pub table_in : table_fault t ≡ None
  table_in = table_sound t exposed ps is.can.sound

  -- the modules are sound, the root, and the components
  pub modules_sound_in : list_all (is_sound t) program.modules ≡ true
  modules_sound_in =
      subst (λ (ms : List ModuleRecord). list_all (is_sound t) ms ≡ true) (sym is.stands.modules)
      (modules_sound t exposed ps is.can.sound)

  pub root_in : IsSoundBody (length program.modules) program.root
  root_in = root_is_sound t exposed ps program is.stands is.can.sound

  pub components_in : AreSoundBodies (length program.modules) program.components
  components_in = components_are_sound t exposed ps program is.stands is.can.sound

  module _ (limit : ℕ) (old types : Types) where
    -- why its body has no plan is the answer
    body_cause : (e : Error)
        → (e ≡ error.NoMemory)
        ⊎ (in_the_end (ending (reading_of t program.modules limit (Some c) is.stands.body)) ≡ Err e)
        → HasCause t exposed limit held ps e
    body_cause e (inl memory) = inl memory
    body_cause e (inr ends) =
        inr (ends_with t exposed limit held ps is.can is.stands.body is.stands.nests c is.is_total
        ∙ ap Some (subst (λ (ms : List ModuleRecord).
        in_the_end (ending (reading_of t ms limit (Some c) is.stands.body)) ≡ Err e) is.stands.modules ends))

    plan_cause : (e : Error) → Plans t program.modules limit c is.stands.body old types (Err e)
        → HasCause t exposed limit held ps e
    unfolding Plans
    plan_cause e h = body_cause e h

    -- the same of a refusal that is passed up
    pub plan_refused : {T : Type 0} (r : Result T Error) (e : Error) → IsErrAnd r (λ x. x ≡ e)
        → ((body : Items) → BodyStands program.components no_names program.root body
        → Plans t program.modules limit c body old types (Err e))
        → IfErr r (λ (x : Error). HasCause t exposed limit held ps x)
    plan_refused r e passed plans =
        passed_err r e (λ q. IfErr q (λ (x : Error). HasCause t exposed limit held ps x)) passed
        (plan_cause e (plans is.stands.body is.stands.root))

    module _ (p : ComponentTranslation × List ModuleTranslation)
        (planned : (body : Items) → BodyStands program.components no_names program.root body
        → Plans t program.modules limit c body old types (Ok p)) where
      -- a plan of a program is one of the root of its payloads
      of_root : IsPlanOfBody t (modules_of ps) limit c is.stands.body old types p.0 (map bare p.1) × HasFacts p.0 p.1
      unfolding Plans
      of_root =
          let both = planned is.stands.body is.stands.root in (
            subst (λ (ms : List ModuleRecord). IsPlanOfBody t ms limit c is.stands.body old types p.0 (map bare p.1))
                is.stands.modules both.0,
            both.1,
          )

      -- the plan of a program is the translation of its payloads
      pub translates_program : TellsApart types → Translates t exposed limit held ps types p.0 p.1
      translates_program tells =
          translates t exposed limit held ps is.stands.body is.stands.nests is.can c is.is_total old types p.0 p.1
          of_root.0 tells of_root.1

      -- and types that were gained for it are counted
      pub counts_program : CountsGained t exposed limit held ps old types
      counts_program =
          gained t exposed limit held ps is.stands.body is.stands.nests is.can c is.is_total old types p.0 p.1 of_root.0

-- valid payloads are refused for want of memory alone
pub valid_memory : {T : Type 0} (t : TypeTable) (exposed : Option (List ℕ)) (limit held : ℕ) (ps : List Payload)
    (r : Result T Error) → IfErr r (λ (x : Error). HasCause t exposed limit held ps x) → IsValid t exposed limit held ps
    → IfErr r (λ e. e ≡ error.NoMemory)
valid_memory t exposed limit held ps (Ok x) why valid = tt
valid_memory t exposed limit held ps (Err e) why valid = by why
  where
    one : (r : Reading) (e : Error)
        → ◌≡◌ {A = Option (Result Reading Error)} (Some (Ok r)) (Some (Err e)) → ⊥
    one r e is = let no : ⊥ = cc in no

    by : (e ≡ error.NoMemory) ⊎ (answer_in_order t exposed limit held ps ≡ Some (Err e)) → e ≡ error.NoMemory
    by (inl memory) = memory
    by (inr is) = absurd (one valid.reading e (sym valid.answer ∙ is))
