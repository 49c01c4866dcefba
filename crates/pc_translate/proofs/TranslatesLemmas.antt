-- The plan of a body is the translation of the payloads that have it as root.
use Rattle.std.proofs.Common.{◌≡◌, ℕ, List, map, Option, None, Some, Ok, ap, refl, subst, ◌∙◌}
use Rattle.pc_types_lists.specs.Types.{Types}
use Rattle.pc_inline_canon.proofs.NumberLemmas.{TellsApart}
use Rattle.pc_types.specs.declared.module_record.ModuleRecord.{ModuleRecord}
use Rattle.pc_types.specs.declared.parsed.TypeTable.{TypeTable}
use Rattle.pc_trampoline.specs.declared.part.Mark.{Mark}
use Rattle.pc_spec_plan.specs.CoreValue.{map_value}
use Rattle.pc_spec_plan.specs.Log.{map_entry}
use Rattle.pc_spec_plan.specs.Machine.{State, export_nodes, resolve, run}
use Rattle.pc_spec_plan.specs.PlanView.{PlanView, trampoline}
use Rattle.pc_spec_plan.specs.Trace.{run_trace}
use Rattle.pc_spec_wiring.specs.Confined.{IsConfinedRun}
use Rattle.pc_spec_wiring.specs.FunctionTypes.{has_handle, is_async_type}
use Rattle.pc_spec_facts.specs.Recorded.{bare}
use Rattle.pc_confined.proofs.ConfinedLemmas.{of_body}
use Rattle.pc_confined.proofs.ReachLemmas.{threads_kept}
use Rattle.pc_info.specs.Apart.{AreApart}
use Rattle.pc_info.specs.View.{counts_view, view}
use Rattle.pc_inline_state.specs.Holds.{ReadsAs, number_of}
use Rattle.pc_info.specs.declared.component.ComponentTranslation.{ComponentTranslation}
use Rattle.pc_info.specs.declared.module.ModuleTranslation.{ModuleTranslation}
use Rattle.pc_parsed.specs.declared.payload.Payload.{Payload}
use Rattle.pc_spec_reading.specs.Answer.{ending}
use Rattle.pc_spec_reading.specs.Item.{Items}
use Rattle.pc_spec_reading.specs.Nest.{root_of}
use Rattle.pc_spec_reading.specs.Outcome.{Outcome, done}
use Rattle.pc_spec_reading.specs.Reading.{Reading, reading_of}
use Rattle.pc_spec_reading.specs.Section.{modules_of}
use Rattle.pc_spec_reading.specs.Total.{counted}
use Rattle.pc_translate.proofs.AnswerLemmas.{ends_with}
use Rattle.pc_translate.proofs.AskedLemmas.{asks_host}
use Rattle.pc_translate.proofs.AdaptedLemmas.{adapts}
use Rattle.pc_translate.proofs.DeclaredLemmas.{declares, signs}
use Rattle.pc_translate.proofs.ErasureLemmas.{does_as}
use Rattle.pc_translate.proofs.HeldLemmas.{counts, finds, is_tidy, numbers_items}
use Rattle.pc_translate.proofs.RunLemmas.{runs}
use Rattle.pc_translate.proofs.ToldLemmas.{as_read, is_told}
use Rattle.pc_dfg_finish.specs.ModuleTypes.{module_mark}
use Rattle.pc_translate.proofs.ConfinedLemmas.{confined_run}
use Rattle.pc_translate.proofs.HandedInLemmas.{handed_in_same}
use Rattle.pc_translate.proofs.ViewLemmas.{view_bare}
use Rattle.pc_translate.specs.Adapters.{first_lacking}
use Rattle.pc_translate.specs.Asked.{AsksHost, Declares}
use Rattle.pc_translate.specs.Causes.{CanBeRead, answer_in_order, in_the_end, or_lacking}
use Rattle.pc_translate.specs.Planning.{IsPlanOfBody}
use Rattle.pc_translate.specs.Recorded.{HasFacts}
use Rattle.pc_translate.specs.Translation.{CountsGained, DoesAs, GainsCounted, Translates, counts_of}
use Rattle.pc_translate.specs.Typed.{TypedAs}

-- a plan that looks the same does the same
abbrev typed_alike : (types : Types) (r : Reading) (p q : PlanView Mark) → p ≡ q → TypedAs types p r
    → TypedAs types q r
typed_alike types r p q same typed =
    let stuck = typed.never_stuck in
    record {
      never_stuck = record {
        last = stuck.last;
        nodes = stuck.nodes;
        runs = subst (λ v. run v ≡ Some stuck.last) same stuck.runs;
        ends = subst (λ v. export_nodes v stuck.last ≡ Some stuck.nodes) same stuck.ends;
      };
      entries = typed.entries;
      exports = typed.exports;
      traced = subst (λ v. run_trace v
          ≡ Some (map (map_entry (number_of types (ReadsAs r.imported_resources))) typed.entries)) same typed.traced;
      ends = typed.ends;
      same_trace = typed.same_trace;
      same_exports = typed.same_exports;
    }

-- and its trampolines are declared alike
declares_alike : (types : Types) (plan : ComponentTranslation) (ms ns : List ModuleTranslation) (last : State Mark)
    (r : Reading) → view plan ms ≡ view plan ns → Declares types plan ms last r → Declares types plan ns last r
declares_alike types plan ms ns last r same d = record {
  few = d.few;
  trampolines = λ n x at headed.
      let it = d.trampolines n x at headed in
      record {
        value = it.value;
        resolves = subst (λ v. resolve v last (trampoline n)
            ≡ Some (map_value (number_of types (ReadsAs r.imported_resources)) it.value)) same it.resolves;
        entry = it.entry;
        signature = it.signature;
        stands_under = it.stands_under;
        signed = it.signed;
      };
  as_many = d.as_many;
  resources = d.resources;
}

-- a reading that is done is the answer, if no adapter of it lacks an option
done_answer : (o : Outcome Reading) (r : Reading) → o ≡ done r → first_lacking r ≡ None → in_the_end (ending o) ≡ Ok r
done_answer o r is complete = (λ i. in_the_end (ending (is i))) ∙ (λ i. or_lacking (complete i) r)

module _ (t : TypeTable) (exposed : Option (List ℕ)) (limit held : ℕ) (ps : List Payload) (body : Items)
    (root : root_of exposed ps ≡ Some body) (can : CanBeRead t exposed held ps) (c : ℕ) (total : c ≡ counted t held ps)
    (old types : Types) (plan : ComponentTranslation) (modules : List ModuleTranslation)
    (p : IsPlanOfBody t (modules_of ps) limit c body old types plan (map bare modules)) where
  -- the reading of the plan is the answer
  answers : answer_in_order t exposed limit held ps ≡ Some (Ok p.stands.result)
  answers =
      ends_with t exposed limit held ps can body root c total
      ∙ ap Some (done_answer (reading_of t (modules_of ps) limit (Some c) body) p.stands.result p.stands.outcome
      p.partitioned.complete)

  -- and the types that were gained are counted in it
  pub gained : CountsGained t exposed limit held ps old types
  unfolding CountsGained
  gained = (
    p.stands.result,
    answers,
    subst (λ n. GainsCounted t n p.stands.result old types) total p.gains,
  )

  pub translates : TellsApart types → HasFacts plan modules
      → Translates t exposed limit held ps types plan modules
  unfolding HasFacts does_as
  translates tells facts =
      let ms : List ModuleRecord = modules_of ps in
      let bares = map bare modules in
      let same : view plan bares ≡ view plan modules = view_bare plan modules in
      let g = p.graph in
      let h = p.grouped in
      let r : Reading = p.stands.result in
      let s = p.stands.stands in
      let q = p.partitioned in
      let converted : ℕ → Mark = module_mark p.finished.types in
      let f = p.finished.finishes in
      let u = as_read t types ms g r in
      let told = is_told t types ms g r s tells.builder in
      let run = runs t types ms g h r plan bares s q p.finished in
      let last = run.typed.never_stuck.last in
      let does = does_as types _ r run.typed run.makes in
      let adapted = adapts t types ms g h r bares s tells u p.tells told q last run.adapters in
      let confined = of_body t ms limit (Some c) body r p.stands.outcome in
      record {
        result = r;
        answer = answers;
        does = subst (λ v. DoesAs v r) same does;
        typed = typed_alike types r (view plan bares) (view plan modules) same run.typed;
        adapts = adapted;
        counts = subst (λ v. counts_view plan.component ≡ counts_of v r types) same
            (counts t types ms g h r converted plan bares s q f);
        asked = subst (λ v. AsksHost types v r) same (asks_host t types ms g h r converted plan bares s q f);
        declared = declares_alike types plan bares modules last r same
            (declares t types ms g h r converted plan bares s q f last run.trampolines);
        signed = signs t types ms g h r converted plan bares s q f;
        tidy = is_tidy t types ms g h r converted plan bares s q f;
        items = numbers_items t types ms g h r converted plan bares s q f;
        held = f.held;
        finds = finds t types ms g h r converted plan bares s q f;
        values_apart = subst (λ v. AreApart v last) same (run.values_apart u (q.told u told));
        confined = subst (λ v. IsConfinedRun v last) same
            (confined_run types ms r bares last (view plan bares) adapted
            (handed_in_same t types ms g h r bares s q) refl run.typed.never_stuck.runs does.same does.traced confined);
        keeps_threads = threads_kept is_async_type has_handle r.log r.nodes confined;
        facts = facts;
      }
