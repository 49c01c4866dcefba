use Rattle.std.proofs.Common.{◌≡◌, refl, sym, ap, ◌∙◌, arith}
use Rattle.std.specs.Prelude.{Some, slice_get, slice_set}
use Rattle.std.proofs.lemmas.Option.{none-some}
use Rattle.pc_entity.proofs.LookupLemmas.{found_at}
use Rattle.pc_analysis_contexts.proofs.IndexLemmas.{imported_few, record_at}
use Rattle.pc_analysis_contexts.proofs.RecordLemmas.{both_ok, err_then, set_same}
use Rattle.pc_analysis_contexts.proofs.vmctx.write_facts_at.Goals as goal

pub write_facts-requires : goal.write_facts-requires
write_facts-requires c =
    let ms = c.args.modules.now in
    let n = c.args.number.0 in
    let x = c.in-Some.translation.now in
    let at : slice_get ms n ≡ Some x = sym c.in-Some.ensures.value in
    record {
      few = omega (arith, imported_few x.«module», c.requires.few n x.«module» (record_at ms n x at));
    }

pub returns-in-Some-clause-ok : goal.returns-in-Some-clause-ok
returns-in-Some-clause-ok c =
    both_ok c.write_facts.result
    (λ recorded kept. record {
      before = c.in-Some.translation.now;
      after = c.write_facts.new.translation;
      there = sym c.in-Some.ensures.value;
      kept = kept;
      recorded = recorded;
      is = refl;
    })
    c.write_facts.ensures.recorded c.write_facts.ensures.kept

pub returns-in-Some-clause-err : goal.returns-in-Some-clause-err
returns-in-Some-clause-err c =
    let ms = c.args.modules.now in
    let n = c.args.number.0 in
    err_then c.write_facts.result
    (λ same. ap (slice_set ms n) same ∙ set_same ms n c.in-Some.translation.now (sym c.in-Some.ensures.value))
    c.write_facts.ensures.err

pub returns-in-None-clause-ok : goal.returns-in-None-clause-ok
returns-in-None-clause-ok c =
    let f = found_at c.args.modules.now c.args.number.0 c.requires.held in
    absurd (none-some f.0 (c.in-None.ensures.value ∙ f.1))
