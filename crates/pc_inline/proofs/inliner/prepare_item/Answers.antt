use Rattle.std.proofs.Common.{rules, refl, sym, subst}
use Rattle.pc_local.specs.Plain.{plain_item}
use Rattle.pc_inline_state.specs.Adds.{Adds, most_prepared}
use Rattle.pc_inline_state.specs.Tables.{tables_of}
use Rattle.pc_inline_state.proofs.AddsLemmas.{adds_refl}
use Rattle.pc_inline_names.proofs.NumberedLemmas.{one_number}
use Rattle.pc_inline.proofs.DriverLemmas.{import_numbered, import_prepares, other_prepares}
use Rattle.pc_inline_state.proofs.StateLemmas.{keeps_refl}
use Rattle.pc_inline.proofs.inliner.prepare_item.Goals as goal

pub returns-in-Import-clause-steps : goal.returns-in-Import-clause-steps
unfolding plain_item
returns-in-Import-clause-steps c =
    import_prepares _ _ _ _ _ _ _ _ _ _ (grind (rules, c.in-Import.is))
    (c.prepare.ensures.steps ((one_number _ _ _ (import_numbered _ _ _ _ c.in-Import.is _ c.requires.numbered)).1 _
    (record { 0 = 0 }) refl))

pub bounds-numbers-0 : goal.bounds-numbers-0
bounds-numbers-0 c = (one_number _ _ _ (import_numbered _ _ _ _ c.in-Import.is _ c.requires.numbered)).0

pub returns-in-Import-clause-adds : goal.returns-in-Import-clause-adds
returns-in-Import-clause-adds c =
    subst (λ l. Adds c.args.context.now.table.now (most_prepared c.args.context.now.table.now l)
    (tables_of c.args.state.now) (tables_of c.prepare.new.state)) (sym c.in-Import.is) c.prepare.ensures.adds

pub returns-in_default : goal.returns-in_default
returns-in_default c = record {
  keeps = keeps_refl _;
  same = refl;
  adds = adds_refl _ _ _;
  undeclared = c.requires.undeclared;
  steps = other_prepares _ _ _ _ _ c.in_default.not-Import;
}
