use Rattle.pc_types.specs.declared.types.TypeDef.TheVariants.{Interface}
use Rattle.pc_types_lists.proofs.ErrorLemmas.{told}
use Rattle.pc_types_lists.proofs.Growth.{too_full}
use Rattle.std.proofs.Common.{◌∙◌, subst, sym}
use Rattle.std.specs.Prelude.{slice_get}
use Rattle.pc_types.specs.Table.{is_defined_type}
use Rattle.pc_types_builder.specs.Trees.{IsEntry}
use Rattle.pc_types_convert.proofs.SoundLemmas.{found_by}
use Rattle.pc_types_builder.proofs.KindLemmas.{defined_kind}
use Rattle.pc_types_builder.proofs.builder.ComponentTypesBuilder.defined_type.Goals as goal

pub unreachable-requires : goal.unreachable-requires
unreachable-requires c =
    let passed = sym c.is_defined_at.ensures ∙ c.if-not-is_defined_at.false in
    let found = found_by is_defined_type (slice_get c.args.table.now.types c.args.n) passed in
    let k = defined_kind found.0 c.in_ok-w.field-0 found.2 (c.in_ok-w.ensures.kind found.0 found.1) in
    c.in_default.not-Interface k.0 k.1

pub returns-clause-tree : goal.returns-clause-tree
returns-clause-tree c =
    subst (IsEntry c.entry_type.new.interned c.args.table.now c.args.n) c.in-Interface.is c.in_ok-w.ensures.tree

pub returns-in_err-w-clause-full : goal.returns-in_err-w-clause-full
returns-in_err-w-clause-full c h =
    too_full _ _ _ (λ next g is q. (Interface q.0, q.1))
    (told c.from_residual.result c.in_err-w.field-0.0 c.from_residual.ensures.1 c.in_err-w.ensures.full h)
