use Rattle.pc_types.specs.declared.types.TypeDef.TheVariants.{Module}
use Rattle.pc_types_lists.proofs.ErrorLemmas.{told}
use Rattle.pc_types_lists.proofs.Growth.{too_full}
use Rattle.std.proofs.Common.{◌∙◌, ap, subst, sym}
use Rattle.std.specs.Prelude.{slice_get}
use Rattle.pc_types.specs.Table.{is_module, is_some_and}
use Rattle.pc_types_builder.specs.Trees.{IsEntry}
use Rattle.pc_types_convert.proofs.SoundLemmas.{found_by}
use Rattle.pc_types_builder.proofs.KindLemmas.{module_kind}
use Rattle.pc_types_builder.proofs.builder.ComponentTypesBuilder.convert_module.Goals as goal

pub unreachable-requires : goal.unreachable-requires
unreachable-requires c =
    let passed = ap (λ ts. is_some_and is_module (slice_get ts c.args.n)) (sym c.as_slice.ensures)
    ∙ sym c.is_sound.ensures ∙ c.if-not-is_sound.false in
    let found = found_by is_module (slice_get c.args.table.now.types c.args.n) passed in
    let k = module_kind found.0 c.in_ok-i.field-0 found.2 (c.in_ok-i.ensures.kind found.0 found.1) in
    c.in_default.not-Module k.0 k.1

pub returns-clause-tree : goal.returns-clause-tree
returns-clause-tree c =
    subst (IsEntry c.entry_type.new.interned c.args.table.now c.args.n) c.in-Module.is c.in_ok-i.ensures.tree

pub returns-in_err-i-clause-full : goal.returns-in_err-i-clause-full
returns-in_err-i-clause-full c h =
    too_full _ _ _ (λ next g is q. (Module q.0, q.1))
    (told c.from_residual.result c.in_err-i.field-0.0 c.from_residual.ensures.1 c.in_err-i.ensures.full h)
