use Rattle.pc_types.specs.declared.types.TypeDef.TheVariants.{ComponentFunc}
use Rattle.pc_types_lists.proofs.ErrorLemmas.{told}
use Rattle.pc_types_lists.proofs.Growth.{too_full}
use Rattle.std.proofs.Common.{◌∙◌, ap, subst, sym}
use Rattle.std.specs.Prelude.{slice_get}
use Rattle.pc_types.specs.Table.{is_func, is_some_and}
use Rattle.pc_types_builder.specs.Trees.{IsEntry}
use Rattle.pc_types_convert.proofs.SoundLemmas.{found_by}
use Rattle.pc_types_builder.proofs.KindLemmas.{func_kind}
use Rattle.pc_types_builder.proofs.TreeLemmas.{func_held}
use Rattle.pc_types_builder.proofs.builder.ComponentTypesBuilder.convert_func_with.Goals as goal

pub unreachable-requires : goal.unreachable-requires
unreachable-requires c =
    let passed = ap (λ ts. is_some_and is_func (slice_get ts c.args.n)) (sym c.as_slice.ensures)
    ∙ sym c.is_sound.ensures ∙ c.if-not-is_sound.false in
    let found = found_by is_func (slice_get c.args.table.now.types c.args.n) passed in
    let k = func_kind found.0 c.in_ok-i.field-0 found.2 (c.in_ok-i.ensures.kind found.0 found.1) in
    c.in_default.not-ComponentFunc k.0 k.1

pub returns-clause-tree : goal.returns-clause-tree
returns-clause-tree c =
    subst (IsEntry c.entry_with.new.interned c.args.table.now c.args.n) c.in-ComponentFunc.is c.in_ok-i.ensures.tree

pub returns-clause-ok : goal.returns-clause-ok
returns-clause-ok c = (
  ap (λ ts. is_some_and is_func (slice_get ts c.args.n)) (sym c.as_slice.ensures)
      ∙ sym c.is_sound.ensures ∙ c.if-not-is_sound.false,
  func_held c.entry_with.new.interned c.args.table.now c.args.n c.in-ComponentFunc.i
      (subst (IsEntry c.entry_with.new.interned c.args.table.now c.args.n) c.in-ComponentFunc.is
      c.in_ok-i.ensures.tree),
)

pub returns-in_err-i-clause-full : goal.returns-in_err-i-clause-full
returns-in_err-i-clause-full c h = (
  ap (λ ts. is_some_and is_func (slice_get ts c.args.n)) (sym c.as_slice.ensures)
      ∙ sym c.is_sound.ensures ∙ c.if-not-is_sound.false,
  too_full _ _ _ (λ next g is q. (ComponentFunc q.0, q.1))
      (told c.from_residual.result c.in_err-i.field-0.0 c.from_residual.ensures.1 c.in_err-i.ensures.full h),
)
