use Rattle.std.proofs.Common.{ap, refl, sym, ◌∙◌}
use Rattle.pc_local.specs.declared.item.Translation.{Translation}
use Rattle.pc_inline.proofs.InlineLemmas.{begun_undeclared, root_items}
use Rattle.pc_inline.proofs.InstantiateLemmas.{begins_done, begins_not, begins_undone, prepare_point}
use Rattle.pc_inline.proofs.inliner.begin_root.Goals as goal

pub prepare_all-requires : goal.prepare_all-requires
prepare_all-requires c = record {
  input = c.requires.input;
  ready = c.requires.ready;
  here = prepare_point _ _ _ c.args.root.now _ c.args.state.now c.requires.fresh _ c.begin_instance.ensures.grows _
      c.requires.weight _ _ c.in_ok-instance.ensures.begins _ _ c.new-arguments.ensures _
      c.new-converted.ensures.converted c.new-frame.ensures c.requires.bodies
      c.requires.names;
  undeclared = begun_undeclared _ c.args.context.now.modules _ c.args.state.now c.requires.fresh _ _ _ _ _
      c.in_ok-instance.ensures.begins;
  items = root_items _ _ refl c.args.root.now _ c.as_slice.ensures c.requires.stands;
  rooted = ap (λ (tr : Translation). tr.initializers) c.requires.rooted ∙ sym c.as_slice.ensures;
}

pub returns : goal.returns
returns c =
    begins_done _ _ _ c.args.root.now _ c.args.state.now c.requires.fresh _ c.begin_instance.ensures.grows _
    c.requires.weight _ _ c.in_ok-instance.ensures.begins _ _ c.new-arguments.ensures _
    c.new-converted.ensures.converted c.new-frame.ensures c.requires.bodies c.requires.names _ c.as_slice.ensures _ _
    c.prepare_all.ensures.keeps c.prepare_all.ensures.adds c.requires.stands _ c.in_ok-prepare_all.ensures.prepared

pub returns-in_err-instance : goal.returns-in_err-instance
returns-in_err-instance c =
    begins_not _ _ _ c.args.root.now _ c.args.state.now c.requires.fresh _ c.begin_instance.ensures.grows _
    c.requires.weight _ _ c.in_err-instance.ensures.begins _ c.from_residual.ensures.1

pub returns-in_err-prepare_all : goal.returns-in_err-prepare_all
returns-in_err-prepare_all c =
    begins_undone _ _ _ c.args.root.now _ c.args.state.now c.requires.fresh _ c.begin_instance.ensures.grows _
    c.requires.weight _ _ c.in_ok-instance.ensures.begins _ _ c.new-arguments.ensures _
    c.new-converted.ensures.converted c.new-frame.ensures c.requires.bodies c.requires.names _ c.as_slice.ensures _ _
    c.prepare_all.ensures.keeps c.prepare_all.ensures.adds c.requires.stands _ c.in_err-prepare_all.ensures.prepared _
    c.from_residual-in_err-prepare_all.ensures.1
