use Rattle.std.proofs.Common.{◌<◌, ℕ, List, length, refl, sym, ap, subst, ◌∙◌}
use Rattle.std.specs.Prelude.{slice_get}
use Rattle.pc_inline_state.proofs.AddsLemmas.{adds_refl}
use Rattle.pc_inline_state.proofs.StateLemmas.{keeps_refl}
use Rattle.pc_inline_state.proofs.TrailLemmas.{trails_refl, trails_same}
use Rattle.pc_inline_items.proofs.HostAliasLemmas.{host_follows, host_held, host_misses, path_held}
use Rattle.pc_inline_items.proofs.hosts.alias_host.Goals as goal

pub host_export-requires-clause-named : goal.host_export-requires-clause-named
host_export-requires-clause-named c = c.requires.here.1.sound.names.table

pub host_export-requires-clause-held : goal.host_export-requires-clause-held
host_export-requires-clause-held c =
    host_held c.args.context.now.modules c.args.path c.args.ty c.args.entry c.args.state.now c.requires.stands.0
    c.requires.stands.1

pub host_export-requires-clause-table : goal.host_export-requires-clause-table
host_export-requires-clause-table c = c.requires.here.1.sound.table

pub add_member-requires : goal.add_member-requires
add_member-requires c = record {
  held = path_held c.args.context.now.modules c.args.path c.args.ty c.args.entry c.args.state.now c.requires.stands.0
      c.requires.stands.1;
  named = subst (λ (xs : List (List ℕ)). c.args.number.0 < length xs) (sym c.requires.here.1.sound.names.paths)
      c.requires.named;
}

pub returns-in-Some : goal.returns-in-Some
returns-in-Some c =
    let e = c.add_member.ensures in
    record {
      keeps = e.keeps;
      adds = e.adds c.args.context.now.table.now;
      trail = trails_same _ _ _ _ e.changes e.resources;
      same = e.same;
      follows = λ name number.
          let held = ap (λ (xs : List (List ℕ)). slice_get xs c.args.number.0) c.requires.here.1.sound.names.paths
          ∙ number in
          host_follows c.args.context.now.table.now c.args.context.now.modules c.args.kind c.args.path c.args.ty
          c.args.entry name c.args.state.now c.args.frame.now c.host_export.result
          (c.host_export.ensures name number c.args.context.now.modules) c.in-Some.member c.in-Some.is _ _ _
          (e.follows name held);
    }

pub returns-in-None : goal.returns-in-None
returns-in-None c = record {
  keeps = keeps_refl _;
  adds = adds_refl _ _ _;
  trail = trails_refl _ _;
  same = refl;
  follows = λ name number.
      host_misses c.args.context.now.table.now c.args.context.now.modules c.args.kind c.args.path c.args.ty
      c.args.entry name c.args.state.now c.args.frame.now c.host_export.result
      (c.host_export.ensures name number c.args.context.now.modules) c.in-None.is _ _;
}
