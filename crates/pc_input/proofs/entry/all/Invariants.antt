use Rattle.std.proofs.Common.{◌≡◌, ◌++◌, drop, map, option_map}
use Rattle.pc_entity.specs.Lists.{map_all}
use Rattle.pc_input.proofs.entry.all.Given as goal

abbrev pub invariant-loop-value : goal.invariant-loop-value
invariant-loop-value g l =
    let f = g.T.ReadEntry.shape (g.F.Form.rules l.form) in
    option_map (λ xs. l.found ++ xs) (map_all f (map g.V.Tree.means (drop l.value-index l.values)))
    ≡ map_all f (map g.V.Tree.means l.values)
