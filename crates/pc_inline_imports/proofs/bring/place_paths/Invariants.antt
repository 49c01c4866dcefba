use Rattle.pc_inline_imports.proofs.GiveLemmas.{PathsSoFar}
use Rattle.pc_inline_imports.proofs.bring.place_paths.Given as goal

-- the paths of the first places are there
abbrev pub invariant-loop-place : goal.invariant-loop-place
invariant-loop-place l =
    PathsSoFar l.context.table.now l.places l.fn.import l.fn.state l.state l.paths.items l.place-index
