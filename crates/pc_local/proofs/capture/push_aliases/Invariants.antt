use Rattle.std.proofs.Common.{drop}
use Rattle.pc_local.specs.Captured.{AliasesGo, Part, part}
use Rattle.pc_local.proofs.capture.push_aliases.Given as goal

abbrev pub invariant-loop-alias : goal.invariant-loop-alias
invariant-loop-alias l =
    (new : Part) → AliasesGo (drop l.alias-index l.aliases) (part l.items l.modules.items l.components.items) new
    → AliasesGo l.aliases (part l.fn.items l.fn.modules.items l.fn.components.items) new
