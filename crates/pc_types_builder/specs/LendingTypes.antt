-- What a lent builder becomes that was lent once more.
use mir.Syntax.{named}
use Rattle.std.specs.Borrow.{Lends, MutBor, Fml}
use Rattle.std.specs.Prelude.{[]}
use Rattle.pc_types_lists.specs.Types.{Types}
use Rattle.pc_types_builder.specs.contracts.builder.ComponentTypesBuilder.{the_row as builder_row}
use Rattle.pc_types_builder.specs.declared.pre_inlining.PreInliningComponentTypes.{PreInliningComponentTypes}
use Rattle.pc_types_builder.specs.contracts.pre_inlining.PreInliningComponentTypes.{the_row as lent_row}

-- the builder ends with the last types behind the reference
abbrev pub LendsTypes : MutBor PreInliningComponentTypes → MutBor Types → Fml
LendsTypes p b = Lends (lent_row (record { mir = named 1; lft = [] })) builder_row p b
    (λ (t : Types). record p.now { types = record p.now.types { now = t } })
