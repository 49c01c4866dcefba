-- What the interned types become whose resources were lent.
use Rattle.std.specs.Borrow.{Lends, MutBor, Fml}
use Rattle.pc_types_lists.specs.Types.{Types, Resources}
use Rattle.pc_types_lists.specs.contracts.interned_types.InternedTypes.{the_row as types_row}
use Rattle.pc_types_lists.specs.contracts.resources.ResourcesBuilder.{the_row as resources_row}

-- the types end with the last resources behind the reference
abbrev pub LendsResources : MutBor Types → MutBor Resources → Fml
LendsResources b r = Lends types_row resources_row b r (λ (k : Resources). record b.now { resources = k })
