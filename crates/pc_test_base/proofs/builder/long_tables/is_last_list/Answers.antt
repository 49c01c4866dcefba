use Rattle.std.proofs.Common.{refl}
use Rattle.pc_types_lists.proofs.KeptTypes.{keeps_same}
use Rattle.pc_test_base.proofs.builder.long_tables.is_last_list.Goals as goal

pub returns-then-eq : goal.returns-then-eq
returns-then-eq c =
    c.forget.ensures _ _ _ c.requires.sound (keeps_same _) refl (λ q other. refl)
    c.convert_type_with-resource.ensures.converted

pub returns-else-eq : goal.returns-else-eq
returns-else-eq c =
    c.forget.ensures _ _ _ c.requires.sound (keeps_same _) refl (λ q other. refl)
    c.convert_type_with-resource.ensures.converted
