-- An async function that takes an owned and a borrowed handle and gives a stream, with a callback.
use Rattle.std.specs.Prelude.{ℕ, true, false, List, [], ◌∷◌}
use Rattle.pc_types.specs.declared.encoding.StringEncoding.TheVariants as encoding
use Rattle.pc_types.specs.declared.trampoline.TrampolineKind.TheVariants as kind
use Rattle.pc_types_lists.specs.Facts.{a_borrow, a_stream, an_own, join}
use Rattle.pc_spec_plan.specs.CoreValue as value
use Rattle.pc_spec_plan.specs.CoreValue.{CoreValue}
use Rattle.pc_spec_adapt.specs.Asked.{FunctionFacts}
use Rattle.pc_spec_adapt.specs.Import.{Import}
use Rattle.pc_test_adapt.specs.Two.{bare, plain, trap}
use Rattle.pc_test_adapt.specs.Words.{as_flags, as_function, as_memory, func, held, memory, nothing, parts}

-- two kinds of handle are taken, and a third is given
abbrev pub handles : FunctionFacts
handles = record { params = join a_borrow an_own; results = a_stream; is_async = true }

-- lifted in component instance 1 with a memory of 64 bits and a callback, lowered in 3
abbrev pub async_adapter : CoreValue ℕ
async_adapter =
    value.adapter 0 (value.options 1 encoding.Utf8 false 4 (value.a_value (func 0 2)) value.no_value
    (value.linear (value.a_value (memory 0)) value.no_value)) 1 (plain 3 5) (func 0 0)

-- the transfers stand in the order own, borrow, stream
abbrev pub async_imports : List (Import ℕ)
async_imports =
    as_function 4 (func 0 0) ∷ as_flags 3 ∷ as_flags 1 ∷ as_memory true (memory 0) ∷ as_function 5 (func 0 2)
    ∷ bare kind.ResourceTransferOwn ∷ bare kind.ResourceTransferBorrow ∷ bare kind.StreamTransfer
    ∷ as_function 5 (value.helper kind.PrepareCall (parts (value.mark_part 5 ∷ held (memory 0) ∷ [])))
    ∷ as_function 5 (value.helper kind.StartCall (parts (value.mark_part 5 ∷ held (func 0 2) ∷ nothing ∷ [])))
    ∷ trap ∷ []
