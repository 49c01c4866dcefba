-- What an instance has at a place, as the code finds it.
use Rattle.std.specs.Prelude.{ℕ, Bool, true, false, List, Option, option_and_then, option_map, slice_get}
use Rattle.pc_entity.specs.declared.string_pool.Atom.{Atom}
use Rattle.pc_inline_state.specs.declared.definition.Definition.{Definition}
use Rattle.pc_inline_state.specs.declared.definition.Definition.TheVariants as definition
use Rattle.pc_inline_state.specs.declared.definition.ExportsId.{ExportsId}
use Rattle.pc_inline_state.specs.declared.state.Member.{Member}
use Rattle.pc_inline_state.specs.declared.state.State.{State}
use Rattle.pc_inline_exports.specs.declared.part.Found.{Found}

-- whether it is an instance that is exported with what it exports itself
abbrev pub nests : Definition → Bool
nests (definition.Instance n ty) = true
nests (definition.HostInstance p ty entry) = true
nests d = false

-- a member with its name and the definition that it is
abbrev pub found_member : (names : List (List ℕ)) → List Definition → Atom × Member → Option Found
found_member names ds e =
    option_and_then
    (λ (name : List ℕ). option_map (λ (d : Definition). record { name = name; data_ = e.1.data_; definition = d })
    (slice_get ds e.1.item.0))
    (slice_get names e.0.0)

-- what an instance that was made has at a place
abbrev pub made_part : State → ExportsId → (place : ℕ) → Option Found
made_part st n place =
    option_and_then
    (λ (es : List (Atom × Member)). option_and_then (found_member st.names.now.texts st.definitions)
    (slice_get es place))
    (slice_get st.instances n.0)
