-- What a step keeps and adds after a function's types were converted.
use Rattle.std.proofs.Common.{◌≡◌, List, [], arith, refl, ◌∙◌}
use Rattle.pc_types_builder.specs.Plain.{Layers}
use Rattle.pc_types.specs.declared.parsed.TypeTable.{TypeTable}
use Rattle.pc_types_lists.specs.Adds.{most_types}
use Rattle.pc_inline_state.specs.declared.frame.Change.{Change}
use Rattle.pc_inline_state.specs.declared.state.State.{State}
use Rattle.pc_inline_state.specs.Adds.{Adds, most_converted, most_lowered}
use Rattle.pc_inline_state.specs.AddsEach.{AddsEach, nowhere}
use Rattle.pc_inline_state.specs.Prepares.{Converts}
use Rattle.pc_inline_state.specs.Tables.{Keeps, Tables, tables_of}
use Rattle.pc_inline_state.specs.Trails.{Trails}
use Rattle.pc_inline_state.proofs.AddsLemmas.{adds_both, adds_weaken, definition_few}
use Rattle.pc_inline_state.proofs.StateLemmas.{converts_prepares, keeps_trans}
use Rattle.pc_inline_state.proofs.TrailLemmas.{trails_same}

module _ (t : TypeTable) (a b : Tables) where
  -- the types alone were added
  pub types_few : Adds t (most_types t) a b → Adds t (most_converted t 1) a b
  types_few h = adds_weaken t (most_types t) (most_converted t 1) a b (omega arith) h

  pub types_lowered : Adds t (most_types t) a b → Adds t (most_lowered t) a b
  types_lowered h = adds_weaken t (most_types t) (most_lowered t) a b (omega arith) h

  -- and then what a function adds that is lowered
  pub lower_adds : (x : Tables) → Adds t (most_types t) a b → Adds t 36 b x → Adds t (most_lowered t) a x
  lower_adds x h k = adds_both t (most_types t) 36 (most_lowered t) a b x (omega arith) h k

  -- or the definition of a lifted function
  pub lift_adds : (x : Tables) → Adds t (most_types t) a b → AddsEach nowhere 0 1 b x → Adds t (most_converted t 1) a x
  lift_adds x h k = adds_both t (most_types t) 4 (most_converted t 1) a b x (omega arith) h (definition_few t b x k)

-- what is kept after that is kept from the start
pub lower_keeps : (t : TypeTable) (st mid : State) (before after : Layers) (x : Tables)
    → Converts t st before mid after → Keeps (tables_of mid) x → Keeps (tables_of st) x
lower_keeps t st mid before after x converts kept =
    keeps_trans (tables_of st) (tables_of mid) x (converts_prepares t [] st before mid after converts).keeps kept

-- and nothing that is known changed
pub lower_trail : (t : TypeTable) (st mid new : State) (before after : Layers) (cs : List Change)
    → Converts t st before mid after → new.types.resources ≡ mid.types.resources
    → Trails cs st.types.resources cs new.types.resources
lower_trail t st mid new before after cs converts same =
    trails_same cs st.types.resources cs new.types.resources refl (same ∙ converts.grows.resources)
