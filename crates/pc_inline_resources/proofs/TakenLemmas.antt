-- The resources of an argument, and of what a child exports, as the reading says it.
use Rattle.std.proofs.Common.{ℕ, List, [], sym, subst}
use Rattle.std.specs.Prelude.{⊤, Result}
use Rattle.pc_types.specs.declared.module_record.ModuleRecord.{ModuleRecord}
use Rattle.pc_types.specs.declared.parsed.Entity.{Entity}
use Rattle.pc_types.specs.declared.parsed.Entity.TheVariants as entity
use Rattle.pc_types.specs.declared.parsed.TypeTable.{TypeTable}
use Rattle.pc_types.specs.TypeTree.{TypeTree, enum_of}
use Rattle.pc_spec_reading.specs.Member.{resource_at}
use Rattle.pc_spec_reading.specs.Resource.{newly, registered, resource_paths, walk}
use Rattle.pc_spec_reading.specs.Scope.{Moment}
use Rattle.pc_spec_reading.specs.Value.{NamedValues, Value, instance_value, made_instance}
use Rattle.pc_inline_state.specs.declared.error.ItemError.{ItemError}
use Rattle.pc_inline_state.specs.declared.frame.Frame.{Frame}
use Rattle.pc_inline_state.specs.declared.state.State.{State}
use Rattle.pc_inline_state.specs.Points.{Follows, PointStands, Steps}
use Rattle.pc_inline_resources.specs.Registers.{returned, taken, with_found}
use Rattle.pc_inline_resources.proofs.AlongLemmas.{all_known}
use Rattle.pc_inline_resources.proofs.ValueLemmas.{among_at}

-- the type of an instance from which resources are taken doesn't matter
abbrev pub a_tree : TypeTree
a_tree = enum_of []

module _ (t : TypeTable) (ms : List ModuleRecord) (st : State) (f : Frame) (st' : State) (f' : Frame)
    (r : Result ⊤ ItemError) where
  -- those of an argument, at the paths to numbers that aren't known
  pub taken_steps : (e : Entity) (v : Value)
      → ((now : Moment) → PointStands t ms st f now
      → Follows t ms st' f'
      (all_known (λ names. resource_at names v) (newly now.scope.known (resource_paths t e)) now) r)
      → Steps t ms (taken t e v) st f st' f' r
  unfolding Steps taken registered walk
  taken_steps e v follows now at = follows now at

  -- those of what a child exports are those of an instance of it
  pub returned_steps : (ty : ℕ) (vs : NamedValues)
      → Steps t ms (taken t (entity.Instance ty) (instance_value (made_instance vs a_tree))) st f st' f' r
      → Steps t ms (returned t ty vs) st f st' f' r
  unfolding Steps taken returned
  returned_steps ty vs steps now at =
      subst (λ z. Follows t ms st' f' z r)
      (λ i. with_found now (registered (λ names. sym (among_at vs a_tree names) i)
      (resource_paths t (entity.Instance ty)) now.scope.known))
      (steps now at)
