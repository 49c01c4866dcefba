-- Within the crate: a graph has too many entries, by a plan that has no number left.
use Rattle.std.specs.Prelude.{◌≡◌, ◌≤◌, None, length}
use Rattle.pc_dfg.specs.declared.dfg.ComponentDfg.{ComponentDfg}
use Rattle.pc_dfg_linearize.specs.declared.id.Id.{Id}
use Rattle.pc_dfg_linearize.specs.declared.state.Finish.{Finish}
use Rattle.pc_dfg_linearize.specs.Added.{IsFull}
use Rattle.pc_dfg_linearize.specs.Full.{HasTooMany}
use Rattle.pc_dfg_linearize.specs.Once.{Fills}
use Rattle.pc_dfg_linearize.specs.Parts.{number_of}
use Rattle.pc_dfg_linearize.specs.Ready.{CanClose}

-- an id could be closed, but there is no number for it
pub record IsLeftOver (g : ComponentDfg) (f : Finish) (x : Id) : Type 0 where
  pub fresh : number_of f x ≡ None
  pub can : CanClose g (length f.instances) x
  pub full : IsFull f x

-- where a plan has each number once, and no more core instances than its graph, the graph has too many entries
abbrev pub Outgrows : ComponentDfg → Finish → Type 0
Outgrows g f = Fills f → length f.instances ≤ length g.instances → HasTooMany g
