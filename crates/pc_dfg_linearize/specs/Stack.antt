-- The stack of what is still to be done, bottom first.
use Rattle.std.specs.Prelude.{◌≡◌, ◌<◌, List, [], ◌∷◌, ◌++◌, ◌⊎◌, All, None, length}
use Rattle.pc_info.specs.declared.module.ModuleTranslation.{ModuleTranslation}
use Rattle.pc_dfg.specs.declared.dfg.ComponentDfg.{ComponentDfg}
use Rattle.pc_dfg_linearize.specs.declared.id.Id.{Id}
use Rattle.pc_dfg_linearize.specs.declared.id.Task.{Task}
use Rattle.pc_dfg_linearize.specs.declared.id.Task.TheVariants as task
use Rattle.pc_dfg_linearize.specs.declared.state.Finish.{Finish}
use Rattle.pc_dfg_linearize.specs.Closed.{Closed, Continues}
use Rattle.pc_dfg_linearize.specs.Once.{OnlyFrom}
use Rattle.pc_dfg_linearize.specs.Parts.{HasNumber, number_of, parts}
use Rattle.pc_dfg_linearize.specs.Reached.{GoesOn}
use Rattle.pc_dfg_linearize.specs.Ready.{CanClose, Leads}
use Rattle.pc_dfg_linearize.specs.Wired.{IsWired}
use Rattle.pc_dfg_linearize.specs.Work.{far, work}

-- the id of a task
abbrev pub id_of : Task → Id
id_of (task.Open x) = x
id_of (task.Close x) = x

-- ids to be opened, the first of them on top
abbrev pub opens : List Id → List Task
opens [] = []
opens (x ∷ xs) = opens xs ++ task.Open x ∷ []

-- an id that has its number is passed over; any other is to be closed, once its parts were opened
abbrev pub Opens : ComponentDfg → Finish → (old new : List Task) → Id → Type 0
Opens g f old new x =
    (HasNumber f x × (new ≡ old)) ⊎ ((number_of f x ≡ None) × (new ≡ old ++ task.Close x ∷ opens (parts g x)))

-- what a task needs: to open an id nothing, to close it that it has no number, that it can be closed, and that its
-- parts have their numbers
abbrev pub CanTake : ComponentDfg → Finish → Task → Type 0
CanTake g f (task.Open x) = Unit {0}
CanTake g f (task.Close x) =
    (number_of f x ≡ None) × CanClose g (length f.instances) x × All (HasNumber f) (parts g x)

-- what a task does: to open an id leaves the plan, to close it leaves the stack
abbrev pub Takes : ComponentDfg → (f f' : Finish) → (old new : List Task) → Task → Type 0
Takes g f f' old new (task.Open x) = (f' ≡ f) × Opens g f old new x
Takes g f f' old new (task.Close x) = (new ≡ old) × Closed g f f' x

-- an id has its number, or is on the stack
unfoldable pub Settled : Finish → List Task → Id → Type 0
Settled f [] x = HasNumber f x
Settled f (t ∷ above) x = (id_of t ≡ x) ⊎ Settled f above x

-- a task leads to less work than an id
abbrev pub IsLess : ComponentDfg → Id → Task → Type 0
IsLess g x t = work g (far g) (id_of t) < work g (far g) x

-- an id that waits to be closed has no number yet, and what stands above it leads to less work; so it isn't there twice
pub record IsAwaited (g : ComponentDfg) (f : Finish) (x : Id) (above : List Task) : Type 0 where
  pub parts : All (Settled f above) (parts g x)
  pub fresh : number_of f x ≡ None
  pub less : All (IsLess g x) above

-- what is said of a task below others: of one that closes an id, that its parts have their numbers or stand above
unfoldable pub Awaits : ComponentDfg → Finish → Task → (above : List Task) → Type 0
Awaits g f (task.Open x) above = Unit {0}
Awaits g f (task.Close x) above = IsAwaited g f x above

-- each task has what it waits for above it
unfoldable pub Waits : ComponentDfg → Finish → List Task → Type 0
Waits g f [] = Unit {0}
Waits g f (t ∷ above) = Awaits g f t above × Waits g f above

-- an id leads to that of a task
abbrev pub LeadsTo : ComponentDfg → Id → Task → Type 0
LeadsTo g root t = Leads g root (id_of t)

-- what holds between two tasks, where an id is given its number
pub record Ongoing (g : ComponentDfg) (old new : Finish) (root : Id) (tasks : List Task) : Type 0 where
  pub continues : Continues g old new
  pub settled : Settled new tasks root
  pub waits : Waits g new tasks
  pub led : All (LeadsTo g root) tasks
  pub only : OnlyFrom g old new root
  pub goes : (ms : List ModuleTranslation) → IsWired g ms → GoesOn g ms old new
