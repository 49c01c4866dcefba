-- Each number of a plan is given once, and only where something leads to it.
use Rattle.std.specs.Prelude.{◌≡◌, ℕ, ◌<◌, ◌⊎◌, length, option_map, Option, Some, slice_get}
use Rattle.pc_numbers.specs.declared.runtime.RuntimeInstanceIndex.{RuntimeInstanceIndex}
use Rattle.pc_spec_plan.specs.PlanView as plan
use Rattle.pc_dfg.specs.declared.dfg.ComponentDfg.{ComponentDfg}
use Rattle.pc_dfg_linearize.specs.declared.id.Id.{Id}
use Rattle.pc_dfg_linearize.specs.declared.id.Id.TheVariants as id
use Rattle.pc_dfg_linearize.specs.declared.state.Finish.{Finish}
use Rattle.pc_dfg_linearize.specs.Numbers.{number_at}
use Rattle.pc_dfg_linearize.specs.Parts.{HasNumber, number_of, slot_numbers}
use Rattle.pc_dfg_linearize.specs.Plan.{slot_count}
use Rattle.pc_dfg_linearize.specs.Ready.{Leads}

-- the numbers below a count are given, each to one entry, and no others are
pub record AreGiven {A : Type 0} (number : A → Option ℕ) (count : ℕ) : Type 0 where
  pub below : (x : A) (n : ℕ) → number x ≡ Some n → n < count
  pub given : (n : ℕ) → n < count → (x : A) × (number x ≡ Some n)
  pub once : (x y : A) (n : ℕ) → number x ≡ Some n → number y ≡ Some n → x ≡ y

-- where a core instance of the run comes from: a core instance of the graph, or a module of adapters
pub data Origin : Type 0 where
  of_instance : ℕ → Origin
  of_module : ℕ → Origin

-- the number of a core instance in the run
abbrev pub number_in_run : Finish → Origin → Option ℕ
number_in_run f (of_instance k) = option_map (λ (n : RuntimeInstanceIndex). n.0) (slice_get f.instances k)
number_in_run f (of_module k) = number_at f.numbers.adapter_modules k

-- each slot, options entry, lowering, trampoline and core instance of the plan is that of one entry of the graph
pub record Fills (f : Finish) : Type 0 where
  pub slots : (k : plan.SlotKind) → AreGiven (number_at (slot_numbers f k)) (slot_count f k)
  pub options : AreGiven (number_at f.numbers.options) (length f.options)
  pub lowerings : AreGiven (number_at f.numbers.lowerings) f.counts.lowerings
  pub trampolines : AreGiven (number_at f.numbers.trampolines) (length f.trampolines)
  pub instances : AreGiven (number_in_run f) f.counts.instances

-- an id without the signature of an unsafe intrinsic, which has one number under all of them
unfoldable pub unsigned : Id → Id
unsigned (id.Memory n) = id.Memory n
unsigned (id.Table n) = id.Table n
unsigned (id.Realloc n) = id.Realloc n
unsigned (id.Callback n) = id.Callback n
unsigned (id.PostReturn n) = id.PostReturn n
unsigned (id.Options o) = id.Options o
unsigned (id.Lowering t) = id.Lowering t
unsigned (id.Trampoline t) = id.Trampoline t
unsigned (id.Intrinsic s i) = id.Intrinsic (record { 0 = 0 }) i
unsigned (id.AdapterModule m) = id.AdapterModule m

-- two ids have one number
abbrev pub Alike : Id → Id → Type 0
Alike x y = unsigned x ≡ unsigned y

-- an id is one to which another one leads
abbrev pub IsUsedBy : ComponentDfg → (user used : Id) → Type 0
IsUsedBy g x y = (z : Id) × Leads g x z × Alike z y

-- what has a number now had one before, or is what an id leads to
abbrev pub OnlyFrom : ComponentDfg → (old new : Finish) → Id → Type 0
OnlyFrom g old new x = (y : Id) → HasNumber new y → HasNumber old y ⊎ IsUsedBy g x y

-- what has a number keeps it
abbrev pub Stay : (old new : Finish) → Type 0
Stay old new = (y : Id) (n : ℕ) → number_of old y ≡ Some n → number_of new y ≡ Some n

-- an id has this number now, and all others have what they had
pub record Notes (old new : Finish) (x : Id) (n : ℕ) : Type 0 where
  pub here : number_of new x ≡ Some n
  pub others : (y : Id) → Alike x y ⊎ (number_of new y ≡ number_of old y)
