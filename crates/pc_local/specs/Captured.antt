-- What the open bodies capture, level by level: the root is level 0, and captures nothing.
use Rattle.std.specs.Prelude.{◌≡◌, ◌⊎◌, ℕ, zero, suc, true, List, [], ◌∷◌, ◌++◌, length, None}
use Rattle.std.specs.List.{cons_option, filter_map}
use Rattle.pc_entity.specs.Lists.{Kept}
use Rattle.pc_parsed.specs.declared.payload.AliasItem.{AliasItem}
use Rattle.pc_parsed.specs.ItemFaults.{alias_fault, first_item}
use Rattle.pc_spec_reading.specs.Item.{Item, Items, Lent, a_module, a_component, no_items, before}
use Rattle.pc_spec_reading.specs.Nest.{counts_in}
use Rattle.pc_spec_reading.specs.Section.{alias_item}
use Rattle.pc_local.specs.declared.captured.Captured.{Captured}
use Rattle.pc_local.specs.declared.captured.Variable.{Variable}
use Rattle.pc_local.specs.declared.item.LocalInitializer.{LocalInitializer}
use Rattle.pc_local.specs.declared.item.Translation.{Translation}
use Rattle.pc_local.specs.Standing.{Gives, Has, ItemsStand, Leaves, Names, Reads}

-- nothing is captured
abbrev pub nothing : Captured
nothing = record { names = []; variables = [] }

-- a body captures one thing more, unless it has one of this name
abbrev pub Grows : (old : Captured) → (name : ℕ × ℕ) → Variable → (new : Captured) → Type 0
Grows old name v new =
    ((new.names ≡ old.names) × (new.variables ≡ old.variables))
    ⊎ ((new.names ≡ old.names ++ name ∷ []) × (new.variables ≡ old.variables ++ v ∷ []))

-- the value at a place, or another past the end
abbrev pub at_or : {A : Type 0} → A → List A → ℕ → A
at_or d [] j = d
at_or d (x ∷ xs) zero = x
at_or d (x ∷ xs) (suc j) = at_or d xs j

-- the names of a level; there are none outside the open bodies
abbrev pub names_at : List Captured → ℕ → List (ℕ × ℕ)
names_at stack j = (at_or nothing stack j).names

-- what the level around has for them
abbrev pub variables_at : List Captured → ℕ → List Variable
variables_at stack j = (at_or nothing stack j).variables

-- each level has for the one inside it what its names say
pub record Linked (stack : List Captured) : Type 0 where
  pub root : names_at stack 0 ≡ []
  pub each : (j : ℕ) → Gives (names_at stack j) (variables_at stack (suc j)) (names_at stack (suc j))

-- levels from the root in, where they are given from the innermost out
abbrev pub from_root : List (List Item) → List (List Item)
from_root [] = []
from_root (l ∷ ls) = from_root ls ++ l ∷ []

-- the items that a level has so far; the levels are given from the innermost out
abbrev pub items_at : List (List Item) → ℕ → List Item
items_at levels j = at_or [] (from_root levels) j

-- the items of a body so far as a body
abbrev pub so_far : List Item → Items
so_far l = before l no_items

-- each name is needed by an outer alias of its level, or by the level inside it, which has it one further
abbrev pub Used : Lent → (levels : List (List Item)) → List Captured → Type 0
Used k levels stack = (j c n : ℕ) → Has (names_at stack j) c n
    → Leaves k c n (so_far (items_at levels j)) ⊎ Has (names_at stack (suc j)) (suc c) n

-- the same but for the name that an alias of this count and index needs, which isn't written yet
abbrev pub UsedBut : Lent → (levels : List (List Item)) → List Captured → (level count index : ℕ) → Type 0
UsedBut k levels stack level count index = (j c n : ℕ) → Has (names_at stack j) c n
    → Leaves k c n (so_far (items_at levels j))
    ⊎ (Has (names_at stack (suc j)) (suc c) n ⊎ ((j ≡ level) × (suc c ≡ count) × (n ≡ index)))

-- the level has a variable for an alias of this count and index, and the levels that the alias leads through capture it
pub record Captures (old : List Captured) (level count index : ℕ) (new : List Captured) (v : Variable) : Type 0 where
  pub deep : length new ≡ length old
  pub reads : Reads (names_at new level) v count index
  pub keeps : (j : ℕ) → Kept (names_at old j) (names_at new j)
  pub linked : Linked old → Linked new
  pub used : (k : Lent) (levels : List (List Item)) → Used k levels old → UsedBut k levels new level count index

-- what the levels capture of one kind stands for the items that they have so far
pub record CapturesStand (k : Lent) (levels : List (List Item)) (stack : List Captured) : Type 0 where
  pub deep : length stack ≡ length levels
  pub linked : Linked stack
  pub used : Used k levels stack

-- the innermost body and what the levels capture
pub record Part : Type 0 where
  pub locals : List LocalInitializer
  pub modules : List Captured
  pub components : List Captured

-- a part, as a function
abbrev pub part : List LocalInitializer → List Captured → List Captured → Part
part ls ms cs = record { locals = ls; modules = ms; components = cs }

-- the names of a level, of both kinds
abbrev pub level_names : List Captured → List Captured → ℕ → Names
level_names ms cs j = record { modules = names_at ms j; components = names_at cs j }

-- a part stands for the items of the innermost body so far, where these are the levels outside
pub record PartStands (bodies : List Translation) (outside : List (List Item)) (inside : List Item)
    (p : Part) : Type 0 where
  pub modules : CapturesStand a_module (inside ∷ outside) p.modules
  pub components : CapturesStand a_component (inside ∷ outside) p.components
  pub items : ItemsStand bodies (level_names p.modules p.components (length outside)) p.locals (so_far inside)
  pub counts : counts_in (length outside) (so_far inside) ≡ true

-- names only grow
pub record NamesGrow (old new : Part) : Type 0 where
  pub modules : (j : ℕ) → Kept (names_at old.modules j) (names_at new.modules j)
  pub components : (j : ℕ) → Kept (names_at old.components j) (names_at new.components j)

-- a part after an alias that has no fault stands for one item more, if the alias is one
abbrev pub AliasGoes : AliasItem → (old new : Part) → Type 0
AliasGoes a old new = (bodies : List Translation) (outside : List (List Item)) (inside : List Item)
    → alias_fault (suc (length outside)) a ≡ None → PartStands bodies outside inside old
    → PartStands bodies outside (inside ++ cons_option (alias_item a) []) new × NamesGrow old new

-- a part after aliases that have no fault
abbrev pub AliasesGo : List AliasItem → (old new : Part) → Type 0
AliasesGo aliases old new = (m : ℕ) (bodies : List Translation) (outside : List (List Item)) (inside : List Item)
    → first_item (alias_fault (suc (length outside))) m aliases ≡ None → PartStands bodies outside inside old
    → PartStands bodies outside (inside ++ filter_map alias_item aliases) new × NamesGrow old new
