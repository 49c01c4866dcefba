-- Bodies of a local program, as they stand for bodies of the reading. What is captured stands by names: a captured
-- variable of a body has as its name the count and the index of the outer alias that the body around it would write
-- for the same thing. Where a chain of scopes stands for what is around a body, the name (c, n) is what the cth scope
-- of the chain, from the innermost out, has under n.
use Rattle.std.specs.Prelude.{◌≡◌, ℕ, zero, suc, List, [], ◌∷◌, Some, slice_get, map}
use Rattle.std.specs.List.{AllZip}
use Rattle.pc_spec_reading.specs.Item.{Item, Items, Lent, a_module, a_component, no_items, and_item, component_item}
use Rattle.pc_spec_reading.specs.Item.{outer_item, exports_in}
use Rattle.pc_spec_reading.specs.Section.{named_item}
use Rattle.pc_local.specs.declared.captured.Variable.{Variable}
use Rattle.pc_local.specs.declared.captured.Variable.TheVariants as variable
use Rattle.pc_local.specs.declared.item.ClosedOverComponent.{ClosedOverComponent}
use Rattle.pc_local.specs.declared.item.ClosedOverComponent.TheVariants as closed_component
use Rattle.pc_local.specs.declared.item.ClosedOverModule.{ClosedOverModule}
use Rattle.pc_local.specs.declared.item.ClosedOverModule.TheVariants as closed_module
use Rattle.pc_local.specs.declared.item.ClosedOverVars.{ClosedOverVars}
use Rattle.pc_local.specs.declared.item.LocalInitializer.{LocalInitializer}
use Rattle.pc_local.specs.declared.item.LocalInitializer.TheVariants as local
use Rattle.pc_local.specs.declared.item.Translation.{Translation}
use Rattle.pc_local.specs.Plain.{plain_item}

-- a module as a body has it, whatever its kind
abbrev pub module_variable : ClosedOverModule → Variable
module_variable (closed_module.Local n) = variable.Local n.0
module_variable (closed_module.Upvar n) = variable.Upvar n.0

-- a component likewise
abbrev pub component_variable : ClosedOverComponent → Variable
component_variable (closed_component.Local n) = variable.Local n.0
component_variable (closed_component.Upvar n) = variable.Upvar n.0

-- the name of this count and index
abbrev pub name_of : (count index : ℕ) → ℕ × ℕ
name_of c n = (c, n)

-- in a body whose captured variables have these names, a variable is what an outer alias of this count and index names
abbrev pub Reads : (names : List (ℕ × ℕ)) → Variable → (count index : ℕ) → Type 0
Reads names (variable.Local i) count index = (count ≡ zero) × (i ≡ index)
Reads names (variable.Upvar i) count index =
    (c : ℕ) × (count ≡ suc c) × (slice_get names i ≡ Some (name_of c index))

-- a body has these variables for the captured ones of a body inside it: each is what its name says
abbrev pub Gives : (names : List (ℕ × ℕ)) → List Variable → (inner : List (ℕ × ℕ)) → Type 0
Gives names vs inner = AllZip (λ (v : Variable) (o : ℕ × ℕ). Reads names v o.0 o.1) vs inner

-- a name stands among these
abbrev pub Has : List (ℕ × ℕ) → (count index : ℕ) → Type 0
Has names count index = (i : ℕ) × (slice_get names i ≡ Some (name_of count index))

-- An outer alias leads out of a body, to what the body around would name by this count and index.
mutual
  -- out of an item
  pub data ItemLeaves (k : Lent) : (count index : ℕ) → Item → Type 0 where
    leaves_alias : {c n : ℕ} → ItemLeaves k c n (outer_item k (suc c) n)
    leaves_nested : {c n : ℕ} {body : Items} → Leaves k (suc c) n body → ItemLeaves k c n (component_item body)

  -- out of the items of a body, however deep it stands in them
  pub data Leaves (k : Lent) : (count index : ℕ) → Items → Type 0 where
    leaves_here : {c n : ℕ} {i : Item} {is : Items} → ItemLeaves k c n i → Leaves k c n (and_item i is)
    leaves_later : {c n : ℕ} {i : Item} {is : Items} → Leaves k c n is → Leaves k c n (and_item i is)

-- the names of what a body captures
pub record Names : Type 0 where
  pub modules : List (ℕ × ℕ)
  pub components : List (ℕ × ℕ)

-- the root captures nothing
abbrev pub no_names : Names
no_names = record { modules = []; components = [] }

-- a body captures nothing but what an outer alias in it leads to
pub record OnlyLeaving (names : Names) (body : Items) : Type 0 where
  pub modules : (c n : ℕ) → Has names.modules c n → Leaves a_module c n body
  pub components : (c n : ℕ) → Has names.components c n → Leaves a_component c n body

-- a nested component is given the variables that it captures, by the names that it has for them
pub record Given (names : Names) (vars : ClosedOverVars) (inner : Names) (body : Items) : Type 0 where
  pub modules : Gives names.modules (map module_variable vars.modules) inner.modules
  pub components : Gives names.components (map component_variable vars.components) inner.components
  pub leaving : OnlyLeaving inner body

mutual
  -- among these bodies, a local item of a body that captures these names stands for an item
  pub data ItemStands (bodies : List Translation) : Names → LocalInitializer → Item → Type 0 where
    stands_plain : {names : Names} {l : LocalInitializer} {i : Item} → plain_item l ≡ Some i
        → ItemStands bodies names l i
    stands_module : {names : Names} {v : ClosedOverModule} {c n : ℕ} → Reads names.modules (module_variable v) c n
        → ItemStands bodies names (local.AliasModule v) (outer_item a_module c n)
    stands_component : {names : Names} {v : ClosedOverComponent} {c n : ℕ}
        → Reads names.components (component_variable v) c n
        → ItemStands bodies names (local.AliasComponent v) (outer_item a_component c n)
    stands_nested : {names inner : Names} {s : ℕ} {vars : ClosedOverVars} {t : Translation} {body : Items}
        → slice_get bodies s ≡ Some t → ItemsStand bodies inner t.initializers body
        → map named_item t.exports ≡ exports_in body → Given names vars inner body
        → ItemStands bodies names (local.ComponentStatic (record { 0 = s }) vars) (component_item body)

  -- and local items for the items of a body, one by one
  pub data ItemsStand (bodies : List Translation) : Names → List LocalInitializer → Items → Type 0 where
    stand_none : {names : Names} → ItemsStand bodies names [] no_items
    stand_more : {names : Names} {l : LocalInitializer} {ls : List LocalInitializer} {i : Item} {is : Items}
        → ItemStands bodies names l i → ItemsStand bodies names ls is
        → ItemsStand bodies names (l ∷ ls) (and_item i is)

-- a body of a program stands for a body of the reading: item for item, and with the same exports
pub record BodyStands (bodies : List Translation) (names : Names) (t : Translation) (body : Items) : Type 0 where
  pub items : ItemsStand bodies names t.initializers body
  pub exports : map named_item t.exports ≡ exports_in body

-- a component of a program stands for a nested body, with names for what it captures, which is no more than it needs
pub record ComponentStands (bodies : List Translation) (t : Translation) (body : Items) : Type 0 where
  pub names : Names
  pub stands : BodyStands bodies names t body
  pub leaving : OnlyLeaving names body
