-- Core values: what a core definition stands for, as a whole tree. The mark τ stands where a type or a core
-- signature does: a tree of it in a reading, a number in a plan, the unit where types are erased.
use Rattle.std.specs.Prelude.{ℕ, Bool, List}
use Rattle.pc_numbers.specs.declared.entity_index.EntityIndex.{EntityIndex}
use Rattle.pc_types.specs.declared.encoding.StringEncoding.{StringEncoding}
use Rattle.pc_types.specs.declared.trampoline.TrampolineKind.{TrampolineKind}
use Rattle.pc_types.specs.TypeTree.{Path}

-- an item of a core instance: an entity of its module, or what the instance exports under a name
pub data ExportedItem : Type 0 where
  by_index : EntityIndex → ExportedItem
  by_name : List ℕ → ExportedItem

mutual
  -- what a core definition stands for
  pub data CoreValue (τ : Type 0) : Type 0 where
    -- an item of the nth core instance that was made for a component instance
    exported : (instance : ℕ) → ExportedItem → CoreValue τ
    -- a host function, lowered
    lowered : Path → (function_type : τ) → Options τ → CoreValue τ
    -- a builtin of the canonical ABI, declared in a component instance
    builtin : TrampolineKind → (component_instance : ℕ) → Parts τ → CoreValue τ
    -- an unsafe intrinsic, by its place in the list of them
    intrinsic : (place : ℕ) → CoreValue τ
    -- a lifted function, lowered again: the fused adapter of both sides over what was lifted
    adapter : (lift_type : τ) → (lift : Options τ) → (lower_type : τ) → (lower : Options τ) → (callee : CoreValue τ)
        → CoreValue τ
    -- the flags of a component instance, in adapter modules only
    flags : (component_instance : ℕ) → CoreValue τ
    -- a trampoline that adapter modules alone use
    helper : TrampolineKind → Parts τ → CoreValue τ

  -- the options of a lifted or lowered function
  pub data Options (τ : Type 0) : Type 0 where
    options : (component_instance : ℕ) → StringEncoding → (is_async : Bool) → (signature : τ)
        → (callback post_return : MaybeValue τ) → DataModel τ → Options τ

  -- where a function's values lie: in the managed heap, or in a linear memory
  pub data DataModel (τ : Type 0) : Type 0 where
    gc : DataModel τ
    linear : (memory realloc : MaybeValue τ) → DataModel τ

  -- a core value, where there is one
  pub data MaybeValue (τ : Type 0) : Type 0 where
    no_value : MaybeValue τ
    a_value : CoreValue τ → MaybeValue τ

  -- what a builtin or helper was declared with, in order
  pub data Parts (τ : Type 0) : Type 0 where
    no_parts : Parts τ
    and_part : Part τ → Parts τ → Parts τ

  -- one of these: a type, a number, a flag, what a slot holds, or options
  pub data Part (τ : Type 0) : Type 0 where
    mark_part : τ → Part τ
    number_part : ℕ → Part τ
    flag_part : Bool → Part τ
    value_part : MaybeValue τ → Part τ
    options_part : Options τ → Part τ

-- a value with its marks mapped
module _ {τ υ : Type 0} (f : τ → υ) where
  abbrev mutual
    pub map_value : CoreValue τ → CoreValue υ
    map_value (exported n item) = exported n item
    map_value (lowered path ty o) = lowered path (f ty) (map_options o)
    map_value (builtin kind c parts) = builtin kind c (map_parts parts)
    map_value (intrinsic i) = intrinsic i
    map_value (adapter lift_type lift lower_type lower callee) =
        adapter (f lift_type) (map_options lift) (f lower_type) (map_options lower) (map_value callee)
    map_value (flags c) = flags c
    map_value (helper kind parts) = helper kind (map_parts parts)

    pub map_options : Options τ → Options υ
    map_options (options c encoding is_async signature callback post_return model) =
        options c encoding is_async (f signature) (map_maybe callback) (map_maybe post_return) (map_model model)

    pub map_model : DataModel τ → DataModel υ
    map_model gc = gc
    map_model (linear memory realloc) = linear (map_maybe memory) (map_maybe realloc)

    pub map_maybe : MaybeValue τ → MaybeValue υ
    map_maybe no_value = no_value
    map_maybe (a_value v) = a_value (map_value v)

    pub map_parts : Parts τ → Parts υ
    map_parts no_parts = no_parts
    map_parts (and_part p ps) = and_part (map_part p) (map_parts ps)

    pub map_part : Part τ → Part υ
    map_part (mark_part m) = mark_part (f m)
    map_part (number_part n) = number_part n
    map_part (flag_part b) = flag_part b
    map_part (value_part v) = value_part (map_maybe v)
    map_part (options_part o) = options_part (map_options o)

-- the mark that is left where types are erased
abbrev pub erased : {τ : Type 0} → τ → Unit {0}
erased m = tt
