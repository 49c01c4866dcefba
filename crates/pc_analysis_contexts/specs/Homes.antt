-- When the keys of arguments are right.
use Rattle.std.specs.Prelude.{◌≡◌, ◌<◌, ℕ, ◌+◌, List, length, Option, None, Some, slice_get}
use Rattle.pc_types.specs.declared.module_record.ModuleRecord.{ModuleRecord}
use Rattle.pc_spec_wiring.specs.Origin.{Core, Given, Origin, IsFrom, of_record, of_host}
use Rattle.pc_spec_wiring.specs.Sharing.{Home, core_instance, home_of, the_component}
use Rattle.pc_partition.specs.declared.vmctx_key.VmctxKey.TheVariants as key
use Rattle.pc_dfg.specs.declared.core_def.CoreDef.{CoreDef}
use Rattle.pc_dfg.specs.declared.core_def.CoreDef.TheVariants as def
use Rattle.pc_dfg.specs.declared.dfg.ComponentDfg.{ComponentDfg}
use Rattle.pc_analysis_contexts.specs.declared.made.Made.{Made}
use Rattle.pc_analysis_contexts.specs.declared.made.Made.TheVariants as made
use Rattle.pc_analysis_contexts.specs.Cores.{GraphEnd, graph_cores, graph_home}
use Rattle.pc_analysis_contexts.specs.Keys.{ContextKey}

-- a definition is no item of an instance from the nth on
abbrev pub NamesBelow : ℕ → CoreDef → Type 0
NamesBelow n (def.Export e) = e.instance.0 < n
NamesBelow n (def.InstanceFlags c) = Unit {0}
NamesBelow n (def.Trampoline t) = Unit {0}
NamesBelow n (def.UnsafeIntrinsic s i) = Unit {0}
NamesBelow n (def.Adapter a) = Unit {0}

module _ (g : ComponentDfg) where
  -- the home that a key stands for: modules of adapters stand behind the core instances
  abbrev pub home_for : ContextKey → Home
  home_for key.Component = the_component
  home_for (key.CoreInstance i) = core_instance i.0
  home_for (key.AdapterModule m) = core_instance (length g.instances + m.0)

  -- a core instance of a key is one of the graph
  abbrev pub IsThere : ContextKey → Type 0
  IsThere key.Component = Unit {0}
  IsThere (key.CoreInstance i) = i.0 < length g.instances
  IsThere (key.AdapterModule m) = Unit {0}

  module _ (records : List ModuleRecord) where
    -- what is given comes from somewhere, and this is the key of its home
    pub record HasKey (d : Given GraphEnd) (k : ContextKey) : Type 0 where
      pub origin : Origin GraphEnd
      pub from : IsFrom (graph_cores g records) d origin
      pub home : home_of graph_home origin ≡ Some (home_for k)
      pub there : IsThere k

    -- this is the key of what is given, or what is given has no home
    abbrev pub Takes : Given GraphEnd → Option ContextKey → Type 0
    Takes d None = (o : Origin GraphEnd) → IsFrom (graph_cores g records) d o → home_of graph_home o ≡ None
    Takes d (Some k) = HasKey d k

    -- these are the keys of what is given
    pub record TakeAll (given : List (Given GraphEnd)) (keys : List (Option ContextKey)) : Type 0 where
      pub size : length keys ≡ length given
      pub each : (i : ℕ) (d : Given GraphEnd) (k : Option ContextKey) → slice_get given i ≡ Some d
          → slice_get keys i ≡ Some k → Takes d k

    -- what is kept of a core instance is right
    abbrev pub IsMade : Core GraphEnd → Made → Type 0
    IsMade (of_record m r given) (made.Module n keys) =
        (n.0 ≡ m) × (slice_get records m ≡ Some r) × TakeAll given keys
    IsMade (of_record m r given) made.Host = ⊥
    IsMade of_host (made.Module n keys) = ⊥
    IsMade of_host made.Host = Unit {0}

    -- what is kept of the first core instances is right
    abbrev pub AreMade : List Made → Type 0
    AreMade known = (n : ℕ) (c : Core GraphEnd) (x : Made) → slice_get (graph_cores g records) n ≡ Some c
        → slice_get known n ≡ Some x → IsMade c x

    -- what is kept of all of them is right
    pub record AreAllMade (known : List Made) : Type 0 where
      pub count : length known ≡ length (graph_cores g records)
      pub each : AreMade known
