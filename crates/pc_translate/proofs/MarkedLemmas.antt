-- A graph that is told which of its adapters are transparent.
use Rattle.std.proofs.Common.{◌≡◌, ◌≤◌, ◌+◌, ◌*◌, inl, ℕ, List, length, Some, Ok, Err, refl, sym, subst}
use Rattle.std.specs.FinSet as set
use Rattle.std.specs.Ordering.{nat_cmp}
use Rattle.std.specs.Prelude.{slice_get}
use Rattle.pc_types.specs.declared.error.Error.{Error}
use Rattle.pc_types.specs.declared.error.Error.TheVariants as error
use Rattle.pc_types.specs.declared.module_record.ModuleRecord.{ModuleRecord}
use Rattle.pc_types.specs.declared.parsed.TypeTable.{TypeTable}
use Rattle.pc_types_lists.specs.Types.{Types}
use Rattle.pc_spec_reading.specs.Item.{Items}
use Rattle.pc_spec_reading.specs.Reading.{Reading}
use Rattle.pc_dfg.specs.declared.dfg.ComponentDfg.{ComponentDfg}
use Rattle.pc_analysis_reads.specs.Exported.{AreExported, IsExported, at_root, inside}
use Rattle.pc_spec_plan.specs.PlanView as plan
use Rattle.pc_dfg.specs.Lists as list
use Rattle.pc_dfg.specs.Lists.{ListName, NamedExport}
use Rattle.pc_dfg.specs.Numbers.{slots_of}
use Rattle.pc_inline_state.specs.Adds.{with_modules}
use Rattle.pc_inline_exports.specs.Exports.{IsUnder, is_inside, is_named}
use Rattle.pc_inline.specs.Inlines.{GraphStands, Inlines}
use Rattle.pc_inline_stack.specs.Totals.{IsCounted}
use Rattle.pc_inline_state.specs.Gained.{AddsTables}
use Rattle.pc_translate.specs.Planning.{HasGraph}
use Rattle.pc_translate.specs.Transparent.{TellsTransparent}
use Rattle.pc_translate.proofs.TransparentFieldLemmas.{marked_stands}

module _ (g : ComponentDfg) (s : set.FinSet nat_cmp) where
  -- its slots are as they were
  same_slots : (k : plan.SlotKind) → slots_of (record g { transparent_adapters = s }) k ≡ slots_of g k
  unfolding slots_of
  same_slots plan.memory = refl
  same_slots plan.table = refl
  same_slots plan.realloc = refl
  same_slots plan.callback = refl
  same_slots plan.post_return = refl

  -- and so are all of its lists
  lists_few : (n : ℕ) → ((l : ListName) → with_modules g l ≤ n) → (l : ListName)
      → with_modules (record g { transparent_adapters = s }) l ≤ n
  lists_few n few (list.slots k) =
      subst (λ xs. length xs + 32 * length g.adapters ≤ n) (sym (same_slots k)) (few (list.slots k))
  lists_few n few list.import_types = few list.import_types
  lists_few n few list.imports = few list.imports
  lists_few n few list.imported_resources = few list.imported_resources
  lists_few n few list.options = few list.options
  lists_few n few list.trampolines = few list.trampolines
  lists_few n few list.adapters = few list.adapters
  lists_few n few list.adapter_modules = few list.adapter_modules
  lists_few n few list.adapter_partitionings = few list.adapter_partitionings
  lists_few n few list.instances = few list.instances
  lists_few n few list.resources = few list.resources
  lists_few n few list.side_effects = few list.side_effects
  lists_few n few list.export_items = few list.export_items
  lists_few n few list.exports = few list.exports

-- a graph and the same one that is told it, where the reading of a body is counted
module _ (g h : ComponentDfg) (same : h ≡ record g { transparent_adapters = h.transparent_adapters })
    (t : TypeTable) (ms : List ModuleRecord) (limit counted : ℕ) (body : Items) (old types : Types) where
  -- where the lists of the one are counted those of the other are
  marked_counts : IsCounted t ms limit counted body old types g → IsCounted t ms limit counted body old types h
  marked_counts c =
      subst (λ x. IsCounted t ms limit counted body old types x) (sym same)
      (record {
        total = c.total;
        is_total = c.is_total;
        below = c.below;
        added = c.added;
        few = c.few;
        types = c.types;
        lists = lists_few g h.transparent_adapters c.added c.lists;
        resources = c.resources;
      })

  -- where the one stands for a reading the other does
  pub marked_graph : Inlines t ms limit counted body types (Ok g)
      → ((r : Reading) → GraphStands t ms types g r → TellsTransparent r h)
      → IsCounted t ms limit counted body old types g → AddsTables t g.num_runtime_component_instances old types
      → HasGraph t ms limit counted body old types (Ok h)
  unfolding Inlines HasGraph
  marked_graph stands tells few tables = record {
    stands = record {
      result = stands.result;
      outcome = stands.outcome;
      stands = subst (λ x. GraphStands t ms types x stands.result) (sym same)
          (marked_stands g h.transparent_adapters t ms types stands.result stands.stands);
    };
    tells = tells stands.result stands.stands;
    few = marked_counts few;
    tables = subst (λ n. AddsTables t n old types) (sym stands.stands.world.begun) tables;
  }

-- an error of the instantiation
pub no_graph : (t : TypeTable) (ms : List ModuleRecord) (limit counted : ℕ) (body : Items) (old types : Types)
    (e : Error) → Inlines t ms limit counted body types (Err e) → HasGraph t ms limit counted body old types (Err e)
unfolding Inlines HasGraph
no_graph t ms limit counted body old types e h = h

-- want of memory is free
pub no_memory : (t : TypeTable) (ms : List ModuleRecord) (limit counted : ℕ) (body : Items) (old types : Types)
    → HasGraph t ms limit counted body old types (Err error.NoMemory)
unfolding HasGraph
no_memory t ms limit counted body old types = inl refl

-- the graph that was answered stands for a reading
pub graph_read : (t : TypeTable) (ms : List ModuleRecord) (limit counted : ℕ) (body : Items) (types : Types)
    (g : ComponentDfg) → Inlines t ms limit counted body types (Ok g)
    → (u : TypeTable) × (ns : List ModuleRecord) × (r : Reading) × GraphStands u ns types g r
unfolding Inlines
graph_read t ms limit counted body types g stands = (t, ms, stands.result, stands.stands)

-- what is under names that the root exports is exported
exported_under : (g : ComponentDfg) (es : List NamedExport) (n : ℕ)
    → ((k : ℕ) (e : NamedExport) → slice_get es k ≡ Some e → IsExported g e.1.0.0)
    → IsUnder g.export_items es n → IsExported g n
exported_under g es n each (is_named {e = e} k at) = each k e at
exported_under g es n each (is_inside {inner = inner} {e = e} k at is under) =
    exported_under g inner n (λ j f at_j. inside e.1.0.0 j (each k e at) is at_j) under

-- no item of a graph that stands for a reading is there that the root doesn't export
pub all_exported : (t : TypeTable) (ms : List ModuleRecord) (types : Types) (g : ComponentDfg) (r : Reading)
    → GraphStands t ms types g r → AreExported g
unfolding AreExported
all_exported t ms types g r s n below =
    exported_under g g.exports n (λ k e at. at_root k at) (s.numbers.whole n below)
