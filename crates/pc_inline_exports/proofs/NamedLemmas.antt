-- One export of the root: its node is refused, or it gets its name.
use Rattle.std.proofs.Common.{◌≡◌, ◌<◌, ◌≤◌, ◌+◌, ◌*◌, ℕ, List, [], ◌∷◌, ◌++◌, length, None}
use Rattle.std.proofs.Common.{Result, Ok, Err, refl, sym, ap, subst, ◌∙◌, arith, true}
use Rattle.std.specs.Prelude.{⊤}
use Rattle.std.specs.Result.{IsErrAnd}
use Rattle.std.proofs.lemmas.List.{length-append}
use Rattle.pc_entity.specs.Lists.{names_of}
use Rattle.pc_numbers.specs.declared.runtime.ExportIndex.{ExportIndex}
use Rattle.pc_types.specs.declared.error.Error.{Error}
use Rattle.pc_types.specs.declared.error.Error.TheVariants as error
use Rattle.pc_types.specs.declared.error.Place.TheVariants as place
use Rattle.pc_types.specs.declared.module_record.ModuleRecord.{ModuleRecord}
use Rattle.pc_types.specs.declared.parsed.TypeTable.{TypeTable}
use Rattle.pc_types.specs.declared.types.ComponentExternData.{ComponentExternData}
use Rattle.pc_spec_plan.specs.ExportNode as node
use Rattle.pc_spec_plan.specs.ExportNode.{ExportNode, NamedNode}
use Rattle.pc_spec_plan.specs.PlanView as plan
use Rattle.pc_parsed.specs.declared.payload.ExternName.{ExternName}
use Rattle.pc_parsed.specs.Mark.{Mark}
use Rattle.pc_spec_reading.specs.Nodes.{Reached, extern_data, refused, value_node, within_total}
use Rattle.pc_spec_reading.specs.Outcome.{unsupported}
use Rattle.pc_spec_reading.specs.Scope.{Scope}
use Rattle.pc_spec_reading.specs.Value.{Value}
use Rattle.pc_spec_reading.specs.World.{World, grown, has_room}
use Rattle.pc_dfg.specs.declared.dfg.ComponentDfg.{ComponentDfg}
use Rattle.pc_dfg.specs.Grows as graph
use Rattle.pc_dfg.specs.Lists as list
use Rattle.pc_dfg.specs.Lists.{ListName, NamedExport}
use Rattle.pc_dfg.specs.Numbers.{slots_of}
use Rattle.pc_dfg.specs.Ordered.{IsOrdered}
use Rattle.pc_inline_state.specs.declared.definition.Definition.{Definition}
use Rattle.pc_inline_state.specs.declared.error.ItemError.{ItemError}
use Rattle.pc_inline_state.specs.declared.error.ItemError.TheVariants as item_error
use Rattle.pc_inline_state.specs.declared.error.ItemFault.TheVariants as item_fault
use Rattle.pc_inline_state.specs.declared.frame.Frame.{Frame}
use Rattle.pc_inline_state.specs.declared.state.State.{State}
use Rattle.pc_inline_state.specs.Adds.{Adds, with_modules}
use Rattle.pc_inline_state.specs.Faults.{error_of}
use Rattle.pc_inline_state.specs.Stands.{DefinitionStands}
use Rattle.pc_inline_state.specs.Tables.{Keeps, Tables, tables_of}
use Rattle.pc_inline_state.proofs.AddsLemmas.{adds_refl}
use Rattle.pc_inline_state.proofs.StateLemmas.{keeps_refl, keeps_trans}
use Rattle.pc_inline_state.proofs.ZipLemmas.{zip_length}
use Rattle.pc_inline_exports.specs.Exporting.{RootStands}
use Rattle.pc_inline_exports.specs.Exports.{NameStands, node_size}
use Rattle.pc_inline_exports.proofs.UnderLemmas.{grown_stay}
use Rattle.pc_inline_exports.specs.OneExport.{ExportsOne, NodeNamed, OneEnds, node_named}
use Rattle.pc_inline_exports.specs.Reaching.{IsReachable, NodeEnds, NodeMade, Reaches, stands_value}
use Rattle.pc_inline_exports.specs.Subjects.{a_value}
use Rattle.pc_inline_exports.proofs.LeafLemmas.{work_total}
use Rattle.pc_inline_exports.proofs.RootLemmas.{name_keeps, named, numbers_more, root_moved, root_named}
use Rattle.pc_inline_exports.proofs.RootLemmas.{root_works}
use Rattle.pc_inline_exports.proofs.WithinLemmas.{room_here}

-- a node is one at least
some_size : (x : ExportNode Mark) → 1 ≤ node_size x
some_size (node.instance ty nodes) = omega arith
some_size x = omega arith

-- an export under its name is one entry more among the exports, and no other
adds_named : (t : TypeTable) (n : ℕ) (a b : Tables) (ys : List NamedExport)
    → length ys + 32 * length b.graph.adapters ≤ length a.graph.exports + 32 * length a.graph.adapters + n
    → Adds t n a b → Adds t n a (record b { graph = record b.graph { exports = ys } })
unfolding slots_of
adds_named t n a b ys few h = record {
  types = h.types;
  tables = h.tables;
  entries = record {
    lists = each;
    cores = h.entries.cores;
    definitions = h.entries.definitions;
    closures = h.entries.closures;
    instances = h.entries.instances;
    begun = h.entries.begun;
    resources = h.entries.resources;
  };
  grows = h.grows;
  later = h.later;
}
  where
    each : (l : ListName) → with_modules (record b.graph { exports = ys }) l ≤ with_modules a.graph l + n
    each list.exports = few
    each (list.slots plan.memory) = h.entries.lists (list.slots plan.memory)
    each l = h.entries.lists l

-- what was reached at a definition that is this one
pub reached_as : (t : TypeTable) (ms : List ModuleRecord) (d e : Definition) (old mid : State)
    (q : Result ExportIndex ItemError) → e ≡ d → Reaches t ms old e mid q → Reaches t ms old d mid q
reached_as t ms d e old mid q same h = subst (λ x. Reaches t ms old x mid q) same h

-- a refusal for want of memory
no_memory : (r : Result ⊤ Error) → IsErrAnd r (λ e. e ≡ error.NoMemory) → r ≡ Err error.NoMemory
no_memory (Ok x) is = absurd is
no_memory (Err e) is = ap Err is

-- there was no memory for what is reached, and nothing was done
pub exports_nothing : (t : TypeTable) (ms : List ModuleRecord) (name : ExternName) (number : ℕ) (d : Definition)
    (st : State) (r : Result ⊤ Error) → IsErrAnd r (λ e. e ≡ error.NoMemory) → ExportsOne t ms name number d st st r
unfolding OneEnds
exports_nothing t ms name number d st r is = subst (ExportsOne t ms name number d st st) (sym (no_memory r is)) nothing
  where
    nothing : ExportsOne t ms name number d st st (Err error.NoMemory)
    nothing = record {
      nodes = 0;
      keeps = keeps_refl (tables_of st);
      adds = adds_refl t (4 * 0) (tables_of st);
      names = tt;
      reads = λ f s w exported v room root stands. (value_node v w, room_here w.total (value_node v w) room, tt);
    }

module _ (t : TypeTable) (ms : List ModuleRecord) (name : ExternName) (number : ℕ) (d : Definition) (old mid : State)
    (q : Result ExportIndex ItemError) (reach : Reaches t ms old d mid q) where
  -- what was reached, in a world of the root
  at_root : (f : Frame) (s : Scope) (w : World) (exported : List (NamedNode Mark)) (v : Value) → has_room w.total ≡ true
      → RootStands t ms old f s w exported → DefinitionStands ms (tables_of old) d v
      → (o : Reached (ExportNode Mark)) × (value_node v w ≡ within_total (grown w.total (8 * reach.nodes)) o)
      × NodeEnds t ms old mid w reach.nodes o q
  at_root f s w exported v room root is =
      reach.reads w (a_value v) room (root_works t ms old f s w exported root) (stands_value is)

  refused_ends : (f : Frame) (s : Scope) (w : World) (exported : List (NamedNode Mark)) (o : Reached (ExportNode Mark))
      (e : ItemError) → NodeEnds t ms old mid w reach.nodes o (Err e)
      → OneEnds t ms old mid f s w exported reach.nodes name number o (Err (error_of e (place.Export number)))
  unfolding NodeEnds OneEnds
  refused_ends f s w exported o (item_error.Fault (item_fault.Unsupported u)) h =
      let same : item_fault.Unsupported u ≡ item_fault.Unsupported h.0 = h.1 in
      let one : u ≡ h.0 = cc in
      (h.2 ∙ (λ j. refused (unsupported (sym one j))), refl)
  refused_ends f s w exported o (item_error.Fault item_fault.Invalid) h =
      let same : item_fault.Invalid ≡ item_fault.Unsupported h.0 = h.1 in
      absurd (let no : ⊥ = cc in no)
  refused_ends f s w exported o (item_error.Fault item_fault.BadType) h =
      let same : item_fault.BadType ≡ item_fault.Unsupported h.0 = h.1 in
      absurd (let no : ⊥ = cc in no)
  refused_ends f s w exported o (item_error.Fault item_fault.UnknownIntrinsic) h =
      let same : item_fault.UnknownIntrinsic ≡ item_fault.Unsupported h.0 = h.1 in
      absurd (let no : ⊥ = cc in no)
  refused_ends f s w exported o item_error.TooMany h = h
  refused_ends f s w exported o item_error.NoMemory h = tt

  -- there is no node
  pub exports_refused : (e : ItemError) → q ≡ Err e → (r : Error) → r ≡ error_of e (place.Export number)
      → ExportsOne t ms name number d old mid (Err r)
  exports_refused e was r is = record {
    nodes = reach.nodes;
    keeps = reach.keeps;
    adds = reach.adds;
    names = tt;
    reads = λ f s w exported v room root stands.
        let x = at_root f s w exported v room root stands in (
          x.0,
          x.1,
          subst (λ y. OneEnds t ms old mid f s w exported reach.nodes name number x.0 (Err y)) (sym is)
              (refused_ends f s w exported x.0 e (subst (NodeEnds t ms old mid w reach.nodes x.0) was x.2)),
        );
  }

  unfed : ExportsOne t ms name number d old mid (Err error.NoMemory)
  unfolding OneEnds
  unfed = record {
    nodes = reach.nodes;
    keeps = reach.keeps;
    adds = reach.adds;
    names = tt;
    reads = λ f s w exported v room root stands.
        let x = at_root f s w exported v room root stands in (x.0, x.1, tt);
  }

  -- there was no memory for its name
  pub exports_unfed : (r : Result ⊤ Error) → IsErrAnd r (λ e. e ≡ error.NoMemory)
      → ExportsOne t ms name number d old mid r
  exports_unfed r is = subst (ExportsOne t ms name number d old mid) (sym (no_memory r is)) unfed

  pub exports_unnamed : (g : ComponentDfg) → g ≡ mid.graph → (r : Result ⊤ Error) → IsErrAnd r (λ e. e ≡ error.NoMemory)
      → ExportsOne t ms name number d old (record mid { graph = g }) r
  exports_unnamed g same r is =
      subst (λ h. ExportsOne t ms name number d old (record mid { graph = h }) r) (sym same) (exports_unfed r is)

  module _ (item : ExportIndex) (was : q ≡ Ok item) (reachable : IsReachable t ms old d) where
    -- there is a node somewhere, so one node counts at least, and no adapter with it
    some_nodes : 1 + 32 * length mid.graph.adapters ≤ 32 * length old.graph.adapters + 4 * reach.nodes
    unfolding NodeEnds
    some_nodes =
        let w = record reachable.world { total = None } in
        let x =
        reach.reads w reachable.subject refl (work_total t ms old reachable.world None reachable.stands) reachable.is in
        let made : NodeMade t ms old mid w reach.nodes x.0 item = subst (NodeEnds t ms old mid w reach.nodes x.0) was x.2 in
        let few = reach.adds.entries.lists list.export_items in
        let one = some_size made.node in
        omega (arith, made.items, few, one)

    module _ (label : List ℕ) (said : ComponentExternData) (label_is : label ≡ name.name)
        (said_is : said ≡ extern_data name) (g : ComponentDfg) (rest : g ≡ record mid.graph { exports = g.exports })
        (put : g.exports ≡ mid.graph.exports ++ (label, (item, said)) ∷ []) (grows : graph.Grows mid.graph g)
        (ordered : item.0 < length mid.graph.export_items → IsOrdered mid.graph → IsOrdered g) where
      abbrev entry : NamedExport
      entry = (label, (item, said))

      is_named : named t ms mid entry ≡ g
      is_named = sym (rest ∙ (λ j. record mid.graph { exports = put j }))

      grown_name : graph.Grows mid.graph (named t ms mid entry)
      grown_name = subst (graph.Grows mid.graph) (sym is_named) grows

      node_there : (f : Frame) (s : Scope) (w : World) (exported : List (NamedNode Mark))
          → RootStands t ms old f s w exported → (o : Reached (ExportNode Mark))
          → NodeEnds t ms old mid w reach.nodes o (Ok item)
          → NodeNamed t ms old (record mid { graph = g }) f s w exported reach.nodes name o
      unfolding NodeEnds
      node_there f s w exported root o made =
          let x = node_named name made.node in
          let moved =
          root_moved t ms old mid reach.keeps (ap (λ b. b.resources) reach.types) reach.exports f s w made.world
          exported root made.stands in
          let last = made.last in
          let is : NameStands t mid.types mid.graph entry x
          = record { name = sym label_is; extern_data = sym said_is; node = made.item } in
          record {
            node = made.node;
            world = made.world;
            is = made.is;
            total = made.total;
            stands =
                subst (λ y. RootStands t ms (record mid { graph = y }) f s made.world (exported ++ x ∷ [])) is_named
                (root_named t ms mid entry grown_name f s made.world exported moved
                (subst IsOrdered (sym is_named) (ordered (omega (arith, last)) moved.sound.ordered)) x is);
            numbers = numbers_more old.graph mid.graph g entry x exported
                (zip_length (NameStands t old.types old.graph) old.graph.exports exported root.exports) reach.exports
                made.items last rest put (grown_stay old.graph mid.graph reach.keeps.graph) made.whole;
          }

      -- it has its name
      pub exports_named : ExportsOne t ms name number d old (record mid { graph = g }) (Ok tt)
      unfolding OneEnds
      exports_named =
          let same : record mid.graph { exports = g.exports } ≡ g = sym rest in
          let long = length-append mid.graph.exports (entry ∷ []) in
          let few : length g.exports + 32 * length mid.graph.adapters
          ≤ length old.graph.exports + 32 * length old.graph.adapters + 4 * reach.nodes
          = rw (put, long, reach.exports) (omega (arith, some_nodes)) in
          record {
            nodes = reach.nodes;
            keeps = keeps_trans (tables_of old) (tables_of mid) (tables_of (record mid { graph = g })) reach.keeps
                (subst (λ y. Keeps (tables_of mid) (tables_of (record mid { graph = y }))) is_named
                (name_keeps t ms mid entry grown_name));
            adds = subst (λ y. Adds t (4 * reach.nodes) (tables_of old) (tables_of (record mid { graph = y }))) same
                (adds_named t (4 * reach.nodes) (tables_of old) (tables_of mid) g.exports few reach.adds);
            names = ap names_of put ∙ names_end mid.graph.exports
                ∙ (λ j. names_of (reach.exports j) ++ label_is j ∷ []);
            reads = λ f s w exported v room root stands.
                let x = at_root f s w exported v room root stands in (
                  x.0,
                  x.1,
                  node_there f s w exported root x.0 (subst (NodeEnds t ms old mid w reach.nodes x.0) was x.2),
                );
          }
        where
          names_end : (es : List NamedExport) → names_of (es ++ entry ∷ []) ≡ names_of es ++ label ∷ []
          names_end [] = refl
          names_end (e ∷ es) = ap (λ ns. e.0 ∷ ns) (names_end es)
