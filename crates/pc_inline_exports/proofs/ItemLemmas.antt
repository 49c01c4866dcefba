-- The calls for one node: what it needs, and its item.
use Rattle.std.proofs.Common.{◌≡◌, ◌<◌, ◌≤◌, ◌+◌, ◌*◌, ◌∙◌, ℕ, List, length, Result, Ok, Err, Some, refl, sym}
use Rattle.std.proofs.Common.{ap, subst, arith}
use Rattle.std.specs.Result.{IsErr, IsErrAnd}
use Rattle.std.proofs.lemmas.Option.{slice_get_within}
use Rattle.pc_numbers.specs.declared.component_entity.StaticModuleIndex.{StaticModuleIndex}
use Rattle.pc_numbers.specs.declared.runtime.ExportIndex.{ExportIndex}
use Rattle.pc_types.specs.declared.error.Unsupported.{Unsupported}
use Rattle.pc_types.specs.declared.module_record.ModuleRecord.{ModuleRecord}
use Rattle.pc_types.specs.declared.parsed.TypeTable.{TypeTable}
use Rattle.pc_types.specs.declared.type_index.TypeFuncIndex.{TypeFuncIndex}
use Rattle.pc_types.specs.declared.type_index.TypeModuleIndex.{TypeModuleIndex}
use Rattle.pc_types.specs.declared.types.TypeDef.{TypeDef}
use Rattle.pc_spec_reading.specs.Nodes.{reached}
use Rattle.pc_spec_reading.specs.World.{World}
use Rattle.pc_dfg.specs.declared.export.Export.{Export}
use Rattle.pc_dfg.specs.declared.export.Export.TheVariants as export
use Rattle.pc_dfg.specs.Lists as list
use Rattle.pc_dfg.specs.Lists.{ListName}
use Rattle.pc_inline_paths.specs.declared.path_id.PathId.{PathId}
use Rattle.pc_inline_state.specs.declared.definition.CoreId.{CoreId}
use Rattle.pc_inline_state.specs.declared.definition.Definition.{Definition}
use Rattle.pc_inline_state.specs.declared.definition.Definition.TheVariants as definition
use Rattle.pc_inline_state.specs.declared.definition.Options.{Options}
use Rattle.pc_inline_state.specs.declared.error.ItemError.{ItemError}
use Rattle.pc_inline_state.specs.declared.error.ItemError.TheVariants as item_error
use Rattle.pc_inline_state.specs.declared.error.ItemFault.TheVariants as item_fault
use Rattle.pc_inline_state.specs.declared.state.State.{State}
use Rattle.pc_inline_state.specs.Adds.{Adds}
use Rattle.pc_inline_state.specs.AddsEach.{AddsEach, in_export_items, in_imports, in_options}
use Rattle.pc_inline_state.specs.Prepares.{Prepares}
use Rattle.pc_inline_state.specs.Refused.{LacksRoom}
use Rattle.pc_inline_state.specs.Slots.{OptionsThere}
use Rattle.pc_inline_state.specs.Tables.{Keeps, Tables, tables_of}
use Rattle.pc_inline_state.proofs.AddsLemmas.{adds_each, each_refl, each_trans, each_weaken}
use Rattle.pc_inline_state.proofs.StateLemmas.{keeps_refl, keeps_trans}
use Rattle.pc_inline_canon.proofs.KeptLemmas.{item_kept}
use Rattle.pc_inline_canon.proofs.ThereLemmas.{options_there}
use Rattle.pc_types.specs.declared.parsed.CoreKind.TheVariants as core
use Rattle.pc_inline_exports.specs.Reaching.{IsLeaf, IsReachable, LeafEnds, LeafMade, MakesItem, OneEnds, Pushed}
use Rattle.pc_inline_exports.specs.Reaching.{Pushes}
use Rattle.pc_inline_exports.specs.Reaching.{ReachesOne, in_leaf}
use Rattle.pc_inline_exports.specs.Subjects.{Subject}
use Rattle.pc_inline_exports.proofs.LeafLemmas.{static_leaf, type_leaf}
use Rattle.pc_inline_exports.proofs.PushLemmas.{is_put, push_adds, push_exports, push_keeps, push_last, push_more}
use Rattle.pc_inline_exports.proofs.PushLemmas.{push_node}
use Rattle.pc_inline_exports.specs.Exports.{IsWithin, is_it}
use Rattle.pc_inline_exports.proofs.PushLemmas.{push_types}
use Rattle.pc_inline_exports.proofs.PushLemmas.{push_work}
use Rattle.pc_inline_exports.proofs.ViewLemmas.{func_view, lifted_view, module_view, refusal_of, refused_view}

-- options alone
options_few : (a b : Tables) → AddsEach in_options 0 0 a b → AddsEach in_leaf 0 0 a b
options_few a b h = each_weaken in_options in_leaf 0 0 0 0 a b le (omega arith) (omega arith) h
  where
    le : (l : ListName) → in_options l ≤ in_leaf l
    le list.options = omega arith
    le (list.slots k) = omega arith
    le l = omega arith

-- a host item that is used alone
imports_few : (a b : Tables) → AddsEach in_imports 0 0 a b → AddsEach in_leaf 0 0 a b
imports_few a b h = each_weaken in_imports in_leaf 0 0 0 0 a b le (omega arith) (omega arith) h
  where
    le : (l : ListName) → in_imports l ≤ in_leaf l
    le list.imports = omega arith
    le l = omega arith

-- and an item
one_few : (t : TypeTable) (a b x : Tables) → AddsEach in_leaf 0 0 a b → AddsEach in_export_items 0 0 b x → Adds t 4 a x
one_few t a b x h k =
    adds_each t (λ l. in_leaf l + in_export_items l) 0 0 4 a x le (omega arith) (omega arith)
    (each_trans in_leaf in_export_items 0 0 0 0 a b x h k)
  where
    le : (l : ListName)
        → in_leaf l + in_export_items l + 32 * (in_leaf list.adapters + in_export_items list.adapters) ≤ 4
    le list.options = omega arith
    le list.imports = omega arith
    le list.export_items = omega arith
    le (list.slots k) = omega arith
    le l = omega arith

leaf_few : (t : TypeTable) (a b : Tables) → AddsEach in_leaf 0 0 a b → Adds t 4 a b
leaf_few t a b h = adds_each t in_leaf 0 0 4 a b le (omega arith) (omega arith) h
  where
    le : (l : ListName) → in_leaf l + 32 * in_leaf list.adapters ≤ 4
    le list.options = omega arith
    le list.imports = omega arith
    le (list.slots k) = omega arith
    le l = omega arith

module _ (t : TypeTable) (ms : List ModuleRecord) (st : State) where
  -- nothing is needed
  pub nothing_made : (d : Definition) (r : Result Export ItemError) → IsLeaf t ms st d st r
      → MakesItem t ms st d st r
  nothing_made d r leaf = record {
    keeps = keeps_refl (tables_of st);
    adds = each_refl in_leaf 0 0 (tables_of st);
    exports = refl;
    items = refl;
    leaf = leaf;
  }

  pub static_made : (d : Definition) (m : StaticModuleIndex) (ty : ℕ) → d ≡ definition.StaticModule m ty
      → MakesItem t ms st d st (Ok (export.ModuleStatic ty m))
  static_made d m ty is =
      subst (λ e. MakesItem t ms st e st (Ok (export.ModuleStatic ty m))) (sym is)
      (nothing_made (definition.StaticModule m ty) _ (static_leaf t ms st m ty))

  pub type_made : (d : Definition) (e : TypeDef) → d ≡ definition.Type_ e
      → MakesItem t ms st d st (Ok (export.Type_ e))
  type_made d e is =
      subst (λ f. MakesItem t ms st f st (Ok (export.Type_ e))) (sym is)
      (nothing_made (definition.Type_ e) _ (type_leaf t ms st e))

  -- what can't be exported is refused
  pub refused_made : (d f : Definition) (u : Unsupported) → d ≡ f → refusal_of f ≡ Some u → (e : ItemError)
      → e ≡ item_error.Fault (item_fault.Unsupported u) → MakesItem t ms st d st (Err e)
  unfolding LeafEnds
  refused_made d f u is refused e says =
      subst (λ g. MakesItem t ms st g st (Err e)) (sym is)
      (subst (λ x. MakesItem t ms st f st (Err x)) (sym says) (nothing_made f _ leaf))
    where
      leaf : IsLeaf t ms st f st (Err (item_error.Fault (item_fault.Unsupported u)))
      leaf w x stands at = (u, refl, refused_view ms st f x at u refused w, refl)

  module _ (new : State) where
    -- options are needed
    pub options_made : (d : Definition) → Prepares t ms st new → AddsEach in_options 0 0 (tables_of st) (tables_of new)
        → (r : Result Export ItemError) → IsLeaf t ms st d new r → MakesItem t ms st d new r
    options_made d p adds r leaf = record {
      keeps = p.keeps;
      adds = options_few (tables_of st) (tables_of new) adds;
      exports = p.exports;
      items = p.export_items;
      leaf = leaf;
    }

    -- a host item is used
    pub host_made : (d : Definition) → Keeps (tables_of st) (tables_of new)
        → AddsEach in_imports 0 0 (tables_of st) (tables_of new)
        → new ≡ record st { graph = record st.graph { imports = new.graph.imports }; used = new.used }
        → (r : Result Export ItemError) → IsLeaf t ms st d new r → MakesItem t ms st d new r
    host_made d keeps adds rest r leaf = record {
      keeps = keeps;
      adds = imports_few (tables_of st) (tables_of new) adds;
      exports = ap (λ (y : State). y.graph.exports) rest;
      items = ap (λ (y : State). y.graph.export_items) rest;
      leaf = leaf;
    }

  -- the path of what the host gives is there
  pub func_held : (p : PathId) (ty : TypeFuncIndex) → IsReachable t ms st (definition.HostFunc p ty)
      → p.0 < length st.paths.held
  func_held p ty r = let v = func_view ms st p ty r.subject r.is in slice_get_within st.paths.held p.0 v.path v.held

  pub module_held : (p : PathId) (ty : TypeModuleIndex) (entry : ℕ)
      → IsReachable t ms st (definition.HostModule p ty entry) → p.0 < length st.paths.held
  module_held p ty entry r =
      let v = module_view ms st p ty entry r.subject r.is in slice_get_within st.paths.held p.0 v.path v.held

  -- and the options and the core function of one that was lifted
  pub lifted_options : (ty : TypeFuncIndex) (func : CoreId) (o : Options)
      → IsReachable t ms st (definition.LiftedFunc ty func o) → OptionsThere ms (tables_of st) o
  lifted_options ty func o r =
      let l = lifted_view ms st ty func o r.subject r.is in options_there ms (tables_of st) o l.options l.stand

  pub lifted_held : (ty : TypeFuncIndex) (func : CoreId) (o : Options) (new : State) → Prepares t ms st new
      → IsReachable t ms st (definition.LiftedFunc ty func o) → func.0 < length new.cores
  lifted_held ty func o new p r =
      let l = lifted_view ms st ty func o r.subject r.is in
      let i = item_kept ms (tables_of st) (tables_of new) p.keeps core.Func func l.callee l.item in
      slice_get_within new.cores func.0 i.definition i.held

module _ (t : TypeTable) (ms : List ModuleRecord) (old : State) (d : Definition) where
  -- what isn't made has no item
  one_err : (new : State) (w : World) (x : Subject) (e : ItemError) → LeafEnds t ms old new w x (Err e)
      → OneEnds t ms old new w x (Err e)
  unfolding LeafEnds OneEnds
  one_err new w x (item_error.Fault k) ends = ends
  one_err new w x item_error.TooMany ends = ends
  one_err new w x item_error.NoMemory ends = ends

  pub unmade : (new : State) (q : Result Export ItemError) (e : ItemError) → q ≡ Err e → MakesItem t ms old d new q
      → (r : Result ExportIndex ItemError) → IsErr r → IsErrAnd r (λ y. y ≡ e) → ReachesOne t ms old d new r
  unmade new q e was makes (Ok n) is same = absurd (let no : ⊥ = cc in no)
  unmade new q e was makes (Err y) is same = record {
    keeps = makes.keeps;
    adds = leaf_few t (tables_of old) (tables_of new) makes.adds;
    types = makes.adds.types;
    exports = makes.exports;
    reads = λ w x stands subject. one_err new w x y
        (subst (LeafEnds t ms old new w x) (was ∙ ap Err (sym same)) (makes.leaf w x stands subject));
  }

  module _ (mid new : State) (e : Export) where
    one_lacks : (w : World) (x : Subject) → LeafMade t ms mid w x e → (y : ItemError) → LacksRoom new y
        → OneEnds t ms old new w x (Err y)
    unfolding OneEnds LacksRoom
    one_lacks w x m (item_error.Fault k) lacks = absurd lacks
    one_lacks w x m item_error.TooMany lacks = (lacks, (_, m.is))
    one_lacks w x m item_error.NoMemory lacks = (_, m.is)

    one_made : (w : World) (x : Subject) → length mid.graph.export_items ≡ length old.graph.export_items
        → LeafMade t ms mid w x e → (r : Result ExportIndex ItemError) → Pushes mid e new r → OneEnds t ms old new w x r
    unfolding OneEnds Pushed
    one_made w x same m (Ok n) pushes =
        let one = push_more t ms mid e new n pushes in
        let size = m.size in
        let put = is_put t ms mid e new n pushes in (
          reached m.node m.world,
          m.is,
          record {
            node = m.node;
            world = m.world;
            is = refl;
            total = m.total;
            stands = push_work t ms mid e new n pushes m.node m.exported m.world m.stands;
            item = push_node t ms mid e new n pushes m.node m.exported;
            items = omega (arith, one, same, size);
            last = push_last t ms mid e new n pushes;
            whole = λ k from to.
                let number = put.0 in
                let here : n.0 ≡ k = omega (arith, number, one, same, from, to) in
                subst (IsWithin new.graph.export_items n.0) here is_it;
          },
        )
    one_made w x same m (Err y) pushes = one_lacks w x m y (pushes.pushed.1)

    made_leaf : (w : World) (x : Subject) → LeafEnds t ms old mid w x (Ok e) → LeafMade t ms mid w x e
    unfolding LeafEnds
    made_leaf w x ends = ends

    -- what is made has its item, if there is room
    pub one_reached : (q : Result Export ItemError) → q ≡ Ok e → MakesItem t ms old d mid q
        → (r : Result ExportIndex ItemError) → Pushes mid e new r → ReachesOne t ms old d new r
    one_reached q was makes r pushes = record {
      keeps = keeps_trans (tables_of old) (tables_of mid) (tables_of new) makes.keeps
          (push_keeps t ms mid e new r pushes);
      adds = one_few t (tables_of old) (tables_of mid) (tables_of new) makes.adds (push_adds t ms mid e new r pushes);
      types = push_types t ms mid e new r pushes ∙ makes.adds.types;
      exports = push_exports t ms mid e new r pushes ∙ makes.exports;
      reads = λ w x stands subject. one_made w x (ap length makes.items)
          (made_leaf w x (subst (LeafEnds t ms old mid w x) was (makes.leaf w x stands subject))) r pushes;
    }
