-- What the sides of an adapter stand for: the options of the reading.
use Rattle.std.proofs.Common.{◌≡◌, List, Option, None, Some, refl, sym, ap, subst, ◌∙◌}
use Rattle.std.specs.Prelude.{slice_get}
use Rattle.std.proofs.lemmas.Option.{same_Some}
use Rattle.pc_numbers.specs.declared.module_entity.ModuleInternedTypeIndex.{ModuleInternedTypeIndex}
use Rattle.pc_types.specs.declared.module_record.ModuleRecord.{ModuleRecord}
use Rattle.pc_types.specs.declared.parsed.CoreFuncSig.{CoreFuncSig}
use Rattle.pc_types.specs.declared.parsed.CoreKind.{CoreKind}
use Rattle.pc_types.specs.declared.parsed.CoreKind.TheVariants as core
use Rattle.pc_types.specs.declared.parsed.TypeTable.{TypeTable}
use Rattle.pc_types.specs.declared.type_index.TypeFuncIndex.{TypeFuncIndex}
use Rattle.pc_types.specs.declared.types.TypeDef.TheVariants as type
use Rattle.pc_numbers.specs.declared.runtime.ResourceIndex.{ResourceIndex}
use Rattle.pc_types.specs.TypeTree.{Identity, TypeTree}
use Rattle.pc_types_lists.specs.Trees.{HasTree}
use Rattle.pc_types_lists.specs.Types.{Types}
use Rattle.pc_spec_plan.specs.CoreValue as value
use Rattle.pc_spec_plan.specs.CoreValue.{CoreValue, MaybeValue, map_maybe, map_model, map_options, map_value}
use Rattle.pc_trampoline.specs.declared.part.Mark.{Mark as Number}
use Rattle.pc_trampoline.specs.declared.part.Mark.TheVariants as mark
use Rattle.pc_parsed.specs.Mark.{Mark, of_signature, of_type}
use Rattle.pc_dfg.specs.declared.adapter.Adapter.{Adapter}
use Rattle.pc_dfg.specs.declared.adapter.AdapterOptions.{AdapterOptions}
use Rattle.pc_dfg.specs.declared.adapter.DataModel.{DataModel as SideModel}
use Rattle.pc_dfg.specs.declared.adapter.DataModel.TheVariants as side
use Rattle.pc_dfg.specs.declared.core_def.CoreDef.{CoreDef}
use Rattle.pc_dfg.specs.declared.core_def.CoreDef.TheVariants as def
use Rattle.pc_dfg.specs.declared.dfg.ComponentDfg.{ComponentDfg}
use Rattle.pc_dfg.specs.declared.ids.AdapterId.{AdapterId}
use Rattle.pc_dfg.specs.Grows as graph
use Rattle.pc_dfg.specs.Means.{Means, MeansMaybe, MeansSide, MeansSideModel, means_adapter, means_none, means_side}
use Rattle.pc_dfg.specs.Means.{means_side_gc, means_side_linear, means_some}
use Rattle.pc_dfg.proofs.KeptLemmas.{maybe_kept, means_kept}
use Rattle.pc_inline_state.specs.declared.definition.CoreId.{CoreId}
use Rattle.pc_inline_state.specs.declared.definition.DataModel.{DataModel}
use Rattle.pc_inline_state.specs.declared.definition.DataModel.TheVariants as model
use Rattle.pc_inline_state.specs.declared.definition.Options.{Options}
use Rattle.pc_inline_state.specs.declared.state.State.{State}
use Rattle.pc_inline_state.specs.Fits.{Fits, FitsBefore}
use Rattle.pc_inline_state.specs.Holds.{Holds, Numbered, number_of, whole_of}
use Rattle.pc_inline_state.specs.Stands.{CoreStands, MaybeStands, ModelStands, OptionsStand, gc_stands}
use Rattle.pc_inline_state.specs.Stands.{linear_stands, none_stands, options_stand, some_stands}
use Rattle.pc_inline_state.specs.Tables.{tables_of}
use Rattle.pc_inline_state.proofs.StateLemmas.{types_refl}
use Rattle.pc_inline_state.specs.Sides.{IsDefinition, IsModel, IsSide}
use Rattle.pc_inline_canon.proofs.MarkLemmas.{still, value_twice}
use Rattle.pc_inline_canon.proofs.SideLemmas.{memory_definition, memory_held}

module _ (types : Types) (g : ComponentDfg) where
  -- a definition that may be left out has a value of the reading
  record MaybeMeans (d : Option CoreDef) (v : MaybeValue Mark) : Type 0 where
    pub numbered : MaybeValue (Numbered types (Fits g))
    pub means : MeansMaybe g d (map_maybe (number_of types (Fits g)) numbered)
    pub is : map_maybe (whole_of types (Fits g)) numbered ≡ v

  -- memory and realloc of a side
  record ModelMeans (m : SideModel) (v : value.DataModel Mark) : Type 0 where
    pub numbered : value.DataModel (Numbered types (Fits g))
    pub means : MeansSideModel g m (map_model (number_of types (Fits g)) numbered)
    pub is : map_model (whole_of types (Fits g)) numbered ≡ v

  -- a side
  pub record SideMeans (x : AdapterOptions) (v : value.Options Mark) : Type 0 where
    pub numbered : value.Options (Numbered types (Fits g))
    pub means : MeansSide g x (map_options (number_of types (Fits g)) numbered)
    pub is : map_options (whole_of types (Fits g)) numbered ≡ v

  -- a core signature as a number of the types builder
  signed_mark : (n : ModuleInternedTypeIndex) (s : CoreFuncSig) → slice_get types.signatures n.0 ≡ Some s
      → Numbered types (Fits g)
  unfolding Holds
  signed_mark n s at = record { number = mark.Signature n; whole = of_signature s; holds = at }

module _ (t : TypeTable) (ms : List ModuleRecord) (st : State) where
  -- a core item that may be left out
  maybe_means : (k : CoreKind) (o : Option CoreId) (d : Option CoreDef) → IsDefinition t ms st o d
      → (v : MaybeValue Mark) → MaybeStands ms (tables_of st) k o v → MaybeMeans st.types st.graph d v
  unfolding IsDefinition
  maybe_means k None None is v none_stands = record { numbered = value.no_value; means = means_none; is = refl }
  maybe_means k (Some id) (Some d) is v (some_stands {v = w} item) =
      let same : item.definition ≡ d = same_Some item.definition d (sym item.held ∙ is) in
      let s = subst (λ x. CoreStands st.types st.graph x w) same item.stands in
      record {
        numbered = value.a_value s.numbered;
        means = means_some s.means;
        is = ap value.a_value s.is;
      }
  maybe_means k None (Some d) is v _ = absurd is
  maybe_means k (Some id) None is v _ = absurd is

  model_means : (o : DataModel) (m : SideModel) → IsModel t ms st o m → (v : value.DataModel Mark)
      → ModelStands ms (tables_of st) o v → ModelMeans st.types st.graph m v
  unfolding IsModel
  model_means model.Gc side.Gc is v gc_stands = record { numbered = value.gc; means = means_side_gc; is = refl }
  model_means (model.LinearMemory m r) (side.LinearMemory memory realloc) is v
      (linear_stands {memory = x} {realloc = y} first second) =
      let a = maybe_means core.Memory m (memory_held memory) (memory_definition t ms st m memory is.0) x first in
      let b = maybe_means core.Func r realloc is.1 y second in
      record {
        numbered = value.linear a.numbered b.numbered;
        means = means_side_linear a.means b.means;
        is = λ i. value.linear (a.is i) (b.is i);
      }
  model_means model.Gc (side.LinearMemory memory realloc) is v _ = absurd is
  model_means (model.LinearMemory m r) side.Gc is v _ = absurd is

  -- a side stands for the options that it is of
  pub side_means : (o : Options) (x : AdapterOptions) → IsSide t ms st o x → (v : value.Options Mark)
      → OptionsStand ms (tables_of st) o v → SideMeans st.types st.graph x v
  unfolding signed_mark
  side_means o x is v
      (options_stand {signature = s} {callback = p} {post_return = q} {where_values_lie = m} begun signed first second
      third) =
      let a = maybe_means core.Func o.callback x.callback is.callback p first in
      let b = maybe_means core.Func o.post_return x.post_return is.post_return q second in
      let c = model_means o.data_model x.data_model is.model m third in
      let held : slice_get st.types.signatures x.core_type.0 ≡ Some s =
      ap (λ (n : ModuleInternedTypeIndex). slice_get st.types.signatures n.0) is.signature ∙ signed in
      record {
        numbered = value.options x.instance.0 x.string_encoding x.async_
            (signed_mark st.types st.graph x.core_type s held) a.numbered b.numbered c.numbered;
        means = means_side a.means b.means c.means;
        is = λ i. value.options (is.component_instance i).0 (is.encoding i) (is.is_async i) (of_signature s) (a.is i)
            (b.is i) (c.is i);
      }

-- a function type as a number of the types builder
func_mark : (types : Types) (g : ComponentDfg) (ty : TypeFuncIndex) (tree : TypeTree)
    → ((who : ResourceIndex → Identity) → Fits g who → HasTree types who (type.ComponentFunc ty) tree)
    → Numbered types (Fits g)
unfolding Holds
func_mark types g ty tree func = record {
  number = mark.Type_ (type.ComponentFunc ty);
  whole = of_type tree;
  holds = func;
}

-- what a side means it means in a graph that has grown
module _ (g h : ComponentDfg) (grows : graph.Grows g h) where
  model_means_kept : {m : SideModel} {v : value.DataModel Number} → MeansSideModel g m v → MeansSideModel h m v
  model_means_kept means_side_gc = means_side_gc
  model_means_kept (means_side_linear memory realloc) =
      means_side_linear (maybe_kept g h grows memory) (maybe_kept g h grows realloc)

  side_means_kept : {x : AdapterOptions} {v : value.Options Number} → MeansSide g x v → MeansSide h x v
  side_means_kept (means_side callback post_return model) =
      means_side (maybe_kept g h grows callback) (maybe_kept g h grows post_return) (model_means_kept model)

-- an adapter has a value of the reading, which each number of it stands for in a graph that has grown
pub record AdapterMeans (types : Types) (g : ComponentDfg) (x : Adapter) (v : CoreValue Mark) : Type 0 where
  pub numbered : CoreValue (Numbered types (Fits g))
  pub means : (h : ComponentDfg) → graph.Grows g h → (k : AdapterId) → slice_get h.adapters k.0 ≡ Some x
      → Means h (def.Adapter k) (map_value (number_of types (Fits g)) numbered)
  pub is : map_value (whole_of types (Fits g)) numbered ≡ v

-- it is that of its callee and its sides
pub adapter_means : (types : Types) (g : ComponentDfg) (x : Adapter) (lift_tree tree : TypeTree)
    (lift lower : value.Options Mark) (v : CoreValue Mark)
    → ((who : ResourceIndex → Identity) → Fits g who → HasTree types who (type.ComponentFunc x.lift_ty) lift_tree)
    → ((who : ResourceIndex → Identity) → Fits g who → HasTree types who (type.ComponentFunc x.lower_ty) tree)
    → SideMeans types g x.lift_options lift → SideMeans types g x.lower_options lower → CoreStands types g x.func v
    → AdapterMeans types g x (value.adapter (of_type lift_tree) lift (of_type tree) lower v)
unfolding func_mark
adapter_means types g x lift_tree tree lift lower v lift_typed typed a b c = record {
  numbered = value.adapter (func_mark types g x.lift_ty lift_tree lift_typed) a.numbered
      (func_mark types g x.lower_ty tree typed) b.numbered c.numbered;
  means = λ h grows k at.
      means_adapter at (side_means_kept g h grows a.means) (side_means_kept g h grows b.means)
      (means_kept g h grows c.means);
  is = λ i. value.adapter (of_type lift_tree) (a.is i) (of_type tree) (b.is i) (c.is i);
}

-- each number of an adapter stands for its value
pub adapter_stands : (types : Types) (g h : ComponentDfg) → graph.Grows g h → FitsBefore g h → (x : Adapter)
    (v : CoreValue Mark) → AdapterMeans types g x v → (k : AdapterId) → slice_get h.adapters k.0 ≡ Some x
    → CoreStands types h (def.Adapter k) v
adapter_stands types g h grows fits x v a k at =
    let on : Numbered types (Fits g) → Numbered types (Fits h) = still types types (types_refl types) g h fits in
    record {
      numbered = map_value on a.numbered;
      means = subst (Means h (def.Adapter k)) (sym (value_twice on (number_of types (Fits h)) a.numbered))
          (a.means h grows k at);
      is = value_twice on (whole_of types (Fits h)) a.numbered ∙ a.is;
    }
