-- What is the same with types is the same without them.
use Rattle.std.proofs.Common.{◌≡◌, List, [], ◌∷◌, map, Some, refl, sym, ap, ◌∙◌}
use Rattle.std.specs.Prelude.{option_map}
use Rattle.pc_types_builder.specs.Types.{Types}
use Rattle.pc_trampoline.specs.declared.part.Mark.{Mark}
use Rattle.pc_spec_reading.specs.Reading.{Reading}
use Rattle.pc_spec_plan.specs.CoreValue as value
use Rattle.pc_spec_plan.specs.CoreValue.{CoreValue, Options, DataModel, MaybeValue, Parts, Part, map_value, map_options}
use Rattle.pc_spec_plan.specs.CoreValue.{map_model, map_maybe, map_parts, map_part, erased}
use Rattle.pc_spec_plan.specs.ExportNode as node
use Rattle.pc_spec_plan.specs.ExportNode.{ExportNode, ExportNodes, NamedNode, map_node, map_nodes, map_named}
use Rattle.pc_spec_plan.specs.ExportNode.{erase_named}
use Rattle.pc_spec_plan.specs.Log.{Entry, Instantiation, NamedArgument, Owned, declared, declared_resource, erase_entry}
use Rattle.pc_spec_plan.specs.Log.{erase_owned, instances_of, instantiated, made, map_argument, map_entry}
use Rattle.pc_spec_plan.specs.Log.{map_instantiation, map_owned, needed, of_host, of_static}
use Rattle.pc_spec_plan.specs.Machine.{owned_instances}
use Rattle.pc_spec_plan.specs.PlanView.{PlanView}
use Rattle.pc_inline_state.specs.Holds.{ReadsAs, number_of, whole_of}
use Rattle.pc_translate.proofs.MarkLemmas.{instances_mapped, instances_traced}
use Rattle.pc_translate.specs.Translation.{DoesAs}
use Rattle.pc_translate.specs.Typed.{TypedAs}

module _ {τ υ : Type 0} (f : τ → υ) where
  mutual
    -- a value whose types are mapped is the same without types
    pub value_erased : (v : CoreValue τ) → map_value erased (map_value f v) ≡ map_value erased v
    value_erased (value.exported n item) = refl
    value_erased (value.lowered path ty o) = let a = options_erased o in λ i. value.lowered path tt (a i)
    value_erased (value.builtin kind c parts) = let a = parts_erased parts in λ i. value.builtin kind c (a i)
    value_erased (value.intrinsic n) = refl
    value_erased (value.adapter ty o ty' o' callee) =
        let a = options_erased o in
        let b = options_erased o' in
        let c = value_erased callee in
        λ i. value.adapter tt (a i) tt (b i) (c i)
    value_erased (value.flags c) = refl
    value_erased (value.helper kind parts) = let a = parts_erased parts in λ i. value.helper kind (a i)

    options_erased : (o : Options τ) → map_options erased (map_options f o) ≡ map_options erased o
    options_erased (value.options c encoding is_async s callback post_return model) =
        let a = maybe_erased callback in
        let b = maybe_erased post_return in
        let m = model_erased model in
        λ i. value.options c encoding is_async tt (a i) (b i) (m i)

    model_erased : (m : DataModel τ) → map_model erased (map_model f m) ≡ map_model erased m
    model_erased value.gc = refl
    model_erased (value.linear memory realloc) =
        let a = maybe_erased memory in
        let b = maybe_erased realloc in
        λ i. value.linear (a i) (b i)

    maybe_erased : (v : MaybeValue τ) → map_maybe erased (map_maybe f v) ≡ map_maybe erased v
    maybe_erased value.no_value = refl
    maybe_erased (value.a_value v) = let a = value_erased v in λ i. value.a_value (a i)

    parts_erased : (ps : Parts τ) → map_parts erased (map_parts f ps) ≡ map_parts erased ps
    parts_erased value.no_parts = refl
    parts_erased (value.and_part p ps) =
        let a = part_erased p in
        let b = parts_erased ps in
        λ i. value.and_part (a i) (b i)

    part_erased : (p : Part τ) → map_part erased (map_part f p) ≡ map_part erased p
    part_erased (value.mark_part m) = refl
    part_erased (value.number_part n) = refl
    part_erased (value.flag_part b) = refl
    part_erased (value.value_part v) = let a = maybe_erased v in λ i. value.value_part (a i)
    part_erased (value.options_part o) = let a = options_erased o in λ i. value.options_part (a i)

  values_erased : (vs : List (CoreValue τ)) → map (map_value erased) (map (map_value f) vs) ≡ map (map_value erased) vs
  values_erased [] = refl
  values_erased (v ∷ vs) = let a = value_erased v in let b = values_erased vs in λ i. a i ∷ b i

  arguments_erased : (xs : List (NamedArgument τ))
      → map (map_argument erased) (map (map_argument f) xs) ≡ map (map_argument erased) xs
  arguments_erased [] = refl
  arguments_erased (x ∷ xs) =
      let a = value_erased x.value in
      let b = arguments_erased xs in
      λ i. record { module_name = x.module_name; name = x.name; value = a i } ∷ b i

  instantiation_erased : (x : Instantiation τ)
      → map_instantiation erased (map_instantiation f x) ≡ map_instantiation erased x
  instantiation_erased (of_static n vs) = let a = values_erased vs in λ i. of_static n (a i)
  instantiation_erased (of_host path xs) = let a = arguments_erased xs in λ i. of_host path (a i)

  -- core instances whose types are mapped are the same without types
  pub owned_erased : (os : List (Owned τ)) → map erase_owned (map (map_owned f) os) ≡ map erase_owned os
  owned_erased [] = refl
  owned_erased (o ∷ os) =
      let a = instantiation_erased o.instantiation in
      let b = owned_erased os in
      λ i. record { instantiation = a i; component_instance = o.component_instance } ∷ b i

  -- entries whose types are mapped are the same without types
  pub entries_erased : (es : List (Entry τ)) → map erase_entry (map (map_entry f) es) ≡ map erase_entry es
  entries_erased [] = refl
  entries_erased (e ∷ es) = let rest = entries_erased es in by e rest
    where
      by : (x : Entry τ) → map erase_entry (map (map_entry f) es) ≡ map erase_entry es
          → map erase_entry (map (map_entry f) (x ∷ es)) ≡ map erase_entry (x ∷ es)
      by (instantiated i c) rest = let a = instantiation_erased i in λ j. instantiated (a j) c ∷ rest j
      by (declared_resource representation destructor c) rest =
          let a = maybe_erased destructor in
          λ j. declared_resource representation (a j) c ∷ rest j
      by (declared v) rest = let a = value_erased v in λ j. declared (a j) ∷ rest j
      by (made v) rest = let a = value_erased v in λ j. made (a j) ∷ rest j
      by (needed path) rest = λ j. needed path ∷ rest j

  mutual
    node_erased : (n : ExportNode τ) → map_node erased (map_node f n) ≡ map_node erased n
    node_erased (node.lifted ty v o) = let a = value_erased v in let b =
        options_erased o in λ i. node.lifted tt (a i) (b i)
    node_erased (node.imported_function ty path) = refl
    node_erased (node.static_module n ty) = refl
    node_erased (node.host_module path ty) = refl
    node_erased (node.instance ty nodes) = let a = nodes_erased nodes in λ i. node.instance tt (a i)
    node_erased (node.type_node ty) = refl

    nodes_erased : (ns : ExportNodes τ) → map_nodes erased (map_nodes f ns) ≡ map_nodes erased ns
    nodes_erased node.no_nodes = refl
    nodes_erased (node.and_node name meta n rest) =
        let a = node_erased n in
        let b = nodes_erased rest in
        λ i. node.and_node name meta (a i) (b i)

  -- exports whose types are mapped are the same without types
  pub named_erased : (ns : List (NamedNode τ)) → map erase_named (map (map_named f) ns) ≡ map erase_named ns
  named_erased [] = refl
  named_erased (n ∷ ns) =
      let a = node_erased n.node in
      let b = named_erased ns in
      λ i. record { name = n.name; extern_data = n.extern_data; node = a i } ∷ b i

-- a plan that does what a reading says with types, and makes the instances of its trace, does so without them
unfoldable pub does_as : (types : Types) (p : PlanView Mark) (r : Reading) → (h : TypedAs types p r)
    → owned_instances h.never_stuck.last
    ≡ map (map_owned (number_of types (ReadsAs r.imported_resources))) (instances_of h.entries) → DoesAs p r
does_as types p r h makes =
    let reads = ReadsAs r.imported_resources in
    let made_whole = sym (instances_mapped (whole_of types reads) h.entries) ∙ ap instances_of h.same_trace
    ∙ instances_traced r.log in
    record {
      never_stuck = h.never_stuck;
      same =
          ap (map erase_owned) makes ∙ owned_erased (number_of types reads) (instances_of h.entries)
          ∙ sym (owned_erased (whole_of types reads) (instances_of h.entries)) ∙ ap (map erase_owned) made_whole;
      traced =
          ap (option_map (map erase_entry)) h.traced
          ∙ ap Some (entries_erased (number_of types reads) h.entries
          ∙ sym (entries_erased (whole_of types reads) h.entries) ∙ ap (map erase_entry) h.same_trace);
      exports =
          ap (map erase_named) h.ends ∙ named_erased (number_of types reads) h.exports
          ∙ sym (named_erased (whole_of types reads) h.exports) ∙ ap (map erase_named) h.same_exports;
    }
