-- Values whose marks are mapped twice, and marks that a builder still holds when it has grown.
use Rattle.std.proofs.Common.{◌≡◌, List, [], ◌∷◌, map, refl}
use Rattle.pc_types_lists.specs.Types.{KeepsTypes, Types}
use Rattle.pc_types_builder.proofs.TreeLemmas.{tree_keeps}
use Rattle.pc_trampoline.specs.declared.part.Mark.{Mark}
use Rattle.pc_trampoline.specs.declared.part.Mark.TheVariants as mark
use Rattle.pc_parsed.specs.Mark as reading
use Rattle.pc_spec_plan.specs.CoreValue as value
use Rattle.pc_spec_plan.specs.CoreValue.{CoreValue, Options, DataModel, MaybeValue, Parts, Part, map_value, map_options}
use Rattle.pc_spec_plan.specs.CoreValue.{map_model, map_maybe, map_parts, map_part}
use Rattle.pc_spec_plan.specs.ExportNode as node
use Rattle.pc_spec_plan.specs.ExportNode.{ExportNode, ExportNodes, map_node, map_nodes}
use Rattle.pc_spec_plan.specs.Log.{Entry, Instantiation, NamedArgument, declared, declared_resource, instantiated, made}
use Rattle.pc_spec_plan.specs.Log.{map_argument, map_entry, map_instantiation, needed, of_host, of_static}
use Rattle.pc_dfg.specs.declared.dfg.ComponentDfg.{ComponentDfg}
use Rattle.pc_inline_state.specs.Fits.{Fits, FitsBefore}
use Rattle.pc_inline_state.specs.Holds.{Holds, Numbered}

module _ {τ υ ω : Type 0} (f : τ → υ) (h : υ → ω) where
  -- both maps in one
  abbrev g : τ → ω
  g m = h (f m)

  mutual
    -- a value mapped twice is mapped once by both
    pub value_twice : (v : CoreValue τ) → map_value h (map_value f v) ≡ map_value g v
    value_twice (value.exported n item) = refl
    value_twice (value.lowered path ty o) = let a = options_twice o in λ i. value.lowered path (g ty) (a i)
    value_twice (value.builtin kind c parts) = let a = parts_twice parts in λ i. value.builtin kind c (a i)
    value_twice (value.intrinsic n) = refl
    value_twice (value.adapter ty o ty' o' callee) =
        let a = options_twice o in
        let b = options_twice o' in
        let c = value_twice callee in
        λ i. value.adapter (g ty) (a i) (g ty') (b i) (c i)
    value_twice (value.flags c) = refl
    value_twice (value.helper kind parts) = let a = parts_twice parts in λ i. value.helper kind (a i)

    -- and so are options
    pub options_twice : (o : Options τ) → map_options h (map_options f o) ≡ map_options g o
    options_twice (value.options c encoding is_async s callback post_return model) =
        let a = maybe_twice callback in
        let b = maybe_twice post_return in
        let m = model_twice model in
        λ i. value.options c encoding is_async (g s) (a i) (b i) (m i)

    pub model_twice : (m : DataModel τ) → map_model h (map_model f m) ≡ map_model g m
    model_twice value.gc = refl
    model_twice (value.linear memory realloc) =
        let a = maybe_twice memory in
        let b = maybe_twice realloc in
        λ i. value.linear (a i) (b i)

    pub maybe_twice : (v : MaybeValue τ) → map_maybe h (map_maybe f v) ≡ map_maybe g v
    maybe_twice value.no_value = refl
    maybe_twice (value.a_value v) = let a = value_twice v in λ i. value.a_value (a i)

    parts_twice : (ps : Parts τ) → map_parts h (map_parts f ps) ≡ map_parts g ps
    parts_twice value.no_parts = refl
    parts_twice (value.and_part p ps) =
        let a = part_twice p in
        let b = parts_twice ps in
        λ i. value.and_part (a i) (b i)

    part_twice : (p : Part τ) → map_part h (map_part f p) ≡ map_part g p
    part_twice (value.mark_part m) = refl
    part_twice (value.number_part n) = refl
    part_twice (value.flag_part b) = refl
    part_twice (value.value_part v) = let a = maybe_twice v in λ i. value.value_part (a i)
    part_twice (value.options_part o) = let a = options_twice o in λ i. value.options_part (a i)

  values_twice : (vs : List (CoreValue τ)) → map (map_value h) (map (map_value f) vs) ≡ map (map_value g) vs
  values_twice [] = refl
  values_twice (v ∷ vs) = let a = value_twice v in let b = values_twice vs in λ i. a i ∷ b i

  arguments_twice : (xs : List (NamedArgument τ)) → map (map_argument h) (map (map_argument f) xs)
      ≡ map (map_argument g) xs
  arguments_twice [] = refl
  arguments_twice (x ∷ xs) =
      let a = value_twice x.value in
      let b = arguments_twice xs in
      λ i. record { module_name = x.module_name; name = x.name; value = a i } ∷ b i

  instantiation_twice : (x : Instantiation τ) → map_instantiation h (map_instantiation f x) ≡ map_instantiation g x
  instantiation_twice (of_static n vs) = let a = values_twice vs in λ i. of_static n (a i)
  instantiation_twice (of_host path xs) = let a = arguments_twice xs in λ i. of_host path (a i)

  -- and so are entries of a log
  pub entry_twice : (e : Entry τ) → map_entry h (map_entry f e) ≡ map_entry g e
  entry_twice (instantiated i c) = let a = instantiation_twice i in λ j. instantiated (a j) c
  entry_twice (declared_resource rep destructor c) =
      let a = maybe_twice destructor in λ j. declared_resource rep (a j) c
  entry_twice (declared v) = let a = value_twice v in λ j. declared (a j)
  entry_twice (made v) = let a = value_twice v in λ j. made (a j)
  entry_twice (needed path) = refl

  mutual
    -- and export nodes
    pub node_twice : (n : ExportNode τ) → map_node h (map_node f n) ≡ map_node g n
    node_twice (node.lifted ty v o) =
        let a = value_twice v in
        let b = options_twice o in
        λ i. node.lifted (g ty) (a i) (b i)
    node_twice (node.imported_function ty path) = refl
    node_twice (node.static_module n ty) = refl
    node_twice (node.host_module path ty) = refl
    node_twice (node.instance ty nodes) = let a = nodes_twice nodes in λ i. node.instance (g ty) (a i)
    node_twice (node.type_node ty) = refl

    nodes_twice : (ns : ExportNodes τ) → map_nodes h (map_nodes f ns) ≡ map_nodes g ns
    nodes_twice node.no_nodes = refl
    nodes_twice (node.and_node name meta n rest) =
        let a = node_twice n in
        let b = nodes_twice rest in
        λ i. node.and_node name meta (a i) (b i)

module _ (old new : Types) (keeps : KeepsTypes old new) (g h : ComponentDfg) (fits : FitsBefore g h) where
  -- what a builder holds where resource numbers fit a graph it holds when both have grown
  pub holds_still : (m : Mark) (w : reading.Mark) → Holds old (Fits g) m w → Holds new (Fits h) m w
  unfolding Holds
  holds_still (mark.Type_ ty) (reading.of_type tree) x =
      λ who now. tree_keeps old new keeps who ty tree (x who (fits who now))
  holds_still (mark.Type_ ty) (reading.of_signature s) x = x
  holds_still (mark.Signature n) (reading.of_type tree) x = x
  holds_still (mark.Signature n) (reading.of_signature s) x = keeps.signatures n.0 s x

  -- a mark with what it stands for
  abbrev pub still : Numbered old (Fits g) → Numbered new (Fits h)
  still m = record { number = m.number; whole = m.whole; holds = holds_still m.number m.whole m.holds }
