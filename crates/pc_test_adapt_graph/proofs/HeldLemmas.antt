-- What the graphs of the tests hold, and that their adapters have plans.
use Rattle.std.proofs.Common.{◌≡◌, ◌<◌, ◌≤◌, ◌∷◌, [], ℕ, zero, suc, Bool, true, false, List, length, Option, None}
use Rattle.std.proofs.Common.{sym, subst, arith}
use Rattle.std.specs.Prelude.{All, Some, slice_get}
use Rattle.std.specs.List.{AllByRecursion}
use Rattle.std.specs.Option.{is_some}
use Rattle.std.proofs.lemmas.List.Elements.{All-nil, All-cons, All-from_recursion}
use Rattle.std.proofs.lemmas.Option.{slice_get_within}
use Rattle.pc_numbers.specs.declared.component_entity.StaticModuleIndex.{StaticModuleIndex}
use Rattle.pc_types.specs.declared.types.TypeDef.TheVariants as type
use Rattle.pc_types.specs.TypeTree.{TypeTree}
use Rattle.pc_types_lists.specs.Trees.{HasTree}
use Rattle.pc_types.specs.declared.parsed.TypeTable.{TypeTable}
use Rattle.pc_types.specs.declared.type_index.TypeFuncIndex.{TypeFuncIndex}
use Rattle.pc_types_builder.specs.Trees.{IsEntry}
use Rattle.pc_types_builder.proofs.TreeLemmas.{tree_keeps}
use Rattle.pc_types_lists.proofs.KeptTypes.{grows_keeps}
use Rattle.pc_types_lists.specs.Types.{Grows, Types}
use Rattle.pc_dfg.specs.declared.adapter.Adapter.{Adapter}
use Rattle.pc_dfg.specs.declared.adapter.AdapterOptions.{AdapterOptions}
use Rattle.pc_dfg.specs.declared.core_def.CoreDef.{CoreDef}
use Rattle.pc_dfg.specs.declared.core_def.CoreDef.TheVariants as def
use Rattle.pc_dfg.specs.declared.dfg.ComponentDfg.{ComponentDfg}
use Rattle.pc_dfg.specs.declared.ids.AdapterId.{AdapterId}
use Rattle.pc_dfg.specs.declared.instance.Instance.TheVariants as source
use Rattle.pc_dfg.specs.Held.{HeldAdapter, HeldInstance, IsHeld}
use Rattle.pc_dfg.specs.Names.{in_adapter}
use Rattle.pc_adapt.specs.Asked.{HoldsTypes, HoldTypes}
use Rattle.pc_adapt.specs.Places.{HasPlan, count_if, has_memory, has_realloc, side_count}
use Rattle.pc_adapt_partition.specs.Facts.{HaveTrees}
use Rattle.pc_test_adapt_graph.specs.Two.{anyone, AreTwo, HaveTwo}

-- a core instance without arguments is held
pub held_none : (g : ComponentDfg) (m : StaticModuleIndex) (args : List CoreDef) → args ≡ []
    → HeldInstance g (source.Static m args)
unfolding HeldInstance
held_none g m args none = subst (All (IsHeld g)) (sym none) (All-nil (IsHeld g))

-- a core instance that takes an adapter is held
pub held_one : (g : ComponentDfg) (m : StaticModuleIndex) (a : AdapterId) → a.0 < length g.adapters
    → HeldInstance g (source.Static m (def.Adapter a ∷ []))
unfolding HeldInstance IsHeld
held_one g m a below = All-cons (IsHeld g) (def.Adapter a) [] below (All-nil (IsHeld g))

-- an adapter is held, if both its sides and each of its definitions are
pub held_adapter : (g : ComponentDfg) (x : Adapter) → x.lift_options.instance.0 < g.num_runtime_component_instances
    → x.lower_options.instance.0 < g.num_runtime_component_instances
    → AllByRecursion (IsHeld g) (in_adapter x) → HeldAdapter g x
held_adapter g x lift lower each = record {
  lift = lift;
  lower = lower;
  defs = All-from_recursion (IsHeld g) (in_adapter x) each;
}

-- what may be left out takes one place at most
count_few : (there : Bool) → count_if there ≤ 1
count_few true = omega arith
count_few false = omega arith

-- a side takes four places at most
side_few : (o : AdapterOptions) → side_count o ≤ 4
side_few o =
    omega (
      arith,
      count_few (has_memory o.data_model),
      count_few (has_realloc o.data_model),
      count_few (is_some o.callback),
      count_few (is_some o.post_return),
    )

-- an adapter whose types are held has a plan
pub has_plan : (g : ComponentDfg) (b : Types) (id : AdapterId) (x : Adapter) → slice_get g.adapters id.0 ≡ Some x
    → HoldsTypes b x → HasPlan g b id 7
has_plan g b id x at held = record {
  there = slice_get_within g.adapters id.0 x at;
  types = λ y is. let same : x ≡ y = cc in subst (HoldsTypes b) same held;
  room = λ y is. omega (arith, side_few y.lift_options, side_few y.lower_options);
}

-- the tree of a function type among two
abbrev tree_of_two : (b : Types) → HaveTwo b → ℕ → TypeTree
tree_of_two b two zero = two.first.tree
tree_of_two b two (suc n) = two.second.tree

two_has : (b : Types) (two : HaveTwo b) (n : ℕ) → n < 2
    → HasTree b anyone (type.ComponentFunc (record { 0 = n })) (tree_of_two b two n)
two_has b two zero few = two.first.has
two_has b two (suc zero) few = two.second.has
two_has b two (suc (suc n)) few = absurd (omega (arith, few))

two_held : (b : Types) → HaveTwo b → (n : ℕ) → n < 2 → n < length b.funcs
two_held b two n few = omega (arith, few, two.second.held)

-- adapters with no other types than two have types that are held
pub hold_two : (b : Types) (g : ComponentDfg) → HaveTwo b → AreTwo g → HoldTypes b g
hold_two b g two are a x at =
    let few = are a x at in
    record {
      lift = two_held b two x.lift_ty.0 few.0;
      lower = two_held b two x.lower_ty.0 few.1;
    }

abbrev lift_tree : (b : Types) → HaveTwo b → Option Adapter → TypeTree
lift_tree b two None = two.first.tree
lift_tree b two (Some x) = tree_of_two b two x.lift_ty.0

abbrev lower_tree : (b : Types) → HaveTwo b → Option Adapter → TypeTree
lower_tree b two None = two.first.tree
lower_tree b two (Some x) = tree_of_two b two x.lower_ty.0

-- and their types have trees
pub trees_of_two : (b : Types) (g : ComponentDfg) → HaveTwo b → AreTwo g → HaveTrees b g
trees_of_two b g two are = record {
  who = anyone;
  lift = λ a. lift_tree b two (slice_get g.adapters a);
  lower = λ a. lower_tree b two (slice_get g.adapters a);
  typed = λ a x at.
      let few = are a x at in
      record {
        lift_tree = subst (λ o. HasTree b anyone (type.ComponentFunc x.lift_ty) (lift_tree b two o)) (sym at)
            (two_has b two x.lift_ty.0 few.0);
        lower_tree = subst (λ o. HasTree b anyone (type.ComponentFunc x.lower_ty) (lower_tree b two o)) (sym at)
            (two_has b two x.lower_ty.0 few.1);
      };
}

-- the first two entries of a table as the first two function types
pub two_from : (t : TypeTable) (a b : Types) (i j : TypeFuncIndex) → IsEntry a t 0 (type.ComponentFunc i) → Grows a b
    → IsEntry b t 1 (type.ComponentFunc j) → j.0 < length b.funcs → i.0 ≡ 0 → j.0 ≡ 1 → HaveTwo b
two_from t a b i j first grows second held is0 is1 =
    let one = first anyone in
    let two = second anyone in
    let kept = tree_keeps a b (grows_keeps a b grows) anyone (type.ComponentFunc i) one.0 one.2 in
    record {
      first = record {
        tree = one.0;
        has = subst (λ n. HasTree b anyone (type.ComponentFunc (record { 0 = n })) one.0) is0 kept;
        held = omega (arith, held, is1);
      };
      second = record {
        tree = two.0;
        has = subst (λ n. HasTree b anyone (type.ComponentFunc (record { 0 = n })) two.0) is1 two.2;
        held = omega (arith, held, is1);
      };
    }
