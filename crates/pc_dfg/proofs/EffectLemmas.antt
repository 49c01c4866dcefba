-- What the calls do that begin a component instance, make a core instance or declare a resource.
use Rattle.std.proofs.Common.{◌≡◌, ◌+◌, ◌<◌, ◌≤◌, ℕ, suc, List, [], ◌∷◌, ◌++◌, length, All, Some, refl, ap, sym, subst}
use Rattle.std.proofs.Common.{◌∙◌, inl, inr, arith}
use Rattle.std.specs.Prelude.{slice_get}
use Rattle.std.specs.List.{filter_map}
use Rattle.std.proofs.lemmas.List.{append-nil, length-append}
use Rattle.std.proofs.lemmas.List.Elements.{filter_map-append}
use Rattle.std.proofs.lemmas.Option.{slice_get_within}
use Rattle.std.proofs.Math.Seq.{take-append_seam}
use Rattle.pc_entity.proofs.Growing.{slice_get-append_seam}
use Rattle.pc_dfg.specs.declared.ids.InstanceId.{InstanceId}
use Rattle.pc_numbers.specs.declared.runtime.DefinedResourceIndex.{DefinedResourceIndex}
use Rattle.pc_numbers.specs.declared.runtime.RuntimeComponentInstanceIndex.{RuntimeComponentInstanceIndex}
use Rattle.pc_spec_plan.specs.PlanView as plan
use Rattle.pc_dfg.specs.declared.dfg.ComponentDfg.{ComponentDfg}
use Rattle.pc_dfg.specs.declared.instance.Instance.{Instance}
use Rattle.pc_dfg.specs.declared.instance.Resource.{Resource}
use Rattle.pc_dfg.specs.declared.instance.SideEffect.{SideEffect}
use Rattle.pc_dfg.specs.declared.instance.SideEffect.TheVariants as effect
use Rattle.pc_dfg.specs.Grows.{Grows}
use Rattle.pc_dfg.specs.Held.{IsHeld, HasBegun, HeldInstance, HeldResource}
use Rattle.pc_dfg.specs.Held.{HeldEffect, HoldsEntry}
use Rattle.pc_dfg.specs.Lists as list
use Rattle.pc_dfg.specs.Names.{each_of, in_instance, in_resource, in_effect}
use Rattle.pc_dfg.specs.Numbers.{slots_of}
use Rattle.pc_dfg.specs.Ordered.{CountTo, IsOrdered, made_by, made_in, declared_by}
use Rattle.pc_dfg.specs.Pushed.{Changes, with_component_instance, with_instance, with_resource}
use Rattle.pc_dfg.proofs.AddLemmas.{AllAdd, EntryFact, NewHeld, Added, NewEffect, nothing, one_more, one_changed}
use Rattle.pc_dfg.proofs.AddLemmas.{get_appended, added_ordered, instance_defs}
use Rattle.pc_dfg.proofs.PushLemmas.{quiet}

component_instance_adds : (P : EntryFact) (g : ComponentDfg) → AllAdd P g (with_component_instance g)
unfolding slots_of
component_instance_adds P g (list.slots plan.memory) = nothing
component_instance_adds P g l = nothing

-- a component instance begins
pub component_instance_grows : (g : ComponentDfg) → Grows g (with_component_instance g)
component_instance_grows g = record {
  lists = λ l. (component_instance_adds (λ l n x. Unit {0}) g l).extends;
  component_instances = omega arith;
  signatures = λ place s at. at;
}

pub component_instance_ordered : (g : ComponentDfg) → IsOrdered g → IsOrdered (with_component_instance g)
component_instance_ordered g o =
    let h = with_component_instance g in
    let added : Added g h = record {
      lists = component_instance_adds (NewHeld g h) g;
      component_instances = omega arith;
      signatures = λ place s at. at;
    } in
    quiet g h added o refl refl refl

instance_alone_adds : (P : EntryFact) (g : ComponentDfg) (ys : List Instance) (x : Instance) → Changes g.instances ys x
    → P list.instances (length g.instances) x → AllAdd P g (record g { instances = ys })
unfolding slots_of
instance_alone_adds P g ys x change p list.instances = one_changed (P list.instances) g.instances ys x change p
instance_alone_adds P g ys x change p (list.slots plan.memory) = nothing
instance_alone_adds P g ys x change p l = nothing

-- one entry of `instances` without its side effect
pub instance_alone_grows : (g : ComponentDfg) (ys : List Instance) (x : Instance) → Changes g.instances ys x
    → Grows g (record g { instances = ys })
instance_alone_grows g ys x change = record {
  lists = λ l. (instance_alone_adds (λ l n x. Unit {0}) g ys x change tt l).extends;
  component_instances = omega arith;
  signatures = λ place s at. at;
}

resource_alone_adds : (P : EntryFact) (g : ComponentDfg) (ys : List Resource) (x : Resource) → Changes g.resources ys x
    → P list.resources (length g.resources) x → AllAdd P g (record g { resources = ys })
unfolding slots_of
resource_alone_adds P g ys x change p list.resources = one_changed (P list.resources) g.resources ys x change p
resource_alone_adds P g ys x change p (list.slots plan.memory) = nothing
resource_alone_adds P g ys x change p l = nothing

-- one entry of `resources` without its side effect
pub resource_alone_grows : (g : ComponentDfg) (ys : List Resource) (x : Resource) → Changes g.resources ys x
    → Grows g (record g { resources = ys })
resource_alone_grows g ys x change = record {
  lists = λ l. (resource_alone_adds (λ l n x. Unit {0}) g ys x change tt l).extends;
  component_instances = omega arith;
  signatures = λ place s at. at;
}

-- numbers that count up, with the next one
count_more : (n : ℕ) (ns : List ℕ) → CountTo n ns → CountTo (suc n) (ns ++ n ∷ [])
count_more n ns counted = record {
  all =
      let long = length-append ns (n ∷ []) in
      omega (arith, long, counted.all);
  each = λ i k at. elim (get_appended ns n i k at) as (λ _. k ≡ i) [
    | inl old ↦ counted.each i k old
    | inr new ↦ sym new.1 ∙ sym counted.all ∙ new.0
  ];
}

-- the one new side effect of a graph
one_effect : (g h : ComponentDfg) (e : SideEffect) → h.side_effects ≡ g.side_effects ++ e ∷ []
    → NewEffect g h (length g.side_effects) e → (i : ℕ) (x : SideEffect) → slice_get h.side_effects i ≡ Some x
    → length g.side_effects ≤ i → NewEffect g h i x
one_effect g h e is it i x at past =
    elim (get_appended g.side_effects e i x (subst (λ es. slice_get es i ≡ Some x) is at)) as (λ _. NewEffect g h i x) [
      | inl old ↦ absurd (omega (arith, past, slice_get_within g.side_effects i x old))
      | inr new ↦ subst (λ m. NewEffect g h m x) new.0 (subst (NewEffect g h (length g.side_effects)) new.1 it)
    ]

module _ (g : ComponentDfg) (x : Instance) (c : RuntimeComponentInstanceIndex) where
  -- the side effect that makes the next core instance
  abbrev made_effect : SideEffect
  made_effect = effect.Instance (record { 0 = length g.instances }) c

  instance_adds : (P : EntryFact) → P list.instances (length g.instances) x
      → P list.side_effects (length g.side_effects) made_effect → AllAdd P g (with_instance g x c)
  unfolding slots_of
  instance_adds P p q list.instances = one_more (P list.instances) g.instances (g.instances ++ x ∷ []) x refl p
  instance_adds P p q list.side_effects =
      one_more (P list.side_effects) g.side_effects (g.side_effects ++ made_effect ∷ []) made_effect refl q
  instance_adds P p q (list.slots plan.memory) = nothing
  instance_adds P p q l = nothing

  -- a core instance is made
  pub instance_grows : Grows g (with_instance g x c)
  instance_grows = record {
    lists = λ l. (instance_adds (λ l n x. Unit {0}) tt tt l).extends;
    component_instances = omega arith;
    signatures = λ place s at. at;
  }

  pub instance_ordered : HeldInstance g x → HasBegun g c.0 → IsOrdered g → IsOrdered (with_instance g x c)
  unfolding HoldsEntry HeldEffect in_effect
  instance_ordered held begun o =
      let h = with_instance g x c in
      let long = length-append g.instances (x ∷ []) in
      let inside : length g.instances < length (g.instances ++ x ∷ []) = omega (arith, long) in
      let added : Added g h = record {
        lists = instance_adds (NewHeld g h) held (inside, begun);
        component_instances = omega arith;
        signatures = λ place s at. at;
      } in
      let made = ap (λ es. length (made_in es)) (take-append_seam g.side_effects (made_effect ∷ [])) in
      let it : NewEffect g h (length g.side_effects) made_effect = record {
        defs = subst (λ y. All (IsHeld g) (each_of in_instance y)) (sym (slice_get-append_seam g.instances x []))
            (instance_defs g x held);
        after = omega (arith, made, o.instances.all);
      } in
      let next : suc (length g.instances) ≡ length (g.instances ++ x ∷ []) = omega (arith, long) in
      let instances = subst (λ n. CountTo n (made_in (g.side_effects ++ made_effect ∷ []))) next
      (subst (CountTo (suc (length g.instances)))
      (sym (filter_map-append made_by g.side_effects (made_effect ∷ [])))
      (count_more (length g.instances) (made_in g.side_effects) o.instances)) in
      let none = filter_map-append declared_by g.side_effects (made_effect ∷ [])
      ∙ append-nil (filter_map declared_by g.side_effects) in
      added_ordered g h added o (one_effect g h made_effect refl it) instances
      (subst (CountTo (length g.resources)) (sym none) o.resources)

module _ (g : ComponentDfg) (x : Resource) where
  -- the side effect that declares the next resource
  abbrev declaring_effect : SideEffect
  declaring_effect = effect.Resource (record { 0 = length g.resources })

  resource_adds : (P : EntryFact) → P list.resources (length g.resources) x
      → P list.side_effects (length g.side_effects) declaring_effect → AllAdd P g (with_resource g x)
  unfolding slots_of
  resource_adds P p q list.resources = one_more (P list.resources) g.resources (g.resources ++ x ∷ []) x refl p
  resource_adds P p q list.side_effects =
      one_more (P list.side_effects) g.side_effects (g.side_effects ++ declaring_effect ∷ []) declaring_effect refl q
  resource_adds P p q (list.slots plan.memory) = nothing
  resource_adds P p q l = nothing

  -- a resource is declared
  pub resource_grows : Grows g (with_resource g x)
  resource_grows = record {
    lists = λ l. (resource_adds (λ l n x. Unit {0}) tt tt l).extends;
    component_instances = omega arith;
    signatures = λ place s at. at;
  }

  pub resource_ordered : HeldResource g x → IsOrdered g → IsOrdered (with_resource g x)
  unfolding HoldsEntry HeldEffect in_effect
  resource_ordered held o =
      let h = with_resource g x in
      let long = length-append g.resources (x ∷ []) in
      let inside : length g.resources < length (g.resources ++ x ∷ []) = omega (arith, long) in
      let added : Added g h = record {
        lists = resource_adds (NewHeld g h) held inside;
        component_instances = omega arith;
        signatures = λ place s at. at;
      } in
      let made = ap (λ es. length (made_in es)) (take-append_seam g.side_effects (declaring_effect ∷ [])) in
      let it : NewEffect g h (length g.side_effects) declaring_effect = record {
        defs = subst (λ y. All (IsHeld g) (each_of in_resource y)) (sym (slice_get-append_seam g.resources x []))
            held.destructor;
        after = omega (arith, made, o.instances.all);
      } in
      let next : suc (length g.resources) ≡ length (g.resources ++ x ∷ []) = omega (arith, long) in
      let resources = subst (λ n. CountTo n (filter_map declared_by (g.side_effects ++ declaring_effect ∷ []))) next
      (subst (CountTo (suc (length g.resources)))
      (sym (filter_map-append declared_by g.side_effects (declaring_effect ∷ [])))
      (count_more (length g.resources) (filter_map declared_by g.side_effects) o.resources)) in
      let none = filter_map-append made_by g.side_effects (declaring_effect ∷ [])
      ∙ append-nil (made_in g.side_effects) in
      added_ordered g h added o (one_effect g h declaring_effect refl it)
      (subst (CountTo (length g.instances)) (sym none) o.instances) resources

-- a graph that has a core instance without its side effect has grown
pub instance_left : (g : ComponentDfg) (ys : List Instance) (es : List SideEffect) (x : Instance)
    → Changes g.instances ys x → es ≡ g.side_effects → Grows g (record g { instances = ys; side_effects = es })
instance_left g ys es x change same =
    subst (λ z. Grows g (record g { instances = ys; side_effects = z })) (sym same) (instance_alone_grows g ys x change)

pub resource_left : (g : ComponentDfg) (ys : List Resource) (es : List SideEffect) (x : Resource)
    → Changes g.resources ys x → es ≡ g.side_effects → Grows g (record g { resources = ys; side_effects = es })
resource_left g ys es x change same =
    subst (λ z. Grows g (record g { resources = ys; side_effects = z })) (sym same) (resource_alone_grows g ys x change)

-- a graph to which a core instance and its side effect were pushed
pub instance_pushed : (g : ComponentDfg) (ys : List Instance) (es : List SideEffect) (x : Instance)
    (c : RuntimeComponentInstanceIndex) (i : InstanceId) → i ≡ record { 0 = length g.instances }
    → ys ≡ g.instances ++ x ∷ [] → es ≡ g.side_effects ++ effect.Instance i c ∷ []
    → with_instance g x c ≡ record g { instances = ys; side_effects = es }
instance_pushed g ys es x c i number is effects =
    let first = sym is in
    let second = sym (effects ∙ ap (λ k. g.side_effects ++ effect.Instance k c ∷ []) number) in
    λ j. record g { instances = first j; side_effects = second j }

pub resource_pushed : (g : ComponentDfg) (ys : List Resource) (es : List SideEffect) (x : Resource)
    (n : DefinedResourceIndex) → n ≡ record { 0 = length g.resources } → ys ≡ g.resources ++ x ∷ []
    → es ≡ g.side_effects ++ effect.Resource n ∷ []
    → with_resource g x ≡ record g { resources = ys; side_effects = es }
resource_pushed g ys es x n number is effects =
    let first = sym is in
    let second = sym (effects ∙ ap (λ k. g.side_effects ++ effect.Resource k ∷ []) number) in
    λ j. record g { resources = first j; side_effects = second j }
