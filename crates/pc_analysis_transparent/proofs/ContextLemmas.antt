-- Which lists of definitions have one that reads or writes the slots of a context.
use Rattle.std.proofs.Common.{◌≡◌, ◌⊎◌, ◌+◌, ℕ, zero, suc, inl, inr, Bool, true, false, ◌||◌, List, [], ◌∷◌, ◌++◌, take}
use Rattle.std.proofs.Common.{arith}
use Rattle.std.proofs.Common.{Some, refl, sym, ap, ◌∙◌}
use Rattle.std.specs.Prelude.{Option, None, option_map, slice_get, map}
use Rattle.std.specs.List.{Contains, list_any}
use Rattle.std.proofs.lemmas.List.{take_more, map-append}
use Rattle.std.proofs.lemmas.List.Concat.{flat_map-append}
use Rattle.std.proofs.lemmas.List.Elements.{Contains-append_right}
use Rattle.std.proofs.lemmas.List.Folds.{list_any-append, list_any_at}
use Rattle.std.proofs.lemmas.Option.{get_or_from_slice_get, slice_get_within}
use Rattle.pc_dfg.specs.declared.core_def.CoreDef.{CoreDef}
use Rattle.pc_dfg.specs.declared.core_def.CoreExport.{CoreExport}
use Rattle.pc_numbers.specs.declared.module_entity.MemoryIndex.{MemoryIndex}
use Rattle.pc_dfg.specs.Effects.{Argument, host_arguments}
use Rattle.pc_dfg.specs.declared.dfg.ComponentDfg.{ComponentDfg}
use Rattle.pc_spec_plan.specs.PlanView as plan
use Rattle.pc_dfg.specs.Names.{each_of, if_any, in_slot}
use Rattle.pc_dfg.specs.Numbers.{memory_def, slots_of}
use Rattle.pc_analysis_transparent.specs.Context.{is_context_def, uses_context}

pub either_way : (b : Bool) → (b ≡ true) ⊎ (b ≡ false)
either_way true = inl refl
either_way false = inr refl

or_none : (a : Bool) → (a || false) ≡ a
or_none true = refl
or_none false = refl

-- no definition uses them
pub uses_none : uses_context [] ≡ false
unfolding uses_context
uses_none = refl

-- a list of one definition
pub uses_one : (d : CoreDef) → uses_context (d ∷ []) ≡ is_context_def d
unfolding uses_context
uses_one d = or_none (is_context_def d)

-- two lists
pub uses_either : (ds es : List CoreDef) → uses_context (ds ++ es) ≡ (uses_context ds || uses_context es)
unfolding uses_context
uses_either ds es = list_any-append is_context_def ds es

-- two lists, where each is known
pub uses_both : (ds es : List CoreDef) (a b : Bool) → a ≡ uses_context ds → b ≡ uses_context es
    → (a || b) ≡ uses_context (ds ++ es)
uses_both ds es a b of_ds of_es =
    ap (λ x. x || b) of_ds ∙ ap (λ x. uses_context ds || x) of_es ∙ sym (uses_either ds es)

-- one item more of a list of which a list of definitions is made
pub uses_more : {A : Type 0} (f : List A → List CoreDef) (here : A → List CoreDef) (xs : List A) (i : ℕ) (x : A)
    (a b : Bool) → ((ys : List A) → f (ys ++ x ∷ []) ≡ f ys ++ here x) → slice_get xs i ≡ Some x
    → a ≡ uses_context (f (take i xs)) → b ≡ uses_context (here x) → (a || b) ≡ uses_context (f (take (i + 1) xs))
uses_more f here xs i x a b grows at so_far now =
    let more : take (i + 1) xs ≡ take i xs ++ x ∷ [] =
    take_more xs i x (slice_get_within xs i x at)
    ∙ ap (λ y. take i xs ++ y ∷ []) (get_or_from_slice_get xs i x x at) in
    uses_both (f (take i xs)) (here x) a b so_far now ∙ ap uses_context (sym (ap f more ∙ grows (take i xs)))

-- one definition more
pub uses_def_more : (ds : List CoreDef) (i : ℕ) (d : CoreDef) (a b : Bool) → slice_get ds i ≡ Some d
    → a ≡ uses_context (take i ds) → b ≡ uses_context (d ∷ []) → (a || b) ≡ uses_context (take (i + 1) ds)
uses_def_more ds i d a b at so_far now =
    uses_more (λ ys. ys) (λ e. e ∷ []) ds i d a b (λ ys. refl) at so_far now

-- one named argument more
pub uses_named_more : (args : List (List ℕ × CoreDef)) (i : ℕ) (x : List ℕ × CoreDef) (a b : Bool)
    → slice_get args i ≡ Some x → a ≡ uses_context (map (λ y. y.1) (take i args)) → b ≡ uses_context (x.1 ∷ [])
    → (a || b) ≡ uses_context (map (λ y. y.1) (take (i + 1) args))
uses_named_more args i x a b at so_far now =
    uses_more (map (λ y. y.1)) (λ y. y.1 ∷ []) args i x a b (λ ys. map-append (λ y. y.1) ys (x ∷ [])) at so_far now

-- no memory uses them
pub memory_uses_none : (m : Option (CoreExport MemoryIndex × Bool))
    → uses_context (if_any (option_map (λ x. memory_def x.0) m)) ≡ false
unfolding uses_context
memory_uses_none None = refl
memory_uses_none (Some m) = refl

pub memories_use_none : (ms : List (CoreExport MemoryIndex)) (n : Option ℕ)
    → uses_context (each_of (λ i. if_any (slice_get (map memory_def ms) i)) n) ≡ false
unfolding uses_context
memories_use_none ms None = refl
memories_use_none [] (Some n) = refl
memories_use_none (m ∷ ms) (Some zero) = refl
memories_use_none (m ∷ ms) (Some (suc n)) = memories_use_none ms (Some n)

-- memory and realloc use them where the realloc does
pub side_uses : (m : Option (CoreExport MemoryIndex × Bool)) (r : Option CoreDef)
    → uses_context (if_any (option_map (λ x. memory_def x.0) m) ++ if_any r) ≡ uses_context (if_any r)
side_uses m r =
    uses_either (if_any (option_map (λ x. memory_def x.0) m)) (if_any r)
    ∙ ap (λ b. b || uses_context (if_any r)) (memory_uses_none m)

pub model_uses : (g : ComponentDfg) (m r : Option ℕ)
    → uses_context (in_slot g plan.memory m ++ in_slot g plan.realloc r) ≡ uses_context (in_slot g plan.realloc r)
unfolding slots_of
model_uses g m r =
    uses_either (in_slot g plan.memory m) (in_slot g plan.realloc r)
    ∙ ap (λ b. b || uses_context (in_slot g plan.realloc r)) (memories_use_none g.memories m)

-- where a list uses them, a definition of it does
pub user_of : (ds : List CoreDef) → uses_context ds ≡ true
    → (d : CoreDef) × Contains ds d × (is_context_def d ≡ true)
unfolding uses_context
user_of [] uses = absurd (cc uses)
user_of (d ∷ ds) uses = elim (either_way (is_context_def d)) [
  | inl is ↦ (d, (0, omega arith, refl), is)
  | inr isnt ↦
      let rest = user_of ds (sym (ap (λ b. b || list_any is_context_def ds) isnt) ∙ uses) in
      (rest.0, Contains-append_right (d ∷ []) ds rest.0 rest.1, rest.2)
]

pub used_by : (ds : List CoreDef) (d : CoreDef) → Contains ds d → is_context_def d ≡ true → uses_context ds ≡ true
unfolding uses_context
used_by ds d (k, below, is) uses =
    list_any_at is_context_def ds k d below (ap is_context_def is ∙ uses)

-- one module name more, with its arguments
pub uses_host_more : (args : List (List ℕ × List (List ℕ × CoreDef))) (i : ℕ) (m : List ℕ × List (List ℕ × CoreDef))
    (a b : Bool) → slice_get args i ≡ Some m
    → a ≡ uses_context (map (λ (x : Argument). x.1.1) (host_arguments (take i args)))
    → b ≡ uses_context (map (λ (x : List ℕ × CoreDef). x.1) m.1)
    → (a || b) ≡ uses_context (map (λ (x : Argument). x.1.1) (host_arguments (take (i + 1) args)))
uses_host_more args i m a b at so_far now =
    uses_more (λ ys. map (λ (x : Argument). x.1.1) (host_arguments ys))
    (λ (n : List ℕ × List (List ℕ × CoreDef)). map (λ (x : List ℕ × CoreDef). x.1) n.1) args i m a b
    (λ ys.
    ap defs (flat_map-append named_of ys (m ∷ []))
    ∙ map-append (λ (x : Argument). x.1.1) (host_arguments ys) (host_arguments (m ∷ []))
    ∙ ap (λ zs. defs (host_arguments ys) ++ zs) (last m.0 m.1)) at so_far now
  where
    defs : List Argument → List CoreDef
    defs = map (λ (x : Argument). x.1.1)

    named_of : List ℕ × List (List ℕ × CoreDef) → List Argument
    named_of n = map (λ x. (n.0, x)) n.1

    last : (name : List ℕ) (xs : List (List ℕ × CoreDef))
        → map (λ (x : Argument). x.1.1) (map (λ (x : List ℕ × CoreDef). (name, x)) xs ++ [])
        ≡ map (λ (x : List ℕ × CoreDef). x.1) xs
    last name [] = refl
    last name (x ∷ xs) = ap (λ ys. x.1 ∷ ys) (last name xs)
