-- Definitions whose ids get their numbers, one after another.
use Rattle.std.proofs.Common.{Contains, inl, ◌≡◌, ℕ, ◌+◌, ◌<◌, List, [], ◌∷◌, ◌++◌, All, Option, None, Some, length}
use Rattle.std.proofs.Common.{map, take, get_or, refl, sym, subst, ap, ◌∙◌}
use Rattle.std.specs.Prelude.{option_map, slice_get}
use Rattle.std.specs.List.{flat_map}
use Rattle.std.proofs.lemmas.Grind.{flat_map-append}
use Rattle.std.proofs.lemmas.List.{append-nil, map-append}
use Rattle.std.proofs.lemmas.List.Concat.{flat_map-cons}
use Rattle.std.proofs.lemmas.Simd.{map-map}
use Rattle.std.proofs.lemmas.List.Elements.{All-append, All-nil, Contains-push}
use Rattle.std.proofs.lemmas.Option.{slice_get-get_or, slice_get-map}
use Rattle.pc_entity.proofs.Growing.{take-next}
use Rattle.pc_dfg.specs.declared.ids.AdapterModuleId.{AdapterModuleId}
use Rattle.pc_numbers.specs.declared.entity_index.EntityIndex.{EntityIndex}
use Rattle.pc_dfg.specs.declared.core_def.CoreDef.{CoreDef}
use Rattle.pc_dfg.specs.declared.core_def.CoreDef.TheVariants as def
use Rattle.pc_dfg.specs.declared.dfg.ComponentDfg.{ComponentDfg}
use Rattle.pc_dfg.specs.Effects.{Argument, host_arguments}
use Rattle.pc_dfg.specs.Names.{each_of}
use Rattle.pc_dfg_linearize.specs.declared.id.Id.{Id}
use Rattle.pc_dfg_linearize.specs.declared.id.Id.TheVariants as id
use Rattle.pc_dfg_linearize.specs.declared.state.Finish.{Finish}
use Rattle.pc_dfg_linearize.specs.Arguments.{CanNumber, HasMeaning, IsNumbered, NumbersAll, OnlyFromThese, named_defs}
use Rattle.pc_dfg_linearize.specs.Arguments.{host_defs}
use Rattle.pc_dfg_linearize.specs.Closed.{Closed, Continues, Fits, Valued}
use Rattle.pc_dfg_linearize.specs.Parts.{HasNumber, in_def}
use Rattle.pc_dfg_linearize.specs.Ready.{IsReadyDef}
use Rattle.pc_dfg_linearize.proofs.AllLemmas.{all_at, all_first, all_front, all_back, all_in, all_one}
use Rattle.pc_dfg_finish.proofs.OnlyLemmas.{only_more, only_one}
use Rattle.pc_dfg_linearize.proofs.ContinueLemmas.{continues_refl, continues_then, goes_refl, goes_then}

module _ (g : ComponentDfg) where
  -- what a definition with a value depends on has a value
  valued : (d : CoreDef) → HasMeaning g d → All (Valued g) (in_def g d)
  unfolding Valued
  valued (def.Export e) m = All-nil (Valued g)
  valued (def.InstanceFlags c) m = All-nil (Valued g)
  valued (def.Trampoline t) m = all_one (Valued g) (id.Trampoline t) m
  valued (def.UnsafeIntrinsic s i) m = all_one (Valued g) (id.Intrinsic s i) tt
  valued (def.Adapter a) m = by (slice_get g.adapter_partitionings a.0)
    where
      by : (o : Option (AdapterModuleId × EntityIndex))
          → All (Valued g) (each_of (λ (p : AdapterModuleId × EntityIndex). id.AdapterModule p.0 ∷ []) o)
      by None = All-nil (Valued g)
      by (Some p) = all_one (Valued g) (id.AdapterModule p.0) tt

  -- no definitions
  pub numbers_none : (f : Finish) → Fits g f → NumbersAll g f f []
  numbers_none f fits = record {
    continues = continues_refl g f fits;
    here = All-nil (IsNumbered g f);
    only = λ y has. inl has;
    goes = λ ms wired means. goes_refl g ms f;
  }

  -- a definition that depends on nothing
  pub numbers_nothing : (f : Finish) (d : CoreDef) → [] ≡ in_def g d → Fits g f → NumbersAll g f f (d ∷ [])
  numbers_nothing f d none fits = record {
    continues = continues_refl g f fits;
    here = all_one (IsNumbered g f) d (subst (All (HasNumber f)) none (All-nil (HasNumber f)));
    only = λ y has. inl has;
    goes = λ ms wired means. goes_refl g ms f;
  }

  contains_one : (x : Id) (d : CoreDef) → x ∷ [] ≡ in_def g d → Contains (flat_map (in_def g) (d ∷ [])) x
  contains_one x d one =
      let all : flat_map (in_def g) (d ∷ []) ≡ in_def g d =
      flat_map-cons (in_def g) d [] ∙ append-nil (in_def g d) in
      subst (λ xs. Contains xs x) (one ∙ sym all) (Contains-push [] x)

  -- a definition that depends on an id
  pub numbers_id : (old new : Finish) (d : CoreDef) (x : Id) → x ∷ [] ≡ in_def g d → Closed g old new x
      → NumbersAll g old new (d ∷ [])
  numbers_id old new d x one closed = record {
    continues = closed.continues;
    here = all_one (IsNumbered g new) d
        (subst (All (HasNumber new)) one (all_one (HasNumber new) x closed.here));
    only = only_one g old new (flat_map (in_def g) (d ∷ [])) x (contains_one x d one) closed.only;
    goes = λ ms wired means.
        let values = valued d (all_first (HasMeaning g) d [] means) in
        closed.goes ms wired (all_first (Valued g) x [] (subst (All (Valued g)) (sym one) values));
  }

  -- numbers stay
  pub numbered_more : (old new : Finish) → ((y : Id) → HasNumber old y → HasNumber new y) → (ds : List CoreDef)
      → All (IsNumbered g old) ds → All (IsNumbered g new) ds
  numbered_more old new keeps ds all k d below j x within = keeps _ (all k d below j x within)

  -- more definitions
  pub numbers_more : (a b c : Finish) (ds es : List CoreDef) → NumbersAll g a b ds → NumbersAll g b c es
      → NumbersAll g a c (ds ++ es)
  numbers_more a b c ds es first second = record {
    continues = continues_then g a b c first.continues second.continues;
    here = All-append (IsNumbered g c) ds es
        (numbered_more b c second.continues.numbered ds first.here) second.here;
    only = subst (OnlyFromThese g a c) (sym (flat_map-append (in_def g) ds es))
        (only_more g a b c (flat_map (in_def g) ds) (flat_map (in_def g) es) first.only second.only);
    goes = λ ms wired means.
        goes_then g ms a b c (first.goes ms wired (all_front (HasMeaning g) ds es means))
        (second.goes ms wired (all_back (HasMeaning g) ds es means));
  }

-- the definitions of the arguments up to the next place
pub named_next : (args : List (List ℕ × CoreDef)) (i : ℕ) (a : List ℕ × CoreDef) → slice_get args i ≡ Some a
    → named_defs (take i args) ++ a.1 ∷ [] ≡ named_defs (take (i + 1) args)
named_next args i a at =
    sym (ap named_defs (take-next args i a at) ∙ map-append (λ (x : List ℕ × CoreDef). x.1) (take i args) (a ∷ []))

-- the definitions of the arguments of a host module, by module name
pub host_flat : (args : List (List ℕ × List (List ℕ × CoreDef)))
    → flat_map (λ (m : List ℕ × List (List ℕ × CoreDef)). named_defs m.1) args ≡ host_defs args
host_flat [] = refl
host_flat (m ∷ ms) =
    flat_map-cons (λ (x : List ℕ × List (List ℕ × CoreDef)). named_defs x.1) m ms
    ∙ ap (λ ds. named_defs m.1 ++ ds) (host_flat ms)
    ∙ sym (ap (map (λ (a : Argument). a.1.1))
    (flat_map-cons (λ (x : List ℕ × List (List ℕ × CoreDef)). map (λ a. (x.0, a)) x.1) m ms)
    ∙ map-append (λ (a : Argument). a.1.1) (map (λ a. (m.0, a)) m.1) (host_arguments ms)
    ∙ ap (λ ds. ds ++ host_defs ms) (map-map (λ (a : Argument). a.1.1) (λ (a : List ℕ × CoreDef). (m.0, a)) m.1))

pub host_next : (args : List (List ℕ × List (List ℕ × CoreDef))) (i : ℕ) (m : List ℕ × List (List ℕ × CoreDef))
    → slice_get args i ≡ Some m → host_defs (take i args) ++ named_defs m.1 ≡ host_defs (take (i + 1) args)
host_next args i m at =
    let of = λ (x : List ℕ × List (List ℕ × CoreDef)). named_defs x.1 in
    sym (ap host_defs (take-next args i m at) ∙ sym (host_flat (take i args ++ m ∷ []))
    ∙ flat_map-append of (take i args) (m ∷ [])
    ∙ (λ j. host_flat (take i args) j ++ (flat_map-cons of m [] ∙ append-nil (named_defs m.1)) j))

-- the item that a loop reads
pub item_at : {A : Type 0} (xs : List A) (i : ℕ) (x : A) → i < length xs → x ≡ get_or xs i x
    → slice_get xs i ≡ Some x
item_at xs i x within is = slice_get-get_or xs i x within ∙ ap Some (sym is)

module _ (g : ComponentDfg) (old new : Finish) (continues : Continues g old new) where
  -- what could get its numbers still can
  pub can_still : (d : CoreDef) → CanNumber g (length old.instances) d → CanNumber g (length new.instances) d
  can_still d can = subst (λ is. CanNumber g (length is) d) (sym continues.instances) can

  -- so can the one at a place, where all could
  pub can_still_at : (ds : List CoreDef) (i : ℕ) (d : CoreDef) → All (CanNumber g (length old.instances)) ds
      → slice_get ds i ≡ Some d → CanNumber g (length new.instances) d
  can_still_at ds i d can at = can_still d (all_at (CanNumber g (length old.instances)) ds i d can at)

  pub all_can_still : (ds : List CoreDef) → All (CanNumber g (length old.instances)) ds
      → All (CanNumber g (length new.instances)) ds
  all_can_still ds can =
      subst (λ is. All (CanNumber g (length is)) ds) (sym continues.instances) can

-- the definition of the argument at a place
pub named_item : (args : List (List ℕ × CoreDef)) (i : ℕ) (a : List ℕ × CoreDef) → slice_get args i ≡ Some a
    → slice_get (named_defs args) i ≡ Some a.1
named_item args i a at =
    slice_get-map (λ (x : List ℕ × CoreDef). x.1) args i ∙ ap (option_map (λ (x : List ℕ × CoreDef). x.1)) at

-- a fact of all arguments of a host module is one of those under a module name
pub host_all : (P : CoreDef → Type 0) (args : List (List ℕ × List (List ℕ × CoreDef))) (i : ℕ)
    (m : List ℕ × List (List ℕ × CoreDef)) → All P (host_defs args) → slice_get args i ≡ Some m
    → All P (named_defs m.1)
host_all P args i m all at =
    all_in P (λ (x : List ℕ × List (List ℕ × CoreDef)). named_defs x.1) args i m
    (subst (All P) (sym (host_flat args)) all) at

-- definitions whose ids have their numbers are ready where they were
pub all_ready : (g : ComponentDfg) (old new : Finish) (ds : List CoreDef) → NumbersAll g old new ds
    → All (CanNumber g (length old.instances)) ds → All (IsReadyDef g (length new.instances)) ds
all_ready g old new ds numbers can k d below = (all_can_still g old new numbers.continues ds can k d below).itself

-- the item that a loop over the same list reads
pub item_read : {A : Type 0} (xs ys : List A) (i : ℕ) (d : A) → ys ≡ xs → i < length ys
    → slice_get xs i ≡ Some (get_or ys i d)
item_read xs ys i d same within = subst (λ l. slice_get l i ≡ Some (get_or ys i d)) same
    (slice_get-get_or ys i d within)
