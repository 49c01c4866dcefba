-- What definitions name, put together from what parts of them name.
use Rattle.std.proofs.Common.{◌≡◌, ◌<◌, ℕ, ◌+◌, List, [], ◌∷◌, ◌++◌, length, take, get_or, refl, sym, ap}
use Rattle.std.proofs.Common.{subst, ◌∙◌, arith}
use Rattle.std.specs.Prelude.{Option, None, Some, slice_get, All, map, option_map}
use Rattle.std.proofs.lemmas.List.{take_more, append-nil, map-append}
use Rattle.std.proofs.lemmas.List.Concat.{flat_map-append}
use Rattle.std.proofs.lemmas.List.Elements.{All-cons, All-head, All-tail}
use Rattle.std.proofs.lemmas.Option.{slice_get-get_or, slice_get_within, slice_get-map, get_or_from_slice_get}
use Rattle.pc_numbers.specs.declared.entity_index.EntityIndex.{EntityIndex}
use Rattle.pc_numbers.specs.declared.module_entity.MemoryIndex.{MemoryIndex}
use Rattle.pc_numbers.specs.declared.module_entity.ModuleInternedTypeIndex.{ModuleInternedTypeIndex}
use Rattle.pc_numbers.specs.declared.module_entity.TableIndex.{TableIndex}
use Rattle.pc_numbers.specs.declared.runtime.RuntimeComponentInstanceIndex.{RuntimeComponentInstanceIndex}
use Rattle.pc_numbers.specs.declared.runtime.TrampolineIndex.{TrampolineIndex}
use Rattle.pc_types.specs.declared.intrinsic.UnsafeIntrinsic.{UnsafeIntrinsic}
use Rattle.pc_dfg.specs.declared.core_def.CoreDef.{CoreDef}
use Rattle.pc_dfg.specs.declared.core_def.CoreDef.TheVariants as def
use Rattle.pc_dfg.specs.declared.core_def.CoreExport.{CoreExport}
use Rattle.pc_dfg.specs.declared.ids.AdapterId.{AdapterId}
use Rattle.pc_dfg.specs.Effects.{Argument, host_arguments}
use Rattle.pc_dfg.specs.Names.{if_any}
use Rattle.pc_dfg.specs.Numbers.{memory_def, table_def}
use Rattle.pc_dfg.specs.Ordered.{IsBelow}
use Rattle.pc_adapt_groups.specs.declared.reach.Reach.{Reach}
use Rattle.pc_adapt_groups.specs.Reaches.{Gives, joined_reach, nothing, one_adapter, one_instance}
use Rattle.pc_adapt_groups.proofs.TopLemmas.{reach_none, reach_append, reach_export, reach_adapter, reach_flags}
use Rattle.pc_adapt_groups.proofs.TopLemmas.{reach_intrinsic}

module _ (rs : List Reach) where
  -- nothing names nothing
  pub gives_none : Gives rs [] nothing
  unfolding Gives
  gives_none g known below = reach_none g

  -- what the definitions of two lists name
  pub gives_append : (ds es : List CoreDef) (r s : Reach) → Gives rs ds r → Gives rs es s
      → Gives rs (ds ++ es) (joined_reach r s)
  unfolding Gives
  gives_append ds es r s of_ds of_es g known below =
      reach_append g ds es r s (of_ds g known (all_left ds es below)) (of_es g known (all_right ds es below))
    where
      P : CoreDef → Type 0
      P = IsBelow (length rs)

      all_left : (xs ys : List CoreDef) → All P (xs ++ ys) → All P xs
      all_left [] ys all k d few = absurd (omega (arith, few))
      all_left (x ∷ xs) ys all k d few =
          All-cons P x xs (All-head P x (xs ++ ys) all) (all_left xs ys (All-tail P x (xs ++ ys) all)) k d few

      all_right : (xs ys : List CoreDef) → All P (xs ++ ys) → All P ys
      all_right [] ys all = all
      all_right (x ∷ xs) ys all = all_right xs ys (All-tail P x (xs ++ ys) all)

  -- nothing more
  pub gives_alone : (ds : List CoreDef) (r : Reach) → Gives rs ds r → Gives rs (ds ++ []) r
  gives_alone ds r gives = subst (λ xs. Gives rs xs r) (sym (append-nil ds)) gives

  -- no definitions name nothing
  pub gives_nothing : (ds : List CoreDef) → ds ≡ [] → Gives rs ds nothing
  gives_nothing ds none = subst (λ xs. Gives rs xs nothing) (sym none) gives_none

  -- what the definitions of two lists name, joined
  pub joined : (ds es : List CoreDef) (r s t : Reach) → Gives rs ds r → Gives rs es s → t ≡ joined_reach r s
      → Gives rs (ds ++ es) t
  joined ds es r s t of_ds of_es is =
      subst (Gives rs (ds ++ es)) (sym is) (gives_append ds es r s of_ds of_es)

  -- one more of a list
  pub gives_more : (ds : List CoreDef) (i : ℕ) (d : CoreDef) (r s t : Reach) → slice_get ds i ≡ Some d
      → Gives rs (take i ds) r → Gives rs (d ∷ []) s → t ≡ joined_reach r s → Gives rs (take (i + 1) ds) t
  gives_more ds i d r s t at so_far here is =
      let more : take (i + 1) ds ≡ take i ds ++ d ∷ [] =
      take_more ds i d (slice_get_within ds i d at)
      ∙ ap (λ y. take i ds ++ y ∷ []) (get_or_from_slice_get ds i d d at) in
      subst (λ xs. Gives rs xs t) (sym more) (joined (take i ds) (d ∷ []) r s t so_far here is)

  -- an item of a core instance names that instance
  pub gives_export : (x : CoreExport EntityIndex) → Gives rs (def.Export x ∷ []) (one_instance x.instance.0)
  unfolding Gives
  gives_export x g known below = reach_export g x

  -- an adapter names itself
  pub gives_adapter : (a : AdapterId) → Gives rs (def.Adapter a ∷ []) (one_adapter a.0)
  unfolding Gives
  gives_adapter a g known below = reach_adapter g a

  -- flags and intrinsics name nothing
  pub gives_flags : (c : RuntimeComponentInstanceIndex) → Gives rs (def.InstanceFlags c ∷ []) nothing
  unfolding Gives
  gives_flags c g known below = reach_flags g c

  pub gives_intrinsic : (s : ModuleInternedTypeIndex) (i : UnsafeIntrinsic)
      → Gives rs (def.UnsafeIntrinsic s i ∷ []) nothing
  unfolding Gives
  gives_intrinsic s i g known below = reach_intrinsic g s i

  -- a trampoline names what is known of it
  pub gives_trampoline : (t : TrampolineIndex) (r : Reach) → slice_get rs t.0 ≡ Some r
      → Gives rs (def.Trampoline t ∷ []) r
  unfolding Gives
  gives_trampoline t r at g known below = known t.0 r at

  -- of a trampoline of which nothing is known nothing is said
  pub gives_unknown : (t : TrampolineIndex) (r : Reach) → slice_get rs t.0 ≡ None → Gives rs (def.Trampoline t ∷ []) r
  unfolding Gives IsBelow
  gives_unknown t r none g known below =
      let few : t.0 < length rs = below 0 (def.Trampoline t) (omega arith) in
      absurd (never (get_or rs t.0 nothing) (sym none ∙ slice_get-get_or rs t.0 nothing few))
    where
      never : (x : Reach) → None ≡ Some x → ⊥
      never x e = grind (arith, e)

  -- a definition by its kind
  pub by_export : (d : CoreDef) (x : CoreExport EntityIndex) (r : Reach) → d ≡ def.Export x
      → r ≡ one_instance x.instance.0 → Gives rs (d ∷ []) r
  by_export d x r is same =
      subst (λ e. Gives rs (e ∷ []) r) (sym is) (subst (Gives rs (def.Export x ∷ [])) (sym same) (gives_export x))

  pub by_adapter : (d : CoreDef) (a : AdapterId) (r : Reach) → d ≡ def.Adapter a → r ≡ one_adapter a.0
      → Gives rs (d ∷ []) r
  by_adapter d a r is same =
      subst (λ e. Gives rs (e ∷ []) r) (sym is) (subst (Gives rs (def.Adapter a ∷ [])) (sym same) (gives_adapter a))

  pub by_flags : (d : CoreDef) (c : RuntimeComponentInstanceIndex) → d ≡ def.InstanceFlags c → Gives rs (d ∷ []) nothing
  by_flags d c is = subst (λ e. Gives rs (e ∷ []) nothing) (sym is) (gives_flags c)

  pub by_intrinsic : (d : CoreDef) (s : ModuleInternedTypeIndex) (i : UnsafeIntrinsic) → d ≡ def.UnsafeIntrinsic s i
      → Gives rs (d ∷ []) nothing
  by_intrinsic d s i is = subst (λ e. Gives rs (e ∷ []) nothing) (sym is) (gives_intrinsic s i)

  pub by_trampoline : (d : CoreDef) (t : TrampolineIndex) (r : Reach) → d ≡ def.Trampoline t
      → slice_get rs t.0 ≡ Some r → Gives rs (d ∷ []) r
  by_trampoline d t r is at = subst (λ e. Gives rs (e ∷ []) r) (sym is) (gives_trampoline t r at)

  pub by_unknown : (d : CoreDef) (t : TrampolineIndex) (r : Reach) → d ≡ def.Trampoline t
      → slice_get rs t.0 ≡ None → Gives rs (d ∷ []) r
  by_unknown d t r is none = subst (λ e. Gives rs (e ∷ []) r) (sym is) (gives_unknown t r none)

  -- the memory in a slot
  pub gives_memory : (ms : List (CoreExport MemoryIndex)) (n : ℕ) (m : CoreExport MemoryIndex) (r : Reach)
      → slice_get ms n ≡ Some m → r ≡ one_instance m.instance.0 → Gives rs (if_any (slice_get (map memory_def ms) n)) r
  gives_memory ms n m r at is =
      subst (λ o. Gives rs (if_any o) r) (sym (slice_get-map memory_def ms n ∙ ap (option_map memory_def) at))
      (subst (Gives rs (memory_def m ∷ [])) (sym is) (gives_export _))

  -- the table in a slot
  pub gives_table : (ts : List (CoreExport TableIndex)) (n : ℕ) (t : CoreExport TableIndex) (r : Reach)
      → slice_get ts n ≡ Some t → r ≡ one_instance t.instance.0 → Gives rs (if_any (slice_get (map table_def ts) n)) r
  gives_table ts n t r at is =
      subst (λ o. Gives rs (if_any o) r) (sym (slice_get-map table_def ts n ∙ ap (option_map table_def) at))
      (subst (Gives rs (table_def t ∷ [])) (sym is) (gives_export _))

  -- nothing in a slot
  pub gives_no_slot : {A : Type 0} (f : A → CoreDef) (xs : List A) (n : ℕ) → slice_get xs n ≡ None
      → Gives rs (if_any (slice_get (map f xs) n)) nothing
  gives_no_slot f xs n none =
      subst (λ o. Gives rs (if_any o) nothing) (sym (slice_get-map f xs n ∙ ap (option_map f) none)) gives_none

  -- what is made of what is there
  pub gives_if : (o p : Option CoreDef) (r : Reach) → o ≡ p → Gives rs (if_any o) r → Gives rs (if_any p) r
  gives_if o p r same gives = subst (λ x. Gives rs (if_any x) r) same gives

  -- one more of a list of things that definitions stand in
  pub gives_map_more : {A : Type 0} (f : A → CoreDef) (xs : List A) (i : ℕ) (x : A) (r s t : Reach)
      → slice_get xs i ≡ Some x → Gives rs (map f (take i xs)) r → Gives rs (f x ∷ []) s → t ≡ joined_reach r s
      → Gives rs (map f (take (i + 1) xs)) t
  gives_map_more f xs i x r s t at so_far here is =
      let more : take (i + 1) xs ≡ take i xs ++ x ∷ [] =
      take_more xs i x (slice_get_within xs i x at)
      ∙ ap (λ y. take i xs ++ y ∷ []) (get_or_from_slice_get xs i x x at) in
      subst (λ ys. Gives rs ys t) (sym (ap (map f) more ∙ map-append f (take i xs) (x ∷ [])))
      (subst (Gives rs (map f (take i xs) ++ f x ∷ [])) (sym is)
      (gives_append (map f (take i xs)) (f x ∷ []) r s so_far here))

  -- one module name more, with its arguments
  pub gives_host_more : (args : List (List ℕ × List (List ℕ × CoreDef))) (i : ℕ)
      (m : List ℕ × List (List ℕ × CoreDef)) (r s t : Reach) → slice_get args i ≡ Some m
      → Gives rs (map (λ (a : Argument). a.1.1) (host_arguments (take i args))) r
      → Gives rs (map (λ (a : List ℕ × CoreDef). a.1) m.1) s → t ≡ joined_reach r s
      → Gives rs (map (λ (a : Argument). a.1.1) (host_arguments (take (i + 1) args))) t
  gives_host_more args i m r s t at so_far here is =
      let defs : List Argument → List CoreDef = map (λ (a : Argument). a.1.1) in
      let before = host_arguments (take i args) in
      let more : take (i + 1) args ≡ take i args ++ m ∷ [] =
      take_more args i m (slice_get_within args i m at)
      ∙ ap (λ y. take i args ++ y ∷ []) (get_or_from_slice_get args i m m at) in
      let same : defs (host_arguments (take (i + 1) args)) ≡ defs before ++ map (λ (a : List ℕ × CoreDef). a.1) m.1 =
      ap (λ xs. defs (host_arguments xs)) more
      ∙ ap defs (flat_map-append named_of (take i args) (m ∷ []))
      ∙ map-append (λ (a : Argument). a.1.1) before (host_arguments (m ∷ []))
      ∙ ap (λ ys. defs before ++ ys) (last m.0 m.1) in
      subst (λ ys. Gives rs ys t) (sym same)
      (subst (Gives rs (defs before ++ map (λ (a : List ℕ × CoreDef). a.1) m.1)) (sym is)
      (gives_append (defs before) (map (λ (a : List ℕ × CoreDef). a.1) m.1) r s so_far here))
    where
      named_of : List ℕ × List (List ℕ × CoreDef) → List Argument
      named_of n = map (λ a. (n.0, a)) n.1

      last : (name : List ℕ) (xs : List (List ℕ × CoreDef))
          → map (λ (a : Argument). a.1.1) (map (λ (a : List ℕ × CoreDef). (name, a)) xs ++ [])
          ≡ map (λ (a : List ℕ × CoreDef). a.1) xs
      last name [] = refl
      last name (x ∷ xs) = ap (λ ys. x.1 ∷ ys) (last name xs)
