-- The places of a walk, one after another, and the resources at them.
use Rattle.std.proofs.Common.{◌≡◌, ◌+◌, ◌≤◌, inl, inr, ℕ, zero, suc, Bool, true, false, List, [], ◌∷◌, ◌++◌}
use Rattle.std.proofs.Common.{◌==◌, ◌||◌, length, take, filter, Option, None, Some, refl, sym, ap, subst, ◌∙◌, arith}
use Rattle.std.proofs.Common.{if◌then◌else◌}
use Rattle.std.specs.Prelude.{not, slice_get, option_and_then}
use Rattle.std.specs.List.{AllZip, fold, list_any}
use Rattle.std.proofs.lemmas.List.{append-nil, append_assoc, length-append}
use Rattle.std.proofs.lemmas.List.Elements.{filter-append}
use Rattle.std.proofs.lemmas.List.Sums.{fold-append}
use Rattle.std.proofs.lemmas.Option.{none-some, same_Some, slice_get_within}
use Rattle.pc_entity.proofs.LookupLemmas.{found_at}
use Rattle.pc_numbers.specs.declared.runtime.ResourceIndex.{ResourceIndex}
use Rattle.pc_types.specs.declared.module_record.ModuleRecord.{ModuleRecord}
use Rattle.pc_types.specs.declared.parsed.Entity.{Entity}
use Rattle.pc_types.specs.declared.parsed.TypeTable.{TypeTable}
use Rattle.pc_types.specs.TypeTree.{Identity, identity_of}
use Rattle.pc_types_lists.specs.Known.{resource_of}
use Rattle.pc_types_lists.specs.Types.{Types}
use Rattle.pc_types_walk.specs.declared.walk.Found.{Found}
use Rattle.pc_types_walk.specs.declared.walk.Place.{Place}
use Rattle.pc_types_walk.specs.declared.walk.Walk.{Walk}
use Rattle.pc_types_walk.specs.Walks.{AreNamed, IsFound, IsWalk, export_at}
use Rattle.pc_spec_reading.specs.Member.{resource_at, value_in}
use Rattle.pc_spec_reading.specs.Once.{each_once}
use Rattle.pc_spec_reading.specs.Resource.{ResourcePath, is_new, newly, resource_paths, same_number}
use Rattle.pc_spec_reading.specs.Scope.{Scope}
use Rattle.pc_spec_reading.specs.Value.{Value}
use Rattle.pc_dfg.proofs.AddLemmas.{get_appended}
use Rattle.pc_inline_state.specs.declared.definition.Definition.{Definition}
use Rattle.pc_inline_state.specs.Frames.{Both}
use Rattle.pc_inline_state.specs.KnowsSame.{IsResource, KnowsSame}
use Rattle.pc_inline_state.specs.Tables.{Tables}
use Rattle.pc_inline_state.proofs.ZipLemmas.{zip_push}
use Rattle.pc_inline_resources.specs.declared.walked.Item.{Item}
use Rattle.pc_inline_resources.specs.declared.walked.Met.{Met}
use Rattle.pc_inline_resources.specs.declared.walked.Start.{Start}
use Rattle.pc_inline_resources.specs.Walked.{AreItems, IsMet, ItemIs, ParentIs, StartIs, met_all, met_with}
use Rattle.pc_inline_resources.specs.Walked.{place_resource}
use Rattle.pc_inline_resources.specs.Walked.{value_along}
use Rattle.pc_inline_resources.proofs.ValueLemmas.{along_more, resource_along}
use Rattle.pc_inline_resources.proofs.WalkedLemmas.{place_known}

module _ (ms : List ModuleRecord) (b : Tables) (x : Start) (v : Value) (is : StartIs ms b x v)
    (names : List (List (List ℕ))) (items : List Item) (are : AreItems ms b names items v) where
  -- what stands at a place, by the names that lead there
  pub parent_at : slice_get names 0 ≡ Some [] → (n : ℕ) → n ≤ length items → (prefix : List (List ℕ))
      → slice_get names n ≡ Some prefix → ParentIs ms b x items n (value_along prefix v)
  parent_at start zero below prefix at =
      (v, is, ap (λ p. value_along p v) (same_Some prefix [] (sym at ∙ start)))
  parent_at start (suc k) below prefix at =
      let i = found_at items k (omega (arith, below)) in
      let next : suc k ≡ k + 1 = omega arith in
      (i.0, i.1, are k i.0 prefix i.1 (subst (λ m. slice_get names m ≡ Some prefix) next at))

  -- one place more
  pub items_more : (i : Item) (prefix : List (List ℕ)) (name : List ℕ)
      → slice_get names (length items + 1) ≡ Some (prefix ++ name ∷ [])
      → ItemIs ms b i (option_and_then (value_in name) (value_along prefix v))
      → AreItems ms b names (items ++ i ∷ []) v
  items_more i prefix name next here k j other at named =
      elim (get_appended items i k j at) as (λ _. ItemIs ms b j (value_along other v)) [
        | inl before ↦ are k j other before named
        | inr last ↦
            let same : prefix ++ name ∷ [] ≡ other =
            same_Some (prefix ++ name ∷ []) other
            (sym next ∙ subst (λ m. slice_get names (m + 1) ≡ Some other) (sym last.0) named) in
            subst (λ p. ItemIs ms b j (value_along p v)) same
            (subst (ItemIs ms b j) (sym (along_more name prefix v))
            (subst (λ y. ItemIs ms b y (option_and_then (value_in name) (value_along prefix v))) last.1 here))
      ]

-- the places of a walk, as far as one
module _ (t : TypeTable) (ms : List ModuleRecord) (b : Tables) (x : Start) (places : List Place) where
  -- at each place before stands what is along the names that lead to it
  abbrev pub ItemsSoFar : List Item → ℕ → Type 0
  ItemsSoFar items n =
      ((v : Value) → StartIs ms b x v → (names : List (List (List ℕ))) → AreNamed t places names
      → AreItems ms b names items v)
      × (length items ≡ n)

  -- none stands before the first
  pub items_begin : (items : List Item) → items ≡ [] → ItemsSoFar items 0
  items_begin items none = (
    λ v is names named k i prefix at next. absurd (none-some i (subst (λ is. slice_get is k ≡ Some i) none at)),
    ap length none,
  )

  module _ (items : List Item) (n : ℕ) (so_far : ItemsSoFar items n) (p : Place)
      (at : slice_get places n ≡ Some p) where
    -- what stands at the parent of the next
    parent_of : (v : Value) → StartIs ms b x v → (names : List (List (List ℕ))) → (named : AreNamed t places names)
        → ParentIs ms b x items p.parent (value_along (named.further n p at).0 v)
    parent_of v is names named =
        let y = named.further n p at in
        let below = y.2 in
        let many = so_far.1 in
        parent_at ms b x v is names items (so_far.0 v is names named) named.start p.parent (omega (arith, below, many))
        y.0 y.3

    pub parent_there : (others : List Item) → others ≡ items → (v : Value) × StartIs ms b x v
        → (names : List (List (List ℕ))) × AreNamed t places names
        → (w : Option Value) × ParentIs ms b x others p.parent w
    parent_there others same start named = (
      value_along (named.1.further n p at).0 start.0,
      subst (λ is. ParentIs ms b x is p.parent (value_along (named.1.further n p at).0 start.0)) (sym same)
          (parent_of start.0 start.1 named.0 named.1),
    )

    -- the next stands where its names lead
    pub items_go : (others : List Item) → others ≡ items → (i : Item)
        → ((w : Option Value) (e : List ℕ × Entity) → ParentIs ms b x others p.parent w
        → export_at t p.entry p.export ≡ Some e → ItemIs ms b i (option_and_then (value_in e.0) w))
        → (new : List Item) → new ≡ items ++ i ∷ [] → ItemsSoFar new (n + 1)
    items_go others same i here new made = (
      λ v is names named.
          let y = named.further n p at in
          subst (λ l. AreItems ms b names l v) (sym made)
          (items_more ms b x v is names items (so_far.0 v is names named) i y.0 y.1.0
          (subst (λ m. slice_get names (m + 1) ≡ Some (y.0 ++ y.1.0 ∷ [])) (sym so_far.1) y.5)
          (here (value_along y.0 v) y.1
          (subst (λ is. ParentIs ms b x is p.parent (value_along y.0 v)) (sym same) (parent_of v is names named)) y.4)),
      ap length made ∙ length-append items (i ∷ []) ∙ ap (λ m. m + 1) so_far.1,
    )

-- whether there is nothing
abbrev is_none : {A : Type 0} → Option A → Bool
is_none None = true
is_none (Some x) = false

-- a number without identity isn't known, and another is
new_is : (known : List (ℕ × Identity)) (p : ResourcePath) (o : Option Identity) → identity_of known p.number ≡ o
    → is_new known p ≡ is_none o
new_is [] p None at = refl
new_is [] p (Some i) at = absurd (none-some i at)
new_is (k ∷ ks) p o at = by (k.0 == p.number) at (new_is ks p o)
  where
    by : (c : Bool) → (if c then Some k.1 else identity_of ks p.number) ≡ o
        → (identity_of ks p.number ≡ o → is_new ks p ≡ is_none o)
        → not (c || list_any (λ (q : ℕ × Identity). q.0 == p.number) ks) ≡ is_none o
    by true here rest = ap is_none here
    by false here rest = rest here

-- a walk that met what isn't known of the first paths
module _ (ms : List ModuleRecord) (b : Tables) (x : Start) (items : List Item) (s : Scope)
    (knows : KnowsSame b.graph b.types.resources s) (v : Value) where
  -- how the resources are found
  abbrev find : List (List ℕ) → Option Identity
  find names = resource_at names v

  -- one path more
  met_one : (met : List Met) (ps : List ResourcePath) (p : ResourcePath) (n : ℕ) (r : Option ResourceIndex)
      → n ≡ p.number → Both (IsResource b.graph) r (find p.names)
      → AllZip (IsMet b.graph find) met (filter (is_new s.known) ps)
      → AllZip (IsMet b.graph find) (met_with (resource_of b.types.resources.known n) n r met)
      (filter (is_new s.known) (ps ++ p ∷ []))
  met_one met ps p n r same is zip =
      subst (AllZip (IsMet b.graph find) (met_with (resource_of b.types.resources.known n) n r met))
      (sym (filter-append (is_new s.known) ps (p ∷ [])))
      (by (resource_of b.types.resources.known n) (identity_of s.known p.number)
      (subst (λ m. Both (IsResource b.graph) (resource_of b.types.resources.known n) (identity_of s.known m)) same
      (knows.known n))
      (new_is s.known p (identity_of s.known p.number) refl))
    where
      by : (o : Option ResourceIndex) (w : Option Identity) → Both (IsResource b.graph) o w
          → is_new s.known p ≡ is_none w
          → AllZip (IsMet b.graph find) (met_with o n r met)
          (filter (is_new s.known) ps ++ filter (is_new s.known) (p ∷ []))
      by None None m is_it = rw is_it (zip_push (IsMet b.graph find) met (filter (is_new s.known) ps)
          (record { number = n; resource = r }) p zip (same, is))
      by None (Some i) m is_it = elim m [ ]
      by (Some o) None m is_it = elim m [ ]
      by (Some o) (Some i) m is_it = rw is_it (subst (AllZip (IsMet b.graph find) met)
          (sym (append-nil (filter (is_new s.known) ps))) zip)

  -- all that a walk found
  met_list : (names : List (List (List ℕ))) → slice_get names 0 ≡ Some [] → StartIs ms b x v
      → AreItems ms b names items v → length names ≡ length items + 1 → (found : List Found) (ps : List ResourcePath)
      → AllZip (IsFound names) found ps → (old : List Met) (before : List ResourcePath)
      → AllZip (IsMet b.graph find) old (filter (is_new s.known) before)
      → AllZip (IsMet b.graph find)
      (fold (λ (met : List Met) (f : Found). met_with (resource_of b.types.resources.known f.number) f.number
      (place_resource b.types b.definitions x items f.place) met) old found)
      (filter (is_new s.known) (before ++ ps))
  met_list names start is are count [] [] zip old before met =
      subst (λ qs. AllZip (IsMet b.graph find) old (filter (is_new s.known) qs)) (sym (append-nil before)) met
  met_list names start is are count [] (p ∷ ps) zip old before met = absurd zip
  met_list names start is are count (f ∷ fs) [] zip old before met = absurd zip
  met_list names start is are count (f ∷ fs) (p ∷ ps) zip old before met =
      let within = slice_get_within names f.place p.names zip.0.1 in
      let parent = parent_at ms b x v is names items are start f.place (omega (arith, within, count)) p.names zip.0.1 in
      let r = place_resource b.types b.definitions x items f.place in
      subst (λ qs. AllZip (IsMet b.graph find)
      (fold (λ (met : List Met) (f : Found). met_with (resource_of b.types.resources.known f.number) f.number
      (place_resource b.types b.definitions x items f.place) met)
      (met_with (resource_of b.types.resources.known f.number) f.number r old) fs)
      (filter (is_new s.known) qs)) (append_assoc before (p ∷ []) ps)
      (met_list names start is are count fs ps zip.1 (met_with (resource_of b.types.resources.known f.number) f.number
      r old) (before ++ p ∷ [])
      (met_one old before p f.number r zip.0.0
      (subst (Both (IsResource b.graph) r) (sym (resource_along p.names v))
      (place_known ms b x items (value_along p.names v) f.place parent)) met))

-- what a walk met are the numbers that aren't known, in order
pub walk_meets : (t : TypeTable) (ms : List ModuleRecord) (b : Tables) (x : Start) (e : Entity) (w : Walk)
    → IsWalk t w (each_once same_number (resource_paths t e)) → (places : List Place) → places ≡ w.places
    → (items others : List Item) → others ≡ items → (found : List Found) → found ≡ w.found
    → ((v : Value) → StartIs ms b x v → (names : List (List (List ℕ))) → AreNamed t places names
    → AreItems ms b names items v × (length items ≡ length places)) → (met : List Met)
    → met ≡ met_all b.types b.definitions x others found → (s : Scope)
    → KnowsSame b.graph b.types.resources s → (v : Value) → StartIs ms b x v
    → AllZip (IsMet b.graph (λ names. resource_at names v)) met (newly s.known (resource_paths t e))
unfolding newly
walk_meets t ms b x e w walk places placed items others same found all are met made s knows v is =
    let named = subst (λ ps. AreNamed t ps walk.names) (sym placed) walk.named in
    let here = are v is walk.names named in
    let count = named.count in
    let many = here.1 in
    subst (λ l. AllZip (IsMet b.graph (λ names. resource_at names v)) l
    (filter (is_new s.known) (each_once same_number (resource_paths t e)))) (sym made)
    (subst (λ is. AllZip (IsMet b.graph (λ names. resource_at names v)) (met_all b.types b.definitions x is found)
    (filter (is_new s.known) (each_once same_number (resource_paths t e)))) (sym same)
    (met_list ms b x items s knows v walk.names named.start is here.0 (omega (arith, count, many)) found
    (each_once same_number (resource_paths t e))
    (subst (λ fs. AllZip (IsFound walk.names) fs (each_once same_number (resource_paths t e))) (sym all) walk.found)
    [] [] tt))

-- the items before a place and the one there
take_there : {A : Type 0} (xs : List A) (i : ℕ) (x : A) → slice_get xs i ≡ Some x
    → take (suc i) xs ≡ take i xs ++ x ∷ []
take_there [] i x at = absurd (none-some x at)
take_there (y ∷ ys) zero x at = ap (λ z. z ∷ []) (same_Some y x at)
take_there (y ∷ ys) (suc i) x at = ap (λ zs. y ∷ zs) (take_there ys i x at)

take_at : {A : Type 0} (xs : List A) (i : ℕ) (x : A) → slice_get xs i ≡ Some x → take (i + 1) xs ≡ take i xs ++ x ∷ []
take_at xs i x at =
    let next : suc i ≡ i + 1 = omega arith in
    subst (λ n. take n xs ≡ take i xs ++ x ∷ []) next (take_there xs i x at)

-- one number more is met, unless it is known
pub met_more : (b : Types) (ds : List Definition) (x : Start) (items : List Item) (found : List Found) (i : ℕ)
    (f : Found) → slice_get found i ≡ Some f → (old new : List Met)
    → old ≡ met_all b ds x items (take i found)
    → new ≡ met_with (resource_of b.resources.known f.number) f.number (place_resource b ds x items f.place) old
    → new ≡ met_all b ds x items (take (i + 1) found)
met_more b ds x items found i f at old new so_far made =
    let step : List Met → Found → List Met =
    λ met g. met_with (resource_of b.resources.known g.number) g.number (place_resource b ds x items g.place) met in
    made ∙ ap (λ l. step l f) so_far ∙ sym (fold-append step [] (take i found) (f ∷ []))
    ∙ ap (fold step []) (sym (take_at found i f at))
