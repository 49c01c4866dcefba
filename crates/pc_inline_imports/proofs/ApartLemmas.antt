-- The resources that come with imports stand at different paths.
use Rattle.std.proofs.Common.{◌≡◌, ◌⊎◌, inl, inr, ◌<◌, ◌+◌, ◌==◌, ℕ, zero, suc, Bool, true, false, List, [], ◌∷◌, ◌++◌}
use Rattle.std.proofs.Common.{length, map, filter, take, Option, Some, None, refl, sym, ap, subst, ◌∙◌, arith, true≢false}
use Rattle.std.proofs.Common.{if◌then◌else◌, ◌||◌}
use Rattle.std.specs.Prelude.{not, option_and_then, slice_get, unwrap_or}
use Rattle.std.specs.Cmp.{nat_eq_equiv}
use Rattle.std.specs.List.{AllByRecursion, AllZip, IsDistinct, flat_map, fold, list_all, list_any}
use Rattle.std.specs.Str.{bytes_eq}
use Rattle.std.proofs.lemmas.List.{length_push}
use Rattle.std.proofs.lemmas.Option.{none-some, same_Some, slice_get-get_or}
use Rattle.std.proofs.lemmas.Slice.Eq.{bytes_eq-Decides}
use Rattle.pc_entity.proofs.Elements.{and_true}
use Rattle.pc_entity.specs.Lists.{AreDistinct, names_of, value_of}
use Rattle.pc_numbers.specs.declared.runtime.RuntimeImportIndex.{RuntimeImportIndex}
use Rattle.pc_types.specs.declared.parsed.DeclType.{DeclType}
use Rattle.pc_types.specs.declared.parsed.DeclType.TheVariants as entry
use Rattle.pc_types.specs.declared.parsed.Entity.{Entity}
use Rattle.pc_types.specs.declared.parsed.Entity.TheVariants as entity
use Rattle.pc_types.specs.declared.parsed.TypeTable.{TypeTable}
use Rattle.pc_types.specs.Names.{are_distinct, distinct_names}
use Rattle.pc_types.specs.Table.{is_resource, is_some_and, is_sound_entity, table_fault}
use Rattle.pc_types.specs.TypeTree.{Identity, Path}
use Rattle.pc_types_convert.proofs.SoundLemmas.{sound_at}
use Rattle.pc_types_walk.specs.Walks.{exports_of}
use Rattle.pc_spec_reading.specs.Imports.{resource_path}
use Rattle.pc_spec_reading.specs.Once.{each_once, with_once}
use Rattle.pc_spec_reading.specs.Resource.{ResourcePath, entity_paths, entry_paths, export_paths, here, is_new, newly}
use Rattle.pc_spec_reading.specs.Resource.{paths_from, resource_paths, same_number, under}
use Rattle.pc_dfg.specs.declared.dfg.ComponentDfg.{ComponentDfg}
use Rattle.pc_dfg.specs.Means.{HasPath}
use Rattle.pc_inline_state.specs.Worlds.{AreUsed}
use Rattle.pc_inline_imports.proofs.FewLemmas.{number_at, numbers_once}
use Rattle.pc_inline_imports.proofs.GiveLemmas.{push_cases}

-- a name that stands among others is met there
name_met : {V : Type 0} (name : List ℕ) (xs : List (List ℕ × V)) (i : ℕ) (x : List ℕ × V) → slice_get xs i ≡ Some x
    → bytes_eq name x.0 ≡ true → list_any (bytes_eq name) (names_of xs) ≡ true
name_met name [] i x at same = absurd (none-some x at)
name_met {V = V} name (y ∷ ys) zero x at same = rw (sub) refl
  where
    sub : bytes_eq name y.0 ≡ true
    sub = subst (λ (z : List ℕ × V). bytes_eq name z.0 ≡ true) (sym (same_Some y x at)) same
name_met name (y ∷ ys) (suc i) x at same = by (bytes_eq name y.0) (name_met name ys i x at same)
  where
    by : (b : Bool) → list_any (bytes_eq name) (names_of ys) ≡ true → (b || list_any (bytes_eq name) (names_of ys)) ≡ true
    by true later = refl
    by false later = later

-- where no name stands twice, each has its value
value_there : {V : Type 0} (xs : List (List ℕ × V)) → distinct_names (names_of xs) ≡ true → (i : ℕ) (x : List ℕ × V)
    → slice_get xs i ≡ Some x → value_of x.0 xs ≡ Some x.1
value_there [] apart i x at = absurd (none-some x at)
value_there {V = V} (y ∷ ys) apart zero x at =
    subst (λ (z : List ℕ × V). value_of z.0 (y ∷ ys) ≡ Some z.1) (same_Some y x at)
    (rw ((bytes_eq-Decides y.0 y.0).1 refl) refl)
value_there {V = V} (y ∷ ys) apart (suc i) x at = by (bytes_eq x.0 y.0) refl (value_there ys both.1 i x at)
  where
    both : (not (list_any (bytes_eq y.0) (names_of ys)) ≡ true) × (are_distinct bytes_eq (names_of ys) ≡ true)
    both = and_true (not (list_any (bytes_eq y.0) (names_of ys))) (are_distinct bytes_eq (names_of ys)) apart

    by : (b : Bool) → bytes_eq x.0 y.0 ≡ b → value_of x.0 ys ≡ Some x.1
        → (if b then Some y.1 else value_of x.0 ys) ≡ Some x.1
    by true same later =
        let met = name_met y.0 ys i x at ((bytes_eq-Decides y.0 x.0).1 (sym ((bytes_eq-Decides x.0 y.0).0 same))) in
        absurd (true≢false (sym both.0 ∙ ap not met))
    by false other later = later

-- the number of the type that names lead to from an entity on, through exports of instances
abbrev ends_at : TypeTable → List (List ℕ) → Entity → Option ℕ
ends_at t [] (entity.Type_ n) = Some n
ends_at t (x ∷ xs) (entity.Instance n) =
    option_and_then (λ e. ends_at t xs e)
    (option_and_then (λ (d : DeclType). value_of x (exports_of d)) (slice_get t.types n))
ends_at t names e = None

module _ (t : TypeTable) where
  -- a path leads to its number
  abbrev Leads : Entity → ResourcePath → Type 0
  Leads e p = ends_at t p.names e ≡ Some p.number

  -- each of these does
  abbrev AllLead : Entity → List ResourcePath → Type 0
  AllLead e [] = Unit {0}
  AllLead e (p ∷ ps) = Leads e p × AllLead e ps

  lead_at : (e : Entity) (ps : List ResourcePath) → AllLead e ps → (k : ℕ) (p : ResourcePath)
      → slice_get ps k ≡ Some p → Leads e p
  lead_at e [] h k p at = absurd (none-some p at)
  lead_at e (q ∷ ps) h zero p at = subst (Leads e) (same_Some q p at) h.0
  lead_at e (q ∷ ps) h (suc k) p at = lead_at e ps h.1 k p at

  lead_append : (e : Entity) (xs ys : List ResourcePath) → AllLead e xs → AllLead e ys → AllLead e (xs ++ ys)
  lead_append e [] ys h k = k
  lead_append e (x ∷ xs) ys h k = (h.0, lead_append e xs ys h.1 k)

  lead_once : (e : Entity) (xs ps : List ResourcePath) → AllLead e xs → AllLead e ps
      → AllLead e (fold (with_once same_number) xs ps)
  lead_once e xs [] h k = h
  lead_once e xs (p ∷ ps) h k = by (list_any (same_number p) xs) (λ ys m. lead_once e ys ps m k.1)
    where
      by : (b : Bool)
          → ((ys : List ResourcePath) → AllLead e ys → AllLead e (fold (with_once same_number) ys ps))
          → AllLead e (fold (with_once same_number) (if b then xs else xs ++ p ∷ []) ps)
      by true go = go xs h
      by false go = go (xs ++ p ∷ []) (lead_append e xs (p ∷ []) h (k.0, tt))

  lead_filter : (e : Entity) (test : ResourcePath → Bool) (ps : List ResourcePath) → AllLead e ps
      → AllLead e (filter test ps)
  lead_filter e test [] h = tt
  lead_filter e test (p ∷ ps) h = by (test p) (lead_filter e test ps h.1)
    where
      by : (b : Bool) → AllLead e (filter test ps) → AllLead e (if b then p ∷ filter test ps else filter test ps)
      by true later = (h.0, later)
      by false later = later

  -- so they do from an instance on, behind the name of an export
  lead_under : (n : ℕ) (exports : List (List ℕ × Entity)) → slice_get t.types n ≡ Some (entry.Instance exports)
      → (x : List ℕ × Entity) → value_of x.0 exports ≡ Some x.1 → (ps : List ResourcePath) → AllLead x.1 ps
      → AllLead (entity.Instance n) (map (under x.0) ps)
  lead_under n exports there x is [] h = tt
  lead_under n exports there x is (p ∷ ps) h = (step, lead_under n exports there x is ps h.1)
    where
      step : ends_at t (x.0 ∷ p.names) (entity.Instance n) ≡ Some p.number
      step = rw (there, is) h.0

  -- the paths of each entry so far do
  abbrev EachLeads : List (List ResourcePath) → Type 0
  EachLeads pss = (k : ℕ) (ps : List ResourcePath) → slice_get pss k ≡ Some ps → AllLead (entity.Instance k) ps

  module _ (earlier : List (List ResourcePath)) (each : EachLeads earlier) where
    entity_leads : (e : Entity) → AllLead e (entity_paths t earlier e)
    entity_leads (entity.Instance n) = by (slice_get earlier n) refl
      where
        by : (o : Option (List ResourcePath)) → slice_get earlier n ≡ o → AllLead (entity.Instance n) (unwrap_or o [])
        by None at = tt
        by (Some ps) at = each n ps at
    entity_leads (entity.Type_ n) = by (is_some_and is_resource (slice_get t.types n))
      where
        by : (b : Bool) → AllLead (entity.Type_ n) (if b then here n ∷ [] else [])
        by true = (refl, tt)
        by false = tt
    entity_leads (entity.Func n) = tt
    entity_leads (entity.Component n) = tt
    entity_leads (entity.Module n) = tt
    entity_leads entity.Value = tt

    module _ (n : ℕ) (exports : List (List ℕ × Entity))
        (there : slice_get t.types n ≡ Some (entry.Instance exports)) where
      exports_lead : (xs : List (List ℕ × Entity))
          → ((i : ℕ) (x : List ℕ × Entity) → slice_get xs i ≡ Some x → value_of x.0 exports ≡ Some x.1)
          → AllLead (entity.Instance n) (flat_map (export_paths t earlier) xs)
      exports_lead [] once = tt
      exports_lead (x ∷ xs) once =
          lead_append (entity.Instance n) (export_paths t earlier x) (flat_map (export_paths t earlier) xs)
          (lead_under n exports there x (once zero x refl) (entity_paths t earlier x.1) (entity_leads x.1))
          (exports_lead xs (λ i y at. once (suc i) y at))

    entry_leads : table_fault t ≡ None → (n : ℕ) (e : DeclType) → slice_get t.types n ≡ Some e
        → AllLead (entity.Instance n) (entry_paths t earlier e)
    entry_leads sound n (entry.Instance exports) at =
        exports_lead n exports at exports
        (value_there exports
        (and_true (list_all (λ (x : List ℕ × Entity). is_sound_entity (take n t.types) x.1) exports)
        (distinct_names (names_of exports)) (sound_at t n (entry.Instance exports) sound at).0).1)
    entry_leads sound n _ at = tt

  module _ (sound : table_fault t ≡ None) where
    paths_lead : (earlier : List (List ResourcePath)) (es : List DeclType)
        → ((i : ℕ) (e : DeclType) → slice_get es i ≡ Some e → (n : ℕ) → n ≡ length earlier + i
        → slice_get t.types n ≡ Some e)
        → EachLeads earlier → EachLeads (paths_from t earlier es)
    paths_lead earlier [] there each = each
    paths_lead earlier (e ∷ es) there each =
        let ps = entry_paths t earlier e in
        let long = length_push earlier ps in
        paths_lead (earlier ++ ps ∷ []) es (λ i x at n is. there (suc i) x at n (omega (arith, is, long)))
        (λ k qs at. elim (push_cases earlier ps k qs at) as (λ _. AllLead (entity.Instance k) qs) [
          | inl before ↦ each k qs before
          | inr last ↦
              subst (λ m. AllLead (entity.Instance m) qs) (sym last.0)
              (subst (AllLead (entity.Instance (length earlier))) last.1
              (entry_leads earlier each sound (length earlier) e
              (there zero e refl (length earlier) (omega arith))))
        ])

    resources_lead : (e : Entity) → AllLead e (resource_paths t e)
    unfolding resource_paths
    resources_lead =
        entity_leads (paths_from t [] t.types)
        (paths_lead [] t.types
        (λ i x at n is.
        let same : i ≡ n = omega (arith, is) in
        subst (λ m. slice_get t.types m ≡ Some x) same at)
        (λ k ps at. absurd (none-some ps at)))

-- a number that stands at no path is that of none
other_at : (n : ℕ) (ps : List ResourcePath) → AllByRecursion (λ m. (n == m) ≡ false) (map number_at ps) → (j : ℕ)
    (p : ResourcePath) → slice_get ps j ≡ Some p → (n == p.number) ≡ false
other_at n [] h j p at = absurd (none-some p at)
other_at n (q ∷ ps) h zero p at = subst (λ (x : ResourcePath). (n == x.number) ≡ false) (same_Some q p at) h.0
other_at n (q ∷ ps) h (suc j) p at = other_at n ps h.1 j p at

-- paths to different numbers are different
numbers_apart : (ps : List ResourcePath) → IsDistinct ◌==◌ (map number_at ps) → AreDistinct ps
unfolding IsDistinct
numbers_apart [] h i j x at_i at_j = absurd (none-some x at_i)
numbers_apart (p ∷ ps) h zero zero x at_i at_j = refl
numbers_apart (p ∷ ps) h zero (suc j) x at_i at_j =
    let other = subst (λ (y : ResourcePath). (y.number == x.number) ≡ false) (same_Some p x at_i)
    (other_at p.number ps h.0 j x at_j) in
    absurd (true≢false (sym (nat_eq_equiv.refl x.number) ∙ other))
numbers_apart (p ∷ ps) h (suc i) zero x at_i at_j =
    let other = subst (λ (y : ResourcePath). (y.number == x.number) ≡ false) (same_Some p x at_j)
    (other_at p.number ps h.0 i x at_i) in
    absurd (true≢false (sym (nat_eq_equiv.refl x.number) ∙ other))
numbers_apart (p ∷ ps) h (suc i) (suc j) x at_i at_j = ap suc (numbers_apart ps h.1 i j x at_i at_j)

-- what passes a test was there
filter_there : {A : Type 0} (test : A → Bool) (xs : List A) (j : ℕ) (x : A) → slice_get (filter test xs) j ≡ Some x
    → (k : ℕ) × (slice_get xs k ≡ Some x)
filter_there test [] j x at = absurd (none-some x at)
filter_there test (y ∷ ys) j x at = by (test y) j at (λ i at_i. filter_there test ys i x at_i)
  where
    by : (b : Bool) (j : ℕ) → slice_get (if b then y ∷ filter test ys else filter test ys) j ≡ Some x
        → ((i : ℕ) → slice_get (filter test ys) i ≡ Some x → (k : ℕ) × (slice_get ys k ≡ Some x))
        → (k : ℕ) × (slice_get (y ∷ ys) k ≡ Some x)
    by true zero at go = (zero, at)
    by true (suc j) at go = let later = go j at in (suc later.0, later.1)
    by false j at go = let later = go j at in (suc later.0, later.1)

-- what passes a test stands nowhere twice
filter_distinct : {A : Type 0} (test : A → Bool) (xs : List A) → AreDistinct xs → AreDistinct (filter test xs)
filter_distinct test [] apart = apart
filter_distinct {A} test (y ∷ ys) apart =
    by (test y)
    (filter_distinct test ys
    (λ i j x at_i at_j. let same = apart (suc i) (suc j) x at_i at_j in omega (arith, same)))
  where
    first : (j : ℕ) (x : A) → y ≡ x → slice_get (filter test ys) j ≡ Some x → ⊥
    first j x is at =
        let later = filter_there test ys j x at in
        let same = apart zero (suc later.0) x (ap Some is) later.1 in
        absurd (omega (arith, same))

    by : (b : Bool) → AreDistinct (filter test ys)
        → AreDistinct (if b then y ∷ filter test ys else filter test ys)
    by true later zero zero x at_i at_j = refl
    by true later zero (suc j) x at_i at_j = absurd (first j x (same_Some y x at_i) at_j)
    by true later (suc i) zero x at_i at_j = absurd (first i x (same_Some y x at_j) at_i)
    by true later (suc i) (suc j) x at_i at_j = ap suc (later i j x at_i at_j)
    by false later i j x at_i at_j = later i j x at_i at_j

-- what stands in a list that was made of another
map_there : {A B : Type 0} (f : A → B) (xs : List A) (k : ℕ) (y : B) → slice_get (map f xs) k ≡ Some y
    → (x : A) × (slice_get xs k ≡ Some x) × (f x ≡ y)
map_there f [] k y at = absurd (none-some y at)
map_there f (x ∷ xs) zero y at = (x, refl, same_Some (f x) y at)
map_there f (x ∷ xs) (suc k) y at = map_there f xs k y at

-- what stands in one of two lists
append_there : {A : Type 0} (xs ys : List A) (n : ℕ) (x : A) → slice_get (xs ++ ys) n ≡ Some x
    → (slice_get xs n ≡ Some x) ⊎ ((k : ℕ) × (slice_get ys k ≡ Some x))
append_there [] ys n x at = inr (n, at)
append_there (y ∷ xs) ys zero x at = inl at
append_there (y ∷ xs) ys (suc n) x at = append_there xs ys n x at

-- lists in which nothing stands twice, and nothing in both
append_distinct : {A : Type 0} (xs ys : List A) → AreDistinct xs → AreDistinct ys
    → ((i j : ℕ) (x : A) → slice_get xs i ≡ Some x → slice_get ys j ≡ Some x → ⊥) → AreDistinct (xs ++ ys)
append_distinct [] ys here later apart = later
append_distinct {A} (y ∷ xs) ys here later apart =
    by
    (append_distinct xs ys
    (λ i j x at_i at_j. let same = here (suc i) (suc j) x at_i at_j in omega (arith, same)) later
    (λ i j x at_i at_j. apart (suc i) j x at_i at_j))
  where
    first : (j : ℕ) (x : A) → y ≡ x → slice_get (xs ++ ys) j ≡ Some x → ⊥
    first j x is at = elim (append_there xs ys j x at) as (λ _. ⊥) [
      | inl before ↦ let same = here zero (suc j) x (ap Some is) before in absurd (omega (arith, same))
      | inr behind ↦ apart zero behind.0 x (ap Some is) behind.1
    ]

    by : AreDistinct (xs ++ ys) → AreDistinct (y ∷ xs ++ ys)
    by rest zero zero x at_i at_j = refl
    by rest zero (suc j) x at_i at_j = absurd (first j x (same_Some y x at_i) at_j)
    by rest (suc i) zero x at_i at_j = absurd (first i x (same_Some y x at_j) at_i)
    by rest (suc i) (suc j) x at_i at_j = ap suc (rest i j x at_i at_j)

-- paths from one entity on that lead to their numbers, each to its own, are different
paths_apart : (t : TypeTable) (e : Entity) (n : ℕ) (ps : List ResourcePath) → AllLead t e ps → AreDistinct ps
    → AreDistinct (map (resource_path n) ps)
paths_apart t e n ps lead apart i j x at_i at_j = apart i j p.0 p.1 (q.1 ∙ ap Some (sym same))
  where
    p : (p : ResourcePath) × (slice_get ps i ≡ Some p) × (resource_path n p ≡ x)
    p = map_there (resource_path n) ps i x at_i

    q : (q : ResourcePath) × (slice_get ps j ≡ Some q) × (resource_path n q ≡ x)
    q = map_there (resource_path n) ps j x at_j

    names : p.0.names ≡ q.0.names
    names = ap (λ (y : Path). y.names) (p.2 ∙ sym q.2)

    number : p.0.number ≡ q.0.number
    number =
        same_Some p.0.number q.0.number
        (sym (lead_at t e ps lead i p.0 p.1) ∙ ap (λ l. ends_at t l e) names ∙ lead_at t e ps lead j q.0 q.1)

    same : p.0 ≡ q.0
    same = λ k. record { names = names k; number = number k }

module _ (g : ComponentDfg) (paths : List Path) (used : List (Option RuntimeImportIndex))
    (are : AreUsed g paths used) where
  -- what is used begins at an import
  old_below : (rs : List RuntimeImportIndex) (qs : List Path)
      → AllZip (λ (r : RuntimeImportIndex). HasPath g r.0) rs qs → (k : ℕ) (q : Path) → slice_get qs k ≡ Some q
      → q.import < length g.import_types
  old_below [] [] h k q at = absurd (none-some q at)
  old_below [] (y ∷ qs) h k q at = absurd h
  old_below (r ∷ rs) [] h k q at = absurd h
  old_below (r ∷ rs) (y ∷ qs) h zero q at =
      let there = are.known r.0 (record { 0 = y.import }, y.names) h.0 in
      subst (λ (x : Path). x.import < length g.import_types) (same_Some y q at)
      (are.imports there.0 y (slice_get-get_or paths there.0 y there.1 ∙ ap Some there.2))
  old_below (r ∷ rs) (y ∷ qs) h (suc k) q at = old_below rs qs h.1 k q at

  -- the resources of one import more stand at paths that differ from each other and from those of the others
  pub resources_apart : (t : TypeTable) → table_fault t ≡ None → (e : Entity) (known : List (ℕ × Identity))
      (rs : List RuntimeImportIndex) (qs : List Path) → AllZip (λ (r : RuntimeImportIndex). HasPath g r.0) rs qs
      → AreDistinct qs
      → AreDistinct (qs ++ map (resource_path (length g.import_types)) (newly known (resource_paths t e)))
  unfolding newly
  resources_apart t sound e known rs qs beside apart =
      let once = each_once same_number (resource_paths t e) in
      let fresh = filter (is_new known) once in
      append_distinct qs (map (resource_path (length g.import_types)) fresh) apart
      (paths_apart t e (length g.import_types) fresh
      (lead_filter t e (is_new known) once (lead_once t e [] (resource_paths t e) tt (resources_lead t sound e)))
      (filter_distinct (is_new known) once (numbers_apart once (numbers_once t e))))
      (λ i j x at_i at_j.
      let new = map_there (resource_path (length g.import_types)) fresh j x at_j in
      let below = old_below rs qs beside i x at_i in
      let same : length g.import_types ≡ x.import = ap (λ (y : Path). y.import) new.2 in
      absurd (omega (arith, below, same)))
