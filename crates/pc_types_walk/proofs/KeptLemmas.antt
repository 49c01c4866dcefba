-- The exports that are kept lead to the same resources first as all do.
use Rattle.std.proofs.Common.{◌≡◌, ◌<◌, ◌+◌, ℕ, suc, Bool, true, false, List, [], ◌∷◌, ◌++◌, length, map, drop}
use Rattle.std.proofs.Common.{Option, Some, None, refl, sym, ap, ◌∙◌, subst, arith, true≢false, if◌then◌else◌, ◌==◌}
use Rattle.std.proofs.Common.{◌||◌}
use Rattle.std.proofs.Common.{inl, inr}
use Rattle.std.specs.Prelude.{option_and_then, slice_get}
use Rattle.std.specs.BTreeSet.{BTreeSet}
use Rattle.std.specs.List.{AllZip, flat_map}
use Rattle.std.specs.Option.{option_map}
use Rattle.std.proofs.lemmas.Bool.{eqb-true}
use Rattle.std.proofs.lemmas.List.{append_assoc}
use Rattle.std.proofs.lemmas.Option.{none-some, same_Some}
use Rattle.pc_entity.proofs.LookupLemmas.{found_at}
use Rattle.pc_types.specs.declared.parsed.DeclType.{DeclType}
use Rattle.pc_types.specs.declared.parsed.DeclType.TheVariants as entry
use Rattle.pc_types.specs.declared.parsed.Entity.{Entity}
use Rattle.pc_types.specs.declared.parsed.Entity.TheVariants as entity
use Rattle.pc_types.specs.declared.parsed.TypeTable.{TypeTable}
use Rattle.pc_types.specs.Table.{is_resource, is_some_and, table_fault}
use Rattle.pc_spec_reading.specs.Once.{each_once}
use Rattle.pc_spec_reading.specs.Resource.{ResourcePath, paths_from, same_number, under}
use Rattle.pc_spec_reading.specs.Resource.{export_paths as declared_paths}
use Rattle.pc_types_walk.specs.Kept.{Keeps, export_of, has, has_items, kept_from, kept_if, part_of}
use Rattle.pc_types_walk.specs.Kept.{place_of, with_number}
use Rattle.pc_types_walk.specs.Leads.{IsBefore, IsPart, IsThrough, Part, a_resource, an_instance, entity_of}
use Rattle.pc_types_walk.specs.Leads.{export_paths}
use Rattle.pc_types_walk.specs.Leads.{number_of, part_paths, paths_of}
use Rattle.pc_types_walk.specs.Steps.{Ends, fresh}
use Rattle.pc_types_walk.specs.Walks.{exports_of}
use Rattle.pc_types_walk.proofs.FreshLemmas.{AllMet, ends_under, fresh_after, none, once_empty, once_fresh, or_either}
use Rattle.pc_types_walk.proofs.FreshLemmas.{pass_over, under_ends}
use Rattle.pc_types_walk.proofs.ListLemmas.{zip_cons, zip_more, zip_nil}
use Rattle.pc_types_walk.proofs.PathLemmas.{Each, IsEarlier, each_at, each_more, exports_earlier, paths_are}

-- an end of the paths through a part stands under any name
ends_named : (paths : ℕ → List ResourcePath) (a b : List ℕ) (p : Part) (n : ℕ) → Ends n (part_paths paths a p)
    → Ends n (part_paths paths b p)
ends_named paths a b (a_resource m) n h = h
ends_named paths a b (an_instance m) n h = under_ends n b (paths m) (ends_under n a (paths m) h)

module _ (part : Entity → Option Part) where
  -- numbers that are seen alike
  kept_same : (s s' : ℕ → Bool) → ((n : ℕ) → s' n ≡ s n) → (i : ℕ) (xs : List (List ℕ × Entity))
      → kept_from part s' i xs ≡ kept_from part s i xs
  kept_same s s' same i [] = refl
  kept_same s s' same i (x ∷ xs) = by (λ r r' alike. kept_same r r' alike (i + 1) xs) (part x.1)
    where
      by : ((r r' : ℕ → Bool) → ((n : ℕ) → r' n ≡ r n)
          → kept_from part r' (i + 1) xs ≡ kept_from part r (i + 1) xs)
          → (o : Option Part)
          → kept_if s' i x.0 o (λ r. kept_from part r (i + 1) xs) ≡ kept_if s i x.0 o (λ r. kept_from part r (i + 1) xs)
      by more None = more s s' same
      by more (Some p) =
          let here = same (number_of p) in
          let over = more s s' same in
          let rest = more (with_number (number_of p) s) (with_number (number_of p) s')
          (λ n. ap (λ b. (number_of p == n) || b) (same n)) in
          λ k. if here k then over k else (i, x.0, p) ∷ rest k

  -- each export that is kept stands at its place
  kept_there : (whole : List (List ℕ × Entity)) (s : ℕ → Bool) (i : ℕ) (xs : List (List ℕ × Entity))
      → ((k : ℕ) → slice_get xs k ≡ slice_get whole (i + k))
      → AllZip (λ (j : ℕ) (y : List ℕ × Part).
      (e : Entity) × (slice_get whole j ≡ Some (y.0, e)) × (part e ≡ Some y.1))
      (map place_of (kept_from part s i xs)) (map export_of (kept_from part s i xs))
  kept_there whole s i [] look = tt
  kept_there whole s i (x ∷ xs) look =
      by (λ r. kept_there whole r (i + 1) xs
      (λ k. look (suc k) ∙ ap (slice_get whole) (omega arith))) (part x.1) refl
    where
      by : ((r : ℕ → Bool) → AllZip (λ (j : ℕ) (y : List ℕ × Part).
          (e : Entity) × (slice_get whole j ≡ Some (y.0, e)) × (part e ≡ Some y.1))
          (map place_of (kept_from part r (i + 1) xs)) (map export_of (kept_from part r (i + 1) xs)))
          → (o : Option Part) → part x.1 ≡ o → AllZip (λ (j : ℕ) (y : List ℕ × Part).
          (e : Entity) × (slice_get whole j ≡ Some (y.0, e)) × (part e ≡ Some y.1))
          (map place_of (kept_if s i x.0 o (λ r. kept_from part r (i + 1) xs)))
          (map export_of (kept_if s i x.0 o (λ r. kept_from part r (i + 1) xs)))
      by more None is = more s
      by more (Some p) is = seen (s (number_of p))
        where
          seen : (b : Bool) → AllZip (λ (j : ℕ) (y : List ℕ × Part).
              (e : Entity) × (slice_get whole j ≡ Some (y.0, e)) × (part e ≡ Some y.1))
              (map place_of (if b then kept_from part s (i + 1) xs
              else (i, x.0, p) ∷ kept_from part (with_number (number_of p) s) (i + 1) xs))
              (map export_of (if b then kept_from part s (i + 1) xs
              else (i, x.0, p) ∷ kept_from part (with_number (number_of p) s) (i + 1) xs))
          seen true = more s
          seen false =
              ((x.1, ap (slice_get whole) (omega arith) ∙ sym (look 0), is), more (with_number (number_of p) s))

  module _ (paths : ℕ → List ResourcePath) (declared : List ℕ × Entity → List ResourcePath)
      (apart : (e f : Entity) (p q : Part) → part e ≡ Some p → part f ≡ Some q → number_of p ≡ number_of q → p ≡ q)
    where
      -- an export leads where its part does, or nowhere
      abbrev pub LeadsBy : List ℕ × Entity → Type 0
      LeadsBy x =
          (part x.1 ≡ None → declared x ≡ [])
          × ((p : Part) → part x.1 ≡ Some p → declared x ≡ part_paths paths x.0 p)

      -- what was seen was met
      abbrev SeenMet : (seen met : ℕ → Bool) → Type 0
      SeenMet seen met =
          (e : Entity) (p : Part) → part e ≡ Some p → seen (number_of p) ≡ true → AllMet met (part_paths paths [] p)

      -- through the exports that are kept the same is fresh
      kept_fresh : (seen met : ℕ → Bool) (i : ℕ) (xs : List (List ℕ × Entity)) → Each LeadsBy xs → SeenMet seen met
          → fresh met (flat_map declared xs)
          ≡ fresh met (flat_map (export_paths paths) (map export_of (kept_from part seen i xs)))
      kept_fresh seen met i [] lead before = refl
      kept_fresh seen met i (x ∷ xs) lead before =
          by (λ s m b. kept_fresh s m (i + 1) xs lead.1 b) (part x.1) refl
        where
          by : ((s m : ℕ → Bool) → SeenMet s m → fresh m (flat_map declared xs)
              ≡ fresh m (flat_map (export_paths paths) (map export_of (kept_from part s (i + 1) xs))))
              → (o : Option Part) → part x.1 ≡ o
              → fresh met (declared x ++ flat_map declared xs)
              ≡ fresh met (flat_map (export_paths paths)
              (map export_of (kept_if seen i x.0 o (λ s. kept_from part s (i + 1) xs))))
          by more None is =
              ap (λ l. fresh met (l ++ flat_map declared xs)) (lead.0.0 is) ∙ more seen met before
          by more (Some p) is =
              ap (λ l. fresh met (l ++ flat_map declared xs)) (lead.0.1 p is) ∙ was (seen (number_of p)) refl
            where
              was : (b : Bool) → seen (number_of p) ≡ b
                  → fresh met (part_paths paths x.0 p ++ flat_map declared xs)
                  ≡ fresh met (flat_map (export_paths paths) (map export_of (if b then kept_from part seen (i + 1) xs
                  else (i, x.0, p) ∷ kept_from part (with_number (number_of p) seen) (i + 1) xs)))
              was true old =
                  pass_over met (part_paths paths x.0 p) (flat_map declared xs)
                  (λ n ends. before x.1 p is old n (ends_named paths x.0 [] p n ends))
                  ∙ more seen met before
              was false new =
                  fresh_after met (part_paths paths x.0 p) (flat_map declared xs)
                  (flat_map (export_paths paths)
                  (map export_of (kept_from part (with_number (number_of p) seen) (i + 1) xs)))
                  (λ met' wider all. more (with_number (number_of p) seen) met'
                  (λ f q is' old n ends.
                  elim (or_either (number_of p == number_of q) (seen (number_of q)) old) as (λ _. met' n ≡ true) [
                    | inl same ↦ all n (ends_named paths [] x.0 p n
                        (subst (λ r. Ends n (part_paths paths [] r))
                        (sym (apart x.1 f p q is is' (eqb-true (number_of p) (number_of q) same))) ends))
                    | inr earlier ↦ wider n (before f q is' earlier n ends)
                  ]))

-- what leads to resources is of its entity
part_entity : (t : TypeTable) (through : List (List ℕ)) (e : Entity) (p : Part) → part_of t through e ≡ Some p
    → e ≡ entity_of p
part_entity t through (entity.Func n) p h = absurd (none-some p h)
part_entity t through (entity.Instance n) p h = by (is_some_and has_items (slice_get through n)) h
  where
    by : (b : Bool) → (if b then Some (an_instance n) else None) ≡ Some p → entity.Instance n ≡ entity_of p
    by true k = ap entity_of (same_Some (an_instance n) p k)
    by false k = absurd (none-some p k)
part_entity t through (entity.Component n) p h = absurd (none-some p h)
part_entity t through (entity.Module n) p h = absurd (none-some p h)
part_entity t through (entity.Type_ n) p h = by (is_some_and is_resource (slice_get t.types n)) h
  where
    by : (b : Bool) → (if b then Some (a_resource n) else None) ≡ Some p → entity.Type_ n ≡ entity_of p
    by true k = ap entity_of (same_Some (a_resource n) p k)
    by false k = absurd (none-some p k)
part_entity t through entity.Value p h = absurd (none-some p h)

-- a resource type has no exports
resource_exports : (e : DeclType) → is_resource e ≡ true → exports_of e ≡ []
resource_exports entry.Resource h = refl
resource_exports (entry.Func params result is_async) h = refl
resource_exports (entry.Val v) h = refl
resource_exports (entry.Record fields) h = refl
resource_exports (entry.Variant cases) h = refl
resource_exports (entry.List v) h = refl
resource_exports (entry.Tuple vs) h = refl
resource_exports (entry.Flags names) h = refl
resource_exports (entry.Enum names) h = refl
resource_exports (entry.Option v) h = refl
resource_exports (entry.Result ok err) h = refl
resource_exports (entry.Own n) h = refl
resource_exports (entry.Borrow n) h = refl
resource_exports (entry.Stream v) h = refl
resource_exports (entry.Future v) h = refl
resource_exports (entry.Instance exports) h = absurd (true≢false (sym h))
resource_exports (entry.Component imports exports) h = refl
resource_exports (entry.Module imports exports) h = refl

-- a part is before an entry where its entity is
before_of : (k : ℕ) (p : Part) → IsEarlier k (entity_of p) → IsBefore k p
before_of k (a_resource n) h = tt
before_of k (an_instance n) h = h

module _ (t : TypeTable) (through : List (List ℕ))
    (ready : (n : ℕ) (places : List ℕ) → slice_get through n ≡ Some places → IsThrough t n places) where
  -- what makes a part lead to resources
  abbrev IsLeading : Part → Type 0
  IsLeading (a_resource n) = is_some_and is_resource (slice_get t.types n) ≡ true
  IsLeading (an_instance n) = is_some_and has_items (slice_get through n) ≡ true

  -- it does
  part_leading : (e : Entity) (p : Part) → part_of t through e ≡ Some p → IsLeading p
  part_leading (entity.Func n) p h = absurd (none-some p h)
  part_leading (entity.Instance n) p h = by (is_some_and has_items (slice_get through n)) refl h
    where
      by : (b : Bool) → is_some_and has_items (slice_get through n) ≡ b
          → (if b then Some (an_instance n) else None) ≡ Some p → IsLeading p
      by true is k = subst IsLeading (same_Some (an_instance n) p k) is
      by false is k = absurd (none-some p k)
  part_leading (entity.Component n) p h = absurd (none-some p h)
  part_leading (entity.Module n) p h = absurd (none-some p h)
  part_leading (entity.Type_ n) p h = by (is_some_and is_resource (slice_get t.types n)) refl h
    where
      by : (b : Bool) → is_some_and is_resource (slice_get t.types n) ≡ b
          → (if b then Some (a_resource n) else None) ≡ Some p → IsLeading p
      by true is k = subst IsLeading (same_Some (a_resource n) p k) is
      by false is k = absurd (none-some p k)
  part_leading entity.Value p h = absurd (none-some p h)

  -- an entry with exports that are kept is no resource
  no_resource : (n : ℕ) → IsLeading (an_instance n) → IsLeading (a_resource n) → ⊥
  no_resource n leads is = by (slice_get through n) refl leads
    where
      exported : (o : Option DeclType) (i : ℕ) (x : List ℕ × Entity)
          → option_and_then (λ e. slice_get (exports_of e) i) o ≡ Some x → is_some_and is_resource o ≡ true → ⊥
      exported None i x found h = none-some x found
      exported (Some e) i x found h =
          none-some x (sym (ap (λ l. slice_get l i) (resource_exports e h)) ∙ found)

      by : (o : Option (List ℕ)) → slice_get through n ≡ o → is_some_and has_items o ≡ true → ⊥
      by None at h = true≢false (sym h)
      by (Some []) at h = true≢false (sym h)
      by (Some (i ∷ is')) at h =
          let inside = ready n (i ∷ is') at in
          let z = zip_cons (IsPart t n) i is' inside.exports inside.there in
          exported (slice_get t.types n) i (z.0.0, entity_of z.0.1) z.3.0 is

  -- two parts with one number are one
  parts_apart : (p q : Part) → IsLeading p → IsLeading q → number_of p ≡ number_of q → p ≡ q
  parts_apart (a_resource m) (a_resource n) h k same = ap a_resource same
  parts_apart (an_instance m) (an_instance n) h k same = ap an_instance same
  parts_apart (a_resource m) (an_instance n) h k same =
      absurd (no_resource n k (subst (λ i. IsLeading (a_resource i)) same h))
  parts_apart (an_instance m) (a_resource n) h k same =
      absurd (no_resource m h (subst (λ i. IsLeading (a_resource i)) (sym same) k))

  -- the same of what entities name
  apart_of : (e f : Entity) (p q : Part) → part_of t through e ≡ Some p → part_of t through f ≡ Some q
      → number_of p ≡ number_of q → p ≡ q
  apart_of e f p q h k = parts_apart p q (part_leading e p h) (part_leading f q k)

  -- an instance type of which nothing is kept leads to no resource
  nothing_kept : (n : ℕ) → n < length through → is_some_and has_items (slice_get through n) ≡ false
      → paths_of t n ≡ []
  nothing_kept n within h =
      let f = found_at through n within in
      let none_kept = empty_of f.0 (sym (ap (is_some_and has_items) f.1) ∙ h) in
      let inside = ready n f.0 f.1 in
      let exports = zip_nil (IsPart t n) inside.exports
      (subst (λ l. AllZip (IsPart t n) l inside.exports) none_kept inside.there) in
      once_empty (paths_of t n)
      (inside.firsts ∙ ap (λ l. each_once same_number (flat_map (export_paths (paths_of t)) l)) exports)
    where
      empty_of : (ns : List ℕ) → has_items ns ≡ false → ns ≡ []
      empty_of [] k = refl
      empty_of (m ∷ ns) k = absurd (true≢false k)

  -- an export leads where its part does, or nowhere
  leads_by : (k : ℕ) → length through ≡ k → (x : List ℕ × Entity) → IsEarlier k x.1
      → LeadsBy (part_of t through) (paths_of t) (declared_paths t (paths_from t [] t.types)) apart_of x
  leads_by k count (name, entity.Func n) h = (λ is. refl, λ p is. absurd (none-some p is))
  leads_by k count (name, entity.Instance n) h =
      by (is_some_and has_items (slice_get through n)) refl
    where
      by : (b : Bool) → is_some_and has_items (slice_get through n) ≡ b
          →
          ((if b then Some (an_instance n) else None) ≡ None → map (under name) (paths_of t n) ≡ [])
          × ((p : Part) → (if b then Some (an_instance n) else None) ≡ Some p
          → map (under name) (paths_of t n) ≡ part_paths (paths_of t) name p)
      by true is = (
        λ no. absurd (none-some (an_instance n) (sym no)),
        λ p same. ap (part_paths (paths_of t) name) (same_Some (an_instance n) p same),
      )
      by false is = (
        λ no. ap (map (under name)) (nothing_kept n (omega (arith, h, count)) is),
        λ p same. absurd (none-some p same),
      )
  leads_by k count (name, entity.Component n) h = (λ is. refl, λ p is. absurd (none-some p is))
  leads_by k count (name, entity.Module n) h = (λ is. refl, λ p is. absurd (none-some p is))
  leads_by k count (name, entity.Type_ n) h = by (is_some_and is_resource (slice_get t.types n))
    where
      by : (b : Bool)
          →
          ((if b then Some (a_resource n) else None) ≡ None
          → map (under name) (if b then record { names = []; number = n } ∷ [] else []) ≡ [])
          × ((p : Part) → (if b then Some (a_resource n) else None) ≡ Some p
          → map (under name) (if b then record { names = []; number = n } ∷ [] else [])
          ≡ part_paths (paths_of t) name p)
      by true = (
        λ no. absurd (none-some (a_resource n) (sym no)),
        λ p same. ap (part_paths (paths_of t) name) (same_Some (a_resource n) p same),
      )
      by false = (λ no. refl, λ p same. absurd (none-some p same))
  leads_by k count (name, entity.Value) h = (λ is. refl, λ p is. absurd (none-some p is))

  -- what is kept of an entry serves
  pub through_entry : table_fault t ≡ None → (k : ℕ) → length through ≡ k → (e : DeclType)
      → slice_get t.types k ≡ Some e → (kept : List ℕ)
      → kept ≡ map place_of (kept_from (part_of t through) none 0 (exports_of e)) → IsThrough t k kept
  through_entry sound k count e at kept is =
      let part = part_of t through in
      let items = exports_of e in
      let declared = declared_paths t (paths_from t [] t.types) in
      let early = exports_earlier t sound k e at in
      let exports = map export_of (kept_from part none 0 items) in
      subst (IsThrough t k) (sym is) (record {
        exports = exports;
        there =
            zip_more
            (λ (j : ℕ) (y : List ℕ × Part). (f : Entity) × (slice_get items j ≡ Some (y.0, f)) × (part f ≡ Some y.1))
            (IsPart t k)
            (λ j y h.
            let same = part_entity t through h.0 y.1 h.2 in (
              ap (option_and_then (λ d. slice_get (exports_of d) j)) at ∙ h.1 ∙ ap (λ f. Some (y.0, f)) same,
              before_of k y.1 (subst (IsEarlier k) same
                  (each_at (λ (x : List ℕ × Entity). IsEarlier k x.1) items early j (y.0, h.0) h.1)),
            ))
            (map place_of (kept_from part none 0 items)) exports
            (kept_there part items none 0 items (λ i. ap (slice_get items) (omega arith)));
        firsts =
            ap (each_once same_number) (paths_are t sound k e at) ∙ once_fresh (flat_map declared items)
            ∙ kept_fresh part (paths_of t) declared apart_of none none 0 items
            (each_more (λ (x : List ℕ × Entity). IsEarlier k x.1) (LeadsBy part (paths_of t) declared apart_of)
            (leads_by k count) items early)
            (λ f p known old. absurd (true≢false (sym old)))
            ∙ sym (once_fresh (flat_map (export_paths (paths_of t)) exports));
      })

-- with one export more, those behind it are what is left of all
pub kept_next : (part : Entity → Option Part) (exports : List (List ℕ × Entity)) (i : ℕ) (x : List ℕ × Entity)
    → drop i exports ≡ x ∷ drop (i + 1) exports → (seen seen' : BTreeSet ℕ) (kept kept' : List ℕ)
    → Keeps i (option_map number_of (part x.1)) seen seen' kept kept'
    → kept' ++ map place_of (kept_from part (has seen') (i + 1) (drop (i + 1) exports))
    ≡ kept ++ map place_of (kept_from part (has seen) i (drop i exports))
kept_next part exports i x here seen seen' kept kept' keeps =
    by (part x.1) keeps ∙ ap (λ l. kept ++ map place_of (kept_from part (has seen) i l)) (sym here)
  where
    rest : List (List ℕ × Entity)
    rest = drop (i + 1) exports

    by : (o : Option Part) → Keeps i (option_map number_of o) seen seen' kept kept'
        → kept' ++ map place_of (kept_from part (has seen') (i + 1) rest)
        ≡ kept ++ map place_of (kept_if (has seen) i x.0 o (λ s. kept_from part s (i + 1) rest))
    by None h =
        let more = kept_same part (has seen) (has seen') h.1 (i + 1) rest in
        λ k. h.0 k ++ map place_of (more k)
    by (Some p) h = elim h as (λ _. kept' ++ map place_of (kept_from part (has seen') (i + 1) rest)
        ≡ kept ++ map place_of (kept_if (has seen) i x.0 (Some p) (λ s. kept_from part s (i + 1) rest))) [
          | inl old ↦ (
              let more = kept_same part (has seen) (has seen') old.2 (i + 1) rest in
              (λ k. old.1 k ++ map place_of (more k))
              ∙ ap (λ b. kept ++ map place_of (if b then kept_from part (has seen) (i + 1) rest
              else (i, x.0, p) ∷ kept_from part (with_number (number_of p) (has seen)) (i + 1) rest)) (sym old.0))
          | inr new ↦ (
              let more = kept_same part (with_number (number_of p) (has seen)) (has seen') new.2 (i + 1) rest in
              (λ k. new.1 k ++ map place_of (more k))
              ∙ append_assoc kept (i ∷ [])
              (map place_of (kept_from part (with_number (number_of p) (has seen)) (i + 1) rest))
              ∙ ap (λ b. kept ++ map place_of (if b then kept_from part (has seen) (i + 1) rest
              else (i, x.0, p) ∷ kept_from part (with_number (number_of p) (has seen)) (i + 1) rest)) (sym new.0))
        ]
