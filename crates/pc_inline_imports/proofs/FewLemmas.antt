-- An entity leads to no more resources than the table has entries.
use Rattle.std.proofs.Common.{◌≡◌, ◌<◌, ◌≤◌, ◌==◌, ℕ, zero, suc, Bool, true, false, List, [], ◌∷◌, ◌++◌, length, map, refl, sym}
use Rattle.std.proofs.Common.{ap, subst, ◌∙◌, ◌||◌, if◌then◌else◌, Option, Some, None, true≢false}
use Rattle.std.specs.Prelude.{slice_get, unwrap_or}
use Rattle.std.specs.Cmp.{nat_eq_equiv}
use Rattle.std.specs.List.{IsDistinct, flat_map, fold, list_any}
use Rattle.std.proofs.lemmas.Bool.{eqb-true}
use Rattle.std.proofs.lemmas.List.{length-map, map_push}
use Rattle.std.proofs.lemmas.Map.Keys.{IsDistinct-push}
use Rattle.std.proofs.lemmas.Map.Steps.{length-le_from_distinct_below}
use Rattle.std.proofs.lemmas.Option.{slice_get_within}
use Rattle.pc_types.specs.declared.parsed.DeclType.{DeclType}
use Rattle.pc_types.specs.declared.parsed.DeclType.TheVariants as entry
use Rattle.pc_types.specs.declared.parsed.Entity.{Entity}
use Rattle.pc_types.specs.declared.parsed.Entity.TheVariants as entity
use Rattle.pc_types.specs.declared.parsed.TypeTable.{TypeTable}
use Rattle.pc_types.specs.Table.{is_resource, is_some_and}
use Rattle.pc_spec_reading.specs.Once.{each_once, with_once}
use Rattle.pc_spec_reading.specs.Resource.{ResourcePath, entity_paths, entry_paths, export_paths, here, paths_from}
use Rattle.pc_spec_reading.specs.Resource.{resource_paths, same_number, type_paths, under}

-- the numbers at the ends of these are below one
abbrev Below : ℕ → List ResourcePath → Type 0
Below m [] = Unit {0}
Below m (p ∷ ps) = (p.number < m) × Below m ps

-- so it is in each of these
abbrev EachBelow : ℕ → List (List ResourcePath) → Type 0
EachBelow m [] = Unit {0}
EachBelow m (ps ∷ pss) = Below m ps × EachBelow m pss

below_append : (m : ℕ) (xs ys : List ResourcePath) → Below m xs → Below m ys → Below m (xs ++ ys)
below_append m [] ys h k = k
below_append m (x ∷ xs) ys h k = (h.0, below_append m xs ys h.1 k)

below_under : (m : ℕ) (name : List ℕ) (xs : List ResourcePath) → Below m xs → Below m (map (under name) xs)
below_under m name [] h = tt
below_under m name (x ∷ xs) h = (h.0, below_under m name xs h.1)

each_append : (m : ℕ) (xss : List (List ResourcePath)) (ys : List ResourcePath) → EachBelow m xss → Below m ys
    → EachBelow m (xss ++ ys ∷ [])
each_append m [] ys h k = (k, tt)
each_append m (xs ∷ xss) ys h k = (h.0, each_append m xss ys h.1 k)

each_there : (m : ℕ) (xss : List (List ResourcePath)) (n : ℕ) → EachBelow m xss → Below m (unwrap_or (slice_get xss n) [])
each_there m [] n h = tt
each_there m (xs ∷ xss) zero h = h.0
each_there m (xs ∷ xss) (suc n) h = each_there m xss n h.1

-- an entry that passes a test is there
passed_there : (t : TypeTable) (n : ℕ) (o : Option DeclType) → slice_get t.types n ≡ o → is_some_and is_resource o ≡ true
    → n < length t.types
passed_there t n None at h = absurd (true≢false (sym h))
passed_there t n (Some e) at h = slice_get_within t.types n e at

module _ (t : TypeTable) where
  type_below : (n : ℕ) → Below (length t.types) (type_paths t n)
  type_below n = by (is_some_and is_resource (slice_get t.types n)) refl
    where
      by : (b : Bool) → is_some_and is_resource (slice_get t.types n) ≡ b
          → Below (length t.types) (if b then here n ∷ [] else [])
      by true is = (passed_there t n (slice_get t.types n) refl is, tt)
      by false is = tt

  entity_below : (earlier : List (List ResourcePath)) → EachBelow (length t.types) earlier → (e : Entity)
      → Below (length t.types) (entity_paths t earlier e)
  entity_below earlier h (entity.Instance n) = each_there (length t.types) earlier n h
  entity_below earlier h (entity.Type_ n) = type_below n
  entity_below earlier h (entity.Func n) = tt
  entity_below earlier h (entity.Component n) = tt
  entity_below earlier h (entity.Module n) = tt
  entity_below earlier h entity.Value = tt

  exports_below : (earlier : List (List ResourcePath)) → EachBelow (length t.types) earlier
      → (es : List (List ℕ × Entity)) → Below (length t.types) (flat_map (export_paths t earlier) es)
  exports_below earlier h [] = tt
  exports_below earlier h (e ∷ es) =
      below_append (length t.types) (export_paths t earlier e) (flat_map (export_paths t earlier) es)
      (below_under (length t.types) e.0 (entity_paths t earlier e.1) (entity_below earlier h e.1))
      (exports_below earlier h es)

  entry_below : (earlier : List (List ResourcePath)) → EachBelow (length t.types) earlier → (e : DeclType)
      → Below (length t.types) (entry_paths t earlier e)
  entry_below earlier h (entry.Instance exports) = exports_below earlier h exports
  entry_below earlier h _ = tt

  paths_below : (earlier : List (List ResourcePath)) (es : List DeclType) → EachBelow (length t.types) earlier
      → EachBelow (length t.types) (paths_from t earlier es)
  paths_below earlier [] h = h
  paths_below earlier (e ∷ es) h =
      paths_below (earlier ++ entry_paths t earlier e ∷ []) es
      (each_append (length t.types) earlier (entry_paths t earlier e) h (entry_below earlier h e))

  resources_below : (e : Entity) → Below (length t.types) (resource_paths t e)
  unfolding resource_paths
  resources_below e = entity_below (paths_from t [] t.types) (paths_below [] t.types tt) e

-- the number at the end of a path
abbrev pub number_at : ResourcePath → ℕ
number_at p = p.number

-- the same number stands among paths as among their numbers
same_among : (x : ResourcePath) (xs : List ResourcePath)
    → list_any (same_number x) xs ≡ list_any (λ n. x.number == n) (map number_at xs)
same_among x [] = refl
same_among x (y ∷ ys) = ap (λ b. (x.number == y.number) || b) (same_among x ys)

-- distinct numbers below one stay so as paths are put behind them, each once
once_apart : (m : ℕ) (xs ps : List ResourcePath) → IsDistinct ◌==◌ (map number_at xs) → Below m xs → Below m ps
    → IsDistinct ◌==◌ (map number_at (fold (with_once same_number) xs ps))
    × Below m (fold (with_once same_number) xs ps)
once_apart m xs [] apart below more = (apart, below)
once_apart m xs (p ∷ ps) apart below more =
    by (list_any (same_number p) xs) refl (λ ys a b. once_apart m ys ps a b more.1)
  where
    by : (b : Bool) → list_any (same_number p) xs ≡ b
        → ((ys : List ResourcePath) → IsDistinct ◌==◌ (map number_at ys) → Below m ys
        → IsDistinct ◌==◌ (map number_at (fold (with_once same_number) ys ps))
        × Below m (fold (with_once same_number) ys ps))
        → IsDistinct ◌==◌ (map number_at (fold (with_once same_number) (if b then xs else xs ++ p ∷ []) ps))
        × Below m (fold (with_once same_number) (if b then xs else xs ++ p ∷ []) ps)
    by true is go = go xs apart below
    by false is go =
        go (xs ++ p ∷ [])
        (subst (IsDistinct ◌==◌) (sym (map_push number_at xs p))
        (IsDistinct-push nat_eq_equiv (map number_at xs) p.number apart (sym (same_among p xs) ∙ is)))
        (below_append m xs (p ∷ []) below (more.0, tt))

below_any : (m : ℕ) (xs : List ResourcePath) → Below m xs → (q : ℕ)
    → list_any (λ n. q == n) (map number_at xs) ≡ true → q < m
below_any m [] h q is = absurd (true≢false (sym is))
below_any m (x ∷ xs) h q is = by (q == x.number) refl is (below_any m xs h.1 q)
  where
    by : (b : Bool) → (q == x.number) ≡ b → (b || list_any (λ n. q == n) (map number_at xs)) ≡ true
        → (list_any (λ n. q == n) (map number_at xs) ≡ true → q < m) → q < m
    by true same is rest = subst (λ n. n < m) (sym (eqb-true q x.number same)) h.0
    by false other is rest = rest is

-- the resources of an entity, each once, have different numbers
pub numbers_once : (t : TypeTable) (e : Entity)
    → IsDistinct ◌==◌ (map number_at (each_once same_number (resource_paths t e)))
unfolding IsDistinct
numbers_once t e = (once_apart (length t.types) [] (resource_paths t e) tt tt (resources_below t e)).0

-- an entity leads to no more resources than the table has entries, each once
pub once_few : (t : TypeTable) (e : Entity) → length (each_once same_number (resource_paths t e)) ≤ length t.types
unfolding IsDistinct
once_few t e =
    let ps = each_once same_number (resource_paths t e) in
    let both = once_apart (length t.types) [] (resource_paths t e) tt tt (resources_below t e) in
    let few = length-le_from_distinct_below (map number_at ps) (length t.types) both.0
    (below_any (length t.types) ps both.1) in
    subst (λ n. n ≤ length t.types) (length-map ps number_at) few
