-- What callers of a name map cite: texts as keys, names that are inserted once, and a value that is written.
use Rattle.std.proofs.Common.{◌≡◌, ℕ, Bool, true, List, [], ◌∷◌, ◌++◌, Option, Some, None, refl, ap, ◌∙◌, inl, inr}
use Rattle.std.proofs.lemmas.Bool.{cases_Bool}
use Rattle.std.proofs.lemmas.Slice.Eq.{bytes_eq-Decides}
use Rattle.std.specs.Map.{keys_of, lookup, set_value}
use Rattle.std.specs.Option.{IsSome, is_some}
use Rattle.std.specs.Str.{bytes_eq}
use Rattle.pc_names.proofs.TextKeyLemmas.{AreKeyed-with_value, KeysAgree, place-keyed}
use Rattle.pc_names.proofs.LastValueLemmas.{define-at, definitions_of-push, last_value-push, lookup-definitions_of}
use Rattle.pc_names.proofs.PlaceLemmas.{is_some-lookup, with_value-place}
use Rattle.pc_names.proofs.StandingLemmas.{kept_name}
use Rattle.pc_names.specs.Contents.{Contents, Newest}
use Rattle.pc_names.specs.Definitions.{place_by, place_in}
use Rattle.pc_names.specs.Inserted.{Inserted, IsOn, define, definitions_of, last_value}
use Rattle.pc_names.specs.Stands.{AreKeyed, StandsFor, TrackHas}
use Rattle.semver.specs.Parse.{Parts}

-- entries under the texts themselves are the entries
plain_entries : {X : Type 0} (es ns : List (List ℕ × X)) → AreKeyed (λ text key. key ≡ text) es ns → es ≡ ns
plain_entries [] [] h = refl
plain_entries [] (n ∷ ns) h = absurd h
plain_entries (e ∷ es) [] h = absurd h
plain_entries {X} (e ∷ es) (n ∷ ns) h = λ i. (h.0.0 i, h.0.1 i) ∷ plain_entries es ns h.1 i

module _ {V : Type 0} where
  -- where each text is its own key, the definitions are those of the insertions
  pub definitions-plain : (map : Contents (List ℕ) V) (inserted : Inserted V)
      → StandsFor (λ text key. key ≡ text) map inserted
      → map.definitions ≡ definitions_of inserted
  definitions-plain map inserted s = plain_entries map.definitions (definitions_of inserted) s.definitions

  -- a new name goes last
  pub definitions_of-new : (inserted : Inserted V) (name : List ℕ) (value : V) → last_value inserted name ≡ None
      → definitions_of (inserted ++ (name, value) ∷ []) ≡ definitions_of inserted ++ (name, value) ∷ []
  definitions_of-new inserted name value new =
      definitions_of-push inserted name value
      ∙ define-new (definitions_of inserted) (lookup-definitions_of inserted name ∙ new) where
        define-new : (ds : List (List ℕ × V)) → lookup (bytes_eq name) ds ≡ None
            → define ds name value ≡ ds ++ (name, value) ∷ []
        define-new [] h = refl
        define-new (d ∷ ds) h = elim (cases_Bool (bytes_eq name d.0)) [
          | inl here ↦ cc (rw here at h)
          | inr other ↦ rw other (ap (λ (l : List (List ℕ × V)). d ∷ l) (define-new ds (rw other at h)))
        ]

  module _ (inserted : Inserted V) (name : List ℕ) (value : V) (present : IsSome (last_value inserted name)) where
    -- a name that was inserted before adds nothing to its track
    on_before : (track : List ℕ) (v : Parts) (n : List ℕ) → IsOn (inserted ++ (name, value) ∷ []) track v n
        → IsOn inserted track v n
    on_before track v n h = elim (cases_Bool (bytes_eq n name)) [
      | inl here ↦ record { is_inserted = rw ((bytes_eq-Decides n name).0 here) present; stands = h.stands }
      | inr other ↦
          record {
            is_inserted = rw (last_value-push inserted name value n, other) at h.is_inserted;
            stands = h.stands;
          }
    ]

    -- a track keeps its newest version
    newest-again : (track : List ℕ) (r : Option Newest) → TrackHas inserted track r
        → TrackHas (inserted ++ (name, value) ∷ []) track r
    newest-again track None has = λ v n on. has v n (on_before track v n on)
    newest-again track (Some newest) has =
        let kept = kept_name inserted name value newest.0 has.name has.value has.at in
        record {
          name = has.name;
          value = kept.0;
          at = kept.1;
          stands = has.stands;
          greatest = λ v n on. has.greatest v n (on_before track v n on);
        }

module _ {K V : Type 0} {has_key : List ℕ → K → Type 0} {eq : K → K → Bool} (agree : KeysAgree has_key eq) where
  -- a value that is written under a name's key is one insertion more of the name
  pub StandsFor-written : (map : Contents K V) (inserted : Inserted V) (name : List ℕ) (key : K) (value : V)
      → StandsFor has_key map inserted → has_key name key → IsSome (last_value inserted name)
      → StandsFor has_key (record map { definitions = set_value (eq key) map.definitions value })
      (inserted ++ (name, value) ∷ [])
  StandsFor-written map inserted name key value s named present = record {
    definitions = go (place_by (bytes_eq name) (keys_of (definitions_of inserted))) refl
        (is_some-lookup (bytes_eq name) (definitions_of inserted) ∙ ap is_some (lookup-definitions_of inserted name)
        ∙ present);
    tracks_by_text = s.tracks_by_text;
    tracks = s.tracks;
    newest = λ track. newest-again inserted name value present track (lookup (bytes_eq track) s.tracks_by_text)
        (s.newest track);
  } where
    go : (o : Option ℕ) → place_by (bytes_eq name) (keys_of (definitions_of inserted)) ≡ o → is_some o ≡ true
        → AreKeyed has_key (set_value (eq key) map.definitions value)
        (definitions_of (inserted ++ (name, value) ∷ []))
    go None e h = cc
    go (Some p) e h =
        let at : place_in eq map.definitions key ≡ Some p =
        place-keyed agree name key named map.definitions (definitions_of inserted) s.definitions ∙ e in
        rw (
          ← with_value-place (eq key) map.definitions p value at,
          definitions_of-push inserted name value,
          define-at (definitions_of inserted) name value,
          e,
        )
        (AreKeyed-with_value has_key map.definitions (definitions_of inserted) p value s.definitions)
