-- A map that stands for insertions stands for one more after it, and answers as they say.
use Rattle.std.proofs.Common.{◌≡◌, ℕ, Bool, true, false, cond, List, [], ◌∷◌, ◌++◌, length, Option, Some, None, refl}
use Rattle.std.proofs.Common.{sym, ap, ◌∙◌, inl, inr, ◌⊎◌}
use Rattle.std.proofs.lemmas.Bool.{cases_Bool, false≢true}
use Rattle.std.proofs.lemmas.Option.{same_Some}
use Rattle.std.proofs.lemmas.Slice.Eq.{bytes_eq-Decides}
use Rattle.std.specs.Cmp.{tied_itself, upto}
use Rattle.std.specs.List.{slice_get}
use Rattle.std.specs.Map.{keys_of, lookup}
use Rattle.std.specs.Option.{is_some, option_map, unwrap_or}
use Rattle.std.specs.Ordering.{is_gt, is_lt, ordering_reverse}
use Rattle.std.specs.Str.{bytes_eq}
use Rattle.std.specs.declared.cmp.Ordering.{Ordering}
use Rattle.std.specs.declared.cmp.Ordering.TheVariants.{Less, Equal, Greater}
use Rattle.pc_names.proofs.TextKeyLemmas.{AreKeyed-kept, AreKeyed-length, AreKeyed-push, AreKeyed-with_value, KeysAgree}
use Rattle.pc_names.proofs.TextKeyLemmas.{insert-keyed, lookup-keyed, lookup-no_key, place-keyed, value-keyed}
use Rattle.pc_names.proofs.LastValueLemmas.{define-at, definitions_of-push, last_value-push, lookup-definitions_of}
use Rattle.pc_names.proofs.LastValueLemmas.{name-define, place-define, place_for, value_at}
use Rattle.pc_names.proofs.PlaceLemmas.{is_some-lookup}
use Rattle.pc_names.proofs.VersionLemmas.{version_total}
use Rattle.pc_names.specs.Contents.{Contents, Newest}
use Rattle.pc_names.specs.Definitions.{place_by, place_in}
use Rattle.pc_names.specs.Inserted.{Inserted, IsOn, IsTwice, TrackGives, definitions_of, last_value}
use Rattle.pc_names.specs.Stands.{AreKeyed, IsNewest, StandsFor, TrackHas}
use Rattle.pc_names.specs.Steps.{IsHeld, IsTrackKey, defined_at, newest_value, noted_at, with_definition}
use Rattle.pc_names.specs.Track.{track_of, version_cmp}
use Rattle.pc_names.specs.Tracks.{is_passed, noted}
use Rattle.semver.specs.Parse.{Parts}

-- what is not below is above or equal, the other way round
not_above : (r : Ordering) → is_lt r ≡ false → is_gt (ordering_reverse r) ≡ false
not_above Less e = cc
not_above Equal e = refl
not_above Greater e = refl

-- below is not above
below_not_above : (r : Ordering) → is_lt r ≡ true → is_gt r ≡ false
below_not_above Less e = refl
below_not_above Equal e = refl
below_not_above Greater e = cc

-- what two pairs that are there have in common
some_parts : {A B : Type 0} (a x : A) (b y : B) → ◌≡◌ {A = Option (A × B)} (Some (a, b)) (Some (x, y))
    → (a ≡ x) × (b ≡ y)
some_parts a x b y e = let same : (a, b) ≡ (x, y) = same_Some (a, b) (x, y) e in
    (ap (λ p. p.0) same, ap (λ p. p.1) same)

module _ {V : Type 0} (inserted : Inserted V) (name : List ℕ) (value : V) where
  -- a name on a track after an insertion was on it, or is the one inserted
  IsOn-push : (track : List ℕ) (v : Parts) (n : List ℕ) → IsOn (inserted ++ (name, value) ∷ []) track v n
      → IsOn inserted track v n ⊎ (track_of name ≡ Some (track, v))
  IsOn-push track v n h = elim (cases_Bool (bytes_eq n name)) [
    | inl here ↦ inr (rw ((bytes_eq-Decides n name).0 here) at h.stands)
    | inr other ↦
        inl (record {
          is_inserted = rw (last_value-push inserted name value n, other) at h.is_inserted;
          stands = h.stands;
        })
  ]

  -- the definition at a place keeps its name
  pub kept_name : (p : ℕ) (n : List ℕ) (v : V) → slice_get (definitions_of inserted) p ≡ Some (n, v)
      → (w : V) × (slice_get (definitions_of (inserted ++ (name, value) ∷ [])) p ≡ Some (n, w))
  kept_name p n v h = rw definitions_of-push (name-define (definitions_of inserted) name value p n v h)

  -- another track has what it had
  newest-other : (track : List ℕ) (r : Option Newest) → TrackHas inserted track r
      → ((v : Parts) → ¬ (track_of name ≡ Some (track, v)))
      → TrackHas (inserted ++ (name, value) ∷ []) track r
  newest-other track None has other = λ v n on. elim (IsOn-push track v n on)
      [ inl before ↦ has v n before | inr new ↦ other v new ]
  newest-other track (Some newest) has other =
      let kept = kept_name newest.0 has.name has.value has.at in
      record {
        name = has.name;
        value = kept.0;
        at = kept.1;
        stands = has.stands;
        greatest = λ v n on. elim (IsOn-push track v n on) [
          | inl before ↦
              has.greatest v n before
          | inr new ↦ absurd (other v new)
        ];
      }

  module _ (track : List ℕ) (version : Parts) (stands : track_of name ≡ Some (track, version)) where
    -- the version of the name that was inserted
    own_version : (v : Parts) → track_of name ≡ Some (track, v) → v ≡ version
    own_version v new = (some_parts track track v version (sym new ∙ stands)).1

    -- a version that is greater stays the newest
    newest-held : (held : Newest) → IsNewest inserted track held → is_lt (version_cmp version held.1) ≡ true
        → IsNewest (inserted ++ (name, value) ∷ []) track held
    newest-held held has below =
        let kept = kept_name held.0 has.name has.value has.at in
        record {
          name = has.name;
          value = kept.0;
          at = kept.1;
          stands = has.stands;
          greatest = λ v n on. elim (IsOn-push track v n on) [
            | inl before ↦ has.greatest v n before
            | inr new ↦ rw (own_version v new) (below_not_above (version_cmp version held.1) below)
          ];
        }

    -- no version before is above one that passes
    above_before : (r : Option Newest) (place : ℕ) → TrackHas inserted track r → is_passed r (place, version) ≡ false
        → (v : Parts) (n : List ℕ) → IsOn inserted track v n → is_gt (version_cmp v version) ≡ false
    above_before None place has passed v n on = absurd (has v n on)
    above_before (Some held) place has passed v n on =
        upto version_total v held.1 version (has.greatest v n on)
        (ap is_gt (version_total.antisymm held.1 version) ∙ not_above (version_cmp version held.1) passed)

    -- a version that none is greater than is the newest
    newest-new : (r : Option Newest) (place : ℕ) → TrackHas inserted track r → is_passed r (place, version) ≡ false
        → place ≡ place_for (definitions_of inserted) name
        → IsNewest (inserted ++ (name, value) ∷ []) track (place, version)
    newest-new r place has passed here = record {
      name = name;
      value = value;
      at = rw (definitions_of-push, here) (place-define (definitions_of inserted) name value);
      stands = stands;
      greatest = λ v n on. elim (IsOn-push track v n on) [
        | inl before ↦ above_before r place has passed v n before
        | inr new ↦ rw (own_version v new) (ap is_gt (tied_itself version_total version))
      ];
    }

  -- the newest versions by text, after one more on a track
  newest-noted : (track : List ℕ) (version : Parts) → track_of name ≡ Some (track, version)
      → (before after : List (List ℕ × Newest)) (place : ℕ)
      → place ≡ place_for (definitions_of inserted) name
      → is_passed (lookup (bytes_eq track) before) (place, version) ≡ false
      → ((u : List ℕ) → lookup (bytes_eq u) after ≡
      cond (bytes_eq u track) (Some (place, version)) (lookup (bytes_eq u) before))
      → ((u : List ℕ) → TrackHas inserted u (lookup (bytes_eq u) before))
      → (u : List ℕ) → TrackHas (inserted ++ (name, value) ∷ []) u (lookup (bytes_eq u) after)
  newest-noted track version stands before after place here passed found has u = elim (cases_Bool (bytes_eq u track)) [
    | inl same ↦
        rw (found u, same, (bytes_eq-Decides u track).0 same)
        (newest-new track version stands (lookup (bytes_eq track) before) place (has track) passed here)
    | inr other ↦
        rw (found u, other) (newest-other u (lookup (bytes_eq u) before) (has u)
        (λ v new. false≢true (sym other
        ∙ (bytes_eq-Decides u track).1 ((some_parts u track v version (sym new ∙ stands)).0))))
  ]

  -- the newest versions by text, after one on a track that has a greater one
  newest-passed : (track : List ℕ) (version : Parts) → track_of name ≡ Some (track, version)
      → (before : List (List ℕ × Newest)) (place : ℕ)
      → is_passed (lookup (bytes_eq track) before) (place, version) ≡ true
      → ((u : List ℕ) → TrackHas inserted u (lookup (bytes_eq u) before))
      → (u : List ℕ) → TrackHas (inserted ++ (name, value) ∷ []) u (lookup (bytes_eq u) before)
  newest-passed track version stands before place passed has u = elim (cases_Bool (bytes_eq u track)) [
    | inl same ↦ rw ((bytes_eq-Decides u track).0 same) (go (lookup (bytes_eq track) before) passed (has track))
    | inr other ↦ newest-other u (lookup (bytes_eq u) before) (has u)
        (λ v new. false≢true (sym other
        ∙ (bytes_eq-Decides u track).1 ((some_parts u track v version (sym new ∙ stands)).0)))
  ] where
    go : (r : Option Newest) → is_passed r (place, version) ≡ true → TrackHas inserted track r
        → TrackHas (inserted ++ (name, value) ∷ []) track r
    go None passed has = cc
    go (Some held) passed has = newest-held track version stands held has passed

module _ {K V : Type 0} where
  -- a map goes on standing for its insertions while the interner keeps its keys
  pub StandsFor-kept : (before after : List ℕ → K → Type 0) → ((t : List ℕ) (k : K) → before t k → after t k)
      → (map : Contents K V) (inserted : Inserted V) → StandsFor before map inserted → StandsFor after map inserted
  StandsFor-kept before after kept map inserted s = record {
    definitions = AreKeyed-kept before after kept map.definitions (definitions_of inserted) s.definitions;
    tracks_by_text = s.tracks_by_text;
    tracks = AreKeyed-kept before after kept map.tracks s.tracks_by_text s.tracks;
    newest = s.newest;
  }

  -- an empty map stands for no insertion
  pub StandsFor-nothing : (has_key : List ℕ → K → Type 0)
      → StandsFor {K = K} {V = V} has_key (record { definitions = []; tracks = [] }) []
  StandsFor-nothing has_key = record {
    definitions = tt;
    tracks_by_text = [];
    tracks = tt;
    newest = λ track v n on. cc on.is_inserted;
  }

  -- a definition more under a key is one more under its text
  keyed-defined_at : (has_key : List ℕ → K → Type 0) (es : List (K × V)) (ns : List (List ℕ × V)) (o : Option ℕ)
      (k : K) (n : List ℕ) (v : V)
      → AreKeyed has_key es ns → has_key n k → AreKeyed has_key (defined_at es o k v) (defined_at ns o n v)
  keyed-defined_at has_key es ns None k n v h p = AreKeyed-push has_key es ns k n v h p
  keyed-defined_at has_key es ns (Some place) k n v h p = AreKeyed-with_value has_key es ns place v h

module _ {K V : Type 0} {has_key : List ℕ → K → Type 0} {eq : K → K → Bool} (agree : KeysAgree has_key eq) where
  module _ (map : Contents K V) (inserted : Inserted V) (name : List ℕ) (value : V)
      (s : StandsFor has_key map inserted) (place : ℕ)
      (here : place ≡ place_for (definitions_of inserted) name) where
    -- the tracks stand for the insertions and one more
    abbrev Noted : List (K × Newest) → Type 0
    Noted tracks = (by_text : List (List ℕ × Newest)) × AreKeyed has_key tracks by_text
        × ((u : List ℕ) → TrackHas (inserted ++ (name, value) ∷ []) u (lookup (bytes_eq u) by_text))

    -- after a version more on a track
    noted_on : (track : List ℕ) (key : K) (version : Parts) → track_of name ≡ Some (track, version)
        → has_key track key → Noted (noted eq map.tracks key (place, version))
    noted_on track key version stands named =
        let same =
        ap (λ (o : Option Newest). is_passed o (place, version))
        (lookup-keyed agree track key named map.tracks s.tracks_by_text s.tracks) in
        elim (cases_Bool (is_passed (lookup (eq key) map.tracks) (place, version))) [
          | inl passed ↦ rw passed (
            s.tracks_by_text,
            s.tracks,
            newest-passed inserted name value track version stands s.tracks_by_text place (sym same ∙ passed)
                s.newest,
          )
          | inr first ↦
              let put = insert-keyed agree track key (place, version) named map.tracks s.tracks_by_text s.tracks in
              rw first (
                put.0,
                put.1,
                newest-noted inserted name value track version stands s.tracks_by_text put.0 place here
                    (sym same ∙ first) put.2 s.newest,
              )
        ]

    -- after a name more, with or without a track
    noted_by : (o : Option (List ℕ × Parts)) → track_of name ≡ o → (track : Option (K × Parts))
        → IsTrackKey has_key o track → Noted (noted_at eq map.tracks track place)
    noted_by None none None h = (
      s.tracks_by_text,
      s.tracks,
      λ u. newest-other inserted name value u (lookup (bytes_eq u) s.tracks_by_text)
          (s.newest u) (λ v new. cc (sym new ∙ none)),
    )
    noted_by None none (Some t) h = absurd h
    noted_by (Some n) some None h = absurd h
    noted_by (Some n) some (Some t) h = noted_on n.0 t.0 t.1 (some ∙ ap (λ (v : Parts). Some (n.0, v)) (sym h.1)) h.0

  -- a map with a definition more stands for one insertion more
  pub StandsFor-with_definition : (map : Contents K V) (inserted : Inserted V) (name : List ℕ) (key : K)
      (track : Option (K × Parts)) (value : V)
      → StandsFor has_key map inserted → has_key name key → IsTrackKey has_key (track_of name) track
      → StandsFor has_key (with_definition eq map key track value) (inserted ++ (name, value) ∷ [])
  StandsFor-with_definition map inserted name key track value s named tracked =
      let place = unwrap_or (place_in eq map.definitions key) (length map.definitions) in
      let at : place_in eq map.definitions key ≡ place_by (bytes_eq name) (keys_of (definitions_of inserted)) =
      place-keyed agree name key named map.definitions (definitions_of inserted) s.definitions in
      let size : length map.definitions ≡ length (definitions_of inserted) =
      AreKeyed-length has_key map.definitions (definitions_of inserted) s.definitions in
      let here : place ≡ place_for (definitions_of inserted) name =
      λ i. unwrap_or (at i) (size i) in
      let tracks = noted_by map inserted name value s place here (track_of name) refl track tracked in
      record {
        definitions = rw (at, definitions_of-push inserted name value, define-at (definitions_of inserted) name value)
            (keyed-defined_at has_key map.definitions (definitions_of inserted)
            (place_by (bytes_eq name) (keys_of (definitions_of inserted))) key name value s.definitions named);
        tracks_by_text = tracks.0;
        tracks = tracks.1;
        newest = tracks.2;
      }

  -- the value under the key of a name is its last value
  pub exact-known : (map : Contents K V) (inserted : Inserted V) (name : List ℕ) (key : K)
      → StandsFor has_key map inserted → has_key name key
      → lookup (eq key) map.definitions ≡ last_value inserted name
  exact-known map inserted name key s named =
      lookup-keyed agree name key named map.definitions (definitions_of inserted) s.definitions
      ∙ lookup-definitions_of inserted name

  -- a name's key has a place exactly where the name was inserted
  is_some-place : (map : Contents K V) (inserted : Inserted V) (name : List ℕ) (key : K)
      → StandsFor has_key map inserted → has_key name key
      → is_some (place_in eq map.definitions key) ≡ is_some (last_value inserted name)
  is_some-place map inserted name key s named =
      is_some-lookup (eq key) map.definitions ∙ ap is_some (exact-known map inserted name key s named)

  -- a name's key is held exactly where the name was inserted
  pub IsHeld-IsTwice : (map : Contents K V) (inserted : Inserted V) (name : List ℕ) (key : K) (shadowing : Bool)
      → StandsFor has_key map inserted → has_key name key → IsHeld eq map key shadowing
      → IsTwice inserted name shadowing
  IsHeld-IsTwice map inserted name key shadowing s named held =
      (held.0, sym (is_some-place map inserted name key s named) ∙ held.1)

  pub IsTwice-IsHeld : (map : Contents K V) (inserted : Inserted V) (name : List ℕ) (key : K) (shadowing : Bool)
      → StandsFor has_key map inserted → has_key name key → IsTwice inserted name shadowing
      → IsHeld eq map key shadowing
  IsTwice-IsHeld map inserted name key shadowing s named twice =
      (twice.0, is_some-place map inserted name key s named ∙ twice.1)

  -- what a track's key leads to is what the track gives
  pub track-known : (map : Contents K V) (inserted : Inserted V) (track : List ℕ × Parts) (key : K)
      → StandsFor has_key map inserted → has_key track.0 key
      → TrackGives inserted (Some track) (newest_value map (lookup (eq key) map.tracks))
  track-known map inserted track key s named =
      rw (lookup-keyed agree track.0 key named map.tracks s.tracks_by_text s.tracks)
      (go (lookup (bytes_eq track.0) s.tracks_by_text) (s.newest track.0)) where
        go : (r : Option Newest) → TrackHas inserted track.0 r
            → TrackGives inserted (Some track) (newest_value map r)
        go None has = has
        go (Some newest) has =
            let value : option_map (λ (d : K × V). d.1) (slice_get map.definitions newest.0) ≡ Some has.value =
            value-keyed has_key map.definitions (definitions_of inserted) newest.0 s.definitions
            ∙ ap (option_map (λ (d : List ℕ × V). d.1)) has.at in
            let last = value_at inserted newest.0 has.name has.value has.at in
            rw value (
              has.name,
              record {
                version = newest.1;
                is_on = record { is_inserted = rw last refl; stands = has.stands };
                greatest = has.greatest;
              },
              last,
            )

module _ {K V : Type 0} (has_key : List ℕ → K → Type 0) where
  -- a name without a key was not inserted
  pub exact-unknown : (map : Contents K V) (inserted : Inserted V) (name : List ℕ) → StandsFor has_key map inserted
      → ((k : K) → ¬ has_key name k)
      → last_value inserted name ≡ None
  exact-unknown map inserted name s none =
      sym (lookup-definitions_of inserted name)
      ∙ lookup-no_key has_key name none map.definitions (definitions_of inserted) s.definitions

  -- a track without a key has no version
  pub track-unknown : (map : Contents K V) (inserted : Inserted V) (track : List ℕ × Parts)
      → StandsFor has_key map inserted → ((k : K) → ¬ has_key track.0 k)
      → TrackGives {V = V} inserted (Some track) None
  track-unknown map inserted track s none =
      let nothing = lookup-no_key has_key track.0 none map.tracks s.tracks_by_text s.tracks in
      rw nothing at (s.newest track.0)
