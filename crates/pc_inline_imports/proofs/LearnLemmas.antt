-- Resources that become known before they are in the graph.
use Rattle.std.proofs.Common.{◌≡◌, ◌<◌, ◌≤◌, ◌+◌, ◌==◌, ℕ, zero, suc, Bool, true, false, List, [], ◌∷◌, ◌++◌, length, take}
use Rattle.std.proofs.Common.{refl, sym, ap, subst, ◌∙◌, Option, Some, None, arith, if◌then◌else◌, ◌||◌}
use Rattle.std.specs.Prelude.{filter, not, slice_get}
use Rattle.std.specs.List.{AllZip, list_any}
use Rattle.std.proofs.lemmas.List.{length-take-le, take_more}
use Rattle.std.proofs.lemmas.List.Elements.{filter_agree, filter_more}
use Rattle.std.proofs.lemmas.Option.{get_or_from_slice_get, none-some, same_Some, slice_get_within}
use Rattle.pc_numbers.specs.declared.runtime.ResourceIndex.{ResourceIndex}
use Rattle.pc_types.specs.declared.module_record.ModuleRecord.{ModuleRecord}
use Rattle.pc_types.specs.declared.parsed.Entity.{Entity}
use Rattle.pc_types.specs.declared.parsed.TypeTable.{TypeTable}
use Rattle.pc_types.specs.declared.types.TypeDef.{TypeDef}
use Rattle.pc_types.specs.TypeTree.{Identity, identity_of}
use Rattle.pc_types_lists.specs.Adds.{AddsTypes, most_types}
use Rattle.pc_types_lists.specs.Known.{resource_of}
use Rattle.pc_types_lists.specs.Types.{Resources}
use Rattle.pc_types_lists.proofs.FewLemmas.{few_aside, few_none}
use Rattle.pc_types_lists.proofs.KeptTypes.{keeps_same, keeps_whatever}
use Rattle.pc_types_builder.specs.Plain.{Layers}
use Rattle.pc_types_builder.specs.Converted.{AreConverted}
use Rattle.pc_types_walk.specs.declared.walk.Found.{Found}
use Rattle.pc_types_walk.specs.declared.walk.Place.{Place}
use Rattle.pc_types_walk.specs.declared.walk.Walk.{Walk}
use Rattle.pc_types_walk.specs.Walks.{IsFound, IsWalk}
use Rattle.pc_types_walk.proofs.NewlyLemmas.{is_unknown, newly_found}
use Rattle.pc_spec_reading.specs.Once.{each_once}
use Rattle.pc_spec_reading.specs.Resource.{ResourcePath, newly, resource_paths, same_number}
use Rattle.pc_spec_reading.specs.Scope.{Scope}
use Rattle.pc_dfg.proofs.GrowLemmas.{grows_refl}
use Rattle.pc_entity.proofs.Growing.{kept_refl}
use Rattle.pc_types_builder.proofs.TreeLemmas.{tree_keeps}
use Rattle.pc_inline_state.specs.declared.frame.Frame.{Frame}
use Rattle.pc_inline_state.specs.declared.state.State.{State}
use Rattle.pc_inline_state.specs.Adds.{Adds}
use Rattle.pc_inline_state.specs.Frames.{Both}
use Rattle.pc_inline_state.specs.Gained.{AddsTables}
use Rattle.pc_inline_state.specs.KnowsSame.{IsResource, KnowsSame}
use Rattle.pc_inline_state.specs.Points.{IsSoundState}
use Rattle.pc_inline_state.specs.Prepares.{Converts}
use Rattle.pc_inline_state.specs.Tables.{Keeps, tables_of}
use Rattle.pc_inline_state.proofs.AddsLemmas.{adds_both}
use Rattle.pc_inline_state.proofs.FitsLemmas.{fits_refl}
use Rattle.pc_inline_state.proofs.GainedLemmas.{tables_aside, tables_none}
use Rattle.pc_inline_state.proofs.InstanceLemmas.{instances_kept}
use Rattle.pc_inline_state.proofs.PlacedLemmas.{placed_kept}
use Rattle.pc_inline_state.proofs.StateLemmas.{converts_prepares, keeps_trans}
use Rattle.pc_inline_state.proofs.ZipLemmas.{zip_length}
use Rattle.pc_inline_imports.specs.Given.{IsEntityType}
use Rattle.pc_inline_imports.specs.Learns.{IsRegistered, Learns, Registers, is_absent, is_free, registered}
use Rattle.pc_inline_imports.specs.Trims.{AreBehind, IsMoved, Trims}
use Rattle.pc_inline_imports.specs.Brings.{AllBelow}
use Rattle.pc_inline_imports.proofs.FewLemmas.{once_few}
use Rattle.pc_inline_imports.proofs.TrimLemmas.{found_moved}

-- one more becomes known last
pub registered_push : (first : ℕ) (xs : List Found) (f : Found) (known : ℕ → Option ResourceIndex) (q : ℕ)
    → registered first (xs ++ f ∷ []) known q
    ≡ (if q == f.number then Some (record { 0 = first + length xs }) else registered first xs known q)
registered_push first [] f known q =
    let zero_more : first ≡ first + 0 = omega arith in
    ap (λ k. if q == f.number then Some (record { 0 = k }) else known q) zero_more
registered_push first (x ∷ xs) f known q =
    let same : first + 1 + length xs ≡ first + length (x ∷ xs) = omega arith in
    let known' : ℕ → Option ResourceIndex = λ n. if n == x.number then Some (record { 0 = first }) else known n in
    registered_push (first + 1) xs f known' q
    ∙ ap (λ k. if q == f.number then Some (record { 0 = k }) else registered (first + 1) xs known' q) same

-- nothing became known
pub registered_none : (a : State) (first : ℕ) (xs : List Found) → IsRegistered first (take 0 xs) a a
registered_none a first xs = record { known = λ q. refl }

module _ (a b c : State) (first : ℕ) (xs : List Found) where
  -- one more became known
  pub registered_more : (k : ℕ) (x : Found) → k < length xs → slice_get xs k ≡ Some x
      → IsRegistered first (take k xs) a b → (n : ℕ) → n ≡ first + k → IsRegistered n (x ∷ []) b c
      → IsRegistered first (take (k + 1) xs) a c
  registered_more k x within at far n is more = record {
    known = λ q.
        let whole : take (k + 1) xs ≡ take k xs ++ x ∷ [] = take_more xs k x within
        ∙ ap (λ y. take k xs ++ y ∷ []) (get_or_from_slice_get xs k x x at) in
        let long : length (take k xs) ≡ k = length-take-le k xs (omega (arith, within)) in
        more.known q
        ∙ ap (λ m. if q == x.number then Some (record { 0 = m }) else resource_of b.types.resources.known q) is
        ∙ ap (λ o. if q == x.number then Some (record { 0 = first + k }) else o) (far.known q)
        ∙ ap (λ m. if q == x.number then Some (record { 0 = first + m })
        else registered first (take k xs) (resource_of a.types.resources.known) q) (sym long)
        ∙ sym (registered_push first (take k xs) x (resource_of a.types.resources.known) q)
        ∙ ap (λ ys. registered first ys (resource_of a.types.resources.known) q) (sym whole);
  }

-- those that are kept among some, with one more
pub kept_more : {A : Type 0} (test : A → Bool) (xs : List A) (k : ℕ) (x : A) → k < length xs → slice_get xs k ≡ Some x
    → (old new : List A) → new ≡ old ++ (if test x then x ∷ [] else []) → old ≡ filter test (take k xs)
    → new ≡ filter test (take (k + 1) xs)
kept_more test xs k x within at old new put far =
    put ∙ ap (λ ys. ys ++ (if test x then x ∷ [] else [])) far
    ∙ ap (λ y. filter test (take k xs) ++ (if test y then y ∷ [] else [])) (sym (get_or_from_slice_get xs k x x at))
    ∙ sym (filter_more test xs k x within)

module _ (t : TypeTable) where
  -- nothing changed
  pub registers_refl : (a : State) (f : Frame) → AreConverted a.types t f.converted → Registers t a f a f
  registers_refl a f are = record { converted = are; current = refl; state = refl; frame = refl }

  -- it changed twice
  pub registers_trans : (a : State) (f : Frame) (b : State) (g : Frame) (c : State) (h : Frame) → Registers t a f b g
      → Registers t b g c h → Registers t a f c h
  registers_trans a f b g c h p q = record {
    converted = q.converted;
    current = q.current ∙ p.current;
    state = q.state
        ∙ ap (λ (s : State). record s { types = record s.types { resources = c.types.resources } }) p.state;
    frame = q.frame ∙ ap (λ (x : Frame). record x { converted = h.converted; changes = h.changes }) p.frame;
  }

-- where other resources are known, no number names anything else
module _ (t : TypeTable) (a : State) (k : Resources) where
  abbrev knowing_so : State
  knowing_so = record a { types = record a.types { resources = k } }

  known_keeps : Keeps (tables_of a) (tables_of knowing_so)
  known_keeps = record {
    types = keeps_whatever a.types a.types a.types.resources k (keeps_same a.types);
    graph = grows_refl a.graph;
    fits = fits_refl a.graph;
    cores = kept_refl a.cores;
    definitions = kept_refl a.definitions;
    closures = kept_refl a.closures;
    instances = kept_refl a.instances;
    paths = kept_refl a.paths.held;
    bodies = refl;
    names = refl;
    table = refl;
  }

  known_adds : Adds t 0 (tables_of a) (tables_of knowing_so)
  known_adds = record {
    types = few_aside t 0 a.types a.types a.types.resources k (few_none t 0 a.types a.types refl);
    tables = tables_aside t a.graph.num_runtime_component_instances a.types a.types a.types.resources k
        (tables_none t a.graph.num_runtime_component_instances a.types a.types refl);
    entries = record {
      lists = λ l. omega arith;
      cores = omega arith;
      definitions = omega arith;
      closures = omega arith;
      instances = omega arith;
      begun = omega arith;
      resources = omega arith;
    };
    grows = known_keeps.types;
    later = omega arith;
  }

  -- and a sound state stays so
  known_sound : (ms : List ModuleRecord) → IsSoundState t ms a → IsSoundState t ms knowing_so
  known_sound ms s = record {
    ordered = s.ordered;
    items = s.items;
    plain = s.plain;
    used = s.used;
    numbers = record { signatures = s.numbers.signatures };
    held = record {
      options = s.held.options;
      modules = λ n ty m at.
          let old = s.held.modules n ty m at in
          record {
            there = old.there;
            known = old.known;
            component_instance = old.component_instance;
            tree = old.tree;
            is = old.is;
            number = old.number;
            holds = λ who fits. tree_keeps a.types knowing_so.types known_keeps.types who _ old.tree
                (old.holds who fits);
          };
    };
    table = s.table;
    bodies = s.bodies;
    names = s.names;
    members = s.members;
    instances = instances_kept ms (tables_of a) (tables_of knowing_so) known_keeps refl a.runtime_instances.items
        s.instances;
    widths = s.widths;
    placed = placed_kept t ms a knowing_so known_keeps (kept_refl a.runtime_instances.items) refl s.placed;
  }

module _ (t : TypeTable) (a : State) (f : Frame) (b : State) (g : Frame) (r : Registers t a f b g) where
  -- what registrations keep
  pub registers_keep : Keeps (tables_of a) (tables_of b)
  registers_keep =
      subst (λ (s : State). Keeps (tables_of a) (tables_of s)) (sym r.state) (known_keeps t a b.types.resources)

  -- and add
  pub registers_add : Adds t 0 (tables_of a) (tables_of b)
  registers_add =
      subst (λ (s : State). Adds t 0 (tables_of a) (tables_of s)) (sym r.state) (known_adds t a b.types.resources)

  pub registers_sound : (ms : List ModuleRecord) → IsSoundState t ms a → IsSoundState t ms b
  registers_sound ms s = subst (IsSoundState t ms) (sym r.state) (known_sound t a b.types.resources ms s)

  -- the component instance is the same
  pub registers_same : g.component_instance ≡ f.component_instance
  registers_same = ap (λ (x : Frame). x.component_instance) r.frame

-- a number has no identity where none is known
absent_identity : (known : List (ℕ × Identity)) (n : ℕ)
    → is_absent (identity_of known n) ≡ not (list_any (λ (k : ℕ × Identity). k.0 == n) known)
absent_identity [] n = refl
absent_identity (k ∷ ks) n = by (k.0 == n) (absent_identity ks n)
  where
    by : (b : Bool) → is_absent (identity_of ks n) ≡ not (list_any (λ (k : ℕ × Identity). k.0 == n) ks)
        → is_absent (if b then Some k.1 else identity_of ks n)
        ≡ not (b || list_any (λ (k : ℕ × Identity). k.0 == n) ks)
    by true h = refl
    by false h = h

-- both are there, or neither
both_absent : {A B : Type 0} (R : A → B → Type 0) (x : Option A) (y : Option B) → Both R x y → is_absent x ≡ is_absent y
both_absent R None None m = refl
both_absent R None (Some b) m = elim m [ ]
both_absent R (Some a) None m = elim m [ ]
both_absent R (Some a) (Some b) m = refl

filter_shorter : {A : Type 0} (test : A → Bool) (xs : List A) → length (filter test xs) ≤ length xs
filter_shorter test [] = omega arith
filter_shorter test (x ∷ xs) = by (test x) (filter_shorter test xs)
  where
    by : (b : Bool) → length (filter test xs) ≤ length xs
        → length (if b then x ∷ filter test xs else filter test xs) ≤ length (x ∷ xs)
    by true h = omega (arith, h)
    by false h = omega (arith, h)

-- what a walk found and the builder doesn't know is at the paths to resources that the scope doesn't know
found_newly : (t : TypeTable) (e : Entity) (w : Walk) (walked : IsWalk t w (each_once same_number (resource_paths t e)))
    (st : State) (found : List Found) → found ≡ filter (is_free st.types.resources.known) w.found → (s : Scope)
    → KnowsSame st.graph st.types.resources s
    → AllZip (IsFound walked.names) found (newly s.known (resource_paths t e))
found_newly t e w walked st found is s knows =
    subst (λ fs. AllZip (IsFound walked.names) fs (newly s.known (resource_paths t e))) (sym (is ∙ same))
    (newly_found s.known walked.names w.found (resource_paths t e) walked.found)
  where
    same : filter (is_free st.types.resources.known) w.found
        ≡ filter (λ (f : Found). is_unknown s.known f.number) w.found
    same = filter_agree (is_free st.types.resources.known) (λ (f : Found). is_unknown s.known f.number)
        (λ f. both_absent (IsResource st.graph) (resource_of st.types.resources.known f.number)
        (identity_of s.known f.number) (knows.known f.number) ∙ absent_identity s.known f.number) w.found

-- a walk comes to each place behind its parent
pub walk_behind : (t : TypeTable) (w : Walk) (ps : List ResourcePath) → IsWalk t w ps → AreBehind w.places
walk_behind t w ps walked k p at = let f = walked.named.further k p at in f.2

-- the places of what was found are below the names
pub found_within : (names : List (List (List ℕ))) (found : List Found) (ps : List ResourcePath)
    → AllZip (IsFound names) found ps → (k : ℕ) (f : Found) → slice_get found k ≡ Some f → f.place < length names
found_within names [] ps h k f at = absurd (none-some f at)
found_within names (g ∷ fs) [] h k f at = absurd h
found_within names (g ∷ fs) (p ∷ ps) h zero f at =
    subst (λ (x : Found). x.place < length names) (same_Some g f at) (slice_get_within names g.place p.names h.0.1)
found_within names (g ∷ fs) (p ∷ ps) h (suc k) f at = found_within names fs ps h.1 k f at

-- so are those of some of it
filter_within : (test : Found → Bool) (n : ℕ) (found : List Found) → AllBelow n found → (k : ℕ) (f : Found)
    → slice_get (filter test found) k ≡ Some f → f.place < n
filter_within test n [] below k f at = absurd (none-some f at)
filter_within test n (g ∷ gs) below k f at =
    by (test g) (filter_within test n gs (λ i x there. below (suc i) x there)) k at
  where
    by : (b : Bool) → AllBelow n (filter test gs) → (i : ℕ)
        → slice_get (if b then g ∷ filter test gs else filter test gs) i ≡ Some f → f.place < n
    by false rest i there = rest i f there
    by true rest zero there = subst (λ (x : Found). x.place < n) (same_Some g f there) (below 0 g refl)
    by true rest (suc i) there = rest i f there

-- and to each resource at one of them
pub walk_below : (t : TypeTable) (w : Walk) (ps : List ResourcePath) → IsWalk t w ps → (test : Found → Bool)
    → (free : List Found) → free ≡ filter test w.found → (places : List Place) → places ≡ w.places
    → AllBelow (length places + 1) free
walk_below t w ps walked test free is places same =
    subst (λ (qs : List Place). AllBelow (length qs + 1) free) (sym same)
    (subst (AllBelow (length w.places + 1)) (sym is)
    (filter_within test (length w.places + 1) w.found
    (λ k f at. subst (λ n. f.place < n) walked.named.count (found_within walked.names w.found ps walked.found k f at))))

-- and it is no more than the table has entries
found_few : (t : TypeTable) (e : Entity) (w : Walk) → IsWalk t w (each_once same_number (resource_paths t e))
    → (st : State) (found : List Found) → found ≡ filter (is_free st.types.resources.known) w.found
    → length found ≤ length t.types
found_few t e w walked st found is =
    let one = filter_shorter (is_free st.types.resources.known) w.found in
    let two = zip_length (IsFound walked.names) w.found (each_once same_number (resource_paths t e)) walked.found in
    let three = once_few t e in
    let four = ap length is in
    omega (arith, one, two, three, four)

module _ (t : TypeTable) (ms : List ModuleRecord) (e : Entity) (a : State) (f : Frame) (b : State) (g : Frame)
    (r : Registers t a f b g) (c : State) (done : Layers) (converts : Converts t b g.converted c done)
  where
    abbrev framed : Frame
    framed = record g { converted = done }

    -- what is learnt keeps what was there
    pub learns_keep : Keeps (tables_of a) (tables_of c)
    learns_keep =
        keeps_trans (tables_of a) (tables_of b) (tables_of c) (registers_keep t a f b g r)
        (converts_prepares t ms b g.converted c done converts).keeps

    -- all of it
    pub learns_all : (w : Walk) (walked : IsWalk t w (each_once same_number (resource_paths t e))) (free : List Found)
        → free ≡ filter (is_free a.types.resources.known) w.found → (places : List Place) (found : List Found)
        → Trims t walked.names free places found → IsRegistered (length a.graph.imported_resources) found a b
        → Adds t (most_types t) (tables_of b) (tables_of c) → (d : TypeDef) → IsEntityType c.types t e d
        → (h : Frame) → h ≡ framed → Learns t ms e a f c h (record { places = places; found = found; ty = d })
    learns_all w walked free is places found trimmed registered_so adds d entry h framed_so = record {
      names = trimmed.names';
      named = trimmed.named;
      found = λ s knows. found_moved walked.names trimmed.names' free found (newly s.known (resource_paths t e))
          trimmed.moved (found_newly t e w walked a free is s knows);
      few = few_moved;
      known = record {
        known = λ q. ap (λ (k : Resources). resource_of k.known q) converts.grows.resources ∙ registered_so.known q;
      };
      current = ap (λ (k : Resources). k.current) converts.grows.resources ∙ r.current;
      converted = subst (λ (x : Frame). AreConverted c.types t x.converted) (sym framed_so) (converts.converted r.converted);
      state = converts.rest
          ∙ ap (λ (s : State). record s { types = c.types; numbers = c.numbers }) r.state;
      frame = framed_so ∙ ap (λ (x : Frame). record x { converted = done }) r.frame
          ∙ sym (ap (λ (x : Frame). record f { converted = x.converted; changes = x.changes }) framed_so);
      keeps = learns_keep.types;
      sound = λ s. (converts_prepares t ms b g.converted c done converts).sound (registers_sound t a f b g r ms s);
      adds = few_from;
      tables = tables_from;
      is = entry;
    }
      where
        few_moved : length found ≤ length t.types
        few_moved =
            let few = found_few t e w walked a free is in
            let same = zip_length (IsMoved walked.names trimmed.names') free found trimmed.moved in
            omega (arith, few, same)

        same_types : b.types ≡ record a.types { resources = b.types.resources }
        same_types = ap (λ (s : State). s.types) r.state

        few_from : AddsTypes t (most_types t) a.types c.types
        few_from =
            few_aside t (most_types t) (record a.types { resources = b.types.resources }) c.types a.types.resources
            c.types.resources (subst (λ x. AddsTypes t (most_types t) x c.types) same_types adds.types)

        tables_from : AddsTables t c.graph.num_runtime_component_instances a.types c.types
        tables_from =
            tables_aside t c.graph.num_runtime_component_instances (record a.types { resources = b.types.resources })
            c.types a.types.resources c.types.resources
            (subst (λ x. AddsTables t c.graph.num_runtime_component_instances x c.types) same_types adds.tables)

    -- and adds the types of one entry
    pub learns_adds : Adds t (most_types t) (tables_of b) (tables_of c) → Adds t (most_types t) (tables_of a) (tables_of c)
    learns_adds adds =
        adds_both t 0 (most_types t) (most_types t) (tables_of a) (tables_of b) (tables_of c) (omega arith)
        (registers_add t a f b g r) adds
