-- The paths to host items with one more: it is free, and what is said of the others stays so.
use Rattle.std.proofs.Common.{◌≡◌, ◌<◌, ◌||◌, ℕ, zero, suc, Bool, true, false, List, [], ◌∷◌, ◌++◌}
use Rattle.std.proofs.Common.{length, map, Option, None, Some, refl, sym, ap, subst, ◌∙◌, inl, inr, arith}
use Rattle.std.specs.Prelude.{Contains, slice_get}
use Rattle.std.specs.List.{list_any}
use Rattle.std.proofs.lemmas.List.{length-append}
use Rattle.std.proofs.lemmas.List.Elements.{Contains-append_left}
use Rattle.std.proofs.lemmas.Option.{none-some, slice_get_within}
use Rattle.pc_entity.specs.Lists.{AreDistinct, Kept}
use Rattle.pc_entity.proofs.Growing.{append_kept, kept_refl}
use Rattle.pc_dfg.proofs.AddLemmas.{get_appended}
use Rattle.pc_numbers.specs.declared.runtime.ImportIndex.{ImportIndex}
use Rattle.pc_numbers.specs.declared.runtime.RuntimeImportIndex.{RuntimeImportIndex}
use Rattle.pc_types.specs.TypeTree.{Path}
use Rattle.pc_spec_reading.specs.SameTypes.{same_path}
use Rattle.pc_spec_reading.proofs.SameTypeLemmas.{path_exact}
use Rattle.pc_dfg.specs.declared.dfg.ComponentDfg.{ComponentDfg}
use Rattle.pc_inline_paths.specs.declared.path_id.PathId.{PathId}
use Rattle.pc_inline_paths.specs.HeldPaths.{HeldPaths}
use Rattle.pc_inline_paths.specs.Paths.{TakesIn}
use Rattle.pc_inline_state.specs.declared.state.State.{State}
use Rattle.pc_inline_state.specs.Points.{IsSoundState}
use Rattle.pc_inline_state.specs.Tables.{Keeps, Tables, tables_of}
use Rattle.pc_inline_state.specs.TakesPath.{NotesPath, SoundWithPaths}
use Rattle.pc_inline_state.specs.Worlds.{AreUsed, path_of}
use Rattle.pc_inline_state.proofs.InstanceLemmas.{instances_kept}
use Rattle.pc_inline_state.proofs.PlacedLemmas.{placed_kept}
use Rattle.pc_inline_state.proofs.StateLemmas.{keeps_refl}

-- a path that isn't among some is none of these host items, whose paths are among them
pub none_used : (ps : List Path) (p : Path) → (Contains ps p → ⊥) → (is : List (ImportIndex × List (List ℕ)))
    → ((r : ℕ) (i : ImportIndex × List (List ℕ)) → slice_get is r ≡ Some i → Contains ps (path_of i))
    → list_any (same_path p) (map path_of is) ≡ false
none_used ps p absent [] known = refl
none_used ps p absent (i ∷ is) known =
    by (same_path p (path_of i)) refl (none_used ps p absent is (λ r j at. known (suc r) j at))
  where
    by : (b : Bool) → same_path p (path_of i) ≡ b → list_any (same_path p) (map path_of is) ≡ false
        → (b || list_any (same_path p) (map path_of is)) ≡ false
    by true same rest = absurd (absent (subst (Contains ps) (sym (path_exact p (path_of i) same)) (known zero i refl)))
    by false same rest = rest

-- one item more on both sides
both_longer : {A B : Type 0} (xs : List A) (ys : List B) (x : A) (y : B) → length xs ≡ length ys
    → length (xs ++ x ∷ []) ≡ length (ys ++ y ∷ [])
both_longer xs ys x y same = rw (length-append xs (x ∷ []), length-append ys (y ∷ [])) (omega (arith, same))

-- an item of a list with one more is an old one, where it stands in another list as long as the old one
still : {A B : Type 0} (xs : List A) (ys : List B) (x y : A) (z : B) (n : ℕ) → length xs ≡ length ys
    → slice_get (xs ++ x ∷ []) n ≡ Some y → slice_get ys n ≡ Some z → slice_get xs n ≡ Some y
still xs ys x y z n same at there = elim (get_appended xs x n y at) as (λ _. slice_get xs n ≡ Some y) [
  | inl old ↦ old
  | inr here ↦ let behind = here.0 in let within = slice_get_within ys n z there in
      absurd (omega (arith, behind, within, same))
]

module _ (g : ComponentDfg) (ps : List Path) (used : List (Option RuntimeImportIndex)) (are : AreUsed g ps used) where
  -- one path more, which isn't used yet
  pub used_with : (p : Path) → AreDistinct (ps ++ p ∷ []) → (Contains ps p → ⊥) → p.import < length g.import_types
      → AreUsed g (ps ++ p ∷ []) (used ++ None ∷ [])
  used_with p distinct absent there = record {
    room = both_longer used ps None p are.room;
    distinct = distinct;
    imports = λ n q at. elim (get_appended ps p n q at) as (λ _. q.import < length g.import_types) [
      | inl old ↦ are.imports n q old
      | inr here ↦ subst (λ (x : Path). x.import < length g.import_types) here.1 there
    ];
    numbers = λ n q r at has. elim (get_appended used None n (Some r) has)
        as (λ _. slice_get g.imports r.0 ≡ Some (record { 0 = q.import }, q.names)) [
          | inl old ↦ are.numbers n q r (still ps used p q (Some r) n (sym are.room) at old) old
          | inr here ↦ absurd (none-some r here.1)
        ];
    others = λ n q at free. elim (get_appended ps p n q at)
        as (λ _. list_any (same_path q) (map path_of g.imports) ≡ false) [
          | inl old ↦ are.others n q old (still used ps None None q n are.room free old)
          | inr here ↦ subst (λ x. list_any (same_path x) (map path_of g.imports) ≡ false) here.1
              (none_used ps p absent g.imports are.known)
        ];
    known = λ r i at. Contains-append_left ps (p ∷ []) (path_of i) (are.known r i at);
  }

  -- a path was taken in, and noted where it was new
  pub used_taken : (p : Path) (new : List Path) (id : PathId) (now : List (Option RuntimeImportIndex))
      → TakesIn p ps new id → AreDistinct new → p.import < length g.import_types → NotesPath new used now
      → AreUsed g new now
  used_taken p new id now takes distinct there notes = elim takes.grows as (λ _. AreUsed g new now) [
    | inl same ↦ subst (λ l. AreUsed g l now) (sym same.1) (subst (AreUsed g ps) (sym (held same.1)) are)
    | inr more ↦ subst (λ l. AreUsed g l now) (sym more.1)
        (subst (AreUsed g (ps ++ p ∷ [])) (sym (noted more.1))
        (used_with p (subst AreDistinct more.1 distinct) more.0 there))
  ]
    where
      held : new ≡ ps → now ≡ used
      held same = elim notes as (λ _. now ≡ used) [
        | inl longer ↦ let below = longer.0 in let room = are.room in let long = ap length same in
            absurd (omega (arith, below, room, long))
        | inr kept ↦ kept.1
      ]

      noted : new ≡ ps ++ p ∷ [] → now ≡ used ++ None ∷ []
      noted more = elim notes as (λ _. now ≡ used ++ None ∷ []) [
        | inl longer ↦ longer.1
        | inr kept ↦ let above = kept.0 in let room = are.room in let long = ap length more in
            let grown = length-append ps (p ∷ []) in absurd (omega (arith, above, room, long, grown))
      ]

-- paths stay where one was taken in
pub taken_kept : (p : Path) (ps new : List Path) (id : PathId) → TakesIn p ps new id → Kept ps new
taken_kept p ps new id takes = elim takes.grows as (λ _. Kept ps new) [
  | inl same ↦ subst (Kept ps) (sym same.1) (kept_refl ps)
  | inr more ↦ subst (Kept ps) (sym more.1) (append_kept ps (p ∷ []))
]

-- tables keep what they have where paths stay
pub paths_grown : (b : Tables) (ps : List Path) → Kept b.paths ps → Keeps b (record b { paths = ps })
paths_grown b ps kept =
    let same = keeps_refl b in
    record {
      types = same.types;
      graph = same.graph;
      fits = same.fits;
      cores = same.cores;
      definitions = same.definitions;
      closures = same.closures;
      instances = same.instances;
      paths = kept;
      bodies = same.bodies;
      names = same.names;
      table = same.table;
    }

-- a state is sound with other paths of which that is so, which are written in the same names and keep those that it has
pub sound_with : (old new : State) (ps : HeldPaths) → ps.names ≡ old.paths.names
    → new ≡ record old { paths = ps; used = new.used } → Kept old.paths.held ps.held
    → (AreUsed old.graph old.paths.held old.used.items → AreUsed old.graph ps.held new.used.items)
    → SoundWithPaths old new
sound_with old new ps same rest kept used t ms s = subst (IsSoundState t ms) (sym rest) (record {
  ordered = s.ordered;
  items = s.items;
  plain = s.plain;
  used = used s.used;
  numbers = s.numbers;
  held = s.held;
  table = s.table;
  bodies = s.bodies;
  names = record {
    modules = s.names.modules;
    table = s.names.table;
    bodies = s.names.bodies;
    distinct = s.names.distinct;
    paths = same ∙ s.names.paths;
  };
  members = s.members;
  instances = instances_kept ms (tables_of old) (record (tables_of old) { paths = ps.held })
      (paths_grown (tables_of old) ps.held kept) refl old.runtime_instances.items s.instances;
  widths = s.widths;
  placed = placed_kept t ms old (record old { paths = ps; used = new.used }) (paths_grown (tables_of old) ps.held kept)
      (kept_refl old.runtime_instances.items) refl s.placed;
})
