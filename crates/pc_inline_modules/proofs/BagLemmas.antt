-- Core items by the numbers of names, of which the first of a name counts, and the core items of a component instance by
-- kind.
use Rattle.std.proofs.Common.{◌≡◌, ℕ, zero, suc, List, [], ◌∷◌, ◌++◌, Option, Some, None, refl, sym, ap}
use Rattle.std.proofs.Common.{subst, ◌∙◌}
use Rattle.std.specs.Prelude.{slice_get, option_and_then, option_map}
use Rattle.std.proofs.lemmas.Option.{none-some, same_Some}
use Rattle.pc_entity.specs.declared.string_pool.Atom.{Atom}
use Rattle.pc_entity.specs.Lists.{AreDistinct, map_all}
use Rattle.pc_entity.proofs.MapAll.{map_all-push}
use Rattle.pc_numbers.specs.declared.entity_index.EntityIndex.{EntityIndex}
use Rattle.pc_types.specs.declared.module_record.ModuleRecord.{ModuleRecord}
use Rattle.pc_types.specs.declared.parsed.CoreKind.{CoreKind}
use Rattle.pc_types.specs.declared.parsed.CoreKind.TheVariants as core
use Rattle.pc_types.specs.Record.{index_kind, index_number}
use Rattle.pc_spec_plan.specs.CoreValue.{CoreValue}
use Rattle.pc_parsed.specs.Mark.{Mark}
use Rattle.pc_spec_reading.specs.Modules.{bag_entry}
use Rattle.pc_spec_reading.specs.Scope.{CoreItem, Scope, core_list}
use Rattle.pc_inline_names.specs.Both.{Both, both}
use Rattle.pc_inline_names.specs.Numbers.{IsNumber, SameNamed, with_first_number}
use Rattle.pc_inline_names.proofs.NumberedLemmas.{named_first}
use Rattle.pc_inline_state.specs.declared.definition.CoreId.{CoreId}
use Rattle.pc_inline_state.specs.declared.frame.Frame.{Frame}
use Rattle.pc_inline_state.specs.Frames.{BagItemStands, FrameStands, ItemsStand}
use Rattle.pc_inline_state.specs.Lists.{core_ids}
use Rattle.pc_inline_state.specs.Stands.{ItemStands}
use Rattle.pc_inline_state.specs.Tables.{Tables}
use Rattle.pc_inline_state.proofs.ZipLemmas.{both_missing, both_there, zip_at}

-- a list one of whose items has no answer has none
pub map_all_missing : {A B : Type 0} (f : A → Option B) (xs : List A) (i : ℕ) (x : A) → slice_get xs i ≡ Some x
    → f x ≡ None → map_all f xs ≡ None
map_all_missing f [] i x at none = absurd (none-some x at)
map_all_missing f (y ∷ xs) zero x at none =
    ap (option_and_then (λ z. option_map (λ ys. z ∷ ys) (map_all f xs))) (ap f (same_Some y x at) ∙ none)
map_all_missing {A} {B} f (y ∷ xs) (suc i) x at none = rw (map_all_missing f xs i x at none) (by (f y))
  where
    by : (o : Option B) → option_and_then (λ (z : B). option_map (λ (ys : List B). z ∷ ys) None) o ≡ None
    by None = refl
    by (Some z) = refl

module _ {X A B : Type 0} (names : List (List ℕ)) (R : A → B → Type 0) (f : X → Option (List ℕ × B)) where
  -- a bag into which an item was put stands for the items with this one more, of which the first of a name counts
  pub bag_first : (bag : List (Atom × A)) (xs : List X) (x : X) (n : Atom) (k : List ℕ) (v : A) (w : B)
      → AreDistinct names → IsNumber names n k → Both (SameNamed names R) (Some bag) (map_all f xs)
      → f x ≡ Some (k, w) → R v w
      → Both (SameNamed names R) (Some (with_first_number bag n v)) (map_all f (xs ++ x ∷ []))
  bag_first bag xs x n k v w distinct named so_far is r =
      let e = both_there (SameNamed names R) (Some bag) (map_all f xs) bag so_far refl in
      subst (Both (SameNamed names R) (Some (with_first_number bag n v)))
      (sym (map_all-push f xs e.0 x (k, w) e.1 is))
      (both (named_first names R bag e.0 n k v w distinct named e.2 r))

module _ (ms : List ModuleRecord) (b : Tables) (f : Frame) (s : Scope) (stands : FrameStands ms b f s) where
  -- the core items of each kind
  items_stand : (k : CoreKind) → ItemsStand ms b k (core_ids f k) (core_list s k)
  items_stand core.Func = stands.core_funcs
  items_stand core.Table = stands.tables
  items_stand core.Memory = stands.memories
  items_stand core.Global = stands.globals
  items_stand core.Tag = stands.tags

  -- what a bag gets of an item: the core item that it names
  pub entry_there : (x : List ℕ × EntityIndex) (k : CoreKind) (ids : List CoreId) (n : ℕ) (id : CoreId)
      → k ≡ index_kind x.1 → ids ≡ core_ids f k → n ≡ index_number x.1 → slice_get ids n ≡ Some id
      → (y : CoreItem) × (bag_entry s x ≡ Some (x.0, y)) × BagItemStands ms b (k, id) y
  entry_there x k ids n id kind is number at =
      let found : slice_get (core_ids f (index_kind x.1)) (index_number x.1) ≡ Some id =
      (λ j. slice_get (core_ids f (sym kind j)) (sym number j)) ∙ ap (λ l. slice_get l n) (sym is) ∙ at in
      let v = both_there (ItemStands ms b (index_kind x.1)) _ _ id
      (zip_at (ItemStands ms b (index_kind x.1)) (core_ids f (index_kind x.1)) (core_list s (index_kind x.1))
      (index_number x.1) (items_stand (index_kind x.1))) found in (
        record { kind = index_kind x.1; value = v.0 },
        ap (option_map (λ (w : CoreValue Mark). (x.0, record { kind = index_kind x.1; value = w }))) v.1,
        record { kind = sym kind; item = subst (λ j. ItemStands ms b j id v.0) (sym kind) v.2 },
      )

  -- nothing, where there is none
  pub entry_missing : (x : List ℕ × EntityIndex) (k : CoreKind) (ids : List CoreId) (n : ℕ)
      → k ≡ index_kind x.1 → ids ≡ core_ids f k → n ≡ index_number x.1 → slice_get ids n ≡ None
      → bag_entry s x ≡ None
  entry_missing x k ids n kind is number at =
      let found : slice_get (core_ids f (index_kind x.1)) (index_number x.1) ≡ None =
      (λ j. slice_get (core_ids f (sym kind j)) (sym number j)) ∙ ap (λ l. slice_get l n) (sym is) ∙ at in
      ap (option_map (λ (w : CoreValue Mark). (x.0, record { kind = index_kind x.1; value = w })))
      (both_missing (ItemStands ms b (index_kind x.1)) _ _
      (zip_at (ItemStands ms b (index_kind x.1)) (core_ids f (index_kind x.1)) (core_list s (index_kind x.1))
      (index_number x.1) (items_stand (index_kind x.1))) found)
