-- The items of the root, one after the other.
use Rattle.std.proofs.Common.{◌≡◌, ◌≤◌, ◌+◌, ℕ, zero, suc, List, length, Some, Result, Ok, Err, refl, sym, ap, subst}
use Rattle.std.proofs.Common.{◌∙◌, arith}
use Rattle.std.specs.Prelude.{⊤, slice_get}
use Rattle.std.proofs.lemmas.Option.{none-some, same_Some}
use Rattle.pc_numbers.specs.declared.runtime.RuntimeComponentInstanceIndex.{RuntimeComponentInstanceIndex}
use Rattle.pc_types.specs.declared.error.Place.TheVariants as place
use Rattle.pc_types.specs.declared.module_record.ModuleRecord.{ModuleRecord}
use Rattle.pc_types.specs.declared.parsed.TypeTable.{TypeTable}
use Rattle.pc_spec_reading.specs.Item.{Item, Items, and_item, no_items}
use Rattle.pc_spec_reading.specs.Outcome.{Fault, Outcome, and_then, at_item, done}
use Rattle.pc_spec_reading.specs.Scope.{Moment}
use Rattle.pc_local.specs.declared.item.LocalInitializer.{LocalInitializer}
use Rattle.pc_local.specs.declared.item.Translation.{Translation}
use Rattle.pc_local.specs.Standing.{ItemStands, ItemsStand, Names, no_names, stand_more, stand_none}
use Rattle.pc_inline_state.specs.declared.error.ItemError.{ItemError}
use Rattle.pc_inline_state.specs.declared.error.ItemError.TheVariants as item_error
use Rattle.pc_inline_state.specs.declared.error.ItemFault.TheVariants as item_fault
use Rattle.pc_inline_state.specs.declared.frame.Frame.{Frame}
use Rattle.pc_inline_state.specs.declared.state.State.{State}
use Rattle.pc_inline_state.specs.Faults.{error_of}
use Rattle.pc_inline_state.specs.Points.{Follows, Goes, IsPoint, Steps}
use Rattle.pc_inline_stack.specs.Reads.{AreItems, Ends, Passes, SoFar, items_from}
use Rattle.pc_inline_state.specs.Tables.{Keeps, tables_of}
use Rattle.pc_inline_state.proofs.StateLemmas.{keeps_refl, keeps_trans}

-- the item at a place of a body
pub item_at : (bodies : List Translation) (names : Names) (ls : List LocalInitializer) (is : Items) (n : ℕ)
    (l : LocalInitializer) → ItemsStand bodies names ls is → slice_get ls n ≡ Some l
    → (i : Item) × ItemStands bodies names l i × (items_from n is ≡ and_item i (items_from (suc n) is))
item_at bodies names ls is n l stand_none at = absurd (none-some l at)
item_at bodies names ls is zero l (stand_more {l = k} {i = i} first rest) at =
    (i, subst (λ x. ItemStands bodies names x i) (same_Some k l at) first, refl)
item_at bodies names ls is (suc n) l (stand_more {ls = ks} {is = js} first rest) at =
    item_at bodies names ks js n l rest at

-- no items are left behind the last
pub none_left : (bodies : List Translation) (names : Names) (ls : List LocalInitializer) (is : Items) (n : ℕ)
    → length ls ≤ n → ItemsStand bodies names ls is → items_from n is ≡ no_items
none_left bodies names ls is zero end stand_none = refl
none_left bodies names ls is (suc n) end stand_none = refl
none_left bodies names ls is zero end (stand_more first rest) = absurd (omega (arith, end))
none_left bodies names ls is (suc n) end (stand_more {ls = ks} {is = js} first rest) =
    none_left bodies names ks js n (omega (arith, end)) rest

module _ (t : TypeTable) (ms : List ModuleRecord) where
  -- nothing was read yet
  pub read_none : (reads : ℕ → Items → Moment → Outcome Moment) (ls : List LocalInitializer) (st : State) (f : Frame)
      → IsPoint t ms st f → SoFar t ms reads ls 0 st f st f
  read_none reads ls st f point = record {
    point = point;
    place = refl;
    keeps = keeps_refl (tables_of st);
    goes = λ is now stand at. (now, at, refl);
  }

  module _ (reads : ℕ → Items → Moment → Outcome Moment) (ls : List LocalInitializer) (n : ℕ) (old : State) (f : Frame)
      (st : State) (g : Frame) (far : SoFar t ms reads ls n old f st g) (are : AreItems old.bodies.now ls)
      (l : LocalInitializer)
      (at : slice_get ls n ≡ Some l) where
    -- the reading of one item more, by its row
    abbrev pub ByRow : (Item → Moment → Result Moment Fault) → Type 0
    ByRow row = (i : Item) (is : Items) (now : Moment)
        → reads n (and_item i is) now ≡ and_then (at_item now.scope.component_instance n (row i now)) (reads (n + 1) is)

    module _ (row : Item → Moment → Result Moment Fault) (by : ByRow row) (st' : State) (g' : Frame) where
      -- the step of the item, by its row
      abbrev pub StepsRow : Result ⊤ ItemError → Type 0
      StepsRow r = (i : Item) → ItemStands st.bodies.now no_names l i → Steps t ms (row i) st g st' g' r

      stands_now : (i : Item) → ItemStands old.bodies.now no_names l i → ItemStands st.bodies.now no_names l i
      stands_now i stand = subst (λ bodies. ItemStands bodies no_names l i) (sym far.keeps.bodies) stand

      goes_on : (r : Result Moment Fault) → Follows t ms st' g' r (Ok tt) → Goes t ms st' g' r
      unfolding Follows
      goes_on r goes = goes

      -- it went on
      pub read_more : StepsRow (Ok tt) → Keeps (tables_of st) (tables_of st')
          → g'.component_instance ≡ g.component_instance → SoFar t ms reads ls (n + 1) old f st' g'
      unfolding Steps
      read_more steps keeps same =
          let item = item_at old.bodies.now no_names ls are.0 n l are.1 at in
          let first = goes_on (row item.0 far.point.0)
          (steps item.0 (stands_now item.0 item.1) far.point.0 far.point.1) in
          let one : n + 1 ≡ suc n = omega arith in
          record {
            point = (first.now, first.stands);
            place = same ∙ far.place;
            keeps = keeps_trans (tables_of old) (tables_of st) (tables_of st') far.keeps keeps;
            goes = λ is now stand start.
                let here = far.goes is now stand start in
                let x = item_at old.bodies.now no_names ls is n l stand at in
                let next = goes_on (row x.0 here.0) (steps x.0 (stands_now x.0 x.1) here.0 here.1) in
                let rest : items_from (suc n) is ≡ items_from (n + 1) is = ap (λ k. items_from k is) (sym one) in (
                  next.now,
                  next.stands,
                  here.2 ∙ ap (λ js. reads n js here.0) x.2
                      ∙ by x.0 (items_from (suc n) is) here.0
                      ∙ ap (λ o. and_then (at_item here.0.scope.component_instance n o)
                      (reads (n + 1) (items_from (suc n) is)))
                      next.done
                      ∙ ap (λ js. reads (n + 1) js next.now) rest,
                );
          }

      ends_at : (o : Outcome Moment) (e : ItemError) (c : ℕ) (is : Items) (r : Result Moment Fault)
          → Follows t ms st' g' r (Err e) → o ≡ and_then (at_item c n r) (reads (n + 1) is)
          → Ends t ms st' g' o (Err (error_of e (place.Reading c n)))
      unfolding Follows Ends
      ends_at o (item_error.Fault item_fault.Invalid) c is r follows eq = eq ∙ rw (follows) refl
      ends_at o (item_error.Fault item_fault.BadType) c is r follows eq = eq ∙ rw (follows) refl
      ends_at o (item_error.Fault item_fault.UnknownIntrinsic) c is r follows eq = eq ∙ rw (follows) refl
      ends_at o (item_error.Fault (item_fault.Unsupported u)) c is r follows eq = eq ∙ rw (follows) refl
      ends_at o item_error.TooMany c is r follows eq = follows
      ends_at o item_error.NoMemory c is r follows eq = tt

      -- it ended there
      pub read_fails : (e : ItemError) → StepsRow (Err e) → g'.component_instance ≡ g.component_instance
          → Passes t ms (reads 0) ls old f st' g' (Err (error_of e (place.Reading g'.component_instance.0 n)))
      unfolding Passes Steps
      read_fails e steps same is now stand start =
          let here = far.goes is now stand start in
          let x = item_at old.bodies.now no_names ls is n l stand at in
          let c : here.0.scope.component_instance ≡ g'.component_instance.0 =
          here.1.frame.component_instance ∙ ap (λ (k : RuntimeComponentInstanceIndex). k.0) (sym same) in
          subst (λ k. Ends t ms st' g' (reads 0 is now) (Err (error_of e (place.Reading k n)))) c
          (ends_at (reads 0 is now) e here.0.scope.component_instance (items_from (suc n) is) (row x.0 here.0)
          (steps x.0 (stands_now x.0 x.1) here.0 here.1)
          (here.2 ∙ ap (λ js. reads n js here.0) x.2
          ∙ by x.0 (items_from (suc n) is) here.0))

  -- all items were read
  pub read_all : (reads : ℕ → Items → Moment → Outcome Moment) (ls : List LocalInitializer) (old : State) (f : Frame)
      (st : State) (g : Frame) (n : ℕ) → SoFar t ms reads ls n old f st g → length ls ≤ n
      → ((now : Moment) → reads n no_items now ≡ done now) → (r : ⊤) → Passes t ms (reads 0) ls old f st g (Ok r)
  unfolding Passes Ends
  read_all reads ls old f st g n far end ends r is now stand start =
      let here = far.goes is now stand start in (
        here.0,
        here.2 ∙ ap (λ js. reads n js here.0) (none_left old.bodies.now no_names ls is n end stand) ∙ ends here.0,
        here.1,
      )
