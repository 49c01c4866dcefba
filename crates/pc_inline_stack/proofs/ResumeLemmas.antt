-- How the reading goes on with the component instances that wait, item by item.
use Rattle.std.proofs.Common.{◌≡◌, ◌<◌, ◌+◌, ℕ, suc, List, [], ◌∷◌, Bool, true, false, Result, Ok, Err, length, refl}
use Rattle.std.proofs.Common.{ap, ◌∙◌, arith, if◌then◌else◌}
use Rattle.std.specs.Prelude.{◌-◌, nat_lt}
use Rattle.pc_types.specs.declared.error.Place.{Place}
use Rattle.pc_types.specs.declared.error.Place.TheVariants as place
use Rattle.pc_types.specs.declared.module_record.ModuleRecord.{ModuleRecord}
use Rattle.pc_types.specs.declared.parsed.TypeTable.{TypeTable}
use Rattle.pc_spec_reading.specs.Components.{Call, read_return, read_call}
use Rattle.pc_spec_reading.specs.Item.{ArgumentOf, Item, Items, and_item, exports_in, instantiate_component_item}
use Rattle.pc_spec_reading.specs.Item.{no_items}
use Rattle.pc_spec_reading.specs.Items.{exports_at}
use Rattle.pc_spec_reading.specs.Outcome.{Fault, Outcome, and_then, at_item, done, fault, over, past}
use Rattle.pc_spec_reading.specs.Reading.{Enter, Return, beginning, begun_in, returning, read_items, read_body}
use Rattle.pc_spec_reading.specs.Reading.{read_child, enter_at, read_item}
use Rattle.pc_spec_reading.specs.Rows.{read_row}
use Rattle.pc_spec_reading.specs.Scope.{Moment, fresh}
use Rattle.pc_spec_reading.specs.Total.{body_weight}
use Rattle.pc_spec_reading.specs.Value.{Chain, closed}
use Rattle.pc_spec_reading.specs.World.{World, grown, has_room}
use Rattle.pc_local.specs.Standing.{Names}
use Rattle.pc_inline_stack.specs.Reads.{items_from}
use Rattle.pc_inline_stack.specs.Stacks.{Reader, Waiting, going_on, levels, reads_on, resume}
use Rattle.pc_inline_stack.proofs.RowItemLemmas.{call_item, is_instantiation, item_is_row}
use Rattle.pc_inline_stack.proofs.ThenLemmas.{begun_world, beginning_then, then_then}

-- one that waits for a child of this type at an item
abbrev pub waits_at : Reader → (item ty : ℕ) → Waiting
waits_at r n ty = record { reader = r; item = n; ty = ty }

-- a child of which nothing was read yet, of a component with this body
abbrev pub child_of : Reader → World → Call → Names → Items → Chain → Reader
child_of r w c names body chain = record {
  scope = fresh c.arguments r.scope.known chain w.begun;
  names = names;
  body = body;
}

module _ {A : Type 0} (limit weight : ℕ) (w : World) (go : World → Outcome A) where
  -- a component instance begins
  pub begins : nat_lt w.begun limit ≡ true → has_room (grown w.total (1 + weight)) ≡ true
      → beginning limit weight w go ≡ go (begun_world weight w)
  begins below room = rw (below, room) refl

  -- as many as the limit have begun
  pub begins_over : nat_lt w.begun limit ≡ false → beginning limit weight w go ≡ over
  begins_over above = rw (above) refl

  -- the total is too much
  pub begins_past : nat_lt w.begun limit ≡ true → has_room (grown w.total (1 + weight)) ≡ false
      → beginning limit weight w go ≡ past
  begins_past below full = rw (below, full) refl

module _ (t : TypeTable) (ms : List ModuleRecord) (limit : ℕ) where
  -- a fault passes all that waits
  resume_fault : (ws : List Waiting) (body : Items) (k : Fault) (p : Place)
      → resume t ms limit ws body (fault k p) ≡ fault k p
  unfolding resume
  resume_fault [] body k p = refl
  resume_fault (w ∷ ws) body k p = resume_fault ws w.reader.body k p

  -- so does the limit
  resume_over : (ws : List Waiting) (body : Items) → resume t ms limit ws body over ≡ over
  unfolding resume
  resume_over [] body = refl
  resume_over (w ∷ ws) body = resume_over ws w.reader.body

  -- and the total
  resume_past : (ws : List Waiting) (body : Items) → resume t ms limit ws body past ≡ past
  unfolding resume
  resume_past [] body = refl
  resume_past (w ∷ ws) body = resume_past ws w.reader.body

  -- what waits goes on where a component instance begins
  resume_beginning : (ws : List Waiting) (body : Items) (weight : ℕ) (w : World) (go : World → Outcome Moment)
      → resume t ms limit ws body (beginning limit weight w go)
      ≡ beginning limit weight w (λ v. resume t ms limit ws body (go v))
  resume_beginning ws body weight w go =
      by (nat_lt w.begun limit) (has_room (grown w.total (1 + weight))) (go (begun_world weight w))
    where
      by : (b c : Bool) (o : Outcome Moment)
          → resume t ms limit ws body (if b then (if c then o else past) else over)
          ≡ (if b then (if c then resume t ms limit ws body o else past) else over)
      by true true o = refl
      by true false o = resume_past ws body
      by false c o = resume_over ws body

  module _ (ws : List Waiting) (r : Reader) (n : ℕ) (w : World) where
    abbrev here : Moment
    here = record { scope = r.scope; world = w }

    abbrev enters : Enter
    enters = enter_at t ms limit (levels t ms limit ws)

    abbrev the_rest : Moment → Outcome Moment
    the_rest = read_items t ms enters (n + 1) (items_from (n + 1) r.body)

    abbrev number : ℕ
    number = r.scope.component_instance

    -- nothing is read where the items end
    rest_none : items_from n r.body ≡ no_items → read_items t ms enters n (items_from n r.body) here ≡ done here
    unfolding read_items
    rest_none none = ap (λ is. read_items t ms enters n is here) none

    -- the innermost reads an item
    pub item_on : (i : Item) → items_from n r.body ≡ and_item i (items_from (suc n) r.body)
        → reads_on t ms limit ws r n w
        ≡ resume t ms limit ws r.body (and_then (read_item t ms enters n i here) the_rest)
    unfolding read_items
    item_on i at =
        let one : suc n ≡ n + 1 = omega arith in
        ap (λ is. resume t ms limit ws r.body (read_items t ms enters n is here)) at
        ∙ ap (λ k. resume t ms limit ws r.body (and_then (read_item t ms enters n i here)
        (read_items t ms enters (n + 1) (items_from k r.body)))) one

    module _ (i : Item) (at : items_from n r.body ≡ and_item i (items_from (suc n) r.body)) where
      row_item : is_instantiation i ≡ false → (x : Result Moment Fault) → read_row t ms here i ≡ x
          → reads_on t ms limit ws r n w
          ≡ resume t ms limit ws r.body (and_then (at_item number n x) the_rest)
      row_item is x read =
          item_on i at
          ∙ ap (λ o. resume t ms limit ws r.body (and_then o the_rest))
          (item_is_row t ms enters n i here is ∙ ap (at_item number n) read)

      -- a row is read
      pub row_on : is_instantiation i ≡ false → (next : Moment) → read_row t ms here i ≡ Ok next
          → reads_on t ms limit ws r n w
          ≡ reads_on t ms limit ws (record r { scope = next.scope }) (n + 1) next.world
      row_on is next read = row_item is (Ok next) read

      -- or it is refused
      pub row_refused : is_instantiation i ≡ false → (k : Fault) → read_row t ms here i ≡ Err k
          → reads_on t ms limit ws r n w ≡ fault k (place.Reading number n)
      row_refused is k read =
          row_item is (Err k) read ∙ resume_fault ws r.body k (place.Reading number n)

    module _ (component : ℕ) (args : List ArgumentOf) (ty : ℕ)
        (at : items_from n r.body
        ≡ and_item (instantiate_component_item component args ty) (items_from (suc n) r.body)) where
      call_on : (x : Result Call Fault) → read_call t r.scope component args ty ≡ x
          → reads_on t ms limit ws r n w
          ≡ resume t ms limit ws r.body (and_then (and_then (at_item number n x) (λ (c : Call).
          and_then (enters c r.scope.known w) (λ (b : Return).
          at_item number n (read_return t (record { scope = r.scope; world = b.world }) b.exports ty)))) the_rest)
      call_on x read =
          item_on (instantiate_component_item component args ty) at
          ∙ ap (λ o. resume t ms limit ws r.body (and_then o the_rest))
          (call_item t ms enters n component args ty here x read)

      -- one whose child can't begin is refused
      pub call_refused : (k : Fault) → read_call t r.scope component args ty ≡ Err k
          → reads_on t ms limit ws r n w ≡ fault k (place.Reading number n)
      call_refused k read = call_on (Err k) read ∙ resume_fault ws r.body k (place.Reading number n)

      -- what is read when its child is done
      call_waits : (c : Call) → read_call t r.scope component args ty ≡ Ok c
          → reads_on t ms limit ws r n w
          ≡ resume t ms limit ws r.body (and_then (enters c r.scope.known w) (going_on t ms limit ws (waits_at r n ty)))
      call_waits c read =
          call_on (Ok c) read
          ∙ ap (resume t ms limit ws r.body)
          (then_then (enters c r.scope.known w) (λ (b : Return).
          at_item number n (read_return t (record { scope = r.scope; world = b.world }) b.exports ty)) the_rest)

      child_reads : (c : Call) (body : Items) (chain : Chain) → c.component ≡ closed body chain → length ws < limit
          → enters c r.scope.known w
          ≡ read_body t ms limit (enter_at t ms limit (levels t ms limit (waits_at r n ty ∷ ws))) body
          chain
          c.arguments r.scope.known w
      unfolding enter_at
      child_reads c body chain is deep =
          let one : limit - length ws ≡ suc (limit - suc (length ws)) = omega (arith, deep) in
          ap (λ l. enter_at t ms limit l c r.scope.known w) one
          ∙ ap (λ x. read_child t ms limit (enter_at t ms limit
          (levels t ms limit (waits_at r n ty ∷ ws))) x
          c.arguments r.scope.known w) is

      -- a child begins
      pub child_begins : (c : Call) → read_call t r.scope component args ty ≡ Ok c → (names : Names)
          (body : Items) (chain : Chain) → c.component ≡ closed body chain → length ws < limit
          → reads_on t ms limit ws r n w
          ≡ beginning limit (body_weight t ms body) w
          (reads_on t ms limit (waits_at r n ty ∷ ws) (child_of r w c names body chain) 0)
      unfolding read_body resume
      child_begins c read names body chain closes deep =
          let e = enter_at t ms limit (levels t ms limit (waits_at r n ty ∷ ws)) in
          let begun : World → Outcome Return = λ v.
          and_then (read_items t ms e 0 body (begun_in c.arguments r.scope.known chain w.begun v))
          (returning t body) in
          call_waits c read
          ∙ ap (λ o. resume t ms limit ws r.body (and_then o (going_on t ms limit ws (waits_at r n ty))))
          (child_reads c body chain closes deep)
          ∙ ap (resume t ms limit ws r.body)
          (beginning_then limit (body_weight t ms body) w begun (going_on t ms limit ws (waits_at r n ty)))
          ∙ resume_beginning ws r.body (body_weight t ms body) w (λ v.
          and_then (begun v) (going_on t ms limit ws (waits_at r n ty)))

  -- the items of the root have been read
  pub root_ends : (r : Reader) (n : ℕ) (v : World) → items_from n r.body ≡ no_items
      → reads_on t ms limit [] r n v ≡ done (record { scope = r.scope; world = v })
  unfolding resume
  root_ends r n v none = rest_none [] r n v none

  module _ (w : Waiting) (ws : List Waiting) where
    -- the items of a child have been read: what waits for it goes on
    pub child_ends : (r : Reader) (n : ℕ) (v : World) → items_from n r.body ≡ no_items
        → reads_on t ms limit (w ∷ ws) r n v
        ≡ resume t ms limit ws w.reader.body (going_on t ms limit ws w
        (record { exports = exports_at t r.scope (exports_in r.body); world = v }))
    unfolding resume
    child_ends r n v none =
        ap (resume t ms limit (w ∷ ws) r.body) (rest_none (w ∷ ws) r n v none)

    module _ (b : Return) where
      abbrev returned : Result Moment Fault
      returned = read_return t (record { scope = w.reader.scope; world = b.world }) b.exports w.ty

      -- it has what the child gave back
      pub return_on : (next : Moment) → returned ≡ Ok next
          → resume t ms limit ws w.reader.body (going_on t ms limit ws w b)
          ≡ reads_on t ms limit ws (record w.reader { scope = next.scope }) (w.item + 1) next.world
      return_on next read =
          ap (λ x. resume t ms limit ws w.reader.body (and_then (at_item w.reader.scope.component_instance w.item x)
          (read_items t ms (enter_at t ms limit (levels t ms limit ws)) (w.item + 1)
          (items_from (w.item + 1) w.reader.body)))) read

      -- it hasn't
      pub return_refused : (k : Fault) → returned ≡ Err k
          → resume t ms limit ws w.reader.body (going_on t ms limit ws w b)
          ≡ fault k (place.Reading w.reader.scope.component_instance w.item)
      return_refused k read =
          ap (λ x. resume t ms limit ws w.reader.body (and_then (at_item w.reader.scope.component_instance w.item x)
          (read_items t ms (enter_at t ms limit (levels t ms limit ws)) (w.item + 1)
          (items_from (w.item + 1) w.reader.body)))) read
          ∙ resume_fault ws w.reader.body k (place.Reading w.reader.scope.component_instance w.item)
