-- What waits on the stack, and what is reached when the stack is empty.
use Rattle.std.proofs.Common.{◌≡◌, ◌++◌, inl, inr, ◌<◌, List, [], ◌∷◌, All, length, Option, None, Some, refl, sym, ap}
use Rattle.std.proofs.Common.{subst, ◌∙◌, arith}
use Rattle.std.proofs.lemmas.List.{append-nil, append_assoc}
use Rattle.std.proofs.lemmas.List.Elements.{All-nil, All-cons, All-append, All-push, All-weaker, All-contains_itself}
use Rattle.std.proofs.lemmas.List.Elements.{All-head}
use Rattle.std.proofs.lemmas.Option.{none-some}
use Rattle.std.specs.List.{Contains}
use Rattle.pc_info.specs.declared.module.ModuleTranslation.{ModuleTranslation}
use Rattle.pc_dfg.specs.declared.dfg.ComponentDfg.{ComponentDfg}
use Rattle.pc_dfg.specs.Ordered.{IsOrdered}
use Rattle.pc_dfg_linearize.specs.declared.id.Id.{Id}
use Rattle.pc_dfg_linearize.specs.declared.id.Task.{Task}
use Rattle.pc_dfg_linearize.specs.declared.id.Task.TheVariants as task
use Rattle.pc_dfg_linearize.specs.declared.state.Finish.{Finish}
use Rattle.pc_dfg_linearize.specs.Closed.{Closed, Continues, Fits, Valued}
use Rattle.pc_dfg_linearize.specs.Grouped.{IsGrouped}
use Rattle.pc_dfg_linearize.specs.Once.{OnlyFrom}
use Rattle.pc_dfg_linearize.specs.Added.{IsFull}
use Rattle.pc_dfg_linearize.specs.Outgrown.{IsLeftOver, Outgrows}
use Rattle.pc_dfg_linearize.specs.Parts.{HasNumber, number_of, parts}
use Rattle.pc_dfg_linearize.specs.Reached.{GoesOn}
use Rattle.pc_dfg_linearize.specs.Ready.{CanClose, IsReady, Leads, here, through}
use Rattle.pc_dfg_linearize.specs.Stack.{id_of, opens, CanTake, Takes, Settled, IsLess, Awaits, Waits, LeadsTo, Ongoing}
use Rattle.pc_dfg_linearize.specs.Wired.{IsWired}
use Rattle.pc_dfg_linearize.specs.Work.{far, work}
use Rattle.pc_dfg_linearize.proofs.ContinueLemmas.{continues_refl, continues_then, goes_refl, goes_then}
use Rattle.pc_dfg_linearize.proofs.FullLemmas.{full_too_many}
use Rattle.pc_dfg_linearize.proofs.PartLemmas.{all_one, all_left, all_right}
use Rattle.pc_dfg_linearize.proofs.ValueLemmas.{valued}
use Rattle.pc_dfg_linearize.proofs.WorkLemmas.{alike_work, leads_less, parts_less}

-- what has its number is settled, whatever is on the stack
settled_kept : (f : Finish) (ts : List Task) (x : Id) → HasNumber f x → Settled f ts x
unfolding Settled
settled_kept f [] x has = has
settled_kept f (t ∷ ts) x has = inr (settled_kept f ts x has)

-- what is settled stays so where more is put on top
settled_front : (f : Finish) (ts us : List Task) (x : Id) → Settled f ts x → Settled f (ts ++ us) x
unfolding Settled
settled_front f [] us x has = settled_kept f us x has
settled_front f (t ∷ ts) us x (inl e) = inl e
settled_front f (t ∷ ts) us x (inr above) = inr (settled_front f ts us x above)

-- what is on top is settled
settled_top : (f : Finish) (ts : List Task) (x : Id) → Settled f (ts ++ task.Open x ∷ []) x
unfolding Settled
settled_top f [] x = inl refl
settled_top f (t ∷ ts) x = inr (settled_top f ts x)

-- ids that are to be opened are settled
opens_settle : (f : Finish) (xs : List Id) → All (Settled f (opens xs)) xs
opens_settle f [] = All-nil (Settled f [])
opens_settle f (x ∷ xs) =
    let more : (y : Id) → Settled f (opens xs) y → Settled f (opens (x ∷ xs)) y =
    λ y here. settled_front f (opens xs) (task.Open x ∷ []) y here in
    All-cons (Settled f (opens (x ∷ xs))) x xs (settled_top f (opens xs) x)
    (All-weaker (Settled f (opens xs)) (Settled f (opens (x ∷ xs))) more xs (opens_settle f xs))

-- what holds of ids holds of the tasks that open them
opens_all : (P : Id → Type 0) (xs : List Id) → All P xs → All (λ t. P (id_of t)) (opens xs)
opens_all P [] all = All-nil (λ t. P (id_of t))
opens_all P (x ∷ xs) all =
    let Q : Task → Type 0 = λ t. P (id_of t) in
    All-push Q (opens xs) (task.Open x) (opens_all P xs (all_right P (x ∷ []) xs all)) (All-head P x xs all)

-- what leads to an id leads to its parts
leads_on : (g : ComponentDfg) (x y z : Id) → Leads g x y → Contains (parts g y) z → Leads g x z
leads_on g x y z here inside = through inside here
leads_on g x y z (through {y = w} first leads) inside = through first (leads_on g w y z leads inside)

-- what leads to an id leads to what that leads to
leads_then : (g : ComponentDfg) (x y z : Id) → Leads g x y → Leads g y z → Leads g x z
leads_then g x y z here leads = leads
leads_then g x y z (through {y = w} first others) leads = through first (leads_then g w y z others leads)

parts_led : (g : ComponentDfg) (root x : Id) → Leads g root x → All (Leads g root) (parts g x)
parts_led g root x leads =
    All-weaker (Contains (parts g x)) (Leads g root) (λ y inside. leads_on g root x y leads inside) (parts g x)
    (All-contains_itself (parts g x))

-- nothing is there where something would be absurd
none_there : {A : Type 0} (o : Option A) → ((x : A) → o ≡ Some x → ⊥) → o ≡ None
none_there None never = refl
none_there (Some x) never = absurd (never x refl)

-- what gets no number has what it had
pub only_nothing : (g : ComponentDfg) (f : Finish) (x : Id) → OnlyFrom g f f x
only_nothing g f x y has = inl has

-- what one id leads to, and then what another one does that the first leads to
pub only_then : (g : ComponentDfg) (a b c : Finish) (x y : Id) → Leads g x y → OnlyFrom g a b x → OnlyFrom g b c y
    → OnlyFrom g a c x
only_then g a b c x y leads first second z has =
    elim (second z has) [
      | inl before ↦ first z before
      | inr used ↦ inr (used.0, leads_then g x y used.0 leads used.1, used.2)
    ]

module _ (g : ComponentDfg) (ordered : IsOrdered g) (grouped : IsGrouped g) where
  opens_wait : (f : Finish) (xs : List Id) (us : List Task) → Waits g f us → Waits g f (opens xs ++ us)
  unfolding Waits Awaits
  opens_wait f [] us waits = waits
  opens_wait f (x ∷ xs) us waits =
      subst (Waits g f) (sym (append_assoc (opens xs) (task.Open x ∷ []) us))
      (opens_wait f xs (task.Open x ∷ us) (tt, waits))

  -- an id that is to be closed, with its parts above it
  begun_waits : (f : Finish) (x : Id) → number_of f x ≡ None → Waits g f (task.Close x ∷ opens (parts g x))
  unfolding Waits Awaits
  begun_waits f x none = (
    record {
      parts = opens_settle f (parts g x);
      fresh = none;
      less = opens_all (λ y. work g (far g) y < work g (far g) x) (parts g x) (parts_less g ordered grouped x);
    },
    subst (Waits g f) (append-nil (opens (parts g x))) (opens_wait f (parts g x) [] tt),
  )

  -- the task on top has what it waits for
  top_awaits : (f : Finish) (rest : List Task) (t : Task) → Waits g f (rest ++ t ∷ []) → Awaits g f t []
  unfolding Waits
  top_awaits f [] t waits = waits.0
  top_awaits f (u ∷ rest) t waits = top_awaits f rest t waits.1

  -- what takes the place of a task on top, where the plan was made further
  record Replaces (f f' : Finish) (t : Task) (more : List Task) : Type 0 where
    pub continues : Continues g f f'
    pub covers : Settled f' more (id_of t)
    pub waits : Waits g f' more
    pub led : All (LeadsTo g (id_of t)) more
    pub only : OnlyFrom g f f' (id_of t)
    pub goes : (ms : List ModuleTranslation) → IsWired g ms → Valued g (id_of t) → GoesOn g ms f f'

  module _ (f f' : Finish) (t : Task) (more : List Task) (by : Replaces f f' t more) where
    -- what is settled stays so
    settled_more : (rest : List Task) (x : Id) → Settled f (rest ++ t ∷ []) x → Settled f' (rest ++ more) x
    unfolding Settled
    settled_more [] x (inl e) = subst (Settled f' more) e by.covers
    settled_more [] x (inr has) = settled_kept f' more x (by.continues.numbered x has)
    settled_more (u ∷ rest) x (inl e) = inl e
    settled_more (u ∷ rest) x (inr above) = inr (settled_more rest x above)

    -- what leads to more work gets no number
    still_fresh : (x : Id) → IsLess g x t → number_of f x ≡ None → number_of f' x ≡ None
    still_fresh x less none =
        none_there (number_of f' x) (λ n e.
        elim (by.only x (n, e)) [
          | inl has ↦ none-some has.0 (sym none ∙ has.1)
          | inr used ↦ absurd (omega (
            arith,
            less,
            leads_less g ordered grouped (id_of t) used.0 used.1,
            alike_work g ordered grouped used.0 x used.2,
          ))
        ])

    still_less : (x : Id) (rest : List Task) → All (IsLess g x) (rest ++ t ∷ []) → All (IsLess g x) (rest ++ more)
    still_less x rest less =
        let here = All-head (IsLess g x) t [] (all_right (IsLess g x) rest (t ∷ []) less) in
        let lower : (u : Task) → LeadsTo g (id_of t) u → IsLess g x u =
        λ u leads. omega (arith, here, leads_less g ordered grouped (id_of t) (id_of u) leads) in
        All-append (IsLess g x) rest more (all_left (IsLess g x) rest (t ∷ []) less)
        (All-weaker (LeadsTo g (id_of t)) (IsLess g x) lower more by.led)

    awaits_more : (u : Task) (rest : List Task) → Awaits g f u (rest ++ t ∷ []) → Awaits g f' u (rest ++ more)
    unfolding Awaits
    awaits_more (task.Open x) rest awaits = tt
    awaits_more (task.Close x) rest awaits = record {
      parts = All-weaker (Settled f (rest ++ t ∷ [])) (Settled f' (rest ++ more)) (settled_more rest) (parts g x)
          awaits.parts;
      fresh =
          still_fresh x (All-head (IsLess g x) t [] (all_right (IsLess g x) rest (t ∷ []) awaits.less)) awaits.fresh;
      less = still_less x rest awaits.less;
    }

    waits_more : (rest : List Task) → Waits g f (rest ++ t ∷ []) → Waits g f' (rest ++ more)
    unfolding Waits
    waits_more [] waits = by.waits
    waits_more (u ∷ rest) waits = (awaits_more u rest waits.0, waits_more rest waits.1)

  -- an id with its number is passed over
  passed : (f : Finish) (x : Id) → Fits g f → HasNumber f x → Replaces f f (task.Open x) []
  unfolding Settled Waits
  passed f x fits has = record {
    continues = continues_refl g f fits;
    covers = has;
    waits = tt;
    led = All-nil (LeadsTo g x);
    only = only_nothing g f x;
    goes = λ ms wired v. goes_refl g ms f;
  }

  -- any other is to be closed, with its parts above it
  begun : (f : Finish) (x : Id) → Fits g f → number_of f x ≡ None
      → Replaces f f (task.Open x) (task.Close x ∷ opens (parts g x))
  unfolding Settled
  begun f x fits none = record {
    continues = continues_refl g f fits;
    covers = inl refl;
    waits = begun_waits f x none;
    led = All-cons (LeadsTo g x) (task.Close x) (opens (parts g x)) here
        (opens_all (Leads g x) (parts g x) (parts_led g x x here));
    only = only_nothing g f x;
    goes = λ ms wired v. goes_refl g ms f;
  }

  -- an id that is closed leaves the stack
  closed : (f f' : Finish) (x : Id) → Closed g f f' x → Replaces f f' (task.Close x) []
  unfolding Settled Waits
  closed f f' x by = record {
    continues = by.continues;
    covers = by.here;
    waits = tt;
    led = All-nil (LeadsTo g x);
    only = by.only;
    goes = by.goes;
  }

  module _ (old : Finish) (root : Id) (ready : IsReady g (length old.instances) root) where
    -- each move of the loop is of this form
    replaced : (f f' : Finish) (rest more : List Task) (t : Task) → Replaces f f' t more
        → Ongoing g old f root (rest ++ t ∷ []) → Ongoing g old f' root (rest ++ more)
    replaced f f' rest more t by on =
        let leads = All-head (LeadsTo g root) t [] (all_right (LeadsTo g root) rest (t ∷ []) on.led) in
        let value = valued g ordered (length old.instances) (id_of t) (ready (id_of t) leads) in
        let lower : (u : Task) → LeadsTo g (id_of t) u → LeadsTo g root u =
        λ u next. leads_then g root (id_of t) (id_of u) leads next in
        record {
          continues = continues_then g old f f' on.continues by.continues;
          settled = settled_more f f' t more by rest root on.settled;
          waits = waits_more f f' t more by rest on.waits;
          led = All-append (LeadsTo g root) rest more (all_left (LeadsTo g root) rest (t ∷ []) on.led)
              (All-weaker (LeadsTo g (id_of t)) (LeadsTo g root) lower more by.led);
          only = only_then g old f f' root (id_of t) leads on.only by.only;
          goes = λ ms wired. goes_then g ms old f f' (on.goes ms wired) (by.goes ms wired value);
        }

    -- one turn of the loop
    pub ongoing_turn : (f f' : Finish) (tasks rest new : List Task) (t : Task) → tasks ≡ rest ++ t ∷ []
        → Takes g f f' rest new t → Ongoing g old f root tasks → Ongoing g old f' root new
    ongoing_turn f f' tasks rest new (task.Open x) is (same, inl (has, e)) on =
        let before = subst (Ongoing g old f root) is on in
        let after = replaced f f rest [] (task.Open x) (passed f x before.continues.fits has) before in
        subst (λ h. Ongoing g old h root new) (sym same)
        (subst (Ongoing g old f root) (append-nil rest ∙ sym e) after)
    ongoing_turn f f' tasks rest new (task.Open x) is (same, inr (none, e)) on =
        let before = subst (Ongoing g old f root) is on in
        let more = task.Close x ∷ opens (parts g x) in
        let after = replaced f f rest more (task.Open x) (begun f x before.continues.fits none) before in
        subst (λ h. Ongoing g old h root new) (sym same) (subst (Ongoing g old f root) (sym e) after)
    ongoing_turn f f' tasks rest new (task.Close x) is (same, by) on =
        let before = subst (Ongoing g old f root) is on in
        let after = replaced f f' rest [] (task.Close x) (closed f f' x by) before in
        subst (Ongoing g old f' root) (append-nil rest ∙ sym same) after

    -- the task on top can be done
    pub ongoing_can : (f : Finish) (tasks rest : List Task) (t : Task) → tasks ≡ rest ++ t ∷ []
        → Ongoing g old f root tasks → CanTake g f t
    unfolding Awaits Settled
    ongoing_can f tasks rest (task.Open x) is on = tt
    ongoing_can f tasks rest (task.Close x) is on =
        let before = subst (Ongoing g old f root) is on in
        let top = task.Close x ∷ [] in
        let leads = All-head (LeadsTo g root) (task.Close x) [] (all_right (LeadsTo g root) rest top before.led) in
        let waits = top_awaits f rest (task.Close x) before.waits in
        let can = subst (λ is. CanClose g (length is) x) (sym before.continues.instances) (ready x leads) in
        (waits.fresh, can, waits.parts)

    -- at first there is one id to be opened
    pub ongoing_start : (tasks : List Task) → tasks ≡ task.Open root ∷ [] → Fits g old → Ongoing g old old root tasks
    unfolding Settled Waits Awaits
    ongoing_start tasks is fits =
        let start : Ongoing g old old root (task.Open root ∷ []) = record {
          continues = continues_refl g old fits;
          settled = inl refl;
          waits = (tt, tt);
          led = all_one (LeadsTo g root) (task.Open root) here;
          only = only_nothing g old root;
          goes = λ ms wired. goes_refl g ms old;
        } in
        subst (Ongoing g old old root) (sym is) start

    -- when the stack is empty, the id has its number
    pub ongoing_end : (f : Finish) (tasks : List Task) → tasks ≡ [] → Ongoing g old f root tasks → Closed g old f root
    unfolding Settled
    ongoing_end f tasks is on =
        let end = subst (Ongoing g old f root) is on in
        record {
          continues = end.continues;
          here = end.settled;
          only = end.only;
          goes = λ ms wired value. end.goes ms wired;
        }

-- an id that can be closed but for the list of its numbers, which is full, is left over
pub left_over : (g : ComponentDfg) (f : Finish) (t : Task) (x : Id) → CanTake g f t → t ≡ task.Close x → IsFull f x
    → IsLeftOver g f (id_of t)
left_over g f t x can is full =
    subst (λ u. CanTake g f u → IsLeftOver g f (id_of u)) (sym is)
    (λ close. record { fresh = close.0; can = close.1; full = full }) can

-- where a list is full on the way, the graph has too many entries
pub ongoing_full : (g : ComponentDfg) (old f : Finish) (root x : Id) (tasks : List Task)
    → Ongoing g old f root tasks → IsLeftOver g f x → Outgrows g old
ongoing_full g old f root x tasks on left fills made =
    let later = on.continues in
    full_too_many g f later.fits (later.fills fills) (omega (arith, made, ap length later.instances)) x left

-- nothing is on an empty stack
pub emptied : (tasks : List Task) → length tasks ≡ 0 → tasks ≡ []
emptied [] none = refl
emptied (t ∷ tasks) none = absurd (omega (arith, none))
