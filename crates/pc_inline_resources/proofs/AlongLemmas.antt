-- Resources become known one after another, as the reading finds them.
use Rattle.std.proofs.Common.{◌≡◌, ◌+◌, ℕ, zero, suc, List, [], ◌∷◌, drop, length, Option, None, Some, refl, sym, ap}
use Rattle.std.proofs.Common.{subst}
use Rattle.std.proofs.Common.{◌∙◌, arith}
use Rattle.std.specs.Prelude.{⊤, Result, Ok, Err, slice_get}
use Rattle.std.specs.Result.{result_err, result_ok}
use Rattle.std.proofs.lemmas.Option.{none-some, same_Some}
use Rattle.pc_numbers.specs.declared.runtime.ResourceIndex.{ResourceIndex}
use Rattle.pc_types.specs.declared.module_record.ModuleRecord.{ModuleRecord}
use Rattle.pc_types.specs.declared.parsed.TypeTable.{TypeTable}
use Rattle.pc_types.specs.TypeTree.{Identity}
use Rattle.pc_spec_reading.specs.Outcome.{Fault, bad_type, found}
use Rattle.pc_spec_reading.specs.Resource.{ResourcePath, along, going, knowing, through}
use Rattle.pc_spec_reading.specs.Scope.{Moment, with_known}
use Rattle.pc_inline_state.specs.declared.error.ItemError.{ItemError}
use Rattle.pc_inline_state.specs.declared.error.ItemError.TheVariants as item_error
use Rattle.pc_inline_state.specs.declared.error.ItemFault.TheVariants as item_fault
use Rattle.pc_inline_state.specs.declared.frame.Frame.{Frame}
use Rattle.pc_inline_state.specs.declared.state.State.{State}
use Rattle.pc_inline_state.specs.Faults.{fault_of}
use Rattle.pc_inline_state.specs.KnowsSame.{IsResource}
use Rattle.pc_inline_state.specs.Points.{Follows, PointStands, Steps}
use Rattle.pc_inline_state.proofs.ZipLemmas.{both_there, both_missing}
use Rattle.pc_inline_canon.proofs.StepLemmas.{steps_stuck}
use Rattle.pc_inline_resources.specs.declared.walked.Met.{Met}
use Rattle.pc_inline_resources.specs.Registers.{known_as, known_if, with_found}
use Rattle.pc_inline_resources.specs.Walked.{IsMet}

-- results that are the same have the same value
ok_same : {A E : Type 0} (x y : A) → ◌≡◌ {A = Result A E} (Ok x) (Ok y) → x ≡ y
ok_same x y same = same_Some x y (ap result_ok same)

-- a refusal is no value
err_ok : {A E B : Type 0} (e : E) (x : A) → ◌≡◌ {A = Result A E} (Err e) (Ok x) → B
err_ok e x same = absurd (none-some x (ap result_ok same))

-- the items from a place on begin with the one there
drop_there : {A : Type 0} (xs : List A) (i : ℕ) (x : A) → slice_get xs i ≡ Some x → drop i xs ≡ x ∷ drop (suc i) xs
drop_there [] i x at = absurd (none-some x at)
drop_there (y ∷ ys) zero x at = ap (λ z. z ∷ ys) (same_Some y x at)
drop_there (y ∷ ys) (suc i) x at = drop_there ys i x at

drop_at : {A : Type 0} (xs : List A) (i : ℕ) (x : A) → slice_get xs i ≡ Some x → drop i xs ≡ x ∷ drop (i + 1) xs
drop_at xs i x at =
    let next : suc i ≡ i + 1 = omega arith in
    subst (λ n. drop i xs ≡ x ∷ drop n xs) next (drop_there xs i x at)

-- past the end there are none
drop_all : {A : Type 0} (xs : List A) (i : ℕ) → i ≡ length xs → drop i xs ≡ []
drop_all xs i end = subst (λ n. drop n xs ≡ []) (sym end) (all xs)
  where
    all : {A : Type 0} (ys : List A) → drop (length ys) ys ≡ []
    all [] = refl
    all (y ∷ ys) = all ys

module _ (find : List (List ℕ) → Option Identity) where
  -- what is found at the end of names, or `BadType`
  abbrev pub finding : List (List ℕ) → Result Identity Fault
  finding names = found bad_type (find names) Ok

  -- what the reading makes of a moment as the resources at paths become known
  abbrev pub all_known : List ResourcePath → Moment → Result Moment Fault
  all_known ps now = with_found now (through (along finding ps now.scope.known))

  module _ (t : TypeTable) (ms : List ModuleRecord) (st : State) (f : Frame) (st' : State) (f' : Frame) (m : Met)
      (p : ResourcePath) (met : IsMet st.graph find m p) where
    -- the resource that was met is known
    pub met_steps : (r : ResourceIndex) → m.resource ≡ Some r → (y : Result ⊤ ItemError)
        → ((i : Identity) → IsResource st.graph r i → Steps t ms (known_as m.number i) st f st' f' y)
        → Steps t ms (known_if find p) st f st' f' y
    unfolding Steps known_if
    met_steps r is y steps =
        let x = both_there (IsResource st.graph) m.resource (find p.names) r met.1 is in
        λ now at. subst (λ z. Follows t ms st' f' z y)
        (sym (ap (λ o. found bad_type o (λ (i : Identity). known_as p.number i now)) x.1
        ∙ ap (λ n. known_as n x.0 now) (sym met.0)))
        (steps x.0 x.2 now at)

    -- none was met
    pub met_missing : m.resource ≡ None
        → Steps t ms (known_if find p) st f st' f' (Err (item_error.Fault item_fault.BadType))
    unfolding known_if
    met_missing is =
        let none = both_missing (IsResource st.graph) m.resource (find p.names) met.1 is in
        steps_stuck t ms (known_if find p) st f st' f' item_fault.BadType
        (λ now at. ap (λ o. found bad_type o (λ (i : Identity). known_as p.number i now)) none)

  module _ (t : TypeTable) (ms : List ModuleRecord) (ps : List ResourcePath) (now : Moment) where
    -- the first of the paths are known
    pub record OnTheWay (st : State) (f : Frame) (i : ℕ) : Type 0 where
      pub known : List (ℕ × Identity)
      pub stands : PointStands t ms st f (with_known now known)
      pub rest : along finding ps now.scope.known ≡ along finding (drop i ps) known

    -- none is
    pub way_begins : (st : State) (f : Frame) → PointStands t ms st f now → OnTheWay st f 0
    way_begins st f at = record { known = now.scope.known; stands = at; rest = refl }

    -- all are
    pub way_ends : (st : State) (f : Frame) (i : ℕ) → i ≡ length ps → OnTheWay st f i → (x : ⊤)
        → Follows t ms st f (all_known ps now) (Ok x)
    unfolding Follows
    way_ends st f i end way x = record {
      now = with_known now way.known;
      stands = way.stands;
      done = ap (λ r. with_found now (through r))
          (way.rest ∙ ap (λ qs. along finding qs way.known) (drop_all ps i end));
    }

    module _ (st : State) (f : Frame) (i : ℕ) (way : OnTheWay st f i) (p : ResourcePath)
        (at : slice_get ps i ≡ Some p) where
      -- the moment on the way
      abbrev here : Moment
      here = with_known now way.known

      -- the walk goes on with the next path
      goes : along finding ps now.scope.known
          ≡ going finding way.known p.number (finding p.names) (along finding (drop (i + 1) ps))
      goes = way.rest ∙ ap (λ qs. along finding qs way.known) (drop_at ps i p at)

      -- one more is
      pub way_goes : (st' : State) (f' : Frame) (x : ⊤) → Follows t ms st' f' (known_if find p here) (Ok x)
          → OnTheWay st' f' (i + 1)
      unfolding Follows known_if known_as
      way_goes st' f' x next = by (find p.names) refl next.done
        where
          by : (o : Option Identity) → find p.names ≡ o
              → found bad_type o (λ (id : Identity). known_as p.number id here) ≡ Ok next.now → OnTheWay st' f' (i + 1)
          by None is done = err_ok _ _ done
          by (Some id) is done = record {
            known = knowing way.known p.number id;
            stands = subst (PointStands t ms st' f') (sym (ok_same _ _ done)) next.stands;
            rest = goes ∙ ap (λ o. going finding way.known p.number (found bad_type o Ok)
                (along finding (drop (i + 1) ps))) is;
          }

      -- a fault is one, whatever it is instead of
      stuck : {A B : Type 0} {j k : Fault} → ◌≡◌ {A = Result A Fault} (Err j) (Err k)
          → ◌≡◌ {A = Result B Fault} (Err j) (Err k)
      stuck same = ap Err (same_Some _ _ (ap result_err same))

      -- or the walk ends there
      pub way_stops : (st' : State) (f' : Frame) (e : ItemError) → Follows t ms st' f' (known_if find p here) (Err e)
          → Follows t ms st' f' (all_known ps now) (Err e)
      unfolding Follows known_if known_as
      way_stops st' f' item_error.TooMany next = next
      way_stops st' f' item_error.NoMemory next = next
      way_stops st' f' (item_error.Fault k) next = by (find p.names) refl next
        where
          by : (o : Option Identity) → find p.names ≡ o
              → found bad_type o (λ (id : Identity). known_as p.number id here) ≡ Err (fault_of k)
              → all_known ps now ≡ Err (fault_of k)
          by None is done =
              ap (λ r. with_found now (through r))
              (goes ∙ ap (λ o. going finding way.known p.number (found bad_type o Ok)
              (along finding (drop (i + 1) ps))) is) ∙ stuck done
          by (Some id) is done = err_ok _ _ (sym done)
