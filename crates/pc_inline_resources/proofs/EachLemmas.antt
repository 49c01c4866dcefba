-- The numbers that were met become known one after another.
use Rattle.std.proofs.Common.{◌≡◌, ◌+◌, ℕ, List, length, Option, Some, sym, ap, subst, ◌∙◌}
use Rattle.std.specs.Prelude.{⊤, Result, Ok, Err, slice_get}
use Rattle.std.specs.List.{AllZip}
use Rattle.std.specs.Result.{IsErrAnd}
use Rattle.pc_types.specs.declared.module_record.ModuleRecord.{ModuleRecord}
use Rattle.pc_types.specs.declared.parsed.TypeTable.{TypeTable}
use Rattle.pc_types.specs.TypeTree.{Identity}
use Rattle.pc_spec_reading.specs.Resource.{ResourcePath}
use Rattle.pc_spec_reading.specs.Scope.{Moment, with_known}
use Rattle.pc_inline_state.specs.declared.error.ItemError.{ItemError}
use Rattle.pc_inline_state.specs.declared.frame.Frame.{Frame}
use Rattle.pc_inline_state.specs.declared.state.State.{State}
use Rattle.pc_inline_state.specs.Points.{Follows, IsPoint, PointStands, Steps}
use Rattle.pc_inline_state.proofs.ZipLemmas.{both_there, zip_at, zip_length}
use Rattle.pc_inline_resources.specs.declared.walked.Met.{Met}
use Rattle.pc_inline_resources.specs.Learns.{Learns}
use Rattle.pc_inline_resources.specs.Registers.{known_if}
use Rattle.pc_inline_resources.specs.Walked.{IsMet}
use Rattle.pc_inline_resources.proofs.AlongLemmas.{OnTheWay, all_known, way_begins, way_ends, way_goes, way_stops}
use Rattle.pc_inline_resources.proofs.LearnsLemmas.{learns_refl, learns_trans}

module _ (t : TypeTable) (ms : List ModuleRecord) (all : List Met) (st : State) (f : Frame) where
  -- paths at which these were met
  abbrev AreMet : (List (List ℕ) → Option Identity) → List ResourcePath → Type 0
  AreMet find ps = AllZip (IsMet st.graph find) all ps

  -- the first of them are known
  pub record EachSoFar (i : ℕ) (st' : State) (f' : Frame) : Type 0 where
    pub learns : Learns t st f st' f'
    pub way : (find : List (List ℕ) → Option Identity) (ps : List ResourcePath) (now : Moment) → AreMet find ps
        → PointStands t ms st f now → OnTheWay find t ms ps now st' f' i

  -- none is
  pub each_begins : EachSoFar 0 st f
  each_begins = record {
    learns = learns_refl t st f;
    way = λ find ps now zip at. way_begins find t ms ps now st f at;
  }

  module _ (i : ℕ) (st' : State) (f' : Frame) (so_far : EachSoFar i st' f') where
    -- a point stands
    pub each_here : (find : List (List ℕ) → Option Identity) × (ps : List ResourcePath) × AreMet find ps
        → IsPoint t ms st f → IsPoint t ms st' f'
    each_here met here =
        let way = so_far.way met.0 met.1 here.0 met.2 here.1 in
        (with_known here.0 way.known, way.stands)

    -- all are
    pub each_ends : i ≡ length all → (x : ⊤) (find : List (List ℕ) → Option Identity) (ps : List ResourcePath)
        (now : Moment) → AreMet find ps → PointStands t ms st f now
        → Follows t ms st' f' (all_known find ps now) (Ok x)
    each_ends end x find ps now zip at =
        way_ends find t ms ps now st' f' i (end ∙ zip_length (IsMet st.graph find) all ps zip)
        (so_far.way find ps now zip at) x

    module _ (m : Met) (there : slice_get all i ≡ Some m) (st'' : State) (f'' : Frame)
        (next : Learns t st' f' st'' f'') (r : Result ⊤ ItemError)
        (steps : (find : List (List ℕ) → Option Identity) (p : ResourcePath) → IsMet st'.graph find m p
        → Steps t ms (known_if find p) st' f' st'' f'' r) where
      -- the path of the next, and the step there
      record Next (find : List (List ℕ) → Option Identity) (ps : List ResourcePath) (now : Moment)
          (way : OnTheWay find t ms ps now st' f' i) : Type 0 where
        p : ResourcePath
        at : slice_get ps i ≡ Some p
        follows : Follows t ms st'' f'' (known_if find p (with_known now way.known)) r

      next_at : (find : List (List ℕ) → Option Identity) (ps : List ResourcePath) (now : Moment) → AreMet find ps
          → (way : OnTheWay find t ms ps now st' f' i) → Next find ps now way
      unfolding Steps
      next_at find ps now zip way =
          let y = both_there (IsMet st.graph find) (slice_get all i) (slice_get ps i) m
          (zip_at (IsMet st.graph find) all ps i zip) there in
          let same : st'.graph ≡ st.graph = ap (λ (s : State). s.graph) so_far.learns.state in
          record {
            p = y.0;
            at = y.1;
            follows = steps find y.0 (subst (λ g. IsMet g find m y.0) (sym same) y.2) (with_known now way.known)
                way.stands;
          }

      -- what was learned
      pub each_learns : Learns t st f st'' f''
      each_learns = learns_trans t st f st' f' st'' f'' so_far.learns next

      -- one more is known
      pub each_goes : (x : ⊤) → r ≡ Ok x → EachSoFar (i + 1) st'' f''
      each_goes x is = record {
        learns = each_learns;
        way = λ find ps now zip at.
            let way = so_far.way find ps now zip at in
            let y = next_at find ps now zip way in
            way_goes find t ms ps now st' f' i way y.p y.at st'' f'' x
            (subst (Follows t ms st'' f'' (known_if find y.p (with_known now way.known))) is y.follows);
      }

      -- or the walk ends there, and the error is handed on
      pub each_stops : (e : ItemError) → r ≡ Err e → (z : Result ⊤ ItemError) → IsErrAnd z (λ y. y ≡ e)
          → (find : List (List ℕ) → Option Identity) (ps : List ResourcePath) (now : Moment) → AreMet find ps
          → PointStands t ms st f now → Follows t ms st'' f'' (all_known find ps now) z
      each_stops e is (Ok x) passed find ps now zip at = absurd passed
      each_stops e is (Err d) passed find ps now zip at =
          let way = so_far.way find ps now zip at in
          let y = next_at find ps now zip way in
          subst (λ c. Follows t ms st'' f'' (all_known find ps now) (Err c)) (sym passed)
          (way_stops find t ms ps now st' f' i way y.p y.at st'' f'' e
          (subst (Follows t ms st'' f'' (known_if find y.p (with_known now way.known))) is y.follows))
