-- Which adapter lacks an option: the first one of a graph is the first one of the reading that the graph stands for.
use Rattle.std.proofs.Common.{◌≡◌, ◌<◌, ◌+◌, ℕ, zero, suc, Bool, true, false, List, [], ◌∷◌, Some, refl}
use Rattle.std.proofs.Common.{sym, ap, subst, ◌∙◌, arith}
use Rattle.std.specs.Prelude.{if◌then◌else◌, slice_get}
use Rattle.std.proofs.lemmas.Option.{none-some, same_Some, slice_get_within}
use Rattle.pc_types_lists.specs.Types.{Types}
use Rattle.pc_spec_plan.specs.CoreValue.{CoreValue}
use Rattle.pc_spec_plan.specs.Log.{Entry}
use Rattle.pc_parsed.specs.Mark.{Mark}
use Rattle.pc_dfg.specs.declared.dfg.ComponentDfg.{ComponentDfg}
use Rattle.pc_spec_adapt.specs.Needs.{adapters_of}
use Rattle.pc_adapt.specs.Asked.{LacksFirst}
use Rattle.pc_inline_state.specs.Worlds.{AdaptersStand}
use Rattle.pc_translate.specs.Adapters.{is_complete, lacking_from}
use Rattle.pc_translate.proofs.PartitionLemmas.{asked_as_read, lift_trees, lower_trees, made_at, read_at}

-- an adapter of a list is the first that isn't complete
record IsFirst (vs : List (CoreValue Mark)) (k : ℕ) : Type 0 where
  adapter : CoreValue Mark
  there : slice_get vs k ≡ Some adapter
  lacks : is_complete adapter ≡ false
  before : (j : ℕ) (w : CoreValue Mark) → j < k → slice_get vs j ≡ Some w → is_complete w ≡ true

-- it is told
first_told : (n : ℕ) (vs : List (CoreValue Mark)) (k : ℕ) → IsFirst vs k → lacking_from n vs ≡ Some (n + k)
unfolding lacking_from
first_told n [] k f = absurd (none-some f.adapter f.there)
first_told n (v ∷ vs) zero f =
    let same : v ≡ f.adapter = same_Some v f.adapter f.there in
    let lacks : is_complete v ≡ false = ap is_complete same ∙ f.lacks in
    let here : n ≡ n + 0 = omega arith in
    ap (λ b. if b then lacking_from (n + 1) vs else Some n) lacks ∙ ap Some here
first_told n (v ∷ vs) (suc k) f =
    let complete : is_complete v ≡ true = f.before 0 v (omega arith) refl in
    let here : n + 1 + k ≡ n + suc k = omega arith in
    ap (λ b. if b then lacking_from (n + 1) vs else Some n) complete
    ∙ first_told (n + 1) vs k (record {
      adapter = f.adapter;
      there = f.there;
      lacks = f.lacks;
      before = λ j w below at. f.before (suc j) w (omega (arith, below)) at;
    })
    ∙ ap Some here

-- behind one that is complete
first_behind : (v : CoreValue Mark) (vs : List (CoreValue Mark)) (k : ℕ) → is_complete v ≡ true → IsFirst vs k
    → IsFirst (v ∷ vs) (suc k)
first_behind v vs k complete f = record {
  adapter = f.adapter;
  there = f.there;
  lacks = f.lacks;
  before = before;
}
  where
    before : (j : ℕ) (w : CoreValue Mark) → j < suc k → slice_get (v ∷ vs) j ≡ Some w → is_complete w ≡ true
    before zero w below at = subst (λ x. is_complete x ≡ true) (same_Some v w at) complete
    before (suc j) w below at = f.before j w (omega (arith, below)) at

-- an adapter that isn't complete, or the first behind it
first_from : (n : ℕ) (v : CoreValue Mark) (vs : List (CoreValue Mark)) (a : ℕ) (b : Bool) → is_complete v ≡ b
    → (lacking_from (n + 1) vs ≡ Some a → (k : ℕ) × (a ≡ n + 1 + k) × IsFirst vs k)
    → (if b then lacking_from (n + 1) vs else Some n) ≡ Some a → (k : ℕ) × (a ≡ n + k) × IsFirst (v ∷ vs) k
first_from n v vs a false lacks rest is =
    let same : n ≡ a = same_Some n a is in (
      0,
      omega (arith, same),
      record {
        adapter = v;
        there = refl;
        lacks = lacks;
        before = λ j w below at. absurd (omega (arith, below));
      },
    )
first_from n v vs a true complete rest is =
    let behind = rest is in
    let far = behind.1 in (suc behind.0, omega (arith, far), first_behind v vs behind.0 complete behind.2)

-- and what is told is it
told_first : (n : ℕ) (vs : List (CoreValue Mark)) (a : ℕ) → lacking_from n vs ≡ Some a
    → (k : ℕ) × (a ≡ n + k) × IsFirst vs k
unfolding lacking_from
told_first n [] a told = absurd (none-some a told)
told_first n (v ∷ vs) a told = first_from n v vs a (is_complete v) refl (told_first (n + 1) vs a) told

module _ (types : Types) (g : ComponentDfg) (log : List (Entry Mark)) (stand : AdaptersStand types g log) where
  -- the first one of the graph is the first one of the log
  pub lacks_read : (a : ℕ) → LacksFirst g (lift_trees types g log stand) (lower_trees types g log stand) a
      → lacking_from 0 (adapters_of log) ≡ Some a
  lacks_read a f =
      let found = read_at types g log stand a (slice_get_within g.adapters a f.adapter f.there) in
      let here : 0 + a ≡ a = omega arith in
      first_told 0 (adapters_of log) a (record {
        adapter = found.0;
        there = found.1;
        lacks = sym (asked_as_read types g log stand a f.adapter found.0 f.there found.1) ∙ f.lacks;
        before = λ j w below at.
            let made = made_at types g log stand j w at in
            sym (asked_as_read types g log stand j made.0 w made.1 at) ∙ f.first j below made.0 made.1;
      })
      ∙ ap Some here

  -- and the other way
  pub read_lacks : (a : ℕ) → lacking_from 0 (adapters_of log) ≡ Some a
      → LacksFirst g (lift_trees types g log stand) (lower_trees types g log stand) a
  read_lacks a told =
      let found = told_first 0 (adapters_of log) a told in
      let far = found.1 in
      let same : found.0 ≡ a = omega (arith, far) in
      let f = subst (IsFirst (adapters_of log)) same found.2 in
      let made = made_at types g log stand a f.adapter f.there in
      record {
        adapter = made.0;
        there = made.1;
        lacks = asked_as_read types g log stand a made.0 f.adapter made.1 f.there ∙ f.lacks;
        first = λ b below x at.
            let read = read_at types g log stand b (slice_get_within g.adapters b x at) in
            asked_as_read types g log stand b x read.0 at read.1 ∙ f.before b read.0 below read.1;
      }
