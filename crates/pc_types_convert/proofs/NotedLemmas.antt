-- Which entries are noted for those that they name, in the map that holds them.
use Rattle.std.proofs.Common.{◌≡◌, ◌<◌, ◌+◌, ◌∷◌, ◌++◌, ℕ, Bool, true, false, List, [], length, take, get_or}
use Rattle.std.proofs.Common.{Some, refl, sym, subst, inl, inr, if◌then◌else◌, ◌==◌}
use Rattle.std.specs.Prelude.{Vec, is_some}
use Rattle.std.specs.Ordering.{nat_cmp}
use Rattle.std.specs.BTreeMap.{BTreeMap, Updates, get}
use Rattle.std.specs.declared.alloc.Global.{Global}
use Rattle.std.proofs.lemmas.Bool.{eqb-true}
use Rattle.std.proofs.lemmas.Grind.{take_at_read}
use Rattle.pc_types.specs.declared.types.TypeDef.{TypeDef}
use Rattle.pc_types_convert.specs.Needed.{IsAmong}
use Rattle.pc_types_convert.specs.Users.{KeepsUsers, numbers_in, users_of}
use Rattle.pc_types_convert.proofs.AmongLemmas.{among_back, among_either, among_front, among_one}
use Rattle.pc_types_convert.proofs.TabulatedLemmas.{set_in_map}

-- what was noted is noted where a vector was written that has what the old one had
pub kept_written : (users new : BTreeMap ℕ (Vec ℕ Global)) (p : ℕ) (ns : Vec ℕ Global)
    → Updates nat_cmp users new p (Some ns) → ((k : ℕ) → IsAmong k (users_of users p) → IsAmong k ns.items)
    → KeepsUsers users new
kept_written users new p ns updates has q k among =
    subst (λ o. IsAmong k (numbers_in o)) (sym (set_in_map users new p (Some ns) updates q))
    (by (q == p) (λ same. eqb-true q p same))
  where
    by : (b : Bool) → (b ≡ true → q ≡ p) → IsAmong k (numbers_in (if b then Some ns else get nat_cmp users q))
    by true same = has k (subst (λ x. IsAmong k (users_of users x)) (same refl) among)
    by false same = among

-- what was written is noted
pub written_noted : (users new : BTreeMap ℕ (Vec ℕ Global)) (p k : ℕ) (ns : Vec ℕ Global)
    → Updates nat_cmp users new p (Some ns) → IsAmong k ns.items → IsAmong k (users_of new p)
written_noted users new p k ns updates among = subst (λ o. IsAmong k (numbers_in o)) (sym updates.1) among

-- the vector with one number more has those that the map had
pub pushed_has : (users : BTreeMap ℕ (Vec ℕ Global)) (p k : ℕ) (was now : Vec ℕ Global) (more : List ℕ)
    → Some was ≡ get nat_cmp users p → now.items ≡ was.items ++ more → IsAmong k (users_of users p)
    → IsAmong k now.items
pushed_has users p k was now more there is among =
    subst (IsAmong k) (sym is)
    (among_front was.items more k (subst (λ o. IsAmong k (numbers_in o)) (sym there) among))

-- the number that was pushed is among them
pub pushed_last : (k : ℕ) (was now : List ℕ) → now ≡ was ++ k ∷ [] → IsAmong k now
pushed_last k was now is = subst (IsAmong k) (sym is) (among_back was (k ∷ []) k (inl refl))

-- entry `k` is noted for each of these parts that has a type of this component instance
pub record NotesEach (own : BTreeMap ℕ TypeDef) (k : ℕ) (parts : List ℕ) (old new : BTreeMap ℕ (Vec ℕ Global))
    : Type 0 where
  pub noted : (p : ℕ) → IsAmong p parts → is_some (get nat_cmp own p) ≡ true → IsAmong k (users_of new p)
  pub kept : KeepsUsers old new

module _ (own : BTreeMap ℕ TypeDef) (k : ℕ) where
  -- a turn of a loop that notes it
  pub notes_next : (ps : List ℕ) (i d : ℕ) (old middle new : BTreeMap ℕ (Vec ℕ Global)) → i < length ps
      → NotesEach own k (take i ps) old middle → KeepsUsers middle new
      → (is_some (get nat_cmp own (get_or ps i d)) ≡ true → IsAmong k (users_of new (get_or ps i d)))
      → NotesEach own k (take (i + 1) ps) old new
  notes_next ps i d old middle new within before kept noted =
      subst (λ l. NotesEach own k l old new) (sym (take_at_read ps i d within).1) (record {
        noted = λ p among has.
            elim (among_either (take i ps) (get_or ps i d ∷ []) p among) as (λ _. IsAmong k (users_of new p)) [
              | inl front ↦ kept p k (before.noted p front has)
              | inr last ↦
                  let same : p ≡ get_or ps i d = among_one p (get_or ps i d) last in
                  subst (λ q. IsAmong k (users_of new q)) (sym same)
                  (noted (subst (λ q. is_some (get nat_cmp own q) ≡ true) same has))
            ];
        kept = λ p m among. kept p m (before.kept p m among);
      })
