-- What insertions say of answers: one name has one answer, whatever the order of the insertions was.
use Rattle.std.proofs.Common.{◌≡◌, ℕ, List, Option, Some, None, refl, sym, ap, ◌∙◌}
use Rattle.std.specs.Option.{is_some}
use Rattle.pc_names.proofs.VersionLemmas.{level_version, same_name}
use Rattle.pc_names.specs.Inserted.{Answers, Inserted, IsGreatest, IsOn, TrackGives, last_value}
use Rattle.pc_names.specs.Track.{track_of}
use Rattle.semver.specs.Parse.{Parts}

module _ {V : Type 0} (inserted : Inserted V) where
  -- one name has the greatest version of a track
  greatest_name : (track m n : List ℕ) → IsGreatest inserted track m → IsGreatest inserted track n → m ≡ n
  greatest_name track m n a b =
      let version : a.version ≡ b.version =
      level_version a.version b.version (b.greatest a.version m a.is_on) (a.greatest b.version n b.is_on) in
      same_name m n track b.version (rw version at a.is_on.stands) b.is_on.stands

  -- a track gives one answer
  one_gift : (t : Option (List ℕ × Parts)) (a b : Option V) → TrackGives inserted t a → TrackGives inserted t b
      → a ≡ b
  one_gift None a b p q = p ∙ sym q
  one_gift (Some t) None None p q = refl
  one_gift (Some t) None (Some w) p q = absurd (p q.1.version q.0 q.1.is_on)
  one_gift (Some t) (Some v) None p q = absurd (q p.1.version p.0 p.1.is_on)
  one_gift (Some t) (Some v) (Some w) p q =
      let name = greatest_name t.0 p.0 q.0 p.1 q.1 in
      sym p.2 ∙ ap (last_value inserted) name ∙ q.2

  -- a name has one answer
  pub one_answer : (name : List ℕ) (a b : Option V) → Answers inserted name a → Answers inserted name b → a ≡ b
  one_answer name a b p q = go (last_value inserted name) refl where
    go : (o : Option V) → last_value inserted name ≡ o → a ≡ b
    go None none = one_gift (track_of name) a b (p.undefined none) (q.undefined none)
    go (Some v) some = p.defined v some ∙ sym (q.defined v some)

module _ {V : Type 0} (xs ys : Inserted V) (same : (n : List ℕ) → last_value xs n ≡ last_value ys n) where
  -- a name on a track by other insertions of the same values
  on_other : (track : List ℕ) (v : Parts) (n : List ℕ) → IsOn ys track v n → IsOn xs track v n
  on_other track v n h = record { is_inserted = ap is_some (same n) ∙ h.is_inserted; stands = h.stands }

  -- a name is on a track after the ones where it is after the others
  on_same : (track : List ℕ) (v : Parts) (n : List ℕ) → IsOn xs track v n → IsOn ys track v n
  on_same track v n h = record { is_inserted = sym (ap is_some (same n)) ∙ h.is_inserted; stands = h.stands }

  -- a track gives the same after both
  same_gift : (t : Option (List ℕ × Parts)) (a : Option V) → TrackGives xs t a → TrackGives ys t a
  same_gift None a p = p
  same_gift (Some t) None p = λ v n on. p v n (on_other t.0 v n on)
  same_gift (Some t) (Some w) p = (
    p.0,
    record {
      version = p.1.version;
      is_on = on_same t.0 p.1.version p.0 p.1.is_on;
      greatest = λ v n on. p.1.greatest
          v n (on_other t.0 v n on);
    },
    sym (same p.0) ∙ p.2,
  )

  -- insertions that leave each name its value answer alike
  pub same_answers : (name : List ℕ) (a : Option V) → Answers xs name a → Answers ys name a
  same_answers name a p = record {
    defined = λ v h. p.defined v (same name ∙ h);
    undefined = λ h. same_gift (track_of name) a (p.undefined (same name ∙ h));
  }
