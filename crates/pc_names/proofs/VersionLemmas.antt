-- What a track and a version on it say of the name.
use Rattle.std.proofs.Common.{◌≡◌, ℕ, suc, ◌+◌, true, false, List, [], ◌∷◌, ◌++◌, length, Option, Some, None, Ok, Err}
use Rattle.std.proofs.Common.{Result, refl, sym, ap, ◌∙◌, inl, inr, append_assoc, arith}
use Rattle.std.proofs.lemmas.Bool.{cases_Bool, eqb-true, ltb-false}
use Rattle.std.proofs.lemmas.Fmt.{decimal_digit}
use Rattle.std.proofs.lemmas.List.{append_cancel_right}
use Rattle.std.proofs.lemmas.Option.{same_Some}
use Rattle.std.specs.Fmt.{decimal}
use Rattle.std.specs.List.{after_first, before_first, list_any, position_or_len}
use Rattle.std.specs.Option.{option_and_then, option_map}
use Rattle.std.specs.Ordering.{is_gt, nat_cmp, ordering_reverse, ordering_then}
use Rattle.std.specs.Cmp.{IsTotalOrder, nat_cmp_total, on_total, then_total}
use Rattle.std.specs.FinMap.{nat_cmp-IsAntisymmetric}
use Rattle.std.specs.declared.cmp.Ordering.{Ordering}
use Rattle.std.specs.declared.cmp.Ordering.TheVariants.{Less, Equal, Greater}
use Rattle.std.specs.Prelude.{nat_lt, codes}
use Rattle.std.specs.Result.{result_ok}
use Rattle.semver.proofs.Grammar.{version_parts-sound}
use Rattle.semver.specs.Identifiers.{marked, parts_text}
use Rattle.semver.specs.Order.{pre_cmp}
use Rattle.semver.specs.OrderLaws.{build-anti, build_total, pre-anti, pre_total}
use Rattle.semver.specs.Parse.{Parts, version_parts}
use Rattle.pc_names.specs.Track.{is_at_sign, shared_numbers, track_at, track_of, version_cmp, version_of}

-- a name with a track is its plain part, an `@` and its version, and the track the plain part, an
-- `@` and the shared numbers
pub record HasTrack (name track : List ℕ) (version : Parts) : Type 0 where
  pub plain : List ℕ
  pub numbers : List ℕ
  pub name_is : name ≡ plain ++ 64 ∷ parts_text version
  pub track_is : track ≡ plain ++ 64 ∷ numbers
  pub numbers_are : shared_numbers version ≡ Some numbers

-- a text that has an `@` is what stands before the first one, and what follows it
split_at_sign : (xs : List ℕ) → list_any is_at_sign xs ≡ true
    → xs ≡ before_first is_at_sign xs ++ 64 ∷ after_first is_at_sign xs
split_at_sign [] h = cc
split_at_sign (x ∷ xs) h = elim (cases_Bool (is_at_sign x)) [
  | inl here ↦ let sign : x ≡ 64 = eqb-true x 64 here in rw (here, sign) refl
  | inr other ↦
      let rest = split_at_sign xs (rw other at h) in
      let at = position_or_len is_at_sign xs in
      let before : 1 + at ≡ suc at = omega arith in
      let after : (1 + at) + 1 ≡ suc (at + 1) = omega arith in
      rw (other, after, before) (ap (λ (l : List ℕ). x ∷ l) rest)
]

-- what was read is what the reading gave
ok_inside : {A E : Type 0} (r : Result A E) (x : A) → result_ok r ≡ Some x → r ≡ Ok x
ok_inside (Ok y) x h = ap Ok (same_Some y x h)
ok_inside (Err e) x h = cc

-- the parts of a name with a track
track_from : (o : Option Parts) (plain : List ℕ) (track : List ℕ) (version : Parts)
    → option_and_then (track_at plain) o ≡ Some (track, version)
    → (o ≡ Some version) × (numbers : List ℕ) × (shared_numbers version ≡ Some numbers)
    × (track ≡ plain ++ 64 ∷ numbers)
track_from None plain track version h = cc
track_from (Some v) plain track version h = go (shared_numbers v) refl h where
  go : (n : Option (List ℕ)) → shared_numbers v ≡ n
      → option_map {U = List ℕ × Parts} (λ numbers. (plain ++ 64 ∷ numbers, v)) n ≡ Some (track, version)
      → (Some v ≡ Some version) × (numbers : List ℕ) × (shared_numbers version ≡ Some numbers)
      × (track ≡ plain ++ 64 ∷ numbers)
  go None e h = cc
  go (Some numbers) e h =
      let same : (plain ++ 64 ∷ numbers, v) ≡ (track, version) = same_Some _ _ h in
      let which : v ≡ version = ap (λ p. p.1) same in
      (ap Some which, numbers, rw which at e, sym (ap (λ p. p.0) same))

-- a name with a track has these parts
pub track-parts : (name track : List ℕ) (version : Parts) → track_of name ≡ Some (track, version)
    → HasTrack name track version
track-parts name track version h =
    let t = track_from (version_of name) (before_first is_at_sign name) track version h in
    elim (cases_Bool (list_any is_at_sign name)) [
      | inr none ↦ cc (rw none at t.0)
      | inl sign ↦
          let read = ok_inside (version_parts (after_first is_at_sign name)) version (rw sign at t.0) in
          let text = version_parts-sound (after_first is_at_sign name) version read in
          record {
            plain = before_first is_at_sign name;
            numbers = t.1;
            name_is = split_at_sign name sign
                ∙ ap (λ (l : List ℕ). before_first is_at_sign name ++ 64 ∷ l) (sym text.0);
            track_is = t.3;
            numbers_are = t.2;
          }
    ]

-- the shared numbers of a version are where its text begins, up to a dot
pub numbers-cut : (version : Parts) (numbers : List ℕ) → shared_numbers version ≡ Some numbers
    → (rest : List ℕ) × (parts_text version ≡ numbers ++ 46 ∷ rest)
numbers-cut version numbers h = elim (cases_Bool (nat_lt 0 (length version.3))) [
  | inl pre ↦ cc (rw pre at h)
  | inr release ↦ elim (cases_Bool (nat_lt 0 version.0)) [
    | inl major ↦ let e : decimal version.0 ≡ numbers = same_Some _ _ (rw (release, major) at h) in
        let rest = decimal version.1 ++ 46 ∷ (decimal version.2 ++ (marked 45 version.3 ++ marked 43 version.4)) in
        (rest, ap (λ (l : List ℕ). l ++ 46 ∷ rest) e)
    | inr no_major ↦ elim (cases_Bool (nat_lt 0 version.1)) [
      | inl minor ↦
          let e : codes "0." ++ decimal version.1 ≡ numbers = same_Some _ _ (rw (release, no_major, minor) at h) in
          let rest = decimal version.2 ++ (marked 45 version.3 ++ marked 43 version.4) in
          let zero_major : version.0 ≡ 0 = omega (arith, ltb-false 0 version.0 no_major) in
          (rest, rw (zero_major, decimal_digit 0 (omega arith)) (ap (λ (l : List ℕ). l ++ 46 ∷ rest) e))
      | inr no_minor ↦ cc (rw (release, no_major, no_minor) at h)
    ]
  ]
]

-- a track is where its name begins, up to a dot
pub track-cut : (name track : List ℕ) (version : Parts) → track_of name ≡ Some (track, version)
    → (rest : List ℕ) × (name ≡ track ++ 46 ∷ rest)
track-cut name track version h =
    let t = track-parts name track version h in
    let cut = numbers-cut version t.numbers t.numbers_are in (
      cut.0,
      t.name_is ∙ ap (λ (l : List ℕ). t.plain ++ 64 ∷ l) cut.1
          ∙ sym (ap (λ (l : List ℕ). l ++ 46 ∷ cut.0) t.track_is ∙ append_assoc t.plain (64 ∷ t.numbers) (46 ∷ cut.0)),
    )

-- one version on one track is one name
pub same_name : (m n track : List ℕ) (version : Parts) → track_of m ≡ Some (track, version)
    → track_of n ≡ Some (track, version) → m ≡ n
same_name m n track version g h =
    let a = track-parts m track version g in
    let b = track-parts n track version h in
    let numbers : a.numbers ≡ b.numbers = same_Some _ _ (sym a.numbers_are ∙ b.numbers_are) in
    let plain : a.plain ≡ b.plain =
    append_cancel_right a.plain b.plain (64 ∷ b.numbers)
    (ap (λ (l : List ℕ). a.plain ++ 64 ∷ l) (sym numbers) ∙ sym a.track_is ∙ b.track_is) in
    a.name_is ∙ ap (λ (l : List ℕ). l ++ 64 ∷ parts_text version) plain ∙ sym b.name_is

-- versions are in a total order
pub version_total : IsTotalOrder version_cmp
version_total = then_total (on_total (λ (v : Parts). v.0) nat_cmp_total)
    (then_total (on_total (λ (v : Parts). v.1) nat_cmp_total)
    (then_total (on_total (λ (v : Parts). v.2) nat_cmp_total)
    (then_total (on_total (λ (v : Parts). v.3) pre_total) (on_total (λ (v : Parts). v.4) build_total))))

-- an order by two parts ties only where the first does
then_first : (r s : Ordering) → ordering_then r s ≡ Equal → r ≡ Equal
then_first Less s e = cc
then_first Equal s e = refl
then_first Greater s e = cc

-- and where the second does
then_second : (r s : Ordering) → ordering_then r s ≡ Equal → s ≡ Equal
then_second Less s e = cc
then_second Equal s e = e
then_second Greater s e = cc

-- only a version itself is equal to it
pub same_version : (v w : Parts) → version_cmp v w ≡ Equal → v ≡ w
same_version v w e =
    let after_major = then_second (nat_cmp v.0 w.0) _ e in
    let after_minor = then_second (nat_cmp v.1 w.1) _ after_major in
    let after_patch = then_second (nat_cmp v.2 w.2) _ after_minor in
    let major = nat_cmp-IsAntisymmetric v.0 w.0 (then_first (nat_cmp v.0 w.0) _ e) in
    let minor = nat_cmp-IsAntisymmetric v.1 w.1 (then_first (nat_cmp v.1 w.1) _ after_major) in
    let patch = nat_cmp-IsAntisymmetric v.2 w.2 (then_first (nat_cmp v.2 w.2) _ after_minor) in
    let pre = pre-anti v.3 w.3 (then_first (pre_cmp v.3 w.3) _ after_patch) in
    let build = build-anti v.4 w.4 (then_second (pre_cmp v.3 w.3) _ after_patch) in
    λ i. (major i, minor i, patch i, pre i, build i)

-- of two versions that are not above each other neither is below
pub level_version : (v w : Parts) → is_gt (version_cmp v w) ≡ false → is_gt (version_cmp w v) ≡ false → v ≡ w
level_version v w a b = same_version v w (level (version_cmp v w) a
    (ap is_gt (sym (version_total.antisymm w v)) ∙ b)) where
      level : (r : Ordering) → is_gt r ≡ false → is_gt (ordering_reverse r) ≡ false → r ≡ Equal
      level Less a b = cc
      level Equal a b = refl
      level Greater a b = cc
