-- What is marked by sources.
use Rattle.std.proofs.Common.{◌≡◌, ◌<◌, ◌⊎◌, ℕ, zero, suc, Bool, true, false, ◌||◌, List, [], ◌∷◌, inl, inr, length}
use Rattle.std.proofs.Common.{Some, None, Option, refl, sym, ap, subst, ◌∙◌, arith, true≢false, replicate}
use Rattle.std.specs.Prelude.{◌↔◌, slice_get, slice_set}
use Rattle.std.specs.List.{Contains}
use Rattle.std.specs.Cmp.{eq_by_cmp_equiv, nat_cmp_total, unsigned_tied}
use Rattle.std.specs.Ordering.{eq_by_cmp, nat_cmp}
use Rattle.std.specs.FinSet as set
use Rattle.std.proofs.lemmas.Bool.{cases_eq}
use Rattle.std.proofs.lemmas.List.Elements.{Contains-append_cases, Contains-append_right, Contains-push_cases}
use Rattle.std.proofs.lemmas.Map.Views.{exact_unsigned_eq}
use Rattle.std.proofs.lemmas.Option.{none-some, same_Some, slice_get_within}
use Rattle.std.proofs.lemmas.List.{length-replicate, length-set}
use Rattle.pc_entity.proofs.Growing.{slice_get-set_other, slice_get-set_same}
use Rattle.pc_entity.proofs.LookupLemmas.{found_at}
use Rattle.pc_types.specs.declared.parsed.CoreKind.{CoreKind}
use Rattle.pc_types.specs.declared.parsed.CoreKind.TheVariants as kind
use Rattle.pc_spec_wiring.specs.Known.{Known, a_defined, holds_data, known_kind, the_flags}
use Rattle.pc_analysis_imports.specs.declared.ambiguous.Hidden.{Hidden}
use Rattle.pc_analysis_imports.specs.declared.source.Source.{Source}
use Rattle.pc_analysis_imports.specs.declared.source.Source.TheVariants as source
use Rattle.pc_analysis_imports.specs.Marked.{is_hidden, is_hidden_in, none_hidden, none_marked, with_hidden}
use Rattle.pc_analysis_imports.specs.Marked.{with_hidden_at, with_source, with_sources}
use Rattle.pc_analysis_imports.specs.Marks.{Marks}
use Rattle.pc_analysis_imports.proofs.FoldLemmas.{contained, placed}
use Rattle.pc_analysis_imports.proofs.FollowedLemmas.{known_in}

-- whether something that may be known is marked
abbrev pub is_marked : Marks → Known → Bool
is_marked s (a_defined m k n) = is_hidden_in (slice_get s.modules m) k n
is_marked s (the_flags c) = set.contains s.flags c

-- it can be marked: it holds data, and is of one of so many modules
pub data CanMark (modules : ℕ) : Known → Type 0 where
  an_entity : {m n : ℕ} {k : CoreKind} → m < modules → holds_data k ≡ true → CanMark modules (a_defined m k n)
  some_flags : {c : ℕ} → CanMark modules (the_flags c)

-- numbers that tie are one
tied_same : (m n : ℕ) → eq_by_cmp nat_cmp m n ≡ true → m ≡ n
tied_same m n tie = exact_unsigned_eq m n (sym (unsigned_tied m n) ∙ tie)

or_cases : (a b : Bool) → (a || b) ≡ true → (a ≡ true) ⊎ (b ≡ true)
or_cases true b h = inl refl
or_cases false b h = inr h

or_right : (a b : Bool) → b ≡ true → (a || b) ≡ true
or_right true b h = refl
or_right false b h = h

-- a set with one more has that and those that it had
set_more : (s : set.FinSet nat_cmp) (n q : ℕ) → (set.contains (set.insert s n) q ≡ true)
    ↔ ((set.contains s q ≡ true) ⊎ (q ≡ n))
set_more s n q = (
  λ h. elim (or_cases (eq_by_cmp nat_cmp q n) (set.contains s q) (sym (set.contains-insert nat_cmp_total s n q) ∙ h)) [
    | inl tie ↦ inr (tied_same q n tie)
    | inr old ↦ inl old
  ],
  λ h. set.contains-insert nat_cmp_total s n q ∙ elim h as (λ _. (eq_by_cmp nat_cmp q n || set.contains s q) ≡ true) [
    | inl old ↦ or_right (eq_by_cmp nat_cmp q n) (set.contains s q) old
    | inr is ↦
        ap (λ m. eq_by_cmp nat_cmp q m || set.contains s q) (sym is)
        ∙ ap (λ c. c || set.contains s q) ((eq_by_cmp_equiv nat_cmp_total).refl q)
  ],
)

-- which set holds a kind
abbrev kind_number : CoreKind → ℕ
kind_number kind.Func = 0
kind_number kind.Table = 1
kind_number kind.Memory = 2
kind_number kind.Global = 3
kind_number kind.Tag = 4

hidden_more : (h : Hidden) (k : CoreKind) (n : ℕ) (j : CoreKind) (q : ℕ)
    → (is_hidden (with_hidden h k n) j q ≡ true)
    ↔ ((is_hidden h j q ≡ true) ⊎ ((holds_data j ≡ true) × (j ≡ k) × (q ≡ n)))
hidden_more h kind.Global n kind.Global q = (
  λ t. elim ((set_more h.globals n q).0 t) [ inl old ↦ inl old | inr is ↦ inr (refl, refl, is) ],
  λ t. (set_more h.globals n q).1 (elim t [ inl old ↦ inl old | inr is ↦ inr is.2 ]),
)
hidden_more h kind.Global n kind.Memory q =
    (λ t. inl t, λ t. elim t [ inl old ↦ old | inr is ↦ absurd (apart (ap kind_number is.1)) ])
  where
    apart : ◌≡◌ {A = ℕ} 2 3 → ⊥
    apart e = omega (arith, e)
hidden_more h kind.Global n kind.Table q =
    (λ t. inl t, λ t. elim t [ inl old ↦ old | inr is ↦ absurd (apart (ap kind_number is.1)) ])
  where
    apart : ◌≡◌ {A = ℕ} 1 3 → ⊥
    apart e = omega (arith, e)
hidden_more h kind.Global n kind.Func q =
    (λ t. inl t, λ t. elim t [ inl old ↦ old | inr is ↦ absurd (true≢false (sym is.0)) ])
hidden_more h kind.Global n kind.Tag q =
    (λ t. inl t, λ t. elim t [ inl old ↦ old | inr is ↦ absurd (true≢false (sym is.0)) ])
hidden_more h kind.Memory n kind.Global q =
    (λ t. inl t, λ t. elim t [ inl old ↦ old | inr is ↦ absurd (apart (ap kind_number is.1)) ])
  where
    apart : ◌≡◌ {A = ℕ} 3 2 → ⊥
    apart e = omega (arith, e)
hidden_more h kind.Memory n kind.Memory q = (
  λ t. elim ((set_more h.memories n q).0 t) [ inl old ↦ inl old | inr is ↦ inr (refl, refl, is) ],
  λ t. (set_more h.memories n q).1 (elim t [ inl old ↦ inl old | inr is ↦ inr is.2 ]),
)
hidden_more h kind.Memory n kind.Table q =
    (λ t. inl t, λ t. elim t [ inl old ↦ old | inr is ↦ absurd (apart (ap kind_number is.1)) ])
  where
    apart : ◌≡◌ {A = ℕ} 1 2 → ⊥
    apart e = omega (arith, e)
hidden_more h kind.Memory n kind.Func q =
    (λ t. inl t, λ t. elim t [ inl old ↦ old | inr is ↦ absurd (true≢false (sym is.0)) ])
hidden_more h kind.Memory n kind.Tag q =
    (λ t. inl t, λ t. elim t [ inl old ↦ old | inr is ↦ absurd (true≢false (sym is.0)) ])
hidden_more h kind.Table n kind.Global q =
    (λ t. inl t, λ t. elim t [ inl old ↦ old | inr is ↦ absurd (apart (ap kind_number is.1)) ])
  where
    apart : ◌≡◌ {A = ℕ} 3 1 → ⊥
    apart e = omega (arith, e)
hidden_more h kind.Table n kind.Memory q =
    (λ t. inl t, λ t. elim t [ inl old ↦ old | inr is ↦ absurd (apart (ap kind_number is.1)) ])
  where
    apart : ◌≡◌ {A = ℕ} 2 1 → ⊥
    apart e = omega (arith, e)
hidden_more h kind.Table n kind.Table q = (
  λ t. elim ((set_more h.tables n q).0 t) [ inl old ↦ inl old | inr is ↦ inr (refl, refl, is) ],
  λ t. (set_more h.tables n q).1 (elim t [ inl old ↦ inl old | inr is ↦ inr is.2 ]),
)
hidden_more h kind.Table n kind.Func q =
    (λ t. inl t, λ t. elim t [ inl old ↦ old | inr is ↦ absurd (true≢false (sym is.0)) ])
hidden_more h kind.Table n kind.Tag q =
    (λ t. inl t, λ t. elim t [ inl old ↦ old | inr is ↦ absurd (true≢false (sym is.0)) ])
hidden_more h kind.Func n kind.Global q =
    (λ t. inl t, λ t. elim t [ inl old ↦ old | inr is ↦ absurd (apart (ap kind_number is.1)) ])
  where
    apart : ◌≡◌ {A = ℕ} 3 0 → ⊥
    apart e = omega (arith, e)
hidden_more h kind.Func n kind.Memory q =
    (λ t. inl t, λ t. elim t [ inl old ↦ old | inr is ↦ absurd (apart (ap kind_number is.1)) ])
  where
    apart : ◌≡◌ {A = ℕ} 2 0 → ⊥
    apart e = omega (arith, e)
hidden_more h kind.Func n kind.Table q =
    (λ t. inl t, λ t. elim t [ inl old ↦ old | inr is ↦ absurd (apart (ap kind_number is.1)) ])
  where
    apart : ◌≡◌ {A = ℕ} 1 0 → ⊥
    apart e = omega (arith, e)
hidden_more h kind.Func n kind.Func q =
    (λ t. inl t, λ t. elim t [ inl old ↦ old | inr is ↦ absurd (true≢false (sym is.0)) ])
hidden_more h kind.Func n kind.Tag q =
    (λ t. inl t, λ t. elim t [ inl old ↦ old | inr is ↦ absurd (true≢false (sym is.0)) ])
hidden_more h kind.Tag n kind.Global q =
    (λ t. inl t, λ t. elim t [ inl old ↦ old | inr is ↦ absurd (apart (ap kind_number is.1)) ])
  where
    apart : ◌≡◌ {A = ℕ} 3 4 → ⊥
    apart e = omega (arith, e)
hidden_more h kind.Tag n kind.Memory q =
    (λ t. inl t, λ t. elim t [ inl old ↦ old | inr is ↦ absurd (apart (ap kind_number is.1)) ])
  where
    apart : ◌≡◌ {A = ℕ} 2 4 → ⊥
    apart e = omega (arith, e)
hidden_more h kind.Tag n kind.Table q =
    (λ t. inl t, λ t. elim t [ inl old ↦ old | inr is ↦ absurd (apart (ap kind_number is.1)) ])
  where
    apart : ◌≡◌ {A = ℕ} 1 4 → ⊥
    apart e = omega (arith, e)
hidden_more h kind.Tag n kind.Func q =
    (λ t. inl t, λ t. elim t [ inl old ↦ old | inr is ↦ absurd (true≢false (sym is.0)) ])
hidden_more h kind.Tag n kind.Tag q =
    (λ t. inl t, λ t. elim t [ inl old ↦ old | inr is ↦ absurd (true≢false (sym is.0)) ])

module_more : (hs : List Hidden) (m : ℕ) (k : CoreKind) (n : ℕ) (o : Option Hidden) → slice_get hs m ≡ o
    → (a : ℕ) (j : CoreKind) (q : ℕ)
    → (is_hidden_in (slice_get (with_hidden_at hs m k n o) a) j q ≡ true)
    ↔ ((is_hidden_in (slice_get hs a) j q ≡ true)
    ⊎ ((a < length hs) × (holds_data j ≡ true) × (a ≡ m) × (j ≡ k) × (q ≡ n)))
module_more hs m k n None at a j q = (
  λ t. inl t,
  λ t. elim t [
    | inl old ↦ old
    | inr is ↦ let found = found_at hs a is.0 in
        absurd (none-some found.0 (sym at ∙ ap (slice_get hs) (sym is.2) ∙ found.1))
  ],
)
module_more hs m k n (Some h) at a j q = elim (cases_eq a m) [
  | inl same ↦
      let here : slice_get (slice_set hs m (with_hidden h k n)) a ≡ Some (with_hidden h k n) =
      ap (slice_get (slice_set hs m (with_hidden h k n))) same
      ∙ slice_get-set_same hs m (with_hidden h k n) (slice_get_within hs m h at) in
      let was : slice_get hs a ≡ Some h = ap (slice_get hs) same ∙ at in
      let within : a < length hs = slice_get_within hs a h was in
      let more = hidden_more h k n j q in (
        λ t. elim (more.0 (sym (ap (λ o. is_hidden_in o j q) here) ∙ t)) [
          | inl old ↦ inl (ap (λ o. is_hidden_in o j q) was ∙ old)
          | inr is ↦ inr (within, is.0, same, is.1, is.2)
        ],
        λ t. ap (λ o. is_hidden_in o j q) here ∙ more.1 (elim t [
          | inl old ↦ inl (sym (ap (λ o. is_hidden_in o j q) was) ∙ old)
          | inr is ↦ inr (is.1, is.3, is.4)
        ]),
      )
  | inr other ↦
      let keeps = ap (λ o. is_hidden_in o j q) (slice_get-set_other hs m a (with_hidden h k n) other) in (
        λ t. inl (sym keeps ∙ t),
        λ t. elim t [ inl old ↦ keeps ∙ old | inr is ↦ absurd (other is.2) ],
      )
]

hidden_count : (hs : List Hidden) (m : ℕ) (k : CoreKind) (n : ℕ) (o : Option Hidden)
    → length (with_hidden_at hs m k n o) ≡ length hs
hidden_count hs m k n None = refl
hidden_count hs m k n (Some h) = length-set hs m (with_hidden h k n)

-- as many modules as before
source_count : (s : Marks) (x : Source) → length (with_source s x).modules ≡ length s.modules
source_count s (source.Defined m k n) = hidden_count s.modules m.0 k n (slice_get s.modules m.0)
source_count s (source.Flags c) = refl
source_count s (source.Trampoline t) = refl
source_count s (source.Intrinsic i) = refl
source_count s source.Unknown = refl

-- the module and the number of an entity that may be known
abbrev pub known_module : Known → Option ℕ
known_module (a_defined m k n) = Some m
known_module (the_flags c) = None

abbrev pub known_number : Known → ℕ
known_number (a_defined m k n) = n
known_number (the_flags c) = 0

pub known_parts : (m a : ℕ) (k j : CoreKind) (n q : ℕ) → a_defined m k n ≡ a_defined a j q
    → (a ≡ m) × (j ≡ k) × (q ≡ n)
known_parts m a k j n q h =
    (sym (same_Some m a (ap known_module h)), sym (ap known_kind h), sym (ap known_number h))

abbrev is_entity : Known → Bool
is_entity (a_defined m k n) = true
is_entity (the_flags c) = false

abbrev flags_in : Known → ℕ
flags_in (a_defined m k n) = 0
flags_in (the_flags c) = c

-- one source more marks what it is known by
source_more : (s : Marks) (x : Source) (y : Known) → CanMark (length s.modules) y
    → (is_marked (with_source s x) y ≡ true) ↔ ((is_marked s y ≡ true) ⊎ (known_in x ≡ Some y))
source_more s (source.Defined m k n) _ (an_entity {m = a} {n = q} {k = j} few data_) =
    let more = module_more s.modules m.0 k n (slice_get s.modules m.0) refl a j q in (
      λ t. elim (more.0 t) [
        | inl old ↦ inl old
        | inr is ↦ inr (λ z. Some (a_defined (sym is.2 z) (sym is.3 z) (sym is.4 z)))
      ],
      λ t. more.1 (elim t [
        | inl old ↦ inl old
        | inr is ↦
            let parts = known_parts m.0 a k j n q (same_Some (a_defined m.0 k n) (a_defined a j q) is) in
            inr (few, data_, parts.0, parts.1, parts.2)
      ]),
    )
source_more s (source.Defined m k n) _ (some_flags {c}) = (
  λ t. inl t,
  λ t. elim t [
    | inl old ↦ old
    | inr is ↦ absurd (true≢false (ap is_entity (same_Some (a_defined m.0 k n) (the_flags c) is)))
  ],
)
source_more s (source.Flags c) _ (an_entity {m = a} {n = q} {k = j} few data_) = (
  λ t. inl t,
  λ t. elim t [
    | inl old ↦ old
    | inr is ↦ absurd (true≢false (sym (ap is_entity (same_Some (the_flags c.0) (a_defined a j q) is))))
  ],
)
source_more s (source.Flags c) _ (some_flags {c = d}) =
    let more = set_more s.flags c.0 d in (
      λ t. elim (more.0 t) [ inl old ↦ inl old | inr is ↦ inr (ap (λ q. Some (the_flags q)) (sym is)) ],
      λ t. more.1 (elim t [
        | inl old ↦ inl old
        | inr is ↦ inr (sym (ap flags_in (same_Some (the_flags c.0) (the_flags d) is)))
      ]),
    )
source_more s (source.Trampoline i) y can =
    (λ t. inl t, λ t. elim t [ inl old ↦ old | inr is ↦ absurd (none-some y is) ])
source_more s (source.Intrinsic i) y can =
    (λ t. inl t, λ t. elim t [ inl old ↦ old | inr is ↦ absurd (none-some y is) ])
source_more s source.Unknown y can =
    (λ t. inl t, λ t. elim t [ inl old ↦ old | inr is ↦ absurd (none-some y is) ])

-- these sources more mark what one of them is known by
sources_more : (xs : List Source) (s : Marks) (y : Known) → CanMark (length s.modules) y
    → (is_marked (with_sources s xs) y ≡ true)
    ↔ ((is_marked s y ≡ true) ⊎ ((x : Source) × Contains xs x × (known_in x ≡ Some y)))
unfolding with_sources
sources_more [] s y can = (
  λ t. inl t,
  λ t. elim t [ inl old ↦ old | inr is ↦ absurd (none-some is.0 (placed [] is.0 is.1).1) ],
)
sources_more (x ∷ xs) s y can =
    let rest = sources_more xs (with_source s x) y (subst (λ n. CanMark n y) (sym (source_count s x)) can) in
    let here = source_more s x y can in (
      λ t. elim (rest.0 t) [
        | inl old ↦ elim (here.0 old) [
          | inl before ↦ inl before
          | inr is ↦ inr (x, contained (x ∷ xs) 0 x refl, is)
        ]
        | inr later ↦ inr (later.0, Contains-append_right (x ∷ []) xs later.0 later.1, later.2)
      ],
      λ t. rest.1 (elim t [
        | inl before ↦ inl (here.1 (inl before))
        | inr is ↦ elim (Contains-append_cases (x ∷ []) xs is.0 is.1) [
          | inl first ↦
              let same : x ≡ is.0 = only first in
              inl (here.1 (inr (ap known_in same ∙ is.2)))
          | inr later ↦ inr (is.0, later, is.2)
        ]
      ]),
    )
  where
    only : {z : Source} → Contains (x ∷ []) z → x ≡ z
    only {z} inside = elim (Contains-push_cases [] x z inside) [
      | inl none ↦ absurd (none-some z (placed [] z none).1)
      | inr is ↦ is
    ]

none_there : (n m : ℕ) (k : CoreKind) (q : ℕ) → is_hidden_in (slice_get (replicate n none_hidden) m) k q ≡ false
none_there zero m k q = refl
none_there (suc n) zero kind.Func q = refl
none_there (suc n) zero kind.Table q = set.contains-empty nat_cmp q
none_there (suc n) zero kind.Memory q = set.contains-empty nat_cmp q
none_there (suc n) zero kind.Global q = set.contains-empty nat_cmp q
none_there (suc n) zero kind.Tag q = refl
none_there (suc n) (suc m) k q = none_there n m k q

none_is_marked : (n : ℕ) (y : Known) → is_marked (none_marked n) y ≡ false
none_is_marked n (a_defined m k q) = none_there n m k q
none_is_marked n (the_flags c) = set.contains-empty nat_cmp c

-- where nothing was marked, these sources mark what one of them is known by
pub marked_by : (n : ℕ) (xs : List Source) (y : Known) → CanMark n y
    → (is_marked (with_sources (none_marked n) xs) y ≡ true)
    ↔ ((x : Source) × Contains xs x × (known_in x ≡ Some y))
marked_by n xs y can =
    let more = sources_more xs (none_marked n) y
    (subst (λ k. CanMark k y) (sym (length-replicate n none_hidden)) can) in (
      λ t. elim (more.0 t) [
        | inl old ↦ absurd (true≢false (sym old ∙ none_is_marked n y))
        | inr is ↦ is
      ],
      λ t. more.1 (inr t),
    )

-- what can't be marked isn't: functions and tags, and entities of modules that aren't there
pub marks_count : (xs : List Source) (s : Marks) → length (with_sources s xs).modules ≡ length s.modules
unfolding with_sources
marks_count [] s = refl
marks_count (x ∷ xs) s = marks_count xs (with_source s x) ∙ source_count s x
