-- Parts of a list to which the places of one kind are appended after those of another.
use Rattle.std.proofs.Common.{◌≡◌, ◌≤◌, ◌+◌, ◌-◌, ℕ, List, [], ◌∷◌, ◌++◌, length, take, drop, ap, ◌∙◌}
use Rattle.std.proofs.Common.{arith, if◌then◌else◌}
use Rattle.std.specs.Prelude.{slice_range}
use Rattle.std.proofs.Math.Seq.{drop-append_seam, take-length}
use Rattle.std.proofs.lemmas.List.{drop-append-le, length-append, length-drop, take-append-le}
use Rattle.pc_types.specs.declared.parsed.CoreEntity.{CoreEntity}
use Rattle.pc_types.specs.declared.parsed.CoreKind.{CoreKind}
use Rattle.pc_types.specs.declared.parsed.CoreKind.TheVariants as kind
use Rattle.pc_types.specs.Record.{kind_of, places_from, same_kind}
use Rattle.pc_types_record.specs.Places.{ArePlacesOf, parts}

-- each import is of one kind
pub places_total : (first : ℕ) (is : List (List ℕ × List ℕ × CoreEntity))
    → length (places_from kind.Func first is) + length (places_from kind.Table first is)
    + length (places_from kind.Memory first is) + length (places_from kind.Global first is)
    + length (places_from kind.Tag first is) ≡ length is
places_total first [] = omega arith
places_total first (i ∷ is) =
    by (kind_of i.2) (places_from kind.Func (first + 1) is) (places_from kind.Table (first + 1) is)
    (places_from kind.Memory (first + 1) is) (places_from kind.Global (first + 1) is)
    (places_from kind.Tag (first + 1) is) (places_total (first + 1) is)
  where
    by : (k : CoreKind) (fs ts ms gs es : List ℕ)
        → length fs + length ts + length ms + length gs + length es ≡ length is
        → length (if same_kind kind.Func k then first ∷ fs else fs)
        + length (if same_kind kind.Table k then first ∷ ts else ts)
        + length (if same_kind kind.Memory k then first ∷ ms else ms)
        + length (if same_kind kind.Global k then first ∷ gs else gs)
        + length (if same_kind kind.Tag k then first ∷ es else es) ≡ length (i ∷ is)
    by kind.Func fs ts ms gs es so_far = omega (arith, so_far)
    by kind.Table fs ts ms gs es so_far = omega (arith, so_far)
    by kind.Memory fs ts ms gs es so_far = omega (arith, so_far)
    by kind.Global fs ts ms gs es so_far = omega (arith, so_far)
    by kind.Tag fs ts ms gs es so_far = omega (arith, so_far)

-- how long a list is to which another was appended
pub grown : (old new ys : List ℕ) → new ≡ old ++ ys → length new ≡ length old + length ys
grown old new ys is = ap length is ∙ length-append old ys

-- what was appended last is the part from there on
pub part_last : (old new ys : List ℕ) (from to : ℕ) → new ≡ old ++ ys → from ≡ length old → to ≡ length new
    → slice_range new from to ≡ ys
part_last old new ys from to is starts ends =
    let many : to - from ≡ length ys = omega (arith, starts, ends, grown old new ys is) in
    ap (λ n. take n (drop from new)) many
    ∙ ap (λ n. take (length ys) (drop n new)) starts
    ∙ ap (λ xs. take (length ys) (drop (length old) xs)) is
    ∙ ap (take (length ys)) (drop-append_seam old ys)
    ∙ take-length ys

-- a part stays where more is appended
pub part_kept : (old new ys : List ℕ) (from to : ℕ) → new ≡ old ++ ys → from ≤ to → to ≤ length old
    → slice_range new from to ≡ slice_range old from to
part_kept old new ys from to is ordered within =
    ap (λ xs. take (to - from) (drop from xs)) is
    ∙ ap (take (to - from)) (drop-append-le from old ys (omega (arith, ordered, within)))
    ∙ take-append-le (to - from) (drop from old) ys (omega (arith, ordered, within, length-drop from old))

-- each kind has its part where the places of each were appended, and the length was taken then
pub parts_are : (is : List (List ℕ × List ℕ × CoreEntity)) (p q r s t u : List ℕ) (f g h i j : ℕ) → p ≡ []
    → q ≡ p ++ places_from kind.Func 0 is → f ≡ length q
    → r ≡ q ++ places_from kind.Table 0 is → g ≡ length r
    → s ≡ r ++ places_from kind.Memory 0 is → h ≡ length s
    → t ≡ s ++ places_from kind.Global 0 is → i ≡ length t
    → u ≡ t ++ places_from kind.Tag 0 is → j ≡ length u
    → ArePlacesOf is (parts u (record { funcs = f; tables = g; memories = h; globals = i; tags = j }))
parts_are is p q r s t u f g h i j none q_is f_is r_is g_is s_is h_is t_is i_is u_is j_is = by
  where
    r_long : length r ≡ length q + length (places_from kind.Table 0 is)
    r_long = grown q r (places_from kind.Table 0 is) r_is

    s_long : length s ≡ length r + length (places_from kind.Memory 0 is)
    s_long = grown r s (places_from kind.Memory 0 is) s_is

    t_long : length t ≡ length s + length (places_from kind.Global 0 is)
    t_long = grown s t (places_from kind.Global 0 is) t_is

    by : ArePlacesOf is (parts u (record { funcs = f; tables = g; memories = h; globals = i; tags = j }))
    by kind.Func =
        part_kept t u _ 0 f u_is (omega arith) (omega (arith, f_is, r_long, s_long, t_long))
        ∙ part_kept s t _ 0 f t_is (omega arith) (omega (arith, f_is, r_long, s_long))
        ∙ part_kept r s _ 0 f s_is (omega arith) (omega (arith, f_is, r_long))
        ∙ part_kept q r _ 0 f r_is (omega arith) (omega (arith, f_is))
        ∙ part_last p q _ 0 f q_is (omega (arith, ap length none)) f_is
    by kind.Table =
        part_kept t u _ f g u_is (omega (arith, f_is, g_is, r_long)) (omega (arith, g_is, s_long, t_long))
        ∙ part_kept s t _ f g t_is (omega (arith, f_is, g_is, r_long)) (omega (arith, g_is, s_long))
        ∙ part_kept r s _ f g s_is (omega (arith, f_is, g_is, r_long)) (omega (arith, g_is))
        ∙ part_last q r _ f g r_is f_is g_is
    by kind.Memory =
        part_kept t u _ g h u_is (omega (arith, g_is, h_is, s_long)) (omega (arith, h_is, t_long))
        ∙ part_kept s t _ g h t_is (omega (arith, g_is, h_is, s_long)) (omega (arith, h_is))
        ∙ part_last r s _ g h s_is g_is h_is
    by kind.Global =
        part_kept t u _ h i u_is (omega (arith, h_is, i_is, t_long)) (omega (arith, i_is))
        ∙ part_last s t _ h i t_is h_is i_is
    by kind.Tag = part_last t u _ i j u_is i_is j_is
