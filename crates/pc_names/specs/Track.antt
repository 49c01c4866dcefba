-- A name may end in a version, `plain@version`. Names of compatible versions share a track, which is a text too.
use Rattle.std.specs.Prelude.{ℕ, ◌==◌, nat_lt, List, ◌∷◌, ◌++◌, length, codes, Bool, Option, Some, None, if◌then◌else◌}
use Rattle.std.specs.Prelude.{option_and_then}
use Rattle.std.specs.Fmt.{decimal}
use Rattle.std.specs.List.{list_any, before_first, after_first}
use Rattle.std.specs.Option.{option_map}
use Rattle.std.specs.Ordering.{nat_cmp, on, then_cmp}
use Rattle.std.specs.Result.{result_ok}
use Rattle.std.specs.declared.cmp.Ordering.{Ordering}
use Rattle.semver.specs.Order.{build_cmp, pre_cmp}
use Rattle.semver.specs.Parse.{Parts, version_parts}

-- whether a byte is the `@` before a version
abbrev pub is_at_sign : ℕ → Bool
is_at_sign b = b == 64

-- the version of a name: what follows its first `@`, where `semver` reads a version there
abbrev pub version_of : List ℕ → Option Parts
version_of name = if list_any is_at_sign name then result_ok (version_parts (after_first is_at_sign name)) else None

-- the numbers that compatible versions share, `2` for 2.1.3 and `0.1` for 0.1.3; a pre-release and 0.0.x share none
abbrev pub shared_numbers : Parts → Option (List ℕ)
shared_numbers version =
    if nat_lt 0 (length version.3) then None
    else if nat_lt 0 version.0 then Some (decimal version.0)
    else if nat_lt 0 version.1 then Some (codes "0." ++ decimal version.1)
    else None

-- a version's track after this plain part, with the version
abbrev pub track_at : List ℕ → Parts → Option (List ℕ × Parts)
track_at plain version = option_map (λ numbers. (plain ++ 64 ∷ numbers, version)) (shared_numbers version)

-- the track of a name and its version there: the name with the shared numbers in place of the version
abbrev pub track_of : List ℕ → Option (List ℕ × Parts)
track_of name = option_and_then (track_at (before_first is_at_sign name)) (version_of name)

-- the order of versions: the numbers, then the pre-release, then the build text
abbrev pub version_cmp : Parts → Parts → Ordering
version_cmp = then_cmp (on (λ v. v.0) nat_cmp) (then_cmp (on (λ v. v.1) nat_cmp) (then_cmp (on (λ v. v.2) nat_cmp)
    (then_cmp (on (λ v. v.3) pre_cmp) (on (λ v. v.4) build_cmp))))
