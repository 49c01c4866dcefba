-- The newest version of each track, under the tracks' keys.
use Rattle.std.specs.Prelude.{Bool, false, List, Option, None, Some, if◌then◌else◌}
use Rattle.std.specs.Map.{lookup}
use Rattle.std.specs.Ordering.{is_lt}
use Rattle.indexmap.specs.IndexMap.{insert_entry}
use Rattle.pc_names.specs.Contents.{Newest}
use Rattle.pc_names.specs.Track.{version_cmp}

-- whether what a track has is of a greater version
abbrev pub is_passed : Option Newest → Newest → Bool
is_passed None newest = false
is_passed (Some held) newest = is_lt (version_cmp newest.1 held.1)

-- the tracks after a version more, which is the newest of its track where none there is greater
abbrev pub noted : {K : Type 0} → (K → K → Bool) → List (K × Newest) → K → Newest → List (K × Newest)
noted eq tracks track newest =
    if is_passed (lookup (eq track) tracks) newest then tracks else insert_entry eq tracks track newest
