use Rattle.semver.specs.Identifiers.{parts_of}
use Rattle.pc_names.proofs.name_map.NameMap.on_track.Goals as goal

pub returns-in-Some : goal.returns-in-Some
returns-in-Some g c inserted stands =
    let track = rw c.in-Some.is at c.in_ok-track.ensures in
    rw (← track, ← c.as_str.ensures.value) (c.newest.ensures inserted (parts_of c.in-Some._version) stands)
