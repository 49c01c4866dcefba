-- The least places of keys say what the keys say.
use Rattle.pc_partition.proofs.ClassLemmas.{least_of_keys, of_keys}
use Rattle.pc_partition.proofs.partition.SameVmctxPartition.from_keys.Goals as goal

pub returns : goal.returns
returns g c =
    let keys = c.args.keys.now in
    let least = c.in_ok-classes.classes in
    let told = c.in_ok-classes.ensures in
    of_keys keys least told (least_of_keys keys least told c.requires.numbered)
