use Rattle.std.proofs.Common.{◌≡◌, ◌++◌, drop, map}
use Rattle.pc_local.specs.Entries.{export_entry, export_local}
use Rattle.pc_local.proofs.entry.push_exports.Given as goal

abbrev pub invariant-loop-entry : goal.invariant-loop-entry
invariant-loop-entry l = record {
  items : l.body.initializers ++ map export_local (drop l.entry-index l.entries)
      ≡ l.fn.body.initializers ++ map export_local l.entries;
  exports : l.body.exports ++ map export_entry (drop l.entry-index l.entries)
      ≡ l.fn.body.exports ++ map export_entry l.entries;
}
