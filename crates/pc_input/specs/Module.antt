-- A core module with its type.
use Rattle.std.specs.Prelude.{Option, Some, codes}
use Rattle.serde_json.specs.Data.{Data}
use Rattle.pc_parsed.specs.declared.payload.Payload.{Payload}
use Rattle.pc_parsed.specs.declared.payload.Payload.TheVariants as payload
use Rattle.pc_input_values.specs.Tree.{◌>>=◌, whole, exactly, field}
use Rattle.pc_input_values.specs.Rules.{Rules}
use Rattle.pc_input_values.specs.Record.{record_members}

-- {"ty":n,"imports":[["module","name",C],...],"funcs":[s,...],"tables":n,"memories":[bool,...],"globals":n,
-- "tags":n,"exports":[["name",core kind,i],...]}
unfoldable pub core_module : Rules → Data → Option Payload
core_module r d = do
  _ ← exactly 8 d
  ty ← field (codes "ty") whole d
  entities ← record_members r d
  Some (payload.ModuleSection entities ty)
