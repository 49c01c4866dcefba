-- What a local program is of a payload list: its root stands for the root of the list, and with it each nested body
-- where it is defined, whether or not it is ever instantiated.
use Rattle.std.specs.Prelude.{◌≡◌, ℕ, List, Option, Some}
use Rattle.std.specs.List.{AllZip}
use Rattle.pc_parsed.specs.declared.payload.Payload.{Payload}
use Rattle.pc_spec_reading.specs.Item.{Items, bodies_in}
use Rattle.pc_spec_reading.specs.Nest.{root_of}
use Rattle.pc_spec_reading.specs.Section.{modules_of}
use Rattle.pc_local.specs.declared.item.LocalProgram.{LocalProgram}
use Rattle.pc_local.specs.Standing.{BodyStands, ComponentStands, no_names}

-- a program stands for a list, in which the root may import the unsafe intrinsics under the exposed name
pub record ProgramStands (exposed : Option (List ℕ)) (ps : List Payload) (program : LocalProgram) : Type 0 where
  -- the list nests: this is the body of its root
  pub body : Items
  pub nests : root_of exposed ps ≡ Some body
  -- the root stands for it, and captures nothing
  pub root : BodyStands program.components no_names program.root body
  -- the components are the nested bodies, each at its number, whether or not an instance is ever made of one
  pub components : AllZip (ComponentStands program.components) program.components (bodies_in body)
  -- the core modules are those of the list, in order
  pub modules : program.modules ≡ modules_of ps
