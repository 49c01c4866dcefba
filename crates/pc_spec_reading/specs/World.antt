-- What the component instances of a reading share: what was done so far, and what is counted.
use Rattle.std.specs.Prelude.{ℕ, ◌+◌, ◌==◌, Bool, true, false, List, [], ◌∷◌, ◌++◌, Option, Some, None, nat_lt, count_by}
use Rattle.pc_types.specs.declared.parsed.CoreFuncSig.{CoreFuncSig}
use Rattle.pc_types.specs.TypeTree.{TypeTree, Path}
use Rattle.pc_spec_plan.specs.Log.{Entry, declared_resource}
use Rattle.pc_parsed.specs.declared.payload.ExternName.{ExternName}
use Rattle.pc_parsed.specs.Mark.{Mark}
use Rattle.pc_spec_reading.specs.Once.{with_once}

-- an import of the root that the host gives, with its type as it stood when the import was prepared. A path leads from
-- here on: its first number is the place of one of these
pub record HostImport : Type 0 where
  pub name : ExternName
  pub import_type : TypeTree

-- an unsafe intrinsic, with the signature of the item that was the first to add it as a core function
pub record AddedIntrinsic : Type 0 where
  pub place : ℕ
  pub signature : CoreFuncSig

-- what all component instances share: what was done so far, how many of them have begun, and the total, or nothing
-- where totals aren't counted; what the host gives; the resources that came with it, by their paths; and the unsafe
-- intrinsics that became core functions, each once, in the order in which they first did
pub record World : Type 0 where
  pub log : List (Entry Mark)
  pub begun : ℕ
  pub total : Option ℕ
  pub imports : List HostImport
  pub imported_resources : List Path
  pub intrinsics : List AddedIntrinsic

-- the world in which a reading begins, with the total before the first item
abbrev pub new_world : (total : Option ℕ) → World
new_world total =
    record { log = []; begun = 0; total = total; imports = []; imported_resources = []; intrinsics = [] }

-- the number that the total may not reach
abbrev pub full : ℕ
full = 4294967295

-- a total that has grown by so much
abbrev pub grown : Option ℕ → ℕ → Option ℕ
grown None n = None
grown (Some total) n = Some (total + n)

-- whether a total is below the number that it may not reach; one that isn't counted always is
abbrev pub has_room : Option ℕ → Bool
has_room None = true
has_room (Some total) = nat_lt total full

-- a world with one more entry in the log
abbrev pub logging : World → Entry Mark → World
logging w e = record w { log = w.log ++ e ∷ [] }

-- whether two intrinsics are one
abbrev pub same_intrinsic : AddedIntrinsic → AddedIntrinsic → Bool
same_intrinsic i j = i.place == j.place

-- a world in which an intrinsic was added as a core function: the first signature stands
abbrev pub with_intrinsic : World → AddedIntrinsic → World
with_intrinsic w i = record w { intrinsics = with_once same_intrinsic w.intrinsics i }

-- whether an entry declares a resource
abbrev pub is_declaration : Entry Mark → Bool
is_declaration (declared_resource representation destructor c) = true
is_declaration _ = false

-- how many resources were declared so far
abbrev pub resources_declared : World → ℕ
resources_declared w = count_by is_declaration w.log
