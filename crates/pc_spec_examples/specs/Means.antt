-- What a text of the input form means, by the definitions alone: the tree of the text, the input that it is, and the
-- reading of its payloads.
use Rattle.std.specs.Prelude.{◌≡◌, ℕ, List, [], Option, Some, None, option_map}
use Rattle.serde_json.specs.Read.{read}
use Rattle.pc_types.specs.declared.error.Place.TheVariants as place
use Rattle.pc_types.specs.declared.error.Unsupported.{Unsupported}
use Rattle.pc_types.specs.TypeTree.{Path}
use Rattle.pc_spec_plan.specs.ExportNode.{NamedNode}
use Rattle.pc_spec_plan.specs.Log.{Entry}
use Rattle.pc_parsed.specs.Mark.{Mark}
use Rattle.pc_input.specs.declared.input.Input.{Input}
use Rattle.pc_input_values.specs.Tree.{◌>>=◌}
use Rattle.pc_input.specs.Input.{input_of}
use Rattle.pc_spec_reading.specs.Outcome.{Outcome, Fault, done, fault, unsupported, and_then}
use Rattle.pc_spec_reading.specs.Reading.{Reading, reading}
use Rattle.pc_spec_reading.specs.Total.{counted}
use Rattle.pc_spec_reading.specs.Uncounted.{uncounted}
use Rattle.pc_spec_reading.specs.World.{HostImport, AddedIntrinsic}

-- the reading of an input, where no types were held before
abbrev pub of_input : Input → Option (Outcome Reading)
of_input i =
    reading i.table i.intrinsics i.tunables.max_component_instances (Some (counted i.table 0 i.payloads)) i.payloads

-- the reading of a text
abbrev pub meaning : List ℕ → Option (Outcome Reading)
meaning text = read text >>= input_of >>= of_input

-- a text means this outcome, whatever its total is
abbrev pub Means : List ℕ → Outcome Reading → Type 0
Means text outcome = option_map uncounted (meaning text) ≡ Some outcome

-- the total of an outcome that is done
abbrev pub total_of : Outcome Reading → Option ℕ
total_of (done r) = r.total
total_of o = None

-- the reading of a text comes to this total
abbrev pub ComesTo : List ℕ → (total : ℕ) → Type 0
ComesTo text n = option_map total_of (meaning text) ≡ Some (Some n)

-- a text is an input whose payloads don't nest
abbrev pub DoesNotNest : List ℕ → Type 0
DoesNotNest text = meaning text ≡ None

-- the reading is done, with this log, these nodes and this many component instances; the host gives nothing, and no
-- unsafe intrinsic becomes a core function
abbrev pub finished : List (Entry Mark) → List (NamedNode Mark) → (begun : ℕ) → Outcome Reading
finished log nodes begun = done (record {
  log = log;
  nodes = nodes;
  begun = begun;
  total = None;
  imports = [];
  imported_resources = [];
  intrinsics = [];
})

-- a reading in which the host gives these imports, and with them resources at these paths
abbrev pub given : List HostImport → (resources : List Path) → Outcome Reading → Outcome Reading
given imports resources o =
    and_then o (λ (r : Reading). done (record r { imports = imports; imported_resources = resources }))

-- a reading that adds these unsafe intrinsics as core functions
abbrev pub added : List AddedIntrinsic → Outcome Reading → Outcome Reading
added intrinsics o = and_then o (λ (r : Reading). done (record r { intrinsics = intrinsics }))

-- it is stuck at an item of a component instance
abbrev pub stuck : Fault → (component_instance item : ℕ) → Outcome Reading
stuck f c n = fault f (place.Reading c n)

-- an export of the root is refused
abbrev pub refused : Unsupported → (export : ℕ) → Outcome Reading
refused u n = fault (unsupported u) (place.Export n)
