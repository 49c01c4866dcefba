-- What is exported under a name, and its node in the reading.
use Rattle.std.specs.Prelude.{ℕ, List, [], ◌∷◌, ◌++◌, drop, length, map}
use Rattle.pc_types.specs.declared.types.ComponentExternData.{ComponentExternData}
use Rattle.pc_types.specs.TypeTree.{Path, TypeTree}
use Rattle.pc_spec_plan.specs.ExportNode.{ExportNode, ExportNodes, NamedNode, and_node, instance, no_nodes}
use Rattle.pc_parsed.specs.Mark.{Mark, of_type}
use Rattle.pc_spec_reading.specs.Member.{further}
use Rattle.pc_spec_reading.specs.Nodes.{Reached, extern_data, host_node, more, no_data, reached, then_reach, value_node}
use Rattle.pc_spec_reading.specs.Value.{NamedValues, Value, and_value, no_values}
use Rattle.pc_spec_reading.specs.World.{World}

-- what is exported: a value, or what the host has at a path
pub data Subject : Type 0 where
  a_value : Value → Subject
  of_host : Path → TypeTree → Subject

-- its node
abbrev pub subject_node : Subject → World → Reached (ExportNode Mark)
subject_node (a_value v) w = value_node v w
subject_node (of_host p tree) w = host_node p tree w

-- what an instance has under a name, and what the name says of itself
pub record Part : Type 0 where
  pub name : List ℕ
  pub meta : ComponentExternData
  pub subject : Subject

-- the nodes of parts, in order
abbrev pub part_nodes : List Part → World → Reached (ExportNodes Mark)
part_nodes [] w = reached no_nodes w
part_nodes (p ∷ ps) w =
    then_reach (subject_node p.subject w) (λ n v. then_reach (part_nodes ps v) (more p.name p.meta n))

-- values as parts
abbrev pub value_parts : NamedValues → List Part
value_parts no_values = []
value_parts (and_value name v vs) =
    record { name = name.name; meta = extern_data name; subject = a_value v } ∷ value_parts vs

-- what the host has one name further than a path
abbrev pub host_part : Path → List ℕ × TypeTree → Part
host_part p f = record { name = f.0; meta = no_data; subject = of_host (further p f.0) f.1 }

-- what a host instance has, as parts
abbrev pub host_parts : Path → List (List ℕ × TypeTree) → List Part
host_parts p fs = map (host_part p) fs

-- an instance whose parts are being reached: the name that it has in the instance around it, its parts and its type,
-- and the nodes of the parts so far
pub record Reader : Type 0 where
  pub name : List ℕ
  pub meta : ComponentExternData
  pub parts : List Part
  pub tree : TypeTree
  pub reads : List (NamedNode Mark)

-- these nodes in front of others
abbrev pub put_before : List (NamedNode Mark) → ExportNodes Mark → ExportNodes Mark
put_before [] ns = ns
put_before (x ∷ xs) ns = and_node x.name x.extern_data x.node (put_before xs ns)

-- the node of an instance, where these are the nodes of the parts that are left
abbrev pub closing : Reader → ExportNodes Mark → World → Reached (ExportNode Mark)
closing r ns w = reached (instance (of_type r.tree) (put_before r.reads ns)) w

-- what is read of an instance from here on
abbrev pub reads_on : Reader → World → Reached (ExportNode Mark)
reads_on r w = then_reach (part_nodes (drop (length r.reads) r.parts) w) (closing r)

-- an instance with the node of one part more
abbrev pub with_node : Reader → (name : List ℕ) → ComponentExternData → ExportNode Mark → Reader
with_node r name meta x = record r { reads = r.reads ++ (record { name = name; extern_data = meta; node = x }) ∷ [] }

-- what is read when the node of a part has been reached so, which has this name: of the instance that the part stands
-- in, and of those around it
unfoldable pub resume : List Reader → (name : List ℕ) → ComponentExternData → Reached (ExportNode Mark)
    → Reached (ExportNode Mark)
resume [] name meta q = q
resume (r ∷ rs) name meta q = resume rs r.name r.meta (then_reach q (λ x v. reads_on (with_node r name meta x) v))
