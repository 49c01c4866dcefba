-- The generated input: a component that gives a function, and a chain of instances of another, each of which takes the
-- function of the one before and gives one of its own.
use Rattle.std.specs.Prelude.{ℕ, zero, suc, ◌+◌, List, [], ◌∷◌, ◌++◌}
use Rattle.pc_parsed.specs.declared.payload.Payload.{Payload}
use Rattle.pc_parsed.specs.declared.payload.Payload.TheVariants as payload
use Rattle.pc_generate.specs.declared.input.Generated.{Generated}
use Rattle.pc_generate.specs.Bodies.{aliasing, first, first_instance, instance_with, second, version}
use Rattle.pc_generate.specs.Table.{table}

-- what stands before the chain: the two components, and an instance of the first
abbrev pub front : List Payload
front = version ∷ payload.ComponentSection ∷ first ++ payload.ComponentSection ∷ second ++ first_instance ∷ []

-- a link of the chain: the function of the instance of this number, right before the instance that takes it
abbrev pub link : (number : ℕ) → List Payload
link k = aliasing k ∷ instance_with k ∷ []

-- so many links, the first of this number
abbrev pub links : (number left : ℕ) → List Payload
links k zero = []
links k (suc left) = link k ++ links (k + 1) left

-- the payloads of a chain with so many links
unfoldable pub payloads : (n : ℕ) → List Payload
payloads n = front ++ links 0 n ++ payload.End ∷ []

-- the whole input: as many component instances may begin as do, which are the root, one of the first component, and
-- one for each link
abbrev pub generated : (n : ℕ) → Generated
generated n = record { tunables = record { max_component_instances = n + 2 }; table = table; payloads = payloads n }
