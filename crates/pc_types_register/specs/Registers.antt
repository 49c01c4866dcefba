-- How the resources at paths become known, each as a function finds it.
use Rattle.std.specs.Prelude.{◌≡◌, ⊤, ℕ, List, [], ◌∷◌, None, Some, Result, Ok, Err, if◌then◌else◌, ◌==◌}
use Rattle.std.specs.Fn.{CalledAt}
use denote.Ref.{Bor}
use denote.Param.Members.{Mut}
use Rattle.pc_numbers.specs.declared.runtime.ResourceIndex.{ResourceIndex}
use Rattle.pc_types_lists.specs.Known.{resource_of}
use Rattle.pc_types_lists.specs.Types.{Resources}
use Rattle.pc_types_register.specs.declared.register.WalkError.{WalkError}
use Rattle.pc_types_register.specs.declared.register.WalkError.TheVariants as walk_error
use Rattle.pc_spec_reading.specs.Resource.{ResourcePath}

-- a number is known as this resource, and all others as before
pub record Knows (old : Resources) (n : ℕ) (r : ResourceIndex) (new : Resources) : Type 0 where
  pub known : (q : ℕ) → resource_of new.known q ≡ (if q == n then Some r else resource_of old.known q)
  pub current : new.current ≡ old.current

-- From a state of the function on, the resources at these paths become known in order: one whose number is known is
-- passed over, and the function is called with the path of another one. Where it refuses the walk ends, and what is
-- known stays.
pub data Registers {F E : Type 0} (calls : Mut F (Bor (List (List ℕ)) × Unit {0}) (Result ResourceIndex E))
    : F → List ResourcePath → (old new : Resources) → Result ⊤ (WalkError E) → Type 0 where
  ended : {f : F} {k : Resources} → Registers calls f [] k k (Ok tt)
  passed : {f : F} {p : ResourcePath} {ps : List ResourcePath} {k j : Resources} {result : Result ⊤ (WalkError E)}
      (r : ResourceIndex) → resource_of k.known p.number ≡ Some r → Registers calls f ps k j result
      → Registers calls f (p ∷ ps) k j result
  found : {f : F} {p : ResourcePath} {ps : List ResourcePath} {k j : Resources} {result : Result ⊤ (WalkError E)}
      (r : ResourceIndex) (f' : F) (m : Resources) → resource_of k.known p.number ≡ None
      → CalledAt calls f p.names (Ok r) f' → Knows k p.number r m → Registers calls f' ps m j result
      → Registers calls f (p ∷ ps) k j result
  refused : {f : F} {p : ResourcePath} {ps : List ResourcePath} {k : Resources} (e : E) (f' : F)
      → resource_of k.known p.number ≡ None → CalledAt calls f p.names (Err e) f'
      → Registers calls f (p ∷ ps) k k (Err (walk_error.Find e))
  starved : {f : F} {ps : List ResourcePath} {k : Resources} → Registers calls f ps k k (Err walk_error.NoMemory)
