-- Partitions of the function imports of a core module into those that come from one place.
use Rattle.std.specs.Prelude.{◌≡◌, ◌≤◌, ◌↔◌, ℕ, List, length, Option, None, Some, slice_get, unwrap_or, min}
use Rattle.pc_partition.specs.declared.partition.SameVmctxPartition.{SameVmctxPartition}
use Rattle.pc_partition.specs.declared.partition.SameVmctxPartition.TheVariants as variant
use Rattle.pc_partition.specs.Least.{Share}

-- the number that stands for the class of a number: under the top all are one class, and past its end a list says that
-- each number is alone
abbrev pub representative : SameVmctxPartition → ℕ → ℕ
representative variant.Top f = 0
representative (variant.Known least) f = unwrap_or (slice_get least f) f

-- two numbers are together where one number stands for both
abbrev pub Together : SameVmctxPartition → ℕ → ℕ → Type 0
Together p i j = representative p i ≡ representative p j

-- what stands for a class is the least number of it
pub record IsPartition (p : SameVmctxPartition) : Type 0 where
  pub below : (f : ℕ) → representative p f ≤ f
  pub own : (f : ℕ) → representative p (representative p f) ≡ representative p f

-- one partition is as fine as another where all that it puts together is together in the other
abbrev pub Refines : SameVmctxPartition → SameVmctxPartition → Type 0
Refines p q = (i j : ℕ) → Together p i j → Together q i j

-- how many numbers a partition tells of, past which each is alone: the top tells of all
abbrev pub extent : SameVmctxPartition → Option ℕ
extent variant.Top = None
extent (variant.Known least) = Some (length least)

-- the lesser of two extents
abbrev pub lesser : Option ℕ → Option ℕ → Option ℕ
lesser None n = n
lesser (Some m) None = Some m
lesser (Some m) (Some n) = Some (min m n)

-- what a list of keys says: it tells of as many numbers as there are keys, and puts together those with one key
pub record IsOfKeys {K : Type 0} (keys : List (Option K)) (p : SameVmctxPartition) : Type 0 where
  pub is_partition : IsPartition p
  pub size : extent p ≡ Some (length keys)
  pub together : (i j : ℕ) → Together p i j ↔ Share keys i j

-- what two partitions say together: it puts together what both do, and tells of as many numbers as the lesser does
pub record IsMeet (p q met : SameVmctxPartition) : Type 0 where
  pub is_partition : IsPartition met
  pub size : extent met ≡ lesser (extent p) (extent q)
  pub together : (i j : ℕ) → Together met i j ↔ (Together p i j × Together q i j)
