-- What the streams in memory hold, and what a call leaves of it.
use Rattle.std.specs.Prelude.{ℕ, ◌+◌, ◌-◌, ◌^◌, min, Bool, ◌&&◌, nat_le, if◌then◌else◌, List, ◌++◌, length, take}
use Rattle.std.specs.Prelude.{Option, None, Some, Contains}

-- the numbers of the calls that fail, the number of the next call, and the faults so far
pub record Calls : Type 0 where
  pub fails : List ℕ
  pub next : ℕ
  pub faults : ℕ

-- the next call fails
abbrev pub FailsNext : Calls → Type 0
FailsNext calls = Contains calls.fails calls.next

-- the count after n, which stays at the last value of a `u64`
abbrev pub next_count : ℕ → ℕ
next_count n = min (n + 1) (2 ^ 64 - 1)

-- the calls once one more was made, which didn't fail
abbrev pub calls_after_success : Calls → Calls
calls_after_success calls = record calls { next = next_count calls.next }

-- the calls once one more was made, which failed
abbrev pub calls_after_fault : Calls → Calls
calls_after_fault calls = record calls { next = next_count calls.next; faults = next_count calls.faults }

-- a source: the bytes left, the most that one call gives, and its calls
pub record Supply : Type 0 where
  pub left : List ℕ
  pub most : ℕ
  pub calls : Calls

-- what a sink keeps: the bytes that fit its room, the room's capacity, and whether nothing was dropped
pub record Store : Type 0 where
  pub kept : List ℕ
  pub capacity : ℕ
  pub is_whole : Bool

-- the store once it has taken these bytes: it keeps what fits and drops the rest
abbrev pub store_with : Store → List ℕ → Store
store_with store bytes = let room = store.capacity - length store.kept in record {
  kept = store.kept ++ take room bytes;
  capacity = store.capacity;
  is_whole = store.is_whole && nat_le (length bytes) room;
}

-- all that was written, while nothing was dropped
abbrev pub told_bytes : Store → Option (List ℕ)
told_bytes store = if store.is_whole then Some store.kept else None

-- a sink: its store, the most that one call takes, and its calls
pub record Intake : Type 0 where
  pub store : Store
  pub most : ℕ
  pub calls : Calls
