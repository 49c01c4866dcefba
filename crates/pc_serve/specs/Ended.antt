-- What a run reads and writes, where source and sink tell their bytes, and why it ends so.
use Rattle.std.specs.Prelude.{◌≡◌, ◌≢◌, ◌⊎◌, ℕ, ◌<◌, ◌≤◌, List, [], length, drop, take, Option, Some, None}
use Rattle.pc_stream.specs.Stream.{ShowsFault, Takes}
use Rattle.pc_stream.specs.declared.whole.TheConstants.{MAX_INPUT}
use Rattle.pc_serve.specs.declared.status.Status.{Status}
use Rattle.pc_serve.specs.declared.status.Status.TheVariants as status

-- bytes are all that a source had, at most 64 MiB, and none is left; of a source that tells none this says the length
-- alone
pub record IsWhole (left left_new : Option (List ℕ)) (bytes : List ℕ) : Type 0 where
  pub fits : length bytes ≤ MAX_INPUT
  pub all : (told : List ℕ) → left ≡ Some told → (bytes ≡ told) × (left_new ≡ Some [])

-- a source gave more bytes than an input may have; of a source that tells none this says nothing
pub record GaveTooMuch (left left_new : Option (List ℕ)) : Type 0 where
  pub gave : (told : List ℕ) → left ≡ Some told
      → (n : ℕ) × (MAX_INPUT < n) × (n ≤ length told) × (left_new ≡ Some (drop n told))

-- all bytes of a source were read, and a text was written that is said of them
pub record Tells (Is : (bytes text : List ℕ) → Type 0) (left left_new written written_new : Option (List ℕ))
    : Type 0 where
  pub bytes : List ℕ
  pub text : List ℕ
  pub read : IsWhole left left_new bytes
  pub said : Is bytes text
  pub wrote : Takes written written_new text

-- a front of a text that was due is all that was written
pub record WroteFront (IsDue : (text : List ℕ) → Type 0) (written written_new : Option (List ℕ)) : Type 0 where
  pub text : List ℕ
  pub due : IsDue text
  pub n : ℕ
  pub within : n ≤ length text
  pub wrote : Takes written written_new (take n text)

-- what bytes stand for, and which of it is valid; what a text says of bytes that a command makes, and one that refuses;
-- and two texts that are always the same
module _ {Command Input : Type 0} (StandsFor : (bytes : List ℕ) → Input → Type 0) (IsValid : Input → Type 0)
    (Says : Command → (bytes text : List ℕ) → Type 0) (Refuses : (bytes text : List ℕ) → Type 0)
    (usage_text too_long_text : List ℕ) where
  -- a text is the one that a run has to write: the usage where the words name no command; else what is said of all the
  -- bytes of the source, or that there are too many
  abbrev pub IsDue : Option Command → (left left_new : Option (List ℕ)) → (text : List ℕ) → Type 0
  IsDue None left left_new text = text ≡ usage_text
  IsDue (Some c) left left_new text =
      (GaveTooMuch left left_new × (text ≡ too_long_text))
      ⊎ ((bytes : List ℕ) × IsWhole left left_new bytes × (Says c bytes text ⊎ Refuses bytes text))

  -- a run on words has ended: what it read and what it wrote, and the cause of its status. `Kept` says that the sink is
  -- as it was
  pub record Ended (words : Option Command) (left left_new : Option (List ℕ)) (reads reads_new : ℕ)
      (written written_new : Option (List ℕ)) (writes writes_new : ℕ) (Kept : Type 0) (result : Status) : Type 0 where
    -- a run that is done wrote the text which its command makes of the bytes
    pub done : (c : Command) → words ≡ Some c → result ≡ status.Done
        → Tells (Says c) left left_new written written_new
    -- one that refused wrote why the bytes have no such text, and bytes that stand for a valid input aren't refused
    pub refused : result ≡ status.Refused → Tells Refuses left left_new written written_new
    pub completes : (told : List ℕ) → left ≡ Some told → (input : Input) → StandsFor told input → IsValid input
        → result ≢ status.Refused
    -- where they are at most 64 MiB, and no count of faults rises or stands at its last value, the run is done, or
    -- there was no memory
    pub succeeds : (c : Command) → words ≡ Some c → (told : List ℕ) → left ≡ Some told → length told ≤ MAX_INPUT
        → (input : Input) → StandsFor told input → IsValid input
        → ¬ (ShowsFault reads reads_new) → ¬ (ShowsFault writes writes_new)
        → (result ≡ status.Done) ⊎ (result ≡ status.NoMemory)
    -- the usage is written only for words that name no command
    pub usage : result ≡ status.Usage → (words ≡ None) × Takes written written_new usage_text
    -- where bytes are told, n of them were given, from the front, and above the limit the answer is that there are too
    -- many
    pub too_long : result ≡ status.TooLong → GaveTooMuch left left_new × Takes written written_new too_long_text
    pub gave : (told : List ℕ) → left ≡ Some told → (n : ℕ) × (n ≤ length told) × (left_new ≡ Some (drop n told))
        × (MAX_INPUT < n → (result ≡ status.TooLong) ⊎ (result ≡ status.WriteFault))
    -- a fault has a count to show for it, and a failed write leaves a front of the text that was due
    pub read_fault : result ≡ status.ReadFault → ShowsFault reads reads_new × Kept
    pub write_fault : result ≡ status.WriteFault
        → ShowsFault writes writes_new × WroteFront (IsDue words left left_new) written written_new
    pub memory : result ≡ status.NoMemory → Kept
    pub reads_never_fall : reads ≤ reads_new
    pub writes_never_fall : writes ≤ writes_new
