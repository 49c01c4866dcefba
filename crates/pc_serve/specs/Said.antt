-- What comes of writing one text.
use Rattle.std.specs.Prelude.{◌≡◌, ◌⊎◌, ℕ, List, Option}
use Rattle.pc_stream.specs.Stream.{ShowsFault, Takes}
use Rattle.pc_serve.specs.declared.status.Status.{Status}
use Rattle.pc_serve.specs.declared.status.Status.TheVariants as status
use Rattle.pc_serve.specs.Ended.{WroteFront}

-- a text was written whole, and the result is its status; or a write failed, and a front of it was written
unfoldable pub Said : (written written_new : Option (List ℕ)) → (faults faults_new : ℕ) → Status → List ℕ
    → (result : Status) → Type 0
Said written written_new faults faults_new said text result =
    ((result ≡ said) × Takes written written_new text)
    ⊎ ((result ≡ status.WriteFault) × ShowsFault faults faults_new
    × WroteFront (λ (whole : List ℕ). whole ≡ text) written written_new)
