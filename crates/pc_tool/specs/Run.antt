-- How a run has ended, in the words of this program.
use Rattle.std.specs.Prelude.{ℕ, List, Option}
use Rattle.pc_text.specs.FaultText.{too_long as too_long_text}
use Rattle.pc_text.specs.UsageText.{usage as usage_text}
use Rattle.pc_serve.specs.Ended.{Ended as EndedWith}
use Rattle.pc_serve.specs.declared.status.Status.{Status}
use Rattle.pc_tool.specs.declared.words.Command.{Command}
use Rattle.pc_tool.specs.Headline.{Decodes, IsFaultText, IsTextOf, IsValidInput}

-- a run on words has ended, where a command writes the text that it makes of a plan, and a refusal why there is none
abbrev pub Ended : (words : Option Command) (left left_new : Option (List ℕ)) (reads reads_new : ℕ)
    (written written_new : Option (List ℕ)) (writes writes_new : ℕ) (Kept : Type 0) (result : Status) → Type 0
Ended = EndedWith Decodes IsValidInput IsTextOf IsFaultText usage_text too_long_text
