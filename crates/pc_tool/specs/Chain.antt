-- What a run on a generated chain writes, and why it ends so. It reads nothing.
use Rattle.std.specs.Prelude.{◌≡◌, ◌⊎◌, ℕ, ◌+◌, ◌≤◌, List, Option, None}
use Rattle.pc_info.specs.declared.component.ComponentTranslation.{ComponentTranslation}
use Rattle.pc_info.specs.declared.module.ModuleTranslation.{ModuleTranslation}
use Rattle.pc_info.specs.View.{view}
use Rattle.pc_stream.specs.Stream.{ShowsFault, Takes}
use Rattle.pc_text.specs.SummaryText.{summary_text}
use Rattle.pc_generate.specs.Generated.{payloads}
use Rattle.pc_generate.specs.Table.{table}
use Rattle.pc_translate.specs.Translation.{IsPlanOf}
use Rattle.pc_serve.specs.declared.status.Status.{Status}
use Rattle.pc_serve.specs.declared.status.Status.TheVariants as status
use Rattle.pc_serve.specs.Ended.{WroteFront}

-- a plan and its modules do what the nested reading of a chain of so many links says
abbrev pub IsChainPlan : (n : ℕ) → ComponentTranslation → List ModuleTranslation → Type 0
IsChainPlan n plan modules = IsPlanOf table None (n + 2) (payloads n) plan modules

-- a text says what such a plan has
pub record IsChainText (n : ℕ) (text : List ℕ) : Type 0 where
  pub plan : ComponentTranslation
  pub modules : List ModuleTranslation
  pub does : IsChainPlan n plan modules
  pub printed : text ≡ summary_text n (view plan modules)

-- a run on a chain of so many links has ended. `Unread` says that the source is as it was, `Kept` that the sink is
pub record ChainEnded (n : ℕ) (Unread : Type 0) (written written_new : Option (List ℕ)) (writes writes_new : ℕ)
    (Kept : Type 0) (result : Status) : Type 0 where
  pub unread : Unread
  -- such an input is valid, so that there are only these ends
  pub ends : (result ≡ status.Done) ⊎ ((result ≡ status.WriteFault) ⊎ (result ≡ status.NoMemory))
  pub done : result ≡ status.Done → (text : List ℕ) × IsChainText n text × Takes written written_new text
  pub write_fault : result ≡ status.WriteFault
      → ShowsFault writes writes_new × WroteFront (IsChainText n) written written_new
  pub memory : result ≡ status.NoMemory → Kept
  pub writes_never_fall : writes ≤ writes_new
