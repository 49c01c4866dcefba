-- What the texts mean that answer bytes: the text of a plan that does what the nested reading says, or of a fault and
-- its cause.
use Rattle.std.specs.Prelude.{◌≡◌, ◌≢◌, ◌⊎◌, ℕ, List, Some, None}
use Rattle.serde_json.specs.Data.{Data}
use Rattle.pc_types.specs.declared.error.Error.{Error}
use Rattle.pc_types.specs.declared.error.Error.TheVariants as error
use Rattle.pc_spec_plan.specs.Text.{plan_text}
use Rattle.pc_info.specs.declared.component.ComponentTranslation.{ComponentTranslation}
use Rattle.pc_info.specs.declared.module.ModuleTranslation.{ModuleTranslation}
use Rattle.pc_info.specs.View.{view}
use Rattle.pc_offsets.specs.Context.{context_size}
use Rattle.pc_spec_facts.specs.Text.{facts_text}
use Rattle.pc_text.specs.ContextText.{context_text}
use Rattle.pc_text.specs.FaultText.{fault_text, not_json, bad_form}
use Rattle.pc_input.specs.declared.input.Input.{Input}
use Rattle.pc_input.specs.Input.{input_in, input_of, tree_of}
use Rattle.pc_translate.specs.Causes.{IsValid}
use Rattle.pc_translate.specs.Translation.{IsPlanOf, IsRefusalOf}
use Rattle.pc_tool.specs.declared.words.Command.{Command}
use Rattle.pc_tool.specs.declared.words.Command.TheVariants as command

-- bytes stand for an input
unfoldable pub Decodes : (bytes : List ℕ) → Input → Type 0
Decodes bytes input = input_in bytes ≡ Some input

-- bytes are no JSON
unfoldable pub IsNotJson : (bytes : List ℕ) → Type 0
IsNotJson bytes = tree_of bytes ≡ None

-- bytes are JSON, and stand for no input
unfoldable pub IsBadForm : (bytes : List ℕ) → Type 0
IsBadForm bytes = (tree : Data) × (tree_of bytes ≡ Some tree) × (input_of tree ≡ None)

-- a plan and its modules do what the nested reading of an input's payloads says
abbrev pub IsPlanFor : Input → ComponentTranslation → List ModuleTranslation → Type 0
IsPlanFor input plan modules =
    IsPlanOf input.table input.intrinsics input.tunables.max_component_instances input.payloads plan modules

-- an error has its cause in an input
abbrev pub IsErrorOf : Input → Error → Type 0
IsErrorOf input e = IsRefusalOf input.table input.intrinsics input.tunables.max_component_instances input.payloads e

-- an input is valid: a reading is the answer by the order of answers, where no types were held before
abbrev pub IsValidInput : Input → Type 0
IsValidInput input =
    IsValid input.table input.intrinsics input.tunables.max_component_instances 0 input.payloads

-- a text is the one that a command makes of a plan and its modules
unfoldable pub Prints : Command → ComponentTranslation → List ModuleTranslation → (text : List ℕ) → Type 0
Prints command.Translate plan modules text = text ≡ plan_text (view plan modules)
Prints command.Context plan modules text =
    text ≡ context_text (context_size 4 plan.component) (context_size 8 plan.component)
Prints command.Facts plan modules text = text ≡ facts_text modules

-- a text is that of an error
unfoldable pub Explains : Error → (text : List ℕ) → Type 0
Explains e text = text ≡ fault_text e

-- a text is the one that a command makes of a plan which does what the nested reading says of the payloads that bytes
-- stand for
pub record IsTextOf (c : Command) (bytes text : List ℕ) : Type 0 where
  pub input : Input
  pub decoded : Decodes bytes input
  pub plan : ComponentTranslation
  pub modules : List ModuleTranslation
  pub does : IsPlanFor input plan modules
  pub printed : Prints c plan modules text

-- a text is that of such a plan
abbrev pub IsPlanText : (bytes text : List ℕ) → Type 0
IsPlanText = IsTextOf command.Translate

-- a text is that of how many bytes the context of such a plan takes
abbrev pub IsContextText : (bytes text : List ℕ) → Type 0
IsContextText = IsTextOf command.Context

-- a text is that of what is recorded of the core modules of such a plan
abbrev pub IsFactsText : (bytes text : List ℕ) → Type 0
IsFactsText = IsTextOf command.Facts

-- a text is that of an error which has its cause in the input that bytes stand for
pub record IsErrorText (bytes text : List ℕ) : Type 0 where
  pub input : Input
  pub decoded : Decodes bytes input
  pub refusal : Error
  pub has_text : refusal ≢ error.NoMemory
  pub cause : IsErrorOf input refusal
  pub printed : Explains refusal text

-- a text says why bytes have no plan: they are no JSON, they are no input, or their input is refused
abbrev pub IsFaultText : (bytes text : List ℕ) → Type 0
IsFaultText bytes text =
    (IsNotJson bytes × (text ≡ not_json)) ⊎ ((IsBadForm bytes × (text ≡ bad_form)) ⊎ IsErrorText bytes text)
