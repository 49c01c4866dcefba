-- What the function that answers an input promises.
use Rattle.std.specs.Prelude.{◌≢◌, List}
use Rattle.pc_types.specs.declared.error.Error.{Error}
use Rattle.pc_types.specs.declared.error.Error.TheVariants as error
use Rattle.pc_info.specs.declared.component.ComponentTranslation.{ComponentTranslation}
use Rattle.pc_info.specs.declared.module.ModuleTranslation.{ModuleTranslation}
use Rattle.pc_input.specs.declared.input.Input.{Input}
use Rattle.pc_serve.specs.declared.answers.Answer.{Answer}
use Rattle.pc_serve.specs.declared.answers.Answer.TheVariants as answer
use Rattle.pc_tool.specs.declared.words.Command.{Command}
use Rattle.pc_tool.specs.Headline.{IsPlanFor, IsErrorOf, Prints, Explains}

-- an answer to a command is true of an input
unfoldable pub AnswersInput : Command → Input → Answer → Type 0
AnswersInput c input (answer.Made text) = (plan : ComponentTranslation) × (modules : List ModuleTranslation)
    × IsPlanFor input plan modules × Prints c plan modules text.items
AnswersInput c input (answer.Refused text) =
    (e : Error) × (e ≢ error.NoMemory) × IsErrorOf input e × Explains e text.items
