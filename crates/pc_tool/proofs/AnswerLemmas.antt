-- From the answers of the crates below to what an answer says of an input and of bytes.
use Rattle.std.proofs.Common.{◌≡◌, ◌≢◌, inl, inr, ℕ, true, List, Option, Result, Ok, Err, IfOk, IfErr, subst}
use Rattle.std.specs.declared.vec.Vec.{Vec}
use Rattle.std.specs.declared.alloc.Global.{Global}
use Rattle.pc_types.specs.declared.error.Error.{Error}
use Rattle.pc_types.specs.declared.error.Error.TheVariants as error
use Rattle.pc_info.specs.declared.component.ComponentTranslation.{ComponentTranslation}
use Rattle.pc_info.specs.declared.module.ModuleTranslation.{ModuleTranslation}
use Rattle.pc_info.specs.Exports.{has_items}
use Rattle.pc_info.specs.View.{view}
use Rattle.pc_spec_plan.specs.Text.{plan_text}
use Rattle.pc_offsets.specs.Context.{context_size}
use Rattle.pc_spec_facts.specs.Text.{facts_text}
use Rattle.pc_text.specs.ContextText.{context_text}
use Rattle.pc_text.specs.FaultText.{bad_form, not_json}
use Rattle.pc_input.specs.declared.input.Input.{Input}
use Rattle.pc_translate.specs.Translation.{IsPlanOf, IsRefusalOf}
use Rattle.pc_tool.specs.declared.words.Command.{Command}
use Rattle.pc_tool.specs.declared.words.Command.TheVariants as command
use Rattle.pc_serve.specs.declared.answers.Answer.{Answer}
use Rattle.pc_serve.specs.declared.answers.Answer.TheVariants as answer
use Rattle.pc_serve.specs.Answer.{IsAnswer}
use Rattle.pc_tool.specs.Answers.{AnswersInput}
use Rattle.pc_tool.specs.Headline.{Decodes, IsPlanFor, IsErrorOf, IsNotJson, IsBadForm, IsFaultText, IsTextOf}
use Rattle.pc_tool.specs.Headline.{Prints, Explains}

-- a plan of the parts of an input is one of the input
pub plans : (input : Input) (exposed : Option (List ℕ)) → exposed ≡ input.intrinsics
    → (r : Result (ComponentTranslation × List ModuleTranslation) Error)
    → IfOk r (λ x. IsPlanOf input.table exposed input.tunables.max_component_instances input.payloads x.0 x.1)
    → IfOk r (λ x. IsPlanFor input x.0 x.1)
plans input exposed same (Ok x) h =
    let limit = input.tunables.max_component_instances in
    subst (λ (e : Option (List ℕ)). IsPlanOf input.table e limit input.payloads x.0 x.1) same h
plans input exposed same (Err e) h = tt

-- an error of the parts of an input is one of the input
pub errs : (input : Input) (exposed : Option (List ℕ)) → exposed ≡ input.intrinsics
    → (r : Result (ComponentTranslation × List ModuleTranslation) Error)
    → IfErr r (λ e. IsRefusalOf input.table exposed input.tunables.max_component_instances input.payloads e)
    → IfErr r (IsErrorOf input)
errs input exposed same (Ok x) h = tt
errs input exposed same (Err e) h =
    let limit = input.tunables.max_component_instances in
    subst (λ (n : Option (List ℕ)). IsRefusalOf input.table n limit input.payloads e) same h

-- each export of a plan has its item
pub has_items_for : (input : Input) (plan : ComponentTranslation) (modules : List ModuleTranslation)
    → IsPlanFor input plan modules → has_items plan.component ≡ true
unfolding IsPlanOf
has_items_for input plan modules is = is.2.held

-- the texts that the commands make of a plan
pub plan_printed : {E : Type 0} (c : Command) (plan : ComponentTranslation) (modules : List ModuleTranslation)
    (r : Result (Vec ℕ Global) E) → c ≡ command.Translate → IfOk r (λ text. text.items ≡ plan_text (view plan modules))
    → IfOk r (λ text. Prints c plan modules text.items)
unfolding Prints
plan_printed command.Translate plan modules r same is = is
plan_printed command.Context plan modules r same is = absurd (cc same)
plan_printed command.Facts plan modules r same is = absurd (cc same)

pub context_printed : {E : Type 0} (c : Command) (plan : ComponentTranslation) (modules : List ModuleTranslation)
    (r : Result (Vec ℕ Global) E) → c ≡ command.Context
    → IfOk r (λ text. text.items ≡ context_text (context_size 4 plan.component) (context_size 8 plan.component))
    → IfOk r (λ text. Prints c plan modules text.items)
unfolding Prints
context_printed command.Translate plan modules r same is = absurd (cc same)
context_printed command.Context plan modules r same is = is
context_printed command.Facts plan modules r same is = absurd (cc same)

pub facts_printed : {E : Type 0} (c : Command) (plan : ComponentTranslation) (modules : List ModuleTranslation)
    (r : Result (Vec ℕ Global) E) → c ≡ command.Facts → IfOk r (λ text. text.items ≡ facts_text modules)
    → IfOk r (λ text. Prints c plan modules text.items)
unfolding Prints
facts_printed command.Translate plan modules r same is = absurd (cc same)
facts_printed command.Context plan modules r same is = absurd (cc same)
facts_printed command.Facts plan modules r same is = is

-- the text of two sizes is that of the sizes which they are
pub sizes_printed : {E : Type 0} (r : Result (Vec ℕ Global) E) (four eight a b : Option ℕ) → four ≡ a → eight ≡ b
    → IfOk r (λ text. text.items ≡ context_text four eight) → IfOk r (λ text. text.items ≡ context_text a b)
sizes_printed r four eight a b one two is =
    subst (λ (x : Option ℕ). IfOk r (λ text. text.items ≡ context_text x b)) one
    (subst (λ (x : Option ℕ). IfOk r (λ text. text.items ≡ context_text four x)) two is)

-- the answers of a command to an input, and to the bytes that stand for it
module _ (c : Command) (input : Input) where
  pub made_answers : (plan : ComponentTranslation) (modules : List ModuleTranslation) (text : Vec ℕ Global)
      → IsPlanFor input plan modules → Prints c plan modules text.items → AnswersInput c input (answer.Made text)
  unfolding AnswersInput
  made_answers plan modules text is printed = (plan, modules, is, printed)

  pub fault_answers : (e : Error) (text : Vec ℕ Global) → e ≢ error.NoMemory → IsErrorOf input e → Explains e text.items
      → AnswersInput c input (answer.Refused text)
  unfolding AnswersInput
  fault_answers e text has_text is printed = (e, has_text, is, printed)

  pub bytes_told : (bytes : List ℕ) → Decodes bytes input → (a : Answer) → AnswersInput c input a
      → IsAnswer (IsTextOf c) IsFaultText bytes a
  unfolding AnswersInput IsAnswer
  bytes_told bytes decoded (answer.Made text) is = record {
    input = input;
    decoded = decoded;
    plan = is.0;
    modules = is.1;
    does = is.2;
    printed = is.3;
  }
  bytes_told bytes decoded (answer.Refused text) is = inr (inr (record {
    input = input;
    decoded = decoded;
    refusal = is.0;
    has_text = is.1;
    cause = is.2;
    printed = is.3;
  }))

-- the answers of a command to bytes that stand for no input
module _ (c : Command) (bytes : List ℕ) (text : Vec ℕ Global) where
  pub not_json_answers : IsNotJson bytes → text.items ≡ not_json
      → IsAnswer (IsTextOf c) IsFaultText bytes (answer.Refused text)
  unfolding IsAnswer
  not_json_answers is same = inl (is, same)

  pub bad_form_answers : IsBadForm bytes → text.items ≡ bad_form
      → IsAnswer (IsTextOf c) IsFaultText bytes (answer.Refused text)
  unfolding IsAnswer
  bad_form_answers is same = inr (inl (is, same))
