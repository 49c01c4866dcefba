-- What an answer says, by what it is.
use Rattle.std.proofs.Common.{◌≡◌, ℕ, List, subst}
use Rattle.std.specs.declared.vec.Vec.{Vec}
use Rattle.std.specs.declared.alloc.Global.{Global}
use Rattle.pc_serve.specs.declared.answers.Answer.{Answer}
use Rattle.pc_serve.specs.declared.answers.Answer.TheVariants as answer
use Rattle.pc_serve.specs.Answer.{IsAnswer}

module _ (Says Refuses : (bytes text : List ℕ) → Type 0) (bytes : List ℕ) (text : Vec ℕ Global) (a : Answer)
    (is : IsAnswer Says Refuses bytes a) where
  pub made_says : a ≡ answer.Made text → Says bytes text.items
  unfolding IsAnswer
  made_says e = subst (IsAnswer Says Refuses bytes) e is

  pub refused_says : a ≡ answer.Refused text → Refuses bytes text.items
  unfolding IsAnswer
  refused_says e = subst (IsAnswer Says Refuses bytes) e is
