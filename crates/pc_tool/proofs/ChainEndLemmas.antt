-- How a run has ended, also on a generated chain, and which words ask for one.
use Rattle.std.proofs.Common.{◌≡◌, ◌≤◌, inl, inr, ℕ, Bool, true, false, List, [], ◌∷◌, Option, Some, None, subst, sym, ◌∙◌}
use Rattle.std.proofs.Common.{if◌then◌else◌}
use Rattle.std.specs.Prelude.{⊤, codes}
use Rattle.std.specs.Str.{bytes_eq}
use Rattle.pc_generate.specs.Count.{count_in}
use Rattle.pc_generate.proofs.WordLemmas.{found_count}
use Rattle.pc_serve.specs.declared.status.Status.{Status}
use Rattle.pc_serve.specs.declared.status.Status.TheVariants as status
use Rattle.pc_serve.specs.Said.{Said}
use Rattle.pc_tool.specs.declared.words.Command.{Command}
use Rattle.pc_tool.specs.Chain.{ChainEnded, IsChainText}
use Rattle.pc_tool.specs.Run.{Ended}
use Rattle.pc_tool.specs.Words.{chain_of, command_of}

-- its text was written, or a front of it
pub chain_said : (n : ℕ) (written written_new : Option (List ℕ)) (writes writes_new : ℕ) (Kept : Type 0)
    (text shown : List ℕ) (result : Status) → IsChainText n text → shown ≡ text
    → Said written written_new writes writes_new status.Done shown result → writes ≤ writes_new
    → ChainEnded n ⊤ written written_new writes writes_new Kept result
unfolding Said
chain_said n written written_new writes writes_new Kept text shown result is same (inl said) falls = record {
  unread = tt;
  ends = inl said.0;
  done = λ e. (shown, subst (IsChainText n) (sym same) is, said.1);
  write_fault = λ e. absurd (let no : ⊥ = cc (said.0, e) in no);
  memory = λ e. absurd (let no : ⊥ = cc (said.0, e) in no);
  writes_never_fall = falls;
}
chain_said n written written_new writes writes_new Kept text shown result is same (inr cut) falls = record {
  unread = tt;
  ends = inr (inl cut.0);
  done = λ e. absurd (let no : ⊥ = cc (cut.0, e) in no);
  write_fault = λ e. (
    cut.1,
    record {
      text = cut.2.text;
      due = subst (IsChainText n) (sym (cut.2.due ∙ same)) is;
      n = cut.2.n;
      within = cut.2.within;
      wrote = cut.2.wrote;
    },
  );
  memory = λ e. absurd (let no : ⊥ = cc (cut.0, e) in no);
  writes_never_fall = falls;
}

-- and the source was left alone
pub chain_unread : (n m : ℕ) (Unread : Type 0) (written written_new : Option (List ℕ)) (writes writes_new : ℕ)
    (Kept : Type 0) (result : Status) → n ≡ m → Unread
    → ChainEnded n ⊤ written written_new writes writes_new Kept result
    → ChainEnded m Unread written written_new writes writes_new Kept result
chain_unread n m Unread written written_new writes writes_new Kept result same unread ended =
    subst (λ (k : ℕ). ChainEnded k Unread written written_new writes writes_new Kept result) same (record {
      unread = unread;
      ends = ended.ends;
      done = ended.done;
      write_fault = ended.write_fault;
      memory = ended.memory;
      writes_never_fall = ended.writes_never_fall;
    })

-- a run on words is one on the command that they name
pub ended_on : (asked words : Option Command) (left left_new : Option (List ℕ)) (reads reads_new : ℕ)
    (written written_new : Option (List ℕ)) (writes writes_new : ℕ) (Kept : Type 0) (result : Status) → asked ≡ words
    → Ended asked left left_new reads reads_new written written_new writes writes_new Kept result
    → Ended words left left_new reads reads_new written written_new writes writes_new Kept result
ended_on asked words left left_new reads reads_new written written_new writes writes_new Kept result same ended =
    subst
    (λ (w : Option Command). Ended w left left_new reads reads_new written written_new writes writes_new Kept result)
    same ended

-- words that name a command on an input ask for no chain
pub words_apart : (ws : List (List ℕ)) (c : Command) (n : ℕ) → command_of ws ≡ Some c → chain_of ws ≡ Some n → ⊥
words_apart [] c n a b = cc a
words_apart (w ∷ []) c n a b = cc b
words_apart (w ∷ x ∷ []) c n a b = cc a
words_apart (w ∷ x ∷ y ∷ more) c n a b = cc a

-- what a test lets through
let_through : (b : Bool) (o : Option ℕ) (n : ℕ) → (if b then o else None) ≡ Some n → o ≡ Some n
let_through true o n is = is
let_through false o n is = absurd (let no : ⊥ = cc is in no)

-- a chain that is asked for isn't too long
pub chain_within : (ws : List (List ℕ)) (n : ℕ) → chain_of ws ≡ Some n → n ≤ 10000
chain_within [] n is = absurd (let no : ⊥ = cc is in no)
chain_within (w ∷ []) n is = absurd (let no : ⊥ = cc is in no)
chain_within (w ∷ x ∷ []) n is =
    (found_count x n (let_through (bytes_eq w (codes "gen")) (count_in x) n is)).1
chain_within (w ∷ x ∷ y ∷ more) n is = absurd (let no : ⊥ = cc is in no)
