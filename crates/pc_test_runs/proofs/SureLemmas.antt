-- Over streams whose counts of faults stay 0 no run ends with a fault of a stream.
use Rattle.std.proofs.Common.{◌≡◌, ◌≢◌, ◌⊎◌, inl, inr, ℕ, List, Option, Some, None, refl, arith}
use Rattle.pc_stream.specs.Stream.{ShowsFault}
use Rattle.pc_serve.specs.declared.status.Status.{Status}
use Rattle.pc_serve.specs.declared.status.Status.TheVariants as status
use Rattle.pc_tool.specs.Chain.{ChainEnded}
use Rattle.pc_tool.specs.Run.{Ended}
use Rattle.pc_tool.specs.Words.{chain_of, command_of}

-- a count that stays 0 shows no fault
none_shown : ShowsFault 0 0 → ⊥
none_shown (inl less) = omega (arith, less)
none_shown (inr last) = omega (arith, last)

-- a run on a chain ends in three ways
chain_read : (s : Status) → (s ≡ status.Done) ⊎ ((s ≡ status.WriteFault) ⊎ (s ≡ status.NoMemory)) → s ≢ status.ReadFault
chain_read s (inl done) e = cc (done, e)
chain_read s (inr (inl fault)) e = cc (fault, e)
chain_read s (inr (inr memory)) e = cc (memory, e)

module _ (words : List (List ℕ)) (left left_new written written_new : Option (List ℕ)) (Unread Kept Kept_too : Type 0)
    (s : Status) where
  -- a run whose streams never fail
  pub never_fails :
      (chain_of words ≡ None → Ended (command_of words) left left_new 0 0 written written_new 0 0 Kept s)
      → ((n : ℕ) → chain_of words ≡ Some n → ChainEnded n Unread written written_new 0 0 Kept_too s)
      → (s ≢ status.ReadFault) × (s ≢ status.WriteFault)
  never_fails ended chained = by_words (chain_of words) refl
    where
      by_words : (o : Option ℕ) → chain_of words ≡ o → (s ≢ status.ReadFault) × (s ≢ status.WriteFault)
      by_words None is =
          (λ e. none_shown ((ended is).read_fault e).0, λ e. none_shown ((ended is).write_fault e).0)
      by_words (Some n) is =
          let chain = chained n is in (chain_read s chain.ends, λ e. none_shown (chain.write_fault e).0)
