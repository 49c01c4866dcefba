-- How a run has ended that wrote a text, or a front of it.
use Rattle.std.proofs.Common.{◌≡◌, ◌≢◌, ◌⊎◌, ◌↔◌, inl, inr, ℕ, ◌<◌, ◌≤◌, List, length, drop, Option, Some, None}
use Rattle.std.proofs.Common.{Result, Err, sym, ◌∙◌, refl, subst, arith}
use Rattle.pc_stream.specs.Stream.{Takes, ShowsFault}
use Rattle.pc_stream.specs.declared.whole.ReadEnd.{ReadEnd}
use Rattle.pc_stream.specs.declared.whole.ReadEnd.TheVariants as read_end
use Rattle.pc_stream.specs.declared.whole.TheConstants.{MAX_INPUT}
use Rattle.pc_serve.specs.declared.status.Status.{Status}
use Rattle.pc_serve.specs.declared.status.Status.TheVariants as status
use Rattle.pc_serve.specs.Ended.{Ended, GaveTooMuch, IsDue, IsWhole, Tells, WroteFront}
use Rattle.pc_serve.specs.Said.{Said}

-- where a source tells its bytes, so many of them were given, and above the limit something holds
abbrev pub Gave : (left left_new : Option (List ℕ)) → (TooMany : Type 0) → Type 0
Gave left left_new TooMany = (told : List ℕ) → left ≡ Some told → (n : ℕ) × (n ≤ length told)
    × (left_new ≡ Some (drop n told)) × (MAX_INPUT < n → TooMany)

-- a source that is left alone gave none
pub gave_none : (left : Option (List ℕ)) (TooMany : Type 0) → Gave left left TooMany
gave_none left TooMany told told_is = (0, omega arith, told_is, λ over. absurd (omega arith))

-- what a whole read gave
module _ {A : Type 0} (left left_new : Option (List ℕ)) (r : Result A ReadEnd)
    (read : (told : List ℕ) → left ≡ Some told → (n : ℕ) × (n ≤ length told) × (left_new ≡ Some (drop n told))
    × ((r ≡ Err read_end.TooLong) ↔ (MAX_INPUT < n))) where
  pub gave_where : (TooMany : Type 0) → (r ≡ Err read_end.TooLong → TooMany) → Gave left left_new TooMany
  gave_where TooMany is told told_is =
      let g = read told told_is in (g.0, g.1, g.2, λ over. is (g.3.1 over))

  pub gave_much : r ≡ Err read_end.TooLong → GaveTooMuch left left_new
  gave_much long = record { gave = λ told told_is. let g = read told told_is in (g.0, g.3.0 long, g.1, g.2) }

-- so many bytes aren't too many
gave_few : (left left_new : Option (List ℕ)) (told : List ℕ) → left ≡ Some told → length told ≤ MAX_INPUT
    → GaveTooMuch left left_new → ⊥
gave_few left left_new told is few much = let g = much.gave told is in omega (arith, g.1, g.2, few)

-- what ends in no other way is done, or there was no memory
done_or_memory : (s : Status) → s ≢ status.Refused → s ≢ status.Usage → s ≢ status.ReadFault → s ≢ status.WriteFault
    → s ≢ status.TooLong → (s ≡ status.Done) ⊎ (s ≡ status.NoMemory)
done_or_memory status.Done refused usage_ read write long = inl refl
done_or_memory status.Refused refused usage_ read write long = absurd (refused refl)
done_or_memory status.Usage refused usage_ read write long = absurd (usage_ refl)
done_or_memory status.ReadFault refused usage_ read write long = absurd (read refl)
done_or_memory status.WriteFault refused usage_ read write long = absurd (write refl)
done_or_memory status.NoMemory refused usage_ read write long = inr refl
done_or_memory status.TooLong refused usage_ read write long = absurd (long refl)

-- what was said whole has the status that it was to have, and any other end is a write fault
module _ (written written_new : Option (List ℕ)) (writes writes_new : ℕ) (s : Status) (text : List ℕ)
    (result : Status) where
  abbrev IsSaid : Type 0
  IsSaid = Said written written_new writes writes_new s text result

  said_whole : IsSaid → (t : Status) → (status.WriteFault ≡ t → ⊥) → result ≡ t
      → (s ≡ t) × Takes written written_new text
  unfolding Said
  said_whole (inl said) t nor e = (sym said.0 ∙ e, said.1)
  said_whole (inr cut) t nor e = absurd (nor (sym cut.0 ∙ e))

  pub said_or_fault : IsSaid → (result ≡ s) ⊎ (result ≡ status.WriteFault)
  unfolding Said
  said_or_fault (inl said) = inl said.0
  said_or_fault (inr cut) = inr cut.0

  said_front : IsSaid → (s ≡ status.WriteFault → ⊥) → (Due : List ℕ → Type 0) → Due text → result ≡ status.WriteFault
      → ShowsFault writes writes_new × WroteFront Due written written_new
  unfolding Said
  said_front (inl said) nor Due due e = absurd (nor (sym said.0 ∙ e))
  said_front (inr cut) nor Due due e = (
    cut.1,
    record {
      text = cut.2.text;
      due = subst Due (sym cut.2.due) due;
      n = cut.2.n;
      within = cut.2.within;
      wrote = cut.2.wrote;
    },
  )

module _ {Command Input : Type 0} (StandsFor : (bytes : List ℕ) → Input → Type 0) (IsValid : Input → Type 0)
    (Says : Command → (bytes text : List ℕ) → Type 0) (Refuses : (bytes text : List ℕ) → Type 0)
    (usage_text too_long_text : List ℕ) (left left_new : Option (List ℕ)) where
  -- what a text is to say with which a run ends so
  abbrev pub Means : Status → Option Command → (text : List ℕ) → Type 0
  Means status.Done (Some c) text = (bytes : List ℕ) × IsWhole left left_new bytes × Says c bytes text
  Means status.Done None text = ⊥
  Means status.Refused (Some c) text = (bytes : List ℕ) × IsWhole left left_new bytes × Refuses bytes text
  Means status.Refused None text = ⊥
  Means status.Usage (Some c) text = ⊥
  Means status.Usage None text = text ≡ usage_text
  Means status.ReadFault words text = ⊥
  Means status.WriteFault words text = ⊥
  Means status.NoMemory words text = ⊥
  Means status.TooLong (Some c) text = GaveTooMuch left left_new × (text ≡ too_long_text)
  Means status.TooLong None text = ⊥

  -- the usage is for words that name no command
  usage_means : (words : Option Command) (text : List ℕ) → words ≡ None → text ≡ usage_text
      → Means status.Usage words text
  usage_means None text is same = same
  usage_means (Some c) text is same = absurd (let no : ⊥ = cc is in no)

  means_no_usage : (c : Command) (words : Option Command) (text : List ℕ) → words ≡ Some c
      → Means status.Usage words text → ⊥
  means_no_usage c None text is means = cc is
  means_no_usage c (Some d) text is means = means

  -- such a text was due
  due : (s : Status) (words : Option Command) (text : List ℕ) → Means s words text
      → IsDue StandsFor IsValid Says Refuses usage_text too_long_text words left left_new text
  due status.Done (Some c) text is = inr (is.0, is.1, inl is.2)
  due status.Done None text is = absurd is
  due status.Refused (Some c) text is = inr (is.0, is.1, inr is.2)
  due status.Refused None text is = absurd is
  due status.Usage (Some c) text is = absurd is
  due status.Usage None text is = is
  due status.ReadFault words text is = absurd is
  due status.WriteFault words text is = absurd is
  due status.NoMemory words text is = absurd is
  due status.TooLong (Some c) text is = inl is
  due status.TooLong None text is = absurd is

  -- what such a text says, once it is written
  module _ (written written_new : Option (List ℕ)) (text : List ℕ) (wrote : Takes written written_new text) where
    made_tells : (c : Command) (words : Option Command) → words ≡ Some c → Means status.Done words text
        → Tells (Says c) left left_new written written_new
    made_tells c None is means = absurd means
    made_tells c (Some d) is means =
        let same : d ≡ c = cc is in
        record {
          bytes = means.0;
          text = text;
          read = means.1;
          said = subst (λ (x : Command). Says x means.0 text) same means.2;
          wrote = wrote;
        }

    refusal_tells : (words : Option Command) → Means status.Refused words text
        → Tells Refuses left left_new written written_new
    refusal_tells None means = absurd means
    refusal_tells (Some c) means =
        record { bytes = means.0; text = text; read = means.1; said = means.2; wrote = wrote }

    usage_takes : (words : Option Command) → Means status.Usage words text
        → (words ≡ None) × Takes written written_new usage_text
    usage_takes None means = (refl, subst (λ (t : List ℕ). Takes written written_new t) means wrote)
    usage_takes (Some c) means = absurd means

    too_long_takes : (words : Option Command) → Means status.TooLong words text
        → GaveTooMuch left left_new × Takes written written_new too_long_text
    too_long_takes None means = absurd means
    too_long_takes (Some c) means =
        (means.0, subst (λ (t : List ℕ). Takes written written_new t) means.1 wrote)

  module _ (reads reads_new : ℕ) (written written_new : Option (List ℕ)) (writes writes_new : ℕ) (Kept : Type 0)
      (result : Status) where
    abbrev EndedSo : Option Command → Type 0
    EndedSo words = Ended StandsFor IsValid Says Refuses usage_text too_long_text words left left_new reads reads_new
        written written_new writes writes_new Kept result

    -- a run that wrote such a text, or a front of it
    pub said_ended : (words : Option Command)
        → ((bytes text : List ℕ) (input : Input) → StandsFor bytes input → IsValid input → Refuses bytes text → ⊥)
        → (s : Status) (text shown : List ℕ) → shown ≡ text → Means s words text → Gave left left_new (s ≡ status.TooLong)
        → reads ≤ reads_new → Said written written_new writes writes_new s shown result → writes ≤ writes_new
        → EndedSo words
    said_ended words never s text shown same means gave reads_fall was_said writes_fall =
        let said : IsSaid written written_new writes writes_new s text result =
        subst (λ (t : List ℕ). IsSaid written written_new writes writes_new s t result) same was_said in
        let whole : (t : Status) → (status.WriteFault ≡ t → ⊥) → result ≡ t
        → Means t words text × Takes written written_new text =
        λ t nor e.
        let w = said_whole _ _ _ _ _ _ _ said t nor e in
        (subst (λ (x : Status). Means x words text) w.0 means, w.1) in
        let refuses : result ≡ status.Refused → Tells Refuses left left_new written written_new =
        λ e. let w = whole status.Refused (λ x. cc x) e in refusal_tells _ _ _ w.1 words w.0 in
        let complete : (told : List ℕ) → left ≡ Some told → (input : Input) → StandsFor told input → IsValid input
        → result ≢ status.Refused =
        λ told told_is input decoded valid e.
        let tells = refuses e in
        never told tells.text input decoded valid
        (subst (λ (b : List ℕ). Refuses b tells.text) (tells.read.all told told_is).0 tells.said) in
        let many : result ≡ status.TooLong → GaveTooMuch left left_new × Takes written written_new too_long_text =
        λ e. let w = whole status.TooLong (λ x. cc x) e in too_long_takes _ _ _ w.1 words w.0 in
        let front : result ≡ status.WriteFault → ShowsFault writes writes_new
        × WroteFront (IsDue StandsFor IsValid Says Refuses usage_text too_long_text words left left_new) written written_new =
        λ e. said_front _ _ _ _ _ _ _ said (λ x. subst (λ (t : Status). Means t words text) x means)
        (IsDue StandsFor IsValid Says Refuses usage_text too_long_text words left left_new) (due s words text means) e in
        record {
          done = λ c is e. let w = whole status.Done (λ x. cc x) e in made_tells _ _ _ w.1 c words is w.0;
          refused = refuses;
          completes = complete;
          succeeds = λ c is told told_is few input decoded valid no_read no_write. done_or_memory result
              (complete told told_is input decoded valid)
              (λ e. means_no_usage c words text is (whole status.Usage (λ x. cc x) e).0)
              (λ e. (whole status.ReadFault (λ x. cc x) e).0)
              (λ e. no_write (front e).0) (λ e. gave_few left left_new told told_is few (many e).0);
          usage = λ e. let w = whole status.Usage (λ x. cc x) e in usage_takes _ _ _ w.1 words w.0;
          too_long = many;
          gave = λ told told_is.
              let g = gave told told_is in (
                g.0,
                g.1,
                g.2,
                λ over. subst (λ (x : Status). (result ≡ x) ⊎ (result ≡ status.WriteFault)) (g.3 over)
                    (said_or_fault _ _ _ _ _ _ _ said),
              );
          read_fault = λ e. absurd (whole status.ReadFault (λ x. cc x) e).0;
          write_fault = front;
          memory = λ e. absurd (whole status.NoMemory (λ x. cc x) e).0;
          reads_never_fall = reads_fall;
          writes_never_fall = writes_fall;
        }

    -- a run on words that name no command wrote the usage, or a front of it
    pub usage_ended : (words : Option Command)
        → ((bytes text : List ℕ) (input : Input) → StandsFor bytes input → IsValid input → Refuses bytes text → ⊥)
        → (shown : List ℕ) → words ≡ None → shown ≡ usage_text → Gave left left_new (status.Usage ≡ status.TooLong)
        → reads ≤ reads_new → Said written written_new writes writes_new status.Usage shown result
        → writes ≤ writes_new → EndedSo words
    usage_ended words never shown is same gave reads_fall said writes_fall =
        said_ended words never status.Usage usage_text shown same (usage_means words usage_text is refl) gave
        reads_fall said writes_fall
