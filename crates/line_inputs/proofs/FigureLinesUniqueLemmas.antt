-- An input is read in one way.
use Rattle.std.proofs.Common.{◌≡◌, ◌≢◌, ℕ, ◌<◌, ◌≤◌, List, [], ◌∷◌, length, drop, take, refl, sym, ap, ◌∙◌, arith, inl, inr, length-drop}
use Rattle.std.proofs.lemmas.Bool.{cases_lt}
use Rattle.std.specs.Prelude.{◌⊎◌, Result, Ok, Err}
use Rattle.record_runs.specs.Texts.{input_limit}
use Rattle.figure_text.specs.declared.figure.Figure.{Figure}
use Rattle.figure_text.specs.declared.fault.TextFault.{TextFault}
use Rattle.figure_text.specs.declared.fault.TextFault.TheVariants as fault
use Rattle.figure_text.specs.declared.figure_ends.Item.{Item}
use Rattle.figure_text.specs.declared.figure_ends.Item.TheVariants.{Drawn, Note, End}
use Rattle.figure_text.specs.Reading.{IsPlain}
use Rattle.figure_text.proofs.UniqueFigures.{one-answer}
use Rattle.figure_text.specs.Laws.{IsAnswer}
use Rattle.line_inputs.specs.FigureLinesReading.{AreItems, figures_of, EndsAs, IsReading}
use Rattle.line_inputs.specs.declared.figure_lines.ending.Ending.{Ending}
use Rattle.line_inputs.specs.declared.figure_lines.ending.Ending.TheVariants.{Well, BadLine, Limit, EndInFigure, TooLong}
use Rattle.line_inputs.proofs.ItemLemmas.{drawn-within, note-within}
use Rattle.line_inputs.proofs.FigureLinesReadLemmas.{open-bad}

-- an answer other than out of memory
abbrev IsTold : Result Item TextFault → Type 0
IsTold r = r ≢ Err fault.NoMemory

-- there is one answer at an offset
Answers-unique : (bytes : List ℕ) (at line : ℕ) → at ≤ length bytes → (r s : Result Item TextFault) → IsTold r → IsTold s → IsAnswer bytes at line r → IsAnswer bytes at line s → r ≡ s
Answers-unique bytes at line within r s told told' answer answer' = one-answer bytes at line within r s answer answer' told told'

-- the end of the bytes
end-answers : (bytes : List ℕ) (at line : ℕ) → at ≡ length bytes → IsAnswer bytes at line (Ok End)
end-answers bytes at line end = end

-- what stands where no line is closed
plain-answers : (bytes : List ℕ) (at line : ℕ) → at ≤ length bytes → IsPlain (drop at bytes) → IsAnswer bytes at line (Ok End) ⊎ IsAnswer bytes at line (Err (fault.BadLine line))
plain-answers bytes at line within plain =
    elim (cases_lt at (length bytes)) [
      | inl some ↦ inr (open-bad bytes at line plain (let l = length-drop at bytes in omega arith))
      | inr none ↦ inl (end-answers bytes at line (omega arith))
    ]

-- an ending but `TooLong`, as an answer, and back
answer_of : Ending → Result Item TextFault
answer_of Well = Ok End
answer_of (BadLine k) = Err (fault.BadLine k)
answer_of (Limit k) = Err (fault.Limit k)
answer_of (EndInFigure k) = Err (fault.EndInFigure k)
answer_of TooLong = Ok End

ending_of : Result Item TextFault → Ending
ending_of (Ok item) = Well
ending_of (Err (fault.BadLine k)) = BadLine k
ending_of (Err (fault.Limit k)) = Limit k
ending_of (Err (fault.EndInFigure k)) = EndInFigure k
ending_of (Err fault.NoMemory) = Well

-- an ending within the bytes that are read
record Ends (bytes : List ℕ) (at line : ℕ) (ending : Ending) : Type 0 where
  told : IsTold (answer_of ending)
  answers : IsAnswer bytes at line (answer_of ending)
  back : ending ≡ ending_of (answer_of ending)

-- or none of a line
record IsLong (total : ℕ) (bytes : List ℕ) (at line : ℕ) (ending : Ending) : Type 0 where
  is : ending ≡ TooLong
  long : input_limit < total
  why : IsPlain (drop at bytes) ⊎ ((k : ℕ) × IsAnswer bytes at line (Err (fault.EndInFigure k)))

ends-or-long : (total : ℕ) (bytes : List ℕ) (at line : ℕ) (ending : Ending) → EndsAs total bytes at line ending → Ends bytes at line ending ⊎ IsLong total bytes at line ending
unfolding answer_of ending_of
ends-or-long total bytes at line Well (few, end) = inl (record { told = λ e. absurd (cc); answers = end-answers bytes at line end; back = refl })
ends-or-long total bytes at line (BadLine k) (answers, why) = inl (record { told = λ e. absurd (cc); answers = answers; back = refl })
ends-or-long total bytes at line (Limit k) answers = inl (record { told = λ e. absurd (cc); answers = answers; back = refl })
ends-or-long total bytes at line (EndInFigure k) (answers, few) = inl (record { told = λ e. absurd (cc); answers = answers; back = refl })
ends-or-long total bytes at line TooLong (long, why) = inr (record { is = refl; long = long; why = why })

-- no other ending is there where the input is too long
long-alone : (total : ℕ) (bytes : List ℕ) (at line : ℕ) (ending : Ending) → at ≤ length bytes → input_limit < total → (IsPlain (drop at bytes) ⊎ ((k : ℕ) × IsAnswer bytes at line (Err (fault.EndInFigure k)))) → EndsAs total bytes at line ending → ending ≡ TooLong
long-alone total bytes at line Well within long why (few, end) = absurd (omega arith)
long-alone total bytes at line (BadLine k) within long why (answers, inl few) = absurd (omega arith)
long-alone total bytes at line (BadLine k) within long (inl plain) (answers, inr closed) = absurd (closed plain)
long-alone total bytes at line (BadLine k) within long (inr (j, inside)) (answers, inr closed) =
    let same = Answers-unique bytes at line within (Err (fault.BadLine k)) (Err (fault.EndInFigure j)) (λ e. absurd (cc)) (λ e. absurd (cc)) answers inside in absurd (cc)
long-alone total bytes at line (Limit k) within long (inl plain) answers =
    elim (plain-answers bytes at line within plain) [
      | inl end ↦ (let same = Answers-unique bytes at line within (Err (fault.Limit k)) (Ok End) (λ e. absurd (cc)) (λ e. absurd (cc)) answers end in absurd (cc))
      | inr bad ↦ (let same = Answers-unique bytes at line within (Err (fault.Limit k)) (Err (fault.BadLine line)) (λ e. absurd (cc)) (λ e. absurd (cc)) answers bad in absurd (cc))
    ]
long-alone total bytes at line (Limit k) within long (inr (j, inside)) answers =
    let same = Answers-unique bytes at line within (Err (fault.Limit k)) (Err (fault.EndInFigure j)) (λ e. absurd (cc)) (λ e. absurd (cc)) answers inside in absurd (cc)
long-alone total bytes at line (EndInFigure k) within long why (answers, few) = absurd (omega arith)
long-alone total bytes at line TooLong within long why ends = refl

-- two endings at one place are one
ending-unique : (total : ℕ) (bytes : List ℕ) (at line : ℕ) (ending ending' : Ending) → at ≤ length bytes → EndsAs total bytes at line ending → EndsAs total bytes at line ending' → ending ≡ ending'
ending-unique total bytes at line ending ending' within ends ends' = by_kind (ends-or-long total bytes at line ending ends) (ends-or-long total bytes at line ending' ends')
  where
    by_kind : Ends bytes at line ending ⊎ IsLong total bytes at line ending → Ends bytes at line ending' ⊎ IsLong total bytes at line ending' → ending ≡ ending'
    by_kind (inl e) (inl e') =
        e.back ∙ ap ending_of (Answers-unique bytes at line within (answer_of ending) (answer_of ending') e.told e'.told e.answers e'.answers) ∙ sym e'.back
    by_kind (inl e) (inr long') = long-alone total bytes at line ending within long'.long long'.why ends ∙ sym long'.is
    by_kind (inr long) other = long.is ∙ sym (long-alone total bytes at line ending' within long.long long.why ends')

-- no item stands where the items stop
no-drawn : (total : ℕ) (bytes : List ℕ) (at line : ℕ) (ending : Ending) (fig : Figure) (next after : ℕ) → at ≤ length bytes → EndsAs total bytes at line ending → IsAnswer bytes at line (Ok (Drawn fig next after)) → ⊥
unfolding answer_of
no-drawn total bytes at line Well fig next after within (few, end) answer =
    let same = Answers-unique bytes at line within (Ok End) (Ok (Drawn fig next after)) (λ e. absurd (cc)) (λ e. absurd (cc)) (end-answers bytes at line end) answer in cc
no-drawn total bytes at line (BadLine k) fig next after within (answers, why) answer =
    let same = Answers-unique bytes at line within (Err (fault.BadLine k)) (Ok (Drawn fig next after)) (λ e. absurd (cc)) (λ e. absurd (cc)) answers answer in cc
no-drawn total bytes at line (Limit k) fig next after within answers answer =
    let same = Answers-unique bytes at line within (Err (fault.Limit k)) (Ok (Drawn fig next after)) (λ e. absurd (cc)) (λ e. absurd (cc)) answers answer in cc
no-drawn total bytes at line (EndInFigure k) fig next after within (answers, few) answer =
    let same = Answers-unique bytes at line within (Err (fault.EndInFigure k)) (Ok (Drawn fig next after)) (λ e. absurd (cc)) (λ e. absurd (cc)) answers answer in cc
no-drawn total bytes at line TooLong fig next after within (long, inl plain) answer =
    elim (plain-answers bytes at line within plain) [
      | inl end ↦ (let same = Answers-unique bytes at line within (Ok (Drawn fig next after)) (Ok End) (λ e. absurd (cc)) (λ e. absurd (cc)) answer end in cc)
      | inr bad ↦ (let same = Answers-unique bytes at line within (Ok (Drawn fig next after)) (Err (fault.BadLine line)) (λ e. absurd (cc)) (λ e. absurd (cc)) answer bad in cc)
    ]
no-drawn total bytes at line TooLong fig next after within (long, inr (k, inside)) answer =
    let same = Answers-unique bytes at line within (Err (fault.EndInFigure k)) (Ok (Drawn fig next after)) (λ e. absurd (cc)) (λ e. absurd (cc)) inside answer in cc

no-note : (total : ℕ) (bytes : List ℕ) (at line : ℕ) (ending : Ending) (next after : ℕ) → at ≤ length bytes → EndsAs total bytes at line ending → IsAnswer bytes at line (Ok (Note next after)) → ⊥
no-note total bytes at line Well next after within (few, end) answer =
    let same = Answers-unique bytes at line within (Ok End) (Ok (Note next after)) (λ e. absurd (cc)) (λ e. absurd (cc)) (end-answers bytes at line end) answer in cc
no-note total bytes at line (BadLine k) next after within (answers, why) answer =
    let same = Answers-unique bytes at line within (Err (fault.BadLine k)) (Ok (Note next after)) (λ e. absurd (cc)) (λ e. absurd (cc)) answers answer in cc
no-note total bytes at line (Limit k) next after within answers answer =
    let same = Answers-unique bytes at line within (Err (fault.Limit k)) (Ok (Note next after)) (λ e. absurd (cc)) (λ e. absurd (cc)) answers answer in cc
no-note total bytes at line (EndInFigure k) next after within (answers, few) answer =
    let same = Answers-unique bytes at line within (Err (fault.EndInFigure k)) (Ok (Note next after)) (λ e. absurd (cc)) (λ e. absurd (cc)) answers answer in cc
no-note total bytes at line TooLong next after within (long, inl plain) answer =
    elim (plain-answers bytes at line within plain) [
      | inl end ↦ (let same = Answers-unique bytes at line within (Ok (Note next after)) (Ok End) (λ e. absurd (cc)) (λ e. absurd (cc)) answer end in cc)
      | inr bad ↦ (let same = Answers-unique bytes at line within (Ok (Note next after)) (Err (fault.BadLine line)) (λ e. absurd (cc)) (λ e. absurd (cc)) answer bad in cc)
    ]
no-note total bytes at line TooLong next after within (long, inr (k, inside)) answer =
    let same = Answers-unique bytes at line within (Err (fault.EndInFigure k)) (Ok (Note next after)) (λ e. absurd (cc)) (λ e. absurd (cc)) inside answer in cc

-- items from a place on, and how they end
items-unique : (total : ℕ) (bytes : List ℕ) (at line : ℕ) (items items' : List Item) (a l a' l' : ℕ) (ending ending' : Ending) → at ≤ length bytes → AreItems bytes at line items a l → AreItems bytes at line items' a' l' → EndsAs total bytes a l ending → EndsAs total bytes a' l' ending' → (figures_of items ≡ figures_of items') × (ending ≡ ending')
items-unique total bytes at line [] [] a l a' l' ending ending' within (here, number) (here', number') ends ends' =
    (refl, ending-unique total bytes at line ending ending' within (rw (here, number) at ends) (rw (here', number') at ends'))
items-unique total bytes at line [] (Drawn fig next after ∷ items') a l a' l' ending ending' within (here, number) (answer, are) ends ends' =
    absurd (no-drawn total bytes at line ending fig next after within (rw (here, number) at ends) answer)
items-unique total bytes at line [] (Note next after ∷ items') a l a' l' ending ending' within (here, number) (answer, are) ends ends' =
    absurd (no-note total bytes at line ending next after within (rw (here, number) at ends) answer)
items-unique total bytes at line items (End ∷ items') a l a' l' ending ending' within are none ends ends' = absurd none
items-unique total bytes at line (End ∷ items) items' a l a' l' ending ending' within none are ends ends' = absurd none
items-unique total bytes at line (Drawn fig next after ∷ items) [] a l a' l' ending ending' within (answer, are) (here, number) ends ends' =
    absurd (no-drawn total bytes at line ending' fig next after within (rw (here, number) at ends') answer)
items-unique total bytes at line (Note next after ∷ items) [] a l a' l' ending ending' within (answer, are) (here, number) ends ends' =
    absurd (no-note total bytes at line ending' next after within (rw (here, number) at ends') answer)
items-unique total bytes at line (Drawn fig next after ∷ items) (Drawn fig' next' after' ∷ items') a l a' l' ending ending' within (answer, are) (answer', are') ends ends' =
    let same = Answers-unique bytes at line within (Ok (Drawn fig next after)) (Ok (Drawn fig' next' after')) (λ e. absurd (cc)) (λ e. absurd (cc)) answer answer' in
    let figs : fig ≡ fig' = cc in
    let places : next' ≡ next = cc in
    let numbers : after' ≡ after = cc in
    let rest = items-unique total bytes next after items items' a l a' l' ending ending' (drawn-within bytes at line fig next after answer) are (rw (places, numbers) at are') ends ends' in
    (ap (λ (x : List Figure). fig ∷ x) rest.0 ∙ ap (λ (x : Figure). x ∷ figures_of items') figs, rest.1)
items-unique total bytes at line (Note next after ∷ items) (Note next' after' ∷ items') a l a' l' ending ending' within (answer, are) (answer', are') ends ends' =
    let same = Answers-unique bytes at line within (Ok (Note next after)) (Ok (Note next' after')) (λ e. absurd (cc)) (λ e. absurd (cc)) answer answer' in
    let places : next' ≡ next = cc in
    let numbers : after' ≡ after = cc in
    items-unique total bytes next after items items' a l a' l' ending ending' (note-within bytes at line next after answer) are (rw (places, numbers) at are') ends ends'
items-unique total bytes at line (Drawn fig next after ∷ items) (Note next' after' ∷ items') a l a' l' ending ending' within (answer, are) (answer', are') ends ends' =
    let same = Answers-unique bytes at line within (Ok (Drawn fig next after)) (Ok (Note next' after')) (λ e. absurd (cc)) (λ e. absurd (cc)) answer answer' in absurd (cc)
items-unique total bytes at line (Note next after ∷ items) (Drawn fig next' after' ∷ items') a l a' l' ending ending' within (answer, are) (answer', are') ends ends' =
    let same = Answers-unique bytes at line within (Ok (Note next after)) (Ok (Drawn fig next' after')) (λ e. absurd (cc)) (λ e. absurd (cc)) answer answer' in absurd (cc)

-- The reading of an input is unique.
pub reading-unique : (input : List ℕ) (figures figures' : List Figure) (ending ending' : Ending) → IsReading input figures ending → IsReading input figures' ending' → (figures ≡ figures') × (ending ≡ ending')
reading-unique input figures figures' ending ending' r r' =
    let same = items-unique (length input) (take input_limit input) 0 1 r.items r'.items r.at r.line r'.at r'.line ending ending' (omega arith) r.are r'.are r.ends r'.ends in
    (r.figures_are ∙ same.0 ∙ sym r'.figures_are, same.1)
