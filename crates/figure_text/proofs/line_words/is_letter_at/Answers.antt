use Rattle.figure_text.proofs.line_words.is_letter_at.Goals as goal

pub returns-else-line-at : goal.returns-else-line-at
returns-else-line-at c = λ h. let none = rw c.if-line-at.false at h in cc
