-- Items one after another.
use Rattle.std.proofs.Common.{◌≡◌, ℕ, ◌≤◌, List, [], ◌∷◌, ◌++◌, length, refl, ap}
use Rattle.std.specs.Prelude.{Ok}
use Rattle.figure_text.specs.declared.figure.Figure.{Figure}
use Rattle.figure_text.specs.declared.figure_ends.Item.{Item}
use Rattle.figure_text.specs.declared.figure_ends.Item.TheVariants.{Drawn, Note, End}
use Rattle.figure_text.specs.Laws.{IsAnswer}
use Rattle.line_inputs.specs.FigureLinesReading.{AreItems, figures_of}
use Rattle.line_inputs.proofs.MoreLemmas.{drawn-more, note-more}

-- an item ends within the bytes
pub drawn-within : (bytes : List ℕ) (at first : ℕ) (fig : Figure) (next after : ℕ) → IsAnswer bytes at first (Ok (Drawn fig next after)) → next ≤ length bytes
drawn-within bytes at first fig next after (kind, n, text, begins, (body, within, counted)) = within

pub note-within : (bytes : List ℕ) (at first : ℕ) (next after : ℕ) → IsAnswer bytes at first (Ok (Note next after)) → next ≤ length bytes
note-within bytes at first next after (line, is, note, within, counted) = within

-- items of some bytes stand in more bytes
pub AreItems-more : (bytes more : List ℕ) (at line : ℕ) (items : List Item) (at' line' : ℕ) → at ≤ length bytes → AreItems bytes at line items at' line' → AreItems (bytes ++ more) at line items at' line'
AreItems-more bytes more at line [] at' line' within are = are
AreItems-more bytes more at line (Drawn fig next after ∷ items) at' line' within (answer, are) = (
  drawn-more bytes more at within line fig next after answer,
  AreItems-more bytes more next after items at' line' (drawn-within bytes at line fig next after answer) are,
)
AreItems-more bytes more at line (Note next after ∷ items) at' line' within (answer, are) = (
  note-more bytes more at within line next after answer,
  AreItems-more bytes more next after items at' line' (note-within bytes at line next after answer) are,
)
AreItems-more bytes more at line (End ∷ items) at' line' within are = absurd are

-- one figure more
pub AreItems-drawn : (bytes : List ℕ) (at line : ℕ) (items : List Item) (at' line' : ℕ) (fig : Figure) (next after : ℕ) → AreItems bytes at line items at' line' → IsAnswer bytes at' line' (Ok (Drawn fig next after)) → AreItems bytes at line (items ++ Drawn fig next after ∷ []) next after
AreItems-drawn bytes at line [] at' line' fig next after (here, number) answer = (rw (here, number) at answer, (refl, refl))
AreItems-drawn bytes at line (Drawn fig' next' after' ∷ items) at' line' fig next after (first, are) answer = (first, AreItems-drawn bytes next' after' items at' line' fig next after are answer)
AreItems-drawn bytes at line (Note next' after' ∷ items) at' line' fig next after (first, are) answer = (first, AreItems-drawn bytes next' after' items at' line' fig next after are answer)
AreItems-drawn bytes at line (End ∷ items) at' line' fig next after are answer = absurd are

-- one note more
pub AreItems-note : (bytes : List ℕ) (at line : ℕ) (items : List Item) (at' line' : ℕ) (next after : ℕ) → AreItems bytes at line items at' line' → IsAnswer bytes at' line' (Ok (Note next after)) → AreItems bytes at line (items ++ Note next after ∷ []) next after
AreItems-note bytes at line [] at' line' next after (here, number) answer = (rw (here, number) at answer, (refl, refl))
AreItems-note bytes at line (Drawn fig' next' after' ∷ items) at' line' next after (first, are) answer = (first, AreItems-note bytes next' after' items at' line' next after are answer)
AreItems-note bytes at line (Note next' after' ∷ items) at' line' next after (first, are) answer = (first, AreItems-note bytes next' after' items at' line' next after are answer)
AreItems-note bytes at line (End ∷ items) at' line' next after are answer = absurd are

pub figures_of-drawn : (items : List Item) (fig : Figure) (next after : ℕ) → figures_of (items ++ Drawn fig next after ∷ []) ≡ figures_of items ++ fig ∷ []
figures_of-drawn [] fig next after = refl
figures_of-drawn (Drawn fig' next' after' ∷ items) fig next after = ap (λ (x : List Figure). fig' ∷ x) (figures_of-drawn items fig next after)
figures_of-drawn (Note next' after' ∷ items) fig next after = figures_of-drawn items fig next after
figures_of-drawn (End ∷ items) fig next after = figures_of-drawn items fig next after

pub figures_of-note : (items : List Item) (next after : ℕ) → figures_of (items ++ Note next after ∷ []) ≡ figures_of items
figures_of-note [] next after = refl
figures_of-note (Drawn fig' next' after' ∷ items) next after = ap (λ (x : List Figure). fig' ∷ x) (figures_of-note items next after)
figures_of-note (Note next' after' ∷ items) next after = figures_of-note items next after
figures_of-note (End ∷ items) next after = figures_of-note items next after
