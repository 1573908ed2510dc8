-- The block of a record: what it is where the record is served, and the line that names the first condition that it breaks.
use Rattle.std.specs.Prelude.{ℕ, ◌<◌, ◌≡◌, ◌⊎◌, List, ◌++◌, length}
use Rattle.map_lists.specs.Lists.{Lists}
use Rattle.refusals.specs.declared.conditions.Refusal.{Refusal}
use Rattle.pigale_words.specs.declared.output_form.Form.{Form}
use Rattle.pigale_shell.specs.Text.{refusal_line}
use Rattle.pigale_shell.specs.Forms.{line_in}

-- the text is a figure, as it is printed
abbrev pub IsPrinted : (Figure : Type 0) → (Figure → Type 0) → (Figure → List ℕ) → List ℕ → Type 0
IsPrinted Figure IsFigure print text = (figure : Figure) × IsFigure figure × (text ≡ print figure)

-- the text refuses record k for a condition that it breaks
abbrev pub IsRefused : (Refusal → Type 0) → Form → ℕ → List ℕ → Type 0
IsRefused Breaks form k text = (refusal : Refusal) × Breaks refusal × (text ≡ line_in form (refusal_line k refusal))

-- the record is served, and the text is such a one; or it breaks a condition, and the text says so
abbrev pub IsJobBlock : Type 0 → (List ℕ → Type 0) → (Refusal → Type 0) → Form → ℕ → List ℕ → Type 0
IsJobBlock Served IsText Breaks form k text = (Served × IsText text) ⊎ IsRefused Breaks form k text

-- the bytes have grown by such a text
abbrev pub Appends : (List ℕ → Type 0) → List ℕ → List ℕ → Type 0
Appends IsText old new = (text : List ℕ) × IsText text × (new ≡ old ++ text)

-- What a job over maps says: the lists that it serves, the first condition that others break, and the texts that it writes of record k, in a form.
pub record Says : Type 1 where
  pub Serves : Lists → Type 0
  pub Breaks : Lists → Refusal → Type 0
  pub IsText : Form → ℕ → Lists → List ℕ → Type 0

-- No lists are both served and refused, and lists break at most one condition first.
pub record IsLawful (says : Says) : Type 0 where
  pub breaks_nothing : (lists : Lists) (refusal : Refusal) → 0 < length lists → says.Serves lists → ¬ says.Breaks lists refusal
  pub one_break : (lists : Lists) → 0 < length lists → (refusal refusal' : Refusal) → says.Breaks lists refusal → says.Breaks lists refusal' → refusal ≡ refusal'
