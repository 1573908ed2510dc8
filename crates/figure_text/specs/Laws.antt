-- Laws on figures as text.
use Rattle.std.specs.Prelude.{ℕ, suc, ℤ, pos, negsuc, ◌+◌, ◌<◌, ◌≤◌, ◌≡◌, ◌≢◌, true, false, List, ◌++◌, length, drop, All, Result, Ok, Err}
use Rattle.map_lists.specs.Lists.{Lists}
use Rattle.map_lists.specs.declared.ids.VertexId.{VertexId}
use Rattle.figure_text.specs.declared.figure.Figure.{Figure}
use Rattle.figure_text.specs.declared.figure.Figure.TheVariants.{Grid, Bars, Rects, Witness}
use Rattle.figure_text.specs.declared.line_words.Signed.{Signed}
use Rattle.figure_text.specs.declared.figure_ends.Item.{Item}
use Rattle.figure_text.specs.declared.figure_ends.Item.TheVariants.{Drawn}
use Rattle.figure_text.specs.declared.fault.TextFault.{TextFault}
use Rattle.figure_text.specs.declared.fault.TextFault.TheVariants.{NoMemory}
use Rattle.figure_text.specs.Text.{IsText, IsWhole}
use Rattle.figure_text.specs.Figures.{StandsAt, FailsAt}

-- a whole number by its sign and its size
abbrev pub sign_of : ℤ → Signed
sign_of (pos n) = record { negative = false; size = n }
sign_of (negsuc n) = record { negative = true; size = suc n }

-- a coordinate that is within its range
abbrev pub IsCoordinate : ℤ → Type 0
IsCoordinate z = (sign_of z).size ≤ 1048576

-- the number of vertices, and the neighbours, from 0, are within their ranges
pub record AreLists (lists : Lists) : Type 0 where
  pub some : 1 ≤ length lists
  pub most : length lists ≤ 4095
  pub neighbours : All (λ us. All (λ u. u < 65535) us) lists

-- the vertices of a list have numbers from 1 to 65535
abbrev pub AreNumbered : List VertexId → Type 0
AreNumbered us = All (λ (u : VertexId). u.0 < 65535) us

-- all numbers of a figure are within the ranges of its text
abbrev pub IsInRange : Figure → Type 0
IsInRange (Grid job lists points) = AreLists lists × All (λ p. IsCoordinate p.x × IsCoordinate p.y) points
IsInRange (Bars lists bars) =
    AreLists lists × All IsCoordinate bars.y × All IsCoordinate bars.x1 × All IsCoordinate bars.x2 × All IsCoordinate bars.column
IsInRange (Rects lists rects) =
    AreLists lists × All IsCoordinate rects.x1 × All IsCoordinate rects.x2 × All IsCoordinate rects.y1 × All IsCoordinate rects.y2
IsInRange (Witness graph witness) = AreNumbered witness.branch × All AreNumbered witness.paths

-- how many lines the text of a figure has
abbrev pub line_count : Figure → ℕ
line_count (Grid job lists points) = length lists + 1
line_count (Bars lists bars) = length lists + 2
line_count (Rects lists rects) = length lists + 1
line_count (Witness graph witness) = length witness.paths + 2

-- What is printed of a figure is read as that figure, wherever it stands and whatever follows.
abbrev pub PrintedIsRead : Type 0
PrintedIsRead =
    (k : ℕ) (fig : Figure) (text : List ℕ) → 1 ≤ k → k ≤ 16777216 → IsWhole fig → IsInRange fig → IsText k fig text
    → (bytes : List ℕ) (at : ℕ) (rest : List ℕ) → at ≤ length bytes → drop at bytes ≡ text ++ rest
    → (line : ℕ) → StandsAt bytes at line (Drawn fig (at + length text) (line + line_count fig))

-- the answer at an offset: what stands there, or why nothing does
abbrev pub IsAnswer : List ℕ → ℕ → ℕ → Result Item TextFault → Type 0
IsAnswer bytes at line (Ok item) = StandsAt bytes at line item
IsAnswer bytes at line (Err fault) = FailsAt bytes at line fault

-- But when out of memory there is one answer at an offset.
abbrev pub OneAnswer : Type 0
OneAnswer =
    (bytes : List ℕ) (at line : ℕ) → at ≤ length bytes → (r s : Result Item TextFault) → IsAnswer bytes at line r → IsAnswer bytes at line s
    → r ≢ Err NoMemory → s ≢ Err NoMemory → r ≡ s
