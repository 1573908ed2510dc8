-- Rows that a wrong body would give: the clause refuses them.
use Rattle.std.proofs.Common.{◌≡◌, ℕ, ◌+◌, List, length, arith}
use Rattle.map_lists.specs.Lists.{Lists}
use Rattle.rect_dual.specs.RectDrawTables.{AreLowerRowsOf}

-- the row of the last vertex is kept
last_row_kept : (lists : Lists) (at : List ℕ) (rows : Lists) → length rows + 2 ≡ length at → ¬ AreLowerRowsOf lists at rows
last_row_kept lists at rows e w = let h = w.count in omega arith
