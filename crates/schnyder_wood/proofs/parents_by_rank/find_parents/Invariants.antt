use Rattle.std.proofs.Common.{ℕ, ◌+◌, length}
use Rattle.map_theory.specs.Maps.{list_of}
use Rattle.contour_runs.specs.Runs.{Step}
use Rattle.order_drawings.specs.Rows.{AreRows}
use Rattle.schnyder_wood.specs.Tables.{AreCovered, AreParentTables}
use Rattle.schnyder_wood.proofs.parents_by_rank.find_parents.Given as goal

abbrev pub invariant-loop-k : goal.invariant-loop-k
invariant-loop-k l = (steps : ℕ → Step) → AreRows steps l.rows → AreParentTables steps l.k (length l.initial.firsts) l.firsts l.lasts l.covers

abbrev pub invariant-loop-i : goal.invariant-loop-i
invariant-loop-i l = AreCovered (l.k + 2) (list_of l.rows l.k) l.i l.initial.covers l.covers
