use Rattle.std.proofs.Common.{◌≡◌, take}
use Rattle.grid_figures.specs.Gaps.{ArePassed, AreCovered, gap_sum}
use Rattle.grid_figures.proofs.schnyder_grid.coordinate_gaps.cover_interval.Given as goal

abbrev pub invariant-loop-u : goal.invariant-loop-u
invariant-loop-u l = record {
  far : l.far ≡ gap_sum l.initial.drops (take l.u-index l.row);
  high : l.high ≡ gap_sum l.initial.rises (take l.u-index l.row);
  drops : ArePassed l.row l.u-index l.initial.drops l.drops;
  rises : ArePassed l.row l.u-index l.initial.rises l.rises;
  covered : AreCovered l.v l.row l.u-index l.initial.covers l.covers;
}
