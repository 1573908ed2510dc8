-- The three places of a figure, on a worked case: the complete graph of four vertices as each method draws it.
use Rattle.std.specs.Prelude.{[], ◌∷◌, refl}
use Rattle.std.proofs.Common.{arith}
use Rattle.map_lists.specs.Lists.{Lists}
use Rattle.grid_figures.specs.Forms.{point_at, IsPlaced}
use Rattle.grid_figures.specs.ShiftFiguresFigures.{shift_form}
use Rattle.grid_figures.specs.SchnyderFiguresFigures.{schnyder_form}

abbrev k4 : Lists
k4 = (1 ∷ 2 ∷ 3 ∷ []) ∷ (0 ∷ 3 ∷ 2 ∷ []) ∷ (0 ∷ 1 ∷ 3 ∷ []) ∷ (0 ∷ 2 ∷ 1 ∷ []) ∷ []

-- vertices 0, 1 and 3 at the corners
k4_shifted : IsPlaced shift_form k4 (point_at 4 0 ∷ point_at 0 0 ∷ point_at 2 1 ∷ point_at 2 2 ∷ [])
k4_shifted = record {
  tail = refl;
  head = (1, omega arith, refl);
  first = λ some. refl;
  third = (3, omega arith, refl);
}

-- vertices 0, 1 and 3 are the roots
k4_by_wood : IsPlaced schnyder_form k4 (point_at 0 2 ∷ point_at 2 1 ∷ point_at 1 1 ∷ point_at 1 0 ∷ [])
k4_by_wood = record {
  tail = refl;
  head = (1, omega arith, refl);
  first = λ some. refl;
  third = (3, omega arith, refl);
}
