-- What a face keeps while its corners move.
use Rattle.std.specs.Prelude.{ℕ, ◌+◌, ◌<◌, ◌≤◌}
use Rattle.contour_runs.specs.Wood.{Coordinates}

-- Three vertices are spread: c lies not beyond a in coordinate one and below b in coordinate two, of these a lies beyond b and b not below a, and the sum of c's coordinates is below that of a's and not above that of b's.
pub record IsSpread (at : Coordinates) (a b c : ℕ) : Type 0 where
  pub left : at.one b < at.one a
  pub within : at.one c ≤ at.one a
  pub under : at.two c < at.two b
  pub up : at.two a ≤ at.two b
  pub first_sum : at.one c + at.two c < at.one a + at.two a
  pub second_sum : at.one c + at.two c ≤ at.one b + at.two b
