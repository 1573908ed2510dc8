-- The four vertices of an outer face that is a quadrangle.
use Rattle.std.specs.Prelude.{ℕ, ◌≡◌, ◌≢◌}
use Rattle.map_lists.specs.Lists.{Lists}
use Rattle.drawings.specs.Duals.{HasFrame, top_vertex, right_vertex, bottom_vertex}

-- 0, d, p, q are four vertices
pub record AreFour (d p q : ℕ) : Type 0 where
  pub first : 0 ≢ d
  pub second : 0 ≢ p
  pub third : 0 ≢ q
  pub next : d ≢ p
  pub across : d ≢ q
  pub last : p ≢ q

-- what the last two steps lead to: back to 0 and d, past four vertices
pub record IsRoundOfFour (d p q s e : ℕ) : Type 0 where
  pub back : s ≡ 0
  pub again : e ≡ d
  pub four : AreFour d p q

-- d, p and q are the vertices behind 0 on the outer face, which is a quadrangle
pub record IsFrame (lists : Lists) (d p q : ℕ) : Type 0 where
  pub quadrangle : HasFrame lists
  pub top : d ≡ top_vertex lists
  pub right : p ≡ right_vertex lists
  pub bottom : q ≡ bottom_vertex lists
