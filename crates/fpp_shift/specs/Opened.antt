-- A face while what stands on its sides moves apart.
use Rattle.std.specs.Prelude.{ℕ, ◌+◌, ◌*◌, ◌<◌, ◌≡◌}
use Rattle.fpp_shift.specs.Shift.{Places}

-- What is kept of the face of a, b and v, with v over the side from a to b. When it was made, b was `wide` beyond a in x - y and `long` beyond it in x + y, v was `left` before a in x - y and `tall` beyond b in x + y. Since then v has gone `more` further to the right than a, and b has gone `most` further than v.
pub record IsOpened (at : Places) (a b v : ℕ) : Type 0 where
  pub wide : ℕ
  pub long : ℕ
  pub left : ℕ
  pub tall : ℕ
  pub more : ℕ
  pub most : ℕ
  pub b_across : at.x b + at.y a ≡ at.x a + at.y b + wide + more + most
  pub b_along : at.x b + at.y b ≡ at.x a + at.y a + long + more + most
  pub v_across : at.x v + at.y a + left ≡ at.x a + at.y v + more
  pub v_along : at.x v + at.y v ≡ at.x a + at.y a + long + tall + more
  pub positive : 0 < wide * tall + wide * long + left * long
