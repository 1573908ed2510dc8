-- Heights that are marked as they are met.
use Rattle.std.proofs.Common.{◌≡◌, ◌≢◌, ℕ, ◌+◌, ◌<◌, Bool, true, false, List, length, get_or, ℤ, pos, negsuc, ◌≤ℤ◌, refl, sym, ap, ◌∙◌, inl, inr, arith}
use Rattle.std.proofs.lemmas.Bool.{cases_eq, true≢false}
use Rattle.std.proofs.lemmas.Int.{ints}
use Rattle.map_lists.specs.Lists.{Lists}
use Rattle.pg_plane.specs.declared.figures.BarFigure.{BarFigure}
use Rattle.drawings.specs.Bars.{number_at, IsNewHeight}
use Rattle.bar_check.specs.Tables.{AreSeen, IsFree}

-- a number that is not below 0
pub natural_is : (z : ℤ) → pos 0 ≤ℤ z → (k : ℕ) × (z ≡ pos k)
natural_is (pos k) l = (k, refl)
natural_is (negsuc k) l = absurd (omega (arith, ints))

module _ (lists : Lists) (fig : BarFigure) (v : ℕ) (seen : List Bool) (size : length seen ≡ length lists) (is : AreSeen fig v seen) where
  -- a free height is new
  pub new_from_free : IsFree seen (number_at fig.y v) → IsNewHeight lists fig v
  new_from_free free =
      let high = free.high in
      record {
        low = free.low;
        high = omega (arith, ints, high, size);
        new = λ u l e.
            let k = natural_is (number_at fig.y v) free.low in
            true≢false (sym (is.all u k.0 l (e ∙ k.1)) ∙ free.free k.0 k.1);
      }

  pub free_from_new : IsNewHeight lists fig v → IsFree seen (number_at fig.y v)
  free_from_new new = grind (arith, ints, get_or)

  -- one vertex more
  pub AreSeen-more : (seen' : List Bool) → ((k : ℕ) → number_at fig.y v ≡ pos k → get_or seen' k false ≡ true) → ((k : ℕ) → number_at fig.y v ≢ pos k → get_or seen' k false ≡ get_or seen k false) → IsNewHeight lists fig v → AreSeen fig (v + 1) seen'
  AreSeen-more seen' here elsewhere new = grind (arith, natural_is, number_at, cases_eq, pos, ints)
