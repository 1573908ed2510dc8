-- Breaks between the edges of a vertex, as the calls of a map answer them.
use Rattle.std.proofs.Common.{◌≡◌, ℕ, ◌<◌, ◌≤◌, Bool, true, false, not, MatchBool, length, refl, sym, subst}
use Rattle.std.proofs.lemmas.Bool.{true≢false}
use Rattle.map_lists.specs.Lists.{Lists}
use Rattle.map_theory.specs.Maps.{list_of, follows}
use Rattle.pg_plane.specs.declared.figures.BarFigure.{BarFigure}
use Rattle.drawings.specs.Bars.{IsEarlier, GoesOnceRound}
use Rattle.bar_check.specs.Faults.{IsTurned}
use Rattle.bar_check.specs.Loops.{Breaks}
use Rattle.vertex_rounds.specs.Rounds.{GoesOnce}

-- what the calls answer for a dart and the next one
pub break_is : (lists : Lists) (fig : BarFigure) (v u s t w : ℕ) → v ≡ s → u ≡ t → follows lists v u ≡ w → (r : Bool) → ((r ≡ true → IsEarlier lists fig s t w) × (IsEarlier lists fig s t w → r ≡ true)) → (not r ≡ true → Breaks lists fig v u) × (Breaks lists fig v u → not r ≡ true)
break_is lists fig v u s t w tail head next r is =
    decided r
    (subst (λ (x : ℕ). (r ≡ true → IsEarlier lists fig v u x) × (IsEarlier lists fig v u x → r ≡ true)) (sym next)
    (subst (λ (x : ℕ). (r ≡ true → IsEarlier lists fig v x w) × (IsEarlier lists fig v x w → r ≡ true)) (sym head)
    (subst (λ (x : ℕ). (r ≡ true → IsEarlier lists fig x t w) × (IsEarlier lists fig x t w → r ≡ true)) (sym tail) is)))
  where
    decided : (b : Bool) → ((b ≡ true → IsEarlier lists fig v u (follows lists v u)) × (IsEarlier lists fig v u (follows lists v u) → b ≡ true)) → (not b ≡ true → Breaks lists fig v u) × (Breaks lists fig v u → not b ≡ true)
    decided true e = (λ f. absurd (true≢false (sym f)), λ x. absurd (x.break (e.0 refl)))
    decided false e = (λ f. record { break = λ x. true≢false (sym (e.1 x)) }, λ x. refl)

-- just one break among the entries is once round
pub turned_or_not : (lists : Lists) (fig : BarFigure) (v : ℕ) (r : Bool) → v < length lists → MatchBool r (2 ≤ length (list_of lists v) → GoesOnce lists v (Breaks lists fig v)) ((2 ≤ length (list_of lists v)) × (¬ GoesOnce lists v (Breaks lists fig v)))
    → MatchBool r (2 ≤ length (list_of lists v) → GoesOnceRound lists fig v) (IsTurned lists fig v)
turned_or_not lists fig v true l o = λ two. let g = o two in record { some = (g.some.0, g.some.1, g.some.2.break); one = λ u w has has' b c. g.one u w has has' (record { break = b }) (record { break = c }) }
turned_or_not lists fig v false l o = record { vertex = l; two = o.0; turned = λ g. o.1 (record { some = (g.some.0, g.some.1, record { break = g.some.2 }); one = λ u w has has' b c. g.one u w has has' b.break c.break }) }
