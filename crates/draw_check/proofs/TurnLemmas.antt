-- Breaks of the directions round a vertex, as the calls of a map answer them.
use Rattle.std.proofs.Common.{◌≡◌, ℕ, ◌<◌, ◌≤◌, Bool, true, false, not, MatchBool, List, length, refl, sym, subst}
use Rattle.std.proofs.lemmas.Bool.{false≢true}
use Rattle.map_lists.specs.Lists.{Lists}
use Rattle.map_theory.specs.Maps.{list_of, follows}
use Rattle.pg_plane.specs.declared.grid_points.Point.{Point}
use Rattle.pg_plane.specs.Geometry.{vector, IsClockBefore}
use Rattle.plane_drawings.specs.Drawing.{place, GoesOnceRound}
use Rattle.draw_check.specs.Loops.{Breaks}
use Rattle.vertex_rounds.specs.Rounds.{GoesOnce}
use Rattle.draw_check.specs.Faults.{IsTurned}

-- the direction to u is not before that to w
abbrev pub IsBreakOf : List Point → ℕ → ℕ → ℕ → Type 0
IsBreakOf points v u w = ¬ IsClockBefore (vector (place points v) (place points u)) (vector (place points v) (place points w))

-- what a test says of a negation
pub denied : (P : Type 0) (r : Bool) → ((r ≡ true → P) × (P → r ≡ true)) → (not r ≡ true → ¬ P) × ((¬ P) → not r ≡ true)
denied P true is = (λ e. absurd (false≢true e), λ lacks. absurd (lacks (is.0 refl)))
denied P false is = (λ e p. false≢true (is.1 p), λ lacks. refl)

-- what the calls answer for a dart and the next one
pub break_is : (lists : Lists) (points : List Point) (v u s t w : ℕ) → v ≡ s → u ≡ t → follows lists v u ≡ w → (r : Bool) → ((r ≡ true → IsBreakOf points s t w) × (IsBreakOf points s t w → r ≡ true)) → (r ≡ true → Breaks lists points v u) × (Breaks lists points v u → r ≡ true)
break_is lists points v u s t w tail head next r is =
    let same : (r ≡ true → IsBreakOf points v u (follows lists v u)) × (IsBreakOf points v u (follows lists v u) → r ≡ true) =
    subst (λ (x : ℕ). (r ≡ true → IsBreakOf points v u x) × (IsBreakOf points v u x → r ≡ true)) (sym next)
    (subst (λ (x : ℕ). (r ≡ true → IsBreakOf points v x w) × (IsBreakOf points v x w → r ≡ true)) (sym head)
    (subst (λ (x : ℕ). (r ≡ true → IsBreakOf points x t w) × (IsBreakOf points x t w → r ≡ true)) (sym tail) is)) in
    (λ e. record { break = same.0 e }, λ b. same.1 b.break)

-- just one break among the entries is once round
pub turned_or_not : (lists : Lists) (points : List Point) (v : ℕ) (r : Bool) → v < length lists → MatchBool r (2 ≤ length (list_of lists v) → GoesOnce lists v (Breaks lists points v)) ((2 ≤ length (list_of lists v)) × (¬ GoesOnce lists v (Breaks lists points v)))
    → MatchBool r (2 ≤ length (list_of lists v) → GoesOnceRound lists points v) (IsTurned lists points v)
turned_or_not lists points v true l o = λ two. let g = o two in record { some = (g.some.0, g.some.1, g.some.2.break); one = λ u w has has' b c. g.one u w has has' (record { break = b }) (record { break = c }) }
turned_or_not lists points v false l o = record { vertex = l; two = o.0; turned = λ g. o.1 (record { some = (g.some.0, g.some.1, record { break = g.some.2 }); one = λ u w has has' b c. g.one u w has has' b.break c.break }) }
