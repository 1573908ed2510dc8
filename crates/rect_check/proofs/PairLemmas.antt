-- Pairs of rectangles: which share a side, and which contacts are right.
use Rattle.std.proofs.Common.{◌≡◌, ◌⊎◌, ◌↔◌, ℕ, ◌+◌, ◌<◌, length, Option, Some, None, inl, inr, ⊎_elim, subst, sym, arith}
use Rattle.std.specs.Option.{MatchOption}
use Rattle.std.proofs.lemmas.Bool.{cases_lt}
use Rattle.std.proofs.lemmas.Int.{ints, by_lt_z}
use Rattle.map_lists.specs.Lists.{Lists}
use Rattle.map_lists.specs.declared.ids.VertexId.{VertexId}
use Rattle.map_theory.specs.Maps.{IsSimpleMap, HasDart}
use Rattle.vertex_rounds.specs.Least.{IsLeast}
use Rattle.pg_plane.specs.declared.figures.RectFigure.{RectFigure}
use Rattle.drawings.specs.Duals.{left_of, right_of, low_of, high_of, IsBeside, IsAbove, ShareSide}
use Rattle.rect_check.specs.Faults.{HasWrongContact}
use Rattle.rect_check.specs.Loops.{IsMissed}

-- what holds between u and k, and at k, holds up to k
pub between_more : (P : ℕ → Type 0) (u k : ℕ) → ((w : ℕ) → u < w → w < k → P w) → P k → (w : ℕ) → u < w → w < k + 1 → P w
between_more P u k below here w after l =
    elim (cases_lt w k) [
      | inl less ↦ below w after less
      | inr more ↦ (let same : w ≡ k = omega arith in subst P (sym same) here)
    ]

-- whether one is beside another, or above it, is decided
IsBeside-decided : (fig : RectFigure) (u v : ℕ) → IsBeside fig u v ⊎ (¬ IsBeside fig u v)
IsBeside-decided fig u v =
    by_lt_z (right_of fig u) (left_of fig v) (λ l. inr (λ h. let e = h.line in omega (arith, ints))) (λ a.
    by_lt_z (left_of fig v) (right_of fig u) (λ l. inr (λ h. let e = h.line in omega (arith, ints))) (λ b.
    by_lt_z (low_of fig u) (high_of fig v) (λ low. by_lt_z (low_of fig v) (high_of fig u) (λ high. inl (record { line = omega (arith, ints); low = low; high = high })) (λ l. inr (λ h. let e = h.high in omega (arith, ints))))
    (λ l. inr (λ h. let e = h.low in omega (arith, ints)))))

IsAbove-decided : (fig : RectFigure) (u v : ℕ) → IsAbove fig u v ⊎ (¬ IsAbove fig u v)
IsAbove-decided fig u v =
    by_lt_z (high_of fig u) (low_of fig v) (λ l. inr (λ h. let e = h.line in omega (arith, ints))) (λ a.
    by_lt_z (low_of fig v) (high_of fig u) (λ l. inr (λ h. let e = h.line in omega (arith, ints))) (λ b.
    by_lt_z (left_of fig u) (right_of fig v) (λ left. by_lt_z (left_of fig v) (right_of fig u) (λ right. inl (record { line = omega (arith, ints); left = left; right = right })) (λ l. inr (λ h. let e = h.right in omega (arith, ints))))
    (λ l. inr (λ h. let e = h.left in omega (arith, ints)))))

or_decided : {P Q : Type 0} → P ⊎ (¬ P) → Q ⊎ (¬ Q) → (P ⊎ Q) ⊎ (¬ (P ⊎ Q))
or_decided (inl p) q = inl (inl p)
or_decided (inr n) (inl q) = inl (inr q)
or_decided (inr n) (inr m) = inr (⊎_elim n m)

-- what cannot fail to share a side shares one
pub ShareSide-from_not : (fig : RectFigure) (u v : ℕ) → ¬ (¬ ShareSide fig u v) → ShareSide fig u v
ShareSide-from_not fig u v h =
    ⊎_elim (λ s. s) (λ n. absurd (h n))
    (or_decided (or_decided (IsBeside-decided fig u v) (IsBeside-decided fig v u)) (or_decided (IsAbove-decided fig u v) (IsAbove-decided fig v u)))

-- where those that share a side with u are adjacent to it, the least edge from u that is missed is its least wrong contact
pub wrong-from_missed : (lists : Lists) (fig : RectFigure) → IsSimpleMap lists → (u : ℕ) → u < length lists → ((v : ℕ) → u < v → v < length lists → ShareSide fig u v → HasDart lists u v) → (found : Option VertexId)
    → MatchOption found ((v : ℕ) → HasDart lists u v → ¬ IsMissed lists fig u v) (λ (v : VertexId). IsLeast (λ x. HasDart lists u x × IsMissed lists fig u x) v.0)
    → MatchOption found ((v : ℕ) → u < v → v < length lists → ShareSide fig u v ↔ HasDart lists u v) (λ (v : VertexId). IsLeast (HasWrongContact lists fig u) v.0)
wrong-from_missed lists fig simple u lu joined None none = λ v less l. (joined v less l, λ d. ShareSide-from_not fig u v (λ n. none v d (record { order = less; dart = d; missed = n })))
wrong-from_missed lists fig simple u lu joined (Some x) least =
    let here = least.here.1 in
    record {
      here = record { order = here.order; vertex = simple.in_range u x.0 here.dart; wrong = λ eq. here.missed (eq.1 here.dart) };
      before = λ v less wrong. wrong.wrong (joined v wrong.order wrong.vertex, λ d. ShareSide-from_not fig u v (λ n. least.before v less (d, record { order = wrong.order; dart = d; missed = n })));
    }
