-- Marks for fewer numbers, and for one step more.
use Rattle.std.proofs.Common.{ℕ, ◌+◌, List, arith}
use Rattle.std.proofs.lemmas.Bool.{cases_lt}
use Rattle.convex_class.specs.Stamps.{IsStamped, AreStamped}

-- no number gets a mark
pub IsStamped-none : (u : ℕ) (Z : ℕ → Type 0) (marks : List ℕ) (best : ℕ) → ((z : ℕ) → ¬ Z z) → IsStamped u Z marks best marks best
IsStamped-none u Z marks best none = record { lower = omega arith; again = λ z h. absurd (none z h); set = λ z h. absurd (none z h); kept = λ z q. q }

-- fewer numbers
pub IsStamped-fewer : (u : ℕ) (Z Y : ℕ → Type 0) (old : List ℕ) (best : ℕ) (new : List ℕ) (result : ℕ) → ((z : ℕ) → Y z → Z z) → IsStamped u Z old best new result → IsStamped u Y old best new result
IsStamped-fewer u Z Y old best new result fewer s = record { lower = s.lower; again = λ z h. s.again z (fewer z h); set = λ z h. s.set z (fewer z h); kept = s.kept }

-- a step more
pub AreStamped-more : (u k : ℕ) (Z : ℕ → ℕ → Type 0) (old : List ℕ) (best : ℕ) (mid : List ℕ) (least : ℕ) (new : List ℕ) (result : ℕ) → AreStamped u k Z old best mid least → IsStamped u (Z k) mid least new result → AreStamped u (k + 1) Z old best new result
AreStamped-more u k Z old best mid least new result s t = grind (arith, cases_lt)
