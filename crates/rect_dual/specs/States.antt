-- What is kept of a rectangular run while its vertices get lines.
use Rattle.std.specs.Prelude.{ℕ, suc, ◌+◌, ◌<◌, ◌≤◌, ◌≡◌, ◌≢◌, ◌⊎◌, Bool, true, false, List, length, slice_index, slice_set}
use Rattle.contour_runs.specs.Runs.{Step, Stage, stage_after}
use Rattle.rect_runs.specs.Numbers.{shifted, with_new, numbers, rise_turns, run_turns}
use Rattle.rect_dual.specs.Lines.{AreLines}
use Rattle.rect_runs.specs.Leads.{AreLeft, AreLower}
use Rattle.rect_dual.specs.Ways.{is_marked, IsWay, IsFirstAlong}

-- each vertex of the contour but the last names the one behind it
abbrev pub IsLinked : Stage → List ℕ → Type 0
IsLinked g behind = (i : ℕ) → suc i < g.width → slice_index behind (g.vertex i) ≡ g.vertex (suc i)

-- each but the first names the one before it
abbrev pub IsLinkedBack : Stage → List ℕ → Type 0
IsLinkedBack g before = (i : ℕ) → suc i < g.width → slice_index before (g.vertex (suc i)) ≡ g.vertex i

-- After k of n steps: the left sides have these lines, the contour is linked backwards, and of its vertices those are marked that lead by the numbers after all n steps.
pub record IsLeftState (steps : ℕ → Step) (n k : ℕ) (lines next before : List ℕ) (leads : List Bool) : Type 0 where
  pub lines_are : AreLines (numbers steps k).x (k + 2) (suc (rise_turns steps k)) 0 lines next
  pub linked : IsLinkedBack (stage_after steps k) before
  pub leads_are : AreLeft (stage_after steps k) (numbers steps n).x (is_marked leads)

-- After k of n steps: the lower sides have these lines, the contour is linked forwards, and of its vertices those are marked that lead by the numbers after all n steps.
pub record IsLowState (steps : ℕ → Step) (n k : ℕ) (lines next behind : List ℕ) (leads : List Bool) : Type 0 where
  pub lines_are : AreLines (numbers steps k).y (k + 2) (suc (suc (run_turns steps k))) 1 lines next
  pub linked : IsLinked (stage_after steps k) behind
  pub leads_are : AreLower (stage_after steps k) (numbers steps n).y (is_marked leads)

-- z, the next one, has the line of `at`, unless it gets one of its own
abbrev pub IsLevel : (at : ℕ) (own : Bool) (z : ℕ) (lines next lines' next' : List ℕ) → Type 0
IsLevel at own z lines next lines' next' =
    own ≡ false → (f : ℕ → ℕ) (q first : ℕ) → AreLines f z q first lines next → at < z → AreLines (with_new z f (f at)) (suc z) q first lines' next'

-- z gets a line of its own, behind that of the first vertex along the links from `at` on that leads
abbrev pub IsBehindLead : (at : ℕ) (own : Bool) (z : ℕ) (lines next links : List ℕ) (leads : List Bool) (lines' next' : List ℕ) → Type 0
IsBehindLead at own z lines next links leads lines' next' =
    own ≡ true → (f : ℕ → ℕ) (q first : ℕ) → AreLines f z q first lines next
    → (way : ℕ → ℕ) (m : ℕ) → at ≡ way 0 → IsWay links way m → is_marked leads (way m) ≡ true → m < length lines → ((j : ℕ) → j ≤ m → way j < z)
    → (u : ℕ) × IsFirstAlong leads way m u × AreLines (with_new z (λ v. shifted (suc (f u)) (f v)) (suc (f u))) (suc z) (suc q) first lines' next'

-- A vertex z is put on between `near` and `far` on the contour, with a line. From now on it leads, and `near` does not where `at` is that.
pub record IsPutOver (at : ℕ) (own : Bool) (near far z : ℕ) (lines next links : List ℕ) (leads : List Bool) (lines' next' links' : List ℕ) (leads' : List Bool) : Type 0 where
  pub level : IsLevel at own z lines next lines' next'
  pub behind : IsBehindLead at own z lines next links leads lines' next'
  pub linked : links' ≡ slice_set (slice_set links z far) near z
  pub new : is_marked leads' z ≡ true
  pub end : at ≡ near → near ≢ z → is_marked leads' near ≡ false
  pub others : (v : ℕ) → v ≢ z → (at ≢ near) ⊎ (v ≢ near) → is_marked leads' v ≡ is_marked leads v
