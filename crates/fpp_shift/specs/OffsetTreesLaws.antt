-- How the tree of offsets grows along a run, as statements about all runs.
use Rattle.std.specs.Prelude.{ℕ, suc, ◌≡◌}
use Rattle.contour_runs.specs.Runs.{Step, stage_after, IsRun}
use Rattle.fpp_shift.specs.Shift.{shift_points}
use Rattle.fpp_shift.specs.Grown.{Links, IsGrown, IsWritten, IsOffsetTree}

-- What a step writes makes the tree of n steps that of one more.
abbrev pub TreeGrows : Type 0
TreeGrows =
    (name : ℕ → ℕ) (steps : ℕ → Step) (n : ℕ) (t t' : Links) → IsRun steps (suc n) → IsGrown name steps n t
    → IsWritten name (stage_after steps n) (steps n) (shift_points steps n) t t' → IsGrown name steps (suc n) t'

-- Where the last step covers all but the base, it is the tree of offsets.
abbrev pub GrownIsOffsetTree : Type 0
GrownIsOffsetTree =
    (name : ℕ → ℕ) (steps : ℕ → Step) (n : ℕ) (t : Links) → IsRun steps (suc n) → (stage_after steps (suc n)).width ≡ 3 → IsGrown name steps (suc n) t → IsOffsetTree name steps (suc n) t
