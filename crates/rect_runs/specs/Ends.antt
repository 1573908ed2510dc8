-- How an edge of a run stands at one of its ends, by the step that puts its later vertex over the other.
use Rattle.std.specs.Prelude.{ℕ, suc, ◌+◌, ◌<◌, ◌≤◌, ◌≡◌, ◌≢◌, ◌⊎◌}
use Rattle.contour_runs.specs.Runs.{Step, IsRun, IsFaceOf}
use Rattle.rect_runs.specs.Labels.{IsLabelledRun}
use Rattle.rect_runs.specs.Numbers.{turn_of}
use Rattle.rect_runs.specs.Corners.{End, run_in, rise_out, run_out, rise_in, Follows, at_older, at_new}
use Rattle.rect_runs.specs.Later.{StandsOver}
use Rattle.rect_runs.specs.Boxes.{boxes, IsRectRun}

-- One of the first n steps puts v over u, and the edge between the two stands at u as e.
pub record IsEarlierEnd (steps : ℕ → Step) (n u v : ℕ) (e : End) : Type 0 where
  pub step : ℕ
  pub before : step < n
  pub over : StandsOver steps step u v
  pub end_is : e ≡ at_older (turn_of steps step) over.place

-- One of them puts u over v, and the edge stands at u as e.
pub record IsLaterEnd (steps : ℕ → Step) (n u v : ℕ) (e : End) : Type 0 where
  pub step : ℕ
  pub before : step < n
  pub over : StandsOver steps step v u
  pub end_is : e ≡ at_new (turn_of steps step) over.place

-- the edge between u and v, which is not the base, stands at u as e
abbrev pub IsEndAt : (ℕ → Step) → ℕ → ℕ → ℕ → End → Type 0
IsEndAt steps n u v e = IsEarlierEnd steps n u v e ⊎ IsLaterEnd steps n u v e

-- Round y the edge to z stands as that to x, or as comes next clockwise.
pub record IsCorner (steps : ℕ → Step) (n x y z : ℕ) : Type 0 where
  pub one : End
  pub other : End
  pub one_is : IsEndAt steps n y x one
  pub other_is : IsEndAt steps n y z other
  pub follows : Follows one other

-- A face is walked from a to b to v. Each of its corners is such, but those of the base.
abbrev pub CornersOfFaces : Type 0
CornersOfFaces =
    (steps : ℕ → Step) (k n j a b v : ℕ) → IsLabelledRun steps n → k < n → IsFaceOf steps k j a b v → IsCorner steps n b v a × (2 ≤ b → IsCorner steps n a b v) × (2 ≤ a → IsCorner steps n v a b)

-- There is one way in which an edge stands at an end.
abbrev pub OneEnd : Type 0
OneEnd = (steps : ℕ → Step) (n u v : ℕ) (e f : End) → IsRun steps n → IsEndAt steps n u v e → IsEndAt steps n u v f → e ≡ f

-- how an edge stands at its other end
abbrev pub other_end : End → End
other_end run_in = run_out
other_end rise_out = rise_in
other_end run_out = run_in
other_end rise_in = rise_out

-- Both ends of an edge agree: one is the other end of the other.
abbrev pub EndsAgree : Type 0
EndsAgree = (steps : ℕ → Step) (n u v : ℕ) (e : End) → IsEndAt steps n u v e → IsEndAt steps n v u (other_end e)

-- At the frame of a run of n + 1 steps: runs alone leave the first vertex, rises alone leave the second. At the last but one all edges are entering runs, but those to the second and to the last one; at the last one all are entering rises, but that to the first.
pub record AreFrameEnds (steps : ℕ → Step) (n : ℕ) : Type 0 where
  pub first : (v : ℕ) (e : End) → IsEndAt steps (suc n) 0 v e → e ≡ run_out
  pub second : (v : ℕ) (e : End) → IsEndAt steps (suc n) 1 v e → e ≡ rise_out
  pub right : (v : ℕ) (e : End) → v ≢ 1 → v ≢ n + 2 → IsEndAt steps (suc n) (n + 1) v e → e ≡ run_in
  pub top : (v : ℕ) (e : End) → v ≢ 0 → IsEndAt steps (suc n) (n + 2) v e → e ≡ rise_in

-- The edges at the frame of a rectangular run stand so.
abbrev pub FrameEnds : Type 0
FrameEnds = (steps : ℕ → Step) (n : ℕ) → IsRectRun steps n → AreFrameEnds steps n

-- Along a run the one box ends on the right where the other begins, and along a rise it ends above where the other begins; but for the edge from the first vertex to the last one, which is one of the frame.
abbrev pub EdgesMeet : Type 0
EdgesMeet =
    (steps : ℕ → Step) (n u v : ℕ) → IsRectRun steps n → ¬ ((u ≡ 0) × (v ≡ n + 2))
    → (IsEndAt steps (suc n) u v run_out → (boxes steps n).right u ≡ (boxes steps n).left v) × (IsEndAt steps (suc n) u v rise_out → (boxes steps n).high u ≡ (boxes steps n).low v)
