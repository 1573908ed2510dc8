-- The status of an outcome, and the numbers beside it.
use Rattle.std.specs.Prelude.{ℕ, ◌≡◌, Result, Ok, Err}
use Rattle.refusals.specs.declared.conditions.Refusal.{Refusal}
use Rattle.refusals.specs.declared.conditions.Refusal.TheVariants.{OutOfRange, Loop, Repeated, OneSided, Small, Genus, NotConnected, CutVertex, SeparatingPair, OuterNotQuad, NotTriangle, SeparatingTriangle, NoInner}
use Rattle.draw_check.specs.declared.verdict.Verdict.{Verdict}
use Rattle.draw_check.specs.declared.verdict.Verdict.TheVariants.{OutOfGrid, SamePlace, OnEdge, Cross, Turned, Yes}
use Rattle.draw_check.specs.declared.verdict.OuterVerdict.{OuterVerdict}
use Rattle.draw_check.specs.declared.verdict.OuterVerdict.TheVariants.{Inside, Yes as IsOuter}
use Rattle.convex_check.specs.declared.verdict.ConvexVerdict.{ConvexVerdict}
use Rattle.convex_check.specs.declared.verdict.ConvexVerdict.TheVariants.{Bent, OuterBent, Yes as NoBend}
use Rattle.bar_check.specs.declared.verdict.BarVerdict.{BarVerdict}
use Rattle.bar_check.specs.declared.verdict.BarVerdict.TheVariants.{BadShape, BadHeight, BadBar, BadColumn, Through, Overlap, Turned as TurnedBars, Yes as NoBarFault}
use Rattle.rect_check.specs.declared.verdict.RectVerdict.{RectVerdict}
use Rattle.rect_check.specs.declared.verdict.RectVerdict.TheVariants.{BadRect, Meet, Gap, Contact, NoFrame, Frame, Yes as NoRectFault}
use Rattle.kuratowski.specs.declared.witness.Kind.TheVariants.{K5, K33}
use Rattle.pigale_c.specs.declared.outcome.EdgeFault.{EdgeFault}
use Rattle.pigale_c.specs.declared.outcome.EdgeFault.TheVariants.{NoVertex, SelfLoop, Twice}
use Rattle.pigale_c.specs.declared.outcome.Failure.{Failure}
use Rattle.pigale_c.specs.declared.outcome.Failure.TheVariants.{BadEdge, Refused, NoMemory, BadArgument}
use Rattle.pigale_c.specs.declared.outcome.Outcome.{Outcome}
use Rattle.pigale_c.specs.declared.outcome.Outcome.TheVariants.{Served, Failed, Drawing, Convex, Bars, Rects, Outer, NotPlanar}
use Rattle.pigale_c.specs.declared.outcome.Numbers.{Numbers}
use Rattle.pigale_c.specs.declared.outcome.Answer.{Answer}

-- four numbers, and fewer: those that are missing are 0
abbrev pub four : ℕ → ℕ → ℕ → ℕ → Numbers
four a b c d = record { first = a; second = b; third = c; fourth = d }

abbrev pub none : Numbers
none = four 0 0 0 0

abbrev pub one : ℕ → Numbers
one a = four a 0 0 0

abbrev pub two : ℕ → ℕ → Numbers
two a b = four a b 0 0

abbrev pub three : ℕ → ℕ → ℕ → Numbers
three a b c = four a b c 0

-- a status with its numbers
abbrev pub told : ℕ → Numbers → Answer
told status numbers = record { status = status; numbers = numbers }

-- the number of a condition, as in the program's text, and what it says of the record; vertices are numbered from 0
abbrev pub refusal_answer_of : Refusal → Answer
refusal_answer_of (OutOfRange v u) = told 1 (two v u)
refusal_answer_of (Loop v) = told 2 (one v)
refusal_answer_of (Repeated v u) = told 3 (two v u)
refusal_answer_of (OneSided v u) = told 4 (two v u)
refusal_answer_of (Small n) = told 5 (one n)
refusal_answer_of (Genus g) = told 6 (one g)
refusal_answer_of NotConnected = told 7 none
refusal_answer_of (CutVertex v) = told 8 (one v.0)
refusal_answer_of (SeparatingPair u v) = told 9 (two u.0 v.0)
refusal_answer_of OuterNotQuad = told 10 none
refusal_answer_of (NotTriangle v u) = told 11 (two v.0 u.0)
refusal_answer_of (SeparatingTriangle a b c) = told 12 (three a.0 b.0 c.0)
refusal_answer_of NoInner = told 13 none

-- a fault of edges, by their numbers in the array
abbrev pub edge_answer_of : EdgeFault → Answer
edge_answer_of (NoVertex i) = told 20 (one i)
edge_answer_of (SelfLoop i) = told 21 (one i)
edge_answer_of (Twice i j) = told 22 (two i j)

-- a verdict on a straight-line drawing: of an edge the lesser end comes first
abbrev pub drawing_answer_of : Verdict → Answer
drawing_answer_of (OutOfGrid v) = told 32 (one v.0)
drawing_answer_of (SamePlace u v) = told 33 (two u.0 v.0)
drawing_answer_of (OnEdge v e) = told 34 (three v.0 e.a.0 e.b.0)
drawing_answer_of (Cross e f) = told 35 (four e.a.0 e.b.0 f.a.0 f.b.0)
drawing_answer_of (Turned v) = told 36 (one v.0)
drawing_answer_of Yes = told 0 none

-- a verdict on the outer face
abbrev pub outer_answer_of : OuterVerdict → Answer
outer_answer_of (Inside v u) = told 37 (two v.0 u.0)
outer_answer_of IsOuter = told 0 none

-- a verdict on bends
abbrev pub convex_answer_of : ConvexVerdict → Answer
convex_answer_of (Bent a b c) = told 40 (three a.0 b.0 c.0)
convex_answer_of OuterBent = told 41 none
convex_answer_of NoBend = told 0 none

-- a verdict on bars
abbrev pub bars_answer_of : BarVerdict → Answer
bars_answer_of BadShape = told 48 none
bars_answer_of (BadHeight v) = told 49 (one v.0)
bars_answer_of (BadBar v) = told 50 (one v.0)
bars_answer_of (BadColumn e) = told 51 (two e.a.0 e.b.0)
bars_answer_of (Through e v) = told 52 (three e.a.0 e.b.0 v.0)
bars_answer_of (Overlap e f) = told 53 (four e.a.0 e.b.0 f.a.0 f.b.0)
bars_answer_of (TurnedBars v) = told 54 (one v.0)
bars_answer_of NoBarFault = told 0 none

-- a verdict on rectangles
abbrev pub rects_answer_of : RectVerdict → Answer
rects_answer_of (BadRect v) = told 64 (one v.0)
rects_answer_of (Meet u v) = told 65 (two u.0 v.0)
rects_answer_of Gap = told 66 none
rects_answer_of (Contact u v) = told 67 (two u.0 v.0)
rects_answer_of NoFrame = told 68 none
rects_answer_of (Frame v) = told 69 (one v.0)
rects_answer_of NoRectFault = told 0 none

-- a failure
abbrev pub failure_answer_of : Failure → Answer
failure_answer_of (BadEdge fault) = edge_answer_of fault
failure_answer_of (Refused refusal) = refusal_answer_of refusal
failure_answer_of NoMemory = told 16 none
failure_answer_of BadArgument = told 17 none

-- an outcome
abbrev pub answer_of : Outcome → Answer
answer_of Served = told 0 none
answer_of (Failed failure) = failure_answer_of failure
answer_of (Drawing verdict) = drawing_answer_of verdict
answer_of (Convex verdict) = convex_answer_of verdict
answer_of (Bars verdict) = bars_answer_of verdict
answer_of (Rects verdict) = rects_answer_of verdict
answer_of (Outer verdict) = outer_answer_of verdict
answer_of (NotPlanar K5) = told 80 none
answer_of (NotPlanar K33) = told 81 none

-- what a call comes to: its outcome, or the failure as one
abbrev pub outcome_of : Result Outcome Failure → Outcome
outcome_of (Ok outcome) = outcome
outcome_of (Err failure) = Failed failure

-- a status and numbers are those of an outcome that is right
pub record Reports (IsRight : Outcome → Type 0) (status : ℕ) (numbers : Numbers) : Type 0 where
  pub outcome : Outcome
  pub right : IsRight outcome
  pub status_is : status ≡ (answer_of outcome).status
  pub numbers_are : numbers ≡ (answer_of outcome).numbers
