use Rattle.std.proofs.Common.{ℕ, ◌+◌, ◌<◌, ◌≤◌, length, get_or, subst, arith, below_more}
use Rattle.std.proofs.lemmas.List.{get_or_default}
use Rattle.plane_drawings.specs.Drawing.{place}
use Rattle.plane_drawings.specs.declared.plane_sweep.line.Line.{Line}
use Rattle.plane_drawings.specs.PlaneSweepLines.{Ends}
use Rattle.plane_drawings.proofs.sweep_check.sweep_status.AtVertex.all_end_apart.Goals as goal
use Rattle.plane_drawings.proofs.sweep_check.sweep_status.AtVertex.all_end_apart.Goals.{else-k-status-via-then-k-status+else-not-end_apart, else-k-status-via-else-k-status}

pub loop-k-preserved : goal.loop-k-preserved
loop-k-preserved c =
    let at = place c.args.self.now.places.now in
    let status = c.args.status.now in
    let k = c.loop-k.k in
    let none : Line = record { low = 0; high = 0 } in
    let P : ℕ → Type 0 = λ j. (d : Line) → c.args.begin ≤ j → j + 1 < length status → Ends at (get_or status j d) (get_or status (j + 1) d) in
    let more = below_more P k (λ j l d first within. c.loop-k.invariant j d first l within)
    (λ d first within. elim c.else-k-status.branch [
      | else-k-status-via-then-k-status+else-not-end_apart w ↦
          (subst (λ (e : Line). Ends at e (get_or status (k + 1) d)) (get_or_default status k none d (omega arith))
          (subst (λ (f : Line). Ends at (get_or status k none) f) (get_or_default status (k + 1) none d within) w.if-not-end_apart.ensures))
      | else-k-status-via-else-k-status w ↦ absurd (omega arith)
    ]) in
    λ j d first l within. more j l d first within
