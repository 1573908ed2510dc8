use Rattle.std.proofs.Common.{◌≡◌, ◌<◌, ℕ, true, length}
use Rattle.rect_dual.specs.Ways.{is_marked, IsWay}
use Rattle.rect_dual.proofs.Ways.{IsOnWay}
use Rattle.rect_dual.proofs.side_lines.leading.Given as goal

abbrev pub invariant-loop-step : goal.invariant-loop-step
invariant-loop-step l = record {
  vertex : l.v < length l.links;
  on : (way : ℕ → ℕ) (m : ℕ) → l.start ≡ way 0 → IsWay l.links way m → is_marked l.leads (way m) ≡ true → IsOnWay l.leads way m l._step l.v;
}
