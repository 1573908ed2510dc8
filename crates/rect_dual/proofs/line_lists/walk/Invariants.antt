use Rattle.std.proofs.Common.{◌≡◌, ◌<◌, ℕ, List, length}
use Rattle.rect_dual.specs.Lines.{AreLines, AreWalked}
use Rattle.rect_dual.proofs.line_lists.walk.Given as goal

abbrev pub invariant-loop-i : goal.invariant-loop-i
invariant-loop-i l = record {
  thing : l.r < length l.next;
  size : length l.numbers ≡ length l.next;
  walked : (f : ℕ → ℕ) (lines : List ℕ) → (h : AreLines f (length l.next) l.count l.first lines l.next) → AreWalked f (length l.next) l.count l.first lines l.next h l.i l.r l.numbers;
}
