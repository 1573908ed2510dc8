-- Rows of a run: the places at which their vertices stand, and how many lines there are.
use Rattle.std.proofs.Common.{◌≡◌, ℕ, suc, ◌+◌, ◌-◌, ◌<◌, ◌≤◌, Bool, true, false, not, cond, List, length, get_or, refl, sym, ap, ◌∙◌, inl, inr, arith}
use Rattle.std.specs.Int.{from_bool}
use Rattle.std.proofs.lemmas.Bool.{cases_Bool, cond-true, cond-false}
use Rattle.contour_runs.specs.Runs.{Step, stage_after}
use Rattle.rect_runs.specs.Numbers.{turns_at_run, rise_turns, run_turns}
use Rattle.order_drawings.specs.Rows.{IsRow}
use Rattle.rect_dual.proofs.Left.{IsAt}
use Rattle.rect_dual.specs.SidesOfBoxes.{gets_line, second_line}
use Rattle.rect_dual.specs.declared.side.Side.{Side}
use Rattle.rect_dual.specs.declared.side.Side.TheVariants.{Left, Low}

-- how many lines there are after k steps
abbrev pub line_count : Side → (ℕ → Step) → ℕ → ℕ
line_count Left steps k = suc (rise_turns steps k)
line_count Low steps k = suc (suc (run_turns steps k))

-- the vertices of a row at which a step looks, of which one is that behind the turn, or that at it
pub IsAt-row : (steps : ℕ → Step) (k : ℕ) (row : List ℕ) → IsRow (stage_after steps k) (steps k) row → (i place : ℕ) → (steps k).first + i ≡ place → i < length row → (z : ℕ) → z ≡ k + 2 → (run : Bool) → run ≡ turns_at_run steps k → IsAt steps k place (get_or row 0 0) (get_or row i 0) (get_or row (length row - 1) 0) z run
IsAt-row steps k row h i place e l z new run at =
    let n = h.count in
    let first : (steps k).first + 0 ≡ (steps k).first = omega arith in
    let last : (steps k).first + (length row - 1) ≡ (steps k).last = omega arith in
    record {
      first_is = h.each 0 (omega arith) ∙ ap (stage_after steps k).vertex first;
      at_is = h.each i l ∙ ap (stage_after steps k).vertex e;
      last_is = h.each (length row - 1) (omega arith) ∙ ap (stage_after steps k).vertex last;
      new_is = new;
      run_is = at;
    }

-- how many lines there are at first, and after a step more
pub lines_begin : (side : Side) (steps : ℕ → Step) → second_line side + 1 ≡ line_count side steps 0
lines_begin Left steps = refl
lines_begin Low steps = refl

with_bool : (b : Bool) (count : ℕ) → count + from_bool b ≡ cond b (suc count) count
with_bool true count = omega arith
with_bool false count = omega arith

pub from_bool-le : (b : Bool) → from_bool b ≤ 1
from_bool-le true = omega arith
from_bool-le false = omega arith

pub lines_more : (side : Side) (steps : ℕ → Step) (k : ℕ) (run own : Bool) (count : ℕ) → run ≡ turns_at_run steps k → own ≡ gets_line side run → count ≡ line_count side steps k → count + from_bool own ≡ line_count side steps (suc k)
lines_more Left steps k run own count at is old =
    ap (λ b. count + from_bool b) (is ∙ ap not at) ∙ (with_bool (not (turns_at_run steps k)) count ∙ elim (cases_Bool (turns_at_run steps k)) [
      | inl e ↦ cond-false (not (turns_at_run steps k)) (suc count) count (ap not e) ∙ (old ∙ ap suc (sym (cond-true (turns_at_run steps k) (rise_turns steps k) (suc (rise_turns steps k)) e)))
      | inr e ↦ cond-true (not (turns_at_run steps k)) (suc count) count (ap not e) ∙ (ap suc old ∙ ap suc (sym (cond-false (turns_at_run steps k) (rise_turns steps k) (suc (rise_turns steps k)) e)))
    ])
lines_more Low steps k run own count at is old =
    ap (λ b. count + from_bool b) (is ∙ at) ∙ (with_bool (turns_at_run steps k) count ∙ elim (cases_Bool (turns_at_run steps k)) [
      | inl e ↦ cond-true (turns_at_run steps k) (suc count) count e ∙ (ap suc old ∙ ap (λ r. suc (suc r)) (sym (cond-true (turns_at_run steps k) (suc (run_turns steps k)) (run_turns steps k) e)))
      | inr e ↦ cond-false (turns_at_run steps k) (suc count) count e ∙ (old ∙ ap (λ r. suc (suc r)) (sym (cond-false (turns_at_run steps k) (suc (run_turns steps k)) (run_turns steps k) e)))
    ])
