-- The fronts by their number.
use Rattle.std.proofs.Common.{◌≡◌, ℕ, ◌+◌, ◌*◌, length, ap₂, ◌∙◌, arith}
use Rattle.std.proofs.Math.Nat.{mul_comm}
use Rattle.figure_text.specs.Text.{fronts_room}
use Rattle.figure_text.proofs.print.room_of.Goals as goal

pub returns : goal.returns
unfolding fronts_room
returns g c =
    let n : ℕ = length c.args.lists.now in
    let product : c.len.result * (c.longest.result + 1) ≡ (g.R.Numbered.longest + 1) * n = ap₂ (λ (a : ℕ) (b : ℕ). a * (b + 1)) c.len.ensures.is c.longest.ensures.is ∙ mul_comm n (g.R.Numbered.longest + 1) in
    omega (arith, product, c.total.ensures, c.len.ensures.is, c.saturating_mul-entries.ensures, c.saturating_mul-fronts.ensures, c.saturating_add.ensures, c.saturating_add-room.ensures, c.if-room.false)
