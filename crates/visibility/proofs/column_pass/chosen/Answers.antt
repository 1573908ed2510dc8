-- A mask of ones or of zeros takes one of two numbers.
use Rattle.std.proofs.Common.{◌≡◌, ℕ, ◌+◌, ◌-◌, ◌%◌, ◌^◌, ◌<◌, Bool, true, false, cond, sym, ap, ◌∙◌, arith}
use Rattle.std.specs.Int.{from_bool}
use Rattle.std.specs.Int.Bits.{bit_and, bit_xor, xor_self, xor_zero_l, xor_zero_r, xor_assoc}
use Rattle.std.proofs.lemmas.Nat.{and_mask, xor_comm, xor_lt, and_le_r}
use Rattle.visibility.proofs.column_pass.chosen.Goals as goal

masked : (test : Bool) (x y mask : ℕ) → x < 2 ^ 64 → y < 2 ^ 64 → mask ≡ (2 ^ 64 - from_bool test) % 2 ^ 64 → bit_xor y (bit_and (bit_xor x y) mask) ≡ cond test x y
masked true x y mask lx ly is =
    let ones : mask ≡ 2 ^ 64 - 1 = omega (arith, is) in
    let whole : bit_xor x y % 2 ^ 64 ≡ bit_xor x y = omega (arith, xor_lt 64 x y lx ly) in
    ap (λ (m : ℕ). bit_xor y (bit_and (bit_xor x y) m)) ones
    ∙ (ap (bit_xor y) (and_mask (bit_xor x y) 64 ∙ whole)
    ∙ (ap (bit_xor y) (xor_comm x y) ∙ (sym (xor_assoc y y x) ∙ (ap (λ (z : ℕ). bit_xor z x) (xor_self y) ∙ xor_zero_l x))))
masked false x y mask lx ly is =
    let zeros : mask ≡ 0 = omega (arith, is) in
    let none : bit_and (bit_xor x y) mask ≡ 0 = omega (arith, and_le_r (bit_xor x y) mask, zeros) in
    ap (bit_xor y) none ∙ xor_zero_r y

pub returns : goal.returns
returns c = masked c.args.test c.args.x c.args.y _ c.ranges.x.fits c.ranges.y.fits (omega arith)
