-- Products of numbers that are bounded in size.
use Rattle.std.proofs.Common.{ℕ, ◌*◌, ◌≤◌, ℤ, pos, ◌*ℤ◌, sym, subst, arith}
use Rattle.std.specs.Int.RustNames.{unsigned_abs}
use Rattle.std.proofs.lemmas.Int.{ints, unsigned_abs-mul}
use Rattle.std.proofs.Math.Nat.{mul-le-mul}
use Rattle.pg_plane.specs.Range.{IsWithin}

-- a number is from -n to n exactly where its size is at most n
pub unsigned_abs-le : (n : ℕ) (z : ℤ) → IsWithin (pos n) z → unsigned_abs z ≤ n
unsigned_abs-le n z h = let low = h.least in let high = h.most in omega (arith, ints)

pub IsWithin-from_abs : (n : ℕ) (z : ℤ) → unsigned_abs z ≤ n → IsWithin (pos n) z
IsWithin-from_abs n z h = record { least = omega (arith, ints); most = omega (arith, ints) }

-- a product is at most the product of the bounds in size
pub IsWithin-product : (m n : ℕ) (u v : ℤ) → IsWithin (pos m) u → IsWithin (pos n) v → IsWithin (pos (m * n)) (u *ℤ v)
IsWithin-product m n u v h k =
    IsWithin-from_abs (m * n) (u *ℤ v)
    (subst (λ z. z ≤ m * n) (sym (unsigned_abs-mul u v)) (mul-le-mul (unsigned_abs-le m u h) (unsigned_abs-le n v k)))
