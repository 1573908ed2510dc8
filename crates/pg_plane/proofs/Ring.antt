-- Sums and products of whole numbers: what brings a polynomial into one form, and the signs of products.
use Rattle.std.proofs.Common.{◌≡◌, ◌*◌, ◌≤◌, ℤ, pos, negsuc, neg_ℤ, ◌+ℤ◌, ◌*ℤ◌, ◌≤ℤ◌, ◌<ℤ◌, sym, ap, ◌∙◌, arith}
use Rattle.std.proofs.lemmas.Int.{ints}
use Rattle.std.proofs.Math.IntN.{*ℤ_comm}
use Rattle.std.proofs.lemmas.Nat.{mul-le}
use borrow.Author.Differences.{up, down, sum_is_lem, neg_is, product_is, same_out, same_in, Apart-out, lt_out, le_out, lt_in, le_in, below_in, at_most_in}

pub mul_add : (a b c : ℤ) → a *ℤ (b +ℤ c) ≡ (a *ℤ b) +ℤ (a *ℤ c)
mul_add a b c = omega (arith, ints, ap (λ n. up a * n) (sum_is_lem b c), ap (λ n. down a * n) (sum_is_lem b c))

pub add_mul : (a b c : ℤ) → (a +ℤ b) *ℤ c ≡ (a *ℤ c) +ℤ (b *ℤ c)
add_mul a b c = omega (arith, ints, ap (λ n. n * up c) (sum_is_lem a b), ap (λ n. n * down c) (sum_is_lem a b))

pub mul_neg : (a b : ℤ) → a *ℤ neg_ℤ b ≡ neg_ℤ (a *ℤ b)
mul_neg a b = omega (arith, ints, ap (λ n. up a * n) (neg_is b).0, ap (λ n. up a * n) (neg_is b).1, ap (λ n. down a * n) (neg_is b).0, ap (λ n. down a * n) (neg_is b).1)

pub neg_mul : (a b : ℤ) → neg_ℤ a *ℤ b ≡ neg_ℤ (a *ℤ b)
neg_mul a b = omega (arith, ints, ap (λ n. n * up b) (neg_is a).0, ap (λ n. n * up b) (neg_is a).1, ap (λ n. n * down b) (neg_is a).0, ap (λ n. n * down b) (neg_is a).1)

pub mul_assoc : (a b c : ℤ) → (a *ℤ b) *ℤ c ≡ a *ℤ (b *ℤ c)
mul_assoc a b c =
    omega (
      arith,
      ints,
      ap (λ n. n * up c) (product_is a b).0,
      ap (λ n. n * up c) (product_is a b).1,
      ap (λ n. n * down c) (product_is a b).0,
      ap (λ n. n * down c) (product_is a b).1,
      ap (λ n. up a * n) (product_is b c).0,
      ap (λ n. up a * n) (product_is b c).1,
      ap (λ n. down a * n) (product_is b c).0,
      ap (λ n. down a * n) (product_is b c).1,
    )

pub mul_left_comm : (a b c : ℤ) → a *ℤ (b *ℤ c) ≡ b *ℤ (a *ℤ c)
mul_left_comm a b c = sym (mul_assoc a b c) ∙ ap (λ n. n *ℤ c) (*ℤ_comm a b) ∙ mul_assoc b a c

-- a polynomial as a sum of products, with the factors of each in one order
pub ruleset ring = (mul_add, add_mul, mul_neg, neg_mul, mul_assoc, *ℤ_comm, mul_left_comm)

-- the same for `omega`, to which products are unknowns
pub ruleset sums = (sum_is_lem, neg_is, same_out, same_in, Apart-out, lt_out, le_out, lt_in, le_in, below_in, at_most_in)

-- signs of products
pub product_not_negative : (a b : ℤ) → pos 0 ≤ℤ a → pos 0 ≤ℤ b → pos 0 ≤ℤ (a *ℤ b)
product_not_negative (pos a) (pos b) p q = omega (arith, ints)
product_not_negative (pos a) (negsuc b) p q = absurd (omega (arith, ints))
product_not_negative (negsuc a) b p q = absurd (omega (arith, ints))

pub product_positive : (a b : ℤ) → pos 0 <ℤ a → pos 0 <ℤ b → pos 0 <ℤ (a *ℤ b)
product_positive (pos a) (pos b) p q =
    omega (arith, mul-le 1 1 a b (omega (arith, ints)) (omega (arith, ints)), ints)
product_positive (pos a) (negsuc b) p q = absurd (omega (arith, ints))
product_positive (negsuc a) b p q = absurd (omega (arith, ints))

pub record Signs (a b c : ℤ) : Type 0 where
  pub both_up : pos 0 ≤ℤ a → pos 0 ≤ℤ b → pos 0 ≤ℤ c
  pub up_down : pos 0 ≤ℤ a → b ≤ℤ pos 0 → c ≤ℤ pos 0
  pub down_up : a ≤ℤ pos 0 → pos 0 ≤ℤ b → c ≤ℤ pos 0
  pub both_down : a ≤ℤ pos 0 → b ≤ℤ pos 0 → pos 0 ≤ℤ c
  pub both_above : pos 0 <ℤ a → pos 0 <ℤ b → pos 0 <ℤ c
  pub above_below : pos 0 <ℤ a → b <ℤ pos 0 → c <ℤ pos 0
  pub below_above : a <ℤ pos 0 → pos 0 <ℤ b → c <ℤ pos 0
  pub both_below : a <ℤ pos 0 → b <ℤ pos 0 → pos 0 <ℤ c

-- the sign of a product, by those of its factors
pub product_signs : (a b : ℤ) → Signs a b (a *ℤ b)
product_signs a b = grind (arith, mul_neg, neg_mul, neg_ℤ, product_not_negative, ints, product_positive)
