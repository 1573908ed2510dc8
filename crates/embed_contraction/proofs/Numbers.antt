-- What is so of the first few numbers, one by one.
use Rattle.std.proofs.Common.{ℕ, zero, suc, ◌<◌, arith}
use Rattle.graphs.proofs.BitLemmas.{below_six}

pub each_of_one : (P : ℕ → Type 0) → P 0 → (p : ℕ) → p < 1 → P p
each_of_one P a zero l = a
each_of_one P a (suc p) l = absurd (omega arith)

pub each_of_two : (P : ℕ → Type 0) → P 0 → P 1 → (p : ℕ) → p < 2 → P p
each_of_two P a b zero l = a
each_of_two P a b (suc p) l = each_of_one (λ n. P (suc n)) b p (omega arith)

pub each_of_three : (P : ℕ → Type 0) → P 0 → P 1 → P 2 → (p : ℕ) → p < 3 → P p
each_of_three P a b c zero l = a
each_of_three P a b c (suc p) l = each_of_two (λ n. P (suc n)) b c p (omega arith)

pub each_of_four : (P : ℕ → Type 0) → P 0 → P 1 → P 2 → P 3 → (p : ℕ) → p < 4 → P p
each_of_four P a b c d zero l = a
each_of_four P a b c d (suc p) l = each_of_three (λ n. P (suc n)) b c d p (omega arith)

pub each_of_five : (P : ℕ → Type 0) → P 0 → P 1 → P 2 → P 3 → P 4 → (p : ℕ) → p < 5 → P p
each_of_five P a b c d e zero l = a
each_of_five P a b c d e (suc p) l = each_of_four (λ n. P (suc n)) b c d e p (omega arith)

pub each_of_seven : (P : ℕ → Type 0) → P 0 → P 1 → P 2 → P 3 → P 4 → P 5 → P 6 → (p : ℕ) → p < 7 → P p
each_of_seven P a b c d e f g zero l = a
each_of_seven P a b c d e f g (suc p) l = below_six (λ n. P (suc n)) b c d e f g p (omega arith)

pub each_of_eight : (P : ℕ → Type 0) → P 0 → P 1 → P 2 → P 3 → P 4 → P 5 → P 6 → P 7 → (p : ℕ) → p < 8 → P p
each_of_eight P a b c d e f g h zero l = a
each_of_eight P a b c d e f g h (suc p) l = each_of_seven (λ n. P (suc n)) b c d e f g h p (omega arith)

pub each_of_nine : (P : ℕ → Type 0) → P 0 → P 1 → P 2 → P 3 → P 4 → P 5 → P 6 → P 7 → P 8 → (p : ℕ) → p < 9 → P p
each_of_nine P a b c d e f g h i zero l = a
each_of_nine P a b c d e f g h i (suc p) l = each_of_eight (λ n. P (suc n)) b c d e f g h i p (omega arith)

pub each_of_ten : (P : ℕ → Type 0) → P 0 → P 1 → P 2 → P 3 → P 4 → P 5 → P 6 → P 7 → P 8 → P 9 → (p : ℕ) → p < 10 → P p
each_of_ten P a b c d e f g h i j zero l = a
each_of_ten P a b c d e f g h i j (suc p) l = each_of_nine (λ n. P (suc n)) b c d e f g h i j p (omega arith)
