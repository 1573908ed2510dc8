-- Flips of Booleans.
use Rattle.std.proofs.Common.{◌≡◌, ℕ, Bool, true, false, ◌&&◌, eqb, refl, sym, ap, ap₂, ◌∙◌}
use Rattle.std.proofs.Math.Bool.{and_comm}
use Rattle.convex_laws.specs.Walks.{flipped}

pub flipped_twice : (a b : Bool) → flipped a (flipped a b) ≡ b
flipped_twice true true = refl
flipped_twice true false = refl
flipped_twice false b = refl

pub flipped_comm : (a b : Bool) → flipped a b ≡ flipped b a
flipped_comm true true = refl
flipped_comm true false = refl
flipped_comm false true = refl
flipped_comm false false = refl

pub flipped_assoc : (a b c : Bool) → flipped a (flipped b c) ≡ flipped (flipped a b) c
flipped_assoc true true true = refl
flipped_assoc true true false = refl
flipped_assoc true false c = refl
flipped_assoc false b c = refl

pub flipped_swap : (a b c : Bool) → flipped a (flipped b c) ≡ flipped b (flipped a c)
flipped_swap a b c = flipped_assoc a b c ∙ (ap (λ x. flipped x c) (flipped_comm a b) ∙ sym (flipped_assoc b a c))

pub flipped_cancel : (a b c : Bool) → flipped a b ≡ flipped a c → b ≡ c
flipped_cancel a b c e = sym (flipped_twice a b) ∙ (ap (flipped a) e ∙ flipped_twice a c)

pub flipped_false : (a : Bool) → flipped a false ≡ a
flipped_false true = refl
flipped_false false = refl

pub flipped_self : (a : Bool) → flipped a a ≡ false
flipped_self true = refl
flipped_self false = refl

-- what is flipped on both sides
pub flipped_both : (c p b : Bool) → flipped (flipped c p) (flipped c b) ≡ flipped p b
flipped_both c p b = ap (λ x. flipped x (flipped c b)) (flipped_comm c p) ∙ (sym (flipped_assoc p c (flipped c b)) ∙ ap (flipped p) (flipped_twice c b))

-- two numbers exchanged or not
pub pair_alike : (c : Bool) (at at' : Bool → ℕ) (r : ℕ) → ((b : Bool) → at b ≡ at' (flipped c b)) → (eqb (at false) r && eqb (at true) r) ≡ (eqb (at' false) r && eqb (at' true) r)
pair_alike false at at' r h = ap₂ (λ x y. eqb x r && eqb y r) (h false) (h true)
pair_alike true at at' r h = ap₂ (λ x y. eqb x r && eqb y r) (h false) (h true) ∙ and_comm (eqb (at' true) r) (eqb (at' false) r)
