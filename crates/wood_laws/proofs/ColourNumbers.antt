-- Colours, their numbers and their roots.
use Rattle.std.proofs.Common.{◌≡◌, ◌≢◌, ◌⊎◌, ℕ, ◌<◌, false, not, eqb, refl, sym, ap, ◌∙◌, inl, inr, arith, ne_eqb}
use Rattle.wood_runs.specs.Parents.{Colour, one, two, three, next, previous}
use Rattle.wood_runs.specs.Edges.{number}
use Rattle.wood_runs.proofs.Crossing.{IsOuter}

pub number_some : (c : Colour) → 0 < number c
number_some one = omega arith
number_some two = omega arith
number_some three = omega arith

pub cases_colour : (c d : Colour) → (d ≡ c) ⊎ ((d ≡ next c) ⊎ (d ≡ previous c))
cases_colour x0 x1 = grind (arith, one, two, three)

pub same_off : (d c : Colour) → number d ≡ number c → d ≡ c
same_off x0 x1 e = grind (arith, one, two, three)

-- over an edge of the colours that bound a region it changes
pub flips_next : (c : Colour) (s s' : ℕ) → s ≡ number (previous (next c)) → s' ≡ number (next (next c)) → eqb s' (number c) ≡ not (eqb s (number c))
flips_next one s s' e e' = ap (λ z. eqb z 1) e' ∙ sym (ap (λ z. not (eqb z 1)) e)
flips_next two s s' e e' = ap (λ z. eqb z 2) e' ∙ sym (ap (λ z. not (eqb z 2)) e)
flips_next three s s' e e' = ap (λ z. eqb z 3) e' ∙ sym (ap (λ z. not (eqb z 3)) e)

pub flips_previous : (c : Colour) (s s' : ℕ) → s ≡ number (previous (previous c)) → s' ≡ number (next (previous c)) → eqb s' (number c) ≡ not (eqb s (number c))
flips_previous one s s' e e' = ap (λ z. eqb z 1) e' ∙ sym (ap (λ z. not (eqb z 1)) e)
flips_previous two s s' e e' = ap (λ z. eqb z 2) e' ∙ sym (ap (λ z. not (eqb z 2)) e)
flips_previous three s s' e e' = ap (λ z. eqb z 3) e' ∙ sym (ap (λ z. not (eqb z 3)) e)

pub flips_outer : (c : Colour) (s s' : ℕ) → s ≡ 0 → s' ≡ number c → eqb s' (number c) ≡ not (eqb s (number c))
flips_outer one s s' e e' = ap (λ z. eqb z 1) e' ∙ sym (ap (λ z. not (eqb z 1)) e)
flips_outer two s s' e e' = ap (λ z. eqb z 2) e' ∙ sym (ap (λ z. not (eqb z 2)) e)
flips_outer three s s' e e' = ap (λ z. eqb z 3) e' ∙ sym (ap (λ z. not (eqb z 3)) e)

pub flips_outer_back : (c : Colour) (s s' : ℕ) → s ≡ number c → s' ≡ 0 → eqb s' (number c) ≡ not (eqb s (number c))
flips_outer_back one s s' e e' = ap (λ z. eqb z 1) e' ∙ sym (ap (λ z. not (eqb z 1)) e)
flips_outer_back two s s' e e' = ap (λ z. eqb z 2) e' ∙ sym (ap (λ z. not (eqb z 2)) e)
flips_outer_back three s s' e e' = ap (λ z. eqb z 3) e' ∙ sym (ap (λ z. not (eqb z 3)) e)

-- over others it does not
pub same_own : (c d : Colour) (s s' : ℕ) → d ≡ c → s ≡ number (previous d) → s' ≡ number (next d) → eqb s' (number c) ≡ eqb s (number c)
same_own c d s s' e a b = grind (arith, number, previous, next, Colour, eqb, one, two, three)

not_zero : (c : Colour) (s : ℕ) → s ≡ 0 → eqb s (number c) ≡ false
not_zero c s e = ne_eqb s (number c) (λ z. let m = number_some c in omega arith)

pub same_outer : (c d : Colour) (s s' : ℕ) → number d ≢ number c → s ≡ 0 → s' ≡ number d → eqb s' (number c) ≡ eqb s (number c)
same_outer c d s s' ne e e' = ne_eqb s' (number c) (λ z. ne (sym e' ∙ z)) ∙ sym (not_zero c s e)

pub same_outer_back : (c d : Colour) (s s' : ℕ) → number d ≢ number c → s ≡ number d → s' ≡ 0 → eqb s' (number c) ≡ eqb s (number c)
same_outer_back c d s s' ne e e' = not_zero c s' e' ∙ sym (ne_eqb s (number c) (λ z. ne (sym e ∙ z)))

-- an outer dart is one of three, in one direction
pub outer_same : (n : ℕ) → 0 < n → (c d : Colour) (a b : ℕ) → IsOuter n c a b → IsOuter n d a b → d ≡ c
outer_same n some x2 x3 a b o p = grind (arith, one, two, three)

pub outer_one_way : (n : ℕ) → 0 < n → (c d : Colour) (a b : ℕ) → IsOuter n c a b → ¬ IsOuter n d b a
outer_one_way n some x2 x3 a b o p = grind (arith, one, two, three)
