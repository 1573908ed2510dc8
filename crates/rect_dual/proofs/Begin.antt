-- The base alone: its lines, its links, and who leads.
use Rattle.std.proofs.Common.{◌≡◌, ◌⊎◌, ℕ, zero, suc, ◌-◌, ◌<◌, ◌≤◌, Bool, true, false, List, length, get_or, All, refl, sym, ap, ◌∙◌, inl, inr, arith}
use Rattle.std.proofs.lemmas.Bool.{both_ways}
use Rattle.contour_runs.specs.Runs.{Step}
use Rattle.rect_runs.specs.Numbers.{numbers}
use Rattle.rect_runs.proofs.Steps.{kept}
use Rattle.rect_dual.specs.Ways.{is_marked}
use Rattle.rect_dual.specs.States.{IsLeftState, IsLowState}

-- one of two
two : (i : ℕ) → i < 2 → (i ≡ 0) ⊎ (i ≡ 1)
two zero l = inl refl
two (suc zero) l = inr refl
two (suc (suc i)) l = absurd (omega (arith, l))

pub IsLeftState-begin : (steps : ℕ → Step) (n : ℕ) (lines next before : List ℕ) (leads : List Bool) → get_or lines 0 0 ≡ 0 → get_or lines 1 0 ≡ 0 → 2 ≤ length before → All (λ l. l ≡ 0) before → is_marked leads 0 ≡ true → is_marked leads 1 ≡ false → IsLeftState steps n 0 lines next before leads
IsLeftState-begin steps n lines next before leads one other many before_are first second = record {
  lines_are = record {
    at = λ i. 0;
    some = omega arith;
    begins = refl;
    line_is = λ v l. elim (two v l) [ inl e ↦ ap (λ u. get_or lines u 0) e ∙ one | inr e ↦ ap (λ u. get_or lines u 0) e ∙ other ];
    number_lt = λ v l. omega arith;
    within = λ i l. omega arith;
    own = λ i l. omega arith;
    links = λ i l. absurd (omega (arith, l));
  };
  linked = λ i l. let z : 0 ≡ i = omega arith in before_are (suc i) 0 (omega arith) ∙ z;
  leads_are = record {
    yes = λ i j l t b. elim (two i l) [
      | inl e ↦ absurd (omega (arith, e, b))
      | inr e ↦ absurd (both_ways (is_marked leads 1) second (ap (is_marked leads) (sym e) ∙ t))
    ];
    no = λ i l f. elim (two i l) [
      | inl e ↦ absurd (both_ways (is_marked leads 0) (ap (is_marked leads) (sym e) ∙ f) first)
      | inr e ↦
          let same = (kept steps 0 n (omega arith)).0.same 1 0 (omega arith) (omega arith) refl in
          (0, omega (arith, e), omega (arith, ap (numbers steps n).x e, same))
    ];
  };
}

pub IsLowState-begin : (steps : ℕ → Step) (n : ℕ) (lines next behind : List ℕ) (leads : List Bool) → get_or lines 0 0 ≡ 0 → get_or lines 1 0 ≡ 1 → 2 ≤ length next → All (λ l. l ≡ 0) next → 2 ≤ length behind → All (λ l. l ≡ 1) behind → is_marked leads 0 ≡ true → is_marked leads 1 ≡ true → IsLowState steps n 0 lines next behind leads
IsLowState-begin steps n lines next behind leads one other many next_are many' behind_are first second = record {
  lines_are = record {
    at = λ i. 1 - i;
    some = omega arith;
    begins = refl;
    line_is = λ v l. elim (two v l) [
      | inl e ↦ ap (λ u. get_or lines u 0) e ∙ (one ∙ ap (λ u. 1 - (numbers steps 0).y u) (sym e))
      | inr e ↦ ap (λ u. get_or lines u 0) e ∙ (other ∙ ap (λ u. 1 - (numbers steps 0).y u) (sym e))
    ];
    number_lt = λ v l. elim (two v l) [
      | inl e ↦ omega (arith, ap (numbers steps 0).y e)
      | inr e ↦ omega (arith, ap (numbers steps 0).y e)
    ];
    within = λ i l. omega arith;
    own = λ i l. elim (two i l) [
      | inl e ↦ ap (λ u. (numbers steps 0).y (1 - u)) e ∙ sym e
      | inr e ↦ ap (λ u. (numbers steps 0).y (1 - u)) e ∙ sym e
    ];
    links = λ i l.
        let z : i ≡ 0 = omega arith in
        ap (λ u. get_or next (1 - u) 0) z ∙ (next_are 1 0 (omega arith) ∙ ap (λ u. 1 - suc u) (sym z));
  };
  linked = λ i l.
      let z : i ≡ 0 = omega arith in
      ap (λ u. get_or behind u 0) z ∙ (behind_are 0 0 (omega arith) ∙ ap suc (sym z));
  leads_are = record {
    yes = λ i j l t b.
        let z : i ≡ 0 = omega arith in
        let o : j ≡ 1 = omega arith in
        let less : (numbers steps n).y 1 < (numbers steps n).y 0 = (kept steps 0 n (omega arith)).1.less 1 0 (omega arith) (omega arith) (omega arith) in
        omega (arith, ap (numbers steps n).y z, ap (numbers steps n).y o, less);
    no = λ i l f. elim (two i l) [
      | inl e ↦ absurd (both_ways (is_marked leads 0) (ap (is_marked leads) (sym e) ∙ f) first)
      | inr e ↦ absurd (both_ways (is_marked leads 1) (ap (is_marked leads) (sym e) ∙ f) second)
    ];
  };
}
