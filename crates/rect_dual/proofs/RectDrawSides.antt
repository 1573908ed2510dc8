-- The tables of sides are those of the boxes of a run.
use Rattle.std.proofs.Common.{◌≡◌, ℕ, zero, suc, ◌+◌, ◌<◌, cond, List, [], ◌∷◌, ◌++◌, length, get_or, refl, sym, ap, ◌∙◌, arith, inl, inr}
use Rattle.std.proofs.lemmas.Bool.{cases_lt}
use Rattle.std.proofs.lemmas.List.{get_or_append_left}
use Rattle.std.proofs.Math.Seq.{get_or-append_seam}
use Rattle.contour_runs.specs.Runs.{Step, Stage, stage_after}
use Rattle.rect_runs.specs.Numbers.{with_new, numbers, turn_of}
use Rattle.rect_runs.proofs.Steps.{with_new-older, with_new-new, counted}
use Rattle.rect_runs.specs.Boxes.{stands_between, side_after, rights, highs, grid_width, ceiling, grid_height, lower_boxes, boxes}
use Rattle.rect_dual.specs.SidesOfBoxes.{AreNumbers}
use Rattle.rect_dual.specs.Sides.{AreSides}
use Rattle.rect_dual.specs.RectDrawTables.{AreBoxTables}

-- sides depend on the numbers of the vertices that are put on alone
side_after-same : (g : Stage) (i j side side' : ℕ) (old old' : ℕ → ℕ) (v : ℕ) → side ≡ side' → old v ≡ old' v → side_after g i j side old v ≡ side_after g i j side' old' v
unfolding side_after
side_after-same g i j side side' old old' v e f =
    ap (λ a. cond (stands_between g i j v) a (old v)) e ∙ ap (λ b. cond (stands_between g i j v) side' b) f

rights-same : (steps : ℕ → Step) (n v : ℕ) (x x' : ℕ → ℕ) (end end' : ℕ) → end ≡ end' → ((u : ℕ) → u < n + 2 → x u ≡ x' u) → rights steps x end n v ≡ rights steps x' end' n v
rights-same steps zero v x x' end end' e same = e
rights-same steps (suc n) v x x' end end' e same =
    side_after-same (stage_after steps n) (steps n).first (turn_of steps n) (x (n + 2)) (x' (n + 2)) (rights steps x end n) (rights steps x' end' n) v (same (n + 2) (omega arith)) (rights-same steps n v x x' end end' e (λ u l. same u (omega arith)))

highs-same : (steps : ℕ → Step) (n v : ℕ) (y y' : ℕ → ℕ) (end end' : ℕ) → end ≡ end' → ((u : ℕ) → u < n + 2 → y u ≡ y' u) → highs steps y end n v ≡ highs steps y' end' n v
highs-same steps zero v y y' end end' e same = e
highs-same steps (suc n) v y y' end end' e same =
    side_after-same (stage_after steps n) (suc (turn_of steps n)) (steps n).last (y (n + 2)) (y' (n + 2)) (highs steps y end n) (highs steps y' end' n) v (same (n + 2) (omega arith)) (highs-same steps n v y y' end end' e (λ u l. same u (omega arith)))

-- one number more, at the end
with_last : (xs xs' : List ℕ) (m a v : ℕ) (f : ℕ → ℕ) (last : ℕ) → xs' ≡ xs ++ a ∷ [] → length xs ≡ m → ((u : ℕ) → u < m → get_or xs u 0 ≡ f u) → a ≡ last → v < suc m → get_or xs' v 0 ≡ with_new m f last v
with_last xs xs' m a v f last e size old is l = elim (cases_lt v m) [
  | inl o ↦ ap (λ us. get_or us v 0) e ∙ (get_or_append_left xs (a ∷ []) 0 v (omega arith) ∙ (old v o ∙ sym (with_new-older m f last v o)))
  | inr o ↦
      let q : v ≡ length xs = omega arith in
      ap (λ us. get_or us v 0) e ∙ (ap (λ u. get_or (xs ++ a ∷ []) u 0) q ∙ (get_or-append_seam xs a [] 0 ∙ (is ∙ sym (with_new-new m f last v (omega arith)))))
]

pub AreBoxTables-of : (steps : ℕ → Step) (n width top : ℕ) (xs ys rs hs left right low high : List ℕ) → length xs ≡ n + 2 → length ys ≡ n + 2 → length rs ≡ n + 2 → length hs ≡ n + 2 → top ≡ ceiling steps n → width + top ≡ n + 3 → AreNumbers steps n xs ys → AreSides steps n (n + 2) (λ u. get_or xs u 0) (λ u. get_or ys u 0) width top rs hs → left ≡ xs ++ 0 ∷ [] → right ≡ rs ++ width ∷ [] → low ≡ ys ++ top ∷ [] → high ≡ hs ++ (top + 1) ∷ [] → AreBoxTables (boxes steps n) (n + 3) left right low high
AreBoxTables-of steps n width top xs ys rs hs left right low high sx sy sr sh te we at sides le re oe he =
    let wide : width ≡ grid_width steps n = omega (arith, te, we, counted steps n) in
    let tall : top + 1 ≡ grid_height steps n = omega (arith, te) in
    record {
      left_is = λ v l. with_last xs left (n + 2) 0 v (numbers steps n).x 0 le sx at.xs_are refl (omega arith);
      right_is = λ v l.
          with_last rs right (n + 2) width v (lower_boxes steps n).right (grid_width steps n) re sr
          (λ u o. sides.rights_are u o ∙ rights-same steps n u (λ u. get_or xs u 0) (numbers steps n).x width (grid_width steps n) wide at.xs_are) wide (omega arith);
      low_is = λ v l. with_last ys low (n + 2) top v (numbers steps n).y (ceiling steps n) oe sy at.ys_are te (omega arith);
      high_is = λ v l.
          with_last hs high (n + 2) (top + 1) v (lower_boxes steps n).high (grid_height steps n) he sh
          (λ u o. sides.highs_are u o ∙ highs-same steps n u (λ u. get_or ys u 0) (numbers steps n).y top (ceiling steps n) te at.ys_are) tall (omega arith);
    }
