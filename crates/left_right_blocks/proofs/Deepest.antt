-- The deepest edge of blocks, by the first edges of the first block.
use Rattle.std.proofs.Common.{◌≡◌, ℕ, ◌≤◌, max, List, [], ◌∷◌, ◌++◌, length, Contains, ap, subst, inl, inr, arith}
use Rattle.std.specs.List.{AllByRecursion as Each}
use Rattle.std.proofs.lemmas.Bool.{cases_lt}
use Rattle.std.proofs.lemmas.List.Elements.{Contains-append_left, Contains-append_right}
use Rattle.chained_lists.proofs.Links.{in_first}
use Rattle.left_right_blocks.specs.Blocks.{Block, edges_of, edges_in, Falls, IsPart}
use Rattle.left_right_blocks.specs.Begun.{first_height, IsDeepest}
use Rattle.left_right_blocks.proofs.Eaches.{each_joined, each_weaker, each_in}

module _ (height : ℕ → ℕ) where
  -- the first of a falling list is the deepest
  all_first : (xs : List ℕ) → Falls height xs → Each (λ y. height y ≤ first_height height xs) xs
  all_first [] f = tt
  all_first (x ∷ xs) f = (omega arith, f.0)

  -- one of the two first edges is as deep as both
  attained : (xs ys : List ℕ) (z : ℕ) (rest : List ℕ) → xs ++ ys ≡ z ∷ rest → (x : ℕ) × (Contains (xs ++ ys) x × (height x ≡ max (first_height height xs) (first_height height ys)))
  attained [] [] z rest e = absurd (let a = ap length e in omega arith)
  attained [] (y ∷ ys) z rest e = (y, (in_first y ys, omega arith))
  attained (x ∷ xs) [] z rest e = (x, (in_first x (xs ++ []), omega arith))
  attained (x ∷ xs) (y ∷ ys) z rest e =
      elim (cases_lt (height x) (height y)) [
        | inl less ↦ (y, (Contains-append_right (x ∷ xs) (y ∷ ys) y (in_first y ys), omega arith))
        | inr more ↦ (x, (in_first x (xs ++ (y ∷ ys)), omega arith))
      ]

  pub deepest_is : (low : ℕ) (t : Block) (ts : List Block) → IsPart height low (t ∷ ts) → IsDeepest height (edges_in (t ∷ ts)) (max (first_height height t.one) (first_height height t.other))
  deepest_is low t ts part =
      let b = part.blocks.0 in
      let d = max (first_height height t.one) (first_height height t.other) in
      let here : Each (λ y. height y ≤ d) (edges_of t) =
      each_joined (λ y. height y ≤ d) t.one t.other
      (each_weaker (λ y. height y ≤ first_height height t.one) (λ y. height y ≤ d) (λ y m. omega arith) t.one (all_first t.one b.one_falls))
      (each_weaker (λ y. height y ≤ first_height height t.other) (λ y. height y ≤ d) (λ y m. omega arith) t.other (all_first t.other b.other_falls)) in
      let some = b.some in
      let top : height some.0 ≤ d = (subst (Each (λ y. height y ≤ d)) some.1.1 here).0 in
      let under : Each (λ y. height y ≤ height some.0) (edges_in ts) = (subst (Each (λ x. Each (λ y. height y ≤ height x) (edges_in ts))) some.1.1 part.stacked.0).0 in
      let all : Each (λ y. height y ≤ d) (edges_in (t ∷ ts)) = each_joined (λ y. height y ≤ d) (edges_of t) (edges_in ts) here (each_weaker (λ y. height y ≤ height some.0) (λ y. height y ≤ d) (λ y m. omega arith) (edges_in ts) under) in
      let found = attained t.one t.other some.0 some.1.0 some.1.1 in
      record {
        edge = found.0;
        held = Contains-append_left (edges_of t) (edges_in ts) found.0 found.1.0;
        is = found.1.1;
        most = λ x c. each_in (λ y. height y ≤ d) (edges_in (t ∷ ts)) x all c;
      }
