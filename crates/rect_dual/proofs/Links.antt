-- Links of the contour after a step, forwards and backwards.
use Rattle.std.proofs.Common.{◌≡◌, ◌≢◌, ℕ, suc, ◌<◌, false, List, length, get_or, set, sym, ap, ◌∙◌, inl, inr, arith, length-set, get_or-set_same, get_or-set_other}
use Rattle.contour_runs.specs.Runs.{Step, Stage, after, IsStep}
use Rattle.contour_runs.specs.Laws.{IsStage}
use Rattle.rect_runs.proofs.Edges.{cases_edge}
use Rattle.rect_dual.specs.States.{IsLinked, IsLinkedBack}

-- two places with one vertex are one place
pub same_place : (g : Stage) → IsStage g → (i j : ℕ) → i < g.width → j < g.width → g.vertex i ≡ g.vertex j → i ≡ j
same_place g stage i j a b e = sym (stage.own i a) ∙ (ap g.place e ∙ stage.own j b)

module _ (g : Stage) (s : Step) (stage : IsStage g) (step : IsStep g s) (z : ℕ) (new : g.count ≡ z) (links : List ℕ) (size : z < length links) where
  -- the vertex at place p leads to the new one, and that to a
  abbrev linked_in : ℕ → ℕ → List ℕ
  linked_in p a = set (set links z a) (g.vertex p) z

  at_other : (p a j : ℕ) → p < g.width → j < g.width → j ≢ p → get_or (linked_in p a) (g.vertex j) 0 ≡ get_or links (g.vertex j) 0
  at_other p a j w l ne =
      let o = stage.placed j l in
      get_or-set_other (set links z a) (g.vertex p) (g.vertex j) z 0 (λ e. ne (same_place g stage j p l w e))
      ∙ get_or-set_other links z (g.vertex j) a 0 (λ e. omega (arith, e, o, new))

  at_place : (p a : ℕ) → p < g.width → get_or (linked_in p a) (g.vertex p) 0 ≡ z
  at_place p a w = let o = stage.placed p w in get_or-set_same (set links z a) (g.vertex p) z 0 (omega (arith, o, new, size, length-set links z a))

  at_new : (p a : ℕ) → p < g.width → get_or (linked_in p a) z 0 ≡ a
  at_new p a w =
      let o = stage.placed p w in
      get_or-set_other (set links z a) (g.vertex p) z z 0 (λ e. omega (arith, e, o, new)) ∙ get_or-set_same links z a 0 size

  pub IsLinked-more : (links' : List ℕ) → links' ≡ linked_in s.first (g.vertex s.last) → IsLinked g links → IsLinked (after g s) links'
  IsLinked-more links' link h i m =
      let o = step.order in
      let w = step.within in
      ap (λ us. get_or us ((after g s).vertex i) 0) link
      ∙ elim (cases_edge g s (λ j. false) i step m) [
        | inl d ↦
            let a = d.low in
            ap (λ u. get_or (linked_in s.first (g.vertex s.last)) u 0) d.start ∙ (at_other s.first (g.vertex s.last) i (omega arith) (omega arith) (λ q. omega (arith, a, q)) ∙ (h i (omega arith) ∙ sym d.end))
        | inr (inl d) ↦ ap (λ u. get_or (linked_in s.first (g.vertex s.last)) u 0) d.start ∙ (at_place s.first (g.vertex s.last) (omega arith) ∙ (sym new ∙ sym d.end))
        | inr (inr (inl d)) ↦ ap (λ u. get_or (linked_in s.first (g.vertex s.last)) u 0) (d.start ∙ new) ∙ (at_new s.first (g.vertex s.last) (omega arith) ∙ sym d.end)
        | inr (inr (inr d)) ↦
            let a = d.high in
            let b = d.within in
            ap (λ u. get_or (linked_in s.first (g.vertex s.last)) u 0) d.start ∙ (at_other s.first (g.vertex s.last) d.from (omega arith) (omega arith) (λ q. omega (arith, a, q, o)) ∙ (h d.from b ∙ sym d.end))
      ]

  pub IsLinkedBack-more : (links' : List ℕ) → links' ≡ linked_in s.last (g.vertex s.first) → IsLinkedBack g links → IsLinkedBack (after g s) links'
  IsLinkedBack-more links' link h i m =
      let o = step.order in
      let w = step.within in
      ap (λ us. get_or us ((after g s).vertex (suc i)) 0) link
      ∙ elim (cases_edge g s (λ j. false) i step m) [
        | inl d ↦
            let a = d.low in
            ap (λ u. get_or (linked_in s.last (g.vertex s.first)) u 0) d.end ∙ (at_other s.last (g.vertex s.first) (suc i) w (omega arith) (λ q. omega (arith, a, q)) ∙ (h i (omega arith) ∙ sym d.start))
        | inr (inl d) ↦ ap (λ u. get_or (linked_in s.last (g.vertex s.first)) u 0) (d.end ∙ new) ∙ (at_new s.last (g.vertex s.first) w ∙ sym d.start)
        | inr (inr (inl d)) ↦ ap (λ u. get_or (linked_in s.last (g.vertex s.first)) u 0) d.end ∙ (at_place s.last (g.vertex s.first) w ∙ (sym new ∙ sym d.start))
        | inr (inr (inr d)) ↦
            let a = d.high in
            let b = d.within in
            ap (λ u. get_or (linked_in s.last (g.vertex s.first)) u 0) d.end ∙ (at_other s.last (g.vertex s.first) (suc d.from) w b (λ q. omega (arith, a, q)) ∙ (h d.from b ∙ sym d.start))
      ]
