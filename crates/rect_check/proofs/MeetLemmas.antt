-- The two passes that mark the rectangles which meet others.
use Rattle.std.proofs.Common.{◌≡◌, ℕ, ◌+◌, ◌-◌, ◌<◌, ◌≤◌, Bool, true, false, List, length, get_or, reverse, pos, ◌≤ℤ◌, ◌<ℤ◌, inl, inr, sym, ap, subst, ◌∙◌, arith}
use Rattle.std.specs.List.Sorted.{IsPermutation}
use Rattle.std.proofs.lemmas.Bool.{cases_lt}
use Rattle.std.proofs.lemmas.Int.{ints}
use Rattle.std.proofs.lemmas.List.{get_or-reverse}
use Rattle.map_lists.specs.Lists.{Lists}
use Rattle.pg_plane.specs.declared.figures.RectFigure.{RectFigure}
use Rattle.drawings.specs.Duals.{IsRect, DoMeet}
use Rattle.rect_check.specs.Loops.{IsMarked, AreKept, HasRow}
use Rattle.rect_check.specs.Meets.{near_at, far_at, DoReach, LaterAreMarked, MeetsAreMarked}
use Rattle.rect_check.proofs.SweepLemmas.{AreVertices, place_of_vertex, common}

-- those that meet do so either way
DoMeet-turned : (fig : RectFigure) (u v : ℕ) → DoMeet fig u v → DoMeet fig v u
DoMeet-turned fig u v m = record { left = m.right; right = m.left; low = m.high; high = m.low }

-- of two that meet one begins before the other ends, seen from either end
near-far : (back : Bool) (n : ℕ) (fig : RectFigure) (u v : ℕ) → DoMeet fig u v → near_at back n fig v <ℤ far_at back n fig u
near-far false n fig u v m = m.right
near-far true n fig u v m = let l = m.left in omega (arith, ints)

module _ (back : Bool) (n : ℕ) (fig : RectFigure) (rects : (v : ℕ) → v < n → IsRect n fig v) (order : List ℕ) (i : ℕ) (old new : List ℕ) (before : DoReach back n fig order i old) where
  -- the rows of one vertex more reach to its end
  pub DoReach-more : ((y : ℕ) → HasRow fig.y1 fig.y2 (get_or order i 0) y → far_at back n fig (get_or order i 0) ≤ℤ pos (get_or new y 0)) → ((y : ℕ) → get_or old y 0 ≤ get_or new y 0) → DoReach back n fig order (i + 1) new
  DoReach-more inside grown j y l has = elim (cases_lt j i) [
    | inl less ↦ (let b = before j y less has in let g = grown y in omega (arith, ints, b, g))
    | inr most ↦ (let here : i ≡ j = omega (arith, l, most) in subst (λ (k : ℕ). HasRow fig.y1 fig.y2 (get_or order k 0) y → far_at back n fig (get_or order k 0) ≤ℤ pos (get_or new y 0)) here (inside y) has)
  ]

  -- it has a mark where it meets one before it
  pub LaterAreMarked-more : (marks marks' : List Bool) → AreKept marks marks' → LaterAreMarked fig order i marks → ((j : ℕ) → j < i → get_or order j 0 < n) → get_or order i 0 < n → ((y : ℕ) → HasRow fig.y1 fig.y2 (get_or order i 0) y → near_at back n fig (get_or order i 0) <ℤ pos (get_or old y 0) → IsMarked marks' (get_or order i 0)) → LaterAreMarked fig order (i + 1) marks'
  LaterAreMarked-more marks marks' kept later below lv found j k l m meet = elim (cases_lt k i) [
    | inl less ↦ kept (get_or order k 0) (later j k l less meet)
    | inr most ↦ (let here : i ≡ k = omega (arith, m, most) in subst (λ (x : ℕ). DoMeet fig (get_or order j 0) (get_or order x 0) → IsMarked marks' (get_or order x 0)) here (last (omega (arith, l, here))) meet)
  ]
    where
      last : j < i → DoMeet fig (get_or order j 0) (get_or order i 0) → IsMarked marks' (get_or order i 0)
      last l' meets =
          let u = get_or order j 0 in
          let v = get_or order i 0 in
          let y = common n fig.y1 fig.y2 (λ x lx. (rects x lx).tall) u v (below j l') lv meets.low meets.high in
          let b = before j y.0 l' y.1 in
          let f = near-far back n fig u v meets in
          found y.0 y.2 (omega (arith, ints, b, f))

-- marked in an order and in its reverse, each of two that meet has a mark
pub MeetsAreMarked-from_passes : (lists : Lists) (fig : RectFigure) (old order : List ℕ) → length old ≡ length lists → AreVertices old → IsPermutation old order → length order ≡ length lists
    → (first marks : List Bool) → LaterAreMarked fig order (length order) first → AreKept first marks → LaterAreMarked fig (reverse order) (length (reverse order)) marks → length (reverse order) ≡ length lists → MeetsAreMarked lists fig marks
MeetsAreMarked-from_passes lists fig old order count old_is same size first marks later kept back size' u v less lv meet =
    let n = length lists in
    let (i, li, ei) = place_of_vertex n old order count old_is same u (omega (arith, less, lv)) in
    let (j, lj, ej) = place_of_vertex n old order count old_is same v lv in
    elim (cases_lt j i) [
      | inl l ↦ kept u (subst (λ x. IsMarked first x) ei (later j i l li (subst (λ x. DoMeet fig (get_or order j 0) x) (sym ei) (subst (λ x. DoMeet fig x u) (sym ej) (DoMeet-turned fig u v meet)))))
      | inr l ↦ turned i j li lj ei ej (strictly i j ei ej l)
    ]
  where
    strictly : (i j : ℕ) → get_or order i 0 ≡ u → get_or order j 0 ≡ v → i ≤ j → i < j
    strictly i j ei ej l = elim (cases_lt i j) [
      | inl less' ↦ less'
      | inr more ↦ absurd (let e : i ≡ j = omega (arith, l, more) in let s : u ≡ v = sym ei ∙ (ap (λ k. get_or order k 0) e ∙ ej) in omega (arith, less, s))
    ]

    turned : (i j : ℕ) → i < length order → j < length order → get_or order i 0 ≡ u → get_or order j 0 ≡ v → i < j → IsMarked marks u
    turned i j li lj ei ej l =
        let n = length order in
        let p : ℕ = n - 1 - i in
        let q : ℕ = n - 1 - j in
        let lp : p < n = omega (arith, li) in
        let lq : q < n = omega (arith, lj) in
        let ep : get_or (reverse order) p 0 ≡ u = get_or-reverse order p 0 lp ∙ (ap (λ k. get_or order k 0) (omega (arith, li)) ∙ ei) in
        let eq : get_or (reverse order) q 0 ≡ v = get_or-reverse order q 0 lq ∙ (ap (λ k. get_or order k 0) (omega (arith, lj)) ∙ ej) in
        subst (λ x. IsMarked marks x) ep (back q p (omega (arith, l, li, lj)) (omega (arith, lp, size, size')) (subst (λ x. DoMeet fig (get_or (reverse order) q 0) x) (sym ep) (subst (λ x. DoMeet fig x u) (sym eq) (DoMeet-turned fig u v meet))))
