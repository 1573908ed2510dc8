-- The corners of a map are those of the faces of its run.
use Rattle.std.proofs.Common.{◌≡◌, ◌≢◌, ◌⊎◌, ℕ, suc, ◌+◌, ◌-◌, ◌<◌, ◌≤◌, List, length, get_or, sym, ap, ◌∙◌, subst, inl, inr, arith}
use Rattle.std.proofs.lemmas.Bool.{cases_eq}
use Rattle.map_lists.specs.Lists.{Lists}
use Rattle.map_theory.specs.Maps.{HasDart, follows, entry_after}
use Rattle.plane_peeling.specs.Restricted.{IsFaceOfThree}
use Rattle.canon_order.proofs.Counters.{same_place}
use Rattle.contour_runs.specs.Runs.{Step, stage_after, IsRun, IsFaceOf}
use Rattle.contour_runs.proofs.Stages.{IsStage-run, IsRun-less, count-stage_after}
use Rattle.order_drawings.specs.OrderRuns.{IsMadeByStep, IsOrderRun}
use Rattle.rect_runs.specs.Boxes.{IsRectRun}
use Rattle.rect_runs.proofs.RectBoxesFrame.{right_stands}
use Rattle.rect_orders.specs.Maps.{IsRectMap, closed}
use Rattle.rect_orders.specs.Orders.{IsRectOrder}
use Rattle.rect_orders.specs.Runs.{shortened}
use Rattle.rect_orders.proofs.Closed.{triangulation, more, length-closed, list_elsewhere, face_tsd}
use Rattle.rect_orders.proofs.RunOfMap.{rect_order_is_run}
use Rattle.rect_orders.proofs.Shortened.{short-old, short-last, stage-same}
use Rattle.rect_runs.specs.Ends.{IsCorner}
use Rattle.rect_runs.proofs.RectEndsEnds.{corners_of_faces}
use Rattle.rect_orders.specs.Corners.{CornersOfMap}

module _ (lists : Lists) (s d p t : ℕ) (at : List ℕ) (steps : ℕ → Step) (h : IsRectMap lists s d p t) (order : IsRectOrder lists s d p t at) (run : IsOrderRun (closed lists s d p t) (t, s) at order.canonical.cycle steps) where
  abbrev C : Lists
  C = closed lists s d p t

  abbrev name : ℕ → ℕ
  name i = get_or at i 0

  abbrev n : ℕ
  n = length at - 3

  abbrev short : ℕ → Step
  short = shortened steps n

  many : 5 ≤ length at
  many = let c = order.canonical.count in let e = length-closed lists s d p t h in let l = h.large in omega arith

  some : 2 ≤ n
  some = let m = many in omega arith

  next : length at - 2 ≡ suc n
  next = let m = many in omega arith

  all : IsRun steps (suc n)
  all = subst (IsRun steps) next run.run

  end : (stage_after steps (suc n)).width ≡ 3
  end = subst (λ k. (stage_after steps k).width ≡ 3) next run.end

  rect : IsRectRun short n
  rect = (rect_order_is_run lists s d p t at steps h order run).run

  same_name : (i j : ℕ) → i < length at → j < length at → name i ≡ name j → i ≡ j
  same_name i j l m e = same_place at i j order.canonical.built.once l m e

  top : name (n + 2) ≡ d
  top =
      let e : length C - 1 ≡ n + 2 = omega (arith, many, order.canonical.count) in
      ap name (sym e) ∙ (order.canonical.last ∙ (face_tsd lists s d p t h).second)

  -- an inner vertex is none of the frame's
  inner : (i : ℕ) → 2 ≤ i → i + 2 < length at → (name i ≢ s) × (name i ≢ t) × (name i ≢ d)
  inner i l m = (
    (λ e. let q = same_name i 0 (omega arith) (omega arith) (e ∙ sym order.canonical.built.first) in omega arith),
    (λ e. let q = same_name i 1 (omega arith) (omega arith) (e ∙ sym order.canonical.built.second) in omega arith),
    λ e. let q = same_name i (n + 2) (omega arith) (omega arith) (e ∙ sym top) in omega arith,
  )

  -- the vertices of a face
  within : (k j a b v : ℕ) → k < suc n → IsFaceOf steps k j a b v → (a < length at) × (b < length at) × (v < length at)
  within k j a b v l f = grind (arith, many, all, IsStage-run, IsRun-less, count-stage_after)

  -- a face with an inner vertex is made in the shorter run too
  in_short : (k j a b v i : ℕ) → k < suc n → IsFaceOf steps k j a b v → 2 ≤ i → i + 2 < length at → (i ≡ a) ⊎ ((i ≡ b) ⊎ (i ≡ v)) → IsFaceOf short k j a b v
  in_short k j a b v i l f lo hi on = elim (cases_eq k n) [
    | inr ne ↦ grind (arith, stage-same, all, some, end, short-old)
    | inl e ↦ grind (arith, stage_after, short, stage-same, all, some, end, short-last, IsStage-run, IsRun-less, rect, cases_eq, right_stands)
  ]

  module _ (x y z : ℕ) (lo : 2 ≤ y) (hi : y + 2 < length at) (x_in : x < length at) (z_in : z < length at) (dart : HasDart lists (name y) (name x)) (goes : follows lists (name y) (name x) ≡ name z) where
    dart_C : HasDart C (name x) (name y)
    dart_C = (triangulation lists s d p t h).simple.both_ways (name y) (name x) ((more lists s d p t h).kept (name y) (name x) dart)

    goes_C : follows C (name y) (name x) ≡ name z
    goes_C = let i = inner y lo hi in ap (entry_after (name x)) (list_elsewhere lists s d p t h (name y) i.2 i.1) ∙ goes

    made : IsMadeByStep at steps (name x) (name y)
    made =
        let i = inner y lo hi in
        run.made (name x) (name y) dart_C (λ e. elim e [
          | inl q ↦ i.0 q.1
          | inr (inl q) ↦ i.2 (q.1 ∙ (face_tsd lists s d p t h).second)
          | inr (inr q) ↦ i.1 q.1
        ])

    corner : IsCorner short (suc n) x y z
    corner =
        let m = made in
        let l : m.step < suc n = let e = m.earlier in omega arith in
        let f : IsFaceOfThree C (name m.a) (name m.b) (name m.v) = run.faces m.step m.place m.a m.b m.v m.earlier m.face in
        let w = within m.step m.place m.a m.b m.v l m.face in
        let make = λ (on : (y ≡ m.a) ⊎ ((y ≡ m.b) ⊎ (y ≡ m.v))). corners_of_faces short m.step (suc n) m.place m.a m.b m.v rect.labelled l (in_short m.step m.place m.a m.b m.v y l m.face lo hi on) in
        grind (arith, same_name, goes_C, follows, name, IsCorner, short)

pub corners_of_map : CornersOfMap
corners_of_map lists s d p t at steps h order run x y z lo hi x_in z_in dart goes =
    subst (λ k. IsCorner (shortened steps (length at - 3)) k x y z) (sym (next lists s d p t at steps h order run)) (corner lists s d p t at steps h order run x y z lo hi x_in z_in dart goes)
