-- The boxes of a rectangular order at their vertices are a rectangular dual of the map.
use Rattle.std.proofs.Common.{◌≡◌, ◌≢◌, ◌↔◌, ℕ, zero, suc, ◌+◌, ◌*◌, ◌-◌, ◌<◌, ◌≤◌, List, length, get_or, pos, refl, sym, ap, ap₂, ◌∙◌, subst, inl, inr, arith, ◌*ℤ◌, ◌+ℤ◌, ◌-ℤ◌, ◌≤ℤ◌, ℤ}
use Rattle.std.proofs.Math.IntN.{pos-*ℤ-pos, pos-+ℤ-pos}
use Rattle.std.proofs.lemmas.Bool.{cases_lt}
use Rattle.std.proofs.lemmas.Int.{ints, fold-int_max_bounds, fold-int_max_reached}
use Rattle.std.proofs.lemmas.List.{get_or_default}
use Rattle.map_lists.specs.Lists.{Lists}
use Rattle.map_theory.specs.Maps.{HasDart, follows}
use Rattle.pg_plane.specs.declared.figures.RectFigure.{RectFigure}
use Rattle.contour_runs.specs.Runs.{Step}
use Rattle.canon_order.specs.Orders.{IsRankOf}
use Rattle.canon_order.proofs.Counters.{all_of_them}
use Rattle.rect_runs.specs.Boxes.{Boxes, boxes, grid_width, grid_height}
use Rattle.rect_runs.specs.RectBoxesLaws.{AreApart, AreJoined, IsRunDual, ShareSide as SharesBoxSide}
use Rattle.rect_runs.proofs.Totals.{total}
use Rattle.rect_runs.proofs.Areas.{area_of-total}
use Rattle.rect_runs.proofs.Top.{boxes_are_dual}
use Rattle.drawings.specs.Duals.{IsRect, DoMeet, ShareSide, IsFramed, IsQuadrangle, area_of, greatest, width_of, height_of, left_of, right_of, low_of, high_of, number_at, top_vertex, right_vertex, bottom_vertex}
use Rattle.rect_orders.specs.Maps.{IsRectMap, closed}
use Rattle.rect_orders.specs.Orders.{IsRectOrder}
use Rattle.rect_orders.specs.Runs.{IsRunOfMap}
use Rattle.rect_orders.proofs.Closed.{length-closed, face_tsd, dart_sd, turn_s, turn_d, turn_p, turn_t}
use Rattle.rect_orders.specs.Figures.{AreBoxesAt, IsDualFor, BoxesAreDualOfMap, DualForFirst}
use Rattle.rect_orders.proofs.Renamed.{total-renamed}

-- the greatest of some numbers, of which none is greater than one of them
greatest-is : (zs : List ℤ) (k m : ℕ) → k < length zs → number_at zs k ≡ pos m → ((v : ℕ) → v < length zs → number_at zs v ≤ℤ pos m) → greatest zs ≡ pos m
greatest-is zs k m l e most =
    let r = greatest zs in
    let at_k = (fold-int_max_bounds (pos 0) zs r refl).1 k (pos 0) l in
    let least : r ≤ℤ pos m = elim (fold-int_max_reached (pos 0) zs r refl) [
      | inl z ↦ omega (arith, ints)
      | inr c ↦ subst (λ z. z ≤ℤ pos m) (get_or_default zs c.0 (pos 0) r c.1 ∙ c.2) (most c.0 c.1)
    ] in
    omega (arith, ints)

module _ (lists : Lists) (s d p t : ℕ) (at ranks : List ℕ) (steps : ℕ → Step) (fig : RectFigure) (order : IsRectOrder lists s d p t at) (h : IsRectMap lists s d p t) (rank : IsRankOf ranks at) (of_map : IsRunOfMap lists at steps) (n : ℕ) (size : length at ≡ n + 3) (dual : IsRunDual steps n (boxes steps n) (grid_width steps n) (grid_height steps n)) (joined : (i j : ℕ) → i < j → j < length at → HasDart lists (get_or at i 0) (get_or at j 0) ↔ AreJoined steps (suc n) i j) (drawn : AreBoxesAt (boxes steps n) lists ranks fig) where
  abbrev b : Boxes
  b = boxes steps n

  abbrev width : ℕ
  width = grid_width steps n

  abbrev height : ℕ
  height = grid_height steps n

  abbrev name : ℕ → ℕ
  name i = get_or at i 0

  abbrev place : ℕ → ℕ
  place v = get_or ranks v 0

  many : length lists ≡ n + 3
  many = let c = order.canonical.count in let e = length-closed lists s d p t h in omega arith

  name-lt : (i : ℕ) → i < n + 3 → name i < n + 3
  name-lt i l = let c = order.canonical.count in let v = order.canonical.vertices i 0 (omega arith) in omega arith

  place-name : (i : ℕ) → i < n + 3 → place (name i) ≡ i
  place-name i l = rank.of_place i (omega arith)

  name-place : (v : ℕ) → v < n + 3 → name (place v) ≡ v
  name-place v l = rank.of_vertex v (omega arith)

  place-lt : (v : ℕ) → v < n + 3 → place v < n + 3
  place-lt v l =
      let c = all_of_them at v (λ k d m. (let w = order.canonical.vertices k d m in let e = order.canonical.count in omega arith)) order.canonical.built.once (omega arith) in
      omega (arith, ap place (sym (get_or_default at c.0 0 v c.1 ∙ c.2)) ∙ place-name c.0 (omega arith), c.1, size)

  place-apart : (u v : ℕ) → u < n + 3 → v < n + 3 → u ≢ v → place u ≢ place v
  place-apart u v l m ne e = ne (sym (name-place u l) ∙ (ap name e ∙ name-place v m))

  rect : (v : ℕ) → v < length lists → IsRect (length lists) fig v
  rect v l =
      let k = many in
      let m = place-lt v (omega arith) in
      let e1 = drawn.left v l in
      let e2 = drawn.right v l in
      let e3 = drawn.low v l in
      let e4 = drawn.high v l in
      record {
        wide = record { first = omega (arith, ints); order = omega (arith, ints); last = omega (arith, ints, many) };
        tall = record { first = omega (arith, ints); order = omega (arith, ints); last = omega (arith, ints, many) };
      }

  -- two boxes that are apart
  not_meet : (u v : ℕ) → u < length lists → v < length lists → AreApart b (place u) (place v) → DoMeet fig u v → ⊥
  not_meet u v l m a meet =
      let e1 = drawn.left u l in
      let e2 = drawn.right u l in
      let e3 = drawn.low u l in
      let e4 = drawn.high u l in
      let f1 = drawn.left v m in
      let f2 = drawn.right v m in
      let f3 = drawn.low v m in
      let f4 = drawn.high v m in
      elim a [
        | inl c ↦ elim c [ inl x ↦ omega (arith, ints) | inr x ↦ omega (arith, ints) ]
        | inr c ↦ elim c [ inl x ↦ omega (arith, ints) | inr x ↦ omega (arith, ints) ]
      ]

  apart_turned : (i j : ℕ) → AreApart b i j → AreApart b j i
  apart_turned i j a = elim a [
    | inl c ↦ elim c [ inl x ↦ inl (inr x) | inr x ↦ inl (inl x) ]
    | inr c ↦ elim c [ inl x ↦ inr (inr x) | inr x ↦ inr (inl x) ]
  ]

  apart : (u v : ℕ) → u < v → v < length lists → ¬ DoMeet fig u v
  apart u v less l =
      let k = many in
      let ne = place-apart u v (omega arith) (omega arith) (λ e. omega (arith, less, e)) in
      not_meet u v (omega arith) l (elim (cases_lt (place u) (place v)) [
        | inl m ↦ dual.filling.apart (place u) (place v) m (place-lt v (omega arith))
        | inr m ↦ apart_turned (place v) (place u) (dual.filling.apart (place v) (place u) (omega (arith, m, ne)) (place-lt u (omega arith)))
      ])

  -- sides of rectangles, and of boxes
  shared : (u v : ℕ) → u < length lists → v < length lists → ShareSide fig u v ↔ SharesBoxSide b (place u) (place v)
  shared u v l m =
      let e1 = drawn.left u l in
      let e2 = drawn.right u l in
      let e3 = drawn.low u l in
      let e4 = drawn.high u l in
      let f1 = drawn.left v m in
      let f2 = drawn.right v m in
      let f3 = drawn.low v m in
      let f4 = drawn.high v m in (
        (λ x. elim x [
          | inl c ↦ elim c [
            | inl y ↦ (let y1 = y.line in let y2 = y.low in let y3 = y.high in inl (inl record { line = omega (arith, ints); first = omega (arith, ints); second = omega (arith, ints) }))
            | inr y ↦ (let y1 = y.line in let y2 = y.low in let y3 = y.high in inl (inr record { line = omega (arith, ints); first = omega (arith, ints); second = omega (arith, ints) }))
          ]
          | inr c ↦ elim c [
            | inl y ↦ (let y1 = y.line in let y2 = y.left in let y3 = y.right in inr (inl record { line = omega (arith, ints); first = omega (arith, ints); second = omega (arith, ints) }))
            | inr y ↦ (let y1 = y.line in let y2 = y.left in let y3 = y.right in inr (inr record { line = omega (arith, ints); first = omega (arith, ints); second = omega (arith, ints) }))
          ]
        ]),
        λ x. elim x [
          | inl c ↦ elim c [
            | inl y ↦ (let y1 = y.line in let y2 = y.first in let y3 = y.second in inl (inl record { line = omega (arith, ints); low = omega (arith, ints); high = omega (arith, ints) }))
            | inr y ↦ (let y1 = y.line in let y2 = y.first in let y3 = y.second in inl (inr record { line = omega (arith, ints); low = omega (arith, ints); high = omega (arith, ints) }))
          ]
          | inr c ↦ elim c [
            | inl y ↦ (let y1 = y.line in let y2 = y.first in let y3 = y.second in inr (inl record { line = omega (arith, ints); left = omega (arith, ints); right = omega (arith, ints) }))
            | inr y ↦ (let y1 = y.line in let y2 = y.first in let y3 = y.second in inr (inr record { line = omega (arith, ints); left = omega (arith, ints); right = omega (arith, ints) }))
          ]
        ],
      )

  shared_turned : (i j : ℕ) → SharesBoxSide b i j → SharesBoxSide b j i
  shared_turned i j x = elim x [
    | inl c ↦ elim c [ inl y ↦ inl (inr y) | inr y ↦ inl (inl y) ]
    | inr c ↦ elim c [ inl y ↦ inr (inr y) | inr y ↦ inr (inl y) ]
  ]

  -- of two places in order: sides are shared exactly where the vertices are adjacent
  box_contacts : (i j : ℕ) → i < j → j < n + 3 → SharesBoxSide b i j ↔ HasDart lists (name i) (name j)
  box_contacts i j less l =
      let one = dual.contacts i j less l in
      let two = joined i j less (omega arith) in
      ((λ x. two.1 (one.0 x)), λ x. one.1 (two.0 x))

  contacts : (u v : ℕ) → u < v → v < length lists → ShareSide fig u v ↔ HasDart lists u v
  contacts u v less l =
      let k = many in
      let both = h.near.simple.both_ways in
      let i = place-lt u (omega arith) in
      let j = place-lt v (omega arith) in
      let eu = name-place u (omega arith) in
      let ev = name-place v (omega arith) in
      let ne = place-apart u v (omega arith) (omega arith) (λ e. omega (arith, less, e)) in
      let same = shared u v (omega arith) l in
      elim (cases_lt (place u) (place v)) [
        | inl m ↦
            let c = subst (λ z. SharesBoxSide b (place u) (place v) ↔ HasDart lists u z) ev (subst (λ z. SharesBoxSide b (place u) (place v) ↔ HasDart lists z (name (place v))) eu (box_contacts (place u) (place v) m j)) in
            ((λ x. c.0 (same.0 x)), λ x. same.1 (c.1 x))
        | inr m ↦
            let c =
            subst (λ z. SharesBoxSide b (place v) (place u) ↔ HasDart lists v z) eu (subst (λ z. SharesBoxSide b (place v) (place u) ↔ HasDart lists z (name (place u))) ev (box_contacts (place v) (place u) (omega (arith, m, ne)) i)) in
            ((λ x. both v u (c.0 (shared_turned (place u) (place v) (same.0 x)))), λ x. same.1 (shared_turned (place v) (place u) (c.1 (both u v x))))
      ]

  -- where the frame stands
  place_s : place s ≡ 0
  place_s = ap place (sym order.canonical.built.first) ∙ place-name 0 (omega arith)

  place_t : place t ≡ 1
  place_t = ap place (sym order.canonical.built.second) ∙ place-name 1 (omega arith)

  place_p : place p ≡ n + 1
  place_p =
      let e : length at - 2 ≡ n + 1 = omega arith in
      ap place (sym order.right ∙ ap name e) ∙ place-name (n + 1) (omega arith)

  place_d : place d ≡ n + 2
  place_d =
      let e : length (closed lists s d p t) - 1 ≡ n + 2 = omega arith in
      ap place (sym (face_tsd lists s d p t h).second ∙ (sym order.canonical.last ∙ ap name e)) ∙ place-name (n + 2) (omega arith)

  in_lists : (v i : ℕ) → name i ≡ v → i < n + 3 → v < length lists
  in_lists v i e l = let m = name-lt i l in omega (arith, m, e, many)

  s_in : s < length lists
  s_in = in_lists s 0 order.canonical.built.first (omega arith)

  t_in : t < length lists
  t_in = in_lists t 1 order.canonical.built.second (omega arith)

  p_in : p < length lists
  p_in = let e : length at - 2 ≡ n + 1 = omega arith in in_lists p (n + 1) (ap name (sym e) ∙ order.right) (omega arith)

  d_in : d < length lists
  d_in = h.near.simple.in_range s d (dart_sd lists s d p t h)

  is_at : (f : ℕ → ℤ) (side : ℕ → ℕ) (v i m : ℕ) → f v ≡ pos (side (place v)) → place v ≡ i → side i ≡ m → f v ≡ pos m
  is_at f side v i m e e' e'' = e ∙ ap pos (ap side e' ∙ e'')

  wide : width_of fig ≡ pos width
  wide =
      greatest-is fig.x2 t width (let c = drawn.shape.x2 in omega (arith, t_in)) (is_at (right_of fig) b.right t 1 width (drawn.right t t_in) place_t dual.frame.bottom.1)
      (λ v l.
      let e = drawn.right v (omega arith) in
      omega (arith, (dual.filling.within (place v) (place-lt v (omega (arith, many)))).0, ints))

  tall : height_of fig ≡ pos height
  tall =
      greatest-is fig.y2 d height (let c = drawn.shape.y2 in omega (arith, d_in)) (is_at (high_of fig) b.high d (n + 2) height (drawn.high d d_in) place_d dual.frame.top.2)
      (λ v l.
      let e = drawn.high v (omega arith) in
      omega (arith, (dual.filling.within (place v) (place-lt v (omega (arith, many)))).1, ints))

  framed : IsFramed fig s d p t
  framed = record {
    left = is_at (left_of fig) b.left s 0 0 (drawn.left s s_in) place_s dual.frame.first;
    top = (
      record {
        first = is_at (left_of fig) b.left d (n + 2) 0 (drawn.left d d_in) place_d dual.frame.top.0;
        last = is_at (right_of fig) b.right d (n + 2) width (drawn.right d d_in) place_d dual.frame.top.1 ∙ sym wide;
      },
      is_at (high_of fig) b.high d (n + 2) height (drawn.high d d_in) place_d dual.frame.top.2 ∙ sym tall,
    );
    right = is_at (right_of fig) b.right p (n + 1) width (drawn.right p p_in) place_p dual.frame.right ∙ sym wide;
    bottom = (
      record {
        first = is_at (left_of fig) b.left t 1 0 (drawn.left t t_in) place_t dual.frame.bottom.0;
        last = is_at (right_of fig) b.right t 1 width (drawn.right t t_in) place_t dual.frame.bottom.1 ∙ sym wide;
      },
      is_at (low_of fig) b.low t 1 0 (drawn.low t t_in) place_t dual.frame.bottom.2,
    );
  }

  -- areas
  abbrev size_at : ℕ → ℕ
  size_at i = (b.right i - b.left i) * (b.high i - b.low i)

  difference : (x y : ℤ) (k m : ℕ) → x ≡ pos k → y ≡ pos m → m ≤ k → x -ℤ y ≡ pos (k - m)
  difference x y k m e e' l = omega (arith, ints)

  areas_below : (k : ℕ) → k ≤ length lists → area_of fig k ≡ pos (total (λ v. size_at (place v)) k)
  areas_below zero l = refl
  areas_below (suc k) l =
      let i = place k in
      let m = place-lt k (omega (arith, l, many)) in
      let one = difference (right_of fig k) (left_of fig k) (b.right i) (b.left i) (drawn.right k (omega arith)) (drawn.left k (omega arith)) (omega arith) in
      let two = difference (high_of fig k) (low_of fig k) (b.high i) (b.low i) (drawn.high k (omega arith)) (drawn.low k (omega arith)) (omega arith) in
      ap₂ ◌+ℤ◌ (areas_below k (omega arith)) (ap₂ ◌*ℤ◌ one two ∙ pos-*ℤ-pos (b.right i - b.left i) (b.high i - b.low i)) ∙ pos-+ℤ-pos (total (λ v. size_at (place v)) k) (size_at i)

  areas : area_of fig (length lists) ≡ (width_of fig *ℤ height_of fig)
  areas =
      areas_below (length lists) (omega arith)
      ∙ ap pos
      (ap (total (λ v. size_at (place v))) many ∙ total-renamed size_at place name (n + 3) place-lt name-lt place-name name-place ∙ sym (area_of-total b (n + 3)) ∙ dual.filling.areas)
      ∙ sym (pos-*ℤ-pos width height) ∙ sym (ap₂ ◌*ℤ◌ wide tall)

  dual_here : IsDualFor lists s d p t fig
  dual_here = record { rects = rect; apart = apart; areas = areas; contacts = contacts; framed = framed }

-- THE LAWS
pub boxes_are_dual_of_map : BoxesAreDualOfMap
boxes_are_dual_of_map lists s d p t at ranks steps fig order h rank of_map drawn =
    let n : ℕ = length at - 3 in
    let m : length at - 2 ≡ suc n = omega arith in
    dual_here lists s d p t at ranks steps fig order h rank of_map n (omega arith) (boxes_are_dual steps n of_map.run)
    (λ i j less within. subst (λ k. HasDart lists (get_or at i 0) (get_or at j 0) ↔ AreJoined steps k i j) m (of_map.joined i j less within)) drawn

pub dual_for_first : DualForFirst
dual_for_first lists p t fig h dual =
    let d = top_vertex lists in
    let right : right_vertex lists ≡ p = turn_d lists 0 d p t h in
    let bottom : bottom_vertex lists ≡ t = ap (λ z. follows lists z d) right ∙ turn_p lists 0 d p t h in
    let frame : IsQuadrangle lists 0 d p t = record {
      dart = dart_sd lists 0 d p t h;
      second = turn_d lists 0 d p t h;
      third = turn_p lists 0 d p t h;
      fourth = turn_t lists 0 d p t h;
      again = turn_s lists 0 d p t h;
      distinct = h.near.cycle.distinct;
    } in
    record {
      rects = dual.rects;
      apart = dual.apart;
      areas = dual.areas;
      contacts = dual.contacts;
      frame = subst (λ q. IsQuadrangle lists 0 d (right_vertex lists) q) (sym bottom) (subst (λ r. IsQuadrangle lists 0 d r t) (sym right) frame);
      framed = subst (λ q. IsFramed fig 0 d (right_vertex lists) q) (sym bottom) (subst (λ r. IsFramed fig 0 d r t) (sym right) dual.framed);
    }
