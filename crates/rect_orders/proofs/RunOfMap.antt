-- A rectangular order is a run that boxes can be made of.
use Rattle.std.proofs.Common.{◌≡◌, ◌≢◌, ◌↔◌, ℕ, suc, ◌+◌, ◌-◌, ◌<◌, ◌≤◌, List, length, get_or, sym, ap, ◌∙◌, subst, inl, inr, arith}
use Rattle.std.proofs.lemmas.Bool.{cases_eq}
use Rattle.map_lists.specs.Lists.{Lists}
use Rattle.map_theory.specs.Maps.{HasDart, follows}
use Rattle.canon_order.proofs.Counters.{same_place}
use Rattle.contour_runs.specs.Runs.{Step, stage_after, IsRun, IsCovered}
use Rattle.contour_runs.proofs.Stages.{IsStage-run, IsRun-less, count-stage_after}
use Rattle.order_drawings.specs.OrderRuns.{IsOrderRun}
use Rattle.rect_runs.specs.Later.{StandsOver, HaveTwoLater}
use Rattle.rect_runs.specs.Boxes.{IsRectRun}
use Rattle.rect_runs.specs.RectBoxesLaws.{AreJoined}
use Rattle.rect_orders.specs.Maps.{IsRectMap, closed}
use Rattle.rect_orders.specs.Orders.{IsRectOrder}
use Rattle.rect_orders.specs.Runs.{shortened, RectOrderIsRun}
use Rattle.rect_orders.proofs.Closed.{triangulation, more, length-closed, far, face_tsd, dart_pt, d_not_t, s_not_d, s_not_t}
use Rattle.rect_orders.proofs.Joined.{whole, joined_closed}
use Rattle.rect_orders.proofs.Shortened.{HaveTwoLater-from, short_run, joined-short, right_uncovered, IsRectRun-short}

module _ (lists : Lists) (s d p t : ℕ) (at : List ℕ) (steps : ℕ → Step) (h : IsRectMap lists s d p t) (order : IsRectOrder lists s d p t at) (n : ℕ) (size : length at ≡ n + 3) (run : IsOrderRun (closed lists s d p t) (t, s) at order.canonical.cycle steps) where
  abbrev C : Lists
  C = closed lists s d p t

  abbrev name : ℕ → ℕ
  name i = get_or at i 0

  abbrev short : ℕ → Step
  short = shortened steps n

  some : 2 ≤ n
  some = let c = order.canonical.count in let e = length-closed lists s d p t h in let l = h.large in omega arith

  apart : (t ≢ s) × (s ≢ follows C s t) × (follows C s t ≢ t)
  apart =
      let e = (face_tsd lists s d p t h).second in
      (λ q. s_not_t lists s d p t h (sym q), λ q. s_not_d lists s d p t h (q ∙ e), λ q. d_not_t lists s d p t h (sym e ∙ q))

  all : IsRun steps (suc n)
  all = whole C (t, s) at (triangulation lists s d p t h) order.canonical steps n size run apart

  joined : (i j : ℕ) → i < j → j < length at → HasDart C (name i) (name j) ↔ AreJoined steps (suc n) i j
  joined = joined_closed C (t, s) at (triangulation lists s d p t h) order.canonical steps n size run apart

  end : (stage_after steps (suc n)).width ≡ 3
  end = let e : length at - 2 ≡ suc n = omega arith in subst (λ k. (stage_after steps k).width ≡ 3) e run.end

  -- where the frame stands
  bottom : name 1 ≡ t
  bottom = order.canonical.built.second

  top : name (n + 2) ≡ d
  top =
      let e : length C - 1 ≡ n + 2 = omega (arith, order.canonical.count) in
      ap name (sym e) ∙ (order.canonical.last ∙ (face_tsd lists s d p t h).second)

  right : name (n + 1) ≡ p
  right = let e : length at - 2 ≡ n + 1 = omega arith in ap name (sym e) ∙ order.right

  same_name : (i j : ℕ) → i < length at → j < length at → name i ≡ name j → i ≡ j
  same_name i j l m e = same_place at i j order.canonical.built.once l m e

  -- adjacent in the map: joined in the shorter run
  joined_here : (i j : ℕ) → i < j → j < length at → HasDart lists (name i) (name j) ↔ AreJoined short (suc n) i j
  joined_here i j less l = (
    (λ a.
        (joined-short steps n all some end i j).1 (
          (joined i j less l).0 ((more lists s d p t h).kept (name i) (name j) a),
          λ e. far lists s d p t h ((h.near.simple).both_ways t d (subst (λ z. HasDart lists z d) (ap name e.0 ∙ bottom) (subst (HasDart lists (name i)) (ap name e.1 ∙ top) a))),
        )),
    λ a.
        let o = (joined-short steps n all some end i j).0 a in
        elim ((more lists s d p t h).only (name i) (name j) ((joined i j less l).1 o.0)) [
          | inl old ↦ old
          | inr r ↦ elim r [
            | inl e ↦
                absurd (omega (arith, same_name i (n + 2) (omega arith) (omega arith) (e.0 ∙ sym top), less, l, size))
            | inr e ↦ absurd (o.1 (same_name i 1 (omega arith) (omega arith) (e.0 ∙ sym bottom), same_name j (n + 2) l (omega arith) (e.1 ∙ sym top)))
          ]
        ],
  )

  -- the right vertex is put on over the bottom
  ends_right : (k : ℕ) → suc k ≡ n → suc (steps k).last ≡ (stage_after steps k).width
  ends_right k e =
      let pt = (more lists s d p t h).kept t p (h.near.simple.both_ways p t (dart_pt lists s d p t h)) in
      let a : HasDart C (name 1) (name (n + 1)) = subst (λ z. HasDart C z (name (n + 1))) (sym bottom) (subst (HasDart C t) (sym right) pt) in
      elim ((joined 1 (n + 1) (omega (arith, some)) (omega arith)).0 a) [
        | inl b ↦ absurd (omega (arith, b.0))
        | inr (k', l, over) ↦
            let same : k' ≡ k = omega arith in
            let over' = subst (λ k. StandsOver steps k 1 (n + 1)) same over in
            let w = (all k (omega arith)).within in
            let g = IsStage-run steps k (IsRun-less steps k (suc n) (omega arith) all) in
            let z : ℕ = (stage_after steps k).width - 1 in
            let last : (stage_after steps k).vertex z ≡ 1 = g.end z (omega arith) in
            let q : over'.place ≡ z = sym (g.own over'.place (omega arith)) ∙ (ap (stage_after steps k).place (over'.vertex ∙ sym last) ∙ g.own z (omega arith)) in
            omega (arith, q, over'.high, w, g.wide)
      ]

  -- a covered vertex is neither of the base nor the right one
  covered_inner : (k v : ℕ) → k < suc n → IsCovered short k v → (2 ≤ v) × (v + 2 < length at)
  covered_inner k v l c =
      let short_all = short_run steps n all some end in
      let g = IsStage-run short k (IsRun-less short k (suc n) (omega arith) short_all) in
      let w = (short_all k l).within in
      let own = g.own c.place (omega arith) in
      let count = count-stage_after short k in
      let older = g.placed c.place (omega arith) in
      let place : (stage_after short k).place v ≡ c.place = ap (stage_after short k).place (sym c.vertex) ∙ own in
      let z : ℕ = (stage_after short k).width - 1 in
      let first : (stage_after short k).place 0 ≡ 0 = ap (stage_after short k).place (sym g.begin) ∙ g.own 0 (omega arith) in
      let second : (stage_after short k).place 1 ≡ z = ap (stage_after short k).place (sym (g.end z (omega arith))) ∙ g.own z (omega arith) in
      let not_first : v ≢ 0 = λ q. (let r = ap (stage_after short k).place q in omega (arith, r, first, place, c.low)) in
      let not_second : v ≢ 1 = λ q. (let r = ap (stage_after short k).place q in omega (arith, r, second, place, c.high, w)) in
      let not_right : v ≢ n + 1 = λ q.
      elim (cases_eq k n) [
        | inl f ↦ right_uncovered steps n all some end ends_right (subst (λ k. IsCovered short k (n + 1)) f (subst (IsCovered short k) q c))
        | inr ne ↦ omega (arith, q, older, count, c.vertex, ne, l)
      ] in
      (omega (arith, not_first, not_second), omega (arith, not_right, older, count, c.vertex, l, size))

  two : HaveTwoLater short (suc n)
  two = HaveTwoLater-from short (suc n) (short_run steps n all some end) (λ k v l c.
      let inner = covered_inner k v l c in
      let later = order.later v inner.0 inner.1 in
      let b = over later.k later.second later.second_in later.other inner.0 in
      let j = later.first in
      let ne = later.apart in
      (later.j - 2, later.k - 2, (λ e. ne (omega arith)), omega arith, omega arith, over later.j later.first later.first_in later.one inner.0, b))
    where
      over : {v : ℕ} (j : ℕ) → v < j → j < length at → HasDart lists (name v) (name j) → 2 ≤ v → StandsOver short (j - 2) v (j - 2 + 2)
      over {v} j less l a inner =
          elim ((joined_here v j less l).0 a) [
            | inl b ↦ absurd (omega (arith, b.0, inner))
            | inr (k, m, h) ↦
                let e : k ≡ j - 2 = omega arith in
                let f : j ≡ j - 2 + 2 = omega arith in
                subst (λ z. StandsOver short (j - 2) v z) f (subst (λ z. StandsOver short z v j) e h)
          ]

  run_here : IsRectRun short n
  run_here = IsRectRun-short steps n all some end ends_right two

-- THE LAW
pub rect_order_is_run : RectOrderIsRun
rect_order_is_run lists s d p t at steps h order run =
    let e = length-closed lists s d p t h in
    let size : length at ≡ length at - 3 + 3 = omega arith in
    let m : suc (length at - 3) ≡ length at - 2 = omega arith in
    record {
      run = run_here lists s d p t at steps h order (length at - 3) size run;
      joined = λ i j less within. subst (λ k. HasDart lists (get_or at i 0) (get_or at j 0) ↔ AreJoined (shortened steps (length at - 3)) k i j) m (joined_here lists s d p t at steps h order (length at - 3) size run i j less within);
    }
