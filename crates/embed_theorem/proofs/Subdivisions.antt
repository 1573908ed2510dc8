-- A subdivision of a pattern in a map: ways between branches, where they go and what follows what.
use Rattle.std.proofs.Common.{◌≡◌, ◌≢◌, ◌⊎◌, ℕ, zero, suc, ◌+◌, ◌-◌, ◌<◌, ◌≤◌, not, Bool, true, false, List, length, Contains, AllPairs, refl, sym, ap, ap₂, ◌∙◌, subst, inl, inr, arith}
use Rattle.std.proofs.lemmas.Bool.{cases_eq, true≢false}
use Rattle.std.proofs.lemmas.Bool.Decides.{nat_tests}
use Rattle.map_lists.specs.Lists.{Lists}
use Rattle.map_theory.specs.Maps.{Dart, HasDart, IsSimpleMap, list_of, follows, dart_number, dart_count, entry_after, place_of}
use Rattle.map_theory.proofs.DartLemmas.{HasDart-follows, place_of-entry_after, place_of-lt-length, get_or-place_of, place_after}
use Rattle.std.proofs.Math.ListN.{get_or}
use Rattle.classes.specs.Classes.{label}
use Rattle.classes.proofs.Classes.{Together}
use Rattle.classes.proofs.Orbits.{orbits_of}
use Rattle.classes.proofs.Bound.{after}
use Rattle.map_theory.proofs.DartPermutations.{rotation, twin}
use Rattle.plane_laws.proofs.DartPaths.{face_step_together}

-- a path, and whether it is gone along forwards
abbrev pub Way : Type 0
Way = ℕ × Bool

abbrev pub back : Way → Way
back w = (w.0, not w.1)

-- which branches the paths of a pattern join: `count` paths, path p from `first p` to `second p`, of branches below n
abbrev pub from_of : (ℕ → ℕ) → (ℕ → ℕ) → Way → ℕ
from_of first second (p, true) = first p
from_of first second (p, false) = second p

abbrev pub to_of : (ℕ → ℕ) → (ℕ → ℕ) → Way → ℕ
to_of first second w = from_of first second (back w)

-- A pattern: no path joins a branch to itself, no two the same branches; from each branch go `degree` ways to different ones, two at least.
pub record IsPattern (n count degree : ℕ) (first second : ℕ → ℕ) : Type 0 where
  pub low : (p : ℕ) → p < count → first p < n
  pub low' : (p : ℕ) → p < count → second p < n
  pub ends : (p : ℕ) → p < count → first p ≢ second p
  pub single : (w z : Way) → w.0 < count → z.0 < count → from_of first second w ≡ from_of first second z → to_of first second w ≡ to_of first second z → w ≡ z
  pub two : 2 ≤ degree
  pub near : (a : ℕ) → ℕ → Way
  pub near_in : (a j : ℕ) → a < n → j < degree → ((near a j).0 < count) × (from_of first second (near a j) ≡ a)
  pub near_apart : (a i j : ℕ) → a < n → i < degree → j < degree → to_of first second (near a i) ≡ to_of first second (near a j) → i ≡ j

-- A subdivision of it, all of a map: vertex i of path p is `at p i`, up to `size p`.
pub record IsSubdivision (n count : ℕ) (first second branch size : ℕ → ℕ) (at : ℕ → ℕ → ℕ) (lists : Lists) : Type 0 where
  pub long : (p : ℕ) → p < count → 1 ≤ size p
  pub starts : (p : ℕ) → p < count → at p 0 ≡ branch (first p)
  pub stops : (p : ℕ) → p < count → at p (size p) ≡ branch (second p)
  pub distinct : (a b : ℕ) → a < n → b < n → branch a ≡ branch b → a ≡ b
  pub no_branch : (p i a : ℕ) → p < count → 0 < i → i < size p → a < n → at p i ≢ branch a
  pub once : (p q i j : ℕ) → p < count → q < count → 0 < i → i < size p → 0 < j → j < size q → at p i ≡ at q j → (p ≡ q) × (i ≡ j)
  pub steps : (p i : ℕ) → p < count → i < size p → HasDart lists (at p i) (at p (suc i))
  pub only : (x y : ℕ) → HasDart lists x y → (p : ℕ) × (i : ℕ) × (p < count) × (i < size p) × (((x ≡ at p i) × (y ≡ at p (suc i))) ⊎ ((y ≡ at p i) × (x ≡ at p (suc i))))

-- an entry with another in its list is followed by another
entry_moves : (us : List ℕ) (x z : ℕ) → AllPairs ◌≢◌ us → Contains us x → Contains us z → z ≢ x → entry_after x us ≢ x
entry_moves us x z apart has other ne e =
    let lx = place_of-lt-length x us has in
    let lz = place_of-lt-length z us other in
    let gz = get_or-place_of z us 0 lz in
    let one : length us ≡ 1 = alone (length us) (place_of x us) lx (ap (λ y. place_of y us) (sym e) ∙ (place_of-entry_after x us apart has)) in
    ne (sym gz ∙ (ap (λ k. get_or us k 0) (let q : place_of z us ≡ place_of x us = omega arith in q) ∙ (get_or-place_of x us 0 lx)))
  where
    alone : (n k : ℕ) → k < n → k ≡ place_after n k → n ≡ 1
    alone n k l e = grind (arith, nat_tests)

module _ (n count degree : ℕ) (first second branch size : ℕ → ℕ) (at : ℕ → ℕ → ℕ) (lists : Lists) (simple : IsSimpleMap lists) (pattern : IsPattern n count degree first second) (sub : IsSubdivision n count first second branch size at lists) where
  abbrev pub from : Way → ℕ
  from w = from_of first second w

  abbrev pub to : Way → ℕ
  to w = to_of first second w

  -- vertex i of a way
  abbrev pub vertex : Way → ℕ → ℕ
  vertex (p, true) i = at p i
  vertex (p, false) i = at p (size p - i)

  pub from_low : (w : Way) → w.0 < count → from w < n
  from_low (p, true) l = pattern.low p l
  from_low (p, false) l = pattern.low' p l

  pub to_low : (w : Way) → w.0 < count → to w < n
  to_low w l = from_low (back w) l

  pub ends_apart : (w : Way) → w.0 < count → from w ≢ to w
  ends_apart (p, true) l = pattern.ends p l
  ends_apart (p, false) l = λ e. pattern.ends p l (sym e)

  back_back : (w : Way) → back (back w) ≡ w
  back_back (p, true) = refl
  back_back (p, false) = refl

  back_other : (w : Way) → w ≢ back w
  back_other (p, true) e = true≢false (ap (λ (z : Way). z.1) e)
  back_other (p, false) e = true≢false (sym (ap (λ (z : Way). z.1) e))

  -- a way begins at its branch
  pub vertex_first : (w : Way) → w.0 < count → vertex w 0 ≡ branch (from w)
  vertex_first (p, true) l = sub.starts p l
  vertex_first (p, false) l = let e : size p - 0 ≡ size p = omega arith in ap (at p) e ∙ sub.stops p l

  -- the way back
  pub vertex_back : (w : Way) (i : ℕ) → w.0 < count → i ≤ size w.0 → vertex (back w) i ≡ vertex w (size w.0 - i)
  vertex_back (p, true) i l m = refl
  vertex_back (p, false) i l m = let e : i ≡ size p - (size p - i) = omega arith in ap (at p) e

  pub vertex_last : (w : Way) → w.0 < count → vertex w (size w.0) ≡ branch (to w)
  vertex_last (p, true) l = sub.stops p l
  vertex_last (p, false) l = let e : size p - size p ≡ 0 = omega arith in ap (at p) e ∙ sub.starts p l

  -- its steps are darts
  pub way_dart : (w : Way) (i : ℕ) → w.0 < count → i < size w.0 → HasDart lists (vertex w i) (vertex w (suc i))
  way_dart (p, true) i l m = sub.steps p i l m
  way_dart (p, false) i l m =
      let d = sub.steps p (size p - suc i) l (omega arith) in
      let e : suc (size p - suc i) ≡ size p - i = omega arith in
      subst (λ x. HasDart lists (at p x) (at p (size p - suc i))) e (simple.both_ways (at p (size p - suc i)) (at p (suc (size p - suc i))) d)

  -- and each dart is one
  pub step_of : (x y : ℕ) → HasDart lists x y → (w : Way) × (i : ℕ) × (w.0 < count) × (i < size w.0) × (x ≡ vertex w i) × (y ≡ vertex w (suc i))
  step_of x y d =
      let r = sub.only x y d in
      elim r.4 [
        | inl e ↦ ((r.0, true), r.1, r.2, r.3, e.0, e.1)
        | inr e ↦
            let p = r.0 in
            let a : suc r.1 ≡ size p - (size p - suc r.1) = omega arith in
            let b : r.1 ≡ size p - suc (size p - suc r.1) = omega arith in
            ((p, false), size p - suc r.1, r.2, omega arith, e.1 ∙ ap (at p) a, e.0 ∙ ap (at p) b)
      ]

  -- inner vertices are no branches
  pub inner_no_branch : (w : Way) (i a : ℕ) → w.0 < count → 0 < i → i < size w.0 → a < n → vertex w i ≢ branch a
  inner_no_branch (p, true) i a l o m k = sub.no_branch p i a l o m k
  inner_no_branch (p, false) i a l o m k = sub.no_branch p (size p - i) a l (omega arith) (omega arith) k

  -- an inner vertex stands at one place of one way, and at the mirrored one of the way back
  pub inner_once : (w z : Way) (i j : ℕ) → w.0 < count → z.0 < count → 0 < i → i < size w.0 → 0 < j → j < size z.0 → vertex w i ≡ vertex z j → ((z ≡ w) × (j ≡ i)) ⊎ ((z ≡ back w) × (j + i ≡ size w.0))
  inner_once x0 x1 i j l m a b c d e = grind arith

  -- no vertex stands twice on a way
  pub way_apart : (w : Way) (i j : ℕ) → w.0 < count → i < j → j ≤ size w.0 → vertex w i ≢ vertex w j
  way_apart w i j l m o e = grind (arith, cases_eq, vertex, from, vertex_first, ends_apart, to, from_low, to_low, vertex_last, inner_no_branch, inner_once, back_other)

  -- ---- inside a way
  -- the neighbours of an inner vertex
  around_inner : (w : Way) (i y : ℕ) → w.0 < count → suc i < size w.0 → HasDart lists (vertex w (suc i)) y → (y ≡ vertex w i) ⊎ (y ≡ vertex w (suc (suc i)))
  around_inner w i y l m d =
      let r = step_of (vertex w (suc i)) y d in
      let z = r.0 in
      elim (cases_eq r.1 0) [
        | inl zj ↦ absurd (inner_no_branch w (suc i) (from z) l (omega arith) m (from_low z r.2) (r.4 ∙ (ap (vertex z) zj ∙ vertex_first z r.2)))
        | inr nj ↦ elim (inner_once w z (suc i) r.1 l r.2 (omega arith) m (omega arith) r.3 r.4) [
          | inl h ↦ inr (r.5 ∙ ap₂ vertex h.0 (ap suc h.1))
          | inr h ↦ grind (arith, vertex, vertex_back)
        ]
      ]

  -- the face goes on along a way
  pub follow_inner : (w : Way) (i : ℕ) → w.0 < count → suc i < size w.0 → follows lists (vertex w (suc i)) (vertex w i) ≡ vertex w (suc (suc i))
  follow_inner w i l m =
      let home = simple.both_ways (vertex w i) (vertex w (suc i)) (way_dart w i l (omega arith)) in
      let on = way_dart w (suc i) l m in
      let moves = entry_moves (list_of lists (vertex w (suc i))) (vertex w i) (vertex w (suc (suc i))) (simple.no_repeat (vertex w (suc i)) home.0) home.1 on.1 (λ e. way_apart w i (suc (suc i)) l (omega arith) (omega arith) (sym e)) in
      elim (around_inner w i (follows lists (vertex w (suc i)) (vertex w i)) l m (HasDart-follows lists (vertex w (suc i)) (vertex w i) home)) [
        | inl e ↦ absurd (moves e)
        | inr e ↦ e
      ]

  -- ---- at a branch
  pub around_branch : (a y : ℕ) → a < n → HasDart lists (branch a) y → (w : Way) × (w.0 < count) × (from w ≡ a) × (y ≡ vertex w 1)
  around_branch a y l d =
      grind (arith, step_of (branch a) y d, cases_eq, from, from_low, vertex, vertex_first, inner_no_branch)

  -- first steps of ways from one branch differ
  pub first_apart : (w z : Way) → w.0 < count → z.0 < count → from w ≡ from z → vertex w 1 ≡ vertex z 1 → to w ≡ to z
  first_apart w z l m e f = grind (arith, cases_eq, vertex, to, vertex_last, to_low, inner_no_branch, inner_once, ends_apart, from)

  -- the face turns into another way at the end of one
  pub follow_last : (w : Way) (i : ℕ) → w.0 < count → suc i ≡ size w.0 → (z : Way) × (z.0 < count) × (from z ≡ to w) × (to z ≢ from w) × (follows lists (vertex w (suc i)) (vertex w i) ≡ vertex z 1)
  follow_last w i l e =
      let a = to w in
      let la = to_low w l in
      let last : vertex w (suc i) ≡ branch a = ap (vertex w) e ∙ vertex_last w l in
      let home = simple.both_ways (vertex w i) (vertex w (suc i)) (way_dart w i l (omega arith)) in
      let next = HasDart-follows lists (vertex w (suc i)) (vertex w i) home in
      let r = around_branch a (follows lists (vertex w (suc i)) (vertex w i)) la (subst (λ x. HasDart lists x (follows lists (vertex w (suc i)) (vertex w i))) last next) in
      let own : vertex (back w) 1 ≡ vertex w i = vertex_back w 1 l (sub.long w.0 l) ∙ ap (vertex w) (let s : size w.0 - 1 ≡ i = omega arith in s) in
      let moves : follows lists (vertex w (suc i)) (vertex w i) ≢ vertex w i = other_entry a la (vertex w (suc i)) (vertex w i) last home in (
        r.0,
        r.1,
        r.2,
        (λ q.
            moves (r.3 ∙ (ap (λ x. vertex x 1) (pattern.single r.0 (back w) r.1 l r.2 (q ∙ ap from (sym (back_back w)))) ∙ own))),
        r.3,
      )
    where
      other_entry : (a : ℕ) → a < n → (v u : ℕ) → v ≡ branch a → HasDart lists v u → follows lists v u ≢ u
      other_entry a la v u q home =
          let w0 = pattern.near a 0 in
          let w1 = pattern.near a 1 in
          let i0 = pattern.near_in a 0 la (omega arith) in
          let i1 = pattern.near_in a 1 la (omega arith) in
          let d0 = subst (λ x. HasDart lists x (vertex w0 1)) (vertex_first w0 i0.0 ∙ (ap branch i0.1 ∙ sym q)) (way_dart w0 0 i0.0 (sub.long w0.0 i0.0)) in
          let d1 = subst (λ x. HasDart lists x (vertex w1 1)) (vertex_first w1 i1.0 ∙ (ap branch i1.1 ∙ sym q)) (way_dart w1 0 i1.0 (sub.long w1.0 i1.0)) in
          let repeat = simple.no_repeat v home.0 in
          elim (cases_eq (vertex w0 1) u) [
            | inr ne ↦ entry_moves (list_of lists v) u (vertex w0 1) repeat home.1 d0.1 ne
            | inl e0 ↦ elim (cases_eq (vertex w1 1) u) [
              | inr ne ↦ entry_moves (list_of lists v) u (vertex w1 1) repeat home.1 d1.1 ne
              | inl e1 ↦ absurd (omega (arith, pattern.near_apart a 0 1 la (omega arith) (omega arith) (first_apart w0 w1 i0.0 i1.0 (i0.1 ∙ sym i1.1) (e0 ∙ sym e1))))
            ]
          ]

  -- ---- along a face
  abbrev pub faces : List ℕ
  faces = orbits_of (after (rotation lists) (twin lists)) (dart_count lists)

  -- the number of step i of a way
  abbrev pub number : Way → ℕ → ℕ
  number w i = dart_number lists (vertex w i, vertex w (suc i))

  pub turn : (d : ℕ) (w : Way) (i : ℕ) → w.0 < count → d + suc i ≡ size w.0 → (z : Way) × (z.0 < count) × (from z ≡ to w) × (to z ≢ from w) × Together faces (number w i) (number z 0)
  turn zero w i l e =
      let r = follow_last w i l (omega arith) in
      let t = face_step_together lists simple (vertex w i, vertex w (suc i)) (way_dart w i l (omega arith)) in
      let v : vertex w (suc i) ≡ vertex r.0 0 = ap (vertex w) (let s : suc i ≡ size w.0 = omega arith in s) ∙ (vertex_last w l ∙ (ap branch (sym r.2) ∙ sym (vertex_first r.0 r.1))) in
      (r.0, r.1, r.2, r.3, t ∙ ap (λ x. label faces (dart_number lists x)) (ap₂ (λ x y. let p : Dart = (x, y) in p) v r.4))
  turn (suc d) w i l e =
      let r = turn d w (suc i) l (omega arith) in
      let t = face_step_together lists simple (vertex w i, vertex w (suc i)) (way_dart w i l (omega arith)) in
      (r.0, r.1, r.2, r.3, t ∙ (ap (λ y. label faces (dart_number lists (vertex w (suc i), y))) (follow_inner w i l (omega arith)) ∙ r.4))
