-- In the run of a canonical order vertices are joined exactly where they are adjacent.
use Rattle.std.proofs.Common.{◌≡◌, ◌≢◌, ◌⊎◌, ◌↔◌, ℕ, suc, ◌+◌, ◌-◌, ◌<◌, List, length, get_or, sym, ◌∙◌, subst, inl, inr, arith}
use Rattle.std.proofs.lemmas.Bool.{cases_eq}
use Rattle.map_lists.specs.Lists.{Lists}
use Rattle.map_theory.specs.Maps.{Dart, HasDart, follows}
use Rattle.plane_laws.specs.Triangulations.{IsTriangulation}
use Rattle.plane_peeling.specs.Restricted.{IsDartOfThree}
use Rattle.plane_peeling.proofs.OuterCycles.{IsFaceOfThree-turned}
use Rattle.canon_order.specs.Orders.{IsCanonicalOrder}
use Rattle.canon_order.proofs.Counters.{same_place}
use Rattle.contour_runs.specs.Runs.{Step, IsRun, IsFaceOf, IsDartOf}
use Rattle.contour_runs.proofs.Stages.{IsStage-run, IsRun-less, count-stage_after}
use Rattle.order_drawings.specs.OrderRuns.{IsMadeByStep, IsOrderRun}
use Rattle.rect_runs.specs.RectBoxesLaws.{AreJoined}
use Rattle.rect_runs.proofs.Faces.{joined_by_faces}

-- a dart is one of three or not
cases_pair : (x y a b : ℕ) → ((x ≡ a) × (y ≡ b)) ⊎ (¬ ((x ≡ a) × (y ≡ b)))
cases_pair x y a b =
    elim (cases_eq x a) [
      | inr n ↦ inr (λ e. n e.0)
      | inl e ↦ elim (cases_eq y b) [ inl f ↦ inl (e, f) | inr n ↦ inr (λ e. n e.1) ]
    ]

cases_three : (a b c x y : ℕ) → IsDartOfThree a b c x y ⊎ (¬ IsDartOfThree a b c x y)
cases_three a b c x y = grind (arith, cases_pair)

-- a triangle goes along an edge in one direction
one_direction : (a b c x y : ℕ) → a ≢ b → b ≢ c → c ≢ a → IsDartOfThree a b c x y → IsDartOfThree a b c y x → ⊥
one_direction a b c x y ab bc ca d e = grind arith

module _ (lists : Lists) (base : Dart) (at : List ℕ) (triangulation : IsTriangulation lists) (order : IsCanonicalOrder lists base at) (steps : ℕ → Step) (n : ℕ) (size : length at ≡ n + 3) (h : IsOrderRun lists base at order.cycle steps) (apart : (base.0 ≢ base.1) × (base.1 ≢ follows lists base.1 base.0) × (follows lists base.1 base.0 ≢ base.0)) where
  pub whole : IsRun steps (suc n)
  whole = let e : length at - 2 ≡ suc n = omega arith in subst (IsRun steps) e h.run

  abbrev name : ℕ → ℕ
  name i = get_or at i 0

  same_name : (i j : ℕ) → i < length at → j < length at → name i ≡ name j → i ≡ j
  same_name i j l m e = same_place at i j order.built.once l m e

  -- the vertices of a face
  within : (k i a b v : ℕ) → k < suc n → IsFaceOf steps k i a b v → (a < length at) × (b < length at) × (v < length at)
  within k i a b v l f =
      let w = (whole k l).within in
      let g = IsStage-run steps k (IsRun-less steps k (suc n) (omega arith) whole) in
      let c = count-stage_after steps k in
      (omega arith, omega arith, omega arith)

  -- a dart that a step makes, by places
  made_dart : (i j : ℕ) → i < length at → j < length at → IsMadeByStep at steps (name i) (name j) → (k : ℕ) × (place : ℕ) × (k < suc n) × IsDartOf steps k place i j
  made_dart i j l m made =
      let k : made.step < suc n = omega arith in
      let w = within made.step made.place made.a made.b made.v k made.face in (
        made.step,
        made.place,
        k,
        record {
          a = made.a;
          b = made.b;
          v = made.v;
          face = made.face;
          dart = elim made.dart [
            | inl d ↦ inl (same_name i made.a l w.0 d.0, same_name j made.b m w.1 d.1)
            | inr (inl d) ↦ inr (inl (same_name i made.b l w.1 d.0, same_name j made.v m w.2 d.1))
            | inr (inr d) ↦ inr (inr (same_name i made.v l w.2 d.0, same_name j made.a m w.0 d.1))
          ];
        },
      )

  -- and a dart of a face made is one of the map
  dart_made : (k place i j : ℕ) → k < suc n → IsDartOf steps k place i j → HasDart lists (name i) (name j)
  dart_made k place i j l d =
      let f = h.faces k place d.a d.b d.v (omega arith) d.face in
      let f' = IsFaceOfThree-turned lists (name d.a) (name d.b) (name d.v) triangulation.simple f in
      elim d.dart [
        | inl e ↦ named i j d.a d.b e.0 e.1 f.dart
        | inr (inl e) ↦ named i j d.b d.v e.0 e.1 f'.dart
        | inr (inr e) ↦ named i j d.v d.a e.0 e.1 (IsFaceOfThree-turned lists (name d.b) (name d.v) (name d.a) triangulation.simple f').dart
      ]
    where
      named : (i j a b : ℕ) → i ≡ a → j ≡ b → HasDart lists (name a) (name b) → HasDart lists (name i) (name j)
      named i j a b e e' x = subst (λ z. HasDart lists (name z) (name j)) (sym e) (subst (λ z. HasDart lists (name a) (name z)) (sym e') x)

  adjacent_joined : (i j : ℕ) → i < j → j < length at → HasDart lists (name i) (name j) → AreJoined steps (suc n) i j
  adjacent_joined i j less l d =
      (joined_by_faces steps n i j whole less).1
      (elim (cases_three base.0 base.1 (follows lists base.1 base.0) (name i) (name j)) [
        | inr other ↦
            let made = made_dart i j (omega arith) l (h.made (name i) (name j) d other) in
            (made.0, made.1, made.2, inl made.3)
        | inl in_base ↦
            let made =
            made_dart j i l (omega arith)
            (h.made (name j) (name i) (triangulation.simple.both_ways (name i) (name j) d)
            (λ again. one_direction base.0 base.1 (follows lists base.1 base.0) (name i) (name j) apart.0 apart.1 apart.2 in_base again)) in
            (made.0, made.1, made.2, inr made.3)
      ])

  joined_adjacent : (i j : ℕ) → i < j → j < length at → AreJoined steps (suc n) i j → HasDart lists (name i) (name j)
  joined_adjacent i j less l joined =
      let made = (joined_by_faces steps n i j whole less).0 joined in
      elim made.3 [
        | inl d ↦ dart_made made.0 made.1 i j made.2 d
        | inr d ↦ triangulation.simple.both_ways (name j) (name i) (dart_made made.0 made.1 j i made.2 d)
      ]

  pub joined_closed : (i j : ℕ) → i < j → j < length at → HasDart lists (name i) (name j) ↔ AreJoined steps (suc n) i j
  joined_closed i j less l = (adjacent_joined i j less l, joined_adjacent i j less l)
