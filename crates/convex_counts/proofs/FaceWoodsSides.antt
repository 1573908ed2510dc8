-- The sectors at the corners of faces.
use Rattle.std.proofs.Common.{◌≡◌, ℕ, suc, ◌<◌, ◌≤◌, refl, sym, ap, ◌∙◌, subst, arith}
use Rattle.contour_runs.specs.Runs.{Stage}
use Rattle.contour_runs.specs.Laws.{IsStage}
use Rattle.contour_runs.specs.Wood.{Coordinates}
use Rattle.contour_runs.specs.FaceRuns.{Step, stage_after, IsStep, IsDartOf}
use Rattle.contour_runs.proofs.FaceRunsPlaces.{cut-last}
use Rattle.contour_runs.proofs.FaceRunsStages.{IsStage-run, IsRun-less}
use Rattle.contour_runs.proofs.FaceRunsFaces.{one_place}
use Rattle.convex_counts.specs.Counts.{face_counts}
use Rattle.convex_counts.specs.FacePointsLaws.{IsWholeRun}
use Rattle.convex_counts.specs.declared.face_woods.axis.Axis.{Axis}
use Rattle.convex_counts.specs.declared.face_woods.axis.Axis.TheVariants.{One, Two, Three}
use Rattle.convex_counts.specs.Axes.{IsAhead, IsBehind}
use Rattle.convex_counts.specs.Rising.{IsRising}
use Rattle.convex_counts.specs.FaceWoodsLaws.{AreOuterSides}
use Rattle.convex_counts.proofs.Signs.{first_sides, second_sides, third_sides, first_second_sides, second_third_sides, third_first_sides}
use Rattle.convex_counts.proofs.DartKinds.{IsKind, first, turn, second, up_last, up_middle, across, down_first, down_middle, kind_of, base_apart, right_pair, left_pair}

-- The sector in which a face lies at one of its vertices: one up to its turn, two behind that, three at a new vertex.
pub data IsLabelled (g : Stage) (s : Step) (i y : ℕ) (c : Axis) : Type 0 where
  on_first : (j : ℕ) → s.cut i ≤ j → j ≤ s.turn i → g.vertex j ≡ y → c ≡ One → IsLabelled g s i y c
  on_second : (j : ℕ) → s.turn i < j → j ≤ s.cut (suc i) → g.vertex j ≡ y → c ≡ Two → IsLabelled g s i y c
  on_third : g.count ≤ y → c ≡ Three → IsLabelled g s i y c

module _ (g : Stage) (s : Step) (stage : IsStage g) (step : IsStep g s) (i : ℕ) (l : i < s.faces) where
  within : (j : ℕ) → j ≤ s.cut (suc i) → j < g.width
  within j a = let b = cut-last g s step (suc i) l in let w = step.within in omega arith

  same : (j j' y : ℕ) → j ≤ s.cut (suc i) → j' ≤ s.cut (suc i) → g.vertex j ≡ y → g.vertex j' ≡ y → j ≡ j'
  same j j' y a b e f = one_place g s stage step j j' (within j a) (within j' b) (e ∙ sym f)

  older : (j y : ℕ) → j ≤ s.cut (suc i) → g.vertex j ≡ y → y < g.count
  older j y a e = let p = stage.placed j (within j a) in omega arith

  pub IsLabelled-alone : (y : ℕ) (c d : Axis) → IsLabelled g s i y c → IsLabelled g s i y d → c ≡ d
  IsLabelled-alone y c d (on_first j a b e f) (on_first j' a' b' e' f') = f ∙ sym f'
  IsLabelled-alone y c d (on_first j a b e f) (on_second j' a' b' e' f') = let h = step.high i l in let z = same j j' y (omega arith) b' e e' in absurd (omega arith)
  IsLabelled-alone y c d (on_first j a b e f) (on_third a' f') = let h = step.high i l in let z = older j y (omega arith) e in absurd (omega arith)
  IsLabelled-alone y c d (on_second j a b e f) (on_first j' a' b' e' f') = let h = step.high i l in let z = same j j' y b (omega arith) e e' in absurd (omega arith)
  IsLabelled-alone y c d (on_second j a b e f) (on_second j' a' b' e' f') = f ∙ sym f'
  IsLabelled-alone y c d (on_second j a b e f) (on_third a' f') = let z = older j y b e in absurd (omega arith)
  IsLabelled-alone y c d (on_third a f) (on_first j' a' b' e' f') = let h = step.high i l in let z = older j' y (omega arith) e' in absurd (omega arith)
  IsLabelled-alone y c d (on_third a f) (on_second j' a' b' e' f') = let z = older j' y b' e' in absurd (omega arith)
  IsLabelled-alone y c d (on_third a f) (on_third a' f') = f ∙ sym f'

module _ (steps : ℕ → Step) (n : ℕ) (whole : IsWholeRun steps n) where
  abbrev at : Coordinates
  at = face_counts steps n

  abbrev Rises : Axis → ℕ → ℕ → Type 0
  Rises = IsRising at

  -- the sides of a dart of a face, with the sectors at both ends
  pub record AreSides (k i x y : ℕ) : Type 0 where
    pub at_tail : Axis
    pub at_head : Axis
    pub tail : IsLabelled (stage_after steps k) (steps k) i x at_tail
    pub head : IsLabelled (stage_after steps k) (steps k) i y at_head
    pub ahead : IsAhead Rises x y at_tail
    pub behind : IsBehind Rises y x at_head

  kind_sides : (k i x y : ℕ) → k < n → i < (steps k).faces → IsKind steps n whole k i x y → AreSides k i x y
  kind_sides k i x y lk li (first p a b e f h) =
      let z = first_sides at x y h in
      record { at_tail = One; at_head = One; tail = on_first p a (omega arith) e refl; head = on_first (suc p) (omega arith) b f refl; ahead = z.0; behind = z.1 }
  kind_sides k i x y lk li (turn p a e f h) =
      let step = whole.turned.run k lk in
      let lo = step.low i li in
      let hi = step.high i li in
      let z = first_second_sides at x y h in
      record { at_tail = One; at_head = Two; tail = on_first p (omega arith) (omega arith) e refl; head = on_second (suc p) (omega arith) (omega arith) f refl; ahead = z.0; behind = z.1 }
  kind_sides k i x y lk li (second p a b e f h) =
      let z = second_sides at x y h in
      record { at_tail = Two; at_head = Two; tail = on_second p a (omega arith) e refl; head = on_second (suc p) (omega arith) b f refl; ahead = z.0; behind = z.1 }
  kind_sides k i x y lk li (up_last a e f h l) =
      let step = whole.turned.run k lk in
      let t = step.high i li in
      let there = ap (steps k).cut a ∙ step.end in
      let z = second_third_sides at x y h in
      record { at_tail = Two; at_head = Three; tail = on_second (steps k).last (omega arith) (omega arith) e refl; head = on_third (omega arith) refl; ahead = z.0; behind = z.1 }
  kind_sides k i x y lk li (up_middle a e f h h') =
      let t = (whole.turned.run k lk).high i li in
      let z = second_third_sides at x y h in
      record { at_tail = Two; at_head = Three; tail = on_second ((steps k).cut (suc i)) t (omega arith) e refl; head = on_third (omega arith) refl; ahead = z.0; behind = z.1 }
  kind_sides k i x y lk li (across a e b h) =
      let z = third_sides at x y h.one h.sum in
      record { at_tail = Three; at_head = Three; tail = on_third (omega arith) refl; head = on_third a refl; ahead = z.0; behind = z.1 }
  kind_sides k i x y lk li (down_first a e f h l) =
      let step = whole.turned.run k lk in
      let t = step.low i li in
      let there = ap (steps k).cut a ∙ step.begin in
      let z = third_first_sides at x y h in
      record { at_tail = Three; at_head = One; tail = on_third (omega arith) refl; head = on_first (steps k).first (omega arith) (omega arith) f refl; ahead = z.0; behind = z.1 }
  kind_sides k i x y lk li (down_middle a e f h h') =
      let t = (whole.turned.run k lk).low i li in
      let z = third_first_sides at x y h in
      record { at_tail = Three; at_head = One; tail = on_third (omega arith) refl; head = on_first ((steps k).cut i) (omega arith) t f refl; ahead = z.0; behind = z.1 }

  pub dart_sides : (k i x y : ℕ) → k < n → IsDartOf (stage_after steps k) (steps k) i x y → AreSides k i x y
  dart_sides k i x y lk d = kind_sides k i x y lk d.within (kind_of steps n whole k i x y lk d)

  pub corners_meet_at : (k i x y z : ℕ) → k < n → IsDartOf (stage_after steps k) (steps k) i x y → IsDartOf (stage_after steps k) (steps k) i y z → (c : Axis) × IsBehind Rises y x c × IsAhead Rises y z c
  corners_meet_at k i x y z lk d e =
      let a = dart_sides k i x y lk d in
      let b = dart_sides k i y z lk e in
      let stage = IsStage-run steps k (IsRun-less steps k n (omega arith) whole.turned.run) in
      let same = IsLabelled-alone (stage_after steps k) (steps k) stage (whole.turned.run k lk) i d.within y a.at_head b.at_tail a.head b.tail in
      (a.at_head, a.behind, subst (IsAhead Rises y z) (sym same) b.ahead)

  -- outside
  pub outer_sides_at : 0 < n → AreOuterSides steps n whole.top
  outer_sides_at some = record {
    right = λ p x y l a. let z = second_sides at x y (right_pair steps n whole p x y l a) in record { tail = z.0; head = z.1 };
    left = λ p x y l a. let z = first_sides at x y (left_pair steps n whole p x y l a) in record { tail = z.0; head = z.1 };
    base = let b = base_apart steps n whole some in let z = third_sides at 1 0 b.one b.sum in record { tail = z.0; head = z.1 };
  }
