-- The next step of a run, by the nodes of the tree before it.
use Rattle.std.proofs.Common.{SFits, w32, to_z, of_z, ◌≡◌, ℕ, zero, suc, ◌+◌, ◌-◌, ◌<◌, List, length, get_or, Some, ℤ, pos, ◌+ℤ◌, refl, sym, ap, subst, ◌∙◌, arith}
use Rattle.std.proofs.lemmas.Int.{ints, to_z-of_z}
use Rattle.pg_plane.specs.Range.{IsWithin}
use Rattle.contour_runs.specs.Runs.{Step, Stage, stage_after, IsStep}
use Rattle.contour_runs.specs.Laws.{IsStage}
use Rattle.contour_runs.proofs.Stages.{IsStage-run, IsRun-less, count-stage_after}
use Rattle.fpp_shift.specs.Shift.{Places, shift_points, x_after, y_after}
use Rattle.fpp_shift.specs.Contours.{IsShift}
use Rattle.fpp_shift.proofs.Steps.{IsShift-run, top_across, top_along}
use Rattle.fpp_shift.specs.declared.offset_trees.tree_nodes.Node.{Node}
use Rattle.fpp_shift.specs.Nodes.{node_at, right_of}
use Rattle.fpp_shift.specs.OffsetTreesRows.{IsRow, far}
use Rattle.fpp_shift.specs.Next.{IsNextStep, IsTop}

at-first : (a : ℕ) → a + 0 ≡ a
at-first a = omega arith

at-next : (a i : ℕ) → a + suc i ≡ suc (a + i)
at-next a i = omega arith

module _ (at : List ℕ) (steps : ℕ → Step) (n : ℕ) (nodes : List Node) (v p q : ℕ) (next : IsNextStep at steps n nodes v p q) where
  abbrev g : Stage
  g = stage_after steps n

  abbrev s : Step
  s = steps n

  abbrev points : Places
  points = shift_points steps n

  pub stage : IsStage g
  stage = IsStage-run steps n (IsRun-less steps n (suc n) (omega arith) next.run)

  pub shift : IsShift g points
  shift = IsShift-run steps n (IsRun-less steps n (suc n) (omega arith) next.run)

  pub step : IsStep g s
  step = next.run n (omega arith)

  pub count : g.count ≡ n + 2
  count = count-stage_after steps n

  -- the row from p to q, by its names
  abbrev pub row : ℕ → ℕ
  row i = get_or at (g.vertex (s.first + i)) 0

  placed : (i : ℕ) → i < g.width → g.vertex i < length at
  placed i l = let p = stage.placed i l in let m = next.many in omega (arith, p, m, count)

  -- offsets add up to how far a vertex of the row stands to the right of p
  far-row : (i : ℕ) → s.first + i < g.width → pos (points.x (g.vertex s.first)) +ℤ far nodes row i ≡ pos (points.x (g.vertex (s.first + i)))
  far-row zero l = let x = ap (λ (j : ℕ). points.x (g.vertex j)) (at-first s.first) in omega (arith, ints, x)
  far-row (suc i) l =
      let x = ap (λ (j : ℕ). points.x (g.vertex j)) (at-next s.first i) in
      let offset = ap (λ (j : ℕ). (node_at nodes (get_or at (g.vertex j) 0)).x) (at-next s.first i) in
      omega (arith, ints, far-row i (omega arith), next.grown.gaps (s.first + i) (omega arith), x, offset)

  near : (i : ℕ) → s.first + i < g.width → IsWithin (pos 1048576) (far nodes row i)
  near i l =
      let sum = far-row i l in
      let a = shift.wide (g.vertex s.first) (stage.placed s.first (omega arith)) in
      let b = shift.wide (g.vertex (s.first + i)) (stage.placed (s.first + i) l) in
      record { least = omega (arith, ints, sum, a, b, next.few, next.many, count); most = omega (arith, ints, sum, a, b, next.few, next.many, count) }

  pub row-is : IsRow nodes row (s.last - s.first) p q
  row-is =
      let o = step.order in
      let w = step.within in
      let c = next.count in
      record {
        begin = ap (λ (j : ℕ). get_or at (g.vertex j) 0) (at-first s.first) ∙ next.left;
        end = ap (λ (i : ℕ). get_or at (g.vertex i) 0) (omega arith) ∙ next.right;
        some = omega arith;
        short = omega (arith, w, stage.few, next.many, c, count);
        inside = λ i l. next.inside (g.vertex (s.first + i)) (placed (s.first + i) (omega arith));
        links = λ i l. next.grown.along (s.first + i) (omega arith) ∙ ap (λ (j : ℕ). Some (get_or at (g.vertex j) 0)) (sym (at-next s.first i));
        apart = λ i l e.
            let same = next.apart (g.vertex (s.first + i)) (g.vertex s.last) (placed (s.first + i) (omega arith)) (placed s.last w) (e ∙ sym next.right) in
            omega (arith, sym (stage.own (s.first + i) (omega arith)) ∙ ap g.place same ∙ stage.own s.last w, l);
        near = λ i l. near i (omega arith);
      }

  abbrev x_p : ℕ
  x_p = points.x (g.vertex s.first)

  abbrev x_q : ℕ
  x_q = points.x (g.vertex s.last)

  -- where the new vertex comes
  pub across : x_after g s points g.count + points.y (g.vertex s.first) ≡ x_p + y_after g s points g.count
  across = top_across g s points stage shift step g.count refl

  pub along : x_after g s points g.count + y_after g s points g.count ≡ x_q + points.y (g.vertex s.last) + 2
  along = top_along g s points stage shift step g.count refl

  pub top-is : IsTop (far nodes row (s.last - s.first)) (node_at nodes p).y (node_at nodes q).y (x_q - x_p) (points.y (g.vertex s.first)) (points.y (g.vertex s.last)) (x_after g s points g.count - x_p) (y_after g s points g.count)
  top-is =
      let o = step.order in
      let w = step.within in
      let a = shift.across s.first s.last (omega arith) w in
      let b = shift.along s.first s.last (omega arith) w in
      let end = ap (λ (j : ℕ). points.x (g.vertex j)) (let e : s.first + (s.last - s.first) ≡ s.last = omega arith in e) in
      let q_wide = shift.wide (g.vertex s.last) (stage.placed s.last w) in
      let p_high = shift.high (g.vertex s.first) (stage.placed s.first (omega arith)) in
      let q_high = shift.high (g.vertex s.last) (stage.placed s.last w) in
      let m = across in
      let t = along in
      record {
        apart_is = omega (arith, ints, far-row (s.last - s.first) (omega arith), end, a, b);
        p_is = ap (λ (u : ℕ). (node_at nodes u).y) (sym next.left) ∙ next.grown.covered.heights (g.vertex s.first) (let l = stage.placed s.first (omega arith) in omega (arith, l, count));
        q_is = ap (λ (u : ℕ). (node_at nodes u).y) (sym next.right) ∙ next.grown.covered.heights (g.vertex s.last) (let l = stage.placed s.last w in omega (arith, l, count));
        across = omega (arith, a, b, m, t);
        high = omega (arith, a, b, m, t);
        small = omega (arith, next.few, next.many, count, a, b, q_wide, p_high, q_high);
      }

  -- ---- what the writes ask for

  pub p-inside : p < length nodes
  p-inside = subst (λ (u : ℕ). u < length nodes) row-is.begin (row-is.inside 0 (omega arith))

  pub q-inside : q < length nodes
  q-inside = subst (λ (u : ℕ). u < length nodes) row-is.end (row-is.inside (s.last - s.first) (omega arith))

  pub v-inside : v < length nodes
  v-inside = subst (λ (u : ℕ). u < length nodes) next.new (next.inside (n + 2) next.many)

  -- the vertex before q
  pub before-row : (before : ℕ) → ((row' : ℕ → ℕ) (m : ℕ) → IsRow nodes row' (suc m) p q → before ≡ row' m) → (m : ℕ) → suc m ≡ s.last - s.first → before ≡ row m
  before-row before told m e = told row m (subst (λ (k : ℕ). IsRow nodes row k p q) (sym e) row-is)

  pub before-inside : (before : ℕ) → ((row' : ℕ → ℕ) (m : ℕ) → IsRow nodes row' (suc m) p q → before ≡ row' m) → before < length nodes
  before-inside before told =
      let m = s.last - s.first - 1 in
      subst (λ (u : ℕ). u < length nodes) (sym (before-row before told m (omega (arith, step.order)))) (row-is.inside m (omega arith))

  -- the vertex after p
  pub first-of : (f : ℕ) × (right_of nodes p ≡ Some f) × (f < length nodes) × IsWithin (pos 1048576) (node_at nodes f).x
  first-of =
      let some = row-is.some in
      let near = row-is.near 1 some in
      (row 1, ap (right_of nodes) (sym row-is.begin) ∙ row-is.links 0 some, row-is.inside 1 some, record { least = (let l = near.least in omega (arith, ints, l)); most = (let m = near.most in omega (arith, ints, m)) })

  -- the same top, from numbers that are told
  pub top-told : (a b c : ℤ) → a ≡ far nodes row (s.last - s.first) → b ≡ (node_at nodes p).y → c ≡ (node_at nodes q).y → IsTop a b c (x_q - x_p) (points.y (g.vertex s.first)) (points.y (g.vertex s.last)) (x_after g s points g.count - x_p) (y_after g s points g.count)
  top-told a b c ea eb ec = grind (arith, top-is, across)

  pub near-q : IsWithin (pos 1048576) (far nodes row (s.last - s.first))
  near-q = row-is.near (s.last - s.first) (omega arith)

  -- and as a call is told them
  pub top-called :
      (a b c : ℤ) → a ≡ far nodes row (s.last - s.first) → b ≡ (node_at nodes p).y → c ≡ (node_at nodes q).y → SFits w32 b → SFits w32 c
      → IsTop (to_z w32 (of_z w32 a)) (to_z w32 (of_z w32 b)) (to_z w32 (of_z w32 c)) (x_q - x_p) (points.y (g.vertex s.first)) (points.y (g.vertex s.last)) (x_after g s points g.count - x_p) (y_after g s points g.count)
  top-called a b c ea eb ec fb fc =
      let fa : SFits w32 a = omega (arith, ints, ea, near-q.least, near-q.most) in
      top-told (to_z w32 (of_z w32 a)) (to_z w32 (of_z w32 b)) (to_z w32 (of_z w32 c)) (to_z-of_z w32 a fa ∙ ea) (to_z-of_z w32 b fb ∙ eb) (to_z-of_z w32 c fc ∙ ec)
