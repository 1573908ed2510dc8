-- The boxes of a run with the last vertex on top.
use Rattle.std.proofs.Common.{◌≡◌, ◌↔◌, ℕ, zero, suc, ◌+◌, ◌*◌, ◌-◌, ◌<◌, ◌≤◌, refl, sym, ap, ap₂, subst, ◌∙◌, inl, inr, arith}
use Rattle.std.proofs.Math.Nat.{mul-suc}
use Rattle.std.proofs.lemmas.Bool.{cases_eq, cases_lt, true≢false}
use Rattle.contour_runs.specs.Runs.{Step, Stage, stage_after}
use Rattle.contour_runs.proofs.Stages.{IsStage-run, IsRun-less, count-stage_after}
use Rattle.rect_runs.specs.Labels.{labels, IsLabelledRun}
use Rattle.rect_runs.specs.Numbers.{Numbers, numbers, turn_of}
use Rattle.rect_runs.proofs.Left.{IsPut}
use Rattle.rect_runs.proofs.Steps.{numbers_fit, steps_fit, bounded, turn-step, with_new-older, with_new-new}
use Rattle.rect_runs.specs.Boxes.{Boxes, lower_boxes, boxes, grid_width, ceiling, grid_height, IsRectRun}
use Rattle.rect_runs.specs.Later.{StandsOver}
use Rattle.rect_runs.specs.Corners.{run_in, rise_out, run_out, rise_in}
use Rattle.rect_runs.specs.Ends.{IsEndAt, EdgesMeet}
use Rattle.rect_runs.specs.RectBoxesLaws.{AreJoined, IsBeside, IsAbove, ShareSide, area_of, AreFilling, IsFramed, IsRunDual}
use Rattle.rect_runs.proofs.Sides.{right_is, right_within, right_free, high_is, high_within, high_free, high_first}
use Rattle.rect_runs.proofs.RectBoxesEnds.{last_rise, zeros, labelled-less, closed, grid_bounded}
use Rattle.rect_runs.proofs.RectBoxesFrame.{right_stands}
use Rattle.rect_runs.proofs.Skyline.{IsLaid, settled_right, settled_high}
use Rattle.rect_runs.proofs.Cells.{cells_at}
use Rattle.rect_runs.proofs.Contacts.{row, joined_shares, shares_joined}
use Rattle.rect_runs.proofs.Totals.{total-same}
use Rattle.rect_runs.proofs.Areas.{AreCovering, area_of-covering, area_of-total, apart_of}
use Rattle.rect_runs.proofs.Corners.{older-left, older-below, new-left, new-below}

-- u has the same box in both
record IsSameBox (b d : Boxes) (u : ℕ) : Type 0 where
  left : d.left u ≡ b.left u
  right : d.right u ≡ b.right u
  low : d.low u ≡ b.low u
  high : d.high u ≡ b.high u

IsBeside-same : (b d : Boxes) (u v : ℕ) → IsSameBox b d u → IsSameBox b d v → IsBeside b u v → IsBeside d u v
IsBeside-same b d u v e f x = record { line = omega (arith, e.right, f.left, x.line); first = omega (arith, e.low, f.high, x.first); second = omega (arith, f.low, e.high, x.second) }

IsAbove-same : (b d : Boxes) (u v : ℕ) → IsSameBox b d u → IsSameBox b d v → IsAbove b u v → IsAbove d u v
IsAbove-same b d u v e f x = record { line = omega (arith, e.high, f.low, x.line); first = omega (arith, e.left, f.right, x.first); second = omega (arith, f.left, e.right, x.second) }

ShareSide-same : (b d : Boxes) (u v : ℕ) → IsSameBox b d u → IsSameBox b d v → ShareSide b u v → ShareSide d u v
ShareSide-same b d u v e f x = grind (arith, IsBeside-same, IsAbove-same)

IsSameBox-back : (b d : Boxes) (u : ℕ) → IsSameBox b d u → IsSameBox d b u
IsSameBox-back b d u e = record { left = sym e.left; right = sym e.right; low = sym e.low; high = sym e.high }

module _ (steps : ℕ → Step) (n : ℕ) (h : IsRectRun steps n) where
  abbrev at : Numbers
  at = numbers steps n

  abbrev width : ℕ
  width = grid_width steps n

  abbrev top : ℕ
  top = ceiling steps n

  abbrev lower : Boxes
  lower = lower_boxes steps n

  abbrev all : Boxes
  all = boxes steps n

  abbrev g : Stage
  g = stage_after steps n

  labelled : IsLabelledRun steps n
  labelled = labelled-less steps n h

  put : (k : ℕ) → k < n → IsPut (stage_after steps k) (labels steps k) (turn_of steps k) (k + 2) at
  put k l = steps_fit steps k n labelled l

  few_x : (v : ℕ) → v < n + 2 → at.x v < width
  few_x v l = let e = (bounded steps n v labelled l).0 in omega arith

  few_y : (v : ℕ) → v < n + 2 → at.y v < top
  few_y v l = let e = (bounded steps n v labelled l).1 in omega arith

  high_end : (i : ℕ) → suc i < g.width → lower.high (g.vertex i) ≡ top
  high_end zero l = high_first steps n labelled at put top few_y
  high_end (suc i) l = high_free steps n labelled at put top few_y i (omega arith) (closed steps n h i l)

  laid : IsLaid steps n lower width top
  laid = record {
    labelled = labelled;
    some = let s = h.some in omega arith;
    numbered = λ k l. numbers_fit steps k n labelled l;
    put = put;
    right_is = λ k j l p q. right_is steps n labelled at put width few_x n k j (omega arith) l p q;
    high_is = λ k j l p q. high_is steps n labelled at put top few_y n k j (omega arith) l p q;
    wide = λ v l. (right_within steps n labelled at put width few_x n v (omega arith) l).0;
    tall = λ v l. (high_within steps n labelled at put top few_y n v (omega arith) l).0;
    within = λ v l. ((right_within steps n labelled at put width few_x n v (omega arith) l).1, (high_within steps n labelled at put top few_y n v (omega arith) l).1);
    zeros = zeros steps n labelled;
    closed = closed steps n h;
    last_rise = λ i e. last_rise steps n i labelled.run e;
    right_end = λ i l m. right_free steps n labelled at put width few_x i l (elim (cases_eq (suc i) g.width) [ inl e ↦ inr e | inr ne ↦ inl (last_rise steps n i labelled.run (omega arith)) ]);
    high_end = high_end;
  }

  -- the boxes below are the same
  same_box : (v : ℕ) → v < n + 2 → IsSameBox lower all v
  same_box v l = record { left = with_new-older (n + 2) _ _ v l; right = with_new-older (n + 2) _ _ v l; low = with_new-older (n + 2) _ _ v l; high = with_new-older (n + 2) _ _ v l }

  -- and the last one is over all
  record IsTopBox (v : ℕ) : Type 0 where
    left : all.left v ≡ 0
    right : all.right v ≡ width
    low : all.low v ≡ top
    high : all.high v ≡ suc top

  top_box : (v : ℕ) → v ≡ n + 2 → IsTopBox v
  top_box v e = record { left = with_new-new (n + 2) _ _ v e; right = with_new-new (n + 2) _ _ v e; low = with_new-new (n + 2) _ _ v e; high = with_new-new (n + 2) _ _ v e }

  -- what the last vertex touches
  top_shares : (u v : ℕ) → StandsOver steps n u v → ShareSide all u v
  top_shares u v p = grind (arith, top_box, IsStage-run, labelled, count-stage_after, same_box, laid, high_end, lower)

  -- a vertex over which one of the steps puts another is one of the first
  under_is_older : (k u v : ℕ) → k < suc n → StandsOver steps k u v → u < n + 2
  under_is_older k u v l p = grind (arith, IsRun-less, labelled, IsStage-run, count-stage_after)

  -- the last vertex is put over the first one alone with the edge between as a run
  turns_at_first : (u v : ℕ) (p : StandsOver steps n u v) → p.place ≤ turn_of steps n → (u ≡ 0) × (v ≡ n + 2)
  turns_at_first u v p l = grind (arith, turn-step, labelled, turn_of, cases_lt, true≢false, closed, IsStage-run)

  run_meets : (u v : ℕ) → ¬ ((u ≡ 0) × (v ≡ n + 2)) → IsEndAt steps (suc n) u v run_out → all.right u ≡ all.left v
  run_meets u v off (inr x) = absurd (elim (cases_lt (turn_of steps x.step) x.over.place) [
    | inl m ↦ (let e : run_out ≡ rise_in = x.end_is ∙ new-below (turn_of steps x.step) x.over.place m in cc)
    | inr m ↦ (let e : run_out ≡ run_in = x.end_is ∙ new-left (turn_of steps x.step) x.over.place m in cc)
  ])
  run_meets u v off (inl x) = elim (cases_lt (turn_of steps x.step) x.over.place) [
    | inl m ↦ absurd (let e : run_out ≡ rise_out = x.end_is ∙ older-below (turn_of steps x.step) x.over.place m in cc)
    | inr m ↦ elim (cases_eq x.step n) [
      | inl e ↦ absurd (let over = subst (λ k. (p : StandsOver steps k u v) × (p.place ≤ turn_of steps k)) e (x.over, m) in off (turns_at_first u v over.0 over.1))
      | inr ne ↦
          (same_box u (under_is_older x.step u v x.before x.over)).right
          ∙ (ap lower.right (sym x.over.vertex)
          ∙ (laid.right_is x.step x.over.place (omega arith) x.over.low m
          ∙ (ap lower.left (sym x.over.new) ∙ sym (same_box v (omega arith)).left)))
    ]
  ]

  rise_meets : (u v : ℕ) → IsEndAt steps (suc n) u v rise_out → all.high u ≡ all.low v
  rise_meets u v (inr x) = absurd (elim (cases_lt (turn_of steps x.step) x.over.place) [
    | inl m ↦ (let e : rise_out ≡ rise_in = x.end_is ∙ new-below (turn_of steps x.step) x.over.place m in cc)
    | inr m ↦ (let e : rise_out ≡ run_in = x.end_is ∙ new-left (turn_of steps x.step) x.over.place m in cc)
  ])
  rise_meets u v (inl x) = elim (cases_lt (turn_of steps x.step) x.over.place) [
    | inr m ↦ absurd (let e : rise_out ≡ run_out = x.end_is ∙ older-left (turn_of steps x.step) x.over.place m in cc)
    | inl m ↦ elim (cases_eq x.step n) [
      | inl e ↦
          let over = subst (λ k. StandsOver steps k u v) e x.over in
          (same_box u (under_is_older n u v (omega arith) over)).high
          ∙ (ap lower.high (sym over.vertex) ∙ (high_end over.place (omega arith) ∙ sym (top_box v over.new).low))
      | inr ne ↦
          (same_box u (under_is_older x.step u v x.before x.over)).high
          ∙ (ap lower.high (sym x.over.vertex)
          ∙ (laid.high_is x.step x.over.place (omega arith) m x.over.high
          ∙ (ap lower.low (sym x.over.new) ∙ sym (same_box v (omega arith)).low)))
    ]
  ]

  top_above : (u v : ℕ) → u < n + 2 → v ≡ n + 2 → lower.high u ≡ top → StandsOver steps n u v
  top_above u v older z e =
      let stage = IsStage-run steps n labelled.run in
      let count = count-stage_after steps n in
      let wide = laid.wide u older in
      let tall = laid.tall u older in
      let within = (laid.within u older).0 in
      let x : ℕ = lower.left u in
      let y : ℕ = top - 1 in
      let d : ℕ = g.width - 2 in
      let r = row g lower 0 d x (λ j m o. settled_right steps n lower width top laid n j (omega arith) (omega arith) (laid.closed j (omega arith))) (omega (arith, laid.zeros.0, ap lower.left stage.begin)) (omega (arith, laid.right_end (0 + d) (omega arith) (omega arith))) in
      let upper = high_end r.place (omega arith) in
      let tall' = laid.tall (g.vertex r.place) (omega arith) in
      record {
        new = z;
        place = r.place;
        low = omega arith;
        high = omega arith;
        vertex = (cells_at steps n lower width top laid n (omega arith)).alone (g.vertex r.place) u x y (omega arith) older record { left = r.left; right = r.right; low = omega arith; high = omega arith } record { left = omega arith; right = wide; low = omega arith; high = omega arith };
      }

  top_joined : (u v : ℕ) → u < n + 2 → v ≡ n + 2 → ShareSide all u v → StandsOver steps n u v
  top_joined u v older z x =
      let d = top_box v z in
      let e = same_box u older in
      let tall = laid.tall u older in
      let within = laid.within u older in
      grind (arith, top_above)

  base_shares : (u v : ℕ) → u ≡ 0 → v ≡ 1 → ShareSide lower u v
  base_shares u v eu ev =
      let upon = settled_high steps n lower width top laid 0 0 (omega arith) (omega arith) refl in
      let z0 = laid.zeros.0 in
      let z1 = laid.zeros.1 in
      let w1 = laid.wide 1 (omega arith) in
      let shares : ShareSide lower 0 1 = inr (inr record { line = upon; first = omega (arith, laid.wide 0 (omega arith)); second = omega arith }) in
      subst (λ u. ShareSide lower u v) (sym eu) (subst (λ v. ShareSide lower 0 v) (sym ev) shares)

  pub contacts_joined : (u v : ℕ) → u < v → v < n + 3 → ShareSide all u v ↔ AreJoined steps (suc n) u v
  contacts_joined u v l m = (
    λ x. elim (cases_lt v (n + 2)) [
      | inr new ↦ inr (n, omega arith, top_joined u v (omega arith) (omega arith) x)
      | inl older ↦
          let y = ShareSide-same all lower u v (IsSameBox-back lower all u (same_box u (omega arith))) (IsSameBox-back lower all v (same_box v older)) x in
          elim (cases_lt v 2) [
            | inl small ↦ inl (omega arith, omega arith)
            | inr large ↦
                let k : ℕ = v - 2 in
                let z : v ≡ k + 2 = omega arith in
                inr (k, omega arith, subst (StandsOver steps k u) (sym z) (shares_joined steps n lower width top laid k (omega arith) u (omega arith) (subst (ShareSide lower u) z y)))
          ]
    ],
    λ j. elim j [
      | inl b ↦ let s = h.some in ShareSide-same lower all u v (same_box u (omega (arith, b.0))) (same_box v (omega (arith, b.1))) (base_shares u v b.0 b.1)
      | inr p ↦
          elim (cases_eq p.0 n) [
            | inl e ↦ top_shares u v (subst (λ k. StandsOver steps k u v) e p.2)
            | inr ne ↦
                ShareSide-same lower all u v (same_box u (omega arith)) (same_box v (omega arith)) (joined_shares steps n lower width top laid p.0 (omega arith) u v p.2)
          ]
    ],
  )

  -- the boxes below the last one cover each cell once
  covering : AreCovering lower (n + 2) width top
  covering =
      let cells = cells_at steps n lower width top laid n (omega arith) in
      let i : ℕ = g.width - 2 in
      record {
        wide = laid.wide;
        tall = laid.tall;
        within = laid.within;
        found = λ a c p q. cells.found a c record { place = i; within = omega arith; right = omega (arith, laid.right_end i (omega arith) (omega arith)); high = omega (arith, high_end i (omega arith)) };
        alone = cells.alone;
      }

  lower_area : area_of all (n + 2) ≡ width * top
  lower_area = grind (arith, area_of-total, all, total-same, lower, same_box, ap₂, area_of-covering, width, top, covering)

  all_area : area_of all (n + 3) ≡ width * suc top
  all_area = grind (arith, top_box, all, width, ap₂, mul-suc, area_of, lower_area, top)

  pub filling : AreFilling all (n + 3) width (suc top)
  filling = record {
    wide = λ v l. elim (cases_lt v (n + 2)) [
      | inl older ↦ let e = same_box v older in omega (arith, e.left, e.right, laid.wide v older)
      | inr new ↦ let d = top_box v (omega arith) in omega (arith, d.left, d.right)
    ];
    tall = λ v l. elim (cases_lt v (n + 2)) [
      | inl older ↦ let e = same_box v older in omega (arith, e.low, e.high, laid.tall v older)
      | inr new ↦ let d = top_box v (omega arith) in omega (arith, d.low, d.high)
    ];
    within = λ v l. elim (cases_lt v (n + 2)) [
      | inl older ↦ let e = same_box v older in let w = laid.within v older in (omega (arith, e.right, w.0), omega (arith, e.high, w.1))
      | inr new ↦ let d = top_box v (omega arith) in (omega (arith, d.right), omega (arith, d.high))
    ];
    apart = λ u v l m. elim (cases_lt v (n + 2)) [
      | inr new ↦
          inr (inl (omega (arith, (top_box v (omega arith)).low, (same_box u (omega arith)).high, (laid.within u (omega arith)).1)))
      | inl older ↦
          let e = same_box u (omega arith) in
          let f = same_box v older in
          let wu = laid.wide u (omega arith) in
          let tu = laid.tall u (omega arith) in
          elim (apart_of lower u v wu tu (laid.wide v older) (laid.tall v older) (λ a c p q. let same = covering.alone u v a c (omega arith) older p q in omega arith)) [
            | inl (inl x) ↦ inl (inl (omega (arith, e.right, f.left)))
            | inl (inr x) ↦ inl (inr (omega (arith, f.right, e.left)))
            | inr (inl x) ↦ inr (inl (omega (arith, e.high, f.low)))
            | inr (inr x) ↦ inr (inr (omega (arith, f.high, e.low)))
          ]
    ];
    areas = all_area;
  }

  pub framed : IsFramed all n width (suc top)
  framed =
      let stage = IsStage-run steps n labelled.run in
      let e1 = same_box 1 (omega arith) in
      let d = top_box (n + 2) refl in
      let i : ℕ = g.width - 1 in
      let j : ℕ = g.width - 2 in
      let right_one = laid.right_end i (omega arith) (omega arith) in
      record {
        first = (same_box 0 (omega arith)).left ∙ laid.zeros.0;
        bottom = (e1.left ∙ laid.zeros.1, e1.right ∙ sym (ap lower.right (stage.end i (omega arith))) ∙ right_one, e1.low ∙ laid.zeros.2);
        right = (same_box (n + 1) (omega arith)).right ∙ sym (ap lower.right (right_stands steps n h n j refl (omega arith))) ∙ laid.right_end j (omega arith) (omega arith);
        top = (d.left, d.right, d.high);
      }

pub boxes_are_dual : (steps : ℕ → Step) (n : ℕ) → IsRectRun steps n → IsRunDual steps n (boxes steps n) (grid_width steps n) (grid_height steps n)
boxes_are_dual steps n h = record { filling = filling steps n h; bounded = grid_bounded steps n h; contacts = contacts_joined steps n h; frame = framed steps n h }

pub edges_meet : EdgesMeet
edges_meet steps n u v h off = (run_meets steps n h u v off, rise_meets steps n h u v)
