-- The corners of faces, in the words of ends.
use Rattle.std.proofs.Common.{◌≡◌, ◌⊎◌, ℕ, suc, ◌+◌, ◌<◌, ◌≤◌, Bool, true, false, leb, refl, sym, ap, subst, ◌∙◌, inl, inr, arith}
use Rattle.std.proofs.lemmas.Bool.{cases_Bool, cases_lt, cond-true, cond-false, le-leb, lt-leb}
use Rattle.contour_runs.specs.Runs.{Step, stage_after, IsRun, IsFaceOf}
use Rattle.contour_runs.proofs.Stages.{IsStage-run, IsRun-less, count-stage_after}
use Rattle.rect_runs.specs.Labels.{labels, IsLabelledRun}
use Rattle.rect_runs.specs.Numbers.{turn_of}
use Rattle.rect_runs.specs.Corners.{End, run_in, rise_out, run_out, rise_in, at_earlier, at_later, at_older, at_new, AreCorners}
use Rattle.rect_runs.specs.Later.{StandsOver}
use Rattle.rect_runs.proofs.Corners.{corners_follow}
use Rattle.rect_runs.proofs.Parents.{parents, IsFirstUnder, IsLastUnder, AreParents}
use Rattle.rect_runs.proofs.Steps.{turn-step}
use Rattle.rect_runs.specs.Ends.{IsEndAt, IsCorner, CornersOfFaces, OneEnd, EndsAgree, other_end}

-- an edge of the contour stands as an edge to a new vertex does, up to the turn or behind it
later-run : (b : Bool) (c j : ℕ) → b ≡ true → j ≤ c → at_later b ≡ at_new c j
unfolding at_later at_new
later-run b c j e l = cond-true b run_in rise_out e ∙ sym (cond-true (leb j c) run_in rise_in (le-leb j c l))

later-rise : (b : Bool) (c j : ℕ) → b ≡ false → c < j → at_later b ≡ at_older c j
unfolding at_later at_older
later-rise b c j e l = cond-false b run_in rise_out e ∙ sym (cond-false (leb j c) run_out rise_out (lt-leb j c l))

earlier-run : (b : Bool) (c j : ℕ) → b ≡ true → j ≤ c → at_earlier b ≡ at_older c j
unfolding at_earlier at_older
earlier-run b c j e l = cond-true b run_out rise_in e ∙ sym (cond-true (leb j c) run_out rise_out (le-leb j c l))

earlier-rise : (b : Bool) (c j : ℕ) → b ≡ false → c < j → at_earlier b ≡ at_new c j
unfolding at_earlier at_new
earlier-rise b c j e l = cond-false b run_out rise_in e ∙ sym (cond-false (leb j c) run_in rise_in (lt-leb j c l))

-- the two ends of an edge to a new vertex
pub other_end-older : (c j : ℕ) → other_end (at_older c j) ≡ at_new c j
unfolding at_older at_new
other_end-older c j = grind (arith, cases_lt, other_end, cond-false, leb, run_out, rise_out, lt-leb, run_in, rise_in, cond-true, le-leb)

pub other_end-new : (c j : ℕ) → other_end (at_new c j) ≡ at_older c j
unfolding at_older at_new
other_end-new c j = grind (arith, cases_lt, other_end, cond-false, leb, run_in, rise_in, lt-leb, run_out, rise_out, cond-true, le-leb)

pub ends_agree : EndsAgree
ends_agree steps n u v e h = elim h [
  | inl a ↦ inr record { step = a.step; before = a.before; over = a.over; end_is = ap other_end a.end_is ∙ other_end-older (turn_of steps a.step) a.over.place }
  | inr a ↦ inl record { step = a.step; before = a.before; over = a.over; end_is = ap other_end a.end_is ∙ other_end-new (turn_of steps a.step) a.over.place }
]

module _ (steps : ℕ → Step) (n : ℕ) (run : IsRun steps n) where
  -- one step puts v over u, at one place
  one_step : (k m u v : ℕ) → k < n → m < n → (a : StandsOver steps k u v) → (b : StandsOver steps m u v) → (k ≡ m) × (a.place ≡ b.place)
  one_step k m u v l o a b = grind (arith, IsStage-run, IsRun-less, run, stage_after)

  -- the one that is put over the other is later
  later : (k u v : ℕ) → k < n → StandsOver steps k u v → u < v
  later k u v l a =
      let stage = IsStage-run steps k (IsRun-less steps k n (omega arith) run) in
      omega (arith, a.new, stage.placed a.place (omega (arith, (run k l).within)), a.vertex, count-stage_after steps k)

  pub one_end_of : (u v : ℕ) (e f : End) → IsEndAt steps n u v e → IsEndAt steps n u v f → e ≡ f
  one_end_of u v e f h i = elim h [
    | inl a ↦ elim i [
      | inl b ↦
          let s = one_step a.step b.step u v a.before b.before a.over b.over in
          a.end_is ∙ (ap (λ k. at_older (turn_of steps k) a.over.place) s.0 ∙ (ap (at_older (turn_of steps b.step)) s.1 ∙ sym b.end_is))
      | inr b ↦ absurd (omega (arith, later a.step u v a.before a.over, later b.step v u b.before b.over))
    ]
    | inr a ↦ elim i [
      | inl b ↦ absurd (omega (arith, later a.step v u a.before a.over, later b.step u v b.before b.over))
      | inr b ↦
          let s = one_step a.step b.step v u a.before b.before a.over b.over in
          a.end_is ∙ (ap (λ k. at_new (turn_of steps k) a.over.place) s.0 ∙ (ap (at_new (turn_of steps b.step)) s.1 ∙ sym b.end_is))
    ]
  ]

pub one_end : OneEnd
one_end steps n u v e f run h i = one_end_of steps n run u v e f h i

module _ (steps : ℕ → Step) (k n j a b v : ℕ) (h : IsLabelledRun steps n) (l : k < n) (face : IsFaceOf steps k j a b v) where
  run : IsRun steps k
  run = IsRun-less steps k n (omega arith) h.run

  new_is : v ≡ k + 2
  new_is = sym face.new ∙ count-stage_after steps k

  abbrev over_a : StandsOver steps k a v
  over_a = let hi = face.high in record { new = new_is; place = j; low = face.low; high = omega arith; vertex = face.left }

  abbrev over_b : StandsOver steps k b v
  over_b = let lo = face.low in record { new = new_is; place = suc j; low = omega arith; high = face.high; vertex = face.right }

  corners : AreCorners (labels steps k j) (turn_of steps k) j
  corners = corners_follow steps k n j h l face.low face.high

  lead : AreParents steps k j
  lead = let w = (h.run k l).within in let hi = face.high in parents steps k j run (omega arith)

  -- b is put over a row that begins with a
  abbrev first_over : (u : IsFirstUnder steps k ((stage_after steps k).vertex j) ((stage_after steps k).vertex (suc j))) → StandsOver steps u.step a b
  first_over u =
      let m = u.earlier in
      let o = (h.run u.step (omega arith)).order in
      record { new = sym face.right ∙ u.new; place = (steps u.step).first; low = omega arith; high = omega arith; vertex = sym u.first ∙ face.left }

  -- a is put over a row that ends with b
  abbrev last_over : (u : IsLastUnder steps k ((stage_after steps k).vertex (suc j)) ((stage_after steps k).vertex j)) → StandsOver steps u.step b a
  last_over u =
      let m = u.earlier in
      let o = (h.run u.step (omega arith)).order in
      record { new = sym face.left ∙ u.new; place = (steps u.step).last; low = omega arith; high = omega arith; vertex = sym u.last ∙ face.right }

  -- the edge between a and b at either end, where it is not the base
  between : (2 ≤ a) ⊎ (2 ≤ b) → IsEndAt steps n b a (at_later (labels steps k j)) × IsEndAt steps n a b (at_earlier (labels steps k j))
  between large = elim (cases_Bool (labels steps k j)) [
    | inl e ↦
        let u = lead.run e in
        let t = turn-step steps u.step n h (omega arith) in (
          inr record { step = u.step; before = omega arith; over = first_over u; end_is = later-run (labels steps k j) (turn_of steps u.step) (steps u.step).first e t.low },
          inl record { step = u.step; before = omega arith; over = first_over u; end_is = earlier-run (labels steps k j) (turn_of steps u.step) (steps u.step).first e t.low },
        )
    | inr e ↦ elim (lead.rise e) [
      | inl base ↦ grind arith
      | inr u ↦
          let t = turn-step steps u.step n h (omega arith) in (
            inl record { step = u.step; before = omega arith; over = last_over u; end_is = later-rise (labels steps k j) (turn_of steps u.step) (steps u.step).last e t.high },
            inr record { step = u.step; before = omega arith; over = last_over u; end_is = earlier-rise (labels steps k j) (turn_of steps u.step) (steps u.step).last e t.high },
          )
    ]
  ]

  at_top : IsCorner steps n b v a
  at_top = record {
    one = at_new (turn_of steps k) (suc j);
    other = at_new (turn_of steps k) j;
    one_is = inr record { step = k; before = l; over = over_b; end_is = refl };
    other_is = inr record { step = k; before = l; over = over_a; end_is = refl };
    follows = corners.new;
  }

  at_right : 2 ≤ b → IsCorner steps n a b v
  at_right large = record {
    one = at_later (labels steps k j);
    other = at_older (turn_of steps k) (suc j);
    one_is = (between (inr large)).0;
    other_is = inl record { step = k; before = l; over = over_b; end_is = refl };
    follows = corners.later;
  }

  at_left : 2 ≤ a → IsCorner steps n v a b
  at_left large = record {
    one = at_older (turn_of steps k) j;
    other = at_earlier (labels steps k j);
    one_is = inl record { step = k; before = l; over = over_a; end_is = refl };
    other_is = (between (inl large)).1;
    follows = corners.earlier;
  }

pub corners_of_faces : CornersOfFaces
corners_of_faces steps k n j a b v h l face =
    (at_top steps k n j a b v h l face, at_right steps k n j a b v h l face, at_left steps k n j a b v h l face)
