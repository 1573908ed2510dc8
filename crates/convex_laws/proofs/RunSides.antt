-- What the counts of the faces on the two sides of an edge of a run tell of the ways that pass it.
use Rattle.std.proofs.Common.{◌≡◌, ◌⊎◌, ℕ, zero, suc, ◌+◌, ◌-◌, ◌<◌, ◌≤◌, Bool, true, false, not, ltb, leb, refl, sym, ap, ap₂, ◌∙◌, subst, inl, inr, arith}
use Rattle.std.proofs.lemmas.Bool.{cases_lt, cases_order, le-ltb, lt-leb}
use Rattle.contour_runs.specs.Runs.{Stage}
use Rattle.contour_runs.specs.Laws.{IsStage}
use Rattle.contour_runs.specs.FaceRuns.{Step, moved, stage_after, IsStep, IsRun, IsDartOf, IsAlong, IsUp, IsAcross, IsDown, faces_made}
use Rattle.contour_runs.specs.FaceRunsLaws.{GoesAlong}
use Rattle.convex_counts.specs.FacePointsLaws.{IsWholeRun}
use Rattle.contour_runs.proofs.FaceRunsPlaces.{order, cut-lt, cut-first, cut-last, cases_moved, turn-le, first_turn, last_turn, vertex_after-low, vertex_after-high, place_after-older, place_after-new}
use Rattle.contour_runs.proofs.FaceRunsStages.{count-le}
use Rattle.contour_runs.proofs.FaceRunsFaces.{one_place, cut_placed, up_placed, down_placed, face_made_once, none_along_later, not_along}
use Rattle.convex_counts.proofs.Leads.{new_once}
use Rattle.convex_laws.specs.FaceDrawings.{IsRunDart, IsOuterDart}
use Rattle.convex_laws.specs.Walks.{flipped}
use Rattle.convex_laws.proofs.AllDarts.{base_outside}
use Rattle.convex_laws.proofs.FaceNumbers.{made-less}
use Rattle.convex_laws.proofs.Flips.{flipped_comm, flipped_false, flipped_self}
use Rattle.convex_laws.proofs.FaceTests.{AreLater, test, test-outer, test-old, test-new, test-later, one_hits, two_hits}
use Rattle.convex_laws.proofs.EdgeTests.{sound, third_test, leb_same, ltb_not, ltb_pair, flipped_over, IsSide-one, IsSide-two, end_placed, agrees_low, agrees_high, agrees_new, told}
use Rattle.convex_laws.proofs.WayTests.{AreWays, some_begun, IsBorn, born, one_start, two_start, one_old, two_old, one_new, two_new, ways_born, ways_base, ways_middle}
use Rattle.convex_laws.proofs.ThirdWays.{AreThirdWays, ways_done, over_test, over_outside, over_done, middle_test, middle_outside, middle_done, last_test, ways_last}

-- of which face of a step an edge of the contour after it is
data IsUnderEdge (s : Step) (i j : ℕ) : Type 0 where
  begin : i ≡ 0 → j ≡ s.first → IsUnderEdge s i j
  end : suc i ≡ s.faces → j ≡ s.first + s.vertices → IsUnderEdge s i j
  only : s.faces ≡ 1 → i ≡ 0 → s.first ≤ j → j ≤ s.first + s.vertices → IsUnderEdge s i j

module _ (g : Stage) (s : Step) (step : IsStep g s) (i j x : ℕ) where
  turn_facts : (s.first ≤ s.turn 0) × (s.turn 0 ≤ s.turn (s.faces - 1)) × (s.turn (s.faces - 1) < s.last)
  turn_facts = let f = step.some_face in (first_turn g s step, turn-le g s step 0 (s.faces - 1) (omega arith) (omega arith), last_turn g s step)

  to_edge : IsUnderEdge s i j → x ≤ s.turn i → moved s x ≤ j
  to_edge (begin ei ej) l =
      let t = turn_facts in
      let e = ap s.turn ei in
      elim (cases_moved g s step x) [
        | inl a ↦ let b = a.low in let c = a.to in omega arith
        | inr (inl a) ↦ let c = a.to in omega arith
        | inr (inr (inl a)) ↦ let b = a.low in absurd (omega arith)
        | inr (inr (inr (inl a))) ↦ let b = a.low in absurd (omega arith)
        | inr (inr (inr (inr a))) ↦ let b = a.low in absurd (omega arith)
      ]
  to_edge (end ei ej) l =
      let t = turn_facts in
      let q : i ≡ s.faces - 1 = omega arith in
      let e = ap s.turn q in
      elim (cases_moved g s step x) [
        | inl a ↦ let b = a.low in let c = a.to in omega arith
        | inr (inl a) ↦ let c = a.to in omega arith
        | inr (inr (inl a)) ↦ let c = a.to in omega arith
        | inr (inr (inr (inl a))) ↦ let b = a.low in absurd (omega arith)
        | inr (inr (inr (inr a))) ↦ let b = a.low in absurd (omega arith)
      ]
  to_edge (only one ei lo hi) l =
      let t = turn_facts in
      let e = ap s.turn ei in
      elim (cases_moved g s step x) [
        | inl a ↦ let b = a.low in let c = a.to in omega arith
        | inr (inl a) ↦ let c = a.to in omega arith
        | inr (inr (inl a)) ↦ let b = a.low in let b' = a.high in absurd (omega arith)
        | inr (inr (inr (inl a))) ↦ let b = a.low in absurd (omega arith)
        | inr (inr (inr (inr a))) ↦ let b = a.low in absurd (omega arith)
      ]

  from_edge : IsUnderEdge s i j → moved s x ≤ j → x ≤ s.turn i
  from_edge (begin ei ej) l =
      let t = turn_facts in
      let e = ap s.turn ei in
      elim (cases_moved g s step x) [
        | inl a ↦ let b = a.low in omega arith
        | inr (inl a) ↦ let c = a.high in omega arith
        | inr (inr (inl a)) ↦ let c = a.to in absurd (omega arith)
        | inr (inr (inr (inl a))) ↦ let c = a.to in absurd (omega arith)
        | inr (inr (inr (inr a))) ↦ let c = a.to in let b = a.low in absurd (omega arith)
      ]
  from_edge (end ei ej) l =
      let t = turn_facts in
      let q : i ≡ s.faces - 1 = omega arith in
      let e = ap s.turn q in
      elim (cases_moved g s step x) [
        | inl a ↦ let b = a.low in omega arith
        | inr (inl a) ↦ let c = a.high in omega arith
        | inr (inr (inl a)) ↦ let c = a.high in omega arith
        | inr (inr (inr (inl a))) ↦ let c = a.to in absurd (omega arith)
        | inr (inr (inr (inr a))) ↦ let c = a.to in let b = a.low in absurd (omega arith)
      ]
  from_edge (only one ei lo hi) l =
      let t = turn_facts in
      let q : s.faces - 1 ≡ 0 = omega arith in
      let e = ap s.turn ei in
      let e' = ap s.turn q in
      elim (cases_moved g s step x) [
        | inl a ↦ let b = a.low in omega arith
        | inr (inl a) ↦ let c = a.high in omega arith
        | inr (inr (inl a)) ↦ let b = a.low in let b' = a.high in absurd (omega arith)
        | inr (inr (inr (inl a))) ↦ let c = a.to in absurd (omega arith)
        | inr (inr (inr (inr a))) ↦ let c = a.to in let b = a.low in absurd (omega arith)
      ]

-- flips
last_one : (a p t : Bool) → flipped a p ≡ flipped (flipped p (flipped a t)) t
last_one x0 x1 x2 = grind arith

last_two : (a p t : Bool) → flipped (not a) p ≡ flipped (flipped p (flipped a t)) (not t)
last_two x0 x1 x2 = grind arith

module _ (steps : ℕ → Step) (n : ℕ) (whole : IsWholeRun steps n) (some : 0 < n) where
  abbrev st : ℕ → Stage
  st k = stage_after steps k

  abbrev run : IsRun steps n
  run = whole.turned.run

  stage_at : (k : ℕ) → k ≤ n → IsStage (st k)
  stage_at k l = sound steps n run k l

  -- whether a vertex counts a face as one, and as two
  abbrev pub ones : ℕ → ℕ → Bool
  ones f v = test (λ s. s.last) one_hits steps n f v

  abbrev pub twos : ℕ → ℕ → Bool
  twos f v = test (λ s. s.first) two_hits steps n f v

  abbrev pub all_faces : ℕ
  all_faces = faces_made steps n

  last_placed : (m : ℕ) → m < n → (st m).vertex (steps m).last < (st m).count
  last_placed m l = end_placed steps n run (λ s. s.last) (λ x j. leb x j) IsSide-one m l

  first_placed : (m : ℕ) → m < n → (st m).vertex (steps m).first < (st m).count
  first_placed m l = end_placed steps n run (λ s. s.first) (λ x j. ltb j x) IsSide-two m l

  abbrev LaterLast : ℕ → (ℕ → Bool) → Type 0
  LaterLast m T = AreLater (λ s. s.last) steps n m T

  abbrev LaterFirst : ℕ → (ℕ → Bool) → Type 0
  LaterFirst m T = AreLater (λ s. s.first) steps n m T

  abbrev AgreesOne : ℕ → ℕ → (ℕ → Bool) → (ℕ → Bool) → Type 0
  AgreesOne m j A P = (v : ℕ) → v < (st m).count → A v ≡ flipped (leb ((st m).place v) j) (P v)

  abbrev AgreesTwo : ℕ → ℕ → (ℕ → Bool) → (ℕ → Bool) → Type 0
  AgreesTwo m j A P = (v : ℕ) → v < (st m).count → A v ≡ flipped (ltb j ((st m).place v)) (P v)

  -- An edge at place j of the contour of stage m. Its face below is counted by those whose ways pass it, and those that lie on the one side of it.
  record Stands (m j x y : ℕ) : Type 0 where
    pub along : GoesAlong (st m) x y j
    pub face : ℕ
    pub below : IsRunDart steps n y x face
    pub behind : (l p : ℕ) → m ≤ l → l ≤ n → ¬ GoesAlong (st l) y x p
    pub one : ℕ → Bool
    pub two : ℕ → Bool
    pub ways : AreWays steps n whole some x y one two
    pub one_later : LaterFirst m one
    pub two_later : LaterLast m two
    pub ones_later : LaterLast m (ones face)
    pub twos_later : LaterFirst m (twos face)
    pub agree_one : AgreesOne m j (ones face) two
    pub agree_two : AgreesTwo m j (twos face) one

  -- the face of a step below an edge of the contour after it
  record Below (k j x y : ℕ) : Type 0 where
    pub index : ℕ
    pub dart : IsDartOf (st k) (steps k) index y x
    pub under : IsUnderEdge (steps k) index j

  below_born : (k j x y : ℕ) → IsBorn steps n whole some k j x y → Below k j x y
  below_born k j x y b =
      let step = run k b.earlier in
      let f = step.some_face in
      elim b.tail [
        | inl t ↦ grind (arith, st)
        | inr t ↦
            elim b.head [
              | inr h ↦
                  let h0 = h.0 in
                  let i : ℕ = (steps k).faces - 1 in
                  let e : suc i ≡ (steps k).faces = omega arith in
                  record { index = i; dart = record { within = omega arith; dart = inr (inl record { tail = ap (st k).vertex (ap (steps k).cut e ∙ step.end) ∙ sym h.1; head = omega arith }) }; under = end e h0 }
              | inl h ↦
                  let one : (steps k).faces ≡ 1 = elim step.single [ inl e ↦ absurd (omega arith) | inr e ↦ e ] in
                  record { index = 0; dart = record { within = f; dart = inr (inr (inl record { low = omega arith; next = omega arith; high = omega arith })) }; under = only one refl b.low b.high }
            ]
      ]

  born_stands : (k j x y : ℕ) → IsBorn steps n whole some k j x y → GoesAlong (st (suc k)) x y j → Stands (suc k) j x y
  born_stands k j x y b along =
      let lk = b.earlier in
      let step = run k lk in
      let w = below_born k j x y b in
      let i = w.index in
      let li = w.dart.within in
      let h = some_begun (λ s. s.first) steps n (suc k) (one_start steps n whole some k j x y b) first_placed lk in
      let g = some_begun (λ s. s.last) steps n (suc k) (two_start steps n whole some k j x y b) last_placed lk in
      let one = h.0 in
      let two = g.0 in
      let c = (st k).count in
      let p = (steps k).first in
      record {
        along = along;
        face = (faces_made steps k + i);
        below = inl record { step = k; place = i; earlier = lk; dart = w.dart; number = refl };
        behind = λ l q a d. not_along steps n run k l i y x (omega arith) d w.dart q;
        one = one;
        two = two;
        ways = ways_born steps n whole some k j x y b one two h.1 g.1;
        one_later = h.1.later;
        two_later = g.1.later;
        ones_later = test-later (λ s. s.last) one_hits steps n k i lk li last_placed;
        twos_later = test-later (λ s. s.first) two_hits steps n k i lk li first_placed;
        agree_one = λ v l. elim (cases_lt v c) [
          | inl older ↦
              let q = (st k).place v in
              test-old (λ s. s.last) one_hits steps n k i lk li v older
              ∙ (leb_same q ((steps k).turn i) (moved (steps k) q) j (to_edge (st k) (steps k) step i j q w.under) (from_edge (st k) (steps k) step i j q w.under)
              ∙ (ap (λ z. leb z j) (sym (place_after-older (st k) (steps k) v older))
              ∙ sym (ap (flipped (leb ((st (suc k)).place v) j)) (two_old steps n whole some k j x y b one two h.1 g.1 v older) ∙ flipped_false (leb ((st (suc k)).place v) j))))
          | inr fresh ↦ grind (arith, st, place_after-new, test-new, one_hits, flipped, leb, two_new, leb_same, flipped_self)
        ];
        agree_two = λ v l. elim (cases_lt v c) [
          | inl older ↦
              let q = (st k).place v in
              let z = (st (suc k)).place v in
              test-old (λ s. s.first) two_hits steps n k i lk li v older
              ∙ (ltb_not ((steps k).turn i) q
              ∙ (ap not (leb_same q ((steps k).turn i) (moved (steps k) q) j (to_edge (st k) (steps k) step i j q w.under) (from_edge (st k) (steps k) step i j q w.under) ∙ ap (λ z. leb z j) (sym (place_after-older (st k) (steps k) v older)))
              ∙ (sym (ltb_not j z) ∙ sym (ap (flipped (ltb j z)) (one_old steps n whole some k j x y b one two h.1 g.1 v older) ∙ flipped_false (ltb j z)))))
          | inr fresh ↦ grind (arith, st, place_after-new, ltb, ltb_not, not, leb_same, test-new, two_hits, flipped, one_new, flipped_self)
        ];
      }

  -- the base
  pub base_behind : (l p : ℕ) → l ≤ n → ¬ GoesAlong (st l) 1 0 p
  base_behind l p a h = grind (arith, stage_at, st)

  base_stands : Stands 0 0 0 1
  base_stands =
      let h = some_begun (λ s. s.first) steps n 0 (λ v. ltb 0 v) first_placed (omega arith) in
      let g = some_begun (λ s. s.last) steps n 0 (λ v. leb v 0) last_placed (omega arith) in
      let no_ones = test-outer (λ s. s.last) one_hits steps n in
      let no_twos = test-outer (λ s. s.first) two_hits steps n in
      record {
        along = record { within = omega arith; tail = refl; head = refl };
        face = all_faces;
        below = inr (inr record { tail = refl; head = refl; number = refl });
        behind = λ l p a d. base_behind l p d;
        one = h.0;
        two = g.0;
        ways = ways_base steps n whole some h.0 g.0 h.1 g.1;
        one_later = h.1.later;
        two_later = g.1.later;
        ones_later = λ m v a b c d. no_ones v ∙ sym (no_ones ((st m).vertex (steps m).last));
        twos_later = λ m v a b c d. no_twos v ∙ sym (no_twos ((st m).vertex (steps m).first));
        agree_one = λ v l. no_ones v ∙ sym (ap (flipped (leb v 0)) (g.1.begun v l) ∙ flipped_self (leb v 0));
        agree_two = λ v l. no_twos v ∙ sym (ap (flipped (ltb 0 v)) (h.1.begun v l) ∙ flipped_self (ltb 0 v));
      }

  -- an edge that a step does not cover stands as before
  kept : (m j j' x y : ℕ) → m < n → (h : Stands m j x y) → GoesAlong (st (suc m)) x y j' → AgreesOne (suc m) j' (ones h.face) h.two → AgreesTwo (suc m) j' (twos h.face) h.one → Stands (suc m) j' x y
  kept m j j' x y l h along a b = grind arith

  kept_low : (m j x y : ℕ) → m < n → j < (steps m).first → Stands m j x y → GoesAlong (st (suc m)) x y j → Stands (suc m) j x y
  kept_low m j x y l a h along =
      kept m j j x y l h along
      (agrees_low steps n run (λ s. s.last) (λ x j. leb x j) IsSide-one m l (ones h.face) h.two h.ones_later h.two_later j a h.agree_one)
      (agrees_low steps n run (λ s. s.first) (λ x j. ltb j x) IsSide-two m l (twos h.face) h.one h.twos_later h.one_later j a h.agree_two)

  kept_high : (m j j' x y : ℕ) → m < n → (steps m).last ≤ j → j' + (steps m).last ≡ j + (steps m).first + (steps m).vertices + 1 → Stands m j x y → GoesAlong (st (suc m)) x y j' → Stands (suc m) j' x y
  kept_high m j j' x y l a e h along =
      kept m j j' x y l h along
      (agrees_high steps n run (λ s. s.last) (λ x j. leb x j) IsSide-one m l (ones h.face) h.two h.ones_later h.two_later j j' a e h.agree_one)
      (agrees_high steps n run (λ s. s.first) (λ x j. ltb j x) IsSide-two m l (twos h.face) h.one h.twos_later h.one_later j j' a e h.agree_two)

  -- each edge of a contour stands so
  stands_all : (m j x y : ℕ) → m ≤ n → GoesAlong (st m) x y j → Stands m j x y
  stands_all zero j x y l along =
      let ej : 0 ≡ j = omega arith in
      let ex : 0 ≡ x = omega arith in
      let ey : 1 ≡ y = omega arith in
      subst (λ j. Stands 0 j x y) ej (subst (λ x. Stands 0 0 x y) ex (subst (Stands 0 0 0) ey base_stands))
  stands_all (suc m) j x y l along =
      let step = run m l in
      let o = order (st m) (steps m) step in
      elim (cases_lt j (steps m).first) [
        | inl low ↦ kept_low m j x y l low
            (stands_all m j x y (omega arith) record { within = omega arith; tail = sym (vertex_after-low (st m) (steps m) j (omega arith)) ∙ along.tail; head = sym (vertex_after-low (st m) (steps m) (suc j) (omega arith)) ∙ along.head })
            along
        | inr more ↦ elim (cases_lt ((steps m).first + (steps m).vertices) j) [
          | inr within ↦ born_stands m j x y (born steps n whole some m j x y l more within along) along
          | inl high ↦
              let q : ℕ = j + (steps m).last - ((steps m).first + (steps m).vertices + 1) in
              kept_high m q j x y l (omega arith) (omega arith)
              (stands_all m q x y (omega arith) record { within = omega arith; tail = sym (vertex_after-high (st m) (steps m) j q (omega arith) (omega arith)) ∙ along.tail; head = sym (vertex_after-high (st m) (steps m) (suc j) (suc q) (omega arith) (omega arith)) ∙ along.head })
              along
        ]
      ]

  -- What stands outside: an edge of the last contour, the base, or none.
  pub data IsBy (x y f g : ℕ) (o1 o2 o3 : Bool) : Type 0 where
    inner : f < all_faces → g < all_faces → ((p : ℕ) → ¬ GoesAlong (st n) x y p) → ((p : ℕ) → ¬ GoesAlong (st n) y x p) → o1 ≡ false → o2 ≡ false → o3 ≡ false → IsBy x y f g o1 o2 o3
    last : (j : ℕ) → GoesAlong (st n) x y j → f ≡ all_faces → g < all_faces → o1 ≡ leb whole.top j → o2 ≡ not (leb whole.top j) → o3 ≡ false → IsBy x y f g o1 o2 o3
    base : x ≡ 0 → y ≡ 1 → f < all_faces → g ≡ all_faces → ((p : ℕ) → ¬ GoesAlong (st n) x y p) → o1 ≡ false → o2 ≡ false → o3 ≡ true → IsBy x y f g o1 o2 o3

  -- The dart from x to y has the face f, and its twin g. The vertices that count one of the two faces, and not the other, are those whose ways pass the edge once.
  pub record IsSided (x y f g : ℕ) : Type 0 where
    pub one : ℕ → Bool
    pub two : ℕ → Bool
    pub three : ℕ → Bool
    pub ways : AreWays steps n whole some x y one two
    pub third : AreThirdWays steps n whole some x y three
    pub outer_one : Bool
    pub outer_two : Bool
    pub outer_three : Bool
    pub by : IsBy x y f g outer_one outer_two outer_three
    pub side_one : (v : ℕ) → v < (st n).count → flipped (ones f v) (ones g v) ≡ flipped (flipped (two v) (three v)) outer_one
    pub side_two : (v : ℕ) → v < (st n).count → flipped (twos f v) (twos g v) ≡ flipped (flipped (one v) (three v)) outer_two

  -- an edge that a step covers
  record Sided (x y f : ℕ) : Type 0 where
    pub face : ℕ
    pub below : IsRunDart steps n y x face
    pub is : IsSided x y f face

  over_sided : (m i x y : ℕ) → m < n → i < (steps m).faces → IsAlong (st m) (steps m) i x y → Sided x y (faces_made steps m + i)
  over_sided m i x y lm li a =
      let step = run m lm in
      let c = cut-last (st m) (steps m) step (suc i) li in
      let lo = a.low in
      let hi = a.high in
      let j = a.place in
      subst (λ x. Sided x y (faces_made steps m + i)) a.tail (subst (λ y. Sided ((st m).vertex j) y (faces_made steps m + i)) a.head
      (at_place m i j lm li lo hi (stands_all m j ((st m).vertex j) ((st m).vertex (suc j)) (omega arith) record { within = omega arith; tail = refl; head = refl })))
    where
      at_place : (m i j : ℕ) → m < n → i < (steps m).faces → (steps m).cut i ≤ j → j < (steps m).cut (suc i) → Stands m j ((st m).vertex j) ((st m).vertex (suc j)) → Sided ((st m).vertex j) ((st m).vertex (suc j)) (faces_made steps m + i)
      at_place m i j lm li lo hi h =
          let step = run m lm in
          let c = cut-last (st m) (steps m) step (suc i) li in
          let b = cut-first (st m) (steps m) step i (omega arith) in
          let x = (st m).vertex j in
          let y = (st m).vertex (suc j) in
          let f = faces_made steps m + i in
          let g = h.face in
          let t = (steps m).turn i in
          let dart : IsDartOf (st m) (steps m) i x y = record { within = li; dart = inl record { place = j; low = lo; high = hi; tail = refl; head = refl } } in
          let gone : (l p : ℕ) → m < l → l ≤ n → ¬ GoesAlong (st l) x y p = λ l p a d. not_along steps n run m l i x y a d dart p in
          let gone_back : (l p : ℕ) → m < l → l ≤ n → ¬ GoesAlong (st l) y x p = λ l p a d. h.behind l p (omega arith) d in
          let outside = over_outside steps n whole some m j i lm li lo hi in
          let c_at = over_test steps n whole some m j i lm li lo hi in
          let told_one = told steps n run m lm c_at outside (λ s. s.last) (λ x j. leb x j) IsSide-one (ones g) (ones f) h.two
          (λ z v a. h.ones_later z v (omega arith)) (test-later (λ s. s.last) one_hits steps n m i lm li last_placed) (λ z v a. h.two_later z v (omega arith))
          (λ v l. ap₂ flipped (h.agree_one v l) (test-old (λ s. s.last) one_hits steps n m i lm li v l) ∙ flipped_over (leb ((st m).place v) j) (h.two v) (leb ((st m).place v) t))
          (λ v l d. ap₂ flipped (agrees_new steps n run (λ s. s.last) (λ x j. leb x j) IsSide-one m lm (ones g) h.two h.ones_later h.two_later j v h.agree_one (lt-leb (steps m).last j (omega arith)) l d) (test-new (λ s. s.last) one_hits steps n m i lm li v l d) ∙ flipped_false (h.two v)) in
          let told_two = told steps n run m lm c_at outside (λ s. s.first) (λ x j. ltb j x) IsSide-two (twos g) (twos f) h.one
          (λ z v a. h.twos_later z v (omega arith)) (test-later (λ s. s.first) two_hits steps n m i lm li first_placed) (λ z v a. h.one_later z v (omega arith))
          (λ v l. ap₂ flipped (h.agree_two v l) (test-old (λ s. s.first) two_hits steps n m i lm li v l) ∙ (flipped_over (ltb j ((st m).place v)) (h.one v) (ltb t ((st m).place v)) ∙ ap (flipped (h.one v)) (ltb_pair j t ((st m).place v))))
          (λ v l d. ap₂ flipped (agrees_new steps n run (λ s. s.first) (λ x j. ltb j x) IsSide-two m lm (twos g) h.one h.twos_later h.one_later j v h.agree_two (le-ltb j (steps m).first (omega arith)) l d) (test-new (λ s. s.first) two_hits steps n m i lm li v l d) ∙ flipped_false (h.one v)) in
          let kind : (o : Bool) × IsBy x y f g false false o = elim h.below [
            | inl d ↦ (false, inner (made-less steps n m i lm li) (subst (λ z. z < all_faces) (sym d.number) (made-less steps n d.step d.place d.earlier d.dart.within)) (λ p. gone n p lm (omega arith)) (λ p. gone_back n p lm (omega arith)) refl refl refl)
            | inr (inl d) ↦ absurd (gone_back n d.place lm (omega arith) d.along)
            | inr (inr d) ↦ (true, base d.head d.tail (made-less steps n m i lm li) d.number (λ p. gone n p lm (omega arith)) refl refl refl)
          ] in
          record {
            face = g;
            below = h.below;
            is = record {
              one = h.one;
              two = h.two;
              three = λ v. third_test steps m c_at v;
              ways = h.ways;
              third = ways_done steps n whole some m x y c_at (over_done steps n whole some m j i lm li lo hi gone gone_back);
              outer_one = false;
              outer_two = false;
              outer_three = kind.0;
              by = kind.1;
              side_one = λ v l. flipped_comm (ones f v) (ones g v) ∙ (told_one v l ∙ sym (flipped_false (flipped (h.two v) (third_test steps m c_at v))));
              side_two = λ v l. flipped_comm (twos f v) (twos g v) ∙ (told_two v l ∙ sym (flipped_false (flipped (h.one v) (third_test steps m c_at v))));
            };
          }

  -- an edge between two faces of a step
  middle_sided : (m i : ℕ) → m < n → suc i < (steps m).faces → IsSided ((st m).vertex ((steps m).cut (suc i))) (st m).count (faces_made steps m + i) (faces_made steps m + suc i)
  middle_sided m i lm li =
      let step = run m lm in
      let x = (st m).vertex ((steps m).cut (suc i)) in
      let y = (st m).count in
      let f = faces_made steps m + i in
      let g = faces_made steps m + suc i in
      let lf : i < (steps m).faces = omega arith in
      let t = (steps m).turn i in
      let t' = (steps m).turn (suc i) in
      let up : IsDartOf (st m) (steps m) i x y = record { within = lf; dart = inr (inl record { tail = refl; head = omega arith }) } in
      let down : IsDartOf (st m) (steps m) (suc i) y x = record { within = li; dart = inr (inr (inr record { tail = refl; head = refl })) } in
      let gone : (l p : ℕ) → m < l → l ≤ n → ¬ GoesAlong (st l) x y p = λ l p a d. not_along steps n run m l i x y a d up p in
      let gone_back : (l p : ℕ) → m < l → l ≤ n → ¬ GoesAlong (st l) y x p = λ l p a d. not_along steps n run m l (suc i) y x a d down p in
      let c = middle_test steps n whole some m i lm li in
      let outside = middle_outside steps n whole some m i lm li in
      let none : ℕ → Bool = λ v. false in
      let told_one = told steps n run m lm c outside (λ s. s.last) (λ x j. leb x j) IsSide-one (ones f) (ones g) none
      (test-later (λ s. s.last) one_hits steps n m i lm lf last_placed) (test-later (λ s. s.last) one_hits steps n m (suc i) lm li last_placed) (λ z v a b d e. refl)
      (λ v l. ap₂ flipped (test-old (λ s. s.last) one_hits steps n m i lm lf v l) (test-old (λ s. s.last) one_hits steps n m (suc i) lm li v l))
      (λ v l d. ap₂ flipped (test-new (λ s. s.last) one_hits steps n m i lm lf v l d) (test-new (λ s. s.last) one_hits steps n m (suc i) lm li v l d)) in
      let told_two = told steps n run m lm c outside (λ s. s.first) (λ x j. ltb j x) IsSide-two (twos f) (twos g) none
      (test-later (λ s. s.first) two_hits steps n m i lm lf first_placed) (test-later (λ s. s.first) two_hits steps n m (suc i) lm li first_placed) (λ z v a b d e. refl)
      (λ v l. ap₂ flipped (test-old (λ s. s.first) two_hits steps n m i lm lf v l) (test-old (λ s. s.first) two_hits steps n m (suc i) lm li v l) ∙ ltb_pair t t' ((st m).place v))
      (λ v l d. ap₂ flipped (test-new (λ s. s.first) two_hits steps n m i lm lf v l d) (test-new (λ s. s.first) two_hits steps n m (suc i) lm li v l d)) in
      record {
        one = none;
        two = none;
        three = λ v. third_test steps m c v;
        ways = ways_middle steps n whole some m (suc i) lm (omega arith) li;
        third = ways_done steps n whole some m x y c (middle_done steps n whole some m i lm li gone gone_back);
        outer_one = false;
        outer_two = false;
        outer_three = false;
        by = inner (made-less steps n m i lm lf) (made-less steps n m (suc i) lm li) (λ p. gone n p lm (omega arith)) (λ p. gone_back n p lm (omega arith)) refl refl refl;
        side_one = λ v l. told_one v l ∙ sym (flipped_false (third_test steps m c v));
        side_two = λ v l. told_two v l ∙ sym (flipped_false (third_test steps m c v));
      }

  -- the base is not on the last contour
  pub base_off : (p : ℕ) → ¬ GoesAlong (st n) 0 1 p
  base_off p h =
      let g = stage_at n (omega arith) in
      let w = h.within in
      let end : ℕ = (st n).width - 1 in
      let at_first : p ≡ 0 = sym (g.own p (omega arith)) ∙ (ap (st n).place (h.tail ∙ sym g.begin) ∙ g.own 0 (omega arith)) in
      let at_end : suc p ≡ end = sym (g.own (suc p) w) ∙ (ap (st n).place (h.head ∙ sym (g.end end (omega arith))) ∙ g.own end (omega arith)) in
      let more = count-le steps 1 n some in
      let m = (run 0 some).some_vertex in
      let top = whole.within in
      grind (arith, cases_lt, st)

  -- an edge of the last contour
  last_sided : (j x y : ℕ) → GoesAlong (st n) x y j → Sided x y all_faces
  last_sided j x y along =
      let h = stands_all n j x y (omega arith) along in
      let t = leb whole.top j in
      let less : h.face < all_faces = elim h.below [
        | inl d ↦ subst (λ z. z < all_faces) (sym d.number) (made-less steps n d.step d.place d.earlier d.dart.within)
        | inr (inl d) ↦ absurd (h.behind n d.place (omega arith) (omega arith) d.along)
        | inr (inr d) ↦ absurd (base_off j (subst (λ z. GoesAlong (st n) 0 z j) d.tail (subst (λ z. GoesAlong (st n) z y j) d.head along)))
      ] in
      record {
        face = h.face;
        below = h.below;
        is = record {
          one = h.one;
          two = h.two;
          three = (last_test steps n whole some x y j along);
          ways = h.ways;
          third = ways_last steps n whole some x y j along;
          outer_one = t;
          outer_two = not t;
          outer_three = false;
          by = last j along refl less refl refl refl;
          side_one = λ v l. ap₂ flipped (test-outer (λ s. s.last) one_hits steps n v) (h.agree_one v l) ∙ last_one (leb ((st n).place v) j) (h.two v) t;
          side_two = λ v l. ap₂ flipped (test-outer (λ s. s.first) two_hits steps n v) (h.agree_two v l) ∙ (ap (λ z. flipped z (h.one v)) (ltb_not j ((st n).place v)) ∙ last_two (leb ((st n).place v) j) (h.one v) t);
        };
      }

  -- a dart has one number
  pub one_number : (x y f g : ℕ) → IsRunDart steps n x y f → IsRunDart steps n x y g → f ≡ g
  one_number x y f g (inl a) (inl b) = let z = face_made_once steps n a.step b.step a.place b.place x y run a.earlier b.earlier a.dart b.dart in a.number ∙ (ap₂ (λ k i. faces_made steps k + i) z.0 z.1 ∙ sym b.number)
  one_number x y f g (inl a) (inr (inl b)) = absurd (none_along_later steps n a.step a.place b.place x y run a.earlier a.dart b.along)
  one_number x y f g (inl a) (inr (inr b)) = absurd (base_outside steps n run a.step a.place x y a.earlier a.dart b.tail b.head)
  one_number x y f g (inr (inl a)) (inl b) = absurd (none_along_later steps n b.step b.place a.place x y run b.earlier b.dart a.along)
  one_number x y f g (inr (inl a)) (inr (inl b)) = a.number ∙ sym b.number
  one_number x y f g (inr (inl a)) (inr (inr b)) = a.number ∙ sym b.number
  one_number x y f g (inr (inr a)) (inl b) = absurd (base_outside steps n run b.step b.place x y b.earlier b.dart a.tail a.head)
  one_number x y f g (inr (inr a)) (inr (inl b)) = a.number ∙ sym b.number
  one_number x y f g (inr (inr a)) (inr (inr b)) = a.number ∙ sym b.number

  abbrev pub EitherSided : ℕ → ℕ → ℕ → ℕ → Type 0
  EitherSided x y f g = IsSided x y f g ⊎ IsSided y x g f

  from_sided : (x y f f' g : ℕ) → f' ≡ f → Sided x y f' → IsRunDart steps n y x g → IsSided x y f g
  from_sided x y f f' g e h d = subst (λ f. IsSided x y f g) e (subst (IsSided x y f') (one_number y x h.face g h.below d) h.is)

  along_is : (m i x y f g : ℕ) → m < n → i < (steps m).faces → f ≡ faces_made steps m + i → IsAlong (st m) (steps m) i x y → IsRunDart steps n y x g → IsSided x y f g
  along_is m i x y f g lm li e a d = from_sided x y f (faces_made steps m + i) g (sym e) (over_sided m i x y lm li a) d

  out_is : (x y f g : ℕ) → IsOuterDart steps n x y f → IsRunDart steps n y x g → IsSided x y f g
  out_is x y f g o d = from_sided x y f all_faces g (sym o.number) (last_sided o.place x y o.along) d

  pub few : (k : ℕ) → 2 ≤ (st k).count
  few k = let z = count-le steps 0 k (omega arith) in omega arith

  same_cut_at : (m i j : ℕ) → m < n → i ≤ (steps m).faces → j ≤ (steps m).faces → (st m).vertex ((steps m).cut i) ≡ (st m).vertex ((steps m).cut j) → i ≡ j
  same_cut_at m i j l li lj e =
      let step = run m l in
      let stage = stage_at m (omega arith) in
      let f = one_place (st m) (steps m) stage step ((steps m).cut i) ((steps m).cut j) (cut_placed (st m) (steps m) stage step i li).0 (cut_placed (st m) (steps m) stage step j lj).0 e in
      elim (cases_order i j) [
        | inl same ↦ same
        | inr (inl a) ↦ let z = cut-lt (st m) (steps m) step i j a lj in absurd (omega arith)
        | inr (inr a) ↦ let z = cut-lt (st m) (steps m) step j i a li in absurd (omega arith)
      ]

  -- up on one face of a step and down on the next one
  up_down : (k l i i' x y f g : ℕ) → k < n → l < n → i < (steps k).faces → i' < (steps l).faces → IsUp (st k) (steps k) i x y → IsDown (st l) (steps l) i' y x → f ≡ faces_made steps k + i → g ≡ faces_made steps l + i' → IsSided x y f g
  up_down k l i i' x y f g lk ll li li' u d ef eg =
      let a = up_placed (st k) (steps k) (stage_at k (omega arith)) (run k lk) i x y li u in
      let m = (run l ll).some_vertex in
      let same : l ≡ k = new_once steps n whole some y l k (omega arith) (omega arith) a.1 a.2 in
      let x_is : (st k).vertex ((steps k).cut i') ≡ x = ap (λ z. (st z).vertex ((steps z).cut i')) (sym same) ∙ d.head in
      let faces = ap (λ z. (steps z).faces) same in
      let cut : suc i ≡ i' = same_cut_at k (suc i) i' lk li (omega arith) (u.tail ∙ sym x_is) in
      let y_is : (st k).count ≡ y = ap (λ z. (st z).count) (sym same) ∙ d.tail in
      let made = ap (faces_made steps) same in
      subst (λ x. IsSided x y f g) u.tail (subst (λ y. IsSided ((st k).vertex ((steps k).cut (suc i))) y f g) y_is
      (subst (λ f. IsSided ((st k).vertex ((steps k).cut (suc i))) (st k).count f g) (sym ef)
      (subst (IsSided ((st k).vertex ((steps k).cut (suc i))) (st k).count (faces_made steps k + i)) (ap (λ i. faces_made steps k + i) cut ∙ (ap (λ m. m + i') (sym made) ∙ sym eg)) (middle_sided k i lk (omega arith)))))

  -- a dart that goes up, across or down, with its twin
  up_is : (k i x y f g : ℕ) → k < n → i < (steps k).faces → f ≡ faces_made steps k + i → IsUp (st k) (steps k) i x y → IsRunDart steps n x y f → IsRunDart steps n y x g → EitherSided x y f g
  up_is k i x y f g lk li ef u own (inr (inl o)) = inr (out_is y x g f o own)
  up_is k i x y f g lk li ef u own (inr (inr b)) =
      absurd (omega (arith, few k, (up_placed (st k) (steps k) (stage_at k (omega arith)) (run k lk) i x y li u).1))
  up_is k i x y f g lk li ef u own (inl b) =
      let a = up_placed (st k) (steps k) (stage_at k (omega arith)) (run k lk) i x y li u in
      let lb = b.earlier in
      let lw = b.dart.within in
      elim b.dart.dart [
        | inl c ↦ inr (along_is b.step b.place y x g f lb lw b.number c own)
        | inr (inl c) ↦ let d = up_placed (st b.step) (steps b.step) (stage_at b.step (omega arith)) (run b.step lb) b.place y x lw c in let d0 = d.0 in let d1 = d.1 in absurd (omega arith)
        | inr (inr (inl c)) ↦
            absurd (omega (arith, ap (λ z. (st z).count) (new_once steps n whole some y k b.step a.1 a.2 (omega arith) c.high)))
        | inr (inr (inr c)) ↦ inl (up_down k b.step i b.place x y f g lk lb li lw u c ef b.number)
      ]

  across_is : (k i x y f g : ℕ) → k < n → i < (steps k).faces → f ≡ faces_made steps k + i → IsAcross (st k) (steps k) i x y → IsRunDart steps n x y f → IsRunDart steps n y x g → EitherSided x y f g
  across_is k i x y f g lk li ef u own (inr (inl o)) = inr (out_is y x g f o own)
  across_is k i x y f g lk li ef u own (inr (inr b)) = let lo = u.low in let t = b.tail in let z = few k in absurd (omega arith)
  across_is k i x y f g lk li ef u own (inl b) =
      let lb = b.earlier in
      let lw = b.dart.within in
      elim b.dart.dart [
        | inl c ↦ inr (along_is b.step b.place y x g f lb lw b.number c own)
        | inr (inl c) ↦
            let d = up_placed (st b.step) (steps b.step) (stage_at b.step (omega arith)) (run b.step lb) b.place y x lw c in
            absurd (omega (arith, ap (λ z. (st z).count) (new_once steps n whole some x k b.step (omega arith) u.high d.1 d.2)))
        | inr (inr (inl c)) ↦ let nx' = c.next in absurd (omega arith)
        | inr (inr (inr c)) ↦ let d = down_placed (st b.step) (steps b.step) (stage_at b.step (omega arith)) (run b.step lb) b.place y x lw c in let d0 = d.0 in let d1 = d.1 in absurd (omega arith)
      ]

  down_is : (k i x y f g : ℕ) → k < n → i < (steps k).faces → f ≡ faces_made steps k + i → IsDown (st k) (steps k) i x y → IsRunDart steps n x y f → IsRunDart steps n y x g → EitherSided x y f g
  down_is k i x y f g lk li ef u own (inr (inl o)) = inr (out_is y x g f o own)
  down_is k i x y f g lk li ef u own (inr (inr b)) = let t = u.tail in let h = b.head in let z = few k in absurd (omega arith)
  down_is k i x y f g lk li ef u own (inl b) =
      let a = down_placed (st k) (steps k) (stage_at k (omega arith)) (run k lk) i x y li u in
      let lb = b.earlier in
      let lw = b.dart.within in
      elim b.dart.dart [
        | inl c ↦ inr (along_is b.step b.place y x g f lb lw b.number c own)
        | inr (inl c) ↦ inr (up_down b.step k b.place i y x g f lb lk lw li c u b.number ef)
        | inr (inr (inl c)) ↦ let nx = c.next in absurd (omega arith)
        | inr (inr (inr c)) ↦ let d = down_placed (st b.step) (steps b.step) (stage_at b.step (omega arith)) (run b.step lb) b.place y x lw c in let d0 = d.0 in let d1 = d.1 in absurd (omega arith)
      ]

  -- each dart of the run, with its twin
  pub sided_at : (x y f g : ℕ) → IsRunDart steps n x y f → IsRunDart steps n y x g → EitherSided x y f g
  sided_at x y f g (inr (inl o)) d = inl (out_is x y f g o d)
  sided_at x y f g (inl m) d = elim m.dart.dart [
    | inl a ↦ inl (along_is m.step m.place x y f g m.earlier m.dart.within m.number a d)
    | inr (inl a) ↦ up_is m.step m.place x y f g m.earlier m.dart.within m.number a (inl m) d
    | inr (inr (inl a)) ↦ across_is m.step m.place x y f g m.earlier m.dart.within m.number a (inl m) d
    | inr (inr (inr a)) ↦ down_is m.step m.place x y f g m.earlier m.dart.within m.number a (inl m) d
  ]
  sided_at x y f g (inr (inr b)) (inr (inl o)) = inr (out_is y x g f o (inr (inr b)))
  sided_at x y f g (inr (inr b)) (inr (inr c)) = let t = b.tail in let t' = c.head in let h = b.head in let h' = c.tail in absurd (omega arith)
  sided_at x y f g (inr (inr b)) (inl m) = grind (arith, few, along_is, up_placed, st, stage_at, run)
