-- Going along a row, and which faces turn before each place.
use Rattle.std.proofs.Common.{◌≡◌, ◌≢◌, ◌⊎◌, ℕ, suc, ◌+◌, ◌-◌, ◌<◌, ◌≤◌, ◌&&◌, true, false, if◌then◌else◌, ltb, eqb, List, length, get_or, set, sym, ap, ap₂, ◌∙◌, subst, inl, inr, arith, eq-eqb, ne_eqb}
use Rattle.std.proofs.lemmas.Bool.{cases_lt, cases_eq, cond-true, cond-false, lt-ltb, le-ltb}
use Rattle.contour_runs.specs.Runs.{Stage}
use Rattle.contour_runs.specs.FaceRuns.{Step}
use Rattle.contour_runs.proofs.FaceRunsPlaces.{cut-next, cut-add}
use Rattle.convex_counts.specs.Counts.{two_gain, IsLeft}
use Rattle.convex_counts.proofs.Gains.{gain-first, gain-second, gain-low, gain-most}
use Rattle.convex_counts.proofs.Turns.{found}
use Rattle.convex_draw.specs.declared.convex_points.spots.Spot.{Spot}
use Rattle.convex_draw.specs.Spots.{Setting, IsRowOver, IsPut, AreSettled, settled_at, settled, spot_of}
use Rattle.convex_draw.proofs.Rows.{first_last, long, entry, entry_within, fall_to, rise_to, one_most, two_most, one_last, same_place}
use Rattle.convex_draw.proofs.Writes.{settled-same, AreSettled-more}

-- place i is passed: the face after it, how many faces turn before it, and how far it is to the last place and from the first
pub record IsPassing (w : Setting) (i face gain far rise : ℕ) : Type 0 where
  pub within : face < w.step.faces
  pub low : w.step.cut face ≤ i
  pub high : i < w.step.cut (suc face)
  pub gain_is : gain ≡ two_gain w.step i
  pub far_is : far + w.at.one (w.stage.vertex w.step.last) ≡ w.at.one (w.stage.vertex i)
  pub rise_is : rise + w.at.two (w.stage.vertex w.step.first) ≡ w.at.two (w.stage.vertex i)

-- whether an edge goes left, by its differences
pub cases_test : (x y : ℕ) → ((((eqb x 0) && ltb 0 y) ≡ true) × (x ≡ 0) × (0 < y)) ⊎ ((((eqb x 0) && ltb 0 y) ≡ false) × ((x ≢ 0) ⊎ (y ≤ 0)))
cases_test x y = elim (cases_eq x 0) [
  | inl e ↦ elim (cases_lt 0 y) [
    | inl l ↦ inl (ap₂ (λ a b. a && b) (eq-eqb x 0 e) (lt-ltb 0 y l), e, l)
    | inr l ↦ inr (ap₂ (λ a b. a && b) (eq-eqb x 0 e) (le-ltb 0 y l), inr l)
  ]
  | inr ne ↦ inr (ap (λ a. a && ltb 0 y) (ne_eqb x 0 ne), inl ne)
]

module _ (w : Setting) (spots : List Spot) (row cuts news : List ℕ) (put : IsPut w spots row cuts news) where
  abbrev g : Stage
  g = w.stage

  abbrev s : Step
  s = w.step

  abbrev h : IsRowOver w spots row
  h = put.over

  -- few faces
  pub faces_small : s.faces < 65535
  faces_small =
      let o = first_last w spots row h in
      let step = h.step in
      let a = cut-add g s step 0 s.faces (omega arith) in
      let e : 0 + s.faces ≡ s.faces = omega arith in
      let b = step.begin in
      let d = step.end in
      let k = h.step.within in
      let f = h.stage.few in
      let r = h.room in
      let m = h.small in
      let v = step.some_vertex in
      omega (arith, ap s.cut e)

  pub begin : (far : ℕ) → far + w.at.one (g.vertex s.last) ≡ w.at.one (g.vertex s.first) → IsPassing w s.first 0 0 far 0
  begin far e =
      let some = h.step.some_face in
      let b = h.step.begin in
      let n = cut-next g s h.step 0 some in
      record {
        within = some;
        low = omega arith;
        high = omega arith;
        gain_is = sym (gain-low g s h.step s.first (omega arith));
        far_is = e;
        rise_is = omega arith;
      }

  -- so far nothing is written at the next vertex
  pub unread : (i j : ℕ) (now : List Spot) → AreSettled w (suc i) spots now → suc i ≡ s.first + j → suc i < s.last → spot_of now (get_or row j 0) ≡ spot_of spots (get_or row j 0)
  unread i j now settled e l =
      let n = long w spots row h in
      settled.others (get_or row j 0) (λ k a b f. let d = same_place w spots row h k (suc i) (omega arith) (omega arith) (f ∙ entry w spots row h j (omega arith) ∙ ap (λ i. w.name (g.vertex i)) (sym e)) in absurd (omega arith))

  module _ (i face gain far rise j : ℕ) (now : List Spot) (here : IsPassing w i face gain far rise × AreSettled w (suc i) spots now) (at_j : suc i ≡ s.first + j) (j_low : 0 < j) (j_in : suc j < length row) (same : length now ≡ length spots) where
    abbrev x : Spot
    x = spot_of now (get_or row j 0)

    abbrev p : IsPassing w i face gain far rise
    p = here.0

    inner : suc i < s.last
    inner = let n = long w spots row h in omega arith

    is : x ≡ spot_of spots (get_or row j 0)
    is = unread i j now here.1 at_j inner

    falls : w.at.one (g.vertex i) ≡ w.at.one (g.vertex (suc i)) + x.one
    falls = let k = inner in omega (arith, fall_to w spots row h j i at_j (omega arith), ap (λ (z : Spot). z.one) is)

    rises : w.at.two (g.vertex (suc i)) ≡ w.at.two (g.vertex i) + x.two
    rises = let k = inner in omega (arith, rise_to w spots row h j i at_j (omega arith), ap (λ (z : Spot). z.two) is)

    abbrev cut : ℕ
    cut = get_or cuts (face + 1) 0

    cut_is : cut + s.first ≡ s.cut (suc face)
    cut_is =
        let f = p.within in
        let e : face + 1 ≡ suc face = omega arith in
        let c = put.cuts_are.each (suc face) (omega arith) in
        omega (arith, ap (λ k. get_or cuts k 0) e)

    -- behind a cut
    gain_cut : suc i ≡ s.cut (suc face) → two_gain s (suc i) ≡ suc face
    gain_cut e = let t = h.step.high face p.within in gain-second g s h.step face (suc i) p.within (omega arith) (omega arith)

    next_face : suc i ≡ s.cut (suc face) → suc face < s.faces
    next_face e = let k = inner in let f = p.within in let d = h.step.end in elim (cases_lt (suc face) s.faces) [ inl l ↦ l | inr l ↦ (let q : suc face ≡ s.faces = omega arith in absurd (omega (arith, ap s.cut q))) ]

    -- behind an edge that goes left, and behind another
    gain_left : suc i < s.cut (suc face) → IsLeft g w.at i → two_gain s (suc i) ≡ gain
    gain_left m left =
        let f = p.within in
        let a = p.low in
        let e = p.gain_is in
        elim (cases_lt (s.turn face) (suc i)) [
          | inr l ↦ omega (arith, gain-first g s h.step face (suc i) f (omega arith) l, gain-first g s h.step face i f a (omega arith))
          | inl l ↦ elim (cases_lt (s.turn face) i) [
            | inl l' ↦ omega (arith, gain-second g s h.step face (suc i) f (omega arith) (omega arith), gain-second g s h.step face i f l' (omega arith))
            | inr l' ↦
                let same : i ≡ s.turn face = omega arith in
                let t = put.turns face in
                let there = found g w.at (s.cut (suc face) - s.cut face - 1) (s.cut face) in
                elim there.stop [ inl top ↦ absurd (omega arith) | inr no_left ↦ absurd (no_left (subst (λ k. IsLeft g w.at k) (same ∙ t) left)) ]
          ]
        ]

    gain_right : suc i < s.cut (suc face) → ¬ IsLeft g w.at i → two_gain s (suc i) ≡ suc face
    gain_right m no_left =
        let f = p.within in
        elim (cases_lt i (s.turn face)) [
          | inl l ↦ absurd (no_left (put.turned.left face i f p.low l))
          | inr l ↦ gain-second g s h.step face (suc i) f (omega arith) (omega arith)
        ]

    abbrev new_gain : ℕ
    new_gain = if eqb j cut then face + 1 else (if (eqb x.one 0) && ltb 0 x.two then gain else face + 1)

    abbrev new_face : ℕ
    new_face = if eqb j cut then face + 1 else face

    pub IsPassing-next : IsPassing w (suc i) new_face new_gain (far - x.one) (rise + x.two)
    IsPassing-next =
        let inn = inner in
        let f = falls in
        let r = rises in
        let z = one_last w spots row h (suc i) (omega arith) in
        let fi = p.far_is in
        let ri = p.rise_is in
        let c = cut_is in
        let lo = p.low in
        let hi = p.high in
        let make : (face' gain' : ℕ) → new_face ≡ face' → new_gain ≡ gain' → face' < s.faces → s.cut face' ≤ suc i → suc i < s.cut (suc face') → gain' ≡ two_gain s (suc i) → IsPassing w (suc i) new_face new_gain (far - x.one) (rise + x.two) = λ face' gain' a b k l m n.
        record {
          within = omega arith;
          low = omega (arith, ap s.cut a);
          high = omega (arith, ap (λ v. s.cut (suc v)) a);
          gain_is = b ∙ n;
          far_is = omega arith;
          rise_is = omega arith;
        } in
        elim (cases_eq j cut) [
          | inl e ↦
              let b = eq-eqb j cut e in
              let q : suc i ≡ s.cut (suc face) = omega arith in
              let k = next_face q in
              let n = cut-next g s h.step (suc face) k in
              let d : face + 1 ≡ suc face = omega arith in
              make (suc face) (suc face) (cond-true (eqb j cut) (face + 1) face b ∙ d) (cond-true (eqb j cut) (face + 1) (if (eqb x.one 0) && ltb 0 x.two then gain else face + 1) b ∙ d) k (omega arith) (omega arith) (sym (gain_cut q))
          | inr ne ↦
              let b = ne_eqb j cut ne in
              let m : suc i < s.cut (suc face) = omega arith in
              let a = cond-false (eqb j cut) (face + 1) face b in
              let a' = cond-false (eqb j cut) (face + 1) (if (eqb x.one 0) && ltb 0 x.two then gain else face + 1) b in
              elim (cases_test x.one x.two) [
                | inl t ↦ make face gain a (a' ∙ cond-true ((eqb x.one 0) && ltb 0 x.two) gain (face + 1) t.0) p.within (omega arith) m (sym (gain_left m record { one = omega (arith, t.1, falls); two = omega (arith, t.2, rises) }))
                | inr t ↦
                    make face (face + 1) a (a' ∙ cond-false ((eqb x.one 0) && ltb 0 x.two) gain (face + 1) t.0) p.within (omega arith) m
                    (omega (arith, gain_right m (λ left. let o = left.one in let y = left.two in let f = falls in let r = rises in elim t.1 [ inl nz ↦ nz (omega arith) | inr z ↦ absurd (omega arith) ])))
              ]
        ]

    -- the next vertex is settled
    pub settled-next :
        (p' z q' : ℕ) → p' ≡ w.name (g.vertex s.first) → z ≡ w.name g.count → q' ≡ w.name (g.vertex s.last)
        → settled (length cuts - 1) new_gain (far - x.one) (rise + x.two) p' z q' ≡ settled_at w (suc i)
    settled-next p' z q' a b e =
        let n = IsPassing-next in
        let c = put.cuts_are.long in
        let d : length cuts - 1 ≡ s.faces = omega arith in
        let fi = n.far_is in
        let ri = n.rise_is in
        ap (λ m. settled m new_gain (far - x.one) (rise + x.two) p' z q') d
        ∙ ap (λ m. settled s.faces new_gain (far - x.one) (rise + x.two) p' m q') b
        ∙ settled-same s.faces new_gain (far - x.one) (rise + x.two) p' (w.name g.count) q' (two_gain s (suc i)) (w.at.one (g.vertex (suc i)) - w.at.one (g.vertex s.last)) (w.at.two (g.vertex (suc i)) - w.at.two (g.vertex s.first)) (w.name (g.vertex s.first)) (w.name (g.vertex s.last))
        n.gain_is (omega arith) (omega arith) a e

    -- what the code asks of its numbers
    pub row_in : j < length row
    row_in = let n = long w spots row h in omega arith

    pub entry_in : get_or row j 0 < length now
    entry_in = let v = entry_within w spots row h j row_in in omega arith

    pub cut_in : face + 1 < length cuts
    cut_in = let f = p.within in let n = put.cuts_are.long in omega arith

    pub far_enough : x.one ≤ far
    far_enough = let k = inner in let f = falls in let z = one_last w spots row h (suc i) (omega arith) in let fi = p.far_is in omega arith

    pub face_small : face < 65535
    face_small = let f = p.within in let m = faces_small in omega arith

    pub far_small : far - x.one < 1048576
    far_small = let inn = inner in let f = IsPassing-next.far_is in let m = one_most w spots row h (suc i) (omega arith) in let k = h.few in omega arith

    pub rise_small : rise + x.two < 1048576
    rise_small = let inn = inner in let f = IsPassing-next.rise_is in let m = two_most w spots row h (suc i) (omega arith) in let k = h.few in omega arith

    pub gain_small : new_gain ≤ length cuts - 1
    gain_small = let g' = IsPassing-next.gain_is in let m = gain-most s (suc i) in let n = put.cuts_are.long in omega arith

    pub settled-more : (y : Spot) → y ≡ settled_at w (suc i) → AreSettled w (suc (suc i)) spots (set now (get_or row j 0) y)
    settled-more y e =
        let k = inner in
        let u = entry w spots row h j row_in ∙ ap (λ i. w.name (g.vertex i)) (sym at_j) in
        AreSettled-more w (suc i) spots now y (get_or row j 0) here.1 u entry_in (omega arith) (λ k b f. let d = same_place w spots row h k (suc i) (omega arith) (omega arith) (f ∙ u) in absurd (omega arith)) e

    -- both for the next place
    pub here-next :
        (i' face' gain' : ℕ) (y : Spot) → i' ≡ suc i → face' ≡ new_face → gain' ≡ new_gain → y ≡ settled_at w (suc i)
        → IsPassing w i' face' gain' (far - x.one) (rise + x.two) × AreSettled w (suc i') spots (set now (get_or row j 0) y)
    here-next i' face' gain' y a b d e = (
      subst (λ i. IsPassing w i face' gain' (far - x.one) (rise + x.two)) (sym a) (subst (λ f. IsPassing w (suc i) f gain' (far - x.one) (rise + x.two)) (sym b) (subst (λ f. IsPassing w (suc i) new_face f (far - x.one) (rise + x.two)) (sym d) IsPassing-next)),
      subst (λ i. AreSettled w (suc i) spots (set now (get_or row j 0) y)) (sym a) (settled-more y e),
    )
