-- A removal read backwards: the run of what it leaves, with one step more, is the run of what was there.
use Rattle.std.proofs.Common.{◌≡◌, ◌≢◌, ◌⊎◌, ℕ, suc, ◌+◌, ◌-◌, ◌<◌, ◌≤◌, Bool, true, sym, ap, ap₂, ◌∙◌, subst, inl, inr, arith}
use Rattle.std.proofs.lemmas.Bool.{cases_Bool, cases_eq, cases_lt, true≢false}
use Rattle.classes.specs.Classes.{count_below}
use Rattle.map_lists.specs.Lists.{Lists}
use Rattle.map_theory.specs.Maps.{list_of, HasDart, IsSimpleMap, follows, dart_count}
use Rattle.map_theory.proofs.DartLemmas.{HasDart-follows}
use Rattle.plane_peeling.proofs.Rings.{entries_closed}
use Rattle.contour_runs.specs.Runs.{Stage}
use Rattle.contour_runs.specs.FaceRuns.{Step, after, stage_after, faces_made, IsStep, IsRun, IsDartOf, IsUnder, IsTouched}
use Rattle.contour_runs.proofs.FaceRunsPlaces.{cut-le, cut-first, cut-last, vertex_after-low, vertex_after-new, vertex_after-high}
use Rattle.convex_laws.specs.FaceDrawings.{IsMadeDart}
use Rattle.convex_peeling.specs.Contours.{face_of, IsRim, IsContour, IsOpen}
use Rattle.convex_peeling.specs.Removals.{Removal, IsTakenOff, IsOnRemoved}
use Rattle.convex_peeling.proofs.Faces.{some_or_none, face_of-step}
use Rattle.convex_peeling.proofs.Sections.{cases_IsOpen}
use Rattle.convex_peeling.proofs.Removed.{gone_within, first_lt, stays_dead, ends_as_before, begins_as_before, gone_from}
use Rattle.convex_laws.proofs.Longer.{longer, stage-last, faces-last, IsRun-longer, IsMadeDart-longer, IsMadeDart-last, IsTouched-longer, IsTouched-last, IsUnder-longer, IsUnder-last, put, put-old, put-found}

-- a vertex of the contour or of a face that is left
abbrev pub IsPlaced : Lists → (ℕ → Bool) → (ℕ → ℕ) → ℕ → ℕ → Type 0
IsPlaced lists alive w r v = ((i : ℕ) × (i ≤ r) × (w i ≡ v)) ⊎ ((x : ℕ) × HasDart lists v x × (alive (face_of lists v x) ≡ true))

-- What is asked of a contour from which a run goes on: it may be the two vertices of the base alone, with no face.
pub record IsShore (lists : Lists) (alive : ℕ → Bool) (w : ℕ → ℕ) (r : ℕ) : Type 0 where
  pub distinct : (i j : ℕ) → i ≤ r → j ≤ r → w i ≡ w j → i ≡ j
  pub only : (x y : ℕ) → IsRim lists alive x y → (i : ℕ) × (i ≤ r) × (w i ≡ x) × (w (suc i) ≡ y)
  pub edge : (i : ℕ) → i < r → r ≢ 1 → IsRim lists alive (w i) (w (suc i))

pub IsShore-contour : (lists : Lists) (alive : ℕ → Bool) (w : ℕ → ℕ) (r : ℕ) → IsContour lists alive w r → IsShore lists alive w r
IsShore-contour lists alive w r c = record { distinct = c.distinct; only = c.only; edge = λ i l ne. c.edge i (omega arith) }

-- The run of n steps makes the faces that are left, up to the contour: vertices have ranks, and faces numbers by their labels.
pub record IsBuilt (lists : Lists) (alive : ℕ → Bool) (w : ℕ → ℕ) (r : ℕ) (steps : ℕ → Step) (n : ℕ) (rank number : ℕ → ℕ) : Type 0 where
  pub run : IsRun steps n
  pub width : (stage_after steps n).width ≡ suc r
  pub contour : (i : ℕ) → i ≤ r → (stage_after steps n).vertex i ≡ rank (w i)
  pub placed : (v : ℕ) → IsPlaced lists alive w r v → rank v < (stage_after steps n).count
  pub apart : (u v : ℕ) → IsPlaced lists alive w r u → IsPlaced lists alive w r v → rank u ≡ rank v → u ≡ v
  pub on_face : (x y : ℕ) → HasDart lists x y → alive (face_of lists x y) ≡ true → IsMadeDart steps n (rank x) (rank y) (number (face_of lists x y))
  pub under : (k v : ℕ) → k < n → IsUnder steps k v → IsTouched steps k v
  pub faces : faces_made steps n ≡ count_below alive (dart_count lists)
  pub first : rank (w 0) ≡ 0
  pub second : rank (w r) ≡ 1

-- Each vertex of the contour but the ends of the base at which no edge is taken off has been touched.
abbrev pub AreTouched : Lists → (ℕ → Bool) → (ℕ → ℕ) → ℕ → (ℕ → Step) → ℕ → (ℕ → ℕ) → Type 0
AreTouched lists alive w r steps n rank = (i : ℕ) → 0 < i → i < r → ¬ IsOpen lists alive (w i) → IsTouched steps n (rank (w i))

-- off the contour all faces at a vertex are left, if one is
pub off_contour : (lists : Lists) (alive : ℕ → Bool) (w : ℕ → ℕ) (r : ℕ) → IsSimpleMap lists → ((x y : ℕ) → IsRim lists alive x y → (i : ℕ) × (i ≤ r) × (w i ≡ x) × (w (suc i) ≡ y)) → w (suc r) ≡ w 0 → (v x z : ℕ) → ((i : ℕ) → i ≤ r → w i ≢ v) → HasDart lists v x → alive (face_of lists v x) ≡ true → HasDart lists v z → (alive (face_of lists v z) ≡ true) × (alive (face_of lists z v) ≡ true)
off_contour lists alive w r simple only round v x z off has live has_z =
    let behind : (t : ℕ) → HasDart lists v t → alive (face_of lists v t) ≡ true → alive (face_of lists t v) ≡ true = λ t h l.
    elim (cases_Bool (alive (face_of lists t v))) [
      | inl yes_l ↦ yes_l
      | inr dead ↦
          let at = only t v (record { dart = simple.both_ways v t h; outside = dead; inside = l }) in
          absurd (elim (cases_eq at.0 r) [
            | inl e ↦ off 0 (omega arith) (sym round ∙ (ap (λ n. w (suc n)) (sym e) ∙ at.3))
            | inr ne ↦ off (suc at.0) (omega arith) at.3
          ])
    ] in
    let P : ℕ → Type 0 = λ t. HasDart lists v t × (alive (face_of lists v t) ≡ true) in
    let end = entries_closed P (list_of lists v) x z (simple.no_repeat v has.0) has.1 (has, live)
    (λ t p. (HasDart-follows lists v t p.0, ap alive (face_of-step lists simple t v (simple.both_ways v t p.0)) ∙ behind t p.0 p.1)) has_z.1 in
    (end.1, behind z end.0 end.1)

module _ (lists : Lists) (alive : ℕ → Bool) (w : ℕ → ℕ) (r : ℕ) (o : Removal) (simple : IsSimpleMap lists) (contour : IsContour lists alive w r) (off : IsTakenOff lists alive w r o) (shore : IsShore lists o.alive o.contour o.places) where
  round_after : o.contour (suc o.places) ≡ o.contour 0
  round_after =
      let q : ℕ = suc r - (o.first + o.vertices + 1) in
      let z : suc o.places ≡ o.last + q = omega arith in
      let z' : o.first + o.vertices + 1 + q ≡ suc r = omega arith in
      ap o.contour z ∙ (off.behind q ∙ (ap w z' ∙ (contour.round ∙ sym (begins_as_before lists alive w r o off))))

  -- no face that is left passes a vertex that goes
  pub goer_off : (q x : ℕ) → q < o.vertices → HasDart lists (w (suc (o.first + q))) x → o.alive (face_of lists (w (suc (o.first + q))) x) ≢ true
  goer_off q x l has live =
      let i = suc (o.first + q) in
      let rim = contour.edge i (omega arith) in
      let all = off_contour lists o.alive o.contour o.places simple shore.only round_after (w i) x (w (suc i)) (λ p m. gone_from lists alive w r o off contour q p l m) has live rim.dart in
      true≢false (sym all.0 ∙ stays_dead lists alive w r o off (face_of lists (w i) (w (suc i))) rim.outside)

module _ (lists : Lists) (alive : ℕ → Bool) (w : ℕ → ℕ) (r : ℕ) (o : Removal) (steps : ℕ → Step) (n : ℕ) (rank number : ℕ → ℕ) (simple : IsSimpleMap lists) (contour : IsContour lists alive w r) (off : IsTakenOff lists alive w r o) (shore : IsShore lists o.alive o.contour o.places) (built : IsBuilt lists o.alive o.contour o.places steps n rank number) where
  abbrev pub g : Stage
  g = stage_after steps n

  abbrev pub step : Step
  step = record { first = o.first; last = o.last; vertices = o.vertices; faces = o.faces; cut = o.cut; turn = o.cut }

  abbrev pub steps' : ℕ → Step
  steps' = longer steps n step

  -- the vertices that go, by number
  abbrev pub goer : ℕ → ℕ
  goer q = w (suc (o.first + q))

  abbrev pub rank' : ℕ → ℕ
  rank' = put goer g.count rank o.vertices

  abbrev pub number' : ℕ → ℕ
  number' = put o.made (faces_made steps n) number o.faces

  is_step : IsStep g step
  is_step =
      record { some_face = off.some_face; some_vertex = off.some_vertex; single = off.single; begin = off.begin; end = off.end; low = λ i l. omega arith; high = λ i l. off.rises i l; within = omega arith }

  goer_once : (p q : ℕ) → p < o.vertices → q < o.vertices → goer p ≡ goer q → p ≡ q
  goer_once p q l m e =
      omega (arith, contour.distinct (suc (o.first + p)) (suc (o.first + q)) (omega arith) (omega arith) e)

  -- the ranks of the vertices that go, and of those that stay
  pub new_rank : (v q : ℕ) → q < o.vertices → goer q ≡ v → rank' v ≡ g.count + q
  new_rank v q l e =
      let found = put-found goer g.count rank o.vertices v q l e in
      found.3 ∙ ap (λ t. g.count + t) (goer_once found.0 q found.1 l (found.2 ∙ sym e))

  abbrev pub Stays : ℕ → Type 0
  Stays v = (q : ℕ) → q < o.vertices → goer q ≢ v

  old_rank : (v : ℕ) → Stays v → rank' v ≡ rank v
  old_rank v stays = put-old goer g.count rank o.vertices v stays

  pub cases_goer : (v : ℕ) → ((q : ℕ) × (q < o.vertices) × (goer q ≡ v)) ⊎ Stays v
  cases_goer v = some_or_none (λ q. goer q ≡ v) o.vertices (λ q l. cases_eq (goer q) v)

  on_stays : (p : ℕ) → p ≤ o.places → Stays (o.contour p)
  on_stays p l q m e = gone_from lists alive w r o off contour q p m l (sym e)

  on_rank : (p : ℕ) → p ≤ o.places → g.vertex p ≡ rank' (o.contour p)
  on_rank p l = built.contour p l ∙ sym (old_rank (o.contour p) (on_stays p l))

  -- a place of the old contour stays before, goes, or stays behind
  record IsBehind (i p : ℕ) : Type 0 where
    within : p ≤ o.places
    from : i + o.last ≡ p + o.first + o.vertices + 1
    far : o.first + o.vertices < i
    vertex : o.contour p ≡ w i

  cases_old : (i : ℕ) → i ≤ r → (i ≤ o.first) ⊎ (((q : ℕ) × (q < o.vertices) × (i ≡ suc (o.first + q))) ⊎ ((p : ℕ) × IsBehind i p))
  cases_old i l =
      elim (cases_lt o.first i) [
        | inr low ↦ inl low
        | inl far ↦ elim (cases_lt (o.first + o.vertices) i) [
          | inr new ↦ inr (inl (i - suc o.first, omega arith, omega arith))
          | inl high ↦
              let q : ℕ = i - (o.first + o.vertices + 1) in
              let z : o.first + o.vertices + 1 + q ≡ i = omega arith in
              inr (inr (o.last + q, record { within = omega arith; from = omega arith; far = high; vertex = off.behind q ∙ ap w z }))
        ]
      ]

  -- what stays on the old contour is on the new one
  pub stays_on : (i : ℕ) → i ≤ r → Stays (w i) → (p : ℕ) × (p ≤ o.places) × (o.contour p ≡ w i)
  stays_on i l stays =
      elim (cases_old i l) [
        | inl low ↦ (i, omega (arith, first_lt lists alive w r o off), off.before i low)
        | inr (inl new) ↦ absurd (stays new.0 new.1 (ap w (sym new.2)))
        | inr (inr high) ↦ (high.0, high.1.within, high.1.vertex)
      ]

  pub contour_vertex : (i : ℕ) → i ≤ r → (after g step).vertex i ≡ rank' (w i)
  contour_vertex i l =
      let a = first_lt lists alive w r o off in
      elim (cases_old i l) [
        | inl low ↦ vertex_after-low g step i low ∙ (on_rank i (omega arith) ∙ ap rank' (off.before i low))
        | inr (inl new) ↦
            let same : (after g step).vertex i ≡ g.count + new.0 = omega (arith, vertex_after-new g step i (omega arith) (omega arith)) in
            same ∙ sym (new_rank (w i) new.0 new.1 (ap w (sym new.2)))
        | inr (inr high) ↦ vertex_after-high g step i high.0 high.1.far high.1.from ∙ (on_rank high.0 high.1.within ∙ ap rank' high.1.vertex)
      ]

  living_stays : (v x : ℕ) → HasDart lists v x → o.alive (face_of lists v x) ≡ true → Stays v
  living_stays v x has live q l e = goer_off lists alive w r o simple contour off shore q x l (subst (λ t. HasDart lists t x) (sym e) has) (ap (λ t. o.alive (face_of lists t x)) e ∙ live)

  -- what the removed faces pass
  cut_within : (i : ℕ) → i ≤ o.faces → o.cut i ≤ o.places
  cut_within i l = let a = cut-last g step is_step i l in let b = off.within in omega arith

  placed_before : (v : ℕ) → IsPlaced lists alive w r v → Stays v → IsPlaced lists o.alive o.contour o.places v
  placed_before v p stays =
      elim p [
        | inl at ↦ (let on = stays_on at.0 at.1 (λ q l e. stays q l (e ∙ at.2)) in inl (on.0, on.1, on.2 ∙ at.2))
        | inr at ↦
            elim (cases_Bool (o.alive (face_of lists v at.0))) [
              | inl live ↦ inr (at.0, at.1, live)
              | inr dead ↦
                  let gone = off.gone (face_of lists v at.0) at.2 dead in
                  elim (off.darts gone.0 v at.0 gone.1 at.1 gone.2) [
                    | inl a ↦ (let m = a.2 in let b = cut_within (suc gone.0) gone.1 in inl (a.0, omega arith, a.3))
                    | inr (inl a) ↦ inl (o.cut (suc gone.0), cut_within (suc gone.0) gone.1, sym a.0)
                    | inr (inr (inl a)) ↦ absurd (stays a.0 a.2 (sym a.3))
                    | inr (inr (inr a)) ↦ (let some = off.some_vertex in let z : suc (o.first + 0) ≡ suc o.first = omega arith in absurd (stays 0 some (ap w z ∙ sym a.0)))
                  ]
            ]
      ]

  pub placed_rank : (v : ℕ) → IsPlaced lists alive w r v → rank' v < g.count + o.vertices
  placed_rank v p =
      elim (cases_goer v) [
        | inl at ↦ (let e = new_rank v at.0 at.1 at.2 in let l = at.1 in omega arith)
        | inr stays ↦ (let e = old_rank v stays in let l = built.placed v (placed_before v p stays) in omega arith)
      ]

  placed_apart : (u v : ℕ) → IsPlaced lists alive w r u → IsPlaced lists alive w r v → rank' u ≡ rank' v → u ≡ v
  placed_apart u v p p' e =
      elim (cases_goer u) [
        | inl at ↦ elim (cases_goer v) [
          | inl at' ↦
              let q : at.0 ≡ at'.0 = omega (arith, new_rank v at'.0 at'.1 at'.2, new_rank u at.0 at.1 at.2) in
              sym at.2 ∙ (ap goer q ∙ at'.2)
          | inr stays ↦
              absurd (omega (arith, built.placed v (placed_before v p' stays), old_rank v stays, new_rank u at.0 at.1 at.2))
        ]
        | inr stays ↦ elim (cases_goer v) [
          | inl at' ↦
              absurd (omega (arith, built.placed u (placed_before u p stays), new_rank v at'.0 at'.1 at'.2, old_rank u stays))
          | inr stays' ↦ built.apart u v (placed_before u p stays) (placed_before v p' stays') (sym (old_rank u stays) ∙ (e ∙ old_rank v stays'))
        ]
      ]

  -- a dart of a removed face is one of the face that the step makes
  made_dart : (i x y : ℕ) → i < o.faces → IsOnRemoved w o i x y → IsDartOf g step i (rank' x) (rank' y)
  made_dart i x y l h =
      let b = cut_within (suc i) l in
      let b' = cut_within i (omega arith) in
      elim h [
        | inl a ↦
            record { within = l; dart = inl record { place = a.0; low = a.1; high = a.2; tail = on_rank a.0 (omega arith) ∙ ap rank' a.3; head = on_rank (suc a.0) (omega arith) ∙ ap rank' a.4 } }
        | inr (inl a) ↦
            let q : ℕ = o.vertices - 1 in
            let z : suc (o.first + q) ≡ o.first + o.vertices = omega arith in
            let e = new_rank y q (omega arith) (ap w z ∙ sym a.1) in
            record { within = l; dart = inr (inl record { tail = on_rank (o.cut (suc i)) b ∙ ap rank' (sym a.0); head = omega arith }) }
        | inr (inr (inl a)) ↦
            let z : suc (o.first + (a.0 - 1)) ≡ o.first + a.0 = omega arith in
            let e = new_rank x a.0 a.2 (sym a.3) in
            let e' = new_rank y (a.0 - 1) (omega arith) (ap w z ∙ sym a.4) in
            record { within = l; dart = inr (inr (inl record { low = omega arith; next = omega arith; high = omega arith })) }
        | inr (inr (inr a)) ↦
            let z : suc (o.first + 0) ≡ suc o.first = omega arith in
            let e = new_rank x 0 off.some_vertex (ap w z ∙ sym a.0) in
            record { within = l; dart = inr (inr (inr record { tail = omega arith; head = on_rank (o.cut i) b' ∙ ap rank' (sym a.1) })) }
      ]

  on_face_after : (x y : ℕ) → HasDart lists x y → alive (face_of lists x y) ≡ true → IsMadeDart steps' (suc n) (rank' x) (rank' y) (number' (face_of lists x y))
  on_face_after x y has live =
      let face = face_of lists x y in
      elim (cases_Bool (o.alive face)) [
        | inl still ↦
            let z = follows lists y x in
            let live_next : o.alive (face_of lists y z) ≡ true = ap o.alive (face_of-step lists simple x y has) ∙ still in
            let e = old_rank x (living_stays x y has still) in
            let e' = old_rank y (living_stays y z (HasDart-follows lists y x (simple.both_ways x y has)) live_next) in
            let e'' : number' face ≡ number face = put-old o.made (faces_made steps n) number o.faces face (λ i l q. true≢false (sym still ∙ (ap o.alive (sym q) ∙ off.dead i l))) in
            subst (λ a. IsMadeDart steps' (suc n) a (rank' y) (number' face)) (sym e) (subst (λ b. IsMadeDart steps' (suc n) (rank x) b (number' face)) (sym e') (subst (IsMadeDart steps' (suc n) (rank x) (rank y)) (sym e'') (IsMadeDart-longer steps n step (rank x) (rank y) (number face) (built.on_face x y has still))))
        | inr dead ↦
            let gone = off.gone face live dead in
            let found = put-found o.made (faces_made steps n) number o.faces face gone.0 gone.1 (sym gone.2) in
            IsMadeDart-last steps n step found.0 (rank' x) (rank' y) (number' face) (made_dart found.0 x y found.1 (off.darts found.0 x y found.1 has (sym found.2))) found.3
      ]

  -- the two ends of the step are touched
  end_touched : (p : ℕ) → (p ≡ o.first) ⊎ (p ≡ o.last) → IsTouched steps' (suc n) (rank' (o.contour p))
  end_touched p h =
      let a = first_lt lists alive w r o off in
      elim h [
        | inl e ↦ rw e (IsTouched-last steps n step (rank' (o.contour o.first)) (inl (on_rank o.first (omega arith))))
        | inr e ↦ rw e (IsTouched-last steps n step (rank' (o.contour o.last)) (inr (on_rank o.last off.within)))
      ]

  -- a removed face at a vertex of the new contour: the vertex is where two of them meet, or else the edge has a face on its other side that is left
  removed_at : (p x i : ℕ) → p ≤ o.places → o.places ≢ 1 → i < o.faces → IsOnRemoved w o i (o.contour p) x → (o.alive (face_of lists x (o.contour p)) ≡ true) ⊎ ((t : ℕ) × (t ≤ o.faces) × (p ≡ o.cut t))
  removed_at p x i l many m h =
      let b = cut_within (suc i) m in
      elim h [
        | inl a ↦
            inl (ap₂ (λ s t. o.alive (face_of lists s t)) (sym a.4) (sym a.3) ∙ (shore.edge a.0 (omega arith) many).inside)
        | inr (inl a) ↦ inr (suc i, m, shore.distinct p (o.cut (suc i)) l b a.0)
        | inr (inr (inl a)) ↦ absurd (on_stays p l a.0 a.2 (sym a.3))
        | inr (inr (inr a)) ↦ (let z : suc (o.first + 0) ≡ suc o.first = omega arith in absurd (on_stays p l 0 off.some_vertex (ap w z ∙ sym a.0)))
      ]

  removed_to : (p x i : ℕ) → p ≤ o.places → o.places ≢ 1 → i < o.faces → IsOnRemoved w o i x (o.contour p) → (o.alive (face_of lists (o.contour p) x) ≡ true) ⊎ ((t : ℕ) × (t ≤ o.faces) × (p ≡ o.cut t))
  removed_to p x i l many m h =
      let b' = cut_within (suc i) m in
      elim h [
        | inl a ↦
            inl (ap₂ (λ s t. o.alive (face_of lists s t)) (sym a.4) (sym a.3) ∙ (shore.edge a.0 (omega arith) many).inside)
        | inr (inl a) ↦ (let q : ℕ = o.vertices - 1 in let z : suc (o.first + q) ≡ o.first + o.vertices = omega arith in absurd (on_stays p l q (omega arith) (ap w z ∙ sym a.1)))
        | inr (inr (inl a)) ↦ (let pos = a.1 in let less = a.2 in let q : ℕ = a.0 - 1 in let z : suc (o.first + q) ≡ o.first + a.0 = omega arith in absurd (on_stays p l q (omega arith) (ap w z ∙ sym a.4)))
        | inr (inr (inr a)) ↦ inr (i, omega arith, shore.distinct p (o.cut i) l (cut_within i (omega arith)) a.1)
      ]

  -- an edge at a vertex of the new contour that is taken off now: the vertex is where two removed faces meet, or an end
  opened_at : (p : ℕ) → 0 < p → p < o.places → IsOpen lists o.alive (o.contour p) → ¬ IsOpen lists alive (o.contour p) → (t : ℕ) × (t ≤ o.faces) × (p ≡ o.cut t)
  opened_at p some l now before =
      let v = o.contour p in
      let x = now.0 in
      elim (cases_Bool (alive (face_of lists v x))) [
        | inl live ↦
            let gone = off.gone (face_of lists v x) live now.2 in
            elim (removed_at p x gone.0 (omega arith) (λ e. omega arith) gone.1 (off.darts gone.0 v x gone.1 now.1 gone.2)) [
              | inl t ↦ absurd (true≢false (sym t ∙ now.3))
              | inr at ↦ at
            ]
        | inr dead ↦ elim (cases_Bool (alive (face_of lists x v))) [
          | inr dead' ↦ absurd (before (x, now.1, dead, dead'))
          | inl live ↦
              let gone = off.gone (face_of lists x v) live now.3 in
              elim (removed_to p x gone.0 (omega arith) (λ e. omega arith) gone.1 (off.darts gone.0 x v gone.1 (simple.both_ways v x now.1) gone.2)) [
                | inl t ↦ absurd (true≢false (sym t ∙ now.2))
                | inr at ↦ at
              ]
        ]
      ]

  module _ (touched : AreTouched lists o.alive o.contour o.places steps n rank) where
    -- what stays on the contour, and had no edge taken off
    pub stayed_touched : (i : ℕ) → 0 < i → i < r → Stays (w i) → ¬ IsOpen lists alive (w i) → IsTouched steps' (suc n) (rank' (w i))
    stayed_touched i some l stays closed =
        let on = stays_on i (omega arith) stays in
        let p = on.0 in
        let in_p = on.1 in
        let at = on.2 in
        let v = o.contour p in
        let inner_0 : p ≢ 0 = λ e. (let z : i ≡ 0 = contour.distinct i 0 (omega arith) (omega arith) (sym at ∙ (ap o.contour e ∙ begins_as_before lists alive w r o off)) in omega arith) in
        let inner_r : p ≢ o.places = λ e. (let z : i ≡ r = contour.distinct i r (omega arith) (omega arith) (sym at ∙ (ap o.contour e ∙ ends_as_before lists alive w r o off)) in omega arith) in
        let some' : 0 < p = omega arith in
        let l' : p < o.places = omega arith in
        let closed_v : ¬ IsOpen lists alive v = λ h. closed (subst (IsOpen lists alive) at h) in
        let result : IsTouched steps' (suc n) (rank' v) = elim (cases_IsOpen lists o.alive simple v) [
          | inr none ↦ subst (IsTouched steps' (suc n)) (sym (old_rank v (on_stays p in_p))) (IsTouched-longer steps n step n (suc n) (rank v) (omega arith) (omega arith) (touched p some' l' none))
          | inl now ↦
              let cut = opened_at p some' l' now closed_v in
              let low = cut-first g step is_step cut.0 cut.1 in
              let high = cut-last g step is_step cut.0 cut.1 in
              end_touched p (elim (cases_eq p o.first) [
                | inl q ↦ inl q
                | inr nq ↦ elim (cases_eq p o.last) [
                  | inl q ↦ inr q
                  | inr nq' ↦ absurd (off.fresh p i (omega arith) (omega arith) (omega arith) at)
                ]
              ])
        ] in
        subst (λ t. IsTouched steps' (suc n) (rank' t)) at result

    -- what stands strictly under a removed face has all its edges yet
    under_closed : (i p : ℕ) → i < o.faces → o.cut i < p → p < o.cut (suc i) → ¬ IsOpen lists o.alive (o.contour p)
    under_closed i p l low high now =
        let v = o.contour p in
        let x = now.0 in
        let first = cut-first g step is_step i (omega arith) in
        let last = cut-last g step is_step (suc i) l in
        let fresh : (m : ℕ) → m ≤ r → w m ≢ v = λ m k e. off.fresh p m (omega arith) (omega arith) k (sym e) in
        let rim = shore.edge p (omega arith) (λ e. omega arith) in
        let next = o.contour (suc p) in
        let live : alive (face_of lists next v) ≡ true = off.still (face_of lists next v) rim.inside in
        let z = follows lists v next in
        let live_z : alive (face_of lists v z) ≡ true = ap alive (face_of-step lists simple next v (simple.both_ways v next rim.dart)) ∙ live in
        let all = off_contour lists alive w r simple contour.only contour.round v z x fresh (HasDart-follows lists v next rim.dart) live_z now.1 in
        let gone = off.gone (face_of lists v x) all.0 now.2 in
        elim (removed_at p x gone.0 (omega arith) (λ e. omega arith) gone.1 (off.darts gone.0 v x gone.1 now.1 gone.2)) [
          | inl t ↦ true≢false (sym t ∙ now.3)
          | inr cut ↦
              elim (cases_lt i cut.0) [
                | inl m ↦ (let h = cut-le g step is_step (suc i) cut.0 m cut.1 in omega arith)
                | inr m ↦ (let h = cut-le g step is_step cut.0 i m (omega arith) in omega arith)
              ]
        ]

    pub under_after : (k v : ℕ) → k < suc n → IsUnder steps' k v → IsTouched steps' k v
    under_after k v l u =
        elim (cases_eq k n) [
          | inr ne ↦ IsTouched-longer steps n step k k v (omega arith) (omega arith) (built.under k v (omega arith) (IsUnder-longer steps n step k v (omega arith) u))
          | inl e ↦
              let at = IsUnder-last steps n step v (subst (λ t. IsUnder steps' t v) e u) in
              let last = cut-last g step is_step (suc at.0) at.2 in
              let was = touched at.1 (omega arith) (omega arith) (under_closed at.0 at.1 at.2 at.3 at.4) in
              let is_v : rank (o.contour at.1) ≡ v = sym (built.contour at.1 (omega arith)) ∙ at.5 in
              subst (λ t. IsTouched steps' t v) (sym e) (IsTouched-longer steps n step n n v (omega arith) (omega arith) (subst (IsTouched steps n) is_v was))
        ]

    -- THE STEP
    pub built_after : IsBuilt lists alive w r steps' (suc n) rank' number'
    built_after =
        let zero_stays : Stays (w 0) = subst Stays (begins_as_before lists alive w r o off) (on_stays 0 (omega arith)) in
        let last_stays : Stays (w r) = subst Stays (ends_as_before lists alive w r o off) (on_stays o.places (omega arith)) in
        let last = stage-last steps n step in
        let wide : (after g step).width ≡ suc r = omega arith in
        let made_now : faces_made steps n + o.faces ≡ count_below alive (dart_count lists) = omega arith in
        record {
          run = IsRun-longer steps n step built.run is_step;
          width = ap (λ s. s.width) last ∙ wide;
          contour = λ i l. ap (λ s. s.vertex i) last ∙ contour_vertex i l;
          placed = λ v p. subst (λ s. rank' v < s.count) (sym last) (placed_rank v p);
          apart = placed_apart;
          on_face = on_face_after;
          under = under_after;
          faces = faces-last steps n step ∙ made_now;
          first = old_rank (w 0) zero_stays ∙ (ap rank (sym (begins_as_before lists alive w r o off)) ∙ built.first);
          second = old_rank (w r) last_stays ∙ (ap rank (sym (ends_as_before lists alive w r o off)) ∙ built.second);
        }
