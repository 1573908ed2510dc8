-- The run of a whole map: the face of the base goes first, then the vertex before the base, and all else after it.
use Rattle.std.proofs.Common.{◌≡◌, ◌≢◌, ℕ, suc, ◌+◌, ◌<◌, ◌≤◌, Bool, false, length, refl, sym, ap, ◌∙◌, subst, inl, inr, arith, eqb, cond, eq-eqb, ne_eqb, ◌==◌}
use Rattle.std.specs.List.{list_any}
use Rattle.std.proofs.lemmas.Bool.{cases_Bool, cases_eq, true≢false}
use Rattle.classes.specs.Classes.{count_below}
use Rattle.classes.proofs.Counting.{count_below-le}
use Rattle.map_lists.specs.Lists.{Lists}
use Rattle.map_theory.specs.Maps.{list_of, HasDart, IsSimpleMap, component_count, face_count, dart_count}
use Rattle.map_theory.specs.Paths.{SameFace}
use Rattle.map_theory.proofs.DartLemmas.{HasDart-at}
use Rattle.plane_laws.proofs.EdgeBound.{none_isolated}
use Rattle.plane_peeling.proofs.Counted.{list-count_below}
use Rattle.convex_peeling.specs.Polyhedral.{IsPolyhedral}
use Rattle.contour_runs.specs.FaceRuns.{Step, stage_after, faces_made, IsTouched}
use Rattle.convex_counts.specs.Turns.{IsTouchedRun}
use Rattle.convex_laws.specs.FaceDrawings.{IsMadeDart, IsRunDart}
use Rattle.convex_laws.specs.ConvexDrawings.{IsRunMap}
use Rattle.convex_peeling.specs.Contours.{face_of, IsRim, IsOpen, IsFirst}
use Rattle.convex_peeling.specs.Removals.{Removal, IsTakenOff}
use Rattle.convex_peeling.specs.FacePeelingLaws.{HasThree}
use Rattle.convex_peeling.proofs.Faces.{SameFace-labels, labels-SameFace, face_of-step}
use Rattle.convex_peeling.proofs.Firsts.{first_taken_off_law}
use Rattle.convex_laws.specs.RunsOfMaps.{IsRunOf, RunOfMap}
use Rattle.convex_laws.proofs.Longer.{stage-last}
use Rattle.convex_laws.proofs.Grown.{IsPlaced, IsShore, IsShore-contour, IsBuilt, AreTouched, step, steps', rank', number', new_rank, cases_goer, stayed_touched, built_after}
use Rattle.convex_laws.proofs.Built.{run_by}

-- a map whose vertices have three neighbours has three vertices
three_vertices : (lists : Lists) → IsSimpleMap lists → HasThree lists → 3 ≤ length lists
three_vertices lists simple three =
    let us = list_of lists 0 in
    let most = count_below-le (λ u. list_any (λ w. w == u) us) (length lists) in
    omega (arith, list-count_below us (length lists) (simple.no_repeat 0 simple.some_vertex) (λ u c. simple.in_range 0 u (simple.some_vertex, c)))

module _ (lists : Lists) (s d : ℕ) (simple : IsSimpleMap lists) (one : component_count lists ≡ 1) (polyhedral : IsPolyhedral lists) (three : HasThree lists) (base : HasDart lists s d) (alive : ℕ → Bool) (w : ℕ → ℕ) (r : ℕ) (f : IsFirst lists s d alive w r) where
  abbrev pub H : ℕ
  H = face_of lists s d

  -- a dart of the face of the base is one of the rim
  rim_of : (x y : ℕ) → HasDart lists x y → alive (face_of lists x y) ≡ false → IsRim lists alive x y
  rim_of x y has dead =
      record {
        dart = has;
        outside = dead;
        inside = elim (cases_Bool (alive (face_of lists y x))) [
          | inl t ↦ t
          | inr g ↦ absurd (polyhedral.apart x y has (SameFace-labels lists x y y x (f.outer x y has dead ∙ sym (f.outer y x (simple.both_ways x y has) g))))
        ];
      }

  none_open : (v : ℕ) → ¬ IsOpen lists alive v
  none_open v o = true≢false (sym (rim_of v o.0 o.1 o.2).inside ∙ o.3)

  some_dart : (v : ℕ) → v < length lists → (x : ℕ) × HasDart lists v x
  some_dart v l = let m = three v l in let h = HasDart-at lists v 0 0 l (omega arith) in (_, h)

  all_placed : (v : ℕ) → v < length lists → IsPlaced lists alive w r v
  all_placed v l =
      let x = some_dart v l in
      elim (cases_Bool (alive (face_of lists v x.0))) [
        | inl live ↦ inr (x.0, x.1, live)
        | inr dead ↦ (let at = f.contour.only v x.0 (rim_of v x.0 x.1 dead) in inl (at.0, at.1, at.2))
      ]

  module _ (o : Removal) (off : IsTakenOff lists alive w r o) (first_is : o.first + 2 ≡ r) (one_is : o.vertices ≡ 1) (shore : IsShore lists o.alive o.contour o.places) (steps : ℕ → Step) (n : ℕ) (rank number : ℕ → ℕ) (built : IsBuilt lists o.alive o.contour o.places steps n rank number) (touched : AreTouched lists o.alive o.contour o.places steps n rank) where
    abbrev pub all_steps : ℕ → Step
    all_steps = steps' lists alive w r o steps n rank number simple f.contour off shore built

    abbrev pub all_ranks : ℕ → ℕ
    all_ranks = rank' lists alive w r o steps n rank number simple f.contour off shore built

    abbrev pub all_numbers : ℕ → ℕ
    all_numbers = number' lists alive w r o steps n rank number simple f.contour off shore built

    whole : IsBuilt lists alive w r all_steps (suc n) all_ranks all_numbers
    whole = built_after lists alive w r o steps n rank number simple f.contour off shore built touched

    abbrev pub total : ℕ
    total = faces_made all_steps (suc n)

    counted : (stage_after all_steps (suc n)).count ≡ (stage_after steps n).count + o.vertices
    counted = ap (λ g. g.count) (stage-last steps n (step lists alive w r o steps n rank number simple f.contour off shore built))

    -- the number of a face, by its label
    pub numbered : ℕ → ℕ
    numbered face = cond (eqb face H) total (all_numbers face)

    numbered-outer : (face : ℕ) → face ≡ H → numbered face ≡ total
    unfolding numbered
    numbered-outer face e = rw (eq-eqb face H e)

    numbered-inner : (face : ℕ) → face ≢ H → numbered face ≡ all_numbers face
    unfolding numbered
    numbered-inner face ne = rw (ne_eqb face H ne)

    on_face : (x y : ℕ) → HasDart lists x y → IsRunDart all_steps (suc n) (all_ranks x) (all_ranks y) (numbered (face_of lists x y))
    on_face x y has =
        let face = face_of lists x y in
        elim (cases_Bool (alive face)) [
          | inl live ↦
              let ne : face ≢ H = λ e. true≢false (sym live ∙ (ap alive e ∙ f.taken)) in
              inl (subst (λ t. IsMade (all_ranks x) (all_ranks y) t) (sym (numbered-inner face ne)) (whole.on_face x y has live))
          | inr dead ↦
              let outer = numbered-outer face (f.outer x y has dead) in
              let at = f.contour.only x y (rim_of x y has dead) in
              let i = at.0 in
              let l = at.1 in
              elim (cases_eq i r) [
                | inl e ↦ inr (inr (record {
                  tail = ap all_ranks (sym at.2 ∙ ap w e) ∙ whole.second;
                  head = ap all_ranks (sym at.3 ∙ (ap (λ t. w (suc t)) e ∙ f.contour.round)) ∙ whole.first;
                  number = outer;
                }))
                | inr ne ↦ inr (inl (record {
                  place = i;
                  along = record { within = omega (arith, whole.width); tail = whole.contour i l ∙ ap all_ranks at.2; head = whole.contour (suc i) (omega arith) ∙ ap all_ranks at.3 };
                  number = outer;
                }))
              ]
        ]
      where
        IsMade : ℕ → ℕ → ℕ → Type 0
        IsMade a b t = IsMadeDart all_steps (suc n) a b t

    map_is : IsRunMap lists (s, d) all_steps (suc n) all_ranks (λ x y. numbered (face_of lists x y))
    map_is =
        record {
          simple = simple;
          joined = λ v l. some_dart v l;
          dart = base;
          ranks = λ u v l m e. whole.apart u v (all_placed u l) (all_placed v m) e;
          placed = λ v l. whole.placed v (all_placed v l);
          on_face = on_face;
          faces = λ x y has. ap numbered (face_of-step lists simple x y has);
          first = ap all_ranks (sym f.first) ∙ whole.first;
          second = ap all_ranks (sym f.last) ∙ whole.second;
          outer = numbered-outer H refl;
        }

    run_touched : IsTouchedRun all_steps (suc n)
    run_touched =
        record {
          run = whole.run;
          some = omega arith;
          under = whole.under;
          end = λ j some l less.
              let width = whole.width in
              let at : (stage_after all_steps (suc n)).vertex j ≡ all_ranks (w j) = whole.contour j (omega arith) in
              subst (IsTouched all_steps (suc n)) (sym at) (elim (cases_goer lists alive w r o steps n rank number simple f.contour off shore built (w j)) [
                | inl goes ↦
                    let e = new_rank lists alive w r o steps n rank number simple f.contour off shore built (w j) goes.0 goes.1 goes.2 in
                    absurd (omega (arith, counted))
                | inr stays ↦ stayed_touched lists alive w r o steps n rank number simple f.contour off shore built touched j some (omega arith) stays (none_open (w j))
              ]);
        }

    faces_are : total + 1 ≡ face_count lists
    unfolding face_count
    faces_are =
        omega (arith, none_isolated lists simple (omega arith) (three_vertices lists simple three), whole.faces)

    last_is : (e : ℕ) → HasDart lists e s → SameFace lists (e, s) (s, d) → suc (all_ranks e) ≡ (stage_after all_steps (suc n)).count
    last_is e has same =
        let at = f.contour.only e s (rim_of e s has (ap alive (labels-SameFace lists e s s d same) ∙ f.taken)) in
        let i = at.0 in
        let i_r : i ≢ r = λ q. (let z : 0 ≡ r = f.contour.distinct 0 r (omega arith) (omega arith) (sym f.contour.round ∙ (ap (λ t. w (suc t)) (sym q) ∙ (at.3 ∙ sym f.last))) in omega arith) in
        let z : suc i ≡ r = f.contour.distinct (suc i) r (omega arith) (omega arith) (at.3 ∙ sym f.last) in
        let z' : suc (o.first + 0) ≡ i = omega arith in
        omega (arith, new_rank lists alive w r o steps n rank number simple f.contour off shore built e 0 (omega arith) (ap w z' ∙ at.2), counted)

    pub run_is : IsRunOf lists s d all_steps (suc n) all_ranks (λ x y. numbered (face_of lists x y))
    run_is = record { touched = run_touched; map = map_is; faces = faces_are; last = last_is }

-- THE LAW: a run of a polyhedral map
pub run_of_map_law : RunOfMap
run_of_map_law lists s d simple plane one polyhedral three base =
    let found = first_taken_off_law lists s d simple polyhedral three base in
    let alive = found.0 in
    let w = found.1 in
    let r = found.2 in
    let o = found.3 in
    let f = found.4 in
    let off = found.5 in
    let rest = run_by lists simple plane one polyhedral three (suc (count_below o.alive (dart_count lists))) o.alive o.contour o.places found.6 found.7 (λ g t. f.labels g (off.still g t)) (omega arith) in
    let shore = IsShore-contour lists o.alive o.contour o.places found.6 in (
      all_steps lists s d simple one polyhedral three base alive w r f o off found.8 found.9 shore rest.0 rest.1 rest.2 rest.3 rest.4 rest.5,
      suc rest.1,
      all_ranks lists s d simple one polyhedral three base alive w r f o off found.8 found.9 shore rest.0 rest.1 rest.2 rest.3 rest.4 rest.5,
      (λ x y. numbered lists s d simple one polyhedral three base alive w r f o off found.8 found.9 shore rest.0 rest.1 rest.2 rest.3 rest.4 rest.5 (face_of lists x y)),
      run_is lists s d simple one polyhedral three base alive w r f o off found.8 found.9 shore rest.0 rest.1 rest.2 rest.3 rest.4 rest.5,
    )
