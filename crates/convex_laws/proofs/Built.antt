-- By removals to the base alone, and read backwards: each contour, once the removals have begun, is that of a run.
use Rattle.std.proofs.Common.{◌≡◌, ◌≢◌, ℕ, zero, suc, ◌<◌, ◌≤◌, Bool, true, false, refl, sym, ap, ◌∙◌, subst, inl, inr, arith, eqb, cond, eq-eqb, ne_eqb}
use Rattle.std.proofs.lemmas.Bool.{cases_Bool, cases_eq}
use Rattle.classes.specs.Classes.{label, count_below}
use Rattle.classes.proofs.Counting.{count_below_same, count_below_none}
use Rattle.map_lists.specs.Lists.{Lists}
use Rattle.map_theory.specs.Maps.{HasDart, IsSimpleMap, IsPlane, component_count, dart_count, face_classes}
use Rattle.map_theory.proofs.DartPermutations.{dart_of, dart_of-number}
use Rattle.convex_peeling.specs.Polyhedral.{IsPolyhedral}
use Rattle.contour_runs.specs.FaceRuns.{Step}
use Rattle.convex_peeling.specs.Contours.{face_of, IsContour, IsOpen, IsBegun}
use Rattle.convex_peeling.specs.Removals.{Removal, IsTakenOff}
use Rattle.convex_peeling.specs.FacePeelingLaws.{HasThree, AreOpen}
use Rattle.convex_peeling.proofs.TakenOff.{some_taken_off_law}
use Rattle.convex_peeling.proofs.Removed.{goes_on_begun}
use Rattle.convex_laws.proofs.Grown.{IsShore, IsShore-contour, IsBuilt, AreTouched, steps', rank', number', cases_goer, stayed_touched, built_after}
use Rattle.convex_laws.proofs.Last.{last_goes}

-- what is left are labels of faces
abbrev pub AreLabels : Lists → (ℕ → Bool) → Type 0
AreLabels lists alive = (face : ℕ) → alive face ≡ true → label (face_classes lists) face ≡ face

-- there is a run
abbrev pub HasRun : Lists → (ℕ → Bool) → (ℕ → ℕ) → ℕ → Type 0
HasRun lists alive w r = (steps : ℕ → Step) × (n : ℕ) × (rank : ℕ → ℕ) × (number : ℕ → ℕ) × IsBuilt lists alive w r steps n rank number × AreTouched lists alive w r steps n rank

-- no faces are none by their labels
pub none_counted : (lists : Lists) (alive : ℕ → Bool) → IsSimpleMap lists → AreLabels lists alive → ((x y : ℕ) → HasDart lists x y → alive (face_of lists x y) ≢ true) → count_below alive (dart_count lists) ≡ 0
none_counted lists alive simple labels none =
    let k = dart_count lists in
    count_below_same alive (λ i. false) k (λ i l. elim (cases_Bool (alive i)) [
      | inr f ↦ f
      | inl t ↦
          let d = dart_of lists i in
          let number = dart_of-number lists simple i l in
          absurd (none d.0 d.1 number.is_dart (ap alive (ap (label (face_classes lists)) number.number ∙ labels i t) ∙ t))
    ]) ∙ count_below_none k

-- the ranks of the base
base_rank : ℕ → ℕ → ℕ
base_rank a v = cond (eqb v a) 0 1

base_rank-first : (a v : ℕ) → v ≡ a → base_rank a v ≡ 0
unfolding base_rank
base_rank-first a v e = rw (eq-eqb v a e)

base_rank-second : (a v : ℕ) → v ≢ a → base_rank a v ≡ 1
unfolding base_rank
base_rank-second a v ne = rw (ne_eqb v a ne)

base_rank-le : (a v : ℕ) → base_rank a v ≤ 1
base_rank-le a v = elim (cases_eq v a) [ inl e ↦ (let z = base_rank-first a v e in omega arith) | inr ne ↦ (let z = base_rank-second a v ne in omega arith) ]

-- the base alone is a run of no steps
module _ (lists : Lists) (alive : ℕ → Bool) (w : ℕ → ℕ) (r : ℕ) (simple : IsSimpleMap lists) (labels : AreLabels lists alive) (none : (x y : ℕ) → HasDart lists x y → alive (face_of lists x y) ≢ true) (two : r ≡ 1) (apart : w 0 ≢ w r) where
  some_step : ℕ → Step
  some_step k = record { first = 0; last = 0; vertices = 0; faces = 0; cut = λ i. i; turn = λ i. i }

  abbrev rank : ℕ → ℕ
  rank = base_rank (w 0)

  contour_rank : (i : ℕ) → i ≤ r → i ≡ rank (w i)
  contour_rank i l = grind (arith, cases_eq, base_rank-first, base_rank-second)

  pub base_built : HasRun lists alive w r
  base_built = (
    some_step,
    0,
    rank,
    λ f. 0,
    record {
      run = λ k l. absurd (omega arith);
      width = omega arith;
      contour = contour_rank;
      placed = λ v p. let l = base_rank-le (w 0) v in omega arith;
      apart = λ u v p p' e. elim p [
        | inr h ↦ absurd (none u h.0 h.1 h.2)
        | inl at ↦ grind (arith, contour_rank, rank)
      ];
      on_face = λ x y has live. absurd (none x y has live);
      under = λ k v l u. absurd (omega arith);
      faces = sym (none_counted lists alive simple labels none);
      first = base_rank-first (w 0) (w 0) refl;
      second = base_rank-second (w 0) (w r) (λ e. apart (sym e));
    },
    λ i some l closed. absurd (omega arith),
  )

module _ (lists : Lists) (simple : IsSimpleMap lists) (plane : IsPlane lists) (one : component_count lists ≡ 1) (polyhedral : IsPolyhedral lists) (three : HasThree lists) where
  -- a removal at each of whose vertices an edge is taken off, and a run of what it leaves
  grown : (alive : ℕ → Bool) (w : ℕ → ℕ) (r : ℕ) (o : Removal) → IsContour lists alive w r → IsTakenOff lists alive w r o → IsShore lists o.alive o.contour o.places → AreOpen lists alive w o → HasRun lists o.alive o.contour o.places → HasRun lists alive w r
  grown alive w r o contour off shore open_at run =
      let n = run.1 in
      let touched = run.5 in (
        steps' lists alive w r o run.0 n run.2 run.3 simple contour off shore run.4,
        suc n,
        rank' lists alive w r o run.0 n run.2 run.3 simple contour off shore run.4,
        number' lists alive w r o run.0 n run.2 run.3 simple contour off shore run.4,
        built_after lists alive w r o run.0 n run.2 run.3 simple contour off shore run.4 touched,
        λ i some l closed. elim (cases_goer lists alive w r o run.0 n run.2 run.3 simple contour off shore run.4 (w i)) [
          | inl at ↦ absurd (closed (subst (IsOpen lists alive) at.2 (open_at at.0 at.1)))
          | inr stays ↦ stayed_touched lists alive w r o run.0 n run.2 run.3 simple contour off shore run.4 touched i some l stays closed
        ],
      )

  pub run_by : (m : ℕ) (alive : ℕ → Bool) (w : ℕ → ℕ) (r : ℕ) → IsContour lists alive w r → IsBegun lists alive w r → AreLabels lists alive → count_below alive (dart_count lists) < m → HasRun lists alive w r
  run_by zero alive w r contour begun labels l = absurd (omega arith)
  run_by (suc m) alive w r contour begun labels l =
      elim (some_taken_off_law lists alive w r simple plane polyhedral three contour begun) [
        | inl all ↦
            let last = last_goes lists alive w r simple one polyhedral three contour all in
            let o = last.0 in
            let is_last = last.1 in
            let apart : o.contour 0 ≢ o.contour o.places = λ e. (let q = is_last.two in let z : 0 ≡ o.places = is_last.shore.distinct 0 o.places (omega arith) (omega arith) e in omega arith) in
            let rest = base_built lists o.alive o.contour o.places simple (λ f t. labels f (is_last.off.still f t)) is_last.none is_last.two apart in
            grown alive w r o contour is_last.off is_last.shore is_last.open_at rest
        | inr found ↦
            let o = found.0 in
            let off = found.1 in
            let rest = run_by m o.alive o.contour o.places found.2 (goes_on_begun lists alive w r o off begun) (λ f t. labels f (off.still f t)) (omega arith) in
            grown alive w r o contour off (IsShore-contour lists o.alive o.contour o.places found.2) found.3 rest
      ]
