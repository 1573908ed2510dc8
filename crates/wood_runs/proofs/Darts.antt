-- Faces on both sides of an edge, and all round the map.
use Rattle.std.proofs.Common.{◌≡◌, ◌≢◌, ◌⊎◌, ℕ, zero, suc, ◌+◌, ◌-◌, ◌*◌, ◌<◌, ◌≤◌, refl, sym, ap, ap₂, ◌∙◌, subst, inl, inr, arith}
use Rattle.std.proofs.lemmas.Bool.{cases_eq, cases_lt}
use Rattle.contour_runs.specs.Runs.{Step, Stage, stage_after, IsRun, IsCovered, IsFaceOf, IsDartOf}
use Rattle.contour_runs.specs.Laws.{IsStage}
use Rattle.contour_runs.proofs.Places.{vertex_after-low, vertex_after-new, vertex_after-high}
use Rattle.contour_runs.proofs.Stages.{IsStage-run, IsRun-less, count-stage_after}
use Rattle.contour_runs.proofs.Faces.{face_made_once}
use Rattle.contour_runs.proofs.Steps.{IsFalling-run}
use Rattle.wood_runs.specs.Parents.{Colour, one, two, three}
use Rattle.wood_runs.specs.Fronts.{old_front, fronts, shades, IsOn}
use Rattle.wood_runs.proofs.Crossing.IsCrossing.{within as along_outer}
use Rattle.wood_runs.proofs.Steps.{front_after-first, front_after-last, shade_after-older}
use Rattle.wood_runs.proofs.Shades.{IsShaded-run, older_old}
use Rattle.wood_runs.proofs.Nested.{IsNested-run, old_on, new_on}
use Rattle.wood_runs.proofs.Crossing.{crosses, IsLeft, IsOuter, HasShade, IsInside, IsCrossing, made, outer, out, into, around}
use Rattle.wood_runs.proofs.Edges.{Along, base, leftward, rightward, along, IsMadeLater, is_later, face_of, before, corner, stands, base_seen, second_alone}

-- a run whose last step covers all but the base
module _ (steps : ℕ → Step) (n : ℕ) (run : IsRun steps n) (some : 0 < n) (end : (stage_after steps n).width ≡ 3) where
  abbrev at : ℕ → Stage
  at k = stage_after steps k

  less : (m : ℕ) → m ≤ n → IsRun steps m
  less m l = IsRun-less steps m n l run

  sound : (m : ℕ) → m ≤ n → IsStage (at m)
  sound m l = IsStage-run steps m (less m l)

  over_all : (k : ℕ) → suc k ≡ n → ((steps k).first ≡ 0) × (suc (steps k).last ≡ (at k).width)
  over_all k e = grind (arith, at)

  top_is : (at n).vertex 1 ≡ suc n
  top_is = by n refl
    where
      by : (m : ℕ) → m ≡ n → (at m).vertex 1 ≡ suc m
      by zero e = absurd (omega arith)
      by (suc m) e = vertex_after-new (at m) (steps m) 1 (let o = (over_all m e).0 in omega arith) ∙ count-stage_after steps m ∙ omega arith

  -- the three corners of a face, as darts
  dart_one : (k i : ℕ) → (steps k).first ≤ i → i < (steps k).last → IsDartOf steps k i ((at k).vertex i) ((at k).vertex (suc i))
  dart_one k i a b = record { a = _; b = _; v = _; face = face_of steps k i a b; dart = inl (refl, refl) }

  dart_two : (k i : ℕ) → (steps k).first ≤ i → i < (steps k).last → IsDartOf steps k i ((at k).vertex (suc i)) (k + 2)
  dart_two k i a b = record { a = _; b = _; v = _; face = face_of steps k i a b; dart = inr (inl (refl, refl)) }

  dart_three : (k i : ℕ) → (steps k).first ≤ i → i < (steps k).last → IsDartOf steps k i (k + 2) ((at k).vertex i)
  dart_three k i a b = record { a = _; b = _; v = _; face = face_of steps k i a b; dart = inr (inr (refl, refl)) }

  -- a vertex on a face that an inner vertex sees with a shade has a dart with a face of that shade on its left
  shade_old : (m v f : ℕ) → suc m ≡ n → v < suc n → f < 2 * m + 1 → shades steps n v f ≡ shades steps m v f
  shade_old m v f e l k =
      let run' = less m (omega arith) in
      let count = count-stage_after steps m in
      ap (λ k. shades steps k v f) (sym e) ∙ older_old (at m) (steps m) (2 * m + 1) (fronts steps m) (shades steps m) (IsStage-run steps m run') (run m (omega arith)) (IsShaded-run steps m run') v f (omega arith) k

  from_corner : (v w f k i : ℕ) → k < n → (steps k).first ≤ i → i < (steps k).last → f ≡ fronts steps k i → (w ≡ (at k).vertex i) ⊎ ((w ≡ (at k).vertex (suc i)) ⊎ (w ≡ k + 2)) → (y : ℕ) × HasShade steps n v w y (shades steps n v f)
  from_corner v w f k i l a b e (inl c) = ((at k).vertex (suc i), made f record { step = k; place = i; earlier = l; dart = subst (λ w. IsDartOf steps k i w ((at k).vertex (suc i))) (sym c) (dart_one k i a b); face = e } refl)
  from_corner v w f k i l a b e (inr (inl c)) = (k + 2, made f record { step = k; place = i; earlier = l; dart = subst (λ w. IsDartOf steps k i w (k + 2)) (sym c) (dart_two k i a b); face = e } refl)
  from_corner v w f k i l a b e (inr (inr c)) = ((at k).vertex i, made f record { step = k; place = i; earlier = l; dart = subst (λ w. IsDartOf steps k i w ((at k).vertex i)) (sym c) (dart_three k i a b); face = e } refl)

  pub on_dart : (v w f : ℕ) → v < suc n → w < n + 2 → IsOn steps n w f → (y : ℕ) × HasShade steps n v w y (shades steps n v f)
  on_dart v w f lv lw o = by n refl
    where
      by : (m : ℕ) → m ≡ n → (y : ℕ) × HasShade steps n v w y (shades steps n v f)
      by zero e = absurd (omega arith)
      by (suc m) e =
          let run' = less m (omega arith) in
          let s = steps m in
          let count = count-stage_after steps m in
          let o' : IsOn steps (suc m) w f = subst (λ k. IsOn steps k w f) (sym e) o in
          let f' = old_front s (2 * m + 1) (fronts steps m) f in
          let all = over_all m e in
          let lv' : v < (at m).count = omega arith in
          let same : shades steps n v f ≡ shades steps m v f' = ap (λ k. shades steps k v f) (sym e) ∙ shade_after-older (at m) s (2 * m + 1) (fronts steps m) (shades steps m) v f lv' in
          elim (cases_lt w (at m).count) [
            | inl x ↦
                let on = old_on (at m) (steps m) (2 * m + 1) (fronts steps m) (shades steps m) (IsOn steps m) (IsStage-run steps m run') (run m (omega arith)) (IsShaded-run steps m run') (IsNested-run steps m run') w f x o' in
                let small = ((IsNested-run steps m run').placed w f' on).1 in
                let same' : shades steps n v f ≡ shades steps n v f' = same ∙ sym (shade_old m v f' e lv small) in
                elim (stands steps m w f' run' on) [
                  | before j b c d ↦ let t = from_corner v w f' m j (omega arith) (omega arith) (omega arith) c (elim d [ inl z ↦ inl z | inr z ↦ inr (inl z) ]) in (t.0, subst (HasShade steps n v w t.0) (sym same') t.1)
                  | corner k i b c d g z ↦ let t = from_corner v w f' k i (omega arith) c d g z in (t.0, subst (HasShade steps n v w t.0) (sym same') t.1)
                ]
            | inr x ↦
                let n' : w ≡ (at m).count = omega arith in
                let j = new_on (at m) (steps m) (2 * m + 1) (fronts steps m) (shades steps m) (IsOn steps m) (IsStage-run steps m run') (run m (omega arith)) (IsShaded-run steps m run') (IsNested-run steps m run') w f n' o' in
                let small = (IsShaded-run steps m run').made j.0 (omega arith) in
                let same' : shades steps n v f ≡ shades steps n v (fronts steps m j.0) = same ∙ ap (shades steps m v) j.3 ∙ sym (shade_old m v (fronts steps m j.0) e lv small) in
                let t = from_corner v w (fronts steps m j.0) m j.0 (omega arith) j.1 j.2 refl (inr (inr (n' ∙ count))) in
                (t.0, subst (HasShade steps n v w t.0) (sym same') t.1)
          ]

  -- the shades at the outer edges
  last_step : (m v : ℕ) → suc m ≡ n → 2 ≤ v → v < suc n → (shades steps n v (fronts steps m (steps m).first) ≡ 2) × ((j : ℕ) → suc j ≡ (steps m).last → shades steps n v (fronts steps m j) ≡ 1)
  last_step m v e some' l =
      let run' = less m (omega arith) in
      let h = IsShaded-run steps m run' in
      let count = count-stage_after steps m in
      let all = over_all m e in
      let alone = (IsFalling-run steps m run').alone v (omega arith) (omega arith) in
      let alone' = second_alone steps m v run' (omega arith) (λ z. absurd (omega arith)) in (
        shade_old m v (fronts steps m (steps m).first) e l (h.made (steps m).first (omega arith)) ∙ h.low v (steps m).first (omega arith) (omega arith) (omega arith),
        λ j x. shade_old m v (fronts steps m j) e l (h.made j (omega arith)) ∙ h.high v j (omega arith) (omega arith) (omega arith),
      )

  -- the three kinds of darts of a made face
  pub record HasTwin (v x y s : ℕ) : Type 0 where
    pub shade : ℕ
    pub twin : HasShade steps n v y x shade
    pub kind : IsCrossing steps n v x y s shade

  along_twin : (v k i : ℕ) → 2 ≤ v → v < suc n → k < n → suc i < (at k).width → Along steps k i → HasTwin v ((at k).vertex i) ((at k).vertex (suc i)) (shades steps n v (fronts steps k i))
  along_twin v k i some' lv l w (base a b c) = record {
    shade = 0;
    twin = outer three (b, a) refl;
    kind = along_outer three (b, a) (ap (shades steps n v) c ∙ (base_seen steps n run).2 v some' (omega arith)) refl;
  }
  along_twin v k i some' lv l w (leftward j jl a b c) =
      let o = (run j (omega arith)).order in
      let f = fronts steps j (steps j).first in
      let x = (at k).vertex i in
      let y = (at k).vertex (suc i) in
      record {
        shade = shades steps n v f;
        twin = made f record { step = j; place = (steps j).first; earlier = omega arith; dart = subst (λ x. IsDartOf steps j (steps j).first y x) (sym b) (subst (λ y. IsDartOf steps j (steps j).first y ((at j).vertex (steps j).first)) (sym a) (dart_three j (steps j).first (omega arith) o)); face = refl } refl;
        kind = into one record { step = j; earlier = omega arith; vertex = a; parent = sym b } (omega arith, omega arith) (crosses steps n run one v y f (fronts steps k i) (omega arith) record { step = j; earlier = omega arith; vertex = a; left = refl; right = c });
      }
  along_twin v k i some' lv l w (rightward j jl a b c) =
      let o = (run j (omega arith)).order in
      let q : ℕ = (steps j).last - 1 in
      let e : suc q ≡ (steps j).last = omega arith in
      let f = fronts steps j q in
      let x = (at k).vertex i in
      let y = (at k).vertex (suc i) in
      record {
        shade = shades steps n v f;
        twin = made f record { step = j; place = q; earlier = omega arith; dart = subst (λ y. IsDartOf steps j q y x) (ap (at j).vertex e ∙ sym b) (subst (λ x. IsDartOf steps j q ((at j).vertex (suc q)) x) (sym a) (dart_two j q (omega arith) (omega arith))); face = refl } refl;
        kind = out two record { step = j; earlier = omega arith; vertex = a; parent = sym b } (omega arith, omega arith) (crosses steps n run two v x (fronts steps k i) f (omega arith) record { step = j; earlier = omega arith; vertex = a; left = c; last = q; last_is = e; right = refl });
      }

  -- the new edges of a step but the last are made later
  new_made : (k j : ℕ) → suc k < n → (j ≡ (steps k).first) ⊎ (j ≡ suc (steps k).first) → IsMadeLater steps (suc k) j n
  new_made k j l side = grind (arith, at, is_later, sound, cases_eq, vertex_after-new, count-stage_after, top_is)

  -- inner ends of an edge of colour three
  covered_inside : (k i : ℕ) → k < n → (steps k).first ≤ i → suc i < (steps k).last → IsInside n ((at k).vertex (suc i))
  covered_inside k i l a b = grind (arith, sound, at, count-stage_after)

  two_twin : (v k i : ℕ) → 2 ≤ v → v < suc n → k < n → (steps k).first ≤ i → i < (steps k).last → HasTwin v ((at k).vertex (suc i)) (k + 2) (shades steps n v (fronts steps k i))
  two_twin v k i some' lv l a b = elim (cases_eq (suc i) (steps k).last) [
    | inr ne ↦
        let h : suc i < (steps k).last = omega arith in
        let x = (at k).vertex (suc i) in
        record {
          shade = shades steps n v (fronts steps k (suc i));
          twin = made (fronts steps k (suc i)) record { step = k; place = suc i; earlier = l; dart = dart_three k (suc i) (omega arith) h; face = refl } refl;
          kind = out three record { step = k; earlier = l; covered = record { place = suc i; low = omega arith; high = h; vertex = refl }; parent = refl } (covered_inside k i l a h)
              (crosses steps n run three v x (fronts steps k i) (fronts steps k (suc i)) (omega arith) record { step = k; earlier = l; before = i; low = a; high = h; vertex = refl; left = refl; right = refl });
        }
    | inl e ↦ elim (cases_lt (suc k) n) [
      | inl more ↦
          let m = new_made k (suc (steps k).first) more (inr refl) in
          let f = fronts steps m.step m.place in
          let tail : (at (suc k)).vertex (suc (steps k).first) ≡ k + 2 = vertex_after-new (at k) (steps k) (suc (steps k).first) refl ∙ count-stage_after steps k in
          let head : (at (suc k)).vertex (suc (suc (steps k).first)) ≡ (at k).vertex (suc i) = vertex_after-high (at k) (steps k) (suc (suc (steps k).first)) (steps k).last (omega arith) (omega arith) (omega arith) ∙ ap (at k).vertex (sym e) in
          let f' : f ≡ 2 * k + 2 = m.front ∙ front_after-last (steps k) (2 * k + 1) (fronts steps k) (suc (steps k).first) refl ∙ omega arith in
          record {
            shade = shades steps n v f;
            twin = made f record { step = m.step; place = m.place; earlier = m.earlier; dart = subst (λ x. IsDartOf steps m.step m.place x ((at k).vertex (suc i))) tail (subst (λ y. IsDartOf steps m.step m.place ((at (suc k)).vertex (suc (steps k).first)) y) head m.dart); face = refl } refl;
            kind = into two record { step = k; earlier = l; vertex = refl; parent = ap (at k).vertex (sym e) } (omega arith, omega arith) (crosses steps n run two v (k + 2) f (fronts steps k i) (omega arith) record { step = k; earlier = l; vertex = refl; left = f'; last = i; last_is = e; right = refl });
          }
      | inr none ↦
          let n' : suc k ≡ n = omega arith in
          let x : (at k).vertex (suc i) ≡ 1 = ap (at k).vertex e ∙ (sound k (omega arith)).end (steps k).last (over_all k n').1 in
          let y : k + 2 ≡ suc n = omega arith in
          record { shade = 0; twin = outer one (y, x) refl; kind = along_outer one (y, x) ((last_step k v n' some' lv).1 i e) refl }
    ]
  ]

  three_twin : (v k i : ℕ) → 2 ≤ v → v < suc n → k < n → (steps k).first ≤ i → i < (steps k).last → HasTwin v (k + 2) ((at k).vertex i) (shades steps n v (fronts steps k i))
  three_twin v k i some' lv l a b = elim (cases_eq i (steps k).first) [
    | inr ne ↦
        let j : ℕ = i - 1 in
        let e : suc j ≡ i = omega arith in
        let lo : (steps k).first ≤ j = omega arith in
        let hi : suc j < (steps k).last = omega arith in
        let y = (at k).vertex i in
        let cover : IsCovered steps k y = record { place = i; low = omega arith; high = b; vertex = refl } in
        record {
          shade = shades steps n v (fronts steps k j);
          twin = made (fronts steps k j) record { step = k; place = j; earlier = l; dart = subst (λ y. IsDartOf steps k j y (k + 2)) (ap (at k).vertex e) (dart_two k j lo (omega arith)); face = refl } refl;
          kind = into three record { step = k; earlier = l; covered = cover; parent = refl } (subst (IsInside n) (ap (at k).vertex e) (covered_inside k j l lo hi))
              (crosses steps n run three v y (fronts steps k j) (fronts steps k i) (omega arith) record { step = k; earlier = l; before = j; low = lo; high = hi; vertex = ap (at k).vertex e; left = refl; right = ap (fronts steps k) (sym e) });
        }
    | inl e ↦ elim (cases_lt (suc k) n) [
      | inl more ↦
          let m = new_made k (steps k).first more (inl refl) in
          let f = fronts steps m.step m.place in
          let tail : (at (suc k)).vertex (steps k).first ≡ (at k).vertex i = vertex_after-low (at k) (steps k) (steps k).first (omega arith) ∙ ap (at k).vertex (sym e) in
          let head : (at (suc k)).vertex (suc (steps k).first) ≡ k + 2 = vertex_after-new (at k) (steps k) (suc (steps k).first) refl ∙ count-stage_after steps k in
          let f' : f ≡ 2 * k + 1 = m.front ∙ front_after-first (steps k) (2 * k + 1) (fronts steps k) (steps k).first refl in
          record {
            shade = shades steps n v f;
            twin = made f record { step = m.step; place = m.place; earlier = m.earlier; dart = subst (λ x. IsDartOf steps m.step m.place x (k + 2)) tail (subst (λ y. IsDartOf steps m.step m.place ((at (suc k)).vertex (steps k).first) y) head m.dart); face = refl } refl;
            kind = out one record { step = k; earlier = l; vertex = refl; parent = ap (at k).vertex (sym e) } (omega arith, omega arith) (crosses steps n run one v (k + 2) (fronts steps k i) f (omega arith) record { step = k; earlier = l; vertex = refl; left = ap (fronts steps k) e; right = f' });
          }
      | inr none ↦
          let n' : suc k ≡ n = omega arith in
          let y : (at k).vertex i ≡ 0 = ap (at k).vertex (e ∙ (over_all k n').0) ∙ (sound k (omega arith)).begin in
          let x : k + 2 ≡ suc n = omega arith in
          record { shade = 0; twin = outer two (y, x) refl; kind = along_outer two (y, x) (ap (λ i. shades steps n v (fronts steps k i)) e ∙ (last_step k v n' some' lv).0) refl }
    ]
  ]

  move : (v x x' y y' s : ℕ) → x' ≡ x → y' ≡ y → HasTwin v x y s → HasTwin v x' y' s
  move v x x' y y' s e e' h = subst (λ x. HasTwin v x y' s) (sym e) (subst (λ y. HasTwin v x y s) (sym e') h)

  made_twin : (v x y k i : ℕ) → 2 ≤ v → v < suc n → k < n → IsDartOf steps k i x y → HasTwin v x y (shades steps n v (fronts steps k i))
  made_twin v x y k i some' lv l d =
      let f = d.face in
      let w = (run k l).within in
      let top : d.v ≡ k + 2 = sym f.new ∙ count-stage_after steps k in
      elim d.dart [
        | inl e ↦ move v ((at k).vertex i) x ((at k).vertex (suc i)) y _ (e.0 ∙ sym f.left) (e.1 ∙ sym f.right) (along_twin v k i some' lv l (omega arith) (along steps k i (less k (omega arith)) (omega arith)))
        | inr (inl e) ↦ move v ((at k).vertex (suc i)) x (k + 2) y _ (e.0 ∙ sym f.right) (e.1 ∙ top) (two_twin v k i some' lv l f.low f.high)
        | inr (inr e) ↦ move v (k + 2) x ((at k).vertex i) y _ (e.0 ∙ top) (e.1 ∙ sym f.left) (three_twin v k i some' lv l f.low f.high)
      ]

  outer_twin : (c : Colour) (v x y s : ℕ) → 2 ≤ v → v < suc n → IsOuter n c x y → s ≡ 0 → HasTwin v x y s
  outer_twin one v x y s some' lv o z =
      let m : ℕ = n - 1 in
      let e : suc m ≡ n = omega arith in
      let l : m < n = omega arith in
      let or = (run m l).order in
      let q : ℕ = (steps m).last - 1 in
      let qe : suc q ≡ (steps m).last = omega arith in
      let y' : (at m).vertex (suc q) ≡ y = ap (at m).vertex qe ∙ (sound m (omega arith)).end (steps m).last (over_all m e).1 ∙ sym o.1 in
      let x' : m + 2 ≡ x = omega (arith, o.0) in
      record {
        shade = shades steps n v (fronts steps m q);
        twin = made (fronts steps m q) record { step = m; place = q; earlier = l; dart = subst (λ y. IsDartOf steps m q y x) y' (subst (λ x. IsDartOf steps m q ((at m).vertex (suc q)) x) x' (dart_two m q (omega arith) (omega arith))); face = refl } refl;
        kind = around one o z ((last_step m v e some' lv).1 q qe);
      }
  outer_twin two v x y s some' lv o z =
      let m : ℕ = n - 1 in
      let e : suc m ≡ n = omega arith in
      let l : m < n = omega arith in
      let or = (run m l).order in
      let q = (steps m).first in
      let x' : (at m).vertex q ≡ x = ap (at m).vertex (over_all m e).0 ∙ (sound m (omega arith)).begin ∙ sym o.0 in
      let y' : m + 2 ≡ y = omega (arith, o.1) in
      record {
        shade = shades steps n v (fronts steps m q);
        twin = made (fronts steps m q) record { step = m; place = q; earlier = l; dart = subst (λ y. IsDartOf steps m q y x) y' (subst (λ x. IsDartOf steps m q (m + 2) x) x' (dart_three m q (omega arith) or)); face = refl } refl;
        kind = around two o z (last_step m v e some' lv).0;
      }
  outer_twin three v x y s some' lv o z =
      let l : 0 < n = some in
      let step = run 0 l in
      let first : (steps 0).first ≡ 0 = omega arith in
      let d = dart_one 0 (steps 0).first (omega arith) step.order in
      let y' : (at 0).vertex (steps 0).first ≡ y = first ∙ sym o.1 in
      let x' : (at 0).vertex (suc (steps 0).first) ≡ x = ap suc first ∙ sym o.0 in
      record {
        shade = shades steps n v 0;
        twin = made 0 record { step = 0; place = (steps 0).first; earlier = l; dart = subst (λ y. IsDartOf steps 0 (steps 0).first y x) y' (subst (λ x. IsDartOf steps 0 (steps 0).first ((at 0).vertex (steps 0).first) x) x' d); face = refl } refl;
        kind = around three o z ((base_seen steps n run).2 v some' (omega arith));
      }

  pub has_twin : (v x y s : ℕ) → 2 ≤ v → v < suc n → HasShade steps n v x y s → HasTwin v x y s
  has_twin v x y s some' lv (made f l e) = subst (HasTwin v x y) (sym (e ∙ ap (shades steps n v) l.face)) (made_twin v x y l.step l.place some' lv l.earlier l.dart)
  has_twin v x y s some' lv (outer c o e) = outer_twin c v x y s some' lv o e

  -- the outer face is not made
  not_made : (c : Colour) (x y k i : ℕ) → IsOuter n c x y → k < n → ¬ IsDartOf steps k i x y
  not_made c x y k i o l d = grind (arith, sound, at, count-stage_after, Colour, IsOuter, one, two, three)

  -- a face has one shade
  pub one_shade : (v x y s t : ℕ) → HasShade steps n v x y s → HasShade steps n v x y t → s ≡ t
  one_shade v x y s t (outer c o e) (outer c' o' e') = e ∙ sym e'
  one_shade v x y s t (outer c o e) (made f l e') = absurd (not_made c x y l.step l.place o l.earlier l.dart)
  one_shade v x y s t (made f l e) (outer c o e') = absurd (not_made c x y l.step l.place o l.earlier l.dart)
  one_shade v x y s t (made f l e) (made f' l' e') =
      let same = face_made_once steps n run l.step l'.step l.place l'.place x y l.earlier l'.earlier l.dart l'.dart in
      e ∙ ap (shades steps n v) (l.face ∙ ap₂ (fronts steps) same.0 same.1 ∙ sym l'.face) ∙ sym e'

  -- Of a property that holds along the outer face, and goes on round each face made and over each edge, all darts made have it.
  module _ (P : ℕ → ℕ → Type 0) (round : (k i a b v : ℕ) → k < n → IsFaceOf steps k i a b v → (P a b → P b v) × (P b v → P v a) × (P v a → P a b)) (over : (x y f : ℕ) → IsLeft steps n x y f → P x y → P y x) (back : (x y f : ℕ) → IsLeft steps n x y f → P y x → P x y) (first : P 0 (suc n)) (second : P (suc n) 1) where
    abbrev AllAlong : ℕ → Type 0
    AllAlong m = (j : ℕ) → suc j < (at m).width → P ((at m).vertex j) ((at m).vertex (suc j))

    left_of : (k i x y : ℕ) → k < n → IsDartOf steps k i x y → IsLeft steps n x y (fronts steps k i)
    left_of k i x y l d = record { step = k; place = i; earlier = l; dart = d; face = refl }

    at_end : AllAlong n
    at_end j l = grind (arith, sound, cases_eq, at, top_is)

    -- under the new vertex of a step, from left to right
    under_step : (m d i : ℕ) → m < n → AllAlong (suc m) → i ≡ (steps m).first + d → i < (steps m).last → P ((at m).vertex i) ((at m).vertex (suc i))
    under_step m zero i l h e lt =
        let w = (run m l).within in
        let lo : (steps m).first ≤ i = omega arith in
        let f = round m i ((at m).vertex i) ((at m).vertex (suc i)) (m + 2) l (face_of steps m i lo lt) in
        let tail : (at (suc m)).vertex i ≡ (at m).vertex i = vertex_after-low (at m) (steps m) i (omega arith) in
        let head : (at (suc m)).vertex (suc i) ≡ m + 2 = vertex_after-new (at m) (steps m) (suc i) (omega arith) ∙ count-stage_after steps m in
        let p = subst (λ x. P x (m + 2)) tail (subst (P ((at (suc m)).vertex i)) head (h i (omega arith))) in
        f.2 (back (m + 2) ((at m).vertex i) (fronts steps m i) (left_of m i (m + 2) ((at m).vertex i) l (dart_three m i lo lt)) p)
    under_step m (suc d) i l h e lt =
        let j : ℕ = i - 1 in
        let e' : suc j ≡ i = omega arith in
        let before = under_step m d j l h (omega arith) (omega arith) in
        let lo : (steps m).first ≤ j = omega arith in
        let f = round m j ((at m).vertex j) ((at m).vertex (suc j)) (m + 2) l (face_of steps m j lo (omega arith)) in
        let f' = round m i ((at m).vertex i) ((at m).vertex (suc i)) (m + 2) l (face_of steps m i (omega arith) lt) in
        let q = over ((at m).vertex (suc j)) (m + 2) (fronts steps m j) (left_of m j ((at m).vertex (suc j)) (m + 2) l (dart_two m j lo (omega arith))) (f.0 before) in
        f'.2 (subst (λ j. P (m + 2) ((at m).vertex j)) e' q)

    down : (m : ℕ) → m < n → AllAlong (suc m) → AllAlong m
    down m l h j w' =
        let s = steps m in
        let w = (run m l).within in
        elim (cases_lt j s.first) [
          | inl a ↦ subst (λ x. P x ((at m).vertex (suc j))) (vertex_after-low (at m) s j (omega arith)) (subst (P ((at (suc m)).vertex j)) (vertex_after-low (at m) s (suc j) (omega arith)) (h j (omega arith)))
          | inr a ↦ elim (cases_lt j s.last) [
            | inl b ↦ under_step m (j - s.first) j l h (omega arith) b
            | inr b ↦
                let p : ℕ = j + s.first + 2 - s.last in
                subst (λ x. P x ((at m).vertex (suc j))) (vertex_after-high (at m) s p j (omega arith) b (omega arith)) (subst (P ((at (suc m)).vertex p)) (vertex_after-high (at m) s (suc p) (suc j) (omega arith) (omega arith) (omega arith)) (h p (omega arith)))
          ]
        ]

    downward : (d m : ℕ) → m + d ≡ n → AllAlong m
    downward zero m e = let e' : n ≡ m = omega arith in subst AllAlong e' at_end
    downward (suc d) m e = down m (omega arith) (downward d (suc m) (omega arith))

    pub all_made : (k i x y : ℕ) → k < n → IsDartOf steps k i x y → P x y
    all_made k i x y l d =
        let f = d.face in
        let w = (run k l).within in
        let r = round k i d.a d.b d.v l f in
        let p : P d.a d.b = subst (λ x. P x d.b) f.left (subst (P ((at k).vertex i)) f.right (downward (n - k) k (omega arith) i (omega arith))) in
        grind arith
