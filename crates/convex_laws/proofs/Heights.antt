-- No face goes up along one axis all the way round.
use Rattle.std.proofs.Common.{◌≡◌, ℕ, zero, suc, ◌+◌, ◌-◌, ◌<◌, ◌≤◌, refl, sym, ◌∙◌, arith}
use Rattle.map_lists.specs.Lists.{Lists}
use Rattle.map_theory.specs.Maps.{HasDart, follows, IsSimpleMap}
use Rattle.map_theory.specs.Paths.{SameFace}
use Rattle.map_theory.proofs.DartLemmas.{HasDart-face_step}
use Rattle.contour_runs.specs.Wood.{Coordinates}
use Rattle.convex_peeling.specs.Contours.{face_of}
use Rattle.convex_peeling.proofs.Faces.{SameFace-labels, face_of-step}
use Rattle.convex_counts.specs.declared.face_woods.axis.Axis.{Axis}
use Rattle.convex_counts.specs.declared.face_woods.axis.Axis.TheVariants.{One, Two, Three}
use Rattle.convex_counts.specs.Rising.{IsRising}

-- how far out along an axis, where the two coordinates have a sum of at most m
abbrev pub height : Coordinates → ℕ → Axis → ℕ → ℕ
height at m One v = at.one v
height at m Two v = at.two v
height at m Three v = m - (at.one v + at.two v)

pub height-rising : (at : Coordinates) (m : ℕ) (c : Axis) (x y : ℕ) → at.one x + at.two x ≤ m → IsRising at c x y → height at m c x < height at m c y
height-rising at m One x y l r = r.0
height-rising at m Two x y l r = r.0
height-rising at m Three x y l r = let z = r.0 in omega arith

pub height-most : (at : Coordinates) (m : ℕ) (c : Axis) (x : ℕ) → at.one x + at.two x ≤ m → height at m c x ≤ m
height-most at m One x l = omega arith
height-most at m Two x l = omega arith
height-most at m Three x l = omega arith

module _ (lists : Lists) (simple : IsSimpleMap lists) (up : ℕ → ℕ) (m : ℕ) (most : (v u : ℕ) → HasDart lists v u → up v ≤ m) (x y : ℕ) (has : HasDart lists x y) where
  -- a dart of the face that is so many steps on
  record IsSteps (k : ℕ) (P : ℕ → ℕ → Type 0) : Type 0 where
    pub tail : ℕ
    pub head : ℕ
    pub dart : HasDart lists tail head
    pub same : face_of lists x y ≡ face_of lists tail head
    pub far : P k tail

  step_on : (k : ℕ) (P : ℕ → ℕ → Type 0) (h : IsSteps k P) → P (suc k) h.head → IsSteps (suc k) P
  step_on k P h far = record {
    tail = h.head;
    head = follows lists h.head h.tail;
    dart = HasDart-face_step lists (h.tail, h.head) simple h.dart;
    same = h.same ∙ sym (face_of-step lists simple h.tail h.head h.dart);
    far = far;
  }

  abbrev Along : Type 0
  Along = (x' y' : ℕ) → HasDart lists x' y' → SameFace lists (x, y) (x', y') → up x' < up y'

  abbrev Against : Type 0
  Against = (x' y' : ℕ) → HasDart lists x' y' → SameFace lists (x, y) (x', y') → up y' < up x'

  climb : Along → (k : ℕ) → IsSteps k (λ k v. k ≤ up v)
  climb all zero = record { tail = x; head = y; dart = has; same = refl; far = omega arith }
  climb all (suc k) =
      let h = climb all k in
      step_on k _ h (omega (arith, all h.tail h.head h.dart (SameFace-labels lists x y h.tail h.head h.same)))

  sink : Against → (k : ℕ) → IsSteps k (λ k v. up v + k ≤ m)
  sink all zero = let l = most x y has in record { tail = x; head = y; dart = has; same = refl; far = omega arith }
  sink all (suc k) =
      let h = sink all k in
      step_on k _ h (omega (arith, all h.tail h.head h.dart (SameFace-labels lists x y h.tail h.head h.same)))

  pub never_along : ¬ Along
  never_along all = let h = climb all (suc m) in let f = h.far in let l = most h.tail h.head h.dart in omega arith

  pub never_against : ¬ Against
  never_against all = let h = sink all (suc m) in let f = h.far in omega arith
