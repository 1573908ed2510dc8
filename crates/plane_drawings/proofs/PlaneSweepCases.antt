-- A drawing of the complete graph on four vertices, worked out by hand: the sweep over it, status by status.
use Rattle.std.proofs.Common.{◌≡◌, ℕ, zero, suc, ◌+◌, ◌<◌, List, [], ◌∷◌, ◌++◌, length, get_or, ℤ, pos, ◌<ℤ◌, inl, inr, refl, sym, ap, subst, ◌∙◌, arith, ◌↔◌, length-append}
use Rattle.std.proofs.Math.Seq.{get_or-append_seam}
use Rattle.std.specs.List.{All, Contains}
use Rattle.std.proofs.lemmas.Int.{ints}
use Rattle.std.proofs.lemmas.List.Elements.{All-nil, All-cons, All-contains}
use Rattle.pg_plane.specs.declared.grid_points.Point.{Point}
use Rattle.plane_drawings.specs.declared.plane_sweep.line.Line.{Line}
use Rattle.plane_drawings.specs.PlaneSweepLines.{rise, Ends}
use Rattle.plane_drawings.specs.Steps.{AreStacked, IsAboveLast, IsBelowFirst, IsStep, IsSweep}

abbrev point : ℤ → ℤ → Point
point x y = record { x = x; y = y }

-- the vertices in the order of the sweep, the second below the third
abbrev at : ℕ → Point
at i = get_or (point (pos 0) (pos 0) ∷ point (pos 2) (pos 1) ∷ point (pos 2) (pos 2) ∷ point (pos 4) (pos 0) ∷ []) i (point (pos 0) (pos 0))

abbrev line : ℕ → ℕ → Line
line low high = record { low = low; high = high }

abbrev lines : List Line
lines = line 0 3 ∷ line 0 1 ∷ line 0 2 ∷ line 1 3 ∷ line 1 2 ∷ line 2 3 ∷ []

abbrev status : ℕ → List Line
status i = get_or ([] ∷ (line 0 3 ∷ line 0 1 ∷ line 0 2 ∷ []) ∷ (line 0 3 ∷ line 1 3 ∷ line 1 2 ∷ line 0 2 ∷ []) ∷ (line 0 3 ∷ line 1 3 ∷ line 2 3 ∷ []) ∷ []) i []

-- the second vertex is above the bottom line, level with the line that ends there, and below the line to the third
rises : (rise at (line 0 3) 1 ≡ pos 4) × (rise at (line 0 1) 1 ≡ pos 0) × (rise at (line 0 2) 1 <ℤ pos 0)
rises = (refl, refl, omega (arith, ints))

stacked_more : (e f : Line) (fs : List Line) → Ends at e f → AreStacked at (f ∷ fs) → AreStacked at (e ∷ f ∷ fs)
stacked_more e f fs h rest zero d l = h
stacked_more e f fs h rest (suc k) d l =
    let m : suc k + 1 ≡ suc (k + 1) = omega arith in
    subst (λ z. Ends at (get_or (f ∷ fs) k d) (get_or (e ∷ f ∷ fs) z d)) (sym m) (rest k d (omega arith))

stacked_one : (e : Line) → AreStacked at (e ∷ [])
stacked_one e k d l = absurd (omega arith)

stacked_none : AreStacked at []
stacked_none k d l = absurd (omega arith)

all_lines : (P : Line → Type 0) → P (line 0 3) → P (line 0 1) → P (line 0 2) → P (line 1 3) → P (line 1 2) → P (line 2 3) → All P lines
all_lines P a b c d e f =
    All-cons P (line 0 3) (line 0 1 ∷ line 0 2 ∷ line 1 3 ∷ line 1 2 ∷ line 2 3 ∷ []) a
    (All-cons P (line 0 1) (line 0 2 ∷ line 1 3 ∷ line 1 2 ∷ line 2 3 ∷ []) b
    (All-cons P (line 0 2) (line 1 3 ∷ line 1 2 ∷ line 2 3 ∷ []) c (All-cons P (line 1 3) (line 1 2 ∷ line 2 3 ∷ []) d (All-cons P (line 1 2) (line 2 3 ∷ []) e (All-cons P (line 2 3) [] f (All-nil P))))))

begins : (i : ℕ) (fresh : List Line) → All (λ e. Contains lines e × (e.low ≡ i)) fresh → All (λ e. e.low ≡ i → Contains fresh e) lines → (e : Line) → Contains fresh e ↔ (Contains lines e × (e.low ≡ i))
begins i fresh given whole e = (λ h. All-contains (λ f. Contains lines f × (f.low ≡ i)) fresh e given h, λ h. All-contains (λ f. f.low ≡ i → Contains fresh f) lines e whole h.0 h.1)

above_last : (i : ℕ) (xs : List Line) (x : Line) → pos 0 <ℤ rise at x i → IsAboveLast at (xs ++ (x ∷ [])) i
above_last i xs x up rest e same =
    let b = length-append rest (e ∷ []) in
    let j : length xs ≡ length rest = omega (arith, ap length same, length-append xs (x ∷ [])) in
    let one : x ≡ e = sym (get_or-append_seam xs x [] x) ∙ ap (λ es. get_or es (length xs) x) same ∙ ap (λ k. get_or (rest ++ (e ∷ [])) k x) j ∙ get_or-append_seam rest e [] x in
    omega (arith, subst (λ f. pos 0 <ℤ rise at f i) one up, ints)

above_none : (i : ℕ) → IsAboveLast at [] i
above_none i rest e same = absurd (let a = length-append rest (e ∷ []) in let b = ap length same in omega arith)

below_first : (i : ℕ) (x : Line) (xs : List Line) → rise at x i <ℤ pos 0 → IsBelowFirst at (x ∷ xs) i
below_first i x xs down e rest same = let there = subst (λ f. rise at f i <ℤ pos 0) (ap (λ es. get_or es 0 x) same) down in omega (arith, ints)

below_none : (i : ℕ) → IsBelowFirst at [] i
below_none i e rest same = absurd (let b = ap length same in omega arith)

step_0 : IsStep at lines 0 (status 0) (status 1)
step_0 = record {
  lower = [];
  gone = [];
  fresh = line 0 3 ∷ line 0 1 ∷ line 0 2 ∷ [];
  upper = [];
  before = refl;
  after = refl;
  all_end = All-nil (λ e. e.high ≡ 0);
  all_begin =
      let P : Line → Type 0 = λ e. Contains lines e × (e.low ≡ 0) in
      let fresh : List Line = line 0 3 ∷ line 0 1 ∷ line 0 2 ∷ [] in
      begins 0 fresh
      (All-cons P (line 0 3) (line 0 1 ∷ line 0 2 ∷ []) ((0, omega arith, refl), refl) (All-cons P (line 0 1) (line 0 2 ∷ []) ((1, omega arith, refl), refl) (All-cons P (line 0 2) [] ((2, omega arith, refl), refl) (All-nil P))))
      (all_lines (λ e. e.low ≡ 0 → Contains fresh e) (λ h. (0, omega arith, refl)) (λ h. (1, omega arith, refl)) (λ h. (2, omega arith, refl)) (λ h. absurd (omega arith)) (λ h. absurd (omega arith)) (λ h. absurd (omega arith)));
  above = above_none 0;
  below = below_none 0;
  stacked = stacked_more (line 0 3) (line 0 1) (line 0 2 ∷ []) (inl (omega arith, omega (arith, ints))) (stacked_more (line 0 1) (line 0 2) [] (inr (omega arith, omega (arith, ints))) (stacked_one (line 0 2)));
}

step_1 : IsStep at lines 1 (status 1) (status 2)
step_1 = record {
  lower = line 0 3 ∷ [];
  gone = line 0 1 ∷ [];
  fresh = line 1 3 ∷ line 1 2 ∷ [];
  upper = line 0 2 ∷ [];
  before = refl;
  after = refl;
  all_end = All-cons (λ e. e.high ≡ 1) (line 0 1) [] refl (All-nil (λ e. e.high ≡ 1));
  all_begin =
      let P : Line → Type 0 = λ e. Contains lines e × (e.low ≡ 1) in
      let fresh : List Line = line 1 3 ∷ line 1 2 ∷ [] in
      begins 1 fresh (All-cons P (line 1 3) (line 1 2 ∷ []) ((3, omega arith, refl), refl) (All-cons P (line 1 2) [] ((4, omega arith, refl), refl) (All-nil P)))
      (all_lines (λ e. e.low ≡ 1 → Contains fresh e) (λ h. absurd (omega arith)) (λ h. absurd (omega arith)) (λ h. absurd (omega arith)) (λ h. (0, omega arith, refl)) (λ h. (1, omega arith, refl)) (λ h. absurd (omega arith)));
  above = above_last 1 [] (line 0 3) (omega (arith, ints));
  below = below_first 1 (line 0 2) [] (omega (arith, ints));
  stacked = stacked_more (line 0 3) (line 1 3) (line 1 2 ∷ line 0 2 ∷ []) (inl (omega arith, omega (arith, ints)))
      (stacked_more (line 1 3) (line 1 2) (line 0 2 ∷ []) (inl (omega arith, omega (arith, ints))) (stacked_more (line 1 2) (line 0 2) [] (inl (omega arith, omega (arith, ints))) (stacked_one (line 0 2))));
}

step_2 : IsStep at lines 2 (status 2) (status 3)
step_2 = record {
  lower = line 0 3 ∷ line 1 3 ∷ [];
  gone = line 1 2 ∷ line 0 2 ∷ [];
  fresh = line 2 3 ∷ [];
  upper = [];
  before = refl;
  after = refl;
  all_end = All-cons (λ e. e.high ≡ 2) (line 1 2) (line 0 2 ∷ []) refl (All-cons (λ e. e.high ≡ 2) (line 0 2) [] refl (All-nil (λ e. e.high ≡ 2)));
  all_begin =
      let P : Line → Type 0 = λ e. Contains lines e × (e.low ≡ 2) in
      let fresh : List Line = line 2 3 ∷ [] in
      begins 2 fresh (All-cons P (line 2 3) [] ((5, omega arith, refl), refl) (All-nil P))
      (all_lines (λ e. e.low ≡ 2 → Contains fresh e) (λ h. absurd (omega arith)) (λ h. absurd (omega arith)) (λ h. absurd (omega arith)) (λ h. absurd (omega arith)) (λ h. absurd (omega arith)) (λ h. (0, omega arith, refl)));
  above = above_last 2 (line 0 3 ∷ []) (line 1 3) (omega (arith, ints));
  below = below_none 2;
  stacked = stacked_more (line 0 3) (line 1 3) (line 2 3 ∷ []) (inl (omega arith, omega (arith, ints))) (stacked_more (line 1 3) (line 2 3) [] (inl (omega arith, omega (arith, ints))) (stacked_one (line 2 3)));
}

step_3 : IsStep at lines 3 (status 3) (status 4)
step_3 = record {
  lower = [];
  gone = line 0 3 ∷ line 1 3 ∷ line 2 3 ∷ [];
  fresh = [];
  upper = [];
  before = refl;
  after = refl;
  all_end = All-cons (λ e. e.high ≡ 3) (line 0 3) (line 1 3 ∷ line 2 3 ∷ []) refl (All-cons (λ e. e.high ≡ 3) (line 1 3) (line 2 3 ∷ []) refl (All-cons (λ e. e.high ≡ 3) (line 2 3) [] refl (All-nil (λ e. e.high ≡ 3))));
  all_begin =
      begins 3 [] (All-nil (λ e. Contains lines e × (e.low ≡ 3)))
      (all_lines (λ e. e.low ≡ 3 → Contains [] e) (λ h. absurd (omega arith)) (λ h. absurd (omega arith)) (λ h. absurd (omega arith)) (λ h. absurd (omega arith)) (λ h. absurd (omega arith)) (λ h. absurd (omega arith)));
  above = above_none 3;
  below = below_none 3;
  stacked = stacked_none;
}

k4_sweep : IsSweep at lines 4 status
k4_sweep = grind (arith, IsStep, at, lines, status, step_0, step_1, step_2, step_3)
