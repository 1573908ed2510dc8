-- The laws, put together.
use Rattle.std.proofs.Common.{◌≡◌, ◌≢◌, ◌⊎◌, ℕ, ◌+◌, ◌<◌, true, false, sym, ap, ◌∙◌, inl, inr, arith}
use Rattle.std.proofs.lemmas.Bool.{cases_Bool, cases_eq}
use Rattle.contour_runs.specs.Runs.{Step, stage_after, IsRun}
use Rattle.contour_runs.proofs.Stages.{count-stage_after}
use Rattle.wood_runs.specs.Parents.{Colour, one, two, three, previous}
use Rattle.wood_runs.specs.Fronts.{shades, IsOn}
use Rattle.wood_runs.proofs.Sides.{paths, sides}
use Rattle.wood_runs.specs.Edges.{number}
use Rattle.wood_runs.specs.Laws.{IsInShade}
use Rattle.wood_runs.proofs.Sided.{IsSided, IsSided-run, Known, beside, on_one, on_two, on_three}

module _ (steps : ℕ → Step) (n : ℕ) (run : IsRun steps n) where
  sided : IsSided (stage_after steps n) (shades steps n) (IsOn steps n) (paths steps n) (sides steps n)
  sided = IsSided-run steps n run

  count : (stage_after steps n).count ≡ n + 2
  count = count-stage_after steps n

  -- a path lies on one side
  pub path_side : (c : Colour) (v w : ℕ) → v < n + 2 → w < n + 2 → paths steps n c v w ≡ true → w ≢ v → sides steps n v w ≡ number (previous c)
  path_side one v w l m p ne = sided.one_side v w (let e = count in omega arith) (let e = count in omega arith) p ne
  path_side two v w l m p ne = sided.two_side v w (let e = count in omega arith) (let e = count in omega arith) p ne
  path_side three v w l m p ne = sided.three_side v w (let e = count in omega arith) (let e = count in omega arith) p ne

  number_some : (c : Colour) → 0 < number c
  number_some one = omega arith
  number_some two = omega arith
  number_some three = omega arith

  not_twice : (c : Colour) → number (previous (previous c)) ≢ number c
  not_twice one = λ e. omega (arith, e)
  not_twice two = λ e. omega (arith, e)
  not_twice three = λ e. omega (arith, e)

  pub side_off_path : (c : Colour) (v w : ℕ) → v < n + 2 → w < n + 2 → sides steps n v w ≡ number c → paths steps n (previous c) v w ≡ false
  side_off_path c v w l m e = grind (arith, cases_Bool, paths, previous, cases_eq, number_some, sided, count, sides, not_twice, path_side)

  pub side_in_region : (c : Colour) (v w : ℕ) → v < n + 2 → w < n + 2 → v ≢ 1 → sides steps n v w ≡ number c → IsInShade steps n c v w
  side_in_region c v w l m ne e =
      let t = sided.lies v w (let z = count in omega arith) (let z = count in omega arith) (let s = number_some c in omega (arith, e)) (λ x. absurd (ne x)) in
      (t.0, t.1, t.2 ∙ e)

  -- a vertex of a region lies on that side, or on the path
  pub region_side : (c : Colour) (v w : ℕ) → v < n + 2 → IsInShade steps n c v w → (sides steps n v w ≡ number c) ⊎ (paths steps n (previous c) v w ≡ true)
  region_side c v w l r = grind (arith, sided, count, Colour, Known, shades, sides, paths, number, previous, beside, one, on_one)
