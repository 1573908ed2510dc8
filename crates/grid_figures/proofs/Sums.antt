-- The gaps added up, from the last vertex on.
use Rattle.std.proofs.Common.{◌≡◌, ◌≢◌, ◌+◌, ◌-◌, ◌*◌, ◌<◌, ◌≤◌, ℕ, suc, List, length, get_or, set, sym, ap, ◌∙◌, subst, inl, inr, arith}
use Rattle.std.proofs.lemmas.Bool.{cases_eq}
use Rattle.std.proofs.lemmas.List.{get_or-set_same, get_or-set_other, length-set}
use Rattle.contour_runs.specs.Runs.{Stage}
use Rattle.contour_runs.specs.Wood.{Coordinates, drawn_one, drawn_two}
use Rattle.contour_runs.proofs.Corners.{drawn_one-other, drawn_two-other}
use Rattle.grid_figures.specs.Gaps.{IsUnder, AreLastGaps, AreSums}

-- the three corners begin the sums
pub AreSums-init : (at : ℕ → ℕ) (old : List ℕ) (x y z : ℕ) → 3 ≤ length old → x ≡ at 0 → y ≡ at 1 → z ≡ at (length old - 1) → AreSums (length old - 1) at old (set (set (set old 0 x) 1 y) (length old - 1) z)
AreSums-init at old x y z many ex ey ez =
    let one : List ℕ = set old 0 x in
    let two : List ℕ = set one 1 y in
    let top : ℕ = length old - 1 in
    let l = length-set old 0 x in
    let m = length-set one 1 y in
    record {
      first = get_or-set_other two top 0 z 0 (λ e. omega (arith, e)) ∙ get_or-set_other one 1 0 y 0 (λ e. omega (arith, e)) ∙ get_or-set_same old 0 x 0 (omega arith) ∙ ex;
      second = get_or-set_other two top 1 z 0 (λ e. omega (arith, e)) ∙ get_or-set_same one 1 y 0 (omega arith) ∙ ey;
      done = λ u a b. let e : top ≡ u = omega arith in subst (λ u. get_or (set two top z) u 0 ≡ at u) e (get_or-set_same two top z 0 (omega arith) ∙ ez);
      left = λ u a b. get_or-set_other two top u z 0 (λ e. omega (arith, e)) ∙ get_or-set_other one 1 u y 0 (λ e. omega (arith, e)) ∙ get_or-set_other old 0 u x 0 (λ e. omega (arith, e));
    }

-- one sum more
pub AreSums-less : (at : ℕ → ℕ) (old now : List ℕ) (k sum : ℕ) → AreSums (suc k) at old now → 2 ≤ k → k < length now → sum ≡ at k → AreSums k at old (set now k sum)
AreSums-less at old now k sum sums low l is = record {
  first = get_or-set_other now k 0 sum 0 (λ e. omega (arith, e)) ∙ sums.first;
  second = get_or-set_other now k 1 sum 0 (λ e. omega (arith, e)) ∙ sums.second;
  done = λ u a b. elim (cases_eq u k) [ inl e ↦ subst (λ u. get_or (set now k sum) u 0 ≡ at u) (sym e) (get_or-set_same now k sum 0 l ∙ is) | inr ne ↦ get_or-set_other now k u sum 0 ne ∙ sums.done u (omega arith) b ];
  left = λ u a b. get_or-set_other now k u sum 0 (λ e. omega (arith, e)) ∙ sums.left u a (omega arith);
}

-- the sums are what is told
pub AreSums-all : (at : ℕ → ℕ) (old now : List ℕ) (k : ℕ) → AreSums k at old now → k ≤ 2 → (v : ℕ) → v < length old → get_or now v 0 ≡ at v
AreSums-all at old now k sums l v b = elim (cases_eq v 0) [
  | inl z ↦ subst (λ v. get_or now v 0 ≡ at v) (sym z) sums.first
  | inr nz ↦ elim (cases_eq v 1) [ inl z ↦ subst (λ v. get_or now v 0 ≡ at v) (sym z) sums.second | inr nz' ↦ sums.done v (omega arith) b ]
]

module _ (g : Stage) (at : Coordinates) (drops rises spans covers : List ℕ) (h : AreLastGaps g at drops rises spans covers) where
  abbrev n : ℕ
  n = length covers

  pub many : 3 ≤ n
  many = let a = h.stage.few in let b = h.three in let c = h.count in omega arith

  -- the contour goes from the first vertex over the last one to the second, so any other is under one
  gone : (u : ℕ) → 2 ≤ u → suc u < n → g.vertex (g.place u) ≢ u
  gone u a b = λ e.
      let three = h.three in
      let count = h.count in
      let within = h.stage.within u (omega arith) in
      let top = h.top in
      let end = h.stage.end 2 (omega arith) in
      elim (cases_eq (g.place u) 0) [
        | inl z ↦ absurd (omega (arith, ap g.vertex z, h.stage.begin))
        | inr nz ↦ elim (cases_eq (g.place u) 1) [
          | inl z ↦ absurd (omega (arith, ap g.vertex z))
          | inr nz' ↦ let z : g.place u ≡ 2 = omega arith in absurd (omega (arith, ap g.vertex z))
        ]
      ]

  is_under : (u : ℕ) → 2 ≤ u → suc u < n → IsUnder g at drops rises spans covers u
  is_under u a b = let count = h.count in h.kept.under u (omega arith) (gone u a b)

  pub cover_in : (u : ℕ) → 2 ≤ u → suc u < n → get_or covers u 0 < n
  cover_in u a b = let c = (is_under u a b).placed in let count = h.count in omega arith

  -- the corners
  pub one_corners : (n - 2 ≡ drawn_one at 0) × (0 ≡ drawn_one at 1) × (1 ≡ drawn_one at (n - 1))
  one_corners = let c = h.corners in (sym c.first.0, sym c.second.0, sym c.top.0)

  pub two_corners : (1 ≡ drawn_two at 0) × (n - 2 ≡ drawn_two at 1) × (0 ≡ drawn_two at (n - 1))
  two_corners = let c = h.corners in (sym c.first.1, sym c.second.1, sym c.top.1)

  module _ (k : ℕ) (low : 2 ≤ k) (under : suc k < n) where
    abbrev w : ℕ
    w = get_or covers k 0

    -- the coordinates of a vertex by those of the one that it is under
    one_level : drawn_one at k + get_or drops k 0 ≡ drawn_one at w + get_or spans w 0
    one_level =
        let u = is_under k low under in
        let later = u.later in
        omega (arith, u.one, drawn_one-other at k (omega arith), drawn_one-other at w (omega arith))

    two_level : drawn_two at k ≡ drawn_two at w + get_or rises k 0
    two_level =
        let u = is_under k low under in
        let later = u.later in
        omega (arith, u.two, drawn_two-other at k (omega arith), drawn_two-other at w (omega arith))

    small_sum : (v : ℕ) → 2 ≤ v → v < n → (drawn_one at v < n) × (drawn_two at v < n)
    small_sum v a b =
        let count = h.count in
        let s = h.falling.sums v (omega arith) (omega arith) in
        (omega (arith, drawn_one-other at v (omega arith)), omega (arith, drawn_two-other at v (omega arith)))

    module _ (now : List ℕ) (size : length drops ≡ n) (sums : AreSums (suc k) (drawn_one at) drops now) where
      abbrev one_sum : ℕ
      one_sum = get_or now w 0 + get_or spans w 0 - get_or now k 0

      one_is : get_or now k 0 + drawn_one at k ≡ get_or now w 0 + get_or spans w 0
      one_is =
          let u = is_under k low under in
          let later = u.later in
          let inside = cover_in k low under in
          omega (arith, one_level, sums.done w (omega arith) (omega arith), sums.left k low (omega arith))

      pub one_room : get_or now w 0 + get_or spans w 0 < 2 * n
      one_room =
          let u = is_under k low under in
          let later = u.later in
          let inside = cover_in k low under in
          let count = h.count in
          let a = small_sum w (omega arith) inside in
          omega (arith, sums.done w (omega arith) (omega arith), h.kept.small w, a.0)

      pub one_no_less : get_or now k 0 ≤ get_or now w 0 + get_or spans w 0
      one_no_less = omega (arith, one_is)

      pub AreSums-one : k < length now → AreSums k (drawn_one at) drops (set now k one_sum)
      AreSums-one l = AreSums-less (drawn_one at) drops now k one_sum sums low l (omega (arith, one_is))

    module _ (now : List ℕ) (size : length rises ≡ n) (sums : AreSums (suc k) (drawn_two at) rises now) where
      abbrev two_sum : ℕ
      two_sum = get_or now k 0 + get_or now w 0

      two_is : two_sum ≡ drawn_two at k
      two_is =
          let u = is_under k low under in
          let later = u.later in
          let inside = cover_in k low under in
          omega (arith, two_level, sums.done w (omega arith) (omega arith), sums.left k low (omega arith))

      pub two_room : two_sum < n
      two_room = let a = small_sum k low (omega arith) in omega (arith, two_is, a.1)

      pub AreSums-two : k < length now → AreSums k (drawn_two at) rises (set now k two_sum)
      AreSums-two l = AreSums-less (drawn_two at) rises now k two_sum sums low l two_is
