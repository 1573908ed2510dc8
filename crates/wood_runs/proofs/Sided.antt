-- Sides are regions without a path.
use Rattle.std.proofs.Common.{◌≡◌, ◌≢◌, ◌⊎◌, ℕ, zero, suc, ◌+◌, ◌-◌, ◌*◌, ◌<◌, ◌≤◌, Bool, true, false, refl, sym, ap, ◌∙◌, subst, inl, inr, arith, true≢false}
use Rattle.std.proofs.lemmas.Bool.{cases_eq, cases_lt}
use Rattle.std.proofs.lemmas.Bool.Decides.{nat_tests}
use Rattle.contour_runs.specs.Runs.{Step, Stage, after, base, place_after, vertex_after, stage_after, IsStep, IsRun}
use Rattle.contour_runs.specs.Laws.{IsStage}
use Rattle.contour_runs.proofs.Places.{vertex_after-low, vertex_after-new, vertex_after-high, place_after-new, cases_place}
use Rattle.contour_runs.proofs.Stages.{IsStage-run, IsRun-less}
use Rattle.wood_runs.specs.Parents.{Colour, one, two, three}
use Rattle.wood_runs.specs.Fronts.{old_front, shade_after, fronts, shades, IsNewOn, at_first, at_last, under, new_first, new_last, IsOn}
use Rattle.wood_runs.proofs.Sides.{on_after, paths, side_after, sides}
use Rattle.wood_runs.proofs.Steps.{old_front-old, shade_after-older, stays, behind, goes, SidesOf, as_two, as_parent, as_three, side_after-older, side_after-one, side_after-two, side_after-self, side_after-new, on_lower-older, on_lower-new, on_lower-not, on_lower-self, on_upper-older, on_upper-over, on_upper-not, on_upper-new, on_upper-self}
use Rattle.wood_runs.proofs.Steps.SidesOf.{as_one as side_one}
use Rattle.wood_runs.proofs.Steps.Goes.{under as goes_under}
use Rattle.wood_runs.proofs.Steps.Sees.{as_first, as_last, between, new_first as seen_first, new_last as seen_last}
use Rattle.wood_runs.proofs.Shades.{IsShaded, IsShaded-run, wp_is, wq_is, one_both, two_both, first_two, first_one, seen, base_shade}
use Rattle.wood_runs.proofs.Nested.{IsNested, IsNested-run, old_on, new_on, sees_under, two_on, one_on}

-- A vertex on a face that v sees with a shade lies on this side of v, or on the path that bounds the region there.
pub data Known (shade side : ℕ → ℕ → ℕ) (path : Colour → ℕ → ℕ → Bool) (v w f : ℕ) : Type 0 where
  beside : side v w ≡ shade v f → Known shade side path v w f
  on_one : path one v w ≡ true → shade v f ≡ 2 → Known shade side path v w f
  on_two : path two v w ≡ true → shade v f ≡ 3 → Known shade side path v w f
  on_three : path three v w ≡ true → shade v f ≡ 1 → Known shade side path v w f

pub record IsSided (g : Stage) (shade : ℕ → ℕ → ℕ) (on : ℕ → ℕ → Type 0) (path : Colour → ℕ → ℕ → Bool) (side : ℕ → ℕ → ℕ) : Type 0 where
  pub own_path : (c : Colour) (v : ℕ) → v < g.count → path c v v ≡ true
  pub own_side : (v : ℕ) → v < g.count → side v v ≡ 0
  pub some_side : (v w : ℕ) → v < g.count → w < g.count → v ≢ w → (side v w ≡ 1) ⊎ ((side v w ≡ 2) ⊎ (side v w ≡ 3))
  pub reached : (v i : ℕ) → v < g.count → i < g.width → path three v (g.vertex i) ≡ true → g.place v ≡ i
  pub reaches : (v i : ℕ) → v < g.count → i < g.width → g.place v ≡ i → path three v (g.vertex i) ≡ true
  pub top : (i w : ℕ) → i < g.width → w < g.count → path three (g.vertex i) w ≡ true → w ≡ g.vertex i
  pub lies : (v w : ℕ) → v < g.count → w < g.count → 0 < side v w → (v ≡ 1 → side v w ≢ 3) → (f : ℕ) × on w f × (shade v f ≡ side v w)
  pub known : (v w f : ℕ) → v < g.count → on w f → Known shade side path v w f
  pub one_side : (v w : ℕ) → v < g.count → w < g.count → path one v w ≡ true → w ≢ v → side v w ≡ 3
  pub two_side : (v w : ℕ) → v < g.count → w < g.count → path two v w ≡ true → w ≢ v → side v w ≡ 1
  pub three_side : (v w : ℕ) → v < g.count → w < g.count → path three v w ≡ true → w ≢ v → side v w ≡ 2

module _ (g : Stage) (s : Step) (new : ℕ) (front : ℕ → ℕ) (shade : ℕ → ℕ → ℕ) (on : ℕ → ℕ → Type 0) (path : Colour → ℕ → ℕ → Bool) (side : ℕ → ℕ → ℕ) (stage : IsStage g) (step : IsStep g s) (h : IsShaded g new front shade) (k : IsNested g new front shade on) (d : IsSided g shade on path side) where
  abbrev shade' : ℕ → ℕ → ℕ
  shade' = shade_after g s new front shade

  abbrev on' : ℕ → ℕ → Type 0
  on' w f = on w f ⊎ IsNewOn g s new front w f

  abbrev old : ℕ → ℕ
  old = old_front s new front

  abbrev path' : Colour → ℕ → ℕ → Bool
  path' c = on_after c g s (path c)

  abbrev side' : ℕ → ℕ → ℕ
  side' = side_after g s side

  abbrev wp : ℕ
  wp = g.vertex s.first

  abbrev wq : ℕ
  wq = g.vertex s.last

  pub path_older : (c : Colour) (v w : ℕ) → v < g.count → w < g.count → path' c v w ≡ path c v w
  path_older one v w l m = on_lower-older g s (path one) wp v w l m
  path_older two v w l m = on_lower-older g s (path two) wq v w l m
  path_older three v w l m = on_upper-older g s (path three) v w l m

  pub path_self : (c : Colour) (v w : ℕ) → v ≡ g.count → w ≡ g.count → path' c v w ≡ true
  path_self one v w l m = on_lower-self g s (path one) wp v w l m
  path_self two v w l m = on_lower-self g s (path two) wq v w l m
  path_self three v w l m = on_upper-self g s (path three) v w l m

  older : (v f : ℕ) → v < g.count → shade' v f ≡ shade v (old f)
  older v f l = shade_after-older g s new front shade v f l

  wp_not_wq : wp ≢ wq
  wp_not_wq e = let o = step.order in let a = (wp_is g s new front shade stage step h).1 in let b = (wq_is g s new front shade stage step h).1 in absurd (omega (arith, ap g.place e, a, b))

  wp_not_one : wp ≢ 1
  wp_not_one e =
      let end : ℕ = g.width - 1 in
      let b = stage.own end (omega arith) in
      absurd (omega (arith, ap g.place (e ∙ sym (stage.end end (omega arith))), (wp_is g s new front shade stage step h).1, b))

  -- what v sees with shade 1 or 2, by what is known
  known_one : (v w f : ℕ) → v < g.count → on w f → shade v f ≡ 1 → (side v w ≡ 1) ⊎ (path three v w ≡ true)
  known_one v w f l o e = elim (d.known v w f l o) [ beside a ↦ inl (a ∙ e) | on_one a b ↦ absurd (omega (arith, b, e)) | on_two a b ↦ absurd (omega (arith, b, e)) | on_three a b ↦ inr a ]

  known_two : (v w f : ℕ) → v < g.count → on w f → shade v f ≡ 2 → (side v w ≡ 2) ⊎ (path one v w ≡ true)
  known_two v w f l o e = elim (d.known v w f l o) [ beside a ↦ inl (a ∙ e) | on_one a b ↦ inr a | on_two a b ↦ absurd (omega (arith, b, e)) | on_three a b ↦ absurd (omega (arith, b, e)) ]

  -- the paths of colour three from both have not gone on
  wp_top : (w : ℕ) → w < g.count → path three wp w ≡ true → w ≡ wp
  wp_top w l e = let o = step.order in let i = step.within in d.top s.first w (omega arith) l e

  wq_top : (w : ℕ) → w < g.count → path three wq w ≡ true → w ≡ wq
  wq_top w l e = d.top s.last w step.within l e

  -- what the one sees with shade 1, and the other with shade 2
  one_of_wp : (w f : ℕ) → w < g.count → on w f → shade wp f ≡ 1 → w ≢ wp → side wp w ≡ 1
  one_of_wp w f l o e ne = elim (known_one wp w f (wp_is g s new front shade stage step h).0 o e) [ inl a ↦ a | inr a ↦ absurd (ne (wp_top w l a)) ]

  one_of_wq : (w f : ℕ) → w < g.count → on w f → shade wq f ≡ 1 → w ≢ wq → side wq w ≡ 1
  one_of_wq w f l o e ne = elim (known_one wq w f (wq_is g s new front shade stage step h).0 o e) [ inl a ↦ a | inr a ↦ absurd (ne (wq_top w l a)) ]

  wp_own : side wp wp ≡ 0
  wp_own = d.own_side wp (wp_is g s new front shade stage step h).0

  wq_own : side wq wq ≡ 0
  wq_own = d.own_side wq (wq_is g s new front shade stage step h).0

  side_wp_wq : side wp wq ≡ 1
  side_wp_wq =
      let r : ℕ = s.last - 1 in
      let e : suc r ≡ s.last = omega arith in
      let edge = subst (λ v. on v (front r)) (ap g.vertex e) (k.edge r (omega arith)).1 in
      one_of_wp wq (front r) (wq_is g s new front shade stage step h).0 edge (h.high wp r (wp_is g s new front shade stage step h).0 (omega arith) (omega (arith, (wp_is g s new front shade stage step h).1))) (λ z. wp_not_wq (sym z))

  side_wq_wp : side wq wp ≢ 1
  side_wq_wp e =
      let l = d.lies wq wp (wq_is g s new front shade stage step h).0 (wp_is g s new front shade stage step h).0 (omega (arith, e)) (λ a b. omega (arith, e, b)) in
      let t = k.nested wq wp l.0 (front s.first) 1 (wq_is g s new front shade stage step h).0 l.1 (l.2 ∙ e) (first_one g s new front shade stage step h wp (wp_is g s new front shade stage step h).0 (omega (arith, (wp_is g s new front shade stage step h).1))) in
      absurd (omega (arith, t, first_two g s new front shade stage step h wq (wq_is g s new front shade stage step h).0 (omega (arith, (wq_is g s new front shade stage step h).1))))

  -- where the first sees w on side 2, so does the second, or w is on its path of colour one: not on side 1
  apart : (w : ℕ) → w < g.count → side wp w ≡ 2 → side wq w ≢ 1
  apart w l a b =
      let t = d.lies wp w (wp_is g s new front shade stage step h).0 l (omega (arith, a)) (λ x y. omega (arith, a, y)) in
      elim (known_two wq w t.0 (wq_is g s new front shade stage step h).0 t.1 (two_both g s new front shade stage step h t.0 (t.2 ∙ a))) [
        | inl x ↦ absurd (omega (arith, x, b))
        | inr x ↦ elim (cases_eq w wq) [ inl y ↦ absurd (omega (arith, ap (side wq) y, wq_own, b)) | inr y ↦ absurd (omega (arith, d.one_side wq w (wq_is g s new front shade stage step h).0 l x y, b)) ]
      ]

  -- what lies on side 1 of the second, lies on side 1 of the first, but for that one itself
  one_side_both : (w : ℕ) → w < g.count → side wq w ≡ 1 → w ≢ wp → side wp w ≡ 1
  one_side_both w l a ne =
      let t = d.lies wq w (wq_is g s new front shade stage step h).0 l (omega (arith, a)) (λ x y. omega (arith, a, y)) in
      one_of_wp w t.0 l t.1 (one_both g s new front shade stage step h t.0 (t.2 ∙ a)) ne

  -- how the new vertex sees a face as neither of both has it
  pub sees_three : (f : ℕ) → f < new → shade wp f ≢ 2 → shade wq f ≢ 1 → shade' g.count f ≡ 3
  sees_three f l a b = grind (arith, seen, as_first, as_last, between, seen_first, seen_last)

  sides_of : (w : ℕ) → w < g.count → SidesOf g s side w (side' g.count w)
  sides_of w l = side_after-new g s side g.count w refl l

  -- the new vertex's side of an older one
  lies_new : (w : ℕ) → w < g.count → (f : ℕ) × on' w f × (shade' g.count f ≡ side' g.count w)
  lies_new w l =
      elim (sides_of w l) [
        | as_two a b ↦
            let t = d.lies wp w (wp_is g s new front shade stage step h).0 l (omega (arith, a)) (λ x y. omega (arith, a, y)) in
            (t.0, inl t.1, two_on g s new front shade on stage step h k t.0 (ap (shade wp) (old_front-old s new front t.0 (k.placed w t.0 t.1).1) ∙ t.2 ∙ a) ∙ sym b)
        | as_parent a b c ↦ (
          suc new,
          inr (at_last b refl),
          grind (arith, seen, as_first, as_last, between, seen_first, seen_last),
        )
        | side_one a b c e ↦
            let t = d.lies wq w (wq_is g s new front shade stage step h).0 l (omega (arith, c)) (λ x y. omega (arith, c, y)) in
            (t.0, inl t.1, one_on g s new front shade on stage step h k t.0 (ap (shade wq) (old_front-old s new front t.0 (k.placed w t.0 t.1).1) ∙ t.2 ∙ c) ∙ sym e)
        | as_three a b c e ↦ elim (cases_eq w wp) [
          | inl y ↦ grind (arith, first_one, wp, wp_is, first_two, wq, wq_is, sees_three)
          | inr y ↦
              let one_or_three : (side wp w ≡ 1) ⊎ (side wp w ≡ 3) = elim (d.some_side wp w (wp_is g s new front shade stage step h).0 l (λ z. y (sym z))) [ inl z ↦ inl z | inr (inl z) ↦ absurd (a z) | inr (inr z) ↦ inr z ] in
              let some : 0 < side wp w = elim one_or_three [ inl z ↦ omega (arith, z) | inr z ↦ omega (arith, z) ] in
              let t = d.lies wp w (wp_is g s new front shade stage step h).0 l some (λ x z. absurd (wp_not_one x)) in
              let not_two : shade wp t.0 ≢ 2 = λ z. elim one_or_three [ inl x ↦ omega (arith, t.2, x, z) | inr x ↦ omega (arith, t.2, x, z) ] in
              let not_one : shade wq t.0 ≢ 1 = λ z. c (one_of_wq w t.0 l t.1 z b) in
              (t.0, inl t.1, sees_three t.0 (k.placed w t.0 t.1).1 not_two not_one ∙ sym e)
        ]
      ]

  lies' : (v w : ℕ) → v < suc g.count → w < suc g.count → 0 < side' v w → (v ≡ 1 → side' v w ≢ 3) → (f : ℕ) × on' w f × (shade' v f ≡ side' v w)
  lies' v w l m some not =
      elim (cases_lt v g.count) [
        | inl v_old ↦ elim (cases_lt w g.count) [
          | inl w_old ↦ grind (arith, side_after-older, older, old_front-old)
          | inr w_new ↦
              let n : w ≡ g.count = omega arith in
              let f = front s.first in
              let same = old_front-old s new front f (h.made s.first (omega arith)) in (
                f,
                inr (under n s.first (omega arith) step.order refl),
                older v f v_old ∙ ap (shade v) same ∙ elim (cases_lt s.first (g.place v)) [
                  | inl a ↦ first_two g s new front shade stage step h v v_old a ∙ sym (side_after-two g s side v w v_old n a)
                  | inr a ↦ first_one g s new front shade stage step h v v_old a ∙ sym (side_after-one g s side v w v_old n a)
                ],
              )
        ]
        | inr v_new ↦
            let n : v ≡ g.count = omega arith in
            elim (cases_lt w g.count) [
              | inl w_old ↦ let t = lies_new w w_old in (t.0, t.1, ap (λ v. shade' v t.0) n ∙ t.2 ∙ ap (λ v. side' v w) (sym n))
              | inr w_new ↦ absurd (omega (arith, side_after-self g s side v w n (omega arith)))
            ]
      ]

  -- an older vertex on a face, for the new one
  known_old : (w f : ℕ) → w < g.count → on w f → f < new → Known shade' side' path' g.count w f
  known_old w f l o m = elim (seen g s new front shade stage step h f) [
    | seen_first x y ↦ absurd (omega arith)
    | seen_last x y ↦ absurd (omega arith)
    | as_first x y z ↦ grind (arith, as_first, known_two, wp, wp_is, sides_of, as_two, as_parent, side_one, as_three, on_lower-new, one)
    | as_last x y z t ↦
        elim (sides_of w l) [
          | as_two b c ↦ grind (arith, as_two, cases_eq, wp, wp_own, one_of_wp, one_both)
          | as_parent b c e ↦ beside (e ∙ sym t)
          | side_one b c e a ↦ beside (a ∙ sym t)
          | as_three b c e a ↦ absurd (e (one_of_wq w f l o z c))
        ]
    | between x y z t ↦ grind (arith, between, sides_of, as_two, wp, wp_own, wp_is, wp_top, as_parent, on_lower-new, two, wq, wq_is)
  ]

  side_of_wq : side' g.count wq ≡ 1
  side_of_wq = grind (arith, sides_of, wq, wq_is, as_two, side_wp_wq, as_parent, side_one, as_three)

  -- how it sees the two new faces
  pub sees_first : (f : ℕ) → f ≡ new → shade' g.count f ≡ 2
  sees_first f e = grind (arith, seen, as_first, as_last, between, seen_first, seen_last)

  pub sees_last : (f : ℕ) → f ≡ suc new → shade' g.count f ≡ 1
  sees_last f e = grind (arith, seen, as_first, as_last, between, seen_first, seen_last)

  known_new : (w f : ℕ) → w < g.count → on' w f → Known shade' side' path' g.count w f
  known_new w f l x3 = grind (arith, known_old, at_first, on_lower-new, one, wp, wp_is, sees_first, at_last, side', side_of_wq, sees_last, under)

  known_self : (f : ℕ) → Known shade' side' path' g.count g.count f
  known_self f = elim (seen g s new front shade stage step h f) [
    | as_first x y z ↦ on_one (path_self one g.count g.count refl refl) z
    | as_last x y z t ↦ on_three (path_self three g.count g.count refl refl) t
    | between x y z t ↦ on_two (path_self two g.count g.count refl refl) t
    | seen_first x y ↦ on_one (path_self one g.count g.count refl refl) y
    | seen_last x y ↦ on_three (path_self three g.count g.count refl refl) y
  ]

  -- an older vertex, and the new one
  known_over : (v w f : ℕ) → v < g.count → w ≡ g.count → on' w f → Known shade' side' path' v w f
  known_over v w f l n o =
      let j = new_on g s new front shade on stage step h k w f n o in
      let e = older v f l ∙ ap (shade v) j.3 in
      grind (arith, sees_under, side_after-two, cases_lt, on_upper-over, three, side_after-one)

  known_both : (v w f : ℕ) → v < g.count → w < g.count → on' w f → Known shade' side' path' v w f
  known_both v w f l m o =
      let e = older v f l in
      elim (d.known v w (old f) l (old_on g s new front shade on stage step h k w f m o)) [
        | beside a ↦ beside ((side_after-older g s side v w l m) ∙ a ∙ sym e)
        | on_one a b ↦ on_one (path_older one v w l m ∙ a) (e ∙ b)
        | on_two a b ↦ on_two (path_older two v w l m ∙ a) (e ∙ b)
        | on_three a b ↦ on_three (path_older three v w l m ∙ a) (e ∙ b)
      ]

  known' : (v w f : ℕ) → v < suc g.count → on' w f → Known shade' side' path' v w f
  known' v w f l o = elim (cases_lt v g.count) [
    | inl v_old ↦ elim (cases_lt w g.count) [ inl w_old ↦ known_both v w f v_old w_old o | inr w_new ↦ known_over v w f v_old (new_is w f w_new o) o ]
    | inr v_new ↦
        let n : v ≡ g.count = omega arith in
        elim (cases_lt w g.count) [
          | inl w_old ↦ subst (λ v. Known shade' side' path' v w f) (sym n) (known_new w f w_old o)
          | inr w_new ↦ subst (λ v. Known shade' side' path' v w f) (sym n) (subst (λ w. Known shade' side' path' g.count w f) (sym (new_is w f w_new o)) (known_self f))
        ]
  ]
    where
      new_is : (w f : ℕ) → g.count ≤ w → on' w f → w ≡ g.count
      new_is w f m (inl o) = absurd (let a = (k.placed w f o).0 in omega arith)
      new_is w f m (inr (at_first a b)) = absurd (omega (arith, (wp_is g s new front shade stage step h).0))
      new_is w f m (inr (at_last a b)) = absurd (omega (arith, (wq_is g s new front shade stage step h).0))
      new_is w f m (inr (under a j b c e)) = a
      new_is w f m (inr (new_first a b)) = a
      new_is w f m (inr (new_last a b)) = a

  -- on which side the paths lie
  one_side' : (v w : ℕ) → v < suc g.count → w < suc g.count → path' one v w ≡ true → w ≢ v → side' v w ≡ 3
  one_side' v w l m p ne = elim (cases_lt v g.count) [
    | inl v_old ↦ elim (cases_lt w g.count) [
      | inl w_old ↦ side_after-older g s side v w v_old w_old ∙ d.one_side v w v_old w_old (sym (path_older one v w v_old w_old) ∙ p) ne
      | inr w_new ↦ absurd (true≢false (sym p ∙ on_lower-not g s (path one) wp v w v_old (omega arith)))
    ]
    | inr v_new ↦
        let n : v ≡ g.count = omega arith in
        let w_old : w < g.count = omega arith in
        let p' : path one wp w ≡ true = sym (on_lower-new g s (path one) wp v w n w_old) ∙ p in
        ap (λ v. side' v w) n ∙ elim (sides_of w w_old) [
          | as_three b c e a ↦ a
          | as_two b c ↦ elim (cases_eq w wp) [ inl x ↦ absurd (omega (arith, ap (side wp) x, wp_own, b)) | inr x ↦ absurd (omega (arith, d.one_side wp w (wp_is g s new front shade stage step h).0 w_old p' x, b)) ]
          | as_parent b c e ↦ absurd (omega (arith, side_wp_wq, ap (side wp) (sym c), d.one_side wp w (wp_is g s new front shade stage step h).0 w_old p' (λ x. wp_not_wq (sym x ∙ c))))
          | side_one b c e a ↦ grind (arith, side_one, cases_eq, wp, side_wq_wp, wq, one_side_both, wp_is)
        ]
  ]

  two_side' : (v w : ℕ) → v < suc g.count → w < suc g.count → path' two v w ≡ true → w ≢ v → side' v w ≡ 1
  two_side' v w l m p ne = elim (cases_lt v g.count) [
    | inl v_old ↦ elim (cases_lt w g.count) [
      | inl w_old ↦ side_after-older g s side v w v_old w_old ∙ d.two_side v w v_old w_old (sym (path_older two v w v_old w_old) ∙ p) ne
      | inr w_new ↦ absurd (true≢false (sym p ∙ on_lower-not g s (path two) wq v w v_old (omega arith)))
    ]
    | inr v_new ↦
        let n : v ≡ g.count = omega arith in
        let w_old : w < g.count = omega arith in
        let p' : path two wq w ≡ true = sym (on_lower-new g s (path two) wq v w n w_old) ∙ p in
        ap (λ v. side' v w) n ∙ elim (sides_of w w_old) [
          | as_parent b c e ↦ e
          | side_one b c e a ↦ a
          | as_three b c e a ↦ absurd (e (d.two_side wq w (wq_is g s new front shade stage step h).0 w_old p' c))
          | as_two b c ↦ grind (arith, as_two, cases_eq, wq, wp, side_wp_wq, apart, wq_is)
        ]
  ]

  three_side' : (v w : ℕ) → v < suc g.count → w < suc g.count → path' three v w ≡ true → w ≢ v → side' v w ≡ 2
  three_side' v w l m p ne =
      elim (cases_lt v g.count) [
        | inl v_old ↦ elim (cases_lt w g.count) [
          | inl w_old ↦ side_after-older g s side v w v_old w_old ∙ d.three_side v w v_old w_old (sym (path_older three v w v_old w_old) ∙ p) ne
          | inr w_new ↦ grind (arith, cases_lt, side_after-two, true≢false, on_upper-not, three)
        ]
        | inr v_new ↦ absurd (true≢false (sym p ∙ on_upper-new g s (path three) v w (omega arith) (omega arith)))
      ]

  own_path' : (c : Colour) (v : ℕ) → v < suc g.count → path' c v v ≡ true
  own_path' c v l = elim (cases_lt v g.count) [ inl a ↦ path_older c v v a a ∙ d.own_path c v a | inr a ↦ path_self c v v (omega arith) (omega arith) ]

  own_side' : (v : ℕ) → v < suc g.count → side' v v ≡ 0
  own_side' v l = elim (cases_lt v g.count) [ inl a ↦ side_after-older g s side v v a a ∙ d.own_side v a | inr a ↦ side_after-self g s side v v (omega arith) (omega arith) ]

  some_side' : (v w : ℕ) → v < suc g.count → w < suc g.count → v ≢ w → (side' v w ≡ 1) ⊎ ((side' v w ≡ 2) ⊎ (side' v w ≡ 3))
  some_side' v w l m ne = grind (arith, cases_lt, side_after-older, side_after-two, side_after-one, side_after-new, as_two, as_parent, side_one, as_three)

  -- the contour after the step, one vertex of it
  reached' : (v i : ℕ) → v < suc g.count → i < (after g s).width → path' three v (vertex_after g s i) ≡ true → place_after g s v ≡ i
  reached' v i l m p =
      let o = step.order in
      let back = λ (x : ℕ) (e : vertex_after g s i ≡ x). ap (path' three v) (sym e) ∙ p in
      elim (cases_place g s i step m) [
        | inl c ↦
            let p' = back (g.vertex i) (vertex_after-low g s i c.low) in
            let x = stage.placed i (omega arith) in
            elim (cases_lt v g.count) [
              | inl a ↦
                  let t = d.reached v i a (omega arith) (sym (path_older three v (g.vertex i) a x) ∙ p') in
                  elim (goes g s v o a) [ stays y z ↦ omega arith | goes_under y z t' ↦ absurd (omega arith) | behind y z ↦ absurd (omega arith) ]
              | inr a ↦ absurd (true≢false (sym p' ∙ on_upper-new g s (path three) v (g.vertex i) (omega arith) x))
            ]
        | inr (inl c) ↦ grind (arith, vertex_after-new, cases_lt, goes, stays, true≢false, on_upper-not, three, goes_under, behind, place_after-new)
        | inr (inr c) ↦
            let p' = back (g.vertex c.from) (vertex_after-high g s i c.from (omega arith) c.high c.to) in
            let x = stage.placed c.from c.within in
            elim (cases_lt v g.count) [
              | inl a ↦
                  let t = d.reached v c.from a c.within (sym (path_older three v (g.vertex c.from) a x) ∙ p') in
                  elim (goes g s v o a) [ stays y z ↦ absurd (omega arith) | goes_under y z t' ↦ absurd (omega arith) | behind y z ↦ omega arith ]
              | inr a ↦ absurd (true≢false (sym p' ∙ on_upper-new g s (path three) v (g.vertex c.from) (omega arith) x))
            ]
      ]

  reaches' : (v i : ℕ) → v < suc g.count → i < (after g s).width → place_after g s v ≡ i → path' three v (vertex_after g s i) ≡ true
  reaches' v i l m p =
      elim (cases_lt v g.count) [
        | inl a ↦ elim (goes g s v step.order a) [
          | stays y z ↦
              let e : g.place v ≡ i = sym z ∙ p in
              let j : i < g.width = omega arith in
              ap (path' three v) (vertex_after-low g s i (omega arith)) ∙ path_older three v (g.vertex i) a (stage.placed i j) ∙ d.reaches v i a j e
          | goes_under y z t ↦ ap (path' three v) (vertex_after-new g s i (sym p ∙ t)) ∙ on_upper-over g s (path three) v g.count a refl y z
          | behind y z ↦
              let j : ℕ = g.place v in
              let x = stage.within v a in
              ap (path' three v) (vertex_after-high g s i j (omega arith) y (omega arith)) ∙ path_older three v (g.vertex j) a (stage.placed j x) ∙ d.reaches v j a x refl
        ]
        | inr a ↦
            let n : v ≡ g.count = omega arith in
            ap (path' three v) (vertex_after-new g s i (sym p ∙ place_after-new g s v n)) ∙ path_self three v g.count n refl
      ]

  top_older : (i w : ℕ) → i < g.width → w < suc g.count → (i ≤ s.first) ⊎ (s.last ≤ i) → path' three (g.vertex i) w ≡ true → w ≡ g.vertex i
  top_older i w l m side p =
      let o = step.order in
      let x = stage.placed i l in
      elim (cases_lt w g.count) [
        | inl a ↦ d.top i w l a (sym (path_older three (g.vertex i) w x a) ∙ p)
        | inr a ↦ absurd (true≢false (sym p ∙ on_upper-not g s (path three) (g.vertex i) w x (omega arith) (elim side [ inl z ↦ inl (omega arith) | inr z ↦ inr (omega arith) ]) o))
      ]

  top' : (i w : ℕ) → i < (after g s).width → w < suc g.count → path' three (vertex_after g s i) w ≡ true → w ≡ vertex_after g s i
  top' i w l m p = grind (arith, cases_place, vertex_after-low, top_older, path', three, vertex_after-new, cases_lt, true≢false, on_upper-new, vertex_after-high)

  pub IsSided-after : IsSided (after g s) shade' on' path' side'
  IsSided-after = record {
    own_path = own_path';
    own_side = own_side';
    some_side = some_side';
    reached = reached';
    reaches = reaches';
    top = top';
    lies = lies';
    known = known';
    one_side = one_side';
    two_side = two_side';
    three_side = three_side';
  }

  -- what the new vertex has on sides 1 and 2
  pub new_one : (w : ℕ) → w < g.count → (side' g.count w ≡ 1 → (w ≡ wq) ⊎ (side wq w ≡ 1)) × ((w ≡ wq) ⊎ (side wq w ≡ 1) → side' g.count w ≡ 1)
  new_one w l = (
    λ e. elim (sides_of w l) [ as_two b c ↦ absurd (omega (arith, e, c)) | as_parent b c t ↦ inl c | side_one b c t a ↦ inr t | as_three b c t a ↦ absurd (omega (arith, e, a)) ],
    λ e. elim (sides_of w l) [
      | as_two b c ↦ elim e [ inl x ↦ absurd (omega (arith, ap (side wp) x, side_wp_wq, b)) | inr x ↦ absurd (apart w l b x) ]
      | as_parent b c t ↦ t
      | side_one b c t a ↦ a
      | as_three b c t a ↦ elim e [ inl x ↦ absurd (c x) | inr x ↦ absurd (t x) ]
    ],
  )

  pub new_two : (w : ℕ) → w < g.count → (side' g.count w ≡ 2 → side wp w ≡ 2) × (side wp w ≡ 2 → side' g.count w ≡ 2)
  new_two w l = grind (arith, sides_of, as_two, as_parent, side_one, as_three)

-- the base alone
base_side : (steps : ℕ → Step) (v w : ℕ) → ((v ≡ w) × (sides steps 0 v w ≡ 0)) ⊎ (((v ≢ w) × (v ≡ 0) × (sides steps 0 v w ≡ 1)) ⊎ ((v ≢ w) × (v ≢ 0) × (sides steps 0 v w ≡ 3)))
base_side steps v w = grind (arith, cases_eq, nat_tests)

pub base_one : (steps : ℕ → Step) (v w : ℕ) → ((w ≡ 0) ⊎ (v ≡ w)) × (paths steps 0 one v w ≡ true) ⊎ (w ≢ 0) × (v ≢ w) × (paths steps 0 one v w ≡ false)
base_one steps v w = grind (arith, cases_eq, nat_tests)

pub base_two : (steps : ℕ → Step) (v w : ℕ) → (v ≡ w) × (paths steps 0 two v w ≡ true) ⊎ (v ≢ w) × (paths steps 0 two v w ≡ false)
base_two steps v w = elim (cases_eq v w) [ inl e ↦ inl (e, grind (arith, nat_tests)) | inr e ↦ inr (e, grind (arith, nat_tests)) ]

pub base_three : (steps : ℕ → Step) (v w : ℕ) → (v ≡ w) × (paths steps 0 three v w ≡ true) ⊎ (v ≢ w) × (paths steps 0 three v w ≡ false)
base_three steps v w = elim (cases_eq v w) [ inl e ↦ inl (e, grind (arith, nat_tests)) | inr e ↦ inr (e, grind (arith, nat_tests)) ]

module _ (steps : ℕ → Step) where
  three_same : (v w : ℕ) → paths steps 0 three v w ≡ true → v ≡ w
  three_same v w e = elim (base_three steps v w) [ inl c ↦ c.0 | inr c ↦ absurd (true≢false (sym e ∙ c.1)) ]

  base_own : (c : Colour) (v : ℕ) → v < 2 → paths steps 0 c v v ≡ true
  base_own one v l = elim (base_one steps v v) [ inl c ↦ c.1 | inr c ↦ absurd (c.1 refl) ]
  base_own two v l = elim (base_two steps v v) [ inl c ↦ c.1 | inr c ↦ absurd (c.0 refl) ]
  base_own three v l = elim (base_three steps v v) [ inl c ↦ c.1 | inr c ↦ absurd (c.0 refl) ]

  base_known : (v w f : ℕ) → v < 2 → IsOn steps 0 w f → Known (shades steps 0) (sides steps 0) (paths steps 0) v w f
  base_known v w f l o = grind (arith, base_shade, cases_eq, base_three, base_side, base_one)

  base_lies : (v w : ℕ) → v < 2 → w < 2 → 0 < sides steps 0 v w → (v ≡ 1 → sides steps 0 v w ≢ 3) → (f : ℕ) × IsOn steps 0 w f × (shades steps 0 v f ≡ sides steps 0 v w)
  base_lies v w l m some not = grind (arith, base_side, base_shade)

  pub IsSided-base : IsSided base (shades steps 0) (IsOn steps 0) (paths steps 0) (sides steps 0)
  IsSided-base = grind (arith, base_own, base_side, three_same, base_three, base_lies, base_known, base_one, true≢false, base_two)

  -- at each stage of a run
  pub IsSided-run : (n : ℕ) → IsRun steps n → IsSided (stage_after steps n) (shades steps n) (IsOn steps n) (paths steps n) (sides steps n)
  IsSided-run zero run = IsSided-base
  IsSided-run (suc n) run =
      let less = IsRun-less steps n (suc n) (omega arith) run in
      IsSided-after (stage_after steps n) (steps n) (2 * n + 1) (fronts steps n) (shades steps n) (IsOn steps n) (paths steps n) (sides steps n) (IsStage-run steps n less) (run n (omega arith)) (IsShaded-run steps n less) (IsNested-run steps n less) (IsSided-run n less)
