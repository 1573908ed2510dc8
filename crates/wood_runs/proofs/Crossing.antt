-- Shades change just across the paths.
use Rattle.std.proofs.Common.{◌≡◌, ◌≢◌, ℕ, suc, ◌+◌, ◌-◌, ◌*◌, ◌<◌, ◌≤◌, Bool, true, refl, sym, ap, ◌∙◌, subst, inl, inr, arith, true≢false}
use Rattle.std.proofs.lemmas.Bool.{cases_eq, cases_lt, cases_Bool}
use Rattle.contour_runs.specs.Runs.{Step, Stage, stage_after, IsStep, IsRun, IsCovered, IsDartOf}
use Rattle.contour_runs.specs.Laws.{IsStage}
use Rattle.contour_runs.proofs.Upward.{upward}
use Rattle.contour_runs.proofs.Stages.{IsStage-run, IsRun-less, count-stage_after, covered_gone}
use Rattle.wood_runs.specs.Parents.{Colour, one, two, three, next, previous, IsParent}
use Rattle.wood_runs.specs.Fronts.{shade_after, fronts, shades, IsOn}
use Rattle.wood_runs.proofs.Sides.{on_after, paths, sides}
use Rattle.wood_runs.proofs.Steps.{old_front-old, on_lower-new, on_lower-not, on_upper-new}
use Rattle.wood_runs.proofs.Shades.{IsShaded, IsShaded-run, wp_is, wq_is, one_both, two_both, older_old, older_first, older_last}
use Rattle.wood_runs.proofs.Nested.{IsNested, IsNested-run, one_on, two_on}
use Rattle.wood_runs.proofs.Sided.{IsSided, IsSided-run, path_older, path_self, sees_three, sees_first, sees_last}
use Rattle.std.specs.Prelude.{◌⊎◌, false}
use Rattle.wood_runs.specs.Edges.{number}

-- on the edge from x to its parent of a colour the face l lies to the left, and r to the right
pub record IsEdgeOne (steps : ℕ → Step) (n x l r : ℕ) : Type 0 where
  pub step : ℕ
  pub earlier : step < n
  pub vertex : x ≡ step + 2
  pub left : l ≡ fronts steps step (steps step).first
  pub right : r ≡ 2 * step + 1

pub record IsEdgeTwo (steps : ℕ → Step) (n x l r : ℕ) : Type 0 where
  pub step : ℕ
  pub earlier : step < n
  pub vertex : x ≡ step + 2
  pub left : l ≡ 2 * step + 2
  pub last : ℕ
  pub last_is : suc last ≡ (steps step).last
  pub right : r ≡ fronts steps step last

pub record IsEdgeThree (steps : ℕ → Step) (n x l r : ℕ) : Type 0 where
  pub step : ℕ
  pub earlier : step < n
  pub before : ℕ
  pub low : (steps step).first ≤ before
  pub high : suc before < (steps step).last
  pub vertex : (stage_after steps step).vertex (suc before) ≡ x
  pub left : l ≡ fronts steps step before
  pub right : r ≡ fronts steps step (suc before)

abbrev pub IsEdge : Colour → (ℕ → Step) → ℕ → ℕ → ℕ → ℕ → Type 0
IsEdge one = IsEdgeOne
IsEdge two = IsEdgeTwo
IsEdge three = IsEdgeThree

-- An edge from a vertex to its parent of colour c has the shade of the colour before on its left and that of the colour after on its right, where the vertex is on the path of this colour; else one shade on both sides.
abbrev pub Crosses : Colour → Bool → ℕ → ℕ → Type 0
Crosses c on left right = ((on ≡ true) × (left ≡ number (previous c)) × (right ≡ number (next c))) ⊎ ((on ≡ false) × (left ≡ right))

-- The face f, which one of the first n steps makes, lies left of the dart (x, y).
pub record IsLeft (steps : ℕ → Step) (n x y f : ℕ) : Type 0 where
  pub step : ℕ
  pub place : ℕ
  pub earlier : step < n
  pub dart : IsDartOf steps step place x y
  pub face : f ≡ fronts steps step place

-- the roots, where n + 2 vertices are placed
abbrev pub root_at : ℕ → Colour → ℕ
root_at n one = 0
root_at n two = 1
root_at n three = suc n

-- The dart (x, y) has the outer face on its left: it goes from the root of the colour before c to that of the colour after it.
abbrev pub IsOuter : ℕ → Colour → ℕ → ℕ → Type 0
IsOuter n c x y = (x ≡ root_at n (previous c)) × (y ≡ root_at n (next c))

-- the face left of a dart has this shade for v, the outer one 0
pub data HasShade (steps : ℕ → Step) (n v x y s : ℕ) : Type 0 where
  made : (f : ℕ) → IsLeft steps n x y f → s ≡ shades steps n v f → HasShade steps n v x y s
  outer : (c : Colour) → IsOuter n c x y → s ≡ 0 → HasShade steps n v x y s

-- a vertex that is no root
abbrev pub IsInside : ℕ → ℕ → Type 0
IsInside n x = (2 ≤ x) × (x < suc n)

-- What the edge of a dart is, with the shades on its left and on its right.
pub data IsCrossing (steps : ℕ → Step) (n v x y s s' : ℕ) : Type 0 where
  out : (c : Colour) → IsParent c steps n x y → IsInside n x → Crosses c (paths steps n c v x) s s' → IsCrossing steps n v x y s s'
  into : (c : Colour) → IsParent c steps n y x → IsInside n y → Crosses c (paths steps n c v y) s' s → IsCrossing steps n v x y s s'
  around : (c : Colour) → IsOuter n c x y → s ≡ 0 → s' ≡ number c → IsCrossing steps n v x y s s'
  within : (c : Colour) → IsOuter n c y x → s ≡ number c → s' ≡ 0 → IsCrossing steps n v x y s s'

module _ (g : Stage) (s : Step) (new : ℕ) (front : ℕ → ℕ) (shade : ℕ → ℕ → ℕ) (on : ℕ → ℕ → Type 0) (path : Colour → ℕ → ℕ → Bool) (side : ℕ → ℕ → ℕ) (stage : IsStage g) (step : IsStep g s) (h : IsShaded g new front shade) (k : IsNested g new front shade on) (d : IsSided g shade on path side) where
  abbrev shade' : ℕ → ℕ → ℕ
  shade' = shade_after g s new front shade

  abbrev path' : Colour → ℕ → ℕ → Bool
  path' c = on_after c g s (path c)

  abbrev wp : ℕ
  wp = g.vertex s.first

  abbrev wq : ℕ
  wq = g.vertex s.last

  abbrev r : ℕ
  r = s.last - 1

  -- what lies before an edge under the new vertex has shade 3 for it
  under_three : (j : ℕ) → s.first ≤ j → j < s.last → shade' g.count (front j) ≡ 3
  under_three j a b = grind (arith, wp, wp_is, wq, wq_is, sees_three)

  born_one : (v : ℕ) → v < suc g.count → Crosses one (path' one v g.count) (shade' v (front s.first)) (shade' v new)
  born_one v l =
      let o = step.order in
      elim (cases_lt v g.count) [
        | inl a ↦ inr (on_lower-not g s (path one) wp v g.count a refl, older_old g s new front shade stage step h v (front s.first) a (h.made s.first (omega arith)) ∙ sym (older_first g s new front shade stage step h v new a refl))
        | inr a ↦
            let e : v ≡ g.count = omega arith in
            subst (λ v. Crosses one (path' one v g.count) (shade' v (front s.first)) (shade' v new)) (sym e) (inl (path_self g s new front shade on path side stage step h k d one g.count g.count refl refl, under_three s.first (omega arith) o, sees_first g s new front shade on path side stage step h k d new refl))
      ]

  born_two : (v : ℕ) → v < suc g.count → Crosses two (path' two v g.count) (shade' v (suc new)) (shade' v (front r))
  born_two v l =
      elim (cases_lt v g.count) [
        | inl a ↦ inr (on_lower-not g s (path two) wq v g.count a refl, older_last g s new front shade stage step h v (suc new) a (omega arith) ∙ sym (older_old g s new front shade stage step h v (front r) a (h.made r (omega arith))))
        | inr a ↦
            let e : v ≡ g.count = omega arith in
            subst (λ v. Crosses two (path' two v g.count) (shade' v (suc new)) (shade' v (front r))) (sym e) (inl (path_self g s new front shade on path side stage step h k d two g.count g.count refl refl, sees_last g s new front shade on path side stage step h k d (suc new) refl, under_three r (omega arith) (omega arith)))
      ]

  born_three : (j v : ℕ) → s.first ≤ j → suc j < s.last → v < suc g.count → Crosses three (path' three v (g.vertex (suc j))) (shade' v (front j)) (shade' v (front (suc j)))
  born_three j v lo hi l =
      let x = stage.placed (suc j) (omega arith) in
      elim (cases_lt v g.count) [
        | inl a ↦
            let e = path_older g s new front shade on path side stage step h k d three v (g.vertex (suc j)) a x in
            let e1 = older_old g s new front shade stage step h v (front j) a (h.made j (omega arith)) in
            let e2 = older_old g s new front shade stage step h v (front (suc j)) a (h.made (suc j) (omega arith)) in
            grind (arith, cases_Bool, three, true≢false, cases_lt)
        | inr a ↦ grind (arith, Crosses, three, path', shade', on_upper-new, under_three)
      ]

  -- two older faces that the vertices at both places see alike, as far as it matters
  same_new : (f f' : ℕ) → f < new → f' < new → (shade wp f ≡ 2 → shade wp f' ≡ 2) → (shade wp f' ≡ 2 → shade wp f ≡ 2) → (shade wq f ≡ 1 → shade wq f' ≡ 1) → (shade wq f' ≡ 1 → shade wq f ≡ 1) → shade' g.count f ≡ shade' g.count f'
  same_new f f' l l' a b a' b' = grind (arith, wp, two_on, old_front-old, wq, one_on, cases_eq, sees_three)

  by_same : {a b i : ℕ} → a ≡ b → (a ≡ i → b ≡ i) × (b ≡ i → a ≡ i)
  by_same e = (λ x. sym e ∙ x, λ x. e ∙ x)

  -- an older edge, for the new vertex
  kept_new : (c : Colour) (x f f' : ℕ) → x < g.count → f < new → f' < new → (c ≡ three → g.vertex (g.place x) ≢ x) → Crosses c (path c wp x) (shade wp f) (shade wp f') → Crosses c (path c wq x) (shade wq f) (shade wq f') → Crosses c (path' c g.count x) (shade' g.count f) (shade' g.count f')
  kept_new one x f f' lx l l' gone (inl a) b =
      inl (
        (on_lower-new g s (path one) wp g.count x refl lx) ∙ a.0,
        sees_three g s new front shade on path side stage step h k d f l (λ z. absurd (omega (arith, z, a.1))) (λ z. absurd (omega (arith, one_both g s new front shade stage step h f z, a.1))),
        two_on g s new front shade on stage step h k f' (ap (shade wp) (old_front-old s new front f' l') ∙ a.2),
      )
  kept_new one x f f' lx l l' gone (inr a) b = grind (arith, by_same, wq, on_lower-new, one, wp, same_new)
  kept_new two x f f' lx l l' gone a (inl b) =
      inl (
        (on_lower-new g s (path two) wq g.count x refl lx) ∙ b.0,
        one_on g s new front shade on stage step h k f (ap (shade wq) (old_front-old s new front f l) ∙ b.1),
        sees_three g s new front shade on path side stage step h k d f' l' (λ z. absurd (omega (arith, two_both g s new front shade stage step h f' z, b.2))) (λ z. absurd (omega (arith, z, b.2))),
      )
  kept_new two x f f' lx l l' gone a (inr b) = grind (arith, by_same, wp, on_lower-new, two, wq, same_new)
  kept_new three x f f' lx l l' gone a b = grind (arith, three, wp, wq, by_same, on_upper-new, same_new)

  pub kept : (c : Colour) (x f f' : ℕ) → x < g.count → f < new → f' < new → (c ≡ three → g.vertex (g.place x) ≢ x) → ((v : ℕ) → v < g.count → Crosses c (path c v x) (shade v f) (shade v f')) → (v : ℕ) → v < suc g.count → Crosses c (path' c v x) (shade' v f) (shade' v f')
  kept c x f f' lx l l' gone before v lv = elim (cases_lt v g.count) [
    | inl a ↦ grind (arith, path_older, older_old)
    | inr a ↦
        let n : v ≡ g.count = omega arith in
        subst (λ v. Crosses c (path' c v x) (shade' v f) (shade' v f')) (sym n) (kept_new c x f f' lx l l' gone (before wp (wp_is g s new front shade stage step h).0) (before wq (wq_is g s new front shade stage step h).0))
  ]

module _ (steps : ℕ → Step) (n : ℕ) (run : IsRun steps n) where
  abbrev at : ℕ → Stage
  at k = stage_after steps k

  abbrev Holds : Colour → ℕ → ℕ → ℕ → ℕ → Type 0
  Holds c x f f' m = (v : ℕ) → v < (at m).count → Crosses c (paths steps m c v x) (shades steps m v f) (shades steps m v f')

  less : (m : ℕ) → m ≤ n → IsRun steps m
  less m l = IsRun-less steps m n l run

  later : (c : Colour) (x f f' k : ℕ) → k < n → x < k + 3 → f < 2 * k + 3 → f' < 2 * k + 3 → (c ≡ three → (m : ℕ) → suc k ≤ m → m < n → (at m).vertex ((at m).place x) ≢ x) → Holds c x f f' (suc k) → Holds c x f f' n
  later c x f f' k l lx lf lf' gone begun =
      upward (Holds c x f f') (suc k) n (omega arith) begun
      (λ m low high before.
      let e = count-stage_after steps m in
      let run' = less m (omega arith) in
      kept (at m) (steps m) (2 * m + 1) (fronts steps m) (shades steps m) (IsOn steps m) (paths steps m) (sides steps m) (IsStage-run steps m run') (run m high) (IsShaded-run steps m run') (IsNested-run steps m run') (IsSided-run steps m run') c x f f'
      (omega arith) (omega arith) (omega arith) (λ t. gone t m low high) before)

  pub crosses : (c : Colour) (v x f f' : ℕ) → v < n + 2 → IsEdge c steps n x f f' → Crosses c (paths steps n c v x) (shades steps n v f) (shades steps n v f')
  crosses one v x f f' l e =
      let k = e.step in
      let a = e.earlier in
      let run' = less k (omega arith) in
      let count = count-stage_after steps k in
      let h = IsShaded-run steps k run' in
      let m = h.made (steps k).first (let o = (run k a).order in let w = (run k a).within in omega arith) in
      let x' : x ≡ (at k).count = e.vertex ∙ sym count in
      let b = e.left in
      let b' = e.right in
      let born = born_one (at k) (steps k) (2 * k + 1) (fronts steps k) (shades steps k) (IsOn steps k) (paths steps k) (sides steps k) (IsStage-run steps k run') (run k a) h (IsNested-run steps k run') (IsSided-run steps k run') in
      later one x f f' k a (let z = e.vertex in omega arith) (omega arith) (omega arith) (λ t. absurd (one≢three t))
      (λ v lv. subst (λ x. Crosses one (paths steps (suc k) one v x) (shades steps (suc k) v f) (shades steps (suc k) v f')) (sym x') (subst (λ f'. Crosses one (paths steps (suc k) one v (at k).count) (shades steps (suc k) v f) (shades steps (suc k) v f')) (sym b') (subst (λ f. Crosses one (paths steps (suc k) one v (at k).count) (shades steps (suc k) v f) (shades steps (suc k) v (2 * k + 1))) (sym b) (born v lv)))) v
      (let c = count-stage_after steps n in omega arith)
    where
      one≢three : one ≢ three
      one≢three t = cc
  crosses two v x f f' l e =
      let k = e.step in
      let a = e.earlier in
      let run' = less k (omega arith) in
      let count = count-stage_after steps k in
      let h = IsShaded-run steps k run' in
      let m = h.made e.last (let o = (run k a).order in let w = (run k a).within in omega arith) in
      let x' : x ≡ (at k).count = e.vertex ∙ sym count in
      let b : f ≡ suc (2 * k + 1) = let z = e.left in omega arith in
      let r' : e.last ≡ (steps k).last - 1 = omega arith in
      let b' : f' ≡ fronts steps k ((steps k).last - 1) = e.right ∙ ap (fronts steps k) r' in
      let born = born_two (at k) (steps k) (2 * k + 1) (fronts steps k) (shades steps k) (IsOn steps k) (paths steps k) (sides steps k) (IsStage-run steps k run') (run k a) h (IsNested-run steps k run') (IsSided-run steps k run') in
      later two x f f' k a (let z = e.vertex in omega arith) (omega arith) (let z = e.right in omega arith) (λ t. absurd (two≢three t))
      (λ v lv. subst (λ x. Crosses two (paths steps (suc k) two v x) (shades steps (suc k) v f) (shades steps (suc k) v f')) (sym x') (subst (λ f'. Crosses two (paths steps (suc k) two v (at k).count) (shades steps (suc k) v f) (shades steps (suc k) v f')) (sym b') (subst (λ f. Crosses two (paths steps (suc k) two v (at k).count) (shades steps (suc k) v f) (shades steps (suc k) v (fronts steps k ((steps k).last - 1)))) (sym b) (born v lv)))) v
      (let c = count-stage_after steps n in omega arith)
    where
      two≢three : two ≢ three
      two≢three t = cc
  crosses three v x f f' l e =
      let k = e.step in
      let a = e.earlier in
      let run' = less k (omega arith) in
      let count = count-stage_after steps k in
      let h = IsShaded-run steps k run' in
      let w = (run k a).within in
      let lo = e.low in
      let hi = e.high in
      let m = h.made e.before (omega arith) in
      let pl = (IsStage-run steps k run').placed (suc e.before) (omega arith) in
      let b = e.left in
      let b' = e.right in
      let cov : IsCovered steps k x = record { place = suc e.before; low = omega arith; high = hi; vertex = e.vertex } in
      let born = born_three (at k) (steps k) (2 * k + 1) (fronts steps k) (shades steps k) (IsOn steps k) (paths steps k) (sides steps k) (IsStage-run steps k run') (run k a) h (IsNested-run steps k run') (IsSided-run steps k run') e.before in
      later three x f f' k a (omega arith) (omega arith) (omega arith) (λ t m low high. covered_gone steps k m x (less m (omega arith)) (omega arith) cov)
      (λ v lv. subst (λ x. Crosses three (paths steps (suc k) three v x) (shades steps (suc k) v f) (shades steps (suc k) v f')) e.vertex (subst (λ f'. Crosses three (paths steps (suc k) three v ((at k).vertex (suc e.before))) (shades steps (suc k) v f) (shades steps (suc k) v f')) (sym b') (subst (λ f. Crosses three (paths steps (suc k) three v ((at k).vertex (suc e.before))) (shades steps (suc k) v f) (shades steps (suc k) v (fronts steps k (suc e.before)))) (sym b) (born v lo hi lv)))) v
      (let c = count-stage_after steps n in omega arith)
