-- What a step does to fronts, shades, paths and sides.
use Rattle.std.proofs.Common.{◌≡◌, ◌≢◌, ◌⊎◌, ℕ, suc, ◌+◌, ◌-◌, ◌<◌, ◌≤◌, ltb, Bool, true, false, cond, sym, ap, ◌∙◌, inl, inr, arith}
use Rattle.std.proofs.lemmas.Bool.{cases_eq, cases_lt, cond-true, cond-false, lt-ltb, le-ltb}
use Rattle.std.proofs.lemmas.Bool.Decides.{nat_tests}
use Rattle.contour_runs.specs.Runs.{Step, Stage, place_after}
use Rattle.contour_runs.proofs.Places.{moved-low, moved-between, moved-high, place_after-older}
use Rattle.wood_runs.specs.Fronts.{front_after, old_front, shade_after}
use Rattle.wood_runs.proofs.Sides.{on_lower_after, on_upper_after, side_after}

module _ (s : Step) (new : ℕ) (front : ℕ → ℕ) where
  pub front_after-low : (i : ℕ) → i < s.first → front_after s new front i ≡ front i
  unfolding front_after
  front_after-low i l = grind (arith, nat_tests)

  pub front_after-first : (i : ℕ) → i ≡ s.first → front_after s new front i ≡ new
  unfolding front_after
  front_after-first i e = grind (arith, nat_tests)

  pub front_after-last : (i : ℕ) → i ≡ suc s.first → front_after s new front i ≡ suc new
  unfolding front_after
  front_after-last i e = grind (arith, nat_tests)

  pub front_after-high : (i j : ℕ) → suc s.first < i → s.last ≤ j → i + s.last ≡ j + suc (suc s.first) → front_after s new front i ≡ front j
  unfolding front_after
  front_after-high i j l m e = grind (arith, front_after, nat_tests)

  pub old_front-old : (f : ℕ) → f < new → old_front s new front f ≡ f
  unfolding old_front
  old_front-old f l = grind (arith, nat_tests)

  pub old_front-first : (f : ℕ) → f ≡ new → old_front s new front f ≡ front s.first
  unfolding old_front
  old_front-first f e = grind (arith, nat_tests)

  pub old_front-last : (f j : ℕ) → new < f → suc j ≡ s.last → old_front s new front f ≡ front j
  unfolding old_front
  old_front-last f j l e = grind (arith, old_front, nat_tests)

-- how the new vertex sees a face
pub data Sees (g : Stage) (s : Step) (new : ℕ) (shade : ℕ → ℕ → ℕ) (f : ℕ) (seen : ℕ) : Type 0 where
  as_first : f < new → shade (g.vertex s.first) f ≡ 2 → seen ≡ 2 → Sees g s new shade f seen
  as_last : f < new → shade (g.vertex s.first) f ≢ 2 → shade (g.vertex s.last) f ≡ 1 → seen ≡ 1 → Sees g s new shade f seen
  between : f < new → shade (g.vertex s.first) f ≢ 2 → shade (g.vertex s.last) f ≢ 1 → seen ≡ 3 → Sees g s new shade f seen
  new_first : f ≡ new → seen ≡ 2 → Sees g s new shade f seen
  new_last : new < f → seen ≡ 1 → Sees g s new shade f seen

module _ (g : Stage) (s : Step) (new : ℕ) (front : ℕ → ℕ) (shade : ℕ → ℕ → ℕ) where
  pub shade_after-older : (v f : ℕ) → v < g.count → shade_after g s new front shade v f ≡ shade v (old_front s new front f)
  unfolding shade_after
  shade_after-older v f l = cond-true (ltb v g.count) (shade v (old_front s new front f)) _ (lt-ltb v g.count l)

  pub shade_after-new : (v f : ℕ) → v ≡ g.count → Sees g s new shade f (shade_after g s new front shade v f)
  unfolding shade_after
  shade_after-new v f e = grind (arith, cases_lt, cases_eq, nat_tests)

-- where an older vertex goes
pub data Goes (g : Stage) (s : Step) (v : ℕ) : Type 0 where
  stays : g.place v ≤ s.first → place_after g s v ≡ g.place v → Goes g s v
  under : s.first < g.place v → g.place v < s.last → place_after g s v ≡ suc s.first → Goes g s v
  behind : s.last ≤ g.place v → place_after g s v + s.last ≡ g.place v + suc (suc s.first) → Goes g s v

pub goes : (g : Stage) (s : Step) (v : ℕ) → s.first < s.last → v < g.count → Goes g s v
goes g s v o l = grind (arith, place_after-older, cases_lt, moved-low, moved-between, moved-high)

-- the side of the new vertex on which an older one lies
pub data SidesOf (g : Stage) (s : Step) (side : ℕ → ℕ → ℕ) (w : ℕ) (told : ℕ) : Type 0 where
  as_two : side (g.vertex s.first) w ≡ 2 → told ≡ 2 → SidesOf g s side w told
  as_parent : side (g.vertex s.first) w ≢ 2 → w ≡ g.vertex s.last → told ≡ 1 → SidesOf g s side w told
  as_one : side (g.vertex s.first) w ≢ 2 → w ≢ g.vertex s.last → side (g.vertex s.last) w ≡ 1 → told ≡ 1 → SidesOf g s side w told
  as_three : side (g.vertex s.first) w ≢ 2 → w ≢ g.vertex s.last → side (g.vertex s.last) w ≢ 1 → told ≡ 3 → SidesOf g s side w told

module _ (g : Stage) (s : Step) (side : ℕ → ℕ → ℕ) where
  pub side_after-older : (v w : ℕ) → v < g.count → w < g.count → side_after g s side v w ≡ side v w
  unfolding side_after
  side_after-older v w l m = grind (arith, nat_tests)

  pub side_after-one : (v w : ℕ) → v < g.count → w ≡ g.count → g.place v ≤ s.first → side_after g s side v w ≡ 1
  unfolding side_after
  side_after-one v w l m a = grind (arith, nat_tests)

  pub side_after-two : (v w : ℕ) → v < g.count → w ≡ g.count → s.first < g.place v → side_after g s side v w ≡ 2
  unfolding side_after
  side_after-two v w l m a = grind (arith, nat_tests)

  pub side_after-self : (v w : ℕ) → v ≡ g.count → w ≡ g.count → side_after g s side v w ≡ 0
  unfolding side_after
  side_after-self v w l m = grind (arith, nat_tests)

  pub side_after-new : (v w : ℕ) → v ≡ g.count → w < g.count → SidesOf g s side w (side_after g s side v w)
  unfolding side_after
  side_after-new v w e l = grind (arith, cases_eq, nat_tests)

module _ (g : Stage) (s : Step) (on : ℕ → ℕ → Bool) where
  pub on_lower-older : (parent v w : ℕ) → v < g.count → w < g.count → on_lower_after g parent on v w ≡ on v w
  unfolding on_lower_after
  on_lower-older parent v w l m = cond-true (ltb w g.count) (on (cond (ltb v g.count) v parent) w) _ (lt-ltb w g.count m) ∙ ap (λ u. on u w) (cond-true (ltb v g.count) v parent (lt-ltb v g.count l))

  pub on_lower-new : (parent v w : ℕ) → v ≡ g.count → w < g.count → on_lower_after g parent on v w ≡ on parent w
  unfolding on_lower_after
  on_lower-new parent v w l m = cond-true (ltb w g.count) (on (cond (ltb v g.count) v parent) w) _ (lt-ltb w g.count m) ∙ ap (λ u. on u w) (cond-false (ltb v g.count) v parent (le-ltb v g.count (omega arith)))

  pub on_lower-not : (parent v w : ℕ) → v < g.count → w ≡ g.count → on_lower_after g parent on v w ≡ false
  unfolding on_lower_after
  on_lower-not parent v w l m = cond-false (ltb w g.count) (on (cond (ltb v g.count) v parent) w) _ (le-ltb w g.count (omega arith)) ∙ cond-true (ltb v g.count) false true (lt-ltb v g.count l)

  pub on_lower-self : (parent v w : ℕ) → v ≡ g.count → w ≡ g.count → on_lower_after g parent on v w ≡ true
  unfolding on_lower_after
  on_lower-self parent v w l m = cond-false (ltb w g.count) (on (cond (ltb v g.count) v parent) w) _ (le-ltb w g.count (omega arith)) ∙ cond-false (ltb v g.count) false true (le-ltb v g.count (omega arith))

  abbrev within : ℕ → Bool
  within v = cond (ltb s.first (g.place v)) (ltb (g.place v) s.last) false

  older_upper : (v w : ℕ) → v < g.count → on_upper_after g s on v w ≡ cond (ltb w g.count) (on v w) (within v)
  unfolding on_upper_after
  older_upper v w l = cond-true (ltb v g.count) (cond (ltb w g.count) (on v w) (within v)) _ (lt-ltb v g.count l)

  newer_upper : (v w : ℕ) → v ≡ g.count → on_upper_after g s on v w ≡ cond (ltb w g.count) false true
  unfolding on_upper_after
  newer_upper v w l = cond-false (ltb v g.count) (cond (ltb w g.count) (on v w) (within v)) (cond (ltb w g.count) false true) (le-ltb v g.count (omega arith))

  pub on_upper-older : (v w : ℕ) → v < g.count → w < g.count → on_upper_after g s on v w ≡ on v w
  on_upper-older v w l m = older_upper v w l ∙ cond-true (ltb w g.count) (on v w) (within v) (lt-ltb w g.count m)

  new_upper : (v w : ℕ) → v < g.count → w ≡ g.count → on_upper_after g s on v w ≡ within v
  new_upper v w l m = older_upper v w l ∙ cond-false (ltb w g.count) (on v w) (within v) (le-ltb w g.count (omega arith))

  pub on_upper-over : (v w : ℕ) → v < g.count → w ≡ g.count → s.first < g.place v → g.place v < s.last → on_upper_after g s on v w ≡ true
  on_upper-over v w l m a b = new_upper v w l m ∙ cond-true (ltb s.first (g.place v)) (ltb (g.place v) s.last) false (lt-ltb s.first (g.place v) a) ∙ lt-ltb (g.place v) s.last b

  pub on_upper-not : (v w : ℕ) → v < g.count → w ≡ g.count → (g.place v ≤ s.first) ⊎ (s.last ≤ g.place v) → s.first < s.last → on_upper_after g s on v w ≡ false
  on_upper-not v w l m (inl a) o = new_upper v w l m ∙ cond-false (ltb s.first (g.place v)) (ltb (g.place v) s.last) false (le-ltb s.first (g.place v) a)
  on_upper-not v w l m (inr a) o = new_upper v w l m ∙ cond-true (ltb s.first (g.place v)) (ltb (g.place v) s.last) false (lt-ltb s.first (g.place v) (omega arith)) ∙ le-ltb (g.place v) s.last a

  pub on_upper-new : (v w : ℕ) → v ≡ g.count → w < g.count → on_upper_after g s on v w ≡ false
  on_upper-new v w l m = newer_upper v w l ∙ cond-true (ltb w g.count) false true (lt-ltb w g.count m)

  pub on_upper-self : (v w : ℕ) → v ≡ g.count → w ≡ g.count → on_upper_after g s on v w ≡ true
  on_upper-self v w l m = newer_upper v w l ∙ cond-false (ltb w g.count) false true (le-ltb w g.count (omega arith))

  -- two that have one place
  pub on_upper-together : (u v w : ℕ) → u < g.count → v < g.count → w ≡ g.count → g.place u ≡ g.place v → on_upper_after g s on u w ≡ on_upper_after g s on v w
  on_upper-together u v w l m n e = new_upper u w l n ∙ ap (λ i. cond (ltb s.first i) (ltb i s.last) false) e ∙ sym (new_upper v w m n)
