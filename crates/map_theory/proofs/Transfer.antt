-- One count of classes in place of another: where places of one list of labels stand for numbers of another, as darts for their vertices, or what is left of a map for the map.
use Rattle.std.proofs.Common.{◌≡◌, ℕ, ◌+◌, ◌<◌, ◌≤◌, Bool, true, not, ◌&&◌, eqb, List, length, sym, ◌∙◌, arith}
use Rattle.std.proofs.lemmas.Bool.{eqb-true, eq-eqb, and_parts, and_from}
use Rattle.classes.specs.Classes.{count_below, label, class_count}
use Rattle.classes.proofs.Counting.{count_below_into, count_below_split}
use Rattle.classes.proofs.Classes.{Together, IsLabels, Together-label, label-lt}

-- The numbers i below the length of `part` stand for the numbers f i of `whole`, in one class there exactly where here. `hit` tests which numbers of `whole` are in a class with such an f i, and f (g y) is in the class of a y that is hit.
pub record IsTransfer (part whole : List ℕ) (f g : ℕ → ℕ) (hit : ℕ → Bool) : Type 0 where
  pub within : (i : ℕ) → i < length part → f i < length whole
  pub there : (i j : ℕ) → i < length part → j < length part → Together part i j → Together whole (f i) (f j)
  pub back : (i j : ℕ) → i < length part → j < length part → Together whole (f i) (f j) → Together part i j
  pub hits : (i y : ℕ) → i < length part → y < length whole → Together whole (f i) y → hit y ≡ true
  pub from : (y : ℕ) → y < length whole → hit y ≡ true → g y < length part
  pub stands : (y : ℕ) → y < length whole → hit y ≡ true → Together whole (f (g y)) y

module _ (part whole : List ℕ) (f g : ℕ → ℕ) (hit : ℕ → Bool) (w : IsLabels part) (v : IsLabels whole) (t : IsTransfer part whole f g hit) where
  -- the least number of a class that is hit
  own_hit : ℕ → Bool
  own_hit y = hit y && eqb (label whole y) y

  fewer_there : class_count part ≤ count_below own_hit (length whole)
  unfolding own_hit
  fewer_there =
      let to : ℕ → ℕ = λ i. label whole (f i) in
      count_below_into to (λ i. eqb (label part i) i) own_hit (length part) (length whole)
      (λ i l e.
      let in_f = label-lt whole v (f i) (t.within i l) in
      (in_f, and_from (hit (to i)) (eqb (label whole (to i)) (to i)) (t.hits i (to i) l in_f (Together-label whole v (f i))) (eq-eqb (label whole (to i)) (to i) (v.own (f i)))))
      (λ i j l m e e' s. sym (eqb-true (label part i) i e) ∙ (t.back i j l m s ∙ eqb-true (label part j) j e'))

  fewer_here : count_below own_hit (length whole) ≤ class_count part
  unfolding own_hit
  fewer_here =
      let to : ℕ → ℕ = λ y. label part (g y) in
      count_below_into to own_hit (λ i. eqb (label part i) i) (length whole) (length part)
      (λ y l e.
      (label-lt part w (g y) (t.from y l (and_parts (hit y) (eqb (label whole y) y) e).0), eq-eqb (label part (to y)) (to y) (w.own (g y))))
      (λ y z l m e e' s.
      let one = and_parts (hit y) (eqb (label whole y) y) e in
      let other = and_parts (hit z) (eqb (label whole z) z) e' in
      let same = t.there (g y) (g z) (t.from y l one.0) (t.from z m other.0) s in
      sym (eqb-true (label whole y) y one.1) ∙ (sym (t.stands y l one.0) ∙ (same ∙ (t.stands z m other.0 ∙ eqb-true (label whole z) z other.1))))

  -- the classes of the part are the classes of the whole that are hit
  pub class_count-hit : class_count part ≡ count_below (λ y. hit y && eqb (label whole y) y) (length whole)
  unfolding own_hit
  class_count-hit = omega (arith, fewer_there, fewer_here)

  -- the classes of the whole are those of the part and those that are not hit
  pub class_count-transfer : class_count whole ≡ class_count part + count_below (λ y. not (hit y) && eqb (label whole y) y) (length whole)
  class_count-transfer =
      omega (arith, count_below_split (λ y. eqb (label whole y) y) hit (length whole), class_count-hit)
