-- What one map writes to the arrays of bars or rectangles leaves those of the others.
use Rattle.std.proofs.Common.{ℕ, suc, ◌-◌, ◌+◌, ◌/◌, ◌<◌, ◌≤◌, ◌≡◌, ◌≢◌, inl, inr, ⊎_elim, List, ℤ, length, slice_range, ap, ◌∙◌, arith, lit<}
use Rattle.std.proofs.lemmas.Nat.{div-add-mod', le-div}
use Rattle.pg_plane.specs.declared.figures.BarFigure.{BarFigure}
use Rattle.pg_plane.specs.declared.figures.RectFigure.{RectFigure}
use Rattle.pigale_c.specs.BarArrays.{bars_in}
use Rattle.pigale_c.specs.RectArrays.{rects_in}
use Rattle.pigale_c.specs.ManyMaps.{AreGivenMaps, IsChangedWithin, begin_of, entry_of_map, part_of}
use Rattle.pigale_c.specs.ManyFigures.{bars_of_map, rects_of_map, column_of_map, column_end_of_map}
use Rattle.pigale_c.proofs.ManyLemmas.{entries_rise, kept_apart, less_or_more, part_kept}

-- halves of two parts do not overlap
half_sum : (a b c : ℕ) → a ≤ b → b ≤ c → a / 2 + (b - a) / 2 ≤ c / 2
half_sum a b c l m = le-div (a / 2 + (b - a) / 2) c 2 (lit< tt) (omega (arith, l, m, div-add-mod' a 2, div-add-mod' (b - a) 2))

-- the columns of a map stand within those of all
pub columns_within : (map_ends ends neighbours : List ℕ) (i : ℕ) → AreGivenMaps map_ends ends neighbours → i < length map_ends → column_end_of_map map_ends ends i ≤ length neighbours / 2
columns_within map_ends ends neighbours i given l =
    let r = entries_rise map_ends ends neighbours i (suc i) given (omega arith) (omega (arith, l)) in
    half_sum (entry_of_map map_ends ends i) (entry_of_map map_ends ends (suc i)) (length neighbours) r.0 r.1

columns_kept : (map_ends ends neighbours : List ℕ) (i k from to : ℕ) (xs ys : List ℤ) → AreGivenMaps map_ends ends neighbours → i ≢ k → i < length map_ends → k < length map_ends → from ≡ column_of_map map_ends ends k → to ≡ column_end_of_map map_ends ends k → IsChangedWithin from to xs ys
    → slice_range ys (column_of_map map_ends ends i) (column_end_of_map map_ends ends i) ≡ slice_range xs (column_of_map map_ends ends i) (column_end_of_map map_ends ends i)
columns_kept map_ends ends neighbours i k from to xs ys given other l m begins end h =
    let entry : ℕ → ℕ = λ j. entry_of_map map_ends ends j in
    let own = entries_rise map_ends ends neighbours i (suc i) given (omega arith) (omega (arith, l)) in
    let its = entries_rise map_ends ends neighbours k (suc k) given (omega arith) (omega (arith, m)) in
    kept_apart from to (column_of_map map_ends ends i) (column_end_of_map map_ends ends i) xs ys h
    (⊎_elim
    (λ less. inl (omega (arith, half_sum (entry i) (entry (suc i)) (entry k) own.0 (entries_rise map_ends ends neighbours (suc i) k given less (omega (arith, m))).0, begins)))
    (λ more. inr (omega (arith, half_sum (entry k) (entry (suc k)) (entry i) its.0 (entries_rise map_ends ends neighbours (suc k) i given more (omega (arith, l))).0, end)))
    (less_or_more i k other))

same_bars : (a a' b b' c c' d d' : List ℤ) → a ≡ a' → b ≡ b' → c ≡ c' → d ≡ d' → bars_in a b c d ≡ bars_in a' b' c' d'
same_bars a a' b b' c c' d d' e f g h =
    ap (λ (z : List ℤ). bars_in z b c d) e ∙ ap (λ (z : List ℤ). bars_in a' z c d) f ∙ ap (λ (z : List ℤ). bars_in a' b' z d) g ∙ ap (λ (z : List ℤ). bars_in a' b' c' z) h

same_rects : (a a' b b' c c' d d' : List ℤ) → a ≡ a' → b ≡ b' → c ≡ c' → d ≡ d' → rects_in a b c d ≡ rects_in a' b' c' d'
same_rects a a' b b' c c' d d' e f g h =
    ap (λ (z : List ℤ). rects_in z b c d) e ∙ ap (λ (z : List ℤ). rects_in a' z c d) f ∙ ap (λ (z : List ℤ). rects_in a' b' z d) g ∙ ap (λ (z : List ℤ). rects_in a' b' c' z) h

-- map k has written its part of four rows
pub record AreBarsChanged (map_ends ends : List ℕ) (k from to start end : ℕ) (old new : BarFigure) : Type 0 where
  pub from_is : from ≡ begin_of map_ends k
  pub to_is : to ≡ begin_of map_ends (suc k)
  pub start_is : start ≡ column_of_map map_ends ends k
  pub end_is : end ≡ column_end_of_map map_ends ends k
  pub y : IsChangedWithin from to old.y new.y
  pub x1 : IsChangedWithin from to old.x1 new.x1
  pub x2 : IsChangedWithin from to old.x2 new.x2
  pub column : IsChangedWithin start end old.column new.column

pub bars_kept : (map_ends ends neighbours : List ℕ) (i k from to start end : ℕ) (old new : BarFigure) → AreGivenMaps map_ends ends neighbours → i ≢ k → i < length map_ends → k < length map_ends → AreBarsChanged map_ends ends k from to start end old new → bars_of_map map_ends ends new i ≡ bars_of_map map_ends ends old i
bars_kept map_ends ends neighbours i k from to start end old new given other l m h =
    let kept : (xs ys : List ℤ) → IsChangedWithin from to xs ys → part_of map_ends ys i ≡ part_of map_ends xs i = λ xs ys c. part_kept map_ends (length ends) i k from to xs ys given.maps other l m h.from_is h.to_is c in
    same_bars _ _ _ _ _ _ _ _ (kept old.y new.y h.y) (kept old.x1 new.x1 h.x1) (kept old.x2 new.x2 h.x2)
    (columns_kept map_ends ends neighbours i k start end old.column new.column given other l m h.start_is h.end_is h.column)

pub record AreRectsChanged (map_ends : List ℕ) (k from to : ℕ) (old new : RectFigure) : Type 0 where
  pub from_is : from ≡ begin_of map_ends k
  pub to_is : to ≡ begin_of map_ends (suc k)
  pub x1 : IsChangedWithin from to old.x1 new.x1
  pub x2 : IsChangedWithin from to old.x2 new.x2
  pub y1 : IsChangedWithin from to old.y1 new.y1
  pub y2 : IsChangedWithin from to old.y2 new.y2

pub rects_kept : (map_ends ends neighbours : List ℕ) (i k from to : ℕ) (old new : RectFigure) → AreGivenMaps map_ends ends neighbours → i ≢ k → i < length map_ends → k < length map_ends → AreRectsChanged map_ends k from to old new → rects_of_map map_ends new i ≡ rects_of_map map_ends old i
rects_kept map_ends ends neighbours i k from to old new given other l m h =
    let kept : (xs ys : List ℤ) → IsChangedWithin from to xs ys → part_of map_ends ys i ≡ part_of map_ends xs i = λ xs ys c. part_kept map_ends (length ends) i k from to xs ys given.maps other l m h.from_is h.to_is c in
    same_rects _ _ _ _ _ _ _ _ (kept old.x1 new.x1 h.x1) (kept old.x2 new.x2 h.x2) (kept old.y1 new.y1 h.y1) (kept old.y2 new.y2 h.y2)
