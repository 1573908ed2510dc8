-- The contour of two stacks, read by places.
use Rattle.std.proofs.Common.{◌≡◌, ℕ, suc, ◌+◌, ◌<◌, List, length, get_or, sym, ap, ◌∙◌, arith}
use Rattle.std.specs.Prelude.{reverse}
use Rattle.std.proofs.lemmas.List.{length-append, length-reverse, get_or_append_left, get_or_default}
use Rattle.convex_orders.specs.Contours.{contour_of}

-- the contour by places
pub length-contour : (left right : List ℕ) → length (contour_of left right) ≡ length left + length right
length-contour left right = omega (arith, length-append left (reverse right), length-reverse right)

pub contour_left : (left right : List ℕ) (i : ℕ) → i < length left → get_or (contour_of left right) i 0 ≡ get_or left i 0
contour_left left right i l = get_or_append_left left (reverse right) 0 i l

-- the last vertex before the place, whatever a list that is too short is taken to have there
pub last_left : (left right ws : List ℕ) (j k x d : ℕ) → suc j ≡ length left → k ≡ j → contour_of left right ≡ ws → x ≡ get_or left k d → get_or ws j 0 ≡ x
last_left left right ws j k x d long at same is = ap (λ z. get_or z j 0) (sym same) ∙ (contour_left left right j (omega (arith, long)) ∙ sym (is ∙ (get_or_default left k d 0 (omega (arith, long, at)) ∙ ap (λ i. get_or left i 0) at)))
