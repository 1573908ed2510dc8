-- Areas, and the greatest of some numbers.
use Rattle.std.proofs.Common.{◌≡◌, ℕ, ◌+◌, ◌<◌, List, [], ◌∷◌, take, length, get_or, ℤ, pos, ◌+ℤ◌, ◌*ℤ◌, FitsSigned, w32, w64, to_z, of_z, to_z-of_z, refl, ap₂, ◌∙◌, add-one, arith}
use Rattle.std.proofs.lemmas.Int.{ints}
use Rattle.std.specs.Int.{int_max}
use Rattle.std.proofs.lemmas.List.{take_more}
use Rattle.std.proofs.lemmas.List.Sums.{fold-append}
use Rattle.pg_plane.specs.declared.figures.RectFigure.{RectFigure}
use Rattle.pg_plane.proofs.Products.{IsWithin-product}
use Rattle.drawings.specs.Duals.{area_at, area_of, greatest}

-- one rectangle more
pub area_of-more : (fig : RectFigure) (k : ℕ) → area_of fig (k + 1) ≡ area_of fig k +ℤ area_at fig k
area_of-more fig k = rw add-one refl

-- one number more
pub greatest-more : (zs : List ℤ) (i : ℕ) (d : ℤ) → i < length zs → greatest (take (i + 1) zs) ≡ int_max (greatest (take i zs)) (get_or zs i d)
greatest-more zs i d l = rw (take_more zs i d l) (fold-append int_max (pos 0) (take i zs) (get_or zs i d ∷ []))

-- the product of two numbers of 32 bits, in 64 bits
pub product-fits : (a b u v : ℤ) → FitsSigned w32 a → FitsSigned w32 b → u ≡ to_z w32 (of_z w32 a) → v ≡ to_z w32 (of_z w32 b) → FitsSigned w64 (to_z w64 (of_z w64 u) *ℤ to_z w64 (of_z w64 v)) × ((to_z w64 (of_z w64 u) *ℤ to_z w64 (of_z w64 v)) ≡ (a *ℤ b))
product-fits a b u v p q e f =
    let u-is : u ≡ a = e ∙ to_z-of_z p in let v-is : v ≡ b = f ∙ to_z-of_z q in
    let fu : FitsSigned w64 u = omega (arith, ints) in let fv : FitsSigned w64 v = omega (arith, ints) in
    let same : (to_z w64 (of_z w64 u) *ℤ to_z w64 (of_z w64 v)) ≡ (a *ℤ b) = ap₂ (λ (x y : ℤ). x *ℤ y) (to_z-of_z fu ∙ u-is) (to_z-of_z fv ∙ v-is) in
    let w = IsWithin-product 2147483648 2147483648 a b (record { least = omega (arith, ints); most = omega (arith, ints) }) (record { least = omega (arith, ints); most = omega (arith, ints) }) in
    let least = w.least in let most = w.most in (rw same (omega (arith, ints)), same)
