-- The areas of boxes that cover each cell just once.
use Rattle.std.proofs.Common.{◌≡◌, ℕ, zero, suc, ◌+◌, ◌*◌, ◌-◌, ◌<◌, ◌≤◌, refl, sym, ap, ◌∙◌, inl, inr, arith}
use Rattle.std.proofs.Math.Nat.{mul-suc}
use Rattle.std.proofs.lemmas.Bool.{cases_lt}
use Rattle.rect_runs.specs.Boxes.{Boxes}
use Rattle.rect_runs.specs.RectBoxesLaws.{area_of, AreApart}
use Rattle.rect_runs.proofs.Cells.{IsInside}
use Rattle.rect_runs.proofs.Contacts.{common}
use Rattle.rect_runs.proofs.Totals.{total, total-same, total-const, total-swap, total-one, total-stretch, stretch, stretch-in, stretch-below, stretch-above, stretch-total}

-- 1 for a cell inside of a box, else 0
abbrev covers : Boxes → ℕ → ℕ → ℕ → ℕ
covers b v a c = stretch (b.left v) (b.right v) (stretch (b.low v) (b.high v) 1 c) a

covers-inside : (b : Boxes) (v a c : ℕ) → IsInside b v a c → covers b v a c ≡ 1
covers-inside b v a c i = stretch-in (b.left v) (b.right v) _ a i.left i.right ∙ stretch-in (b.low v) (b.high v) 1 c i.low i.high

covers-outside : (b : Boxes) (v a c : ℕ) → (IsInside b v a c → ⊥) → covers b v a c ≡ 0
covers-outside b v a c out = grind (arith, cases_lt, stretch-below, stretch-above, stretch-in)

-- boxes whose cells are cells of the grid
covers-area : (b : Boxes) (v width top : ℕ) → b.left v ≤ b.right v → b.low v ≤ b.high v → b.right v ≤ width → b.high v ≤ top → total (λ a. total (λ c. covers b v a c) top) width ≡ (b.right v - b.left v) * (b.high v - b.low v)
covers-area b v width top w t r h =
    let size : total (stretch (b.low v) (b.high v) 1) top ≡ b.high v - b.low v = total-stretch (b.low v) (b.high v) 1 top t h ∙ omega (arith, mul-suc (b.high v - b.low v) 0) in
    total-same _ (stretch (b.left v) (b.right v) (b.high v - b.low v)) width (λ a l. stretch-total (b.left v) (b.right v) (stretch (b.low v) (b.high v) 1) a top ∙ ap (λ k. stretch (b.left v) (b.right v) k a) size)
    ∙ total-stretch (b.left v) (b.right v) (b.high v - b.low v) width w r

pub area_of-total : (b : Boxes) (m : ℕ) → area_of b m ≡ total (λ v. (b.right v - b.left v) * (b.high v - b.low v)) m
area_of-total b zero = refl
area_of-total b (suc m) = ap (λ x. x + (b.right m - b.left m) * (b.high m - b.low m)) (area_of-total b m)

-- each cell of the grid is inside of just one of m boxes
pub record AreCovering (b : Boxes) (m width top : ℕ) : Type 0 where
  pub wide : (v : ℕ) → v < m → b.left v < b.right v
  pub tall : (v : ℕ) → v < m → b.low v < b.high v
  pub within : (v : ℕ) → v < m → (b.right v ≤ width) × (b.high v ≤ top)
  pub found : (a c : ℕ) → a < width → c < top → (v : ℕ) × (v < m) × IsInside b v a c
  pub alone : (u v a c : ℕ) → u < m → v < m → IsInside b u a c → IsInside b v a c → u ≡ v

pub area_of-covering : (b : Boxes) (m width top : ℕ) → AreCovering b m width top → area_of b m ≡ width * top
area_of-covering b m width top h =
    area_of-total b m
    ∙ total-same _ (λ v. total (λ a. total (λ c. covers b v a c) top) width) m (λ v l. let w = h.wide v l in let t = h.tall v l in sym (covers-area b v width top (omega arith) (omega arith) (h.within v l).0 (h.within v l).1))
    ∙ total-swap (λ v a. total (λ c. covers b v a c) top) m width
    ∙ total-same _ (λ a. top) width
    (λ a l.
    total-swap (λ v c. covers b v a c) m top
    ∙ total-same _ (λ c. 1) top
    (λ c o.
    let f = h.found a c l o in
    total-one (λ v. covers b v a c) m f.0 f.1 (covers-inside b f.0 a c f.2) (λ u p ne. covers-outside b u a c (λ i. ne (h.alone u f.0 a c p f.1 i f.2))))
    ∙ total-const 1 top ∙ omega (arith, mul-suc top 0))
    ∙ total-const top width

-- boxes with no cell in common are apart
pub apart_of : (b : Boxes) (u v : ℕ) → b.left u < b.right u → b.low u < b.high u → b.left v < b.right v → b.low v < b.high v → ((a c : ℕ) → IsInside b u a c → IsInside b v a c → ⊥) → AreApart b u v
apart_of b u v wu tu wv tv none = grind (arith, cases_lt, common)
