-- Segments with their ends exchanged, and crossings with the two segments exchanged.
use Rattle.std.proofs.Common.{ℤ, neg_ℤ, ap, ◌∙◌, inl, inr, ⊎_elim, arith}
use Rattle.std.proofs.lemmas.Int.{ints}
use Rattle.pg_plane.specs.declared.grid_points.Point.{Point}
use Rattle.pg_plane.specs.Geometry.{area, IsBetween, IsOnSegment, AreOpposite, DoCross}
use Rattle.pg_plane.proofs.Crossing.{area_back}

-- what is between two numbers is between them the other way about
pub IsBetween-back : (s t v : ℤ) → IsBetween s t v → IsBetween t s v
IsBetween-back s t v h = ⊎_elim (λ l. inr l) (λ r. inl r) h

-- a point of a segment is one of the segment the other way about
pub IsOnSegment-back : (p a b : Point) → IsOnSegment p a b → IsOnSegment p b a
IsOnSegment-back p a b h = record {
  on_line = area_back a b p ∙ ap neg_ℤ h.on_line;
  between_x = IsBetween-back a.x b.x p.x h.between_x;
  between_y = IsBetween-back a.y b.y p.y h.between_y;
}

AreOpposite-back : (s t : ℤ) → AreOpposite s t → AreOpposite t s
AreOpposite-back s t h = ⊎_elim (λ l. inr (l.1, l.0)) (λ r. inl (r.1, r.0)) h

AreOpposite-negated : (s t : ℤ) → AreOpposite s t → AreOpposite (neg_ℤ s) (neg_ℤ t)
AreOpposite-negated s t h =
    ⊎_elim (λ l. let low = l.0 in let high = l.1 in inr (omega (arith, ints), omega (arith, ints))) (λ r. let low = r.0 in let high = r.1 in inl (omega (arith, ints), omega (arith, ints))) h

-- of two segments that cross, each may be taken the other way about, and either may come first
pub DoCross-first_back : (a b c d : Point) → DoCross a b c d → DoCross b a c d
DoCross-first_back a b c d h = record {
  ends_of_second = rw (area_back a b c, area_back a b d) (AreOpposite-negated (area a b c) (area a b d) h.ends_of_second);
  ends_of_first = AreOpposite-back (area c d a) (area c d b) h.ends_of_first;
}

pub DoCross-exchanged : (a b c d : Point) → DoCross a b c d → DoCross c d a b
DoCross-exchanged a b c d h = record { ends_of_second = h.ends_of_first; ends_of_first = h.ends_of_second }

pub DoCross-second_back : (a b c d : Point) → DoCross a b c d → DoCross a b d c
DoCross-second_back a b c d h = DoCross-exchanged d c a b (DoCross-first_back c d a b (DoCross-exchanged a b c d h))
