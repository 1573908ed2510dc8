-- The definitions, run on worked cases.
use Rattle.std.proofs.Common.{◌≡◌, ◌≢◌, ◌⊎◌, ℕ, zero, suc, ◌+◌, ◌<◌, ◌&&◌, Bool, true, false, eqb, not, List, [], ◌∷◌, get_or, AllPairs, Contains, refl, inl, inr, arith}
use Rattle.std.proofs.lemmas.Bool.{true≢false}
use Rattle.map_lists.specs.Lists.{Lists}
use Rattle.map_theory.specs.Maps.{HasDart, follows, entry_after}
use Rattle.plane_peeling.specs.Restricted.{restricted, kept_but, IsFaceOfThree}
use Rattle.plane_peeling.specs.NearTriangulations.{IsOuterCycle, IsRemovable}
use Rattle.plane_peeling.proofs.RemovableVertices.{IsRemovableStretch}
use Rattle.plane_peeling.specs.Peeled.{IsFan}
use Rattle.plane_peeling.specs.TwoGone.{IsOpenOutside}
use Rattle.plane_peeling.proofs.TwoGone.{IsRemovableOfTwo}
use Rattle.plane_peeling.proofs.Rings.{AllPairs-put, each_of_one, each_of_two, each_of_three, each_of_four}

-- ---- the tetrahedron
abbrev tetrahedron : Lists
tetrahedron = (1 ∷ 3 ∷ 2 ∷ []) ∷ (0 ∷ 2 ∷ 3 ∷ []) ∷ (0 ∷ 3 ∷ 1 ∷ []) ∷ (0 ∷ 1 ∷ 2 ∷ []) ∷ []

-- without its last vertex it is a triangle, and the last list is empty
tetrahedron_without : restricted (λ v. not (eqb v 3)) tetrahedron ≡ (1 ∷ 2 ∷ []) ∷ (0 ∷ 2 ∷ []) ∷ (0 ∷ 1 ∷ []) ∷ [] ∷ []
tetrahedron_without = refl

-- the face of the dart from 0 to 1 goes on from 1 to 2, and back to 0
face_of_three : IsFaceOfThree tetrahedron 0 1 2
unfolding entry_after
face_of_three = record { dart = (omega arith, (0, omega arith, refl)); second = refl; third = refl; round = refl }

abbrev triangle : List ℕ
triangle = 1 ∷ 2 ∷ 0 ∷ []

-- so that is the outer cycle of the tetrahedron with this base
tetrahedron_cycle : IsOuterCycle tetrahedron 1 0 triangle
unfolding entry_after
tetrahedron_cycle =
    record {
      long = omega arith;
      first = refl;
      last = refl;
      distinct = λ i j d l m. apart i j d l m;
      darts = each_of_three (λ x. HasDart tetrahedron x (entry_after x triangle)) 1 2 0 (omega arith, (1, omega arith, refl)) (omega arith, (0, omega arith, refl)) (omega arith, (0, omega arith, refl));
      turns = each_of_three (λ x. follows tetrahedron (entry_after x triangle) x ≡ entry_after (entry_after x triangle) triangle) 1 2 0 refl refl refl;
    }
  where
    apart : AllPairs ◌≢◌ triangle
    apart =
        AllPairs-put 1 (2 ∷ 0 ∷ []) (λ c. each_of_two (λ z. z ≡ 1 → ⊥) 2 0 (λ e. omega arith) (λ e. omega arith) 1 c refl)
        (AllPairs-put 2 (0 ∷ []) (λ c. each_of_one (λ z. z ≡ 2 → ⊥) 0 (λ e. omega arith) 2 c refl) (λ i j d l m. absurd (omega (arith, l, m))))

-- the other way round it is none
not_backwards : ¬ IsOuterCycle tetrahedron 0 1 (0 ∷ 2 ∷ 1 ∷ [])
unfolding entry_after
not_backwards c = let turn : 3 ≡ 2 = c.turns 1 (2, omega arith, refl) in omega (arith, turn)

-- nor is the same cycle from another of its vertices, with this base
not_from_another : ¬ IsOuterCycle tetrahedron 1 0 (2 ∷ 0 ∷ 1 ∷ [])
not_from_another c = let first : 2 ≡ 1 = c.first in omega (arith, first)

-- ---- a square with a diagonal, of which one dart of the outer square is the base
abbrev square : Lists
square = (1 ∷ 2 ∷ 3 ∷ []) ∷ (2 ∷ 0 ∷ []) ∷ (3 ∷ 0 ∷ 1 ∷ []) ∷ (0 ∷ 2 ∷ []) ∷ []

abbrev around : List ℕ
around = 1 ∷ 2 ∷ 3 ∷ 0 ∷ []

-- the vertex that is not on the diagonal and not of the base is removable
square_removable : IsRemovable square 1 0 around 3
unfolding entry_after
square_removable =
    record {
      on = (2, omega arith, refl);
      not_first = λ e. omega (arith, e);
      not_last = λ e. omega (arith, e);
      chordless = λ u d c. each_of_two (λ u. (entry_after u around ≡ 3) ⊎ (entry_after 3 around ≡ u)) 0 2 (inr refl) (inl refl) u d.1;
    }

-- an end of the diagonal is not
square_chord : ¬ IsRemovable square 1 0 around 2
unfolding entry_after
square_chord removable =
    elim (removable.chordless 0 (omega arith, (1, omega arith, refl)) (3, omega arith, refl)) [
      | inl e ↦ let one : 1 ≡ 2 = e in omega (arith, one)
      | inr e ↦ let three : 3 ≡ 0 = e in omega (arith, three)
    ]

-- nor is a vertex of the base, which has no chord
square_base : ¬ IsRemovable square 1 0 around 1
square_base removable = removable.not_first refl

-- the diagonal cuts it off
square_stretch : IsRemovableStretch square 1 0 around (1 ∷ []) 2 (3 ∷ []) 0 []
square_stretch = record { parts = refl; some = omega arith; chord = (omega arith, (1, omega arith, refl)); removable = λ v c. each_of_one (IsRemovable square 1 0 around) 3 square_removable v c }

-- ---- the octahedron, with the base from 0 to 1
abbrev octahedron : Lists
octahedron = (1 ∷ 2 ∷ 3 ∷ 4 ∷ []) ∷ (0 ∷ 4 ∷ 5 ∷ 2 ∷ []) ∷ (0 ∷ 1 ∷ 5 ∷ 3 ∷ []) ∷ (0 ∷ 2 ∷ 5 ∷ 4 ∷ []) ∷ (0 ∷ 3 ∷ 5 ∷ 1 ∷ []) ∷ (1 ∷ 4 ∷ 3 ∷ 2 ∷ []) ∷ []

-- the third vertex of the base's face taken off
octahedron_without : restricted (kept_but (λ v. true) 4) octahedron ≡ (1 ∷ 2 ∷ 3 ∷ []) ∷ (0 ∷ 5 ∷ 2 ∷ []) ∷ (0 ∷ 1 ∷ 5 ∷ 3 ∷ []) ∷ (0 ∷ 2 ∷ 5 ∷ []) ∷ [] ∷ (1 ∷ 3 ∷ 2 ∷ []) ∷ []
octahedron_without = refl

-- its neighbours stand from 1, by 5 and 3, to 0
octahedron_fan : IsFan octahedron (λ v. true) 4 1 (5 ∷ 3 ∷ []) 0
unfolding entry_after
octahedron_fan =
    record {
      neighbours = λ u. (
        (λ d. each_of_four (Contains (1 ∷ 5 ∷ 3 ∷ 0 ∷ [])) 0 3 5 1 (3, omega arith, refl) (2, omega arith, refl) (1, omega arith, refl) (0, omega arith, refl) u d.1),
        each_of_four (HasDart (restricted (λ v. true) octahedron) 4) 1 5 3 0 (omega arith, (3, omega arith, refl)) (omega arith, (2, omega arith, refl)) (omega arith, (1, omega arith, refl)) (omega arith, (0, omega arith, refl)) u,
      );
      faces = faces;
    }
  where
    faces : (i : ℕ) → i < 3 → IsFaceOfThree octahedron 4 (get_or (1 ∷ 5 ∷ 3 ∷ 0 ∷ []) i 0) (get_or (1 ∷ 5 ∷ 3 ∷ 0 ∷ []) (i + 1) 0)
    faces zero l = record { dart = (omega arith, (3, omega arith, refl)); second = refl; third = refl; round = refl }
    faces (suc zero) l = record { dart = (omega arith, (2, omega arith, refl)); second = refl; third = refl; round = refl }
    faces (suc (suc zero)) l = record { dart = (omega arith, (1, omega arith, refl)); second = refl; third = refl; round = refl }
    faces (suc (suc (suc i))) l = absurd (omega arith)

-- and that order alone is a fan: the other way they make no faces
not_turned : ¬ IsFan octahedron (λ v. true) 4 0 (3 ∷ 5 ∷ []) 1
unfolding entry_after
not_turned fan = let second : 1 ≡ 3 = (fan.faces 0 (omega arith)).second in omega (arith, second)

-- its third and its last vertex taken off: around what is left, a square with a diagonal, they are adjacent
abbrev four_kept : ℕ → Bool
four_kept v = not (eqb v 4) && not (eqb v 5)

octahedron_open : IsOpenOutside octahedron four_kept 0 around
unfolding entry_after
octahedron_open =
    record {
      beyond = each_of_four (λ x. four_kept (follows octahedron (entry_after x around) x) ≡ false) 1 2 3 0 refl refl refl refl;
      triangles = each_of_four (λ x. x ≢ 0 → IsFaceOfThree octahedron x (entry_after x around) (follows octahedron (entry_after x around) x)) 1 2 3 0
          (λ n. record { dart = (omega arith, (3, omega arith, refl)); second = refl; third = refl; round = refl })
          (λ n. record { dart = (omega arith, (3, omega arith, refl)); second = refl; third = refl; round = refl })
          (λ n. record { dart = (omega arith, (0, omega arith, refl)); second = refl; third = refl; round = refl })
          (λ n. absurd (n refl));
      company = company;
    }
  where
    company : (z : ℕ) → z < 6 → four_kept z ≡ false → (y : ℕ) × HasDart octahedron z y × (four_kept y ≡ false)
    company zero l e = absurd (true≢false e)
    company (suc zero) l e = absurd (true≢false e)
    company (suc (suc zero)) l e = absurd (true≢false e)
    company (suc (suc (suc zero))) l e = absurd (true≢false e)
    company (suc (suc (suc (suc zero)))) l e = (5, (omega arith, (2, omega arith, refl)), refl)
    company (suc (suc (suc (suc (suc zero))))) l e = (4, (omega arith, (1, omega arith, refl)), refl)
    company (suc (suc (suc (suc (suc (suc z)))))) l e = absurd (omega (arith, l))

-- so the vertex off the diagonal has both as neighbours
octahedron_two : IsRemovableOfTwo octahedron four_kept 1 0 around 2 3
unfolding entry_after
octahedron_two =
    record {
      removable = record {
        on = (2, omega arith, refl);
        not_first = λ e. omega (arith, e);
        not_last = λ e. omega (arith, e);
        chordless = λ u d c. each_of_two (λ u. (entry_after u around ≡ 3) ⊎ (entry_after 3 around ≡ u)) 0 2 (inr refl) (inl refl) u d.1;
      };
      on = (1, omega arith, refl);
      next = refl;
      two = λ e. let same : 5 ≡ 4 = e in omega (arith, same);
    }
