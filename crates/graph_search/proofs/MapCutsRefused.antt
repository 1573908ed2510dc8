-- A pair and a cut vertex that wrong bodies would miss, and a cut vertex that one would see.
use Rattle.std.proofs.Common.{◌≡◌, ◌≢◌, ◌<◌, ◌-◌, ℕ, zero, suc, List, [], ◌∷◌, length, Contains, Option, Some, None, MatchOption, refl, sym, subst, arith, rules}
use Rattle.std.specs.Prelude.{slice_index}
use Rattle.std.proofs.lemmas.List.Elements.{All-get_or}
use Rattle.map_lists.specs.Lists.{Lists}
use Rattle.map_theory.specs.Maps.{HasDart}
use Rattle.map_theory.specs.Paths.{JoinsAvoiding}
use Rattle.graph_search.specs.Cuts.{AreSeparated, IsCutVertex, IsSeparatingPair, IsLeastCutVertex}

-- the middle of a star of three edges and one leaf part the two other leaves
abbrev star : Lists
star = (1 ∷ 2 ∷ 3 ∷ []) ∷ (0 ∷ []) ∷ (0 ∷ []) ∷ (0 ∷ []) ∷ []

-- any vertices with the middle, but without two of the leaves, part these two
separated : (avoided : List ℕ) → Contains avoided 0 → ¬ Contains avoided 1 → ¬ Contains avoided 2 → AreSeparated star avoided 1 2
separated avoided middle one_off two_off = record {
  s_off = one_off;
  t_off = two_off;
  path = 1 ∷ 0 ∷ 2 ∷ [];
  joined = record {
    is_path = record { some = omega arith; vertices = search rules; steps = steps };
    start = refl;
    end = refl;
    avoids = λ x here c. omega (arith, c.1);
  };
  apart = apart;
}
  where
    steps : (i : ℕ) → suc i < 3 → HasDart star (slice_index (1 ∷ 0 ∷ 2 ∷ []) i) (slice_index (1 ∷ 0 ∷ 2 ∷ []) (suc i))
    steps zero l = (omega arith, (0, omega arith, refl))
    steps (suc zero) l = (omega arith, (1, omega arith, refl))
    steps (suc (suc i)) l = absurd (omega (arith, l))

    leaf : (w : ℕ) → HasDart star 1 w → w ≡ 0
    leaf w (lv, (zero, li, e)) = sym e
    leaf w (lv, (suc i, li, e)) = absurd (omega (arith, li))

    apart : (other : List ℕ) → JoinsAvoiding star avoided 1 2 other → ⊥
    apart [] j = omega (arith, j.is_path.some)
    apart (v ∷ []) j = omega (arith, j.start, j.end)
    apart (v ∷ w ∷ rest) j =
        let h : w ≡ 0 = leaf w (subst (λ x. HasDart star x w) j.start (j.is_path.steps 0 (omega arith))) in
        j.avoids w (1, omega arith, refl) (subst (λ x. Contains avoided x) (sym h) middle)

-- the flag of the leaf, which is no cut vertex of the rest, taken for that of the middle
flag_of_the_other_vertex : ¬ IsSeparatingPair star 0 3 → ⊥
flag_of_the_other_vertex refuse =
    refuse (omega arith, omega arith, 1, 2, separated (0 ∷ 3 ∷ []) (0, omega arith, refl) (off 1 (omega arith) (omega arith)) (off 2 (omega arith) (omega arith)))
  where
    off : (x : ℕ) → 0 < x → x < 3 → Contains (0 ∷ 3 ∷ []) x → ⊥
    off x l m (zero, li, e) = omega (arith, e)
    off x l m (suc zero, li, e) = omega (arith, e)
    off x l m (suc (suc i), li, e) = omega (arith, li)

-- the middle, which is vertex 0, is passed over, and none or a later vertex is found
vertex_0_passed_over : (found : Option ℕ) → found ≢ Some 0 → MatchOption found ((v : ℕ) → ¬ IsCutVertex star v) (λ v. IsLeastCutVertex star v) → ⊥
vertex_0_passed_over found other w = none found other w
  where
    off : (x : ℕ) → 0 < x → Contains (0 ∷ []) x → ⊥
    off x l (zero, li, e) = omega (arith, l, e)
    off x l (suc i, li, e) = omega (arith, li)

    cut : IsCutVertex star 0
    cut = (1, 2, separated (0 ∷ []) (0, omega arith, refl) (off 1 (omega arith)) (off 2 (omega arith)))

    none : (found : Option ℕ) → found ≢ Some 0 → MatchOption found ((v : ℕ) → ¬ IsCutVertex star v) (λ v. IsLeastCutVertex star v) → ⊥
    none None other w = w 0 cut
    none (Some zero) other w = other refl
    none (Some (suc v)) other w = omega (arith, w.least 0 cut)

abbrev edge : Lists
edge = (1 ∷ []) ∷ (0 ∷ []) ∷ []

-- the top of a search with one child, an end of the only edge, is cut
top_with_one_child_is_cut : IsCutVertex edge 0 → ⊥
top_with_one_child_is_cut (s, t, p) =
    p.apart (1 ∷ []) (record {
      is_path = record { some = omega arith; vertices = search rules; steps = λ i l. absurd (omega (arith, l)) };
      start = sym (not_zero s p.s_off (omega (arith, p.joined.start)));
      end = sym (not_zero t p.t_off (omega (arith, p.joined.end)));
      avoids = apart;
    })
  where
    not_zero : (x : ℕ) → ¬ Contains (0 ∷ []) x → x < 2 → x ≡ 1
    not_zero zero off l = absurd (off (0, omega arith, refl))
    not_zero (suc x) off l = omega (arith, l)

    apart : (x : ℕ) → Contains (1 ∷ []) x → ¬ Contains (0 ∷ []) x
    apart x (zero, li, e) (zero, lj, f) = omega (arith, e, f)
    apart x (suc i, li, e) c = omega (arith, li)
    apart x (zero, li, e) (suc j, lj, f) = omega (arith, lj)
