-- The definition of cut vertices, worked on the path 0, 1, 2: its middle parts its ends, and 0 parts nothing.
use Rattle.std.proofs.Common.{◌≡◌, ℕ, zero, suc, [], ◌∷◌, Contains, refl, sym, subst, inl, inr, arith}
use Rattle.map_lists.specs.Lists.{Lists}
use Rattle.map_theory.specs.Maps.{HasDart}
use Rattle.map_theory.proofs.EntryLemmas.{Contains-cons_cases}
use Rattle.graph_search.specs.Forests.{IsAdjacency}
use Rattle.graph_search.specs.Cuts.{IsCutVertex}
use Rattle.graph_search.proofs.WalkLemmas.{Off, linked_chained, linked_dart, linked_path, path_linked_by, walks_keep}
use Rattle.graph_search.proofs.CutLemmas.{off_one, ne_off, off_none}

abbrev path : Lists
path = (1 ∷ []) ∷ (0 ∷ 2 ∷ []) ∷ (1 ∷ []) ∷ []

none_of : (u : ℕ) → Contains [] u → ⊥
none_of u h = let some = h.1 in omega arith

one_of : (x u : ℕ) → Contains (x ∷ []) u → u ≡ x
one_of x u h = elim (Contains-cons_cases x [] u h) [ inl e ↦ sym e | inr rest ↦ absurd (none_of u rest) ]

zero_one : HasDart path 0 1
zero_one = (omega arith, (0, omega arith, refl))

one_zero : HasDart path 1 0
one_zero = (omega arith, (0, omega arith, refl))

one_two : HasDart path 1 2
one_two = (omega arith, (1, omega arith, refl))

two_one : HasDart path 2 1
two_one = (omega arith, (0, omega arith, refl))

back : (v u : ℕ) → HasDart path v u → HasDart path u v
back x0 u has = grind (arith, HasDart, path, one_of, one_zero, Contains-cons_cases, zero_one, two_one, one_two)

adjacency : IsAdjacency path
adjacency = record { in_range = λ v u has. (back v u has).0; both_ways = back }

middle_case : IsCutVertex path 1
middle_case =
    let through = linked_chained path (Off []) 0 1 2 (linked_dart path adjacency (Off []) 0 1 zero_one (off_none 0) (off_none 1)) (linked_dart path adjacency (Off []) 1 2 one_two (off_none 1) (off_none 2)) in
    let joined = path_linked_by path adjacency [] 0 2 through in
    let stays : (x y : ℕ) → HasDart path x y → Off (1 ∷ []) y → x ≡ 0 → y ≡ 0 = λ x y has off e. absurd (ne_off 1 y off (one_of 1 y (subst (λ z. HasDart path z y) e has).1)) in (
      0,
      2,
      record {
        s_off = off_one 1 0 (λ e. (let q = e in omega arith));
        t_off = off_one 1 2 (λ e. (let q = e in omega arith));
        path = joined.0;
        joined = joined.1;
        apart = λ other j.
            let w = linked_path path adjacency (1 ∷ []) 0 2 other j in
            omega (arith, walks_keep path adjacency (Off (1 ∷ [])) (λ x. x ≡ 0) stays w.0 0 2 w.1 refl);
      },
    )
