-- Least cut vertices and least separating pairs, from flags.
use Rattle.std.proofs.Common.{◌≡◌, ◌≢◌, ℕ, ◌+◌, ◌<◌, ◌≤◌, Bool, true, false, MatchBool, List, [], ◌∷◌, length, get_or, refl, sym, subst, inl, inr, arith}
use Rattle.std.proofs.lemmas.Bool.{cases_eq, cases_lt}
use Rattle.std.proofs.lemmas.List.{get_or_read}
use Rattle.map_lists.specs.Lists.{Lists}
use Rattle.graph_search.specs.Forests.{IsAdjacency}
use Rattle.graph_search.specs.Cuts.{IsSeparatingPair, IsLeastPair}
use Rattle.graph_search.specs.Flags.{AreCutFlags}
use Rattle.graph_search.specs.Without.{IsWithoutVertex}
use Rattle.graph_search.proofs.PairLemmas.{AreBoth-pair, AreBoth-turned, AreSeparated-of_rest, not_AreSeparated, both_cut}

module _ (lists : Lists) (adjacency : IsAdjacency lists) where
  module _ (flags : List Bool) (h : AreCutFlags lists flags) where
    module _ (rest : Lists) (cuts : List Bool) (k : AreCutFlags rest cuts) where
      -- the partners of u, which is no cut vertex, are the cut vertices of the rest
      module _ (u : ℕ) (w : IsWithoutVertex lists rest u) (u_in : u < length lists) (other : get_or flags u false ≡ false) where
        not_partner : (v : ℕ) → v < length cuts → get_or cuts v false ≡ false → ¬ IsSeparatingPair lists u v
        not_partner v l clear pair =
            let n = k.count in
            not_AreSeparated lists rest u w adjacency v (u ∷ v ∷ []) (AreBoth-pair u v) (h.no u u_in other) (k.no v (omega arith) clear) pair.2 pair.3 pair.4

        pub no_partner : ((i : ℕ) → u + 1 ≤ i → i < length cuts → get_or cuts i false ≡ false) → (v : ℕ) → ¬ IsSeparatingPair lists u v
        no_partner none v pair =
            let n = k.count in
            let m = w.count in
            let l = pair.1 in
            let after = pair.0 in
            let v_in : v < length cuts = omega arith in
            not_partner v v_in (none v (omega arith) v_in) pair

        pub least_partner : (v : ℕ) → v < length cuts → u + 1 ≤ v → get_or cuts v false ≡ true → ((i : ℕ) → u + 1 ≤ i → i < v → get_or cuts i false ≡ false) → IsSeparatingPair lists u v × ((x : ℕ) → IsSeparatingPair lists u x → v ≤ x)
        least_partner v l after set before =
            let n = k.count in
            let m = w.count in
            let cut = k.yes v (omega arith) set in
            let ne : u ≢ v = λ e. (let q = e in omega arith) in (
              (omega arith, omega arith, cut.0, cut.1, AreSeparated-of_rest lists rest u w adjacency v (u ∷ v ∷ []) (AreBoth-pair u v) ne cut.0 cut.1 cut.2),
              λ x pair. elim (cases_lt x v) [
                | inl less ↦
                    let x_after = pair.0 in
                    absurd (not_partner x (omega arith) (before x (omega arith) less) pair)
                | inr le ↦ le
              ],
            )

      -- and whether u and v, which is none, are a pair is told by the flag of u in the rest without v
      pub is_partner : (u v : ℕ) → IsWithoutVertex lists rest v → u < v → v < length lists → get_or flags v false ≡ false → MatchBool (get_or cuts u false) (IsSeparatingPair lists u v) (¬ IsSeparatingPair lists u v)
      is_partner u v w order v_in other = is_partner_by (get_or cuts u false) refl
        where
          is_partner_by : (b : Bool) → get_or cuts u false ≡ b → MatchBool b (IsSeparatingPair lists u v) (¬ IsSeparatingPair lists u v)
          is_partner_by true e =
              let m = w.count in
              let cut = k.yes u (omega arith) e in
              let ne : v ≢ u = λ q. (let z = q in omega arith) in
              (order, v_in, cut.0, cut.1, AreSeparated-of_rest lists rest v w adjacency u (u ∷ v ∷ []) (AreBoth-turned u v (u ∷ v ∷ []) (AreBoth-pair u v)) ne cut.0 cut.1 cut.2)
          is_partner_by false e = λ pair.
              let m = w.count in
              not_AreSeparated lists rest v w adjacency u (u ∷ v ∷ []) (AreBoth-turned u v (u ∷ v ∷ []) (AreBoth-pair u v)) (h.no v v_in other) (k.no u (omega arith) e) pair.2 pair.3 pair.4

      -- as that flag is read
      pub is_partner-read : (u v : ℕ) (b : Bool) → IsWithoutVertex lists rest v → u < v → v < length lists → get_or flags v false ≡ false → b ≡ get_or cuts u b → MatchBool b (IsSeparatingPair lists u v) (¬ IsSeparatingPair lists u v)
      is_partner-read u v b w order v_in other read =
          let is = get_or_read cuts u b (omega (arith, order, v_in, k.count, w.count)) read false in
          rw is (is_partner u v w order v_in other)

    -- two cut vertices are a pair
    pub cut_partners : (u v : ℕ) → u < v → v < length lists → get_or flags u false ≡ true → get_or flags v false ≡ true → IsSeparatingPair lists u v
    cut_partners u v order v_in set_u set_v =
        let p = both_cut lists adjacency u v (u ∷ v ∷ []) (AreBoth-pair u v) (h.yes u (omega arith) set_u) (h.yes v v_in set_v) in
        (order, v_in, p.0, p.1, p.2)

-- the least pair, where no lesser vertex has a partner
pub least_pair : (lists : Lists) (u v : ℕ) → ((a b : ℕ) → a < u → ¬ IsSeparatingPair lists a b) → IsSeparatingPair lists u v × ((w : ℕ) → IsSeparatingPair lists u w → v ≤ w) → IsLeastPair lists u v
least_pair lists u v before found = record {
  is_pair = found.0;
  least = λ a b pair. elim (cases_lt u a) [
    | inl less ↦ inl less
    | inr le ↦ elim (cases_eq u a) [
      | inl e ↦ inr (e, found.1 b (subst (λ z. IsSeparatingPair lists z b) (sym e) pair))
      | inr ne ↦ absurd (before a b (omega arith) pair)
    ]
  ];
}
