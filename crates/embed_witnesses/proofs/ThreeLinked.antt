-- Three-connected maps: no two vertices, of which one may be none, part the others.
use Rattle.std.proofs.Common.{◌≡◌, ◌⊎◌, ℕ, ◌<◌, ◌≤◌, List, [], ◌∷◌, length, Contains, get_or, refl, sym, ◌∙◌, subst, inl, inr, arith}
use Rattle.std.proofs.lemmas.Bool.{cases_eq, cases_lt}
use Rattle.map_lists.specs.Lists.{Lists}
use Rattle.map_theory.specs.Maps.{IsSimpleMap, component_count, SameComponent}
use Rattle.graph_search.specs.Cuts.{AreSeparated}
use Rattle.plane_laws.proofs.ComponentPaths.{components_are_paths}
use Rattle.convex_peeling.specs.Polyhedral.{IsThreeConnected}
use Rattle.plane_peeling.proofs.Rings.{each_of_two, each_of_three}
use Rattle.embed_contraction.specs.Linked.{without_vertices, HasEdge, IsThreeLinked}
use Rattle.embed_contraction.proofs.Parts.{cases_part}
use Rattle.embed_witnesses.proofs.Avoiding.{part-from_path, all_together}

pub in_one : (a z : ℕ) → Contains (a ∷ []) z → z ≡ a
in_one a z c =
    let i : c.0 ≡ 0 = omega arith in
    sym (subst (λ k. get_or (a ∷ []) k z ≡ z) i c.2)

pub in_two : (a b z : ℕ) → Contains (a ∷ b ∷ []) z → (z ≡ a) ⊎ (z ≡ b)
in_two a b z c = each_of_two (λ w. w ≡ z → (z ≡ a) ⊎ (z ≡ b)) a b (λ e. inl (sym e)) (λ e. inr (sym e)) z c refl

pub in_three : (a b c z : ℕ) → Contains (a ∷ b ∷ c ∷ []) z → (z ≡ a) ⊎ ((z ≡ b) ⊎ (z ≡ c))
in_three a b c z h = each_of_three (λ w. w ≡ z → (z ≡ a) ⊎ ((z ≡ b) ⊎ (z ≡ c))) a b c (λ e. inl (sym e)) (λ e. inr (inl (sym e))) (λ e. inr (inr (sym e))) z h refl

-- separated without u and v, they are without those of the two that are vertices
split_from : (lists : Lists) → IsSimpleMap lists → component_count lists ≡ 1 → (u v s t : ℕ) → HasEdge lists s → HasEdge lists t → ¬ Contains (u ∷ v ∷ []) s → ¬ Contains (u ∷ v ∷ []) t → ¬ SameComponent (without_vertices (u ∷ v ∷ []) lists) s t → (avoided : List ℕ) → ((x : ℕ) → Contains avoided x → Contains (u ∷ v ∷ []) x) → ((x : ℕ) → x < length lists → Contains (u ∷ v ∷ []) x → Contains avoided x) → AreSeparated lists avoided s t
split_from lists simple one u v s t hs ht os ot far avoided less more =
    let joined = (components_are_paths lists s t simple hs.1.0 ht.1.0).0 (all_together lists simple one s t hs.1.0 ht.1.0) in
    record {
      s_off = λ c. os (less s c);
      t_off = λ c. ot (less t c);
      path = joined.0;
      joined = joined.1;
      apart = λ other j. far (part-from_path lists simple (u ∷ v ∷ []) s t other record {
        is_path = j.is_path;
        start = j.start;
        end = j.end;
        avoids = λ x c in_two. j.avoids x c (more x (subst (λ z. z < length lists) c.2 (j.is_path.vertices c.0 x c.1)) in_two);
      });
    }

pub three_linked : (lists : Lists) → IsThreeConnected lists → IsThreeLinked lists
three_linked lists three u v s t hs ht os ot =
    elim (cases_part (without_vertices (u ∷ v ∷ []) lists) s t) [
      | inl same ↦ same
      | inr far ↦
          let split = split_from lists three.simple three.connected u v s t hs ht os ot far in
          let only_u : (v ≡ u) ⊎ (length lists ≤ v) → ⊥ = λ h. three.uncut u (
            s,
            t,
            split (u ∷ [])
                (λ x c. (0, omega arith, sym (in_one u x c)))
                (λ x l c. elim (in_two u v x c) [
                  | inl e ↦ (0, omega arith, sym e)
                  | inr e ↦ elim h [ inl q ↦ (0, omega arith, sym (e ∙ q)) | inr past ↦ absurd (omega arith) ]
                ]),
          ) in
          let only_v : length lists ≤ u → ⊥ = λ past. three.uncut v (
            s,
            t,
            split (v ∷ [])
                (λ x c. (1, omega arith, sym (in_one v x c)))
                (λ x l c. elim (in_two u v x c) [
                  | inl e ↦ absurd (omega arith)
                  | inr e ↦ (0, omega arith, sym e)
                ]),
          ) in
          elim (cases_lt v (length lists)) [
            | inr past ↦ absurd (only_u (inr past))
            | inl in_v ↦ elim (cases_lt u (length lists)) [
              | inr past ↦ absurd (only_v past)
              | inl in_u ↦ elim (cases_lt u v) [
                | inl less ↦ absurd (three.unpaired u v (less, in_v, s, t, split (u ∷ v ∷ []) (λ x c. c) (λ x l c. c)))
                | inr not_less ↦ elim (cases_eq v u) [
                  | inl e ↦ absurd (only_u (inl e))
                  | inr ne ↦ absurd (three.unpaired v u (
                    omega arith,
                    in_u,
                    s,
                    t,
                    split (v ∷ u ∷ [])
                        (λ x c. elim (in_two v u x c) [ inl e ↦ (1, omega arith, sym e) | inr e ↦ (0, omega arith, sym e) ])
                        (λ x l c. elim (in_two u v x c) [ inl e ↦ (1, omega arith, sym e) | inr e ↦ (0, omega arith, sym e) ]),
                  ))
                ]
              ]
            ]
          ]
    ]
