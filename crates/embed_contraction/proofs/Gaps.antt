-- The ring read so that the gap stands at its front.
use Rattle.std.proofs.Common.{◌≡◌, ℕ, suc, ◌+◌, ◌-◌, ◌<◌, ◌≤◌, Bool, true, false, List, [], ◌∷◌, ◌++◌, length, get_or, take, drop, Contains, sym, ap, ap₂, ◌∙◌, subst, inl, inr, arith, append_assoc, drop-cons, length-drop}
use Rattle.std.proofs.lemmas.Bool.{cases_eq, cases_lt, cases_Bool, true≢false}
use Rattle.std.proofs.lemmas.List.{get_or-take, get_or-drop, take-append-drop, get_or_default, length-take-le}
use Rattle.std.proofs.lemmas.List.Elements.{Contains-append_cases, Contains-append_left, Contains-append_right}
use Rattle.map_theory.proofs.EntryLemmas.{Contains-here, Contains-there}
use Rattle.graphs.specs.Graphs.{EdgeGraph, has_edge}
use Rattle.graphs.proofs.EdgeLemmas.{has_edge-turned}
use Rattle.embed_contraction.proofs.Places.{two_sets_lie}
use Rattle.embed_contraction.proofs.Rings.{alternating_witness, common_witness, IsRimmed, spoke, IsGapOf, IsGap, IsOuterGap, HasTwo, Lie.in_gap, Lie.around, Lie.alternate, Lie.alternate', Lie.common}
use Rattle.std.specs.Prelude.{◌⊎◌}
use Rattle.embed_contraction.specs.Traces.{HasWitness}

-- an entry of a front, or of a back, by its place in the whole
pub Contains-take : (m : ℕ) (us : List ℕ) (w : ℕ) → m ≤ length us → Contains (take m us) w → (t : ℕ) × (t < m) × (get_or us t 0 ≡ w)
Contains-take m us w l c =
    let lt : c.0 < m = omega (arith, length-take-le m us l) in
    (c.0, lt, get_or_default us c.0 0 w (omega arith) ∙ (sym (get_or-take m us c.0 w lt) ∙ c.2))

pub Contains-drop : (m : ℕ) (us : List ℕ) (w : ℕ) → Contains (drop m us) w → (t : ℕ) × (m ≤ t) × (t < length us) × (get_or us t 0 ≡ w)
Contains-drop m us w c =
    let lt : m + c.0 < length us = omega (arith, length-drop m us) in
    (m + c.0, omega arith, lt, get_or_default us (m + c.0) 0 w lt ∙ (sym (get_or-drop m us c.0 w) ∙ c.2))

pub take-Contains : (m : ℕ) (us : List ℕ) (t : ℕ) → m ≤ length us → t < m → Contains (take m us) (get_or us t 0)
take-Contains m us t l h =
    (t, omega (arith, length-take-le m us l), get_or-take m us t (get_or us t 0) h ∙ get_or_default us t (get_or us t 0) 0 (omega arith))

pub drop-Contains : (m : ℕ) (us : List ℕ) (t : ℕ) → m ≤ t → t < length us → Contains (drop m us) (get_or us t 0)
drop-Contains m us t l h =
    let n = length-drop m us in
    let e : m + (t - m) ≡ t = omega arith in
    (t - m, omega arith, get_or-drop m us (t - m) (get_or us t 0) ∙ (ap (λ j. get_or us j (get_or us t 0)) e ∙ get_or_default us t (get_or us t 0) 0 h))

module _ (graph : EdgeGraph) (ws : List ℕ) (x y : ℕ) where
  abbrev n : ℕ
  n = length ws

  abbrev X : ℕ → Bool
  X = spoke graph ws x

  abbrev Y : ℕ → Bool
  Y = spoke graph ws y

  abbrev Found : Type 0
  Found = (us : List ℕ) × (vs : List ℕ) × (a : ℕ) × (mid : List ℕ) × (b : ℕ) × (back : List ℕ) × IsGapOf graph ws x y us vs a mid b back

  -- a neighbour on the ring, by its place
  neighbour_at : (v w : ℕ) → Contains ws w → has_edge graph v w ≡ true → (j : ℕ) × (j < n) × (get_or ws j 0 ≡ w) × (spoke graph ws v j ≡ true)
  neighbour_at v w c e =
      let at = get_or_default ws c.0 0 w c.1 ∙ c.2 in
      (c.0, c.1, at, ap (has_edge graph v) at ∙ e)

  from_gap : (i k : ℕ) → IsGap n X Y i k → Found
  from_gap i k g =
      let l = g.within in
      let rest = drop (suc i) ws in
      let m = k - suc i in
      let in_rest = length-drop (suc i) ws in
      let mid = take m rest in
      let b = get_or ws k 0 in
      let after = drop (suc m) rest in
      let at_b : get_or rest m 0 ≡ b = get_or-drop (suc i) ws m 0 ∙ ap (λ j. get_or ws j 0) (omega arith) in
      let tail : rest ≡ mid ++ b ∷ after = sym (take-append-drop m rest) ∙ ap (λ l. mid ++ l) (drop-cons rest m 0 (omega arith) ∙ ap (λ z. z ∷ after) at_b) in
      let head : drop i ws ≡ get_or ws i 0 ∷ rest = drop-cons ws i 0 (omega arith) in
      let whole : drop i ws ++ take i ws ≡ get_or ws i 0 ∷ mid ++ b ∷ (after ++ take i ws) =
      ap (λ l. l ++ take i ws) (head ∙ ap (λ l. get_or ws i 0 ∷ l) tail) ∙ append_assoc (get_or ws i 0 ∷ mid) (b ∷ after) (take i ws) in (
        take i ws,
        drop i ws,
        get_or ws i 0,
        mid,
        b,
        after ++ take i ws,
        record {
          parts = sym (take-append-drop i ws);
          turned = whole;
          first = g.first;
          last = g.last;
          none = λ w c.
              let r = Contains-take m rest w (omega arith) c in
              ap (has_edge graph x) (sym (sym (get_or-drop (suc i) ws r.0 0) ∙ r.2)) ∙ g.none (suc i + r.0) (omega arith) (omega arith);
          all = λ w c e.
              let r = neighbour_at y w c e in
              let within = g.all r.0 r.1 r.3 in
              subst (Contains (get_or ws i 0 ∷ mid ++ b ∷ [])) r.2 (elim (cases_eq r.0 i) [
                | inl q ↦ subst (λ j. Contains (get_or ws i 0 ∷ mid ++ b ∷ []) (get_or ws j 0)) (sym q) (Contains-here (get_or ws i 0) (mid ++ b ∷ []))
                | inr ne ↦ elim (cases_eq r.0 k) [
                  | inl q ↦ subst (λ j. Contains (get_or ws i 0 ∷ mid ++ b ∷ []) (get_or ws j 0)) (sym q) (Contains-append_right (get_or ws i 0 ∷ mid) (b ∷ []) b (Contains-here b []))
                  | inr ne' ↦
                      let t = r.0 - suc i in
                      let at : get_or rest t 0 ≡ get_or ws r.0 0 = get_or-drop (suc i) ws t 0 ∙ ap (λ j. get_or ws j 0) (omega arith) in
                      let here = take-Contains m rest t (omega arith) (omega arith) in
                      Contains-append_left (get_or ws i 0 ∷ mid) (b ∷ []) (get_or ws r.0 0) (Contains-there (get_or ws i 0) mid (get_or ws r.0 0) (subst (Contains mid) at here))
                ]
              ]);
        },
      )

  from_outer : (i k : ℕ) → IsOuterGap n X Y i k → Found
  from_outer i k g =
      let l = g.within in
      let a = get_or ws k 0 in
      let b = get_or ws i 0 in
      let front = take k ws in
      let in_front = length-take-le k ws (omega arith) in
      let rest = drop (suc k) ws in
      let low = take i front in
      let after = drop (suc i) front in
      let mid = rest ++ low in
      let at_b : get_or front i 0 ≡ b = get_or-take k ws i 0 g.order in
      let split : front ≡ low ++ b ∷ after = sym (take-append-drop i front) ∙ ap (λ l. low ++ l) (drop-cons front i 0 (omega arith) ∙ ap (λ z. z ∷ after) at_b) in
      let head : drop k ws ≡ a ∷ rest = drop-cons ws k 0 l in
      let whole : drop k ws ++ front ≡ a ∷ mid ++ b ∷ after = ap₂ (λ p q. p ++ q) head split ∙ sym (append_assoc (a ∷ rest) low (b ∷ after)) in (
        front,
        drop k ws,
        a,
        mid,
        b,
        after,
        record {
          parts = sym (take-append-drop k ws);
          turned = whole;
          first = g.last;
          last = g.first;
          none = λ w c.
              let off : (j : ℕ) → j < n → (i ≤ j → j ≤ k → ⊥) → get_or ws j 0 ≡ w → has_edge graph x w ≡ false = λ j m out at.
              grind (arith, cases_Bool, has_edge) in
              elim (Contains-append_cases rest low w c) [
                | inl h ↦ let r = Contains-drop (suc k) ws w h in let far = r.1 in off r.0 r.2 (λ p q. omega arith) r.3
                | inr h ↦ let r = Contains-take i front w (omega arith) h in let near = r.1 in off r.0 (omega arith) (λ p q. omega arith) (sym (get_or-take k ws r.0 0 (omega arith)) ∙ r.2)
              ];
          all = λ w c e.
              let r = neighbour_at y w c e in
              let j = r.0 in
              let L = a ∷ mid ++ b ∷ [] in
              let in_mid : Contains mid (get_or ws j 0) → Contains L (get_or ws j 0) = λ h. Contains-append_left (a ∷ mid) (b ∷ []) (get_or ws j 0) (Contains-there a mid (get_or ws j 0) h) in
              subst (Contains L) r.2 (elim (cases_lt j i) [
                | inl near ↦
                    let here = take-Contains i front j (omega arith) near in
                    in_mid (Contains-append_right rest low (get_or ws j 0) (subst (Contains low) (get_or-take k ws j 0 (omega arith)) here))
                | inr far ↦ elim (cases_lt k j) [
                  | inl past ↦ in_mid (Contains-append_left rest low (get_or ws j 0) (drop-Contains (suc k) ws j (omega arith) r.1))
                  | inr upto ↦ elim (cases_eq j i) [
                    | inl q ↦ subst (λ z. Contains L (get_or ws z 0)) (sym q) (Contains-append_right (a ∷ mid) (b ∷ []) b (Contains-here b []))
                    | inr ne ↦ grind (arith, cases_eq, Contains, get_or, Contains-here, true≢false)
                  ]
                ]
              ]);
        },
      )

-- the two vertices exchanged
pub IsRimmed-turned : (graph : EdgeGraph) (ws : List ℕ) (x y : ℕ) → IsRimmed graph ws x y → IsRimmed graph ws y x
IsRimmed-turned graph ws x y r = grind (arith, has_edge-turned)

-- Two adjacent vertices beside a ring, each with two neighbours on it at least: the graph has a witness, or the neighbours of y lie in a gap between neighbours of x.
pub gap_or_witness : (graph : EdgeGraph) (ws : List ℕ) (x y : ℕ) → IsRimmed graph ws x y → HasTwo (length ws) (spoke graph ws x) → HasTwo (length ws) (spoke graph ws y) → HasWitness graph ⊎ ((us : List ℕ) × (vs : List ℕ) × (a : ℕ) × (mid : List ℕ) × (b : ℕ) × (back : List ℕ) × IsGapOf graph ws x y us vs a mid b back)
gap_or_witness graph ws x y rim two two' =
    elim (two_sets_lie (length ws) (spoke graph ws x) (spoke graph ws y) two two') [
      | in_gap i k g ↦ inr (from_gap graph ws x y i k g)
      | around i k g ↦ inr (from_outer graph ws x y i k g)
      | alternate i j k l a ↦ inl (alternating_witness graph ws x y i j k l rim a)
      | alternate' i j k l a ↦ inl (alternating_witness graph ws y x i j k l (IsRimmed-turned graph ws x y rim) a)
      | common i j k a ↦ inl (common_witness graph ws x y i j k rim a)
    ]
