-- The witnesses of two adjacent vertices beside a ring: K3,3 where their neighbours alternate, K5 where three are common. The ring is read from the first of these places.
use Rattle.std.proofs.Common.{◌≡◌, ◌≢◌, ◌⊎◌, ℕ, zero, suc, ◌+◌, ◌-◌, ◌<◌, ◌≤◌, true, cond, ltb, eqb, List, length, get_or, Contains, refl, sym, ap, ◌∙◌, subst, inl, inr, arith, []}
use Rattle.std.proofs.lemmas.Bool.Decides.{nat_tests}
use Rattle.std.proofs.lemmas.List.{get_or_default}
use Rattle.map_theory.specs.Maps.{entry_after, place_of}
use Rattle.map_theory.proofs.DartLemmas.{place_of-get_or, entry_after-place, place_after}
use Rattle.graphs.specs.Graphs.{EdgeGraph, has_edge}
use Rattle.graphs.proofs.EdgeLemmas.{has_edge-turned}
use Rattle.graphs.proofs.BitLemmas.{below_six}
use Rattle.kuratowski.specs.Witnesses.{pair_at}
use Rattle.kuratowski.specs.declared.witness.Kind.TheVariants.{K5, K33}
use Rattle.embed_contraction.specs.Traces.{HasWitness}
use Rattle.embed_contraction.proofs.Numbers.{each_of_one, each_of_two, each_of_three, each_of_four, each_of_five, each_of_nine, each_of_ten}
use Rattle.embed_contraction.proofs.Spans.{Span, Span.edge, Span.up, Span.down, IsSound, vertex_on, size_of, IsPlaced, IsPlan, traced}
use Rattle.embed_contraction.proofs.Traces.{traced_witness}
use Rattle.std.specs.Prelude.{Bool, false, ◌∷◌, ◌++◌, slice_index_or, AllPairs}

-- i and k are places of X, with no place of X between them, and each place of Y is one of them or between
pub record IsGap (n : ℕ) (X Y : ℕ → Bool) (i k : ℕ) : Type 0 where
  pub order : i < k
  pub within : k < n
  pub first : X i ≡ true
  pub last : X k ≡ true
  pub none : (j : ℕ) → i < j → j < k → X j ≡ false
  pub all : (j : ℕ) → j < n → Y j ≡ true → (i ≤ j) × (j ≤ k)

-- i and k are places of X, with no place of X before or after the two, and no place of Y is between them
pub record IsOuterGap (n : ℕ) (X Y : ℕ → Bool) (i k : ℕ) : Type 0 where
  pub order : i < k
  pub within : k < n
  pub first : X i ≡ true
  pub last : X k ≡ true
  pub all : (j : ℕ) → j < n → X j ≡ true → (i ≤ j) × (j ≤ k)
  pub none : (j : ℕ) → i < j → j < k → Y j ≡ false

-- four places that alternate between X and Y
pub record Alternate (n : ℕ) (X Y : ℕ → Bool) (i j k l : ℕ) : Type 0 where
  pub order : (i < j) × (j < k) × (k < l) × (l < n)
  pub odd : (X i ≡ true) × (X k ≡ true)
  pub even : (Y j ≡ true) × (Y l ≡ true)

-- three places of both
pub record AreCommon (n : ℕ) (X Y : ℕ → Bool) (i j k : ℕ) : Type 0 where
  pub order : (i < j) × (j < k) × (k < n)
  pub of_X : (X i ≡ true) × (X j ≡ true) × (X k ≡ true)
  pub of_Y : (Y i ≡ true) × (Y j ≡ true) × (Y k ≡ true)

-- two places at least
pub record HasTwo (n : ℕ) (X : ℕ → Bool) : Type 0 where
  pub one : ℕ
  pub other : ℕ
  pub order : (one < other) × (other < n)
  pub passes : (X one ≡ true) × (X other ≡ true)

-- how two sets of places lie
pub data Lie (n : ℕ) (X Y : ℕ → Bool) : Type 0 where
  in_gap : (i k : ℕ) → IsGap n X Y i k → Lie n X Y
  around : (i k : ℕ) → IsOuterGap n X Y i k → Lie n X Y
  alternate : (i j k l : ℕ) → Alternate n X Y i j k l → Lie n X Y
  alternate' : (i j k l : ℕ) → Alternate n Y X i j k l → Lie n X Y
  common : (i j k : ℕ) → AreCommon n X Y i j k → Lie n X Y

-- a ring of the graph, along edges, and two adjacent vertices that are not on it
pub record IsRimmed (graph : EdgeGraph) (ws : List ℕ) (x y : ℕ) : Type 0 where
  pub distinct : AllPairs ◌≢◌ ws
  pub below : (w : ℕ) → Contains ws w → w < graph.n
  pub rim : (w : ℕ) → Contains ws w → has_edge graph w (entry_after w ws) ≡ true
  pub x_below : x < graph.n
  pub y_below : y < graph.n
  pub x_off : ¬ Contains ws x
  pub y_off : ¬ Contains ws y
  pub two : x ≢ y
  pub hub : has_edge graph x y ≡ true

-- whether v is adjacent to the vertex at a place of the ring
abbrev pub spoke : EdgeGraph → List ℕ → ℕ → ℕ → Bool
spoke graph ws v i = has_edge graph v (slice_index_or ws i 0)

-- The ring, read from another of its entries, begins with a neighbour a of x, then those of mid, which are none, and then a neighbour b of x; and the neighbours of y on the ring are among a, mid and b.
pub record IsGapOf (graph : EdgeGraph) (ws : List ℕ) (x y : ℕ) (us vs : List ℕ) (a : ℕ) (mid : List ℕ) (b : ℕ) (back : List ℕ) : Type 0 where
  pub parts : ws ≡ us ++ vs
  pub turned : vs ++ us ≡ a ∷ mid ++ b ∷ back
  pub first : has_edge graph x a ≡ true
  pub last : has_edge graph x b ≡ true
  pub none : (w : ℕ) → Contains mid w → has_edge graph x w ≡ false
  pub all : (w : ℕ) → Contains ws w → has_edge graph y w ≡ true → Contains (a ∷ mid ++ b ∷ []) w

-- place i of a ring of n that is read from place p on
abbrev turned_place : ℕ → ℕ → ℕ → ℕ
turned_place n p i = cond (ltb (p + i) n) (p + i) (p + i - n)

turned_place-lt : (n p i : ℕ) → p < n → i < n → turned_place n p i < n
turned_place-lt n p i h l = grind (arith, nat_tests)

place_after-turned : (n p i : ℕ) → p < n → i < n → place_after n (turned_place n p i) ≡ turned_place n p (suc i)
place_after-turned n p i h l = grind (arith, nat_tests)

turned_place-apart : (n p i j : ℕ) → p < n → i < n → j < n → turned_place n p i ≡ turned_place n p j → i ≡ j
turned_place-apart n p i j h l m e = grind (arith, nat_tests)

turned_place-round : (n p : ℕ) → p < n → turned_place n p n ≡ turned_place n p 0
turned_place-round n p h = grind (arith, nat_tests)

turned_place-on : (n p i : ℕ) → p ≤ i → i < n → turned_place n p (i - p) ≡ i
turned_place-on n p i h l = grind (arith, nat_tests)

module _ (graph : EdgeGraph) (ws : List ℕ) (x y : ℕ) (rim : IsRimmed graph ws x y) (p : ℕ) (in_p : p < length ws) where
  abbrev n : ℕ
  n = length ws

  at : ℕ → ℕ
  at i = get_or ws (turned_place (length ws) p i) 0

  on_ring : (i : ℕ) → i < n → Contains ws (at i)
  unfolding at
  on_ring i l =
      let m = turned_place-lt n p i in_p l in
      (turned_place n p i, m, get_or_default ws (turned_place n p i) (at i) 0 m)

  at_place : (i : ℕ) → i < n → place_of (at i) ws ≡ turned_place n p i
  unfolding at
  at_place i l = place_of-get_or ws (turned_place n p i) 0 rim.distinct (turned_place-lt n p i in_p l)

  placed : IsPlaced graph n at
  unfolding at
  placed = record {
    below = λ i l. rim.below (at i) (on_ring i l);
    along = λ i l.
        let place = at_place i l in
        let m = turned_place-lt n p i in_p l in
        let next : entry_after (at i) ws ≡ at (suc i) =
        entry_after-place (at i) ws 0 (omega arith) ∙ (ap (λ j. get_or ws (place_after n j) 0) place ∙ ap (λ j. get_or ws j 0) (place_after-turned n p i in_p l)) in
        ap (λ w. has_edge graph (at i) w) (sym next) ∙ rim.rim (at i) (on_ring i l);
    apart = λ i j l m e. turned_place-apart n p i j in_p l m (sym (at_place i l) ∙ (ap (λ w. place_of w ws) e ∙ at_place j m));
    closed = ap (λ j. get_or ws j 0) (turned_place-round n p in_p);
  }

  -- the vertex of a later place
  at_later : (i : ℕ) → p ≤ i → i < n → at (i - p) ≡ get_or ws i 0
  unfolding at
  at_later i h l = ap (λ j. get_or ws j 0) (turned_place-on n p i h l)

  x_apart : (i : ℕ) → i < n → at i ≢ x
  x_apart i l e = rim.x_off (subst (Contains ws) e (on_ring i l))

  y_apart : (i : ℕ) → i < n → at i ≢ y
  y_apart i l e = rim.y_off (subst (Contains ws) e (on_ring i l))

  places_apart : (i j : ℕ) → i < n → j < n → i ≢ j → at i ≢ at j
  places_apart i j l m ne e = ne (placed.apart i j l m e)

  back : (v i : ℕ) → has_edge graph v (at i) ≡ true → has_edge graph (at i) v ≡ true
  back v i e = has_edge-turned graph (at i) v ∙ e

  -- ---- K3,3
  module _ (q r s : ℕ) (pos : 0 < q) (q_r : q < r) (r_s : r < s) (s_n : s < n) (x_0 : has_edge graph x (at 0) ≡ true) (y_q : has_edge graph y (at q) ≡ true) (x_r : has_edge graph x (at r) ≡ true) (y_s : has_edge graph y (at s) ≡ true) where
    branch33 : ℕ → ℕ
    branch33 zero = x
    branch33 (suc zero) = at q
    branch33 (suc (suc zero)) = at s
    branch33 (suc (suc (suc zero))) = y
    branch33 (suc (suc (suc (suc zero)))) = at 0
    branch33 (suc (suc (suc (suc (suc k))))) = at r

    spans33 : ℕ → Span
    spans33 zero = edge x y
    spans33 (suc zero) = edge x (at 0)
    spans33 (suc (suc zero)) = edge x (at r)
    spans33 (suc (suc (suc zero))) = edge (at q) y
    spans33 (suc (suc (suc (suc zero)))) = down 0 q
    spans33 (suc (suc (suc (suc (suc zero))))) = up q r
    spans33 (suc (suc (suc (suc (suc (suc zero)))))) = edge (at s) y
    spans33 (suc (suc (suc (suc (suc (suc (suc zero))))))) = up s (length ws)
    spans33 (suc (suc (suc (suc (suc (suc (suc (suc k)))))))) = down r s

    -- the path within which a place stands
    owner33 : ℕ → ℕ
    owner33 i =
        cond (eqb i 0) 9 (cond (ltb i q) 4 (cond (eqb i q) 9 (cond (ltb i r) 5 (cond (eqb i r) 9 (cond (ltb i s) 8 (cond (eqb i s) 9 7))))))

    owner_0 : owner33 0 ≡ 9
    unfolding owner33
    owner_0 = grind (arith, nat_tests)

    owner_4 : (i : ℕ) → 0 < i → i < q → owner33 i ≡ 4
    unfolding owner33
    owner_4 i h l = grind (arith, nat_tests)

    owner_q : owner33 q ≡ 9
    unfolding owner33
    owner_q = grind (arith, nat_tests)

    owner_5 : (i : ℕ) → q < i → i < r → owner33 i ≡ 5
    unfolding owner33
    owner_5 i h l = grind (arith, nat_tests)

    owner_r : owner33 r ≡ 9
    unfolding owner33
    owner_r = grind (arith, nat_tests)

    owner_8 : (i : ℕ) → r < i → i < s → owner33 i ≡ 8
    unfolding owner33
    owner_8 i h l = grind (arith, nat_tests)

    owner_s : owner33 s ≡ 9
    unfolding owner33
    owner_s = grind (arith, nat_tests)

    owner_7 : (i : ℕ) → s < i → i < n → owner33 i ≡ 7
    unfolding owner33
    owner_7 i h l = grind (arith, nat_tests)

    plan33 : IsPlan graph n at owner33 K33 branch33 spans33
    unfolding branch33 spans33
    plan33 = record {
      vertices = below_six (λ j. branch33 j < graph.n) rim.x_below (placed.below q (omega arith)) (placed.below s s_n) rim.y_below (placed.below 0 (omega arith)) (placed.below r (omega arith));
      distinct = λ i j l m.
          below_six (λ j. (i : ℕ) → i < j → branch33 i ≢ branch33 j)
          (λ i l. absurd (omega arith))
          (each_of_one (λ i. branch33 i ≢ at q) (λ e. x_apart q (omega arith) (sym e)))
          (each_of_two (λ i. branch33 i ≢ at s) (λ e. x_apart s s_n (sym e)) (places_apart q s (omega arith) s_n (omega arith)))
          (each_of_three (λ i. branch33 i ≢ y) rim.two (y_apart q (omega arith)) (y_apart s s_n))
          (each_of_four (λ i. branch33 i ≢ at 0) (λ e. x_apart 0 (omega arith) (sym e)) (places_apart q 0 (omega arith) (omega arith) (omega arith)) (places_apart s 0 s_n (omega arith) (omega arith)) (λ e. y_apart 0 (omega arith) (sym e)))
          (each_of_five (λ i. branch33 i ≢ at r) (λ e. x_apart r (omega arith) (sym e)) (places_apart q r (omega arith) (omega arith) (omega arith)) (places_apart s r s_n (omega arith) (omega arith)) (λ e. y_apart r (omega arith) (sym e)) (places_apart 0 r (omega arith) (omega arith) (omega arith)))
          j m i l;
      sound = each_of_nine (λ p. IsSound graph n owner33 p (spans33 p)) rim.hub x_0 x_r (back y q y_q) (pos, omega arith, owner_4) (q_r, omega arith, owner_5) (back y s y_s) (s_n, omega arith, owner_7) (r_s, omega arith, owner_8);
      start = each_of_nine (λ p. vertex_on at (spans33 p) 0 ≡ branch33 (pair_at K33 p).0) refl refl refl refl (ap at (omega arith)) (ap at (omega arith)) refl (ap at (omega arith)) (ap at (omega arith));
      end = each_of_nine (λ p. vertex_on at (spans33 p) (size_of (spans33 p)) ≡ branch33 (pair_at K33 p).1) refl refl refl refl (ap at (omega arith)) (ap at (omega arith)) refl (ap at (omega arith) ∙ placed.closed) (ap at (omega arith));
      corners = below_six (λ j. ((i : ℕ) → i < n → at i ≢ branch33 j) ⊎ ((b : ℕ) × (b < n) × (branch33 j ≡ at b) × (9 ≤ owner33 b)))
          (inl x_apart) (inr (q, omega arith, refl, omega (arith, owner_q))) (inr (s, s_n, refl, omega (arith, owner_s))) (inl y_apart) (inr (0, omega arith, refl, omega (arith, owner_0))) (inr (r, omega arith, refl, omega (arith, owner_r)));
    }

    witness33 : HasWitness graph
    witness33 =
        traced_witness graph K33 branch33 (λ p. size_of (spans33 p)) (λ p i. vertex_on at (spans33 p) i) (traced graph n at placed owner33 K33 branch33 spans33 plan33)

  -- ---- K5
  module _ (q r : ℕ) (pos : 0 < q) (q_r : q < r) (r_n : r < n) (x_0 : has_edge graph x (at 0) ≡ true) (x_q : has_edge graph x (at q) ≡ true) (x_r : has_edge graph x (at r) ≡ true) (y_0 : has_edge graph y (at 0) ≡ true) (y_q : has_edge graph y (at q) ≡ true) (y_r : has_edge graph y (at r) ≡ true) where
    branch5 : ℕ → ℕ
    branch5 zero = x
    branch5 (suc zero) = y
    branch5 (suc (suc zero)) = at 0
    branch5 (suc (suc (suc zero))) = at q
    branch5 (suc (suc (suc (suc k)))) = at r

    spans5 : ℕ → Span
    spans5 zero = edge x y
    spans5 (suc zero) = edge x (at 0)
    spans5 (suc (suc zero)) = edge x (at q)
    spans5 (suc (suc (suc zero))) = edge x (at r)
    spans5 (suc (suc (suc (suc zero)))) = edge y (at 0)
    spans5 (suc (suc (suc (suc (suc zero))))) = edge y (at q)
    spans5 (suc (suc (suc (suc (suc (suc zero)))))) = edge y (at r)
    spans5 (suc (suc (suc (suc (suc (suc (suc zero))))))) = up 0 q
    spans5 (suc (suc (suc (suc (suc (suc (suc (suc zero)))))))) = down r (length ws)
    spans5 (suc (suc (suc (suc (suc (suc (suc (suc (suc k))))))))) = up q r

    owner5 : ℕ → ℕ
    owner5 i =
        cond (eqb i 0) 10 (cond (ltb i q) 7 (cond (eqb i q) 10 (cond (ltb i r) 9 (cond (eqb i r) 10 8))))

    owner5_0 : owner5 0 ≡ 10
    unfolding owner5
    owner5_0 = grind (arith, nat_tests)

    owner5_7 : (i : ℕ) → 0 < i → i < q → owner5 i ≡ 7
    unfolding owner5
    owner5_7 i h l = grind (arith, nat_tests)

    owner5_q : owner5 q ≡ 10
    unfolding owner5
    owner5_q = grind (arith, nat_tests)

    owner5_9 : (i : ℕ) → q < i → i < r → owner5 i ≡ 9
    unfolding owner5
    owner5_9 i h l = grind (arith, nat_tests)

    owner5_r : owner5 r ≡ 10
    unfolding owner5
    owner5_r = grind (arith, nat_tests)

    owner5_8 : (i : ℕ) → r < i → i < n → owner5 i ≡ 8
    unfolding owner5
    owner5_8 i h l = grind (arith, nat_tests)

    plan5 : IsPlan graph n at owner5 K5 branch5 spans5
    unfolding branch5 spans5
    plan5 = record {
      vertices = each_of_five (λ j. branch5 j < graph.n) rim.x_below rim.y_below (placed.below 0 (omega arith)) (placed.below q (omega arith)) (placed.below r r_n);
      distinct = λ i j l m.
          each_of_five (λ j. (i : ℕ) → i < j → branch5 i ≢ branch5 j)
          (λ i l. absurd (omega arith))
          (each_of_one (λ i. branch5 i ≢ y) rim.two)
          (each_of_two (λ i. branch5 i ≢ at 0) (λ e. x_apart 0 (omega arith) (sym e)) (λ e. y_apart 0 (omega arith) (sym e)))
          (each_of_three (λ i. branch5 i ≢ at q) (λ e. x_apart q (omega arith) (sym e)) (λ e. y_apart q (omega arith) (sym e)) (places_apart 0 q (omega arith) (omega arith) (omega arith)))
          (each_of_four (λ i. branch5 i ≢ at r) (λ e. x_apart r r_n (sym e)) (λ e. y_apart r r_n (sym e)) (places_apart 0 r (omega arith) r_n (omega arith)) (places_apart q r (omega arith) r_n (omega arith)))
          j m i l;
      sound = each_of_ten (λ p. IsSound graph n owner5 p (spans5 p)) rim.hub x_0 x_q x_r y_0 y_q y_r (pos, omega arith, owner5_7) (r_n, omega arith, owner5_8) (q_r, omega arith, owner5_9);
      start = each_of_ten (λ p. vertex_on at (spans5 p) 0 ≡ branch5 (pair_at K5 p).0) refl refl refl refl refl refl refl (ap at (omega arith)) (ap at (omega arith) ∙ placed.closed) (ap at (omega arith));
      end = each_of_ten (λ p. vertex_on at (spans5 p) (size_of (spans5 p)) ≡ branch5 (pair_at K5 p).1) refl refl refl refl refl refl refl (ap at (omega arith)) (ap at (omega arith)) (ap at (omega arith));
      corners = each_of_five (λ j. ((i : ℕ) → i < n → at i ≢ branch5 j) ⊎ ((b : ℕ) × (b < n) × (branch5 j ≡ at b) × (10 ≤ owner5 b)))
          (inl x_apart) (inl y_apart) (inr (0, omega arith, refl, omega (arith, owner5_0))) (inr (q, omega arith, refl, omega (arith, owner5_q))) (inr (r, r_n, refl, omega (arith, owner5_r)));
    }

    witness5 : HasWitness graph
    witness5 =
        traced_witness graph K5 branch5 (λ p. size_of (spans5 p)) (λ p i. vertex_on at (spans5 p) i) (traced graph n at placed owner5 K5 branch5 spans5 plan5)

-- Where neighbours of the two alternate on the ring, the graph has a witness, of K3,3.
pub alternating_witness : (graph : EdgeGraph) (ws : List ℕ) (x y i j k l : ℕ) → IsRimmed graph ws x y → Alternate (length ws) (spoke graph ws x) (spoke graph ws y) i j k l → HasWitness graph
alternating_witness graph ws x y i j k l rim a =
    let in_i : i < length ws = omega arith in
    let A = at graph ws x y rim i in_i in
    let later = at_later graph ws x y rim i in_i in
    let first : A 0 ≡ get_or ws i 0 = ap A (omega arith) ∙ later i (omega arith) in_i in
    witness33 graph ws x y rim i in_i (j - i) (k - i) (l - i) (omega arith) (omega arith) (omega arith) (omega arith)
    (ap (has_edge graph x) first ∙ a.odd.0) (ap (has_edge graph y) (later j (omega arith) (omega arith)) ∙ a.even.0) (ap (has_edge graph x) (later k (omega arith) (omega arith)) ∙ a.odd.1) (ap (has_edge graph y) (later l (omega arith) (omega arith)) ∙ a.even.1)

-- Where the two have three common neighbours on the ring, the graph has a witness, of K5.
pub common_witness : (graph : EdgeGraph) (ws : List ℕ) (x y i j k : ℕ) → IsRimmed graph ws x y → AreCommon (length ws) (spoke graph ws x) (spoke graph ws y) i j k → HasWitness graph
common_witness graph ws x y i j k rim a =
    let in_i : i < length ws = omega arith in
    let A = at graph ws x y rim i in_i in
    let later = at_later graph ws x y rim i in_i in
    let first : A 0 ≡ get_or ws i 0 = ap A (omega arith) ∙ later i (omega arith) in_i in
    let at_j = later j (omega arith) (omega arith) in
    let at_k = later k (omega arith) (omega arith) in
    witness5 graph ws x y rim i in_i (j - i) (k - i) (omega arith) (omega arith) (omega arith)
    (ap (has_edge graph x) first ∙ a.of_X.0) (ap (has_edge graph x) at_j ∙ a.of_X.1) (ap (has_edge graph x) at_k ∙ a.of_X.2)
    (ap (has_edge graph y) first ∙ a.of_Y.0) (ap (has_edge graph y) at_j ∙ a.of_Y.1) (ap (has_edge graph y) at_k ∙ a.of_Y.2)
