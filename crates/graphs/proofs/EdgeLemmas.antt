-- The edges whose bits are set.
use Rattle.std.proofs.Common.{◌≡◌, ◌⊎◌, ℕ, ◌+◌, ◌-◌, ◌/◌, ◌%◌, ◌^◌, ◌<◌, ◌≤◌, ◌==◌, ◌||◌, ◌&&◌, Bool, true, false, List, [], ◌∷◌, map, length, take, replicate, Contains, refl, sym, ap, ap₂, ◌∙◌, subst, inl, inr, arith, eqb-true, eq-eqb, ne_eqb}
use Rattle.std.proofs.Math.ListN.{get_or}
use Rattle.std.specs.List.{All, list_any}
use Rattle.std.proofs.lemmas.Bool.{cases_Bool, cases_eq, cases_lt, or_cases}
use Rattle.std.proofs.lemmas.Bool.Decides.{nat_tests}
use Rattle.std.proofs.lemmas.List.{get_or-map, get_or_past, length-map, length-replicate, get_or-replicate, take_all}
use Rattle.std.proofs.lemmas.List.Elements.{All-contains}
use Rattle.std.proofs.lemmas.List.Kept.{AllPairs-filter}
use Rattle.std.proofs.lemmas.List.Folds.{list_any_more}
use Rattle.std.specs.Cmp.{both_ways}
use Rattle.std.proofs.Math.Bool.{or_comm}
use Rattle.map_lists.specs.declared.items.Ends.{Ends}
use Rattle.graphs.specs.Graphs.{Edge, EdgeGraph, AreEdges, ComesBefore, joins, has_edge, edge_of}
use Rattle.graphs.specs.Bits.{pair_place, body_length, has_bit, is_set, IsLineByte, IsBody, pairs, edges_of}
use Rattle.graphs.proofs.BitLemmas.{below_six, pair_place-lt, one_pair}
use Rattle.graphs.proofs.PairLemmas.{Contains-first, Contains-later, Contains-cases, Contains-none, All-from_Contains, Contains-filter, Contains-unfilter, any-from, any-gives, any-none, rising_same, before_strict, before_apart, pairs-have, pairs-hold, pairs-rising}

-- ---- joining
pub joins-own : (e : Edge) → joins e.0 e.1 e ≡ true
joins-own e = let f = eq-eqb e.0 e.0 refl in let g = eq-eqb e.1 e.1 refl in grind (arith, nat_tests)

pub joins-ends : (u v : ℕ) (e : Edge) → joins u v e ≡ true → ((e.0 ≡ u) × (e.1 ≡ v)) ⊎ ((e.0 ≡ v) × (e.1 ≡ u))
joins-ends u v e h = elim (or_cases ((e.0 == u) && (e.1 == v)) ((e.0 == v) && (e.1 == u)) h) [
  | inl k ↦ inl (both e.0 u e.1 v k)
  | inr k ↦ inr (both e.0 v e.1 u k)
]
  where
    both : (a b c d : ℕ) → ((a == b) && (c == d)) ≡ true → (a ≡ b) × (c ≡ d)
    both a b c d k = (grind (arith, nat_tests), grind (arith, nat_tests))

pub joins-turned : (u v : ℕ) (e : Edge) → joins u v e ≡ joins v u e
joins-turned u v e = or_comm ((e.0 == u) && (e.1 == v)) ((e.0 == v) && (e.1 == u))

-- u and v are joined as v and u are
pub any-turned : (u v : ℕ) (es : List Edge) → list_any (joins u v) es ≡ list_any (joins v u) es
any-turned u v [] = refl
any-turned u v (e ∷ es) = ap₂ ◌||◌ (joins-turned u v e) (any-turned u v es)

pub has_edge-turned : (graph : EdgeGraph) (u v : ℕ) → has_edge graph u v ≡ has_edge graph v u
has_edge-turned graph u v = any-turned u v graph.edges

-- a lesser and a greater vertex are joined by the edge of these ends
pub joined_is : (n u v : ℕ) (es : List Edge) → AreEdges n es → u ≤ v → list_any (joins u v) es ≡ true → Contains es (u, v) × (u < v) × (v < n)
joined_is n u v es are l h =
    let r = any-gives (joins u v) es h in
    let e = r.0 in
    let ends = All-contains (λ (x : Edge). (x.0 < x.1) × (x.1 < n)) es e are.ends r.1 in
    elim (joins-ends u v e r.2) [
      | inl q ↦ (subst (λ (x : Edge). Contains es x) (ap₂ (λ x y. let p : Edge = (x, y) in p) q.0 q.1) r.1, omega (arith, ends, q), omega (arith, ends, q))
      | inr q ↦ absurd (omega (arith, ends, q))
    ]

pub joined_by : (u v : ℕ) (es : List Edge) → Contains {X = Edge} es (u, v) → list_any (joins u v) es ≡ true
joined_by u v es h = any-from (joins u v) es (u, v) h (joins-own (u, v))

-- ---- the edges of a body
pub AreEdges-edges_of : (n : ℕ) (body : List ℕ) → AreEdges n (edges_of n body)
unfolding edges_of
AreEdges-edges_of n body = record {
  ends = All-from_Contains (λ (e : Edge). (e.0 < e.1) × (e.1 < n)) (edges_of n body) (λ e h. pairs-have n e (Contains-unfilter (λ (x : Edge). is_set body (pair_place x.0 x.1)) (pairs n) e h).0);
  rising = AllPairs-filter ComesBefore (λ (x : Edge). is_set body (pair_place x.0 x.1)) (pairs n) (pairs-rising n);
}

-- a pair is an edge where its bit is set
pub joined_as_bit : (n : ℕ) (body : List ℕ) (u v : ℕ) → u < v → v < n → list_any (joins u v) (edges_of n body) ≡ is_set body (pair_place u v)
unfolding edges_of
joined_as_bit n body u v l m =
    let p : Edge → Bool = λ x. is_set body (pair_place x.0 x.1) in
    both_ways (list_any (joins u v) (edges_of n body)) (is_set body (pair_place u v))
    (λ h. (Contains-unfilter p (pairs n) (u, v) (joined_is n u v (edges_of n body) (AreEdges-edges_of n body) (omega arith) h).0).1)
    (λ h. joined_by u v (edges_of n body) (Contains-filter p (pairs n) (u, v) (pairs-hold n u v l m) h))

pub joined_no_pair : (n u v : ℕ) (es : List Edge) → AreEdges n es → u ≤ v → ((u < v) × (v < n) → ⊥) → list_any (joins u v) es ≡ false
joined_no_pair n u v es are l none = elim (cases_Bool (list_any (joins u v) es)) [
  | inl h ↦ let r = joined_is n u v es are l h in absurd (none (r.1, r.2))
  | inr h ↦ h
]

-- the bits name the edges
pub edges_by_bits : (n : ℕ) (body : List ℕ) (es : List Edge) → AreEdges n es → ((u v : ℕ) → u < v → v < n → is_set body (pair_place u v) ≡ list_any (joins u v) es) → edges_of n body ≡ es
edges_by_bits n body es are bits =
    rising_same ComesBefore before_strict before_apart (edges_of n body) es (AreEdges-edges_of n body).rising are.rising
    (λ e h.
    let ends = All-contains (λ (x : Edge). (x.0 < x.1) × (x.1 < n)) (edges_of n body) e (AreEdges-edges_of n body).ends h in
    let t = joined_by e.0 e.1 (edges_of n body) h in
    (joined_is n e.0 e.1 es are (omega (arith, ends)) (sym (bits e.0 e.1 ends.0 ends.1) ∙ (sym (joined_as_bit n body e.0 e.1 ends.0 ends.1) ∙ t))).0)
    (λ e h.
    let ends = All-contains (λ (x : Edge). (x.0 < x.1) × (x.1 < n)) es e are.ends h in
    let t = joined_by e.0 e.1 es h in
    (joined_is n e.0 e.1 (edges_of n body) (AreEdges-edges_of n body) (omega (arith, ends)) (joined_as_bit n body e.0 e.1 ends.0 ends.1 ∙ (bits e.0 e.1 ends.0 ends.1 ∙ t))).0)

-- ---- bits that are set one by one
-- the first i edges are marked
pub record AreMarked (n : ℕ) (body : List ℕ) (edges : List Ends) (i : ℕ) : Type 0 where
  pub long : length body ≡ body_length n
  pub bytes : All IsLineByte body
  pub bits : (p : ℕ) → is_set body p ≡ list_any (λ (e : Ends). pair_place e.a.0 e.b.0 == p) (take i edges)

-- no bit of a byte 63 is set, nor any past the end
no_bit : (byte k : ℕ) → k < 6 → byte - 63 ≡ 0 → has_bit byte k ≡ false
unfolding has_bit
no_bit byte k l e =
    below_six (λ k. has_bit byte k ≡ false) (none byte 5 e) (none byte 4 e) (none byte 3 e) (none byte 2 e) (none byte 1 e) (none byte 0 e) k l
  where
    none : (byte j : ℕ) → byte - 63 ≡ 0 → ((byte - 63) / 2 ^ j % 2 == 1) ≡ false
    none byte j e = ap (λ x. (x / 2 ^ j % 2 == 1)) e ∙ ne_eqb (0 / 2 ^ j % 2) 1 (omega arith)

pub is_set-past : (body : List ℕ) (p : ℕ) → length body ≤ p / 6 → is_set body p ≡ false
unfolding is_set
is_set-past body p l =
    let z = get_or_past body (p / 6) 0 l in
    no_bit (get_or body (p / 6) 0) (p % 6) (omega arith) (omega (arith, z))

pub AreMarked-begin : (n : ℕ) (edges : List Ends) → AreMarked n (replicate (body_length n) 63) edges 0
unfolding is_set
AreMarked-begin n edges = record {
  long = length-replicate {A = ℕ} (body_length n) 63;
  bytes = All-from_Contains IsLineByte (replicate (body_length n) 63) (λ x h.
      let k = length-replicate {A = ℕ} (body_length n) 63 in
      let q = get_or-replicate (body_length n) h.0 63 x (omega (arith, h.1, k)) in
      omega (arith, h.2, q));
  bits = λ p. elim (cases_lt (p / 6) (body_length n)) [
    | inl l ↦ let q = get_or-replicate {A = ℕ} (body_length n) (p / 6) 63 0 l in no_bit (get_or (replicate (body_length n) 63) (p / 6) 0) (p % 6) (omega arith) (omega (arith, q))
    | inr l ↦ let k = length-replicate {A = ℕ} (body_length n) 63 in let z = get_or_past {X = ℕ} (replicate (body_length n) 63) (p / 6) 0 (omega (arith, k)) in no_bit (get_or (replicate (body_length n) 63) (p / 6) 0) (p % 6) (omega arith) (omega (arith, z))
  ];
}

-- one edge more
pub AreMarked-more : (n : ℕ) (body new : List ℕ) (edges : List Ends) (i : ℕ) (d e : Ends) → AreMarked n body edges i → i < length edges → get_or edges i d ≡ e → length new ≡ length body → All IsLineByte new → ((p : ℕ) → is_set new p ≡ (is_set body p || (p == pair_place e.a.0 e.b.0))) → AreMarked n new edges (i + 1)
AreMarked-more n body new edges i d e marked l at long bytes bits = record {
  long = long ∙ marked.long;
  bytes = bytes;
  bits = λ p.
      let test : Ends → Bool = λ x. pair_place x.a.0 x.b.0 == p in
      bits p ∙ (ap₂ ◌||◌ (marked.bits p) (turned p (pair_place e.a.0 e.b.0) ∙ ap test (sym at)) ∙ sym (list_any_more test edges i d l));
}
  where
    turned : (p q : ℕ) → (p == q) ≡ (q == p)
    turned p q = elim (cases_eq p q) [ inl h ↦ eq-eqb p q h ∙ sym (eq-eqb q p (sym h)) | inr h ↦ ne_eqb p q h ∙ sym (ne_eqb q p (λ k. h (sym k))) ]

Contains-map : (es : List Ends) (e : Ends) → Contains es e → Contains (map edge_of es) (edge_of e)
Contains-map es e h = (h.0, omega (arith, h.1, length-map es edge_of), get_or-map edge_of es h.0 e (edge_of e) h.1 ∙ ap edge_of h.2)

-- the ends of an edge among them
pub ends_at : (n : ℕ) (edges : List Ends) (i : ℕ) (e : Ends) → AreEdges n (map edge_of edges) → i < length edges → get_or edges i e ≡ e → (e.a.0 < e.b.0) × (e.b.0 < n)
ends_at n edges i e are l at = All-contains (λ (x : Edge). (x.0 < x.1) × (x.1 < n)) (map edge_of edges) (edge_of e) are.ends (Contains-map edges e (i, l, at))

Contains-unmap : (es : List Ends) (x : Edge) → Contains (map edge_of es) x → (e : Ends) × Contains es e × (edge_of e ≡ x)
Contains-unmap [] x h = absurd (Contains-none x h)
Contains-unmap (e ∷ es) x h = elim (Contains-cases (edge_of e) (map edge_of es) x h) [
  | inl q ↦ (e, Contains-first e es, q)
  | inr k ↦ let r = Contains-unmap es x k in (r.0, Contains-later e es r.0 r.1, r.2)
]

-- the first i edges are all
pub AreMarked-done : (n : ℕ) (body : List ℕ) (edges : List Ends) (i : ℕ) → AreMarked n body edges i → length edges ≤ i → AreEdges n (map edge_of edges) → IsBody n body × (edges_of n body ≡ map edge_of edges)
AreMarked-done n body edges i marked l are =
    let all = take_all i edges l in
    let bits : (p : ℕ) → is_set body p ≡ list_any (λ (e : Ends). pair_place e.a.0 e.b.0 == p) edges = λ p. marked.bits p ∙ ap (list_any (λ (e : Ends). pair_place e.a.0 e.b.0 == p)) all in
    let ends : (e : Ends) → Contains edges e → (e.a.0 < e.b.0) × (e.b.0 < n) = λ e h. All-contains (λ (x : Edge). (x.0 < x.1) × (x.1 < n)) (map edge_of edges) (edge_of e) are.ends (Contains-map edges e h) in (
      record {
        long = marked.long;
        bytes = marked.bytes;
        padding = λ p m. bits p ∙ any-none (λ (e : Ends). pair_place e.a.0 e.b.0 == p) edges (λ e h. let o = ends e h in let b = pair_place-lt e.a.0 e.b.0 n o.0 o.1 in ne_eqb (pair_place e.a.0 e.b.0) p (omega arith));
      },
      edges_by_bits n body (map edge_of edges) are (λ u v o m. bits (pair_place u v) ∙ both_ways (list_any (λ (e : Ends). pair_place e.a.0 e.b.0 == pair_place u v) edges) (list_any (joins u v) (map edge_of edges))
          (λ h.
          let r = any-gives (λ (e : Ends). pair_place e.a.0 e.b.0 == pair_place u v) edges h in
          let e = r.0 in
          let b = ends e r.1 in
          let q = one_pair e.a.0 e.b.0 u v b.0 o (eqb-true (pair_place e.a.0 e.b.0) (pair_place u v) r.2) in
          let same : edge_of e ≡ (u, v) = ap₂ (λ x y. let p : Edge = (x, y) in p) q.0 q.1 in
          joined_by u v (map edge_of edges) (subst (λ (x : Edge). Contains (map edge_of edges) x) same (Contains-map edges e r.1)))
          (λ h.
          let c = joined_is n u v (map edge_of edges) are (omega arith) h in
          let r = Contains-unmap edges (u, v) c.0 in
          any-from (λ (e : Ends). pair_place e.a.0 e.b.0 == pair_place u v) edges r.0 r.1 (eq-eqb (pair_place r.0.a.0 r.0.b.0) (pair_place u v) (ap (λ (x : Edge). pair_place x.0 x.1) r.2)))),
    )
