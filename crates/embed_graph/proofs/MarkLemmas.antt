-- Edges as bits, set one by one, and what follows where they are those of a graph.
use Rattle.std.proofs.Common.{◌≡◌, ◌≢◌, ℕ, ◌+◌, ◌/◌, ◌%◌, ◌^◌, ◌<◌, ◌≤◌, ◌==◌, ◌||◌, true, false, true≢false, List, [], ◌∷◌, ◌++◌, length, take, drop, get_or, replicate, set, All, AllPairs, Contains, sym, ap, ◌∙◌, subst, inl, inr, arith, eqb-true, eq-eqb}
use Rattle.std.specs.List.{list_any}
use Rattle.std.proofs.lemmas.Bool.{cases_eq, cases_lt, or_cases, or_left, or_right, false_from_ne_true}
use Rattle.std.proofs.lemmas.List.{take-append-drop, take_more}
use Rattle.std.proofs.lemmas.List.Elements.{All-set, Contains-append_left, Contains-append_right, Contains-append_cases}
use Rattle.map_lists.specs.Lists.{Lists}
use Rattle.map_theory.specs.Maps.{HasDart, IsSimpleMap, list_of}
use Rattle.map_theory.proofs.EntryLemmas.{AllPairs-left, parts_apart}
use Rattle.graphs.specs.Graphs.{EdgeGraph, AreEdges, joins, has_edge}
use Rattle.graphs.specs.Bits.{IsLineByte, pair_place, body_length, is_set, edges_of}
use Rattle.graphs.proofs.BitLemmas.{range-with_bit, bits-with_bit, is_set-set, one_pair, pair_place-lt, body_length-bounds}
use Rattle.graphs.proofs.PairLemmas.{Contains-first, Contains-cases, Contains-none}
use Rattle.graphs.proofs.EdgeLemmas.{AreMarked-begin, AreEdges-edges_of, joined_as_bit, joined_is, has_edge-turned}
use Rattle.embed_theorem.specs.Expanded.{HasJustEdges}
use Rattle.embed_graph.specs.Marks.{AreBytes, Adds, Marks}

-- the byte of a pair
pub place_within : (n u v : ℕ) (body : List ℕ) → AreBytes n body → u < v → v < n → pair_place u v / 6 < length body
place_within n u v body bytes l m =
    let place = pair_place-lt u v n l m in
    let bounds = body_length-bounds n in
    let long = bytes.long in
    omega arith

-- ---- a byte with one bit more
pub bytes-put : (body : List ℕ) (place : ℕ) → place / 6 < length body → All IsLineByte body → is_set body place ≡ false → All IsLineByte (set body (place / 6) (get_or body (place / 6) 0 + 32 / 2 ^ (place % 6)))
unfolding is_set
bytes-put body place within bytes unset =
    All-set (λ b. IsLineByte b) body (place / 6) (get_or body (place / 6) 0 + 32 / 2 ^ (place % 6)) (range-with_bit (get_or body (place / 6) 0) (place % 6) (bytes (place / 6) 0 within) (omega arith) unset) bytes

pub bits-put : (body : List ℕ) (place : ℕ) → place / 6 < length body → All IsLineByte body → is_set body place ≡ false → (p : ℕ) → is_set (set body (place / 6) (get_or body (place / 6) 0 + 32 / 2 ^ (place % 6))) p ≡ (is_set body p || (p == place))
unfolding is_set
bits-put body place within bytes unset =
    is_set-set body place (get_or body (place / 6) 0 + 32 / 2 ^ (place % 6)) within (bits-with_bit (get_or body (place / 6) 0) (place % 6) (bytes (place / 6) 0 within) (omega arith) unset)

-- ---- the bits of one vertex
pub Adds-nil : (v : ℕ) (body : List ℕ) → Adds v [] body body
Adds-nil v body = record { kept = λ p h. h; from = λ p h. inl h; all = λ u l c. absurd (Contains-none u c) }

pub Adds-none : (u v : ℕ) (body : List ℕ) → v ≤ u → Adds v (u ∷ []) body body
Adds-none u v body past = record {
  kept = λ p h. h;
  from = λ p h. inl h;
  all = λ w l c. elim (Contains-cases u [] w c) [ inl e ↦ absurd (omega (arith, e, l, past)) | inr d ↦ absurd (Contains-none w d) ];
}

pub Adds-one : (u v : ℕ) (old new : List ℕ) → u < v → ((p : ℕ) → is_set new p ≡ (is_set old p || (p == pair_place u v))) → Adds v (u ∷ []) old new
Adds-one u v old new less bits = record {
  kept = λ p h. bits p ∙ or_left (is_set old p) (p == pair_place u v) h;
  from = λ p h. elim (or_cases (is_set old p) (p == pair_place u v) (sym (bits p) ∙ h)) [
    | inl o ↦ inl o
    | inr e ↦ inr (u, less, Contains-first u [], sym (eqb-true p (pair_place u v) e))
  ];
  all = λ w l c. elim (Contains-cases u [] w c) [
    | inl e ↦
        let here = bits (pair_place w v) in
        let same = ap (λ x. pair_place x v) (sym e) in
        here ∙ or_right (is_set old (pair_place w v)) (pair_place w v == pair_place u v) (eq-eqb (pair_place w v) (pair_place u v) same)
    | inr d ↦ absurd (Contains-none w d)
  ];
}

pub Adds-more : (v : ℕ) (list : List ℕ) (u : ℕ) (old mid new : List ℕ) → Adds v list old mid → Adds v (u ∷ []) mid new → Adds v (list ++ u ∷ []) old new
Adds-more v list u old mid new a b = record {
  kept = λ p h. b.kept p (a.kept p h);
  from = λ p h. elim (b.from p h) [
    | inl m ↦ elim (a.from p m) [ inl o ↦ inl o | inr w ↦ inr (w.0, w.1, Contains-append_left list (u ∷ []) w.0 w.2, w.3) ]
    | inr w ↦ inr (w.0, w.1, Contains-append_right list (u ∷ []) w.0 w.2, w.3)
  ];
  all = λ x l c. elim (Contains-append_cases list (u ∷ []) x c) [ inl d ↦ b.kept (pair_place x v) (a.all x l d) | inr d ↦ b.all x l d ];
}

-- the bit of a vertex that is yet to come in a list which has it once
pub Adds-unset : (v : ℕ) (list : List ℕ) (i : ℕ) (old new : List ℕ) → AllPairs ◌≢◌ list → i < length list → Adds v (take i list) old new → ((u : ℕ) → u < v → is_set old (pair_place u v) ≡ false) → get_or list i 0 < v → is_set new (pair_place (get_or list i 0) v) ≡ false
Adds-unset v list i old new once within adds unset less =
    let u = get_or list i 0 in
    let front = take i list in
    let whole = subst (AllPairs ◌≢◌) (sym (take-append-drop (i + 1) list)) once in
    let apart = parts_apart front (u ∷ []) (subst (AllPairs ◌≢◌) (take_more list i 0 within) (AllPairs-left (take (i + 1) list) (drop (i + 1) list) whole)) in
    false_from_ne_true (is_set new (pair_place u v)) (λ h. elim (adds.from (pair_place u v) h) [
      | inl o ↦ absurd (true≢false (sym o ∙ unset u less))
      | inr w ↦
          let same = one_pair w.0 v u v w.1 less w.3 in
          absurd (apart u (subst (λ (x : ℕ). Contains front x) same.0 w.2) (Contains-first u []))
    ])

-- ---- the bits of all vertices
pub Marks-unset : (lists : Lists) (v : ℕ) (body : List ℕ) → Marks lists v body → (u : ℕ) → u < v → is_set body (pair_place u v) ≡ false
Marks-unset lists v body marks u less =
    false_from_ne_true (is_set body (pair_place u v)) (λ h.
    let w = marks.from (pair_place u v) h in
    let same = one_pair w.0 w.1 u v w.2 less w.5 in
    omega (arith, w.3, same.1))

pub AreBytes-none : (n : ℕ) → AreBytes n (replicate (body_length n) 63)
AreBytes-none n = let h = AreMarked-begin n [] in record { long = h.long; bytes = h.bytes }

pub Marks-none : (lists : Lists) (n : ℕ) → Marks lists 0 (replicate (body_length n) 63)
Marks-none lists n = record {
  from = λ p h. absurd (true≢false (sym h ∙ (AreMarked-begin n []).bits p));
  all = λ u v l m d. absurd (omega (arith, m));
}

pub Marks-more : (lists : Lists) (v : ℕ) (old new : List ℕ) → v < length lists → Marks lists v old → Adds v (list_of lists v) old new → Marks lists (v + 1) new
Marks-more lists v old new within marks adds = record {
  from = λ p h. elim (adds.from p h) [
    | inl o ↦ let w = marks.from p o in (w.0, w.1, w.2, omega (arith, w.3), w.4, w.5)
    | inr w ↦ (w.0, v, w.1, omega arith, (within, w.2), w.3)
  ];
  all = λ u x l m d. elim (cases_eq x v) [
    | inl e ↦
        subst (λ (y : ℕ). is_set new (pair_place u y) ≡ true) (sym e) (adds.all u (omega (arith, l, e)) (subst (λ (y : ℕ). Contains (list_of lists y) u) e d.1))
    | inr ne ↦ adds.kept (pair_place u x) (marks.all u x l (omega (arith, m, ne)) d)
  ];
}

-- ---- the same bits as a graph has
module _ (graph : EdgeGraph) (lists : Lists) (body : List ℕ) (simple : IsSimpleMap lists) (vertices : length lists ≡ graph.n) (edges : graph.edges ≡ edges_of graph.n body) (marks : Marks lists graph.n body) where
  as_bit : (u v : ℕ) → u < v → v < graph.n → has_edge graph u v ≡ is_set body (pair_place u v)
  as_bit u v l m = ap (λ es. list_any (joins u v) es) edges ∙ joined_as_bit graph.n body u v l m

  are_edges : AreEdges graph.n graph.edges
  are_edges = subst (AreEdges graph.n) (sym edges) (AreEdges-edges_of graph.n body)

  up : (u v : ℕ) → u < v → HasDart lists v u → has_edge graph u v ≡ true
  up u v l d =
      let m : v < graph.n = omega (arith, d.0, vertices) in
      as_bit u v l m ∙ marks.all u v l m d

  there : (u v : ℕ) → HasDart lists u v → has_edge graph u v ≡ true
  there u v d = elim (cases_lt u v) [
    | inl l ↦ up u v l (simple.both_ways u v d)
    | inr l ↦
        let ne = simple.no_loop u v d in
        has_edge-turned graph u v ∙ up v u (omega (arith, l, ne)) d
  ]

  down : (u v : ℕ) → u ≤ v → has_edge graph u v ≡ true → HasDart lists v u
  down u v l h =
      let c = joined_is graph.n u v graph.edges are_edges l h in
      let w = marks.from (pair_place u v) (sym (as_bit u v c.1 c.2) ∙ h) in
      let q = one_pair w.0 w.1 u v w.2 c.1 w.5 in
      subst (λ (x : ℕ). HasDart lists v x) q.0 (subst (λ (y : ℕ). HasDart lists y w.0) q.1 w.4)

  every : (u v : ℕ) → has_edge graph u v ≡ true → HasDart lists u v
  every u v h = elim (cases_lt u v) [
    | inl l ↦ simple.both_ways v u (down u v (omega (arith, l)) h)
    | inr l ↦ down v u l (has_edge-turned graph v u ∙ h)
  ]

  pub has_just_edges : HasJustEdges lists graph
  has_just_edges = record { vertices = vertices; there = there; all = every }
