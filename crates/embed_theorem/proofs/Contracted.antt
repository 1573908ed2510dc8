-- An edge contracted: the lists that are left, and witnesses lifted out of them.
use Rattle.std.proofs.Common.{◌≡◌, ◌≢◌, ◌&&◌, ◌||◌, ℕ, ◌<◌, Bool, true, not, eqb, length, refl, sym, ap, subst, inl, inr}
use Rattle.std.proofs.lemmas.Bool.{and_from, and_parts, not-true, or_cases, or_left, or_right, eq-eqb, ne_eqb, eqb-true, eqb-false}
use Rattle.map_lists.specs.Lists.{Lists}
use Rattle.map_theory.specs.Maps.{HasDart, IsSimpleMap}
use Rattle.embed_surgery.proofs.UnionLists.{has_dart, has_dart-is, HasDart-from}
use Rattle.embed_contraction.specs.Linked.{HasEdge}
use Rattle.embed_contraction.proofs.Lifted.{lifted_witness}
use Rattle.embed_contraction.specs.Traces.{HasWitness}
use Rattle.embed_theorem.specs.Expanded.{IsContractedInto}
use Rattle.embed_theorem.proofs.Graphs.{lists_of, length-lists_of, HasDart-lists_of, lists_of-dart, IsSimpleMap-lists_of, live_less, live}
use Rattle.embed_theorem.specs.ListGraphs.{graph_of}
use Rattle.embed_theorem.proofs.GraphLemmas.{has_edge-from, has_edge-is}
use Rattle.std.specs.Prelude.{◌⊎◌, ◌↔◌}

-- a and b are two vertices other than y that an edge joins, or one of y where x stands for y
pub record IsMoved (lists : Lists) (x y a b : ℕ) : Type 0 where
  pub two : a ≢ b
  pub first : a ≢ y
  pub second : b ≢ y
  pub dart : HasDart lists a b ⊎ (((a ≡ x) × HasDart lists y b) ⊎ ((b ≡ x) × HasDart lists a y))

-- new has just these edges: y has left, and x has the neighbours of both
pub record AreContracted (lists new : Lists) (x y : ℕ) : Type 0 where
  pub simple : IsSimpleMap new
  pub vertices : length new ≡ length lists
  pub darts : (a b : ℕ) → HasDart new a b ↔ IsMoved lists x y a b

module _ (lists small : Lists) (x y : ℕ) (edge : HasDart lists x y) (simple : IsSimpleMap lists) (con : AreContracted lists small x y) where
  x_y : x ≢ y
  x_y e = simple.no_loop x y edge (sym e)

  small_old : (a b : ℕ) → HasDart small a b → IsMoved lists x y a b
  small_old a b = (con.darts a b).0

  live_old : (z : ℕ) → HasEdge small z → HasEdge lists z
  live_old z h =
      elim (small_old z h.0 h.1).dart [
        | inl d ↦ (h.0, d)
        | inr r ↦ elim r [ inl g ↦ subst (HasEdge lists) (sym g.0) (y, edge) | inr g ↦ (y, g.1) ]
      ]

  -- y has no edge any more
  pub contracted_less : live small < live lists
  contracted_less = live_less small lists con.vertices live_old y (x, simple.both_ways x y edge) (λ h. (small_old y h.0 h.1).first refl)

  pub contracted_into : IsContractedInto (graph_of lists) (graph_of small) x y
  contracted_into = record {
    vertices = con.vertices;
    left = λ a b e. let m = small_old a b (has_edge-is small con.simple a b e) in (m.first, m.second);
    edges = λ a b e. elim (small_old a b (has_edge-is small con.simple a b e)).dart [
      | inl d ↦ inl (has_edge-from lists a b d)
      | inr r ↦ elim r [ inl h ↦ inr (inl (h.0, has_edge-from lists y b h.1)) | inr h ↦ inr (inr (h.0, has_edge-from lists a y h.1)) ]
    ];
    kept = λ a b na nb e.
        let d = has_edge-is lists simple a b e in
        has_edge-from small a b ((con.darts a b).1 (record { two = λ q. simple.no_loop a b d (sym q); first = na; second = nb; dart = inl d }));
    moved = λ b nb e.
        let d = has_edge-is lists simple y b e in
        has_edge-from small x b ((con.darts x b).1 (record { two = λ q. nb (sym q); first = x_y; second = simple.no_loop y b d; dart = inr (inl (refl, d)) }));
  }

  -- a witness of the contracted graph is lifted
  pub contracted_witness : HasWitness (graph_of small) → HasWitness (graph_of lists)
  contracted_witness w =
      lifted_witness (graph_of lists) (graph_of small) x y (λ z. z) record { first = edge.0; second = (simple.both_ways x y edge).0; two = x_y; joined = has_edge-from lists x y edge }
      record { within = λ v l. subst (λ n. v < n) con.vertices l; apart = λ u v e. e; off = λ a b e. (contracted_into.left a b e).0; edges = contracted_into.edges } w

moved-turned : (lists : Lists) → IsSimpleMap lists → (x y a b : ℕ) → IsMoved lists x y a b → IsMoved lists x y b a
moved-turned lists simple x y a b m = record {
  two = λ e. m.two (sym e);
  first = m.second;
  second = m.first;
  dart = elim m.dart [
    | inl d ↦ inl (simple.both_ways a b d)
    | inr r ↦ elim r [ inl h ↦ inr (inr (h.0, simple.both_ways y b h.1)) | inr h ↦ inr (inl (h.0, simple.both_ways a y h.1)) ]
  ];
}

moved_within : (lists : Lists) → IsSimpleMap lists → (x y : ℕ) → HasDart lists x y → (a b : ℕ) → IsMoved lists x y a b → a < length lists
moved_within lists simple x y edge a b m =
    elim m.dart [
      | inl d ↦ d.0
      | inr r ↦ elim r [ inl h ↦ subst (λ z. z < length lists) (sym h.0) edge.0 | inr h ↦ h.1.0 ]
    ]

-- the lists of a test that tells such edges
pub contracted_by : (lists : Lists) → IsSimpleMap lists → (x y : ℕ) → HasDart lists x y → (t : ℕ → ℕ → Bool) → ((a b : ℕ) → t a b ≡ true → IsMoved lists x y a b) → ((a b : ℕ) → IsMoved lists x y a b → t a b ≡ true) → AreContracted lists (lists_of (length lists) t) x y
contracted_by lists simple x y edge t is from = record {
  simple = IsSimpleMap-lists_of (length lists) t simple.some_vertex (λ a b e. from b a (moved-turned lists simple x y a b (is a b e))) (λ a b e. (is a b e).two);
  vertices = length-lists_of (length lists) t;
  darts = λ a b. (
    λ d. is a b (lists_of-dart (length lists) t a b d).2,
    λ m. HasDart-lists_of (length lists) t a b (moved_within lists simple x y edge a b m) (moved_within lists simple x y edge b a (moved-turned lists simple x y a b m)) (from a b m),
  );
}

module _ (lists : Lists) (x y : ℕ) where
  T : ℕ → ℕ → Bool
  T a b = has_dart lists (a, b)

  -- such a test
  pub moved_test : ℕ → ℕ → Bool
  moved_test a b = (not (eqb a b) && (not (eqb a y) && not (eqb b y))) && (T a b || ((eqb a x && T y b) || (eqb b x && T a y)))

  pub moved-is : (a b : ℕ) → moved_test a b ≡ true → IsMoved lists x y a b
  unfolding moved_test T
  moved-is a b t =
      let p = and_parts (not (eqb a b) && (not (eqb a y) && not (eqb b y))) (T a b || ((eqb a x && T y b) || (eqb b x && T a y))) t in
      let q = and_parts (not (eqb a b)) (not (eqb a y) && not (eqb b y)) p.0 in
      let r = and_parts (not (eqb a y)) (not (eqb b y)) q.1 in
      record {
        two = eqb-false a b (not-true (eqb a b) q.0);
        first = eqb-false a y (not-true (eqb a y) r.0);
        second = eqb-false b y (not-true (eqb b y) r.1);
        dart = elim (or_cases (T a b) ((eqb a x && T y b) || (eqb b x && T a y)) p.1) [
          | inl h ↦ inl (HasDart-from lists a b h)
          | inr h ↦ elim (or_cases (eqb a x && T y b) (eqb b x && T a y) h) [
            | inl g ↦ let k = and_parts (eqb a x) (T y b) g in inr (inl (eqb-true a x k.0, HasDart-from lists y b k.1))
            | inr g ↦ let k = and_parts (eqb b x) (T a y) g in inr (inr (eqb-true b x k.0, HasDart-from lists a y k.1))
          ]
        ];
      }

  pub moved-from : (a b : ℕ) → IsMoved lists x y a b → moved_test a b ≡ true
  unfolding moved_test T
  moved-from a b m =
      and_from (not (eqb a b) && (not (eqb a y) && not (eqb b y))) (T a b || ((eqb a x && T y b) || (eqb b x && T a y)))
      (and_from (not (eqb a b)) (not (eqb a y) && not (eqb b y)) (ap not (ne_eqb a b m.two)) (and_from (not (eqb a y)) (not (eqb b y)) (ap not (ne_eqb a y m.first)) (ap not (ne_eqb b y m.second))))
      (elim m.dart [
        | inl d ↦ or_left (T a b) ((eqb a x && T y b) || (eqb b x && T a y)) (has_dart-is lists a b d)
        | inr r ↦ or_right (T a b) ((eqb a x && T y b) || (eqb b x && T a y)) (elim r [
          | inl h ↦ or_left (eqb a x && T y b) (eqb b x && T a y) (and_from (eqb a x) (T y b) (eq-eqb a x h.0) (has_dart-is lists y b h.1))
          | inr h ↦ or_right (eqb a x && T y b) (eqb b x && T a y) (and_from (eqb b x) (T a y) (eq-eqb b x h.0) (has_dart-is lists a y h.1))
        ])
      ])
