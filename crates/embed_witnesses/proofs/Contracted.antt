-- The contracted graph is three-connected where no third vertex separates the others together with the ends of the edge.
use Rattle.std.proofs.Common.{◌≡◌, ◌≢◌, ◌⊎◌, ℕ, ◌-◌, ◌<◌, ◌≤◌, true, not, nat_lt, nat_eq, eqb, if◌then◌else◌, List, [], ◌∷◌, Contains, refl, sym, ap, ap₂, ◌∙◌, subst, inl, inr, arith}
use Rattle.std.proofs.lemmas.Bool.{cases_eq, and_from, or_left, or_right, eq-eqb, ne_eqb}
use Rattle.std.proofs.lemmas.Bool.Decides.{nat_tests}
use Rattle.classes.specs.Classes.{same_class}
use Rattle.map_lists.specs.Lists.{Lists}
use Rattle.map_theory.specs.Maps.{HasDart, IsSimpleMap, component_classes, component_count, SameComponent}
use Rattle.map_theory.specs.Paths.{JoinsAvoiding}
use Rattle.plane_laws.proofs.ComponentPaths.{components_are_paths}
use Rattle.plane_laws.proofs.Completions.{one_component}
use Rattle.graphs.specs.Graphs.{EdgeGraph, IsGraph, has_edge}
use Rattle.convex_peeling.specs.Polyhedral.{IsThreeConnected}
use Rattle.conn_parts.specs.GraphLists.{graph_lists}
use Rattle.conn_parts.proofs.GraphLemmas.{length-graph_lists, IsSimpleMap-graph_lists, dart_edge, edge_dart}
use Rattle.embed_contraction.specs.Linked.{HasEdge, IsLinkedWithout, without_vertices}
use Rattle.embed_contraction.proofs.Parts.{closed_part, part-chained, part-itself, rest-simple, rest-length, rest-old, rest-together}
use Rattle.embed_contraction.specs.Contracted.{before_left, contracted_edge}
use Rattle.embed_witnesses.specs.ContractedEdges.{contraction}
use Rattle.embed_witnesses.proofs.ContractedLemmas.{AreEdges-filter, IsContraction-contraction, edge_within}
use Rattle.embed_witnesses.proofs.Avoiding.{path_ends, path-from_part, HasEdge-connected, linked_without_none}
use Rattle.embed_witnesses.proofs.ThreeLinked.{three_linked, in_one, in_two, in_three}

-- ---- numbers that fall
-- what a vertex becomes
abbrev pub down : ℕ → ℕ → ℕ → ℕ
down a b v = if nat_eq v b then a else if nat_lt v b then v else v - 1

pub down-there : (a b v : ℕ) → v ≡ b → down a b v ≡ a
down-there a b v e = grind (arith, nat_tests)

pub down-before : (a b v : ℕ) → a < b → down a b (before_left b v) ≡ v
down-before a b v l = grind (arith, nat_tests)

pub before-down : (a b v : ℕ) → a < b → v ≢ b → before_left b (down a b v) ≡ v
before-down a b v l n = grind (arith, nat_tests)

pub before-first : (a b : ℕ) → a < b → before_left b a ≡ a
before-first a b l = grind (arith, nat_tests)

pub down-lt : (a b v n : ℕ) → a < b → b < n → v < n → down a b v < n - 1
down-lt a b v n l m o = grind (arith, nat_tests)

pub before-lt : (b v n : ℕ) → v < n - 1 → before_left b v < n
before-lt b v n l = grind (arith, nat_tests)

pub before-not : (b v : ℕ) → before_left b v ≢ b
before-not b v e = grind (arith, nat_tests)

pub before-apart : (b u v : ℕ) → before_left b u ≡ before_left b v → u ≡ v
before-apart b u v e = grind (arith, nat_tests)

-- ---- the contracted graph
module _ (graph : EdgeGraph) (is : IsGraph graph) (a b : ℕ) (a_b : a < b) (joined : has_edge graph a b ≡ true) where
  abbrev L : Lists
  L = graph_lists graph

  abbrev small : EdgeGraph
  small = contraction graph a b

  abbrev S : Lists
  S = graph_lists small

  abbrev to : ℕ → ℕ
  to v = before_left b v

  abbrev D : ℕ → ℕ
  D v = down a b v

  in_b : b < graph.n
  in_b = (edge_within graph is.edges a b joined).1

  pub is_small : IsGraph small
  is_small =
      let few = is.few in
      record { few = omega arith; edges = AreEdges-filter (graph.n - 1) (λ e. contracted_edge graph a b e.0 e.1) }

  simple_small : IsSimpleMap S
  simple_small = let l = in_b in IsSimpleMap-graph_lists small is_small (omega arith)

  -- an edge stays one, where it is not contracted
  moved : (p q : ℕ) → has_edge graph p q ≡ true → D p ≢ D q → contracted_edge graph a b (D p) (D q) ≡ true
  moved p q e ne = grind (arith, to, has_edge, eqb, and_from, not, ne_eqb, cases_eq, or_left, or_right, eq-eqb, down-there, ap₂)

  step : (p q : ℕ) → HasDart L p q → D p ≢ D q → HasDart S (D p) (D q)
  step p q d ne =
      let l = in_b in
      let e = dart_edge graph is p q d in
      let in_n = edge_within graph is.edges p q e in
      let of = IsContraction-contraction graph a b (omega arith) in
      edge_dart small is_small (D p) (D q) (of.edges (D p) (D q) (down-lt a b p graph.n a_b l in_n.0) (down-lt a b q graph.n a_b l in_n.1) ∙ moved p q e ne)

  -- ws are the vertices that some of the contracted graph stand for
  record Covers (vs ws : List ℕ) : Type 0 where
    all : (x : ℕ) → Contains vs x → Contains ws (to x) × (x ≡ a → Contains ws b)
    only : (y : ℕ) → Contains ws y → (y ≡ b) ⊎ ((x : ℕ) × Contains vs x × (y ≡ to x))

  off_down : (vs ws : List ℕ) → Covers vs ws → (z : ℕ) → ¬ Contains ws z → ¬ Contains vs (D z)
  off_down vs ws c z o h =
      let u = c.all (D z) h in
      elim (cases_eq z b) [
        | inl e ↦ o (subst (Contains ws) (sym e) (u.1 (down-there a b z e)))
        | inr n ↦ o (subst (Contains ws) (before-down a b z a_b n) u.0)
      ]

  off_to : (vs ws : List ℕ) → Covers vs ws → (s : ℕ) → ¬ Contains vs s → ¬ Contains ws (to s)
  off_to vs ws c s o h =
      elim (c.only (to s) h) [
        | inl e ↦ before-not b s e
        | inr r ↦ o (subst (Contains vs) (sym (before-apart b s r.0 r.2)) r.1)
      ]

  -- what is together without these is so in the contracted graph
  projected : IsSimpleMap L → (vs ws : List ℕ) → Covers vs ws → (p q : ℕ) → p < graph.n → q < graph.n → SameComponent (without_vertices ws L) p q → SameComponent (without_vertices vs S) (D p) (D q)
  projected simple vs ws c p q lp lq same =
      let G = without_vertices vs S in
      let n = rest-length L simple ws in
      let m = length-graph_lists graph is in
      closed_part (without_vertices ws L) (rest-simple L simple ws) (λ z. same_class (component_classes G) (D p) (D z)) (λ z w d h.
      let o = rest-old L simple ws z w d in
      elim (cases_eq (D z) (D w)) [
        | inl e ↦ subst (λ x. same_class (component_classes G) (D p) x ≡ true) e h
        | inr ne ↦ part-chained G (D p) (D z) (D w) h (rest-together S simple_small vs (D z) (D w) (step z w o.0 ne) (off_down vs ws c z o.1) (off_down vs ws c w o.2))
      ]) p q (omega arith) (omega arith) same (part-itself G (D p))

  module _ (three : IsThreeConnected L) (five : 5 ≤ graph.n) where
    some_edge : (s : ℕ) → s < small.n → HasEdge L (to s)
    some_edge s l =
        let n = length-graph_lists graph is in
        HasEdge-connected L three.simple three.connected (omega arith) (to s) (omega (arith, before-lt b s graph.n l))

    path_between : (vs ws : List ℕ) → Covers vs ws → IsLinkedWithout L ws → (s t : ℕ) → s < small.n → t < small.n → ¬ Contains vs s → ¬ Contains vs t → (path : List ℕ) × JoinsAvoiding S vs s t path
    path_between vs ws c linked s t ls lt os ot =
        let n = length-graph_lists small is_small in
        let same = linked (to s) (to t) (some_edge s ls) (some_edge t lt) (off_to vs ws c s os) (off_to vs ws c t ot) in
        let p = projected three.simple vs ws c (to s) (to t) (before-lt b s graph.n ls) (before-lt b t graph.n lt) same in
        path-from_part S simple_small vs s t (omega arith) (omega arith) os
        (subst (λ x. SameComponent (without_vertices vs S) x t) (down-before a b s a_b) (subst (λ y. SameComponent (without_vertices vs S) (D (to s)) y) (down-before a b t a_b) p))

    connected : component_count S ≡ 1
    connected =
        let n = length-graph_lists small is_small in
        let none : (x : ℕ) → ¬ Contains [] x = λ x c. let some = c.1 in omega arith in
        one_component S simple_small (λ v l.
        let p = path_between [] [] record { all = λ x c. absurd (none x c); only = λ y c. absurd (none y c) } (linked_without_none L three.simple three.connected) 0 v (omega arith) (omega arith) (none 0) (none v) in
        (components_are_paths S 0 v simple_small (omega arith) l).1 p)

    -- one vertex
    linked_one : (v : ℕ) → (ws : List ℕ) × Covers (v ∷ []) ws × IsLinkedWithout L ws
    linked_one v =
        elim (cases_eq v a) [
          | inl e ↦ (
            a ∷ b ∷ [],
            record {
              all = λ x c. ((0, omega arith, sym (ap to (in_one v x c ∙ e) ∙ before-first a b a_b)), λ _. (1, omega arith, refl));
              only = λ y c. elim (in_two a b y c) [ inl q ↦ inr (v, (0, omega arith, refl), q ∙ (sym (before-first a b a_b) ∙ ap to (sym e))) | inr q ↦ inl q ];
            },
            three_linked L three a b,
          )
          | inr ne ↦ (
            to v ∷ to v ∷ [],
            record {
              all = λ x c. ((0, omega arith, sym (ap to (in_one v x c))), λ q. absurd (ne (sym (in_one v x c) ∙ q)));
              only = λ y c. inr (v, (0, omega arith, refl), elim (in_two (to v) (to v) y c) [ inl q ↦ q | inr q ↦ q ]);
            },
            three_linked L three (to v) (to v),
          )
        ]

    module _ (con : (w : ℕ) → HasEdge L w → w ≢ a → w ≢ b → IsLinkedWithout L (a ∷ b ∷ w ∷ [])) where
      -- the vertex of the edge and another
      linked_with : (w : ℕ) → w < small.n → w ≢ a → IsLinkedWithout L (a ∷ b ∷ to w ∷ [])
      linked_with w l n = con (to w) (some_edge w l) (λ e. n (before-apart b w a (e ∙ sym (before-first a b a_b)))) (before-not b w)

      covers_with : (u v w : ℕ) → ((x : ℕ) → Contains (u ∷ v ∷ []) x → (x ≡ a) ⊎ (x ≡ w)) → Contains (u ∷ v ∷ []) a → Contains (u ∷ v ∷ []) w → Covers (u ∷ v ∷ []) (a ∷ b ∷ to w ∷ [])
      covers_with u v w cases has_a has_w = record {
        all = λ x c. (
          elim (cases x c) [
            | inl e ↦ (0, omega arith, sym (ap to e ∙ before-first a b a_b))
            | inr e ↦ (2, omega arith, sym (ap to e))
          ],
          λ _. (1, omega arith, refl),
        );
        only = λ y c. elim (in_three a b (to w) y c) [
          | inl q ↦ inr (a, has_a, q ∙ sym (before-first a b a_b))
          | inr r ↦ elim r [ inl q ↦ inl q | inr q ↦ inr (w, has_w, q) ]
        ];
      }

      linked_two : (u v : ℕ) → u < v → v < small.n → (ws : List ℕ) × Covers (u ∷ v ∷ []) ws × IsLinkedWithout L ws
      linked_two u v l m =
          elim (cases_eq u a) [
            | inl e ↦ (
              a ∷ b ∷ to v ∷ [],
              covers_with u v v (λ x c. elim (in_two u v x c) [ inl q ↦ inl (q ∙ e) | inr q ↦ inr q ]) (0, omega arith, e) (1, omega arith, refl),
              linked_with v m (λ q. omega arith),
            )
            | inr nu ↦ elim (cases_eq v a) [
              | inl e ↦ (
                a ∷ b ∷ to u ∷ [],
                covers_with u v u (λ x c. elim (in_two u v x c) [ inl q ↦ inr q | inr q ↦ inl (q ∙ e) ]) (1, omega arith, e) (0, omega arith, refl),
                linked_with u (omega arith) nu,
              )
              | inr nv ↦ (
                to u ∷ to v ∷ [],
                record {
                  all = λ x c. elim (in_two u v x c) [
                    | inl q ↦ ((0, omega arith, sym (ap to q)), λ t. absurd (nu (sym q ∙ t)))
                    | inr q ↦ ((1, omega arith, sym (ap to q)), λ t. absurd (nv (sym q ∙ t)))
                  ];
                  only = λ y c. elim (in_two (to u) (to v) y c) [ inl q ↦ inr (u, (0, omega arith, refl), q) | inr q ↦ inr (v, (1, omega arith, refl), q) ];
                },
                three_linked L three (to u) (to v),
              )
            ]
          ]

      -- THE LAW: the contracted graph is three-connected
      pub contracted_three : IsThreeConnected S
      contracted_three =
          let n = length-graph_lists small is_small in
          record {
            simple = simple_small;
            some = omega arith;
            connected = connected;
            uncut = λ v cut.
                let p = cut.2 in
                let ends = path_ends S simple_small [] cut.0 cut.1 p.path p.joined in
                let r = linked_one v in
                let path = path_between (v ∷ []) r.0 r.1 r.2 cut.0 cut.1 (omega (arith, ends)) (omega (arith, ends)) p.s_off p.t_off in
                p.apart path.0 path.1;
            unpaired = λ u v pair.
                let l = pair.0 in
                let m = pair.1 in
                let s = pair.2 in
                let t = pair.3 in
                let p = pair.4 in
                let ends = path_ends S simple_small [] s t p.path p.joined in
                let r = linked_two u v l (omega arith) in
                let path = path_between (u ∷ v ∷ []) r.0 r.1 r.2 s t (omega (arith, ends)) (omega (arith, ends)) p.s_off p.t_off in
                p.apart path.0 path.1;
          }
