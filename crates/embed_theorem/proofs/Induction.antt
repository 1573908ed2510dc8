-- Kuratowski's theorem, by induction on the number of vertices that have edges.
use Rattle.std.proofs.Common.{◌≡◌, ◌≢◌, ◌⊎◌, ℕ, zero, suc, ◌<◌, Bool, true, cond, ltb, List, [], ◌∷◌, length, Contains, refl, sym, ◌∙◌, inl, inr, arith, lt-ltb, le-ltb}
use Rattle.std.proofs.lemmas.Bool.{cases_lt, cond-true, cond-false}
use Rattle.classes.specs.Classes.{same_class}
use Rattle.map_lists.specs.Lists.{Lists}
use Rattle.map_theory.specs.Maps.{HasDart, IsSimpleMap, component_classes, SameComponent}
use Rattle.plane_peeling.proofs.Rings.{each_of_two, each_of_three}
use Rattle.plane_peeling.proofs.RestrictedMaps.{cases_Contains}
use Rattle.graphs.specs.Graphs.{has_edge}
use Rattle.graphs.proofs.EdgeLemmas.{has_edge-turned}
use Rattle.embed_contraction.specs.Linked.{HasEdge, IsThreeLinked, IsLinkedWithout, without_vertices}
use Rattle.embed_contraction.proofs.Parts.{all_or_one, closed_part, cases_part, cases_edge, part-chained, part-itself, rest-simple, rest-length, rest-old, rest-together}
use Rattle.embed_contraction.proofs.Growth.{contractible_edge}
use Rattle.embed_theorem.specs.Expanded.{HasFour}
use Rattle.embed_theorem.proofs.Expanded.{expanded_edge}
use Rattle.embed_theorem.proofs.Refuted.{witnesses_refute}
use Rattle.embed_theorem.specs.Embedding.{MapOrWitness, PlanarExactly}
use Rattle.embed_theorem.proofs.Graphs.{just_edges, lists_of, length-lists_of, HasDart-lists_of, lists_of-dart, IsSimpleMap-lists_of, witness_more, Result, live}
use Rattle.embed_theorem.proofs.Contracted.{contracted_less, contracted_into, contracted_witness, contracted_by, moved_test, moved-is, moved-from}
use Rattle.embed_theorem.proofs.Sides.{Smaller}
use Rattle.embed_theorem.proofs.TwoSides.{separated_sides}
use Rattle.embed_theorem.proofs.Base.{empty_plane, edge_map, triangle_map}
use Rattle.embed_theorem.specs.ListGraphs.{graph_of}
use Rattle.embed_theorem.proofs.GraphLemmas.{has_edge-from, has_edge-is}

-- ---- two vertices that part, or none
-- four different numbers are not among three
pub four_in_three : (a b c x y z w : ℕ) → (x ≡ a) ⊎ ((x ≡ b) ⊎ (x ≡ c)) → (y ≡ a) ⊎ ((y ≡ b) ⊎ (y ≡ c)) → (z ≡ a) ⊎ ((z ≡ b) ⊎ (z ≡ c)) → (w ≡ a) ⊎ ((w ≡ b) ⊎ (w ≡ c)) → x ≢ y → x ≢ z → x ≢ w → y ≢ z → y ≢ w → z ≢ w → ⊥
four_in_three a b c x y z w hx hy hz hw xy xz xw yz yw zw = grind arith

-- a number past the vertices stands for none
capped : ℕ → ℕ → ℕ
capped n u = cond (ltb u n) u n

capped-le : (n u : ℕ) → capped n u < suc n
unfolding capped
capped-le n u = grind (arith, cases_lt, cond-true, ltb, lt-ltb, cond-false, le-ltb)

capped-is : (n u z : ℕ) → z < n → (z ≡ u → z ≡ capped n u) × (z ≡ capped n u → z ≡ u)
unfolding capped
capped-is n u z l = grind (arith, cases_lt, cond-true, ltb, lt-ltb, cond-false, le-ltb)

pub in_two : (a b z : ℕ) → Contains (a ∷ b ∷ []) z → (z ≡ a) ⊎ (z ≡ b)
in_two a b z c = each_of_two (λ w. w ≡ z → (z ≡ a) ⊎ (z ≡ b)) a b (λ e. inl (sym e)) (λ e. inr (sym e)) z c refl

pub in_three : (a b c z : ℕ) → Contains (a ∷ b ∷ c ∷ []) z → (z ≡ a) ⊎ ((z ≡ b) ⊎ (z ≡ c))
in_three a b c z h = each_of_three (λ w. w ≡ z → (z ≡ a) ⊎ ((z ≡ b) ⊎ (z ≡ c))) a b c (λ e. inl (sym e)) (λ e. inr (inl (sym e))) (λ e. inr (inr (sym e))) z h refl

record AreSeparatedBy (lists : Lists) (u v s t : ℕ) : Type 0 where
  live_s : HasEdge lists s
  live_t : HasEdge lists t
  off_s : ¬ Contains (u ∷ v ∷ []) s
  off_t : ¬ Contains (u ∷ v ∷ []) t
  far : ¬ SameComponent (without_vertices (u ∷ v ∷ []) lists) s t

abbrev Some : Lists → ℕ → ℕ → Type 0
Some lists u v = (s : ℕ) × (t : ℕ) × AreSeparatedBy lists u v s t

cases_two : (lists : Lists) (u v : ℕ) → IsLinkedWithout lists (u ∷ v ∷ []) ⊎ Some lists u v
cases_two lists u v =
    elim (all_or_one (λ s. HasEdge lists s → ¬ Contains V s → (t : ℕ) → HasEdge lists t → ¬ Contains V t → SameComponent G s t) (λ s. (t : ℕ) × AreSeparatedBy lists u v s t) (length lists) each) [
      | inl all ↦ inl (λ s t hs ht os ot. all s hs.1.0 hs os t ht ot)
      | inr r ↦ inr (r.0, r.2.0, r.2.1)
    ]
  where
    V : List ℕ
    V = u ∷ v ∷ []

    G : Lists
    G = without_vertices V lists

    second : (s : ℕ) → HasEdge lists s → ¬ Contains V s → (t : ℕ) → t < length lists → (HasEdge lists t → ¬ Contains V t → SameComponent G s t) ⊎ AreSeparatedBy lists u v s t
    second s hs os t l =
        elim (cases_edge lists t l) [
          | inr none ↦ inl (λ h. absurd (none h))
          | inl ht ↦ elim (cases_Contains V t) [
            | inl c ↦ inl (λ _ o. absurd (o c))
            | inr ot ↦ grind (arith, cases_part)
          ]
        ]

    each : (s : ℕ) → s < length lists → (HasEdge lists s → ¬ Contains V s → (t : ℕ) → HasEdge lists t → ¬ Contains V t → SameComponent G s t) ⊎ ((t : ℕ) × AreSeparatedBy lists u v s t)
    each s l =
        elim (cases_edge lists s l) [
          | inr none ↦ inl (λ h. absurd (none h))
          | inl hs ↦ elim (cases_Contains V s) [
            | inl c ↦ inl (λ _ o. absurd (o c))
            | inr os ↦ elim (all_or_one (λ t. HasEdge lists t → ¬ Contains V t → SameComponent G s t) (AreSeparatedBy lists u v s) (length lists) (second s hs os)) [
              | inl all ↦ inl (λ _ _ t ht ot. all t ht.1.0 ht ot)
              | inr r ↦ inr (r.0, r.2)
            ]
          ]
        ]

cases_linked : (lists : Lists) → IsSimpleMap lists → IsThreeLinked lists ⊎ ((u : ℕ) × (v : ℕ) × Some lists u v)
cases_linked lists simple =
    elim (all_or_one (λ u. (v : ℕ) → v < suc n → IsLinkedWithout lists (u ∷ v ∷ [])) (λ u. (v : ℕ) × Some lists u v) (suc n) each) [
      | inr r ↦ inr (r.0, r.2.0, r.2.1)
      | inl all ↦ inl (λ u v s t hs ht os ot.
          let u' = capped n u in
          let v' = capped n v in
          let V = u ∷ v ∷ [] in
          let V' = u' ∷ v' ∷ [] in
          let back : (z : ℕ) → z < n → ¬ Contains V' z → ¬ Contains V z = λ z l o c. o (elim (in_two u v z c) [
            | inl e ↦ (0, omega arith, sym ((capped-is n u z l).0 e))
            | inr e ↦ (1, omega arith, sym ((capped-is n v z l).0 e))
          ]) in
          let on : (z : ℕ) → z < n → ¬ Contains V z → ¬ Contains V' z = λ z l o c. o (elim (in_two u' v' z c) [
            | inl e ↦ (0, omega arith, sym ((capped-is n u z l).1 e))
            | inr e ↦ (1, omega arith, sym ((capped-is n v z l).1 e))
          ]) in
          let same = all u' (capped-le n u) v' (capped-le n v) s t hs ht (on s hs.1.0 os) (on t ht.1.0 ot) in
          let len = rest-length lists simple V' in
          let G = without_vertices V lists in
          closed_part (without_vertices V' lists) (rest-simple lists simple V') (λ z. same_class (component_classes G) s z) (λ a b d q.
          let o = rest-old lists simple V' a b d in
          part-chained G s a b q (rest-together lists simple V a b o.0 (back a o.0.0 o.1) (back b (simple.in_range a b o.0) o.2))) s t (omega arith) (omega arith) same (part-itself G s))
    ]
  where
    n : ℕ
    n = length lists

    each : (u : ℕ) → u < suc n → ((v : ℕ) → v < suc n → IsLinkedWithout lists (u ∷ v ∷ [])) ⊎ ((v : ℕ) × Some lists u v)
    each u l =
        elim (all_or_one (λ v. IsLinkedWithout lists (u ∷ v ∷ [])) (Some lists u) (suc n) (λ v m. cases_two lists u v)) [
          | inl all ↦ inl all
          | inr r ↦ inr (r.0, r.2)
        ]

-- a vertex with an edge besides those of a list, or none
pub cases_besides : (lists : Lists) (vs : List ℕ) → ((z : ℕ) × HasEdge lists z × (¬ Contains vs z)) ⊎ ((z : ℕ) → HasEdge lists z → Contains vs z)
cases_besides lists vs =
    elim (all_or_one (λ z. HasEdge lists z → Contains vs z) (λ z. HasEdge lists z × (¬ Contains vs z)) (length lists) each) [
      | inl all ↦ inr (λ z h. all z h.1.0 h)
      | inr r ↦ inl (r.0, r.2.0, r.2.1)
    ]
  where
    each : (z : ℕ) → z < length lists → (HasEdge lists z → Contains vs z) ⊎ (HasEdge lists z × (¬ Contains vs z))
    each z l =
        elim (cases_edge lists z l) [
          | inr none ↦ inl (λ h. absurd (none h))
          | inl h ↦ elim (cases_Contains vs z) [ inl c ↦ inl (λ _. c) | inr o ↦ inr (h, o) ]
        ]

-- four vertices with edges, one of which is besides any three
pub four_of : (lists : Lists) (x y z w : ℕ) → HasEdge lists x → HasEdge lists y → HasEdge lists z → HasEdge lists w → x ≢ y → x ≢ z → x ≢ w → y ≢ z → y ≢ w → z ≢ w → HasFour lists
four_of lists x y z w hx hy hz hw xy xz xw yz yw zw a b c =
    elim (cases_Contains V x) [
      | inr o ↦ (x, hx, o)
      | inl cx ↦ elim (cases_Contains V y) [
        | inr o ↦ (y, hy, o)
        | inl cy ↦ elim (cases_Contains V z) [
          | inr o ↦ (z, hz, o)
          | inl cz ↦ grind (arith, cases_Contains, four_in_three, in_three)
        ]
      ]
    ]
  where
    V : List ℕ
    V = a ∷ b ∷ c ∷ []

-- no two vertices part the others
linked_result : (lists : Lists) (x y : ℕ) → IsSimpleMap lists → IsThreeLinked lists → HasDart lists x y → Smaller lists → Result lists
linked_result lists x y simple linked edge smaller =
    let back = simple.both_ways x y edge in
    let xy : x ≢ y = λ e. simple.no_loop x y edge (sym e) in
    elim (cases_besides lists (x ∷ y ∷ [])) [
      | inr all ↦ inr (edge_map lists simple x y edge (λ z h. in_two x y z (all z h)))
      | inl w ↦
          let wx : w.0 ≢ x = λ e. w.2 (0, omega arith, sym e) in
          let wy : w.0 ≢ y = λ e. w.2 (1, omega arith, sym e) in
          elim (cases_besides lists (x ∷ y ∷ w.0 ∷ [])) [
            | inr all ↦ inr (triangle_map lists simple x y edge w.0 w.1 wx wy linked (λ z h. in_three x y w.0 z (all z h)))
            | inl z ↦
                let zx : z.0 ≢ x = λ e. z.2 (0, omega arith, sym e) in
                let zy : z.0 ≢ y = λ e. z.2 (1, omega arith, sym e) in
                let zw : z.0 ≢ w.0 = λ e. z.2 (2, omega arith, sym e) in
                let four = four_of lists x y w.0 z.0 (y, edge) (x, back) w.1 z.1 xy (λ e. wx (sym e)) (λ e. zx (sym e)) (λ e. wy (sym e)) (λ e. zy (sym e)) (λ e. zw (sym e)) in
                let c = contractible_edge lists x y simple linked edge in
                let t = moved_test lists c.0 c.1 in
                let small = lists_of (length lists) t in
                let con = contracted_by lists simple c.0 c.1 c.2.edge t (moved-is lists c.0 c.1) (moved-from lists c.0 c.1) in
                elim (smaller small con.simple (contracted_less lists small c.0 c.1 c.2.edge simple con)) [
                  | inl w ↦ inl (contracted_witness lists small c.0 c.1 c.2.edge simple con w)
                  | inr m ↦ expanded_edge (graph_of lists) (graph_of small) lists c.0 c.1 simple (just_edges lists simple) linked four c.2 (contracted_into lists small c.0 c.1 c.2.edge simple con) m.0 m.1
                ]
          ]
    ]

solve : (lists : Lists) → IsSimpleMap lists → Smaller lists → Result lists
solve lists simple smaller =
    elim (cases_besides lists []) [
      | inr none ↦ inr (
        lists,
        record {
          simple = simple;
          plane = empty_plane lists simple (λ a b d. let c = none a (b, d) in omega (arith, c.1));
          edges = just_edges lists simple;
        },
      )
      | inl e ↦ elim (cases_linked lists simple) [
        | inl linked ↦ linked_result lists e.0 e.1.0 simple linked e.1.1 smaller
        | inr r ↦
            separated_sides lists r.0 r.1 r.2.0 r.2.1 simple r.2.2.live_s r.2.2.live_t r.2.2.off_s r.2.2.off_t r.2.2.far smaller
      ]
    ]

by_count : (n : ℕ) (lists : Lists) → IsSimpleMap lists → live lists < n → Result lists
by_count zero lists simple l = absurd (omega arith)
by_count (suc n) lists simple l = solve lists simple (λ part s m. by_count n part s (omega arith))

-- THE LAW: a map or a witness
pub map_or_witness : MapOrWitness
map_or_witness graph proper =
    let t : ℕ → ℕ → Bool = λ a b. has_edge graph a b in
    let lists = lists_of graph.n t in
    let turn : (a b : ℕ) → t a b ≡ true → t b a ≡ true = λ a b e. has_edge-turned graph b a ∙ e in
    let simple = IsSimpleMap-lists_of graph.n t proper.some turn proper.two in
    let n = length-lists_of graph.n t in
    let there : (a b : ℕ) → HasDart lists a b → has_edge graph a b ≡ true = λ a b d. (lists_of-dart graph.n t a b d).2 in
    let all : (a b : ℕ) → has_edge graph a b ≡ true → HasDart lists a b = λ a b e. HasDart-lists_of graph.n t a b (proper.within a b e) (proper.within b a (turn a b e)) e in
    elim (by_count (suc (live lists)) lists simple (omega arith)) [
      | inl w ↦ inl (witness_more (graph_of lists) graph n (λ a b e. there a b (has_edge-is lists simple a b e)) w)
      | inr m ↦ inr (
        m.0,
        record {
          simple = m.1.simple;
          plane = m.1.plane;
          edges = record {
            vertices = m.1.edges.vertices ∙ n;
            there = λ a b d. there a b (has_edge-is lists simple a b (m.1.edges.there a b d));
            all = λ a b e. m.1.edges.all a b (has_edge-from lists a b (all a b e));
          };
        },
      )
    ]

-- THE LAW: a map exactly where there is no witness
pub planar_exactly : PlanarExactly
planar_exactly graph proper = (
  λ m w. witnesses_refute graph w.0 w.1 w.2 w.3 m.0 m.1.simple m.1.plane m.1.edges.all,
  λ none. elim (map_or_witness graph proper) [ inl w ↦ absurd (none w) | inr m ↦ m ],
)
