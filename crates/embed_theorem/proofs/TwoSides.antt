-- Two sides of a graph: they are glued, at a vertex or along an edge.
use Rattle.std.proofs.Common.{◌≡◌, ◌≢◌, ◌⊎◌, ◌&&◌, ◌||◌, ℕ, ◌<◌, Bool, true, not, List, [], ◌∷◌, length, Contains, refl, sym, ap, ◌∙◌, subst, inl, inr, arith}
use Rattle.std.proofs.lemmas.Bool.{cases_Bool, cases_eq, cases_lt, true≢false, and_from, and_parts, not-true, or_cases, or_left}
use Rattle.std.specs.Cmp.{both_ways}
use Rattle.std.proofs.Math.Bool.{and_comm, or_comm}
use Rattle.classes.specs.Classes.{label, same_class}
use Rattle.classes.proofs.Classes.{Together-from, label_past, label-lt, length-classes, same_class-from}
use Rattle.map_lists.specs.Lists.{Lists}
use Rattle.map_theory.specs.Maps.{HasDart, IsSimpleMap, darts, component_classes, SameComponent}
use Rattle.map_theory.proofs.DartPermutations.{IsLabels-components, edge_together}
use Rattle.plane_laws.specs.Kept.{with_kept, IsKeptMap}
use Rattle.plane_laws.proofs.KeptEdges.{kept_edges, length-with_kept}
use Rattle.plane_peeling.proofs.Rings.{each_of_two}
use Rattle.plane_peeling.proofs.RestrictedMaps.{cases_Contains}
use Rattle.embed_surgery.proofs.UnionLists.{has_dart, has_dart-is, HasDart-from}
use Rattle.embed_contraction.specs.Linked.{HasEdge, without_vertices, outside}
use Rattle.embed_contraction.proofs.Parts.{cases_part, cases_edge, part-chained, part-itself, rest-together, outside-is, outside-from}
use Rattle.embed_theorem.proofs.Graphs.{Result, IsSided}
use Rattle.embed_theorem.proofs.Sides.{sides_turned, Smaller, glue_one, glue_two}

-- two numbers of one component that are different are vertices
joined_below : (lists : Lists) → IsSimpleMap lists → (u v : ℕ) → u ≢ v → SameComponent lists u v → (u < length lists) × (v < length lists)
joined_below lists simple u v ne same = grind (arith, component_classes, length-classes, length, darts, Together-from, IsLabels-components, label, cases_lt, label_past, label-lt)

-- u and v are not joined in A: the part of u in A is a side of its own
cut_side : (lists A B : Lists) (u v : ℕ) → IsSimpleMap lists → IsSided lists A B u v → ¬ SameComponent A u v → Smaller lists → Result lists
cut_side lists A B u v simple s far smaller =
    elim (edge_or_none u) [
      | inr none ↦ glue_one lists A B u v v simple s (λ z p q d d'. elim (s.shared z p q d d') [ inl e ↦ absurd (none (p, subst (λ w. HasDart A w p) e d)) | inr e ↦ e ]) smaller
      | inl h ↦ glue_one lists A1 B1 u u u simple (sided h.0 h.1) (λ z p q d d'. elim ((sided h.0 h.1).shared z p q d d') [ inl e ↦ e | inr e ↦ e ]) smaller
    ]
  where
    edge_or_none : (u : ℕ) → HasEdge A u ⊎ (¬ HasEdge A u)
    edge_or_none u = elim (cases_lt u (length A)) [ inl l ↦ cases_edge A u l | inr l ↦ inr (λ h. let m = h.1.0 in omega arith) ]

    C : ℕ → Bool
    C z = same_class (component_classes A) u z

    keep1 : ℕ → ℕ → Bool
    keep1 a b = C a && C b

    A1 : Lists
    A1 = with_kept keep1 A

    k1 : IsKeptMap A A1 keep1
    k1 = kept_edges A keep1 (λ a b. and_comm (C a) (C b)) s.simple_A

    keep2 : ℕ → ℕ → Bool
    keep2 a b = not (has_dart A1 (a, b))

    turned2 : (a b : ℕ) → keep2 a b ≡ keep2 b a
    turned2 a b =
        ap not (both_ways (has_dart A1 (a, b)) (has_dart A1 (b, a)) (λ t. has_dart-is A1 b a (k1.simple.both_ways a b (HasDart-from A1 a b t))) (λ t. has_dart-is A1 a b (k1.simple.both_ways b a (HasDart-from A1 b a t))))

    B1 : Lists
    B1 = with_kept keep2 lists

    k2 : IsKeptMap lists B1 keep2
    k2 = kept_edges lists keep2 turned2 simple

    step : (a b : ℕ) → HasDart A a b → C a ≡ true → C b ≡ true
    step a b d t = part-chained A u a b t (same_class-from (component_classes A) a b (edge_together A s.simple_A a b d))

    A1_old : (a b : ℕ) → HasDart A1 a b → HasDart A a b × (C a ≡ true)
    A1_old a b d = let o = (k1.darts a b).0 d in (o.0, (and_parts (C a) (C b) o.1).0)

    A1_new : (a b : ℕ) → HasDart A a b → C a ≡ true → HasDart A1 a b
    A1_new a b d t = (k1.darts a b).1 (d, and_from (C a) (C b) t (step a b d t))

    not_A1 : (a b : ℕ) → HasDart B1 a b → ¬ HasDart A1 a b
    not_A1 a b d h = true≢false (sym (has_dart-is A1 a b h) ∙ not-true (has_dart A1 (a, b)) ((k2.darts a b).0 d).1)

    B1_old : (a b : ℕ) → HasDart B1 a b → HasDart lists a b
    B1_old a b d = ((k2.darts a b).0 d).0

    -- a vertex of the part with an edge outside it is u
    meets : (w p q : ℕ) → HasDart A w p → C w ≡ true → HasDart B1 w q → w ≡ u
    meets w p q d t d' =
        elim (s.split w q (B1_old w q d')) [
          | inl h ↦ absurd (not_A1 w q d' (A1_new w q h t))
          | inr h ↦ elim (s.shared w p q d h) [ inl e ↦ e | inr e ↦ absurd (far (ap C (sym e) ∙ t)) ]
        ]

    sided : (c : ℕ) → HasDart A u c → IsSided lists A1 B1 u u
    sided c edge = record {
      simple_A = k1.simple;
      simple_B = k2.simple;
      length_A = length-with_kept keep1 A ∙ s.length_A;
      length_B = length-with_kept keep2 lists;
      split = λ a b d. elim (cases_Bool (has_dart A1 (a, b))) [ inl t ↦ inl (HasDart-from A1 a b t) | inr f ↦ inr ((k2.darts a b).1 (d, ap not f)) ];
      of_A = λ a b d. s.of_A a b (A1_old a b d).0;
      of_B = B1_old;
      shared = λ w p q d d'. let o = A1_old w p d in inl (meets w p q o.0 o.1 d');
      lost_A = s.lost_A;
      edge_A = s.edge_A;
      gone_A = λ h. s.gone_A (h.0, (A1_old s.lost_A h.0 h.1).0);
      lost_B = c;
      edge_B = (u, s.of_A c u (s.simple_A.both_ways u c edge));
      gone_B = λ h. s.simple_A.no_loop u c edge (meets c u h.0 (s.simple_A.both_ways u c edge) (step u c edge (part-itself A u)) h.1);
    }

pub solve_sides : (lists A B : Lists) (u v : ℕ) → IsSimpleMap lists → IsSided lists A B u v → Smaller lists → Result lists
solve_sides lists A B u v simple s smaller =
    elim (cases_eq u v) [
      | inl e ↦ glue_one lists A B u v u simple s (λ z p q d d'. elim (s.shared z p q d d') [ inl q ↦ q | inr q ↦ q ∙ sym e ]) smaller
      | inr ne ↦ elim (cases_part A u v) [
        | inr far ↦ cut_side lists A B u v simple s far smaller
        | inl same ↦ elim (cases_part B u v) [
          | inr far ↦ cut_side lists B A u v simple (sides_turned lists A B u v s) far smaller
          | inl same' ↦
              let l = joined_below A s.simple_A u v ne same in
              glue_two lists A B u v simple s (subst (λ n. u < n) s.length_A l.0) (subst (λ n. v < n) s.length_A l.1) ne same same' smaller
        ]
      ]
    ]

-- two vertices that two others part give two sides
pub separated_sides : (lists : Lists) (u v s t : ℕ) → IsSimpleMap lists → HasEdge lists s → HasEdge lists t → ¬ Contains (u ∷ v ∷ []) s → ¬ Contains (u ∷ v ∷ []) t → ¬ SameComponent (without_vertices (u ∷ v ∷ []) lists) s t → Smaller lists → Result lists
separated_sides lists u v s t simple live_s live_t off_s off_t far smaller = solve_sides lists A B u v simple sided smaller
  where
    V : List ℕ
    V = u ∷ v ∷ []

    G : Lists
    G = without_vertices V lists

    P : ℕ → Bool
    P z = outside V z && same_class (component_classes G) s z

    P_is : (z : ℕ) → P z ≡ true → (¬ Contains V z) × SameComponent G s z
    P_is z h = let p = and_parts (outside V z) (same_class (component_classes G) s z) h in (outside-is V z p.0, p.1)

    P_step : (a b : ℕ) → P a ≡ true → HasDart lists a b → ¬ Contains V b → P b ≡ true
    P_step a b h d o =
        let p = P_is a h in
        and_from (outside V b) (same_class (component_classes G) s b) (outside-from V b o) (part-chained G s a b p.1 (rest-together lists simple V a b d p.0 o))

    P_s : P s ≡ true
    P_s = and_from (outside V s) (same_class (component_classes G) s s) (outside-from V s off_s) (part-itself G s)

    P_t : P t ≡ true → ⊥
    P_t h = far (P_is t h).1

    keep : ℕ → ℕ → Bool
    keep a b = P a || P b

    drop : ℕ → ℕ → Bool
    drop a b = not (P a || P b)

    A : Lists
    A = with_kept keep lists

    B : Lists
    B = with_kept drop lists

    kA : IsKeptMap lists A keep
    kA = kept_edges lists keep (λ a b. or_comm (P a) (P b)) simple

    kB : IsKeptMap lists B drop
    kB = kept_edges lists drop (λ a b. ap not (or_comm (P a) (P b))) simple

    -- an edge of A at a vertex that is not of the part leads into it
    of_part : (a b : ℕ) → HasDart A a b → (P a ≡ true → ⊥) → P b ≡ true
    of_part a b d n = elim (or_cases (P a) (P b) ((kA.darts a b).0 d).1) [ inl h ↦ absurd (n h) | inr h ↦ h ]

    not_part : (a b : ℕ) → HasDart B a b → P a ≡ true → ⊥
    not_part a b d h = true≢false (sym (or_left (P a) (P b) h) ∙ not-true (P a || P b) ((kB.darts a b).0 d).1)

    sided : IsSided lists A B u v
    sided = record {
      simple_A = kA.simple;
      simple_B = kB.simple;
      length_A = length-with_kept keep lists;
      length_B = length-with_kept drop lists;
      split = λ a b d. elim (cases_Bool (P a || P b)) [ inl h ↦ inl ((kA.darts a b).1 (d, h)) | inr h ↦ inr ((kB.darts a b).1 (d, ap not h)) ];
      of_A = λ a b d. ((kA.darts a b).0 d).0;
      of_B = λ a b d. ((kB.darts a b).0 d).0;
      shared = λ w p q d d'.
          let n = not_part w q d' in
          elim (cases_Contains V w) [
            | inl c ↦ each_of_two (λ z. z ≡ w → (w ≡ u) ⊎ (w ≡ v)) u v (λ e. inl (sym e)) (λ e. inr (sym e)) w c refl
            | inr o ↦ absurd (n (P_step p w (of_part w p d n) (simple.both_ways w p ((kA.darts w p).0 d).0) o))
          ];
      lost_A = t;
      edge_A = live_t;
      gone_A = λ e. let h = of_part t e.0 e.1 P_t in P_t (P_step e.0 t h (simple.both_ways t e.0 ((kA.darts t e.0).0 e.1).0) off_t);
      lost_B = s;
      edge_B = live_s;
      gone_B = λ e. not_part s e.0 e.1 P_s;
    }
