-- Regions of a map by those of its run.
use Rattle.std.proofs.Common.{◌≡◌, ◌≢◌, ◌⊎◌, ℕ, zero, suc, ◌+◌, ◌-◌, ◌<◌, Bool, true, false, not, eqb, List, length, get_or, refl, sym, ap, ap₂, ◌∙◌, subst, inl, inr, arith, true≢false, eq-eqb, ne_eqb}
use Rattle.std.proofs.lemmas.Bool.{cases_eq, cases_Bool}
use Rattle.std.proofs.lemmas.List.{get_or_default}
use Rattle.map_lists.specs.Lists.{Lists}
use Rattle.map_theory.specs.Maps.{Dart, HasDart, follows}
use Rattle.map_theory.proofs.DartLemmas.{HasDart-follows}
use Rattle.plane_laws.specs.Triangulations.{IsTriangulation}
use Rattle.plane_laws.proofs.Triangles.{triangles_where_met}
use Rattle.plane_peeling.specs.Restricted.{IsFaceOfThree, IsDartOfThree}
use Rattle.plane_peeling.proofs.OuterCycles.{IsFaceOfThree-triangle}
use Rattle.canon_order.specs.Orders.{IsCanonicalOrder}
use Rattle.canon_order.proofs.Counters.{all_of_them}
use Rattle.contour_runs.specs.Runs.{Step, IsFaceOf, IsDartOf}
use Rattle.contour_runs.proofs.Stages.{IsStage-run, IsRun-less, count-stage_after}
use Rattle.order_drawings.specs.OrderRuns.{IsOrderRun}
use Rattle.wood_runs.specs.Parents.{Colour, one, two, three, next, previous, IsParent}
use Rattle.wood_runs.proofs.ParentLemmas.{leads_away, own_root, HasOneParent, LeadsAway}
use Rattle.wood_laws.specs.Woods.{root, IsInner, LeadsBy, AreParentsOf}
use Rattle.wood_laws.proofs.WoodLemmas.{size, some, root_one, root_two, root_three, edges, once, ranked, inner_at, has_one, parent_is, rank_small, face_at, to_top, from_top}
use Rattle.wood_runs.specs.Fronts.{shades, IsOn}
use Rattle.wood_runs.proofs.Sides.{paths}
use Rattle.wood_runs.specs.Edges.{number}
use Rattle.wood_runs.proofs.Crossing.{root_at, Crosses, IsOuter, HasShade, IsInside, IsCrossing, made, outer, out, into, around, within}
use Rattle.wood_runs.specs.Laws.{IsInShade}
use Rattle.wood_runs.proofs.Darts.{HasTwin, has_twin, one_shade, on_dart, all_made}
use Rattle.wood_runs.proofs.Edges.{corners_on}
use Rattle.wood_runs.proofs.Walks.{goes_on, root_alone}
use Rattle.wood_runs.proofs.Sided.{IsSided-run}
use Rattle.wood_runs.proofs.Nested.{IsNested-run}
use Rattle.wood_laws.specs.Regions.{IsOnPath, IsPathEdge, IsBoundaryEdge, on_next, on_previous, on_outer, GoesOn, along, over, past, ReachesBy, Reaches, IsOnInside, IsInRegion}
use Rattle.wood_laws.proofs.ColourNumbers.{flips_next, flips_previous, same_own, same_off, cases_colour, number_some, flips_outer, flips_outer_back, same_outer, same_outer_back}
use Rattle.wood_laws.proofs.EdgeKinds.{kind_out, kind_into, outer_kind}

module _ (lists : Lists) (base : Dart) (at : List ℕ) (steps : ℕ → Step) (parent : Colour → ℕ → ℕ) (triangulation : IsTriangulation lists) (order : IsCanonicalOrder lists base at) (run : IsOrderRun lists base at order.cycle steps) (parents : AreParentsOf at steps parent) where
  abbrev n : ℕ
  n = length at - 2

  abbrev name : ℕ → ℕ
  name k = get_or at k 0

  size' : length at ≡ n + 2
  size' = size lists base at steps parent triangulation order run parents

  some' : 0 < n
  some' = let e = some lists base at steps parent triangulation order run parents in omega arith

  once' : (i j : ℕ) → i < n + 2 → j < n + 2 → name i ≡ name j → i ≡ j
  once' i j l m e = let s = size' in once lists base at steps parent triangulation order run parents i j (omega arith) (omega arith) e

  -- the rank of any vertex
  pub rank_of : (v : ℕ) → v < length lists → (k : ℕ) × (k < n + 2) × (name k ≡ v)
  rank_of v l =
      let small : v < length at = omega arith in
      let on = all_of_them at v (λ i d m. let o = order.vertices i d m in omega arith) order.built.once small in
      (on.0, omega arith, get_or_default at on.0 0 v on.1 ∙ on.2)

  pub name_in : (k : ℕ) → k < n + 2 → name k < length lists
  name_in k l = let c = order.count in let s = size' in let v = order.vertices k 0 (omega arith) in omega arith

  inner_name : (k : ℕ) → IsInside n k → IsInner lists base (name k)
  inner_name k i = inner_at lists base at steps parent triangulation order run parents k i.0 i.1

  pub rank_inner : (k : ℕ) → k < n + 2 → IsInner lists base (name k) → IsInside n k
  rank_inner k l inner =
      let r = ranked lists base at steps parent triangulation order run parents (name k) inner in
      let e = once' k r.0 l (omega arith) (sym r.3) in
      (omega (arith, e, r.1), omega (arith, e, r.2))

  pub root_name : (c : Colour) → (root_at n c < n + 2) × (name (root_at n c) ≡ root lists base c)
  root_name one = (omega arith, root_one lists base at steps parent triangulation order run parents)
  root_name two = (omega arith, root_two lists base at steps parent triangulation order run parents)
  root_name three = (omega arith, root_three lists base at steps parent triangulation order run parents)

  -- the parent of an inner rank
  pub parent_of : (c : Colour) (k : ℕ) (i : IsInside n k) → HasOneParent c steps n k
  parent_of c k i = has_one lists base at steps parent triangulation order run parents c k i.0 i.1

  pub parent_name : (c : Colour) (k : ℕ) (i : IsInside n k) → parent c (name k) ≡ name (parent_of c k i).parent
  unfolding parent_of
  parent_name c k i = parent_is lists base at steps parent triangulation order run parents c k i.0 i.1

  pub parent_small : (c : Colour) (k : ℕ) (i : IsInside n k) → (parent_of c k i).parent < n + 2
  parent_small c k i = let s = size' in let l = rank_small lists base at steps parent triangulation order run parents c k (parent_of c k i).parent (parent_of c k i).is_parent in omega arith

  pub parent_inside : (c : Colour) (k : ℕ) (i : IsInside n k) → IsInside n (parent_of c k i).parent ⊎ ((parent_of c k i).parent ≡ root_at n c)
  parent_inside c k i =
      let h = parent_of c k i in
      let o = own_root steps n run.run k h.parent c h.is_parent in
      elim (cases_eq h.parent 0) [
        | inl z ↦ inr (z ∙ ap (root_at n) (sym (o.root_one z)))
        | inr nz ↦ elim (cases_eq h.parent 1) [
          | inl z ↦ inr (z ∙ ap (root_at n) (sym (o.root_two z)))
          | inr nz' ↦ elim (cases_eq h.parent (suc n)) [
            | inl z ↦ inr (z ∙ ap (root_at n) (sym (o.root_three z)))
            | inr nz'' ↦ inl (omega arith, omega (arith, parent_small c k i))
          ]
        ]
      ]

  -- how many steps lead to the root at most
  height : Colour → ℕ → ℕ
  height one k = k
  height two k = k
  height three k = n + 2 - k

  height_less : (c : Colour) (k u : ℕ) → u < n + 2 → LeadsAway c k u → height c u < height c k
  unfolding height
  height_less one k u l h = h.one_is_earlier refl
  height_less two k u l h = h.two_is_earlier refl
  height_less three k u l h = let a = h.three_is_later refl in omega arith

  -- what stands on the path in the table is on it in the map
  table_path : (fuel : ℕ) (c : Colour) (k w : ℕ) → height c k < fuel → w < n + 2 → IsInside n k ⊎ (k ≡ root_at n c) → paths steps n c k w ≡ true → IsOnPath lists base parent c (name k) (name w)
  table_path zero c k w f l i p = absurd (omega arith)
  table_path (suc fuel) c k w f l (inr e) p =
      (0, ap name (e ∙ sym (root_alone steps n run.run c w some' l (ap (λ k. paths steps n c k w) (sym e) ∙ p))))
  table_path (suc fuel) c k w f l (inl i) p =
      let h = parent_of c k i in
      elim ((goes_on steps n run.run c k h.parent h.is_parent w (omega (arith, count-stage_after steps n))).0 p) [
        | inl e ↦ (0, ap name (sym e))
        | inr q ↦
            let less = height_less c k h.parent (parent_small c k i) (leads_away steps n run.run k h.parent c h.is_parent) in
            let before = table_path fuel c h.parent w (omega arith) l (parent_inside c k i) q in
            (suc before.0, (inner_name k i, subst (λ x. LeadsBy lists base (parent c) before.0 x (name w)) (sym (parent_name c k i)) before.1))
      ]

  -- and the other way round
  map_path : (d : ℕ) (c : Colour) (k w : ℕ) → k < n + 2 → w < n + 2 → LeadsBy lists base (parent c) d (name k) (name w) → paths steps n c k w ≡ true
  map_path zero c k w lk lw e =
      ap (paths steps n c k) (sym (once' k w lk lw e)) ∙ (IsSided-run steps n run.run).own_path c k (omega (arith, count-stage_after steps n))
  map_path (suc d) c k w lk lw (inner, leads) =
      let i = rank_inner k lk inner in
      let h = parent_of c k i in
      let t = count-stage_after steps n in
      (goes_on steps n run.run c k h.parent h.is_parent w (omega arith)).1 (inr (map_path d c h.parent w (parent_small c k i) lw (subst (λ x. LeadsBy lists base (parent c) d x (name w)) (parent_name c k i) leads)))

  pub path_to : (c : Colour) (k w : ℕ) → IsInside n k → w < n + 2 → paths steps n c k w ≡ true → IsOnPath lists base parent c (name k) (name w)
  path_to c k w i l p = table_path (suc (height c k)) c k w (omega arith) l (inl i) p

  pub path_from : (c : Colour) (k w : ℕ) → IsInside n k → w < n + 2 → IsOnPath lists base parent c (name k) (name w) → paths steps n c k w ≡ true
  path_from c k w i l p = let m = i.1 in map_path p.0 c k w (omega arith) l p.1

  -- a path ends at an inner vertex or at its root
  leads_end : (d : ℕ) (c : Colour) (k : ℕ) (w : ℕ) → IsInside n k ⊎ (k ≡ root_at n c) → LeadsBy lists base (parent c) d (name k) w → (j : ℕ) × (name j ≡ w) × (IsInside n j ⊎ (j ≡ root_at n c))
  leads_end zero c k w i e = (k, e, i)
  leads_end (suc d) c k w (inl i) (inner, leads) = leads_end d c (parent_of c k i).parent w (parent_inside c k i) (subst (λ x. LeadsBy lists base (parent c) d x w) (parent_name c k i) leads)
  leads_end (suc d) c k w (inr e) (inner, leads) =
      let i = rank_inner k (omega (arith, (root_name c).0)) inner in
      leads_end d c (parent_of c k i).parent w (parent_inside c k i) (subst (λ x. LeadsBy lists base (parent c) d x w) (parent_name c k i) leads)

  -- the outer face
  pub outer_face : IsFaceOfThree lists base.0 base.1 (follows lists base.1 base.0)
  outer_face =
      let o = (run.run 0 some').order in
      let w = (run.run 0 some').within in
      let f = (face_at lists base at steps parent triangulation order run parents 0 0 some' (omega arith) (omega arith)).dart in
      let d : HasDart lists base.1 base.0 = subst (λ x. HasDart lists x base.0) (root_one lists base at steps parent triangulation order run parents) (subst (HasDart lists (name 0)) (root_two lists base at steps parent triangulation order run parents) f) in
      let back = triangulation.simple.both_ways base.1 base.0 d in
      IsFaceOfThree-triangle lists base.0 base.1 back (triangles_where_met lists triangulation.simple triangulation.plane triangulation.some triangulation.edges base back)

  -- the face of a made dart goes on with one that has the same shade
  module _ (v : ℕ) (inside : IsInside n v) where
    pub record Named (x y s : ℕ) : Type 0 where
      pub a : ℕ
      pub b : ℕ
      pub a_in : a < n + 2
      pub b_in : b < n + 2
      pub a_is : name a ≡ x
      pub b_is : name b ≡ y
      pub shade : HasShade steps n v a b s

    -- the ranks of a made dart are placed, and it is a dart of the map
    made_face : (k i : ℕ) (l : k < n) (a b u : ℕ) → IsFaceOf steps k i a b u → IsFaceOfThree lists (name a) (name b) (name u) × (a < n + 2) × (b < n + 2) × (u < n + 2)
    made_face k i l a b u f =
        let stage = IsStage-run steps k (IsRun-less steps k n (omega arith) run.run) in
        let w = (run.run k l).within in
        let count = count-stage_after steps k in
        (run.faces k i a b u (omega arith) f, omega arith, omega arith, omega arith)

    face_goes_on : (x y s : ℕ) → Named x y s → Named y (follows lists y x) s
    face_goes_on x y s h = by h.shade
      where
        outer_on : (c : Colour) → IsOuter n c h.a h.b → s ≡ 0 → Named y (follows lists y x) s
        outer_on three o e = record {
          a = h.b;
          b = suc n;
          a_in = h.b_in;
          b_in = omega arith;
          a_is = h.b_is;
          b_is = root_three lists base at steps parent triangulation order run parents ∙ ap₂ (follows lists) (sym (root_one lists base at steps parent triangulation order run parents) ∙ ap name (sym o.1) ∙ h.b_is) (sym (root_two lists base at steps parent triangulation order run parents) ∙ ap name (sym o.0) ∙ h.a_is);
          shade = outer two (o.1, refl) e;
        }
        outer_on two o e = record {
          a = h.b;
          b = 1;
          a_in = h.b_in;
          b_in = omega arith;
          a_is = h.b_is;
          b_is = root_two lists base at steps parent triangulation order run parents ∙ sym outer_face.third ∙ ap₂ (follows lists) (sym (root_three lists base at steps parent triangulation order run parents) ∙ ap name (sym o.1) ∙ h.b_is) (sym (root_one lists base at steps parent triangulation order run parents) ∙ ap name (sym o.0) ∙ h.a_is);
          shade = outer one (o.1, refl) e;
        }
        outer_on one o e = record {
          a = h.b;
          b = 0;
          a_in = h.b_in;
          b_in = omega arith;
          a_is = h.b_is;
          b_is = root_one lists base at steps parent triangulation order run parents ∙ sym outer_face.round ∙ ap₂ (follows lists) (sym (root_two lists base at steps parent triangulation order run parents) ∙ ap name (sym o.1) ∙ h.b_is) (sym (root_three lists base at steps parent triangulation order run parents) ∙ ap name (sym o.0) ∙ h.a_is);
          shade = outer three (o.1, refl) e;
        }

        by : HasShade steps n v h.a h.b s → Named y (follows lists y x) s
        by (outer c o e) = outer_on c o e
        by (made f l e) =
            let d = l.dart in
            let t = made_face l.step l.place l.earlier d.a d.b d.v d.face in
            let dart : (a b : ℕ) → ((a ≡ d.a) × (b ≡ d.b)) ⊎ (((a ≡ d.b) × (b ≡ d.v)) ⊎ ((a ≡ d.v) × (b ≡ d.a))) → HasShade steps n v a b s = λ a b q. made f record { step = l.step; place = l.place; earlier = l.earlier; dart = record { a = d.a; b = d.b; v = d.v; face = d.face; dart = q }; face = l.face } e in
            elim d.dart [
              | inl q ↦ record {
                a = h.b;
                b = d.v;
                a_in = h.b_in;
                b_in = t.3;
                a_is = h.b_is;
                b_is = sym t.0.second ∙ ap₂ (follows lists) (ap name (sym q.1) ∙ h.b_is) (ap name (sym q.0) ∙ h.a_is);
                shade = dart h.b d.v (inr (inl (q.1, refl)));
              }
              | inr (inl q) ↦ record {
                a = h.b;
                b = d.a;
                a_in = h.b_in;
                b_in = t.1;
                a_is = h.b_is;
                b_is = sym t.0.third ∙ ap₂ (follows lists) (ap name (sym q.1) ∙ h.b_is) (ap name (sym q.0) ∙ h.a_is);
                shade = dart h.b d.a (inr (inr (q.1, refl)));
              }
              | inr (inr q) ↦ record {
                a = h.b;
                b = d.b;
                a_in = h.b_in;
                b_in = t.2;
                a_is = h.b_is;
                b_is = sym t.0.round ∙ ap₂ (follows lists) (ap name (sym q.1) ∙ h.b_is) (ap name (sym q.0) ∙ h.a_is);
                shade = dart h.b d.b (inl (q.1, refl));
              }
            ]

    twin_of : (a b s : ℕ) → HasShade steps n v a b s → HasTwin steps n run.run some' run.end v a b s
    twin_of a b s h = has_twin steps n run.run some' run.end v a b s inside.0 inside.1 h

    module _ (c : Colour) where
      abbrev In : ℕ → Bool
      In s = eqb s (number c)

      abbrev Boundary : ℕ → ℕ → Type 0
      Boundary a b = IsBoundaryEdge lists base parent c (name v) (name a) (name b)

      abbrev Path : Colour → ℕ → ℕ → Type 0
      Path d a b = IsPathEdge lists base parent d (name v) (name a) (name b)

      -- an edge of a path by ranks
      path_edge : (d : Colour) (a b : ℕ) → a < n + 2 → b < n + 2 → Path d a b → IsInside n a × IsParent d steps n a b × (paths steps n d v a ≡ true)
      path_edge d a b la lb (on, inner, e) =
          let i = rank_inner a la inner in
          let h = parent_of d a i in
          let same : h.parent ≡ b = once' h.parent b (parent_small d a i) lb (sym (parent_name d a i) ∙ e) in
          (i, subst (IsParent d steps n a) same h.is_parent, path_from d v a inside la on)

      edge_path : (d : Colour) (a b : ℕ) → IsInside n a → IsParent d steps n a b → paths steps n d v a ≡ true → Path d a b
      edge_path d a b i p on =
          let l = i.1 in
          (path_to d v a inside (omega arith) on, inner_name a i, parents d a b (let s = size' in omega arith) p)

      crossed_true : (d : Colour) (a s s' : ℕ) → paths steps n d v a ≡ true → Crosses d (paths steps n d v a) s s' → (s ≡ number (previous d)) × (s' ≡ number (next d))
      crossed_true d a s s' on (inl t) = (t.1, t.2)
      crossed_true d a s s' on (inr t) = absurd (true≢false (sym on ∙ t.0))

      not_back : (x y : Bool) → x ≡ not y → y ≡ not x
      not_back true true e = absurd (true≢false e)
      not_back true false e = refl
      not_back false true e = refl
      not_back false false e = absurd (true≢false (sym e))

      -- over an edge of the closed path the region ends
      boundary_flips : (a b s s' : ℕ) → a < n + 2 → b < n + 2 → Boundary a b → IsCrossing steps n v a b s s' → In s' ≡ not (In s)
      boundary_flips a b s s' la lb (on_next (inl p)) kind =
          let t = path_edge (next c) a b la lb p in
          let x = crossed_true (next c) a s s' t.2 (kind_out steps n run.run run.end v (next c) a b s s' t.0 t.1 kind) in
          flips_next c s s' x.0 x.1
      boundary_flips a b s s' la lb (on_next (inr p)) kind =
          let t = path_edge (next c) b a lb la p in
          let x = crossed_true (next c) b s' s t.2 (kind_into steps n run.run run.end v (next c) a b s s' t.0 t.1 kind) in
          not_back (In s) (In s') (flips_next c s' s x.0 x.1)
      boundary_flips a b s s' la lb (on_previous (inl p)) kind =
          let t = path_edge (previous c) a b la lb p in
          let x = crossed_true (previous c) a s s' t.2 (kind_out steps n run.run run.end v (previous c) a b s s' t.0 t.1 kind) in
          flips_previous c s s' x.0 x.1
      boundary_flips a b s s' la lb (on_previous (inr p)) kind =
          let t = path_edge (previous c) b a lb la p in
          let x = crossed_true (previous c) b s' s t.2 (kind_into steps n run.run run.end v (previous c) a b s s' t.0 t.1 kind) in
          not_back (In s) (In s') (flips_previous c s' s x.0 x.1)
      boundary_flips a b s s' la lb (on_outer (inl p)) kind =
          let ra = root_name (next c) in
          let rb = root_name (previous c) in
          let x = once' a (root_at n (next c)) la ra.0 (p.0 ∙ sym ra.1) in
          let y = once' b (root_at n (previous c)) lb rb.0 (p.1 ∙ sym rb.1) in
          let t = (outer_kind steps n some' v c a b s s' kind).1 (y, x) in
          flips_outer_back c s s' t.0 t.1
      boundary_flips a b s s' la lb (on_outer (inr p)) kind =
          let ra = root_name (next c) in
          let rb = root_name (previous c) in
          let x = once' a (root_at n (previous c)) la rb.0 (p.0 ∙ sym rb.1) in
          let y = once' b (root_at n (next c)) lb ra.0 (p.1 ∙ sym ra.1) in
          let t = (outer_kind steps n some' v c a b s s' kind).0 (x, y) in
          flips_outer c s s' t.0 t.1

      -- each edge is one of it, or lies in the region with both sides or with none
      kind_cases : (a b s s' : ℕ) → IsCrossing steps n v a b s s' → Boundary a b ⊎ (In s' ≡ In s)
      kind_cases a b s s' (out d p i (inr t)) = inr (ap In (sym t.1))
      kind_cases a b s s' (out d p i (inl t)) = elim (cases_colour c d) [
        | inl e ↦ inr (same_own c d s s' e t.1 t.2)
        | inr (inl e) ↦ inl (on_next (inl (subst (λ d. Path d a b) e (edge_path d a b i p t.0))))
        | inr (inr e) ↦ inl (on_previous (inl (subst (λ d. Path d a b) e (edge_path d a b i p t.0))))
      ]
      kind_cases a b s s' (into d p i (inr t)) = inr (ap In t.1)
      kind_cases a b s s' (into d p i (inl t)) = elim (cases_colour c d) [
        | inl e ↦ inr (sym (same_own c d s' s e t.1 t.2))
        | inr (inl e) ↦ inl (on_next (inr (subst (λ d. Path d b a) e (edge_path d b a i p t.0))))
        | inr (inr e) ↦ inl (on_previous (inr (subst (λ d. Path d b a) e (edge_path d b a i p t.0))))
      ]
      kind_cases a b s s' (around d o e e') = elim (cases_eq (number d) (number c)) [
        | inl x ↦
            let same = same_off d c x in
            let ra = root_name (previous c) in
            let rb = root_name (next c) in
            inl (on_outer (inr (ap name (o.0 ∙ ap (λ d. root_at n (previous d)) same) ∙ ra.1, ap name (o.1 ∙ ap (λ d. root_at n (next d)) same) ∙ rb.1)))
        | inr ne ↦ inr (same_outer c d s s' ne e e')
      ]
      kind_cases a b s s' (within d o e e') = elim (cases_eq (number d) (number c)) [
        | inl x ↦
            let same = same_off d c x in
            let ra = root_name (next c) in
            let rb = root_name (previous c) in
            inl (on_outer (inl (ap name (o.1 ∙ ap (λ d. root_at n (next d)) same) ∙ ra.1, ap name (o.0 ∙ ap (λ d. root_at n (previous d)) same) ∙ rb.1)))
        | inr ne ↦ inr (same_outer_back c d s s' ne e e')
      ]

      -- a chain comes to faces with its number
      pub record Known (x y : ℕ) (odd : Bool) : Type 0 where
        pub shade : ℕ
        pub named : Named x y shade
        pub same : odd ≡ In shade

      Known-on : (x y : ℕ) (odd : Bool) (x' y' : ℕ) (odd' : Bool) → Known x y odd → GoesOn lists base parent c (name v) x y odd x' y' odd' → Known x' y' odd'
      Known-on x y odd x' y' odd' k (along ex ey e) = record {
        shade = k.shade;
        named = subst (λ x. Named x y' k.shade) (sym ex) (subst (λ z. Named y z k.shade) (sym ey) (face_goes_on x y k.shade k.named));
        same = e ∙ k.same;
      }
      Known-on x y odd x' y' odd' k (over ex ey b e) =
          let h = k.named in
          let t = twin_of h.a h.b k.shade h.shade in
          let b' = subst (λ x. IsBoundaryEdge lists base parent c (name v) x (name h.b)) (sym h.a_is) (subst (IsBoundaryEdge lists base parent c (name v) x) (sym h.b_is) b) in
          record {
            shade = t.shade;
            named = record { a = h.b; b = h.a; a_in = h.b_in; b_in = h.a_in; a_is = h.b_is ∙ sym ex; b_is = h.a_is ∙ sym ey; shade = t.twin };
            same = e ∙ ap not k.same ∙ sym (boundary_flips h.a h.b k.shade t.shade h.a_in h.b_in b' t.kind);
          }
      Known-on x y odd x' y' odd' k (past ex ey b e) =
          let h = k.named in
          let t = twin_of h.a h.b k.shade h.shade in
          record {
            shade = t.shade;
            named = record { a = h.b; b = h.a; a_in = h.b_in; b_in = h.a_in; a_is = h.b_is ∙ sym ex; b_is = h.a_is ∙ sym ey; shade = t.twin };
            same = e ∙ k.same ∙ sym (elim (kind_cases h.a h.b k.shade t.shade t.kind) [
              | inl z ↦ absurd (b (subst (λ x. IsBoundaryEdge lists base parent c (name v) x y) h.a_is (subst (IsBoundaryEdge lists base parent c (name v) (name h.a)) h.b_is z)))
              | inr z ↦ z
            ]);
          }

      pub reaches_known : (k x y : ℕ) (odd : Bool) → ReachesBy lists base parent c (name v) k x y odd → Known x y odd
      reaches_known zero x y odd (ex, ey, e) = record {
        shade = 0;
        named = record { a = 1; b = 0; a_in = omega arith; b_in = omega arith; a_is = root_two lists base at steps parent triangulation order run parents ∙ sym ex; b_is = root_one lists base at steps parent triangulation order run parents ∙ sym ey; shade = outer three (refl, refl) refl };
        same = e ∙ sym (ne_eqb 0 (number c) (λ z. let m = number_some c in omega arith));
      }
      reaches_known (suc k) x y odd (x', y', odd', r, g) = Known-on x' y' odd' x y odd (reaches_known k x' y' odd' r) g

      -- one dart has one number
      pub known_once : (x y : ℕ) (odd odd' : Bool) → Known x y odd → Known x y odd' → odd ≡ odd'
      known_once x y odd odd' k k' =
          let h = k.named in
          let h' = k'.named in
          let ea = once' h'.a h.a h'.a_in h.a_in (h'.a_is ∙ sym h.a_is) in
          let eb = once' h'.b h.b h'.b_in h.b_in (h'.b_is ∙ sym h.b_is) in
          let same = one_shade steps n run.run some' run.end v h.a h.b k.shade k'.shade h.shade (subst (λ a. HasShade steps n v a h.b k'.shade) ea (subst (λ b. HasShade steps n v h'.a b k'.shade) eb h'.shade)) in
          k.same ∙ ap In same ∙ sym k'.same

      -- some chain comes to each dart
      abbrev Met : ℕ → ℕ → Type 0
      Met x y = (odd : Bool) × Reaches lists base parent c (name v) x y odd

      met_on : (x y : ℕ) → Met x y → Met y (follows lists y x)
      met_on x y m = (m.0, (suc m.1.0, (x, y, m.0, m.1.1, along refl refl refl)))

      met_over : (x y : ℕ) → Met x y → Met y x
      met_over x y m =
          let k = reaches_known m.1.0 x y m.0 m.1.1 in
          let h = k.named in
          let t = twin_of h.a h.b k.shade h.shade in
          elim (kind_cases h.a h.b k.shade t.shade t.kind) [
            | inl z ↦ (not m.0, (suc m.1.0, (x, y, m.0, m.1.1, over refl refl (subst (λ x. IsBoundaryEdge lists base parent c (name v) x y) h.a_is (subst (IsBoundaryEdge lists base parent c (name v) (name h.a)) h.b_is z)) refl)))
            | inr z ↦ (
              m.0,
              (
                suc m.1.0,
                (
                  x,
                  y,
                  m.0,
                  m.1.1,
                  past refl refl (λ b.
                      let b' = subst (λ x. IsBoundaryEdge lists base parent c (name v) x (name h.b)) (sym h.a_is) (subst (IsBoundaryEdge lists base parent c (name v) x) (sym h.b_is) b) in
                      not_itself (In k.shade) (sym z ∙ boundary_flips h.a h.b k.shade t.shade h.a_in h.b_in b' t.kind)) refl,
                ),
              ),
            )
          ]
        where
          not_itself : (b : Bool) → b ≢ not b
          not_itself true e = true≢false e
          not_itself false e = true≢false (sym e)

      met_base : Met base.0 base.1
      met_base = (false, (0, (refl, refl, refl)))

      met_first : Met (name 0) (name (suc n))
      met_first = subst (λ x. Met x (name (suc n))) (sym (root_one lists base at steps parent triangulation order run parents)) (subst (Met base.1) (sym (root_three lists base at steps parent triangulation order run parents)) (met_on base.0 base.1 met_base))

      met_second : Met (name (suc n)) (name 1)
      met_second =
          let m = met_on base.1 (follows lists base.1 base.0) (met_on base.0 base.1 met_base) in
          subst (λ x. Met x (name 1)) (sym (root_three lists base at steps parent triangulation order run parents)) (subst (Met (follows lists base.1 base.0)) (outer_face.third ∙ sym (root_two lists base at steps parent triangulation order run parents)) m)

      met_made : (k i x y : ℕ) → k < n → IsDartOf steps k i x y → Met (name x) (name y)
      met_made =
          all_made steps n run.run some' run.end (λ a b. Met (name a) (name b))
          (λ k i a b u l f. let t = (made_face k i l a b u f).0 in (
            λ m. subst (Met (name b)) t.second (met_on (name a) (name b) m),
            λ m. subst (Met (name u)) t.third (met_on (name b) (name u) m),
            λ m. subst (Met (name a)) t.round (met_on (name u) (name a) m),
          ))
          (λ x y f l m. met_over (name x) (name y) m) (λ x y f l m. met_over (name y) (name x) m) met_first met_second

      -- a dart of the map is made or an outer one
      cases_outer : (x y : ℕ) → IsDartOfThree base.0 base.1 (follows lists base.1 base.0) x y ⊎ (¬ IsDartOfThree base.0 base.1 (follows lists base.1 base.0) x y)
      cases_outer x y = elim (both x base.0 y base.1) [
        | inl a ↦ inl (inl a)
        | inr a ↦ elim (both x base.1 y (follows lists base.1 base.0)) [
          | inl b ↦ inl (inr (inl b))
          | inr b ↦ elim (both x (follows lists base.1 base.0) y base.0) [ inl d ↦ inl (inr (inr d)) | inr d ↦ inr (λ q. elim q [ inl z ↦ a z | inr (inl z) ↦ b z | inr (inr z) ↦ d z ]) ]
        ]
      ]
        where
          both : (x a y b : ℕ) → ((x ≡ a) × (y ≡ b)) ⊎ (¬ ((x ≡ a) × (y ≡ b)))
          both x a y b = elim (cases_eq x a) [ inl e ↦ elim (cases_eq y b) [ inl e' ↦ inl (e, e') | inr ne ↦ inr (λ z. ne z.1) ] | inr ne ↦ inr (λ z. ne z.0) ]

      move : (x x' y y' : ℕ) → x' ≡ x → y' ≡ y → Met x y → Met x' y'
      move x x' y y' e e' m = subst (λ x. Met x y') (sym e) (subst (λ y. Met x y) (sym e') m)

      pub met_all : (x y : ℕ) → HasDart lists x y → Met x y
      met_all x y d = elim (cases_outer x y) [
        | inl (inl e) ↦ move base.0 x base.1 y e.0 e.1 met_base
        | inl (inr (inl e)) ↦ move base.1 x (follows lists base.1 base.0) y e.0 e.1 (met_on base.0 base.1 met_base)
        | inl (inr (inr e)) ↦ move (follows lists base.1 base.0) x base.0 y e.0 e.1 (subst (Met (follows lists base.1 base.0)) outer_face.third (met_on base.1 (follows lists base.1 base.0) (met_on base.0 base.1 met_base)))
        | inr ne ↦
            let m = run.made x y d ne in
            let l = m.earlier in
            let s = size' in
            let met = λ (a b : ℕ) (q : ((a ≡ m.a) × (b ≡ m.b)) ⊎ (((a ≡ m.b) × (b ≡ m.v)) ⊎ ((a ≡ m.v) × (b ≡ m.a)))). met_made m.step m.place a b (omega arith) record { a = m.a; b = m.b; v = m.v; face = m.face; dart = q } in
            elim m.dart [
              | inl e ↦ move (name m.a) x (name m.b) y e.0 e.1 (met m.a m.b (inl (refl, refl)))
              | inr (inl e) ↦ move (name m.b) x (name m.v) y e.0 e.1 (met m.b m.v (inr (inl (refl, refl))))
              | inr (inr e) ↦ move (name m.v) x (name m.a) y e.0 e.1 (met m.v m.a (inr (inr (refl, refl))))
            ]
      ]

      pub known_all : (x y : ℕ) (odd : Bool) → Reaches lists base parent c (name v) x y odd → (odd' : Bool) → Reaches lists base parent c (name v) x y odd' → odd' ≡ odd
      known_all x y odd r odd' r' = known_once x y odd' odd (reaches_known r'.0 x y odd' r'.1) (reaches_known r.0 x y odd r.1)

      -- an end of an edge of the closed path is on a face inside
      edge_inside : (x y : ℕ) → HasDart lists x y → IsBoundaryEdge lists base parent c (name v) x y → IsOnInside lists base parent c (name v) x
      edge_inside x y d b =
          let m = met_all x y d in
          elim (cases_Bool m.0) [
            | inl e ↦ (y, d, subst (Reaches lists base parent c (name v) x y) e m.1)
            | inr e ↦
                let back = triangulation.simple.both_ways x y d in
                let m1 : ReachesBy lists base parent c (name v) (suc m.1.0) y x (not m.0) = (x, y, m.0, m.1.1, over refl refl b refl) in
                let m2 : ReachesBy lists base parent c (name v) (suc (suc m.1.0)) x (follows lists x y) (not m.0) = (y, x, not m.0, m1, along refl refl refl) in
                (follows lists x y, HasDart-follows lists x y d, subst (Reaches lists base parent c (name v) x (follows lists x y)) (ap not e) (suc (suc m.1.0), m2))
          ]

      -- a made dart is one of the map
      inner_edge : (d : Colour) (k : ℕ) (i : IsInside n k) → HasDart lists (name k) (parent d (name k))
      inner_edge d k i = edges lists base at steps parent triangulation order run parents d (name k) (inner_name k i)

      second_dart : HasDart lists base.1 (follows lists base.1 base.0)
      second_dart = HasDart-follows lists base.1 base.0 (triangulation.simple.both_ways base.0 base.1 outer_face.dart)

      outer_dart : (d : Colour) → HasDart lists (root lists base (previous d)) (root lists base (next d))
      outer_dart three = outer_face.dart
      outer_dart two = second_dart
      outer_dart one = subst (HasDart lists (follows lists base.1 base.0)) outer_face.third (HasDart-follows lists (follows lists base.1 base.0) base.1 (triangulation.simple.both_ways base.1 (follows lists base.1 base.0) second_dart))

      end_inside : (d : Colour) (w : ℕ) → (d ≡ next c) ⊎ (d ≡ previous c) → IsOnPath lists base parent d (name v) w → IsOnInside lists base parent c (name v) w
      end_inside d w side p =
          let e = leads_end p.0 d v w (inl inside) p.1 in
          let j = e.0 in
          elim e.2 [
            | inl i ↦
                let edge : IsPathEdge lists base parent d (name v) (name j) (parent d (name j)) = (subst (IsOnPath lists base parent d (name v)) (sym e.1) p, inner_name j i, refl) in
                let b : IsBoundaryEdge lists base parent c (name v) (name j) (parent d (name j)) = elim side [
                  | inl z ↦ on_next (inl (subst (λ d'. IsPathEdge lists base parent d' (name v) (name j) (parent d (name j))) z edge))
                  | inr z ↦ on_previous (inl (subst (λ d'. IsPathEdge lists base parent d' (name v) (name j) (parent d (name j))) z edge))
                ] in
                subst (IsOnInside lists base parent c (name v)) e.1 (edge_inside (name j) (parent d (name j)) (inner_edge d j i) b)
            | inr r ↦ subst (IsOnInside lists base parent c (name v)) e.1 (subst (IsOnInside lists base parent c (name v)) (sym (ap name r ∙ (root_name d).1)) (elim side [
              | inl z ↦ subst (λ d. IsOnInside lists base parent c (name v) (root lists base d)) (sym z) (edge_inside (root lists base (next c)) (root lists base (previous c)) (triangulation.simple.both_ways (root lists base (previous c)) (root lists base (next c)) (outer_dart c)) (on_outer (inl (refl, refl))))
              | inr z ↦ subst (λ d. IsOnInside lists base parent c (name v) (root lists base d)) (sym z) (edge_inside (root lists base (previous c)) (root lists base (next c)) (outer_dart c) (on_outer (inr (refl, refl))))
            ]))
          ]

      pub on_inside : (w : ℕ) → IsInRegion lists base parent c (name v) w → IsOnInside lists base parent c (name v) w
      on_inside w (inl (inl p)) = end_inside (next c) w (inl refl) p
      on_inside w (inl (inr p)) = end_inside (previous c) w (inr refl) p
      on_inside w (inr p) = p

      -- so a region is what has its shade
      pub region_shade : (w : ℕ) → w < n + 2 → IsInRegion lists base parent c (name v) (name w) → IsInShade steps n c v w
      region_shade w l r =
          let i = on_inside (name w) r in
          let k = reaches_known i.2.0 (name w) i.0 true i.2.1 in
          let h = k.named in
          let e : h.a ≡ w = once' h.a w h.a_in l h.a_is in
          let is : k.shade ≡ number c = elim (cases_eq k.shade (number c)) [ inl x ↦ x | inr x ↦ absurd (true≢false (k.same ∙ ne_eqb k.shade (number c) x)) ] in
          by h e is h.shade
        where
          by : {x y s : ℕ} (h : Named x y s) → h.a ≡ w → s ≡ number c → HasShade steps n v h.a h.b s → IsInShade steps n c v w
          by h e is (outer d o z) = absurd (let m = number_some c in omega arith)
          by h e is (made f q z) =
              (f, subst (λ w. IsOn steps n w f) e (subst (IsOn steps n h.a) (sym q.face) (corners_on steps n run.run q.step q.place h.a h.b q.earlier q.dart)), sym z ∙ is)

      pub shade_region : (w : ℕ) → w < n + 2 → IsInShade steps n c v w → IsOnInside lists base parent c (name v) (name w)
      shade_region w l r =
          let m = inside.1 in
          let t = on_dart steps n run.run some' run.end v w r.0 m l r.1 in
          by t.0 t.1
        where
          by : (y : ℕ) → HasShade steps n v w y (shades steps n v r.0) → IsOnInside lists base parent c (name v) (name w)
          by y (outer d o z) = absurd (let m = number_some c in omega (arith, z, r.2))
          by y (made f q z) =
              let d = q.dart in
              let t = made_face q.step q.place q.earlier d.a d.b d.v d.face in
              let one' = t.0.dart in
              let two' = to_top lists base at steps parent triangulation order run parents (name d.a) (name d.b) (name d.v) t.0 in
              let three' = from_top lists base at steps parent triangulation order run parents (name d.a) (name d.b) (name d.v) t.0 in
              let dart : HasDart lists (name w) (name y) × (y < n + 2) = elim d.dart [
                | inl e ↦ (subst (λ x. HasDart lists x (name y)) (ap name (sym e.0)) (subst (HasDart lists (name d.a)) (ap name (sym e.1)) one'), let z = t.2 in omega (arith, e.1, z))
                | inr (inl e) ↦ (subst (λ x. HasDart lists x (name y)) (ap name (sym e.0)) (subst (HasDart lists (name d.b)) (ap name (sym e.1)) two'), let z = t.3 in omega (arith, e.1, z))
                | inr (inr e) ↦ (subst (λ x. HasDart lists x (name y)) (ap name (sym e.0)) (subst (HasDart lists (name d.v)) (ap name (sym e.1)) three'), let z = t.1 in omega (arith, e.1, z))
              ] in
              let m = met_all (name w) (name y) dart.0 in
              let k = reaches_known m.1.0 (name w) (name y) m.0 m.1.1 in
              let known : Known (name w) (name y) true = record { shade = shades steps n v r.0; named = record { a = w; b = y; a_in = l; b_in = dart.1; a_is = refl; b_is = refl; shade = made f q z }; same = sym (eq-eqb (shades steps n v r.0) (number c) r.2) } in
              (name y, dart.0, subst (Reaches lists base parent c (name v) (name w) (name y)) (known_once (name w) (name y) m.0 true k known) m.1)

  -- regions are nested
  pub nested : (c : Colour) (u v w : ℕ) → IsInner lists base u → IsInner lists base v → IsInRegion lists base parent c u v → IsInRegion lists base parent c v w → IsInRegion lists base parent c u w
  nested c u v w iu iv a b =
      let ru = ranked lists base at steps parent triangulation order run parents u iu in
      let rv = ranked lists base at steps parent triangulation order run parents v iv in
      let t = count-stage_after steps n in
      let rw = rank_of w (on_inside rv.0 (rv.1, rv.2) c w (subst (λ v. IsInRegion lists base parent c v w) (sym rv.3) b)).1.0 in
      let in_u = region_shade ru.0 (ru.1, ru.2) c rv.0 (omega arith) (subst (λ u. IsInRegion lists base parent c u (name rv.0)) (sym ru.3) (subst (IsInRegion lists base parent c u) (sym rv.3) a)) in
      let in_v = region_shade rv.0 (rv.1, rv.2) c rw.0 rw.1 (subst (λ v. IsInRegion lists base parent c v (name rw.0)) (sym rv.3) (subst (IsInRegion lists base parent c v) (sym rw.2) b)) in
      let s = (IsNested-run steps n run.run).nested ru.0 rv.0 in_u.0 in_v.0 (number c) (omega arith) in_u.1 in_u.2 in_v.2 in
      inr (subst (λ u. IsOnInside lists base parent c u w) ru.3 (subst (IsOnInside lists base parent c (name ru.0)) rw.2 (shade_region ru.0 (ru.1, ru.2) c rw.0 rw.1 (in_v.0, in_v.1, s))))
