-- A graph with a forest of several trees: with edges from one root to the others it is connected, and without them its map is one of the graph.
use Rattle.std.proofs.Common.{◌≡◌, ◌≢◌, ◌⊎◌, ℕ, zero, suc, ◌+◌, ◌-◌, ◌<◌, ◌≤◌, Bool, true, false, cond, not, eqb, ltb, refl, sym, ap, ap₂, ◌∙◌, subst, inl, inr, arith, eqb-true, eq-eqb}
use Rattle.std.specs.Prelude.{◌&&◌, ◌||◌}
use Rattle.std.proofs.lemmas.Bool.{cases_Bool, cases_lt, cases_eq, cond-true, cond-false, true≢false, and_parts, and_from, or_cases, or_left, or_right, lt-ltb, ltb-true, ne_eqb, false_from_ne_true}
use Rattle.std.specs.Cmp.{both_ways as same_bits}
use Rattle.map_lists.specs.Lists.{Lists}
use Rattle.map_theory.specs.Maps.{HasDart}
use Rattle.plane_laws.specs.Kept.{with_kept}
use Rattle.plane_laws.proofs.KeptEdges.{kept_edges, length-with_kept}
use Rattle.left_right_laws.specs.Forests.{up, IsForest, IsAbove, IsReturn, IsLeftRight}
use Rattle.left_right_laws.proofs.Forks.{plane_is_left_right}
use Rattle.left_right_laws.proofs.Lines.{up-add}
use Rattle.left_right_maps.specs.Orders.{IsEdge}
use Rattle.left_right_maps.specs.Graphs.{IsDepthFirst, IsMapOfEdges, PlanarByLeftRight}
use Rattle.left_right_maps.specs.Trees.{IsDepthFirstTree}
use Rattle.left_right_maps.specs.RootedMaps.{is_child, in_tree}
use Rattle.left_right_maps.proofs.Lines.{child_is, is_child_from, up_last, above_same, up_depth}
use Rattle.left_right_maps.proofs.Whole.{map_of_edges}

-- the root above a vertex
root_above : (n : ℕ) (edge : ℕ → ℕ → Bool) (parent depth : ℕ → ℕ) → IsDepthFirst n edge parent depth → (k v : ℕ) → depth v ≡ k → v < n → (r : ℕ) × ((r < n) × (depth r ≡ 0))
root_above n edge parent depth g zero v e l = (v, (l, e))
root_above n edge parent depth g (suc k) v e l =
    let some : 0 < depth v = omega arith in
    root_above n edge parent depth g k (parent v) (omega arith) (g.in_range (parent v) v (g.both_ways v (parent v) (g.forest.edges v some)))

module _ (n : ℕ) (edge : ℕ → ℕ → Bool) (parent depth : ℕ → ℕ) (r : ℕ) (r_in : r < n) (r_depth : depth r ≡ 0) (g : IsDepthFirst n edge parent depth) where
  abbrev deeper : (v : ℕ) → 0 < depth v → depth v ≡ depth (parent v) + 1
  deeper = g.forest.deeper

  abbrev Above : ℕ → ℕ → Type 0
  Above = IsAbove parent depth

  -- the root of v's tree
  abbrev pub top : ℕ → ℕ
  top v = up parent (depth v) v

  top_depth : (v : ℕ) → depth (top v) ≡ 0
  top_depth v = let a = up_depth parent depth deeper (depth v) v (omega arith) in omega arith

  in_graph : (v : ℕ) → 0 < depth v → v < n
  in_graph v deep = g.in_range v (parent v) (g.forest.edges v deep)

  parent_in : (v : ℕ) → 0 < depth v → parent v < n
  parent_in v deep = g.in_range (parent v) v (g.both_ways v (parent v) (g.forest.edges v deep))

  up_in : (k v : ℕ) → v < n → k ≤ depth v → up parent k v < n
  up_in zero v l far = l
  up_in (suc k) v l far = let e = deeper v (omega arith) in up_in k (parent v) (parent_in v (omega arith)) (omega arith)

  top_root : (v : ℕ) → depth v ≡ 0 → top v ≡ v
  top_root v e = ap (λ k. up parent k v) e

  top_above : (u v : ℕ) → Above u v → top u ≡ top v
  top_above u v a =
      sym (up-add parent (depth v - depth u) (depth u) (depth v) v (omega arith) ∙ ap (λ z. up parent (depth u) z) a.line)

  top_parent : (v : ℕ) → 0 < depth v → top (parent v) ≡ top v
  top_parent v deep =
      let k : depth v ≡ suc (depth (parent v)) = omega arith in
      sym (ap (λ k. up parent k v) k)

  -- v is in another tree; and is its root
  abbrev pub other : ℕ → Bool
  other v = ltb v n && not (eqb (top v) r)

  abbrev pub lone : ℕ → Bool
  lone v = eqb (depth v) 0 && other v

  pub other_so : (v : ℕ) → other v ≡ true → (v < n) × (top v ≢ r)
  other_so v t =
      let both = and_parts (ltb v n) (not (eqb (top v) r)) t in
      (ltb-true v n both.0, λ e. true≢false (sym both.1 ∙ ap not (eq-eqb (top v) r e)))

  other_same : (u v : ℕ) → u < n → v < n → top u ≡ top v → other u ≡ other v
  other_same u v lu lv e = ap₂ (λ b c. b && not (eqb c r)) (lt-ltb u n lu ∙ sym (lt-ltb v n lv)) e

  pub other_r : other r ≡ false
  other_r = false_from_ne_true (other r) (λ t. (other_so r t).1 (top_root r r_depth))

  pub lone_so : (v : ℕ) → lone v ≡ true → (depth v ≡ 0) × (other v ≡ true)
  lone_so v t = let both = and_parts (eqb (depth v) 0) (other v) t in (eqb-true (depth v) 0 both.0, both.1)

  lone_from : (v : ℕ) → depth v ≡ 0 → other v ≡ true → lone v ≡ true
  lone_from v e t = and_from (eqb (depth v) 0) (other v) (eq-eqb (depth v) 0 e) t

  -- the tree of them all
  pub depth' : ℕ → ℕ
  depth' v = depth v + cond (other v) 1 0

  pub parent' : ℕ → ℕ
  parent' v = cond (lone v) r (parent v)

  abbrev pub new : ℕ → ℕ → Bool
  new u v = eqb u r && lone v

  pub edge' : ℕ → ℕ → Bool
  edge' u v = edge u v || (new u v || new v u)

  pub depth_is : (v : ℕ) → depth' v ≡ depth v + cond (other v) 1 0
  unfolding depth'
  depth_is v = refl

  pub parent_is : (v : ℕ) → parent' v ≡ cond (lone v) r (parent v)
  unfolding parent'
  parent_is v = refl

  depth_on : (v : ℕ) → other v ≡ true → depth' v ≡ depth v + 1
  unfolding depth'
  depth_on v t = ap (λ k. depth v + k) (cond-true {A = ℕ} (other v) 1 0 t)

  depth_off : (v : ℕ) → other v ≡ false → depth' v ≡ depth v
  unfolding depth'
  depth_off v f = let e = ap (λ k. depth v + k) (cond-false {A = ℕ} (other v) 1 0 f) in e ∙ omega arith

  depth_either : (v : ℕ) → (depth' v ≡ depth v) ⊎ ((other v ≡ true) × (depth' v ≡ depth v + 1))
  depth_either v = elim (cases_Bool (other v)) [ inl t ↦ inr (t, depth_on v t) | inr f ↦ inl (depth_off v f) ]

  -- two vertices of one tree are as far apart as before
  depth_apart : (u v : ℕ) → u < n → v < n → top u ≡ top v → depth' u + depth v ≡ depth' v + depth u
  depth_apart u v lu lv e = grind (arith, other_same, cases_Bool, other, depth_on, depth_off)

  depth_r : depth' r ≡ 0
  depth_r = depth_off r other_r ∙ r_depth

  pub parent_lone : (v : ℕ) → lone v ≡ true → parent' v ≡ r
  unfolding parent'
  parent_lone v t = cond-true {A = ℕ} (lone v) r (parent v) t

  not_lone : (v : ℕ) → 0 < depth v → lone v ≡ false
  not_lone v deep = false_from_ne_true (lone v) (λ t. let e = (lone_so v t).0 in omega arith)

  pub parent_same : (v : ℕ) → 0 < depth v → parent' v ≡ parent v
  unfolding parent'
  parent_same v deep = cond-false {A = ℕ} (lone v) r (parent v) (not_lone v deep)

  up_same : (k v : ℕ) → k ≤ depth v → up parent' k v ≡ up parent k v
  up_same zero v l = refl
  up_same (suc k) v l =
      ap (λ z. up parent' k z) (parent_same v (omega arith)) ∙ up_same k (parent v) (omega arith)

  edge_old : (u v : ℕ) → edge u v ≡ true → edge' u v ≡ true
  unfolding edge'
  edge_old u v t = or_left (edge u v) (new u v || new v u) t

  edge_down : (v : ℕ) → lone v ≡ true → edge' r v ≡ true
  unfolding edge'
  edge_down v t = or_right (edge r v) (new r v || new v r) (or_left (new r v) (new v r) (and_from (eqb r r) (lone v) (eq-eqb r r refl) t))

  edge_up : (v : ℕ) → lone v ≡ true → edge' v r ≡ true
  unfolding edge'
  edge_up v t = or_right (edge v r) (new v r || new r v) (or_right (new v r) (new r v) (and_from (eqb r r) (lone v) (eq-eqb r r refl) t))

  edge_cases : (u v : ℕ) → edge' u v ≡ true → (edge u v ≡ true) ⊎ (((u ≡ r) × (lone v ≡ true)) ⊎ ((v ≡ r) × (lone u ≡ true)))
  unfolding edge'
  edge_cases u v t = grind (arith, or_cases, new, and_parts, eqb, lone, eqb-true)

  lone_in : (v : ℕ) → lone v ≡ true → v < n
  lone_in v t = (other_so v (lone_so v t).1).0

  -- a vertex below the root is one of the graph, and the root of a tree or below its parent
  pub below_so : (v : ℕ) → 0 < depth' v → (lone v ≡ true) ⊎ (0 < depth v)
  below_so v deep = grind (arith, cases_eq, depth_either, lone_from)

  grown : IsForest (IsEdge edge') parent' depth'
  grown =
      record {
        edges = λ v deep. elim (below_so v deep) [
          | inl t ↦ subst (λ z. edge' v z ≡ true) (sym (parent_lone v t)) (edge_up v t)
          | inr d ↦ subst (λ z. edge' v z ≡ true) (sym (parent_same v d)) (edge_old v (parent v) (g.forest.edges v d))
        ];
        deeper = λ v deep. elim (below_so v deep) [
          | inl t ↦ grind (arith, lone_so, depth_r, depth', parent_lone, depth_on)
          | inr d ↦
              omega (arith, ap depth' (parent_same v d), depth_apart (parent v) v (parent_in v d) (in_graph v d) (top_parent v d))
        ];
      }

  abbrev Above' : ℕ → ℕ → Type 0
  Above' = IsAbove parent' depth'

  above_new : (u v : ℕ) → u < n → v < n → Above u v → Above' u v
  above_new u v lu lv a = grind (arith, depth_apart, top_above, depth', up, parent', up_same)

  above_r : (v : ℕ) → lone v ≡ true → Above' r v
  above_r v t = grind (arith, lone_so, depth', depth_r, depth_on, up, parent', parent_lone)

  pub tree : IsDepthFirstTree n edge' parent' depth' r
  tree =
      record {
        root_in = r_in;
        top = depth_r;
        others = λ v l ne. elim (cases_Bool (other v)) [
          | inl t ↦ (let a = depth_on v t in omega arith)
          | inr f ↦
              let one_tree : top v ≡ r = elim (cases_eq (top v) r) [ inl e ↦ e | inr off ↦ absurd (true≢false (sym (and_from (ltb v n) (not (eqb (top v) r)) (lt-ltb v n l) (ap not (ne_eqb (top v) r off))) ∙ f)) ] in
              elim (cases_eq (depth v) 0) [ inl e ↦ absurd (ne (sym (top_root v e) ∙ one_tree)) | inr deep ↦ omega (arith, depth_off v f, deep) ]
        ];
        in_range = λ u v t. elim (edge_cases u v t) [ inl h ↦ g.in_range u v h | inr h ↦ elim h [ inl k ↦ subst (λ z. z < n) (sym k.0) r_in | inr k ↦ lone_in u k.1 ] ];
        both_ways = λ u v t. elim (edge_cases u v t) [
          | inl h ↦ edge_old v u (g.both_ways u v h)
          | inr h ↦ elim h [ inl k ↦ subst (λ z. edge' v z ≡ true) (sym k.0) (edge_up v k.1) | inr k ↦ subst (λ z. edge' z u ≡ true) (sym k.0) (edge_down u k.1) ]
        ];
        no_loop = λ v. false_from_ne_true (edge' v v) (λ t. elim (edge_cases v v t) [
          | inl h ↦ true≢false (sym h ∙ g.no_loop v)
          | inr h ↦ grind (arith, true≢false, lone_so, other, other_r)
        ]);
        forest = grown;
        on_lines = λ u v t. elim (edge_cases u v t) [
          | inl h ↦ grind (arith, above_new)
          | inr h ↦ elim h [ inl k ↦ inl (subst (λ z. Above' z v) (sym k.0) (above_r v k.1)) | inr k ↦ inr (subst (λ z. Above' z u) (sym k.0) (above_r u k.1)) ]
        ];
      }

  lone_child : (v : ℕ) → lone v ≡ true → is_child parent' depth' r v ≡ true
  lone_child v t =
      is_child_from parent' depth' r v (omega (arith, depth_on v (lone_so v t).1)) (parent_lone v t)

  -- each edge is one of the graph or of the tree
  pub edge_by_tree : (u v : ℕ) → edge' u v ≡ (edge u v || in_tree parent' depth' u v)
  edge_by_tree u v =
      let down = is_child parent' depth' u v in
      let back = is_child parent' depth' v u in
      same_bits (edge' u v) (edge u v || (down || back))
      (λ t. elim (edge_cases u v t) [
        | inl h ↦ or_left (edge u v) (down || back) h
        | inr h ↦ or_right (edge u v) (down || back) (elim h [
          | inl k ↦ or_left down back (subst (λ z. is_child parent' depth' z v ≡ true) (sym k.0) (lone_child v k.1))
          | inr k ↦ or_right down back (subst (λ z. is_child parent' depth' z u ≡ true) (sym k.0) (lone_child u k.1))
        ])
      ])
      (λ t. elim (or_cases (edge u v) (down || back) t) [
        | inl h ↦ edge_old u v h
        | inr h ↦ grind (arith, or_cases, back, child_is, parent', depth', tree, edge', grown)
      ])

  -- ---- what returns there returns here
  above_old : (u v : ℕ) → Above' u v → depth' v - depth' u ≤ depth v → Above u v × (depth v ≡ depth u + (depth' v - depth' u))
  above_old u v a l =
      let k = depth' v - depth' u in
      let line : up parent k v ≡ u = sym (up_same k v l) ∙ a.line in
      let d = up_depth parent depth deeper k v l in
      let same = ap depth line in
      let k' : depth v - depth u ≡ k = omega arith in
      (record { depths = omega arith; line = ap (λ k. up parent k v) k' ∙ line }, omega arith)

  depth_most : (v : ℕ) → (depth v ≤ depth' v) × (depth' v ≤ depth v + 1)
  depth_most v = elim (depth_either v) [ inl e ↦ (omega arith, omega arith) | inr h ↦ (let e = h.1 in (omega arith, omega arith)) ]

  abbrev Old : ℕ → ℕ → ℕ → ℕ → Type 0
  Old v e t w = IsReturn (IsEdge edge) parent depth v e t w

  abbrev New : ℕ → ℕ → ℕ → ℕ → Type 0
  New v e t w = IsReturn (IsEdge edge') parent' depth' v e t w

  under_old : (v e t w : ℕ) → New v e t w → Above v t × (depth t ≡ depth v + (depth' t - depth' v))
  under_old v e t w a =
      above_old v t a.under (omega (arith, depth_most t))

  -- it does not end at the root of all from another tree
  no_new : (v e t w : ℕ) → New v e t w → ¬ (depth v < depth' v - depth' w)
  no_new v e t w a far =
      elim (depth_either v) [
        | inl same ↦ omega arith
        | inr h ↦
            let k : depth' v - depth' w ≡ suc (depth v) = omega arith in
            let so = other_so v h.0 in
            let top_in : top v < n = up_in (depth v) v so.0 (omega arith) in
            let top_lone : lone (top v) ≡ true = lone_from (top v) (top_depth v) (other_same (top v) v top_in so.0 (top_root (top v) (top_depth v)) ∙ h.0) in
            let w_is : w ≡ r = sym a.above.line ∙ (ap (λ k. up parent' k v) k ∙ (up_last parent' depth' (depth v) v ∙ (ap parent' (up_same (depth v) v (omega arith)) ∙ parent_lone (top v) top_lone))) in
            let under = under_old v e t w a in
            elim (edge_cases t w a.edge) [
              | inl old ↦ grind (arith, top_above, top_root)
              | inr k' ↦ grind (arith, true≢false, lone_so, other, other_r, above_same, parent_lone, lone)
            ]
      ]

  back : (v e t w : ℕ) → New v e t w → Old v e t w
  back v e t w a =
      let near : depth' v - depth' w ≤ depth v = elim (cases_lt (depth v) (depth' v - depth' w)) [ inl far ↦ absurd (no_new v e t w a far) | inr fine ↦ fine ] in
      let above = above_old w v a.above near in
      let under = under_old v e t w a in
      let higher : depth w < depth v = omega arith in
      record {
        edge = grind (arith, edge_cases, other_so, lone_so, top_above, top, top_root);
        higher = higher;
        above = above.0;
        under = under.0;
        branch = grind (arith, depth', up, parent', up_same);
        away = λ e'. a.away (e' ∙ sym (parent_same v (omega arith)));
      }

  -- ends of edges that return at one fork
  ends_apart : (v e f t w s z : ℕ) → Old v e t w → Old v f s z → depth' w + depth z ≡ depth' z + depth w
  ends_apart v e f t w s z a b =
      depth_apart w z (g.in_range w t (g.both_ways t w a.edge)) (g.in_range z s (g.both_ways s z b.edge)) (top_above w v a.above ∙ sym (top_above z v b.above))

  module _ (left : ℕ → ℕ → Bool) (sides : IsLeftRight (IsEdge edge) parent depth left) where
    pub sides' : IsLeftRight (IsEdge edge') parent' depth' left
    sides' v e f apart =
        let at = sides v e f apart in (
          at.0,
          λ t w s z one two.
              let one' = back v e t w one in
              let two' = back v f s z two in
              let same = ends_apart v e f t w s z one' two' in
              let tied = at.1 t w s z one' two' in
              ((λ less. tied.0 (omega arith)), (λ less. tied.1 (omega arith))),
        )

  symmetric : (u v : ℕ) → edge u v ≡ edge v u
  symmetric u v = same_bits (edge u v) (edge v u) (g.both_ways u v) (g.both_ways v u)

  -- without the edges between trees
  pub kept_map : (whole : Lists) → IsMapOfEdges n edge' whole → IsMapOfEdges n edge (with_kept edge whole)
  kept_map whole m =
      let kept = kept_edges whole edge symmetric m.simple in
      record {
        simple = kept.simple;
        plane = kept.plane m.plane;
        vertices = length-with_kept edge whole ∙ m.vertices;
        edges = λ v u. ((λ has. ((kept.darts v u).0 has).1), (λ t. (kept.darts v u).1 ((m.edges v u).1 (edge_old v u t), t)));
      }

  made : (left : ℕ → ℕ → Bool) → IsLeftRight (IsEdge edge) parent depth left → (lists : Lists) × IsMapOfEdges n edge lists
  made left sides =
      let whole = map_of_edges n edge' parent' depth' r left tree (sides' left sides) in
      (with_kept edge whole.0, kept_map whole.0 whole.1)

  pub parted : (lists : Lists) → IsMapOfEdges n edge lists → (left : ℕ → ℕ → Bool) × IsLeftRight (IsEdge edge) parent depth left
  parted lists m =
      let forest : IsForest (HasDart lists) parent depth = record { edges = λ v deep. (m.edges v (parent v)).1 (g.forest.edges v deep); deeper = deeper } in
      let found = plane_is_left_right lists parent depth m.simple m.plane forest in
      let lifted : (v e t w : ℕ) → Old v e t w → IsReturn (HasDart lists) parent depth v e t w = λ v e t w a. record { edge = (m.edges t w).1 a.edge; higher = a.higher; above = a.above; under = a.under; branch = a.branch; away = a.away } in
      (found.0, λ v e f apart. let at = found.1 v e f apart in (at.0, λ t w s z one two. at.1 t w s z (lifted v e t w one) (lifted v f s z two)))

-- THE LAW: genus zero by a partition into left and right
pub planar_by_left_right : PlanarByLeftRight
planar_by_left_right n edge parent depth some g =
    let r = root_above n edge parent depth g (depth 0) 0 refl some in
    ((λ m. parted n edge parent depth r.0 r.1.0 r.1.1 g m.0 m.1), (λ l. made n edge parent depth r.0 r.1.0 r.1.1 g l.0 l.1))
