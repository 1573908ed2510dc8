-- The tree of offsets of an order adds up to its shift points.
use Rattle.std.proofs.Common.{◌≡◌, ◌≢◌, ◌+◌, ◌-◌, ◌<◌, ◌≤◌, ◌⊎◌, ℕ, List, [], ◌∷◌, ◌++◌, length, get_or, pos, ◌+ℤ◌, refl, sym, ap, ap₂, ◌∙◌, subst, inl, inr, arith}
use Rattle.std.proofs.lemmas.Int.{ints}
use Rattle.std.proofs.lemmas.List.{get_or_default}
use Rattle.map_lists.specs.Lists.{Lists}
use Rattle.map_theory.specs.Maps.{Dart}
use Rattle.plane_laws.specs.Triangulations.{IsTriangulation}
use Rattle.canon_order.specs.Orders.{IsCanonicalOrder}
use Rattle.canon_order.proofs.Counters.{same_place, all_of_them}
use Rattle.contour_runs.specs.Runs.{Step}
use Rattle.order_drawings.specs.OrderRuns.{IsOrderRun}
use Rattle.pg_plane.specs.Range.{IsWithin}
use Rattle.fpp_shift.specs.Shift.{Places, shift_points}
use Rattle.fpp_shift.proofs.Corners.{in_grid, cornered}
use Rattle.fpp_shift.specs.declared.offset_trees.tree_nodes.Node.{Node}
use Rattle.fpp_shift.specs.Nodes.{node_at, left_of, right_of, LeadsTo}
use Rattle.fpp_shift.specs.Ways.{IsWay, sum_x, IsTree}
use Rattle.fpp_shift.specs.Grown.{Links, links_of, IsFrom, IsOffsetTree}
use Rattle.fpp_shift.specs.Trees.{IsTreeOf}
use Rattle.fpp_shift.specs.ShiftTreesLaws.{AddsUp}
use Rattle.fpp_shift.proofs.LinkLemmas.{IsRight, IsUnder, IsToTop, IsToEnd, left-link, right-link, under-first, under-next, child-once, child-placed, left-apart, first-from, right-from, reaches-all}
use Rattle.fpp_shift.proofs.MetLemmas.{way-more}

within-small : (k : ℕ) → k < 1048577 → IsWithin (pos 1048576) (pos k)
within-small k l = record { least = omega (arith, ints); most = omega (arith, ints) }

module _ (lists : Lists) (base : Dart) (at : List ℕ) (nodes : List Node) (triangulation : IsTriangulation lists) (few : length lists < 4096) (order : IsCanonicalOrder lists base at) (steps : ℕ → Step) (run : IsOrderRun lists base at order.cycle steps) (count : length nodes ≡ length lists) (made : IsTreeOf lists at nodes) where
  abbrev name : ℕ → ℕ
  name k = get_or at k 0

  abbrev n : ℕ
  n = length at - 2

  abbrev t : Links
  t = links_of nodes at

  abbrev points : Places
  points = shift_points steps n

  tree : IsOffsetTree name steps n t
  tree = made base order steps run

  many : 3 ≤ length at
  many = omega (arith, triangulation.some, order.count)

  some : 1 ≤ n
  some = omega (arith, many)

  -- the vertex of a number, and the number of a vertex
  inside : (k : ℕ) → k < n + 2 → name k < length nodes
  inside k l = let o = order.vertices k 0 (omega (arith, many)) in omega (arith, order.count)

  number : (v : ℕ) → v < length nodes → (k : ℕ) × (k < n + 2) × (name k ≡ v)
  number v l =
      let on = all_of_them at v (λ i d m. let o = order.vertices i d m in omega arith) order.built.once (omega arith) in
      (on.0, omega arith, get_or_default at on.0 0 v on.1 ∙ on.2)

  same : (i j : ℕ) → i < n + 2 → j < n + 2 → name i ≡ name j → i ≡ j
  same i j l m e = same_place at i j order.built.once (omega (arith, many)) (omega (arith, many)) e

  abbrev IsChild : ℕ → ℕ → Type 0
  IsChild z u = IsUnder steps n z u ⊎ (IsToTop n z u ⊎ IsToEnd n z u)

  right-child : (z u : ℕ) → IsRight steps n z u → IsChild z u
  right-child z u a = elim a [ inl a ↦ inl (under-next name steps n some run.run run.end t tree z u a) | inr a ↦ inr a ]

  -- a link leads to a vertex of the order, from which it is told
  link : (z w : ℕ) → z < n + 2 → LeadsTo nodes (name z) w → (u : ℕ) × (name u ≡ w) × IsChild z u × IsFrom t points z u
  link z w l e = elim e [
    | inl e ↦ let f = left-link name steps n some run.run run.end t tree z w l e in (f.0, f.1, inl (under-first name steps n some run.run run.end t tree z f.0 f.2), first-from name steps n some run.run run.end t tree z f.0 f.2)
    | inr e ↦ let f = right-link name steps n some run.run run.end t tree z w l e in (f.0, f.1, right-child z f.0 f.2, right-from name steps n some run.run run.end t tree z f.0 f.2)
  ]

  placed : (z u : ℕ) → IsChild z u → (u < n + 2) × (u ≢ 0)
  placed z u c = child-placed name steps n some run.run run.end t tree z u c

  -- the x on a way add up
  adds : (us : List ℕ) (z u w : ℕ) → z < n + 2 → u < n + 2 → name u ≡ w → IsWay nodes (name z) us w → pos (points.x z) +ℤ sum_x nodes us ≡ pos (points.x u)
  adds [] z u w l m e way =
      omega (arith, ap (λ i. pos (points.x i)) (same z u l m (way ∙ sym e)), ints)
  adds (v ∷ us) z u w l m e way =
      let f = link z v l way.0 in
      let more = adds us f.0 u w (placed z f.0 f.2).0 m e (subst (λ i. IsWay nodes i us w) (sym f.1) way.1) in
      omega (arith, ap (λ i. (node_at nodes i).x) f.1, ints)

  root : (us : List ℕ) (u w : ℕ) → u < n + 2 → name u ≡ w → IsWay nodes (name 0) us w → sum_x nodes (name 0 ∷ us) ≡ pos (points.x u)
  root us u w l e way =
      let a = adds us 0 u w (omega arith) l e way in
      omega (arith, (cornered steps n (n + 2) run.run refl (omega arith) run.end).first.0, tree.covered.root, ints)

  -- each vertex is reached
  reached : (u : ℕ) → u < n + 2 → (us : List ℕ) × IsWay nodes (name 0) us (name u)
  reached u l =
      reaches-all name steps n some run.run run.end t tree (λ u. (us : List ℕ) × IsWay nodes (name 0) us (name u)) ([], refl)
      (λ z u m way leads. (way.0 ++ name u ∷ [], way-more nodes (name 0) way.0 (name z) (name u) way.1 leads)) u l

  IsTree-order : IsTree nodes (name 0)
  IsTree-order = record {
    inside = inside 0 (omega (arith, many));
    within = λ v u l leads.
        let z = number v l in
        let f = link z.0 u z.1 (subst (λ v. LeadsTo nodes v u) (sym z.2) leads) in
        omega (arith, inside f.0 (placed z.0 f.0 f.2).0, f.1);
    reached = λ v l. let z = number v l in let r = reached z.0 z.1 in (r.0, subst (λ v. IsWay nodes (name 0) r.0 v) z.2 r.1);
    once = λ v w u l m a b.
        let z = number v l in
        let y = number w m in
        let f = link z.0 u z.1 (subst (λ v. LeadsTo nodes v u) (sym z.2) a) in
        let g = link y.0 u y.1 (subst (λ v. LeadsTo nodes v u) (sym y.2) b) in
        let s = same f.0 g.0 (placed z.0 f.0 f.2).0 (placed y.0 g.0 g.2).0 (f.1 ∙ sym g.1) in
        sym z.2 ∙ ap name (child-once name steps n some run.run run.end t tree z.0 y.0 g.0 (subst (λ u. IsChild z.0 u) s f.2) g.2) ∙ y.2;
    one_link = λ v u w l a b e.
        let z = number v l in
        let f = left-link name steps n some run.run run.end t tree z.0 u z.1 (ap (left_of nodes) z.2 ∙ a) in
        let g = right-link name steps n some run.run run.end t tree z.0 w z.1 (ap (right_of nodes) z.2 ∙ b) in
        let lf = (placed z.0 f.0 (inl (under-first name steps n some run.run run.end t tree z.0 f.0 f.2))).0 in
        let lg = (placed z.0 g.0 (right-child z.0 g.0 g.2)).0 in
        left-apart name steps n some run.run run.end t tree z.0 f.0 g.0 f.2 g.2 (same f.0 g.0 lf lg (f.1 ∙ e ∙ sym g.1));
    first = λ v l leads.
        let z = number v l in
        let f = link z.0 (name 0) z.1 (subst (λ v. LeadsTo nodes v (name 0)) (sym z.2) leads) in
        let c = placed z.0 f.0 f.2 in
        c.1 (same f.0 0 c.0 (omega (arith, many)) f.1);
    small = λ us v way.
        let z = ends us 0 v (omega (arith, many)) way in
        let g = (in_grid steps n (n + 2) z.0 run.run refl z.1).0 in
        subst (λ x. IsWithin (pos 1048576) x) (sym (root us z.0 v z.1 z.2 way)) (within-small (points.x z.0) (omega (arith, order.count)));
  }
    where
      -- a way leads to a vertex
      ends : (us : List ℕ) (z w : ℕ) → z < n + 2 → IsWay nodes (name z) us w → (u : ℕ) × (u < n + 2) × (name u ≡ w)
      ends [] z w l way = (z, l, way)
      ends (v ∷ us) z w l way =
          let f = link z v l way.0 in
          ends us f.0 w (placed z f.0 f.2).0 (subst (λ i. IsWay nodes i us w) (sym f.1) way.1)

  pub AddsUp-order : AddsUp at steps nodes
  AddsUp-order = record {
    tree = IsTree-order;
    points = λ ps are k l.
        let m : k < n + 2 = omega (arith, many) in
        let way = reached k m in
        let i = inside k m in
        let x = are.across way.0 (name k) i way.1 ∙ root way.0 k (name k) m refl way.1 in
        let y = are.high (name k) i ∙ tree.covered.heights k m in
        ap₂ (λ x y. record { x = x; y = y }) x y;
  }
