-- The tree of an order, as it grows.
use Rattle.std.proofs.Common.{◌≡◌, ◌≢◌, All, Contains, ◌+◌, ◌-◌, ◌*◌, ◌<◌, ◌≤◌, ℕ, suc, List, length, map, get_or, slice_get, Some, sym, ap, ◌∙◌, subst, arith}
use Rattle.std.proofs.lemmas.List.{get_or-map}
use Rattle.std.proofs.lemmas.Option.{get_or_from_slice_get, slice_get_within}
use Rattle.map_lists.specs.Lists.{Lists}
use Rattle.map_lists.specs.declared.ids.VertexId.{VertexId}
use Rattle.std.proofs.lemmas.List.Elements.{Contains-get_or}
use Rattle.map_theory.specs.Maps.{Dart, list_of}
use Rattle.plane_laws.specs.Triangulations.{IsTriangulation}
use Rattle.canon_order.specs.Orders.{IsCanonicalOrder, IsRankOf}
use Rattle.canon_order.proofs.Counters.{same_place}
use Rattle.contour_runs.specs.Runs.{Step, stage_after, faces_made}
use Rattle.contour_runs.specs.Laws.{FaceCount}
use Rattle.contour_runs.proofs.Stages.{IsRun-less}
use Rattle.order_drawings.specs.OrderRuns.{IsOrderRun, OrderIsRun}
use Rattle.fpp_shift.specs.declared.offset_trees.tree_nodes.Node.{Node}
use Rattle.fpp_shift.specs.Grown.{links_of, IsGrown, IsOffsetTree}
use Rattle.fpp_shift.specs.Next.{IsNextStep}
use Rattle.fpp_shift.specs.OffsetTreesLaws.{GrownIsOffsetTree}
use Rattle.fpp_shift.specs.ShiftTreesRows.{IsListOf, BeginsRow, EndsRow, OrderHasRows}
use Rattle.fpp_shift.specs.Trees.{IsTreeOf}

-- the nodes are the tree of the first k vertices of an order
abbrev pub IsTreeTo : Lists → List ℕ → List Node → ℕ → Type 0
IsTreeTo lists at nodes k = (base : Dart) (order : IsCanonicalOrder lists base at) (steps : ℕ → Step) → IsOrderRun lists base at order.cycle steps → (j : ℕ) → j + 2 ≡ k → IsGrown (λ i. get_or at i 0) steps j (links_of nodes at)

-- so many uses make it: two at first, 14 for each vertex, and two for each face
abbrev pub AreUsesTo : Lists → List ℕ → ℕ → ℕ → ℕ → Type 0
AreUsesTo lists at old new k = (base : Dart) (order : IsCanonicalOrder lists base at) (steps : ℕ → Step) → IsOrderRun lists base at order.cycle steps → (j : ℕ) → j + 2 ≡ k → new ≤ old + 2 + 14 * j + 2 * faces_made steps j

pub vertex-is : (vs : List VertexId) (k : ℕ) (v : VertexId) → slice_get vs k ≡ Some v → get_or (map (λ v. v.0) vs) k 0 ≡ v.0
vertex-is vs k v e = get_or-map (λ v. v.0) vs k v 0 (slice_get_within vs k v e) ∙ ap (λ v. v.0) (get_or_from_slice_get vs k v v e)

module _ (lists : Lists) (base : Dart) (at ranks : List ℕ) (triangulation : IsTriangulation lists) (order : IsCanonicalOrder lists base at) (rank : IsRankOf ranks at) (steps : ℕ → Step) (run : IsOrderRun lists base at order.cycle steps) (found : OrderHasRows) (few : length at < 4096) (nodes : List Node) (count : length nodes ≡ length at) where
  -- the next step of the order
  pub IsNextStep-order : (j k v p q : ℕ) → j + 2 ≡ k → k < length at → IsTreeTo lists at nodes k → get_or at k 0 ≡ v → BeginsRow lists ranks k v p → EndsRow lists ranks k v q → IsNextStep at steps j nodes v p q
  IsNextStep-order j k v p q d l tree e begin end =
      let l' : j + 2 < length at = omega arith in
      let row = found lists base at ranks triangulation order rank steps run j l' in
      let new : get_or at (j + 2) 0 ≡ v = ap (λ i. get_or at i 0) d ∙ e in
      record {
        run = IsRun-less steps (suc j) (length at - 2) (omega arith) run.run;
        few = few;
        many = l';
        count = count;
        inside = λ k m. let o = order.vertices k 0 m in let c = order.count in omega arith;
        apart = λ i j m m' e. same_place at i j order.built.once m m' e;
        grown = tree base order steps run j d;
        new = new;
        left = sym (row.only_begin p (subst (λ v. BeginsRow lists ranks (j + 2) v p) (sym new) (subst (λ i. BeginsRow lists ranks i v p) (sym d) begin)));
        right = sym (row.only_end q (subst (λ v. EndsRow lists ranks (j + 2) v q) (sym new) (subst (λ i. EndsRow lists ranks i v q) (sym d) end)));
      }

-- each vertex from the third on has a row
pub row-at : (lists : Lists) (base : Dart) (at ranks : List ℕ) → IsTriangulation lists → IsCanonicalOrder lists base at → IsRankOf ranks at → OrderIsRun → OrderHasRows → (k v : ℕ) → 2 ≤ k → k < length at → get_or at k 0 ≡ v → ((p : ℕ) × BeginsRow lists ranks k v p) × ((q : ℕ) × EndsRow lists ranks k v q)
row-at lists base at ranks triangulation order rank runs found k v low l e =
    let run = runs lists base at triangulation order in
    let j : ℕ = k - 2 in
    let d : j + 2 ≡ k = omega arith in
    let row = found lists base at ranks triangulation order rank run.0 run.1 j (omega arith) in
    let new : get_or at (j + 2) 0 ≡ v = ap (λ i. get_or at i 0) d ∙ e in (
      (get_or at ((stage_after run.0 j).vertex (run.0 j).first) 0, subst (λ i. BeginsRow lists ranks i v (get_or at ((stage_after run.0 j).vertex (run.0 j).first) 0)) d (subst (λ v. BeginsRow lists ranks (j + 2) v (get_or at ((stage_after run.0 j).vertex (run.0 j).first) 0)) new row.begin)),
      (get_or at ((stage_after run.0 j).vertex (run.0 j).last) 0, subst (λ i. EndsRow lists ranks i v (get_or at ((stage_after run.0 j).vertex (run.0 j).last) 0)) d (subst (λ v. EndsRow lists ranks (j + 2) v (get_or at ((stage_after run.0 j).vertex (run.0 j).last) 0)) new row.end)),
    )

-- the uses of one step more
pub uses-more : (steps : ℕ → Step) (i j old before new : ℕ) → suc i ≡ j → before ≤ old + 2 + 14 * i + 2 * faces_made steps i → new ≤ before + 14 + 2 * ((steps i).last - (steps i).first) → new ≤ old + 2 + 14 * j + 2 * faces_made steps j
uses-more steps i j old before new d h l = omega (arith, ap (λ n. faces_made steps n) d)

-- the tree of all vertices is the tree of offsets
pub IsTreeOf-all : GrownIsOffsetTree → (lists : Lists) (at : List ℕ) (nodes : List Node) (k : ℕ) → k ≡ length at → 3 ≤ length at → IsTreeTo lists at nodes k → IsTreeOf lists at nodes
IsTreeOf-all law lists at nodes k e some tree = λ base order steps run.
    let d : suc (length at - 3) ≡ length at - 2 = omega arith in
    let grown = tree base order steps run (suc (length at - 3)) (omega arith) in
    subst (λ n. IsOffsetTree (λ i. get_or at i 0) steps n (links_of nodes at)) d
    (law (λ i. get_or at i 0) steps (length at - 3) (links_of nodes at) (IsRun-less steps (suc (length at - 3)) (length at - 2) (omega arith) run.run) (ap (λ n. (stage_after steps n).width) d ∙ run.end) grown)

-- and its uses are few
pub uses-all : FaceCount → (lists : Lists) (base : Dart) (at : List ℕ) (order : IsCanonicalOrder lists base at) (steps : ℕ → Step) → IsOrderRun lists base at order.cycle steps → (old new k : ℕ) → k ≡ length at → 3 ≤ length at → AreUsesTo lists at old new k → new ≤ old + 24 * length at
uses-all law lists base at order steps run old new k e some uses = omega (arith, uses base order steps run (length at - 2) (omega arith), run.end)

-- the list of a vertex of the map is such a list, its entries have ranks, and some stand in it
pub listed-at :
    (lists : Lists) (base : Dart) (at ranks list : List ℕ) → IsTriangulation lists → IsCanonicalOrder lists base at → IsRankOf ranks at → (k v : ℕ) → k < length at → get_or at k 0 ≡ v → list ≡ list_of lists v
    → IsListOf lists v list × All (λ u. u < length ranks) list
listed-at lists base at ranks list triangulation order rank k v l e is =
    let v_in : v < length lists = omega (arith, e) in (
      record { simple = triangulation.simple; vertex = v_in; list_is = is },
      λ i d m.
          let on = subst (λ (us : List ℕ). Contains us (get_or list i d)) is (Contains-get_or list i d m) in
          omega (arith, triangulation.simple.in_range v (get_or list i d) (v_in, on)),
    )

pub some-in : (us : List ℕ) (u : ℕ) → Contains us u → 0 < length us
some-in us u on = let l = on.1 in omega arith

-- the first two vertices of an order are two
pub two_first : (lists : Lists) (base : Dart) (at : List ℕ) → IsTriangulation lists → IsCanonicalOrder lists base at → (s t : ℕ) → get_or at 0 0 ≡ s → get_or at 1 0 ≡ t → s ≢ t
two_first lists base at triangulation order s t first second e = omega (arith, same_place at 0 1 order.built.once (omega arith) (omega arith) (first ∙ e ∙ sym second))
