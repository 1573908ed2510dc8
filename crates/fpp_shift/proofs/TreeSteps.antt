-- The tree of an order goes on by one vertex, and is that of all vertices at the end.
use Rattle.std.proofs.Common.{◌≡◌, All, ◌+◌, ◌-◌, ◌*◌, ◌<◌, ◌≤◌, ℕ, suc, List, length, get_or, subst, sym, arith, Contains}
use Rattle.map_lists.specs.Lists.{Lists}
use Rattle.map_theory.specs.Maps.{Dart, list_of}
use Rattle.plane_laws.specs.Triangulations.{IsTriangulation}
use Rattle.canon_order.specs.Orders.{IsCanonicalOrder, IsRankOf}
use Rattle.contour_runs.specs.Runs.{Step}
use Rattle.contour_runs.specs.Laws.{FaceCount}
use Rattle.order_drawings.specs.OrderRuns.{IsOrderRun, OrderIsRun}
use Rattle.fpp_shift.specs.declared.offset_trees.tree_nodes.Node.{Node}
use Rattle.fpp_shift.specs.Grown.{links_of, IsGrown}
use Rattle.fpp_shift.specs.Next.{IsNextStep}
use Rattle.fpp_shift.specs.OffsetTreesLaws.{GrownIsOffsetTree}
use Rattle.fpp_shift.specs.ShiftTreesRows.{IsListOf, BeginsRow, EndsRow, OrderHasRows}
use Rattle.fpp_shift.specs.Trees.{IsTreeOf}
use Rattle.fpp_shift.specs.Ways.{IsTree}
use Rattle.fpp_shift.proofs.DartLemmas.{only-rank}
use Rattle.fpp_shift.proofs.PointLemmas.{AddsUp-order}
use Rattle.fpp_shift.proofs.TreeLemmas.{IsTreeTo, AreUsesTo, IsNextStep-order, row-at, listed-at, some-in, uses-more, IsTreeOf-all, uses-all}

-- so it is for each run of the order: the next vertex, of rank k, is v, and put over the row from p to q
abbrev pub AreNext : Lists → List ℕ → ℕ → List Node → ℕ → ℕ → ℕ → Type 0
AreNext lists at k nodes v p q = (base : Dart) (order : IsCanonicalOrder lists base at) (steps : ℕ → Step) → IsOrderRun lists base at order.cycle steps → (j : ℕ) → j + 2 ≡ k → IsNextStep at steps j nodes v p q

-- a tree of two vertices, and of one vertex more
pub IsTreeTo-two : (lists : Lists) (at : List ℕ) (nodes : List Node) → ((steps : ℕ → Step) → IsGrown (λ i. get_or at i 0) steps 0 (links_of nodes at)) → IsTreeTo lists at nodes 2
IsTreeTo-two lists at nodes begun = λ base order steps run j e. let d : 0 ≡ j = omega arith in subst (λ j. IsGrown (λ i. get_or at i 0) steps j (links_of nodes at)) d (begun steps)

module _ (lists : Lists) (at : List ℕ) (old : List Node) (k v p q : ℕ) (low : 2 ≤ k) (next : AreNext lists at k old v p q) where
  pub IsTreeTo-more : (new : List Node) → ((at : List ℕ) (run : ℕ → Step) (n : ℕ) → IsNextStep at run n old v p q → IsGrown (λ i. get_or at i 0) run (suc n) (links_of new at)) → IsTreeTo lists at new (k + 1)
  IsTreeTo-more new grown = λ base order steps run j e.
      let more : suc (k - 2) ≡ j = omega arith in
      subst (λ j. IsGrown (λ i. get_or at i 0) steps j (links_of new at)) more (grown at steps (k - 2) (next base order steps run (k - 2) (omega arith)))

  pub AreUsesTo-more :
      (start before after : ℕ) → AreUsesTo lists at start before k → ((at : List ℕ) (run : ℕ → Step) (n : ℕ) → IsNextStep at run n old v p q → after ≤ before + 14 + 2 * ((run n).last - (run n).first)) → AreUsesTo lists at start after (k + 1)
  AreUsesTo-more start before after uses each = λ base order steps run j e.
      uses-more steps (k - 2) j start before after (omega arith) (uses base order steps run (k - 2) (omega arith)) (each at steps (k - 2) (next base order steps run (k - 2) (omega arith)))

module _ (lists : Lists) (base : Dart) (at : List ℕ) (triangulation : IsTriangulation lists) (order : IsCanonicalOrder lists base at) (runs : OrderIsRun) (few : length lists < 4096) where
  module _ (ranks : List ℕ) (rank : IsRankOf ranks at) (found : OrderHasRows) (k v : ℕ) (low : 2 ≤ k) (l : k < length at) (is : get_or at k 0 ≡ v) where
    -- the vertex of rank k has a list and a row
    pub vertex-in : v < length lists
    vertex-in = let o = order.vertices k 0 l in omega (arith, is)

    pub ends-at : ((p : ℕ) × BeginsRow lists ranks k v p) × ((q : ℕ) × EndsRow lists ranks k v q)
    ends-at = row-at lists base at ranks triangulation order rank runs found k v low l is

    pub listed : (list : List ℕ) → list ≡ list_of lists v → IsListOf lists v list × All (λ u. u < length ranks) list
    listed list here = listed-at lists base at ranks list triangulation order rank k v l is here

    pub some-listed : (list : List ℕ) → list ≡ list_of lists v → 0 < length list
    some-listed list here = some-in list ends-at.0.0 (subst (λ us. Contains us ends-at.0.0) (sym here) ends-at.0.1.dart.1)

    -- where the row begins and ends, by the list
    pub begin-listed : (list : List ℕ) (s p : ℕ) → list ≡ list_of lists v → get_or at 0 0 ≡ s → ((lists : Lists) (v p' : ℕ) → IsListOf lists v list → BeginsRow lists ranks k v p' → (get_or ranks p' 0 ≡ 0 → p' ≡ s) → BeginsRow lists ranks k v p) → BeginsRow lists ranks k v p
    begin-listed list s p here first by_list =
        let p' = ends-at.0 in
        let u_in = triangulation.simple.in_range v p'.0 p'.1.dart in
        by_list lists v p'.0 (listed list here).0 p'.1 (only-rank ranks at rank p'.0 0 s (omega (arith, order.count)) first)

    pub end-listed : (list : List ℕ) (t q : ℕ) → list ≡ list_of lists v → get_or at 1 0 ≡ t → ((lists : Lists) (v q' : ℕ) → IsListOf lists v list → EndsRow lists ranks k v q' → (get_or ranks q' 0 ≡ 1 → q' ≡ t) → EndsRow lists ranks k v q) → EndsRow lists ranks k v q
    end-listed list t q here second by_list =
        let q' = ends-at.1 in
        let u_in = triangulation.simple.in_range v q'.0 q'.1.dart in
        by_list lists v q'.0 (listed list here).0 q'.1 (only-rank ranks at rank q'.0 1 t (omega (arith, order.count)) second)

    pub next-order : (nodes : List Node) (p q : ℕ) → length nodes ≡ length lists → IsTreeTo lists at nodes k → BeginsRow lists ranks k v p → EndsRow lists ranks k v q → AreNext lists at k nodes v p q
    next-order nodes p q count tree begin end = λ base order steps run j d.
        IsNextStep-order lists base at ranks triangulation order rank steps run found (omega (arith, order.count)) nodes (omega (arith, order.count)) j k v p q d l tree is begin end

    pub some-next : (nodes : List Node) (p q : ℕ) → AreNext lists at k nodes v p q → (at : List ℕ) × (run : ℕ → Step) × (n : ℕ) × IsNextStep at run n nodes v p q
    some-next nodes p q next = let run = runs lists base at triangulation order in (at, run.0, k - 2, next base order run.0 run.1 (k - 2) (omega arith))

  -- all vertices are put
  pub tree-done :
      GrownIsOffsetTree → FaceCount → (nodes : List Node) (k start uses : ℕ) → length nodes ≡ length lists → k ≡ length at → IsTreeTo lists at nodes k → AreUsesTo lists at start uses k
      → IsTreeOf lists at nodes × (uses ≤ start + 24 * length lists) × IsTree nodes (get_or at 0 0)
  tree-done grown faces nodes k start uses count whole tree used =
      let run = runs lists base at triangulation order in
      let made = IsTreeOf-all grown lists at nodes k whole (omega arith) tree in
      let few_uses = uses-all faces lists base at order run.0 run.1 start uses k whole (omega arith) used in
      (made, omega arith, (AddsUp-order lists base at nodes triangulation few order run.0 run.1 (omega arith) made).tree)
