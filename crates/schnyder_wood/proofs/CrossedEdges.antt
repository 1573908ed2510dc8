-- Chains over the edges of the tables are those over the edges of a region's closed path.
use Rattle.std.proofs.Common.{◌≡◌, ℕ, zero, suc, Bool, true, false, not, if◌then◌else◌, ◌||◌, ◌&&◌, eqb, List, get_or, Some, refl, sym, ap, ◌∙◌, subst}
use Rattle.std.specs.Bool.{Decides}
use Rattle.std.proofs.lemmas.Bool.Decides.{Decides-eqb, Decides-or, Decides-and, not_from_Decides, same_from_decides}
use Rattle.map_lists.specs.Lists.{Lists}
use Rattle.map_lists.specs.declared.ids.DartId.{DartId}
use Rattle.map_theory.specs.Maps.{Dart, HasDart, IsSimpleMap, follows}
use Rattle.map_theory.proofs.DartLemmas.{HasDart-follows}
use Rattle.half_edges.specs.Map.{Map, IsHalfMap, dart_at}
use Rattle.euler_faces.specs.Chains.{GoesOn as ChainGoesOn, along as chain_along, over as chain_over, ReachesBy as ChainReachesBy}
use Rattle.euler_faces.specs.ChainSearch.{AreReached as ChainsReach}
use Rattle.wood_runs.specs.Parents.{Colour}
use Rattle.wood_laws.specs.Regions.{IsBoundaryEdge, GoesOn, along, over, past, ReachesBy}
use Rattle.schnyder_wood.specs.declared.schnyder_regions.closed_paths.ClosedPath.{ClosedPath}
use Rattle.schnyder_wood.specs.ClosedPaths.{IsEdgeOf}
use Rattle.schnyder_wood.specs.Search.{IsCrossed, HasEdges, AreReached}

-- whether an edge is one of the tables'
abbrev pub is_edge_of : ClosedPath → ℕ → ℕ → Bool
is_edge_of path x y =
    (eqb (get_or path.nexts.items x 0) y || eqb (get_or path.nexts.items y 0) x) || ((eqb (get_or path.previouses.items x 0) y || eqb (get_or path.previouses.items y 0) x) || ((eqb x path.next_root.0 && eqb y path.previous_root.0) || (eqb x path.previous_root.0 && eqb y path.next_root.0)))

is_edge_of-decides : (path : ClosedPath) (x y : ℕ) → Decides (is_edge_of path x y) (IsEdgeOf path x y)
is_edge_of-decides path x y =
    let next = Decides-or _ _ (Decides-eqb (get_or path.nexts.items x 0) y) (Decides-eqb (get_or path.nexts.items y 0) x) in
    let previous = Decides-or _ _ (Decides-eqb (get_or path.previouses.items x 0) y) (Decides-eqb (get_or path.previouses.items y 0) x) in
    let outer = Decides-or _ _ (Decides-and _ _ (Decides-eqb x path.next_root.0) (Decides-eqb y path.previous_root.0)) (Decides-and _ _ (Decides-eqb x path.previous_root.0) (Decides-eqb y path.next_root.0)) in
    Decides-or _ _ next (Decides-or _ _ previous outer)

module _ (lists : Lists) (simple : IsSimpleMap lists) (base : Dart) (parent : Colour → ℕ → ℕ) (c : Colour) (v : ℕ) (counts : ℕ → ℕ → Bool) (same : (x y : ℕ) → HasDart lists x y → Decides (counts x y) (IsBoundaryEdge lists base parent c v x y)) where
  has_next : (x y x' y' : ℕ) → HasDart lists x y → x' ≡ y → y' ≡ follows lists y x → HasDart lists x' y'
  has_next x y x' y' d a b = subst (λ x. HasDart lists x y') (sym a) (subst (HasDart lists y) (sym b) (HasDart-follows lists y x (simple.both_ways x y d)))

  has_twin : (x y x' y' : ℕ) → HasDart lists x y → x' ≡ y → y' ≡ x → HasDart lists x' y'
  has_twin x y x' y' d a b = subst (λ x. HasDart lists x y') (sym a) (subst (HasDart lists y) (sym b) (simple.both_ways x y d))

  goes_into : (x y : ℕ) (odd : Bool) (x' y' : ℕ) (odd' : Bool) → HasDart lists x y → ChainGoesOn lists counts x y odd x' y' odd' → GoesOn lists base parent c v x y odd x' y' odd' × HasDart lists x' y'
  goes_into x y odd x' y' odd' d (chain_along a b e) = (along a b e, has_next x y x' y' d a b)
  goes_into x y odd x' y' odd' d (chain_over a b e) = (by (counts x y) (same x y d) e, has_twin x y x' y' d a b)
    where
      by : (turn : Bool) → Decides turn (IsBoundaryEdge lists base parent c v x y) → odd' ≡ (if turn then not odd else odd) → GoesOn lists base parent c v x y odd x' y' odd'
      by true s e = over a b (s.0 refl) e
      by false s e = past a b (not_from_Decides false s refl) e

  goes_from : (x y : ℕ) (odd : Bool) (x' y' : ℕ) (odd' : Bool) → HasDart lists x y → GoesOn lists base parent c v x y odd x' y' odd' → ChainGoesOn lists counts x y odd x' y' odd' × HasDart lists x' y'
  goes_from x y odd x' y' odd' d (along a b e) = (chain_along a b e, has_next x y x' y' d a b)
  goes_from x y odd x' y' odd' d (over a b edge e) = (chain_over a b (e ∙ sym (ap (λ turn. if turn then not odd else odd) ((same x y d).1 edge))), has_twin x y x' y' d a b)
  goes_from x y odd x' y' odd' d (past a b none e) = (chain_over a b (e ∙ sym (ap (λ turn. if turn then not odd else odd) (off (counts x y) (same x y d)))), has_twin x y x' y' d a b)
    where
      off : (turn : Bool) → Decides turn (IsBoundaryEdge lists base parent c v x y) → turn ≡ false
      off true s = absurd (none (s.0 refl))
      off false s = refl

  module _ (has : HasDart lists base.0 base.1) where
    has_base : (x y : ℕ) → x ≡ base.0 → y ≡ base.1 → HasDart lists x y
    has_base x y a b = subst (λ x. HasDart lists x y) (sym a) (subst (HasDart lists base.0) (sym b) has)

    pub reaches_into : (k x y : ℕ) (odd : Bool) → ChainReachesBy lists counts base k x y odd → ReachesBy lists base parent c v k x y odd × HasDart lists x y
    reaches_into zero x y odd (a, b, e) = ((a, b, e), has_base x y a b)
    reaches_into (suc k) x y odd (x', y', odd', r, g) =
        let before = reaches_into k x' y' odd' r in
        let on = goes_into x' y' odd' x y odd before.1 g in
        ((x', y', odd', before.0, on.0), on.1)

    pub reaches_from : (k x y : ℕ) (odd : Bool) → ReachesBy lists base parent c v k x y odd → ChainReachesBy lists counts base k x y odd × HasDart lists x y
    reaches_from zero x y odd (a, b, e) = ((a, b, e), has_base x y a b)
    reaches_from (suc k) x y odd (x', y', odd', r, g) =
        let before = reaches_from k x' y' odd' r in
        let on = goes_from x' y' odd' x y odd before.1 g in
        ((x', y', odd', before.0, on.0), on.1)

-- the search by a test of the tables' edges marks what is reached over the region's closed path
pub are_marked : (map : Map) (known : IsHalfMap map) (path : ClosedPath) (base : Dart) (parent : Colour → ℕ → ℕ) (c : Colour) (v : ℕ) (met : List Bool) → HasDart map.lists base.0 base.1 → HasEdges map.lists base parent c v path → ChainsReach map base (is_edge_of path) met → AreReached map base parent c v met
are_marked map known path base parent c v met has edges reached = λ d odd x y e.
    let same : (x y : ℕ) → HasDart map.lists x y → Decides (is_edge_of path x y) (IsBoundaryEdge map.lists base parent c v x y) = λ x y d. (λ t. (edges x y d).0 ((is_edge_of-decides path x y).0 t), λ b. (is_edge_of-decides path x y).1 ((edges x y d).1 b)) in
    let r = reached d odd x y e in
    (λ m. let k = r.0 m in (k.0, (reaches_into map.lists known.simple base parent c v (is_edge_of path) same has k.0 x y odd k.1).0), λ k. r.1 (k.0, (reaches_from map.lists known.simple base parent c v (is_edge_of path) same has k.0 x y odd k.1).0))

pub told_same : (map : Map) (path : ClosedPath) (d : DartId) (answer : Bool) (x y : ℕ) → dart_at map d.0 ≡ Some (x, y) → IsCrossed map path d.0 answer → answer ≡ is_edge_of path x y
told_same map path d answer x y e s = same_from_decides answer (is_edge_of path x y) (s.told x y e) (is_edge_of-decides path x y)
