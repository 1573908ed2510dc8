-- The lists without the edges of some loose vertices: the lines of a sweep over them, and the drawing that it finds plane.
use Rattle.std.proofs.Common.{◌≡◌, ◌↔◌, ℕ, ◌<◌, not, List, [], length, get_or, refl, sym, ap, subst, ◌∙◌}
use Rattle.std.specs.List.{filter, All, Contains}
use Rattle.std.specs.List.Sorted.{IsPermutation}
use Rattle.std.proofs.Math.Bool.{and_comm}
use Rattle.map_lists.specs.Lists.{Lists}
use Rattle.map_theory.specs.Maps.{IsSimpleMap, list_of}
use Rattle.plane_laws.specs.Kept.{IsKeptMap}
use Rattle.plane_laws.proofs.KeptEdges.{filter-all, length-with_kept, list_of-with_kept, same_kept, kept_edges}
use Rattle.pg_plane.specs.declared.grid_points.Point.{Point}
use Rattle.plane_drawings.specs.Drawing.{place, IsPlaneDrawing}
use Rattle.plane_drawings.specs.declared.plane_sweep.line.Line.{Line}
use Rattle.plane_drawings.specs.PlaneSweepLines.{IsLine}
use Rattle.plane_drawings.specs.PlaneSweepLaw.{SweepIsPlane}
use Rattle.plane_drawings.specs.Steps.{IsSweep}
use Rattle.plane_drawings.specs.Orders.{AreInverse, ArePlaced, DoRise}
use Rattle.plane_drawings.specs.SweepCheckLines.{is_among, is_firm, firm_lists, lines_from, lines_of}
use Rattle.plane_drawings.proofs.LineLemmas.{sorted_whole, sorted_lines}
use Rattle.plane_drawings.proofs.TopLemmas.{plane_from_sweep}

-- a map without the edges of its loose vertices
pub firm_map : (loose : List ℕ) (lists : Lists) → IsSimpleMap lists → IsKeptMap lists (firm_lists loose lists) (is_firm loose)
firm_map loose lists simple = kept_edges lists (is_firm loose) (λ v u. and_comm (not (is_among loose v)) (not (is_among loose u))) simple

pub length-firm : (loose : List ℕ) (lists : Lists) → length (firm_lists loose lists) ≡ length lists
length-firm loose lists = length-with_kept (is_firm loose) lists

-- with no loose vertex it is itself
pub firm_none : (lists : Lists) → firm_lists [] lists ≡ lists
firm_none lists = same_kept (is_firm []) lists lists refl (λ v l. filter-all (is_firm [] v) (list_of lists v) (λ x c. refl))

module _ (lists : Lists) (loose order ranks : List ℕ) (simple : IsSimpleMap lists) (order_long : length order ≡ length lists) (ranks_long : length ranks ≡ length lists) (inverse : AreInverse order ranks) where
  abbrev firm : Lists
  firm = firm_lists loose lists

  firm_simple : IsSimpleMap firm
  firm_simple = (firm_map loose lists simple).simple

  same_long : length lists ≡ length firm
  same_long = sym (length-firm loose lists)

  module _ (i : ℕ) (l : i < length lists) (front es : List Line) (is : front ≡ lines_from ranks (get_or order i 0) (filter (is_firm loose (get_or order i 0)) (list_of lists (get_or order i 0)))) (p : IsPermutation front es) where
    is_from : front ≡ lines_from ranks (get_or order i 0) (list_of firm (get_or order i 0))
    is_from = is ∙ ap (lines_from ranks (get_or order i 0)) (sym (list_of-with_kept (is_firm loose) lists (get_or order i 0)))

    in_firm : i < length firm
    in_firm = subst (λ n. i < n) same_long l

    -- the lines with no loose end that begin at a vertex, in any order
    pub firm_whole : (e : Line) → Contains es e ↔ (Contains (lines_of ranks firm) e × (e.low ≡ i))
    firm_whole = sorted_whole firm order ranks firm_simple (order_long ∙ same_long) (ranks_long ∙ same_long) inverse i in_firm front es is_from p

    pub firm_lines : All (IsLine (length lists)) es
    firm_lines = subst (λ n. All (IsLine n) es) (sym same_long) (sorted_lines firm order ranks firm_simple (order_long ∙ same_long) (ranks_long ∙ same_long) inverse i in_firm front es is_from p)

  module _ (points places : List Point) (count : length points ≡ length lists) (placed : ArePlaced points order places) where
    -- a sweep over the lines with no loose end shows that the drawing is plane without the other edges
    pub firm_plane : SweepIsPlane → DoRise places → (status : ℕ → List Line) → IsSweep (place places) (lines_of ranks firm) (length lists) status → IsPlaneDrawing firm points
    firm_plane law rises status sweep =
        plane_from_sweep firm points places order ranks (count ∙ same_long) (order_long ∙ same_long) (ranks_long ∙ same_long) inverse placed law firm_simple rises status
        (subst (λ n. IsSweep (place places) (lines_of ranks firm) n status) same_long sweep)
