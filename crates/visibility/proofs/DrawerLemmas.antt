-- From a search to the figure: what each stage of the drawer hands to the next.
use Rattle.std.proofs.Common.{◌≡◌, ℕ, ◌+◌, ◌/◌, ◌<◌, List, length, get_or, ℤ, sym, ap, ◌∙◌, subst, arith}
use Rattle.map_lists.specs.Lists.{Lists}
use Rattle.map_theory.specs.Maps.{dart_count, dart_number, list_of, component_count}
use Rattle.map_theory.proofs.DartLemmas.{length-darts, dart_number-lt, darts_before_none, place_of-lt-length, place_of-get_or}
use Rattle.pg_plane.specs.declared.figures.BarFigure.{BarFigure}
use Rattle.graph_search.specs.Arcs.{IsAcyclic, AreLongest}
use Rattle.graph_search.specs.Cuts.{IsCutVertex}
use Rattle.st_orders.specs.StOrders.{IsStOrder}
use Rattle.bipolar.specs.Laws.{IsStMap}
use Rattle.bipolar.specs.Numbered.{GiveDuals}
use Rattle.bipolar.specs.FaceNumbers.{face_of, AreFaceNumbers, AreFaceArcs, left_rows}
use Rattle.bipolar.proofs.FaceAgree.{acyclic_faces, give_duals}
use Rattle.bipolar.proofs.TwinNumbers.{twin_number}
use Rattle.conn_parts.specs.BiconnectedMaps.{IsBiconnectedMap}
use Rattle.visibility.specs.Spans.{AreSides, AreSpanned}
use Rattle.visibility.specs.Figures.{IsBarFigure}
use Rattle.visibility.specs.Found.{IsRooted}
use Rattle.visibility.proofs.ListDrawn.{list_pos, IsPlane-counted, some_entry, small_rows, figure_is}

-- A connected map with an st-order and its faces, of which there are as many as in genus zero.
pub record IsFaced (lists : Lists) (twins : List ℕ) (t : ℕ) (rank of : List ℕ) (arcs : List (List ℕ)) : Type 0 where
  pub rooted : IsRooted lists twins t
  pub connected : component_count lists ≡ 1
  pub at : List ℕ
  pub order : IsStOrder lists 0 t at rank
  pub faces : AreFaceNumbers lists of (length arcs)
  pub lead : AreFaceArcs lists rank of (length arcs) arcs
  pub counted : length lists + length arcs ≡ dart_count lists / 2 + 2

module _ (lists : Lists) (twins : List ℕ) (t : ℕ) (rank of : List ℕ) (arcs : List (List ℕ)) (f : IsFaced lists twins t rank of arcs) where
  -- the dart of the order is the first of all
  base_is : dart_number lists (0, t) ≡ 0
  base_is =
      let r = f.rooted in
      let some = place_of-lt-length t (list_of lists 0) r.dart.1 in
      let place = ap (λ (z : ℕ). dart_number lists (0, z)) (sym r.first) in
      place ∙ omega (arith, darts_before_none lists, place_of-get_or (list_of lists 0) 0 0 (r.simple.no_repeat 0 (omega (arith, r.many))) (omega (arith, some)))

  pub some_face : 0 < length of
  some_face = omega (arith, f.faces.size, dart_number-lt lists 0 t f.rooted.dart)

  st_map : IsStMap lists 0 t f.at rank
  st_map =
      let r = f.rooted in
      record { simple = r.simple; plane = IsPlane-counted lists (length arcs) r.simple r.many f.connected f.faces.all f.counted; connected = f.connected; dart = r.dart; order = f.order }

  base_face : face_of lists of 0 t ≡ get_or of 0 0
  base_face = ap (λ k. get_or of k 0) base_is

  pub acyclic_arcs : IsAcyclic arcs (get_or of 0 0)
  acyclic_arcs = subst (IsAcyclic arcs) base_face (acyclic_faces lists rank f.at 0 t st_map of (length arcs) f.faces arcs f.lead)

  pub is_biconnected : ((v : ℕ) → ¬ IsCutVertex lists v) → IsBiconnectedMap 3 lists
  is_biconnected uncut = record { simple = f.rooted.simple; some = f.rooted.many; plane = st_map.plane; connected = f.connected; uncut = uncut }

  module _ (numbers : List ℕ) (longest : AreLongest arcs (get_or of 0 0) numbers) where
    duals : GiveDuals lists rank 0 t (left_rows lists rank of numbers)
    duals = give_duals lists rank f.at 0 t st_map of (length arcs) f.faces arcs f.lead numbers (subst (λ (z : ℕ). AreLongest arcs z numbers) (sym base_face) longest)

    pub are_sides : AreSides lists rank of twins numbers
    are_sides =
        let r = f.rooted in
        let faces = f.faces in
        record {
          simple = r.simple;
          few = r.few;
          ranks = f.order.ranks;
          faces = faces.size;
          twin_count = r.are_twins.count ∙ length-darts lists;
          twin = twin_number lists twins r.are_twins r.simple;
          within = λ i l. omega (arith, faces.below i l, longest.count, f.lead.count_is);
          low = small_rows lists r.few rank f.at 0 t st_map (left_rows lists rank of numbers) duals;
          some = some_entry lists rank f.at 0 t r.dart f.order;
        }

    pub is_figure : (columns x1 x2 : List ℤ) → AreSpanned lists (left_rows lists rank of numbers) columns x1 x2 → (fig : BarFigure) → fig.y ≡ list_pos rank → fig.column ≡ columns → fig.x1 ≡ x1 → fig.x2 ≡ x2 → IsBarFigure lists fig
    is_figure columns x1 x2 w fig y column left right =
        let c = w.are_columns in
        figure_is lists f.rooted.few rank f.at 0 t st_map (left_rows lists rank of numbers) duals c.numbers c.from_rows fig y (column ∙ c.are) (rw left w.left) (rw right w.right) (omega arith) f.rooted.first
