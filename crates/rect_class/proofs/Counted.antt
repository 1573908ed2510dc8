-- Lists with the counts and the outer face of a map of the class: with one edge more they are a triangulation, so that each other face is a triangle, and no vertex cuts.
use Rattle.std.proofs.Common.{◌≡◌, ◌≢◌, ◌+◌, ◌*◌, ℕ, ◌≤◌, Bool, length, sum_by, refl, sym, ap, ap₂, ◌∙◌, subst, inl, inr, arith}
use Rattle.std.proofs.lemmas.Bool.{cases_eq, eqb-true, eq-eqb}
use Rattle.classes.specs.Classes.{label}
use Rattle.map_lists.specs.Lists.{Lists}
use Rattle.map_theory.specs.Maps.{HasDart, IsSimpleMap, IsPlane, list_of, follows, face_step, face_classes, dart_number, place_of, edge_count, vertex_count, component_count}
use Rattle.map_theory.proofs.DartLemmas.{HasDart-face_step, place_of-lt-length}
use Rattle.plane_laws.specs.Laws.{IsTriangle}
use Rattle.plane_laws.specs.Chords.{IsEarCut}
use Rattle.plane_laws.specs.WithEdge.{IsEdgeMore, IsPutAfter, with_edge_after}
use Rattle.plane_laws.proofs.Triangles.{edge_bound_met}
use Rattle.plane_laws.proofs.Chords.{ear_cut}
use Rattle.plane_laws.proofs.DartPaths.{same_face-step}
use Rattle.plane_laws.proofs.WithEdge.{with_edge_after_law, length-new}
use Rattle.graph_search.specs.Cuts.{IsCutVertex}
use Rattle.convex_peeling.proofs.Sides.{IsSide}
use Rattle.convex_peeling.proofs.Uncut.{uncut_within}
use Rattle.drawings.specs.Duals.{HasFrame, IsQuadrangle, top_vertex, right_vertex, bottom_vertex}
use Rattle.drawings.specs.Frames.{IsFrame}
use Rattle.rect_class.specs.RectMaps.{IsOuter, HasTriangles, IsRectMap}
use Rattle.rect_class.specs.Corners.{AreClosed, HasDiagonal, IsRound}
use Rattle.rect_class.proofs.FrameDarts.{IsQuadrangle-turned, distinct_four}
use Rattle.rect_class.proofs.CornerLemmas.{NoneSeparating-closed}
use Rattle.rect_class.proofs.InnerLemmas.{HasInner-more}

module _ (lists : Lists) (simple : IsSimpleMap lists) (plane : IsPlane lists) (one : component_count lists ≡ 1) (some : 3 ≤ length lists) (full : edge_count lists + 7 ≡ 3 * vertex_count lists) (frame : HasFrame lists) (far : ¬ HasDart lists (top_vertex lists) (bottom_vertex lists)) where
  abbrev d : ℕ
  d = top_vertex lists

  abbrev p : ℕ
  p = right_vertex lists

  abbrev t : ℕ
  t = bottom_vertex lists

  from_top : IsQuadrangle lists d p t 0
  from_top = IsQuadrangle-turned lists simple 0 d p t frame

  from_right : IsQuadrangle lists p t 0 d
  from_right = IsQuadrangle-turned lists simple d p t 0 from_top

  from_bottom : IsQuadrangle lists t 0 d p
  from_bottom = IsQuadrangle-turned lists simple p t 0 d from_right

  d_not_t : d ≢ t
  d_not_t = frame.distinct 1 3 0 (omega arith) (omega arith)

  first_not_right : 0 ≢ p
  first_not_right = frame.distinct 0 2 0 (omega arith) (omega arith)

  dart_d_first : HasDart lists d 0
  dart_d_first = simple.both_ways 0 d frame.dart

  dart_t_p : HasDart lists t p
  dart_t_p = simple.both_ways p t from_right.dart

  abbrev C : Lists
  C = with_edge_after lists d 0 t p

  put_in : IsEdgeMore lists C d (place_of 0 (list_of lists d) + 1) t (place_of p (list_of lists t) + 1) × IsPutAfter lists C d 0 t p
  put_in = with_edge_after_law lists d 0 t p simple dart_d_first dart_t_p d_not_t far

  more : IsEdgeMore lists C d (place_of 0 (list_of lists d) + 1) t (place_of p (list_of lists t) + 1)
  more = put_in.0

  put : IsPutAfter lists C d 0 t p
  put = put_in.1

  ear : IsEarCut lists C d p t
  ear = ear_cut lists 0 d p t simple plane dart_d_first frame.second frame.third (d_not_t, far)

  same_length : length C ≡ length lists
  same_length =
      let top = place_of-lt-length 0 (list_of lists d) dart_d_first.1 in
      let bottom = place_of-lt-length p (list_of lists t) dart_t_p.1 in
      length-new lists d (place_of 0 (list_of lists d) + 1) t (place_of p (list_of lists t) + 1) simple dart_d_first.0 dart_t_p.0 d_not_t far (omega arith) (omega arith)

  triangles : (u v : ℕ) → HasDart C u v → IsTriangle C (u, v)
  triangles =
      let n = same_length in
      let parts = ear.split.components in
      let met : edge_count C + 6 ≡ 3 * vertex_count C = omega (arith, n, ear.split.plane, ear.split.faces, parts, plane, full) in
      ((edge_bound_met C more.simple ear.split.plane (omega (arith, n, some))).0 met).1

  -- ---- each face but the outer one is a triangle
  -- the face of a dart
  abbrev face : ℕ → ℕ → ℕ
  face x y = label (face_classes lists) (dart_number lists (x, y))

  face-step : (x y : ℕ) → HasDart lists x y → face x y ≡ face y (follows lists y x)
  face-step x y has = eqb-true (face x y) (face y (follows lists y x)) (same_face-step lists simple (x, y) (x, y) has (eq-eqb (face x y) (face x y) refl))

  outer-face : (x y : ℕ) → face 0 d ≡ face x y → IsOuter lists x y
  outer-face x y e = eq-eqb (face 0 d) (face x y) e

  face-right : face 0 d ≡ face p t
  face-right =
      (face-step 0 d frame.dart ∙ ap (face d) frame.second)
      ∙ (face-step d p from_top.dart ∙ ap (face p) frame.third)

  -- a dart off the outer face goes on as before
  same_step : (x y : ℕ) → HasDart lists x y → ¬ IsOuter lists x y → face_step C (x, y) ≡ face_step lists (x, y)
  same_step x y has off =
      ap (λ z. (y, z)) (put.other y x (simple.both_ways x y has)
      (λ at_top first. off (outer-face x y (ap₂ face (sym first) (sym at_top))))
      (λ at_bottom right. off (outer-face x y (face-right ∙ ap₂ face (sym right) (sym at_bottom)))))

  next_off : (x y : ℕ) → HasDart lists x y → ¬ IsOuter lists x y → ¬ IsOuter lists y (follows lists y x)
  next_off x y has off o = off (outer-face x y (eqb-true (face 0 d) (face y (follows lists y x)) o ∙ sym (face-step x y has)))

  pub HasTriangles-counted : HasTriangles lists
  HasTriangles-counted x y has off =
      let next = HasDart-face_step lists (x, y) simple has in
      let last = HasDart-face_step lists (face_step lists (x, y)) simple next in
      let b = face_step lists (x, y) in
      let c = face_step lists b in
      let off_b = next_off x y has off in
      let off_c = next_off b.0 b.1 next off_b in
      sym (ap (face_step C) (ap (face_step C) (same_step x y has off) ∙ same_step b.0 b.1 next off_b) ∙ same_step c.0 c.1 last off_c) ∙ triangles x y (more.kept x y has)

  -- ---- and no vertex cuts
  along_new : (v : ℕ) (side : ℕ → Bool) → IsSide lists v v side → d ≢ v → t ≢ v → side d ≡ side t
  along_new v side h d_off t_off =
      elim (cases_eq 0 v) [
        | inr off ↦ h.along d 0 dart_d_first d_off d_off off off ∙ h.along 0 t (simple.both_ways t 0 from_bottom.dart) off off t_off t_off
        | inl at ↦
            let off : p ≢ v = λ e. first_not_right (at ∙ sym e) in
            h.along d p from_top.dart d_off d_off off off ∙ h.along p t from_right.dart off off t_off t_off
      ]

  IsSide-more : (v : ℕ) (side : ℕ → Bool) → IsSide lists v v side → IsSide C v v side
  IsSide-more v side h = record {
    along = λ x y has xu xv yu yv.
        elim (more.only x y has) [
          | inl old ↦ h.along x y old xu xv yu yv
          | inr new ↦ elim new [
            | inl e ↦ ap side e.0 ∙ (along_new v side h (λ at. xu (e.0 ∙ at)) (λ at. yu (e.1 ∙ at)) ∙ ap side (sym e.1))
            | inr e ↦ ap side e.0 ∙ (sym (along_new v side h (λ at. yu (e.1 ∙ at)) (λ at. xu (e.0 ∙ at))) ∙ ap side (sym e.1))
          ]
        ];
  }

  pub uncut-counted : (v : ℕ) → ¬ IsCutVertex lists v
  uncut-counted v = uncut_within C more.simple triangles lists simple more.kept v (IsSide-more v)

-- So it is a map of the class, where the corners show that no triangle separates.
pub IsRectMap-counted : (lists : Lists) → IsSimpleMap lists → IsPlane lists → component_count lists ≡ 1 → 5 ≤ length lists → sum_by length lists + 14 ≡ 6 * length lists → HasFrame lists → ¬ HasDiagonal lists 0 (top_vertex lists) (right_vertex lists) (bottom_vertex lists) → AreClosed lists → IsRectMap lists
IsRectMap-counted lists simple plane one large full frame uncrossed closed =
    let some : 3 ≤ length lists = omega arith in
    let edges : edge_count lists + 7 ≡ 3 * vertex_count lists = omega (arith, full) in
    let far : ¬ HasDart lists (top_vertex lists) (bottom_vertex lists) = λ h. uncrossed (inr h.1) in
    let faces = HasTriangles-counted lists simple plane one some edges frame far in
    record {
      biconnected = record { simple = simple; some = some; plane = plane; connected = one; uncut = uncut-counted lists simple plane one some edges frame far };
      frame = frame;
      faces = faces;
      triangles = NoneSeparating-closed lists simple frame faces uncrossed closed;
      inner = HasInner-more lists (omega arith);
    }

-- four steps from the first dart on, that lead round
pub frame_of_turns : (lists : Lists) → IsSimpleMap lists → (d p q s e : ℕ) → d ≡ top_vertex lists → HasDart lists 0 d → p ≡ follows lists d 0 → HasDart lists d p → q ≡ follows lists p d → HasDart lists p q → s ≡ follows lists q p → HasDart lists q s → e ≡ follows lists s q → IsRound d p q s e → IsFrame lists d p q
frame_of_turns lists simple d p q s e top dart right dart_right bottom dart_bottom fourth dart_fourth fifth round =
    let at_right : p ≡ right_vertex lists = right ∙ ap (λ x. follows lists x 0) top in
    let at_bottom : q ≡ bottom_vertex lists = bottom ∙ ap₂ (follows lists) at_right top in
    let back = subst (HasDart lists q) round.back dart_fourth in
    record {
      quadrangle = record {
        dart = subst (HasDart lists 0) top dart;
        second = refl;
        third = refl;
        fourth = ap₂ (follows lists) (sym at_bottom) (sym at_right) ∙ (sym fourth ∙ round.back);
        again = ap₂ (follows lists) (sym round.back) (sym at_bottom) ∙ (sym fifth ∙ (round.again ∙ top));
        distinct =
            distinct_four 0 (top_vertex lists) (right_vertex lists) (bottom_vertex lists) (λ h. simple.no_loop 0 d dart (top ∙ sym h)) (λ h. round.across (at_right ∙ sym h)) (λ h. simple.no_loop q 0 back (h ∙ sym at_bottom))
            (λ h. simple.no_loop d p dart_right (at_right ∙ (sym h ∙ sym top))) (λ h. round.apart (at_bottom ∙ (sym h ∙ sym top))) (λ h. simple.no_loop p q dart_bottom (at_bottom ∙ (sym h ∙ sym at_right)));
      };
      top = top;
      right = at_right;
      bottom = at_bottom;
    }
