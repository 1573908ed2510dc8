-- The closed map: its new edge, what follows what, and that it is a triangulation.
use Rattle.std.proofs.Common.{◌≡◌, ◌≢◌, ℕ, ◌+◌, ◌<◌, ◌≤◌, Bool, true, List, [], ◌∷◌, length, Contains, refl, sym, ap, ◌∙◌, subst, inl, inr, arith}
use Rattle.std.specs.List.{insert}
use Rattle.std.proofs.lemmas.Bool.{true≢false}
use Rattle.map_lists.specs.Lists.{Lists}
use Rattle.map_theory.specs.Maps.{list_of, place_of, HasDart, IsSimpleMap, follows, entry_after}
use Rattle.map_theory.proofs.DartLemmas.{place_of-lt-length}
use Rattle.plane_laws.specs.Triangulations.{IsTriangulation}
use Rattle.plane_laws.specs.Laws.{IsTriangle}
use Rattle.plane_laws.proofs.Triangles.{edge_bound_met}
use Rattle.plane_laws.specs.Chords.{IsEarCut}
use Rattle.plane_laws.specs.WithEdge.{IsEdgeMore, IsPutAfter}
use Rattle.plane_laws.proofs.Chords.{ear_cut}
use Rattle.plane_laws.proofs.WithEdge.{with_edge_after_law, length-new, new_first, new_second, new_elsewhere}
use Rattle.plane_peeling.specs.Restricted.{restricted, kept_but, IsFaceOfThree}
use Rattle.plane_peeling.specs.NearTriangulations.{IsOuterCycle}
use Rattle.plane_peeling.specs.Peeled.{IsPeeled}
use Rattle.plane_peeling.specs.TwoGone.{IsOpenOutside}
use Rattle.plane_peeling.proofs.Rings.{entry_after-inside, entry_after-last, each_of_four, only_two}
use Rattle.plane_peeling.proofs.RestrictedMaps.{restricted-old, kept_but-old, kept_but-itself}
use Rattle.plane_peeling.proofs.OuterCycles.{cases_outer, first_on, two_steps_on, next-last, last_on, IsFaceOfThree-turned, IsTriangle-face}
use Rattle.plane_peeling.proofs.Quadrangles.{quadrangle_opened}
use Rattle.rect_orders.specs.Maps.{IsRectMap, closed}

module _ (lists : Lists) (s d p t : ℕ) (h : IsRectMap lists s d p t) where
  abbrev ws : List ℕ
  ws = s ∷ d ∷ p ∷ t ∷ []

  simple : IsSimpleMap lists
  simple = h.near.simple

  cycle : IsOuterCycle lists s t ws
  cycle = h.near.cycle

  pub s_d : entry_after s ws ≡ d
  s_d = entry_after-inside [] s d (p ∷ t ∷ []) cycle.distinct

  pub d_p : entry_after d ws ≡ p
  d_p = entry_after-inside (s ∷ []) d p (t ∷ []) cycle.distinct

  pub p_t : entry_after p ws ≡ t
  p_t = entry_after-inside (s ∷ d ∷ []) p t [] cycle.distinct

  pub t_s : entry_after t ws ≡ s
  t_s = entry_after-last (s ∷ d ∷ p ∷ []) t cycle.distinct

  on_s : Contains ws s
  on_s = (0, omega arith, refl)

  on_d : Contains ws d
  on_d = (1, omega arith, refl)

  on_p : Contains ws p
  on_p = (2, omega arith, refl)

  on_t : Contains ws t
  on_t = (3, omega arith, refl)

  pub dart_sd : HasDart lists s d
  dart_sd = subst (HasDart lists s) s_d (cycle.darts s on_s)

  pub dart_dp : HasDart lists d p
  dart_dp = subst (HasDart lists d) d_p (cycle.darts d on_d)

  pub dart_pt : HasDart lists p t
  dart_pt = subst (HasDart lists p) p_t (cycle.darts p on_p)

  pub dart_ts : HasDart lists t s
  dart_ts = subst (HasDart lists t) t_s (cycle.darts t on_t)

  turn : (x y z : ℕ) → Contains ws x → entry_after x ws ≡ y → entry_after y ws ≡ z → follows lists y x ≡ z
  turn x y z c e e' = ap (λ w. follows lists w x) (sym e) ∙ (cycle.turns x c ∙ (ap (λ w. entry_after w ws) e ∙ e'))

  pub turn_s : follows lists s t ≡ d
  turn_s = turn t s d on_t t_s s_d

  pub turn_d : follows lists d s ≡ p
  turn_d = turn s d p on_s s_d d_p

  pub turn_p : follows lists p d ≡ t
  turn_p = turn d p t on_d d_p p_t

  pub turn_t : follows lists t p ≡ s
  turn_t = turn p t s on_p p_t t_s

  pub s_not_d : s ≢ d
  s_not_d = cycle.distinct 0 1 0 (omega arith) (omega arith)

  pub s_not_p : s ≢ p
  s_not_p = cycle.distinct 0 2 0 (omega arith) (omega arith)

  pub s_not_t : s ≢ t
  s_not_t = cycle.distinct 0 3 0 (omega arith) (omega arith)

  pub d_not_p : d ≢ p
  d_not_p = cycle.distinct 1 2 0 (omega arith) (omega arith)

  pub d_not_t : d ≢ t
  d_not_t = cycle.distinct 1 3 0 (omega arith) (omega arith)

  pub p_not_t : p ≢ t
  p_not_t = cycle.distinct 2 3 0 (omega arith) (omega arith)

  -- without the top and the right vertex the map is peeled, and open outside
  pub opened : (kept : ℕ → Bool) → ((v : ℕ) → v < length lists → kept v ≡ true) → (rs : List ℕ) × IsPeeled lists (kept_but (kept_but kept d) p) s t rs × IsOpenOutside lists (kept_but (kept_but kept d) p) t rs
  opened kept all = quadrangle_opened lists kept s d p t h.connected h.large h.near h.no_separating all

  -- The top and the bottom are not adjacent: else the left vertex would have those two alone as neighbours.
  pub far : ¬ HasDart lists d t
  far chord =
      let kept : ℕ → Bool = λ v. true in
      let fewer = kept_but (kept_but kept d) p in
      let o = opened kept (λ v l. refl) in
      let rest = restricted fewer lists in
      let near = o.1.near in
      let y = entry_after s o.0 in
      let dart = restricted-old lists fewer s y (near.cycle.darts s (first_on rest s t o.0 near.simple near.cycle)) in
      let y_not_d : y ≢ d = λ e. true≢false (sym (kept_but-old (kept_but kept d) p y dart.2).0 ∙ (ap (kept_but kept d) e ∙ kept_but-itself kept d)) in
      let y_not_t : y ≢ t = λ e.
      two_steps_on rest s t o.0 near.simple near.cycle t (last_on rest s t o.0 near.simple near.cycle) (ap (λ x. entry_after x o.0) (next-last rest s t o.0 near.simple near.cycle) ∙ e) in
      let f : IsFaceOfThree lists d s t =
      elim (h.no_separating s d t dart_sd chord dart_ts) [
        | inl f ↦ absurd (p_not_t (sym turn_d ∙ f.second))
        | inr f ↦ f
      ] in
      elim (only_two (list_of lists s) t d y (simple.no_repeat s dart_sd.0) (simple.both_ways t s dart_ts).1 turn_s f.second dart.0.1) [
        | inl e ↦ y_not_t e
        | inr e ↦ y_not_d e
      ]

  -- ---- the closed map
  abbrev pub C : Lists
  C = closed lists s d p t

  put_in : IsEdgeMore lists C d (place_of s (list_of lists d) + 1) t (place_of p (list_of lists t) + 1) × IsPutAfter lists C d s t p
  put_in = with_edge_after_law lists d s t p simple (simple.both_ways s d dart_sd) (simple.both_ways p t dart_pt) d_not_t far

  pub more : IsEdgeMore lists C d (place_of s (list_of lists d) + 1) t (place_of p (list_of lists t) + 1)
  more = put_in.0

  pub put : IsPutAfter lists C d s t p
  put = put_in.1

  abbrev pub at_top : ℕ
  at_top = place_of s (list_of lists d) + 1

  abbrev pub at_bottom : ℕ
  at_bottom = place_of p (list_of lists t) + 1

  top_within : at_top ≤ length (list_of lists d)
  top_within = let l = place_of-lt-length s (list_of lists d) (simple.both_ways s d dart_sd).1 in omega arith

  bottom_within : at_bottom ≤ length (list_of lists t)
  bottom_within = let l = place_of-lt-length p (list_of lists t) (simple.both_ways p t dart_pt).1 in omega arith

  pub length-closed : length C ≡ length lists
  length-closed = length-new lists d at_top t at_bottom simple dart_dp.0 dart_ts.0 d_not_t far top_within bottom_within

  pub list_top : list_of C d ≡ insert (list_of lists d) at_top t
  list_top = new_first lists d at_top t at_bottom simple dart_dp.0 dart_ts.0 d_not_t far top_within bottom_within

  pub list_bottom : list_of C t ≡ insert (list_of lists t) at_bottom d
  list_bottom = new_second lists d at_top t at_bottom simple dart_dp.0 dart_ts.0 d_not_t far top_within bottom_within

  pub list_elsewhere : (w : ℕ) → w ≢ d → w ≢ t → list_of C w ≡ list_of lists w
  list_elsewhere = new_elsewhere lists d at_top t at_bottom simple dart_dp.0 dart_ts.0 d_not_t far top_within bottom_within

  ear : IsEarCut lists C d p t
  ear = ear_cut lists s d p t simple h.near.plane (simple.both_ways s d dart_sd) turn_d turn_p (d_not_t, far)

  -- its two new faces
  pub face_dpt : IsFaceOfThree C d p t
  face_dpt = record {
    dart = more.kept d p dart_dp;
    second = put.other p d (simple.both_ways d p dart_dp) (λ e. absurd (d_not_p (sym e))) (λ e. absurd (p_not_t e)) ∙ turn_p;
    third = put.turn';
    round = put.next ∙ turn_d;
  }

  pub face_tsd : IsFaceOfThree C t s d
  face_tsd = record {
    dart = more.kept t s dart_ts;
    second = put.other s t (simple.both_ways t s dart_ts) (λ e. absurd (s_not_d e)) (λ e. absurd (s_not_t e)) ∙ turn_s;
    third = put.turn;
    round = put.next' ∙ turn_t;
  }

  face_ptd : IsFaceOfThree C p t d
  face_ptd = IsFaceOfThree-turned C d p t more.simple face_dpt

  face_tdp : IsFaceOfThree C t d p
  face_tdp = IsFaceOfThree-turned C p t d more.simple face_ptd

  face_sdt : IsFaceOfThree C s d t
  face_sdt = IsFaceOfThree-turned C t s d more.simple face_tsd

  face_dts : IsFaceOfThree C d t s
  face_dts = IsFaceOfThree-turned C s d t more.simple face_sdt

  is_triangle : (x y a b c : ℕ) → x ≡ a → y ≡ b → IsFaceOfThree C a b c → IsTriangle C (x, y)
  is_triangle x y a b c e e' f = subst (λ z. IsTriangle C (z, y)) (sym e) (subst (λ z. IsTriangle C (a, z)) (sym e') (IsTriangle-face C a b c f))

  triangles : (x y : ℕ) → HasDart C x y → IsTriangle C (x, y)
  triangles x y dart =
      elim (more.only x y dart) [
        | inr r ↦ elim r [ inl e ↦ is_triangle x y d t s e.0 e.1 face_dts | inr e ↦ is_triangle x y t d p e.0 e.1 face_tdp ]
        | inl old ↦ elim (cases_outer ws x y) [
          | inr n ↦ ear.kept x y old (h.near.inner x y old n)
          | inl o ↦ grind (arith, each_of_four, IsTriangle, is_triangle, entry_after, ws, s_d, face_sdt, d_p, face_dpt, p_t, face_ptd, t_s)
        ]
      ]

  pub triangulation : IsTriangulation C
  triangulation =
      let some : 3 ≤ length C = omega (arith, length-closed) in
      record {
        simple = more.simple;
        plane = ear.split.plane;
        some = some;
        edges = (edge_bound_met C more.simple ear.split.plane some).1 (ear.split.components ∙ h.connected, triangles);
      }
