-- A simple map without one of its edges has genus zero where the map has.
use Rattle.std.proofs.Common.{◌≡◌, ◌≢◌, ℕ, ◌<◌, true, sym, ap, ap₂, ◌∙◌, subst, inl, inr, arith}
use Rattle.std.proofs.lemmas.Bool.{cases_eq}
use Rattle.map_lists.specs.Lists.{Lists}
use Rattle.map_theory.specs.Maps.{HasDart, IsSimpleMap, IsPlane, follows, dart_number, dart_count, edge_count}
use Rattle.map_theory.specs.Edges.{without_edge}
use Rattle.plane_laws.specs.Laws.{EdgeRemoved}
use Rattle.classes.proofs.Swap.{exchange, IsPermuting-exchange}
use Rattle.classes.proofs.Bound.{Balances}
use Rattle.plane_laws.proofs.PlaneCuts.{image_of_some}
use Rattle.plane_laws.proofs.Generated.{IsRenumbering, neither, neither_other, neither_true}
use Rattle.plane_laws.proofs.LoneEdge.{IsLeftOut, lone_edge-balances, lone_edge-skip, lone_edge-skip_second, lone_edge-other, lone_edge_counts}
use Rattle.map_theory.proofs.DartLemmas.{dart_number-lt, get_or-dart_number, dart_number-injective, HasDart-follows}
use Rattle.map_theory.proofs.DartPermutations.{dart_of, tail_of, rotation, twin, IsPermuting-rotation, IsPairing-twin, dart_of-number, dart_of-rotation, dart_of-twin, tail_of-rotation, two_m, map_balances, balances_map}
use Rattle.plane_laws.proofs.DartPaths.{tail_of-number, twin-number, rotation-number}
use Rattle.map_theory.proofs.WithoutEdge.{back, u_not_v, dart_old, dart_new, IsSimpleMap-without_edge, follows_skip_first, follows_skip_second, follows_same, edge_count-without}

-- The darts that are left, numbered anew: the two permutations of the map that is left are those of the map, with the edge taken off and left out.
module _ (lists : Lists) (simple : IsSimpleMap lists) (u v : ℕ) (edge : HasDart lists u v) where
  abbrev rest : Lists
  rest = without_edge lists u v

  pub simple_rest : IsSimpleMap rest
  simple_rest = IsSimpleMap-without_edge lists simple u v edge

  -- the numbers of the edge's darts
  abbrev out : ℕ
  out = dart_number lists (u, v)

  abbrev home : ℕ
  home = dart_number lists (v, u)

  pub in_out : out < dart_count lists
  in_out = dart_number-lt lists u v edge

  pub twin_out : twin lists out ≡ home
  twin_out = twin-number lists u v edge

  -- the old number of a new one, and the new number of an old one
  abbrev to : ℕ → ℕ
  to i = dart_number lists (dart_of rest i)

  abbrev new : ℕ → ℕ
  new y = dart_number rest (dart_of lists y)

  -- the dart of a new number
  pub is_left : (i : ℕ) → i < dart_count rest → HasDart rest (dart_of rest i).0 (dart_of rest i).1
  is_left i l = (dart_of-number rest simple_rest i l).is_dart

  pub was : (i : ℕ) → i < dart_count rest → HasDart lists (dart_of rest i).0 (dart_of rest i).1
  was i l = (dart_old lists simple u v edge (dart_of rest i).0 (dart_of rest i).1 (is_left i l)).0

  pub to_not_out : (i : ℕ) → i < dart_count rest → to i ≢ out
  to_not_out i l e =
      let d = dart_of rest i in
      let same = dart_number-injective lists d (u, v) (was i l) edge e in
      (dart_old lists simple u v edge d.0 d.1 (is_left i l)).1 (ap (λ x. x.0) same) (ap (λ x. x.1) same)

  pub to_not_home : (i : ℕ) → i < dart_count rest → to i ≢ home
  to_not_home i l e =
      let d = dart_of rest i in
      let same = dart_number-injective lists d (v, u) (was i l) (back lists simple u v edge) e in
      (dart_old lists simple u v edge d.0 d.1 (is_left i l)).2 (ap (λ x. x.0) same) (ap (λ x. x.1) same)

  pub to_below : (i : ℕ) → i < dart_count rest → to i < dart_count lists
  to_below i l = dart_number-lt lists (dart_of rest i).0 (dart_of rest i).1 (was i l)

  pub new_dart : (y : ℕ) → y < dart_count lists → neither out home y ≡ true → HasDart rest (dart_of lists y).0 (dart_of lists y).1
  new_dart y l kept =
      let d = dart_of lists y in
      let h = dart_of-number lists simple y l in
      let other = neither_true (dart_number lists (u, v)) (dart_number lists (v, u)) y kept in
      dart_new lists simple u v edge d.0 d.1 h.is_dart
      (λ e e'. other.0 (sym h.number ∙ ap₂ (λ a b. dart_number lists (a, b)) e e'))
      (λ e e'. other.1 (sym h.number ∙ ap₂ (λ a b. dart_number lists (a, b)) e e'))

  pub renumbering : IsRenumbering to new (neither out home) (dart_count lists) (dart_count rest)
  renumbering =
      record {
        to_below = to_below;
        to_kept = λ i l. neither_other out home (to i) (to_not_out i l) (to_not_home i l);
        new_below = λ y l e. dart_number-lt rest (dart_of lists y).0 (dart_of lists y).1 (new_dart y l e);
        to_new = λ y l e. ap (dart_number lists) (get_or-dart_number rest (dart_of lists y).0 (dart_of lists y).1 (0, 0) (new_dart y l e)) ∙ (dart_of-number lists simple y l).number;
        new_to = λ i l. ap (dart_number rest) (get_or-dart_number lists (dart_of rest i).0 (dart_of rest i).1 (0, 0) (was i l)) ∙ (dart_of-number rest simple_rest i l).number;
      }

  -- the twin goes over
  pub twin_over : (i : ℕ) → i < dart_count rest → twin lists (to i) ≡ to (twin rest i)
  twin_over i l =
      let d = dart_of rest i in
      twin-number lists d.0 d.1 (was i l) ∙ sym (ap (dart_number lists) (dart_of-twin rest simple_rest i l))

  pub apart : rotation lists out ≢ home
  apart e =
      u_not_v lists simple u v edge (sym (tail_of-number lists u v edge) ∙ (sym (tail_of-rotation lists simple (dart_number lists (u, v)) in_out) ∙ (ap (tail_of lists) e ∙ tail_of-number lists v u (back lists simple u v edge))))

  pub in_home : home < dart_count lists
  in_home = dart_number-lt lists v u (back lists simple u v edge)

  pub apart' : rotation lists home ≢ out
  apart' e =
      u_not_v lists simple u v edge (sym (sym (tail_of-number lists v u (back lists simple u v edge)) ∙ (sym (tail_of-rotation lists simple (dart_number lists (v, u)) in_home) ∙ (ap (tail_of lists) e ∙ tail_of-number lists u v edge))))

  pub apart_twin : rotation lists out ≢ twin lists out
  apart_twin e = apart (e ∙ twin_out)

  pub apart_twin' : rotation lists (twin lists out) ≢ out
  apart_twin' e = apart' (sym (ap (rotation lists) twin_out) ∙ e)

  module _ (p q : ℕ) (lp : p < dart_count lists) (lq : q < dart_count lists) (fp : rotation lists p ≡ out) (fq : exchange (rotation lists) p out q ≡ twin lists out) where
    abbrev lone : ℕ → ℕ
    lone = exchange (exchange (rotation lists) p out) q (twin lists out)

    pub rotation_over : (i : ℕ) → i < dart_count rest → lone (to i) ≡ to (rotation rest i)
    rotation_over i l =
        let f = rotation lists in
        let g = twin lists in
        let k = dart_count lists in
        let m = edge_count lists in
        let w = IsPermuting-rotation lists simple in
        let t = IsPairing-twin lists simple in
        let double = two_m lists simple in
        let d = dart_of rest i in
        let h = was i l in
        let i' = to i in
        let li = to_below i l in
        let no = to_not_out i l in
        let nh : i' ≢ g out = λ e. to_not_home i l (e ∙ twin_out) in
        let turn = rotation-number lists d.0 d.1 h in
        let goal : to (rotation rest i) ≡ dart_number lists (d.0, follows rest d.0 d.1) = ap (dart_number lists) (dart_of-rotation rest simple_rest i l) in
        let next = HasDart-follows lists d.0 d.1 h in
        elim (cases_eq (f i') out) [
          | inl e ↦
              let same = dart_number-injective lists (d.0, follows lists d.0 d.1) (u, v) next edge (sym turn ∙ e) in
              let at : d.0 ≡ u = ap (λ x. x.0) same in
              let to_v : follows lists d.0 d.1 ≡ v = ap (λ x. x.1) same in
              let skip = follows_skip_first lists simple u v edge d.1 (subst (λ x. HasDart rest x d.1) at (is_left i l)) (ap (λ x. follows lists x d.1) (sym at) ∙ to_v) in
              lone_edge-skip f g k m out p q double w t in_out lp lq fp fq apart_twin apart_twin' i' li no nh e
              ∙ (rotation-number lists u v edge ∙ (ap₂ (λ a b. dart_number lists (a, b)) (sym at) (sym skip ∙ ap (λ x. follows rest x d.1) (sym at)) ∙ sym goal))
          | inr ne ↦
              elim (cases_eq (f i') (g out)) [
                | inl e ↦
                    let same = dart_number-injective lists (d.0, follows lists d.0 d.1) (v, u) next (back lists simple u v edge) (sym turn ∙ (e ∙ twin_out)) in
                    let at : d.0 ≡ v = ap (λ x. x.0) same in
                    let to_u : follows lists d.0 d.1 ≡ u = ap (λ x. x.1) same in
                    let skip = follows_skip_second lists simple u v edge d.1 (subst (λ x. HasDart rest x d.1) at (is_left i l)) (ap (λ x. follows lists x d.1) (sym at) ∙ to_u) in
                    lone_edge-skip_second f g k m out p q double w t in_out lp lq fp fq apart_twin apart_twin' i' li no nh e
                    ∙ (ap f twin_out ∙ (rotation-number lists v u (back lists simple u v edge) ∙ (ap₂ (λ a b. dart_number lists (a, b)) (sym at) (sym skip ∙ ap (λ x. follows rest x d.1) (sym at)) ∙ sym goal)))
                | inr ne' ↦
                    let same = follows_same lists simple u v edge d.0 d.1 (is_left i l)
                    (λ a b. ne (turn ∙ ap₂ (λ x y. dart_number lists (x, y)) a b))
                    (λ a b. ne' (turn ∙ (ap₂ (λ x y. dart_number lists (x, y)) a b ∙ sym twin_out))) in
                    lone_edge-other f g k m out p q double w t in_out lp lq fp fq apart_twin apart_twin' i' li no nh ne ne'
                    ∙ (turn ∙ (ap (λ x. dart_number lists (d.0, x)) (sym same) ∙ sym goal))
              ]
        ]

    -- the two darts taken off, and then left out
    pub rest_counts : IsLeftOut lone (twin lists) (dart_count lists) (rotation rest) (twin rest) (dart_count rest)
    rest_counts =
        let renumbered = subst (λ e. IsRenumbering to new (neither out e) (dart_count lists) (dart_count rest)) (sym twin_out) renumbering in
        lone_edge_counts (rotation lists) (twin lists) (dart_count lists) (edge_count lists) out p q (two_m lists simple) (IsPermuting-rotation lists simple) (IsPairing-twin lists simple) in_out lp lq fp fq apart_twin apart_twin'
        to new (dart_count rest) (rotation rest) (twin rest) (IsPermuting-rotation rest simple_rest).within (IsPairing-twin rest simple_rest).within renumbered rotation_over twin_over

  -- the darts before the edge's two
  pub before_first : (p : ℕ) × (p < dart_count lists) × (rotation lists p ≡ out)
  before_first = image_of_some (rotation lists) (dart_count lists) (IsPermuting-rotation lists simple) out in_out

  pub before_second : (q : ℕ) × (q < dart_count lists) × (exchange (rotation lists) before_first.0 out q ≡ twin lists out)
  before_second =
      image_of_some (exchange (rotation lists) before_first.0 out) (dart_count lists) (IsPermuting-exchange (rotation lists) (dart_count lists) before_first.0 out before_first.1 in_out (IsPermuting-rotation lists simple)) (twin lists out) ((IsPairing-twin lists simple).within out in_out)

  pub edge_removed_plane : IsPlane lists → IsPlane (without_edge lists u v)
  edge_removed_plane plane =
      let p = before_first in
      let q = before_second in
      let counts = rest_counts p.0 q.0 p.1 q.1 p.2 q.2 in
      let alone = lone_edge-balances (rotation lists) (twin lists) (dart_count lists) (edge_count lists) out p.0 q.0 (two_m lists simple) (IsPermuting-rotation lists simple) (IsPairing-twin lists simple) in_out p.1 q.1 p.2 q.2 apart_twin apart_twin' (balances_map lists simple 0 (omega (arith, plane))) in
      let less = edge_count-without lists simple u v edge in
      let balance : Balances (rotation rest) (twin rest) (dart_count rest) (edge_count rest) 0 = omega (arith, alone, counts.orbits, counts.faces, counts.classes) in
      omega (arith, map_balances rest simple_rest 0 balance)

-- THE LAW: a map of genus zero without one of its edges has genus zero
pub edge_removed : EdgeRemoved
edge_removed lists u v simple plane edge =
    (IsSimpleMap-without_edge lists simple u v edge, edge_removed_plane lists simple u v edge plane)
