-- A stretch of vertices without chords: restricted to the vertices of the cycle, the map has a leaf of its outer face, whose face runs back along the cycle.
use Rattle.std.proofs.Common.{◌≡◌, ◌≢◌, ℕ, zero, suc, ◌+◌, ◌-◌, ◌<◌, ◌≤◌, List, [], ◌∷◌, ◌++◌, length, get_or, AllPairs, Contains, refl, sym, ap, ◌∙◌, subst, inl, inr, arith}
use Rattle.std.proofs.lemmas.List.{append_assoc}
use Rattle.std.proofs.lemmas.List.Elements.{Contains-get_or}
use Rattle.map_lists.specs.Lists.{Lists}
use Rattle.map_theory.specs.Maps.{list_of, HasDart, IsSimpleMap, IsPlane, follows, entry_after}
use Rattle.map_theory.specs.Paths.{SameFace}
use Rattle.map_theory.proofs.EntryLemmas.{Contains-cons_cases, AllPairs-left}
use Rattle.map_theory.proofs.DartLemmas.{HasDart-follows}
use Rattle.plane_laws.proofs.DartPaths.{same_face, same_face-step}
use Rattle.plane_laws.specs.OuterFaces.{IsOuterLeaf}
use Rattle.plane_laws.proofs.OuterFaces.{outer_leaf_law}
use Rattle.plane_peeling.specs.NearTriangulations.{IsOuterCycle, IsRemovable}
use Rattle.plane_peeling.specs.Laws.{SomeRemovable}
use Rattle.plane_peeling.proofs.Rings.{Leads, Leads-part, Leads-join, Leads-front, Contains-counts, AllPairs-counts, separated_at, only_two, ring_from}
use Rattle.plane_peeling.proofs.Ways.{place, place_first, place_last, place_next, place_apart, place_is}
use Rattle.plane_peeling.proofs.RestrictedMaps.{restricted-map, restricted-old}
use Rattle.plane_peeling.proofs.OuterCycles.{next-apart, last_on, next-last, round}
use Rattle.plane_peeling.proofs.OnCycle.{on, rest, simple', kept_dart, old, stays_on, cycle_dart, cycle_turn, outer_face}

-- A stretch of the outer cycle, from u to w, whose vertices between the two have no chord; u and w are adjacent, by a chord or the base.
pub record IsRemovableStretch (lists : Lists) (s t : ℕ) (ws front : List ℕ) (u : ℕ) (between : List ℕ) (w : ℕ) (back : List ℕ) : Type 0 where
  pub parts : ws ≡ front ++ (u ∷ between ++ w ∷ back)
  pub some : 0 < length between
  pub chord : HasDart lists u w
  pub removable : (v : ℕ) → Contains between v → IsRemovable lists s t ws v

module _ (lists : Lists) (s t : ℕ) (ws : List ℕ) (simple : IsSimpleMap lists) (plane : IsPlane lists) (cycle : IsOuterCycle lists s t ws) where
  abbrev R : Lists
  R = rest lists s t ws simple plane cycle

  abbrev step : ℕ → ℕ
  step x = entry_after x ws

  sR : IsSimpleMap R
  sR = simple' lists s t ws simple plane cycle

  on_ws : (x y : ℕ) → HasDart R x y → Contains ws x
  on_ws x y d = old lists s t ws simple plane cycle x y d

  apart : (x y : ℕ) → Contains ws x → Contains ws y → step x ≡ step y → x ≡ y
  apart x y c c' e = next-apart lists s t ws simple cycle x y c c' e

  -- where round v the vertex before it follows that after it, v has no chord
  removable_between : (x v : ℕ) → Contains ws x → step x ≡ v → x ≢ t → v ≢ t → HasDart R v (step v) → follows R v (step v) ≡ x → IsRemovable lists s t ws v
  removable_between x v on_x e x_t v_t d back =
      let on_v = on_ws v (step v) d in
      let forth : follows R v x ≡ step v = ap (λ w. follows R w x) (sym e) ∙ (cycle_turn lists s t ws simple plane cycle x on_x ∙ ap step e) in
      record {
        on = on_v;
        not_first = λ q. x_t (apart x t on_x (last_on lists s t ws simple cycle) (e ∙ (q ∙ sym (next-last lists s t ws simple cycle))));
        not_last = v_t;
        chordless = λ z dz c.
            let here = kept_dart lists s t ws simple plane cycle v z on_v c dz in
            elim (only_two (list_of R v) (step v) x z (sR.no_repeat v d.0) d.1 back forth here.1) [
              | inl q ↦ inr (sym q)
              | inr q ↦ inl (ap step q ∙ e)
            ];
      }

  module _ (u w : ℕ) (leaf : IsOuterLeaf R step t u w) (between : List ℕ) (way : Leads step u (between ++ w ∷ []) w) (distinct : AllPairs ◌≢◌ (u ∷ between ++ w ∷ [])) where
    abbrev m : ℕ
    m = length between + 1

    abbrev at : ℕ → ℕ
    at i = place u between w i

    -- the dart back along the cycle, from at i + 1 to at i, is of the leaf's face
    record IsBack (i : ℕ) : Type 0 where
      dart : HasDart R (at (suc i)) (at i)
      face : SameFace R (u, w) (at (suc i), at i)
      on : Contains ws (at i)
      not_last : at i ≢ t

    -- what comes after a dart of the face, to the vertex at at i + 1
    one_back : (x i : ℕ) → i < m → HasDart R x (at (suc i)) → SameFace R (u, w) (x, at (suc i)) → (at (suc i) ≡ u → ⊥) → Contains ws (at i) → IsBack i × (follows R (at (suc i)) x ≡ at i)
    one_back x i l d face ne on_i =
        let y = follows R (at (suc i)) x in
        let d' = HasDart-follows R (at (suc i)) x (sR.both_ways x (at (suc i)) d) in
        let face' = same_face-step R sR (u, w) (x, at (suc i)) d face in
        let is = leaf.others (at (suc i)) y d' face' (λ e. ne e.0) in
        let on_y = on_ws y (at (suc i)) (sR.both_ways (at (suc i)) y d') in
        let y_i : y ≡ at i = apart y (at i) on_y on_i (is.0 ∙ sym (place_next step u between w way distinct i l)) in (
          record {
            dart = subst (HasDart R (at (suc i))) y_i d';
            face = subst (λ z. SameFace R (u, w) (at (suc i), z)) y_i face';
            on = on_i;
            not_last = λ e. is.1 (y_i ∙ e);
          },
          y_i,
        )

    on_row : (i : ℕ) → i ≤ m → Contains ws (at i)
    on_row zero l = subst (Contains ws) (sym (place_first step u between w way distinct)) (on_ws u w leaf.dart)
    on_row (suc i) l = subst (Contains ws) (place_next step u between w way distinct i (omega arith)) (stays_on lists s t ws simple plane cycle (at i) (on_row i (omega arith)))

    -- the face runs back along the cycle, from w to u
    runs_back : (k i : ℕ) → i + suc k ≡ m → IsBack i
    runs_back zero i e =
        let i_m : suc i ≡ m = omega arith in
        let to_w : at (suc i) ≡ w = ap at i_m ∙ place_last step u between w way distinct in
        (one_back u i (omega arith) (subst (HasDart R u) (sym to_w) leaf.dart) (subst (λ z. SameFace R (u, w) (u, z)) (sym to_w) (same_face R sR (u, w) (u, w) refl))
        (λ q. place_apart step u between w way distinct 0 (suc i) (omega arith) (omega arith) (place_first step u between w way distinct ∙ sym q)) (on_row i (omega arith))).0
    runs_back (suc k) i e =
        let later = runs_back k (suc i) (omega arith) in
        (one_back (at (suc (suc i))) i (omega arith) later.dart later.face (λ q. place_apart step u between w way distinct 0 (suc i) (omega arith) (omega arith) (place_first step u between w way distinct ∙ sym q)) (on_row i (omega arith))).0

    -- so it turns at each vertex between
    turns_back : (i : ℕ) → suc i < m → follows R (at (suc i)) (at (suc (suc i))) ≡ at i
    turns_back i l =
        let d : suc i + suc (m - suc (suc i)) ≡ m = omega arith in
        let later = runs_back (m - suc (suc i)) (suc i) d in
        (one_back (at (suc (suc i))) i (omega arith) later.dart later.face (λ q. place_apart step u between w way distinct 0 (suc i) (omega arith) (omega arith) (place_first step u between w way distinct ∙ sym q)) (on_row i (omega arith))).1

    not_last_at : (i : ℕ) → i < m → at i ≢ t
    not_last_at i l = let d : i + suc (m - suc i) ≡ m = omega arith in (runs_back (m - suc i) i d).not_last

    between_removable : (v : ℕ) → Contains between v → IsRemovable lists s t ws v
    between_removable v c =
        let i = c.0 in
        let here : at (suc i) ≡ v = place_is step u between w way distinct v (suc i, omega arith, c.2) in
        let next_v : step v ≡ at (suc (suc i)) = ap step (sym here) ∙ place_next step u between w way distinct (suc i) (omega arith) in
        removable_between (at i) v (on_row i (omega arith)) (place_next step u between w way distinct i (omega arith) ∙ here) (not_last_at i (omega arith)) (λ e. not_last_at (suc i) (omega arith) (here ∙ e))
        (cycle_dart lists s t ws simple plane cycle v (subst (Contains ws) here (on_row (suc i) (omega arith))))
        (ap (follows R v) next_v ∙ (ap (λ z. follows R z (at (suc (suc i)))) (sym here) ∙ turns_back i (omega arith)))

    some_between : 0 < length between
    some_between = some between way
      where
        some : (l : List ℕ) → Leads step u (l ++ w ∷ []) w → 0 < length l
        some [] h = absurd (leaf.inner (sym h.0))
        some (a ∷ l) h = omega arith

    stretch_here : (front : List ℕ) × (back : List ℕ) × IsRemovableStretch lists s t ws front u between w back
    stretch_here =
        let parts = separated_at ws u (on_ws u w leaf.dart) in
        let whole = Leads-part step t parts.0 (u ∷ parts.1) t (subst (λ l. Leads step t l t) parts.2 (round lists s t ws simple cycle)) in
        let more = Leads-front step u parts.1 between t w whole.2.1 way (λ z c.
        let l = c.1 in
        λ e. not_last_at c.0 (omega arith) (place_is step u between w way distinct z c ∙ e)) in (
          parts.0,
          more.0,
          record {
            parts = parts.2 ∙ ap (λ l. parts.0 ++ u ∷ l) more.1;
            some = some_between;
            chord = (restricted-old lists (on lists s t ws simple plane cycle) u w leaf.dart).0;
            removable = between_removable;
          },
        )

  -- And a chord, or else the base, cuts off a stretch of such vertices.
  pub some_removable_stretch : (front : List ℕ) × (u : ℕ) × (between : List ℕ) × (w : ℕ) × (back : List ℕ) × IsRemovableStretch lists s t ws front u between w back
  some_removable_stretch =
      let last = last_on lists s t ws simple cycle in
      let found = outer_leaf_law R step t sR ((restricted-map lists (on lists s t ws simple plane cycle) simple).plane plane) (outer_face lists s t ws simple plane cycle) (cycle_dart lists s t ws simple plane cycle t last) in
      let u = found.0 in
      let w = found.1 in
      let ring = ring_from ws u cycle.distinct (on_ws u w found.2.dart) in
      let ring_distinct = AllPairs-counts (u ∷ ring.0) ws ring.2 cycle.distinct in
      let in_rest : Contains ring.0 w =
      elim (Contains-cons_cases u ring.0 w (Contains-counts ws (u ∷ ring.0) (λ z. sym (ring.2 z)) w (on_ws w u (sR.both_ways u w found.2.dart)))) [
        | inl e ↦ absurd (sR.no_loop u w found.2.dart (sym e))
        | inr c ↦ c
      ] in
      let parts = separated_at ring.0 w in_rest in
      let whole = Leads-part step u ring.0 (u ∷ []) u ring.1 in
      let to_w = Leads-part step u parts.0 (w ∷ parts.1) whole.0 (subst (λ l. Leads step u l whole.0) parts.2 whole.1) in
      let row_distinct : AllPairs ◌≢◌ (u ∷ parts.0 ++ w ∷ []) =
      AllPairs-left (u ∷ parts.0 ++ w ∷ []) parts.1 (subst (λ l. AllPairs ◌≢◌ (u ∷ l)) (parts.2 ∙ sym (append_assoc parts.0 (w ∷ []) parts.1)) ring_distinct) in
      let is = stretch_here u w found.2 parts.0 (Leads-join step u parts.0 to_w.0 (w ∷ []) w to_w.1 ((to_w.2.0, refl))) row_distinct in
      (is.0, u, parts.0, w, is.1, is.2)

pub some_removable : SomeRemovable
some_removable lists s t ws simple plane cycle =
    let found = some_removable_stretch lists s t ws simple plane cycle in
    (get_or found.2 0 0, found.5.removable (get_or found.2 0 0) (Contains-get_or found.2 0 0 found.5.some))
