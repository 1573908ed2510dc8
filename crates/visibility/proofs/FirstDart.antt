-- In a biconnected map vertex 0 has a neighbour, and the bars of the dart to the first of them are its figure.
use Rattle.std.proofs.Common.{◌≡◌, ℕ, ◌<◌, List, [], ◌∷◌, length, Contains, true≢false, refl, sym, ap, ◌∙◌, subst, arith, eqb, eqb-true}
use Rattle.std.specs.Prelude.{Some, slice_index}
use Rattle.map_lists.specs.Lists.{Lists}
use Rattle.std.proofs.lemmas.List.Elements.{Contains-get_or}
use Rattle.map_theory.specs.Maps.{HasDart, IsPlane, component_count, list_of}
use Rattle.plane_peeling.proofs.Counted.{marks_everywhere}
use Rattle.pg_plane.specs.declared.figures.BarFigure.{BarFigure}
use Rattle.half_edges.specs.Map.{Map, dart_at, first_dart}
use Rattle.half_edges.proofs.LinkLemmas.{tails_same}
use Rattle.conn_parts.specs.BiconnectedMaps.{IsBiconnectedMap}
use Rattle.st_orders.specs.StOrders.{IsStOrder}
use Rattle.bipolar.specs.Numbered.{IsStOf}
use Rattle.visibility.specs.Bars.{AreBarsFor}
use Rattle.visibility.specs.Figures.{IsBarFigure}

none_in : (us : List ℕ) (u : ℕ) → us ≡ [] → ¬ Contains us u
none_in us u e c = let l = c.1 in let n = ap length e in omega arith

-- it is not isolated
pub some_neighbour : (lists : Lists) → IsBiconnectedMap 3 lists → ¬ (list_of lists 0 ≡ [])
some_neighbour lists biconnected e =
    let some = biconnected.some in
    true≢false (sym (marks_everywhere lists biconnected.simple biconnected.connected (λ u. eqb u 0) (λ x u d t. absurd (none_in (list_of lists x) u (ap (list_of lists) (eqb-true x 0 t) ∙ e) d.1)) 0 1 (omega arith) (omega arith) refl))

some_entry : (us : List ℕ) → ¬ (us ≡ []) → 0 < length us
some_entry [] h = absurd (h refl)
some_entry (u ∷ us) h = omega arith

-- its list has a first
pub some_first : (lists : Lists) → IsBiconnectedMap 3 lists → 0 < length (list_of lists 0)
some_first lists biconnected = some_entry (list_of lists 0) (some_neighbour lists biconnected)

pub first_has : (lists : Lists) → IsBiconnectedMap 3 lists → HasDart lists 0 (slice_index (list_of lists 0) 0)
first_has lists biconnected =
    let some = biconnected.some in
    (omega arith, Contains-get_or (list_of lists 0) 0 0 (some_first lists biconnected))

-- ranks of an st-order along its dart
pub IsStOf-first : (map : Map) (d : ℕ) (lists : Lists) (rank : List ℕ) → map.lists ≡ lists → IsBiconnectedMap 3 lists → dart_at map d ≡ Some (first_dart map.lists 0) → (at : List ℕ) × IsStOrder lists 0 (slice_index (list_of lists 0) 0) at rank → IsStOf map rank d
IsStOf-first map d lists rank same biconnected is order =
    let along = subst (λ (ls : Lists). (at : List ℕ) × IsStOrder ls 0 (slice_index (list_of ls 0) 0) at rank) (sym same) order in
    record {
      plane = subst IsPlane (sym same) biconnected.plane;
      connected = subst (λ (ls : Lists). component_count ls ≡ 1) (sym same) biconnected.connected;
      order = λ s t e.
          let one = tails_same 0 s (slice_index (list_of map.lists 0) 0) t (dart_at map d) is e in
          (along.0, subst (λ x. IsStOrder map.lists s x along.0 rank) one.1 (subst (λ x. IsStOrder map.lists x (slice_index (list_of map.lists 0) 0) along.0 rank) one.0 along.1));
    }

pub IsBarFigure-of : (map : Map) (d : ℕ) (fig : BarFigure) → dart_at map d ≡ Some (first_dart map.lists 0) → AreBarsFor map d fig → IsBarFigure map.lists fig
IsBarFigure-of map d fig is bars =
    let found = bars 0 (slice_index (list_of map.lists 0) 0) is in
    let drawn = found.3.drawn 0 (slice_index (list_of map.lists 0) 0) is in
    record {
      bars = found.3.bars;
      valid = found.3.valid;
      placed = record { at = found.0; rank = found.1; columns = drawn.0; order = found.2; numbers = drawn.1; drawn = drawn.2 };
    }
