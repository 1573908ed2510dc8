-- The first contour by the tables: where just the face of the base is taken off.
use Rattle.std.proofs.Common.{◌≡◌, ℕ, ◌<◌, Bool, false, List, [], ◌∷◌, ◌++◌, length, set, length-set, ap, ◌∙◌, arith}
use Rattle.convex_peeling.specs.Contours.{IsFirst}
use Rattle.convex_orders.specs.declared.contour_tracing.ContourFaces.{ContourFaces}
use Rattle.convex_orders.specs.declared.removals.RowTables.{RowTables}
use Rattle.convex_orders.specs.declared.map_tables.Tables.{Tables}
use Rattle.convex_orders.specs.FaceNumbers.{entry}
use Rattle.convex_orders.specs.Contours.{AreInner}
use Rattle.convex_orders.specs.Counts.{met_below}
use Rattle.convex_orders.specs.Noted.{AreNoted}
use Rattle.convex_orders.specs.Shown.{IsListOf, IsShown, IsTrace, SomeTrace}
use Rattle.convex_orders.specs.Tables.{IsBlank}
use Rattle.convex_orders.proofs.ContourCountsRows.{entry-lt}
use Rattle.convex_orders.proofs.Known.{based}
use Rattle.convex_orders.proofs.StandLemmas.{first_shown, first_trace, found, begun_two, begun_short, begun_inner, begun_room}

module _ (t : Tables) (s : RowTables) (blank : IsBlank t s) (f : ℕ) (f_is : f ≡ entry t.lists t.faces.own t.tail t.head) where
  pub base_in : f < length s.marks.items
  base_in = omega (arith, f_is, entry-lt t.lists t.faces.own t.faces.count t.numbers.own_table t.tail t.head (based t).base, blank.marks_long)

  module _ (marks : List Bool) (marks_are : marks ≡ set s.marks.items f false) (items : List ℕ) (items_are : items ≡ s.contour.left.items ++ t.head ∷ []) where
    pub marks_first : length marks ≡ t.faces.count
    marks_first = ap length marks_are ∙ (length-set s.marks.items f false ∙ blank.marks_long)

    pub shown : (alive : ℕ → Bool) (w : ℕ → ℕ) (r : ℕ) → IsFirst t.lists t.tail t.head alive w r → IsShown t.lists t.faces.own marks t.tail t.head alive w r
    shown = first_shown t.lists t.tail t.head (based t) t.faces.own t.faces.other t.faces.count t.numbers s.marks.items marks blank.marks_long blank.all (marks_are ∙ ap (λ k. set s.marks.items k false) f_is)

    traced : (alive : ℕ → Bool) (w : ℕ → ℕ) (r : ℕ) → IsFirst t.lists t.tail t.head alive w r → IsTrace t.lists t.faces.own marks items t.tail alive w r 0 r
    traced alive w r h = first_trace t.lists t.tail t.head (based t) t.faces.own marks items alive w r (shown alive w r h) (items_are ∙ ap (λ (z : List ℕ). z ++ t.head ∷ []) blank.left)

    pub some_first : SomeTrace t.lists t.faces.own marks items t.tail
    some_first = let x = found t.lists t.tail t.head (based t) t.faces.own t.faces.other t.faces.count t.numbers in record { alive = x.0; w = x.1; r = x.2; a = 0; b = x.2; trace = traced x.0 x.1 x.2 x.4 }

    module _ (us : List ℕ) (rims : ContourFaces) (is_list : (alive : ℕ → Bool) (w : ℕ → ℕ) (r a b : ℕ) → IsTrace t.lists t.faces.own marks items t.tail alive w r a b → IsListOf us w b) (noted : (alive : ℕ → Bool) (w : ℕ → ℕ) (r a b : ℕ) → IsTrace t.lists t.faces.own marks items t.tail alive w r a b → AreNoted t.lists t.faces.own w a b s.rims rims) where
      pub list_first : (alive : ℕ → Bool) (w : ℕ → ℕ) (r : ℕ) → IsFirst t.lists t.tail t.head alive w r → IsListOf us w r
      list_first alive w r h = is_list alive w r 0 r (traced alive w r h)

      pub some_vertex : 0 < length us
      some_vertex = omega (arith, begun_two t.lists t.tail t.head (based t) t.faces.own t.faces.other t.faces.count t.numbers marks us shown list_first)

      pub short_first : length us < 4096
      short_first = omega (arith, t.few, begun_short t.lists t.tail t.head (based t) t.faces.own t.faces.other t.faces.count t.numbers marks us shown list_first)

      pub room_first : (g : ℕ) → met_below t.faces.own us (length us) g < 65536
      room_first g = omega (arith, short_first, begun_room t.lists t.tail t.head (based t) t.faces.own t.faces.other t.faces.count t.numbers marks us shown list_first g)

      pub inner_first : AreInner t.lists t.faces.own us rims.inner.items
      inner_first = begun_inner t.lists t.tail t.head (based t) t.faces.own t.faces.other t.faces.count t.numbers marks us shown list_first s.rims.inner.items rims.inner.items blank.rims.inner (λ alive w r h. (noted alive w r 0 r (traced alive w r h)).inner)
