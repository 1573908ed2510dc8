use Rattle.std.proofs.Common.{◌≡◌, ℕ, List, length, map, get_or, sym, ap, ◌∙◌, subst, arith}
use Rattle.map_lists.specs.Lists.{Lists}
use Rattle.map_lists.specs.Cuts.{cut, AreCuts, ends_from}
use Rattle.map_lists.proofs.CutLemmas.{IsStored, IsStored-cuts, IsStored-cut, length-cut}
use Rattle.map_theory.specs.Maps.{dart_count}
use Rattle.map_theory.proofs.DartLemmas.{length-darts}
use Rattle.bipolar.specs.FaceNumbers.{AreFaceNumbers as NumberFaces}
use Rattle.convex_orders.specs.FaceNumbers.{AreFaceNumbers}
use Rattle.bipolar.proofs.TwinNumbers.{twin_in}
use Rattle.convex_draw.proofs.FlatNumbers.{row_cuts, long_at_twins, numbers_by_lists}
use Rattle.convex_draw.proofs.convex_figures.face_numbers_by_twins.numbers_again.Goals as goal

pub number_faces-requires-clause-darts : goal.number_faces-requires-clause-darts
number_faces-requires-clause-darts c =
    let stored : IsStored c.args.lists.now c.entries.result.now c.ends.result.now = record { entries_are = c.entries.ensures; ends_are = c.ends.ensures } in
    let whole = IsStored-cut c.args.lists.now c.entries.result.now c.ends.result.now stored in
    record {
      cuts = IsStored-cuts _ _ _ stored;
      few = omega (arith, ap length whole, length-cut 0 c.ends.result.now c.entries.result.now, c.facts.ensures);
      simple = rw whole c.requires.simple;
      are_twins = rw whole c.requires.twins;
    }

pub number_faces-requires-clause-ranks : goal.number_faces-requires-clause-ranks
number_faces-requires-clause-ranks c =
    let stored : IsStored c.args.lists.now c.entries.result.now c.ends.result.now = record { entries_are = c.entries.ensures; ends_are = c.ends.ensures } in
    omega (arith, ap length (IsStored-cut _ _ _ stored), length-cut 0 c.ends.result.now c.entries.result.now, c.in_ok-resize.ensures.len, c.len.ensures.is, ap (λ (xs : List ℕ). length xs) c.deref.ensures.value)

-- the faces of the stored lists are those of the lists
numbered : (lists : Lists) (entries ends of : List ℕ) (count : ℕ) → IsStored lists entries ends → NumberFaces (cut 0 ends entries) of count → NumberFaces lists of count
numbered lists entries ends of count stored h = subst (λ (ls : Lists). NumberFaces ls of count) (IsStored-cut lists entries ends stored) h

pub at_twins-requires : goal.at_twins-requires
at_twins-requires c =
    let faces = numbered c.args.lists.now c.entries.result.now c.ends.result.now c.in_ok-faces.faces.of.items (length c.in_ok-faces.faces.arcs) (record { entries_are = c.entries.ensures; ends_are = c.ends.ensures }) c.in_ok-faces.ensures.numbers in
    record {
      within = λ i l.
          let n = faces.size in
          let m = ap (λ (xs : List ℕ). length xs) c.deref-2.ensures.value in
          omega (arith, twin_in c.args.lists.now c.args.twins.now c.requires.twins i (omega (arith, l, c.requires.twins.count, length-darts c.args.lists.now)), n, m);
    }

pub from_parts-requires : goal.from_parts-requires
from_parts-requires c =
    let lists = c.args.lists.now in
    let of = c.in_ok-faces.faces.of.items in
    let faces = numbered lists c.entries.result.now c.ends.result.now of (length c.in_ok-faces.faces.arcs) (record { entries_are = c.entries.ensures; ends_are = c.ends.ensures }) c.in_ok-faces.ensures.numbers in
    subst (λ (z : List ℕ). AreCuts 0 z (length of)) (sym c.in_ok-own_ends.ensures) (row_cuts lists of faces.size)

pub from_parts-requires-2 : goal.from_parts-requires-2
from_parts-requires-2 c =
    let lists = c.args.lists.now in
    let of = c.in_ok-faces.faces.of.items in
    let count = length c.in_ok-faces.faces.arcs in
    let faces = numbered lists c.entries.result.now c.ends.result.now of count (record { entries_are = c.entries.ensures; ends_are = c.ends.ensures }) c.in_ok-faces.ensures.numbers in
    let others : c.in_ok-other.other.items ≡ map (λ t. get_or of t 0) c.args.twins.now = c.in_ok-other.ensures ∙ ap (λ (xs : List ℕ). map (λ t. get_or xs t 0) c.args.twins.now) c.deref-2.ensures.value in
    let long : length c.in_ok-other.other.items ≡ dart_count lists = ap (λ (xs : List ℕ). length xs) others ∙ long_at_twins lists c.requires.simple of count faces c.args.twins.now c.requires.twins in
    subst (λ (z : List ℕ). AreCuts 0 z (length c.in_ok-other.other.items)) (sym c.in_ok-other_ends.ensures) (row_cuts lists c.in_ok-other.other.items long)

pub returns-clause-numbers : goal.returns-clause-numbers
returns-clause-numbers c =
    let lists = c.args.lists.now in
    let of = c.in_ok-faces.faces.of.items in
    let count = length c.in_ok-faces.faces.arcs in
    let faces = numbered lists c.entries.result.now c.ends.result.now of count (record { entries_are = c.entries.ensures; ends_are = c.ends.ensures }) c.in_ok-faces.ensures.numbers in
    let others : c.in_ok-other.other.items ≡ map (λ t. get_or of t 0) c.args.twins.now = c.in_ok-other.ensures ∙ ap (λ (xs : List ℕ). map (λ t. get_or xs t 0) c.args.twins.now) c.deref-2.ensures.value in
    let own : c.from_parts.result ≡ cut 0 (ends_from 0 lists) of = c.from_parts.ensures ∙ ap (λ (z : List ℕ). cut 0 z of) c.in_ok-own_ends.ensures in
    let other = c.from_parts-2.ensures ∙ (ap (λ (z : List ℕ). cut 0 z c.in_ok-other.other.items) c.in_ok-other_ends.ensures ∙ ap (λ (xs : List ℕ). cut 0 (ends_from 0 lists) xs) others) in
    subst (λ (n : ℕ). AreFaceNumbers lists c.from_parts.result c.from_parts-2.result n) (sym c.len-2.ensures)
    (subst (λ (z : Lists). AreFaceNumbers lists z c.from_parts-2.result count) (sym own)
    (subst (λ (z : Lists). AreFaceNumbers lists (cut 0 (ends_from 0 lists) of) z count) (sym other) (numbers_by_lists lists c.requires.simple of count faces c.args.twins.now c.requires.twins)))

pub returns-clause-count : goal.returns-clause-count
returns-clause-count c =
    let faces = numbered c.args.lists.now c.entries.result.now c.ends.result.now c.in_ok-faces.faces.of.items (length c.in_ok-faces.faces.arcs) (record { entries_are = c.entries.ensures; ends_are = c.ends.ensures }) c.in_ok-faces.ensures.numbers in
    c.len-2.ensures ∙ faces.all
