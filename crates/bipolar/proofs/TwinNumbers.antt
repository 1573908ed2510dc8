-- The number of a dart's twin, by a table of twins.
use Rattle.std.proofs.Common.{◌≡◌, ℕ, ◌<◌, List, length, get_or, slice_get, Some, sym, ap, ◌∙◌, arith}
use Rattle.std.proofs.lemmas.Option.{slice_get_within, get_or_from_slice_get}
use Rattle.map_lists.specs.Lists.{Lists}
use Rattle.map_theory.specs.Maps.{Dart, HasDart, IsSimpleMap, darts, dart_number, dart_count, twin_dart}
use Rattle.map_theory.proofs.DartLemmas.{length-darts, IsDartNumber-darts, dart_number-lt, get_or-dart_number}
use Rattle.simple_maps.specs.Tables.{AreTwins}

module _ (lists : Lists) (twins : List ℕ) (w : AreTwins (darts lists) twins (length (darts lists))) where
  found : (d : ℕ) → d < dart_count lists → slice_get (darts lists) (get_or twins d 0) ≡ Some (twin_dart (get_or (darts lists) d (0, 0)))
  found d l = w.at d (omega (arith, l, length-darts lists))

  pub twin_in : (d : ℕ) → d < dart_count lists → get_or twins d 0 < dart_count lists
  twin_in d l = omega (arith, slice_get_within (darts lists) (get_or twins d 0) (twin_dart (get_or (darts lists) d (0, 0))) (found d l), length-darts lists)

  pub twin_number : IsSimpleMap lists → (v u : ℕ) → HasDart lists v u → get_or twins (dart_number lists (v, u)) 0 ≡ dart_number lists (u, v)
  twin_number simple v u has =
      let d = dart_number lists (v, u) in
      let d_in = dart_number-lt lists v u has in
      let is = get_or_from_slice_get (darts lists) (get_or twins d 0) (twin_dart (get_or (darts lists) d (0, 0))) (0, 0) (found d d_in) in
      sym (IsDartNumber-darts lists (get_or twins d 0) (0, 0) simple.no_repeat (twin_in d d_in)).number ∙ ap (λ (x : Dart). dart_number lists x) (is ∙ ap twin_dart (get_or-dart_number lists v u (0, 0) has))
