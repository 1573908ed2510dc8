-- Where each dart stands, and the numbers of twins.
use Rattle.std.proofs.Common.{ℕ, ◌+◌, ◌<◌, ◌≡◌, List, [], ◌∷◌, ◌++◌, length, get_or, slice_get, Some, sym, ap, ◌∙◌, subst, inl, inr, arith}
use Rattle.std.proofs.lemmas.List.{length_push, get_or_append_left, get_or_push}
use Rattle.std.proofs.lemmas.Option.{slice_get-get_or, slice_get_within, get_or_from_slice_get}
use Rattle.std.proofs.lemmas.Bool.{cases_lt}
use Rattle.map_lists.specs.Lists.{Lists}
use Rattle.map_theory.specs.Maps.{Dart, HasDart, darts, dart_count, dart_number, twin_dart}
use Rattle.map_theory.proofs.DartLemmas.{length-darts, HasDart-darts, get_or-dart_number, dart_number-lt}
use Rattle.simple_maps.specs.Tables.{AreTwins}

-- what stands among the ends is a dart
pub HasDart-from_slice_get : (lists : Lists) (ends : List Dart) (d v u : ℕ) → ends ≡ darts lists → slice_get ends d ≡ Some (v, u) → HasDart lists v u
HasDart-from_slice_get lists ends d v u e found =
    let in_darts : d < dart_count lists = omega (arith, slice_get_within ends d (v, u) found, ap length e, length-darts lists) in
    let same : get_or (darts lists) d (v, u) ≡ (v, u) = ap (λ ds. get_or ds d (v, u)) (sym e) ∙ get_or_from_slice_get ends d (v, u) (v, u) found in
    subst (λ (dart : Dart). HasDart lists dart.0 dart.1) same (HasDart-darts lists d (v, u) in_darts)

-- and each dart stands there at its number
pub slice_get-dart_number : (lists : Lists) (ends : List Dart) (v u : ℕ) → ends ≡ darts lists → HasDart lists v u → slice_get ends (dart_number lists (v, u)) ≡ Some (v, u)
slice_get-dart_number lists ends v u e h =
    rw e
    (slice_get-get_or (darts lists) (dart_number lists (v, u)) (v, u) (omega (arith, dart_number-lt lists v u h, length-darts lists))
    ∙ ap (λ d. Some d) (get_or-dart_number lists v u (v, u) h))

-- one more twin
pub AreTwins-push : (ends : List Dart) (twins : List ℕ) (n t : ℕ) → AreTwins ends twins n → slice_get ends t ≡ Some (twin_dart (get_or ends n (0, 0))) → AreTwins ends (twins ++ t ∷ []) (n + 1)
AreTwins-push ends twins n t h found = record {
  count = omega (arith, length_push twins t, h.count);
  at = λ d l.
      elim (cases_lt d n) [
        | inl less ↦ ap (λ k. slice_get ends k) (get_or_append_left twins (t ∷ []) 0 d (omega (arith, h.count, less))) ∙ h.at d less
        | inr more ↦
            let last : d ≡ n = omega arith in
            ap (λ k. slice_get ends (get_or (twins ++ t ∷ []) k 0)) last ∙ ap (λ k. slice_get ends k) (get_or_push twins t 0 n h.count) ∙ found
            ∙ ap (λ k. Some (twin_dart (get_or ends k (0, 0)))) (sym last)
      ];
}
