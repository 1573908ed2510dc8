use Rattle.std.proofs.Common.{◌+◌, Option, Some, option_map, is_some, ap, refl, arith, get_or}
use Rattle.std.proofs.lemmas.List.{get_or_default}
use Rattle.map_theory.specs.Maps.{Dart, list_of, place_of}
use Rattle.map_theory.proofs.DartLemmas.{place_of-lt-length}
use Rattle.augment_tri.proofs.joined_components.corner_of.Goals as goal

pub returns-in-Some : goal.returns-in-Some
returns-in-Some c =
    let us = list_of c.args.map.now.lists c.args.v.0 in
    let first = get_or us 0 0 in
    let some = c.in-Some.ensures.not_isolated in
    let at = c.in-Some.ensures.dart in
    let l = place_of-lt-length first us (0, some, get_or_default us 0 first 0 some) in (
      ap (λ (o : Option Dart). is_some o) at,
      (Some first, ap (option_map (λ (z : Dart). (z.0, Some z.1))) at, (place_of first us + 1, omega arith, λ x. refl)),
    )
