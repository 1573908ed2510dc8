use Rattle.std.proofs.Common.{get_or}
use Rattle.map_theory.specs.Maps.{list_of}
use Rattle.vertex_rounds.proofs.OnceLemmas.{two_from_later, one_from_last, turns_of_two}
use Rattle.vertex_rounds.proofs.one_turn.turns_round.Goals as goal

pub returns-in-Some : goal.returns-in-Some
returns-in-Some g c =
    let map = c.args.map.now in
    let v = c.args.v.0 in
    let first = c.requires.first in
    let two = two_from_later map c.args.map.now.known v c.args.first.0 c.in-Some.field-0.0 first (c.in-Some.ensures v (get_or (list_of map.lists v) 0 0) first) in
    turns_of_two map c.args.map.now.known _ v c.passes_once.result c.passes_once.ensures two

pub returns-in-None : goal.returns-in-None
returns-in-None g c =
    let map = c.args.map.now in
    let v = c.args.v.0 in
    let first = c.requires.first in
    record { once = λ two. absurd (one_from_last map c.args.map.now.known v c.args.first.0 first (c.in-None.ensures v (get_or (list_of map.lists v) 0 0) first) two) }
