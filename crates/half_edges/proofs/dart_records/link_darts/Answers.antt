use Rattle.std.proofs.Common.{◌≡◌, length, drop, subst, ◌∙◌}
use Rattle.std.proofs.lemmas.List.{take_at}
use Rattle.map_lists.specs.Cuts.{ends_from}
use Rattle.half_edges.specs.Arena.{no_record}
use Rattle.half_edges.specs.Rounds.{AreRounds, AreRoundVertices}
use Rattle.half_edges.proofs.RoundLemmas.{count_ends, few_old, cuts_old, short_lists, AreLinked-rounds}
use Rattle.half_edges.proofs.dart_records.link_darts.Goals as goal

pub close_rounds-requires-clause-cuts : goal.close_rounds-requires-clause-cuts
close_rounds-requires-clause-cuts c =
    rw (c.ends.ensures, c.deref_mut.ensures.value) (cuts_old c.args.lists.now c.facts.ensures c.args.darts.now.items c.requires.slots)

pub close_rounds-requires-clause-few : goal.close_rounds-requires-clause-few
close_rounds-requires-clause-few c =
    rw (c.deref_mut.ensures.value) (few_old c.args.lists.now c.facts.ensures c.args.darts.now.items c.requires.slots)

pub close_rounds-requires-clause-few_vertices : goal.close_rounds-requires-clause-few_vertices
close_rounds-requires-clause-few_vertices c =
    let few = c.facts.ensures in
    rw (c.ends.ensures, count_ends c.args.lists.now few c.args.darts.now.items c.requires.slots) few

pub close_rounds-requires-clause-short : goal.close_rounds-requires-clause-short
close_rounds-requires-clause-short c =
    rw (c.ends.ensures) (short_lists c.args.lists.now c.facts.ensures c.args.darts.now.items c.requires.slots)

pub close_rounds-requires-clause-line : goal.close_rounds-requires-clause-line
close_rounds-requires-clause-line c =
    rw (c.deref_mut.ensures.value) (λ d l. c.requires.line.at d no_record l l)

pub returns : goal.returns
returns c =
    let new = c.close_rounds.new.darts in
    let long : length new ≡ c.args.darts.now.len = c.close_rounds.auto.darts ∙ c.deref_mut.ensures.len in
    let rounds : AreRounds (ends_from 0 c.args.lists.now) c.args.darts.now.items new (length (ends_from 0 c.args.lists.now)) =
    subst (λ es. AreRounds es c.args.darts.now.items new (length es)) c.ends.ensures (subst (λ old. AreRounds c.ends.result.now old new (length c.ends.result.now)) c.deref_mut.ensures.value c.in_ok-close_rounds.ensures.rounds) in
    let vertices : AreRoundVertices (ends_from 0 c.args.lists.now) c.close_rounds.new.vertices.items (length (ends_from 0 c.args.lists.now)) =
    subst (λ es. AreRoundVertices es c.close_rounds.new.vertices.items (length es)) c.ends.ensures c.in_ok-close_rounds.ensures.vertices in
    rw (take_at new (drop (length new) c.args.darts.now.items) c.args.darts.now.len long)
    (AreLinked-rounds c.args.lists.now c.facts.ensures c.args.darts.now.items c.requires.slots new c.close_rounds.new.vertices.items rounds vertices)
