use Rattle.std.proofs.Common.{ap, ◌∙◌}
use Rattle.std.proofs.lemmas.List.{get_or_read}
use Rattle.half_edges.specs.Map.{dart_at}
use Rattle.half_edges.specs.Arena.{no_record}
use Rattle.half_edges.specs.declared.dart_records.DartRecord.{DartRecord}
use Rattle.half_edges.proofs.ArenaLemmas.{in_darts, twin_here}
use Rattle.half_edges.proofs.half_map.HalfMap.twin.Goals as goal

pub returns : goal.returns
returns c =
    let d = c.args.d.0 in
    let read = get_or_read c.self.inside.darts.items d c.index.result.now (in_darts _ _ _ _ _ c.self.invariant c.args.self.now c.self.view_is d c.requires) c.index.ensures no_record in
    ap (λ (r : DartRecord). dart_at c.args.self.now r.twin) read ∙ twin_here _ _ _ _ _ c.self.invariant c.args.self.now c.self.view_is d c.requires
