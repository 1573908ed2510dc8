use Rattle.std.proofs.Common.{◌≡◌, ap, sym, subst, option_map, ◌∙◌}
use Rattle.std.proofs.lemmas.List.{get_or_read}
use Rattle.half_edges.specs.Map.{dart_at, IsLive, next_dart}
use Rattle.half_edges.specs.Arena.{no_record, record_at}
use Rattle.half_edges.specs.declared.dart_records.DartRecord.{DartRecord}
use Rattle.half_edges.proofs.ArenaLemmas.{in_darts, prev_live, prev_here}
use Rattle.half_edges.proofs.half_map.HalfMap.prev.Goals as goal
use Rattle.half_edges.proofs.half_map.HalfMap.prev.Goals.{After-index}

record_is : (c : After-index) → c.index.result.now ≡ record_at c.self.inside.darts.items c.args.d.0
record_is c =
    get_or_read c.self.inside.darts.items c.args.d.0 c.index.result.now (in_darts _ _ _ _ _ c.self.invariant c.args.self.now c.self.view_is c.args.d.0 c.requires) c.index.ensures no_record

pub returns-clause-live : goal.returns-clause-live
returns-clause-live c =
    subst (λ (r : DartRecord). IsLive c.args.self.now r.prev) (sym (record_is ((goal.at.returns-clause-live c).After-index)))
    (prev_live _ _ _ _ _ c.self.invariant c.args.self.now c.self.view_is c.args.d.0 c.requires)

pub returns-clause-before : goal.returns-clause-before
returns-clause-before c =
    ap (λ (r : DartRecord). option_map (next_dart c.args.self.now.lists) (dart_at c.args.self.now r.prev)) (record_is ((goal.at.returns-clause-before c).After-index))
    ∙ prev_here _ _ _ _ _ c.self.invariant c.args.self.now c.self.view_is c.args.d.0 c.requires
