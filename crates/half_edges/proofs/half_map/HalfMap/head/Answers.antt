use Rattle.std.proofs.Common.{◌<◌, ◌≡◌, ap, ◌∙◌, sym, Some, option_map, arith}
use Rattle.std.proofs.lemmas.List.{get_or_read}
use Rattle.half_edges.specs.Arena.{no_record, tail_of, record_at}
use Rattle.half_edges.specs.declared.dart_records.DartRecord.{DartRecord}
use Rattle.half_edges.proofs.ArenaLemmas.{in_darts, twin_in, dart_here}
use Rattle.half_edges.proofs.half_map.HalfMap.head.Goals as goal
use Rattle.half_edges.proofs.half_map.HalfMap.head.Goals.{After-index}

record_is : (c : After-index) → c.index.result.now ≡ record_at c.self.inside.darts.items c.args.d.0
record_is c = get_or_read c.self.inside.darts.items c.args.d.0 c.index.result.now (in_darts _ _ _ _ _ c.self.invariant c.args.self.now c.self.view_is c.args.d.0 c.requires) c.index.ensures no_record

twin_within : (c : After-index) → c.index.result.now.twin < c.self.inside.darts.len
twin_within c = omega (arith, ap (λ (r : DartRecord). r.twin) (record_is c), twin_in _ _ _ _ _ c.self.invariant c.args.self.now c.self.view_is c.args.d.0 c.requires, c.self.inside.darts.ok.0)

pub index-requires-2 : goal.index-requires-2
index-requires-2 c = twin_within ((goal.at.index-requires-2 c).After-index)

pub returns : goal.returns
returns c =
    let a = (goal.at.returns c).After-index in
    let darts = c.self.inside.darts.items in
    ap (λ o. option_map (λ dart. dart.1) o) (dart_here _ _ _ _ _ c.self.invariant c.args.self.now c.self.view_is c.args.d.0 c.requires)
    ∙ ap (λ t. Some (tail_of darts t)) (sym (ap (λ (r : DartRecord). r.twin) (record_is a)))
    ∙ ap (λ (r : DartRecord). Some r.tail) (sym (get_or_read darts c.index.result.now.twin c.index-2.result.now (omega (arith, twin_within a, c.self.inside.darts.ok.0)) c.index-2.ensures no_record))
