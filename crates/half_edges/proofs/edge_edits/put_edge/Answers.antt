use Rattle.half_edges.proofs.GivenLemmas.{d_within, first_put, twin_within, second_put, wired_given, dart_given, ids_given}
use Rattle.half_edges.proofs.edge_edits.put_edge.Goals as goal

pub put_dart-requires : goal.put_dart-requires
put_dart-requires c = record {
  d_in = d_within _ _ _ _ _ c.requires.wired c.requires.some c.args.at_u c.args.at_v c.requires.corners;
  within = first_put _ _ _ _ _ c.requires.wired c.requires.some c.args.at_u c.args.at_v c.requires.corners;
}

pub put_dart-requires-2 : goal.put_dart-requires-2
put_dart-requires-2 c = record {
  d_in = twin_within _ _ _ _ _ c.requires.wired c.requires.some c.args.at_u c.args.at_v c.requires.corners _ _ c.put_dart.ensures;
  within = second_put _ _ _ _ _ c.requires.wired c.requires.some c.args.at_u c.args.at_v c.requires.corners _ _ c.put_dart.ensures;
}

pub returns : goal.returns
returns c = record {
  wired = wired_given _ _ _ _ _ c.requires.wired c.requires.some c.args.at_u c.args.at_v c.requires.corners _ _ c.put_dart.ensures _ _ c.put_dart-2.ensures;
  dart = dart_given _ _ _ _ _ c.requires.wired c.requires.some c.args.at_u c.args.at_v c.requires.corners _ _ c.put_dart.ensures _ _ c.put_dart-2.ensures;
  ids = ids_given _ _ _ _ _ c.requires.wired c.requires.some c.args.at_u c.args.at_v c.requires.corners _ _ c.put_dart.ensures _ _ c.put_dart-2.ensures;
}

pub bounds-darts-d : goal.bounds-darts-d
bounds-darts-d c = d_within _ _ _ _ _ c.requires.wired c.requires.some c.args.at_u c.args.at_v c.requires.corners
