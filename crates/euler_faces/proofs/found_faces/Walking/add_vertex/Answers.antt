use Rattle.euler_faces.proofs.NumberLemmas.{round-dart, round-ends, round-number, round-less, none_at}
use Rattle.euler_faces.proofs.found_faces.Walking.add_vertex.Goals as goal

pub returns-in_default : goal.returns-in_default
returns-in_default c = rw (none_at c.args.self.now.map.now c.args.v.0 c.in_default.ensures.dart) c.requires.walking

pub returns-then-d-first : goal.returns-then-d-first
returns-then-d-first c =
    rw (round-ends c.args.self.now.map.now c.args.self.now.map.now.known c.round.d.0 c.next-d.result.0 c.in-Some.first.0 c.args.v.0 c.round.invariant.dart c.next-d.ensures c.in-Some.ensures.dart c.if-d-first.true) at c.in_ok-add_dart.ensures

pub round-smaller : goal.round-smaller
round-smaller c =
    round-less c.args.self.now.map.now c.args.self.now.map.now.known c.round.d.0 c.next-d.result.0 c.in-Some.first.0 c.args.v.0 c.round.invariant.dart c.next-d.ensures c.in-Some.ensures.dart c.if-d-first.false

pub round-preserved : goal.round-preserved
round-preserved c = record {
  dart = round-dart c.args.self.now.map.now c.args.self.now.map.now.known c.round.d.0 c.next-d.result.0 c.in-Some.first.0 c.args.v.0 c.round.invariant.dart c.next-d.ensures c.in-Some.ensures.dart;
  walking =
      rw (round-number c.args.self.now.map.now c.args.self.now.map.now.known c.round.d.0 c.next-d.result.0 c.in-Some.first.0 c.args.v.0 c.round.invariant.dart c.next-d.ensures c.in-Some.ensures.dart c.if-d-first.false) c.in_ok-add_dart.ensures;
}
