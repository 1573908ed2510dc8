use Rattle.std.proofs.Common.{rules, arith}
use Rattle.vertex_rounds.proofs.FirstLemmas.{least_pair}
use Rattle.rect_class.specs.Loops.{IsLargeDart}
use Rattle.rect_class.proofs.InnerLemmas.{MatchOption-large}
use Rattle.rect_class.proofs.large_faces.first_large.Goals as goal

pub returns : goal.returns
returns c =
    let lists = c.args.map.now.lists in
    let four = c.args.four in
    MatchOption-large lists four.top.0 four.right.0 four.bottom.0 c.first_dart.result c.args.map.now.known.simple c.requires
    (least_pair c.args.map.now c.args.map.now.known _ (IsLargeDart lists four.top.0 four.right.0 four.bottom.0) 0 c.first_dart.result c.first_dart.ensures
    (λ d live late r s. search rules) (λ v u x. (omega arith, x.dart)))
