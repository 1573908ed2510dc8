use Rattle.std.proofs.Common.{get_or, sym, ap, ◌∙◌, arith}
use Rattle.plane_drawings.proofs.FreshLemmas.{head-is}
use Rattle.std.proofs.lemmas.Option.{get_or_from_slice_get}
use Rattle.fpp_shift.proofs.DartLemmas.{head-within}
use Rattle.fpp_shift.proofs.shift_trees.attachment_intervals.OrderedMap.head_rank.Goals as goal

pub get-requires : goal.get-requires
get-requires c =
    let l = head-within c.args.self.now.map.now c.args.d.0 c.head.result.0 c.args.self.now.map.now.known c.requires c.head.ensures in
    omega (arith, c.args.self.now.ranked)

pub returns : goal.returns
returns c = λ v u is.
    let ranks = c.args.self.now.ranks.now in
    let same = head-is c.args.self.now.map.now c.args.d.0 v u c.head.result.0 is c.head.ensures in
    sym (get_or_from_slice_get ranks c.head.result.0 c.get.result 0 c.get.ensures) ∙ ap (λ u. get_or ranks u 0) (sym same)
