use Rattle.std.proofs.Common.{◌+◌, ◌-◌, get_or, sym, ◌∙◌, arith, length}
use Rattle.std.proofs.lemmas.List.{length-set}
use Rattle.convex_draw.specs.declared.convex_points.spots.Spot.{Spot}
use Rattle.convex_draw.proofs.Written.{news_within, news_distinct, z_is, q_in, z_in, rise_part, rise_room, fall_room, IsWritten-put}
use Rattle.convex_draw.proofs.convex_points.spots.put_over.Goals as goal

pub settle-requires : goal.settle-requires
settle-requires c =
    let w = c.requires.put in
    record { put = (w.0, c.args.news.now, w.1, sym (z_is w.0 c.args.spots.now c.args.row.now c.args.cuts.now c.args.news.now w.1), c.total_fall-fall.ensures w.0 w.1.over) }

pub bounds-spots-q : goal.bounds-spots-q
bounds-spots-q c =
    let w = c.requires.put in
    let same = c.settle.auto.spots in
    let q = q_in w.0 c.args.spots.now c.args.row.now c.args.cuts.now c.args.news.now w.1 in omega arith

pub overflow_add-rise : goal.overflow_add-rise
overflow_add-rise c =
    let w = c.requires.put in
    let same = c.settle.auto.spots in
    let room = rise_part w.0 c.args.spots.now c.args.row.now c.args.cuts.now c.args.news.now w.1 c.settle.result c.settle.new.spots (c.settle.ensures w.0 c.args.news.now w.1 (sym (z_is w.0 c.args.spots.now c.args.row.now c.args.cuts.now c.args.news.now w.1)) (c.total_fall-fall.ensures w.0 w.1.over)) in omega arith

pub link-requires-clause-within : goal.link-requires-clause-within
link-requires-clause-within c =
    let w = c.requires.put in
    let same = c.settle.auto.spots in
    news_within w.0 c.args.spots.now c.args.row.now c.args.cuts.now c.args.news.now w.1 (length c.settle.new.spots) same

pub link-requires-clause-distinct : goal.link-requires-clause-distinct
link-requires-clause-distinct c =
    let w = c.requires.put in
    let same = c.settle.auto.spots in
    news_distinct w.0 c.args.spots.now c.args.row.now c.args.cuts.now c.args.news.now w.1

pub overflow_add-spots : goal.overflow_add-spots
overflow_add-spots c =
    let w = c.requires.put in
    let same = c.settle.auto.spots in
    let same' = c.link.auto.spots ∙ same in
    let n = w.1.cuts_are.long in
    let room = fall_room w.0 c.args.spots.now c.args.row.now c.args.cuts.now c.args.news.now w.1 c.settle.result c.total_fall-fall.result c.settle.new.spots c.link.new.spots (c.total_fall-fall.ensures w.0 w.1.over) (c.settle.ensures w.0 c.args.news.now w.1 (sym (z_is w.0 c.args.spots.now c.args.row.now c.args.cuts.now c.args.news.now w.1)) (c.total_fall-fall.ensures w.0 w.1.over)) c.link.ensures same same' in omega arith

pub bounds-spots-z : goal.bounds-spots-z
bounds-spots-z c =
    let w = c.requires.put in
    let same = c.settle.auto.spots in
    let same' = c.link.auto.spots in
    let z = z_in w.0 c.args.spots.now c.args.row.now c.args.cuts.now c.args.news.now w.1 in omega arith

pub overflow_add-spots-2 : goal.overflow_add-spots-2
overflow_add-spots-2 c =
    let w = c.requires.put in
    let same = c.settle.auto.spots in
    let same' = c.link.auto.spots ∙ same in
    let n = w.1.cuts_are.long in
    let room = rise_room w.0 c.args.spots.now c.args.row.now c.args.cuts.now c.args.news.now w.1 c.settle.result c.total_fall-fall.result c.settle.new.spots c.link.new.spots (c.total_fall-fall.ensures w.0 w.1.over) (c.settle.ensures w.0 c.args.news.now w.1 (sym (z_is w.0 c.args.spots.now c.args.row.now c.args.cuts.now c.args.news.now w.1)) (c.total_fall-fall.ensures w.0 w.1.over)) c.link.ensures same same' in omega arith

pub bounds-spots-q-2 : goal.bounds-spots-q-2
bounds-spots-q-2 c =
    let w = c.requires.put in
    let same = c.settle.auto.spots in
    let same' = c.link.auto.spots in
    let q = q_in w.0 c.args.spots.now c.args.row.now c.args.cuts.now c.args.news.now w.1 in
    let first : Spot = record { one = c.total_fall-fall.result + (length c.args.cuts.now - 1); two = 0; over = get_or c.args.row.now 0 0 } in
    omega (arith, length-set c.link.new.spots (get_or c.args.news.now 0 0) first)

pub returns : goal.returns
returns c = λ w put.
    let same = c.settle.auto.spots in
    let same' = c.link.auto.spots ∙ same in
    let fall = c.total_fall-fall.ensures w put.over in
    IsWritten-put w c.args.spots.now c.args.row.now c.args.cuts.now c.args.news.now put c.settle.result c.total_fall-fall.result c.settle.new.spots c.link.new.spots fall (c.settle.ensures w c.args.news.now put (sym (z_is w c.args.spots.now c.args.row.now c.args.cuts.now c.args.news.now put)) fall) c.link.ensures same same'
