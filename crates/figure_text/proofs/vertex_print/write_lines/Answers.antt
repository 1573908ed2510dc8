use Rattle.std.proofs.Common.{◌≡◌, ◌-◌, [], length, drop, get_or, ap, ◌∙◌, refl, arith, append-nil}
use Rattle.std.proofs.lemmas.List.{drop_all}
use Rattle.std.proofs.lemmas.List.Sums.{sum_by-take-le}
use Rattle.figure_text.proofs.BackwardLemmas.{room_back, fronts_back, lines_back, lines_whole}
use Rattle.figure_text.proofs.vertex_print.write_lines.Goals as goal

pub loop-k-init : goal.loop-k-init
loop-k-init g c =
    let all : length c.args.lists.now - 0 ≡ length c.args.lists.now = omega arith in
    record {
      long = omega arith;
      within = omega arith;
      room = rw all (omega (arith, sum_by-take-le length c.args.lists.now (length c.args.lists.now)));
      written = rw (drop_all (length c.args.bytes.now) c.args.bytes.now (omega arith), append-nil, all) refl;
    }

pub write_line-start-requires : goal.write_line-start-requires
write_line-start-requires g c =
    let more = room_back c.args.lists.now c.loop-k.k (omega arith) in
    let fronts = fronts_back g.R.Numbered.longest (length c.args.lists.now) c.loop-k.k (omega arith) in
    let is = ap length (c.list.ensures ∙ ap (λ n. get_or c.args.lists.now (n - 1 - c.loop-k.k) []) c.len.ensures.is) in
    let room = c.loop-k.invariant.room in
    record {
      has = c.requires.has _ (omega arith);
      room = omega (arith, more, fronts, is, room);
      end = omega arith;
    }

pub loop-k-preserved : goal.loop-k-preserved
loop-k-preserved g c =
    let w = c.write_line-start in
    let more = room_back c.args.lists.now c.loop-k.k (omega arith) in
    let fronts = fronts_back g.R.Numbered.longest (length c.args.lists.now) c.loop-k.k (omega arith) in
    let is = ap length (c.list.ensures ∙ ap (λ n. get_or c.args.lists.now (n - 1 - c.loop-k.k) []) c.len.ensures.is) in
    let room = c.loop-k.invariant.room in
    record {
      long = omega arith;
      within = omega arith;
      room = omega (arith, more, fronts, is, room);
      written = lines_back g.R.Numbered.pieces (g.R.Numbered.numbers c.args.figure.now) c.args.lists.now c.loop-k.k (drop w.result w.new.bytes) (drop c.loop-k.start c.loop-k.bytes) _ (omega arith) (rw (w.ensures.written, c.list.ensures, c.len.ensures.is) refl) c.loop-k.invariant.written;
    }

pub returns-clause-written : goal.returns-clause-written
returns-clause-written g c = lines_whole g.R.Numbered.pieces (g.R.Numbered.numbers c.args.figure.now) c.args.lists.now c.loop-k.k (drop c.loop-k.start c.loop-k.bytes) _ (omega arith) c.loop-k.invariant.written
