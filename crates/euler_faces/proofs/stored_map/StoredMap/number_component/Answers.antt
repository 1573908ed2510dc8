use Rattle.std.proofs.Common.{◌+◌, ◌<◌, length, refl, ◌∙◌, arith, length-set}
use Rattle.map_lists.specs.Cuts.{cut}
use Rattle.euler_faces.specs.Search.{marks_of, None_open}
use Rattle.euler_faces.proofs.SearchLemmas.{unmarked_below-set, marks-set, length-marks_of, IsNumbered-set, IsNumbered-chained, all_marked, set-here, search-start, search-push, search-pop, search-top, search-full, search-all}
use Rattle.euler_faces.proofs.stored_map.StoredMap.number_component.Goals as goal

pub bounds-queue-filled : goal.bounds-queue-filled
bounds-queue-filled c =
    let long-marks = length-marks_of 65535 c.args.numbers.now in
    let fewer = unmarked_below-set (marks_of c.args.numbers.now) c.args.start (length c.args.self.now.ends.now) c.requires.start_in (omega (arith, c.requires.queued.marks, c.requires.start_in)) c.requires.unmarked in
    omega (arith, c.requires.queued.work, c.requires.queued.room)

pub loop-next-init : goal.loop-next-init
loop-next-init c =
    let ends = c.args.self.now.ends.now in
    let entries = c.args.self.now.entries.now in
    let lists = cut 0 ends entries in
    let long = c.facts.ensures.vertices in
    let l = c.requires.start_in in
    let marks = c.requires.queued.marks in
    let long-marks = length-marks_of 65535 c.args.numbers.now in
    let in_marks : c.args.start < length (marks_of c.args.numbers.now) = omega arith in
    let e = marks-set 65535 c.args.numbers.now c.args.start c.args.number c.requires.is_number in
    let fewer = unmarked_below-set (marks_of c.args.numbers.now) c.args.start (length ends) l in_marks c.requires.unmarked in
    record {
      queued = record {
        marks = length-set c.args.numbers.now c.args.start c.args.number ∙ marks;
        room = omega (arith, length-set c.args.queue.now c.args.filled c.args.start, c.requires.queued.room);
        work = rw e (omega (arith, c.requires.queued.work));
      };
      order = omega arith;
      begun = rw e (set-here (marks_of c.args.numbers.now) c.args.start in_marks);
      search = rw e (search-push lists (marks_of c.args.numbers.now) (marks_of c.args.numbers.now) c.args.queue.now c.args.filled c.args.filled c.args.start None_open c.args.start _
          (search-start lists (marks_of c.args.numbers.now) c.args.queue.now c.args.filled c.args.start (λ u m t. c.requires.kept u (omega (arith, m)) t))
          (omega arith) (omega (arith, c.requires.queued.work, c.requires.queued.room)) refl (omega arith) in_marks refl);
      numbered = IsNumbered-set 65535 c.args.numbers.now c.args.start c.args.number c.requires.is_number (omega arith) c.requires.unmarked;
    }

pub returns-then-filled-self-clause-marked : goal.returns-then-filled-self-clause-marked
returns-then-filled-self-clause-marked c = λ i l.
    let ends = c.args.self.now.ends.now in
    let lists = cut 0 ends c.args.self.now.entries.now in
    let long = c.facts.ensures.vertices in
    let h = c.loop-next.invariant in
    let same = c.if-filled-self.true in
    search-full lists (marks_of c.args.numbers.now) (marks_of c.loop-next.numbers) c.loop-next.queue c.loop-next.next c.loop-next.filled c.args.start None_open h.search
    (λ u m. all_marked (marks_of c.loop-next.numbers) (length ends) u (omega (arith, h.queued.work)) (omega arith) (omega (arith, h.queued.marks, length-marks_of 65535 c.loop-next.numbers))) i (omega arith)

pub push_neighbours-filled-requires-clause-v_in : goal.push_neighbours-filled-requires-clause-v_in
push_neighbours-filled-requires-clause-v_in c =
    let lists = cut 0 c.args.self.now.ends.now c.args.self.now.entries.now in
    let long = c.facts.ensures.vertices in
    let top = search-top lists (marks_of c.args.numbers.now) (marks_of c.loop-next.numbers) c.loop-next.queue c.loop-next.next c.loop-next.filled c.args.start c.loop-next-test.true c.loop-next.invariant.search in
    omega (arith, top.0)

pub loop-next-preserved : goal.loop-next-preserved
loop-next-preserved c =
    let lists = cut 0 c.args.self.now.ends.now c.args.self.now.entries.now in
    let h = c.loop-next.invariant in
    let top = search-top lists (marks_of c.args.numbers.now) (marks_of c.loop-next.numbers) c.loop-next.queue c.loop-next.next c.loop-next.filled c.args.start c.loop-next-test.true h.search in
    record {
      queued = c.push_neighbours-filled.ensures.queued;
      order = omega (arith, c.push_neighbours-filled.ensures.grows, c.loop-next-test.true);
      begun = c.push_neighbours-filled.ensures.numbered.marked c.args.start h.begun;
      numbered = IsNumbered-chained 65535 _ _ _ _ h.numbered c.push_neighbours-filled.ensures.numbered;
      search = c.push_neighbours-filled.ensures.search (marks_of c.args.numbers.now) (c.loop-next.next + 1) c.args.start (omega (arith, c.loop-next-test.true)) top.1
          (search-pop lists (marks_of c.args.numbers.now) (marks_of c.loop-next.numbers) c.loop-next.queue c.loop-next.next c.loop-next.filled c.args.start (c.loop-next.next + 1) refl h.search);
    }

pub returns-clause-marked : goal.returns-clause-marked
returns-clause-marked c = λ i l.
    let lists = cut 0 c.args.self.now.ends.now c.args.self.now.entries.now in
    let long = c.facts.ensures.vertices in
    let h = c.loop-next.invariant in
    let start = c.requires.start_in in
    search-all lists (marks_of c.args.numbers.now) (marks_of c.loop-next.numbers) c.loop-next.queue c.loop-next.next c.loop-next.filled c.args.start c.facts.ensures.simple h.search c.loop-next-test.false (omega arith) h.begun i (omega arith)
