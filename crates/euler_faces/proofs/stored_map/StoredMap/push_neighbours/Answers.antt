use Rattle.std.proofs.Common.{◌≡◌, ◌+◌, ◌<◌, true, length, get_or, set, refl, ap, ◌∙◌, inl, inr, arith, length-set}
use Rattle.std.proofs.lemmas.Bool.{cases_eq}
use Rattle.std.proofs.lemmas.List.{set-get_or}
use Rattle.map_lists.specs.Cuts.{cut}
use Rattle.map_lists.proofs.CutLemmas.{AreCuts-at}
use Rattle.euler_faces.specs.Numbers.{mark_at}
use Rattle.euler_faces.specs.Search.{marks_of}
use Rattle.euler_faces.proofs.SearchLemmas.{unmarked_below-set, marks-set, length-marks_of, met, unmet, IsNumbered-set, IsNumbered-chained, set-here, set-keeps, search-push, search-scratch, search-close, entry-dart, AllMarked-from_entries, components-step}
use Rattle.euler_faces.proofs.stored_map.StoredMap.push_neighbours.Goals as goal

pub offset_bounds-map-i : goal.offset_bounds-map-i
offset_bounds-map-i c =
    let at = AreCuts-at 0 c.args.self.now.ends.now (length c.args.self.now.entries.now) c.args.v c.facts.ensures.cuts c.requires.v_in in
    omega arith

pub bounds-map-i : goal.bounds-map-i
bounds-map-i c =
    let at = AreCuts-at 0 c.args.self.now.ends.now (length c.args.self.now.entries.now) c.args.v c.facts.ensures.cuts c.requires.v_in in
    omega arith

pub bounds-numbers-w : goal.bounds-numbers-w
bounds-numbers-w c =
    let dart = entry-dart c.args.self.now.ends.now c.args.self.now.entries.now c.facts.ensures.cuts c.args.v c.requires.v_in c.loop-i.i (omega (arith, c.start_of-i.ensures)) c.loop-i-test.true in
    omega (arith, c.facts.ensures.simple.in_range c.args.v _ dart, c.facts.ensures.vertices, c.loop-i.invariant.queued.marks)

pub bounds-numbers-w-in-loop-i : goal.bounds-numbers-w-in-loop-i
bounds-numbers-w-in-loop-i c =
    let dart = entry-dart c.args.self.now.ends.now c.args.self.now.entries.now c.facts.ensures.cuts c.args.v c.requires.v_in c.loop-i.i (omega (arith, c.start_of-i.ensures)) c.loop-i-test.true in
    omega (arith, c.facts.ensures.simple.in_range c.args.v _ dart, c.facts.ensures.vertices, c.loop-i.invariant.queued.marks)

pub bounds-queue-filled : goal.bounds-queue-filled
bounds-queue-filled c = let h = c.loop-i.invariant in omega (arith, h.queued.work, h.queued.room)

pub loop-i-preserved : goal.loop-i-preserved
loop-i-preserved c =
    let ends = c.args.self.now.ends.now in
    let entries = c.args.self.now.entries.now in
    let lists = cut 0 ends entries in
    let h = c.loop-i.invariant in
    let i = c.loop-i.i in
    let x = get_or entries i 0 in
    let dart = entry-dart ends entries c.facts.ensures.cuts c.args.v c.requires.v_in i (omega (arith, c.start_of-i.ensures)) c.loop-i-test.true in
    let w_in = c.facts.ensures.simple.in_range c.args.v x dart in
    let long = c.facts.ensures.vertices in
    let marks = h.queued.marks in
    let long-marks = length-marks_of 65535 c.loop-i.numbers in
    let in_marks : x < length (marks_of c.loop-i.numbers) = omega arith in
    let room : c.loop-i.filled < length c.loop-i.queue = omega (arith, h.queued.work, h.queued.room) in
    elim (cases_eq (get_or c.loop-i.numbers x 0) 65535) [
      | inl fresh ↦
          (let off = unmet 65535 c.loop-i.numbers x (omega arith) fresh in
          let e = marks-set 65535 c.loop-i.numbers x c.args.number c.requires.is_number in
          let fewer = unmarked_below-set (marks_of c.loop-i.numbers) x (length ends) (omega arith) in_marks off in
          rw (c.number_after.ensures.unmet fresh, c.met_anew-filled.ensures.one fresh) (record {
            queued = record {
              marks = length-set c.loop-i.numbers x c.args.number ∙ h.queued.marks;
              room = omega (arith, length-set c.loop-i.queue c.loop-i.filled x, h.queued.room);
              work = rw e (omega (arith, h.queued.work));
            };
            grows = omega (arith, h.grows);
            numbered = IsNumbered-chained 65535 _ _ _ _ h.numbered (IsNumbered-set 65535 c.loop-i.numbers x c.args.number c.requires.is_number (omega arith) off);
            done = rw e (λ k a b. elim (cases_eq k i) [
              | inl q ↦ ap (λ j. mark_at (set (marks_of c.loop-i.numbers) x true) (get_or entries j 0)) q ∙ set-here (marks_of c.loop-i.numbers) x in_marks
              | inr ne ↦ set-keeps (marks_of c.loop-i.numbers) x (get_or entries k 0) in_marks (h.done k a (omega arith))
            ]);
            search = rw e (λ old next start order together search.
                search-push lists old (marks_of c.loop-i.numbers) c.loop-i.queue next c.loop-i.filled start (λ y. y ≡ c.args.v) x _ (h.search old next start order together search)
                (omega (arith, h.grows)) room refl w_in in_marks (together ∙ components-step lists c.args.v x c.facts.ensures.simple dart));
          }))
      | inr known ↦
          (let same = c.number_after.ensures.met known in
          let none : c.loop-i.filled + c.met_anew-filled.result ≡ c.loop-i.filled = omega (arith, c.met_anew-filled.ensures.none known) in
          rw (same, set-get_or c.loop-i.numbers x 0, none) (record {
            queued = record {
              marks = h.queued.marks;
              room = omega (arith, length-set c.loop-i.queue c.loop-i.filled x, h.queued.room);
              work = h.queued.work;
            };
            grows = h.grows;
            numbered = h.numbered;
            done = λ k a b. elim (cases_eq k i) [
              | inl e ↦ ap (λ j. mark_at (marks_of c.loop-i.numbers) (get_or entries j 0)) e ∙ met 65535 c.loop-i.numbers x (omega arith) known
              | inr ne ↦ h.done k a (omega arith)
            ];
            search = λ old next start order together search.
                search-scratch lists old (marks_of c.loop-i.numbers) c.loop-i.queue next c.loop-i.filled start (λ y. y ≡ c.args.v) x (h.search old next start order together search);
          }))
    ]

pub returns-clause-search : goal.returns-clause-search
returns-clause-search c = λ old next start order together search.
    let ends = c.args.self.now.ends.now in
    let entries = c.args.self.now.entries.now in
    search-close (cut 0 ends entries) old (marks_of c.loop-i.numbers) c.loop-i.queue next c.loop-i.filled start c.args.v (c.loop-i.invariant.search old next start order together search)
    (AllMarked-from_entries ends entries c.facts.ensures.cuts c.args.v c.requires.v_in (marks_of c.loop-i.numbers) (λ i a b. c.loop-i.invariant.done i a (omega (arith, c.loop-i-test.false))))
