use Rattle.std.proofs.Common.{◌≡◌, ◌≢◌, ℕ, ◌+◌, ◌<◌, List, length, get_or, cond, ltb, set, ℤ, pos, refl, sym, ap, ◌∙◌, arith}
use Rattle.std.proofs.lemmas.Bool.{ltb-true}
use Rattle.std.proofs.lemmas.List.Elements.{Contains-get_or}
use Rattle.map_theory.specs.Maps.{list_of}
use Rattle.map_theory.proofs.DartCounts.{few_darts-simple}
use Rattle.map_theory.proofs.DartLemmas.{darts_before_end}
use Rattle.graph_search.specs.Arcs.{arcs_of}
use Rattle.bipolar.specs.FaceNumbers.{left_rows}
use Rattle.drawings.proofs.EdgeCounts.{edges_until-all}
use Rattle.bipolar.proofs.FaceAgree.{length-left_row}
use Rattle.visibility.proofs.StartLemmas.{below_more, one_most, columns_put, columns_long, start_in, IsFilledTo-more}
use Rattle.visibility.proofs.SpanLemmas.{IsSpan-more, IsLeastOf-span, IsGreatestOf-span, entry_in, entry_twin_in, entry_head, entry_read}
use Rattle.visibility.proofs.column_pass.Sides.put_row.Goals as goal

pub overflow_add-first : goal.overflow_add-first
overflow_add-first c =
    let lists = c.args.self.now.lists.now in
    let s = c.facts.ensures in
    let li : c.loop-i.i < length (list_of lists c.args.b) = omega (arith, c.loop-i-test.true, ap (λ (us : List ℕ). length us) c.list-list.ensures) in
    omega (arith, entry_in lists c.args.self.now.rank.now c.args.self.now.of.now c.args.self.now.twins.now c.args.self.now.numbers.now s c.args.b c.loop-i.i c.requires.vertex li, c.requires.first, few_darts-simple lists s.few s.simple)

pub bounds-self-a : goal.bounds-self-a
bounds-self-a c =
    let lists = c.args.self.now.lists.now in
    let s = c.facts.ensures in
    let li : c.loop-i.i < length (list_of lists c.args.b) = omega (arith, c.loop-i-test.true, ap (λ (us : List ℕ). length us) c.list-list.ensures) in
    omega (arith, entry_head lists c.args.self.now.rank.now c.args.self.now.of.now c.args.self.now.twins.now c.args.self.now.numbers.now s c.args.b c.loop-i.i c.requires.vertex li, s.ranks, ap (λ (us : List ℕ). get_or us c.loop-i.i 0) c.list-list.ensures)

pub left_number-x-requires-clause-dart : goal.left_number-x-requires-clause-dart
left_number-x-requires-clause-dart c =
    let lists = c.args.self.now.lists.now in
    let s = c.facts.ensures in
    let li : c.loop-i.i < length (list_of lists c.args.b) = omega (arith, c.loop-i-test.true, ap (λ (us : List ℕ). length us) c.list-list.ensures) in
    omega (arith, entry_in lists c.args.self.now.rank.now c.args.self.now.of.now c.args.self.now.twins.now c.args.self.now.numbers.now s c.args.b c.loop-i.i c.requires.vertex li, c.requires.first, s.faces)

pub left_number-x-requires-clause-twin : goal.left_number-x-requires-clause-twin
left_number-x-requires-clause-twin c =
    let lists = c.args.self.now.lists.now in
    let s = c.facts.ensures in
    let li : c.loop-i.i < length (list_of lists c.args.b) = omega (arith, c.loop-i-test.true, ap (λ (us : List ℕ). length us) c.list-list.ensures) in
    omega (arith, entry_twin_in lists c.args.self.now.rank.now c.args.self.now.of.now c.args.self.now.twins.now c.args.self.now.numbers.now s c.args.b c.loop-i.i c.requires.vertex li, ap (λ k. get_or c.args.self.now.twins.now (k + c.loop-i.i) 0) c.requires.first, s.faces)

pub put_if-down-requires-clause-vertex : goal.put_if-down-requires-clause-vertex
put_if-down-requires-clause-vertex c =
    let lists = c.args.self.now.lists.now in
    let s = c.facts.ensures in
    let li : c.loop-i.i < length (list_of lists c.args.b) = omega (arith, c.loop-i-test.true, ap (λ (us : List ℕ). length us) c.list-list.ensures) in
    omega (arith, entry_head lists c.args.self.now.rank.now c.args.self.now.of.now c.args.self.now.twins.now c.args.self.now.numbers.now s c.args.b c.loop-i.i c.requires.vertex li, c.loop-i.invariant.filled.filled.vertices, ap (λ (us : List ℕ). get_or us c.loop-i.i 0) c.list-list.ensures)

pub put_if-down-requires-clause-spare : goal.put_if-down-requires-clause-spare
put_if-down-requires-clause-spare c = let w = c.loop-i.invariant.filled in omega (arith, columns_long c.loop-i.columns w.numbers w.spare w.are)

pub put_if-down-requires-clause-place : goal.put_if-down-requires-clause-place
put_if-down-requires-clause-place c = λ l.
    let lists = c.args.self.now.lists.now in
    let s = c.facts.ensures in
    let rows = left_rows lists c.args.self.now.rank.now c.args.self.now.of.now c.args.self.now.numbers.now in
    let i = c.loop-i.i in
    let w = c.loop-i.invariant.filled in
    let li : i < length (list_of lists c.args.b) = omega (arith, c.loop-i-test.true, ap (λ (us : List ℕ). length us) c.list-list.ensures) in
    let same : get_or c.list-list.result.now i 0 ≡ get_or (list_of lists c.args.b) i 0 = ap (λ (us : List ℕ). get_or us i 0) c.list-list.ensures in
    let long = columns_long c.loop-i.columns w.numbers w.spare w.are in
    omega (arith, start_in lists rows s.simple c.args.b i c.loop-i.starts w.numbers c.requires.vertex li w.filled (omega (arith, l, same)), ap (λ z. get_or c.loop-i.starts z 0) same, long)

pub put_if-down-requires-clause-low : goal.put_if-down-requires-clause-low
put_if-down-requires-clause-low c =
    let lists = c.args.self.now.lists.now in
    let s = c.facts.ensures in
    let i = c.loop-i.i in
    let li : i < length (list_of lists c.args.b) = omega (arith, c.loop-i-test.true, ap (λ (us : List ℕ). length us) c.list-list.ensures) in
    let is = entry_read lists c.args.self.now.rank.now c.args.self.now.of.now c.args.self.now.twins.now c.args.self.now.numbers.now s c.args.b i c.requires.vertex li c.args.first c.requires.first c.list-list.result.now c.list-list.ensures c.left_number-x.result c.left_number-x.ensures in
    omega (arith, s.low c.args.b i, is)

pub overflow_add-down : goal.overflow_add-down
overflow_add-down c =
    let lists = c.args.self.now.lists.now in
    let s = c.facts.ensures in
    let li : c.loop-i.i < length (list_of lists c.args.b) = omega (arith, c.loop-i-test.true, ap (λ (us : List ℕ). length us) c.list-list.ensures) in
    omega (arith, c.loop-i.invariant.few, c.put_if-down.ensures.count, one_most (ltb (get_or c.list-list.result.now c.loop-i.i 0) c.args.b), entry_in lists c.args.self.now.rank.now c.args.self.now.of.now c.args.self.now.twins.now c.args.self.now.numbers.now s c.args.b c.loop-i.i c.requires.vertex li, few_darts-simple lists s.few s.simple)

pub loop-i-preserved : goal.loop-i-preserved
loop-i-preserved c =
    let lists = c.args.self.now.lists.now in
    let s = c.facts.ensures in
    let rank = c.args.self.now.rank.now in
    let of = c.args.self.now.of.now in
    let twins = c.args.self.now.twins.now in
    let numbers = c.args.self.now.numbers.now in
    let rows = left_rows lists rank of numbers in
    let b = c.args.b in
    let i = c.loop-i.i in
    let h = c.loop-i.invariant in
    let list = c.list-list.result.now in
    let x = c.left_number-x.result in
    let li : i < length (list_of lists b) = omega (arith, c.loop-i-test.true, ap (λ (us : List ℕ). length us) c.list-list.ensures) in
    let is = entry_read lists rank of twins numbers s b i c.requires.vertex li c.args.first c.requires.first list c.list-list.ensures x c.left_number-x.ensures in
    let within = entry_head lists rank of twins numbers s b i c.requires.vertex li in
    let same : get_or list i 0 ≡ get_or (list_of lists b) i 0 = ap (λ (us : List ℕ). get_or us i 0) c.list-list.ensures in
    let apart : get_or (list_of lists b) i 0 ≢ b = λ e. s.simple.no_loop b (get_or (list_of lists b) i 0) (c.requires.vertex, Contains-get_or (list_of lists b) i 0 li) e in
    let w = h.filled in
    let here : ℕ = get_or list i 0 in
    let place : ℕ = get_or c.loop-i.starts here 0 in
    let now : List ℕ = cond (ltb here b) (set w.numbers place x) w.numbers in
    let one : ℕ = cond (ltb here b) 1 0 in
    record {
      few = omega (arith, h.few, c.put_if-down.ensures.count, one_most (ltb here b));
      count = omega (arith, c.put_if-down.ensures.count, below_more (list_of lists b) b (length lists) i c.loop-i.down one li within apart (ap (λ (z : ℕ). cond {A = ℕ} (ltb z b) 1 0) same) h.count);
      filled = record {
        numbers = now;
        spare = cond (ltb here b) w.spare (pos x);
        are = columns_put (ltb here b) c.loop-i.columns c.put_if-down.new.columns w.numbers w.spare place x w.are
            (λ t. let less = ltb-true here b t in omega (arith, start_in lists rows s.simple b i c.loop-i.starts w.numbers c.requires.vertex li w.filled (omega (arith, less, same)), ap (λ z. get_or c.loop-i.starts z 0) same)) c.put_if-down.ensures.columns;
        filled = IsFilledTo-more lists rows s.simple b i c.loop-i.starts w.numbers c.requires.vertex li w.filled list (arcs_of rows b) c.put_if-down.new.starts now c.list-list.ensures refl
            (ap (λ z. cond (ltb here b) (set w.numbers place z) w.numbers) (sym is)) c.put_if-down.ensures.starts;
      };
      span = IsSpan-more (arcs_of rows b) i c.loop-i.least c.loop-i.greatest x c.lesser-least.result c.greater-greatest.result h.span is c.lesser-least.ensures.fits c.lesser-least.ensures.below c.lesser-least.ensures.below_other c.lesser-least.ensures.one c.greater-greatest.ensures.above c.greater-greatest.ensures.above_other c.greater-greatest.ensures.one;
    }

pub returns-clause-least : goal.returns-clause-least
returns-clause-least c =
    let lists = c.args.self.now.lists.now in
    let s = c.facts.ensures in
    let row = arcs_of (left_rows lists c.args.self.now.rank.now c.args.self.now.of.now c.args.self.now.numbers.now) c.args.b in
    let long = length-left_row lists c.args.self.now.rank.now c.args.self.now.of.now c.args.self.now.numbers.now c.args.b in
    let e : c.loop-i.i ≡ length row = omega (arith, c.loop-i-test.false, c.loop-i.auto.i-end, ap (λ (us : List ℕ). length us) c.list-list.ensures, long) in
    IsLeastOf-span row c.loop-i.i c.loop-i.least c.loop-i.greatest e (omega (arith, long, s.some c.args.b c.requires.vertex)) c.loop-i.invariant.span

pub returns-clause-greatest : goal.returns-clause-greatest
returns-clause-greatest c =
    let lists = c.args.self.now.lists.now in
    let s = c.facts.ensures in
    let row = arcs_of (left_rows lists c.args.self.now.rank.now c.args.self.now.of.now c.args.self.now.numbers.now) c.args.b in
    let long = length-left_row lists c.args.self.now.rank.now c.args.self.now.of.now c.args.self.now.numbers.now c.args.b in
    let e : c.loop-i.i ≡ length row = omega (arith, c.loop-i-test.false, c.loop-i.auto.i-end, ap (λ (us : List ℕ). length us) c.list-list.ensures, long) in
    IsGreatestOf-span row c.loop-i.i c.loop-i.least c.loop-i.greatest e (omega (arith, long, s.some c.args.b c.requires.vertex)) c.loop-i.invariant.span

pub returns-clause-up : goal.returns-clause-up
returns-clause-up c =
    let lists = c.args.self.now.lists.now in
    let e : c.loop-i.i ≡ length (list_of lists c.args.b) = omega (arith, c.loop-i-test.false, c.loop-i.auto.i-end, ap (λ (us : List ℕ). length us) c.list-list.ensures) in
    let up = edges_until-all lists c.args.b (length lists) c.loop-i.i _ e refl in
    omega (arith, up, c.loop-i.invariant.count, e, ap (λ (us : List ℕ). length us) c.list-list.ensures)

pub overflow_add-result : goal.overflow_add-result
overflow_add-result c =
    let lists = c.args.self.now.lists.now in
    let s = c.facts.ensures in
    omega (arith, darts_before_end lists c.args.b, few_darts-simple lists s.few s.simple, c.requires.first, ap (λ (us : List ℕ). length us) c.list-list.ensures)
