use Rattle.std.proofs.Common.{◌≡◌, ℕ, ◌/◌, ℤ, List, length, take, sym, ap, ap₂, ◌∙◌, subst}
use Rattle.std.proofs.lemmas.List.{take_at}
use Rattle.map_theory.specs.Maps.{edge_count}
use Rattle.bipolar.specs.FaceNumbers.{left_rows}
use Rattle.visibility.specs.Spans.{ArePutColumns}
use Rattle.visibility.specs.Ends.{IsLeastOf, IsGreatestOf, AreEnds}
use Rattle.visibility.proofs.column_pass.SpanTables.fill.Goals as goal

pub returns : goal.returns
returns c =
    let s = c.args.sides.now in
    let rows = left_rows s.lists.now s.rank.now s.of.now s.numbers.now in
    let new = c.put_rows.new.columns in
    let len : length new ≡ c.zeros.new.table.len = c.put_rows.auto.columns ∙ c.deref_mut-2.ensures.len in
    let edges : length s.twins.now / 2 ≡ edge_count s.lists.now = ap (λ (n : ℕ). n / 2) c.facts.ensures.twin_count in
    let left : length c.put_rows.new.x1 ≡ c.size_ends.new.table.len = c.put_rows.auto.x1 ∙ c.deref_mut-3.ensures.len in
    let right : length c.put_rows.new.x2 ≡ c.size_ends-2.new.table.len = c.put_rows.auto.x2 ∙ c.deref_mut-4.ensures.len in
    record {
      are_columns = subst (λ (xs : List ℤ). ArePutColumns s.lists.now rows xs) (sym (c.truncate.ensures.items ∙ ap₂ (λ (n : ℕ) (xs : List ℤ). take n xs) edges (take_at new _ c.zeros.new.table.len len))) c.put_rows.ensures.columns;
      left = subst (λ (xs : List ℤ). AreEnds rows IsLeastOf xs) (sym (take_at c.put_rows.new.x1 _ c.size_ends.new.table.len left)) c.put_rows.ensures.left;
      right = subst (λ (xs : List ℤ). AreEnds rows IsGreatestOf xs) (sym (take_at c.put_rows.new.x2 _ c.size_ends-2.new.table.len right)) c.put_rows.ensures.right;
    }
