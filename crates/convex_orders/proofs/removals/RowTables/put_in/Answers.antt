use Rattle.std.proofs.Common.{◌≡◌, ◌+◌, ◌-◌, ℕ, List, [], ◌∷◌, ◌++◌, length, ap, ◌∙◌, arith, rules}
use Rattle.std.specs.Prelude.{slice_range}
use Rattle.convex_orders.proofs.removals.RowTables.put_in.Goals as goal

pub returns-clause-row : goal.returns-clause-row
returns-clause-row c = λ count cut are.
    let s = c.args.self.now in
    let left = s.contour.left.items in
    let first = c.args.first in
    let long : c.len-last.result ≡ length left = omega (arith, c.len-last.ensures) in
    let put = c.in_ok-push_row.ensures in
    let row = c.part-row.ensures ∙ (ap (λ (z : List ℕ). slice_range z first (c.len-last.result - 1 + 1)) c.deref-4.ensures.value ∙ ap (λ (n : ℕ). slice_range left first (n - 1 + 1)) long) in
    record {
      cuts = c.put_cuts.new.row.items;
      cut_row = c.in_ok-put_cuts.ensures count cut (search rules);
      rows_are = put.0 ∙ ap (λ (z : List ℕ). s.rows.rows ++ z ∷ []) row;
      cuts_are = put.1 ∙ ap (λ (z : List ℕ). s.rows.cuts ++ z ∷ []) c.deref-5.ensures.value;
      news_are = put.2;
    }
