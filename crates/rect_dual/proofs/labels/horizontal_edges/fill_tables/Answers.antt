use Rattle.std.proofs.Common.{◌≡◌, ◌<◌, ◌≤◌, ◌+◌, ℕ, List, length, get_or, slice_index, set, length-set, take, All, sym, ap, ◌∙◌, subst, arith}
use Rattle.std.proofs.lemmas.List.Elements.{All-take}
use Rattle.map_theory.specs.Maps.{list_of}
use Rattle.rect_dual.specs.Sides.{IsWritten}
use Rattle.rect_dual.proofs.Pieces.{IsWritten-front}
use Rattle.rect_dual.proofs.TableLemmas.{AreFirsts-more, AreLefts-more}
use Rattle.rect_dual.proofs.labels.horizontal_edges.fill_tables.Goals as goal

pub bounds-row-0 : goal.bounds-row-0
bounds-row-0 c =
    let t = c.args.turned.now in
    let l : c.loop-k.k < length t.rows.now = omega (arith, c.loop-k-test.true, c.len-k-end.ensures.is) in
    omega (arith, t.turns c.loop-k.k l, ap length c.list-row.ensures)

pub split_at-requires : goal.split_at-requires
split_at-requires c =
    let t = c.args.turned.now in
    let l : c.loop-k.k < length t.rows.now = omega (arith, c.loop-k-test.true, c.len-k-end.ensures.is) in
    omega (arith, t.turns c.loop-k.k l, ap length c.list-row.ensures)

pub put_side-requires : goal.put_side-requires
put_side-requires c =
    let t = c.args.turned.now in
    let l : c.loop-k.k < length t.rows.now = omega (arith, c.loop-k-test.true, c.len-k-end.ensures.is) in
    let turn : ℕ = slice_index t.places.now c.loop-k.k in
    subst (λ (us : List ℕ). All (λ u. u < length c.loop-k.left) us) (sym (c.split_at.ensures.front ∙ ap (take (turn + 1)) c.list-row.ensures))
    (All-take (λ u. u < length c.loop-k.left) (turn + 1) (list_of t.rows.now c.loop-k.k) (λ i d m. omega (arith, t.within c.loop-k.k l i d m, c.loop-k.invariant.left_size)))

pub loop-k-preserved : goal.loop-k-preserved
loop-k-preserved c =
    let h = c.loop-k.invariant in
    let t = c.args.turned.now in
    let rows = t.rows.now in
    let places = t.places.now in
    let k : ℕ = c.loop-k.k in
    let row = list_of rows k in
    let l : k < length rows = omega (arith, c.loop-k-test.true, c.len-k-end.ensures.is) in
    let short : get_or places k 0 + 1 ≤ length row = omega (arith, t.turns k l) in
    let left = c.put_side.new.sides in
    let first_is : set c.loop-k.first (k + 2) (get_or c.list-row.result.now 0 0) ≡ set c.loop-k.first (k + 2) (get_or row 0 0) = ap (λ (us : List ℕ). set c.loop-k.first (k + 2) (get_or us 0 0)) c.list-row.ensures in
    let left_is : IsWritten c.loop-k.left left row 0 (get_or places k 0 + 1) (k + 2) =
    IsWritten-front c.loop-k.left left row (get_or places k 0 + 1) (k + 2) short (subst (λ (us : List ℕ). IsWritten c.loop-k.left left us 0 (length us) (k + 2)) (c.split_at.ensures.front ∙ ap (take (get_or places k 0 + 1)) c.list-row.ensures) c.put_side.ensures) in
    record {
      first_size = length-set c.loop-k.first (k + 2) _ ∙ h.first_size;
      left_size = c.put_side.auto.sides ∙ h.left_size;
      firsts = AreFirsts-more rows k c.loop-k.first _ h.firsts first_is (omega (arith, l, h.first_size));
      lefts = AreLefts-more rows places k c.loop-k.left left h.lefts left_is;
    }
