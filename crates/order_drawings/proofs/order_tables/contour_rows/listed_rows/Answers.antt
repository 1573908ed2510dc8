use Rattle.std.proofs.Common.{◌≡◌, ◌+◌, ◌<◌, ℕ, List, [], ◌∷◌, ◌++◌, length, map, slice_index, sym, ap, ◌∙◌, subst, arith, length-append}
use Rattle.std.proofs.lemmas.List.{get_or-map}
use Rattle.std.proofs.lemmas.Option.{get_or_from_slice_get}
use Rattle.map_lists.specs.Cuts.{cut}
use Rattle.map_lists.proofs.CutLemmas.{length-cut, pushed, IsStored-cut, IsStored-cuts}
use Rattle.map_theory.specs.Maps.{list_of}
use Rattle.order_drawings.specs.Rows.{IsRowIn, AreRanked}
use Rattle.order_drawings.proofs.RowLemmas.{AreRanked-more}
use Rattle.order_drawings.proofs.order_tables.contour_rows.listed_rows.Goals as goal

pub loop-k-preserved : goal.loop-k-preserved
loop-k-preserved c =
    let k : ℕ = c.loop-k.k in
    let test = c.loop-k-test.true in
    let len = c.len-k-end.ensures in
    let from = c.loop-k.auto.k in
    let h = c.loop-k.invariant in
    let ends = c.loop-k.ends.items in
    let entries = c.loop-k.entries.items in
    let put = c.put_row.ensures in
    let grown = put.grown ∙ ap (λ (xs : List ℕ). xs ++ put.row) c.reserve-in-loop-k.ensures.items in
    let stored = pushed ends c.push_reserved.new.self.items entries c.put_row.new.entries.items put.row h.cuts grown c.push_reserved.ensures.items (omega (arith, c.len-in-loop-k.ensures, c.put_row.new.entries.ok.0)) in
    let now : cut 0 c.push_reserved.new.self.items c.put_row.new.entries.items ≡ cut 0 ends entries ++ put.row ∷ [] = IsStored-cut _ _ _ stored in
    let count : length (cut 0 ends entries) + 2 ≡ k = omega (arith, length-cut 0 ends entries, h.count) in
    let vertex : slice_index (map (λ v. v.0) c.args.at.now) k ≡ c.get.result.0 =
    get_or-map (λ v. v.0) c.args.at.now k c.get.result 0 (omega arith) ∙ ap (λ v. v.0) (get_or_from_slice_get c.args.at.now k c.get.result c.get.result c.get.ensures) in
    let list : list_of c.args.lists.now (slice_index (map (λ v. v.0) c.args.at.now) k) ≡ c.list-list.result.now = ap (list_of c.args.lists.now) vertex ∙ sym c.list-list.ensures in
    let row_is : (start : ℕ) (us : List ℕ) → IsRowIn (list_of c.args.lists.now (slice_index (map (λ v. v.0) c.args.at.now) (length (cut 0 ends entries) + 2))) c.args.ranks.now (length (cut 0 ends entries) + 2) start us → put.row ≡ map (slice_index c.args.ranks.now) us = λ start us r.
    let at_k = subst (λ i. IsRowIn (list_of c.args.lists.now (slice_index (map (λ v. v.0) c.args.at.now) i)) c.args.ranks.now i start us) count r in
    let there = subst (λ list. IsRowIn list c.args.ranks.now k start us) list at_k in
    put.is us (subst (λ start. IsRowIn c.list-list.result.now c.args.ranks.now k start us) (sym (c.first_place-start.ensures.place start us there)) there) in
    record {
      count = omega (arith, ap length c.push_reserved.ensures.items, length-append ends (c.len-in-loop-k.result ∷ []), h.count);
      room = omega (arith, h.room, c.push_reserved.ensures.capacity);
      cuts = IsStored-cuts _ _ _ stored;
      rows = subst (λ rows. AreRanked c.args.lists.now (map (λ v. v.0) c.args.at.now) c.args.ranks.now rows) (sym now) (AreRanked-more c.args.lists.now (map (λ v. v.0) c.args.at.now) c.args.ranks.now (cut 0 ends entries) put.row h.rows row_is);
    }

pub push_reserved-requires : goal.push_reserved-requires
push_reserved-requires c =
    let h = c.loop-k.invariant in
    let test = c.loop-k-test.true in
    let len = c.len-k-end.ensures in
    omega (arith, h.room, h.count, c.loop-k.ends.ok.0)

pub put_row-requires-clause-room : goal.put_row-requires-clause-room
put_row-requires-clause-room c = omega (arith, c.in_ok-reserve-3.ensures.ok)

pub first_place-start-requires : goal.first_place-start-requires
first_place-start-requires c =
    let k : ℕ = c.loop-k.k in
    let test = c.loop-k-test.true in
    let len = c.len-k-end.ensures in
    let from = c.loop-k.auto.k in
    let vertex : slice_index (map (λ v. v.0) c.args.at.now) k ≡ c.get.result.0 =
    get_or-map (λ v. v.0) c.args.at.now k c.get.result 0 (omega arith) ∙ ap (λ v. v.0) (get_or_from_slice_get c.args.at.now k c.get.result c.get.result c.get.ensures) in
    let list : list_of c.args.lists.now (slice_index (map (λ v. v.0) c.args.at.now) k) ≡ c.list-list.result.now = ap (list_of c.args.lists.now) vertex ∙ sym c.list-list.ensures in
    subst (λ (us : List ℕ). 0 < length us) list (c.requires.some k from (omega arith))

pub returns-clause-count : goal.returns-clause-count
returns-clause-count c =
    let h = c.loop-k.invariant in
    let test = c.loop-k-test.false in
    let len = c.len-k-end.ensures in
    let end = c.loop-k.auto.k-end in
    let many = c.requires.many in
    omega (arith, ap length c.from_parts.ensures, length-cut 0 c.loop-k.ends.items c.loop-k.entries.items, h.count)
