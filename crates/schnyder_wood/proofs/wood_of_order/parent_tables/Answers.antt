use Rattle.std.proofs.Common.{◌≡◌, length, ap, ◌∙◌, refl, arith}
use Rattle.std.proofs.lemmas.List.{take_at}
use Rattle.canon_order.specs.Orders.{vertices_of}
use Rattle.wood_runs.specs.Parents.{one, two, three}
use Rattle.schnyder_wood.proofs.Orders.{all_named, AreParentTables-at, AreParentsAt-named}
use Rattle.schnyder_wood.proofs.wood_of_order.parent_tables.Goals as goal

pub named-requires-clause-within : goal.named-requires-clause-within
named-requires-clause-within c =
    let run = c.requires.run in
    let count = c.requires.count in
    let n = c.len-n.ensures in
    let items = ap length c.deref_mut.ensures.value in
    let xs : c.deref.result.now ≡ c.find_parents.new.firsts = c.deref.ensures.value ∙ take_at c.find_parents.new.firsts _ c.in_ok-firsts.firsts.len (omega (arith, c.find_parents.auto.firsts, c.in_ok-firsts.ensures.len)) in
    (AreParentTables-at run.0 (length c.args.rows.now) (length c.deref_mut.result.now) (length (vertices_of c.args.order.now)) _ _ _ _ _ _ xs refl refl (omega (arith, c.in_ok-firsts.ensures.len)) (c.find_parents.ensures run.0 run.1)).within one

pub named-requires-clause-ranks : goal.named-requires-clause-ranks
named-requires-clause-ranks c = λ i d l.
    let count = c.requires.count in
    let n = c.len-n.ensures in
    let items = ap length c.deref_mut.ensures.value in
    let xs : c.deref.result.now ≡ c.find_parents.new.firsts = c.deref.ensures.value ∙ take_at c.find_parents.new.firsts _ c.in_ok-firsts.firsts.len (omega (arith, c.find_parents.auto.firsts, c.in_ok-firsts.ensures.len)) in
    let rank = c.requires.ranks i d l in
    omega (arith, rank, ap length xs, c.find_parents.auto.firsts, c.in_ok-firsts.ensures.len)

pub named-requires-2-clause-within : goal.named-requires-2-clause-within
named-requires-2-clause-within c =
    let run = c.requires.run in
    let count = c.requires.count in
    let n = c.len-n.ensures in
    let items = ap length c.deref_mut.ensures.value in
    let xs : c.deref.result.now ≡ c.find_parents.new.firsts = c.deref.ensures.value ∙ take_at c.find_parents.new.firsts _ c.in_ok-firsts.firsts.len (omega (arith, c.find_parents.auto.firsts, c.in_ok-firsts.ensures.len)) in
    let items' = ap length c.deref_mut-2.ensures.value in
    let ys : c.deref-2.result.now ≡ c.find_parents.new.lasts = c.deref-2.ensures.value ∙ take_at c.find_parents.new.lasts _ c.in_ok-lasts.lasts.len (omega (arith, c.find_parents.auto.lasts, c.in_ok-lasts.ensures.len)) in
    (AreParentTables-at run.0 (length c.args.rows.now) (length c.deref_mut.result.now) (length (vertices_of c.args.order.now)) _ _ _ _ _ _ refl ys refl (omega (arith, c.in_ok-firsts.ensures.len)) (c.find_parents.ensures run.0 run.1)).within two

pub named-requires-2-clause-ranks : goal.named-requires-2-clause-ranks
named-requires-2-clause-ranks c = λ i d l.
    let count = c.requires.count in
    let n = c.len-n.ensures in
    let items' = ap length c.deref_mut-2.ensures.value in
    let ys : c.deref-2.result.now ≡ c.find_parents.new.lasts = c.deref-2.ensures.value ∙ take_at c.find_parents.new.lasts _ c.in_ok-lasts.lasts.len (omega (arith, c.find_parents.auto.lasts, c.in_ok-lasts.ensures.len)) in
    let rank = c.requires.ranks i d l in
    omega (arith, rank, ap length ys, c.find_parents.auto.lasts, c.in_ok-lasts.ensures.len)

pub named-requires-3-clause-within : goal.named-requires-3-clause-within
named-requires-3-clause-within c =
    let run = c.requires.run in
    let count = c.requires.count in
    let n = c.len-n.ensures in
    let items = ap length c.deref_mut.ensures.value in
    let xs : c.deref.result.now ≡ c.find_parents.new.firsts = c.deref.ensures.value ∙ take_at c.find_parents.new.firsts _ c.in_ok-firsts.firsts.len (omega (arith, c.find_parents.auto.firsts, c.in_ok-firsts.ensures.len)) in
    let items'' = ap length c.deref_mut-3.ensures.value in
    let zs : c.deref-3.result.now ≡ c.find_parents.new.covers = c.deref-3.ensures.value ∙ take_at c.find_parents.new.covers _ c.in_ok-covers.covers.len (omega (arith, c.find_parents.auto.covers, c.in_ok-covers.ensures.len)) in
    (AreParentTables-at run.0 (length c.args.rows.now) (length c.deref_mut.result.now) (length (vertices_of c.args.order.now)) _ _ _ _ _ _ refl refl zs (omega (arith, c.in_ok-firsts.ensures.len)) (c.find_parents.ensures run.0 run.1)).within three

pub named-requires-3-clause-ranks : goal.named-requires-3-clause-ranks
named-requires-3-clause-ranks c = λ i d l.
    let count = c.requires.count in
    let n = c.len-n.ensures in
    let items'' = ap length c.deref_mut-3.ensures.value in
    let zs : c.deref-3.result.now ≡ c.find_parents.new.covers = c.deref-3.ensures.value ∙ take_at c.find_parents.new.covers _ c.in_ok-covers.covers.len (omega (arith, c.find_parents.auto.covers, c.in_ok-covers.ensures.len)) in
    let rank = c.requires.ranks i d l in
    omega (arith, rank, ap length zs, c.find_parents.auto.covers, c.in_ok-covers.ensures.len)

pub returns : goal.returns
returns c = λ steps run.
    let count = c.requires.count in
    let n = c.len-n.ensures in
    let items = ap length c.deref_mut.ensures.value in
    let xs : c.deref.result.now ≡ c.find_parents.new.firsts = c.deref.ensures.value ∙ take_at c.find_parents.new.firsts _ c.in_ok-firsts.firsts.len (omega (arith, c.find_parents.auto.firsts, c.in_ok-firsts.ensures.len)) in
    let items' = ap length c.deref_mut-2.ensures.value in
    let ys : c.deref-2.result.now ≡ c.find_parents.new.lasts = c.deref-2.ensures.value ∙ take_at c.find_parents.new.lasts _ c.in_ok-lasts.lasts.len (omega (arith, c.find_parents.auto.lasts, c.in_ok-lasts.ensures.len)) in
    let items'' = ap length c.deref_mut-3.ensures.value in
    let zs : c.deref-3.result.now ≡ c.find_parents.new.covers = c.deref-3.ensures.value ∙ take_at c.find_parents.new.covers _ c.in_ok-covers.covers.len (omega (arith, c.find_parents.auto.covers, c.in_ok-covers.ensures.len)) in
    AreParentsAt-named steps (length c.args.rows.now) (length c.deref_mut.result.now) _ _ _ c.args.order.now.rank (vertices_of c.args.order.now) _ _ _
    (AreParentTables-at steps (length c.args.rows.now) (length c.deref_mut.result.now) (length c.deref_mut.result.now) _ _ _ _ _ _ xs ys zs (omega arith) (c.find_parents.ensures steps run))
    (all_named _ _ _ _ _ _ _ _ c.in_ok-ones.ensures c.in_ok-twos.ensures c.in_ok-threes.ensures)
