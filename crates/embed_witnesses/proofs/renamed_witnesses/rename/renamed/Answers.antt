use Rattle.std.proofs.Common.{◌++◌, ◌∷◌, [], List, sym, ap, ◌∙◌, arith}
use Rattle.std.proofs.lemmas.Option.{get_or_from_slice_get}
use Rattle.map_lists.specs.declared.ids.VertexId.{VertexId}
use Rattle.embed_witnesses.specs.Renamed.{named}
use Rattle.embed_witnesses.proofs.RenamedLemmas.{renamed_list-more}
use Rattle.embed_witnesses.proofs.renamed_witnesses.rename.renamed.Goals as goal

pub loop-i-preserved : goal.loop-i-preserved
loop-i-preserved c =
    let branch = c.args.witness.now.branch in
    let v = c.get.result in
    let at = get_or_from_slice_get branch c.loop-i.i v v c.get.ensures in
    c.in_ok-push.ensures.ok
    ∙ (ap (λ (ns : List VertexId). ns ++ c.name_of.result ∷ []) c.loop-i.invariant
    ∙ sym (renamed_list-more (named c.args.table.now) branch c.loop-i.i v c.name_of.result (omega (arith, c.loop-i-test.true, c.len-i-end.ensures)) at c.name_of.ensures))
