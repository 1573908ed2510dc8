use Rattle.std.proofs.Common.{ap, ◌∙◌}
use Rattle.std.proofs.lemmas.Result.{IfOk-weaker}
use Rattle.kuratowski.specs.Witnesses.{IsWitness}
use Rattle.embed_witnesses.specs.Renamed.{named, IsRenamed}
use Rattle.embed_witnesses.specs.Merged.{merged}
use Rattle.embed_witnesses.proofs.MergedLemmas.{table, old_numbers-witness}
use Rattle.embed_witnesses.proofs.merged_ends.renumbered_witnesses.on_old_numbers.Goals as goal

pub returns : goal.returns
returns c =
    let graph = c.args.graph.now in
    let a = c.args.e.a.0 in
    let b = c.args.e.b.0 in
    let small = c.args.small.now in
    let ws = c.deref.result.now in
    let e = c.deref.ensures.value ∙ (c.in_ok-table.ensures ∙ ap (λ n. table n b) c.n.ensures.count) in
    IfOk-weaker c.renamed.result (IsRenamed (named ws) small) (λ new. IsWitness (merged graph a b) new.kind new.branch new.paths)
    (λ new r. old_numbers-witness graph a b c.n.ensures.known c.args.e.rising c.requires.edge ws e small new c.requires.accepted r) c.renamed.ensures
