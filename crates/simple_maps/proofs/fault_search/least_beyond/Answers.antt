use Rattle.std.proofs.Common.{ap, sym, ◌∙◌, Some, get_or, le-leb, leb}
use Rattle.std.proofs.lemmas.Bool.{lt-leb}
use Rattle.simple_maps.specs.Faults.{lesser_of}
use Rattle.simple_maps.proofs.FaultLemmas.{least_where_more_yes, least_where_more_no}
use Rattle.simple_maps.proofs.fault_search.least_beyond.Goals as goal
use Rattle.simple_maps.proofs.fault_search.least_beyond.Goals.{then-n-u, else-n-u}

pub loop-u-preserved : goal.loop-u-preserved
loop-u-preserved c =
    let u = get_or c.args.list.now c.loop-u.u-index 0 in
    elim c.if-n-u.branch [
      | then-n-u w ↦
          w.least-is ∙ w.lesser-least.ensures ∙ ap (λ o. lesser_of o (Some u)) c.loop-u.invariant
          ∙ sym (least_where_more_yes (leb c.args.n) c.args.list.now c.loop-u.u-index 0 c.loop-u-test.true (le-leb c.args.n u w.if-n-u.true))
      | else-n-u w ↦
          w.least-is ∙ c.loop-u.invariant
          ∙ sym (least_where_more_no (leb c.args.n) c.args.list.now c.loop-u.u-index 0 c.loop-u-test.true (lt-leb c.args.n u w.if-n-u.false))
    ]
