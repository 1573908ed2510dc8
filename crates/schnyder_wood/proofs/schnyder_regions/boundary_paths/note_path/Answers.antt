use Rattle.std.proofs.Common.{sym, ◌∙◌, ◌+◌, arith}
use Rattle.schnyder_wood.specs.Parents.{kind}
use Rattle.schnyder_wood.proofs.SchnyderRegionsPaths.{begin, more, done, not_all}
use Rattle.schnyder_wood.proofs.schnyder_regions.boundary_paths.note_path.Goals as goal

pub loop-passed-init : goal.loop-passed-init
loop-passed-init c = begin c.args.wood.now (kind c.args.colour) c.args.v.0 c.args.ups.now c.requires.inner c.requires.count c.requires.own

pub returns-then-up-root : goal.returns-then-up-root
returns-then-up-root c =
    done c.args.wood.now (kind c.args.colour) c.args.v.0 c.loop-passed.passed c.loop-passed.at.0 c.parent_of-up.result.0 c.loop-passed.ups c.loop-passed.invariant c.parent_of-up.ensures (c.if-up-root.true ∙ c.root-root.ensures)

pub loop-passed-preserved : goal.loop-passed-preserved
loop-passed-preserved c =
    more c.args.wood.now (kind c.args.colour) c.args.v.0 c.loop-passed.passed c.loop-passed.at.0 c.parent_of-up.result.0 (c.loop-passed.passed + 1) c.loop-passed.ups c.facts.ensures c.loop-passed.invariant (λ e. c.if-up-root.false (e ∙ sym c.root-root.ensures)) c.parent_of-up.ensures (omega arith)

pub unreachable-requires : goal.unreachable-requires
unreachable-requires c =
    not_all c.args.wood.now (kind c.args.colour) c.args.v.0 c.loop-passed.passed c.loop-passed.at.0 c.loop-passed.ups c.facts.ensures c.requires.inner c.loop-passed.invariant (omega (arith, c.loop-passed-test.false, c.n-passed-end.ensures))
