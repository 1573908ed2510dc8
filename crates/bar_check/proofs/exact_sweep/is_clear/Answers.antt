use Rattle.std.proofs.Common.{◌∙◌, ap}
use Rattle.std.specs.Option.{option_map}
use Rattle.map_theory.specs.Maps.{twin_dart}
use Rattle.bar_check.proofs.ClearLemmas.{clear_up, clear_down}
use Rattle.bar_check.proofs.exact_sweep.is_clear.Goals as goal

pub returns-then-is_marked : goal.returns-then-is_marked
returns-then-is_marked c = λ fig a b all at edge marked. clear_up c.args.map.now fig c.args.clear.now a b c.args.d.0 all edge at (c.is_marked.ensures marked)

pub returns-else-is_marked : goal.returns-else-is_marked
returns-else-is_marked c = λ fig a b all at edge marked.
    clear_down c.args.map.now fig c.args.clear.now a b c.twin.result.0 all edge (c.twin.ensures ∙ ap (option_map twin_dart) at) (c.is_marked-else-is_marked.ensures marked)
