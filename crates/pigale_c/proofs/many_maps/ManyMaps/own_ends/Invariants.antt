use Rattle.std.proofs.Common.{◌≡◌, ◌-◌, take, map}
use Rattle.pigale_c.proofs.many_maps.ManyMaps.own_ends.Given as goal

abbrev pub invariant-loop-end : goal.invariant-loop-end
invariant-loop-end l = l.own.items ≡ map (λ end. end - l.base) (take l.end-index l.end-items)
