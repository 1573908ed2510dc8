use Rattle.std.proofs.Common.{◌≡◌, Bool, subst}
use Rattle.wood_laws.proofs.WoodLemmas.{ranked}
use Rattle.wood_laws.specs.Regions.{Reaches}
use Rattle.wood_laws.proofs.RegionLemmas.{met_all, known_all}
use Rattle.wood_laws.proofs.wood_regions.inside_is_known.Goals as goal

pub returns : goal.returns
returns c = λ lists base at parent d v x y triangulation wood inner has.
    let r = ranked lists base at wood.steps parent triangulation wood.order wood.run wood.parents v inner in
    let m = met_all lists base at wood.steps parent triangulation wood.order wood.run wood.parents r.0 (r.1, r.2) d x y has in
    subst (λ v. (odd : Bool) × Reaches lists base parent d v x y odd × ((odd' : Bool) → Reaches lists base parent d v x y odd' → odd' ≡ odd)) r.3
    (m.0, m.1, λ odd' r'. known_all lists base at wood.steps parent triangulation wood.order wood.run wood.parents r.0 (r.1, r.2) d x y m.0 m.1 odd' r')
