use Rattle.visibility.proofs.SidesKnown.{IsRooted-known}
use Rattle.visibility.proofs.bar_figures.drawer.Rooted.facts.Goals as goal

pub returns : goal.returns
returns c =
    let m = c.args.self.now in
    IsRooted-known m.lists.now m.twins.now m.t m.rooted
