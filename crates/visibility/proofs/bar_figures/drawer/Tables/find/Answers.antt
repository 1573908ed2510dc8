use Rattle.visibility.proofs.bar_figures.drawer.Tables.find.Goals as goal

pub find-requires : goal.find-requires
find-requires c =
    let found = c.in_ok-search.ensures in
    record { forest = found.forest; lows = found.lows; first = found.first; second = found.second }
