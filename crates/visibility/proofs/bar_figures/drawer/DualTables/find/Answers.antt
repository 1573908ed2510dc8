use Rattle.std.proofs.Common.{refl}
use Rattle.visibility.proofs.Connected.{one_of_search}
use Rattle.visibility.proofs.bar_figures.drawer.DualTables.find.Goals as goal

pub draw-requires : goal.draw-requires
draw-requires c =
    let s = c.requires in
    record {
      connected = one_of_search c.args.map.now.lists.now c.facts.ensures.simple _ _ _ _ s.forest s.first (c.if-not-sees_all.ensures refl);
      uncut = c.if-is_uncut.ensures refl;
      search = s;
    }

pub cut-requires-clause-connected : goal.cut-requires-clause-connected
cut-requires-clause-connected c =
    let s = c.requires in
    one_of_search c.args.map.now.lists.now c.facts.ensures.simple _ _ _ _ s.forest s.first (c.if-not-sees_all.ensures refl)
