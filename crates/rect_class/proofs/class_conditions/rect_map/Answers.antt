use Rattle.std.proofs.Common.{Option, subst}
use Rattle.std.specs.Option.{MatchOption}
use Rattle.refusals.specs.declared.conditions.Refusal.{Refusal}
use Rattle.rect_class.specs.RectMaps.{IsRectMap}
use Rattle.rect_class.specs.Refusals.{BreaksRect}
use Rattle.rect_class.proofs.class_conditions.rect_map.Goals as goal

pub returns-in-Some-clause-refused : goal.returns-in-Some-clause-refused
returns-in-Some-clause-refused c =
    let made = c.in_ok-map.map.lists in
    subst (λ lists. BreaksRect lists c.in-Some.refusal) c.in_ok-map.ensures.lists (subst (λ (found : Option Refusal). MatchOption found (IsRectMap made) (BreaksRect made)) c.in-Some.is c.in_ok-refusal.ensures)
