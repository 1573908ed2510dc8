use Rattle.std.proofs.Common.{Option, subst, arith}
use Rattle.std.specs.Option.{MatchOption}
use Rattle.refusals.specs.declared.conditions.Refusal.{Refusal}
use Rattle.rect_class.specs.RectMaps.{NoneSeparating}
use Rattle.rect_class.specs.Refusals.{BreaksRect}
use Rattle.rect_class.proofs.InnerLemmas.{more-inner, HasInner-more}
use Rattle.rect_class.proofs.class_conditions.first_broken.Goals as goal

pub returns-then-n-le-OUTER_COUNT : goal.returns-then-n-le-OUTER_COUNT
returns-then-n-le-OUTER_COUNT c =
    (c.requires.biconnected, c.in-Some.ensures.quadrangle, c.in_default-first_large.ensures, subst (λ (found : Option Refusal). MatchOption found (NoneSeparating c.args.map.now.lists) (BreaksRect c.args.map.now.lists)) c.in_default-2.is c.in_ok-refusal.ensures, (λ inner. let more = more-inner c.args.map.now.lists c.args.map.now.known.simple c.in-Some.ensures.quadrangle inner in let few = c.if-n-le-OUTER_COUNT.true in let n = c.n.ensures.count in omega arith))

pub returns-else-n-le-OUTER_COUNT : goal.returns-else-n-le-OUTER_COUNT
returns-else-n-le-OUTER_COUNT c = record {
  biconnected = c.requires.biconnected;
  frame = c.in-Some.ensures.quadrangle;
  faces = c.in_default-first_large.ensures;
  triangles = subst (λ (found : Option Refusal). MatchOption found (NoneSeparating c.args.map.now.lists) (BreaksRect c.args.map.now.lists)) c.in_default-2.is c.in_ok-refusal.ensures;
  inner = HasInner-more c.args.map.now.lists (let more = c.if-n-le-OUTER_COUNT.false in let n = c.n.ensures.count in omega arith);
}
