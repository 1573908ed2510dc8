use Rattle.std.proofs.Common.{◌≡◌, ℕ, Some, sym, ap, ◌∙◌, subst}
use Rattle.std.specs.Option.{option_map}
use Rattle.map_theory.specs.Maps.{Dart}
use Rattle.half_edges.specs.Map.{dart_at, first_dart}
use Rattle.vertex_rounds.proofs.RoundLemmas.{last_place, later_place}
use Rattle.vertex_rounds.proofs.list_steps.later_dart.Goals as goal

pub returns-then-next-first : goal.returns-then-next-first
returns-then-next-first c = λ v u is.
    let map = c.args.map.now in
    let t : Some v ≡ Some c.tail.result.0 = sym (ap (option_map (λ (x : Dart). x.0)) is) ∙ c.tail.ensures in
    let same : c.tail.result.0 ≡ v = cc in
    let begins : dart_at map c.in-Some.first.0 ≡ Some (first_dart map.lists v) = subst (λ (x : ℕ). dart_at map c.in-Some.first.0 ≡ Some (first_dart map.lists x)) same c.in-Some.ensures.dart in
    last_place map c.args.map.now.known c.args.d.0 c.next-next.result.0 c.in-Some.first.0 v u c.requires.live c.next-next.ensures begins is c.if-next-first.true

pub returns-else-next-first : goal.returns-else-next-first
returns-else-next-first c = λ v u is.
    let map = c.args.map.now in
    let t : Some v ≡ Some c.tail.result.0 = sym (ap (option_map (λ (x : Dart). x.0)) is) ∙ c.tail.ensures in
    let same : c.tail.result.0 ≡ v = cc in
    let begins : dart_at map c.in-Some.first.0 ≡ Some (first_dart map.lists v) = subst (λ (x : ℕ). dart_at map c.in-Some.first.0 ≡ Some (first_dart map.lists x)) same c.in-Some.ensures.dart in
    later_place map c.args.map.now.known c.args.d.0 c.next-next.result.0 c.in-Some.first.0 v u c.requires.live c.next-next.ensures begins is c.if-next-first.false
