use Rattle.std.proofs.Common.{◌≡◌, ℕ, ◌<◌, Some, refl, sym, subst, ap, ◌∙◌, rules, w32, FitsSigned}
use Rattle.std.proofs.lemmas.Bool.{false≢true}
use Rattle.std.proofs.lemmas.Int.{to_z-of_z}
use Rattle.map_theory.specs.Maps.{Dart, HasDart}
use Rattle.half_edges.specs.Map.{dart_at}
use Rattle.vertex_rounds.proofs.DartIds.{dart_of-live, ends_are, has_dart, head_is, tail_is}
use Rattle.bar_check.specs.Loops.{IsBlocked}
use Rattle.bar_check.proofs.drawing.LesserEnd.leads_to_blocked.Goals as goal

pub column_to-x-requires-clause-dart : goal.column_to-x-requires-clause-dart
column_to-x-requires-clause-dart c =
    let map = c.args.self.now.drawing.map.now in
    let b = c.head-b.result.0 in
    dart_of-live map c.args.d.0 c.requires.live ∙ ap (λ (x : Dart). Some x) (sym (ends_are map c.args.d.0 c.tail.result.0 b c.requires.live c.tail.ensures c.head-b.ensures)) ∙ ap (λ (z : ℕ). Some (z, b)) c.if-tail-self.false

pub returns-then-is_clear : goal.returns-then-is_clear
returns-then-is_clear c =
    let map = c.args.self.now.drawing.map.now in
    let fig = c.args.self.now.drawing.fig.now in
    let a = c.args.self.now.a.0 in
    let b = c.head-b.result.0 in
    let ends = ends_are map c.args.d.0 c.tail.result.0 b c.requires.live c.tail.ensures c.head-b.ensures in
    let at : dart_at map c.args.d.0 ≡ Some (a, b) = dart_of-live map c.args.d.0 c.requires.live ∙ ap (λ (x : Dart). Some x) (sym ends) ∙ ap (λ (z : ℕ). Some (z, b)) c.if-tail-self.false in
    let dart = subst (λ (z : ℕ). HasDart map.lists z b) c.if-tail-self.false (subst (λ (x : Dart). HasDart map.lists x.0 x.1) (sym ends) (has_dart map c.args.self.now.drawing.map.now.known c.args.d.0 c.requires.live)) in
    let head = head_is map c.args.d.0 b c.requires.live c.head-b.ensures in (
      λ e. absurd (false≢true e),
      λ p.
          let struck = subst (λ (z : ℕ). IsBlocked map.lists fig a z) head p.2 in
          absurd (c.is_clear.ensures fig a b c.args.self.now.marks at (c.if-b-self.false, dart) c.if-is_clear.true struck.0 struck.1.0 struck.1.1),
    )

pub returns-in-Some : goal.returns-in-Some
returns-in-Some c =
    let map = c.args.self.now.drawing.map.now in
    let a = c.args.self.now.a.0 in
    let tail = tail_is map c.args.d.0 c.tail.result.0 c.requires.live c.tail.ensures in
    let head = head_is map c.args.d.0 c.head-b.result.0 c.requires.live c.head-b.ensures in
    let f : FitsSigned w32 c.column_to-x.result = search rules in
    let least = rw (c.column_to-x.ensures, c.n.ensures.count) at (simp to_z-of_z at c.in-Some.ensures) in (
      λ t. (tail ∙ c.if-tail-self.false, subst (λ (z : ℕ). a < z) (sym head) c.if-b-self.false, subst (λ (z : ℕ). IsBlocked map.lists c.args.self.now.drawing.fig.now a z) (sym head) (_, least.here)),
      λ p. refl,
    )

pub returns-in-None : goal.returns-in-None
returns-in-None c =
    let map = c.args.self.now.drawing.map.now in
    let head = head_is map c.args.d.0 c.head-b.result.0 c.requires.live c.head-b.ensures in
    let f : FitsSigned w32 c.column_to-x.result = search rules in
    let free = rw (c.column_to-x.ensures, c.n.ensures.count) at (simp to_z-of_z at c.in-None.ensures) in (
      λ e. absurd (false≢true e),
      λ p. let struck = subst (λ (z : ℕ). IsBlocked map.lists c.args.self.now.drawing.fig.now c.args.self.now.a.0 z) head p.2 in absurd (free struck.0 struck.1),
    )
