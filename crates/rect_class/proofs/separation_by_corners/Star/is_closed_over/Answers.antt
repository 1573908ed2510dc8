use Rattle.std.proofs.Common.{◌≡◌, ◌<◌, ◌+◌, ℕ, List, length, get_or, true≢false, Contains, ap, sym, ◌∙◌, subst, arith}
use Rattle.std.proofs.lemmas.Bool.{OnTrue_at, OnTrue_from}
use Rattle.std.proofs.lemmas.List.Elements.{Contains-get_or}
use Rattle.map_theory.specs.Maps.{list_of, entry_after}
use Rattle.rect_class.specs.Corners.{IsSide, IsClosedOver, ComesBefore}
use Rattle.rect_class.proofs.CornerLemmas.{IsClosedOver-sides}
use Rattle.rect_class.proofs.separation_by_corners.Star.is_closed_over.Goals as goal

pub are_sides-requires : goal.are_sides-requires
are_sides-requires c = λ j d l.
    let lists = c.args.self.now.lists.now in
    let u = get_or (list_of lists c.args.self.now.v) c.args.k 0 in
    let w = get_or c.list.result.now j d in
    let us_is : c.list-us.result.now ≡ list_of lists c.args.self.now.v = c.list-us.ensures ∙ ap (list_of lists) c.from.ensures in
    let ws_is : c.list.result.now ≡ list_of lists u = c.list.ensures ∙ ap (list_of lists) (c.from-2.ensures ∙ ap (λ (xs : List ℕ). get_or xs c.args.k 0) us_is) in
    let is_vertex = c.args.self.now.in_range c.args.self.now.v u (c.args.self.now.vertex, Contains-get_or (list_of lists c.args.self.now.v) c.args.k 0 c.requires) in
    let below = c.args.self.now.in_range u w (is_vertex, subst (λ (us : List ℕ). Contains us w) ws_is (Contains-get_or {X = ℕ} c.list.result.now j d l)) in
    omega (arith, below, c.args.self.now.all_marks)

pub returns-then-not-comes_after : goal.returns-then-not-comes_after
returns-then-not-comes_after c =
    let lists = c.args.self.now.lists.now in
    let v = c.args.self.now.v in
    let us_is : c.list-us.result.now ≡ list_of lists v = c.list-us.ensures ∙ ap (list_of lists) c.from.ensures in
    λ before. absurd (true≢false (sym (c.comes_after.ensures.1 (subst (λ (us : List ℕ). ComesBefore c.args.self.now.degrees.now (get_or us c.args.k 0) v) (sym us_is) before)) ∙ c.if-not-comes_after.true))

pub returns : goal.returns
returns c =
    let lists = c.args.self.now.lists.now in
    let v = c.args.self.now.v in
    let k = c.args.k in
    let u = get_or (list_of lists v) k 0 in
    let last = c.previous_at-last.result in
    let next = c.next_at-next.result in
    let us_is : c.list-us.result.now ≡ list_of lists v = c.list-us.ensures ∙ ap (list_of lists) c.from.ensures in
    let ws_is : c.list.result.now ≡ list_of lists u = c.list.ensures ∙ ap (list_of lists) (c.from-2.ensures ∙ ap (λ (xs : List ℕ). get_or xs k 0) us_is) in
    OnTrue_from c.are_sides.result (ComesBefore c.args.self.now.degrees.now u v → IsClosedOver lists v u) (λ t before.
    IsClosedOver-sides lists c.args.self.now.marks.now v u last next c.args.self.now.stamped (subst (λ (us : List ℕ). entry_after last us ≡ get_or us k 0) us_is c.previous_at-last.ensures)
    (subst (λ (us : List ℕ). next ≡ entry_after (get_or us k 0) us) us_is c.next_at-next.ensures)
    (subst (λ (ws : List ℕ). (j : ℕ) → j < length ws → IsSide c.args.self.now.marks.now (v + 1) last next (get_or ws j 0)) ws_is (OnTrue_at t c.are_sides.ensures)))
