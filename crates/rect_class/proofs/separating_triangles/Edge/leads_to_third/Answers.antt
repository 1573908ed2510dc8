use Rattle.std.proofs.Common.{◌≡◌, ◌<◌, ℕ, length, true, sym, subst}
use Rattle.vertex_rounds.specs.Rounds.{dart_of}
use Rattle.vertex_rounds.proofs.DartIds.{head_is, has_dart}
use Rattle.rect_class.specs.RectMaps.{IsSeparating}
use Rattle.rect_class.proofs.separating_triangles.Edge.leads_to_third.Goals as goal

pub is_separating-requires : goal.is_separating-requires
is_separating-requires c =
    let map = c.args.self.now.near.map.now in
    let e = c.args.e.0 in
    let same = head_is map e c.head.result.0 c.requires c.head.ensures in
    subst (λ (x : ℕ). x < length map.lists) same (c.args.self.now.near.map.now.known.simple.in_range (dart_of map e).0 (dart_of map e).1 (has_dart map c.args.self.now.near.map.now.known e c.requires))

pub returns : goal.returns
returns c =
    let map = c.args.self.now.near.map.now in
    let r = c.is_separating.result in
    let same = head_is map c.args.e.0 c.head.result.0 c.requires c.head.ensures in
    subst (λ (x : ℕ). (r ≡ true → IsSeparating map.lists c.args.self.now.a.0 c.args.self.now.b.0 x) × (IsSeparating map.lists c.args.self.now.a.0 c.args.self.now.b.0 x → r ≡ true)) (sym same) c.is_separating.ensures
