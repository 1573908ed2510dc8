use Rattle.std.proofs.Common.{◌<◌, ℕ, length, ⊎_elim, sym, subst, rules}
use Rattle.vertex_rounds.proofs.FirstLemmas.{least_one}
use Rattle.rect_class.specs.RectMaps.{IsSeparating}
use Rattle.rect_class.proofs.HeadLemmas.{ends-below}
use Rattle.rect_class.proofs.TriangleLemmas.{third_at}
use Rattle.rect_class.proofs.separating_triangles.Edge.least_third.Goals as goal

pub least_head-requires-clause-vertex : goal.least_head-requires-clause-vertex
least_head-requires-clause-vertex c =
    let map = c.args.self.now.near.map.now in
    let (la, lb) = ends-below map c.args.self.now.near.map.now.known c.args.self.now.d.0 c.args.self.now.a.0 c.args.self.now.b.0 c.args.self.now.dart in
    ⊎_elim (λ e. subst (λ (x : ℕ). x < length map.lists) (sym e) la) (λ e. subst (λ (x : ℕ). x < length map.lists) (sym e) lb) c.shorter_end-w.ensures

pub returns : goal.returns
returns c =
    let map = c.args.self.now.near.map.now in
    let (la, lb) = ends-below map c.args.self.now.near.map.now.known c.args.self.now.d.0 c.args.self.now.a.0 c.args.self.now.b.0 c.args.self.now.dart in
    let l = ⊎_elim (λ e. subst (λ (x : ℕ). x < length map.lists) (sym e) la) (λ e. subst (λ (x : ℕ). x < length map.lists) (sym e) lb) c.shorter_end-w.ensures in
    third_at map.lists c.args.self.now.a.0 c.args.self.now.b.0 c.shorter_end-w.result.0 c.shorter_end-w.ensures l c.least_head.result
    (least_one map c.args.self.now.near.map.now.known _ (λ w x. IsSeparating map.lists c.args.self.now.a.0 c.args.self.now.b.0 x) c.shorter_end-w.result.0 c.least_head.result c.least_head.ensures (λ e live late r s. search rules))
