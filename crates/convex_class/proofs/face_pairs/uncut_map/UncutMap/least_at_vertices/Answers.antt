use Rattle.std.proofs.Common.{◌≡◌, sym, subst, inl, inr, arith}
use Rattle.std.proofs.lemmas.Bool.{cases_lt}
use Rattle.convex_class.specs.Clear.{IsClearVertex}
use Rattle.convex_class.proofs.ClearLemmas.{IsClearVertex-lower}
use Rattle.convex_class.proofs.face_pairs.uncut_map.UncutMap.least_at_vertices.Goals as goal

pub loop-u-preserved : goal.loop-u-preserved
loop-u-preserved c = λ x l.
    let map = c.args.self.now.map.now in
    let walks = c.args.self.now.faces.now in
    let least = c.least-best.result in
    let here = c.least-best.ensures in
    elim (cases_lt x c.loop-u.u) [
      | inl less ↦ IsClearVertex-lower map walks c.loop-u.best least x here.lower (c.loop-u.invariant x less)
      | inr most ↦ let same : x ≡ c.loop-u.u = omega arith in subst (IsClearVertex map walks least) (sym same) here.clear
    ]
