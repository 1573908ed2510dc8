use Rattle.std.proofs.Common.{◌≡◌, sym, subst, inl, inr, arith}
use Rattle.std.proofs.lemmas.Bool.{cases_lt}
use Rattle.convex_class.specs.Clear.{IsClearFace}
use Rattle.convex_class.proofs.ClearLemmas.{IsClearFace-lower}
use Rattle.convex_class.proofs.face_pairs.uncut_map.UncutMap.least_at_faces.Goals as goal

pub loop-f-preserved : goal.loop-f-preserved
loop-f-preserved c =
    let map = c.args.self.now.map.now in
    let walks = c.args.self.now.faces.now in
    let least = c.in_ok-best.best in
    let here = c.in_ok-best.ensures in
    record {
      lower = let l = here.lower in let m = c.loop-f.invariant.lower in omega arith;
      clear = λ x l. elim (cases_lt x c.loop-f.f) [
        | inl less ↦ IsClearFace-lower map walks c.loop-f.best least x here.lower (c.loop-f.invariant.clear x less)
        | inr most ↦ let same : x ≡ c.loop-f.f = omega arith in subst (IsClearFace map walks least) (sym same) here.clear
      ];
    }
