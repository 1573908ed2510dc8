-- The twin is appended, and taken back where the dart does not lead upward.
use Rattle.std.proofs.Common.{◌≡◌, ℕ, List, [], ◌∷◌, ◌++◌, ◌-◌, ◌<◌, ◌≤◌, length, take, get_or, ap, ap₂, ◌∙◌, arith}
use Rattle.std.proofs.Math.Seq.{take-append_seam, take-length}
use Rattle.std.proofs.lemmas.List.{length-append}
use Rattle.bipolar.specs.FaceNumbers.{IsPutUp}
use Rattle.bipolar.proofs.dual_orders.numbered_faces.put_upward.Goals as goal

put_or_taken : (rank : List ℕ) (tail head twin down : ℕ) (old pushed new : List ℕ) → pushed ≡ old ++ twin ∷ [] → new ≡ take (length pushed - down) pushed
    → (get_or rank tail 0 < get_or rank head 0 → down ≡ 0) → (get_or rank head 0 ≤ get_or rank tail 0 → down ≡ 1) → IsPutUp rank tail head twin old new
put_or_taken rank tail head twin down old pushed new push cut up is_down = record {
  up = λ l.
      let all : length pushed - down ≡ length pushed = omega (arith, up l) in
      cut ∙ ap (λ (n : ℕ). take n pushed) all ∙ take-length pushed ∙ push;
  down = λ l.
      let fewer : length pushed - down ≡ length old = omega (arith, is_down l, ap length push, length-append old (twin ∷ [])) in
      cut ∙ ap₂ take fewer push ∙ take-append_seam old (twin ∷ []);
}

pub returns : goal.returns
returns c =
    put_or_taken c.args.rank.now c.args.dart.0 c.args.dart.1 c.args.twin c.excess-down.result c.args.arcs.now.items c.push.new.self.items c.truncate.new.self.items c.in_ok-push.ensures.items
    (c.truncate.ensures.items ∙ ap (λ (n : ℕ). take (n - c.excess-down.result) c.push.new.self.items) (omega (arith, c.len.ensures))) c.excess-down.ensures.up c.excess-down.ensures.down
