use Rattle.std.proofs.Common.{◌≡◌, ◌-◌, ◌++◌, ℕ, List, [], take, replicate, ap, ◌∙◌, arith}
use Rattle.std.proofs.Math.Seq.{take-nil}
use Rattle.convex_orders.proofs.slice_tools.refill.Goals as goal

filled : {A : Type 0} (x : A) (old : List A) (n k : ℕ) → old ≡ [] → k ≡ 0 → take n old ++ replicate (n - k) x ≡ replicate n x
filled x old n k empty none =
    let all : n - 0 ≡ n = omega arith in
    rw (empty, none, take-nil) (ap (λ m. replicate m x) all)

pub returns : goal.returns
returns g c = c.in_ok-resize.ensures.items ∙ filled c.args.item _ c.args.count _ c.clear.ensures.items c.clear.ensures.len
