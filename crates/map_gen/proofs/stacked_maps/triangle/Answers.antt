use Rattle.std.proofs.Common.{◌≡◌, ℕ, List, length, ◌+◌, ◌-◌, ap, ◌∙◌, arith, [], ◌∷◌, ◌++◌}
use Rattle.std.specs.Prelude.{replicate}
use Rattle.std.proofs.lemmas.List.{replicate_more}
use Rattle.std.proofs.Math.ListN.{length-replicate}
use Rattle.map_lists.specs.Lists.{Lists}
use Rattle.map_gen.proofs.stacked_maps.triangle.Goals as goal

-- the triangle with so many isolated vertices
abbrev triangle_with : ℕ → Lists
triangle_with m = (1 ∷ 2 ∷ []) ∷ (2 ∷ 0 ∷ []) ∷ (0 ∷ 1 ∷ []) ∷ replicate m []

one_more : (m k : ℕ) → m + 1 ≡ k → triangle_with m ++ [] ∷ [] ≡ triangle_with k
one_more m k e = ap (λ (ls : Lists). (1 ∷ 2 ∷ []) ∷ (2 ∷ 0 ∷ []) ∷ (0 ∷ 1 ∷ []) ∷ ls) (replicate_more m []) ∙ ap triangle_with e

pub loop-init : goal.loop-init
loop-init c = record {
  some = omega arith;
  lists = c.in_ok-push-3.ensures.ok
      ∙ ap (λ (ls : Lists). ls ++ (0 ∷ 1 ∷ []) ∷ []) (c.in_ok-push-2.ensures.ok
      ∙ ap (λ (ls : Lists). ls ++ (2 ∷ 0 ∷ []) ∷ []) (c.in_ok-push.ensures.ok ∙ ap (λ (ls : Lists). ls ++ (1 ∷ 2 ∷ []) ∷ []) c.new-lists.ensures));
}

pub loop-preserved : goal.loop-preserved
loop-preserved c =
    let h = c.loop.invariant in
    let some = h.some in
    record {
      some = omega arith;
      lists = c.in_ok-open.ensures.ok ∙ (ap (λ (ls : Lists). ls ++ [] ∷ []) h.lists ∙ one_more (c.loop.counter - 3) (c.loop.counter + 1 - 3) (omega arith));
    }

pub from_lists-requires : goal.from_lists-requires
from_lists-requires c =
    omega (arith, c.requires.few, ap length c.loop.invariant.lists, length-replicate {A = List ℕ} (c.loop.counter - 3) [])

pub returns : goal.returns
returns c = λ number. c.from_lists.ensures ∙ c.loop.invariant.lists ∙ ap triangle_with (omega arith)
