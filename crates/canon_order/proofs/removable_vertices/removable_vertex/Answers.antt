use Rattle.std.proofs.Common.{◌≡◌, ◌-◌, ◌<◌, ℕ, List, length, take, slice_index_or, All, Contains, subst, sym, ap, ◌∙◌, arith, vec_len}
use Rattle.std.proofs.lemmas.Bool.{false≢true}
use Rattle.std.proofs.lemmas.List.Elements.{All-take}
use Rattle.canon_order.specs.Contours.{LooksRemovable}
use Rattle.canon_order.proofs.Marks.{Contains-but_last}
use Rattle.canon_order.proofs.removable_vertices.removable_vertex.Goals as goal

pub loop-stack-preserved : goal.loop-stack-preserved
loop-stack-preserved c =
    let us = c.loop-stack.stack.items in
    let h = c.loop-stack.invariant in
    let n : vec_len c.loop-stack.stack ≡ length us = omega arith in
    let rest : c.pop.new.self.items ≡ take (length us - 1) us = c.pop.ensures.rest ∙ ap (λ k. take (k - 1) us) n in
    let last = c.index-v.ensures ∙ ap (λ k. slice_index_or us (k - 1) c.index-v.result.now) (c.len-in-loop-stack.ensures ∙ n) in
    record {
      tally = h.tally;
      vertices = subst (λ (vs : List ℕ). All (λ v. v < length c.args.base.now.lists.now) vs) (sym rest) (All-take (λ v. v < length c.args.base.now.lists.now) (length us - 1) us h.vertices);
      stacked = λ v removable.
          subst (λ (vs : List ℕ). Contains vs v) (sym rest)
          (Contains-but_last us c.index-v.result.now v last (h.stacked v removable)
          (λ e. false≢true (sym c.if-is_removable.false ∙ c.is_removable.ensures.1 (subst (λ z. LooksRemovable c.args.base.now.t c.args.base.now.s c.args.marked.now c.args.near.now z) e removable))));
    }
