use Rattle.std.proofs.Common.{◌≡◌, ◌∷◌, ◌++◌, [], List, ℕ, Bool, true, false, cond, filter, nat_lt, get_or, IsPermutation, append-nil, subst, sym, ap, ◌∙◌, arith}
use Rattle.std.proofs.lemmas.List.{take_all}
use Rattle.std.proofs.lemmas.Bool.Decides.{nat_tests}
use Rattle.svg_out.proofs.EdgeLemmas.{later-more, later-sorted}
use Rattle.svg_out.proofs.sorted_edges.fill_sorted.Goals as goal
use Rattle.svg_out.proofs.sorted_edges.fill_sorted.Goals.{then-v-from+in_ok-push, else-v-from}

pub loop-k-preserved : goal.loop-k-preserved
loop-k-preserved c =
    let v : ℕ = c.args.v in
    let us = c.list-us.result.now in
    let u : ℕ = get_or us c.loop-k.k 0 in
    let now = c.loop-k.row.items in
    let l = c.loop-k-test.true in
    elim c.if-v-from.branch [
      | then-v-from+in_ok-push w ↦
          let passes : nat_lt v u ≡ true = grind (arith, nat_tests, w.if-v-from.true, c.from.ensures) in
          rw w.row-is (later-more v us c.loop-k.k now _ (omega arith) c.loop-k.invariant (w.in_ok-push.ensures.items ∙ ap (λ (b : Bool). now ++ cond b (u ∷ []) []) (sym passes)))
      | else-v-from w ↦
          let fails : nat_lt v u ≡ false = grind (arith, nat_tests, w.if-v-from.false, c.from.ensures) in
          rw w.row-is (later-more v us c.loop-k.k now _ (omega arith) c.loop-k.invariant (sym (append-nil now) ∙ ap (λ (b : Bool). now ++ cond b (u ∷ []) []) (sym fails)))
    ]

pub returns : goal.returns
returns c =
    let later : c.loop-k.row.items ≡ filter (λ u. nat_lt c.args.v u) c.list-us.result.now =
    c.loop-k.invariant ∙ ap (filter (λ u. nat_lt c.args.v u)) (take_all c.loop-k.k c.list-us.result.now (omega arith)) in
    later-sorted c.args.lists.now c.args.v _ c.requires.simple c.requires.vertex
    (subst (λ (us : List ℕ). IsPermutation us c.sort_unstable.new.self.items) (later ∙ ap (λ us. filter (λ u. nat_lt c.args.v u) us) c.list-us.ensures) c.sort_unstable.ensures.permutation) c.sort_unstable.ensures.sorted
