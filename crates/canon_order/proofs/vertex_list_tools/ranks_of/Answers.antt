use Rattle.std.proofs.Common.{◌≡◌, ℕ, List, map, length, subst, sym, ap, ◌∙◌, arith}
use Rattle.std.proofs.lemmas.List.{take_at, length-map}
use Rattle.canon_order.specs.Orders.{IsRankOf}
use Rattle.canon_order.proofs.Counters.{IsRankOf-places}
use Rattle.canon_order.proofs.vertex_list_tools.ranks_of.Goals as goal

pub returns : goal.returns
returns c =
    let at = map (λ v. v.0) c.args.at.now in
    let all = length-map c.args.at.now (λ v. v.0) in
    let n : length c.write_places.new.ranks ≡ length c.args.at.now = omega (arith, c.write_places.auto.ranks, c.in_ok-ranks.ensures, ap length c.deref_mut.ensures.value) in
    let done = IsRankOf-places c.write_places.new.ranks at (omega (arith, n, all)) (λ k d l. let within = c.requires.within k d l in omega (arith, all)) c.requires.distinct (λ i l. c.write_places.ensures i (omega (arith, all))) in
    subst (λ (r : List ℕ). IsRankOf r at) (sym (c.from_vec.ensures ∙ take_at c.write_places.new.ranks _ c.in_ok-ranks.ranks.len (omega (arith, n, c.in_ok-ranks.ensures)))) done
