use Rattle.std.proofs.Common.{◌≡◌, ◌++◌, ◌<◌, ℕ, List, [], ◌∷◌, length, get_or, Contains, sym, ap, ◌∙◌, subst, inl, inr, arith}
use Rattle.std.proofs.lemmas.Bool.{cases_lt}
use Rattle.std.proofs.lemmas.List.{length-append, get_or_append_left, get_or_push}
use Rattle.std.proofs.lemmas.List.Elements.{Contains-get_or}
use Rattle.map_theory.specs.Maps.{list_of}
use Rattle.graph_search.specs.Arcs.{arcs_of}
use Rattle.schnyder_grid.specs.Arcs.{AreArcs}
use Rattle.schnyder_grid.proofs.order_arcs.wood_arcs.Goals as goal

pub put_row-requires-clause-within : goal.put_row-requires-clause-within
put_row-requires-clause-within c = λ k d l.
    let items = c.list.result.now in
    let e = c.loop-e.e in
    let e_in : e < length c.args.lists.now = omega (arith, c.loop-e-test.true, c.len-e-end.ensures.is) in
    let in_list = subst (λ us. Contains us (get_or items k d)) c.list.ensures (Contains-get_or items k d l) in
    omega (arith, c.requires.within e (get_or items k d) (e_in, in_list), c.requires.count)

pub loop-e-preserved : goal.loop-e-preserved
loop-e-preserved c =
    let lists = c.args.lists.now in
    let wood = c.args.wood.now in
    let old = c.loop-e.arcs in
    let new = c.push.new.self in
    let row = c.deref.result.now in
    let items = c.put_row.new.row.items in
    let grown : new ≡ old ++ row ∷ [] = c.in_ok-push.ensures.ok in
    let h = c.loop-e.invariant in
    record {
      count = omega (arith, ap length grown, length-append old (row ∷ []), h.count);
      rows = λ g l. elim (cases_lt g c.loop-e.e) [
        | inl less ↦ subst (λ (us : List ℕ). AreArcs wood g (list_of lists g) us) (sym (ap (λ (z : List (List ℕ)). arcs_of z g) grown ∙ get_or_append_left old (row ∷ []) [] g (omega (arith, less, h.count)))) (h.rows g less)
        | inr most ↦
            let e : g ≡ c.loop-e.e = omega (arith, most, l) in
            let here : arcs_of new g ≡ row = ap (λ (z : List (List ℕ)). arcs_of z g) grown ∙ get_or_push old row [] g (omega (arith, e, h.count)) in
            subst (λ (us : List ℕ). AreArcs wood g (list_of lists g) us) (sym (here ∙ c.deref.ensures.value))
            (subst (λ z. AreArcs wood z (list_of lists z) items) (sym e) (subst (λ (us : List ℕ). AreArcs wood c.loop-e.e us items) c.list.ensures c.in_ok-put_row.ensures))
      ];
    }
