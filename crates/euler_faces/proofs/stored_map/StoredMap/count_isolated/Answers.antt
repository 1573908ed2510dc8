use Rattle.std.proofs.Common.{◌≡◌, ◌≢◌, suc, ◌+◌, length, refl, sym, ap, ◌∙◌, arith}
use Rattle.std.proofs.lemmas.Bool.{eqb-false}
use Rattle.std.proofs.lemmas.List.{take_all, nil_from_length}
use Rattle.map_lists.specs.Cuts.{cut}
use Rattle.map_lists.proofs.CutLemmas.{AreCuts-at}
use Rattle.map_theory.specs.Maps.{list_of, isolated_count}
use Rattle.simple_maps.proofs.FlatLemmas.{length-list}
use Rattle.euler_faces.proofs.IsolatedLemmas.{isolated_count_empty, isolated_count_some, none_isolated}
use Rattle.euler_faces.proofs.stored_map.StoredMap.count_isolated.Goals as goal
use Rattle.euler_faces.proofs.stored_map.StoredMap.count_isolated.Goals.{then-map-v, else-map-v}

pub returns-then-not-is_empty-clause-count : goal.returns-then-not-is_empty-clause-count
returns-then-not-is_empty-clause-count c =
    let lists = cut 0 c.args.self.now.ends.now c.args.self.now.entries.now in
    let all = c.facts.ensures.darts in
    let some : length c.args.self.now.entries.now ≢ 0 = eqb-false (length c.args.self.now.entries.now) 0 (sym c.if-not-is_empty.ensures) in
    sym (none_isolated lists c.facts.ensures.simple (sym c.requires ∙ c.if-components-eq1.true) (omega arith))

pub loop-v-preserved : goal.loop-v-preserved
loop-v-preserved c =
    let h = c.loop-v.invariant in
    let v = c.loop-v.v in
    let ends = c.args.self.now.ends.now in
    let entries = c.args.self.now.entries.now in
    let cuts = c.facts.ensures.cuts in
    let n : v + 1 ≡ suc v = omega arith in
    let begins = h.start_is in
    let lists = cut 0 ends entries in
    let long = c.facts.ensures.vertices in
    let size = length-list ends entries cuts v c.loop-v-test.true in
    let at = AreCuts-at 0 ends (length entries) v cuts c.loop-v-test.true in
    elim c.if-map-v.branch [
      | then-map-v w ↦
          (let same = w.if-map-v.true in
          record {
            few = omega (arith, h.few);
            start_is = rw n refl;
            isolated = w.count-is ∙ (ap (λ x. x + 1) h.isolated ∙ sym (isolated_count_empty lists v (omega arith) (nil_from_length (list_of lists v) (omega arith))));
          })
      | else-map-v w ↦
          (let other = w.if-map-v.false in
          record {
            few = omega (arith, h.few);
            start_is = rw n refl;
            isolated = w.count-is ∙ (h.isolated ∙ sym (isolated_count_some lists v (omega arith) (omega arith)));
          })
    ]

pub returns-clause-count : goal.returns-clause-count
returns-clause-count c =
    let long = c.facts.ensures.vertices in
    c.loop-v.invariant.isolated ∙ ap isolated_count (take_all c.loop-v.v (cut 0 c.args.self.now.ends.now c.args.self.now.entries.now) (omega arith))
