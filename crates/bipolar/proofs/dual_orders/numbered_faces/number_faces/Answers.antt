use Rattle.std.proofs.Common.{◌≡◌, ℕ, List, length, get_or, map, drop, ap, ◌∙◌, arith}
use Rattle.std.proofs.lemmas.List.{take_at}
use Rattle.map_lists.specs.Cuts.{cut}
use Rattle.map_lists.proofs.CutLemmas.{length-cut}
use Rattle.euler_faces.specs.FaceSearch.{no_face}
use Rattle.euler_faces.proofs.SearchLemmas.{unset_after}
use Rattle.bipolar.proofs.FaceNumbering.{few_faces_all, AreFaceNumbers-all, AreFaceArcs-all}
use Rattle.bipolar.proofs.dual_orders.numbered_faces.number_faces.Goals as goal

pub number_all-requires-clause-unset : goal.number_all-requires-clause-unset
number_all-requires-clause-unset c = λ i. rw c.deref_mut.ensures.value (unset_after no_face _ _ _ _ i c.clear.ensures.items c.in_ok-resize.ensures.items)

pub returns-clause-numbers : goal.returns-clause-numbers
returns-clause-numbers c =
    let of = c.number_all.new.of in
    let lists = cut 0 c.args.ends.now c.args.entries.now in
    let len : length of ≡ c.resize.new.self.len = c.number_all.auto.of ∙ c.deref_mut.ensures.len in
    let count : length c.from_parts.result ≡ length c.number_all.new.arc_ends.items = ap (λ (z : List (List ℕ)). length z) c.from_parts.ensures ∙ length-cut 0 c.number_all.new.arc_ends.items _ in
    rw (take_at of _ c.resize.new.self.len len, count)
    (AreFaceNumbers-all c.args.entries.now c.args.ends.now c.args.twins.now c.requires.darts c.args.rank.now of c.number_all.new.arcs.items c.number_all.new.arc_ends.items c.in_ok-number_all.ensures)

pub returns-clause-arcs : goal.returns-clause-arcs
returns-clause-arcs c =
    let of = c.number_all.new.of in
    let lists = cut 0 c.args.ends.now c.args.entries.now in
    let len : length of ≡ c.resize.new.self.len = c.number_all.auto.of ∙ c.deref_mut.ensures.len in
    let whole = take_at of _ c.resize.new.self.len len in
    let count : length c.from_parts.result ≡ length c.number_all.new.arc_ends.items = ap (λ (z : List (List ℕ)). length z) c.from_parts.ensures ∙ length-cut 0 c.number_all.new.arc_ends.items _ in
    let arcs = c.lead_to_faces.new.arcs in
    let long : length arcs ≡ c.number_all.new.arcs.len = c.lead_to_faces.auto.arcs ∙ c.deref_mut-2.ensures.len in
    let kept = take_at arcs (drop (length arcs) c.number_all.new.arcs.items) c.number_all.new.arcs.len long in
    let is : arcs ≡ map (λ d. get_or of d 0) c.number_all.new.arcs.items =
    c.lead_to_faces.ensures ∙ (ap (λ (z : List ℕ). map (λ d. get_or z d 0) c.deref_mut-2.result.now) (c.deref.ensures.value ∙ whole) ∙ ap (map (λ d. get_or of d 0)) c.deref_mut-2.ensures.value) in
    rw (whole, count, c.from_parts.ensures, kept)
    (AreFaceArcs-all c.args.entries.now c.args.ends.now c.args.twins.now c.requires.darts c.args.rank.now of c.number_all.new.arcs.items c.number_all.new.arc_ends.items c.in_ok-number_all.ensures arcs is)

pub returns-clause-few : goal.returns-clause-few
returns-clause-few c =
    let count : length c.from_parts.result ≡ length c.number_all.new.arc_ends.items = ap (λ (z : List (List ℕ)). length z) c.from_parts.ensures ∙ length-cut 0 c.number_all.new.arc_ends.items _ in
    omega (arith, count, few_faces_all c.args.entries.now c.args.ends.now c.args.twins.now c.requires.darts c.args.rank.now c.number_all.new.of c.number_all.new.arcs.items c.number_all.new.arc_ends.items c.in_ok-number_all.ensures)
