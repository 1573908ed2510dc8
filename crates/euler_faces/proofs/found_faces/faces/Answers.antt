use Rattle.std.proofs.Common.{◌≡◌, ◌∙◌, ◌+◌, ◌*◌, false, replicate, subst, sym}
use Rattle.euler_faces.specs.Numbers.{mark_at}
use Rattle.euler_faces.specs.FaceSearch.{no_face, with_face}
use Rattle.euler_faces.proofs.SearchLemmas.{unset}
use Rattle.euler_faces.proofs.found_faces.faces.Goals as goal

pub add_all-requires-clause-unset : goal.add_all-requires-clause-unset
add_all-requires-clause-unset c = λ i.
    let e : c.deref_mut.result.now ≡ replicate (2 * (c.m.result + c.spare.result)) no_face = c.deref_mut.ensures.value ∙ c.in_ok-of.ensures.items_if_clones_equal (λ y e. e) in
    subst (λ of. mark_at (with_face of) i ≡ false) (sym e) (unset no_face (2 * (c.m.result + c.spare.result)) i)
