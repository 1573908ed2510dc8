use Rattle.std.proofs.Common.{◌≡◌, ◌<◌, ◌-◌, suc, length, get_or, sym, ◌∙◌, subst, arith}
use Rattle.std.proofs.lemmas.List.{get_or_read}
use Rattle.pg_perm.proofs.Repeats.{IsPlaces, IsFoundFrom, IsPlaces-more, IsFirstFrom-new, IsFoundFrom-old, IsFoundFrom-all}
use Rattle.pg_perm.proofs.repeated_image.first_repeat.Goals as goal
use Rattle.pg_perm.proofs.repeated_image.first_repeat.Goals.{then-later-none, else-later-none}

pub loop-i-preserved : goal.loop-i-preserved
loop-i-preserved c =
    let images = c.args.images.now in
    let place = c.loop-i.place.items in
    let i = c.loop-i.i - 1 in
    let x = get_or images i 0 in
    let in_i : i < length images = omega arith in
    let in_x : x < length images = c.requires.in_range i 0 in_i in
    let next : c.loop-i.i ≡ suc i = omega arith in
    let h = subst (λ n. IsPlaces images place n) next c.loop-i.invariant.0 in
    let f = subst (λ n. IsFoundFrom images n c.loop-i.found) next c.loop-i.invariant.1 in
    let in_place : x < length place = omega (arith, h.size) in
    let later = get_or_read place x c.index-later.result.now in_place c.index-later.ensures 0 in (
      IsPlaces-more images place i in_i in_x h,
      elim c.if-later-none.branch [
        | then-later-none w ↦ rw w.found-is (IsFirstFrom-new images place i c.index-later.result.now in_x h later (omega (arith, w.if-later-none.true)))
        | else-later-none w ↦ rw w.found-is (IsFoundFrom-old images place i c.loop-i.found in_x h (sym later ∙ omega (arith, w.if-later-none.false)) f)
      ],
    )

pub returns : goal.returns
returns c =
    let start : c.loop-i.i ≡ 0 = omega arith in
    IsFoundFrom-all c.args.images.now c.loop-i.found (subst (λ n. IsFoundFrom c.args.images.now n c.loop-i.found) start c.loop-i.invariant.1)
