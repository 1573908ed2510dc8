use Rattle.augment_tri.proofs.Growth.{grown_ear, spare_for_ear}
use Rattle.augment_tri.proofs.NearEars.{live_dart, near_covered}
use Rattle.augment_tri.proofs.ears.cut_near.Goals as goal

pub cut_ear-new-requires-clause-spare : goal.cut_ear-new-requires-clause-spare
cut_ear-new-requires-clause-spare c =
    let map = c.args.map.now in
    let d = live_dart map c.args.d.0 c.requires.live in
    spare_for_ear map d.0.0 d.0.1 c.requires.fillable.roomy (c.requires.fillable.roomy.known.is_dart c.args.d.0 d.0.0 d.0.1 d.1) (c.requires.large d.0.0 d.0.1 d.1)

pub returns-clause-fillable : goal.returns-clause-fillable
returns-clause-fillable c =
    let map = c.args.map.now in
    let d = live_dart map c.args.d.0 c.requires.live in
    let ear = c.ear_near-ear.ensures d.0.0 d.0.1 d.1 in
    let cut = c.cut_ear-new.ensures.cut ear.0 ear.1 ear.2 in
    let grown = grown_ear map c.cut_ear-new.new.map c.requires.fillable.roomy c.cut_ear-new.ensures.known c.cut_ear-new.ensures.spare c.cut_ear-new.ensures.ids ear.0 ear.1 c.requires.fillable.one ear.3 cut in
    record { roomy = grown.0; one = grown.2 }

pub returns-clause-grown : goal.returns-clause-grown
returns-clause-grown c =
    let map = c.args.map.now in
    let d = live_dart map c.args.d.0 c.requires.live in
    let ear = c.ear_near-ear.ensures d.0.0 d.0.1 d.1 in
    let cut = c.cut_ear-new.ensures.cut ear.0 ear.1 ear.2 in
    (grown_ear map c.cut_ear-new.new.map c.requires.fillable.roomy c.cut_ear-new.ensures.known c.cut_ear-new.ensures.spare c.cut_ear-new.ensures.ids ear.0 ear.1 c.requires.fillable.one ear.3 cut).1

pub returns-clause-covered : goal.returns-clause-covered
returns-clause-covered c = λ first k a b at_d covered v u at_at.
    let map = c.args.map.now in
    let near = c.ear_near-ear.ensures a b at_d in
    let cut = c.cut_ear-new.ensures.cut near.0 near.1 near.2 in
    near_covered map c.cut_ear-new.new.map c.args.d.0 c.ear_near-ear.result.0 c.cut_ear-new.result.0 c.dart_after_cut.result.0 a b near.0 near.1 c.requires.fillable.roomy near.3 cut at_d near.2 near.4
    (c.cut_ear-new.ensures.dart near.0 near.1 near.2) c.cut_ear-new.ensures.ids c.dart_after_cut.ensures first k covered v u at_at
