use Rattle.std.proofs.Common.{inl, inr}
use Rattle.plane_laws.specs.Chords.{CanJoin}
use Rattle.augment_tri.proofs.NearEars.{MatchBool-weaker, CanJoin-turned}
use Rattle.augment_tri.proofs.ears.FacePath.is_first.Goals as goal

pub returns-else-degree : goal.returns-else-degree
returns-else-degree c =
    let lists = c.args.self.now.map.now.lists in
    let simple = c.args.self.now.map.now.known.simple in
    let turned = CanJoin-turned lists c.args.self.now.c.0 c.args.self.now.a.0 simple in
    let chord : Type 0 = CanJoin lists c.args.self.now.a.0 c.args.self.now.c.0 in
    let back : Type 0 = CanJoin lists c.args.self.now.c.0 c.args.self.now.a.0 in
    MatchBool-weaker c.can_join-else-degree.result back (¬ back) chord (CanJoin lists c.args.self.now.b.0 c.args.self.now.x.0) c.can_join-else-degree.ensures turned
    (λ none. elim c.requires [ inl j ↦ absurd (none (CanJoin-turned lists c.args.self.now.a.0 c.args.self.now.c.0 simple j)) | inr j ↦ j ])
