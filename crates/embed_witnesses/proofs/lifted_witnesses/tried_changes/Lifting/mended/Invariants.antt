use Rattle.std.proofs.Common.{ℕ, ◌<◌, ◌≤◌}
use Rattle.embed_witnesses.specs.declared.lifted_witnesses.change_kinds.Change.TheVariants.{Mended}
use Rattle.embed_witnesses.specs.Changes.{step_count, IsRight}
use Rattle.embed_witnesses.proofs.lifted_witnesses.tried_changes.Lifting.mended.Given as goal

abbrev pub invariant-loop-path : goal.invariant-loop-path
invariant-loop-path l =
    (path place : ℕ) → path < l.path → place ≤ step_count l.self.old.now.paths path → ¬ IsRight l.self.graph.now l.self.old.now (Mended (record { exchange = l.exchange; a = l.self.e.a.0; b = l.self.e.b.0; path = path; place = place }))

abbrev pub invariant-loop-place : goal.invariant-loop-place
invariant-loop-place l =
    (place : ℕ) → place < l.place → ¬ IsRight l.self.graph.now l.self.old.now (Mended (record { exchange = l.exchange; a = l.self.e.a.0; b = l.self.e.b.0; path = l.path; place = place }))
