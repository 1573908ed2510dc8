use Rattle.std.proofs.Common.{Some, rules, w32, FitsSigned}
use Rattle.std.proofs.lemmas.Int.{to_z-of_z}
use Rattle.bar_check.proofs.ColumnLemmas.{blocked, first_in_way}
use Rattle.bar_check.proofs.drawing.BarDrawing.first_through.Goals as goal

pub returns-in-Some-first_struck : goal.returns-in-Some-first_struck
returns-in-Some-first_struck c =
    let lists = c.args.self.now.map.now.lists in
    let fig = c.args.self.now.fig.now in
    let first = c.in-Some.ensures in
    let e = c.in-Some.e in
    let f : FitsSigned w32 c.column_of.result = search rules in
    let struck = rw (c.column_of.ensures, c.n.ensures.count) at (simp to_z-of_z at c.in-Some-first_struck.ensures) in
    record {
      before = λ a b v l through. first.before a b l (blocked lists fig a b v through);
      rest = record {
        before = λ b v l through. first.rest.before b l (blocked lists fig e.a.0 b v through);
        rest = first_in_way lists fig e.a.0 e.b.0 first.rest.here.edge (Some c.in-Some-first_struck.v) struck;
      };
    }

pub returns-in-None-first_struck : goal.returns-in-None-first_struck
returns-in-None-first_struck c =
    let f : FitsSigned w32 c.column_of.result = search rules in
    let free = rw (c.column_of.ensures, c.n.ensures.count) at (simp to_z-of_z at c.in-None-first_struck.ensures) in
    let struck = c.in-Some.ensures.rest.here.blocked in
    absurd (free struck.0 struck.1)

pub returns-in-None : goal.returns-in-None
returns-in-None c = λ a b v through. c.in-None.ensures a b (blocked c.args.self.now.map.now.lists c.args.self.now.fig.now a b v through)
