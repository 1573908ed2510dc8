-- No word is read.
use Rattle.std.proofs.Common.{◌≡◌, false, nat_lt, [], length, refl, arith}
use Rattle.std.proofs.lemmas.Bool.Decides.{nat_tests}
use Rattle.figure_text.proofs.vertex_fronts.LineFront.new.Goals as goal

pub returns : goal.returns
returns c = λ place line.
    let here : nat_lt (length line) 0 ≡ false = grind (arith, nat_tests) in
    record { words = []; parts = rw here refl; long = refl; fits = λ i h. absurd (omega arith); within = λ i h. absurd (omega arith); room = refl; sizes = λ i h. absurd (omega arith) }
