use Rattle.drawing_rows.proofs.trees.answer.Given as goal

abbrev pub ghosts-put_sums : goal.ghosts-put_sums
ghosts-put_sums a = record { name = a.blank.name; parts = a.blank.parts }
