use Rattle.fpp_shift.proofs.shift_drawer.Shifter.list_draw.Given as goal

abbrev pub ghosts-points : goal.ghosts-points
ghosts-points a = record { name = a.blank.name; parts = a.blank.parts }
