use Rattle.drawing_rows.proofs.woods.wood_of.Goals as goal

pub returns : goal.returns
returns c = (c.requires.based.0, c.requires.based.1, c.in_ok-found.ensures.wood c.requires.based.0 c.requires.based.2)
