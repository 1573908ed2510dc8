use Rattle.rect_check.proofs.shared_sides.are_adjacent.Goals as goal

pub returns-else-degree : goal.returns-else-degree
returns-else-degree c =
    let found = c.is_in_list-else-degree.ensures in
    let turned = c.args.map.now.known.simple.both_ways in
    ((λ t. turned c.args.v.0 c.args.u.0 (found.0 t)), (λ d. found.1 (turned c.args.u.0 c.args.v.0 d)))
