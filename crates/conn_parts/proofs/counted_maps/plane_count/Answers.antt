use Rattle.conn_parts.proofs.counted_maps.plane_count.Goals as goal

pub returns-clause-simple : goal.returns-clause-simple
returns-clause-simple c = (c.no_fault_is_simple.ensures c.args.lists.now c.requires.some_list).0 c.in_ok-count.ensures.simple
