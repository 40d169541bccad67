use Rattle.bx_map.proofs.edges.+put_fan_edges.Given as goal

abbrev pub decreases-put_fan_edges : goal.decreases-put_fan_edges
decreases-put_fan_edges l = l.halvings
