use Rattle.h2_conn.proofs.blocks.+frame.Given as goal

abbrev pub decreases-frame : goal.decreases-frame
decreases-frame l = l.more
