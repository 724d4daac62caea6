use Rattle.elim.proofs.elim_program.block.+write_entries.Given as goal

abbrev pub decreases-write_entries : goal.decreases-write_entries
decreases-write_entries l = l.count
