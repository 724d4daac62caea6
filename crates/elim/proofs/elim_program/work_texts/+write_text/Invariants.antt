use Rattle.elim.proofs.elim_program.work_texts.+write_text.Given as goal

abbrev pub decreases-write_text : goal.decreases-write_text
decreases-write_text l = l.count
