use Rattle.sector.proofs.cover.+cover.Given as goal

abbrev pub decreases-cover : goal.decreases-cover
decreases-cover l = l.steps
