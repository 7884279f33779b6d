use Rattle.rb_arena.proofs.level.+level.Given as goal

abbrev pub decreases-level : goal.decreases-level
decreases-level g l = l.levels
