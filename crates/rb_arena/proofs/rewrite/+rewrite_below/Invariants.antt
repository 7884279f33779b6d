use Rattle.rb_arena.proofs.rewrite.+rewrite_below.Given as goal

abbrev pub decreases-rewrite_below : goal.decreases-rewrite_below
decreases-rewrite_below g l = l.levels
