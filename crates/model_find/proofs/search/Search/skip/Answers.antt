use Rattle.model_find.proofs.search.Search.skip.Goals as goal

pub next-start-requires-clause-knows : goal.next-start-requires-clause-knows
next-start-requires-clause-knows g c = c.go_to.ensures.knows c.args.run.now c.args.self.now.sought.now c.requires.within c.requires.knows
