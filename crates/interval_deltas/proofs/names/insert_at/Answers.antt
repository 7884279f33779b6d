use Rattle.std.proofs.Common.{◌+◌, ◌∷◌, ◌++◌, length, take, drop, ap, ◌∙◌}
use Rattle.std.specs.List.{insert}
use Rattle.std.proofs.lemmas.List.{length-set}
use Rattle.paged_list.specs.List.{Paged}
use Rattle.interval_deltas.specs.declared.names.Entry.{Entry}
use Rattle.interval_deltas.proofs.Entries.{moved_up}
use Rattle.interval_deltas.proofs.names.insert_at.Goals as goal

pub loop-place-preserved : goal.loop-place-preserved
loop-place-preserved c =
    let es = c.loop-place.entries.items in let place = c.loop-place.place in let moved = c.loop-place.moved in let stood = c.get-stood.result.now in
    let is = ap (λ (p : Paged Entry). p.items) c.set.ensures in (
      ap (λ l. take (place + 1) l ++ stood ∷ drop (place + 1) l) is
          ∙ moved_up es (insert c.args.entries.now.items c.args.at c.args.entry) place moved stood c.loop-place.invariant.0 c.get-stood.ensures,
      ap length is ∙ length-set es place moved ∙ c.loop-place.invariant.1,
      ap (λ (p : Paged Entry). p.capacity) c.set.ensures ∙ c.loop-place.invariant.2,
    )
