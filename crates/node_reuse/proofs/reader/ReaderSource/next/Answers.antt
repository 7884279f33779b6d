use Rattle.std.proofs.Common.{◌≡◌, ◌+◌, ◌≤◌, ◌∙◌, true, false, Result, Ok, Err, refl, ap, sym, length, arith}
use Rattle.std.specs.Prelude.{OnErr}
use Rattle.std.proofs.lemmas.Bool.{ltb-true}
use Rattle.hiding_rules.specs.Hidden.{scanner}
use Rattle.mark_rules.specs.declared.Mark.TheVariants.{New}
use Rattle.node_reuse.specs.declared.line.Line.{Line}
use Rattle.node_reuse.specs.OldText.{OldText}
use Rattle.node_reuse.specs.Reader.{Sight, sight, asked_so, names_of, mark_of, StandsAt}
use Rattle.node_reuse.proofs.FreshReader.{fresh_line, lines_within}
use Rattle.node_reuse.specs.Paying.{runs_ahead}
use Rattle.node_reuse.proofs.NewRuns.{still_told, runs_forward}
use Rattle.node_reuse.proofs.ReaderCalls.{reads_comes, reads_stands, reads_asks, IsKnown, still_settled, new_call, failed_asks, last_line, has_numbers, unscanned, entered_kept}
use Rattle.node_reuse.proofs.ReaderPays.{room_at, pays_so_if, new_pays}
use Rattle.node_reuse.proofs.reader.ReaderSource.next.Goals as goal

on_err : {A E : Type 0} (r : Result A E) (l : Line) → OnErr r (l ≡ l)
on_err (Ok x) l = tt
on_err (Err e) l = refl

pub overflow_add-number : goal.overflow_add-number
overflow_add-number g c = omega (arith, (has_numbers c.requires.stands.at).within, c.lines-count.ensures.lines, c.lines-count.ensures.fits, ap length c.hunks.ensures, ap length c.requires.stands.marks)

pub is_kept-requires-clause-there : goal.is_kept-requires-clause-there
is_kept-requires-clause-there g c = omega (arith, (has_numbers c.requires.stands.at).within)

pub is_kept-requires-clause-fits : goal.is_kept-requires-clause-fits
is_kept-requires-clause-fits g c = omega (arith, c.lines-count.ensures.lines, c.lines-count.ensures.fits, ap length c.hunks.ensures, ap length c.requires.stands.marks)

pub is_kept-requires-clause-entered : goal.is_kept-requires-clause-entered
is_kept-requires-clause-entered g c = λ entered untold.
    let self = c.args.self.now in
    entered_kept _ _ _ c.requires.stands.at (unscanned self.line.now.scanned self.place.lines self.new_to c.requires.stands.scanned untold)
    (ltb-true 0 self.place.columns entered)

-- ---- in a kept line

pub next_of_old-requires-clause-there : goal.next_of_old-requires-clause-there
next_of_old-requires-clause-there g c = omega (arith, (has_numbers c.requires.stands.at).within, ap (λ (o : OldText). length o.marks) c.is_kept.ensures.same)

pub returns-then-is_kept : goal.returns-then-is_kept
returns-then-is_kept g c =
    let self = c.args.self.now in
    let s : Sight = sight (scanner self.rules.table.now self.rules.hiding.now) (g.Q.Lines.state self.lines.now).contents (g.O.Old.text self.text.now) in
    let asked = asked_so (g.Q.Lines.state self.lines.now).asked (names_of self.text self.lines self.steps self.line) in
    let new = c.next_of_old.new.place in
    let kept = c.is_kept.ensures.kept c.if-is_kept.true in
    let new_to = c.is_kept.new.new_to in
    let fresh = unscanned self.line.now.scanned self.place.lines self.new_to c.requires.stands.scanned (c.is_kept.ensures.untold c.if-is_kept.true) in
    let reads = c.next_of_old.ensures.reads s self.line.now (sym c.is_kept.ensures.same) kept fresh c.requires.stands.at in
    let known : IsKnown s new self.line.now new_to = record {
      told = still_told s.old.marks self.place.lines new.lines new_to c.next_of_old.ensures.forward c.is_kept.ensures.told;
      scanned = λ e. let clash : true ≡ false = sym e ∙ fresh in cc;
    } in
    let runs : runs_ahead s.old.marks new.lines new_to ≤ runs_ahead s.old.marks self.place.lines self.new_to =
    omega (arith, c.is_kept.ensures.runs, runs_forward s.old.marks self.place.lines new.lines new_to new_to c.next_of_old.ensures.forward (omega arith)) in
    let steps = c.next_of_old.new.steps in
    record {
      comes =
          rw (c.next_of_old.ensures.same_text, c.is_kept.ensures.same)
          (reads_comes c.next_of_old.result s asked self.place new self.line.now self.line.now c.args.opened c.args.level reads);
      stands =
          rw (c.next_of_old.ensures.same_text, c.is_kept.ensures.same)
          (still_settled c.next_of_old.result s self.rules.settled.now self.place new self.line.now self.line.now self.new_to new_to c.requires.stands known
          (reads_stands c.next_of_old.result s self.place new self.line.now self.line.now c.args.opened c.args.level reads));
      asks =
          rw (c.next_of_old.ensures.same_text, c.is_kept.ensures.same)
          (reads_asks c.next_of_old.result s asked self.place new self.line.now self.line.now c.args.opened c.args.level reads
          c.next_of_old.ensures.same_place (on_err c.next_of_old.result self.line.now));
      pays = λ room.
          rw (c.next_of_old.ensures.same_text, c.is_kept.ensures.same)
          (pays_so_if s self.place new self.line.now self.line.now self.steps.now steps steps self.new_to new_to (omega (arith, runs)) c.next_of_old.result
          (c.next_of_old.ensures.pays s self.line.now self.steps.now (sym c.is_kept.ensures.same) kept fresh c.requires.stands.at c.is_kept.ensures.step
          (room_at s self.steps.now self.place self.line.now self.new_to c.args.level room)));
      spends = λ room. omega (arith, c.next_of_old.ensures.steps, c.is_kept.ensures.step);
    }

-- ---- in a new line

pub enter-requires-clause-there : goal.enter-requires-clause-there
enter-requires-clause-there g c = omega (arith, (has_numbers c.requires.stands.at).within, c.requires.stands.at.sound.counted)

pub enter-requires-clause-count : goal.enter-requires-clause-count
enter-requires-clause-count g c = omega (arith, (has_numbers c.requires.stands.at).asked, c.lines-count.ensures.lines, c.lines-count.ensures.fits, ap length c.hunks.ensures, ap length c.requires.stands.marks)

pub returns-in_err-enter-clause-asks : goal.returns-in_err-enter-clause-asks
returns-in_err-enter-clause-asks g c =
    let self = c.args.self.now in
    let s : Sight = sight (scanner self.rules.table.now self.rules.hiding.now) (g.Q.Lines.state self.lines.now).contents (g.O.Old.text self.text.now) in
    let new : mark_of s self.place ≡ New = c.is_kept.ensures.new c.if-is_kept.false in
    let borrows = names_of self.text self.lines self.steps self.line in
    rw c.is_kept.ensures.same
    (failed_asks s.by s.contents (g.Q.Lines.state c.enter.new.lines).contents s.old c.enter.ensures.contents
    (asked_so (g.Q.Lines.state self.lines.now).asked borrows) (asked_so (g.Q.Lines.state c.enter.new.lines).asked borrows)
    self.place self.line.now c.enter.new.line (c.enter.ensures.asks s self.place borrows refl new c.requires.stands.at))

pub next_of_line-requires-clause-in_line : goal.next_of_line-requires-clause-in_line
next_of_line-requires-clause-in_line g c =
    let self = c.args.self.now in
    let s : Sight = sight (scanner self.rules.table.now self.rules.hiding.now) (g.Q.Lines.state self.lines.now).contents (g.O.Old.text self.text.now) in
    let new : mark_of s self.place ≡ New = c.is_kept.ensures.new c.if-is_kept.false in
    let stands : StandsAt s self.place c.enter.new.line = c.in_ok-enter.ensures.stands s self.place refl refl refl new c.requires.stands.at in
    (fresh_line s self.place c.enter.new.line stands c.in_ok-enter.ensures.scanned).line

pub next_of_line-requires-clause-fits : goal.next_of_line-requires-clause-fits
next_of_line-requires-clause-fits g c = omega (arith, (has_numbers c.requires.stands.at).within, c.lines-count.ensures.lines, c.lines-count.ensures.fits, ap length c.hunks.ensures, ap length c.requires.stands.marks)

pub returns : goal.returns
returns g c =
    let self = c.args.self.now in
    let s : Sight = sight (scanner self.rules.table.now self.rules.hiding.now) (g.Q.Lines.state self.lines.now).contents (g.O.Old.text self.text.now) in
    let after = g.Q.Lines.state c.enter.new.lines in
    let borrows = names_of self.text self.lines self.steps self.line in
    let new : mark_of s self.place ≡ New = c.is_kept.ensures.new c.if-is_kept.false in
    let stands : StandsAt s self.place c.enter.new.line = c.in_ok-enter.ensures.stands s self.place refl refl refl new c.requires.stands.at in
    let count : c.lines-count.result ≡ length s.contents = c.lines-count.ensures.lines ∙ ap length c.hunks.ensures ∙ ap length (sym c.requires.stands.marks) ∙ c.requires.stands.at.sound.counted in
    let new_to = c.is_kept.new.new_to in
    let q = c.next_of_line.new.place in
    let known : IsKnown s q c.next_of_line.new.line new_to = record {
      told = still_told s.old.marks self.place.lines q.lines new_to c.next_of_line.ensures.forward c.is_kept.ensures.told;
      scanned = λ e. omega (arith, c.next_of_line.ensures.in_line e, c.is_kept.ensures.within c.if-is_kept.false);
    } in
    let runs : c.is_kept.new.steps + runs_ahead s.old.marks q.lines new_to ≤ self.steps.now + runs_ahead s.old.marks self.place.lines self.new_to =
    omega (
      arith,
      c.is_kept.ensures.pays c.if-is_kept.false,
      runs_forward s.old.marks self.place.lines q.lines new_to new_to c.next_of_line.ensures.forward (omega arith),
    ) in
    let reads = c.next_of_line.ensures.reads s c.args.opened c.args.level c.requires.level stands
    (last_line s self.place c.lines-count.result count (lines_within s self.place self.line.now c.requires.stands.at)) in
    let next = new_call c.next_of_line.result s.by s.contents after.contents s.old self.rules.settled.now c.enter.ensures.contents
    (g.Q.Lines.state self.lines.now).asked after.asked borrows self.place q self.line.now c.enter.new.line
    c.next_of_line.new.line self.new_to new_to c.args.opened c.args.level c.requires.stands known reads
    c.next_of_line.ensures.same_place c.next_of_line.ensures.same_line (c.enter.ensures.asks s self.place borrows refl new c.requires.stands.at) in
    record {
      comes = rw c.is_kept.ensures.same next.comes;
      stands = rw c.is_kept.ensures.same next.stands;
      asks = rw c.is_kept.ensures.same next.asks;
      pays = λ room.
          rw c.is_kept.ensures.same
          (new_pays c.next_of_line.result s.by s.contents after.contents s.old c.enter.ensures.contents
          self.steps.now self.place q self.line.now c.enter.new.line c.next_of_line.new.line
          (c.in_ok-enter.ensures.pays s self.place self.steps.now refl refl refl new c.requires.stands.at)
          (c.next_of_line.ensures.pays s self.steps.now stands) c.is_kept.new.steps self.new_to new_to runs);
      spends = λ room. omega (arith, c.is_kept.ensures.step);
    }
