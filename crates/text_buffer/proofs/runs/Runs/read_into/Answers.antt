use Rattle.std.proofs.Common.{◌≤◌, length, ap, sym, ◌∙◌, arith}
use Rattle.std.specs.List.{concat}
use Rattle.std.proofs.lemmas.List.{length-append, length-drop}
use Rattle.text_buffer.proofs.RunCopies.{read_more, read_rest}
use Rattle.text_buffer.proofs.runs.Runs.read_into.Goals as goal

pub returns-in_default-clause-count : goal.returns-in_default-clause-count
returns-in_default-clause-count c =
    let told = c.loop-done.invariant in
    let left = told.rest (omega (arith, c.loop-done-test.true, told.size)) in
    omega (arith, told.within, told.there, ap length (sym left ∙ ap concat c.in_default.ensures.run), length-drop c.loop-done.done (concat c.args.self.now.left))

pub loop-done-preserved : goal.loop-done-preserved
loop-done-preserved c =
    let told = c.loop-done.invariant in
    let whole = concat c.args.self.now.left in let run = c.in-Some.run'.now in let next = concat c.next.new.self.left in
    let done = c.loop-done.done in let count = c.copy_at-done.result in
    let more = sym (told.rest (omega (arith, c.loop-done-test.true, told.size))) ∙ ap concat c.in-Some.ensures.run in
    let size = ap length more ∙ length-append run next in
    let reach = length-drop done whole in
    let within : count ≤ length run = omega (arith, c.copy_at-done.ensures.count) in
    record {
      size = c.copy_at-done.auto.out ∙ told.size;
      within = omega (arith, c.copy_at-done.ensures.count, told.size, told.within);
      there = omega (arith, size, reach, within, told.there);
      read = c.copy_at-done.ensures.units ∙ read_more whole run next done count more within c.args.out.now c.loop-done.out told.there told.read;
      rest = λ less. read_rest whole run next done count more within (omega (arith, c.copy_at-done.ensures.count, less, told.size));
    }
