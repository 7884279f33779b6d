use Rattle.std.proofs.Common.{◌≡◌, ℕ, ◌-◌, ◌++◌, List, length, take, ap, sym, ◌∙◌, arith}
use Rattle.std.specs.List.{concat}
use Rattle.std.proofs.lemmas.List.{append-nil, length-append, length-drop}
use Rattle.piece_tree.specs.Pieces.{pieces_of}
use Rattle.text_buffer.specs.Text.{spelled}
use Rattle.text_buffer.proofs.RunCopies.{copied}
use Rattle.text_buffer.proofs.view.View.push_span.Goals as goal

pub loop-left-init : goal.loop-left-init
loop-left-init c =
    let x : List ℕ = spelled c.args.self.now.chunks.now.buffers (pieces_of c.args.self.now.pieces.now.entries) in
    let most : ℕ = c.args.span.end - c.args.span.start in record {
      copied = ap (λ s. c.args.out.now.items ++ take most s) c.new-runs.ensures.units;
      enough = omega (arith, ap length c.new-runs.ensures.units, length-drop c.args.span.start x, c.requires.within);
      room = c.requires.room;
    }

pub loop-left-preserved : goal.loop-left-preserved
loop-left-preserved c =
    let left : ℕ = c.loop-left.left in
    let run = ap concat c.in-Some.ensures.run in record {
      copied = copied c.loop-left.out.items c.push_first-left.new.out.items _ c.in-Some.run'.now (concat c.next.new.self.left) left (left - c.push_first-left.result)
          c.push_first-left.ensures.items (ap (λ n. left - n) c.push_first-left.ensures.count)
          (ap (λ s. c.loop-left.out.items ++ take left s) (sym run) ∙ c.loop-left.invariant.copied);
      enough = omega (arith, ap length run, length-append c.in-Some.run'.now (concat c.next.new.self.left), c.loop-left.invariant.enough, c.push_first-left.ensures.count);
      room = c.push_first-left.ensures.room;
    }

pub returns : goal.returns
returns c =
    let none : c.loop-left.left ≡ 0 = omega arith in
    sym (ap (λ (k : ℕ). c.loop-left.out.items ++ take k (concat c.loop-left.runs.left)) none ∙ append-nil c.loop-left.out.items) ∙ c.loop-left.invariant.copied
