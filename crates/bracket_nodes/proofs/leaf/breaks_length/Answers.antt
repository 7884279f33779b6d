use Rattle.std.proofs.Common.{◌∙◌, ap, sym}
use Rattle.std.proofs.Common.{ℕ}
use Rattle.text_lengths.specs.Length.{length_of}
use Rattle.bracket_nodes.proofs.Runs.{breaks_lines, breaks_length}
use Rattle.bracket_nodes.proofs.leaf.breaks_length.Goals as goal

pub returns : goal.returns
returns c =
    ap (λ (n : ℕ). length_of n 0) (breaks_lines c.args.height c.requires) ∙ sym (breaks_length c.args.height)
