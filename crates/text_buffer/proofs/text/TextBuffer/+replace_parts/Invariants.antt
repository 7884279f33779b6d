use Rattle.std.proofs.Common.{length}
use Rattle.text_buffer.proofs.text.TextBuffer.+replace_parts.Given as goal

abbrev pub decreases-replace_parts : goal.decreases-replace_parts
decreases-replace_parts l = length l.text.now
