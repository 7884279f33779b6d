-- The lines of a text keep their contents when its line endings are replaced by those of a kind.
use Rattle.std.proofs.Common.{◌≡◌, ℕ, List, [], ◌∷◌, map, refl, ap, sym, ◌∙◌}
use Rattle.unit_text.specs.declared.kind.Kind.{Kind}
use Rattle.unit_text.specs.declared.kind.Kind.TheVariants.{Mixed, Lf, Crlf}
use Rattle.unit_text.specs.Kinds.{normalized}
use Rattle.unit_text.proofs.WithEndings.{feeds, pairs}
use Rattle.text_rules.specs.Lines.{Line, lines_of}
use Rattle.text_rules.specs.LineEndings.{lines_with, lines_in}
use Rattle.text_rules.proofs.KindLines.{lines_of-normalized}
use Rattle.decoration_rules.specs.LineMoves.{HaveSameContents}

abbrev pub contents : List Line → List (List ℕ)
contents lines = map (λ line. line.content) lines

contents_with : (ending : List ℕ) (lines : List Line) → contents lines ≡ contents (lines_with ending lines)
contents_with ending [] = refl
contents_with ending (line ∷ lines) = ap (λ rest. line.content ∷ rest) (contents_with ending lines)

contents_in : (kind : Kind) (lines : List Line) → contents lines ≡ contents (lines_in kind lines)
contents_in Mixed lines = refl
contents_in Lf lines = contents_with feeds lines
contents_in Crlf lines = contents_with pairs lines

pub contents-normalized : (kind : Kind) (x : List ℕ) → HaveSameContents x (normalized kind x)
contents-normalized kind x = contents_in kind (lines_of x) ∙ ap contents (sym (lines_of-normalized kind x))

-- the same for the opposite direction
pub contents-of_normalized : (kind : Kind) (x : List ℕ) → HaveSameContents (normalized kind x) x
contents-of_normalized kind x = sym (contents-normalized kind x)
