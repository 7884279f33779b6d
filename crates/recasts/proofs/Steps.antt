-- The moves of two texts, line by line.
use Rattle.std.proofs.Common.{◌≡◌, ℕ, ◌+◌, ◌<◌, ◌≤◌, List, [], ◌∷◌, ◌++◌, length, drop, refl, ap, sym, subst, ◌∙◌, append_assoc, arith}
use Rattle.std.proofs.lemmas.List.{drop-drop, length-drop}
use Rattle.decoration_rules.specs.declared.LineMove.{LineMove}
use Rattle.text_rules.specs.Lines.{Line, lines_of, line_length}
use Rattle.decoration_rules.specs.LineMoves.{moves_from, HaveSameContents}
use Rattle.decoration_rules.proofs.Contents.{contents}
use Rattle.decoration_rules.proofs.LineMoves.{EndAsLines, lines_of-ends, same_content}
use Rattle.recasts.specs.FirstLine.{first_of, first_line}
use Rattle.recasts.proofs.FirstLines.{first_line-drop, lines_behind, last_line, first_line-within}

-- the line that starts at a place of a text
abbrev pub line_from : List ℕ → ℕ → Line
line_from text start = first_line (drop start text)

-- after its content a line has its break
pub behind_content : (text : List ℕ) (start content : ℕ) → content ≡ length (line_from text start).content
    → line_from text (start + content) ≡ record { content = []; break = (line_from text start).break }
behind_content text start content is =
    ap first_line (sym (drop-drop content start text)) ∙ first_line-drop content (drop start text) is

pub line_from-within : (text : List ℕ) (start : ℕ) → start ≤ length text → start + line_length (line_from text start) ≤ length text
line_from-within text start within = omega (arith, within, first_line-within (drop start text), length-drop start text)

-- the contents of both first lines have the same length, and both lines have a break or neither has
first_contents : (before after : List Line) → EndAsLines before → EndAsLines after → contents before ≡ contents after
    → length (first_of before).content ≡ length (first_of after).content
first_contents [] after ends ends_after same = absurd ends
first_contents (line ∷ before) [] ends ends_after same = absurd ends_after
first_contents (line ∷ before) (next ∷ after) ends ends_after same = (same_content line next before after same).0

both_broken : (before after : List Line) → EndAsLines before → EndAsLines after → contents before ≡ contents after
    → 0 < length (first_of before).break → 0 < length (first_of after).break
both_broken [] after ends ends_after same some = absurd ends
both_broken (line ∷ before) [] ends ends_after same some = absurd ends_after
both_broken (line ∷ []) (next ∷ after) ends ends_after same some = let none : length line.break ≡ 0 = ap length ends in absurd (omega arith)
both_broken (line ∷ second ∷ before) (next ∷ []) ends ends_after same some = absurd cc
both_broken (line ∷ second ∷ before) (next ∷ third ∷ after) ends ends_after same some = ends_after.0

-- the text behind its first line
abbrev pub behind : List ℕ → List ℕ
behind text = drop (line_length (first_line text)) text

module _ (x y : List ℕ) (same : HaveSameContents x y) where
  pub same_first : length (first_line x).content ≡ length (first_line y).content
  same_first = first_contents (lines_of x) (lines_of y) (lines_of-ends x) (lines_of-ends y) same

  some_after : 0 < length (first_line x).break → 0 < length (first_line y).break
  some_after = both_broken (lines_of x) (lines_of y) (lines_of-ends x) (lines_of-ends y) same

  pub same_behind : 0 < length (first_line x).break → HaveSameContents (behind x) (behind y)
  same_behind some =
      (same_content (first_line x) (first_line y) (lines_of (behind x)) (lines_of (behind y))
      (sym (ap contents (lines_behind x some)) ∙ same ∙ ap contents (lines_behind y (some_after some)))).1

  pub moves_more : (old new : ℕ) → 0 < length (first_line x).break
      → moves_from old new (lines_of x) (lines_of y)
      ≡ record { old = old; content = length (first_line x).content; new = new }
      ∷ moves_from (old + line_length (first_line x)) (new + line_length (first_line y)) (lines_of (behind x)) (lines_of (behind y))
  moves_more old new some = λ i. moves_from old new (lines_behind x some i) (lines_behind y (some_after some) i)

  pub moves_last : (old new : ℕ) → length (first_line x).break ≡ 0
      → moves_from old new (lines_of x) (lines_of y) ≡ record { old = old; content = length (first_line x).content; new = new } ∷ []
  moves_last old new none = ap (λ lines. moves_from old new lines (lines_of y)) (last_line x none) ∙ alone (lines_of y) (lines_of-ends y)
    where
      alone : (after : List Line) → EndAsLines after
          → moves_from old new (first_line x ∷ []) after ≡ record { old = old; content = length (first_line x).content; new = new } ∷ []
      alone [] ends = absurd ends
      alone (next ∷ after) ends = refl

-- the content of a line has the same length in the other text
pub content_after : (from to : List ℕ) (old new content : ℕ) → HaveSameContents (drop old from) (drop new to)
    → content ≡ length (line_from from old).content → content ≡ length (line_from to new).content
content_after from to old new content same is = is ∙ same_first (drop old from) (drop new to) same

-- One turn of the loop.
module _ (all items pushed : List LineMove) (from to : List ℕ) (old new content ending : ℕ)
    (moves : items ++ moves_from old new (lines_of (drop old from)) (lines_of (drop new to)) ≡ all)
    (same : HaveSameContents (drop old from) (drop new to))
    (is_content : content ≡ length (line_from from old).content)
    (is_ending : ending ≡ length (line_from from (old + content)).break)
    (is_pushed : pushed ≡ items ++ record { old = old; content = content; new = new } ∷ []) where
  abbrev before : List ℕ
  before = drop old from

  abbrev after : List ℕ
  after = drop new to

  ending_is : ending ≡ length (first_line before).break
  ending_is = is_ending ∙ ap (λ line. length line.break) (behind_content from old content is_content)

  next_content : content ≡ length (line_from to new).content
  next_content = content_after from to old new content same is_content

  pushed_is : pushed ≡ items ++ record { old = old; content = length (first_line before).content; new = new } ∷ []
  pushed_is = is_pushed ∙ ap (λ (n : ℕ). items ++ record { old = old; content = n; new = new } ∷ []) is_content

  pub last_move : ending ≡ 0 → pushed ≡ all
  last_move none =
      pushed_is ∙ ap (λ lines. items ++ lines) (sym (moves_last before after same old new (sym ending_is ∙ none))) ∙ moves

  module _ (next : ℕ) (is_next : next ≡ length (line_from to (new + content)).break) (some : 0 < ending) where
    some_break : 0 < length (first_line before).break
    some_break = omega (arith, some, ending_is)

    next_is : next ≡ length (first_line after).break
    next_is = is_next ∙ ap (λ line. length line.break) (behind_content to new content next_content)

    old_is : old + (content + ending) ≡ old + line_length (first_line before)
    old_is = omega (arith, is_content, ending_is)

    new_is : new + content + next ≡ new + line_length (first_line after)
    new_is = omega (arith, next_content, next_is)

    from_is : drop (old + (content + ending)) from ≡ behind before
    from_is = ap (λ n. drop n from) old_is ∙ sym (drop-drop (line_length (first_line before)) old from)

    to_is : drop (new + content + next) to ≡ behind after
    to_is = ap (λ n. drop n to) new_is ∙ sym (drop-drop (line_length (first_line after)) new to)

    pub same_later : HaveSameContents (drop (old + (content + ending)) from) (drop (new + content + next) to)
    same_later =
        subst (λ x. HaveSameContents x (drop (new + content + next) to)) (sym from_is)
        (subst (λ y. HaveSameContents (behind before) y) (sym to_is) (same_behind before after same some_break))

    pub moves_later : pushed ++ moves_from (old + (content + ending)) (new + content + next)
        (lines_of (drop (old + (content + ending)) from)) (lines_of (drop (new + content + next) to)) ≡ all
    moves_later =
        (λ i. pushed_is i ++ moves_from (old_is i) (new_is i) (lines_of (from_is i)) (lines_of (to_is i)))
        ∙ append_assoc items (record { old = old; content = length (first_line before).content; new = new } ∷ []) _
        ∙ ap (λ lines. items ++ lines) (sym (moves_more before after same old new some_break)) ∙ moves
