-- Positions that are there, and positions that are not.
use Rattle.std.proofs.Common.{◌≡◌, ℕ, ◌+◌, ◌-◌, ◌<◌, ◌≤◌, ◌&&◌, ◌||◌, ◌==◌, leb, ltb, not, Bool, true, false, if◌then◌else◌, Option, Some, None, List, length, get_or, refl, ap, sym, ◌∙◌, arith}
use Rattle.std.specs.Char.Utf16.{is_high_surrogate, is_low_surrogate}
use Rattle.std.proofs.lemmas.Bool.{le-leb, lt-leb}
use Rattle.std.proofs.lemmas.List.{get_or_past}
use Rattle.text_lengths.specs.declared.Position.{Position}
use Rattle.unit_text.specs.declared.kind.Kind.{Kind}
use Rattle.unit_text.specs.declared.kind.Kind.TheVariants.{Mixed, Lf, Crlf}
use Rattle.unit_text.specs.Endings.{line_feed, carriage_return}
use Rattle.unit_text.specs.Kinds.{cuts_in, is_place_in}
use Rattle.unit_text.specs.Units.{cuts_pair, is_place}
use Rattle.text_rules.specs.Lines.{Line, lines_of, line_at, line_start}
use Rattle.text_rules.specs.Positions.{is_position, offset_of, has_column}
use Rattle.text_buffer.proofs.Contents.{line_at_is, no_line_at}

none_cut : (some high : Bool) → not (some && high && false) ≡ true
none_cut true true = refl
none_cut true false = refl
none_cut false high = refl

neither_cut : (a b : Bool) → not ((a && false) || (b && false)) ≡ true
neither_cut true true = refl
neither_cut true false = refl
neither_cut false true = refl
neither_cut false false = refl

end_of_any : (x : List ℕ) (offset : ℕ) → offset ≡ length x → is_place x offset ≡ true
end_of_any x offset at_end =
    let past : get_or x offset 0 ≡ 0 = get_or_past x offset 0 (omega arith) in
    ap (λ b. b && not (cuts_pair x offset)) (le-leb offset (length x) (omega arith))
    ∙ ap (λ u. not (ltb 0 offset && is_high_surrogate (get_or x (offset - 1) 0) && is_low_surrogate u)) past
    ∙ none_cut (ltb 0 offset) (is_high_surrogate (get_or x (offset - 1) 0))

-- the end of the text is a place
pub place_at_end : (kind : Kind) (x : List ℕ) (offset : ℕ) → offset ≡ length x → is_place_in kind x offset ≡ true
place_at_end Mixed x offset at_end = end_of_any x offset at_end
place_at_end Lf x offset at_end = end_of_any x offset at_end
place_at_end Crlf x offset at_end =
    let past : get_or x offset 0 ≡ 0 = get_or_past x offset 0 (omega arith) in
    let before : ℕ = get_or x (offset - 1) 0 in
    ap (λ b. b && not (cuts_in Crlf x offset)) (le-leb offset (length x) (omega arith))
    ∙ ap (λ u. not (ltb 0 offset && before == carriage_return && u == line_feed || ltb 0 offset && is_high_surrogate before && is_low_surrogate u)) past
    ∙ neither_cut (ltb 0 offset && before == carriage_return) (ltb 0 offset && is_high_surrogate before)

-- a place where nothing is cut
pub place_inside : (kind : Kind) (x : List ℕ) (offset : ℕ) → offset ≤ length x → cuts_in kind x offset ≡ false → is_place_in kind x offset ≡ true
place_inside kind x offset within whole = ap (λ b. b && not (cuts_in kind x offset)) (le-leb offset (length x) within) ∙ ap not whole

-- nothing past the end is a place
pub past_end : (kind : Kind) (x : List ℕ) (offset : ℕ) → length x < offset → is_place_in kind x offset ≡ false
past_end kind x offset past = ap (λ b. b && not (cuts_in kind x offset)) (lt-leb offset (length x) past)

abbrev answer : List ℕ → Position → Option ℕ
answer x p = if is_position x p then Some (offset_of x p) else None

none_where : (x : List ℕ) (p : Position) → is_position x p ≡ false → None ≡ answer x p
none_where x p e = sym (ap {B = Option ℕ} (λ b. if b then Some (offset_of x p) else None) e)

without_line : (x : List ℕ) (p : Position) → line_at x p.line ≡ None → is_position x p ≡ false
without_line x p e = ap (λ l. has_column l p.column && is_place x (offset_of x p)) e

pub no_such_line : (x : List ℕ) (p : Position) → length (lines_of x) < p.line → None ≡ answer x p
no_such_line x p past = none_where x p (without_line x p (no_line_at x p.line past))

module _ (x : List ℕ) (p : Position) (d : Line) (first : 0 < p.line) (there : p.line ≤ length (lines_of x)) where
  abbrev content_length : ℕ
  content_length = length (get_or (lines_of x) (p.line - 1) d).content

  column_is : has_column (line_at x p.line) p.column ≡ (leb 1 p.column && leb p.column (content_length + 1))
  column_is = ap (λ l. has_column l p.column) (line_at_is x p.line d first there)

  pub past_column : 0 < p.column → content_length + 1 < p.column → None ≡ answer x p
  past_column some past =
      none_where x p (ap (λ b. b && is_place x (offset_of x p))
      (column_is ∙ ap (λ b. b && leb p.column (content_length + 1)) (le-leb 1 p.column (omega arith)) ∙ lt-leb p.column (content_length + 1) past))

  module _ (offset : ℕ) (some : 0 < p.column) (within : p.column ≤ content_length + 1) (offset_is : offset ≡ line_start x p.line + (p.column - 1)) where
    same_offset : offset_of x p ≡ offset
    same_offset = omega (arith, offset_is)

    place_decides : is_position x p ≡ is_place x offset
    place_decides =
        ap (λ b. b && is_place x (offset_of x p))
        (column_is ∙ ap (λ b. b && leb p.column (content_length + 1)) (le-leb 1 p.column (omega arith)) ∙ le-leb p.column (content_length + 1) within)
        ∙ ap (is_place x) same_offset

    pub at_place : is_place x offset ≡ true → Some offset ≡ answer x p
    at_place e =
        ap {B = Option ℕ} (λ n. Some n) (sym same_offset) ∙ sym (ap {B = Option ℕ} (λ b. if b then Some (offset_of x p) else None) (place_decides ∙ e))

    pub at_no_place : is_place x offset ≡ false → None ≡ answer x p
    at_no_place e = none_where x p (place_decides ∙ e)
