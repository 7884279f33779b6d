-- The rest of a script before and after a read.
use Rattle.std.proofs.Common.{◌≡◌, ℕ, zero, suc, ◌+◌, ◌-◌, ◌<◌, ◌≤◌, List, [], ◌++◌, take, drop, length, length-append, length-take, false, arith, refl, sym, ◌∙◌, ap, append_assoc}
use Rattle.std.proofs.lemmas.List.{take-append-drop, take-append-le, drop-drop, length-drop, nil_from_length}
use Rattle.std.proofs.Math.Seq.{take-append-add}
use borrow.Rule.Slice.PartMut.{put_mid, post_of}
use Rattle.script_play.specs.declared.play.Play.{Play}
use Rattle.script_play.specs.declared.line.Line.{Line}
use Rattle.script_play.specs.declared.line.Line.TheVariants.{Open}
use Rattle.script_play.specs.Lines.{line_bytes}
use Rattle.script_play.specs.Script.{next_line, lines_from, script}

pub lines_from-none : (count : ℕ) (play : Play) → count ≡ 0 → lines_from count play ≡ []
unfolding lines_from
lines_from-none zero play none = refl
lines_from-none (suc count) play none = absurd (omega arith)

-- the next line comes first
pub lines_from-some : (count : ℕ) (play : Play) → 0 < count
    → lines_from count play ≡ line_bytes (next_line play).0 ++ lines_from (count - 1) (next_line play).1
unfolding lines_from
lines_from-some zero play some = absurd (omega arith)
lines_from-some (suc count) play some =
    let less : suc count - 1 ≡ count = omega arith in
    rw less

pub script-none : (count seed : ℕ) → count ≡ 0 → script count seed ≡ []
unfolding script
script-none zero seed none = refl
script-none (suc count) seed none = absurd (omega arith)

pub script-some : (count seed : ℕ) → 0 < count
    → script count seed ≡ line_bytes Open ++ lines_from (count - 1) (record { x = seed; units = 0; pending = false })
unfolding script
script-some zero seed some = absurd (omega arith)
script-some (suc count) seed some =
    let less : suc count - 1 ≡ count = omega arith in
    rw less

-- the bytes of a line that a read returns, and the rest
pub given_front : (items buf more : List ℕ) (given count : ℕ) → take count buf ≡ take count (drop given items)
    → drop given items ++ more ≡ take count buf ++ (drop (given + count) items ++ more)
given_front items buf more given count front =
    ap (λ z. z ++ more) (sym (take-append-drop count (drop given items)))
    ∙ append_assoc (take count (drop given items)) (drop count (drop given items)) more
    ∙ ap (λ z. z ++ (drop count (drop given items) ++ more)) (sym front)
    ∙ ap (λ z. take count buf ++ (z ++ more)) (drop-drop count given items)

-- after a line and all lines after it were read, nothing is left
pub given_all : (items : List ℕ) (given count : ℕ) (play : Play) → length items ≤ given → count ≡ 0
    → drop given items ++ lines_from count play ≡ []
given_all items given count play whole none =
    rw (nil_from_length (drop given items) (omega (arith, length-drop given items))) (lines_from-none count play none)

-- after a line was read, the next one takes its place
pub refilled : (items fresh : List ℕ) (given count : ℕ) (play after : Play) (line : Line) → length items ≤ given → 0 < count
    → fresh ≡ line_bytes line → line ≡ (next_line play).0 → after ≡ (next_line play).1
    → fresh ++ lines_from (count - 1) after ≡ drop given items ++ lines_from count play
refilled items fresh given count play after line whole some spelled is follows =
    ap (λ z. z ++ lines_from (count - 1) after) (spelled ∙ ap line_bytes is)
    ∙ ap (λ z. line_bytes (next_line play).0 ++ lines_from (count - 1) z) follows
    ∙ sym (lines_from-some count play some)
    ∙ ap (λ z. z ++ lines_from count play) (sym (nil_from_length (drop given items) (omega (arith, length-drop given items))))

-- a part of a buffer was filled
module _ (buf part : List ℕ) (count more k : ℕ) (within : count ≤ length buf) (some : more ≤ length part) where
  pub filled_within : count + more ≤ length (put_mid count k buf part)
  filled_within =
      let rest = post_of count k buf in
      omega (arith, length-append (take count buf) (part ++ rest), length-append part rest, length-take count buf)

  pub filled : take (count + more) (put_mid count k buf part) ≡ take count buf ++ take more part
  filled =
      let here : length (take count buf) ≡ count = omega (arith, length-take count buf) in
      ap (λ z. take (z + more) (put_mid count k buf part)) (sym here)
      ∙ take-append-add (take count buf) (part ++ post_of count k buf) more
      ∙ ap (λ z. take count buf ++ z) (take-append-le more part (post_of count k buf) some)
