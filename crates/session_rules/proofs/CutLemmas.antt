-- Cutting a script into lines, as its bytes come.
use Rattle.std.proofs.Common.{◌≡◌, ℕ, suc, ◌+◌, ◌≤◌, ◌<◌, Bool, true, false, eqb, List, [], ◌∷◌, ◌++◌, length, get_or, length-append, refl, ap, ◌∙◌, arith}
use Rattle.std.proofs.lemmas.List.{append-nil}
use Rattle.session_rules.specs.Script.{Lines, cut, after_byte, before_first, last_line, all_lines, IsInOneLine}

-- the lines of two parts: the rest of the first joins the first line of the second
abbrev pub joined : Lines → List (List ℕ) → List ℕ → Lines
joined lines [] rest = record { ended = lines.ended; rest = lines.rest ++ rest }
joined lines (line ∷ more) rest = record { ended = lines.ended ++ (lines.rest ++ line) ∷ more; rest = rest }

joined-nil : (lines : List (List ℕ)) (rest : List ℕ) → record { ended = lines; rest = rest } ≡ joined (record { ended = []; rest = [] }) lines rest
joined-nil [] rest = refl
joined-nil (line ∷ lines) rest = refl

before_first-joined : (byte : ℕ) (first : List (List ℕ)) (r : List ℕ) (more : List (List ℕ)) (rest : List ℕ)
    → let whole = joined (record { ended = first; rest = r }) more rest in
    before_first byte whole.ended whole.rest ≡ joined (before_first byte first r) more rest
before_first-joined byte [] r [] rest = refl
before_first-joined byte [] r (line ∷ more) rest = refl
before_first-joined byte (l ∷ first) r [] rest = refl
before_first-joined byte (l ∷ first) r (line ∷ more) rest = refl

break_first-joined : (first : List (List ℕ)) (r : List ℕ) (more : List (List ℕ)) (rest : List ℕ)
    → let whole = joined (record { ended = first; rest = r }) more rest in
    record { ended = [] ∷ whole.ended; rest = whole.rest } ≡ joined (record { ended = [] ∷ first; rest = r }) more rest
break_first-joined first r [] rest = refl
break_first-joined first r (line ∷ more) rest = refl

after_byte-joined : (byte : ℕ) (is_break : Bool) → eqb byte 10 ≡ is_break → (lines : Lines) (more : List (List ℕ)) (rest : List ℕ)
    → after_byte byte (joined lines more rest) ≡ joined (after_byte byte lines) more rest
after_byte-joined byte true e lines more rest = rw e (break_first-joined lines.ended lines.rest more rest)
after_byte-joined byte false e lines more rest = rw e (before_first-joined byte lines.ended lines.rest more rest)

pub cut-append : (x y : List ℕ) → cut (x ++ y) ≡ joined (cut x) (cut y).ended (cut y).rest
cut-append [] y = joined-nil (cut y).ended (cut y).rest
cut-append (byte ∷ x) y =
    ap (after_byte byte) (cut-append x y) ∙ after_byte-joined byte _ refl (cut x) (cut y).ended (cut y).rest

pub in_one_line : (x : List ℕ) → ((k : ℕ) → k < length x → eqb (get_or x k 0) 10 ≡ false) → IsInOneLine x
in_one_line [] none = refl
in_one_line (byte ∷ x) none =
    let tail = in_one_line x (λ k small. none (suc k) (omega arith)) in
    let first = none 0 (omega arith) in
    ap (after_byte byte) tail ∙ rw first refl

pub cut-append_line : (x line : List ℕ) → IsInOneLine line → cut (x ++ line) ≡ record { ended = (cut x).ended; rest = (cut x).rest ++ line }
cut-append_line x line one = cut-append x line ∙ rw one refl

pub cut-append_break : (x after : List ℕ)
    → cut (x ++ 10 ∷ after) ≡ record { ended = (cut x).ended ++ (cut x).rest ∷ (cut after).ended; rest = (cut after).rest }
cut-append_break x after = cut-append x (10 ∷ after) ∙ rw append-nil refl

length-before_first : (byte : ℕ) (ended : List (List ℕ)) (rest : List ℕ)
    → length (before_first byte ended rest).ended + length (before_first byte ended rest).rest ≤ suc (length ended + length rest)
length-before_first byte [] rest = omega arith
length-before_first byte (line ∷ lines) rest = omega arith

length-after_byte : (byte : ℕ) (is_break : Bool) → eqb byte 10 ≡ is_break → (lines : Lines)
    → length (after_byte byte lines).ended + length (after_byte byte lines).rest ≤ suc (length lines.ended + length lines.rest)
length-after_byte byte true e lines = rw e (omega arith)
length-after_byte byte false e lines = rw e (length-before_first byte lines.ended lines.rest)

length-cut : (x : List ℕ) → length (cut x).ended + length (cut x).rest ≤ length x
length-cut [] = omega arith
length-cut (byte ∷ x) = omega (arith, length-cut x, length-after_byte byte _ refl (cut x))

length-last_line : (x : List ℕ) → length (last_line x) ≤ length x
length-last_line [] = omega arith
length-last_line (byte ∷ x) = omega arith

pub length-all_lines : (x : List ℕ) → length (all_lines x) ≤ length x
length-all_lines x =
    omega (arith, length-cut x, length-last_line (cut x).rest, length-append (cut x).ended (last_line (cut x).rest))
