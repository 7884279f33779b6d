-- The lines of a script, and the replies that are allowed for them.
use Rattle.std.specs.Prelude.{◌≡◌, ◌⊎◌, ℕ, codes, ◌^◌, ◌||◌, ◌==◌, nat_lt, not, Bool, false, MatchBool, if◌then◌else◌, List, [], ◌∷◌, ◌++◌, length, Option, Some, None}
use Rattle.std.specs.List.{All, list_all, flat_map}
use Rattle.script_lines.specs.declared.reason.Refusal.TheVariants.{Syntax, Limit}
use Rattle.script_lines.specs.declared.request.Request.{Request}
use Rattle.script_lines.specs.Requests.{request_of}
use Rattle.script_lines.specs.Replies.{refusal_reply}
use Rattle.session_rules.specs.Session.{FlatSession}
use Rattle.session_rules.specs.Step.{request_answer, Answers}

-- the lines ended by LF, without it, and the bytes after the last LF
pub record Lines : Type 0 where
  pub ended : List (List ℕ)
  pub rest : List ℕ

abbrev pub before_first : ℕ → List (List ℕ) → List ℕ → Lines
before_first byte [] rest = record { ended = []; rest = byte ∷ rest }
before_first byte (line ∷ lines) rest = record { ended = (byte ∷ line) ∷ lines; rest = rest }

abbrev pub after_byte : ℕ → Lines → Lines
after_byte byte lines =
    if byte == 10 then record { ended = [] ∷ lines.ended; rest = lines.rest } else before_first byte lines.ended lines.rest

abbrev pub cut : List ℕ → Lines
cut [] = record { ended = []; rest = [] }
cut (byte ∷ bytes) = after_byte byte (cut bytes)

-- the bytes contain no LF
abbrev pub IsInOneLine : List ℕ → Type 0
IsInOneLine bytes = cut bytes ≡ record { ended = []; rest = bytes }

abbrev pub whole_lines : List ℕ → List (List ℕ)
whole_lines script = (cut script).ended

-- the bytes after the last LF are a line too, unless there are none
abbrev pub last_line : List ℕ → List (List ℕ)
last_line [] = []
last_line (byte ∷ bytes) = (byte ∷ bytes) ∷ []

abbrev pub all_lines : List ℕ → List (List ℕ)
all_lines script = whole_lines script ++ last_line (cut script).rest

-- the maximum number of bytes of a line, the LF not counted
abbrev pub most_line_bytes : ℕ
most_line_bytes = 2 ^ 24

abbrev pub is_too_long : List ℕ → Bool
is_too_long line = nat_lt most_line_bytes (length line)

-- a blank, a tab or a CR
abbrev pub is_blank_byte : ℕ → Bool
is_blank_byte byte = byte == 32 || byte == 9 || byte == 13

abbrev pub is_blank : List ℕ → Bool
is_blank line = list_all is_blank_byte line

abbrev pub requested : FlatSession → Option Request → List ℕ × FlatSession
requested s None = (refusal_reply Syntax, s)
requested s (Some request) = request_answer s request

-- the flat reply to a line that gets a reply, and the session after it
abbrev pub turn : FlatSession → List ℕ → List ℕ × FlatSession
turn f line = if is_too_long line then (refusal_reply Limit, f) else requested f (request_of line)

-- every line gets a reply, except a blank line that is not too long
abbrev pub has_reply : List ℕ → Bool
has_reply line = is_too_long line || not (is_blank line)

-- A line gets the flat reply, or `! memory` with the session unchanged. A line without reply leaves the session unchanged.
abbrev pub Turn : FlatSession → List ℕ → List ℕ → FlatSession → Type 0
Turn old line reply new = MatchBool (has_reply line) (Answers (turn old line) old reply new) ((reply ≡ []) × (new ≡ old))

-- these replies answer these lines one by one; a line without reply has an empty one
abbrev pub Transcript : FlatSession → List (List ℕ) → List (List ℕ) → FlatSession → Type 0
Transcript old [] [] new = new ≡ old
Transcript old (line ∷ lines) (reply ∷ replies) new =
    (mid : FlatSession) × Turn old line reply mid × Transcript mid lines replies new
Transcript old [] (reply ∷ replies) new = ⊥
Transcript old (line ∷ lines) [] new = ⊥

-- the concatenation of the replies
abbrev pub written : List (List ℕ) → List ℕ
written replies = flat_map (λ reply. reply) replies

-- the reply ends with LF and contains no other LF
abbrev pub IsOneLine : List ℕ → Type 0
IsOneLine reply = (text : List ℕ) × IsInOneLine text × (reply ≡ text ++ codes "\n")

-- The bytes written determine the replies: each reply is one line or empty; and if other replies answer the same lines from
-- the same session with the same bytes written, then they are the same replies, with the same session at the end.
pub record IsDecided (start : FlatSession) (lines replies : List (List ℕ)) (end : FlatSession) : Type 0 where
  pub one_line : All (λ reply. (reply ≡ []) ⊎ IsOneLine reply) replies
  pub only : (others : List (List ℕ)) (other : FlatSession) → Transcript start lines others other → written others ≡ written replies
      → (others ≡ replies) × (other ≡ end)

-- the reply begins with `!`
abbrev pub is_refused : List ℕ → Bool
is_refused [] = false
is_refused (byte ∷ bytes) = byte == 33
