-- The bytes written for some lines determine the replies, and with them the session.
use Rattle.std.proofs.Common.{◌≡◌, ◌⊎◌, inl, inr, ℕ, true, false, List, [], ◌∷◌, ◌++◌, codes, append_assoc, refl, ap, sym, ◌∙◌, subst}
use Rattle.std.specs.Prelude.{MatchBool}
use Rattle.std.specs.List.{All}
use Rattle.std.proofs.lemmas.List.{append_cancel_left}
use Rattle.std.proofs.lemmas.List.Elements.{All-nil, All-cons}
use Rattle.session_rules.specs.Session.{FlatSession}
use Rattle.session_rules.specs.Step.{memory_reply, Answers, answered, out_of_memory}
use Rattle.session_rules.specs.Script.{cut, IsInOneLine, IsOneLine, IsDecided, has_reply, turn, written, Turn, Transcript}
use Rattle.session_rules.proofs.CutLemmas.{cut-append_break}
use Rattle.session_rules.proofs.ReplyLemmas.{IsFlatReply, flat_turn}

-- the first of some lines
first_line : List (List ℕ) → List ℕ
first_line [] = []
first_line (line ∷ lines) = line

first_ended : (text rest : List ℕ) → IsInOneLine text → first_line (cut (text ++ 10 ∷ rest)).ended ≡ text
unfolding first_line
first_ended text rest one = ap (λ c. first_line c.ended) (cut-append_break text rest) ∙ ap (λ c. first_line (c.ended ++ c.rest ∷ (cut rest).ended)) one

-- two lines that begin the same bytes are the same
same_line : (reply reply' rest rest' : List ℕ) → IsOneLine reply → IsOneLine reply' → reply ++ rest ≡ reply' ++ rest' → (reply ≡ reply') × (rest ≡ rest')
same_line reply reply' rest rest' (text, one, is) (text', one', is') e =
    let left : reply ++ rest ≡ text ++ 10 ∷ rest = ap (λ x. x ++ rest) is ∙ append_assoc text (10 ∷ []) rest in
    let right : reply' ++ rest' ≡ text' ++ 10 ∷ rest' = ap (λ x. x ++ rest') is' ∙ append_assoc text' (10 ∷ []) rest' in
    let whole : text ++ 10 ∷ rest ≡ text' ++ 10 ∷ rest' = sym left ∙ e ∙ right in
    let texts : text ≡ text' = sym (first_ended text rest one) ∙ ap (λ x. first_line (cut x).ended) whole ∙ first_ended text' rest' one' in
    let same : reply ≡ reply' = is ∙ ap (λ x. x ++ 10 ∷ []) texts ∙ sym is' in
    (same, append_cancel_left reply' rest rest' (ap (λ x. x ++ rest) (sym same) ∙ e))

memory_line : IsOneLine memory_reply
memory_line = (codes "! memory", refl, refl)

answer_line : (flat : List ℕ × FlatSession) (old : FlatSession) (reply : List ℕ) (new : FlatSession) → IsFlatReply flat.0 → Answers flat old reply new → IsOneLine reply
answer_line flat old reply new good (answered is to) = subst IsOneLine (sym is) good.line
answer_line flat old reply new good (out_of_memory is to) = subst IsOneLine (sym is) memory_line

same_answer : (flat : List ℕ × FlatSession) (old : FlatSession) (reply : List ℕ) (new new' : FlatSession) → IsFlatReply flat.0
    → Answers flat old reply new → Answers flat old reply new' → new ≡ new'
same_answer flat old reply new new' good (answered is to) (answered is' to') = to ∙ sym to'
same_answer flat old reply new new' good (answered is to) (out_of_memory is' to') = absurd (good.sure (sym is ∙ is'))
same_answer flat old reply new new' good (out_of_memory is to) (answered is' to') = absurd (good.sure (sym is' ∙ is))
same_answer flat old reply new new' good (out_of_memory is to) (out_of_memory is' to') = to ∙ sym to'

turn_line : (old : FlatSession) (line reply : List ℕ) (new : FlatSession) → Turn old line reply new → (reply ≡ []) ⊎ IsOneLine reply
turn_line old line reply new turned =
    elim (has_reply line) as (λ b. MatchBool b (Answers (turn old line) old reply new) ((reply ≡ []) × (new ≡ old)) → (reply ≡ []) ⊎ IsOneLine reply) [
      | true ↦ λ answers. inr (answer_line (turn old line) old reply new (flat_turn old line) answers)
      | false ↦ λ nothing. inl nothing.0
    ] turned

-- two turns of one line, by what was written from there on
record IsSameTurn (reply reply' rest rest' : List ℕ) (new new' : FlatSession) : Type 0 where
  pub replies : reply ≡ reply'
  pub rests : rest ≡ rest'
  pub ends : new ≡ new'

same_replied : (flat : List ℕ × FlatSession) (old : FlatSession) (reply reply' rest rest' : List ℕ) (new new' : FlatSession) → IsFlatReply flat.0
    → Answers flat old reply new → Answers flat old reply' new' → reply ++ rest ≡ reply' ++ rest' → IsSameTurn reply reply' rest rest' new new'
same_replied flat old reply reply' rest rest' new new' good first second e =
    let same = same_line reply reply' rest rest' (answer_line flat old reply new good first) (answer_line flat old reply' new' good second) e in
    record {
      replies = same.0;
      rests = same.1;
      ends = same_answer flat old reply new new' good first (subst (λ r. Answers flat old r new') (sym same.0) second);
    }

same_nothing : (old : FlatSession) (reply reply' rest rest' : List ℕ) (new new' : FlatSession) → (reply ≡ []) × (new ≡ old) → (reply' ≡ []) × (new' ≡ old)
    → reply ++ rest ≡ reply' ++ rest' → IsSameTurn reply reply' rest rest' new new'
same_nothing old reply reply' rest rest' new new' (is, to) (is', to') e = record {
  replies = is ∙ sym is';
  rests = sym (ap (λ r. r ++ rest) is) ∙ e ∙ ap (λ r. r ++ rest') is';
  ends = to ∙ sym to';
}

same_turn : (old : FlatSession) (line reply reply' rest rest' : List ℕ) (new new' : FlatSession) → Turn old line reply new → Turn old line reply' new'
    → reply ++ rest ≡ reply' ++ rest' → IsSameTurn reply reply' rest rest' new new'
same_turn old line reply reply' rest rest' new new' first second e =
    elim (has_reply line) as (λ b. MatchBool b (Answers (turn old line) old reply new) ((reply ≡ []) × (new ≡ old))
    → MatchBool b (Answers (turn old line) old reply' new') ((reply' ≡ []) × (new' ≡ old)) → IsSameTurn reply reply' rest rest' new new') [
      | true ↦ λ a b. same_replied (turn old line) old reply reply' rest rest' new new' (flat_turn old line) a b e
      | false ↦ λ a b. same_nothing old reply reply' rest rest' new new' a b e
    ] first second

same_transcript : (start : FlatSession) (lines replies others : List (List ℕ)) (end other : FlatSession) → Transcript start lines replies end
    → Transcript start lines others other → written others ≡ written replies → (others ≡ replies) × (other ≡ end)
same_transcript start [] [] [] end other first second e = (refl, second ∙ sym first)
same_transcript start [] (r ∷ rs) others end other first second e = absurd first
same_transcript start [] [] (o ∷ os) end other first second e = absurd second
same_transcript start (l ∷ ls) [] others end other first second e = absurd first
same_transcript start (l ∷ ls) (r ∷ rs) [] end other first second e = absurd second
same_transcript start (l ∷ ls) (r ∷ rs) (o ∷ os) end other first second e =
    let same = same_turn start l o r (written os) (written rs) second.0 first.0 second.1 first.1 e in
    let rest = same_transcript first.0 ls rs os end other first.2 (subst (λ s. Transcript s ls os other) same.ends second.2) same.rests in
    (ap (λ x. x ∷ os) same.replies ∙ ap (λ xs. r ∷ xs) rest.0, rest.1)

-- nothing, or one line
abbrev IsReply : List ℕ → Type 0
IsReply reply = (reply ≡ []) ⊎ IsOneLine reply

replied_lines : (start : FlatSession) (lines replies : List (List ℕ)) (end : FlatSession) → Transcript start lines replies end
    → All IsReply replies
replied_lines start [] [] end t = All-nil IsReply
replied_lines start [] (r ∷ rs) end t = absurd t
replied_lines start (l ∷ ls) [] end t = absurd t
replied_lines start (l ∷ ls) (r ∷ rs) end t = All-cons IsReply r rs (turn_line start l r t.0 t.1) (replied_lines t.0 ls rs end t.2)

pub decided : (start end : FlatSession) (lines replies : List (List ℕ)) → Transcript start lines replies end → IsDecided start lines replies end
decided start end lines replies t = record {
  one_line = replied_lines start lines replies end t;
  only = λ others other also same. same_transcript start lines replies others end other t also same;
}

pub never_memory : (f : FlatSession) (line : List ℕ) → (turn f line).0 ≡ memory_reply → ⊥
never_memory f line = (flat_turn f line).sure
