-- Other line endings bring no lone surrogate into a text.
use Rattle.std.proofs.Common.{◌≡◌, ℕ, ◌≤◌, ◌==◌, Bool, true, false, ◌&&◌, ◌||◌, not, List, [], ◌∷◌, length, map, refl, ap, arith}
use Rattle.std.specs.List.{All}
use Rattle.std.proofs.lemmas.Bool.Decides.{nat_tests}
use Rattle.std.proofs.lemmas.Bool.{le-leb, and_from, and_parts}
use Rattle.std.proofs.lemmas.List.Elements.{All-nil, All-cons, All-head, All-tail}
use Rattle.std.specs.Char.Utf16.{utf16_chars, is_high_surrogate, is_low_surrogate}
use Rattle.unit_text.specs.declared.kind.Kind.{Kind}
use Rattle.unit_text.specs.declared.kind.Kind.TheVariants.{Mixed, Lf, Crlf}
use Rattle.unit_text.specs.Units.{cuts_pair, is_place, IsPaired}
use Rattle.unit_text.specs.Endings.{line_feed, carriage_return, begins_with}
use Rattle.unit_text.specs.Kinds.{with_endings, normalized}
use Rattle.unit_text.proofs.Paired.{IsPaired-cut, IsPaired-append}
use Rattle.unit_text.proofs.WithEndings.{step, feeds, pairs}
use Rattle.text_rules.specs.declared.Op.{Op}
use Rattle.batch_rules.specs.Batches.{op_in, ops_in}
use Rattle.batch_rules.proofs.Pairs.{HasPairedText}

step_paired : (ending : List ℕ) (u : ℕ) (joins ends : Bool) (rest : List ℕ) → IsPaired ending → IsPaired (u ∷ []) → IsPaired rest
    → IsPaired (step ending u joins ends rest)
step_paired ending u true ends rest h one more = more
step_paired ending u false true rest h one more = IsPaired-append ending rest h more
step_paired ending u false false rest h one more = IsPaired-append (u ∷ []) rest one more

place_if_whole : (x : List ℕ) (n : ℕ) → n ≤ length x → cuts_pair x n ≡ false → is_place x n ≡ true
place_if_whole x n within whole = and_from _ _ (le-leb n (length x) within) (ap not whole)

-- a surrogate ends no line
high_goes_on : (u : ℕ) → is_high_surrogate u ≡ true → ((u == carriage_return) ≡ false) × ((u == line_feed) ≡ false)
high_goes_on u e = (grind (arith, nat_tests), grind (arith, nat_tests))

low_goes_on : (u : ℕ) → is_low_surrogate u ≡ true → ((u == carriage_return) ≡ false) × ((u == line_feed) ≡ false) × (is_high_surrogate u ≡ false)
low_goes_on u e = (grind (arith, nat_tests), grind (arith, nat_tests), grind (arith, nat_tests))

no_pair_at_end : (b : Bool) → (b && false) ≡ false
no_pair_at_end true = refl
no_pair_at_end false = refl

module _ (ending : List ℕ) (h : IsPaired ending) where
  -- one unit by itself
  paired_alone : (u : ℕ) (after : List ℕ) → cuts_pair (u ∷ after) 1 ≡ false → IsPaired (u ∷ after)
      → (IsPaired after → IsPaired (with_endings ending after)) → IsPaired (with_endings ending (u ∷ after))
  paired_alone u after whole paired later =
      let parts = IsPaired-cut (u ∷ after) 1 (place_if_whole (u ∷ after) 1 (omega arith) whole) paired in
      step_paired ending u (u == carriage_return && begins_with line_feed after) (u == carriage_return || u == line_feed)
      (with_endings ending after) h parts.0 (later parts.1)

  -- two that are a pair
  paired_pair : (u v : ℕ) (after : List ℕ) → cuts_pair (u ∷ v ∷ after) 1 ≡ true → IsPaired (u ∷ v ∷ after)
      → (IsPaired after → IsPaired (with_endings ending after)) → IsPaired (with_endings ending (u ∷ v ∷ after))
  paired_pair u v after cut paired later =
      let high : is_high_surrogate u ≡ true = (and_parts (is_high_surrogate u) (is_low_surrogate v) cut).0 in
      let low : is_low_surrogate v ≡ true = (and_parts (is_high_surrogate u) (is_low_surrogate v) cut).1 in
      let first = high_goes_on u high in
      let second = low_goes_on v low in
      let behind : cuts_pair (u ∷ v ∷ after) 2 ≡ false = rw second.2 refl in
      let parts = IsPaired-cut (u ∷ v ∷ after) 2 (place_if_whole (u ∷ v ∷ after) 2 (omega arith) behind) paired in
      rw (first.0, first.1, second.0, second.1) (IsPaired-append (u ∷ v ∷ []) (with_endings ending after) parts.0 (later parts.1))

  paired_by : (u v : ℕ) (after : List ℕ) (cut : Bool) → cuts_pair (u ∷ v ∷ after) 1 ≡ cut → IsPaired (u ∷ v ∷ after)
      → (IsPaired after → IsPaired (with_endings ending after)) → (IsPaired (v ∷ after) → IsPaired (with_endings ending (v ∷ after)))
      → IsPaired (with_endings ending (u ∷ v ∷ after))
  paired_by u v after true cut paired later next = paired_pair u v after cut paired later
  paired_by u v after false whole paired later next = paired_alone u (v ∷ after) whole paired next

  paired_with_endings : (x : List ℕ) → IsPaired x → IsPaired (with_endings ending x)
  paired_with_endings [] paired = paired
  paired_with_endings (u ∷ []) paired = paired_alone u [] (no_pair_at_end (is_high_surrogate u)) paired (λ e. e)
  paired_with_endings (u ∷ v ∷ after) paired =
      paired_by u v after _ refl paired (paired_with_endings after) (paired_with_endings (v ∷ after))

pub IsPaired-normalized : (kind : Kind) (x : List ℕ) → IsPaired x → IsPaired (normalized kind x)
IsPaired-normalized Mixed x paired = paired
IsPaired-normalized Lf x paired = paired_with_endings feeds (unfold utf16_chars in refl) x paired
IsPaired-normalized Crlf x paired = paired_with_endings pairs (unfold utf16_chars in refl) x paired

texts_mapped : (kind : Kind) (ops : List Op) → All HasPairedText ops → All HasPairedText (map (op_in kind) ops)
texts_mapped kind [] texts = All-nil HasPairedText
texts_mapped kind (op ∷ ops) texts =
    All-cons HasPairedText (op_in kind op) (map (op_in kind) ops) (IsPaired-normalized kind op.text (All-head HasPairedText op ops texts))
    (texts_mapped kind ops (All-tail HasPairedText op ops texts))

-- nor into the texts of a batch
pub paired_texts_in : (kind : Kind) (ops : List Op) → All HasPairedText ops → All HasPairedText (ops_in kind ops)
paired_texts_in Mixed ops texts = texts
paired_texts_in Lf ops texts = texts_mapped Lf ops texts
paired_texts_in Crlf ops texts = texts_mapped Crlf ops texts
