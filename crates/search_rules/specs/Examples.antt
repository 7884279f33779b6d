-- Worked examples of the definitions.
use Rattle.std.specs.Prelude.{◌≡◌, ℕ, List, [], ◌∷◌, Ok, Some, None, Option, Result, codes, refl}
use Rattle.text_lengths.specs.declared.Span.{Span}
use Rattle.unit_text.specs.declared.kind.Kind.TheVariants.{Mixed, Crlf}
use Rattle.document_rules.specs.Refusals.{FlatRefusal}
use Rattle.document_rules.specs.Document.{FlatState, empty_document}
use Rattle.search_rules.specs.Occurrences.{occurrences, occurrences_after}
use Rattle.search_rules.specs.Replacing.{flat_replace_all, replaced}

abbrev span : ℕ → ℕ → Span
span start end = record { start = start; end = end }

-- from left to right, without overlaps
two_in_four : occurrences Mixed (codes "aaaa") (codes "aa") ≡ span 0 2 ∷ span 2 4 ∷ []
two_in_four = refl

one_in_three : occurrences Mixed (codes "aaa") (codes "aa") ≡ span 0 2 ∷ []
one_in_three = refl

from_inside : occurrences_after Mixed (codes "aaaa") (codes "aa") 1 ≡ span 1 3 ∷ []
from_inside = refl

none_in_another : occurrences Mixed (codes "ab") (codes "b!") ≡ []
none_in_another = refl

-- no place is between CR and LF where the two are one ending
no_lone_feed : occurrences Crlf (codes "a\r\nb") (codes "\n") ≡ []
no_lone_feed = refl

no_lone_return : occurrences Crlf (codes "a\r\nb") (codes "\r") ≡ []
no_lone_return = refl

an_ending : occurrences Crlf (codes "a\r\nb") (codes "\r\n") ≡ span 1 3 ∷ []
an_ending = refl

a_feed_of_a_mixed_text : occurrences Mixed (codes "a\r\nb") (codes "\n") ≡ span 2 3 ∷ []
a_feed_of_a_mixed_text = refl

-- nor inside a surrogate pair
no_half_of_a_pair : occurrences Mixed (0xD83D ∷ 0xDE00 ∷ []) (0xDE00 ∷ []) ≡ []
no_half_of_a_pair = refl

no_other_half : occurrences Mixed (0xD83D ∷ 0xDE00 ∷ []) (0xD83D ∷ []) ≡ []
no_other_half = refl

a_whole_pair : occurrences Mixed (0x61 ∷ 0xD83D ∷ 0xDE00 ∷ []) (0xD83D ∷ 0xDE00 ∷ []) ≡ span 1 3 ∷ []
a_whole_pair = refl

-- the new text gets the line endings of the kind
endings_of_the_kind : replaced Crlf (codes "a,b") (span 1 2 ∷ []) (codes "\n") ≡ codes "a\r\nb"
endings_of_the_kind = refl

abbrev document : List ℕ → FlatState
document units = record empty_document { units = units }

abbrev units_after : Result (Option FlatState) FlatRefusal → Option (List ℕ)
units_after (Ok (Some f)) = Some f.units
units_after other = None

each_is_replaced : units_after (flat_replace_all (document (codes "aaaa")) (codes "aa") (codes "b"))
    ≡ Some (codes "bb")
each_is_replaced = refl

nothing_is_found : flat_replace_all (document (codes "aaaa")) (codes "z") [] ≡ Ok None
nothing_is_found = refl
