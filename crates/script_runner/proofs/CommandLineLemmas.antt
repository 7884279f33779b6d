-- What clap makes of words, and that it is what they are.
use Rattle.std.proofs.Common.{◌≡◌, ◌∙◌, if◌then◌else◌, ◌^◌, ◌<◌, ◌++◌, ℕ, Bool, true, false, List, [], ◌∷◌, Option, Some, None, refl, ap, sym, subst, codes, fold, length, map, slice_get, string_bytes, String, Global, ◌==◌, ◌≤◌, nat_le, Result, Ok, Err, option_and_then, arith}
use Rattle.std.specs.Char.{digit_value, encode_utf8}
use Rattle.std.specs.Str.{IsUtf8, bytes_eq, chars, encode_utf8_all}
use Rattle.std.specs.Str.Parse.{IsNumeral, ParsesUnsigned, digits_value, starts_with_minus, without_leading_plus}
use Rattle.std.specs.Bool.{then_some}
use Rattle.clap.specs.Matches.{ReadsOne}
use Rattle.std.proofs.lemmas.Bool.{eqb-true, leb-true, leb-false}
use Rattle.std.proofs.lemmas.Str.{IsUtf8-past_char, IsUtf8-string_bytes, encodes-chars}
use Rattle.std.proofs.lemmas.Slice.Eq.{bytes_eq-Decides}
use Rattle.clap.proofs.OnLiterals.{clap_on_literals}
use Rattle.clap.proofs.WalkLemmas.{walk_stopped}
use Rattle.clap.specs.Lexer.{long_of, name_and_value, short_of}
use Rattle.clap.specs.Kinds.{Kinds, IsAmong, or_else}
use Rattle.clap.specs.Walk.{Text, Walk, bundle_met, nothing_held, walk, walk_from, walked}
use Rattle.clap.specs.Simple.{App, built, is_simple, names_of, subcommand_of}
use Rattle.clap.specs.Faults.{defaults_fault, entered_fault, fault_of, flags_fault, is_simple_and_free, turn_fault, walk_fault}
use Rattle.clap.specs.ValueTests.{is_unsigned_in}
use Rattle.clap.proofs.ValueTestLemmas.{Accepts-accepts, accepts-Accepts}
use Rattle.clap.specs.declared.builder.value_parser.ValueParser.TheVariants as vp
use Rattle.clap.specs.declared.error.kind.ErrorKind.{ErrorKind}
use Rattle.clap.specs.declared.error.kind.ErrorKind.TheVariants.{InvalidSubcommand, MissingRequiredArgument, UnknownArgument, ValueValidation}
use Rattle.script_play.specs.declared.TheConstants.{MOST_LINES}
use Rattle.script_runner.specs.CommandLine.{command_line, command_found}
use Rattle.script_runner.specs.Words.{most_seed, number_in, play_command, arguments, command_with, words_command}
use Rattle.script_runner.specs.declared.words.Words.{Words}
use Rattle.script_runner.specs.declared.words.Words.TheVariants.{NoCommand}

pub is_simple_line : is_simple command_line ≡ true
unfolding clap_on_literals
is_simple_line = refl

pub is_free_line : is_simple_and_free command_line ≡ true
unfolding clap_on_literals
is_free_line = refl

-- ---- numbers

-- clap takes the word for a number
abbrev fits : Text → Bool
fits word = is_unsigned_in 0 18446744073709551615 word

no_number : (most : ℕ) (word : Text) → most < 2 ^ 64 → fits word ≡ false → number_in most word ≡ None
no_number most word within not = by _ refl
  where
    by : (b : Bool) → is_unsigned_in 0 most word ≡ b → number_in most word ≡ None
    by true e =
        let it = accepts-Accepts false (vp.Unsigned 0 most) word e in
        let yes : fits word ≡ true = Accepts-accepts false (vp.Unsigned 0 18446744073709551615) word (it.0, it.1, it.2, omega (arith, it.3)) in
        let wrong : true ≡ false = sym yes ∙ not in
        cc
    by false e = rw e refl

minus_fits : (word : Text) (b : Bool) → starts_with_minus word ≡ true → fits word ≡ b → b ≡ false
minus_fits [] b minus e = let wrong : false ≡ true = minus in cc
minus_fits (d ∷ ds) false minus e = refl
minus_fits (d ∷ ds) true minus e =
    let it : fits (45 ∷ ds) ≡ true = subst (λ k. fits (k ∷ ds) ≡ true) (eqb-true d 45 minus) e in
    let digits = (accepts-Accepts false (vp.Unsigned 0 18446744073709551615) (45 ∷ ds) it).0.1 in
    let small : digit_value 45 < 10 = digits.0 in
    absurd (omega arith)

within : (most : ℕ) (word : Text) (n : ℕ) (b : Bool) → IsNumeral 10 (without_leading_plus word) × (digits_value 10 (without_leading_plus word) < 2 ^ 64)
    → n ≡ digits_value 10 (without_leading_plus word) → nat_le n most ≡ b → then_some b n ≡ number_in most word
within most word n true it is le =
    let small : n ≤ most = leb-true n most le in
    let yes : is_unsigned_in 0 most word ≡ true = Accepts-accepts false (vp.Unsigned 0 most) word (it.0, it.1, omega arith, omega (arith, is)) in
    rw yes (ap Some is)
within most word n false it is le = by _ refl
  where
    by : (b : Bool) → is_unsigned_in 0 most word ≡ b → None ≡ number_in most word
    by true e =
        let in_it = accepts-Accepts false (vp.Unsigned 0 most) word e in
        absurd (omega (arith, is, leb-false n most le, in_it.3))
    by false e = rw e refl

not_within : (most : ℕ) (word : Text) → (IsNumeral 10 (without_leading_plus word) × (digits_value 10 (without_leading_plus word) < 2 ^ 64) → ⊥)
    → None ≡ number_in most word
not_within most word never = by _ refl
  where
    by : (b : Bool) → is_unsigned_in 0 most word ≡ b → None ≡ number_in most word
    by true e = let it = accepts-Accepts false (vp.Unsigned 0 most) word e in absurd (never (it.0, it.1))
    by false e = rw e refl

-- what `get_one` reads, of which no more than the most is kept
pub number_kept : (E : Type 0) (G : List ℕ → Result ℕ E → Type 0) → ((t : List ℕ) (r : Result ℕ E) → G t r → ParsesUnsigned 64 10 t r)
    → (most : ℕ) (text : Option Text) (n : ℕ) → (text ≡ None → Some n ≡ None) → ((t : List ℕ) → text ≡ Some t → ReadsOne G t (Some n))
    → then_some (nat_le n most) n ≡ option_and_then (number_in most) text
number_kept E G parses most None n none some = let wrong : Some n ≡ None = none refl in cc
number_kept E G parses most (Some t) n none some = let it = parses t (Ok n) (some t refl) in within most t n _ it.0 it.1 refl

pub number_missing : (E : Type 0) (G : List ℕ → Result ℕ E → Type 0) → ((t : List ℕ) (r : Result ℕ E) → G t r → ParsesUnsigned 64 10 t r)
    → (most : ℕ) (text : Option Text) → ((t : List ℕ) → text ≡ Some t → ReadsOne G t None) → None ≡ option_and_then (number_in most) text
number_missing E G parses most None some = refl
number_missing E G parses most (Some t) some = let it = some t refl in not_within most t (parses t (Err it.0) it.1)

-- ---- words that are no command

different : (word text : List ℕ) → (word ≡ text → ⊥) → bytes_eq word text ≡ false
different word text never = by _ refl
  where
    by : (b : Bool) → bytes_eq word text ≡ b → bytes_eq word text ≡ false
    by true e = absurd (never ((bytes_eq-Decides word text).0 e))
    by false e = e

no_seed : (count : Option ℕ) → play_command count None ≡ NoCommand
no_seed None = refl
no_seed (Some count) = refl

in_both : (b : Bool) (other : Words) → other ≡ NoCommand → NoCommand ≡ (if b then other else NoCommand)
in_both true other is = sym is
in_both false other is = refl

bad_count : (name x : Text) (rest : List Text) → fits x ≡ false → NoCommand ≡ command_with name (x ∷ rest)
bad_count name x [] bad = refl
bad_count name x (y ∷ []) bad = in_both _ _ (ap (λ n. play_command n (number_in most_seed y)) (no_number MOST_LINES x (omega arith) bad))
bad_count name x (y ∷ z ∷ rest) bad = refl

bad_seed : (name x y : Text) (rest : List Text) → fits y ≡ false → NoCommand ≡ command_with name (x ∷ y ∷ rest)
bad_seed name x y [] bad =
    in_both _ _ (ap (play_command (number_in MOST_LINES x)) (no_number most_seed y (omega arith) bad) ∙ no_seed _)
bad_seed name x y (z ∷ rest) bad = refl

no_run : (x : Text) (rest : List Text) → NoCommand ≡ command_with (codes "run") (x ∷ rest)
no_run x [] = refl
no_run x (y ∷ []) = refl
no_run x (y ∷ z ∷ rest) = refl

no_other : (name : Text) (rest : List Text) → bytes_eq name (codes "run") ≡ false → bytes_eq name (codes "play") ≡ false → NoCommand ≡ command_with name rest
no_other name [] r p = rw r refl
no_other name (x ∷ []) r p = refl
no_other name (x ∷ y ∷ []) r p = rw p refl
no_other name (x ∷ y ∷ z ∷ rest) r p = refl

-- ---- what a word is to clap

record Plain (word : Text) : Type 0 where
  dashes : bytes_eq word (codes "--") ≡ false
  long : long_of word ≡ None
  short : short_of word ≡ None

-- a word that clap takes for a flag
data Flag (word : Text) : Type 0 where
  by_long : starts_with_minus word ≡ true → bytes_eq word (codes "--") ≡ false → (p : Text × Option Text) → long_of word ≡ Some p → Flag word
  by_short : starts_with_minus word ≡ true → bytes_eq word (codes "--") ≡ false → long_of word ≡ None
      → (f : ℕ) (fs : List ℕ) → short_of word ≡ Some (f ∷ fs) → (x : ℕ) → slice_get (chars (f ∷ fs)) 0 ≡ Some x → Flag word

data Word (word : Text) : Type 0 where
  plain : Plain word → Word word
  flag : Flag word → Word word
  dashes : word ≡ codes "--" → Word word

some_first : (bs cs : List ℕ) → chars bs ≡ cs → encode_utf8_all cs ≡ bs → 0 < length bs → (x : ℕ) × (slice_get (chars bs) 0 ≡ Some x)
some_first bs [] is all more = let none : length bs ≡ 0 = ap length (sym all) in absurd (omega arith)
some_first bs (c ∷ cs) is all more = (c, rw is refl)

first_char : (f : ℕ) (fs : List ℕ) → IsUtf8 (45 ∷ f ∷ fs) → (x : ℕ) × (slice_get (chars (f ∷ fs)) 0 ≡ Some x)
unfolding encode_utf8
first_char f fs text =
    some_first (f ∷ fs) _ refl (encodes-chars (f ∷ fs) (IsUtf8-past_char (45 ∷ f ∷ fs) (f ∷ fs) 45 text refl)) (omega arith)

word_by : (c : ℕ) (cs : List ℕ) (again : Bool) → (c == 45) ≡ again → IsUtf8 (45 ∷ c ∷ cs) → bytes_eq (45 ∷ c ∷ cs) (codes "--") ≡ false → Word (45 ∷ c ∷ cs)
word_by c [] true is text other = let wrong : true ≡ false = rw is at other in cc
word_by c (d ∷ ds) true is text other = flag (by_long refl other (name_and_value (d ∷ ds)) (rw is refl))
word_by c cs false is text other =
    let it = first_char c cs text in
    flag (by_short refl other (rw is refl) c cs (rw is refl) it.0 it.1)

after_minus : (rest : List ℕ) → IsUtf8 (45 ∷ rest) → bytes_eq (45 ∷ rest) (codes "--") ≡ false → Word (45 ∷ rest)
after_minus [] text other = plain (record { dashes = refl; long = refl; short = refl })
after_minus (c ∷ cs) text other = word_by c cs _ refl text other

word_from : (b : ℕ) (bs : List ℕ) (minus : Bool) → (b == 45) ≡ minus → IsUtf8 (b ∷ bs) → bytes_eq (b ∷ bs) (codes "--") ≡ false → Word (b ∷ bs)
word_from b bs true is text other =
    let same : 45 ≡ b = sym (eqb-true b 45 is) in
    subst (λ k. IsUtf8 (k ∷ bs) → bytes_eq (k ∷ bs) (codes "--") ≡ false → Word (k ∷ bs)) same (after_minus bs) text other
word_from b bs false is text other = plain (record { dashes = other; long = rw is refl; short = rw is refl })

word_by_dashes : (word : Text) (is : Bool) → bytes_eq word (codes "--") ≡ is → IsUtf8 word → Word word
word_by_dashes word true is text = dashes ((bytes_eq-Decides word (codes "--")).0 is)
word_by_dashes [] false is text = plain (record { dashes = refl; long = refl; short = refl })
word_by_dashes (b ∷ bs) false is text = word_from b bs _ refl text is

word_of : (word : Text) → IsUtf8 word → Word word
word_of word text = word_by_dashes word _ refl text

minus_of : (word : Text) → Flag word → starts_with_minus word ≡ true
minus_of word (by_long is other p long) = is
minus_of word (by_short is other long f fs short x first) = is

not_dashes : (word : Text) → Flag word → bytes_eq word (codes "--") ≡ false
not_dashes word (by_long is other p long) = other
not_dashes word (by_short is other long f fs short x first) = other

no_fit : (word : Text) → Flag word → fits word ≡ false
no_fit word f = minus_fits word _ (minus_of word f) refl

abbrev Each : (Text → Type 0) → List Text → Type 0
Each P [] = Unit {0}
Each P (word ∷ rest) = P word × Each P rest

words_each : (words : List Text) → Each IsUtf8 words → Each Word words
words_each [] texts = tt
words_each (word ∷ rest) texts = (word_of word texts.0, words_each rest texts.1)

-- ---- what clap makes of them

-- clap's answer, and the command that the words are
pub data Reading (words : List Text) : Type 0 where
  taken : fault_of command_line words ≡ [] → command_found (subcommand_of command_line words) ≡ words_command words → Reading words
  not_taken : (k : ErrorKind) (ks : Kinds) → fault_of command_line words ≡ k ∷ ks → NoCommand ≡ words_command words → Reading words

-- the program's line as clap builds it
program : App
unfolding clap_on_literals
program = built command_line

start : Walk
start = walk_from nothing_held

-- where a walk stands that met a command
met : Text → List Text → Walk
met name rest = record start { stopped = Some (name, rest) }

no_fault_after : (name : Text) (seen rest : List Text) → walk_fault program.top (names_of program) (met name seen) rest ≡ []
unfolding clap_on_literals start met program
no_fault_after name seen [] = refl
no_fault_after name seen (word ∷ rest) = no_fault_after name (seen ++ word ∷ []) rest

or_third : (a b rest : Kinds) (k : ErrorKind) (ks : Kinds) → a ≡ [] → b ≡ k ∷ ks → or_else a (or_else b rest) ≡ k ∷ ks
or_third a b rest k ks none some = rw (none, some) refl

stops_at : (name : Text) (rest : List Text) → walked program.top.rules (names_of program) start name ≡ met name []
    → (walk program.top.rules (names_of program) nothing_held (name ∷ rest)).stopped ≡ Some (name, rest)
unfolding start met
stops_at name rest is =
    ap (λ (w : Walk). (fold (walked program.top.rules (names_of program)) w rest).stopped) is
    ∙ ap (λ (w : Walk). w.stopped) (sym (walk_stopped program.top.rules (names_of program) start name [] rest))

-- what a command refuses, clap refuses
refused_below : (name : Text) (rest : List Text) (k : ErrorKind) (ks : Kinds) → turn_fault program.top (names_of program) start name ≡ []
    → walked program.top.rules (names_of program) start name ≡ met name [] → entered_fault program (Some (name, rest)) ≡ k ∷ ks
    → fault_of command_line (name ∷ rest) ≡ k ∷ ks
unfolding clap_on_literals start program
refused_below name rest k ks turn is below =
    or_third _ _ _ k ks (rw (turn, is) (no_fault_after name [] rest)) (ap (entered_fault program) (stops_at name rest is) ∙ below)

read_none : Reading []
unfolding clap_on_literals
read_none = not_taken _ _ refl refl

-- a flag is refused wherever it stands
flag_first : (word : Text) (rest : List Text) → bytes_eq (codes "run") word ≡ false → bytes_eq (codes "play") word ≡ false → Flag word
    → fault_of command_line (word ∷ rest) ≡ UnknownArgument ∷ []
unfolding walked bundle_met flags_fault walk_fault defaults_fault
flag_first word rest run play (by_long is other p long) = rw (run, play, other, long) refl
flag_first word rest run play (by_short is other long f fs short x first) = rw (run, play, other, long, short, first) refl

flag_at_run : (x : Text) (rest : List Text) → Flag x → entered_fault program (Some (codes "run", x ∷ rest)) ≡ UnknownArgument ∷ []
unfolding walked bundle_met flags_fault walk_fault defaults_fault program
flag_at_run x rest (by_long is other p long) = rw (other, long) refl
flag_at_run x rest (by_short is other long f fs short c first) = rw (other, long, short, first) refl

flag_at_count : (x : Text) (rest : List Text) → Flag x → entered_fault program (Some (codes "play", x ∷ rest)) ≡ UnknownArgument ∷ []
unfolding walked bundle_met flags_fault walk_fault defaults_fault program
flag_at_count x rest (by_long is other p long) = rw (other, long) refl
flag_at_count x rest (by_short is other long f fs short c first) = rw (other, long, short, first) refl

flag_at_seed : (x y : Text) (rest : List Text) → Plain x → Flag y → entered_fault program (Some (codes "play", x ∷ y ∷ rest)) ≡ UnknownArgument ∷ []
unfolding walked bundle_met flags_fault walk_fault defaults_fault program
flag_at_seed x y rest p (by_long is other q long) = rw (p.dashes, p.long, p.short, other, long) refl
flag_at_seed x y rest p (by_short is other long f fs short c first) = rw (p.dashes, p.long, p.short, other, long, short, first) refl

plain_at_run : (x : Text) (rest : List Text) → Plain x → entered_fault program (Some (codes "run", x ∷ rest)) ≡ UnknownArgument ∷ []
unfolding clap_on_literals program
plain_at_run x rest p = rw (p.dashes, p.long, p.short) refl

-- a command refuses its words
refused_run : (rest : List Text) → entered_fault program (Some (codes "run", rest)) ≡ UnknownArgument ∷ [] → NoCommand ≡ command_with (codes "run") (arguments rest)
    → Reading (codes "run" ∷ rest)
unfolding clap_on_literals start met program
refused_run rest below is = not_taken UnknownArgument [] (refused_below (codes "run") rest UnknownArgument [] refl refl below) is

refused_play : (rest : List Text) (k : ErrorKind) → entered_fault program (Some (codes "play", rest)) ≡ k ∷ [] → NoCommand ≡ command_with (codes "play") (arguments rest)
    → Reading (codes "play" ∷ rest)
unfolding clap_on_literals start met program
refused_play rest k below is = not_taken k [] (refused_below (codes "play") rest k [] refl refl below) is

-- the first word
data First (word : Text) : Type 0 where
  run : word ≡ codes "run" → First word
  play : word ≡ codes "play" → First word
  other : bytes_eq word (codes "run") ≡ false → bytes_eq word (codes "play") ≡ false
      → bytes_eq (codes "run") word ≡ false → bytes_eq (codes "play") word ≡ false → First word

first_by : (word : Text) (is_run is_play : Bool) → bytes_eq word (codes "run") ≡ is_run → bytes_eq word (codes "play") ≡ is_play → First word
first_by word true is_play r p = run ((bytes_eq-Decides word (codes "run")).0 r)
first_by word false true r p = play ((bytes_eq-Decides word (codes "play")).0 p)
first_by word false false r p = other r p
    (different (codes "run") word (λ e. let yes : bytes_eq word (codes "run") ≡ true = (bytes_eq-Decides word (codes "run")).1 (sym e) in let wrong : true ≡ false = sym yes ∙ r in cc))
    (different (codes "play") word (λ e. let yes : bytes_eq word (codes "play") ≡ true = (bytes_eq-Decides word (codes "play")).1 (sym e) in let wrong : true ≡ false = sym yes ∙ p in cc))

first : (word : Text) → First word
first word = first_by word _ _ refl refl

dashes_first : (rest : List Text) → Reading (codes "--" ∷ rest)
unfolding clap_on_literals
dashes_first [] = not_taken _ _ refl refl
dashes_first (x ∷ rest) = not_taken _ _ refl (no_other (codes "--") (arguments (x ∷ rest)) refl refl)

read_other : (word : Text) (rest : List Text) → bytes_eq (codes "run") word ≡ false → bytes_eq (codes "play") word ≡ false → Word word
    → NoCommand ≡ words_command (word ∷ rest) → Reading (word ∷ rest)
unfolding clap_on_literals
read_other word rest no_run no_play (plain p) is =
    not_taken UnknownArgument (InvalidSubcommand ∷ []) (rw (no_run, no_play, p.dashes, p.long, p.short) refl) is
read_other word rest no_run no_play (flag f) is = not_taken UnknownArgument [] (flag_first word rest no_run no_play f) is
read_other word rest no_run no_play (dashes d) is = subst (λ (t : Text). Reading (t ∷ rest)) (sym d) (dashes_first rest)

-- ---- `run`

read_run : Reading (codes "run" ∷ [])
unfolding clap_on_literals
read_run = taken refl refl

run_then_dashes : (rest : List Text) → Reading (codes "run" ∷ codes "--" ∷ rest)
unfolding clap_on_literals program
run_then_dashes [] = taken refl refl
run_then_dashes (x ∷ rest) = refused_run (codes "--" ∷ x ∷ rest) refl (no_run x rest)

read_run_then : (rest : List Text) → Each Word rest → Reading (codes "run" ∷ rest)
read_run_then [] each = read_run
read_run_then (x ∷ rest) each = by each.0
  where
    by : Word x → Reading (codes "run" ∷ x ∷ rest)
    by (plain p) = refused_run (x ∷ rest) (plain_at_run x rest p) (rw p.dashes (no_run x (arguments rest)))
    by (flag f) = refused_run (x ∷ rest) (flag_at_run x rest f) (rw (not_dashes x f) (no_run x (arguments rest)))
    by (dashes d) = subst (λ (t : Text). Reading (codes "run" ∷ t ∷ rest)) (sym d) (run_then_dashes rest)

-- ---- `play`

read_play : Reading (codes "play" ∷ [])
unfolding clap_on_literals
read_play = not_taken _ _ refl refl

module _ (x : Text) where
  one : Plain x → (b : Bool) → fits x ≡ b → Reading (codes "play" ∷ x ∷ [])
  unfolding clap_on_literals
  one p true f = not_taken MissingRequiredArgument [] (rw (p.dashes, p.long, p.short, f) refl) (rw p.dashes refl)
  one p false f = not_taken ValueValidation [] (rw (p.dashes, p.long, p.short, f) refl) (rw p.dashes refl)

-- two words, of which clap takes the first for a number
module _ (x y : Text) (f : fits x ≡ true) where
  two : Plain x → Plain y → (b : Bool) → fits y ≡ b → Reading (codes "play" ∷ x ∷ y ∷ [])
  unfolding clap_on_literals
  two p q true g = taken (rw (p.dashes, p.long, p.short, q.dashes, q.long, q.short, f, g) refl) (rw (p.dashes, p.long, p.short, q.dashes, q.long, q.short) refl)
  two p q false g =
      not_taken ValueValidation [] (rw (p.dashes, p.long, p.short, q.dashes, q.long, q.short, f, g) refl)
      (rw (p.dashes, q.dashes) (bad_seed (codes "play") x y [] g))

-- more words, of which clap takes the first for a number
module _ (x y z : Text) (rest : List Text) (f : fits x ≡ true) where
  third_plain : Plain x → Plain y → Plain z → entered_fault program (Some (codes "play", x ∷ y ∷ z ∷ rest)) ≡ UnknownArgument ∷ []
  unfolding clap_on_literals program
  third_plain p q r = rw (p.dashes, p.long, p.short, q.dashes, q.long, q.short, r.dashes, r.long, r.short, f) refl

  third_flag : Plain x → Plain y → Flag z → entered_fault program (Some (codes "play", x ∷ y ∷ z ∷ rest)) ≡ UnknownArgument ∷ []
  unfolding walked bundle_met flags_fault walk_fault defaults_fault program
  third_flag p q (by_long is off r long) = rw (p.dashes, p.long, p.short, q.dashes, q.long, q.short, f, off, long) refl
  third_flag p q (by_short is off long g gs short c at) = rw (p.dashes, p.long, p.short, q.dashes, q.long, q.short, f, off, long, short, at) refl

-- more words, of which clap does not take the first for a number
module _ (x y : Text) (rest : List Text) (f : fits x ≡ false) where
  bad_plain : Plain x → Plain y → entered_fault program (Some (codes "play", x ∷ y ∷ rest)) ≡ ValueValidation ∷ []
  unfolding clap_on_literals program
  bad_plain p q = rw (p.dashes, p.long, p.short, q.dashes, q.long, q.short, f) refl

-- ---- `play`, with `--` before its arguments, between them or behind them; what comes behind that is not looked at but as a number

module _ (x : Text) where
  dashes_one : (b : Bool) → fits x ≡ b → Reading (codes "play" ∷ codes "--" ∷ x ∷ [])
  unfolding clap_on_literals
  dashes_one true f = not_taken MissingRequiredArgument [] (rw f refl) refl
  dashes_one false f = not_taken ValueValidation [] (rw f refl) refl

  one_dashes : Plain x → (b : Bool) → fits x ≡ b → Reading (codes "play" ∷ x ∷ codes "--" ∷ [])
  unfolding clap_on_literals
  one_dashes p true f = not_taken MissingRequiredArgument [] (rw (p.dashes, p.long, p.short, f) refl) (rw p.dashes refl)
  one_dashes p false f = not_taken ValueValidation [] (rw (p.dashes, p.long, p.short, f) refl) (rw p.dashes refl)

module _ (x y : Text) where
  dashes_two : (a b : Bool) → fits x ≡ a → fits y ≡ b → Reading (codes "play" ∷ codes "--" ∷ x ∷ y ∷ [])
  unfolding clap_on_literals
  dashes_two true true f g = taken (rw (f, g) refl) refl
  dashes_two true false f g = not_taken ValueValidation [] (rw (f, g) refl) (bad_seed (codes "play") x y [] g)
  dashes_two false b f g = not_taken ValueValidation [] (rw f refl) (bad_count (codes "play") x (y ∷ []) f)

  dashes_between : Plain x → (a b : Bool) → fits x ≡ a → fits y ≡ b → Reading (codes "play" ∷ x ∷ codes "--" ∷ y ∷ [])
  unfolding clap_on_literals
  dashes_between p true true f g = taken (rw (p.dashes, p.long, p.short, f, g) refl) (rw (p.dashes, p.long, p.short) refl)
  dashes_between p true false f g = not_taken ValueValidation [] (rw (p.dashes, p.long, p.short, f, g) refl) (rw p.dashes (bad_seed (codes "play") x y [] g))
  dashes_between p false b f g = not_taken ValueValidation [] (rw (p.dashes, p.long, p.short, f) refl) (rw p.dashes (bad_count (codes "play") x (y ∷ []) f))

  two_dashes : Plain x → Plain y → (a b : Bool) → fits x ≡ a → fits y ≡ b → Reading (codes "play" ∷ x ∷ y ∷ codes "--" ∷ [])
  unfolding clap_on_literals
  two_dashes p q true true f g =
      taken (rw (p.dashes, p.long, p.short, q.dashes, q.long, q.short, f, g) refl) (rw (p.dashes, p.long, p.short, q.dashes, q.long, q.short) refl)
  two_dashes p q true false f g =
      not_taken ValueValidation [] (rw (p.dashes, p.long, p.short, q.dashes, q.long, q.short, f, g) refl)
      (rw (p.dashes, q.dashes) (bad_seed (codes "play") x y [] g))
  two_dashes p q false b f g =
      not_taken ValueValidation [] (rw (p.dashes, p.long, p.short, q.dashes, q.long, q.short, f) refl)
      (rw (p.dashes, q.dashes) (bad_count (codes "play") x (y ∷ []) f))

-- a third word, wherever `--` stands before it
module _ (x y z : Text) (rest : List Text) where
  third_behind : (a : Bool) → fits x ≡ a → Reading (codes "play" ∷ codes "--" ∷ x ∷ y ∷ z ∷ rest)
  unfolding clap_on_literals program
  third_behind true f = refused_play (codes "--" ∷ x ∷ y ∷ z ∷ rest) UnknownArgument (rw f refl) refl
  third_behind false f = refused_play (codes "--" ∷ x ∷ y ∷ z ∷ rest) ValueValidation (rw f refl) refl

  third_between : Plain x → (a : Bool) → fits x ≡ a → Reading (codes "play" ∷ x ∷ codes "--" ∷ y ∷ z ∷ rest)
  unfolding clap_on_literals program
  third_between p true f = refused_play (x ∷ codes "--" ∷ y ∷ z ∷ rest) UnknownArgument (rw (p.dashes, p.long, p.short, f) refl) (rw p.dashes refl)
  third_between p false f = refused_play (x ∷ codes "--" ∷ y ∷ z ∷ rest) ValueValidation (rw (p.dashes, p.long, p.short, f) refl) (rw p.dashes refl)

  third_last : Plain x → Plain y → (a : Bool) → fits x ≡ a → Reading (codes "play" ∷ x ∷ y ∷ codes "--" ∷ z ∷ rest)
  unfolding clap_on_literals program
  third_last p q true f =
      refused_play (x ∷ y ∷ codes "--" ∷ z ∷ rest) UnknownArgument (rw (p.dashes, p.long, p.short, q.dashes, q.long, q.short, f) refl) (rw (p.dashes, q.dashes) refl)
  third_last p q false f =
      refused_play (x ∷ y ∷ codes "--" ∷ z ∷ rest) ValueValidation (rw (p.dashes, p.long, p.short, q.dashes, q.long, q.short, f) refl) (rw (p.dashes, q.dashes) refl)

dashes_at_once : (rest : List Text) → Reading (codes "play" ∷ codes "--" ∷ rest)
unfolding clap_on_literals
dashes_at_once [] = not_taken _ _ refl refl
dashes_at_once (x ∷ []) = dashes_one x _ refl
dashes_at_once (x ∷ y ∷ []) = dashes_two x y _ _ refl refl
dashes_at_once (x ∷ y ∷ z ∷ rest) = third_behind x y z rest _ refl

dashes_after_one : (x : Text) (rest : List Text) → Plain x → Reading (codes "play" ∷ x ∷ codes "--" ∷ rest)
dashes_after_one x [] p = one_dashes x p _ refl
dashes_after_one x (y ∷ []) p = dashes_between x y p _ _ refl refl
dashes_after_one x (y ∷ z ∷ rest) p = third_between x y z rest p _ refl

dashes_after_two : (x y : Text) (rest : List Text) → Plain x → Plain y → Reading (codes "play" ∷ x ∷ y ∷ codes "--" ∷ rest)
dashes_after_two x y [] p q = two_dashes x y p q _ _ refl refl
dashes_after_two x y (z ∷ rest) p q = third_last x y z rest p q _ refl

-- ---- `play`, with any words

after_two : (x y : Text) (rest : List Text) → fits x ≡ true → Plain x → Plain y → Each Word rest → Reading (codes "play" ∷ x ∷ y ∷ rest)
after_two x y [] f p q each = two x y f p q _ refl
after_two x y (z ∷ rest) f p q each = by each.0
  where
    by : Word z → Reading (codes "play" ∷ x ∷ y ∷ z ∷ rest)
    by (plain r) = refused_play (x ∷ y ∷ z ∷ rest) UnknownArgument (third_plain x y z rest f p q r) (rw (p.dashes, q.dashes, r.dashes) refl)
    by (flag g) = refused_play (x ∷ y ∷ z ∷ rest) UnknownArgument (third_flag x y z rest f p q g) (rw (p.dashes, q.dashes, not_dashes z g) refl)
    by (dashes d) = subst (λ (t : Text). Reading (codes "play" ∷ x ∷ y ∷ t ∷ rest)) (sym d) (dashes_after_two x y rest p q)

-- a number that clap refuses, and more words
bad_first : (x y : Text) (rest : List Text) → fits x ≡ false → Plain x → Plain y → Reading (codes "play" ∷ x ∷ y ∷ rest)
bad_first x y rest f p q =
    refused_play (x ∷ y ∷ rest) ValueValidation (bad_plain x y rest f p q)
    (rw (p.dashes, q.dashes) (bad_count (codes "play") x (y ∷ arguments rest) f))

after_one : (x : Text) (rest : List Text) → Plain x → Each Word rest → Reading (codes "play" ∷ x ∷ rest)
after_one x [] p each = one x p _ refl
after_one x (y ∷ rest) p each = by each.0
  where
    plain_by : Plain y → (b : Bool) → fits x ≡ b → Reading (codes "play" ∷ x ∷ y ∷ rest)
    plain_by q true f = after_two x y rest f p q each.1
    plain_by q false f = bad_first x y rest f p q

    by : Word y → Reading (codes "play" ∷ x ∷ y ∷ rest)
    by (plain q) = plain_by q _ refl
    by (flag g) =
        refused_play (x ∷ y ∷ rest) UnknownArgument (flag_at_seed x y rest p g)
        (rw (p.dashes, not_dashes y g) (bad_seed (codes "play") x y (arguments rest) (no_fit y g)))
    by (dashes d) = subst (λ (t : Text). Reading (codes "play" ∷ x ∷ t ∷ rest)) (sym d) (dashes_after_one x rest p)

read_play_then : (rest : List Text) → Each Word rest → Reading (codes "play" ∷ rest)
read_play_then [] each = read_play
read_play_then (x ∷ rest) each = by each.0
  where
    by : Word x → Reading (codes "play" ∷ x ∷ rest)
    by (plain p) = after_one x rest p each.1
    by (flag f) =
        refused_play (x ∷ rest) UnknownArgument (flag_at_count x rest f)
        (rw (not_dashes x f) (bad_count (codes "play") x (arguments rest) (no_fit x f)))
    by (dashes d) = subst (λ (t : Text). Reading (codes "play" ∷ t ∷ rest)) (sym d) (dashes_at_once rest)

-- ---- all words

read_first : (word : Text) (rest : List Text) → First word → Word word → Each Word rest → Reading (word ∷ rest)
read_first word rest (run is) w each = subst (λ (t : Text). Reading (t ∷ rest)) (sym is) (read_run_then rest each)
read_first word rest (play is) w each = subst (λ (t : Text). Reading (t ∷ rest)) (sym is) (read_play_then rest each)
read_first word rest (other r p r' p') w each = read_other word rest r' p' w (no_other word (arguments rest) r p)

reading_each : (words : List Text) → Each Word words → Reading words
reading_each [] each = read_none
reading_each (word ∷ rest) each = read_first word rest (first word) each.0 each.1

each_text : (words : List (String Global)) → Each IsUtf8 (map string_bytes words)
each_text [] = tt
each_text (word ∷ rest) = (IsUtf8-string_bytes word, each_text rest)

pub reading : (words : List (String Global)) → Reading (map string_bytes words)
reading words = reading_each _ (words_each _ (each_text words))

pub command_read : (words : List Text) → Reading words → fault_of command_line words ≡ [] → command_found (subcommand_of command_line words) ≡ words_command words
command_read words (taken none is) fault = is
command_read words (not_taken k ks some is) fault = let wrong : k ∷ ks ≡ [] = sym some ∙ fault in cc

pub command_refused : (words : List Text) → Reading words → (kind : ErrorKind) → IsAmong kind (fault_of command_line words) → NoCommand ≡ words_command words
command_refused words (taken none is) kind among = absurd (subst (IsAmong kind) none among)
command_refused words (not_taken k ks some is) kind among = is
