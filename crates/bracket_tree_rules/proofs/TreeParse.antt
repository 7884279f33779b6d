-- A tree that fits on a stack may replace its tokens: the parse continues after its entries.
use Rattle.std.proofs.Common.{◌≡◌, ℕ, suc, ◌+◌, ◌≤◌, ◌<◌, max, true, false, eqb, Some, None, List, [], ◌∷◌, ◌++◌, length, refl, ap, sym, ◌∙◌, arith, append_assoc, inl, inr}
use Rattle.std.proofs.lemmas.Bool.{and_parts, or_parts, or_left, or_right}
use Rattle.std.proofs.lemmas.Bool.Decides.{eqb_tells}
use Rattle.std.proofs.lemmas.Grind.{common_steps}
use Rattle.text_lengths.specs.declared.Length.{Length}
use Rattle.text_lengths.specs.Length.{length_plus}
use Rattle.bracket_rules.specs.declared.TheConstants.{MOST_OPEN}
use Rattle.bracket_rules.specs.Parse.{Bracket, bracket, spot_of, Judged, Event, opens, too_deep, closes, unexpected, depth_of, closing_event, event, stack_after, judged_opening, judged_closing, Story, told, parse}
use Rattle.bracket_tree_rules.specs.Tree.{Tree, text, pair, stray, capped, nothing, two, three, tree_length, inside_start, inside_end, tree_tokens, tree_entries, is_missing, is_closed, is_capped, nesting, IsPair, IsTree}
use Rattle.bracket_tree_rules.specs.Told.{prepend}

-- a tree that fits on a stack
pub record FitsOn (stack : List Bracket) (t : Tree) : Type 0 where
  pub closed : is_closed t ≡ true
  pub uncapped : is_capped t ≡ false
  pub apart : (k : ℕ) → is_missing k t ≡ true → depth_of k stack ≡ None
  pub room : length stack + nesting t ≤ MOST_OPEN

-- ---- stories

pub prepend_none : (s : Story) → prepend [] s ≡ s
prepend_none s = refl

pub prepend-prepend : (xs ys : List Judged) (s : Story) → prepend xs (prepend ys s) ≡ prepend (xs ++ ys) s
prepend-prepend xs ys s =
    ap (λ (es : List Judged). let t : Story = record { closers = s.closers; entries = es } in t) (sym (append_assoc xs ys s.entries))

-- ---- one bracket

pub eqb_refl : (k : ℕ) → eqb k k ≡ true
eqb_refl k = grind (arith, common_steps)

pub event_opens : (stack : List Bracket) (p : Length) (o k : ℕ) → length stack < MOST_OPEN → event stack (bracket p o k true) ≡ opens
event_opens stack p o k h = grind (arith, common_steps)

pub event_too_deep : (stack : List Bracket) (p : Length) (o k : ℕ) → length stack ≡ MOST_OPEN → event stack (bracket p o k true) ≡ too_deep
event_too_deep stack p o k h = grind (arith, common_steps)

pub event_unexpected : (stack : List Bracket) (p : Length) (w k : ℕ) → depth_of k stack ≡ None → event stack (bracket p w k false) ≡ unexpected
event_unexpected stack p w k h = ap closing_event h

depth_of-top : (b : Bracket) (stack : List Bracket) → depth_of b.kind (b ∷ stack) ≡ Some 0
depth_of-top b stack = grind (arith, common_steps)

pub parse-event : (stack : List Bracket) (b : Bracket) (e : Event) (rest : List Bracket)
    → event stack b ≡ e → parse stack (b ∷ rest) ≡ told stack b e (parse (stack_after stack b e) rest)
parse-event stack b e rest h = ap (λ (x : Event). told stack b x (parse (stack_after stack b x) rest)) h

-- ---- a pair with both brackets

closing_event_zero : (k : ℕ) (b : Bracket) (stack : List Bracket) (q : Length) (w : ℕ)
    → b.kind ≡ k → event (b ∷ stack) (bracket q w k false) ≡ closes 0
closing_event_zero k b stack q w h =
    ap (λ (n : ℕ). closing_event (depth_of n (b ∷ stack))) (sym h) ∙ ap closing_event (depth_of-top b stack)

pub parse-closing : (k : ℕ) (b : Bracket) (stack : List Bracket) (q : Length) (w : ℕ) (us : List Bracket)
    → b.kind ≡ k
    → parse (b ∷ stack) (bracket q w k false ∷ us)
    ≡ told (b ∷ stack) (bracket q w k false) (closes 0) (parse stack us)
parse-closing k b stack q w us h = parse-event (b ∷ stack) (bracket q w k false) (closes 0) us (closing_event_zero k b stack q w h)

pub told-paired : (stack : List Bracket) (b c : Bracket) (es : List Judged) (s : Story)
    → told stack b opens (prepend es (told (b ∷ stack) c (closes 0) s))
    ≡ prepend (judged_opening b (length stack) (Some (spot_of c))
    ∷ (es ++ judged_closing c (length stack) (Some (spot_of b)) ∷ [])) s
told-paired stack b c es s =
    ap (λ (x : List Judged). let t : Story = record { closers = s.closers; entries = judged_opening b (length stack) (Some (spot_of c)) ∷ x } in t)
    (sym (append_assoc es (judged_closing c (length stack) (Some (spot_of b)) ∷ []) s.entries))

-- ---- whole trees

-- the kind of an unexpected closing bracket inside a pair is not the pair's kind
other_kind : (k j : ℕ) (i : Tree) → is_missing k i ≡ false → is_missing j i ≡ true → eqb k j ≡ false
other_kind k j i h m = elim (eqb_tells k j) [
  | inl same ↦ let at_k : is_missing k i ≡ true = rw same.1 m in cc
  | inr differ ↦ differ.0
]

depth_of-under : (b : Bracket) (stack : List Bracket) (j : ℕ)
    → eqb b.kind j ≡ false → depth_of j stack ≡ None → depth_of j (b ∷ stack) ≡ None
depth_of-under b stack j h e = rw (h, e) refl

FitsOn-inside : (stack : List Bracket) (p : Length) (k o : ℕ) (i : Tree) (w : ℕ)
    → IsPair k o i (Some w) → FitsOn stack (pair k o i (Some w)) → FitsOn (bracket p o k true ∷ stack) i
FitsOn-inside stack p k o i w h f = record {
  closed = f.closed;
  uncapped = f.uncapped;
  apart = λ j m. depth_of-under (bracket p o k true) stack j (other_kind k j i h.not_missing m) (f.apart j m);
  room = let room : length stack + suc (nesting i) ≤ MOST_OPEN = f.room in omega arith;
}

-- both parts of a list fit on a stack on which the list fits
FitsOn-both : (stack : List Bracket) (a b : Tree) → FitsOn stack (two a b) → FitsOn stack a × FitsOn stack b
FitsOn-both stack a b f =
    let closed = and_parts (is_closed a) (is_closed b) f.closed in
    let uncapped = or_parts (is_capped a) (is_capped b) f.uncapped in
    let missing_first = λ (k : ℕ). or_left (is_missing k a) (is_missing k b) in
    let missing_second = λ (k : ℕ). or_right (is_missing k a) (is_missing k b) in
    let room : length stack + max (nesting a) (nesting b) ≤ MOST_OPEN = f.room in (
      record { closed = closed.0; uncapped = uncapped.0; apart = λ k m. f.apart k (missing_first k m); room = omega arith },
      record { closed = closed.1; uncapped = uncapped.1; apart = λ k m. f.apart k (missing_second k m); room = omega arith },
    )

-- a list of three that fits also fits as a list of two, the second of which is a list of two
FitsOn-three : (stack : List Bracket) (a b c : Tree) → FitsOn stack (three a b c) → FitsOn stack (two a (two b c))
FitsOn-three stack a b c f = record { closed = f.closed; uncapped = f.uncapped; apart = f.apart; room = f.room }

-- the parse of two parts, one after the other
taken-both : (stack : List Bracket) (first second us : List Bracket) (es fs : List Judged)
    → parse stack (first ++ (second ++ us)) ≡ prepend es (parse stack (second ++ us))
    → parse stack (second ++ us) ≡ prepend fs (parse stack us)
    → parse stack ((first ++ second) ++ us) ≡ prepend (es ++ fs) (parse stack us)
taken-both stack first second us es fs h k =
    ap (parse stack) (append_assoc first second us) ∙ h ∙ ap (prepend es) k ∙ prepend-prepend es fs (parse stack us)

pub taken : (stack : List Bracket) (p : Length) (t : Tree) (us : List Bracket) → IsTree t → FitsOn stack t
    → parse stack (tree_tokens p t ++ us) ≡ prepend (tree_entries p (length stack) t) (parse stack us)
taken stack p (text l) us h f = refl
taken stack p (pair k o i None) us h f = let closed : false ≡ true = f.closed in cc
taken stack p (pair k o i (Some w)) us h f =
    let b : Bracket = bracket p o k true in
    let c : Bracket = bracket (inside_end p o i) w k false in
    let inner : List Bracket = tree_tokens (inside_start p o) i in
    let es : List Judged = tree_entries (inside_start p o) (suc (length stack)) i in
    let room : length stack + suc (nesting i) ≤ MOST_OPEN = f.room in
    let below : length stack < MOST_OPEN = omega arith in
    let rest : parse (b ∷ stack) (inner ++ (c ∷ us)) ≡ prepend es (parse (b ∷ stack) (c ∷ us)) =
    taken (b ∷ stack) (inside_start p o) i (c ∷ us) h.1 (FitsOn-inside stack p k o i w h.0 f) in
    let closing : parse (b ∷ stack) (c ∷ us) ≡ told (b ∷ stack) c (closes 0) (parse stack us) =
    parse-closing k b stack (inside_end p o i) w us refl in
    parse-event stack b opens ((inner ++ c ∷ []) ++ us) (event_opens stack p o k below)
    ∙ ap (λ (x : List Bracket). told stack b opens (parse (b ∷ stack) x)) (append_assoc inner (c ∷ []) us)
    ∙ ap (told stack b opens) (rest ∙ ap (prepend es) closing)
    ∙ told-paired stack b c es (parse stack us)
taken stack p (stray k w) us h f =
    parse-event stack (bracket p w k false) unexpected us
    (event_unexpected stack p w k (f.apart k (eqb_refl k)))
taken stack p (capped k w) us h f = let uncapped : true ≡ false = f.uncapped in cc
taken stack p nothing us h f = refl
taken stack p (two a b) us h f =
    let q : Length = length_plus p (tree_length a) in
    let fits = FitsOn-both stack a b f in
    taken-both stack (tree_tokens p a) (tree_tokens q b) us (tree_entries p (length stack) a) (tree_entries q (length stack) b)
    (taken stack p a (tree_tokens q b ++ us) h.1.0 fits.0)
    (taken stack q b us h.1.1 fits.1)
taken stack p (three a b c) us h f =
    let q : Length = length_plus p (tree_length a) in
    let r : Length = length_plus q (tree_length b) in
    let fits = FitsOn-both stack a (two b c) (FitsOn-three stack a b c f) in
    let rest = FitsOn-both stack b c fits.1 in
    taken-both stack (tree_tokens p a) (tree_tokens q b ++ tree_tokens r c) us
    (tree_entries p (length stack) a) (tree_entries q (length stack) b ++ tree_entries r (length stack) c)
    (taken stack p a ((tree_tokens q b ++ tree_tokens r c) ++ us) h.1.0 fits.0)
    (taken-both stack (tree_tokens q b) (tree_tokens r c) us (tree_entries q (length stack) b) (tree_entries r (length stack) c)
    (taken stack q b (tree_tokens r c ++ us) h.1.1.0 rest.0)
    (taken stack r c us h.1.1.1 rest.1))
