-- Only texts whose first unit is in the bucket of a unit can begin at that unit.
use Rattle.std.proofs.Common.{◌≡◌, ℕ, suc, ◌+◌, ◌%◌, ◌<◌, ◌≤◌, Bool, true, false, ◌&&◌, eqb, get_or, drop, Option, Some, None, List, [], ◌∷◌, ◌++◌, length, refl, ap, sym, ◌∙◌, arith, append_assoc, inl, inr, add-one}
use Rattle.std.specs.List.{All, list_all}
use Rattle.std.proofs.lemmas.Bool.{and_parts}
use Rattle.std.proofs.lemmas.Bool.Decides.{eqb_tells, nat_tests}
use Rattle.std.proofs.lemmas.List.{get_or_at, length_push}
use Rattle.std.proofs.lemmas.List.Elements.{All-nil, All-cons, All-append}
use Rattle.bracket_rules.specs.declared.Token.{Token}
use Rattle.bracket_rules.specs.Table.{Table, texts_of, is_bracket_text, is_table, standing, longer, longest}
use Rattle.bracket_rules.proofs.Tokens.{has_texts}
use Rattle.bracket_scan.specs.declared.starts.Start.{Start}
use Rattle.bracket_scan.specs.declared.starts.TheConstants.{BUCKETS}
use Rattle.bracket_scan.specs.Starts.{begins_in, start, start_if, starts_in, text_at, longest_among}

-- ---- the longer of several

longer_none : (t : Option Token) → longer t None ≡ t
longer_none None = refl
longer_none (Some t) = refl

longer_assoc : (a b c : Option Token) → longer (longer a b) c ≡ longer a (longer b c)
longer_assoc None b c = refl
longer_assoc (Some t) None c = refl
longer_assoc (Some t) (Some u) None = longer_none (longer (Some t) (Some u))
longer_assoc (Some t) (Some u) (Some v) = grind (arith, nat_tests)

longest_among-append : (pairs : Table) (at : ℕ) (ss ts : List Start) (units : List ℕ)
    → longest_among pairs at (ss ++ ts) units ≡ longer (longest_among pairs at ss units) (longest_among pairs at ts units)
longest_among-append pairs at [] ts units = refl
longest_among-append pairs at (s ∷ ss) ts units =
    ap (longer (standing at s.kind s.opening (text_at pairs s) units)) (longest_among-append pairs at ss ts units)
    ∙ sym (longer_assoc (standing at s.kind s.opening (text_at pairs s) units) (longest_among pairs at ss units) (longest_among pairs at ts units))

-- ---- one text

pub not_standing : (at kind : ℕ) (opening : Bool) (v : ℕ) (text : List ℕ) (u : ℕ) (units : List ℕ)
    → eqb v u ≡ false → standing at kind opening (v ∷ text) (u ∷ units) ≡ None
not_standing at kind opening v text u units h = rw h refl

pub other_remainder : (n v u : ℕ) → eqb (v % n) (u % n) ≡ false → eqb v u ≡ false
other_remainder n v u h = elim (eqb_tells v u) [
  | inl same ↦
      let clash : eqb (v % n) (u % n) ≡ true = rw same.1 (itself (u % n)) in cc
  | inr differ ↦ differ.0
]
  where
    itself : (n : ℕ) → eqb n n ≡ true
    itself n = grind (arith, nat_tests)

one_text : (pairs : Table) (at kind : ℕ) (opening : Bool) (text : List ℕ) (u : ℕ) (units : List ℕ)
    → text_at pairs (start kind opening) ≡ text → is_bracket_text text ≡ true
    → longest_among pairs at (start_if (begins_in (u % BUCKETS) text) kind opening) (u ∷ units) ≡ standing at kind opening text (u ∷ units)
one_text pairs at kind opening [] u units h k = cc
one_text pairs at kind opening (v ∷ text) u units h k = either (eqb (v % BUCKETS) (u % BUCKETS)) refl
  where
    either : (b : Bool) → b ≡ eqb (v % BUCKETS) (u % BUCKETS)
        → longest_among pairs at (start_if b kind opening) (u ∷ units) ≡ standing at kind opening (v ∷ text) (u ∷ units)
    either true e =
        longer_none (standing at kind opening (text_at pairs (start kind opening)) (u ∷ units))
        ∙ ap (λ (x : List ℕ). standing at kind opening x (u ∷ units)) h
    either false e = sym (not_standing at kind opening v text u units (other_remainder BUCKETS v u (sym e)))

-- ---- all texts of a table

longest_among-from : (pre ps : Table) (at kind u : ℕ) (units : List ℕ)
    → length pre ≡ kind → list_all is_bracket_text (texts_of ps) ≡ true
    → longest_among (pre ++ ps) at (starts_in (u % BUCKETS) kind ps) (u ∷ units) ≡ longest at kind ps (u ∷ units)
longest_among-from pre [] at kind u units h k = refl
longest_among-from pre (p ∷ ps) at kind u units h k =
    let pairs : Table = pre ++ p ∷ ps in
    let bucket : ℕ = u % BUCKETS in
    let texts = and_parts (is_bracket_text p.0) (is_bracket_text p.1 && list_all is_bracket_text (texts_of ps)) k in
    let others = and_parts (is_bracket_text p.1) (list_all is_bracket_text (texts_of ps)) texts.1 in
    let here = get_or_at pre p ps ([], []) kind h in
    let first = one_text pairs at kind true p.0 u units (ap (λ (q : List ℕ × List ℕ). q.0) here) texts.0 in
    let second = one_text pairs at kind false p.1 u units (ap (λ (q : List ℕ × List ℕ). q.1) here) others.0 in
    let next : length (pre ++ p ∷ []) ≡ suc kind = length_push pre p ∙ add-one _ ∙ ap suc h in
    let rest = longest_among-from (pre ++ p ∷ []) ps at (suc kind) u units next others.1 in
    let whole : (pre ++ p ∷ []) ++ ps ≡ pairs = append_assoc pre (p ∷ []) ps in
    let rest' : longest_among pairs at (starts_in bucket (suc kind) ps) (u ∷ units) ≡ longest at (suc kind) ps (u ∷ units) =
    ap (λ (x : Table). longest_among x at (starts_in bucket (suc kind) ps) (u ∷ units)) (sym whole) ∙ rest in
    let split = longest_among-append pairs at (start_if (begins_in bucket p.0) kind true)
    (start_if (begins_in bucket p.1) kind false ++ starts_in bucket (suc kind) ps) (u ∷ units) in
    let split' = longest_among-append pairs at (start_if (begins_in bucket p.1) kind false) (starts_in bucket (suc kind) ps) (u ∷ units) in
    cc

pub longest_among-bucket : (pairs : Table) (at u : ℕ) (units : List ℕ)
    → list_all is_bracket_text (texts_of pairs) ≡ true
    → longest_among pairs at (starts_in (u % BUCKETS) 0 pairs) (u ∷ units) ≡ longest at 0 pairs (u ∷ units)
longest_among-bucket pairs at u units h = longest_among-from [] pairs at 0 u units refl h

-- ---- each start names a pair

starts_in-within : (bucket kind n : ℕ) (ps : Table) → kind + length ps ≤ n → All (λ s. s.kind < n) (starts_in bucket kind ps)
starts_in-within bucket kind n [] h = All-nil (λ (s : Start). s.kind < n)
starts_in-within bucket kind n (p ∷ ps) h =
    let below : kind < n = omega arith in
    All-append (λ (s : Start). s.kind < n) _ _ (one (begins_in bucket p.0) kind true below)
    (All-append (λ (s : Start). s.kind < n) _ _ (one (begins_in bucket p.1) kind false below)
    (starts_in-within bucket (suc kind) n ps (omega arith)))
  where
    one : (b : Bool) (kind : ℕ) (opening : Bool) → kind < n → All (λ s. s.kind < n) (start_if b kind opening)
    one true kind opening below = All-cons (λ (s : Start). s.kind < n) (start kind opening) [] below (All-nil (λ (s : Start). s.kind < n))
    one false kind opening below = All-nil (λ (s : Start). s.kind < n)

pub starts_in-kinds : (bucket : ℕ) (pairs : Table) → All (λ s. s.kind < length pairs) (starts_in bucket 0 pairs)
starts_in-kinds bucket pairs = starts_in-within bucket 0 (length pairs) pairs (omega arith)

-- ---- what a table's dispatch gives at a place

-- units that begin with one of them
pub first_and_rest : (units : List ℕ) → 0 < length units → units ≡ get_or units 0 0 ∷ drop 1 units
first_and_rest [] h = absurd (omega arith)
first_and_rest (u ∷ units) h = refl

pub longest_among-dispatched : (pairs : Table) (at : ℕ) (ss : List Start) (units : List ℕ)
    → is_table pairs ≡ true → 0 < length units → ss ≡ starts_in (get_or units 0 0 % BUCKETS) 0 pairs
    → longest_among pairs at ss units ≡ longest at 0 pairs units
longest_among-dispatched pairs at ss units h k e =
    let u : ℕ = get_or units 0 0 in
    let bucket = longest_among-bucket pairs at u (drop 1 units) (has_texts pairs h) in
    let split = first_and_rest units k in
    ap (λ (x : List Start). longest_among pairs at x units) e
    ∙ ap (longest_among pairs at (starts_in (u % BUCKETS) 0 pairs)) split
    ∙ bucket
    ∙ ap (longest at 0 pairs) (sym split)
