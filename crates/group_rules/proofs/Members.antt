-- The members of the tag of a joint edit are the documents of its batches.
use Rattle.std.proofs.Common.{◌≡◌, ℕ, zero, suc, ◌+◌, ◌/◌, ◌^◌, ◌==◌, ◌||◌, ◌≢◌, ◌<◌, ◌≤◌, get_or, arith, min, nat_le, Bool, true, false, if◌then◌else◌, List, [], ◌∷◌, Some, None, All, refl, sym, ap, subst, ◌∙◌, eqb-true, pow-suc, ⊎_elim}
use Rattle.std.proofs.lemmas.Bool.{or_parts, eqb-false, eq-eqb, cases_eq, true_from_ne_false}
use Rattle.std.proofs.lemmas.List.Folds.{list_any_at}
use Rattle.std.proofs.lemmas.List.Elements.{All-head, All-tail}
use Rattle.std.proofs.lemmas.List.Sums.{sum_by-cons}
use Rattle.std.proofs.lemmas.Nat.Bits.{bit_at_lowest, bit_at-suc, bit_at-zero}
use Rattle.std.specs.Int.{bit_at}
use Rattle.std.specs.List.{list_any}
use Rattle.text_rules.specs.declared.Op.{Op}
use Rattle.undo_rules.specs.Tags.{is_member}
use Rattle.group_rules.specs.declared.TheConstants.{DOC_COUNT}
use Rattle.group_rules.specs.Group.{FlatGroup}
use Rattle.group_rules.specs.Joint.{FlatBatch, docs_of, names_badly, members_of, least_of, tag_of, batch_for}

-- ---- the bits of a sum of different powers of two

bit_added : (n x : ℕ) → bit_at x n ≡ 0 → bit_at (2 ^ n + x) n ≡ 1
bit_added zero x free = omega (arith, bit_at_lowest x, bit_at_lowest (1 + x))
bit_added (suc n) x free =
    let half : (2 ^ suc n + x) / 2 ≡ 2 ^ n + x / 2 = omega (arith, pow-suc 2 n) in
    bit_at-suc (2 ^ suc n + x) n ∙ ap (λ y. bit_at y n) half ∙ bit_added n (x / 2) (sym (bit_at-suc x n) ∙ free)

bit_kept : (n x m : ℕ) → bit_at x n ≡ 0 → m ≢ n → bit_at (2 ^ n + x) m ≡ bit_at x m
bit_kept zero x zero free other = absurd (other refl)
bit_kept zero x (suc m) free other =
    let half : (1 + x) / 2 ≡ x / 2 = omega (arith, bit_at_lowest x) in
    bit_at-suc (1 + x) m ∙ ap (λ y. bit_at y m) half ∙ sym (bit_at-suc x m)
bit_kept (suc n) x zero free other = omega (arith, bit_at_lowest x, bit_at_lowest (2 ^ suc n + x), pow-suc 2 n)
bit_kept (suc n) x (suc m) free other =
    let half : (2 ^ suc n + x) / 2 ≡ 2 ^ n + x / 2 = omega (arith, pow-suc 2 n) in
    bit_at-suc (2 ^ suc n + x) m ∙ ap (λ y. bit_at y m) half ∙ bit_kept n (x / 2) m (sym (bit_at-suc x n) ∙ free) (λ e. other (ap suc e))
    ∙ sym (bit_at-suc x m)

-- ---- the members

-- a batch is for the document of this number
abbrev pub is_named : ℕ → List FlatBatch → Bool
is_named n batches = list_any (λ m. m == n) (docs_of batches)

member_bit : (batches : List FlatBatch) (n : ℕ) → names_badly (docs_of batches) ≡ false
    → bit_at (members_of batches) n ≡ (if is_named n batches then 1 else 0)
member_bit [] n good = bit_at-zero n
member_bit (b ∷ batches) n good =
    let parts = or_parts (nat_le DOC_COUNT b.doc || is_named b.doc batches) (names_badly (docs_of batches)) good in
    let alone = or_parts (nat_le DOC_COUNT b.doc) (is_named b.doc batches) parts.0 in
    let rest : (m : ℕ) → bit_at (members_of batches) m ≡ (if is_named m batches then 1 else 0) = λ m. member_bit batches m parts.1 in
    let free : bit_at (members_of batches) b.doc ≡ 0 = rest b.doc ∙ ap (λ t. if t then 1 else 0) alone.1 in
    ap (λ x. bit_at x n) (sum_by-cons (λ (b : FlatBatch). 2 ^ b.doc) b batches)
    ∙ by (b.doc == n) n (members_of batches) refl free rest
  where
    by : (t : Bool) (n x : ℕ) → (b.doc == n) ≡ t → bit_at x b.doc ≡ 0 → ((m : ℕ) → bit_at x m ≡ (if is_named m batches then 1 else 0))
        → bit_at (2 ^ b.doc + x) n ≡ (if t || is_named n batches then 1 else 0)
    by true n x e free rest = ap (λ m. bit_at (2 ^ b.doc + x) m) (sym (eqb-true b.doc n e)) ∙ bit_added b.doc x free
    by false n x e free rest = bit_kept b.doc x n free (λ same. eqb-false b.doc n e (sym same)) ∙ rest n

-- the members of the tag are the documents that batches are for
pub is_member-tag_of : (g : FlatGroup) (batches : List FlatBatch) (n : ℕ) → names_badly (docs_of batches) ≡ false
    → is_member n (tag_of g batches) ≡ is_named n batches
is_member-tag_of g batches n good = ap (λ x. x == 1) (member_bit batches n good) ∙ by (is_named n batches)
  where
    by : (t : Bool) → ((if t then 1 else 0) == 1) ≡ t
    by true = refl
    by false = refl

-- a document that no batch is for
pub batch_for_none : (batches : List FlatBatch) (n : ℕ) → is_named n batches ≡ false → batch_for n batches ≡ None
batch_for_none [] n none = refl
batch_for_none (b ∷ batches) n none =
    let parts = or_parts (b.doc == n) (is_named n batches) none in
    ap (λ t. if t then Some b.ops else batch_for n batches) parts.0 ∙ batch_for_none batches n parts.1

-- a batch that was found is one
pub named_batch : (batches : List FlatBatch) (n : ℕ) (ops : List Op) → batch_for n batches ≡ Some ops → is_named n batches ≡ true
named_batch batches n ops found = true_from_ne_false (is_named n batches) (λ none. let no = batch_for_none batches n none in absurd cc)

-- a property of all documents with a batch holds for each named document
pub named_kept : (P : ℕ → Type 0) (batches : List FlatBatch) (n : ℕ) → All P (docs_of batches) → is_named n batches ≡ true → P n
named_kept P [] n h named = absurd cc
named_kept P (b ∷ batches) n h named =
    by (b.doc == n) refl (λ more. named_kept P batches n (All-tail P b.doc (docs_of batches) h) more)
  where
    by : (t : Bool) → (b.doc == n) ≡ t → (is_named n batches ≡ true → P n) → P n
    by true e later = subst P (eqb-true b.doc n e) (All-head P b.doc (docs_of batches) h)
    by false e later = later (sym (ap (λ t. t || is_named n batches) e) ∙ named)

-- ---- the least of them

-- a property of all documents with a batch, and of `DOC_COUNT`, holds for the least
pub least_kept : (P : ℕ → Type 0) (batches : List FlatBatch) → P DOC_COUNT → All P (docs_of batches) → P (least_of batches)
least_kept P [] past h = past
least_kept P (b ∷ batches) past h =
    lesser b.doc (least_of batches) (All-head P b.doc (docs_of batches) h) (least_kept P batches past (All-tail P b.doc (docs_of batches) h))
  where
    lesser : (m n : ℕ) → P m → P n → P (min m n)
    lesser m n p q =
        ⊎_elim (λ (e : m ≡ min m n). subst P e p) (λ no. let e : n ≡ min m n = omega arith in subst P e q) (cases_eq m (min m n))

-- no batch is for a lower one
pub least_below : (batches : List FlatBatch) (n : ℕ) → is_named n batches ≡ true → least_of batches ≤ n
least_below [] n named = absurd cc
least_below (b ∷ batches) n named = by (b.doc == n) refl (λ more. least_below batches n more)
  where
    by : (t : Bool) → (b.doc == n) ≡ t → (is_named n batches ≡ true → least_of batches ≤ n) → min b.doc (least_of batches) ≤ n
    by true e later = omega (arith, eqb-true b.doc n e)
    by false e later = omega (arith, later (sym (ap (λ t. t || is_named n batches) e) ∙ named))

-- a batch is for the least, if there is one
pub least_named : (batches : List FlatBatch) → least_of batches < DOC_COUNT → is_named (least_of batches) batches ≡ true
least_named batches below =
    least_kept (λ n. n < DOC_COUNT → is_named n batches ≡ true) batches (λ past. absurd (omega (arith, past)))
    (λ i d inside lower. list_any_at (λ m. m == get_or (docs_of batches) i d) (docs_of batches) i d inside (eq-eqb _ _ refl)) below
