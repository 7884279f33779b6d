-- For which documents the batches of a joint edit are.
use Rattle.std.proofs.Common.{◌≡◌, ℕ, ◌+◌, ◌==◌, ◌||◌, ◌<◌, ◌^◌, arith, min, nat_le, Bool, true, false, if◌then◌else◌, List, [], ◌∷◌, ◌++◌, length, map, take, drop, get_or, Some, None, All, refl, sym, ap, ◌∙◌, ⊎_elim}
use Rattle.std.specs.List.{list_any}
use Rattle.std.proofs.Math.Bool.{or-false}
use Rattle.std.proofs.lemmas.Bool.{or_parts, or_cases, or_left, or_right, eq-eqb, eqb-true, eqb-false, ne_eqb, leb-false, both_ways, false_from_ne_true}
use Rattle.std.proofs.lemmas.List.{take_more, drop_more, take-append-drop, map-append}
use Rattle.std.proofs.lemmas.List.Elements.{All-nil, All-cons}
use Rattle.std.proofs.lemmas.List.Folds.{list_any-append, list_any_at}
use Rattle.std.proofs.lemmas.List.Sums.{sum_by_push}
use Rattle.undo_rules.specs.declared.Tag.{Tag}
use Rattle.group_rules.specs.Group.{FlatGroup, doc_in}
use Rattle.group_rules.specs.declared.TheConstants.{DOC_COUNT}
use Rattle.group_rules.specs.declared.DocBatch.{DocBatch}
use Rattle.group_rules.specs.Joint.{FlatBatch, flat_batch, docs_of, names_badly, members_of, least_of, tag_of}
use Rattle.group_rules.proofs.Members.{is_named, is_member-tag_of}
use Rattle.model_group.specs.Losing.{has_doc, set_with}

-- ---- batches one after another

-- one for the document of this number
abbrev pub batch_of : ℕ → FlatBatch
batch_of n = record { doc = n; ops = [] }

pub docs_back : (docs : List ℕ) → docs_of (map batch_of docs) ≡ docs
docs_back [] = refl
docs_back (n ∷ docs) = ap (λ ns. n ∷ ns) (docs_back docs)

module _ {X : Type 0} (batch : X → FlatBatch) (xs : List X) (i : ℕ) (d : X) (inside : i < length xs) where
  pub one_taken : map batch (take (i + 1) xs) ≡ map batch (take i xs) ++ batch (get_or xs i d) ∷ []
  one_taken = ap (map batch) (take_more xs i d inside) ∙ map-append batch (take i xs) (get_or xs i d ∷ [])

  pub one_among : map batch xs ≡ map batch (take i xs) ++ batch (get_or xs i d) ∷ map batch (drop (i + 1) xs)
  one_among =
      ap (map batch) (sym (take-append-drop i xs) ∙ ap (λ rest. take i xs ++ rest) (drop_more xs i d inside))
      ∙ map-append batch (take i xs) (get_or xs i d ∷ drop (i + 1) xs)

-- where that one was read
module _ (xs : List DocBatch) (i : ℕ) (b : DocBatch) (inside : i < length xs) (is : b ≡ get_or xs i b) where
  pub taken : map flat_batch (take (i + 1) xs) ≡ map flat_batch (take i xs) ++ flat_batch b ∷ []
  taken = one_taken flat_batch xs i b inside ∙ ap (λ (x : DocBatch). map flat_batch (take i xs) ++ flat_batch x ∷ []) (sym is)

  pub batch_among : map flat_batch xs ≡ map flat_batch (take i xs) ++ flat_batch b ∷ map flat_batch (drop (i + 1) xs)
  batch_among = one_among flat_batch xs i b inside ∙ ap (λ (x : DocBatch). map flat_batch (take i xs) ++ flat_batch x ∷ map flat_batch (drop (i + 1) xs)) (sym is)

pub least_of-push : (batches : List FlatBatch) (b : FlatBatch) → least_of (batches ++ b ∷ []) ≡ min (least_of batches) b.doc
least_of-push [] b = omega arith
least_of-push (x ∷ batches) b = ap (min x.doc) (least_of-push batches b) ∙ omega arith

-- ---- documents that are there, none twice

pub docs_of-append : (xs ys : List FlatBatch) → docs_of (xs ++ ys) ≡ docs_of xs ++ docs_of ys
docs_of-append xs ys = map-append (λ (b : FlatBatch). b.doc) xs ys

-- one that is not there, or was named before
abbrev pub is_bad : ℕ → List FlatBatch → Bool
is_bad n batches = nat_le DOC_COUNT n || is_named n batches

named-append : (n : ℕ) (xs ys : List FlatBatch) → is_named n (xs ++ ys) ≡ (is_named n xs || is_named n ys)
named-append n xs ys = ap (list_any (λ m. m == n)) (docs_of-append xs ys) ∙ list_any-append (λ m. m == n) (docs_of xs) (docs_of ys)

-- the batches are for documents of the group, none for one twice, and these are the set
pub record HaveSet (batches : List FlatBatch) (members : ℕ) : Type 0 where
  pub named : names_badly (docs_of batches) ≡ false
  pub set : members ≡ members_of batches

-- the bits of the set tell which were named
pub named_bit : (batches : List FlatBatch) (members n : ℕ) → HaveSet batches members → has_doc members n ≡ is_named n batches
named_bit batches members n have = ap (λ s. has_doc s n) have.set ∙ is_member-tag_of [] batches n have.named

pub well_named : (batches : List FlatBatch) (b : FlatBatch) → names_badly (docs_of batches) ≡ false → is_bad b.doc batches ≡ false
    → names_badly (docs_of (batches ++ b ∷ [])) ≡ false
well_named [] b good fine = rw (or_parts (nat_le DOC_COUNT b.doc) false fine).0 refl
well_named (x ∷ batches) b good fine =
    let now = or_parts (nat_le DOC_COUNT b.doc) (is_named b.doc (x ∷ batches)) fine in
    let apart = or_parts (x.doc == b.doc) (is_named b.doc batches) now.1 in
    let before = or_parts (is_bad x.doc batches) (names_badly (docs_of batches)) good in
    let first = or_parts (nat_le DOC_COUNT x.doc) (is_named x.doc batches) before.0 in
    let other : (b.doc == x.doc) ≡ false = ne_eqb b.doc x.doc (λ e. eqb-false x.doc b.doc apart.0 (sym e)) in
    let alone : is_named x.doc (batches ++ b ∷ []) ≡ false = rw (named-append x.doc batches (b ∷ []), first.1, other) refl in
    let rest : names_badly (docs_of (batches ++ b ∷ [])) ≡ false = well_named batches b before.1 (rw (now.0, apart.1) refl) in
    rw (first.0, alone, rest) refl

pub badly_named : (batches : List FlatBatch) (b : FlatBatch) (more : List FlatBatch) → is_bad b.doc batches ≡ true
    → names_badly (docs_of (batches ++ b ∷ more)) ≡ true
badly_named [] b more bad =
    or_left (is_bad b.doc more) (names_badly (docs_of more))
    (or_left (nat_le DOC_COUNT b.doc) (is_named b.doc more) (sym (or-false (nat_le DOC_COUNT b.doc)) ∙ bad))
badly_named (x ∷ batches) b more bad =
    let later : is_bad b.doc batches ≡ true → names_badly (docs_of (x ∷ batches ++ b ∷ more)) ≡ true = λ bad.
    or_right (is_bad x.doc (batches ++ b ∷ more)) (names_badly (docs_of (batches ++ b ∷ more))) (badly_named batches b more bad) in
    ⊎_elim (λ past. later (or_left (nat_le DOC_COUNT b.doc) (is_named b.doc batches) past))
    (λ named. ⊎_elim twice (λ before. later (or_right (nat_le DOC_COUNT b.doc) (is_named b.doc batches) before))
    (or_cases (x.doc == b.doc) (is_named b.doc batches) named))
    (or_cases (nat_le DOC_COUNT b.doc) (is_named b.doc (x ∷ batches)) bad)
  where
    twice : (x.doc == b.doc) ≡ true → names_badly (docs_of (x ∷ batches ++ b ∷ more)) ≡ true
    twice same =
        let named : is_named x.doc (batches ++ b ∷ more) ≡ true =
        named-append x.doc batches (b ∷ more)
        ∙ or_right (is_named x.doc batches) (is_named x.doc (b ∷ more))
        (or_left (b.doc == x.doc) (is_named x.doc more) (eq-eqb b.doc x.doc (sym (eqb-true x.doc b.doc same)))) in
        or_left (is_bad x.doc (batches ++ b ∷ more)) (names_badly (docs_of (batches ++ b ∷ more)))
        (or_right (nat_le DOC_COUNT x.doc) (is_named x.doc (batches ++ b ∷ more)) named)

is_more : (bad : Bool) (x more : ℕ) → (if bad then None else Some x) ≡ Some more → (bad ≡ false) × (x ≡ more)
is_more true x more is = absurd cc
is_more false x more is = (refl, cc)

is_none : (bad : Bool) (x : ℕ) → (if bad then None else Some x) ≡ None → bad ≡ true
is_none true x is = refl
is_none false x is = absurd cc

-- one more is asked of the set
module _ (batches : List FlatBatch) (members : ℕ) (b : FlatBatch) (have : HaveSet batches members) where
  bad_is : (nat_le DOC_COUNT b.doc || has_doc members b.doc) ≡ is_bad b.doc batches
  bad_is = ap (λ t. nat_le DOC_COUNT b.doc || t) (named_bit batches members b.doc have)

  pub have_more : (more : ℕ) → set_with members b.doc ≡ Some more → HaveSet (batches ++ b ∷ []) more
  have_more more is =
      let parts = is_more (nat_le DOC_COUNT b.doc || has_doc members b.doc) (members + 2 ^ b.doc) more is in
      record {
        named = well_named batches b have.named (sym bad_is ∙ parts.0);
        set = sym parts.1 ∙ ap (λ n. n + 2 ^ b.doc) have.set ∙ sym (sum_by_push (λ (b : FlatBatch). 2 ^ b.doc) batches b);
      }

  pub have_none_more : (rest : List FlatBatch) → set_with members b.doc ≡ None → names_badly (docs_of (batches ++ b ∷ rest)) ≡ true
  have_none_more rest is =
      badly_named batches b rest (sym bad_is ∙ is_none (nat_le DOC_COUNT b.doc || has_doc members b.doc) (members + 2 ^ b.doc) is)

-- each of them is one of the group, and none of those before
fine_batch : (batches : List FlatBatch) (b : FlatBatch) (more : List FlatBatch) → names_badly (docs_of (batches ++ b ∷ more)) ≡ false
    → is_bad b.doc batches ≡ false
fine_batch batches b more good =
    false_from_ne_true (is_bad b.doc batches) (λ bad. both_ways (names_badly (docs_of (batches ++ b ∷ more))) good (badly_named batches b more bad))

is_there : (batches : List FlatBatch) (b : FlatBatch) (more : List FlatBatch) → names_badly (docs_of (batches ++ b ∷ more)) ≡ false
    → b.doc < DOC_COUNT
is_there batches b more good =
    leb-false DOC_COUNT b.doc (or_parts (nat_le DOC_COUNT b.doc) (is_named b.doc batches) (fine_batch batches b more good)).0

pub batch_fine : (xs : List DocBatch) (b : DocBatch) (ys all : List DocBatch) → xs ++ b ∷ ys ≡ all
    → names_badly (docs_of (map flat_batch all)) ≡ false → is_bad b.doc (map flat_batch xs) ≡ false
batch_fine xs b ys all whole good =
    let split : map flat_batch all ≡ map flat_batch xs ++ flat_batch b ∷ map flat_batch ys =
    ap (map flat_batch) (sym whole) ∙ map-append flat_batch xs (b ∷ ys) in
    fine_batch (map flat_batch xs) (flat_batch b) (map flat_batch ys) (sym (ap (λ batches. names_badly (docs_of batches)) split) ∙ good)

pub all_there : (batches : List FlatBatch) → names_badly (docs_of batches) ≡ false → All (λ n. n < DOC_COUNT) (docs_of batches)
all_there [] good = All-nil (λ n. n < DOC_COUNT)
all_there (b ∷ batches) good =
    let parts = or_parts (is_bad b.doc batches) (names_badly (docs_of batches)) good in
    All-cons (λ n. n < DOC_COUNT) b.doc (docs_of batches) (is_there [] b batches good) (all_there batches parts.1)

pub all_named : (batches : List FlatBatch) → All (λ n. is_named n batches ≡ true) (docs_of batches)
all_named batches k d lt =
    let n : ℕ = get_or (docs_of batches) k d in list_any_at (λ m. m == n) (docs_of batches) k d lt (eq-eqb n n refl)

pub least_there : (batches : List FlatBatch) → 0 < length batches → names_badly (docs_of batches) ≡ false → least_of batches < DOC_COUNT
least_there [] some good = absurd (omega arith)
least_there (b ∷ batches) some good = omega (arith, is_there [] b batches good)

pub tag_is : (g : FlatGroup) (batches : List FlatBatch) (least version members : ℕ) → least ≡ least_of batches
    → version ≡ (doc_in g (least_of batches)).version
    → members ≡ members_of batches → ◌≡◌ {A = Tag} (record { least = least; version = version + 1; members = members }) (tag_of g batches)
tag_is g batches least version members l v m = rw (l, v, m) refl
