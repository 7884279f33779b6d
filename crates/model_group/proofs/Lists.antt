-- Lists by their items, and the documents of a group.
use Rattle.std.proofs.Common.{◌≡◌, ◌≢◌, ℕ, zero, suc, ◌+◌, ◌<◌, arith, set, Bool, true, false, if◌then◌else◌, List, [], ◌∷◌, length, get_or, drop, Option, Some, None, unwrap_or, option_map, slice_get, refl, sym, subst, ap, ◌∙◌}
use Rattle.std.proofs.lemmas.List.{length-map, map-set}
use Rattle.std.proofs.lemmas.Option.{slice_get-map, slice_get-get_or, slice_get_within, slice_get_read, unwrap_or-slice_get}
use Rattle.document_rules.specs.Document.{FlatState, empty_document}
use Rattle.group_rules.specs.declared.TheConstants.{DOC_COUNT}
use Rattle.group_rules.specs.Group.{FlatGroup, doc_in, with_doc, each_from}
use Rattle.group_rules.proofs.Places.{length-each_from, doc_in-each}
use Rattle.model_core.specs.State.{ModelState}
use Rattle.model_group.specs.State.{GroupState, OnDoc, documents}

module _ {X : Type 0} where
  -- the one that was sought is not the first, and was not found behind it
  pub not_first : (is_it : Bool) (x : X) (rest : Option X) → (if is_it then Some x else rest) ≡ None → (is_it ≡ false) × (rest ≡ None)
  not_first true x rest none = absurd cc
  not_first false x rest none = (refl, none)

  -- the item that was put there
  pub slice_get-set_same : (xs : List X) (n : ℕ) (x : X) → n < length xs → slice_get (set xs n x) n ≡ Some x
  slice_get-set_same [] n x lt = absurd (omega arith)
  slice_get-set_same (y ∷ xs) zero x lt = refl
  slice_get-set_same (y ∷ xs) (suc n) x lt = slice_get-set_same xs n x (omega arith)

  -- another item
  pub slice_get-set_other : (xs : List X) (n k : ℕ) (x : X) → k ≢ n → slice_get (set xs n x) k ≡ slice_get xs k
  slice_get-set_other [] n k x other = refl
  slice_get-set_other (y ∷ xs) zero zero x other = absurd (other refl)
  slice_get-set_other (y ∷ xs) zero (suc k) x other = refl
  slice_get-set_other (y ∷ xs) (suc n) zero x other = refl
  slice_get-set_other (y ∷ xs) (suc n) (suc k) x other = slice_get-set_other xs n k x (λ e. other (ap suc e))

  -- an item that is there stays there where it is put back
  pub set_back : (xs : List X) (n : ℕ) (x : X) → slice_get xs n ≡ Some x → set xs n x ≡ xs
  set_back [] n x is = refl
  set_back (y ∷ xs) zero x is = let same : x ≡ y = cc in ap (λ (z : X). z ∷ xs) same
  set_back (y ∷ xs) (suc n) x is = ap (λ (zs : List X). y ∷ zs) (set_back xs n x is)

  -- there is an item within the list
  pub item_within : (xs : List X) (n : ℕ) → n < length xs → (x : X) × (slice_get xs n ≡ Some x)
  item_within [] n lt = absurd (omega arith)
  item_within (x ∷ xs) zero lt = (x, refl)
  item_within (x ∷ xs) (suc n) lt = item_within xs n (omega arith)

  -- two lists of one length with the same item at each place
  pub same_items : (xs ys : List X) → length xs ≡ length ys
      → ((n : ℕ) (x y : X) → slice_get xs n ≡ Some x → slice_get ys n ≡ Some y → x ≡ y) → xs ≡ ys
  same_items [] [] count each = refl
  same_items [] (y ∷ ys) count each = absurd (omega arith)
  same_items (x ∷ xs) [] count each = absurd (omega arith)
  same_items (x ∷ xs) (y ∷ ys) count each =
      let first : x ≡ y = each 0 x y refl refl in
      let rest : xs ≡ ys = same_items xs ys (omega arith) (λ n a b p q. each (suc n) a b p q) in
      cc

  -- two lists of one length with the same item at each other place, where this item is put
  pub same_beside : (xs ys : List X) (n : ℕ) (x : X) → length xs ≡ length ys
      → ((k : ℕ) (a b : X) → k ≢ n → slice_get xs k ≡ Some a → slice_get ys k ≡ Some b → a ≡ b) → set xs n x ≡ set ys n x
  same_beside [] [] n x count each = refl
  same_beside [] (b ∷ ys) n x count each = absurd (omega arith)
  same_beside (a ∷ xs) [] n x count each = absurd (omega arith)
  same_beside (a ∷ xs) (b ∷ ys) zero x count each =
      ap (λ (zs : List X). x ∷ zs) (same_items xs ys (omega arith) (λ k c d p q. each (suc k) c d (omega arith) p q))
  same_beside (a ∷ xs) (b ∷ ys) (suc n) x count each =
      let first : a ≡ b = each 0 a b (omega arith) refl refl in
      let rest : set xs n x ≡ set ys n x = same_beside xs ys n x (omega arith) (λ k c d other p q. each (suc k) c d (omega (arith, other)) p q) in
      cc

  pub slice_get-drop : (first : ℕ) (xs : List X) (k : ℕ) → slice_get (drop first xs) k ≡ slice_get xs (first + k)
  slice_get-drop zero xs k = let none : 0 + k ≡ k = omega arith in ap (slice_get xs) (sym none)
  slice_get-drop (suc n) [] k = refl
  slice_get-drop (suc n) (x ∷ xs) k = let more : suc n + k ≡ suc (n + k) = omega arith in slice_get-drop n xs k ∙ ap (slice_get (x ∷ xs)) (sym more)

-- ---- each document by its number

pub slice_get-each : (change : ℕ → FlatState → FlatState) (g : FlatGroup) (n : ℕ) (f : FlatState) → slice_get g n ≡ Some f
    → slice_get (each_from 0 change g) n ≡ Some (change n f)
slice_get-each change g n f is =
    let within : n < length g = slice_get_within g n f is in
    slice_get-get_or (each_from 0 change g) n empty_document (omega (arith, within, length-each_from 0 change g))
    ∙ ap Some (sym (unwrap_or-slice_get (each_from 0 change g) n empty_document) ∙ doc_in-each change g n within
    ∙ ap (λ (o : Option FlatState). change n (unwrap_or o empty_document)) is)

-- ---- the documents of a group

pub length-documents : (g : GroupState) → length (documents g) ≡ length g
length-documents g = length-map g (λ (m : ModelState). m.document)

pub document_at : (g : GroupState) (n : ℕ) (m : ModelState) → slice_get g n ≡ Some m → slice_get (documents g) n ≡ Some m.document
document_at g n m is = slice_get-map (λ (m : ModelState). m.document) g n ∙ ap (option_map (λ (m : ModelState). m.document)) is

pub doc_in-is : (g : GroupState) (n : ℕ) (m : ModelState) → slice_get g n ≡ Some m → doc_in (documents g) n ≡ m.document
doc_in-is g n m is = ap (λ (f : Option FlatState). unwrap_or f empty_document) (document_at g n m is)

-- the document that is read
pub read_document : (g : GroupState) (n : ℕ) (m : ModelState) → length g ≡ DOC_COUNT → n < DOC_COUNT → m ≡ get_or g n m
    → (get_or g n m).document ≡ doc_in (documents g) n
read_document g n m count lt is =
    ap (λ (m : ModelState). m.document) (sym is) ∙ sym (doc_in-is g n m (slice_get_read g (length g) n m refl (omega (arith, count, lt)) is))

pub documents-set : (g : GroupState) (n : ℕ) (m : ModelState) → documents (set g n m) ≡ with_doc (documents g) n m.document
documents-set g n m = map-set (λ (m : ModelState). m.document) g n m

-- where the model is the same, the document is
pub doc_in-same : (old new : GroupState) (n : ℕ) → slice_get new n ≡ slice_get old n → doc_in (documents new) n ≡ doc_in (documents old) n
doc_in-same old new n same =
    ap (λ (f : Option FlatState). unwrap_or f empty_document)
    (slice_get-map (λ (m : ModelState). m.document) new n ∙ ap (option_map (λ (m : ModelState). m.document)) same
    ∙ sym (slice_get-map (λ (m : ModelState). m.document) old n))

-- a call on the model that is there
pub done_on : (n : ℕ) (call : ModelState → ModelState → Type 0) (items g : GroupState) (before after : ModelState) → items ≡ g → slice_get items n ≡ Some before
    → call before after → OnDoc n call g (set items n after)
done_on n call items g before after same is done = record {
  before = before;
  after = after;
  is = subst (λ (h : GroupState). slice_get h n ≡ Some before) same is;
  done = done;
  rest = ap (λ (h : GroupState). set h n after) same;
}

-- one that left it as it was
pub stays_on : (n : ℕ) (call : ModelState → ModelState → Type 0) (g : GroupState) (m : ModelState) → slice_get g n ≡ Some m → call m m → OnDoc n call g g
stays_on n call g m is done = record { before = m; after = m; is = is; done = done; rest = sym (set_back g n m is) }
